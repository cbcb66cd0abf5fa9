use Rattle.std.proofs.Common.{inl, sym, ap, subst, ◌∙◌, arith}
use Rattle.ps_rules.specs.Names.{IsKnown, temporary}
use Rattle.ps_rules.proofs.Free.{fresh_unknown, temporary_once}
use Rattle.ps_fresh.proofs.name_source.unique_column_name.Goals as goal

pub returns-clause-fresh : goal.returns-clause-fresh
returns-clause-fresh c known =
    let same = c.in-Some.ensures.some.0 in
    let small = c.in-Some.ensures.some.1 in
    fresh_unknown c.args.names.now (omega arith) (subst (λ n. IsKnown c.args.names.now n) (c.in_ok-name.ensures.name ∙ ap temporary same) known)

pub returns-clause-known : goal.returns-clause-known
returns-clause-known c k t =
    let small = c.in-Some.ensures.some.1 in
    let same = temporary_once c.in-Some.number k (omega arith) t.0 (sym c.in_ok-name.ensures.name ∙ t.1) in
    inl (omega arith)
