use Rattle.std.proofs.Common.{ℕ, [], ◌∷◌, ◌++◌, ap, ◌∙◌}
use Rattle.std.specs.Prelude.{nat_eq}
use Rattle.ps_meaning.specs.Schemas.{names_of}
use Rattle.lowering_parts.proofs.ReadLemmas.{empty_first, full_first, with_first}
use Rattle.lowering_parts.proofs.reads.or_first.Goals as goal

pub returns-then-not-is_empty-clause-names : goal.returns-then-not-is_empty-clause-names
returns-then-not-is_empty-clause-names c = full_first c.args.names.items (names_of c.args.schema.now) c.is_empty.result (c.is_empty.ensures ∙ ap (λ (n : ℕ). nat_eq n 0) c.args.names.ok.0) c.if-not-is_empty.true

pub returns-clause-names : goal.returns-clause-names
returns-clause-names c =
    with_first c.args.names.items c.push.new.self.items c.args.schema.now c.name.result.now (empty_first c.args.names.items c.is_empty.result (c.is_empty.ensures ∙ ap (λ (n : ℕ). nat_eq n 0) c.args.names.ok.0) c.if-not-is_empty.false)
    c.name.ensures (c.in_ok-push.ensures.items ∙ ap (λ n. c.args.names.items ++ n ∷ []) c.in_ok-copied.ensures.same)
