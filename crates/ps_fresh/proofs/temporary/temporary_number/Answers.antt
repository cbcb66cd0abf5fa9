use Rattle.std.proofs.Common.{◌≡◌, false, sym, true, ap, ◌∙◌}
use Rattle.std.specs.Prelude.{None, Some}
use Rattle.ps_rules.specs.Names.{temporary}
use Rattle.ps_fresh.proofs.temporary.temporary_number.Goals as goal

pub returns-in_default-clause-none : goal.returns-in_default-clause-none
returns-in_default-clause-none c k t = let w : None ≡ Some k = c.in_default.ensures k t in cc

pub returns-then-not-eq_str-clause-none : goal.returns-then-not-eq_str-clause-none
returns-then-not-eq_str-clause-none c k t =
    let e : Some c.in-Some.number ≡ Some k = c.in-Some.ensures k t in
    let n : c.in-Some.number ≡ k = cc in
    let w : false ≡ true = c.if-not-eq_str.ensures.1 (c.in_ok-written.ensures.name ∙ ap temporary n ∙ sym t.1) in
    cc
