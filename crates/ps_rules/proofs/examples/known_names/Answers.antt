use Rattle.std.proofs.Common.{◌≡◌, true, false, inl, inr, refl, arith, lit<}
use Rattle.std.specs.Prelude.{codes}
use Rattle.std.specs.Fmt.{digits}
use Rattle.ps_rules.specs.Names.{temporary}
use Rattle.ps_rules.proofs.Free.{temporary_once}
use Rattle.ps_rules.proofs.examples.known_names.Goals as goal

-- the first letters differ
pub returns-clause-other_name : goal.returns-clause-other_name
returns-clause-other_name c k t = let w : codes "a" ≡ temporary k = t.1 in cc

pub returns-clause-taken : goal.returns-clause-taken
returns-clause-taken c k t =
    let e : 3 ≡ k = temporary_once 3 k (lit< tt) t.0 t.1 in
    inr (rw (← e) refl)

pub returns-clause-passed : goal.returns-clause-passed
returns-clause-passed c k t = let e : 4 ≡ k = temporary_once 4 k (lit< tt) t.0 t.1 in inl (omega arith)

pub returns-clause-not_yet : goal.returns-clause-not_yet
returns-clause-not_yet c known =
    elim (known 2 (lit< tt, refl)) [ inl lt ↦ absurd (omega arith) | inr is ↦ (let w : false ≡ true = is in cc) ]

pub returns-clause-first : goal.returns-clause-first
unfolding digits
returns-clause-first c = refl

pub returns-clause-taken_passed_over : goal.returns-clause-taken_passed_over
unfolding digits
returns-clause-taken_passed_over c = refl

pub returns-clause-goes_on : goal.returns-clause-goes_on
returns-clause-goes_on c = refl
