use Rattle.std.proofs.Common.{◌≡◌, false, true, None, Some, inl, inr, refl}
use Rattle.turn_laws.specs.Examples.{shape_cause}
use Rattle.turn_laws.proofs.examples.a_zip_sees_its_heads.Goals as goal

pub returns-clause-broadcasts : goal.returns-clause-broadcasts
returns-clause-broadcasts c = refl

pub returns-clause-differs : goal.returns-clause-differs
returns-clause-differs c = λ F o. inl refl

pub returns-clause-not_yet : goal.returns-clause-not_yet
returns-clause-not_yet c = λ F o h. elim h [ inl e ↦ (let no : None ≡ Some shape_cause = e in absurd cc) | inr b ↦ (let no : false ≡ true = b.0 in absurd cc) ]
