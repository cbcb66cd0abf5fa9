use Rattle.std.proofs.Common.{◌≡◌, ℕ, ◌<◌, false, true, refl, ap, arith}
use Rattle.std.specs.Fmt.{digits}
use Rattle.ps_rules.specs.Slots.{Stream}
use Rattle.lowering_laws.proofs.examples.worked_calls.Goals as goal

differ : (a b : ℕ) → a < b → a ≡ b → ⊥
differ a b lt e = omega arith

never : false ≡ true → ⊥
never e = cc

pub returns-clause-zip : goal.returns-clause-zip
unfolding digits
returns-clause-zip c = record { nodes = refl; to = refl; exprs = refl }

pub returns-clause-another : goal.returns-clause-another
unfolding digits
returns-clause-another c = λ h. differ 1 2 (omega arith) (ap (λ (i : Stream). i.0) h.to)

pub returns-clause-select : goal.returns-clause-select
unfolding digits
returns-clause-select c = record { nodes = refl; to = refl }

pub returns-clause-aggregate : goal.returns-clause-aggregate
returns-clause-aggregate c = λ F h. never h.elementwise.0
