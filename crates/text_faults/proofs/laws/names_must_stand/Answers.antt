use Rattle.std.proofs.Common.{[], ◌∷◌, refl, inl, inr, lit<}
use Rattle.ps_frame.specs.Tables.{no_rows, whole}
use Rattle.ps_meaning.specs.Meaning.{by_case, more_mean, none_mean}
use Rattle.text_plans.specs.Examples.{left}
use Rattle.text_faults.proofs.laws.names_must_stand.Goals as goal

pub returns-clause-broken : goal.returns-clause-broken
returns-clause-broken c = λ F. (
  λ id. no_rows [] [],
  _,
  inr (whole left ∷ [], more_mean (by_case none_mean (whole left, inl refl, refl) tt) none_mean, inl refl, tt),
  (0, lit< tt, refl),
)
