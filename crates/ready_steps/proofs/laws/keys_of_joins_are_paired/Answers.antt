use Rattle.std.proofs.Common.{[], ◌∷◌, refl}
use Rattle.ready_steps.proofs.JoinSteps.{join-schema, keys-paired, left-typed, right-typed}
use Rattle.ready_steps.proofs.laws.keys_of_joins_are_paired.Goals as goal

pub returns-clause-left : goal.returns-clause-left
returns-clause-left c = λ j l r s ready. left-typed j (l ∷ r ∷ []) l r s refl ready

pub returns-clause-right : goal.returns-clause-right
returns-clause-right c = λ j l r s ready. right-typed j (l ∷ r ∷ []) l r s refl ready

pub returns-clause-paired : goal.returns-clause-paired
returns-clause-paired c = λ j l r s ready. keys-paired j (l ∷ r ∷ []) l r s refl ready

pub returns-clause-schema : goal.returns-clause-schema
returns-clause-schema c = λ j l r s ready. join-schema j (l ∷ r ∷ []) l r s refl ready
