use Rattle.turn_laws.proofs.KeptLaws.{fills_keep_laws, updates_keep_laws}
use Rattle.turn_laws.proofs.laws.updates_keep_their_laws.Goals as goal

pub returns-clause-updates : goal.returns-clause-updates
returns-clause-updates c = λ F o. updates_keep_laws F o (λ a. a)

pub returns-clause-fills : goal.returns-clause-fills
returns-clause-fills c = λ F o. fills_keep_laws F o (λ a. a)
