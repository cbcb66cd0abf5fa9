use Rattle.std.proofs.Common.{◌∷◌, []}
use Rattle.serde_json.specs.View.{view}
use Rattle.ps_document.proofs.Lists.{parts_length}
use Rattle.ps_document.proofs.values.five.Goals as goal

pub returns-else-parts-eq5-clause-none : goal.returns-else-parts-eq5-clause-none
returns-else-parts-eq5-clause-none c = λ first a b d f g e. c.if-parts-eq5.false (parts_length view first c.args.parts.now (a ∷ b ∷ d ∷ f ∷ g ∷ []) e)
