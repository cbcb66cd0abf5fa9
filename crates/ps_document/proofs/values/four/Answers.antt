use Rattle.std.proofs.Common.{◌∷◌, []}
use Rattle.serde_json.specs.View.{view}
use Rattle.ps_document.proofs.Lists.{parts_length}
use Rattle.ps_document.proofs.values.four.Goals as goal

pub returns-else-parts-eq4-clause-none : goal.returns-else-parts-eq4-clause-none
returns-else-parts-eq4-clause-none c = λ first a b d f e. c.if-parts-eq4.false (parts_length view first c.args.parts.now (a ∷ b ∷ d ∷ f ∷ []) e)
