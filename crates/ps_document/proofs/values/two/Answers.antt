use Rattle.std.proofs.Common.{◌∷◌, []}
use Rattle.serde_json.specs.View.{view}
use Rattle.ps_document.proofs.Lists.{parts_length}
use Rattle.ps_document.proofs.values.two.Goals as goal

pub returns-else-parts-eq2-clause-none : goal.returns-else-parts-eq2-clause-none
returns-else-parts-eq2-clause-none c = λ first a b e. c.if-parts-eq2.false (parts_length view first c.args.parts.now (a ∷ b ∷ []) e)
