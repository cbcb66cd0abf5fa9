use Rattle.std.proofs.Common.{◌∷◌, []}
use Rattle.serde_json.specs.View.{view}
use Rattle.ps_document.proofs.Lists.{parts_length}
use Rattle.ps_document.proofs.values.one.Goals as goal

pub returns-else-parts-eq1-clause-none : goal.returns-else-parts-eq1-clause-none
returns-else-parts-eq1-clause-none c = λ first a e. c.if-parts-eq1.false (parts_length view first c.args.parts.now (a ∷ []) e)
