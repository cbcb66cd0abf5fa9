use Rattle.std.specs.Prelude.{codes}
use Rattle.serde_json.specs.View.{view}
use Rattle.ps_document.specs.Json.{text}
use Rattle.ps_document.proofs.FirstWords.{not-alone}
use Rattle.ps_document.proofs.exprs.len_of.Goals as goal

pub returns-else-is_empty-clause-none : goal.returns-else-is_empty-clause-none
returns-else-is_empty-clause-none c = not-alone view (text (codes "len")) c.args.parts.now c.if-is_empty.ensures
