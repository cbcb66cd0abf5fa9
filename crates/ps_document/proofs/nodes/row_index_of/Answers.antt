use Rattle.std.specs.Prelude.{codes}
use Rattle.ps_document.specs.Expressions.{entry_number}
use Rattle.ps_document.specs.Json.{count, or_null, text}
use Rattle.ps_document.proofs.nodes.row_index_of.Goals as goal

pub returns-in_default-clause-none : goal.returns-in_default-clause-none
returns-in_default-clause-none c = λ i name offset fits e. c.in_default.ensures.none (text (codes "row_index")) (entry_number i) (text name) (or_null count offset) e
