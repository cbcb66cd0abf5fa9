use Rattle.worked_examples.specs.Tables.{text_with_null}
use Rattle.worked_examples.proofs.tables.worked_examples.Goals as goal

pub returns-clause-text : goal.returns-clause-text
returns-clause-text c = text_with_null
