use Rattle.lowering_kinds.proofs.Selecting.{selects_have_fields}
use Rattle.lowering_kinds.proofs.Staying.{kinds_stay}
use Rattle.lowering_kinds.proofs.laws.calls_keep_kinds.Goals as goal

pub returns-clause-exprs : goal.returns-clause-exprs
returns-clause-exprs c = kinds_stay

pub returns-clause-selects : goal.returns-clause-selects
returns-clause-selects c = selects_have_fields
