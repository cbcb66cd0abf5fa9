use Rattle.lowering_laws.proofs.Keeping.{asked_kept, stream_kept}
use Rattle.lowering_laws.proofs.laws.calls_keep_what_was_asked.Goals as goal

pub returns-clause-exprs : goal.returns-clause-exprs
returns-clause-exprs c = asked_kept

pub returns-clause-selects : goal.returns-clause-selects
returns-clause-selects c = stream_kept
