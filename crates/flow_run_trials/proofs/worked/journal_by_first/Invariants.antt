use Rattle.flow_run_trials.specs.Driven.{IsUnderWay}
use Rattle.flow_run_trials.proofs.worked.journal_by_first.Given as goal

abbrev pub invariant-loop-step : goal.invariant-loop-step
invariant-loop-step g l = IsUnderWay g.N.RunNode.Has g.N.PieceNode.Shows g.N.ClaimNode.IsFor (g.C.ComputePiece.told l.functions) l.run
