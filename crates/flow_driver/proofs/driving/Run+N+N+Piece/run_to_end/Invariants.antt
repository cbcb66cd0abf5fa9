-- The run has gone on from wherever it was. Each step writes a record, and there are fewer than 2 ^ 64.
use Rattle.std.proofs.Common.{◌-◌, ◌^◌, length}
use Rattle.flow_driver.proofs.driving.Run+N+N+Piece.run_to_end.Given as goal
use Rattle.flow_driver.specs.Runs.{HasGoneOn, IsAt}
use Rattle.ps_meaning.specs.Shape.{Shape}
use Rattle.ps_options.specs.declared.options.Options.{Options}
use Rattle.ps_world.specs.World.{World}

abbrev pub invariant-loop-next : goal.invariant-loop-next
invariant-loop-next g l =
    (shape : Shape) (o : Options) (w : World) → IsAt g.N.RunNode.Has g.N.PieceNode.Shows g.N.ClaimNode.IsFor (g.C.ComputePiece.told l.functions) shape o w l.fn.self
    → HasGoneOn g.N.RunNode.Has g.N.PieceNode.Shows g.N.ClaimNode.IsFor (g.C.ComputePiece.told l.functions) shape o w l.self

abbrev pub decreases-loop-next : goal.decreases-loop-next
decreases-loop-next g l = 2 ^ 64 - length l.self.world.journal.records
