-- None so far.
use Rattle.std.proofs.Common.{◌≡◌, ◌≤◌, ◌<◌, ℕ}
use Rattle.std.specs.Prelude.{IsTrue}
use Rattle.flow_moves.proofs.picking.move_among.Given as goal
use Rattle.flow_moves.specs.Moves.{HasNoMove, MayPick}
use Rattle.ps_flow.specs.Standing.{Stands}
use Rattle.ps_frame.specs.Functions.{Functions}
use Rattle.ps_world.specs.World.{World, running}

abbrev pub invariant-loop-node : goal.invariant-loop-node
invariant-loop-node g l = (F : Functions) (w : World) (n : ℕ) → Stands g.N.RunNode.Has w l.world → MayPick F w → IsTrue w.is_open → w.ending ≡ running → l.begin ≤ n → n < l.node → HasNoMove F w n
