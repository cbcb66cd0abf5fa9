-- Updates of single nodes, written back to their pipes, and fills.
use Rattle.std.specs.Prelude.{◌≡◌, ℕ, ◌⊎◌, Bool, not, cond, ◌&&◌, ◌||◌, List, map, Some, None, nat_eq, slice_get, get_or, IsFalse}
use Rattle.ps_frame.specs.Causes.{Cause}
use Rattle.ps_frame.specs.Functions.{Functions}
use Rattle.ps_ports.specs.declared.port_state.PortState.{PortState}
use Rattle.ps_ports.specs.Ports.{Sides, is_done, kept_state}
use Rattle.ps_ports.specs.Wires.{given_to}
use Rattle.ps_turns.specs.Progress.{Progress}
use Rattle.ps_turns.specs.Updates.{BreaksTable, Fills, Turns, answer_of, is_waiting, shape_fault, stage_after}
use Rattle.ps_world.specs.World.{Node, Pipe, World, heads_of, is_drained, pipes_out, schemas_for, wires_of}
use Rattle.ps_world.specs.Pipes.{with_progress}

-- What a reader says of a pipe, and what its sender says: an end that is done stays so. A pipe is unread once its reader is done before its sender.
abbrev pub received : PortState → Pipe → Pipe
received s p = record p { wire = record p.wire { receive_state = kept_state p.wire.receive_state s }; is_unread = p.is_unread || (is_done s && not (is_done p.wire.send_state)) }

abbrev pub sent : PortState → Pipe → Pipe
sent s p = record p { wire = record p.wire { send_state = kept_state p.wire.send_state s } }

-- a node's answer in its pipes
abbrev pub written : ℕ → Sides → World → World
written n a w =
    let at_inputs = map (λ (p : Pipe). cond (nat_eq p.wire.receiver n) (received (get_or a.inputs p.wire.input p.wire.receive_state) p) p) w.pipes in
    record w { pipes = map (λ (p : Pipe). cond (nat_eq p.wire.sender n) (sent (get_or a.outputs p.wire.port p.wire.send_state) p) p) at_inputs }

abbrev pub given_at : World → ℕ → Sides
given_at w n = given_to n (wires_of w)

abbrev pub empty_outs : World → ℕ → List Bool
empty_outs w n = map is_drained (pipes_out w n)

-- the answer of a node that has this behind it
abbrev pub answer_at : World → ℕ → Node → Progress → Sides
answer_at w n node progress = answer_of w.options node.node progress (heads_of w n node) (empty_outs w n) (given_at w n)

abbrev pub updated : World → ℕ → Node → Progress → World
updated w n node progress = written n (answer_at w n node progress) (with_progress n progress w)

abbrev pub TurnsAt : Functions → World → ℕ → Node → Progress → Type 0
TurnsAt F w n node progress =
    (slice_get w.nodes n ≡ Some node) × (shape_fault node.node node.node.kind (heads_of w n node) (given_at w n) ≡ None) × Turns F w.options node.node (schemas_for w node) (given_at w n) node.progress progress

abbrev pub FillsAt : Functions → World → ℕ → Node → Progress → Type 0
FillsAt F w n node progress = (slice_get w.nodes n ≡ Some node) × Fills F node.node (schemas_for w node) (given_at w n) node.progress progress

-- a list of updates and fills leads from one world to another
pub data Updates (F : Functions) : World → World → Type 0 where
  no_update : {w : World} → Updates F w w
  one_update : {w v : World} (n : ℕ) (node : Node) (progress : Progress) → TurnsAt F w n node progress → Updates F (updated w n node progress) v → Updates F w v
  one_fill : {w v : World} (n : ℕ) (node : Node) (progress : Progress) → FillsAt F w n node progress → Updates F (with_progress n progress w) v → Updates F w v

-- the fault that the next update or fill of a node finds
abbrev pub FaultFound : Functions → World → ℕ → Cause → Type 0
FaultFound F w n c =
    (node : Node) × (slice_get w.nodes n ≡ Some node)
    × ((shape_fault node.node node.node.kind (heads_of w n node) (given_at w n) ≡ Some c)
    ⊎ BreaksTable F w.options node.node (schemas_for w node) (given_at w n) node.progress c)

-- the node's update leaves its stage and the states of its ports, finds no fault, and no table is missing
pub record IsAtRest (w : World) (n : ℕ) (node : Node) : Type 0 where
  pub stage : stage_after w.options node.node.kind node.progress (given_at w n) ≡ node.progress.stage
  pub states : written n (answer_at w n node node.progress) w ≡ w
  pub agrees : shape_fault node.node node.node.kind (heads_of w n node) (given_at w n) ≡ None
  pub filled : IsFalse (is_waiting node.node.kind node.progress (given_at w n))

abbrev pub IsSettled : World → Type 0
IsSettled w = (n : ℕ) (node : Node) → slice_get w.nodes n ≡ Some node → IsAtRest w n node
