-- What is known of a world in which a move is picked, which moves a node has, and what is looked at in its pipes.
use Rattle.std.specs.Prelude.{◌≡◌, ◌||◌, ◌&&◌, not, ℕ, Bool, false, cond, count_by, List, Option, Some, None, nat_eq}
use Rattle.ps_flow.specs.Claiming.{AllStream}
use Rattle.ps_frame.specs.Functions.{Functions}
use Rattle.ps_graph.specs.declared.key.LogicalPipeKey.{LogicalPipeKey}
use Rattle.ps_turns.specs.Claims.{Claim}
use Rattle.ps_turns.specs.Tasks.{Piece}
use Rattle.ps_world.specs.Claims.{claim_at}
use Rattle.ps_world.specs.Facts.{Facts}
use Rattle.ps_world.specs.Step.{IsAtWork, Steps}
use Rattle.ps_world.specs.World.{Node, Pipe, Record, World, claimed, closed, gives_on, has_next, is_cut_off, is_over, pulled}
use Rattle.world_pipes.specs.Shown.{AreShown, IsAt, Setting}
use Rattle.world_pipes.specs.declared.pipes.Pipes.{Pipes}
use Rattle.world_records.specs.Shown.{IsEnabled}
use Rattle.world_records.specs.declared.records.Move.{Move}

-- The facts of reached worlds hold, and its nodes stream.
pub record MayPick (F : Functions) (w : World) : Type 0 where
  pub facts : Facts F w
  pub all_stream : AllStream w

-- the record is of a move of this node
abbrev pub MovesNode : Record → ℕ → Type 0
MovesNode (claimed m i k worker) n = m ≡ n
MovesNode (pulled m i k) n = m ≡ n
MovesNode (closed m) n = m ≡ n
MovesNode _ n = ⊥

-- No step is a move of this node.
abbrev pub HasNoMove : Functions → World → ℕ → Type 0
HasNoMove F w n = (r : Record) (v : World) → Steps F w r v → MovesNode r n → ⊥

-- what was found for a node: a move that may be made, or that it has none
abbrev pub IsMoveOf : Functions → World → ℕ → Option Move → Type 0
IsMoveOf F w n None = HasNoMove F w n
IsMoveOf F w n (Some m) = IsEnabled F w m

-- ON THE WAY
-- a pipe of the phase has a next morsel; and one isn't in the phase, or is closed and empty
abbrev pub is_waiting : Pipe → Bool
is_waiting p = p.in_phase && has_next p

abbrev pub is_through : Pipe → Bool
is_through p = not p.in_phase || is_over p

-- it leaves the node in the phase, and isn't dropped
abbrev pub gives_to : ℕ → Pipe → Bool
gives_to n p = nat_eq p.wire.sender n && (p.in_phase && not p.is_dropped)

-- how many places of a pipe the pieces of its reader keep
abbrev pub kept_places : World → Pipe → ℕ
kept_places w p = cond (gives_on w p.wire.receiver) 0 (count_by (λ (q : Piece). nat_eq q.node p.wire.receiver && nat_eq q.input p.wire.input) w.outs)

-- No step takes a morsel for the node, or gives a part of its own.
abbrev pub TakesAt : Record → ℕ → Type 0
TakesAt (claimed m i k worker) n = m ≡ n
TakesAt (pulled m i k) n = m ≡ n
TakesAt _ n = ⊥

abbrev pub TakesNothing : Functions → World → ℕ → Type 0
TakesNothing F w n = (r : Record) (v : World) → Steps F w r v → TakesAt r n → ⊥

-- The node is at work and isn't cut off, and this is its claim on an input; it doesn't pull, and it can't be closed.
pub record OnlyClaims (F : Functions) (w : World) (n i : ℕ) (x : Node) (c : Claim) : Type 0 where
  pub at_work : IsAtWork w n x
  pub kept : is_cut_off w n ≡ false
  pub claims : claim_at w n i x ≡ Some c
  pub no_pull : (j k : ℕ) (v : World) → Steps F w (pulled n j k) v → ⊥
  pub no_close : (v : World) → Steps F w (closed n) v → ⊥

-- what a test says of the pipe with a key, whichever pipes are shown
abbrev pub IsSo : Pipes → LogicalPipeKey → (Pipe → Bool) → Bool → Type 0
IsSo pipes key test b = (s : Setting) (ps : List Pipe) (p : Pipe) → AreShown s ps pipes → IsAt key ps p → test p ≡ b
