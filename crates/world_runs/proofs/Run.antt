-- A run of a scan, a filter and a sink with one worker, step by step, up to the filter's close.
use Rattle.std.proofs.Common.{◌≡◌, ℕ, Bool, true, false, [], ◌∷◌, Option, Some, None, refl, sym, ap, inl, arith}
use Rattle.std.specs.Prelude.{get_or, map, cond, nat_eq, ◌&&◌}
use Rattle.ps_frame.specs.Functions.{Functions}
use Rattle.ps_frame.specs.Tables.{Table}
use Rattle.ps_ports.specs.declared.port_state.PortState.TheVariants as port
use Rattle.ps_turns.specs.Claims.{Claim, claim_of}
use Rattle.ps_turns.specs.Tasks.{Piece, good, hands_on, rows}
use Rattle.ps_meaning.specs.Shape.{PhysicalNode}
use Rattle.ps_world.specs.World.{Pipe, Node, opened, claimed, handed_in, closed, running, World, heads_of, inputs_done, schemas_for}
use Rattle.ps_world.specs.Answers.{answered}
use Rattle.ps_world.specs.Claims.{after_claim, claim_at, next_morsel, piece_of}
use Rattle.ps_world.specs.Closing.{after_close}
use Rattle.world_runs.specs.Examples.{a_schema, filter_shape, filtered, given, one_worker}
use Rattle.ps_world.specs.Opening.{fresh_pipe, no_progress, opening}
use Rattle.ps_world.specs.Phases.{after_open, nodes_of_phase}
use Rattle.ps_world.specs.Step.{Replays, Steps, settles}
use Rattle.ps_world.specs.Updates.{IsAtRest, IsSettled, TurnsAt, Updates, no_update, one_update}
use Rattle.world_runs.specs.Nodes.{node_of, some_node, update}
use Rattle.world_runs.proofs.Settled.{three}

abbrev pub node_at_0 : PhysicalNode
node_at_0 = get_or filter_shape 0 some_node.node

abbrev pub node_at_1 : PhysicalNode
node_at_1 = get_or filter_shape 1 some_node.node

abbrev pub node_at_2 : PhysicalNode
node_at_2 = get_or filter_shape 2 some_node.node

abbrev w0 : World
w0 = opening filter_shape one_worker

-- the updates of the first Open
abbrev settled : World
settled = update (update (update (update w0 2) 1) 0) 1

turns : (F : Functions) (w : World) (n : ℕ) → TurnsAt F w n (node_of w n) (node_of w n).progress → TurnsAt F w n (node_of w n) (node_of w n).progress
turns F w n t = t

step_of : (F : Functions) {w v : World} (n : ℕ) → TurnsAt F w n (node_of w n) (node_of w n).progress → Updates F (update w n) v → Updates F w v
step_of F {w} n t u = one_update n (node_of w n) (node_of w n).progress t u

updates : (F : Functions) → Updates F w0 settled
updates F = step_of F 2 (refl, refl, inl (refl, refl)) (step_of F 1 (refl, refl, inl (refl, refl)) (step_of F 0 (refl, refl, inl (refl, refl)) (step_of F 1 (refl, refl, inl (refl, refl)) no_update)))

rests : (w : World) (n : ℕ) (node : Node) → IsAtRest w n node → IsAtRest w n node
rests w n node r = r

is_settled : IsSettled settled
is_settled =
    three settled refl (record { stage = refl; states = refl; agrees = refl; filled = refl }) (record { stage = refl; states = refl; agrees = refl; filled = refl })
    (record { stage = refl; states = refl; agrees = refl; filled = refl })

-- the phase of the sink, with all that feeds it
abbrev w1 : World
w1 = record settled {
  nodes = map (λ (n : Node). record n { in_phase = true }) settled.nodes;
  pipes = map (λ (p : Pipe). record p { in_phase = true }) settled.pipes;
  phase = 1;
  is_open = true;
  journal = opened 1 ∷ [];
}

opens : w1 ≡ after_open settled 1
opens = refl

whole_phase : nodes_of_phase settled ≡ 0 ∷ 1 ∷ 2 ∷ []
whole_phase = refl

abbrev pipe_of : World → ℕ → Pipe
pipe_of w k = get_or w.pipes k (fresh_pipe 0 0 0 0)

first_open : (F : Functions) → Steps F w0 (opened 1) w1
first_open F = (refl, refl, refl, (settled, updates F, settles is_settled opens))

-- a claim that is there
abbrev get_claim : Option Claim → Claim
get_claim None = record { progress = (node_of w0 0).progress; number = 0; gives = 0; task = hands_on; schemas = []; tables = []; takes_morsel = false; drops_input = false }
get_claim (Some c) = c

-- the source's one morsel
abbrev c1 : Claim
c1 = get_claim (claim_at w1 0 0 (node_of w1 0))

abbrev w2 : World
w2 = after_claim w1 0 0 0 (node_of w1 0) c1

second : (F : Functions) → Steps F w1 (claimed 0 0 0 0) w2
second F = (node_of w1 0, (refl, refl, refl), (omega arith, tt), refl, (refl, tt), (c1, refl, refl, refl))

-- the morsel is handed in as it is
abbrev q1 : Piece
q1 = piece_of 0 0 0 c1

abbrev w3 : World
w3 = answered w2 q1 (good given.rows)

third : (F : Functions) → Steps F w2 (handed_in 0 0 0 0 (rows 3)) w3
third F = (q1, (0, omega arith, refl), refl, refl, refl, refl, refl, (good given.rows, refl, refl, refl))

-- the source closes: it is exhausted
abbrev w4 : World
w4 = after_close w3 0 (node_of w3 0)

-- it has no claim left
both_none : (b : Bool) → cond {A = Option Claim} b None None ≡ None
both_none true = refl
both_none false = refl

nothing_more : (i : ℕ) → claim_at w3 0 i (node_of w3 0) ≡ None
nothing_more i = both_none (nat_eq i 0)

fourth : (F : Functions) → Steps F w3 (closed 0) w4
fourth F = (node_of w3 0, (refl, refl, refl), refl, inl (refl, nothing_more), refl)

-- the filter takes the morsel
abbrev c5 : Claim
c5 = get_claim (claim_at w4 1 0 (node_of w4 1))

abbrev w5 : World
w5 = after_claim w4 1 0 0 (node_of w4 1) c5

fifth : (F : Functions) → Steps F w4 (claimed 1 0 0 0) w5
fifth F = (node_of w4 1, (refl, refl, refl), (omega arith, tt), refl, (refl, tt), (c5, refl, refl, refl))

abbrev q5 : Piece
q5 = piece_of 1 0 0 c5

abbrev w6 : World
w6 = answered w5 q5 (good filtered)

abbrev kept_table : Table
kept_table = record { schema = a_schema; rows = filtered; broken = [] }

sixth : (F : Functions) → Steps F w5 (handed_in 1 0 0 0 (rows 2)) w6
sixth F = (q5, (0, omega arith, refl), refl, refl, refl, refl, refl, (good filtered, (kept_table, (kept_table, inl refl, refl), refl, refl, omega arith), refl, refl))

abbrev w7 : World
w7 = after_close w6 1 (node_of w6 1)

-- whichever pipes are asked, the filter's one input has no next morsel
none_next : (b : Bool) → next_morsel (cond b (pipe_of w6 0 ∷ []) []) ≡ None
none_next true = refl
none_next false = refl

no_more_filtered : (i : ℕ) → claim_at w6 1 i (node_of w6 1) ≡ None
no_more_filtered i = ap (λ next. claim_of w6.options (node_of w6 1).node (schemas_for w6 (node_of w6 1)) (node_of w6 1).progress (heads_of w6 1 (node_of w6 1)) (inputs_done w6 1) i next) (none_next (nat_eq 0 i && true))

pub seventh : (F : Functions) → Steps F w6 (closed 1) w7
seventh F = (node_of w6 1, (refl, refl, refl), refl, inl (refl, no_more_filtered), refl)

-- that world, written out
abbrev pub w7_written : World
w7_written = record {
  options = one_worker;
  nodes =
      record { node = node_at_0; progress = record (no_progress 0) { sent = 1 }; in_phase = true; is_closed = true }
      ∷ record { node = node_at_1; progress = no_progress 1; in_phase = true; is_closed = true }
      ∷ record { node = node_at_2; progress = no_progress 1; in_phase = true; is_closed = false } ∷ [];
  pipes =
      record { wire = record { sender = 0; port = 0; receiver = 1; input = 0; send_state = port.Ready; receive_state = port.Ready }; got = Some given.rows ∷ []; next = 1; in_phase = true; is_closed = true; is_dropped = false; is_unread = false }
      ∷ record { wire = record { sender = 1; port = 0; receiver = 2; input = 0; send_state = port.Ready; receive_state = port.Ready }; got = Some filtered ∷ []; next = 0; in_phase = true; is_closed = true; is_dropped = false; is_unread = false } ∷ [];
  outs = [];
  phase = 1;
  is_open = true;
  journal = opened 1 ∷ claimed 0 0 0 0 ∷ handed_in 0 0 0 0 (rows 3) ∷ closed 0 ∷ claimed 1 0 0 0 ∷ handed_in 1 0 0 0 (rows 2) ∷ closed 1 ∷ [];
  ending = running;
}

w7_is : w7 ≡ w7_written
w7_is = refl

pub first_seven : (F : Functions) → Replays F (opening filter_shape one_worker) (opened 1 ∷ claimed 0 0 0 0 ∷ handed_in 0 0 0 0 (rows 3) ∷ closed 0 ∷ claimed 1 0 0 0 ∷ handed_in 1 0 0 0 (rows 2) ∷ closed 1 ∷ []) w7_written
first_seven F = (w1, first_open F, (w2, second F, (w3, third F, (w4, fourth F, (w5, fifth F, (w6, sixth F, (w7, seventh F, sym w7_is)))))))
