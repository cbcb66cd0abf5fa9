-- The steps between worlds. Between an Open and the end of its phase a step changes one node, the pipes around it and the pieces out, and appends its record.
use Rattle.std.specs.Prelude.{◌≡◌, ℕ, ◌+◌, not, ◌&&◌, List, [], ◌∷◌, Some, slice_get, Contains, IsTrue, IsFalse}
use Rattle.std.specs.List.{AllByRecursion}
use Rattle.ps_frame.specs.Causes.{Cause}
use Rattle.ps_frame.specs.Functions.{Functions}
use Rattle.ps_frame.specs.Tables.{Row}
use Rattle.ps_turns.specs.Claims.{Claim}
use Rattle.ps_turns.specs.Pulls.{pulls}
use Rattle.ps_turns.specs.Results.{IsResult}
use Rattle.ps_turns.specs.Tasks.{Answer, Piece, handed_of}
use Rattle.ps_world.specs.World.{Pipe, Node, Record, opened, claimed, handed_in, pulled, closed, ended, running, World, morsel_at, has_next, has_place, live_outs, is_cut_off, pieces_of}
use Rattle.ps_world.specs.Pipes.{is_input}
use Rattle.ps_world.specs.Claims.{IsFree, after_claim, claim_at}
use Rattle.ps_world.specs.Answers.{answered}
use Rattle.ps_world.specs.Pulls.{after_pull, wants_input}
use Rattle.ps_world.specs.Closing.{HasFinished, after_close, after_end}
use Rattle.ps_world.specs.Updates.{FaultFound, IsSettled, Updates}
use Rattle.ps_world.specs.Phases.{after_fault, after_open}

-- the node stands in the open phase and isn't closed
abbrev pub IsAtWork : World → ℕ → Node → Type 0
IsAtWork w n node = (slice_get w.nodes n ≡ Some node) × IsTrue (w.is_open && (node.in_phase && not node.is_closed)) × (w.ending ≡ running)

-- the updates of an Open lead to s, where it opens the phase or finds a fault
pub data Opens (F : Functions) (s : World) (phase : ℕ) : World → Type 0 where
  settles : {v : World} → IsSettled s → v ≡ after_open s phase → Opens F s phase v
  breaks : {v : World} (n : ℕ) (c : Cause) → FaultFound F s n c → v ≡ after_fault s phase c → Opens F s phase v

-- From one world a record leads to the next.
abbrev pub Steps : Functions → World → Record → World → Type 0
Steps F w (opened phase) v = IsFalse w.is_open × (w.ending ≡ running) × (phase ≡ w.phase + 1) × ((s : World) × Updates F w s × Opens F s phase v)
Steps F w (claimed n i number worker) v =
    (node : Node) × IsAtWork w n node × IsFree w worker × IsFalse (is_cut_off w n) × AllByRecursion (λ p. IsTrue (has_place w p)) (live_outs w n)
    × ((c : Claim) × (claim_at w n i node ≡ Some c) × (c.number ≡ number) × (v ≡ after_claim w n i worker node c))
Steps F w (handed_in n i number worker handed) v =
    (q : Piece) × Contains w.outs q × (q.node ≡ n) × (q.input ≡ i) × (q.number ≡ number) × (q.worker ≡ worker) × (w.ending ≡ running)
    × ((a : Answer) × IsResult F q a × (handed ≡ handed_of a) × (v ≡ answered w q a))
Steps F w (pulled n i number) v =
    (node : Node) × IsAtWork w n node × IsTrue (pulls node.node.kind) × IsFalse (is_cut_off w n)
    × ((p : Pipe) × (m : List Row) × Contains w.pipes p × IsTrue (is_input n i p && p.in_phase) × IsTrue (has_next p) × (morsel_at p.next p.got ≡ Some m) × (p.next ≡ number)
    × IsTrue (wants_input w n node i) × (v ≡ after_pull w n i node p m))
Steps F w (closed n) v = (node : Node) × IsAtWork w n node × (pieces_of w n ≡ []) × HasFinished w n node × (v ≡ after_close w n node)
Steps F w (ended phase) v =
    IsTrue w.is_open × (w.ending ≡ running) × (phase ≡ w.phase) × AllByRecursion (λ (n : Node). IsTrue n.in_phase → IsTrue n.is_closed) w.nodes × (v ≡ after_end w)

-- the records lead from one world to another, in order
abbrev pub Replays : Functions → World → List Record → World → Type 0
Replays F w [] v = v ≡ w
Replays F w (r ∷ rs) v = (u : World) × Steps F w r u × Replays F u rs v
