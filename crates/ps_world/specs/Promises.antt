-- What is promised of every reached world.
use Rattle.std.specs.Prelude.{◌≡◌, ℕ, ◌+◌, ◌*◌, ◌≤◌, ◌⊎◌, Bool, ◌&&◌, List, [], length, Some, get_or, slice_get, nat_eq, nat_le, Contains, IsFalse, IsTrue, None}
use Rattle.std.specs.List.{count_by, list_all}
use Rattle.ps_frame.specs.Causes.{Cause}
use Rattle.ps_frame.specs.Functions.{Functions}
use Rattle.ps_frame.specs.Tables.{IsWhole, Row, Table}
use Rattle.ps_meaning.specs.Shape.{PhysicalBrokenBy, PhysicalIsLarge, PhysicalMeans, PhysicalNode, Shape, in_memory_sink, negative_slice, streaming_slice}
use Rattle.ps_turns.specs.Ends.{IsShort}
use Rattle.ps_turns.specs.Results.{rows_fault}
use Rattle.ps_meaning.specs.Cases.{end_of}
use Rattle.ps_world.specs.Claims.{claim_at, inputs_in_phase, next_morsel}
use Rattle.ps_world.specs.Pipes.{is_input}
use Rattle.ps_world.specs.World.{Node, Record, World, claimed, ended, faulty, finished, handed_in, in_flight, counts_for_sender, is_cut_off, opened, Pipe, running, shape_of}
use Rattle.ps_world.specs.Step.{Replays, Steps}
use Rattle.ps_world.specs.Laws.{AllDone, IsOut, MayStep, ServedByChoice, sent_at}

-- a number that is claimed, or handed in, by a node of an input
abbrev pub is_claim_of : (node input number : ℕ) → Record → Bool
is_claim_of n i k (claimed m j l worker) = nat_eq m n && (nat_eq j i && nat_eq l k)
is_claim_of n i k _ = Bool.false

abbrev pub is_hand_in_of : (node input number : ℕ) → Record → Bool
is_hand_in_of n i k (handed_in m j l worker handed) = nat_eq m n && (nat_eq j i && nat_eq l k)
is_hand_in_of n i k _ = Bool.false

-- each number of a node without inputs is claimed at most once, and handed in at most once, after its claim
abbrev pub IsClaimedOnce : World → Type 0
IsClaimedOnce w =
    (n k : ℕ) (p : PhysicalNode) → slice_get (shape_of w) n ≡ Some p → p.inputs ≡ []
    → (count_by (is_claim_of n 0 k) w.journal ≤ 1) × (count_by (is_hand_in_of n 0 k) w.journal ≤ count_by (is_claim_of n 0 k) w.journal)

-- Where a phase ends, every number that was claimed was handed in.
abbrev pub HandsAllIn : Functions → World → Type 0
HandsAllIn F w =
    (phase : ℕ) (v : World) → Steps F w (ended phase) v → (n i k : ℕ) → count_by (is_hand_in_of n i k) w.journal ≡ count_by (is_claim_of n i k) w.journal

-- And a node of that phase without inputs that isn't cut off has no number left to claim.
abbrev pub ClaimsAll : Functions → World → Type 0
ClaimsAll F w =
    (phase : ℕ) (v : World) (n : ℕ) (node : Node) → Steps F w (ended phase) v → slice_get w.nodes n ≡ Some node → node.node.inputs ≡ [] → IsTrue node.in_phase → IsFalse (is_cut_off w n) → claim_at w n 0 node ≡ None

-- the rows in the sink are those of a whole table that its node means
abbrev pub HoldsMeaning : Functions → Shape → World → Type 0
HoldsMeaning F shape w =
    (n : ℕ) (p : PhysicalNode) → slice_get shape n ≡ Some p → p.kind ≡ in_memory_sink → (T : Table) × PhysicalMeans F shape n T × IsWhole T × ((sent_at w n 0).rows ≡ T.rows)

-- a cause breaks the node that made it in some meaning, or it says that this node has too many rows, and it is large
abbrev pub NamesCause : Functions → Shape → Cause → Type 0
NamesCause F shape c = (n : ℕ) × (p : PhysicalNode) × (slice_get shape n ≡ Some p) × (c.node ≡ p.origin) × (PhysicalBrokenBy F shape n c ⊎ (c ≡ rows_fault p) × PhysicalIsLarge F shape n)

abbrev pub IsAnswered : Functions → Shape → World → Type 0
IsAnswered F shape w = (w.ending ≡ finished → HoldsMeaning F shape w × AllDone w) × ((c : Cause) → w.ending ≡ faulty c → NamesCause F shape c)

-- one choice serves all pipes; a run that ended has the answer; and one that goes on may move or has a piece out
pub record Promises (F : Functions) (shape : Shape) (w : World) : Type 0 where
  pub served : ServedByChoice F shape (sent_at w)
  pub answered : IsAnswered F shape w
  pub never_stuck : w.ending ≡ running → MayStep F w ⊎ IsOut w

-- What is in flight is bounded, and so is what a negative slice stores beside its first morsel.
abbrev pub IsBounded : World → Type 0
IsBounded w = in_flight w ≤ length w.pipes * (w.options.workers + 4)

abbrev pub StoresFew : World → Type 0
StoresFew w = (n : ℕ) (node : Node) (back k : ℕ) → slice_get w.nodes n ≡ Some node → node.node.kind ≡ negative_slice back k → IsShort back (get_or node.progress.stores 0 [])

-- A node has an outgoing pipe that counts for it, and every way on from it in the phase meets a dropped pipe. A multiplexer's port leads on until its reader is done, in the phase or not.
pub data IsSpared (w : World) : ℕ → Type 0 where
  spared : {n : ℕ} (some : Pipe) → Contains w.pipes some → some.wire.sender ≡ n → IsTrue (counts_for_sender w some)
      → ((p : Pipe) → Contains w.pipes p → p.wire.sender ≡ n → IsTrue (counts_for_sender w p) → IsFalse p.is_dropped → IsTrue p.in_phase)
      → ((p : Pipe) → Contains w.pipes p → p.wire.sender ≡ n → IsTrue (counts_for_sender w p) → IsFalse p.is_dropped → IsSpared w p.wire.receiver) → IsSpared w n

-- the claim in which a slice has its last row drops its input
abbrev pub DropsAtLast : Functions → World → Type 0
DropsAtLast F w =
    (n number worker : ℕ) (v : World) (node : Node) (offset k : ℕ) (rs : List Row) → slice_get w.nodes n ≡ Some node → node.node.kind ≡ streaming_slice offset k → next_morsel (inputs_in_phase w n 0) ≡ Some (number, rs)
    → IsTrue (nat_le (end_of offset k) (node.progress.booked + length rs)) → Steps F w (claimed n 0 number worker) v → (p : Pipe) → Contains v.pipes p → IsTrue (is_input n 0 p) → IsTrue p.is_dropped

-- A satisfied slice halts what feeds it alone: such a node claims nothing in this phase.
abbrev pub Halts : Functions → World → Type 0
Halts F w = (n input number worker : ℕ) (v : World) → IsSpared w n → ¬ Steps F w (claimed n input number worker) v

-- And it claims nothing to the end of the phase: no Open and no End stands among the records that follow.
abbrev pub within_phase : Record → Bool
within_phase (opened phase) = Bool.false
within_phase (ended phase) = Bool.false
within_phase r = Bool.true

abbrev pub StaysHalted : Functions → World → Type 0
StaysHalted F w =
    (rs : List Record) (u v : World) (n input number worker : ℕ) → IsTrue (list_all within_phase rs) → Replays F w rs u → IsSpared w n → ¬ Steps F u (claimed n input number worker) v
