-- What is proved of each family of nodes, and what follows of the whole graph.
use Rattle.std.specs.Prelude.{◌≡◌, ◌≢◌, ℕ, ◌<◌, ◌⊎◌, Bool, true, false, not, ◌&&◌, ◌||◌, List, [], ◌++◌, map, length, Option, Some, None, nat_eq, slice_get, get_or, Contains, IsTrue, IsFalse, ⊤}
use Rattle.std.specs.List.{AllByRecursion, AllZip, list_all, list_any, find}
use Rattle.ps_frame.specs.Aggregates.{max_rows}
use Rattle.ps_frame.specs.Causes.{Cause}
use Rattle.ps_frame.specs.Functions.{Functions}
use Rattle.ps_frame.specs.Tables.{Fields, IsWhole, Row, Table}
use Rattle.ps_ports.specs.Ports.{is_done}
use Rattle.ps_ports.specs.Wires.{Wire, is_live, wires_in}
use Rattle.ps_ports.specs.declared.port_state.PortState.TheVariants as port
use Rattle.ps_turns.specs.Heads.{stored_rows}
use Rattle.ps_turns.specs.Progress.{Stage, is_taking, keeps_input}
use Rattle.ps_turns.specs.Results.{IsResult, rows_fault}
use Rattle.ps_turns.specs.Tasks.{Piece, bad}
use Rattle.ps_meaning.specs.Cases.{schemas_of}
use Rattle.ps_meaning.specs.Shape.{as_step, equi_join, in_memory_sink, IsLargeByStep, IsPhysicalChoice, PhysicalBefore, PhysicalCase, PhysicalKind, PhysicalNode, Shape, tables_for}
use Rattle.ps_meaning.specs.Sound.{input_schemas, IsSound}
use Rattle.ps_options.specs.declared.options.Options.{Options}
use Rattle.ps_world.specs.World.{IsWorking, Pipe, Node, Record, World, handed_in, opened, pulled, faulty, running, rows_in_order, has_next, is_over, has_place, shape_of, wires_of}
use Rattle.ps_world.specs.Opening.{opening}
use Rattle.ps_world.specs.Step.{Steps}
use Rattle.ps_world.specs.Updates.{FaultFound, IsSettled, Updates}

-- What a port has sent: rows in number order, and whether these are all.
pub record Sent : Type 0 where
  pub rows : List Row
  pub is_complete : Bool

abbrev pub nothing_sent : Sent
nothing_sent = record { rows = []; is_complete = false }

abbrev pub sent_by : Pipe → Sent
sent_by p = record { rows = rows_in_order p.got; is_complete = is_done p.wire.send_state && (not p.is_dropped && not p.is_unread) }

abbrev pub sent_by_some : Option Pipe → Sent
sent_by_some None = nothing_sent
sent_by_some (Some p) = sent_by p

-- a sink has no port: what it stores counts as sent, and is all where its input is done
abbrev pub sent_by_sink : World → ℕ → Node → Sent
sent_by_sink w n node = record { rows = stored_rows (get_or node.progress.stores 0 []); is_complete = list_all (λ (p : Pipe). not (nat_eq p.wire.receiver n) || is_done p.wire.receive_state) w.pipes }

abbrev pub sent_of_kind : World → ℕ → ℕ → Option Node → Sent
sent_of_kind w n k None = nothing_sent
sent_of_kind w n k (Some node) = by_kind node.node.kind
  where
    by_kind : PhysicalKind → Sent
    by_kind in_memory_sink = sent_by_sink w n node
    by_kind _ = sent_by_some (find (λ (p : Pipe). nat_eq p.wire.sender n && nat_eq p.wire.port k) w.pipes)

-- what node n has sent on a port
abbrev pub sent_at : World → ℕ → ℕ → Sent
sent_at w n k = sent_of_kind w n k (slice_get w.nodes n)

-- T begins with what was sent; where that is complete, T is that and whole
pub record Extends (s : Sent) (T : Table) : Type 0 where
  pub rest : List Row
  pub begins : s.rows ++ rest ≡ T.rows
  pub ends : IsTrue s.is_complete → (s.rows ≡ T.rows) × IsWhole T

-- The first part of a law: whatever tables the inputs turn out to mean, if these extend what was received, the node may give a table that extends what it has sent on each port.
abbrev pub Justified : Functions → PhysicalNode → List Fields → List Sent → (ℕ → Sent) → Type 0
Justified F p ss ins outs =
    (Ts : List Table) → schemas_of Ts ≡ ss → AllZip Extends ins Ts → (T : Table) × (T.schema ≡ p.schema) × PhysicalCase F p Ts T × ((k : ℕ) → Extends (outs k) T)

abbrev pub sent_to : (ℕ → ℕ → Sent) → PhysicalNode → List Sent
sent_to sent p = map (λ i. sent i.0 i.1) p.inputs

-- each node of a shape has its first part, over what the ports have sent
abbrev pub AllJustified : Functions → Shape → (ℕ → ℕ → Sent) → Type 0
AllJustified F shape sent = (n : ℕ) (p : PhysicalNode) → slice_get shape n ≡ Some p → Justified F p (input_schemas shape p) (sent_to sent p) (sent n)

-- one choice serves all ports
pub record ServedByChoice (F : Functions) (shape : Shape) (sent : ℕ → ℕ → Sent) : Type 0 where
  pub choice : ℕ → Table
  pub chosen : IsPhysicalChoice F shape choice
  pub schemas : (n : ℕ) (p : PhysicalNode) → slice_get shape n ≡ Some p → (choice n).schema ≡ p.schema
  pub serves : (n : ℕ) (p : PhysicalNode) (k : ℕ) → slice_get shape n ≡ Some p → Extends (sent n k) (choice n)

-- inputs come from earlier nodes
abbrev pub IsForward : Shape → Type 0
IsForward shape = (n : ℕ) (p : PhysicalNode) → slice_get shape n ≡ Some p → AllByRecursion (λ i. i.0 < n) p.inputs

-- The part on faults: a cause breaks the node, whatever tables the inputs turn out to mean.
abbrev pub BreaksWhatever : Functions → PhysicalNode → List Fields → List Sent → Cause → Type 0
BreaksWhatever F p ss ins c =
    (Ts : List Table) → schemas_of Ts ≡ ss → AllZip Extends ins Ts → (U : Table) × PhysicalBefore F p (as_step p.kind) (tables_for F p.kind Ts) U × Contains U.broken c

-- or there are too many rows: in a table that it may give, in that of an input, or in what its step computes over a part of the rows
abbrev pub IsLargeWhatever : Functions → PhysicalNode → List Fields → List Sent → Type 0
IsLargeWhatever F p ss ins =
    (Ts : List Table) → schemas_of Ts ≡ ss → AllZip Extends ins Ts
    → ((U : Table) × PhysicalBefore F p (as_step p.kind) (tables_for F p.kind Ts) U × (max_rows < length U.rows)) ⊎ ((T : Table) × Contains Ts T × (max_rows < length T.rows)) ⊎ IsLargeByStep F p.origin (as_step p.kind) (tables_for F p.kind Ts)

-- A step of the node makes a cause of the node's own that breaks it so, or says that it has too many rows where it has.
abbrev pub Faults : Functions → PhysicalNode → List Fields → List Sent → Cause → Type 0
Faults F p ss ins c = (c.node ≡ p.origin) × BreaksWhatever F p ss ins c

abbrev pub Overflows : Functions → PhysicalNode → List Fields → List Sent → Cause → Type 0
Overflows F p ss ins c = (c ≡ rows_fault p) × IsLargeWhatever F p ss ins

-- a step by this record makes the world faulty by a cause of node n
abbrev pub MakesFault : Functions → World → Record → ℕ → Cause → Type 0
MakesFault F w (opened phase) n c = IsFalse w.is_open × ((s : World) × Updates F w s × FaultFound F s n c)
MakesFault F w (handed_in m i number worker handed) n c = (m ≡ n) × (q : Piece) × Contains w.outs q × (q.node ≡ n) × IsResult F q (bad c)
MakesFault F w (pulled m i number) n c = (m ≡ n) × (v : World) × Steps F w (pulled m i number) v × (v.ending ≡ faulty c)
MakesFault F w _ n c = ⊥

-- The second part: a node of the open phase that isn't closed may move, has a piece out, or waits for one input or one output.
abbrev pub IsOut : World → Type 0
IsOut w = w.outs ≢ []

abbrev pub MayStep : Functions → World → Type 0
MayStep F w = (r : Record) × (v : World) × Steps F w r v

-- nothing is there to take, and something may still come
abbrev pub IsStarved : World → Pipe → Type 0
IsStarved w p = Contains w.pipes p × IsTrue p.in_phase × IsFalse (has_next p) × IsFalse (is_over p)

-- no place is left in a bounded pipe
abbrev pub IsFull : World → Pipe → Type 0
IsFull w p = Contains w.pipes p × IsTrue p.in_phase × IsFalse (has_place w p)

abbrev pub Progresses : Functions → World → ℕ → Type 0
Progresses F w n =
    IsWorking w n →
    MayStep F w ⊎ IsOut w ⊎ ((p : Pipe) × (p.wire.receiver ≡ n) × IsStarved w p) ⊎ ((p : Pipe) × (p.wire.sender ≡ n) × IsFull w p)

-- What every reached world keeps of the pipes of its open phase.
pub record PhaseFacts (w : World) : Type 0 where
  pub forward : (p : Pipe) → Contains w.pipes p → p.wire.sender < p.wire.receiver
  -- what may still come has a sender that isn't closed
  pub starved_sender : (p : Pipe) → IsStarved w p → IsWorking w p.wire.sender
  -- where no piece is out, a pipe without a place has a next morsel, and its reader isn't closed
  pub full_reader : (p : Pipe) → IsFull w p → w.outs ≡ [] → IsWorking w p.wire.receiver × IsTrue (has_next p)
  -- a node that may wait for an output has that one alone
  pub one_output : (p q : Pipe) → IsStarved w p → IsFull w q → p.wire.sender ≡ q.wire.sender → p ≡ q

-- The third part, of a settled world between phases, over its wires.
abbrev pub IsReadySent : Wire → Type 0
IsReadySent p = p.send_state ≡ port.Ready

-- The node takes: it keeps its input and an input is live, or it is a join that builds over a live right input.
abbrev pub takes_of : PhysicalKind → Stage → List Wire → Bool
takes_of (equi_join j) stage ws = is_taking stage && list_any (λ (p : Wire). nat_eq p.input 1 && is_live p) ws
takes_of kind stage ws = keeps_input kind && list_any is_live ws

abbrev pub takes : World → ℕ → Bool
takes w n = elim (slice_get w.nodes n) [ None ↦ false | Some node ↦ takes_of node.node.kind node.progress.stage (wires_in n (wires_of w)) ]

-- what a node that takes answers: ready to a live input, blocked to its outputs
pub record IsTaker (w : World) (n : ℕ) : Type 0 where
  pub input : Wire
  pub is_input : Contains (wires_of w) input × (input.receiver ≡ n) × IsTrue (is_live input)
  pub is_ready : input.receive_state ≡ port.Ready
  pub blocked_outputs : (p : Wire) → Contains (wires_of w) p → p.sender ≡ n → p.send_state ≡ port.Blocked

-- a blocker that a phase may take
pub record IsRunnable (w : World) (n : ℕ) : Type 0 where
  pub input : Wire
  pub is_input : Contains (wires_of w) input × (input.receiver ≡ n)
  pub is_ready : (input.send_state ≡ port.Ready) × (input.receive_state ≡ port.Ready)
  pub blocked_outputs : (p : Wire) → Contains (wires_of w) p → p.sender ≡ n → p.send_state ≡ port.Blocked

pub record PortLaw (w : World) (n : ℕ) : Type 0 where
  pub takes_means : IsTrue (takes w n) → IsTaker w n
  -- a live input is taken, or leads on to a live output
  pub leads_on : (p : Wire) → Contains (wires_of w) p → p.receiver ≡ n → IsTrue (is_live p) → IsTrue (takes w n) ⊎ ((q : Wire) × Contains (wires_of w) q × (q.sender ≡ n) × IsTrue (is_live q))
  -- where all live inputs are sent ready, so are all live outputs, but for a node that takes
  pub hands_on : ((p : Wire) → Contains (wires_of w) p → p.receiver ≡ n → IsTrue (is_live p) → IsReadySent p)
      → IsTrue (takes w n) ⊎ ((q : Wire) → Contains (wires_of w) q → q.sender ≡ n → IsTrue (is_live q) → IsReadySent q)

-- In a settled world what is done on one end is done on both.
abbrev pub EndsAgree : World → Type 0
EndsAgree w = (p : Wire) → Contains (wires_of w) p → is_done p.send_state ≡ is_done p.receive_state

abbrev pub AllDone : World → Type 0
AllDone w = (p : Wire) → Contains (wires_of w) p → IsTrue (is_done p.send_state && is_done p.receive_state)

abbrev pub AnyKind : PhysicalKind → Type 0
AnyKind k = ⊤

-- THE LAW OF A FAMILY. Covers says which kinds are of it, Facts what is known of every reached world, and Holds is what the family itself keeps of a node and its own pipes.
pub record FamilyLaw (F : Functions) (Covers : PhysicalKind → Type 0) (Facts : World → Type 0) (Holds : World → ℕ → Type 0) : Type 0 where
  pub begins : (shape : Shape) (o : Options) (n : ℕ) (p : PhysicalNode) → IsSound F shape → slice_get shape n ≡ Some p → Covers p.kind → Holds (opening shape o) n
  pub keeps : (w v : World) (r : Record) (n : ℕ) (p : PhysicalNode) → Facts w → slice_get (shape_of w) n ≡ Some p → Covers p.kind → Steps F w r v → Holds w n → Holds v n
  pub justifies : (w : World) (n : ℕ) (p : PhysicalNode) → Facts w → slice_get (shape_of w) n ≡ Some p → Covers p.kind → Holds w n
      → Justified F p (input_schemas (shape_of w) p) (sent_to (sent_at w) p) (sent_at w n)
  pub open_faults : (s : World) (n : ℕ) (p : PhysicalNode) (c : Cause) → Facts s → slice_get (shape_of s) n ≡ Some p → Covers p.kind → Holds s n → FaultFound F s n c
      → Faults F p (input_schemas (shape_of s) p) (sent_to (sent_at s) p) c ⊎ Overflows F p (input_schemas (shape_of s) p) (sent_to (sent_at s) p) c
  pub faults : (w : World) (r : Record) (n : ℕ) (p : PhysicalNode) (c : Cause) → Facts w → slice_get (shape_of w) n ≡ Some p → Covers p.kind → Holds w n → w.is_open ≡ true → MakesFault F w r n c
      → Faults F p (input_schemas (shape_of w) p) (sent_to (sent_at w) p) c ⊎ Overflows F p (input_schemas (shape_of w) p) (sent_to (sent_at w) p) c
  pub progresses : (w : World) (n : ℕ) (p : PhysicalNode) → Facts w → slice_get (shape_of w) n ≡ Some p → Covers p.kind → Holds w n → w.ending ≡ running → Progresses F w n
  pub ports : (s : World) (n : ℕ) (p : PhysicalNode) → Facts s → slice_get (shape_of s) n ≡ Some p → Covers p.kind → Holds s n → IsSettled s → EndsAgree s → PortLaw s n
  -- updates and fills keep it too
  pub keeps_updating : (w s : World) (n : ℕ) (p : PhysicalNode) → Facts w → slice_get (shape_of w) n ≡ Some p → Covers p.kind → IsFalse w.is_open → Updates F w s → Holds w n → Holds s n

-- The facts of every reached world: they hold at the opening of a sound shape, and each step, each list of updates keeps them, whatever the nodes.
pub record FactsLaw (F : Functions) (Facts : World → Type 0) : Type 0 where
  pub at_opening : (shape : Shape) (o : Options) → IsSound F shape → Facts (opening shape o)
  pub at_step : (w v : World) (r : Record) → Facts w → Steps F w r v → Facts v
  pub at_update : (w s : World) → Facts w → IsFalse w.is_open → Updates F w s → Facts s
  pub forward : (w : World) → Facts w → IsForward (shape_of w)
  pub wires_forward : (w : World) → Facts w → (p : Wire) → Contains (wires_of w) p → p.sender < p.receiver
  pub wires_inside : (w : World) → Facts w → (p : Wire) → Contains (wires_of w) p → p.receiver < length w.nodes
  pub phase : (w : World) → Facts w → w.ending ≡ running → PhaseFacts w
  pub ends_agree : (s : World) → Facts s → IsSettled s → EndsAgree s
  -- what is out stands in the open phase
  pub pieces_open : (w : World) (q : Piece) → Facts w → Contains w.outs q → w.is_open ≡ true
  pub piece_nodes : (w : World) (q : Piece) → Facts w → Contains w.outs q → (node : Node) × (slice_get w.nodes q.node ≡ Some node)

-- Updates come to rest, or find a fault: what the fixed point gives.
abbrev pub ComesToRest : Functions → (World → Type 0) → Type 0
ComesToRest F Facts =
    (w : World) → Facts w → IsFalse w.is_open → w.ending ≡ running → (s : World) × Updates F w s × (IsSettled s ⊎ ((n : ℕ) × (c : Cause) × FaultFound F s n c))
