-- What the nodes of the trials answer.
use Rattle.std.specs.Prelude.{◌≡◌, ℕ, Bool, true, false, cond, not, ◌||◌, [], ◌∷◌, length}
use Rattle.ps_ports.specs.declared.port_state.PortState.TheVariants as port
use Rattle.ps_ports.specs.Ports.{Sides, first_port, is_done, keeping_done}
use Rattle.graph_trials.specs.declared.kind.Kind.{Kind}
use Rattle.graph_trials.specs.declared.kind.Kind.TheVariants as kind
use Rattle.graph_trials.specs.declared.node.TrialNode.{TrialNode}

-- a map is done once its input or its reader is; the others stay as they are
abbrev pub next_kind : Kind → Sides → Kind
next_kind (kind.Map over) given = kind.Map (over || is_done (first_port given.inputs) || is_done (first_port given.outputs))
next_kind k given = k

-- a source gives until it is spent, a filter and a union of one input pass, a map and a taker take their whole input before they give anything, a sink takes
abbrev pub answer_by : Kind → Sides → Sides
answer_by (kind.Source spent) given = record { inputs = []; outputs = cond spent port.Done port.Ready ∷ [] }
answer_by kind.Filter given = record { inputs = given.outputs; outputs = given.inputs }
answer_by (kind.Map over) given = record { inputs = cond over port.Done port.Ready ∷ []; outputs = cond over port.Done port.Blocked ∷ [] }
answer_by kind.Union given = record { inputs = given.outputs; outputs = given.inputs }
answer_by kind.Taker given = record { inputs = port.Ready ∷ []; outputs = port.Blocked ∷ [] }
answer_by kind.Sink given = record { inputs = port.Ready ∷ []; outputs = [] }

abbrev pub inputs_of : Kind → ℕ
inputs_of (kind.Source spent) = 0
inputs_of _ = 1

abbrev pub outputs_of : Kind → ℕ
outputs_of kind.Sink = 0
outputs_of _ = 1

-- one input and one reader
abbrev pub is_link : Kind → Bool
is_link (kind.Source spent) = false
is_link kind.Sink = false
is_link _ = true

-- a map that is done has a stage behind it
abbrev pub stages_of : Kind → ℕ
stages_of (kind.Map true) = 1
stages_of _ = 0

abbrev pub is_taker : Kind → Bool
is_taker kind.Taker = true
is_taker (kind.Map over) = not over
is_taker _ = false

-- An update makes the kind the next one, and answers by that; a port that is given as done is answered done.
pub record Tried (a : Kind) (given : Sides) (b : Kind) (answer : Sides) : Type 0 where
  pub next : b ≡ next_kind a given
  pub inputs : length given.inputs ≡ inputs_of a
  pub outputs : length given.outputs ≡ outputs_of a
  pub is : answer ≡ keeping_done given (answer_by (next_kind a given) given)

-- a node has the ports of its kind
abbrev pub FitsKind : TrialNode → (inputs outputs : ℕ) → Type 0
FitsKind n i o = (i ≡ inputs_of n.kind) × (o ≡ outputs_of n.kind)
