-- Nodes that stream: no update turns them or finds a fault, and an answer hangs on little of what they have behind them.
use Rattle.std.proofs.Common.{◌≡◌, ℕ, Bool, true, false, cond, List, [], ◌∷◌, length, None, refl, sym, ap, subst, ◌∙◌, inl}
use Rattle.std.specs.Prelude.{◌&&◌, IsTrue, nat_lt, not}
use Rattle.ps_frame.specs.Functions.{Functions}
use Rattle.ps_meaning.specs.Shape.{PhysicalKind, PhysicalNode, filter_node, in_memory_sink, in_memory_source, independent_select, ordered_union, select_node, simple_projection, stream_map, streaming_slice, with_row_index}
use Rattle.ps_meaning.specs.Sound.{HasInputs, HasReaders}
use Rattle.ps_nodes.specs.Seen.{HasPorts, kind_of}
use Rattle.ps_nodes.specs.declared.flow.FlowNode.{FlowNode}
use Rattle.ps_nodes.specs.declared.flow.FlowNode.TheVariants as flow
use Rattle.ps_options.specs.declared.options.Options.{Options}
use Rattle.ps_ports.specs.Ports.{Sides, first_port, keeping_done}
use Rattle.ps_turns.specs.Cuts.{is_exhausted}
use Rattle.ps_turns.specs.Heads.{Head}
use Rattle.ps_turns.specs.Progress.{Progress, Stage, giving, is_giving, is_intensive, is_multiplexer, makes_table, spent, taking}
use Rattle.ps_turns.specs.Updates.{answer_by, done_on_both, passing_answer, shape_fault, slice_is_over, source_state, stage_after, starts_giving}
use Rattle.turn_laws.proofs.KeptLaws.{left_behind}
use Rattle.turn_laws.proofs.Turned.{LeavesBehind}
use Rattle.turn_laws.specs.Updating.{SeenNode, UpdatesTo, heads_seen}
use Rattle.ps_flow.specs.Claiming.{streams}
use Rattle.flow_runs.specs.Running.{HasComeAsFar, IsCutBy}

never : false ≡ true → ⊥
never e = cc

-- the stage stays
stays_in : (o : Options) (kind : PhysicalKind) (a : Progress) (given : Sides) → IsTrue (streams kind) → stage_after o kind a given ≡ a.stage
stays_in o (in_memory_source t) a given s = refl
stays_in o (independent_select es) a given s = refl
stays_in o (select_node es extends) a given s = refl
stays_in o (with_row_index name offset) a given s = refl
stays_in o (streaming_slice offset n) a given s = refl
stays_in o (filter_node e) a given s = refl
stays_in o (simple_projection names) a given s = refl
stays_in o in_memory_sink a given s = refl
stays_in o (stream_map step) a given s = refl
stays_in o ordered_union a given s = refl
stays_in o kind a given s = absurd (never s)

stays_out : (s : Stage) → (not (is_giving s) && is_giving s) ≡ false
stays_out taking = refl
stays_out giving = refl
stays_out spent = refl

starts_never : (o : Options) (kind : PhysicalKind) (a : Progress) (given : Sides) → IsTrue (streams kind) → starts_giving o kind a given ≡ false
starts_never o kind a given s = ap (λ t. not (is_giving a.stage) && is_giving t) (stays_in o kind a given s) ∙ stays_out a.stage

-- the shapes of its inputs agree
pub fits : (p : PhysicalNode) (kind : PhysicalKind) (hs : List Head) (given : Sides) → IsTrue (streams kind) → shape_fault p kind hs given ≡ None
fits p (in_memory_source t) hs given s = refl
fits p (independent_select es) hs given s = refl
fits p (select_node es extends) hs given s = refl
fits p (with_row_index name offset) hs given s = refl
fits p (streaming_slice offset n) hs given s = refl
fits p (filter_node e) hs given s = refl
fits p (simple_projection names) hs given s = refl
fits p in_memory_sink hs given s = refl
fits p (stream_map step) hs given s = refl
fits p ordered_union hs given s = refl
fits p kind hs given s = absurd (never s)

-- it makes no table
pub makes_none : (kind : PhysicalKind) → IsTrue (streams kind) → makes_table kind ≡ false
makes_none (in_memory_source t) s = refl
makes_none (independent_select es) s = refl
makes_none (select_node es extends) s = refl
makes_none (with_row_index name offset) s = refl
makes_none (streaming_slice offset n) s = refl
makes_none (filter_node e) s = refl
makes_none (simple_projection names) s = refl
makes_none in_memory_sink s = refl
makes_none (stream_map step) s = refl
makes_none ordered_union s = refl
makes_none kind s = absurd (never s)

-- whether it keeps its input in memory hangs on its kind alone
pub intensive_alike : (kind : PhysicalKind) (s t : Stage) → IsTrue (streams kind) → is_intensive kind s ≡ is_intensive kind t
intensive_alike (in_memory_source t) a b s = refl
intensive_alike (independent_select es) a b s = refl
intensive_alike (select_node es extends) a b s = refl
intensive_alike (with_row_index name offset) a b s = refl
intensive_alike (streaming_slice offset n) a b s = refl
intensive_alike (filter_node e) a b s = refl
intensive_alike (simple_projection names) a b s = refl
intensive_alike in_memory_sink a b s = refl
intensive_alike (stream_map step) a b s = refl
intensive_alike ordered_union a b s = refl
intensive_alike kind a b s = absurd (never s)

-- and so does whether it gives its input to several readers
pub one_reader : (kind : PhysicalKind) → IsTrue (streams kind) → is_multiplexer kind ≡ false
one_reader (in_memory_source t) s = refl
one_reader (independent_select es) s = refl
one_reader (select_node es extends) s = refl
one_reader (with_row_index name offset) s = refl
one_reader (streaming_slice offset n) s = refl
one_reader (filter_node e) s = refl
one_reader (simple_projection names) s = refl
one_reader in_memory_sink s = refl
one_reader (stream_map step) s = refl
one_reader ordered_union s = refl
one_reader kind s = absurd (never s)

-- what has come as far answers alike
answers_alike : (o run : Options) (kind : PhysicalKind) (a b : Progress) (hs hs' : List Head) (es es' : List Bool) (given : Sides) → IsTrue (streams kind) → IsCutBy kind run o → HasComeAsFar kind a b
    → answer_by run kind a hs es given ≡ answer_by o kind b hs' es' given
answers_alike o run (in_memory_source t) a b hs hs' es es' given s cut come = λ i. record { inputs = []; outputs = source_state (is_exhausted (cut i) t.rows (come i)) (first_port given.outputs) ∷ [] }
answers_alike o run (independent_select selectors) a b hs hs' es es' given s cut come = λ i. record { inputs = []; outputs = source_state (nat_lt 0 (come i)) (first_port given.outputs) ∷ [] }
answers_alike o run (streaming_slice offset n) a b hs hs' es es' given s cut come = λ i. cond (slice_is_over offset n (come i)) (done_on_both given) (passing_answer given)
answers_alike o run (select_node selectors extends) a b hs hs' es es' given s cut come = refl
answers_alike o run (with_row_index name offset) a b hs hs' es es' given s cut come = refl
answers_alike o run (filter_node e) a b hs hs' es es' given s cut come = refl
answers_alike o run (simple_projection names) a b hs hs' es es' given s cut come = refl
answers_alike o run in_memory_sink a b hs hs' es es' given s cut come = refl
answers_alike o run (stream_map step) a b hs hs' es es' given s cut come = refl
answers_alike o run ordered_union a b hs hs' es es' given s cut come = refl
answers_alike o run kind a b hs hs' es es' given s cut come = absurd (never s)

-- how far it has come, once an update left it
comes_as_far : (kind : PhysicalKind) (a b c : Progress) → LeavesBehind a b → HasComeAsFar kind a c → HasComeAsFar kind b c
comes_as_far (in_memory_source t) a b c l h = l.sent ∙ h
comes_as_far (independent_select es) a b c l h = l.sent ∙ h
comes_as_far (with_row_index name offset) a b c l h = l.booked ∙ h
comes_as_far (streaming_slice offset n) a b c l h = l.booked ∙ h
comes_as_far kind a b c l h = tt

-- AN UPDATE
-- A node that is seen as s and then as t is x after it, where it was before.
module _ (G : Functions) (run : Options) (s t x : SeenNode) (given answer : Sides) (u : UpdatesTo G run s given t answer) where
  pub far_after : HasComeAsFar x.node.kind s.progress x.progress → HasComeAsFar x.node.kind t.progress x.progress
  far_after come = comes_as_far x.node.kind s.progress t.progress x.progress (left_behind G run s t given answer u) come

  pub kind_stays : t.node.kind ≡ s.node.kind
  kind_stays = ap (λ (y : SeenNode). y.node.kind) u.others

  -- what x answers is what it answers
  pub same_update : (F : Functions) (o : Options) → IsTrue (streams x.node.kind) → s.node.kind ≡ x.node.kind → IsCutBy x.node.kind run o → HasComeAsFar x.node.kind t.progress x.progress → UpdatesTo F o x given x answer
  same_update F o streams kind cut far =
      record {
        ports = subst (λ (k : PhysicalKind). HasInputs k (length given.inputs) × HasReaders k (length given.outputs)) kind u.ports;
        agrees = fits x.node x.node.kind (heads_seen x given) given streams;
        turns = inl (ap not (starts_never o x.node.kind x.progress given streams), λ i. record x.progress { stage = sym (stays_in o x.node.kind x.progress given streams) i });
        others = refl;
        answers =
            u.answers
            ∙ ap (λ (k : PhysicalKind). keeping_done given (answer_by run k t.progress (heads_seen s given) s.empties given)) kind
            ∙ ap (keeping_done given) (answers_alike o run x.node.kind t.progress x.progress (heads_seen s given) (heads_seen x given) s.empties x.empties given streams cut far);
      }

-- a node has the ports of its kind
pub has_ports_of : (n : FlowNode) (inputs outputs : ℕ) → IsTrue (streams (kind_of n)) → HasInputs (kind_of n) inputs → HasReaders (kind_of n) outputs → HasPorts n inputs outputs
has_ports_of (flow.Zip n) inputs outputs s i o = absurd (never s)
has_ports_of (flow.InMemoryMap n) inputs outputs s i o = absurd (never s)
has_ports_of (flow.InMemoryJoin n) inputs outputs s i o = absurd (never s)
has_ports_of n inputs outputs s i o = (i, o)
