-- The updates of nodes of a run keep the laws by which a graph comes to rest, and are those of the nodes of a shape that they are.
use Rattle.std.proofs.Common.{◌≡◌, ℕ, Bool, true, false, length, None, Some, refl, sym, subst, ap, ◌∙◌, inl, inr}
use Rattle.bare_nodes.specs.Uncalled.{no_functions}
use Rattle.ps_flow.specs.Claiming.{streams}
use Rattle.ps_frame.specs.Causes.{Cause}
use Rattle.ps_frame.specs.Functions.{Functions}
use Rattle.ps_frame.specs.declared.refusal.PolarsError.{PolarsError}
use Rattle.ps_graph.specs.Origins.{at_node}
use Rattle.std.specs.Prelude.{◌&&◌, IsTrue, not}
use Rattle.ps_meaning.specs.Errors.{cause_error}
use Rattle.ps_meaning.specs.Shape.{PhysicalKind}
use Rattle.ps_meaning.specs.Sound.{HasInputs, HasReaders}
use Rattle.ps_nodes.specs.FlowLaws.{flow_laws}
use Rattle.ps_nodes.specs.Seen.{Faults, HasPorts, kind_of, options_of, progress_of, seen}
use Rattle.ps_options.specs.declared.options.Options.{Options}
use Rattle.ps_ports.specs.Ports.{Sides}
use Rattle.ps_ports.specs.UpdateLaws.{KeepsUpdateLaws}
use Rattle.ps_turns.specs.Progress.{is_intensive, is_user_map, makes_table}
use Rattle.ps_turns.specs.Updates.{starts_giving}
use Rattle.turn_laws.specs.Updating.{FindsFault, SeenNode, UpdatesTo, heads_seen}
use Rattle.flow_runs.specs.Running.{Has, IsCutBy}
use Rattle.flow_runs.specs.Updating.{UpdatesNode, stages_of}
use Rattle.node_work.specs.Working.{Does}
use Rattle.flow_runs.specs.declared.node.RunningNode.{RunningNode}
use Rattle.node_work.specs.declared.work.Work.{Work}
use Rattle.flow_runs.specs.Streaming.{far_after, fits, has_ports_of, intensive_alike, kind_stays, makes_none, same_update}

-- A GRAPH COMES TO REST
pub node_laws : KeepsUpdateLaws stages_of UpdatesNode
node_laws =
    record {
      lengths = λ a b given answer u. flow_laws.lengths a.flow b.flow given answer u.update;
      done_stays = λ a b given answer u. flow_laws.done_stays a.flow b.flow given answer u.update;
      two_stages = λ a b given answer u. flow_laws.two_stages a.flow b.flow given answer u.update;
      one_answer = λ a b c given answer other u v. flow_laws.one_answer a.flow b.flow c.flow given answer other u.update v.update;
      sends_follow = λ a b c given given' answer answer' same u v stage. flow_laws.sends_follow a.flow b.flow c.flow given given' answer answer' same u.update v.update stage;
      quiet = λ a b given answer u stage none given' answer' c ins outs v.
          let d = flow_laws.quiet a.flow b.flow given answer u.update stage none given' answer' c.flow ins outs v.update in
          (record a { flow = d.0 }, record { update = d.1; others = refl }, d.2);
    }

-- THE NODE OF THE SHAPE
-- its kind, as a node of the graph
streams_as : (o : Options) (a : RunningNode) (x : SeenNode) → Has o a x → IsTrue (streams (kind_of a.flow))
streams_as o a x h = subst (λ (k : PhysicalKind). IsTrue (streams k)) (sym h.is.kind) h.is.streams

-- a node that is x is so after an update
after : (F : Functions) (o : Options) (a b : RunningNode) (x : SeenNode) (given answer : Sides) → Has o a x → UpdatesNode a given b answer → Has o b x
after F o a b x given answer h u =
    let is = u.update.update in
    record {
      is =
          record {
            streams = h.is.streams;
            inputs = h.is.inputs;
            kind = kind_stays no_functions (options_of a.flow) (seen a.flow) (seen b.flow) x given answer is ∙ h.is.kind;
            come = far_after no_functions (options_of a.flow) (seen a.flow) (seen b.flow) x given answer is h.is.come;
            does = subst (λ (w : Work). Does w x.node x.progress) (sym (ap (λ (n : RunningNode). n.work) u.others)) h.is.does;
          };
      cut = subst (λ (r : Options). IsCutBy x.node.kind r o) (sym u.update.options) h.cut;
    }

pub updates : (F : Functions) (o : Options) (a b : RunningNode) (x : SeenNode) (given answer : Sides) → Has o a x → UpdatesNode a given b answer → (y : SeenNode) × UpdatesTo F o x given y answer × Has o b y
updates F o a b x given answer h u =
    let then = after F o a b x given answer h u in
    (x, same_update no_functions (options_of a.flow) (seen a.flow) (seen b.flow) x given answer u.update.update F o h.is.streams h.is.kind h.cut then.is.come, then)

pub rests : (F : Functions) (o : Options) (a b : RunningNode) (y : SeenNode) (given answer : Sides) → Has o b y → UpdatesNode a given b answer → stages_of a ≡ stages_of b → UpdatesTo F o y given y answer
rests F o a b y given answer h u stage =
    let is = u.update.update in
    let kind = sym (kind_stays no_functions (options_of a.flow) (seen a.flow) (seen b.flow) y given answer is) ∙ h.is.kind in
    same_update no_functions (options_of a.flow) (seen a.flow) (seen b.flow) y given answer is F o h.is.streams kind (subst (λ (r : Options). IsCutBy y.node.kind r o) u.update.options h.cut) h.is.come

-- no update of it finds a fault
pub finds : (F : Functions) (o : Options) (a : RunningNode) (x : SeenNode) (given : Sides) (e : PolarsError) → Has o a x → Faults a.flow given e → (c : Cause) × FindsFault F o x given c × (at_node (record { 0 = x.node.origin }) e ≡ cause_error c)
finds F o a x given e h (c, inl found, is) = absurd (let none : None ≡ Some c = sym (fits (seen a.flow).node (kind_of a.flow) (heads_seen (seen a.flow) given) given (streams_as o a x h)) ∙ found in cc)
finds F o a x given e h (c, inr found, is) = absurd (no_table (makes_table (kind_of a.flow)) (starts_giving (options_of a.flow) (kind_of a.flow) (progress_of a.flow) given && not (is_user_map (kind_of a.flow))) (makes_none (kind_of a.flow) (streams_as o a x h)) found.0)
  where
    no_table : (b c : Bool) → b ≡ false → (b && c) ≡ true → ⊥
    no_table true c p q = let never : true ≡ false = p in cc
    no_table false c p q = let never : false ≡ true = q in cc

pub keeps : (o : Options) (a : RunningNode) (x : SeenNode) → Has o a x → is_intensive (kind_of a.flow) (progress_of a.flow).stage ≡ is_intensive x.node.kind x.progress.stage
keeps o a x h = ap (λ (k : PhysicalKind). is_intensive k (progress_of a.flow).stage) h.is.kind ∙ intensive_alike x.node.kind (progress_of a.flow).stage x.progress.stage h.is.streams

pub has_ports : (o : Options) (a : RunningNode) (x : SeenNode) (outputs : ℕ) → Has o a x → HasReaders x.node.kind outputs → HasPorts a.flow (length x.node.inputs) outputs
has_ports o a x outputs h readers =
    has_ports_of a.flow (length x.node.inputs) outputs (streams_as o a x h) (subst (λ (k : PhysicalKind). HasInputs k (length x.node.inputs)) (sym h.is.kind) h.is.inputs)
    (subst (λ (k : PhysicalKind). HasReaders k outputs) (sym h.is.kind) readers)
