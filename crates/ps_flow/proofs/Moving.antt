-- Which world of the definitions a world is after a step in which one of its nodes changes what it has behind it.
use Rattle.std.proofs.Common.{◌≡◌, ℕ, ◌≤◌, Bool, List, length, Option, Some, None, refl, sym, ap, subst, ◌∙◌, arith}
use Rattle.std.specs.Prelude.{IfSome, IsFalse, map, slice_get, slice_set}
use Rattle.keyed_slots.specs.Slots.{value_at}
use Rattle.ps_flow.proofs.Replacing.{had_same, has_next, linked_next, origins_next}
use Rattle.ps_flow.proofs.Stepping.{inside, is_there, set_alike}
use Rattle.ps_flow.specs.Changes.{ChangedAt}
use Rattle.ps_flow.specs.Marked.{mark_of}
use Rattle.ps_flow.specs.Pulling.{HasAlso}
use Rattle.ps_flow.specs.Standing.{EndsAs, Stands, setting_of}
use Rattle.ps_flow.specs.declared.world.World.{World as Held}
use Rattle.ps_frame.specs.declared.refusal.PolarsError.{PolarsError}
use Rattle.ps_graph.specs.declared.graph.Graph.{Graph}
use Rattle.ps_graph.specs.declared.graph.GraphNode.{GraphNode}
use Rattle.ps_graph.specs.Shown.{wires_of}
use Rattle.ps_meaning.specs.Sound.{input_schemas}
use Rattle.ps_options.specs.declared.options.Options.{Options}
use Rattle.ps_outs.specs.declared.outs.Outs.{Outs}
use Rattle.ps_outs.specs.Out.{AreOut}
use Rattle.ps_turns.specs.Progress.{Progress}
use Rattle.ps_turns.specs.Tasks.{Piece}
use Rattle.ps_world.specs.World.{Ending, Node, Pipe, Record, World, faulty, finished, running, shape_of}
use Rattle.turn_laws.specs.Updating.{SeenNode}
use Rattle.world_pipes.specs.Shown.{AreShown}
use Rattle.world_pipes.specs.declared.pipes.Pipes.{Pipes}
use Rattle.world_records.specs.Journals.{Written}
use Rattle.world_records.specs.Shown.{journal_shown}

-- a run that goes on isn't finished
pub not_finished : (e : Ending) (f : Bool) (fault : Option PolarsError) → EndsAs e f fault → e ≡ running → IsFalse f
not_finished running f fault m r = m.0
not_finished finished f fault m r = absurd (let clash : finished ≡ running = r in cc)
not_finished (faulty c) f fault m r = m.0

module _ {N : Type 0} (Has : Options → N → SeenNode → Type 0) (w : World) (h : Held N) (stands : Stands Has w h) (n : ℕ) (x : GraphNode N) (at : value_at h.graph.nodes.slots n ≡ Some x) (after : N)
    (g : Graph N) (next : g.nodes.slots ≡ slice_set h.graph.nodes.slots n (Some (record x { compute = after }))) (same : g.pipes.slots ≡ h.graph.pipes.slots) where
  -- a node that has what it had, and more memory for records
  pub stays : ((o : Options) (z : SeenNode) → Has o x.compute z → Has o after z) → (written : Written) → written.records ≡ h.journal.records → h.journal.spare ≤ written.spare
      → Stands Has w (record h { graph = g; journal = written })
  stays keeps written records more =
      record {
        options = stands.options;
        linked = linked_next h.graph stands.linked n x at after g next same;
        nodes = had_same h.graph stands.linked n x at after g next same Has w.options w.nodes stands.nodes keeps;
        origins = origins_next h.graph stands.linked n x at after g next same ∙ stands.origins;
        wires = ap wires_of same ∙ stands.wires;
        marks = stands.marks;
        pipes = stands.pipes;
        outs = stands.outs;
        phase = stands.phase;
        open_as = stands.open_as;
        journal = ap journal_shown records ∙ stands.journal;
        spare = let few = stands.spare in omega (arith, few, more);
        ending = stands.ending;
      }

  module _ (y : Node) (here : slice_get w.nodes n ≡ Some y) (progress : Progress) (es : List Bool)
      (has : Has w.options after (record { node = y.node; schemas = input_schemas (shape_of w) y.node; empties = es; progress = progress })) where
    pub shape_same : map (λ (z : Node). z.node) (slice_set w.nodes n (record y { progress = progress })) ≡ shape_of w
    shape_same = set_alike (λ (z : Node). z.node) w.nodes n y (record y { progress = progress }) here refl

    pub moved : (ps : List Pipe) (pipes : Pipes) (qs : List Piece) (outs : Outs) (rs : List Record) (written : Written) (e : Ending) (fault : Option PolarsError) → map (λ (p : Pipe). p.wire) ps ≡ map (λ (p : Pipe). p.wire) w.pipes
        → AreShown (setting_of (shape_of w) w.options) ps pipes → AreOut w.options.workers qs outs → journal_shown written.records ≡ rs → length qs ≤ written.spare → EndsAs e h.is_finished fault
        → Stands Has (record w { nodes = slice_set w.nodes n (record y { progress = progress }); pipes = ps; outs = qs; journal = rs; ending = e }) (record h { graph = g; pipes = pipes; outs = outs; journal = written; fault = fault })
    moved ps pipes qs outs rs written e fault wires shown out journal spare ends =
        record {
          options = stands.options;
          linked = linked_next h.graph stands.linked n x at after g next same;
          nodes = has_next h.graph stands.linked n x at after g next same Has w.options w.nodes stands.nodes y here progress es has;
          origins = origins_next h.graph stands.linked n x at after g next same ∙ stands.origins ∙ sym (set_alike (λ (z : Node). record { 0 = z.node.origin }) w.nodes n y (record y { progress = progress }) here refl);
          wires = ap wires_of same ∙ stands.wires ∙ sym wires;
          marks = stands.marks ∙ sym (set_alike mark_of w.nodes n y (record y { progress = progress }) here refl);
          pipes = subst (λ sh. AreShown (setting_of sh w.options) ps pipes) (sym shape_same) shown;
          outs = out;
          phase = stands.phase;
          open_as = stands.open_as;
          journal = journal;
          spare = spare;
          ending = ends;
        }

-- what holds of the value in an option
pub if_some_at : {A : Type 0} (P : A → Type 0) (o : Option A) (x : A) → o ≡ Some x → IfSome o P → P x
if_some_at P None x e p = absurd (let clash : None ≡ Some x = e in cc)
if_some_at P (Some y) x e p = let is : y ≡ x = (let both : Some y ≡ Some x = e in cc) in subst P is p

-- the node of the graph that stands for one of the world
pub stood : {N : Type 0} (Has : Options → N → SeenNode → Type 0) (w : World) (h : Held N) → Stands Has w h → (n : ℕ) (y : Node) → slice_get w.nodes n ≡ Some y → (x : GraphNode N) × (value_at h.graph.nodes.slots n ≡ Some x)
stood Has w h stands n y here = by (value_at h.graph.nodes.slots n) refl
  where
    by : (o : Option (GraphNode _)) → value_at h.graph.nodes.slots n ≡ o → (x : GraphNode _) × (value_at h.graph.nodes.slots n ≡ Some x)
    by None e = absurd (is_there h.graph stands.linked w.pipes stands.wires n (inside Has w h stands n y here) e)
    by (Some x) e = (x, e)

-- memory was taken by a node, if it is there, and for records
pub reserved : {N : Type 0} (Has : Options → N → SeenNode → Type 0) (w : World) (h : Held N) → Stands Has w h → (n : ℕ) (g : Graph N) → IfSome (value_at h.graph.nodes.slots n) (λ x. ChangedAt (HasAlso Has) x n h.graph.nodes.slots g.nodes.slots)
    → (value_at h.graph.nodes.slots n ≡ None → g.nodes ≡ h.graph.nodes) → g.pipes ≡ h.graph.pipes → (written : Written) → written.records ≡ h.journal.records → h.journal.spare ≤ written.spare → Stands Has w (record h { graph = g; journal = written })
reserved {N} Has w h stands n g changed none pipes written records more = by (value_at h.graph.nodes.slots n) refl
  where
    by : (o : Option (GraphNode N)) → value_at h.graph.nodes.slots n ≡ o → Stands Has w (record h { graph = g; journal = written })
    by (Some x) e =
        let at = if_some_at (λ x. ChangedAt (HasAlso Has) x n h.graph.nodes.slots g.nodes.slots) (value_at h.graph.nodes.slots n) x e changed in
        stays Has w h stands n x e at.after g at.next (λ i. (pipes i).slots) at.change written records more
    by None e =
        let same : h.graph ≡ g = (λ i. record { nodes = sym (none e) i; pipes = sym pipes i }) in
        let kept : Stands Has w (record h { journal = written }) =
        record {
          options = stands.options;
          linked = stands.linked;
          nodes = stands.nodes;
          origins = stands.origins;
          wires = stands.wires;
          marks = stands.marks;
          pipes = stands.pipes;
          outs = stands.outs;
          phase = stands.phase;
          open_as = stands.open_as;
          journal = ap journal_shown records ∙ stands.journal;
          spare = let few = stands.spare in omega (arith, few, more);
          ending = stands.ending;
        } in
        subst (λ g'. Stands Has w (record h { graph = g'; journal = written })) same kept
