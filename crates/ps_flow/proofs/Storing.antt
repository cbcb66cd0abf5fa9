-- Which world of the definitions a world is after a pull into a store.
use Rattle.std.proofs.Common.{◌≡◌, ℕ, ◌+◌, ◌≤◌, Bool, true, false, cond, List, [], ◌∷◌, ◌++◌, Option, Some, None, refl, sym, ap, subst, ◌∙◌}
use Rattle.std.specs.Prelude.{slice_get, slice_set}
use Rattle.keyed_slots.specs.Slots.{value_at}
use Rattle.ps_flow.proofs.InputKeys.{at_key}
use Rattle.ps_flow.proofs.Moving.{moved, not_finished}
use Rattle.ps_flow.proofs.Replacing.{had}
use Rattle.ps_flow.proofs.Senders.{schema_comes}
use Rattle.ps_flow.proofs.Stepping.{journal_more, same_wires, spare_left}
use Rattle.ps_flow.specs.Changes.{ChangedAt}
use Rattle.ps_flow.specs.Pulling.{Feeds, MayStore, StoresAs, fault_past, or_fault}
use Rattle.ps_flow.specs.Standing.{EndsAs, Stands, seen_as, setting_of}
use Rattle.ps_flow.specs.declared.world.World.{World as Held}
use Rattle.ps_frame.specs.Functions.{Functions}
use Rattle.ps_frame.specs.Tables.{Frame, Row}
use Rattle.ps_frame.specs.declared.refusal.PolarsError.{PolarsError}
use Rattle.ps_graph.specs.declared.graph.Graph.{Graph}
use Rattle.ps_graph.specs.declared.graph.GraphNode.{GraphNode}
use Rattle.ps_graph.specs.declared.key.LogicalPipeKey.{LogicalPipeKey}
use Rattle.ps_meaning.specs.Errors.{cause_error}
use Rattle.ps_meaning.specs.Sound.{input_schemas}
use Rattle.ps_options.specs.declared.options.Options.{Options}
use Rattle.ps_settle.proofs.Members.{map_at}
use Rattle.ps_turns.specs.Progress.{Progress}
use Rattle.ps_turns.specs.Pulls.{after_store, passes_limit}
use Rattle.ps_turns.specs.Results.{rows_fault}
use Rattle.ps_world.specs.Pipes.{change_pipes, is_input, taken, with_morsel}
use Rattle.ps_world.specs.Pulls.{after_pull, is_open_port}
use Rattle.ps_world.specs.World.{Node, Pipe, World, faulty, morsel_at, pulled, shape_of}
use Rattle.turn_laws.specs.Updating.{SeenNode}
use Rattle.world_pipes.specs.Shown.{AreKeysOf, AreShown, IsAt}
use Rattle.world_pipes.specs.declared.pipes.Pipes.{Pipes}
use Rattle.world_records.specs.Journals.{Written}
use Rattle.world_records.specs.declared.records.Record.TheVariants as entry

module _ {N : Type 0} (Has : Options → N → SeenNode → Type 0) (w : World) (h : Held N) (stands : Stands Has w h) (F : Functions) (n i : ℕ) (y : Node) (p : Pipe) (m : List Row) (may : MayStore F w n i y p m) where
  abbrev progress' : Progress
  progress' = after_store y.node.kind i m y.progress

  -- the world after it, of a node that gives nothing on
  abbrev after : Bool → World
  after multiplexes =
      let taken_pipes = change_pipes (is_input n i) taken w.pipes in
      let progress' = cond multiplexes y.progress (after_store y.node.kind i m y.progress) in
      record w {
        nodes = slice_set w.nodes n (record y { progress = progress' });
        pipes = cond multiplexes (change_pipes (is_open_port n) (with_morsel m) taken_pipes) taken_pipes;
        journal = w.journal ++ pulled n i p.next ∷ [];
        ending = cond (passes_limit y.node.kind i progress') (faulty (rows_fault y.node)) w.ending;
      }

  ends_by : (b : Bool) (fault : Option PolarsError) → fault ≡ or_fault (cond b (Some (cause_error (rows_fault y.node))) None) h.fault → EndsAs (cond b (faulty (rows_fault y.node)) w.ending) h.is_finished fault
  ends_by true fault e = (not_finished w.ending h.is_finished h.fault stands.ending may.runs, e)
  ends_by false fault e = subst (EndsAs w.ending h.is_finished) (sym e) stands.ending

  module _ (key : LogicalPipeKey) (names : AreKeysOf (is_input n i) (key ∷ []) w.pipes) where
    pub pipe_at : IsAt key w.pipes p
    pipe_at = at_key (is_input n i) key w.pipes p names may.among may.leads

    module _ (t : Frame) (is_morsel : (t.schema ≡ (setting_of (shape_of w) w.options).schema p.wire.sender) × (morsel_at p.next p.got ≡ Some t.rows)) where
      rows_are : t.rows ≡ m
      rows_are = let both : Some t.rows ≡ Some m = sym is_morsel.1 ∙ may.next in cc

      node_is : slice_get (shape_of w) n ≡ Some y.node
      node_is = map_at (λ (z : Node). z.node) w.nodes n y may.here

      feeds : (es : List Bool) → Feeds F (shape_of w) n (seen_as (shape_of w) y es) i t
      feeds es =
          record {
            fit = may.facts.sound.0 n y.node node_is;
            schemas = refl;
            schema = schema_comes F w may.facts n i p may.among may.leads y.node node_is ∙ ap Some (sym is_morsel.0);
            stores = may.stores;
            gives_nothing = may.gives_nothing;
          }

      pub stores : (x : GraphNode N) (found : Option PolarsError) (g : Graph N) → value_at h.graph.nodes.slots n ≡ Some x → ChangedAt (StoresAs Has i t found) x n h.graph.nodes.slots g.nodes.slots → g.pipes.slots ≡ h.graph.pipes.slots
          → (number : ℕ) (pipes : Pipes) (fault : Option PolarsError) (written : Written) → number ≡ p.next → AreShown (setting_of (shape_of w) w.options) (change_pipes (is_input n i) taken w.pipes) pipes → fault ≡ or_fault found h.fault
          → h.options.workers + 1 ≤ h.journal.spare → written.records ≡ h.journal.records ++ entry.Pull n i number ∷ [] → written.spare + 1 ≡ h.journal.spare
          → Stands Has (after_pull w n i y p m) (record h { graph = g; pipes = pipes; fault = fault; journal = written })
      stores x found g at changed same number pipes fault written is shown fault_is room more one =
          let before = had h.graph stands.linked n x at changed.after g changed.next same Has w.options w.nodes stands.nodes y may.here in
          let es = before.0 in
          let stored = changed.change F (shape_of w) n w.options (seen_as (shape_of w) y es) before.1 (feeds es) in
          let has = subst (λ rs. Has w.options changed.after (record { node = y.node; schemas = input_schemas (shape_of w) y.node; empties = es; progress = after_store y.node.kind i rs y.progress })) rows_are stored.0 in
          let told : found ≡ fault_past y.node i progress' = subst (λ rs. found ≡ fault_past y.node i (after_store y.node.kind i rs y.progress)) rows_are stored.1 in
          let wires = same_wires taken (λ p. refl) (is_input n i) w.pipes in
          let journal = journal_more Has w h stands (entry.Pull n i number) written.records more ∙ ap (λ k. w.journal ++ pulled n i k ∷ []) is in
          let ends = ends_by (passes_limit y.node.kind i progress') fault (fault_is ∙ ap (λ o. or_fault o h.fault) told) in
          let spare = spare_left Has w h stands h.journal.spare h.journal.spare written.spare room refl one in
          subst (λ v. Stands Has v (record h { graph = g; pipes = pipes; fault = fault; journal = written })) (ap after (sym may.gives_nothing))
          (moved Has w h stands n x at changed.after g changed.next same y may.here progress' es has (change_pipes (is_input n i) taken w.pipes) pipes w.outs h.outs (w.journal ++ pulled n i p.next ∷ []) written
          (cond (passes_limit y.node.kind i progress') (faulty (rows_fault y.node)) w.ending) fault wires shown stands.outs journal spare ends)
