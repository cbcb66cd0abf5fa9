-- Which world of the definitions a world is after a claim.
use Rattle.std.proofs.Common.{◌≡◌, ℕ, ◌+◌, ◌≤◌, Bool, true, false, cond, List, [], ◌∷◌, ◌++◌, length, Option, Some, refl, sym, ap, subst, ◌∙◌, arith}
use Rattle.std.proofs.lemmas.List.{length-set}
use Rattle.std.specs.Prelude.{◌&&◌, IsTrue, map, nat_eq, not, slice_get, slice_set}
use Rattle.keyed_slots.specs.Slots.{value_at}
use Rattle.ps_flow.proofs.Changing.{IsSwept, all_still, commute, flags, same_flags, swept_alike}
use Rattle.ps_flow.proofs.Claims.{any_comes, claims_of, one_output, rows_come}
use Rattle.ps_flow.proofs.Dropping.{all_drops, changed_one_output, cut_off_is, cut_wires, no_multiplexer}
use Rattle.ps_flow.proofs.Moving.{moved}
use Rattle.ps_flow.proofs.OutputKeys.{tests_alike}
use Rattle.ps_flow.proofs.Replacing.{had}
use Rattle.ps_flow.proofs.Stepping.{journal_more, same_wires, set_alike}
use Rattle.ps_flow.specs.Changes.{ChangedAt}
use Rattle.ps_flow.specs.Claiming.{AllStream, HasClaimed, IsKeyOf, MayClaim, dropped_if, placed, rows_next, streams, taken_if}
use Rattle.ps_flow.specs.Drops.{cut_below}
use Rattle.ps_flow.specs.Handing.{HasOneOutput}
use Rattle.ps_flow.specs.Standing.{Stands, seen_as, setting_of}
use Rattle.ps_flow.specs.declared.world.World.{World as Held}
use Rattle.ps_frame.specs.Functions.{Functions}
use Rattle.ps_graph.proofs.Places.{length_there}
use Rattle.ps_graph.specs.Shown.{IsLinked, values, wires_of}
use Rattle.ps_graph.specs.declared.graph.Graph.{Graph}
use Rattle.ps_graph.specs.declared.graph.GraphNode.{GraphNode}
use Rattle.ps_graph.specs.declared.key.LogicalPipeKey.{LogicalPipeKey}
use Rattle.ps_options.specs.declared.options.Options.{Options}
use Rattle.ps_outs.proofs.Counting.{few_out}
use Rattle.ps_outs.specs.Out.{AreOut}
use Rattle.ps_outs.specs.declared.outs.Outs.{Outs}
use Rattle.ps_settle.proofs.Members.{at_map, length_map, map_at}
use Rattle.ps_turns.specs.Claims.{Claim}
use Rattle.ps_turns.specs.Tasks.{Piece}
use Rattle.ps_world.specs.Claims.{after_claim, piece_of}
use Rattle.ps_world.specs.Pipes.{change_pipes, dropped_pipe, is_input, taken, with_drops, with_place}
use Rattle.ps_world.specs.World.{Node, Pipe, World, bounded_out, claimed, shape_of}
use Rattle.turn_laws.specs.Updating.{SeenNode}
use Rattle.world_pipes.specs.Shown.{AreShown}
use Rattle.world_pipes.specs.declared.pipes.Pipes.{Pipes}
use Rattle.world_records.specs.Journals.{Written}
use Rattle.world_records.specs.Shown.{journal_shown}
use Rattle.world_records.specs.declared.records.Record.TheVariants as entry

-- nodes that stream still do where they are the nodes of one shape
stream_alike : (w v : World) → shape_of v ≡ shape_of w → AllStream w → AllStream v
stream_alike w v same all = λ n x at.
    let z = at_map (λ (y : Node). y.node) w.nodes n x.node (ap (λ l. slice_get l n) (sym same) ∙ map_at (λ (y : Node). y.node) v.nodes n x at) in
    subst (λ p. IsTrue (streams p)) (λ i. (z.2 i).kind) (all n z.0 z.1)

-- A place is made in what is in the phase and isn't dropped.
pub bounded_alike : (F : Functions) (w : World) (n i worker : ℕ) (x : Node) (c : Claim) → MayClaim F w n i worker x c
    → change_pipes (λ p. nat_eq p.wire.sender n && (p.in_phase && not p.is_dropped)) with_place w.pipes ≡ change_pipes (bounded_out w n) with_place w.pipes
bounded_alike F w n i worker x c may =
    tests_alike (λ p. nat_eq p.wire.sender n && (p.in_phase && not p.is_dropped)) (bounded_out w n) with_place w.pipes
    (λ p among. (λ j. nat_eq p.wire.sender n && (p.in_phase && (not (sym (no_multiplexer w may.all_stream p.wire.sender) j) && not p.is_dropped))))

-- more memory for records, and pipes that show the same
pub more_room : {N : Type 0} (w : World) (Has : Options → N → SeenNode → Type 0) (h : Held N) → Stands Has w h → (pipes : Pipes) (written : Written) → AreShown (setting_of (shape_of w) w.options) w.pipes pipes → written.records ≡ h.journal.records → h.journal.spare ≤ written.spare
    → Stands Has w (record h { pipes = pipes; journal = written })
more_room w Has h stands pipes written shown same more =
    record {
      options = stands.options;
      linked = stands.linked;
      nodes = stands.nodes;
      origins = stands.origins;
      wires = stands.wires;
      marks = stands.marks;
      pipes = shown;
      outs = stands.outs;
      phase = stands.phase;
      open_as = stands.open_as;
      journal = ap journal_shown same ∙ stands.journal;
      spare = let few = stands.spare in omega (arith, few, more);
      ending = stands.ending;
    }

module _ (F : Functions) (w : World) (n i worker : ℕ) (x : Node) (c : Claim) (may : MayClaim F w n i worker x c) where
  -- the same, with a place for the answer
  pub places : {N : Type 0} (Has : Options → N → SeenNode → Type 0) (h : Held N) → Stands Has w h → (pipes : Pipes) (written : Written)
      → AreShown (setting_of (shape_of w) w.options) (change_pipes (λ p. nat_eq p.wire.sender n && (p.in_phase && not p.is_dropped)) with_place w.pipes) pipes → written.records ≡ h.journal.records → h.journal.spare ≤ written.spare
      → Stands Has (placed w n) (record h { pipes = pipes; journal = written })
  places Has h stands pipes written shown same more =
      record {
        options = stands.options;
        linked = stands.linked;
        nodes = stands.nodes;
        origins = stands.origins;
        wires = stands.wires ∙ sym (same_wires with_place (λ p. refl) (bounded_out w n) w.pipes);
        marks = stands.marks;
        pipes = subst (λ l. AreShown (setting_of (shape_of w) w.options) l pipes) (bounded_alike F w n i worker x c may) shown;
        outs = stands.outs;
        phase = stands.phase;
        open_as = stands.open_as;
        journal = ap journal_shown same ∙ stands.journal;
        spare = let few = stands.spare in omega (arith, few, more);
        ending = stands.ending;
      }

module _ (F : Functions) (w : World) (n i worker : ℕ) (x : Node) (c : Claim) (may : MayClaim F w n i worker x c) where
  abbrev took : List Pipe
  took = taken_if c.takes_morsel n i (placed w n).pipes

  -- a place is made, and then the morsel is taken, or the other way round
  pub order_free : took ≡ change_pipes (bounded_out w n) with_place (taken_if c.takes_morsel n i w.pipes)
  order_free = by c.takes_morsel
    where
      by : (b : Bool) → taken_if b n i (placed w n).pipes ≡ change_pipes (bounded_out w n) with_place (taken_if b n i w.pipes)
      by true = commute (is_input n i) (bounded_out w n) taken with_place (λ p. refl) (λ p. refl) (λ p. refl) w.pipes
      by false = refl

  same_took : map flags took ≡ map flags w.pipes
  same_took = by c.takes_morsel
    where
      by : (b : Bool) → map flags (taken_if b n i (placed w n).pipes) ≡ map flags w.pipes
      by true = same_flags (is_input n i) taken (λ p. refl) (placed w n).pipes ∙ same_flags (bounded_out w n) with_place (λ p. refl) w.pipes
      by false = same_flags (bounded_out w n) with_place (λ p. refl) w.pipes

  pub placed_wires : map (λ (p : Pipe). p.wire) (placed w n).pipes ≡ map (λ (p : Pipe). p.wire) w.pipes
  placed_wires = same_wires with_place (λ p. refl) (bounded_out w n) w.pipes

  pub took_wires : map (λ (p : Pipe). p.wire) took ≡ map (λ (p : Pipe). p.wire) w.pipes
  took_wires = by c.takes_morsel
    where
      by : (b : Bool) → map (λ (p : Pipe). p.wire) (taken_if b n i (placed w n).pipes) ≡ map (λ (p : Pipe). p.wire) w.pipes
      by true = same_wires taken (λ p. refl) (is_input n i) (placed w n).pipes ∙ placed_wires
      by false = placed_wires

  pub placed_outputs : (m : ℕ) → HasOneOutput m (placed w n).pipes
  placed_outputs m = changed_one_output (bounded_out w n) with_place w.pipes (λ p. refl) m (one_output F w n i worker x c may m)

  pub took_outputs : (m : ℕ) → HasOneOutput m took
  took_outputs m = by c.takes_morsel
    where
      by : (b : Bool) → HasOneOutput m (taken_if b n i (placed w n).pipes)
      by true = changed_one_output (is_input n i) taken (placed w n).pipes (λ p. refl) m (placed_outputs m)
      by false = placed_outputs m

  abbrev nodes' : List Node
  nodes' = slice_set w.nodes n (record x { progress = c.progress })

  -- the world with these pipes
  abbrev with_pipes : List Pipe → World
  with_pipes ps = record w { nodes = nodes'; pipes = ps; outs = piece_of n i worker c ∷ w.outs; journal = w.journal ++ claimed n i c.number worker ∷ [] }

  streams' : (ps : List Pipe) → AllStream (with_pipes ps)
  streams' ps = stream_alike w (with_pipes ps) (set_alike (λ (z : Node). z.node) w.nodes n x (record x { progress = c.progress }) may.here refl) may.all_stream

  module _ {N : Type 0} (g : Graph N) (linked : IsLinked g) (wires : wires_of g.pipes.slots ≡ map (λ (p : Pipe). p.wire) w.pipes) (nodes : ℕ) (counted : nodes ≡ length nodes') where
    swept : IsSwept took
    swept =
        swept_alike w.pipes took same_took
        (λ p among phase cut. may.facts.cut_off p among (omega arith) phase (cut_off_is g linked w wires may.all_stream p.wire.receiver (one_output F w n i worker x c may p.wire.receiver) ∙ cut))

    -- what is dropped with the claim
    pub after_is : after_claim w n i worker x c ≡ with_pipes (dropped_if c.drops_input nodes n i took)
    after_is = ap (λ l. with_drops (with_pipes (cond c.drops_input (change_pipes (is_input n i) dropped_pipe l) l))) (sym order_free) ∙ by c.drops_input
      where
        by : (b : Bool) → with_drops (with_pipes (cond b (change_pipes (is_input n i) dropped_pipe took) took)) ≡ with_pipes (dropped_if b nodes n i took)
        by true =
            all_drops g linked (with_pipes (change_pipes (is_input n i) dropped_pipe took)) (wires ∙ sym took_wires ∙ sym (same_wires dropped_pipe (λ p. refl) (is_input n i) took)) (streams' (change_pipes (is_input n i) dropped_pipe took))
            (λ m. changed_one_output (is_input n i) dropped_pipe took (λ p. refl) m (took_outputs m))
            ∙ ap (λ k. with_pipes (cut_below k (change_pipes (is_input n i) dropped_pipe took))) (sym counted)
        by false =
            all_drops g linked (with_pipes took) (wires ∙ sym took_wires) (streams' took) took_outputs
            ∙ ap with_pipes (all_still (length nodes') took swept)

  pub used_wires : (nodes : ℕ) → map (λ (p : Pipe). p.wire) (dropped_if c.drops_input nodes n i took) ≡ map (λ (p : Pipe). p.wire) w.pipes
  used_wires nodes = by c.drops_input
    where
      by : (b : Bool) → map (λ (p : Pipe). p.wire) (dropped_if b nodes n i took) ≡ map (λ (p : Pipe). p.wire) w.pipes
      by true = cut_wires nodes (change_pipes (is_input n i) dropped_pipe took) ∙ same_wires dropped_pipe (λ p. refl) (is_input n i) took ∙ took_wires
      by false = took_wires

  module _ {N : Type 0} (Has : Options → N → SeenNode → Type 0) (h : Held N) (stands : Stands Has (placed w n) h) where
    its_wires : wires_of h.graph.pipes.slots ≡ map (λ (p : Pipe). p.wire) w.pipes
    its_wires = stands.wires ∙ placed_wires

    counted_is : length h.graph.nodes.slots ≡ length nodes'
    counted_is =
        sym (length_there h.graph.nodes.slots stands.linked.nodes_there) ∙ sym (length_map (λ (y : GraphNode N). y.compute) (values h.graph.nodes.slots)) ∙ stands.nodes.long ∙ sym (length-set w.nodes n (record x { progress = c.progress }))

    module _ (z : GraphNode N) (at : value_at h.graph.nodes.slots n ≡ Some z) (rows : ℕ) (g : Graph N) (changed : ChangedAt (HasClaimed Has i rows) z n h.graph.nodes.slots g.nodes.slots) (same : g.pipes.slots ≡ h.graph.pipes.slots)
        (key : Option LogicalPipeKey) (names : IsKeyOf n i w.pipes key) (come : rows ≡ rows_next w n i) where
      pub claims_made : (pipes : Pipes) (outs : Outs) (written : Written) → AreShown (setting_of (shape_of w) w.options) (dropped_if c.drops_input (length h.graph.nodes.slots) n i took) pipes
          → AreOut w.options.workers (piece_of n i worker c ∷ w.outs) outs → written.records ≡ h.journal.records ++ entry.Claim n i c.number worker ∷ [] → h.options.workers + 1 ≤ h.journal.spare → written.spare + 1 ≡ h.journal.spare
          → Stands Has (after_claim w n i worker x c) (record h { graph = g; pipes = pipes; outs = outs; journal = written })
      claims_made pipes outs written shown out more room less =
          let before = had h.graph stands.linked n z at changed.after g changed.next same Has w.options w.nodes stands.nodes x may.here in
          let es = before.0 in
          let cm = any_comes F w n i worker x c may key names in
          let has = changed.change F (shape_of w) n w.options (seen_as (shape_of w) x es) cm.0 cm.1 c before.1 (claims_of F w n i worker x c may cm.0 cm.1 cm.2 es) (come ∙ sym (rows_come F w n i worker x c may cm.0 cm.1 cm.2)) in
          let ps : List Pipe = dropped_if c.drops_input (length h.graph.nodes.slots) n i took in
          let qs : List Piece = piece_of n i worker c ∷ w.outs in
          let wires = used_wires (length h.graph.nodes.slots) ∙ sym placed_wires in
          let journal = journal_more Has (placed w n) h stands (entry.Claim n i c.number worker) written.records more in
          let few = few_out w.options.workers qs outs out in
          let workers = ap (λ (o : Options). o.workers) stands.options in
          let spare : length qs ≤ written.spare = omega (arith, few, workers, room, less) in
          subst (λ v. Stands Has v (record h { graph = g; pipes = pipes; outs = outs; journal = written })) (sym (after_is h.graph stands.linked its_wires (length h.graph.nodes.slots) counted_is))
          (moved Has (placed w n) h stands n z at changed.after g changed.next same x may.here c.progress es has ps pipes qs outs (w.journal ++ claimed n i c.number worker ∷ []) written w.ending h.fault wires shown out journal spare stands.ending)
