-- Which world of the definitions a world is after a phase has opened.
use Rattle.std.proofs.Common.{◌≡◌, ◌≢◌, ℕ, ◌+◌, ◌≤◌, Bool, true, false, cond, List, [], ◌∷◌, ◌++◌, length, Option, None, Some, inl, inr, refl, sym, ap, subst, ◌∙◌, arith}
use Rattle.std.specs.Prelude.{Err, IsFalse, Ok, OnErr, OnOk, Result, map, slice_get}
use Rattle.std.proofs.lemmas.List.{map-append}
use Rattle.std.proofs.lemmas.Option.{slice_get_within}
use Rattle.pu_base.specs.declared.arena.Node.{Node as Origin}
use Rattle.ps_flow.proofs.Leading.{Leads, Still, at_first, leads, same_shape, still_of}
use Rattle.ps_flow.proofs.Phases.{as_empty, empty_is, filled_is, intensive_alike, marked_alike, marks_are, places_of}
use Rattle.ps_flow.proofs.Resting.{settled_world}
use Rattle.ps_flow.proofs.Seeing.{heads_are, shown_alike}
use Rattle.ps_flow.proofs.Stepping.{core, have_alike}
use Rattle.ps_flow.specs.Marked.{mark_of, phase_marks}
use Rattle.ps_flow.specs.Openings.{HasOpened, IsBegun, IsBrokenAs, IsFinishedAs, IsMarkedAs, IsPlain, IsRecorded, IsWhole, Tells, none_left, one_opens}
use Rattle.ps_flow.specs.Standing.{EndsAs, HaveAll, IsUnmarred, Stands, or_short, origins_in, seen_as, setting_of}
use Rattle.ps_flow.specs.declared.world.World.{World as Held}
use Rattle.ps_frame.specs.Causes.{Cause, is_empty}
use Rattle.ps_frame.specs.Functions.{Functions}
use Rattle.ps_frame.specs.declared.refusal.PolarsError.{PolarsError}
use Rattle.ps_frame.specs.declared.refusal.PolarsError.TheVariants as error
use Rattle.ps_graph.proofs.Places.{length_there, value_there}
use Rattle.ps_graph.specs.Origins.{at_node}
use Rattle.ps_graph.specs.Running.{are_intensive, runnable_nodes, runnable_pipes}
use Rattle.ps_graph.specs.Shown.{CanRun, nodes_of, places_from, standing_of, values, wire_of, wires_of}
use Rattle.ps_graph.specs.Turning.{FaultsAfter, MayFail, origins_of}
use Rattle.ps_graph.specs.declared.graph.GraphNode.{GraphNode}
use Rattle.ps_meaning.specs.Errors.{cause_error}
use Rattle.ps_meaning.specs.Sound.{HasReaders}
use Rattle.ps_options.specs.declared.options.Options.{Options}
use Rattle.ps_outs.proofs.Counting.{few_out}
use Rattle.ps_outs.specs.Out.{AreOut}
use Rattle.ps_ports.specs.Phases.{is_in_phase, phase_nodes}
use Rattle.ps_ports.specs.Ports.{Sides}
use Rattle.ps_ports.specs.UpdateLaws.{KeepsUpdateLaws}
use Rattle.ps_ports.specs.Wires.{IsWired, Wire, given_to, wires_in, wires_out}
use Rattle.ps_settle.proofs.Members.{item_at, length_map, map_at, map_twice}
use Rattle.ps_settle.specs.Standings.{IsSettled as IsSettledGraph, Standing, Updates as GraphUpdates}
use Rattle.ps_turns.specs.Progress.{is_intensive}
use Rattle.ps_turns.specs.Updates.{shape_fault}
use Rattle.ps_world.specs.Phases.{after_fault, after_open, blockers_in, intensive_at, marked_nodes, nodes_of_phase, with_phase}
use Rattle.ps_world.specs.Step.{Opens, Steps, breaks, settles}
use Rattle.ps_world.specs.Updates.{FaultFound, IsSettled, given_at}
use Rattle.ps_world.specs.World.{Ending, Node, Pipe, World, faulty, finished, opened, running, shape_of, wires_of as world_wires}
use Rattle.turn_laws.specs.Updating.{FindsFault, SeenNode, UpdatesTo}
use Rattle.world_pipes.specs.Shown.{AreShown, phase_pipe}
use Rattle.world_records.specs.Shown.{journal_shown, record_shown}
use Rattle.world_records.specs.declared.records.Record.TheVariants as entry

-- what is told alone
pub tells_all : {N : Type 0} (Has : Options → N → SeenNode → Type 0) (w : World) (h : Held N) → Stands Has w h → Tells w h
tells_all Has w h s = record { options = s.options; outs = s.outs; phase = s.phase; open_as = s.open_as; journal = s.journal; spare = s.spare; ending = s.ending }

short_too : (e : Ending) (f : Bool) (m : Option PolarsError) → EndsAs e f m → EndsAs e f (or_short m)
short_too running f None m = (m.0, inr refl)
short_too running f (Some x) m = m
short_too finished f None m = (m.0, inr refl)
short_too finished f (Some x) m = m
short_too (faulty c) f None m = absurd (let no : None ≡ Some (cause_error c) = m.1 in cc)
short_too (faulty c) f (Some x) m = m

-- what is told is told of a run that is short of memory
pub tells_short : {N : Type 0} (w : World) (h h' : Held N) → h' ≡ record h { fault = or_short h.fault } → Tells w h → Tells w h'
tells_short w h h' is t =
    subst (Tells w) (sym is)
    (record { options = t.options; outs = t.outs; phase = t.phase; open_as = t.open_as; journal = t.journal; spare = t.spare; ending = short_too w.ending h.is_finished h.fault t.ending })

-- and of one whose graph may have changed, with memory for more records
pub tells_still : {N : Type 0} (Has : Options → N → SeenNode → Type 0) (w : World) (h h' : Held N) → Stands Has w h → h' ≡ record h { graph = h'.graph; journal = h'.journal } → h'.journal.records ≡ h.journal.records → h.journal.spare ≤ h'.journal.spare
    → Tells w h'
tells_still Has w h h' s is same more =
    subst (Tells w) (sym is)
    (record { options = s.options; outs = s.outs; phase = s.phase; open_as = s.open_as; journal = ap journal_shown same ∙ s.journal; spare = let spare = s.spare in omega (arith, spare, more); ending = s.ending })

module _ {N : Type 0} (Has : Options → N → SeenNode → Type 0) (HasPorts : N → ℕ → ℕ → Type 0)
    (law : (o : Options) (a : N) (x : SeenNode) (outputs : ℕ) → Has o a x → HasReaders x.node.kind outputs → HasPorts a (length x.node.inputs) outputs) (w : World) (h : Held N) (stands : Stands Has w h) (whole : IsWhole w) where
  -- the graph of a whole world may run
  pub can_run : CanRun HasPorts h.graph
  can_run =
      record {
        linked = stands.linked;
        wired = subst (λ n. IsWired n (wires_of h.graph.pipes.slots)) (sym stands.nodes.long) (subst (IsWired (length w.nodes)) (sym stands.wires) whole.wired);
        ports = λ n node at.
            let there : slice_get (nodes_of h.graph.nodes.slots) n ≡ Some node.compute = map_at (λ (y : GraphNode N). y.compute) (values h.graph.nodes.slots) n node (sym (value_there h.graph.nodes.slots stands.linked.nodes_there n) ∙ at) in
            let within = slice_get_within (nodes_of h.graph.nodes.slots) n node.compute there in
            let long = stands.nodes.long in
            let x = item_at w.nodes n (omega (arith, within, long)) in
            let has = stands.nodes.each n x.0 node.compute x.1 there in
            let P : List Wire → Type 0 = λ ws. HasPorts node.compute (length (wires_in n ws)) (length (wires_out n ws)) in
            subst P (sym stands.wires)
            (subst (λ k. HasPorts node.compute k (length (wires_out n (world_wires w)))) (sym (whole.inputs n x.0 x.1)) (law w.options node.compute (seen_as (shape_of w) x.0 has.0) (length (wires_out n (world_wires w))) has.1 (whole.readers n x.0 x.1)));
      }

-- a run that goes on is finished without a fault
unmarred_is : (e : Ending) (f : Bool) (m : Option PolarsError) → EndsAs e f m → e ≡ running → IsUnmarred m
unmarred_is running f m ends e = ends.1
unmarred_is finished f m ends e = absurd (cc)
unmarred_is (faulty c) f m ends e = absurd (cc)

not_finished : (e : Ending) (f : Bool) (m : Option PolarsError) → EndsAs e f m → e ≡ running → IsFalse f
not_finished running f m ends e = ends.0
not_finished finished f m ends e = absurd (cc)
not_finished (faulty c) f m ends e = absurd (cc)

module _ {N : Type 0} (Has : Options → N → SeenNode → Type 0) (rank : N → ℕ) (Update : N → Sides → N → Sides → Type 0) (F : Functions)
    (law : (o : Options) (a b : N) (x : SeenNode) (given answer : Sides) → Has o a x → Update a given b answer → (y : SeenNode) × UpdatesTo F o x given y answer × Has o b y) (w : World) (h : Held N) (stands : Stands Has w h)
    (goes : w.ending ≡ running) (shut : IsFalse w.is_open) (old new : Held N) where
  -- the journal, with memory for the records of the pieces out
  recorded : IsRecorded (w.phase + 1) old.journal new.journal → old.journal.records ≡ h.journal.records → journal_shown new.journal.records ≡ w.journal ++ opened (w.phase + 1) ∷ []
  recorded r same =
      ap journal_shown r.records ∙ map-append record_shown old.journal.records (entry.Open (w.phase + 1) ∷ []) ∙ ap (λ l. journal_shown l ++ opened (w.phase + 1) ∷ []) same ∙ ap (λ l. l ++ opened (w.phase + 1) ∷ []) stands.journal

  enough : IsRecorded (w.phase + 1) old.journal new.journal → h.options.workers + 1 ≤ old.journal.spare → length w.outs ≤ new.journal.spare
  enough r room =
      let few = few_out w.options.workers w.outs h.outs stands.outs in
      let workers = ap (λ (o : Options). o.workers) stands.options in
      let one = r.spare in
      omega (arith, few, workers, room, one)

  module _ (s : Standing N) (l : Leads Has rank Update F law w s) where
    abbrev led : World
    led = record w { nodes = l.nodes; pipes = l.pipes }

    led_shape : shape_of led ≡ shape_of w
    led_shape = same_shape l.nodes w.nodes l.still

    led_origins : origins_in l.nodes ≡ origins_in w.nodes
    led_origins = sym (map_twice (λ (x : Still). record { 0 = x.of.origin }) still_of l.nodes) ∙ ap (map (λ (x : Still). record { 0 = x.of.origin })) l.still ∙ map_twice (λ (x : Still). record { 0 = x.of.origin }) still_of w.nodes

    led_marks : map mark_of l.nodes ≡ map mark_of w.nodes
    led_marks =
        sym (map_twice (λ (x : Still). record { in_phase = x.in_phase; is_closed = x.is_closed }) still_of l.nodes) ∙ ap (map (λ (x : Still). record { in_phase = x.in_phase; is_closed = x.is_closed })) l.still
        ∙ map_twice (λ (x : Still). record { in_phase = x.in_phase; is_closed = x.is_closed }) still_of w.nodes

    led_pipes : AreShown (setting_of (shape_of led) w.options) l.pipes h.pipes
    led_pipes = subst (λ sh. AreShown (setting_of sh w.options) l.pipes h.pipes) (sym led_shape) (shown_alike (setting_of (shape_of w) w.options) w.pipes l.pipes h.pipes l.contents stands.pipes)

    led_have : HaveAll Has w.options (shape_of led) l.nodes s.nodes
    led_have = subst (λ sh. HaveAll Has w.options sh l.nodes s.nodes) (sym led_shape) l.have

  -- A FAULT
  module _ (Faults : N → Sides → PolarsError → Type 0) (find : (o : Options) (a : N) (x : SeenNode) (given : Sides) (e : PolarsError) → Has o a x → Faults a given e → (c : Cause) × FindsFault F o x given c × (at_node (record { 0 = x.node.origin }) e ≡ cause_error c))
      (origins : List Origin) (origins_are : origins ≡ origins_in w.nodes) (e : PolarsError) (fails : FaultsAfter rank Update Faults (standing_of h.graph) origins e) (l : Leads Has rank Update F law w fails.last) where
    found : (c : Cause) × FaultFound F (led fails.last l) fails.number c × (e ≡ cause_error c)
    found =
        let v = led fails.last l in
        let within = slice_get_within fails.last.nodes fails.number fails.node fails.stands in
        let long = l.have.long in
        let x = item_at l.nodes fails.number (omega (arith, within, long)) in
        let has = (led_have fails.last l).each fails.number x.0 fails.node x.1 fails.stands in
        let given : given_to fails.number fails.last.wires ≡ given_at v fails.number = ap (given_to fails.number) l.wires in
        let f = find w.options fails.node (seen_as (shape_of v) x.0 has.0) (given_at v fails.number) fails.fault has.1 (subst (λ g. Faults fails.node g fails.fault) given fails.faults) in
        let from : slice_get (origins_in l.nodes) fails.number ≡ Some fails.origin = ap (λ os. slice_get os fails.number) (led_origins fails.last l ∙ sym origins_are) ∙ fails.comes_from in
        let origin : record { 0 = x.0.node.origin } ≡ fails.origin =
        (let both : Some (record { 0 = x.0.node.origin }) ≡ Some fails.origin = sym (map_at (λ (y : Node). record { 0 = y.node.origin }) l.nodes fails.number x.0 x.1) ∙ from in cc) in
        let found : FaultFound F v fails.number f.0 = (
          x.0,
          x.1,
          elim f.1 [
            | inl shape ↦ inl (ap (λ hs. shape_fault x.0.node x.0.node.kind hs (given_at v fails.number)) (heads_are v fails.number x.0) ∙ shape)
            | inr broken ↦ inr broken
          ],
        ) in
        (f.0, found, fails.told ∙ ap (λ n. at_node n fails.fault) (sym origin) ∙ f.2)

    pub opens_broken : IsBrokenAs (w.phase + 1) e old new → old.options ≡ h.options → old.outs ≡ h.outs → old.is_open ≡ h.is_open → old.is_finished ≡ h.is_finished → old.journal.records ≡ h.journal.records → h.options.workers + 1 ≤ old.journal.spare
        → (v : World) × Steps F w (opened (w.phase + 1)) v × HasOpened Has v new
    opens_broken b options outs open_as fin same room =
        let f = found in
        let v = after_fault (led fails.last l) (w.phase + 1) f.0 in
        let opens : Opens F (led fails.last l) (w.phase + 1) v = breaks fails.number f.0 f.1 refl in
        let tells : Tells v new =
        record {
          options = ap (λ (x : Held N). x.options) b.is ∙ options ∙ stands.options;
          outs = subst (AreOut w.options.workers w.outs) (sym (ap (λ (x : Held N). x.outs) b.is ∙ outs)) stands.outs;
          phase = ap (λ (x : Held N). x.phase) b.is;
          open_as = ap (λ (x : Held N). x.is_open) b.is ∙ open_as ∙ stands.open_as;
          journal = recorded b.recorded same;
          spare = enough b.recorded room;
          ending = (ap (λ (x : Held N). x.is_finished) b.is ∙ fin ∙ not_finished w.ending h.is_finished h.fault stands.ending goes, ap (λ (x : Held N). x.fault) b.is ∙ ap Some f.2);
        } in
        (v, (shut, goes, refl, (led fails.last l, l.updates, opens)), inr (f.0, refl, tells))

  -- A PHASE
  module _ (HasPorts : N → ℕ → ℕ → Type 0) (can : CanRun HasPorts old.graph) (l : Leads Has rank Update F law w (standing_of old.graph)) (rest : IsSettled (led (standing_of old.graph) l)) (intensive : N → Bool)
      (keep : (o : Options) (a : N) (x : SeenNode) → Has o a x → intensive a ≡ is_intensive x.node.kind x.progress.stage) (origins : origins_of old.graph.nodes.slots ≡ origins_of h.graph.nodes.slots)
      (as_before : old ≡ record h { graph = old.graph; journal = old.journal }) (same : old.journal.records ≡ h.journal.records) (room : h.options.workers + 1 ≤ old.journal.spare) where
    abbrev there : World
    there = led (standing_of old.graph) l

    wires_same : wires_of old.graph.pipes.slots ≡ world_wires there
    wires_same = l.wires

    slots_long : length old.graph.nodes.slots ≡ length l.nodes
    slots_long = sym (length_there old.graph.nodes.slots can.linked.nodes_there) ∙ sym (length_map (λ (y : GraphNode N). y.compute) (values old.graph.nodes.slots)) ∙ l.have.long

    intensive_same : are_intensive intensive old.graph ≡ intensive_at there
    intensive_same = λ i n. intensive_alike Has intensive keep w.options (shape_of w) l.nodes (nodes_of old.graph.nodes.slots) l.have n i

    nodes_same : runnable_nodes intensive old.graph ≡ nodes_of_phase there
    nodes_same = λ i. phase_nodes (slots_long i) (intensive_same i) (wires_same i)

    abbrev is_there : Wire → Bool
    is_there = is_in_phase (length l.nodes) (intensive_at there) (world_wires there)

    pipes_same : runnable_pipes intensive old.graph ≡ places_from 0 (λ (p : Pipe). is_there p.wire) l.pipes
    pipes_same =
        let test : Wire → Bool = is_in_phase (length old.graph.nodes.slots) (are_intensive intensive old.graph) (wires_of old.graph.pipes.slots) in
        places_of wire_of test 0 (values old.graph.pipes.slots) ∙ (λ i. places_from 0 (is_in_phase (slots_long i) (intensive_same i) (wires_same i)) (wires_same i)) ∙ sym (places_of (λ (p : Pipe). p.wire) is_there 0 l.pipes)

    -- no phase is left exactly where no blocker is
    none_is : is_empty (runnable_nodes intensive old.graph) ≡ is_empty (blockers_in there)
    none_is = ap is_empty nodes_same ∙ as_empty (length l.nodes) (intensive_at there) (world_wires there)

    abbrev opened_if : Bool → World
    opened_if b = record (cond b (record there { ending = finished }) (with_phase there)) { phase = w.phase + 1; journal = w.journal ++ opened (w.phase + 1) ∷ [] }

    steps_there : Steps F w (opened (w.phase + 1)) (after_open there (w.phase + 1))
    steps_there = (shut, goes, refl, (there, l.updates, settles rest refl))

    origins_same : origins_of old.graph.nodes.slots ≡ origins_in l.nodes
    origins_same = origins ∙ stands.origins ∙ sym (led_origins (standing_of old.graph) l)

    stands_finished : IsFinishedAs (w.phase + 1) old new → Stands Has (opened_if true) new
    stands_finished b =
        let is : new ≡ record h { graph = old.graph; is_finished = true; phase = w.phase + 1; journal = new.journal } = b.is ∙ (λ i. record (as_before i) { is_finished = true; phase = w.phase + 1; journal = new.journal }) in
        subst (Stands Has (opened_if true)) (sym is)
        (record {
          options = stands.options;
          linked = can.linked;
          nodes = led_have (standing_of old.graph) l;
          origins = origins_same;
          wires = wires_same;
          marks = stands.marks ∙ sym (led_marks (standing_of old.graph) l);
          pipes = led_pipes (standing_of old.graph) l;
          outs = stands.outs;
          phase = refl;
          open_as = stands.open_as;
          journal = recorded b.recorded same;
          spare = enough b.recorded room;
          ending = (refl, unmarred_is w.ending h.is_finished h.fault stands.ending goes);
        })

    stands_marked : IsMarkedAs (w.phase + 1) (runnable_nodes intensive old.graph) (runnable_pipes intensive old.graph) old new → Stands Has (opened_if false) new
    stands_marked b =
        let ns = nodes_of_phase there in
        let nodes : List Node = marked_nodes ns 0 l.nodes in
        let cores : map core nodes ≡ map core l.nodes = marked_alike core (λ x c. refl) ns 0 l.nodes in
        let shapes : map (λ (x : Node). x.node) nodes ≡ map (λ (x : Node). x.node) l.nodes = marked_alike (λ (x : Node). x.node) (λ x c. refl) ns 0 l.nodes in
        let old_marks : old.marks.list.items ≡ map mark_of l.nodes = ap (λ (x : Held N). x.marks.list.items) as_before ∙ stands.marks ∙ sym (led_marks (standing_of old.graph) l) in
        let old_pipes : AreShown (setting_of (shape_of there) w.options) l.pipes old.pipes = subst (AreShown (setting_of (shape_of there) w.options) l.pipes) (sym (ap (λ (x : Held N). x.pipes) as_before)) (led_pipes (standing_of old.graph) l) in
        let is : new ≡ record h { graph = old.graph; marks = new.marks; pipes = new.pipes; is_open = true; phase = w.phase + 1; journal = new.journal } =
        b.is ∙ (λ i. record (as_before i) { marks = new.marks; pipes = new.pipes; is_open = true; phase = w.phase + 1; journal = new.journal }) in
        subst (Stands Has (opened_if false)) (sym is)
        (record {
          options = stands.options;
          linked = can.linked;
          nodes = have_alike Has w.options l.nodes nodes (nodes_of old.graph.nodes.slots) cores (led_have (standing_of old.graph) l);
          origins = origins_same ∙ sym (marked_alike (λ (x : Node). record { 0 = x.node.origin }) (λ x c. refl) ns 0 l.nodes);
          wires = wires_same ∙ sym (map_twice (λ (p : Pipe). p.wire) (λ (p : Pipe). phase_pipe (is_there p.wire) p) l.pipes);
          marks = b.marks ∙ (λ i. phase_marks (nodes_same i) 0 (old_marks i)) ∙ marks_are ns 0 l.nodes;
          pipes = subst (λ sh. AreShown (setting_of sh w.options) (map (λ (p : Pipe). phase_pipe (is_there p.wire) p) l.pipes) new.pipes) (sym shapes) (b.pipes (setting_of (shape_of there) w.options) l.pipes is_there old_pipes pipes_same);
          outs = stands.outs;
          phase = refl;
          open_as = refl;
          journal = recorded b.recorded same;
          spare = enough b.recorded room;
          ending = stands.ending;
        })

    pub opens_begun : IsBegun intensive (w.phase + 1) old new → (v : World) × Steps F w (opened (w.phase + 1)) v × HasOpened Has v new
    opens_begun (none_left none b) = (after_open there (w.phase + 1), steps_there, inl (subst (λ c. Stands Has (opened_if c) new) (sym (empty_is (runnable_nodes intensive old.graph) none) ∙ none_is) (stands_finished b)))
    opens_begun (one_opens some b) = (after_open there (w.phase + 1), steps_there, inl (subst (λ c. Stands Has (opened_if c) new) (sym (filled_is (runnable_nodes intensive old.graph) some) ∙ none_is) (stands_marked b)))

-- WHAT A CALL ANSWERS
pub on_ok : {A E P Q : Type 0} (r : Result A E) → (P → Q) → OnOk r P → OnOk r Q
on_ok (Ok x) f p = f p
on_ok (Err e) f p = tt

pub on_err : {A E P Q : Type 0} (r : Result A E) → (P → Q) → OnErr r P → OnErr r Q
on_err (Ok x) f p = tt
on_err (Err e) f p = f p

module _ {N : Type 0} (Has : Options → N → SeenNode → Type 0) (rank : N → ℕ) (Update : N → Sides → N → Sides → Type 0) (F : Functions)
    (law : (o : Options) (a b : N) (x : SeenNode) (given answer : Sides) → Has o a x → Update a given b answer → (y : SeenNode) × UpdatesTo F o x given y answer × Has o b y) (w : World) (h : Held N) (stands : Stands Has w h)
    (plain : IsPlain w) (goes : w.ending ≡ running) (shut : IsFalse w.is_open) (phase : ℕ) (phase_is : phase ≡ h.phase + 1) (old new : Held N) (as_before : old ≡ record h { graph = old.graph; journal = old.journal })
    (same : old.journal.records ≡ h.journal.records) (room : h.options.workers + 1 ≤ old.journal.spare) where
  next_phase : phase ≡ w.phase + 1
  next_phase = phase_is ∙ ap (λ n. n + 1) stands.phase

  leads_to : (t : Standing N) → GraphUpdates rank Update (standing_of h.graph) t → Leads Has rank Update F law w t
  leads_to t reached = leads Has rank Update F law w plain (standing_of h.graph) t reached (at_first Has rank Update F law w (standing_of h.graph) stands.nodes stands.wires)

  pub begins_phase : (HasPorts : N → ℕ → ℕ → Type 0) (laws : KeepsUpdateLaws rank Update) (again : (o : Options) (a b : N) (y : SeenNode) (given answer : Sides) → Has o b y → Update a given b answer → rank a ≡ rank b → UpdatesTo F o y given y answer)
      (intensive : N → Bool) (keep : (o : Options) (a : N) (x : SeenNode) → Has o a x → intensive a ≡ is_intensive x.node.kind x.progress.stage) → CanRun HasPorts old.graph → GraphUpdates rank Update (standing_of h.graph) (standing_of old.graph)
      → IsSettledGraph rank Update (standing_of old.graph) → origins_of old.graph.nodes.slots ≡ origins_of h.graph.nodes.slots → IsBegun intensive phase old new → (v : World) × Steps F w (opened (w.phase + 1)) v × HasOpened Has v new
  begins_phase HasPorts laws again intensive keep can reached settled origins begun =
      let l = leads_to (standing_of old.graph) reached in
      let rest = settled_world Has rank Update F law laws again w plain (standing_of old.graph) l can.wired settled in
      opens_begun Has rank Update F law w h stands goes shut old new HasPorts can l rest intensive keep origins as_before same room (subst (λ n. IsBegun intensive n old new) next_phase begun)

  pub breaks_off : (Faults : N → Sides → PolarsError → Type 0)
      (find : (o : Options) (a : N) (x : SeenNode) (given : Sides) (e : PolarsError) → Has o a x → Faults a given e → (c : Cause) × FindsFault F o x given c × (at_node (record { 0 = x.node.origin }) e ≡ cause_error c)) (e : PolarsError)
      → MayFail rank Update Faults (standing_of h.graph) (origins_of h.graph.nodes.slots) e → (e ≢ error.OutOfMemory) × IsBrokenAs phase e old new → (v : World) × Steps F w (opened (w.phase + 1)) v × HasOpened Has v new
  breaks_off Faults find e (inl none) broken = absurd (broken.0 none)
  breaks_off Faults find e (inr fails) broken =
      opens_broken Has rank Update F law w h stands goes shut old new Faults find (origins_of h.graph.nodes.slots) stands.origins e fails (leads_to fails.last fails.reached) (subst (λ n. IsBrokenAs n e old new) next_phase broken.1)
      (ap (λ (x : Held N). x.options) as_before) (ap (λ (x : Held N). x.outs) as_before) (ap (λ (x : Held N). x.is_open) as_before) (ap (λ (x : Held N). x.is_finished) as_before) same room
