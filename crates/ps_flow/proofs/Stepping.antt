-- Which world of the definitions a world is after a close and at the end of a phase.
use Rattle.std.proofs.Common.{◌≡◌, ℕ, zero, suc, ◌+◌, ◌<◌, ◌≤◌, Bool, true, false, cond, List, [], ◌∷◌, ◌++◌, length, set, Option, Some, None, inr, refl, sym, ap, subst, ◌∙◌, arith}
use Rattle.std.specs.Prelude.{◌&&◌, IsTrue, count_by, map, nat_eq, slice_get}
use Rattle.std.proofs.lemmas.List.{map-append}
use Rattle.std.proofs.lemmas.Option.{slice_get_within}
use Rattle.keyed_slots.specs.Slots.{value_at}
use Rattle.ps_flow.specs.Marked.{closed_at, mark_of, unmarked}
use Rattle.ps_flow.specs.Standing.{EndsAs, HaveAll, Stands, origins_in, seen_as, setting_of}
use Rattle.ps_flow.specs.declared.marks.Mark.{Mark}
use Rattle.ps_flow.specs.declared.marks.Marks.{Marks}
use Rattle.ps_flow.specs.declared.world.World.{World as Held}
use Rattle.ps_frame.specs.declared.refusal.PolarsError.{PolarsError}
use Rattle.ps_frame.specs.declared.refusal.PolarsError.TheVariants as error
use Rattle.ps_graph.proofs.Ordering.{count-map}
use Rattle.ps_graph.proofs.Places.{length_there, value_there}
use Rattle.ps_graph.specs.declared.graph.Graph.{Graph}
use Rattle.ps_graph.specs.declared.graph.GraphNode.{GraphNode}
use Rattle.ps_graph.specs.Shown.{IsLinked, nodes_of, numbers, places_from, values, wire_of, wires_of}
use Rattle.ps_meaning.specs.Errors.{cause_error}
use Rattle.ps_meaning.specs.Shape.{PhysicalNode, Shape}
use Rattle.ps_meaning.specs.Sound.{input_schemas}
use Rattle.ps_options.specs.declared.options.Options.{Options}
use Rattle.ps_outs.proofs.Counting.{few_out}
use Rattle.ps_ports.specs.Wires.{Wire}
use Rattle.ps_settle.proofs.Members.{at_map, item_at, length_map, map_at, map_twice}
use Rattle.ps_turns.specs.Progress.{Progress}
use Rattle.ps_world.specs.Closing.{after_close, after_end}
use Rattle.ps_world.specs.Pipes.{change_pipes}
use Rattle.ps_world.specs.World.{Ending, Node, Pipe, World, ended, faulty, finished, running, shape_of}
use Rattle.turn_laws.specs.Updating.{SeenNode}
use Rattle.world_pipes.specs.Shown.{AreShown, Setting, closed_pipe, ended_pipe}
use Rattle.world_records.specs.Shown.{is_claimed, journal_shown, record_shown}
use Rattle.world_records.specs.Journals.{Written, claims_of}
use Rattle.world_records.specs.declared.records.Record.{Record}
use Rattle.world_records.specs.declared.records.Record.TheVariants as entry
use Rattle.world_pipes.specs.declared.pipes.Pipes.{Pipes}

-- what a step leaves of a node that only changes its marks
pub record Core : Type 0 where
  of : PhysicalNode
  behind : Progress

abbrev pub core : Node → Core
core x = record { of = x.node; behind = x.progress }

pub places_map : {A B : Type 0} (f : A → B) (test : B → Bool) (k : ℕ) (xs : List A) → places_from k (λ x. test (f x)) xs ≡ places_from k test (map f xs)
places_map f test k [] = refl
places_map f test k (x ∷ xs) = ap (λ l. cond (test (f x)) (k ∷ l) l) (places_map f test (k + 1) xs)

pub set_alike : {A B : Type 0} (f : A → B) (xs : List A) (n : ℕ) (x y : A) → slice_get xs n ≡ Some x → f y ≡ f x → map f (set xs n y) ≡ map f xs
set_alike f [] n x y at e = refl
set_alike f (z ∷ zs) zero x y at e = let is : z ≡ x = (let both : Some z ≡ Some x = at in cc) in ap (λ b. b ∷ map f zs) (e ∙ ap f (sym is))
set_alike f (z ∷ zs) (suc n) x y at e = ap (λ l. f z ∷ l) (set_alike f zs n x y at e)

pub same_wires : (f : Pipe → Pipe) → ((p : Pipe) → (f p).wire ≡ p.wire) → (test : Pipe → Bool) (ps : List Pipe) → map (λ (p : Pipe). p.wire) (change_pipes test f ps) ≡ map (λ (p : Pipe). p.wire) ps
same_wires f same test [] = refl
same_wires f same test (p ∷ ps) = λ i. one (test p) i ∷ same_wires f same test ps i
  where
    one : (b : Bool) → (cond b (f p) p).wire ≡ p.wire
    one true = same p
    one false = refl

closed_marks : (xs : List Node) (n : ℕ) (x : Node) → slice_get xs n ≡ Some x → closed_at n (map mark_of xs) ≡ map mark_of (set xs n (record x { is_closed = true }))
closed_marks [] n x at = refl
closed_marks (z ∷ zs) zero x at = let is : z ≡ x = (let both : Some z ≡ Some x = at in cc) in ap (λ (y : Node). mark_of (record y { is_closed = true }) ∷ map mark_of zs) is
closed_marks (z ∷ zs) (suc n) x at = ap (λ l. mark_of z ∷ l) (closed_marks zs n x at)

abbrev ended_node : Node → Node
ended_node n = record n { in_phase = false; is_closed = false }

ended_marks : (xs : List Node) → map (λ (m : Mark). unmarked) (map mark_of xs) ≡ map mark_of (map ended_node xs)
ended_marks [] = refl
ended_marks (x ∷ xs) = ap (λ l. unmarked ∷ l) (ended_marks xs)

module _ {N : Type 0} (g : Graph N) (linked : IsLinked g) (ps : List Pipe) (wires : wires_of g.pipes.slots ≡ map (λ (p : Pipe). p.wire) ps) where
  -- a node's keys of what leaves it are those of the world's pipes that do
  pub keys_out : (n : ℕ) (x : GraphNode N) → value_at g.nodes.slots n ≡ Some x → numbers x.outputs.items ≡ places_from 0 (λ (p : Pipe). nat_eq p.wire.sender n) ps
  keys_out n x at =
      linked.outputs n x at ∙ places_map wire_of (λ (p : Wire). nat_eq p.sender n) 0 (values g.pipes.slots) ∙ ap (places_from 0 (λ (p : Wire). nat_eq p.sender n)) wires
      ∙ sym (places_map (λ (p : Pipe). p.wire) (λ (p : Wire). nat_eq p.sender n) 0 ps)

  pub is_there : (n : ℕ) → n < length g.nodes.slots → value_at g.nodes.slots n ≡ None → ⊥
  is_there n within none =
      let long = length_there g.nodes.slots linked.nodes_there in
      let x = item_at (values g.nodes.slots) n (omega (arith, within, long)) in
      absurd (let clash : None ≡ Some x.0 = sym none ∙ value_there g.nodes.slots linked.nodes_there n ∙ x.1 in cc)

module _ {N : Type 0} (Has : Options → N → SeenNode → Type 0) where
  -- what a node is seen as hangs on its core alone
  abbrev seen_of : Shape → Core → List Bool → SeenNode
  seen_of shape c es = record { node = c.of; schemas = input_schemas shape c.of; empties = es; progress = c.behind }

  pub shape_alike : (xs ys : List Node) → map core ys ≡ map core xs → map (λ (n : Node). n.node) ys ≡ map (λ (n : Node). n.node) xs
  shape_alike xs ys e = sym (map_twice (λ (c : Core). c.of) core ys) ∙ ap (map (λ (c : Core). c.of)) e ∙ map_twice (λ (c : Core). c.of) core xs

  pub have_alike : (o : Options) (xs ys : List Node) (ns : List N) → map core ys ≡ map core xs → HaveAll Has o (map (λ (n : Node). n.node) xs) xs ns → HaveAll Has o (map (λ (n : Node). n.node) ys) ys ns
  have_alike o xs ys ns e all =
      record {
        long = all.long ∙ sym (length_map core xs) ∙ ap length (sym e) ∙ length_map core ys;
        each = λ k y n at there.
            let x = at_map core xs k (core y) (ap (λ l. slice_get l k) (sym e) ∙ map_at core ys k y at) in
            let has = all.each k x.0 n x.1 there in
            (has.0, subst (λ (sh : Shape). Has o n (seen_as sh y has.0)) (sym (shape_alike xs ys e)) (subst (λ (c : Core). Has o n (seen_of (map (λ (m : Node). m.node) xs) c has.0)) x.2 has.1));
      }

  origins_alike : (xs ys : List Node) → map core ys ≡ map core xs → origins_in xs ≡ origins_in ys
  origins_alike xs ys e = sym (map_twice (λ (c : Core). record { 0 = c.of.origin }) core xs) ∙ ap (map (λ (c : Core). record { 0 = c.of.origin })) (sym e) ∙ map_twice (λ (c : Core). record { 0 = c.of.origin }) core ys

  module _ (w : World) (h : Held N) (stands : Stands Has w h) where
    -- the records, with memory for those of the pieces out
    pub journal_more : (r : Record) (rs : List Record) → rs ≡ h.journal.records ++ r ∷ [] → journal_shown rs ≡ w.journal ++ record_shown r ∷ []
    journal_more r rs is = ap journal_shown is ∙ map-append record_shown h.journal.records (r ∷ []) ∙ ap (λ l. l ++ record_shown r ∷ []) stands.journal

    pub spare_left : (n m k : ℕ) → h.options.workers + 1 ≤ n → n ≡ m → k + 1 ≡ m → length w.outs ≤ k
    spare_left n m k room same one =
        let few = few_out w.options.workers w.outs h.outs stands.outs in
        let workers = ap (λ o. o.workers) stands.options in
        omega (arith, few, workers, room, same, one)

    pub inside : (n : ℕ) (x : Node) → slice_get w.nodes n ≡ Some x → n < length h.graph.nodes.slots
    inside n x at =
        let within = slice_get_within w.nodes n x at in
        let long = stands.nodes.long in
        let mapped = length_map (λ (y : GraphNode N). y.compute) (values h.graph.nodes.slots) in
        let there = length_there h.graph.nodes.slots stands.linked.nodes_there in
        omega (arith, within, long, mapped, there)

    pub closes : (n : ℕ) (x : Node) (marks : Marks) (pipes : Pipes) (reserved written : Written) → slice_get w.nodes n ≡ Some x → marks.list.items ≡ closed_at n h.marks.list.items
        → ((s : Setting) (ps : List Pipe) → IsLinked h.graph → wires_of h.graph.pipes.slots ≡ map (λ (p : Pipe). p.wire) ps → n < length h.graph.nodes.slots → AreShown s ps h.pipes → AreShown s (change_pipes (λ p. nat_eq p.wire.sender n && p.in_phase) closed_pipe ps) pipes)
        → reserved.records ≡ h.journal.records → h.options.workers + 1 ≤ reserved.spare → written.records ≡ reserved.records ++ entry.Close n ∷ [] → written.spare + 1 ≡ reserved.spare
        → Stands Has (after_close w n x) (record h { marks = marks; pipes = pipes; journal = written })
    closes n x marks pipes reserved written at marked close same room more one =
        let test : Pipe → Bool = λ p. nat_eq p.wire.sender n && p.in_phase in
        let nodes' : List Node = set w.nodes n (record x { is_closed = true }) in
        let cores : map core nodes' ≡ map core w.nodes = set_alike core w.nodes n x (record x { is_closed = true }) at refl in
        record {
          options = stands.options;
          linked = stands.linked;
          nodes = have_alike w.options w.nodes nodes' (nodes_of h.graph.nodes.slots) cores stands.nodes;
          origins = stands.origins ∙ origins_alike w.nodes nodes' cores;
          wires = stands.wires ∙ sym (same_wires closed_pipe (λ p. refl) test w.pipes);
          marks = marked ∙ ap (closed_at n) stands.marks ∙ closed_marks w.nodes n x at;
          pipes = subst (λ sh. AreShown (setting_of sh w.options) (change_pipes test closed_pipe w.pipes) pipes) (sym (shape_alike w.nodes nodes' cores)) (close (setting_of (shape_of w) w.options) w.pipes stands.linked stands.wires (inside n x at) stands.pipes);
          outs = stands.outs;
          phase = stands.phase;
          open_as = stands.open_as;
          journal = journal_more (entry.Close n) written.records (more ∙ ap (λ l. l ++ entry.Close n ∷ []) same);
          spare = spare_left reserved.spare reserved.spare written.spare room refl one;
          ending = stands.ending;
        }

    pub ends : (marks : Marks) (pipes : Pipes) (reserved written : Written) → marks.list.items ≡ map (λ (m : Mark). unmarked) h.marks.list.items
        → ((s : Setting) (ps : List Pipe) → AreShown s ps h.pipes → AreShown s (map ended_pipe ps) pipes) → reserved.records ≡ h.journal.records → h.options.workers + 1 ≤ reserved.spare
        → written.records ≡ reserved.records ++ entry.End h.phase ∷ [] → written.spare + 1 ≡ reserved.spare → Stands Has (after_end w) (record h { marks = marks; pipes = pipes; is_open = false; journal = written })
    ends marks pipes reserved written marked end same room more one =
        let nodes' : List Node = map ended_node w.nodes in
        let cores : map core nodes' ≡ map core w.nodes = map_twice core ended_node w.nodes in
        record {
          options = stands.options;
          linked = stands.linked;
          nodes = have_alike w.options w.nodes nodes' (nodes_of h.graph.nodes.slots) cores stands.nodes;
          origins = stands.origins ∙ origins_alike w.nodes nodes' cores;
          wires = stands.wires ∙ sym (map_twice (λ (p : Pipe). p.wire) ended_pipe w.pipes);
          marks = marked ∙ ap (map (λ (m : Mark). unmarked)) stands.marks ∙ ended_marks w.nodes;
          pipes = subst (λ sh. AreShown (setting_of sh w.options) (map ended_pipe w.pipes) pipes) (sym (shape_alike w.nodes nodes' cores)) (end (setting_of (shape_of w) w.options) w.pipes stands.pipes);
          outs = stands.outs;
          phase = stands.phase;
          open_as = refl;
          journal = journal_more (entry.End h.phase) written.records (more ∙ ap (λ l. l ++ entry.End h.phase ∷ []) same) ∙ ap (λ n. w.journal ++ ended n ∷ []) stands.phase;
          spare = spare_left reserved.spare reserved.spare written.spare room refl one;
          ending = stands.ending;
        }

    marred : (e : Ending) (f : Bool) → EndsAs e f None → EndsAs e f (Some error.OutOfMemory)
    marred running f m = (m.0, inr refl)
    marred finished f m = (m.0, inr refl)
    marred (faulty c) f m = absurd (let no : None ≡ Some (cause_error c) = m.1 in cc)

    pub runs_short : h.fault ≡ None → Stands Has w (record h { fault = Some error.OutOfMemory })
    runs_short none =
        record {
          options = stands.options;
          linked = stands.linked;
          nodes = stands.nodes;
          origins = stands.origins;
          wires = stands.wires;
          marks = stands.marks;
          pipes = stands.pipes;
          outs = stands.outs;
          phase = stands.phase;
          open_as = stands.open_as;
          journal = stands.journal;
          spare = stands.spare;
          ending = marred w.ending h.is_finished (subst (EndsAs w.ending h.is_finished) none stands.ending);
        }

    finished-by : (e : Ending) (f : Bool) (x : Option PolarsError) → EndsAs e f x → (IsTrue f → e ≡ finished) × (e ≡ finished → IsTrue f)
    finished-by running f x m = ((λ t. absurd (let clash : true ≡ false = sym t ∙ m.0 in cc)), λ e. absurd (cc))
    finished-by finished f x m = ((λ t. refl), λ e. m.0)
    finished-by (faulty c) f x m = ((λ t. absurd (let clash : true ≡ false = sym t ∙ m.0 in cc)), λ e. absurd (cc))

    pub finished_is : (IsTrue h.is_finished → w.ending ≡ finished) × (w.ending ≡ finished → IsTrue h.is_finished)
    finished_is = finished-by w.ending h.is_finished h.fault stands.ending

    pub claims_are : claims_of h.journal.records ≡ count_by is_claimed w.journal
    claims_are = sym (count-map record_shown is_claimed h.journal.records) ∙ ap (count_by is_claimed) stands.journal
