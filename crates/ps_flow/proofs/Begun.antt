-- The world in which a run begins stands for the opening of its shape.
use Rattle.std.proofs.Common.{◌≡◌, ◌≢◌, ℕ, zero, suc, ◌+◌, ◌<◌, Bool, List, [], ◌∷◌, ◌++◌, length, map-id, Option, None, Some, inl, inr, refl, sym, ap, subst, ◌∙◌, arith}
use Rattle.std.specs.Prelude.{IsTrue, map, not, replicate, slice_get, slice_set, take}
use Rattle.std.proofs.lemmas.Bool.{cases_eq}
use Rattle.std.proofs.lemmas.List.{length-set, map-append}
use Rattle.keyed_slots.specs.Slots.{SlotList, value_at}
use Rattle.ps_flow.proofs.Seeing.{contents_of, shown_alike}
use Rattle.ps_flow.specs.Marked.{mark_of, unmarked}
use Rattle.ps_flow.specs.Openings.{AreBounds, AreStarted, IsBuiltOf, IsStarted, IsUnbounded, OneStarted, empty_pipe}
use Rattle.ps_flow.specs.Standing.{HaveAll, Stands, bounds_if, seen_as, setting_of}
use Rattle.ps_flow.specs.declared.marks.Marks.{Marks}
use Rattle.ps_frame.specs.Tables.{Fields}
use Rattle.ps_graph.proofs.Places.{all_there, length_there, value_there}
use Rattle.ps_graph.proofs.Telling.{value_other, value_set}
use Rattle.ps_graph.proofs.Turning.{linked_alike}
use Rattle.ps_graph.specs.Linked.{joined}
use Rattle.ps_graph.specs.Shown.{IsLinked, are_there, nodes_of, values, wire_of, wires_of}
use Rattle.ps_graph.specs.Turning.{origins_of}
use Rattle.ps_graph.specs.declared.graph.Graph.{Graph}
use Rattle.ps_graph.specs.declared.graph.GraphNode.{GraphNode}
use Rattle.ps_graph.specs.declared.graph.LogicalPipe.{LogicalPipe}
use Rattle.ps_meaning.specs.Shape.{PhysicalNode, Shape}
use Rattle.ps_meaning.specs.Sound.{input_schemas}
use Rattle.ps_options.specs.declared.options.Options.{Options}
use Rattle.ps_outs.specs.Out.{AreOut}
use Rattle.ps_outs.specs.declared.outs.Outs.{Outs}
use Rattle.ps_ports.specs.declared.port_state.PortState.TheVariants as port
use Rattle.ps_settle.proofs.Members.{at_both, at_map, contains_at, item_at, length_map, map_at, map_twice, same_items}
use Rattle.ps_world.specs.Opening.{fresh_node, fresh_pipe, opening, pipes_from, pipes_to}
use Rattle.ps_world.specs.World.{Node, Pipe, shape_of}
use Rattle.turn_laws.specs.Updating.{SeenNode}
use Rattle.world_pipes.specs.Shown.{AreShown, Setting}
use Rattle.world_pipes.specs.declared.pipes.Pipes.{Pipes}
use Rattle.world_records.specs.Journals.{Written}
use Rattle.world_records.specs.Shown.{journal_shown}

-- a value stands inside
pub value_within : {A : Type 0} (xs : List (Option A)) (k : ℕ) (x : A) → value_at xs k ≡ Some x → k < length xs
value_within [] k x e = absurd (let clash : None ≡ Some x = e in cc)
value_within (y ∷ ys) zero x e = omega arith
value_within (y ∷ ys) (suc k) x e = let rest = value_within ys k x e in omega (arith, rest)

take-more : {A : Type 0} (xs : List A) (i : ℕ) (x : A) → slice_get xs i ≡ Some x → take (i + 1) xs ≡ take i xs ++ x ∷ []
take-more [] i x e = absurd (let clash : None ≡ Some x = e in cc)
take-more (y ∷ ys) zero x e = let is : y ≡ x = (let both : Some y ≡ Some x = e in cc) in ap (λ z. z ∷ []) is
take-more (y ∷ ys) (suc i) x e =
    let next : suc i + 1 ≡ suc (i + 1) = omega arith in
    ap (λ n. take n (y ∷ ys)) next ∙ ap (λ l. y ∷ l) (take-more ys i x e)

module _ {N : Type 0} (Has : Options → N → SeenNode → Type 0) (IsNew : N → PhysicalNode → List Fields → Type 0) (o : Options) where
  pub none_started : (old : List (Option (GraphNode N))) → AreStarted Has IsNew o 0 old old
  none_started old = record { long = refl; others = λ k h. refl; done = λ k x h e. absurd (omega (arith, h)) }

  pub next_started : (i number : ℕ) (old mid new : List (Option (GraphNode N))) (x : GraphNode N) → number ≡ i → value_at mid number ≡ Some x → AreStarted Has IsNew o i old mid → OneStarted Has IsNew o number x mid new → AreStarted Has IsNew o (i + 1) old new
  next_started i number old mid new x is at so_far one =
      record {
        long = ap length one.next ∙ length-set mid number (Some (record x { compute = one.after })) ∙ so_far.long;
        others = λ k h. away k (omega (arith, h, is)) ∙ so_far.others k (omega (arith, h));
        done = λ k z h e. elim (cases_eq k i) [
          | inl here ↦
              let at_k : k ≡ number = here ∙ sym is in
              let before : value_at mid k ≡ value_at old k = so_far.others k (omega (arith, here)) in
              let same : x ≡ z = (let both : Some x ≡ Some z = sym at ∙ ap (value_at mid) (sym at_k) ∙ before ∙ e in cc) in
              let now : value_at new k ≡ Some (record x { compute = one.after }) = ap (λ l. value_at l k) one.next ∙ ap (value_at (slice_set mid number (Some (record x { compute = one.after })))) at_k ∙ value_set mid number x (record x { compute = one.after }) at in
              (one.after, subst (λ (y : GraphNode N). IsStarted Has IsNew o y.compute one.after) same one.started, now ∙ ap (λ (y : GraphNode N). Some (record y { compute = one.after })) same)
          | inr other ↦ let d = so_far.done k z (omega (arith, h, other)) e in (d.0, d.1, away k (λ same. other (same ∙ is)) ∙ d.2)
        ];
      }
    where
      away : (k : ℕ) → k ≢ number → value_at new k ≡ value_at mid k
      away k other = ap (λ l. value_at l k) one.next ∙ value_other mid number k (Some (record x { compute = one.after })) other

  -- it is still to be told
  pub still_there : (i number : ℕ) (old mid : List (Option (GraphNode N))) → number ≡ i → i < length old → IsTrue (are_there old) → AreStarted Has IsNew o i old mid → (x : GraphNode N) × (value_at mid number ≡ Some x)
  still_there i number old mid is inside there so_far =
      let long = length_there old there in
      let x = item_at (values old) i (omega (arith, inside, long)) in
      (x.0, ap (value_at mid) is ∙ so_far.others i (omega arith) ∙ value_there old there i ∙ x.1)

-- PIPES
pub empties_to : (n i : ℕ) (qs : List (ℕ × ℕ)) → map empty_pipe (map (λ (p : Pipe). p.wire) (pipes_to n i qs)) ≡ pipes_to n i qs
empties_to n i [] = refl
empties_to n i (q ∷ qs) = let rest = empties_to n (i + 1) qs in λ j. empty_pipe (record { sender = q.0; port = q.1; receiver = n; input = i; send_state = port.Blocked; receive_state = port.Blocked }) ∷ rest j

pub empties_from : (shape : Shape) (n : ℕ) → map empty_pipe (map (λ (p : Pipe). p.wire) (pipes_from shape n)) ≡ pipes_from shape n
empties_from [] n = refl
empties_from (p ∷ ps) n =
    ap (map empty_pipe) (map-append (λ (q : Pipe). q.wire) (pipes_to n 0 p.inputs) (pipes_from ps (n + 1))) ∙ map-append empty_pipe (map (λ (q : Pipe). q.wire) (pipes_to n 0 p.inputs)) (map (λ (q : Pipe). q.wire) (pipes_from ps (n + 1)))
    ∙ (λ j. empties_to n 0 p.inputs j ++ empties_from ps (n + 1) j)

-- MARKS
pub unmarked_all : (shape : Shape) → replicate (length shape) unmarked ≡ map mark_of (map fresh_node shape)
unmarked_all [] = refl
unmarked_all (p ∷ ps) = ap (λ l. unmarked ∷ l) (unmarked_all ps)

module _ {N : Type 0} (Has : Options → N → SeenNode → Type 0) (IsNew : N → PhysicalNode → List Fields → Type 0) (options : Options) (g : Graph N) (linked : IsLinked g) (g' : Graph N) (pipes_stay : g'.pipes ≡ g.pipes)
    (started : AreStarted Has IsNew options (length g.nodes.slots) g.nodes.slots g'.nodes.slots) where
  was : (k : ℕ) (y : GraphNode N) → value_at g'.nodes.slots k ≡ Some y → (x : GraphNode N) × (value_at g.nodes.slots k ≡ Some x) × IsStarted Has IsNew options x.compute y.compute × (y ≡ record x { compute = y.compute })
  was k y at =
      let within = value_within g'.nodes.slots k y at in
      let long = started.long in
      let there = length_there g.nodes.slots linked.nodes_there in
      let x = item_at (values g.nodes.slots) k (omega (arith, within, long, there)) in
      let at_x : value_at g.nodes.slots k ≡ Some x.0 = value_there g.nodes.slots linked.nodes_there k ∙ x.1 in
      let d = started.done k x.0 (omega (arith, within, long)) at_x in
      let same : record x.0 { compute = d.0 } ≡ y = (let both : Some (record x.0 { compute = d.0 }) ≡ Some y = sym d.2 ∙ at in cc) in
      let after : d.0 ≡ y.compute = ap (λ (z : GraphNode N). z.compute) same in
      (x.0, at_x, subst (IsStarted Has IsNew options x.0.compute) after d.1, sym same ∙ ap (λ c. record x.0 { compute = c }) after)

  pub all_stand : IsTrue (are_there g'.nodes.slots)
  all_stand = all_there g'.nodes.slots (λ k h.
      let long = started.long in
      let there = length_there g.nodes.slots linked.nodes_there in
      let x = item_at (values g.nodes.slots) k (omega (arith, h, long, there)) in
      let d = started.done k x.0 (omega (arith, h, long)) (value_there g.nodes.slots linked.nodes_there k ∙ x.1) in
      (record x.0 { compute = d.0 }, d.2))

  pub started_linked : IsLinked g'
  started_linked =
      linked_alike g g' linked all_stand started.long
      (record {
        there = subst (λ (ps : SlotList LogicalPipe). IsTrue (are_there ps.slots)) (sym pipes_stay) linked.pipes_there;
        long = ap (λ (ps : SlotList LogicalPipe). length ps.slots) pipes_stay;
        alike = ap (λ (ps : SlotList LogicalPipe). map joined (values ps.slots)) pipes_stay;
      })
      (λ k y at. let x = was k y at in (x.0, x.1, ap (λ (z : GraphNode N). z.inputs) x.3, ap (λ (z : GraphNode N). z.outputs) x.3))

  both_long : length (values g'.nodes.slots) ≡ length (values g.nodes.slots)
  both_long = length_there g'.nodes.slots all_stand ∙ started.long ∙ sym (length_there g.nodes.slots linked.nodes_there)

  started_origins : origins_of g'.nodes.slots ≡ origins_of g.nodes.slots
  started_origins =
      same_items (origins_of g'.nodes.slots) (origins_of g.nodes.slots) (length_map (λ (n : GraphNode N). n.origin) (values g'.nodes.slots) ∙ both_long ∙ sym (length_map (λ (n : GraphNode N). n.origin) (values g.nodes.slots)))
      (λ k a b at_a at_b.
      let y = at_map (λ (n : GraphNode N). n.origin) (values g'.nodes.slots) k a at_a in
      let x = was k y.0 (value_there g'.nodes.slots all_stand k ∙ y.1) in
      let z = at_map (λ (n : GraphNode N). n.origin) (values g.nodes.slots) k b at_b in
      let same : x.0 ≡ z.0 = at_both (values g.nodes.slots) k x.0 z.0 (sym (value_there g.nodes.slots linked.nodes_there k) ∙ x.1) z.1 in
      sym y.2 ∙ ap (λ (n : GraphNode N). n.origin) x.3 ∙ ap (λ (n : GraphNode N). n.origin) same ∙ z.2)

  module _ (shape : Shape) (built : IsBuiltOf IsNew shape g) where
    its_shape : shape_of (opening shape options) ≡ shape
    its_shape = map_twice (λ (n : Node). n.node) fresh_node shape ∙ map-id shape

    -- each node is the shape's, with nothing behind it
    node_at : (k : ℕ) (p : PhysicalNode) (y : GraphNode N) → slice_get shape k ≡ Some p → value_at g'.nodes.slots k ≡ Some y → (es : List Bool) × Has options y.compute (seen_as shape (fresh_node p) es)
    node_at k p y at_p at_y =
        let x = was k y at_y in
        let there : slice_get (nodes_of g.nodes.slots) k ≡ Some x.0.compute = map_at (λ (n : GraphNode N). n.compute) (values g.nodes.slots) k x.0 (sym (value_there g.nodes.slots linked.nodes_there k) ∙ x.1) in
        x.2 p (input_schemas shape p) (built.nodes k p x.0.compute at_p there)

    started_nodes : HaveAll Has options (shape_of (opening shape options)) (map fresh_node shape) (nodes_of g'.nodes.slots)
    started_nodes =
        subst (λ sh. HaveAll Has options sh (map fresh_node shape) (nodes_of g'.nodes.slots)) (sym its_shape)
        (record {
          long = length_map (λ (n : GraphNode N). n.compute) (values g'.nodes.slots) ∙ both_long ∙ sym (length_map (λ (n : GraphNode N). n.compute) (values g.nodes.slots)) ∙ built.long ∙ sym (length_map fresh_node shape);
          each = λ k x n at_x at_n.
              let p = at_map fresh_node shape k x at_x in
              let y = at_map (λ (m : GraphNode N). m.compute) (values g'.nodes.slots) k n at_n in
              let has = node_at k p.0 y.0 p.1 (value_there g'.nodes.slots all_stand k ∙ y.1) in
              (has.0, subst (λ m. Has options m (seen_as shape x has.0)) y.2 (subst (λ z. Has options y.0.compute (seen_as shape z has.0)) p.2 has.1));
        })

    started_bounds : AreBounds Has g'.nodes.slots (setting_of shape options)
    started_bounds n y at =
        let within = value_within g'.nodes.slots n y at in
        let long = started.long in
        let there = length_there g.nodes.slots linked.nodes_there in
        let mapped = length_map (λ (m : GraphNode N). m.compute) (values g.nodes.slots) in
        let all = built.long in
        let p = item_at shape n (omega (arith, within, long, there, mapped, all)) in
        let has = node_at n p.0 y p.1 at in
        (options, seen_as shape (fresh_node p.0) has.0, has.1, ap bounds_if p.1)

    module _ (marks : Marks) (pipes : Pipes) (outs : Outs) (journal : Written) (count : ℕ) where
      pub begins : count ≡ length g'.nodes.slots → marks.list.items ≡ replicate count unmarked
          → ((s : Setting) → s.room ≡ options.workers + 4 → AreBounds Has g'.nodes.slots s → AreShown s (map empty_pipe (wires_of g'.pipes.slots)) pipes) → AreOut options.workers [] outs → journal.records ≡ []
          → Stands Has (opening shape options) (record { graph = g'; marks = marks; pipes = pipes; outs = outs; options = options; phase = 0; is_open = Bool.false; journal = journal; is_finished = Bool.false; fault = None })
      begins counted marked shown out none =
          let count_is : count ≡ length shape = counted ∙ started.long ∙ sym (length_there g.nodes.slots linked.nodes_there) ∙ sym (length_map (λ (m : GraphNode N). m.compute) (values g.nodes.slots)) ∙ built.long in
          let wires : wires_of g'.pipes.slots ≡ map (λ (p : Pipe). p.wire) (pipes_from shape 0) = ap (λ (ps : SlotList LogicalPipe). wires_of ps.slots) pipes_stay ∙ built.wires in
          let empties : map empty_pipe (wires_of g'.pipes.slots) ≡ pipes_from shape 0 = ap (map empty_pipe) wires ∙ empties_from shape 0 in
          record {
            options = refl;
            linked = started_linked;
            nodes = started_nodes;
            origins = started_origins ∙ built.origins ∙ sym (map_twice (λ (x : Node). record { 0 = x.node.origin }) fresh_node shape);
            wires = wires;
            marks = marked ∙ ap (λ n. replicate n unmarked) count_is ∙ unmarked_all shape;
            pipes = subst (λ sh. AreShown (setting_of sh options) (pipes_from shape 0) pipes) (sym its_shape) (subst (λ ps. AreShown (setting_of shape options) ps pipes) empties (shown (setting_of shape options) refl started_bounds));
            outs = out;
            phase = refl;
            open_as = refl;
            journal = ap journal_shown none;
            spare = omega arith;
            ending = (refl, inl refl);
          }

-- one pipe more
module _ {N : Type 0} (Has : Options → N → SeenNode → Type 0) (g : Graph N) (linked : IsLinked g) (s : Setting) (bounds : AreBounds Has g.nodes.slots s) (i key : ℕ) (is : key ≡ i) (inside : i < length g.pipes.slots) where
  next_wire : (p : LogicalPipe) × (value_at g.pipes.slots key ≡ Some p) × (slice_get (values g.pipes.slots) i ≡ Some p)
  next_wire =
      let long = length_there g.pipes.slots linked.pipes_there in
      let p = item_at (values g.pipes.slots) i (omega (arith, inside, long)) in
      (p.0, ap (value_at g.pipes.slots) is ∙ value_there g.pipes.slots linked.pipes_there i ∙ p.1, p.1)

  pub next_pipe : (b : Bool) (old new : Pipes) → IsUnbounded Has g key b → AreShown s (map empty_pipe (take i (wires_of g.pipes.slots))) old
      → ((ps : List Pipe) (sender port receiver input : ℕ) → s.bounded sender ≡ not b → AreShown s ps old → AreShown s (ps ++ fresh_pipe sender port receiver input ∷ []) new)
      → AreShown s (map empty_pipe (take (i + 1) (wires_of g.pipes.slots))) new
  next_pipe b old new unbounded shown adds =
      let p = next_wire in
      let from = linked.inside p.0 (contains_at (values g.pipes.slots) i p.0 p.2) in
      let lower = from.0 in
      let long = length_there g.nodes.slots linked.nodes_there in
      let x = item_at (values g.nodes.slots) p.0.sender.0 (omega (arith, lower, long)) in
      let at : value_at g.nodes.slots p.0.sender.0 ≡ Some x.0 = value_there g.nodes.slots linked.nodes_there p.0.sender.0 ∙ x.1 in
      let has = bounds p.0.sender.0 x.0 at in
      let bound : s.bounded p.0.sender.0 ≡ not b = has.3 ∙ ap not (sym (unbounded p.0 x.0 has.0 has.1 p.1 at has.2)) in
      let more = adds (map empty_pipe (take i (wires_of g.pipes.slots))) p.0.sender.0 p.0.send_port p.0.receiver.0 p.0.recv_port bound shown in
      let wire : slice_get (wires_of g.pipes.slots) i ≡ Some (wire_of p.0) = map_at wire_of (values g.pipes.slots) i p.0 p.2 in
      subst (λ ps. AreShown s ps new) (sym (ap (map empty_pipe) (take-more (wires_of g.pipes.slots) i (wire_of p.0) wire) ∙ map-append empty_pipe (take i (wires_of g.pipes.slots)) (wire_of p.0 ∷ [])))
      (shown_alike s (map empty_pipe (take i (wires_of g.pipes.slots)) ++ fresh_pipe p.0.sender.0 p.0.send_port p.0.receiver.0 p.0.recv_port ∷ []) (map empty_pipe (take i (wires_of g.pipes.slots)) ++ empty_pipe (wire_of p.0) ∷ []) new
      (map-append contents_of (map empty_pipe (take i (wires_of g.pipes.slots))) (empty_pipe (wire_of p.0) ∷ []) ∙ sym (map-append contents_of (map empty_pipe (take i (wires_of g.pipes.slots))) (fresh_pipe p.0.sender.0 p.0.send_port p.0.receiver.0 p.0.recv_port ∷ []))) more)
