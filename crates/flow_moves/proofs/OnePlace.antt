-- Whether there is a place for one more answer of a node.
use Rattle.std.proofs.Common.{◌≡◌, ℕ, ◌+◌, ◌-◌, ◌<◌, ◌≤◌, ◌^◌, Bool, true, false, cond, List, [], ◌∷◌, length, Option, Some, None, refl, sym, ap, ◌∙◌, arith}
use Rattle.std.specs.Prelude.{◌&&◌, ◌||◌, Contains, map, nat_eq, nat_lt, not, slice_get}
use Rattle.std.specs.List.{filter as kept, list_any}
use Rattle.std.proofs.lemmas.Option.{slice_get_within}
use Rattle.keyed_slots.specs.Slots.{value_at}
use Rattle.ps_flow.proofs.Dropping.{kept_at, no_multiplexer, none_passes, plain}
use Rattle.flow_moves.specs.Moves.{MayPick, gives_to, kept_places}
use Rattle.ps_flow.specs.Handing.{HasOneOutput}
use Rattle.ps_flow.specs.Standing.{bounds_if, setting_of}
use Rattle.ps_frame.specs.Functions.{Functions}
use Rattle.ps_frame.specs.Sorting.{in_order}
use Rattle.ps_frame.specs.Zip.{below}
use Rattle.ps_graph.proofs.Places.{length_places, length_there, value_there}
use Rattle.ps_graph.specs.declared.graph.Graph.{Graph}
use Rattle.ps_graph.specs.declared.graph.GraphNode.{GraphNode}
use Rattle.ps_graph.specs.declared.graph.LogicalPipe.{LogicalPipe}
use Rattle.ps_graph.specs.declared.key.LogicalPipeKey.{LogicalPipeKey}
use Rattle.ps_graph.specs.Shown.{IsLinked, is_to, values, wire_of, wires_of}
use Rattle.ps_meaning.specs.Shape.{PhysicalNode}
use Rattle.ps_ports.specs.Ports.{is_done}
use Rattle.ps_settle.proofs.Ends.{same_number}
use Rattle.ps_settle.proofs.Members.{at_both, at_map, contains_at, in_kept, length_map, map_at, number_at, place_of}
use Rattle.ps_turns.specs.Progress.{is_multiplexer}
use Rattle.ps_world.specs.World.{Node, Pipe, World, bounded_out, counts_for_sender, gives_on, has_place, live_outs, shape_of}
use Rattle.world_pipes.specs.Shown.{AreKeysOf, IsAt}

module _ (F : Functions) (w : World) (may : MayPick F w) where
  pub outputs_one : (m : ℕ) → HasOneOutput m w.pipes
  outputs_one m = λ p q a b e f. may.facts.one_output p q a b (e ∙ sym f) (no_multiplexer w may.all_stream p.wire.sender)

  counts : (p : Pipe) → counts_for_sender w p ≡ p.in_phase
  counts p = (λ i. p.in_phase || (no_multiplexer w may.all_stream p.wire.sender i && not (is_done p.wire.receive_state))) ∙ or_false p.in_phase
    where
      or_false : (b : Bool) → (b || false) ≡ b
      or_false true = refl
      or_false false = refl

  abbrev live_of : List Pipe → List Pipe
  live_of ps = kept (counts_for_sender w) (in_order (λ (p q : Pipe). nat_lt p.wire.port q.wire.port) ps)

  -- what leaves a node is the pipe of its key, or nothing
  pub live_by : (n : ℕ) (key : LogicalPipeKey) → AreKeysOf (λ p. nat_eq p.wire.sender n) (key ∷ []) w.pipes → (p : Pipe) → IsAt key w.pipes p → live_outs w n ≡ cond p.in_phase (p ∷ []) []
  live_by n key names p at = ap live_of (kept_at (λ (q : Pipe). nat_eq q.wire.sender n) key.0 w.pipes p names at) ∙ ap (λ b. cond b (p ∷ []) []) (counts p)

  pub live_none : (n : ℕ) → ((p : Pipe) → Contains w.pipes p → nat_eq p.wire.sender n ≡ false) → live_outs w n ≡ []
  live_none n none = ap live_of (none_passes (λ (q : Pipe). nat_eq q.wire.sender n) w.pipes none)

  bounded : (m : ℕ) → bounds_if (slice_get (shape_of w) m) ≡ true
  bounded m = by (slice_get (shape_of w) m) refl
    where
      by : (o : Option PhysicalNode) → slice_get (shape_of w) m ≡ o → bounds_if o ≡ true
      by None e = refl
      by (Some q) e =
          let x = at_map (λ (z : Node). z.node) w.nodes m q e in
          ap not (sym (ap (λ (z : PhysicalNode). is_multi z) x.2) ∙ (plain x.0.node.kind x.0 (may.all_stream m x.0 x.1)).0)
        where
          is_multi : PhysicalNode → Bool
          is_multi z = is_multiplexer z.kind

  pub place_is : (p : Pipe) (k : ℕ) → k ≡ kept_places w p
      → (p.is_dropped || (not ((setting_of (shape_of w) w.options).bounded p.wire.sender) || nat_lt ((length p.got - p.next) + k) (setting_of (shape_of w) w.options).room)) ≡ has_place w p
  place_is p k e = λ i. p.is_dropped || (not ((bounded p.wire.sender ∙ sym (ap not (no_multiplexer w may.all_stream p.wire.sender))) i) || nat_lt ((length p.got - p.next) + e i) (w.options.workers + 4))

  pub gives_same : (n : ℕ) → list_any (gives_to n) w.pipes ≡ gives_on w n
  gives_same n = by w.pipes
    where
      by : (ps : List Pipe) → list_any (gives_to n) ps ≡ list_any (bounded_out w n) ps
      by [] = refl
      by (p ∷ ps) = λ i. (nat_eq p.wire.sender n && (p.in_phase && (not (sym (no_multiplexer w may.all_stream p.wire.sender) i) && not p.is_dropped))) || by ps i

-- a pipe of the graph is the world's, and the number of its input is small
module _ {N : Type 0} (g : Graph N) (linked : IsLinked g) where
  pub same_wire : (ps : List Pipe) → wires_of g.pipes.slots ≡ map (λ (p : Pipe). p.wire) ps → (key : LogicalPipeKey) (p : Pipe) → IsAt key ps p → (q : LogicalPipe) → value_at g.pipes.slots key.0 ≡ Some q → wire_of q ≡ p.wire
  same_wire ps wires key p at q there =
      let here : slice_get (wires_of g.pipes.slots) key.0 ≡ Some (wire_of q) = map_at wire_of (values g.pipes.slots) key.0 q (sym (value_there g.pipes.slots linked.pipes_there key.0) ∙ there) in
      at_both (wires_of g.pipes.slots) key.0 (wire_of q) p.wire here (ap (λ l. slice_get l key.0) wires ∙ map_at (λ (z : Pipe). z.wire) ps key.0 p at)

  pub pipe_there : (ps : List Pipe) → wires_of g.pipes.slots ≡ map (λ (p : Pipe). p.wire) ps → (key : LogicalPipeKey) (p : Pipe) → IsAt key ps p → value_at g.pipes.slots key.0 ≡ None → ⊥
  pipe_there ps wires key p at none =
      let q = at_map wire_of (values g.pipes.slots) key.0 p.wire (ap (λ l. slice_get l key.0) wires ∙ map_at (λ (z : Pipe). z.wire) ps key.0 p at) in
      absurd (let clash : None ≡ Some q.0 = sym none ∙ value_there g.pipes.slots linked.pipes_there key.0 ∙ q.1 in cc)

  few_kept : {A : Type 0} (t : A → Bool) (xs : List A) → length (kept t xs) ≤ length xs
  few_kept t [] = omega arith
  few_kept t (x ∷ xs) = by (t x) refl (few_kept t xs)
    where
      by : (b : Bool) → t x ≡ b → length (kept t xs) ≤ length xs → length (kept t (x ∷ xs)) ≤ length (x ∷ xs)
      by true e few = let is = ap (λ b. length (cond b (x ∷ kept t xs) (kept t xs))) e in omega (arith, is, few)
      by false e few = let is = ap (λ b. length (cond b (x ∷ kept t xs) (kept t xs))) e in omega (arith, is, few)

  pub few_inputs : (n : ℕ) (x : GraphNode N) → value_at g.nodes.slots n ≡ Some x → (i : ℕ) (key : LogicalPipeKey) → slice_get x.inputs.items i ≡ Some key → i < 2 ^ 32
  few_inputs n x there i key at =
      let within = slice_get_within x.inputs.items i key at in
      let long = length_map (λ (k : LogicalPipeKey). k.0) x.inputs.items in
      let is = ap length (linked.inputs n x there) in
      let places = length_places 0 (is_to n) (values g.pipes.slots) in
      let few = few_kept (is_to n) (values g.pipes.slots) in
      let all = length_there g.pipes.slots linked.pipes_there in
      let small = linked.few_pipes in
      omega (arith, within, long, is, places, few, all, small)

  pub small_input : (k : ℕ) (q : LogicalPipe) → value_at g.pipes.slots k ≡ Some q → q.recv_port < 2 ^ 32
  small_input k q there =
      let n = q.receiver.0 in
      let vs = values g.pipes.slots in
      let at : slice_get vs k ≡ Some q = sym (value_there g.pipes.slots linked.pipes_there k) ∙ there in
      let j = place_of (kept (is_to n) vs) q (in_kept (is_to n) q vs (contains_at vs k q at) (same_number n n refl)) in
      let long = length_map (λ (p : LogicalPipe). p.recv_port) (kept (is_to n) vs) in
      let is = number_at (λ (p : LogicalPipe). p.recv_port) (kept (is_to n) vs) j.0 q (linked.numbered n ∙ ap below long) j.1 in
      let within = slice_get_within (kept (is_to n) vs) j.0 q j.1 in
      let few = few_kept (is_to n) vs in
      let all = length_there g.pipes.slots linked.pipes_there in
      let small = linked.few_pipes in
      omega (arith, is, within, few, all, small)
