-- In a reached world wires and answers are in place, so that in a settled one both ends of a pipe are done together.
use Rattle.std.proofs.Common.{◌≡◌, ℕ, zero, suc, ◌<◌, ◌+◌, ◌≤◌, Bool, true, false, cond, List, [], ◌∷◌, length, None, Some, refl, sym, ap, subst, ◌∙◌, arith}
use Rattle.std.specs.Prelude.{map, nat_eq, slice_get, ◌&&◌, ◌||◌}
use Rattle.std.specs.List.{count_by, filter as kept}
use Rattle.std.proofs.lemmas.List.Sums.{length-filter}
use Rattle.ps_frame.specs.Functions.{Functions}
use Rattle.ps_ports.specs.declared.port_state.PortState.{PortState}
use Rattle.ps_ports.specs.declared.port_state.PortState.TheVariants as port
use Rattle.ps_ports.specs.Ports.{Sides, all_done, first_port, is_blocked, is_done, repeated}
use Rattle.ps_ports.specs.Wires.{Wire, wires_in, wires_out}
use Rattle.ps_meaning.specs.Shape.{PhysicalKind, PhysicalNode, Shape, equi_join, filter_node, group_by_node, in_memory_join, in_memory_map, in_memory_sink, in_memory_source, independent_select, multiplexer, negative_slice, ordered_union, reduce, select_node, simple_projection, stream_map, streaming_slice, with_row_index, zip_node}
use Rattle.ps_meaning.specs.Sound.{HasInputs, HasReaders, readers_of}
use Rattle.ps_meaning.specs.Steps.{JoinStep}
use Rattle.ps_options.specs.declared.options.Options.{Options}
use Rattle.ps_turns.specs.Claims.{owes_last}
use Rattle.ps_turns.specs.Heads.{Head}
use Rattle.ps_turns.specs.Progress.{Progress, Stage, giving, spent, taking}
use Rattle.ps_turns.specs.Updates.{answer_by, done_on_both, join_answer, keeper_answer, multiplexer_answer, passing_answer, port_answers, slice_is_over, undone_empty, union_inputs, zip_answer, zip_is_over}
use Rattle.ps_world.specs.Facts.{FactsDownTo}
use Rattle.ps_world.specs.Laws.{EndsAgree}
use Rattle.ps_world.specs.Updates.{IsSettled, given_at}
use Rattle.ps_world.specs.World.{Node, World, shape_of, wires_of}
use Rattle.world_facts.proofs.Numbers.{order_length}
use Rattle.world_facts.proofs.Wired.{count_append, count_ends, count_goals, input_place, is_to, port_place, slots, slots_all, slots_other, targets, targets_above, apart}
use Rattle.world_facts.proofs.Wiring.{wires_forward, wires_inside}
use Rattle.world_laws.proofs.Agree.{InPlace, ends_agree as agree}
use Rattle.std.specs.List.{list_any}

pub same_length : (s : PortState) (ss : List PortState) → length (repeated s ss) ≡ length ss
same_length s [] = refl
same_length s (x ∷ xs) = ap suc (same_length s xs)

union_length : (out : PortState) (ss : List PortState) → length (union_inputs out ss) ≡ length ss
union_length out [] = refl
union_length out (port.Done ∷ ss) = ap suc (union_length out ss)
union_length out (port.Ready ∷ ss) = ap suc (same_length port.Blocked ss)
union_length out (port.Blocked ∷ ss) = ap suc (same_length port.Blocked ss)

ports_length : (s : PortState) (es : List Bool) (os : List PortState) → length (port_answers s es os) ≡ length os
ports_length s es [] = refl
ports_length s [] (o ∷ os) = ap suc (ports_length s [] os)
ports_length s (e ∷ es) (o ∷ os) = ap suc (ports_length s es os)

-- ANSWERS HAVE A STATE FOR EACH PORT
abbrev Answers : Sides → Sides → Type 0
Answers given a = (length given.inputs ≤ length a.inputs) × (length given.outputs ≤ length a.outputs)

one_each : (given : Sides) → length given.inputs ≡ 1 → length given.outputs ≡ 1 → Answers given (passing_answer given)
one_each given i o = (omega arith, omega arith)

both_done : (given : Sides) → Answers given (done_on_both given)
both_done given = (let e = same_length port.Done given.inputs in omega arith, let e = same_length port.Done given.outputs in omega arith)

of_cond : (b : Bool) (given x y : Sides) → Answers given x → Answers given y → Answers given (cond b x y)
of_cond true given x y a c = a
of_cond false given x y a c = c

all_ports : (s t : PortState) (given : Sides) → length given.outputs ≡ 1 → Answers given (record { inputs = repeated s given.inputs; outputs = t ∷ [] })
all_ports s t given o = (let e = same_length s given.inputs in omega arith, omega arith)

keepers : (stage : Stage) (given : Sides) → length given.outputs ≡ 1 → Answers given (keeper_answer stage given)
keepers taking given o = all_ports port.Ready port.Blocked given o
keepers giving given o = all_ports port.Done port.Ready given o
keepers spent given o = all_ports port.Done port.Done given o

zips : (hs : List Head) (given : Sides) → length given.outputs ≡ 1 → Answers given (zip_answer hs given)
zips hs given o =
    of_cond (zip_is_over hs given) given _ _ (all_ports port.Done port.Done given o)
    (of_cond (list_any is_blocked given.inputs) given _ _ (all_ports port.Blocked port.Blocked given o) (all_ports (cond (is_blocked (first_port given.outputs)) port.Blocked port.Ready) port.Ready given o))

multiplexers : (es : List Bool) (given : Sides) → length given.inputs ≡ 1 → Answers given (multiplexer_answer es given)
multiplexers es given i =
    of_cond (all_done given.outputs || (all_done given.inputs && undone_empty es given.outputs)) given _ _ (omega arith, let e = same_length port.Done given.outputs in omega arith)
    (omega arith, let e = ports_length (first_port given.inputs) es given.outputs in omega arith)

joins : (j : JoinStep) (progress : Progress) (stage : Stage) (given : Sides) → length given.inputs ≡ 2 → length given.outputs ≡ 1 → Answers given (join_answer j progress stage given)
joins j progress taking given i o = (omega arith, omega arith)
joins j progress giving given i o = of_cond (is_done (first_port given.inputs) && owes_last j progress) given _ _ (omega arith, omega arith) (omega arith, omega arith)
joins j progress spent given i o = (omega arith, omega arith)

pub answered : (o : Options) (kind : PhysicalKind) (progress : Progress) (hs : List Head) (es : List Bool) (given : Sides) → HasInputs kind (length given.inputs) → HasReaders kind (length given.outputs) → Answers given (answer_by o kind progress hs es given)
answered o (in_memory_source t) progress hs es given i r = (omega (arith, i), omega (arith, r))
answered o (independent_select s) progress hs es given i r = (omega (arith, i), omega (arith, r))
answered o (streaming_slice offset n) progress hs es given i r = of_cond (slice_is_over offset n progress.booked) given _ _ (both_done given) (one_each given i r)
answered o in_memory_sink progress hs es given i r = (let e = same_length (cond (all_done given.inputs) port.Done port.Ready) given.inputs in omega arith, omega (arith, r))
answered o ordered_union progress hs es given i r = (let e = union_length (first_port given.outputs) given.inputs in omega arith, omega (arith, r))
answered o (zip_node extend) progress hs es given i r = zips hs given r
answered o multiplexer progress hs es given i r = multiplexers es given i
answered o (equi_join j) progress hs es given i r = joins j progress progress.stage given i r
answered o (in_memory_map step) progress hs es given i r = keepers progress.stage given r
answered o (in_memory_join j) progress hs es given i r = keepers progress.stage given r
answered o (negative_slice back n) progress hs es given i r = keepers progress.stage given r
answered o (reduce s) progress hs es given i r = keepers progress.stage given r
answered o (group_by_node keys aggregates) progress hs es given i r = keepers progress.stage given r
answered o (select_node s extends) progress hs es given i r = one_each given i r
answered o (with_row_index name offset) progress hs es given i r = one_each given i r
answered o (filter_node e) progress hs es given i r = one_each given i r
answered o (simple_projection names) progress hs es given i r = one_each given i r
answered o (stream_map step) progress hs es given i r = one_each given i r

-- a node of the shape has as many slots as inputs
slots_of : (shape : Shape) (k m : ℕ) (p : PhysicalNode) → slice_get shape m ≡ Some p → count_by (is_to (k + m)) (targets shape k) ≡ length p.inputs
slots_of [] k m p e = absurd (let no : None ≡ Some p = e in cc)
slots_of (x ∷ xs) k zero p e =
    let q : Some x ≡ Some p = e in
    let same : x ≡ p = cc in
    let all = count_append (is_to (k + 0)) (slots k 0 x.inputs) (targets xs (k + 1)) in
    let none = targets_above xs (k + 1) (k + 0) (is_to (k + 0)) (omega arith) (λ n i g. apart n (k + 0) (λ e. absurd (omega arith))) in
    let zero_more : k + 0 ≡ k = omega arith in
    let here : count_by (is_to (k + 0)) (slots k 0 x.inputs) ≡ length x.inputs = ap (λ n. count_by (is_to n) (slots k 0 x.inputs)) zero_more ∙ slots_all k 0 x.inputs in
    let long : length x.inputs ≡ length p.inputs = ap (λ (y : PhysicalNode). length y.inputs) same in
    omega (arith, all, none, here, long)
slots_of (x ∷ xs) k (suc m) p e =
    let all = count_append (is_to (k + suc m)) (slots k 0 x.inputs) (targets xs (k + 1)) in
    let none = slots_other k 0 (k + suc m) x.inputs (is_to (k + suc m)) (λ i. apart k (k + suc m) (λ e. absurd (omega arith))) in
    let rest = slots_of xs (k + 1) m p e in
    let same : k + 1 + m ≡ k + suc m = omega arith in
    let later : count_by (is_to (k + suc m)) (targets xs (k + 1)) ≡ length p.inputs = ap (λ n. count_by (is_to n) (targets xs (k + 1))) (sym same) ∙ rest in
    omega (arith, all, none, later)

pub map_length : {A B : Type 0} (f : A → B) (xs : List A) → length (map f xs) ≡ length xs
map_length f [] = refl
map_length f (x ∷ xs) = ap suc (map_length f xs)

shape_at : (nodes : List Node) (n : ℕ) (node : Node) → slice_get nodes n ≡ Some node → slice_get (map (λ (x : Node). x.node) nodes) n ≡ Some node.node
shape_at [] n node e = absurd (let no : None ≡ Some node = e in cc)
shape_at (x ∷ xs) zero node e = let q : Some x ≡ Some node = e in let same : x ≡ node = cc in ap (λ (y : Node). Some y.node) same
shape_at (x ∷ xs) (suc n) node e = shape_at xs n node e

pub some_node : (xs : List Node) (m : ℕ) → m < length xs → (x : Node) × (slice_get xs m ≡ Some x)
some_node [] m h = absurd (omega arith)
some_node (x ∷ xs) zero h = (x, refl)
some_node (x ∷ xs) (suc m) h = some_node xs m (omega arith)

module _ {k : ℕ} (F : Functions) (w : World) (f : FactsDownTo F k w) where
  pub inputs_given : (n : ℕ) (node : Node) → slice_get w.nodes n ≡ Some node → length (given_at w n).inputs ≡ length node.node.inputs
  inputs_given n node e =
      let a = map_length (λ (p : Wire). p.send_state) (wires_in n (wires_of w)) in
      let b = order_length (λ (p : Wire). p.input) (kept (λ (p : Wire). nat_eq p.receiver n) (wires_of w)) in
      let c = length-filter (λ (p : Wire). nat_eq p.receiver n) (wires_of w) in
      let d = count_goals F w f (is_to n) in
      let s = slots_of (shape_of w) 0 n node.node (shape_at w.nodes n node e) in
      let same : count_by (is_to (0 + n)) (targets (shape_of w) 0) ≡ count_by (is_to n) (targets (shape_of w) 0) = let z : 0 + n ≡ n = omega arith in ap (λ m. count_by (is_to m) (targets (shape_of w) 0)) z in
      a ∙ b ∙ c ∙ d ∙ sym same ∙ s

  pub outputs_given : (n : ℕ) → length (given_at w n).outputs ≡ readers_of (shape_of w) n
  outputs_given n =
      map_length (λ (p : Wire). p.receive_state) (wires_out n (wires_of w)) ∙ order_length (λ (p : Wire). p.port) (kept (λ (p : Wire). nat_eq p.sender n) (wires_of w))
      ∙ length-filter (λ (p : Wire). nat_eq p.sender n) (wires_of w) ∙ count_ends F w f (is_to n)

  pub has_inputs : (n : ℕ) (node : Node) → slice_get w.nodes n ≡ Some node → HasInputs node.node.kind (length (given_at w n).inputs)
  has_inputs n node e = subst (HasInputs node.node.kind) (sym (inputs_given n node e)) (f.sound.0 n node.node (shape_at w.nodes n node e)).inputs

  pub has_readers : (n : ℕ) (node : Node) → slice_get w.nodes n ≡ Some node → HasReaders node.node.kind (length (given_at w n).outputs)
  has_readers n node e = subst (HasReaders node.node.kind) (sym (outputs_given n)) (f.sound.1 n node.node (shape_at w.nodes n node e)).readers

  pub in_place : InPlace w
  in_place =
      record {
        input_place = input_place F w f;
        port_place = port_place F w f;
        reader = λ p c. some_node w.nodes p.receiver (wires_inside F w f p c);
        sender = λ p c. let h = wires_forward F w f p c in let g = wires_inside F w f p c in some_node w.nodes p.sender (omega arith);
        inputs_answered = λ n node e. (answered w.options node.node.kind node.progress (Rattle.ps_world.specs.World.heads_of w n node) (Rattle.ps_world.specs.Updates.empty_outs w n) (given_at w n) (has_inputs n node e) (has_readers n node e)).0;
        outputs_answered = λ n node e. (answered w.options node.node.kind node.progress (Rattle.ps_world.specs.World.heads_of w n node) (Rattle.ps_world.specs.Updates.empty_outs w n) (given_at w n) (has_inputs n node e) (has_readers n node e)).1;
      }

  -- in a settled world both ends of a pipe are done together
  pub ends_agree : IsSettled w → EndsAgree w
  ends_agree rest = agree w in_place rest
