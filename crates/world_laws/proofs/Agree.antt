-- In a settled world what is done on one end of a pipe is done on both: an update answers done where it is given done.
use Rattle.std.proofs.Common.{◌≡◌, ℕ, zero, suc, ◌<◌, ◌≤◌, ◌⊎◌, Bool, true, false, cond, List, [], ◌∷◌, length, Some, None, refl, sym, ap, subst, ◌∙◌, inl, inr, arith}
use Rattle.std.specs.Prelude.{Contains, get_or, map, nat_eq, option_map, slice_get}
use Rattle.std.proofs.lemmas.Bool.Decides.{nat_tests}
use Rattle.std.proofs.lemmas.Option.{slice_get-map, slice_get_within}
use Rattle.ps_ports.specs.declared.port_state.PortState.{PortState}
use Rattle.ps_ports.specs.declared.port_state.PortState.TheVariants as port
use Rattle.ps_ports.specs.Ports.{Sides, is_done, kept_done, kept_state}
use Rattle.ps_ports.specs.Wires.{Wire, wires_in, wires_out}
use Rattle.ps_turns.specs.Updates.{answer_by}
use Rattle.ps_world.specs.Laws.{EndsAgree}
use Rattle.ps_world.specs.Updates.{IsSettled, answer_at, empty_outs, given_at, received, sent}
use Rattle.ps_world.specs.World.{Node, Pipe, World, heads_of, wires_of}
use Rattle.world_laws.proofs.InOrder.{contains_cases, contains_first, contains_later, none_in_nil}

itself : (n : ℕ) → nat_eq n n ≡ true
itself n = grind (arith, nat_tests)

pub from_map : {A B : Type 0} (f : A → B) (y : B) (xs : List A) → Contains (map f xs) y → (x : A) × Contains xs x × (f x ≡ y)
from_map f y [] c = absurd (none_in_nil y c)
from_map {A = A} f y (x ∷ xs) c = by (from_map f y xs) (contains_cases (f x) y (map f xs) c)
  where
    by : (Contains (map f xs) y → (z : A) × Contains xs z × (f z ≡ y)) → (f x ≡ y) ⊎ Contains (map f xs) y → (z : A) × Contains (x ∷ xs) z × (f z ≡ y)
    by rest (inl e) = (x, contains_first x xs, e)
    by rest (inr later) = let r = rest later in (r.0, contains_later x r.0 xs r.1, r.2)

-- what two changes leave as a list they leave item by item
each_fixed : {A : Type 0} (g h : A → A) (xs : List A) → map g (map h xs) ≡ xs → (x : A) → Contains xs x → g (h x) ≡ x
each_fixed g h [] e x c = absurd (none_in_nil x c)
each_fixed g h (y ∷ ys) e x c = by (λ rest later. each_fixed g h ys rest x later) (contains_cases y x ys c)
  where
    first : g (h y) ≡ y
    first = let q : g (h y) ∷ map g (map h ys) ≡ y ∷ ys = e in cc

    others : map g (map h ys) ≡ ys
    others = let q : g (h y) ∷ map g (map h ys) ≡ y ∷ ys = e in cc

    by : (map g (map h ys) ≡ ys → Contains ys x → g (h x) ≡ x) → (y ≡ x) ⊎ Contains ys x → g (h x) ≡ x
    by rest (inl same) = subst (λ z. g (h z) ≡ z) same first
    by rest (inr later) = rest others later

is_the_done : (s : PortState) → is_done s ≡ true → s ≡ port.Done
is_the_done port.Done e = refl
is_the_done port.Ready e = absurd (let no : false ≡ true = e in cc)
is_the_done port.Blocked e = absurd (let no : false ≡ true = e in cc)

done_kept : (s : PortState) → is_done (kept_state s port.Done) ≡ true
done_kept port.Done = refl
done_kept port.Ready = refl
done_kept port.Blocked = refl

-- a port that is given as done is answered done
kept_at : (olds news : List PortState) (i : ℕ) (s d : PortState) → slice_get olds i ≡ Some s → is_done s ≡ true → i < length news → get_or (kept_done olds news) i d ≡ port.Done
kept_at [] news i s d e done h = absurd (let no : None ≡ Some s = e in cc)
kept_at (o ∷ os) [] i s d e done h = absurd (omega arith)
kept_at (o ∷ os) (n ∷ ns) zero s d e done h = let q : Some o ≡ Some s = e in let same : o ≡ s = cc in let at : is_done o ≡ true = ap is_done same ∙ done in rw at refl
kept_at (o ∷ os) (n ∷ ns) (suc i) s d e done h = kept_at os ns i s d e done (omega arith)

-- what is known of the wires of a graph that shows a shape, and of its answers
pub record InPlace (w : World) : Type 0 where
  pub input_place : (p : Wire) → Contains (wires_of w) p → slice_get (wires_in p.receiver (wires_of w)) p.input ≡ Some p
  pub port_place : (p : Wire) → Contains (wires_of w) p → slice_get (wires_out p.sender (wires_of w)) p.port ≡ Some p
  pub reader : (p : Wire) → Contains (wires_of w) p → (node : Node) × (slice_get w.nodes p.receiver ≡ Some node)
  pub sender : (p : Wire) → Contains (wires_of w) p → (node : Node) × (slice_get w.nodes p.sender ≡ Some node)
  -- each answer has a state for each port
  pub inputs_answered : (n : ℕ) (node : Node) → slice_get w.nodes n ≡ Some node
      → length (given_at w n).inputs ≤ length (answer_by w.options node.node.kind node.progress (heads_of w n node) (empty_outs w n) (given_at w n)).inputs
  pub outputs_answered : (n : ℕ) (node : Node) → slice_get w.nodes n ≡ Some node
      → length (given_at w n).outputs ≤ length (answer_by w.options node.node.kind node.progress (heads_of w n node) (empty_outs w n) (given_at w n)).outputs

module _ (w : World) (place : InPlace w) (rest : IsSettled w) where
  -- the two changes of an answer's writing
  at_input : ℕ → Sides → Pipe → Pipe
  at_input n a p = cond (nat_eq p.wire.receiver n) (received (get_or a.inputs p.wire.input p.wire.receive_state) p) p

  at_output : ℕ → Sides → Pipe → Pipe
  at_output n a p = cond (nat_eq p.wire.sender n) (sent (get_or a.outputs p.wire.port p.wire.send_state) p) p

  left : (n : ℕ) (node : Node) → slice_get w.nodes n ≡ Some node → (x : Pipe) → Contains w.pipes x → at_output n (answer_at w n node node.progress) (at_input n (answer_at w n node node.progress) x) ≡ x
  unfolding at_input at_output
  left n node e x c = each_fixed (at_output n (answer_at w n node node.progress)) (at_input n (answer_at w n node node.progress)) w.pipes (ap (λ (v : World). v.pipes) (rest n node e).states) x c

  output_keeps : (n : ℕ) (a : Sides) (p : Pipe) → (at_output n a p).wire.receive_state ≡ p.wire.receive_state
  unfolding at_output
  output_keeps n a p = by (nat_eq p.wire.sender n)
    where
      by : (b : Bool) → (cond b (sent (get_or a.outputs p.wire.port p.wire.send_state) p) p).wire.receive_state ≡ p.wire.receive_state
      by true = refl
      by false = refl

  input_sets : (n : ℕ) (a : Sides) (p : Pipe) → p.wire.receiver ≡ n → (at_input n a p).wire.receive_state ≡ kept_state p.wire.receive_state (get_or a.inputs p.wire.input p.wire.receive_state)
  unfolding at_input
  input_sets n a p same = let t : nat_eq p.wire.receiver n ≡ true = ap (λ k. nat_eq p.wire.receiver k) (sym same) ∙ itself p.wire.receiver in rw t refl

  output_sets : (n : ℕ) (a : Sides) (p : Pipe) → p.wire.sender ≡ n → (at_output n a (at_input n a p)).wire.send_state ≡ kept_state p.wire.send_state (get_or a.outputs p.wire.port p.wire.send_state)
  unfolding at_input at_output
  output_sets n a p same = by (nat_eq p.wire.receiver n)
    where
      t : nat_eq p.wire.sender n ≡ true
      t = ap (λ k. nat_eq p.wire.sender k) (sym same) ∙ itself p.wire.sender

      by : (b : Bool) → (at_output n a (cond b (received (get_or a.inputs p.wire.input p.wire.receive_state) p) p)).wire.send_state ≡ kept_state p.wire.send_state (get_or a.outputs p.wire.port p.wire.send_state)
      by true = rw t refl
      by false = rw t refl

  -- what an end of a pipe says is what its node's update answers, unless it is done
  pub reader_says : (x : Pipe) → Contains w.pipes x → (node : Node) → slice_get w.nodes x.wire.receiver ≡ Some node
      → x.wire.receive_state ≡ kept_state x.wire.receive_state (get_or (answer_at w x.wire.receiver node node.progress).inputs x.wire.input x.wire.receive_state)
  reader_says x c node e =
      let a = answer_at w x.wire.receiver node node.progress in
      let fixed = left x.wire.receiver node e x c in
      sym (ap (λ (p : Pipe). p.wire.receive_state) fixed) ∙ output_keeps x.wire.receiver a (at_input x.wire.receiver a x) ∙ input_sets x.wire.receiver a x refl

  pub sender_says : (x : Pipe) → Contains w.pipes x → (node : Node) → slice_get w.nodes x.wire.sender ≡ Some node
      → x.wire.send_state ≡ kept_state x.wire.send_state (get_or (answer_at w x.wire.sender node node.progress).outputs x.wire.port x.wire.send_state)
  sender_says x c node e =
      let a = answer_at w x.wire.sender node node.progress in
      let fixed = left x.wire.sender node e x c in
      sym (ap (λ (p : Pipe). p.wire.send_state) fixed) ∙ output_sets x.wire.sender a x refl

  reader_follows : (x : Pipe) → Contains w.pipes x → Contains (wires_of w) x.wire → is_done x.wire.send_state ≡ true → is_done x.wire.receive_state ≡ true
  reader_follows x c at done =
      let n = x.wire.receiver in
      let node = place.reader x.wire at in
      let given : slice_get (given_at w n).inputs x.wire.input ≡ Some x.wire.send_state =
      slice_get-map (λ (p : Wire). p.send_state) (wires_in n (wires_of w)) x.wire.input ∙ ap (option_map (λ (p : Wire). p.send_state)) (place.input_place x.wire at) in
      let short = slice_get_within (given_at w n).inputs x.wire.input x.wire.send_state given in
      let enough = place.inputs_answered n node.0 node.1 in
      let kept = kept_at (given_at w n).inputs (answer_by w.options node.0.node.kind node.0.progress (heads_of w n node.0) (empty_outs w n) (given_at w n)).inputs x.wire.input x.wire.send_state x.wire.receive_state given done (omega arith) in
      ap is_done (reader_says x c node.0 node.1 ∙ ap (kept_state x.wire.receive_state) kept) ∙ done_kept x.wire.receive_state

  sender_follows : (x : Pipe) → Contains w.pipes x → Contains (wires_of w) x.wire → is_done x.wire.receive_state ≡ true → is_done x.wire.send_state ≡ true
  sender_follows x c at done =
      let n = x.wire.sender in
      let node = place.sender x.wire at in
      let given : slice_get (given_at w n).outputs x.wire.port ≡ Some x.wire.receive_state =
      slice_get-map (λ (p : Wire). p.receive_state) (wires_out n (wires_of w)) x.wire.port ∙ ap (option_map (λ (p : Wire). p.receive_state)) (place.port_place x.wire at) in
      let short = slice_get_within (given_at w n).outputs x.wire.port x.wire.receive_state given in
      let enough = place.outputs_answered n node.0 node.1 in
      let kept = kept_at (given_at w n).outputs (answer_by w.options node.0.node.kind node.0.progress (heads_of w n node.0) (empty_outs w n) (given_at w n)).outputs x.wire.port x.wire.receive_state x.wire.send_state given done (omega arith) in
      ap is_done (sender_says x c node.0 node.1 ∙ ap (kept_state x.wire.send_state) kept) ∙ done_kept x.wire.send_state

  same_by : (a b : Bool) → (a ≡ true → b ≡ true) → (b ≡ true → a ≡ true) → a ≡ b
  same_by true b f g = sym (f refl)
  same_by false true f g = g refl
  same_by false false f g = refl

  pub ends_agree : EndsAgree w
  ends_agree p c =
      let x = from_map (λ (q : Pipe). q.wire) p w.pipes c in
      let at : Contains (wires_of w) x.0.wire = subst (λ q. Contains (wires_of w) q) (sym x.2) c in
      let here = same_by (is_done x.0.wire.send_state) (is_done x.0.wire.receive_state) (reader_follows x.0 x.1 at) (sender_follows x.0 x.1 at) in
      subst (λ (q : Wire). is_done q.send_state ≡ is_done q.receive_state) x.2 here
