-- What came to a node, input by input, is what the pipes to it have sent.
use Rattle.std.proofs.Common.{◌≡◌, ℕ, zero, suc, ◌<◌, ◌≤◌, ◌+◌, ◌⊎◌, Bool, true, false, List, [], ◌∷◌, length, take, Option, Some, None, refl, sym, ap, subst, ◌∙◌, inl, inr, arith}
use Rattle.std.specs.Prelude.{Contains, map, nat_eq, nat_lt, option_map, slice_get, ◌&&◌}
use Rattle.std.specs.List.{filter as kept}
use Rattle.std.proofs.lemmas.List.Elements.{Contains-append_cases}
use Rattle.std.proofs.lemmas.Option.{slice_get-map, slice_get_within}
use Rattle.ps_frame.specs.Functions.{Functions}
use Rattle.ps_frame.specs.Sorting.{in_order, insert_in_order}
use Rattle.ps_meaning.specs.Shape.{PhysicalKind, PhysicalNode, Shape, in_memory_sink}
use Rattle.ps_meaning.specs.Sound.{HasReaders}
use Rattle.ps_ports.specs.Wires.{Wire, wires_in, wires_out}
use Rattle.ps_world.specs.Facts.{Facts, Joins, joins_of}
use Rattle.ps_world.specs.Laws.{sent_at, sent_by, sent_by_some, sent_to}
use Rattle.ps_world.specs.Opening.{fresh_pipe, pipes_from, pipes_to}
use Rattle.ps_world.specs.World.{Node, Pipe, World, pipes_in, shape_of, wires_of}
use Rattle.world_facts.proofs.CutOff.{both_true}
use Rattle.world_facts.proofs.HandedIn.{contains_of}
use Rattle.world_facts.proofs.Placing.{has_readers, in_place, inputs_given, map_length}
use Rattle.world_facts.proofs.Wired.{input_at, port_place}
use Rattle.world_laws.proofs.Agree.{from_map}
use Rattle.world_laws.proofs.InOrder.{contains_cases, contains_map, none_in_nil}
use Rattle.world_laws.proofs.PassingPorts.{ordered, same_number, was_kept}
use Rattle.world_families.proofs.Members.{nothing_is}
use Rattle.family_pipes.proofs.Sent.{found, is_sink, itself, missed, of_port, sent_is}
use Rattle.world_families.specs.Work.{Enters}

-- LISTS
map_insert : {A B : Type 0} (f : A → B) (less : B → B → Bool) (x : A) (ys : List A) → map f (insert_in_order (λ a b. less (f a) (f b)) x ys) ≡ insert_in_order less (f x) (map f ys)
map_insert f less x [] = refl
map_insert f less x (y ∷ ys) = by (less (f y) (f x)) refl (map_insert f less x ys)
  where
    by : (b : Bool) → less (f y) (f x) ≡ b → map f (insert_in_order (λ a b. less (f a) (f b)) x ys) ≡ insert_in_order less (f x) (map f ys) → map f (insert_in_order (λ a b. less (f a) (f b)) x (y ∷ ys)) ≡ insert_in_order less (f x) (map f (y ∷ ys))
    by true e rest = rw e (ap (λ zs. f y ∷ zs) rest)
    by false e rest = rw e refl

map_order : {A B : Type 0} (f : A → B) (less : B → B → Bool) (xs : List A) → map f (in_order (λ a b. less (f a) (f b)) xs) ≡ in_order less (map f xs)
map_order f less [] = refl
map_order f less (x ∷ xs) = map_insert f less x (in_order (λ a b. less (f a) (f b)) xs) ∙ ap (insert_in_order less (f x)) (map_order f less xs)

map_kept : {A B : Type 0} (f : A → B) (t : B → Bool) (xs : List A) → map f (kept (λ a. t (f a)) xs) ≡ kept t (map f xs)
map_kept f t [] = refl
map_kept f t (x ∷ xs) = by (t (f x)) refl (map_kept f t xs)
  where
    by : (b : Bool) → t (f x) ≡ b → map f (kept (λ a. t (f a)) xs) ≡ kept t (map f xs) → map f (kept (λ a. t (f a)) (x ∷ xs)) ≡ kept t (map f (x ∷ xs))
    by true e rest = rw e (ap (λ zs. f x ∷ zs) rest)
    by false e rest = rw e rest

pub same_at : {A : Type 0} (xs ys : List A) → ((k : ℕ) → slice_get xs k ≡ slice_get ys k) → xs ≡ ys
same_at [] [] h = refl
same_at [] (y ∷ ys) h = absurd (nothing_is y (h 0))
same_at (x ∷ xs) [] h = absurd (nothing_is x (sym (h 0)))
same_at (x ∷ xs) (y ∷ ys) h =
    let first : Some x ≡ Some y = h 0 in
    let e : x ≡ y = cc in
    let rest = same_at xs ys (λ k. h (suc k)) in
    λ i. e i ∷ rest i

pub none_past : {A : Type 0} (xs : List A) (k : ℕ) → length xs ≤ k → slice_get xs k ≡ None
none_past [] k h = refl
none_past (x ∷ xs) zero h = absurd (omega arith)
none_past (x ∷ xs) (suc k) h = none_past xs k (omega arith)

pub past_none : {A : Type 0} (xs : List A) (k : ℕ) → slice_get xs k ≡ None → length xs ≤ k
past_none [] k e = omega arith
past_none (x ∷ xs) zero e = absurd (nothing_is x (sym e))
past_none (x ∷ xs) (suc k) e = let h = past_none xs k e in omega arith

pub take_at : {A : Type 0} (xs : List A) (m k : ℕ) → k < m → slice_get (take m xs) k ≡ slice_get xs k
take_at xs zero k less = absurd (omega arith)
take_at [] (suc m) k less = refl
take_at (x ∷ xs) (suc m) zero less = refl
take_at (x ∷ xs) (suc m) (suc k) less = take_at xs m k (omega arith)

-- THE INPUT OF A NODE FOR WHICH A PIPE STANDS
record InputAt (n i : ℕ) (qs : List (ℕ × ℕ)) (x : Pipe) : Type 0 where
  place : ℕ
  input : x.wire.input ≡ i + place
  source : slice_get qs place ≡ Some (x.wire.sender, x.wire.port)
  receiver : x.wire.receiver ≡ n

of_inputs : (n i : ℕ) (qs : List (ℕ × ℕ)) (x : Pipe) → Contains (pipes_to n i qs) x → InputAt n i qs x
of_inputs n i [] x c = absurd (none_in_nil x c)
of_inputs n i (q ∷ qs) x c = by (of_inputs n (i + 1) qs x) (contains_cases (fresh_pipe q.0 q.1 n i) x (pipes_to n (i + 1) qs) c)
  where
    by : (Contains (pipes_to n (i + 1) qs) x → InputAt n (i + 1) qs x) → (fresh_pipe q.0 q.1 n i ≡ x) ⊎ Contains (pipes_to n (i + 1) qs) x → InputAt n i (q ∷ qs) x
    by rest (inl same) = subst (InputAt n i (q ∷ qs)) same (record { place = 0; input = omega arith; source = refl; receiver = refl })
    by rest (inr d) = let r = rest d in record { place = suc r.place; input = r.input ∙ (let e : (i + 1) + r.place ≡ i + suc r.place = omega arith in e); source = r.source; receiver = r.receiver }

record NodeAt (k : ℕ) (shape : Shape) (x : Pipe) : Type 0 where
  place : ℕ
  node : PhysicalNode
  is_node : slice_get shape place ≡ Some node
  input : InputAt (k + place) 0 node.inputs x

of_shape : (k : ℕ) (shape : Shape) (x : Pipe) → Contains (pipes_from shape k) x → NodeAt k shape x
of_shape k [] x c = absurd (none_in_nil x c)
of_shape k (p ∷ ps) x c = by (of_shape (k + 1) ps x) (Contains-append_cases (pipes_to k 0 p.inputs) (pipes_from ps (k + 1)) x c)
  where
    by : (Contains (pipes_from ps (k + 1)) x → NodeAt (k + 1) ps x) → Contains (pipes_to k 0 p.inputs) x ⊎ Contains (pipes_from ps (k + 1)) x → NodeAt k (p ∷ ps) x
    by rest (inl here) = let r = of_inputs k 0 p.inputs x here in record { place = 0; node = p; is_node = refl; input = let e : k ≡ k + 0 = omega arith in subst (λ n. InputAt n 0 p.inputs x) e r }
    by rest (inr d) =
        let r = rest d in
        record { place = suc r.place; node = r.node; is_node = r.is_node; input = let e : (k + 1) + r.place ≡ k + suc r.place = omega arith in subst (λ n. InputAt n 0 r.node.inputs x) e r.input }

not_sink : (kind : PhysicalKind) (k : ℕ) → HasReaders kind k → 0 < k → is_sink kind ≡ false
not_sink in_memory_sink k h some = absurd (omega (arith, h, some))
not_sink kind k h some = refl

module _ (F : Functions) (w : World) (f : Facts F w) where
  -- a pipe to a node stands for the input of its number
  pub input_of : (n : ℕ) (p : PhysicalNode) (q : Pipe) → slice_get (shape_of w) n ≡ Some p → Contains w.pipes q → q.wire.receiver ≡ n → slice_get p.inputs q.wire.input ≡ Some (q.wire.sender, q.wire.port)
  input_of n p q e c r =
      let among = subst (λ js. Contains js (joins_of q)) f.wires (contains_map joins_of q w.pipes c) in
      let x = from_map joins_of (joins_of q) (pipes_from (shape_of w) 0) among in
      let s = of_shape 0 (shape_of w) x.0 x.1 in
      let here : s.place ≡ n =
      (let at : x.0.wire.receiver ≡ 0 + s.place = s.input.receiver in
      let same : x.0.wire.receiver ≡ q.wire.receiver = ap (λ (j : Joins). j.receiver) x.2 in
      omega (arith, at, same, r)) in
      let found_node : Some s.node ≡ Some p = sym s.is_node ∙ ap (slice_get (shape_of w)) here ∙ e in
      let node : s.node ≡ p = cc in
      let place : s.input.place ≡ q.wire.input =
      (let at : x.0.wire.input ≡ 0 + s.input.place = s.input.input in
      let same : x.0.wire.input ≡ q.wire.input = ap (λ (j : Joins). j.input) x.2 in
      omega (arith, at, same)) in
      sym (ap (slice_get p.inputs) place) ∙ sym (ap (λ (y : PhysicalNode). slice_get y.inputs s.input.place) node) ∙ s.input.source ∙ (λ i. Some ((x.2 i).sender, (x.2 i).port))

  -- what a pipe leaves is no sink
  pub is_no_sink : (q : Pipe) → Contains w.pipes q → (node : Node) → slice_get w.nodes q.wire.sender ≡ Some node → is_sink node.node.kind ≡ false
  is_no_sink q c node at =
      let there = contains_map (λ (p : Pipe). p.wire) q w.pipes c in
      let some = slice_get_within (wires_out q.wire.sender (wires_of w)) q.wire.port q.wire (port_place F w f q.wire there) in
      let long = map_length (λ (p : Wire). p.receive_state) (wires_out q.wire.sender (wires_of w)) in
      not_sink node.node.kind (length (map (λ (p : Wire). p.receive_state) (wires_out q.wire.sender (wires_of w)))) (has_readers F w f q.wire.sender node at) (omega (arith, some, long))

  -- what a port of a node has sent is what its pipe has
  pub sent_in : (q : Pipe) → Contains w.pipes q → sent_at w q.wire.sender q.wire.port ≡ sent_by q
  sent_in q c =
      let there = contains_map (λ (p : Pipe). p.wire) q w.pipes c in
      let sender = (in_place F w f).sender q.wire there in
      sent_is w q.wire.sender q.wire.port sender.0 sender.1 (is_no_sink q c sender.0 sender.1) ∙ by (of_port w q.wire.sender q.wire.port) refl
    where
      by : (o : Option Pipe) → of_port w q.wire.sender q.wire.port ≡ o → sent_by_some o ≡ sent_by q
      by None none =
          absurd
          (missed (λ (p : Pipe). nat_eq p.wire.sender q.wire.sender && nat_eq p.wire.port q.wire.port) w.pipes none q c
          (both (nat_eq q.wire.sender q.wire.sender) (nat_eq q.wire.port q.wire.port) (itself q.wire.sender q.wire.sender refl) (itself q.wire.port q.wire.port refl)))
        where
          both : (a b : Bool) → a ≡ true → b ≡ true → (a && b) ≡ true
          both true b e h = h
          both false b e h = e
      by (Some z) here =
          let g = found (λ (p : Pipe). nat_eq p.wire.sender q.wire.sender && nat_eq p.wire.port q.wire.port) w.pipes z here in
          let b = both_true (nat_eq z.wire.sender q.wire.sender) (nat_eq z.wire.port q.wire.port) g.1 in
          let at_z = port_place F w f z.wire (contains_map (λ (p : Pipe). p.wire) z w.pipes g.0) in
          let at_q = port_place F w f q.wire (contains_map (λ (p : Pipe). p.wire) q w.pipes c) in
          let moved : slice_get (wires_out q.wire.sender (wires_of w)) q.wire.port ≡ Some z.wire =
          (λ i. slice_get (wires_out (sym (same_number z.wire.sender q.wire.sender b.0) i) (wires_of w)) (sym (same_number z.wire.port q.wire.port b.1) i)) ∙ at_z in
          let two : Some z.wire ≡ Some q.wire = sym moved ∙ at_q in
          let same : z.wire ≡ q.wire = cc in
          ap sent_by (f.one_input z q g.0 c (ap (λ (x : Wire). x.receiver) same) (ap (λ (x : Wire). x.input) same))

  pub wires_are : (n : ℕ) → map (λ (p : Pipe). p.wire) (pipes_in w n) ≡ wires_in n (wires_of w)
  wires_are n =
      map_order (λ (p : Pipe). p.wire) (λ (p q : Wire). nat_lt p.input q.input) (kept (λ (p : Pipe). nat_eq p.wire.receiver n) w.pipes)
      ∙ ap (in_order (λ (p q : Wire). nat_lt p.input q.input)) (map_kept (λ (p : Pipe). p.wire) (λ (p : Wire). nat_eq p.receiver n) w.pipes)

  -- a pipe among those to a node leads there, to the input of its place
  pub enters : (n k : ℕ) (q : Pipe) → slice_get (pipes_in w n) k ≡ Some q → Enters w n q × (q.wire.input ≡ k)
  enters n k q e =
      let among = ordered (λ (a b : Pipe). nat_lt a.wire.input b.wire.input) q (kept (λ (p : Pipe). nat_eq p.wire.receiver n) w.pipes) (contains_of (pipes_in w n) k q e) in
      let k' = was_kept (λ (p : Pipe). nat_eq p.wire.receiver n) q w.pipes among in
      let at : slice_get (wires_in n (wires_of w)) k ≡ Some q.wire = ap (λ ws. slice_get ws k) (sym (wires_are n)) ∙ slice_get-map (λ (p : Pipe). p.wire) (pipes_in w n) k ∙ ap (option_map (λ (p : Pipe). p.wire)) e in
      ((k'.0, same_number q.wire.receiver n k'.1), (input_at F w f n k q.wire at).2)

  pub inputs_long : (n : ℕ) (node : Node) → slice_get w.nodes n ≡ Some node → length (pipes_in w n) ≡ length node.node.inputs
  inputs_long n node there =
      sym (map_length (λ (p : Pipe). p.wire) (pipes_in w n)) ∙ ap length (wires_are n) ∙ sym (map_length (λ (p : Wire). p.send_state) (wires_in n (wires_of w))) ∙ inputs_given F w f n node there

  pub sent_to_is : (n : ℕ) (node : Node) → slice_get w.nodes n ≡ Some node → slice_get (shape_of w) n ≡ Some node.node → sent_to (sent_at w) node.node ≡ map sent_by (pipes_in w n)
  sent_to_is n node there in_shape = same_at (sent_to (sent_at w) node.node) (map sent_by (pipes_in w n)) (λ k. slice_get-map (λ (i : ℕ × ℕ). sent_at w i.0 i.1) node.node.inputs k ∙ at k (slice_get (pipes_in w n) k) refl ∙ sym (slice_get-map sent_by (pipes_in w n) k))
    where
      at : (k : ℕ) (o : Option Pipe) → slice_get (pipes_in w n) k ≡ o → option_map (λ (i : ℕ × ℕ). sent_at w i.0 i.1) (slice_get node.node.inputs k) ≡ option_map sent_by (slice_get (pipes_in w n) k)
      at k None e =
          let long = inputs_long n node there in
          let past = past_none (pipes_in w n) k e in
          let none = none_past node.node.inputs k (omega (arith, long, past)) in
          ap (option_map (λ (i : ℕ × ℕ). sent_at w i.0 i.1)) none ∙ sym (ap (option_map sent_by) e)
      at k (Some q) e =
          let g = enters n k q e in
          let source = sym (ap (slice_get node.node.inputs) g.1) ∙ input_of n node.node q in_shape g.0.0 g.0.1 in
          ap (option_map (λ (i : ℕ × ℕ). sent_at w i.0 i.1)) source ∙ ap Some (sent_in q g.0.0) ∙ sym (ap (option_map sent_by) e)
