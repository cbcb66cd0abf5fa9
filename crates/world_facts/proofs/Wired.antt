-- In a reached world each wire stands at its input's and at its port's place among those of its nodes.
use Rattle.std.proofs.Common.{◌≡◌, ◌≢◌, ℕ, zero, suc, ◌<◌, ◌+◌, ◌≤◌, ◌⊎◌, Bool, true, false, cond, List, [], ◌∷◌, ◌++◌, length, None, Some, refl, sym, ap, subst, ◌∙◌, inl, inr, arith}
use Rattle.std.specs.Prelude.{Contains, map, nat_eq, slice_get, ◌&&◌}
use Rattle.std.specs.List.{count_by, filter as kept}
use Rattle.std.proofs.lemmas.Bool.Decides.{nat_tests}
use Rattle.std.proofs.lemmas.List.Sums.{length-filter}
use Rattle.ps_frame.specs.Functions.{Functions}
use Rattle.ps_ports.specs.Wires.{Wire, wires_in, wires_out}
use Rattle.ps_meaning.specs.Shape.{PhysicalNode, Shape}
use Rattle.ps_meaning.specs.Sound.{all_inputs, readers_of}
use Rattle.ps_world.specs.Facts.{FactsDownTo, Joins, joins_of}
use Rattle.ps_world.specs.Opening.{pipes_from, pipes_to}
use Rattle.ps_world.specs.World.{Pipe, World, shape_of, wires_of}
use Rattle.world_facts.proofs.Halting.{order_keeps}
use Rattle.world_facts.proofs.Numbers.{each_in_place, lower}
use Rattle.world_facts.proofs.OpeningFacts.{count_first, fold_map, map_append}
use Rattle.world_facts.proofs.Wiring.{wires_forward, wires_inside}
use Rattle.world_laws.proofs.InOrder.{contains_cases, contains_first, contains_kept, contains_later, none_in_nil}
use Rattle.world_laws.proofs.PassingPorts.{ordered, same_number, was_kept}

-- COUNTS
count_map : {A B : Type 0} (f : A → B) (t : B → Bool) (xs : List A) → count_by (λ x. t (f x)) xs ≡ count_by t (map f xs)
count_map f t xs = sym (fold_map f t 0 xs)

pub count_append : {A : Type 0} (t : A → Bool) (xs ys : List A) → count_by t (xs ++ ys) ≡ count_by t xs + count_by t ys
count_append t [] ys = omega arith
count_append t (x ∷ xs) ys = let a = count_first t x (xs ++ ys) in let b = count_first t x xs in let rest = count_append t xs ys in omega (arith, a, b, rest)

count_kept : {A : Type 0} (t u : A → Bool) (xs : List A) → count_by u (kept t xs) ≡ count_by (λ x. t x && u x) xs
count_kept t u [] = refl
count_kept t u (x ∷ xs) = by (t x) refl (count_kept t u xs)
  where
    by : (b : Bool) → t x ≡ b → count_by u (kept t xs) ≡ count_by (λ x. t x && u x) xs → count_by u (kept t (x ∷ xs)) ≡ count_by (λ x. t x && u x) (x ∷ xs)
    by true e rest =
        let a = count_first u x (kept t xs) in
        let c = count_first (λ x. t x && u x) x xs in
        let same : cond {A = ℕ} (t x && u x) 1 0 ≡ cond (u x) 1 0 = ap (λ b. cond {A = ℕ} (b && u x) 1 0) e in
        let here : count_by u (kept t (x ∷ xs)) ≡ count_by u (x ∷ kept t xs) = ap (λ b. count_by u (cond b (x ∷ kept t xs) (kept t xs))) e in
        omega (arith, a, c, same, here, rest)
    by false e rest =
        let c = count_first (λ x. t x && u x) x xs in
        let same : cond {A = ℕ} (t x && u x) 1 0 ≡ 0 = ap (λ b. cond {A = ℕ} (b && u x) 1 0) e in
        let here : count_by u (kept t (x ∷ xs)) ≡ count_by u (kept t xs) = ap (λ b. count_by u (cond b (x ∷ kept t xs) (kept t xs))) e in
        omega (arith, c, same, here, rest)

none_count : {A : Type 0} (t : A → Bool) (xs : List A) → ((x : A) → Contains xs x → t x ≡ false) → count_by t xs ≡ 0
none_count t [] h = refl
none_count t (x ∷ xs) h =
    let a = count_first t x xs in
    let here : cond {A = ℕ} (t x) 1 0 ≡ 0 = ap (λ b. cond {A = ℕ} b 1 0) (h x (contains_first x xs)) in
    let rest = none_count t xs (λ y c. h y (contains_later x y xs c)) in
    omega (arith, a, here, rest)

-- PORTS
abbrev ends_of : Pipe → ℕ × ℕ
ends_of p = (p.wire.sender, p.wire.port)

ends_to : (n i : ℕ) (qs : List (ℕ × ℕ)) → map ends_of (pipes_to n i qs) ≡ qs
ends_to n i [] = refl
ends_to n i (q ∷ qs) = ap (λ xs. q ∷ xs) (ends_to n (i + 1) qs)

ends_from : (shape : Shape) (k : ℕ) → map ends_of (pipes_from shape k) ≡ all_inputs shape
ends_from [] k = refl
ends_from (p ∷ ps) k = map_append ends_of (pipes_to k 0 p.inputs) (pipes_from ps (k + 1)) ∙ (λ i. ends_to k 0 p.inputs i ++ ends_from ps (k + 1) i)

-- INPUTS
abbrev goals_of : Pipe → ℕ × ℕ
goals_of p = (p.wire.receiver, p.wire.input)

abbrev pub is_to : ℕ → ℕ × ℕ → Bool
is_to n x = nat_eq x.0 n

abbrev is_at : ℕ → ℕ → ℕ × ℕ → Bool
is_at n j x = nat_eq x.0 n && nat_eq x.1 j

abbrev pub slots : ℕ → ℕ → List (ℕ × ℕ) → List (ℕ × ℕ)
slots n i [] = []
slots n i (q ∷ qs) = (n, i) ∷ slots n (i + 1) qs

abbrev pub targets : Shape → ℕ → List (ℕ × ℕ)
targets [] k = []
targets (p ∷ ps) k = slots k 0 p.inputs ++ targets ps (k + 1)

goals_to : (n i : ℕ) (qs : List (ℕ × ℕ)) → map goals_of (pipes_to n i qs) ≡ slots n i qs
goals_to n i [] = refl
goals_to n i (q ∷ qs) = ap (λ xs. (n, i) ∷ xs) (goals_to n (i + 1) qs)

goals_from : (shape : Shape) (k : ℕ) → map goals_of (pipes_from shape k) ≡ targets shape k
goals_from [] k = refl
goals_from (p ∷ ps) k = map_append goals_of (pipes_to k 0 p.inputs) (pipes_from ps (k + 1)) ∙ (λ i. goals_to k 0 p.inputs i ++ goals_from ps (k + 1) i)

one_or_none : (b : Bool) (x : Bool) → b ≡ x → cond {A = ℕ} b 1 0 ≡ cond x 1 0
one_or_none b x e = ap (λ y. cond {A = ℕ} y 1 0) e

itself : (n m : ℕ) → n ≡ m → nat_eq n m ≡ true
itself n m e = grind (arith, nat_tests)

pub apart : (n m : ℕ) → n ≢ m → nat_eq n m ≡ false
apart n m e = grind (arith, nat_tests)

pub slots_other : (m i n : ℕ) (qs : List (ℕ × ℕ)) (u : ℕ × ℕ → Bool) → ((j : ℕ) → u (m, j) ≡ false) → count_by u (slots m i qs) ≡ 0
slots_other m i n [] u none = refl
slots_other m i n (q ∷ qs) u none =
    let a = count_first u (m, i) (slots m (i + 1) qs) in let here = one_or_none (u (m, i)) false (none i) in let rest = slots_other m (i + 1) n qs u none in omega (arith, a, here, rest)

pub slots_all : (n i : ℕ) (qs : List (ℕ × ℕ)) → count_by (is_to n) (slots n i qs) ≡ length qs
slots_all n i [] = refl
slots_all n i (q ∷ qs) =
    let a = count_first (is_to n) (n, i) (slots n (i + 1) qs) in let here = one_or_none (nat_eq n n) true (itself n n refl) in let rest = slots_all n (i + 1) qs in omega (arith, a, here, rest)

at_both : (n i j : ℕ) (b : Bool) → nat_eq i j ≡ b → is_at n j (n, i) ≡ b
at_both n i j b e = ap (λ x. x && nat_eq i j) (itself n n refl) ∙ e

slots_before : (n i j : ℕ) (qs : List (ℕ × ℕ)) → j < i → count_by (is_at n j) (slots n i qs) ≡ 0
slots_before n i j [] h = refl
slots_before n i j (q ∷ qs) h =
    let a = count_first (is_at n j) (n, i) (slots n (i + 1) qs) in
    let here = one_or_none (is_at n j (n, i)) false (at_both n i j false (apart i j (λ e. absurd (omega arith)))) in
    let rest = slots_before n (i + 1) j qs (omega arith) in
    omega (arith, a, here, rest)

slots_one : (n i j : ℕ) (qs : List (ℕ × ℕ)) → i ≤ j → j < i + length qs → count_by (is_at n j) (slots n i qs) ≡ 1
slots_one n i j [] h g = absurd (omega arith)
slots_one n i j (q ∷ qs) h g = by (nat_eq i j) refl (slots_one n (i + 1) j qs)
  where
    all : count_by (is_at n j) (slots n i (q ∷ qs)) ≡ cond (is_at n j (n, i)) 1 0 + count_by (is_at n j) (slots n (i + 1) qs)
    all = count_first (is_at n j) (n, i) (slots n (i + 1) qs)

    same : nat_eq i j ≡ true → i ≡ j
    same e = grind (arith, nat_tests)

    differ : nat_eq i j ≡ false → i ≢ j
    differ e = grind (arith, nat_tests)

    by : (b : Bool) → nat_eq i j ≡ b → (i + 1 ≤ j → j < i + 1 + length qs → count_by (is_at n j) (slots n (i + 1) qs) ≡ 1) → count_by (is_at n j) (slots n i (q ∷ qs)) ≡ 1
    by true e rest =
        let here = one_or_none (is_at n j (n, i)) true (at_both n i j true e) in
        let s = same e in
        let none = slots_before n (i + 1) j qs (omega arith) in
        omega (arith, all, here, none)
    by false e rest =
        let here = one_or_none (is_at n j (n, i)) false (at_both n i j false e) in
        let d = differ e in
        let later = rest (omega arith) (omega arith) in
        omega (arith, all, here, later)

pub targets_above : (shape : Shape) (k n : ℕ) (u : ℕ × ℕ → Bool) → n < k → ((m j : ℕ) → n < m → u (m, j) ≡ false) → count_by u (targets shape k) ≡ 0
targets_above [] k n u h none = refl
targets_above (p ∷ ps) k n u h none =
    let a = count_append u (slots k 0 p.inputs) (targets ps (k + 1)) in
    let here = slots_other k 0 n p.inputs u (λ j. none k j h) in
    let rest = targets_above ps (k + 1) n u (omega arith) none in
    omega (arith, a, here, rest)

differ_at : (n j m i : ℕ) → n < m → is_at n j (m, i) ≡ false
differ_at n j m i h = ap (λ b. b && nat_eq i j) (apart m n (λ e. absurd (omega arith)))

-- each input of a node has one slot
targets_one : (shape : Shape) (k n j : ℕ) → j < count_by (is_to n) (targets shape k) → count_by (is_at n j) (targets shape k) ≡ 1
targets_one [] k n j h = absurd (omega arith)
targets_one (p ∷ ps) k n j h = by (nat_eq k n) refl (targets_one ps (k + 1) n j)
  where
    all : count_by (is_to n) (targets (p ∷ ps) k) ≡ count_by (is_to n) (slots k 0 p.inputs) + count_by (is_to n) (targets ps (k + 1))
    all = count_append (is_to n) (slots k 0 p.inputs) (targets ps (k + 1))

    ones : count_by (is_at n j) (targets (p ∷ ps) k) ≡ count_by (is_at n j) (slots k 0 p.inputs) + count_by (is_at n j) (targets ps (k + 1))
    ones = count_append (is_at n j) (slots k 0 p.inputs) (targets ps (k + 1))

    same : nat_eq k n ≡ true → k ≡ n
    same e = grind (arith, nat_tests)

    by : (b : Bool) → nat_eq k n ≡ b → (j < count_by (is_to n) (targets ps (k + 1)) → count_by (is_at n j) (targets ps (k + 1)) ≡ 1) → count_by (is_at n j) (targets (p ∷ ps) k) ≡ 1
    by true e rest =
        let s : k ≡ n = same e in
        let here : count_by (is_to n) (slots k 0 p.inputs) ≡ length p.inputs = ap (λ m. count_by (is_to n) (slots m 0 p.inputs)) s ∙ slots_all n 0 p.inputs in
        let none_to = targets_above ps (k + 1) n (is_to n) (omega arith) (λ m i g. apart m n (λ e. absurd (omega arith))) in
        let none_at = targets_above ps (k + 1) n (is_at n j) (omega arith) (λ m i g. differ_at n j m i g) in
        let one : count_by (is_at n j) (slots k 0 p.inputs) ≡ 1 = ap (λ m. count_by (is_at n j) (slots m 0 p.inputs)) s ∙ slots_one n 0 j p.inputs (omega arith) (omega (arith, h, all, here, none_to)) in
        omega (arith, ones, one, none_at)
    by false e rest =
        let none_to = slots_other k 0 n p.inputs (is_to n) (λ i. e) in
        let none_at = slots_other k 0 n p.inputs (is_at n j) (λ i. ap (λ b. b && nat_eq i j) e) in
        let later = rest (omega (arith, h, all, none_to)) in
        omega (arith, ones, none_at, later)

-- a place of what a list has
place_of : {A : Type 0} (xs : List A) (y : A) → Contains xs y → (j : ℕ) × (slice_get xs j ≡ Some y)
place_of [] y c = absurd (none_in_nil y c)
place_of (x ∷ xs) y c = by (place_of xs y) (contains_cases x y xs c)
  where
    by : (Contains xs y → (j : ℕ) × (slice_get xs j ≡ Some y)) → (x ≡ y) ⊎ Contains xs y → (j : ℕ) × (slice_get (x ∷ xs) j ≡ Some y)
    by rest (inl e) = (0, ap Some e)
    by rest (inr later) = let r = rest later in (suc r.0, r.1)

map_of_map : {A B C : Type 0} (f : A → B) (g : B → C) (xs : List A) → map g (map f xs) ≡ map (λ x. g (f x)) xs
map_of_map f g [] = refl
map_of_map f g (x ∷ xs) = ap (λ ys. g (f x) ∷ ys) (map_of_map f g xs)

contains_at : {A : Type 0} (xs : List A) (j : ℕ) (y : A) → slice_get xs j ≡ Some y → Contains xs y
contains_at [] j y e = absurd (let no : None ≡ Some y = e in cc)
contains_at (x ∷ xs) zero y e = let q : Some x ≡ Some y = e in let same : x ≡ y = cc in subst (Contains (x ∷ xs)) same (contains_first x xs)
contains_at (x ∷ xs) (suc j) y e = contains_later x y xs (contains_at xs j y e)

there_at : {A : Type 0} (ws : List A) (p : A) (j k : ℕ) → k ≡ j → slice_get ws j ≡ Some p → slice_get ws k ≡ Some p
there_at ws p j k e at = subst (λ m. slice_get ws m ≡ Some p) (sym e) at

module _ {k : ℕ} (F : Functions) (w : World) (f : FactsDownTo F k w) where
  ends_are : map (λ (p : Wire). (p.sender, p.port)) (wires_of w) ≡ all_inputs (shape_of w)
  ends_are =
      map_of_map (λ (p : Pipe). p.wire) (λ (p : Wire). (p.sender, p.port)) w.pipes ∙ sym (map_of_map joins_of (λ (j : Joins). (j.sender, j.port)) w.pipes)
      ∙ ap (map (λ (j : Joins). (j.sender, j.port))) f.wires ∙ map_of_map joins_of (λ (j : Joins). (j.sender, j.port)) (pipes_from (shape_of w) 0) ∙ ends_from (shape_of w) 0

  goals_are : map (λ (p : Wire). (p.receiver, p.input)) (wires_of w) ≡ targets (shape_of w) 0
  goals_are =
      map_of_map (λ (p : Pipe). p.wire) (λ (p : Wire). (p.receiver, p.input)) w.pipes ∙ sym (map_of_map joins_of (λ (j : Joins). (j.receiver, j.input)) w.pipes)
      ∙ ap (map (λ (j : Joins). (j.receiver, j.input))) f.wires ∙ map_of_map joins_of (λ (j : Joins). (j.receiver, j.input)) (pipes_from (shape_of w) 0) ∙ goals_from (shape_of w) 0

  pub count_ends : (t : ℕ × ℕ → Bool) → count_by (λ (p : Wire). t (p.sender, p.port)) (wires_of w) ≡ count_by t (all_inputs (shape_of w))
  count_ends t = count_map (λ (p : Wire). (p.sender, p.port)) t (wires_of w) ∙ ap (count_by t) ends_are

  pub count_goals : (t : ℕ × ℕ → Bool) → count_by (λ (p : Wire). t (p.receiver, p.input)) (wires_of w) ≡ count_by t (targets (shape_of w) 0)
  count_goals t = count_map (λ (p : Wire). (p.receiver, p.input)) t (wires_of w) ∙ ap (count_by t) goals_are

  among_in : (p : Wire) → Contains (wires_of w) p → Contains (wires_in p.receiver (wires_of w)) p
  among_in p c = order_keeps (lower (λ (q : Wire). q.input)) p (kept (λ (q : Wire). nat_eq q.receiver p.receiver) (wires_of w)) (contains_kept (λ (q : Wire). nat_eq q.receiver p.receiver) p (wires_of w) c (itself p.receiver p.receiver refl))

  pub among_out : (p : Wire) → Contains (wires_of w) p → Contains (wires_out p.sender (wires_of w)) p
  among_out p c = order_keeps (lower (λ (q : Wire). q.port)) p (kept (λ (q : Wire). nat_eq q.sender p.sender) (wires_of w)) (contains_kept (λ (q : Wire). nat_eq q.sender p.sender) p (wires_of w) c (itself p.sender p.sender refl))

  inputs_once : (n j : ℕ) → j < length (kept (λ (q : Wire). nat_eq q.receiver n) (wires_of w)) → count_by (λ (q : Wire). nat_eq q.input j) (kept (λ (q : Wire). nat_eq q.receiver n) (wires_of w)) ≡ 1
  inputs_once n j h =
      let long = length-filter (λ (q : Wire). nat_eq q.receiver n) (wires_of w) in
      let all = count_goals (is_to n) in
      count_kept (λ (q : Wire). nat_eq q.receiver n) (λ (q : Wire). nat_eq q.input j) (wires_of w) ∙ count_goals (is_at n j) ∙ targets_one (shape_of w) 0 n j (omega (arith, h, long, all))

  ports_once : (n j : ℕ) (p : PhysicalNode) → slice_get (shape_of w) n ≡ Some p → j < length (kept (λ (q : Wire). nat_eq q.sender n) (wires_of w)) → count_by (λ (q : Wire). nat_eq q.port j) (kept (λ (q : Wire). nat_eq q.sender n) (wires_of w)) ≡ 1
  ports_once n j p e h =
      let long = length-filter (λ (q : Wire). nat_eq q.sender n) (wires_of w) in
      let all : count_by (λ (q : Wire). nat_eq q.sender n) (wires_of w) ≡ readers_of (shape_of w) n = count_ends (is_to n) in
      count_kept (λ (q : Wire). nat_eq q.sender n) (λ (q : Wire). nat_eq q.port j) (wires_of w) ∙ count_ends (is_at n j) ∙ (f.sound.1 n p e).one_reader j (omega (arith, h, long, all))

  -- a wire stands at its input's place
  pub input_place : (p : Wire) → Contains (wires_of w) p → slice_get (wires_in p.receiver (wires_of w)) p.input ≡ Some p
  input_place p c =
      let there = place_of (wires_in p.receiver (wires_of w)) p (among_in p c) in
      let at = each_in_place (λ (q : Wire). q.input) (kept (λ (q : Wire). nat_eq q.receiver p.receiver) (wires_of w)) (inputs_once p.receiver) there.0 p there.1 in
      there_at (wires_in p.receiver (wires_of w)) p there.0 p.input at there.1

  -- a node of the shape that is named
  pub node_there : (n : ℕ) → n < length w.nodes → (p : PhysicalNode) × (slice_get (shape_of w) n ≡ Some p)
  node_there n h = there w.nodes n h
    where
      there : (nodes : List Rattle.ps_world.specs.World.Node) (n : ℕ) → n < length nodes → (p : PhysicalNode) × (slice_get (map (λ (x : Rattle.ps_world.specs.World.Node). x.node) nodes) n ≡ Some p)
      there [] n h = absurd (omega arith)
      there (x ∷ xs) zero h = (x.node, refl)
      there (x ∷ xs) (suc n) h = there xs n (omega arith)

  -- and at its port's
  pub port_place : (p : Wire) → Contains (wires_of w) p → slice_get (wires_out p.sender (wires_of w)) p.port ≡ Some p
  port_place p c =
      let there = place_of (wires_out p.sender (wires_of w)) p (among_out p c) in
      let forward = wires_forward F w f p c in
      let inside = wires_inside F w f p c in
      let node = node_there p.sender (omega arith) in
      let at = each_in_place (λ (q : Wire). q.port) (kept (λ (q : Wire). nat_eq q.sender p.sender) (wires_of w)) (λ j h. ports_once p.sender j node.0 node.1 h) there.0 p there.1 in
      there_at (wires_out p.sender (wires_of w)) p there.0 p.port at there.1

  -- what stands at an input's place is a wire of that input
  pub input_at : (n i : ℕ) (p : Wire) → slice_get (wires_in n (wires_of w)) i ≡ Some p → Contains (wires_of w) p × (p.receiver ≡ n) × (p.input ≡ i)
  input_at n i p e =
      let among = contains_at (wires_in n (wires_of w)) i p e in
      let out = was_kept (λ (q : Wire). nat_eq q.receiver n) p (wires_of w) (ordered (lower (λ (q : Wire). q.input)) p (kept (λ (q : Wire). nat_eq q.receiver n) (wires_of w)) among) in
      (out.0, same_number p.receiver n out.1, each_in_place (λ (q : Wire). q.input) (kept (λ (q : Wire). nat_eq q.receiver n) (wires_of w)) (inputs_once n) i p e)
