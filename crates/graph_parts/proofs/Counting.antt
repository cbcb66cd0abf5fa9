-- How many pipes lead to and from each node of a shape.
use Rattle.std.proofs.Common.{◌≡◌, ◌≢◌, ℕ, zero, suc, ◌+◌, ◌<◌, ◌≤◌, ◌&&◌, Bool, true, false, cond, List, [], ◌∷◌, ◌++◌, Some, length, refl, ap, sym, subst, ◌∙◌, arith}
use Rattle.std.specs.Prelude.{count_by, map, nat_eq, slice_get}
use Rattle.std.specs.List.{AllByRecursion}
use Rattle.std.proofs.lemmas.Bool.Decides.{nat_tests}
use Rattle.std.proofs.lemmas.List.Sums.{sum_by-append, sum_by-cons}
use Rattle.ps_meaning.specs.Shape.{PhysicalNode, Shape}
use Rattle.ps_meaning.specs.Sound.{all_inputs, readers_of as shape_readers, readers_of_port as shape_port_readers}
use Rattle.ps_ports.specs.Wires.{Wire}
use Rattle.ps_graph.specs.Complete.{inputs_of, readers_of, readers_of_port}
use Rattle.graph_parts.proofs.Lists.{map-append}
use Rattle.graph_parts.specs.Wires.{blocked_wire, wires_from, wires_to}

count-cons : {A : Type 0} (t : A → Bool) (x : A) (xs : List A) → count_by t (x ∷ xs) ≡ cond (t x) 1 0 + count_by t xs
count-cons t x xs = sum_by-cons (λ y. cond (t y) 1 0) x xs

count-append : {A : Type 0} (t : A → Bool) (xs ys : List A) → count_by t (xs ++ ys) ≡ count_by t xs + count_by t ys
count-append t xs ys = sum_by-append (λ y. cond (t y) 1 0) xs ys

count-mapped : {A B : Type 0} (f : A → B) (t : B → Bool) (xs : List A) → count_by (λ x. t (f x)) xs ≡ count_by t (map f xs)
count-mapped f t [] = refl
count-mapped f t (x ∷ xs) = count-cons (λ y. t (f y)) x xs ∙ ap (λ n. cond (t (f x)) 1 0 + n) (count-mapped f t xs) ∙ sym (count-cons t (f x) (map f xs))

itself : (n m : ℕ) → n ≡ m → nat_eq n m ≡ true
itself n m e = grind (arith, nat_tests)

apart : (n m : ℕ) → n ≢ m → nat_eq n m ≡ false
apart n m e = grind (arith, nat_tests)

as-one : (b c : Bool) → b ≡ c → cond {A = ℕ} b 1 0 ≡ cond c 1 0
as-one b c e = ap (λ y. cond {A = ℕ} y 1 0) e

abbrev source_of : Wire → ℕ × ℕ
source_of w = (w.sender, w.port)

sources-to : (r i : ℕ) (is : List (ℕ × ℕ)) → map source_of (wires_to r i is) ≡ is
sources-to r i [] = refl
sources-to r i (s ∷ is) = ap (λ xs. s ∷ xs) (sources-to r (i + 1) is)

sources-from : (n : ℕ) (ps : Shape) → map source_of (wires_from n ps) ≡ all_inputs ps
sources-from n [] = refl
sources-from n (p ∷ ps) = map-append source_of (wires_to n 0 p.inputs) (wires_from (n + 1) ps) ∙ (λ i. sources-to n 0 p.inputs i ++ sources-from (n + 1) ps i)

pub readers-same : (ps : Shape) (n : ℕ) → readers_of n (wires_from 0 ps) ≡ shape_readers ps n
readers-same ps n = count-mapped source_of (λ (s : ℕ × ℕ). nat_eq s.0 n) (wires_from 0 ps) ∙ ap (count_by (λ (s : ℕ × ℕ). nat_eq s.0 n)) (sources-from 0 ps)

pub port-readers-same : (ps : Shape) (n port : ℕ) → readers_of_port n port (wires_from 0 ps) ≡ shape_port_readers ps n port
port-readers-same ps n port =
    count-mapped source_of (λ (s : ℕ × ℕ). nat_eq s.0 n && nat_eq s.1 port) (wires_from 0 ps) ∙ ap (count_by (λ (s : ℕ × ℕ). nat_eq s.0 n && nat_eq s.1 port)) (sources-from 0 ps)

none-of : (n : ℕ) (is : List (ℕ × ℕ)) → AllByRecursion (λ (i : ℕ × ℕ). i.0 < n) is → count_by (λ (i : ℕ × ℕ). nat_eq i.0 n) is ≡ 0
none-of n [] all = refl
none-of n (i ∷ is) all =
    let first = count-cons (λ (s : ℕ × ℕ). nat_eq s.0 n) i is in
    let here = as-one (nat_eq i.0 n) false (apart i.0 n (λ e. absurd (omega (arith, e, all.0)))) in
    let rest = none-of n is all.1 in
    omega (arith, first, here, rest)

pub weaker : (m n : ℕ) → m ≤ n → (is : List (ℕ × ℕ)) → AllByRecursion (λ (i : ℕ × ℕ). i.0 < m) is → AllByRecursion (λ (i : ℕ × ℕ). i.0 < n) is
weaker m n l [] all = tt
weaker m n l (i ∷ is) all = (omega (arith, l, all.0), weaker m n l is all.1)

-- a number past all nodes has no readers
pub none-read : (ps : Shape) (n : ℕ) → ((j : ℕ) (p : PhysicalNode) → slice_get ps j ≡ Some p → AllByRecursion (λ (i : ℕ × ℕ). i.0 < n) p.inputs) → shape_readers ps n ≡ 0
none-read [] n each = refl
none-read (p ∷ ps) n each =
    let all = count-append (λ (s : ℕ × ℕ). nat_eq s.0 n) p.inputs (all_inputs ps) in
    let here = none-of n p.inputs (each 0 p refl) in
    let rest = none-read ps n (λ j q e. each (suc j) q e) in
    omega (arith, all, here, rest)

to-itself : (r i : ℕ) (is : List (ℕ × ℕ)) → inputs_of r (wires_to r i is) ≡ length is
to-itself r i [] = refl
to-itself r i (s ∷ is) =
    let first = count-cons (λ (w : Wire). nat_eq w.receiver r) (blocked_wire r i s) (wires_to r (i + 1) is) in
    let here = as-one (nat_eq r r) true (itself r r refl) in
    let rest = to-itself r (i + 1) is in
    omega (arith, first, here, rest)

to-other : (n r i : ℕ) (is : List (ℕ × ℕ)) → n < r → inputs_of n (wires_to r i is) ≡ 0
to-other n r i [] l = refl
to-other n r i (s ∷ is) l =
    let first = count-cons (λ (w : Wire). nat_eq w.receiver n) (blocked_wire r i s) (wires_to r (i + 1) is) in
    let here = as-one (nat_eq r n) false (apart r n (λ e. absurd (omega (arith, e, l)))) in
    let rest = to-other n r (i + 1) is l in
    omega (arith, first, here, rest)

to-before : (n r i : ℕ) (is : List (ℕ × ℕ)) → r < n → inputs_of n (wires_to r i is) ≡ 0
to-before n r i [] l = refl
to-before n r i (s ∷ is) l =
    let first = count-cons (λ (w : Wire). nat_eq w.receiver n) (blocked_wire r i s) (wires_to r (i + 1) is) in
    let here = as-one (nat_eq r n) false (apart r n (λ e. absurd (omega (arith, e, l)))) in
    let rest = to-before n r (i + 1) is l in
    omega (arith, first, here, rest)

none-above : (k n : ℕ) (ps : Shape) → n < k → inputs_of n (wires_from k ps) ≡ 0
none-above k n [] l = refl
none-above k n (p ∷ ps) l =
    let all = count-append (λ (w : Wire). nat_eq w.receiver n) (wires_to k 0 p.inputs) (wires_from (k + 1) ps) in
    let here = to-other n k 0 p.inputs l in
    let rest = none-above (k + 1) n ps (omega (arith, l)) in
    omega (arith, all, here, rest)

pub into : (k n j : ℕ) (ps : Shape) (p : PhysicalNode) → n ≡ k + j → slice_get ps j ≡ Some p → inputs_of n (wires_from k ps) ≡ length p.inputs
into k n j [] p e at = cc
into k n zero (q ∷ ps) p e at =
    let same : q ≡ p = cc in
    let all = count-append (λ (w : Wire). nat_eq w.receiver n) (wires_to k 0 q.inputs) (wires_from (k + 1) ps) in
    let P : ℕ → Type 0 = λ m. inputs_of m (wires_to k 0 q.inputs) ≡ length q.inputs in
    let here = subst P (let s : k ≡ n = omega (arith, e) in s) (to-itself k 0 q.inputs) in
    let rest = none-above (k + 1) n ps (omega (arith, e)) in
    let long = ap (λ (x : PhysicalNode). length x.inputs) same in
    omega (arith, all, here, rest, long)
into k n (suc j) (q ∷ ps) p e at =
    let all = count-append (λ (w : Wire). nat_eq w.receiver n) (wires_to k 0 q.inputs) (wires_from (k + 1) ps) in
    let here = to-before n k 0 q.inputs (omega (arith, e)) in
    let rest = into (k + 1) n j ps p (omega (arith, e)) at in
    omega (arith, all, here, rest)
