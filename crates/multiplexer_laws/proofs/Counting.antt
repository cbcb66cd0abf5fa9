-- Counts over lists of numbers in which none stands twice.
use Rattle.std.proofs.Common.{◌≡◌, ◌≢◌, ◌⊎◌, inl, inr, ℕ, zero, suc, ◌+◌, ◌<◌, ◌≤◌, Bool, true, false, List, [], ◌∷◌, ◌++◌, map, refl, sym, ap, subst, ◌∙◌, arith}
use Rattle.std.proofs.lemmas.Bool.{eqb-false, eqb-true}
use Rattle.std.specs.Prelude.{flat_map, if◌then◌else◌, ◌==◌, ◌||◌}
use Rattle.multiplexer_laws.proofs.Members.{Apart, Stands, front_or_more, no_stand, not_both, stands_here, stands_more, stands_split}
use Rattle.ps_multiplexers.specs.Multiplexers.{times}
use Rattle.ps_multiplexers.specs.Taken.{numbers_from, takes}
use Rattle.ps_phys.specs.Walks.{Stream, is_one_of, numbers_of}

abbrev pub total : (ℕ → ℕ) → List ℕ → ℕ
total w [] = 0
total w (n ∷ ns) = w n + total w ns

-- a list without one number
abbrev less : ℕ → List ℕ → List ℕ
less x [] = []
less x (y ∷ ys) = if y == x then ys else y ∷ less x ys

total_less : (w : ℕ → ℕ) (x : ℕ) (ys : List ℕ) → Stands x ys → total w ys ≡ w x + total w (less x ys)
total_less w x [] h = cc
total_less w x (y ∷ ys) h = by (y == x) refl h (λ k. total_less w x ys k)
  where
    by : (b : Bool) → y == x ≡ b → (b || is_one_of x ys) ≡ true → (Stands x ys → total w ys ≡ w x + total w (less x ys)) → w y + total w ys ≡ w x + total w (if b then ys else y ∷ less x ys)
    by true e f rest = ap (λ n. w n + total w ys) (eqb-true y x e)
    by false e f rest = let r = rest f in omega (arith, r)

stands_less : (x m : ℕ) (ys : List ℕ) → Stands m ys → x ≢ m → Stands m (less x ys)
stands_less x m [] h apart = h
stands_less x m (y ∷ ys) h apart = by (y == x) refl (front_or_more m y ys h) (λ k. stands_less x m ys k apart)
  where
    by : (b : Bool) → y == x ≡ b → (y ≡ m) ⊎ Stands m ys → (Stands m ys → Stands m (less x ys)) → Stands m (if b then ys else y ∷ less x ys)
    by true e (inl is) rest = absurd (apart (sym (eqb-true y x e) ∙ is))
    by true e (inr k) rest = k
    by false e (inl is) rest = stands_here m y (less x ys) is
    by false e (inr k) rest = stands_more m y (less x ys) (rest k)

total_within : (w : ℕ → ℕ) (xs ys : List ℕ) → Apart xs → ((m : ℕ) → Stands m xs → Stands m ys) → total w xs ≤ total w ys
total_within w [] ys a sub = omega arith
total_within w (x ∷ xs) ys a sub =
    let e = total_less w x ys (sub x (stands_here x x xs refl)) in
    let l = total_within w xs (less x ys) a.1 (λ m h. stands_less x m ys (sub m (stands_more m x xs h)) (other m h)) in
    omega (arith, e, l)
  where
    other : (m : ℕ) → Stands m xs → x ≢ m
    other m h is = let P : ℕ → Type 0 = λ y. Stands y xs in not_both (is_one_of x xs) (subst P (sym is) h) a.0

-- lists of the same numbers have the same sum
pub total_same : (w : ℕ → ℕ) (xs ys : List ℕ) → Apart xs → Apart ys → ((m : ℕ) → Stands m xs → Stands m ys) → ((m : ℕ) → Stands m ys → Stands m xs) → total w xs ≡ total w ys
total_same w xs ys a b sub back =
    let l = total_within w xs ys a sub in
    let k = total_within w ys xs b back in
    omega (arith, l, k)

pub total_append : (w : ℕ → ℕ) (xs ys : List ℕ) → total w (xs ++ ys) ≡ total w xs + total w ys
total_append w [] ys = omega arith
total_append w (x ∷ xs) ys = let h = total_append w xs ys in omega (arith, h)

pub total_none : (w : ℕ → ℕ) (xs : List ℕ) → ((n : ℕ) → Stands n xs → w n ≡ 0) → total w xs ≡ 0
total_none w [] h = refl
total_none w (x ∷ xs) h =
    let one = h x (stands_here x x xs refl) in
    let rest = total_none w xs (λ n k. h n (stands_more n x xs k)) in
    omega (arith, one, rest)

pub total_some : (w : ℕ → ℕ) (xs : List ℕ) (n : ℕ) → Stands n xs → w n ≤ total w xs
total_some w xs n h = let e = total_less w n xs h in omega (arith, e)

pub total_alike : (v w : ℕ → ℕ) (xs : List ℕ) → ((n : ℕ) → Stands n xs → v n ≡ w n) → total v xs ≡ total w xs
total_alike v w [] h = refl
total_alike v w (x ∷ xs) h = λ i. h x (stands_here x x xs refl) i + total_alike v w xs (λ n k. h n (stands_more n x xs k)) i

-- what stands in each of several lists
pub stands_flat : (f : ℕ → List ℕ) (ns : List ℕ) (m : ℕ) → Stands m (flat_map f ns) → (n : ℕ) × Stands n ns × Stands m (f n)
stands_flat f [] m h = cc
stands_flat f (n ∷ ns) m h = by (stands_split m (f n) (flat_map f ns) h) (λ k. stands_flat f ns m k)
  where
    by : Stands m (f n) ⊎ Stands m (flat_map f ns) → (Stands m (flat_map f ns) → (x : ℕ) × Stands x ns × Stands m (f x)) → (x : ℕ) × Stands x (n ∷ ns) × Stands m (f x)
    by (inl k) rest = (n, stands_here n n ns refl, k)
    by (inr k) rest = let r = rest k in (r.0, stands_more r.0 n ns r.1, r.2)

pub stands_map : (g : ℕ → ℕ) (ns : List ℕ) (n : ℕ) → Stands n ns → Stands (g n) (map g ns)
stands_map g [] n h = cc
stands_map g (x ∷ ns) n h = by (front_or_more n x ns h) (λ k. stands_map g ns n k)
  where
    by : (x ≡ n) ⊎ Stands n ns → (Stands n ns → Stands (g n) (map g ns)) → Stands (g n) (g x ∷ map g ns)
    by (inl is) rest = stands_here (g n) (g x) (map g ns) (ap g is)
    by (inr k) rest = stands_more (g n) (g x) (map g ns) (rest k)

pub map_stands : (g : ℕ → ℕ) (ns : List ℕ) (m : ℕ) → Stands m (map g ns) → (n : ℕ) × Stands n ns × (g n ≡ m)
map_stands g [] m h = cc
map_stands g (x ∷ ns) m h = by (front_or_more m (g x) (map g ns) h) (λ k. map_stands g ns m k)
  where
    by : (g x ≡ m) ⊎ Stands m (map g ns) → (Stands m (map g ns) → (n : ℕ) × Stands n ns × (g n ≡ m)) → (n : ℕ) × Stands n (x ∷ ns) × (g n ≡ m)
    by (inl is) rest = (x, stands_here x x ns refl, is)
    by (inr k) rest = let r = rest k in (r.0, stands_more r.0 x ns r.1, r.2)

-- how often a number or a stream stands in lists
pub times_append : (n : ℕ) (xs ys : List ℕ) → times n (xs ++ ys) ≡ times n xs + times n ys
times_append n [] ys = omega arith
times_append n (x ∷ xs) ys = let h = times_append n xs ys in omega (arith, h)

pub takes_append : (s : Stream) (xs ys : List Stream) → takes s (xs ++ ys) ≡ takes s xs + takes s ys
takes_append s [] ys = omega arith
takes_append s (x ∷ xs) ys = let h = takes_append s xs ys in omega (arith, h)

pub numbers_append : (xs ys : List Stream) → numbers_of (xs ++ ys) ≡ numbers_of xs ++ numbers_of ys
numbers_append [] ys = refl
numbers_append (x ∷ xs) ys = ap (λ ns. x.0 ∷ ns) (numbers_append xs ys)

pub takes_total : (s : Stream) (f : ℕ → List Stream) (ns : List ℕ) → takes s (flat_map f ns) ≡ total (λ n. takes s (f n)) ns
takes_total s f [] = refl
takes_total s f (n ∷ ns) = takes_append s (f n) (flat_map f ns) ∙ ap (λ k. takes s (f n) + k) (takes_total s f ns)

pub times_total : (m : ℕ) (f : ℕ → List Stream) (ns : List ℕ) → times m (numbers_of (flat_map f ns)) ≡ total (λ n. times m (numbers_of (f n))) ns
times_total m f [] = refl
times_total m f (n ∷ ns) = ap (λ xs. times m xs) (numbers_append (f n) (flat_map f ns)) ∙ times_append m (numbers_of (f n)) (numbers_of (flat_map f ns)) ∙ ap (λ k. times m (numbers_of (f n)) + k) (times_total m f ns)

pub times_stands : (m : ℕ) (ns : List ℕ) → Stands m ns → 1 ≤ times m ns
times_stands m [] h = cc
times_stands m (n ∷ ns) h = by (n == m) h (λ k. times_stands m ns k)
  where
    by : (b : Bool) → (b || is_one_of m ns) ≡ true → (Stands m ns → 1 ≤ times m ns) → 1 ≤ (if b then 1 else 0) + times m ns
    by true e rest = omega arith
    by false e rest = let r = rest e in omega (arith, r)

pub times_none : (m : ℕ) (ns : List ℕ) → is_one_of m ns ≡ false → times m ns ≡ 0
times_none m [] h = refl
times_none m (n ∷ ns) h = by (n == m) h (λ k. times_none m ns k)
  where
    by : (b : Bool) → (b || is_one_of m ns) ≡ false → (is_one_of m ns ≡ false → times m ns ≡ 0) → (if b then 1 else 0) + times m ns ≡ 0
    by true e rest = cc
    by false e rest = let r = rest e in omega (arith, r)

-- consecutive numbers
pub from_first : (first k n : ℕ) → Stands n (numbers_from first k) → (first ≤ n) × (n < first + k)
from_first first zero n h = cc
from_first first (suc k) n h = by (front_or_more n first (numbers_from (first + 1) k) h) (λ e. from_first (first + 1) k n e)
  where
    by : (first ≡ n) ⊎ Stands n (numbers_from (first + 1) k) → (Stands n (numbers_from (first + 1) k) → (first + 1 ≤ n) × (n < first + 1 + k)) → (first ≤ n) × (n < first + suc k)
    by (inl is) rest = (omega (arith, is), omega (arith, is))
    by (inr e) rest = let r = rest e in let a = r.0 in let b = r.1 in (omega (arith, a), omega (arith, b))

pub in_from : (first k n : ℕ) → first ≤ n → n < first + k → Stands n (numbers_from first k)
in_from first zero n a b = absurd (omega (arith, a, b))
in_from first (suc k) n a b = by (first == n) refl (λ l. in_from (first + 1) k n l (omega (arith, b)))
  where
    by : (c : Bool) → first == n ≡ c → (first + 1 ≤ n → Stands n (numbers_from (first + 1) k)) → (c || is_one_of n (numbers_from (first + 1) k)) ≡ true
    by true e rest = refl
    by false e rest = let apart = eqb-false first n e in rest (above a apart)
      where
        above : first ≤ n → first ≢ n → first + 1 ≤ n
        above l apart = omega (arith, l, apart)

pub from_apart : (first k : ℕ) → Apart (numbers_from first k)
from_apart first zero = tt
from_apart first (suc k) = (no_stand first (numbers_from (first + 1) k) (λ h. (let l = (from_first (first + 1) k first h).0 in omega (arith, l))), from_apart (first + 1) k)

pub apart_both : (xs ys : List ℕ) → Apart xs → Apart ys → ((n : ℕ) → Stands n xs → Stands n ys → ⊥) → Apart (xs ++ ys)
apart_both [] ys a b h = b
apart_both (x ∷ xs) ys a b h = (no_stand x (xs ++ ys) (λ e. by (stands_split x xs ys e)), apart_both xs ys a.1 b (λ n p q. h n (stands_more n x xs p) q))
  where
    by : Stands x xs ⊎ Stands x ys → ⊥
    by (inl e) = not_both (is_one_of x xs) e a.0
    by (inr e) = h x (stands_here x x xs refl) e
