-- A sorted list falls into as many runs as it has distinct values.
use Rattle.std.proofs.Common.{◌≡◌, ℕ, suc, ◌+◌, Bool, true, false, cond, List, [], ◌∷◌, length, map, drop, get_or, refl, sym, ◌∙◌, ap, eq-eqb, arith}
use Rattle.std.specs.Prelude.{filter, nat_eq, not, ◌||◌, if◌then◌else◌}
use Rattle.std.specs.List.Sorted.{IsSortedBy, IsStableBy}
use Rattle.std.specs.Cmp.{IsStrictWeakOrder, IsTotalOrder, on_total}
use Rattle.std.specs.Ordering.{is_eq, is_lt, ordering_reverse}
use Rattle.std.specs.declared.cmp.Ordering.{Ordering}
use Rattle.std.specs.declared.cmp.Ordering.TheVariants.{Less, Equal, Greater}
use Rattle.std.proofs.Math.Seq.{drop-cons}
use Rattle.std.proofs.lemmas.Cmp.{alike_right}
use Rattle.std.proofs.lemmas.List.{drop_all}
use Rattle.std.proofs.lemmas.List.Filters.{length-filter_both}
use Rattle.std.proofs.lemmas.List.Sorted.{ranks_by}
use Rattle.ps_frame.proofs.Orders.{value_total}
use Rattle.ps_frame.proofs.StableOrder.{stable_sort-is}
use Rattle.ps_frame.specs.Aggregates.{distinct_values}
use Rattle.ps_frame.specs.Sorting.{in_order, insert_in_order}
use Rattle.ps_frame.specs.Values.{same_value, value_cmp}
use Rattle.ps_frame.specs.declared.value.Value.{Value}
use Rattle.ps_compute.specs.Runs.{runs}

by_test : {P : Type 0} (b : Bool) → (b ≡ true → P) → (b ≡ false → P) → P
by_test true f g = f refl
by_test false f g = g refl

equal-from : (o : Ordering) → is_eq o ≡ true → o ≡ Equal
equal-from Less e = cc
equal-from Equal e = refl
equal-from Greater e = cc

reverse-eq : (o : Ordering) → is_eq (ordering_reverse o) ≡ is_eq o
reverse-eq Less = refl
reverse-eq Equal = refl
reverse-eq Greater = refl

less-left : (o : Ordering) → is_eq o ≡ false → is_lt (ordering_reverse o) ≡ false → is_lt o ≡ true
less-left Less e f = refl
less-left Equal e f = cc
less-left Greater e f = cc

-- a list's items of which no later one is the same, one by one
abbrev occurs : {A : Type 0} → (A → A → Ordering) → A → List A → Bool
occurs order x [] = false
occurs order x (y ∷ ys) = is_eq (order x y) || occurs order x ys

abbrev last_ones : {A : Type 0} → (A → A → Ordering) → List A → ℕ
last_ones order [] = 0
last_ones order (x ∷ xs) = last_ones order xs + cond (occurs order x xs) 0 1

module _ {A : Type 0} (order : A → A → Ordering) (total : IsTotalOrder order) where
  same-sym : (x y : A) → is_eq (order x y) ≡ is_eq (order y x)
  same-sym x y = ap is_eq (total.antisymm x y) ∙ reverse-eq (order y x)

  same-left : (x y z : A) → is_eq (order x y) ≡ true → order x z ≡ order y z
  same-left x y z e = total.congr x y z (equal-from (order x y) e)

  same-right : (x y z : A) → is_eq (order x y) ≡ true → order z x ≡ order z y
  same-right x y z e = alike_right total x y z (equal-from (order x y) e)

  occurs-left : (x y : A) (zs : List A) → is_eq (order x y) ≡ true → occurs order x zs ≡ occurs order y zs
  occurs-left x y [] e = refl
  occurs-left x y (z ∷ zs) e = ap (λ o. is_eq o || occurs order x zs) (same-left x y z e) ∙ ap (λ b. is_eq (order y z) || b) (occurs-left x y zs e)

  -- ---- an insertion in order only moves items

  or-swap : (a b c : Bool) → (a || (b || c)) ≡ (b || (a || c))
  or-swap true true c = refl
  or-swap true false c = refl
  or-swap false b c = refl

  occurs-insert : (less : A → A → Bool) (z x : A) (ys : List A) → occurs order z (insert_in_order less x ys) ≡ occurs order z (x ∷ ys)
  occurs-insert less z x [] = refl
  occurs-insert less z x (y ∷ ys) =
      by_test (less y x)
      (λ e. ap (λ b. occurs order z (cond b (y ∷ insert_in_order less x ys) (x ∷ y ∷ ys))) e
      ∙ ap (λ b. is_eq (order z y) || b) (occurs-insert less z x ys) ∙ or-swap (is_eq (order z y)) (is_eq (order z x)) (occurs order z ys))
      (λ e. ap (λ b. occurs order z (cond b (y ∷ insert_in_order less x ys) (x ∷ y ∷ ys))) e)

  swap-counts : (a p q : Bool) (n : ℕ) → (a ≡ true → p ≡ q) → (n + cond q 0 1) + cond (a || p) 0 1 ≡ (n + cond p 0 1) + cond (a || q) 0 1
  swap-counts true p q n e = ap (λ b. (n + cond b 0 1) + 0) (sym (e refl))
  swap-counts false p q n e = omega arith

  last-swap : (x y : A) (zs : List A) → last_ones order (y ∷ x ∷ zs) ≡ last_ones order (x ∷ y ∷ zs)
  last-swap x y zs =
      ap (λ b. (last_ones order zs + cond (occurs order x zs) 0 1) + cond (b || occurs order y zs) 0 1) (same-sym y x)
      ∙ swap-counts (is_eq (order x y)) (occurs order y zs) (occurs order x zs) (last_ones order zs) (λ e. sym (occurs-left x y zs e))

  last-insert : (less : A → A → Bool) (x : A) (ys : List A) → last_ones order (insert_in_order less x ys) ≡ last_ones order (x ∷ ys)
  last-insert less x [] = refl
  last-insert less x (y ∷ ys) =
      by_test (less y x)
      (λ e. ap (λ b. last_ones order (cond b (y ∷ insert_in_order less x ys) (x ∷ y ∷ ys))) e
      ∙ ap (λ b. last_ones order (insert_in_order less x ys) + cond b 0 1) (occurs-insert less y x ys)
      ∙ ap (λ n. n + cond (occurs order y (x ∷ ys)) 0 1) (last-insert less x ys) ∙ last-swap x y ys)
      (λ e. ap (λ b. last_ones order (cond b (y ∷ insert_in_order less x ys) (x ∷ y ∷ ys))) e)

  occurs-in_order : (less : A → A → Bool) (z : A) (xs : List A) → occurs order z (in_order less xs) ≡ occurs order z xs
  occurs-in_order less z [] = refl
  occurs-in_order less z (x ∷ xs) = occurs-insert less z x (in_order less xs) ∙ ap (λ b. is_eq (order z x) || b) (occurs-in_order less z xs)

  last-in_order : (less : A → A → Bool) (xs : List A) → last_ones order (in_order less xs) ≡ last_ones order xs
  last-in_order less [] = refl
  last-in_order less (x ∷ xs) =
      last-insert less x (in_order less xs) ∙ ap (λ b. last_ones order (in_order less xs) + cond b 0 1) (occurs-in_order less x xs)
      ∙ ap (λ n. n + cond (occurs order x xs) 0 1) (last-in_order less xs)

  -- ---- in a sorted list the next item decides

  weak : IsStrictWeakOrder (λ x y. is_lt (order x y))
  weak = ranks_by total (λ x. x)

  tail-sorted : (y : A) (ys : List A) → IsSortedBy (λ x y. is_lt (order x y)) (y ∷ ys) → IsSortedBy (λ x y. is_lt (order x y)) ys
  tail-sorted y ys s = λ k d g h. let next = s (suc k) d (omega arith) (omega arith) in let e : suc k + 1 ≡ suc (k + 1) = omega arith in rw e at next

  -- what is less than nothing in a list doesn't occur there, if it isn't the same as a lower bound of it
  apart : (y z : A) (us : List A) → is_eq (order y z) ≡ false → is_lt (order z y) ≡ false → IsSortedBy (λ x y. is_lt (order x y)) (z ∷ us) → occurs order y us ≡ false
  apart y z [] e f s = refl
  apart y z (u ∷ us) e f s =
      let below : is_lt (order u z) ≡ false = s 0 z (omega arith) (omega arith) in
      let less : is_lt (order y z) ≡ true = less-left (order y z) e (sym (ap is_lt (total.antisymm z y)) ∙ f) in
      let other : is_eq (order y u) ≡ false = by_test (is_eq (order y u))
      (λ t. absurd (let w : true ≡ false = sym less ∙ ap is_lt (same-left y u z t) ∙ below in cc)) (λ t. t) in
      let above : is_lt (order u y) ≡ false = weak.chain u z y below f in
      ap (λ b. b || occurs order y us) other ∙ apart y u us other above (tail-sorted z (u ∷ us) s)

  runs-sorted : (ys : List A) → IsSortedBy (λ x y. is_lt (order x y)) ys → runs ys (λ x y. is_eq (order x y)) ≡ last_ones order ys
  runs-sorted [] s = refl
  runs-sorted (y ∷ []) s = refl
  runs-sorted (y ∷ z ∷ zs) s =
      let rest = tail-sorted y (z ∷ zs) s in
      let first : is_lt (order z y) ≡ false = s 0 y (omega arith) (omega arith) in
      let one : is_eq (order y z) ≡ occurs order y (z ∷ zs) = by_test (is_eq (order y z))
      (λ e. e ∙ sym (ap (λ b. b || occurs order y zs) e))
      (λ e. e ∙ sym (ap (λ b. b || occurs order y zs) e ∙ apart y z zs e first rest)) in
      ap (λ n. n + cond (is_eq (order y z)) 0 1) (runs-sorted (z ∷ zs) rest) ∙ ap (λ b. last_ones order (z ∷ zs) + cond b 0 1) one

-- ---- distinct values are as many as the last ones of each

same-values-left : (v u w : Value) → same_value v u ≡ true → same_value v w ≡ same_value u w
same-values-left v u w e = ap is_eq (value_total.congr v u w (equal-from (value_cmp v u) e))

same-values-right : (v u w : Value) → same_value u w ≡ true → same_value v u ≡ same_value v w
same-values-right v u w e = ap is_eq (alike_right value_total u w v (equal-from (value_cmp u w) e))

none-left : (v u : Value) (ds : List Value) → same_value v u ≡ true → length (filter (same_value v) (filter (λ w. not (same_value u w)) ds)) ≡ 0
none-left v u [] e = refl
none-left v u (w ∷ ds) e =
    by_test (same_value u w)
    (λ t. ap (λ b. length (filter (same_value v) (cond (not b) (w ∷ filter (λ w. not (same_value u w)) ds) (filter (λ w. not (same_value u w)) ds)))) t ∙ none-left v u ds e)
    (λ t. ap (λ b. length (filter (same_value v) (cond (not b) (w ∷ filter (λ w. not (same_value u w)) ds) (filter (λ w. not (same_value u w)) ds)))) t
    ∙ ap (λ b. length (cond b (w ∷ filter (same_value v) (filter (λ w. not (same_value u w)) ds)) (filter (same_value v) (filter (λ w. not (same_value u w)) ds)))) (same-values-left v u w e ∙ t)
    ∙ none-left v u ds e)

all-left : (v u : Value) (ds : List Value) → same_value v u ≡ false → length (filter (same_value v) (filter (λ w. not (same_value u w)) ds)) ≡ length (filter (same_value v) ds)
all-left v u [] e = refl
all-left v u (w ∷ ds) e =
    by_test (same_value u w)
    (λ t. ap (λ b. length (filter (same_value v) (cond (not b) (w ∷ filter (λ w. not (same_value u w)) ds) (filter (λ w. not (same_value u w)) ds)))) t ∙ all-left v u ds e
    ∙ sym (ap (λ b. length (cond b (w ∷ filter (same_value v) ds) (filter (same_value v) ds))) (sym (same-values-right v u w t) ∙ e)))
    (λ t. ap (λ b. length (filter (same_value v) (cond (not b) (w ∷ filter (λ w. not (same_value u w)) ds) (filter (λ w. not (same_value u w)) ds)))) t
    ∙ kept (same_value v w) (all-left v u ds e))
  where
    kept : (b : Bool) → length (filter (same_value v) (filter (λ w. not (same_value u w)) ds)) ≡ length (filter (same_value v) ds)
        → length (cond b (w ∷ filter (same_value v) (filter (λ w. not (same_value u w)) ds)) (filter (same_value v) (filter (λ w. not (same_value u w)) ds))) ≡ length (cond b (w ∷ filter (same_value v) ds) (filter (same_value v) ds))
    kept true same = ap suc same
    kept false same = same

-- what occurs in a list stands once among its distinct values
once : (v : Value) (vs : List Value) → length (filter (same_value v) (distinct_values vs)) ≡ cond (occurs value_cmp v vs) 1 0
once v [] = refl
once v (u ∷ us) =
    by_test (same_value v u)
    (λ t. ap (λ b. length (cond b (u ∷ filter (same_value v) (filter (λ w. not (same_value u w)) (distinct_values us))) (filter (same_value v) (filter (λ w. not (same_value u w)) (distinct_values us))))) t
    ∙ ap suc (none-left v u (distinct_values us) t) ∙ sym (ap (λ b. cond (b || occurs value_cmp v us) 1 0) t))
    (λ t. ap (λ b. length (cond b (u ∷ filter (same_value v) (filter (λ w. not (same_value u w)) (distinct_values us))) (filter (same_value v) (filter (λ w. not (same_value u w)) (distinct_values us))))) t
    ∙ all-left v u (distinct_values us) t ∙ once v us ∙ sym (ap (λ b. cond (b || occurs value_cmp v us) 1 0) t))

one-more : (b : Bool) (l m n : ℕ) → l ≡ cond b 1 0 → l + m ≡ n → suc m ≡ n + cond b 0 1
one-more true l m n e f = omega arith
one-more false l m n e f = omega arith

distinct-length : (vs : List Value) → length (distinct_values vs) ≡ last_ones value_cmp vs
distinct-length [] = refl
distinct-length (v ∷ vs) =
    let others : Value → Bool = λ w. not (same_value v w) in
    one-more (occurs value_cmp v vs) (length (filter (same_value v) (distinct_values vs))) (length (filter others (distinct_values vs))) (last_ones value_cmp vs) (once v vs)
    (length-filter_both (same_value v) others (λ w. refl) (distinct_values vs) ∙ distinct-length vs)

-- ---- through a function

occurs-map : {A B : Type 0} (order : B → B → Ordering) (f : A → B) (x : A) (ys : List A) → occurs (λ a b. order (f a) (f b)) x ys ≡ occurs order (f x) (map f ys)
occurs-map order f x [] = refl
occurs-map order f x (y ∷ ys) = ap (λ b. is_eq (order (f x) (f y)) || b) (occurs-map order f x ys)

last-map : {A B : Type 0} (order : B → B → Ordering) (f : A → B) (xs : List A) → last_ones (λ a b. order (f a) (f b)) xs ≡ last_ones order (map f xs)
last-map order f [] = refl
last-map order f (x ∷ xs) =
    ap (λ n. n + cond (occurs (λ a b. order (f a) (f b)) x xs) 0 1) (last-map order f xs) ∙ ap (λ b. last_ones order (map f xs) + cond b 0 1) (occurs-map order f x xs)

-- the runs of items that were sorted by their values are as many as there are distinct values
pub runs-distinct : {A : Type 0} (f : A → Value) (xs ys : List A) (vs : List Value) (n : ℕ) → map f xs ≡ vs
    → IsSortedBy (λ a b. is_lt (value_cmp (f a) (f b))) ys → IsStableBy (λ a b. is_lt (value_cmp (f a) (f b))) xs ys
    → n ≡ runs ys (λ a b. same_value (f a) (f b)) → n ≡ length (distinct_values vs)
runs-distinct {A} f xs ys vs n all sorted stable is =
    let order : A → A → Ordering = λ a b. value_cmp (f a) (f b) in
    let less : A → A → Bool = λ a b. is_lt (order a b) in
    let total : IsTotalOrder order = on_total f value_total in
    is ∙ runs-sorted order total ys sorted
    ∙ ap (last_ones order) (stable_sort-is less (ranks_by total (λ x. x)) xs ys sorted stable)
    ∙ last-in_order order total less xs ∙ last-map value_cmp f xs ∙ ap (last_ones value_cmp) all ∙ sym (distinct-length vs)

-- the last item ends a run
pub run-ends : {A : Type 0} (xs : List A) (same : A → A → Bool) (i : ℕ) → i + 1 ≡ length xs → runs (drop i xs) same ≡ runs (drop (i + 1) xs) same + (if nat_eq (i + 1) (length xs) then 1 else 0)
run-ends [] same i e = absurd (omega arith)
run-ends (x ∷ xs) same i e =
    let rest : drop (suc i) (x ∷ xs) ≡ [] = drop_all (suc i) (x ∷ xs) (omega arith) in
    let rest' : drop (i + 1) (x ∷ xs) ≡ [] = drop_all (i + 1) (x ∷ xs) (omega arith) in
    ap (λ ys. runs ys same) (drop-cons (x ∷ xs) i x (omega arith) ∙ ap (λ ys. get_or (x ∷ xs) i x ∷ ys) rest)
    ∙ sym (ap (λ ys. runs ys same + (if nat_eq (i + 1) (length (x ∷ xs)) then 1 else 0)) rest' ∙ ap (λ b. 0 + (if b then 1 else 0)) (eq-eqb (i + 1) (length (x ∷ xs)) e))
