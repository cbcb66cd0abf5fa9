-- The columns of two sides, one after the other, with a suffix where a right name stands on the left: over wider sides no name stands twice, and the columns of the narrower ones are among them.
use Rattle.std.proofs.Common.{◌≡◌, ◌⊎◌, inl, inr, ◌+◌, ◌<◌, ◌≤◌, Bool, true, false, cond, List, [], ◌∷◌, ◌++◌, refl, sym, ap, subst, ◌∙◌, arith}
use Rattle.std.specs.Prelude.{Contains, map}
use Rattle.std.specs.Cmp.Lexicographic.{bytes_decides}
use Rattle.std.specs.List.{AllByRecursion}
use Rattle.std.specs.Str.{bytes_eq}
use Rattle.std.proofs.lemmas.Bool.{cases_lt, or_cases}
use Rattle.std.proofs.lemmas.List.{map-append}
use Rattle.std.proofs.lemmas.List.Folds.{list_any-append}
use Rattle.ps_frame.specs.Tables.{Fields}
use Rattle.ps_frame.specs.declared.value.DataType.{DataType}
use Rattle.ps_meaning.proofs.Begins.{or-left, or-right}
use Rattle.ps_meaning.specs.Schemas.{is_among, names_of, suffixed}
use Rattle.ps_meaning.specs.Steps.{Name}
use Rattle.ps_shares.proofs.Members.{Has, from_has}
use Rattle.name_rules.proofs.Times.{among_times, times, times_among, times_append}
use Rattle.rule_parts.proofs.Picks.{same_self}

-- of names under a function
from_map : (g : Name → Name) (ns : List Name) (n : Name) → is_among n (map g ns) ≡ true → (m : Name) × (is_among m ns ≡ true) × (n ≡ g m)
from_map g [] n q = cc
from_map g (k ∷ ns) n q =
    elim (or_cases (bytes_eq n (g k)) (is_among n (map g ns)) q) [
      | inl p ↦ (k, or-left (bytes_eq k k) (is_among k ns) (same_self k), (bytes_decides n (g k)).0 p)
      | inr p ↦ (let r = from_map g ns n p in (r.0, or-right (bytes_eq r.0 k) (is_among r.0 ns) r.1, r.2))
    ]

pub to_map : (g : Name → Name) (ns : List Name) (m : Name) → is_among m ns ≡ true → is_among (g m) (map g ns) ≡ true
to_map g [] m q = cc
to_map g (k ∷ ns) m q =
    elim (or_cases (bytes_eq m k) (is_among m ns) q) [
      | inl p ↦ or-left (bytes_eq (g m) (g k)) (is_among (g m) (map g ns)) ((bytes_decides (g m) (g k)).1 (ap g ((bytes_decides m k).0 p)))
      | inr p ↦ or-right (bytes_eq (g m) (g k)) (is_among (g m) (map g ns)) (to_map g ns m p)
    ]

counted_first : (n k : Name) (ns : List Name) → n ≡ k → times n (k ∷ ns) ≡ 1 + times n ns
counted_first n k ns e = ap (λ (b : Bool). cond b 1 0 + times n ns) ((bytes_decides n k).1 e)

counted_less : (n k : Name) (ns : List Name) → times n ns ≤ times n (k ∷ ns)
counted_less n k ns = by (bytes_eq n k)
  where
    by : (b : Bool) → times n ns ≤ cond b 1 0 + times n ns
    by true = omega arith
    by false = omega arith

-- where a function's name stands once, it is that of one name
pub told : (g : Name → Name) (ns : List Name) (m k : Name) → is_among m ns ≡ true → is_among k ns ≡ true → g m ≡ g k → times (g m) (map g ns) ≤ 1 → m ≡ k
told g [] m k p q e le = cc
told g (j ∷ ns) m k p q e le = by (or_cases (bytes_eq m j) (is_among m ns) p) (or_cases (bytes_eq k j) (is_among k ns) q) (λ u v. told g ns m k u v e (let l = counted_less (g m) (g j) (map g ns) in omega arith))
  where
    by : (bytes_eq m j ≡ true) ⊎ (is_among m ns ≡ true) → (bytes_eq k j ≡ true) ⊎ (is_among k ns ≡ true) → (is_among m ns ≡ true → is_among k ns ≡ true → m ≡ k) → m ≡ k
    by (inl u) (inl v) more = (bytes_decides m j).0 u ∙ sym ((bytes_decides k j).0 v)
    by (inl u) (inr v) more =
        let c = counted_first (g m) (g j) (map g ns) (ap g ((bytes_decides m j).0 u)) in
        let l = among_times (g m) (map g ns) (ap (λ x. is_among x (map g ns)) e ∙ to_map g ns k v) in
        absurd (omega arith)
    by (inr u) (inl v) more =
        let c = counted_first (g m) (g j) (map g ns) (e ∙ ap g ((bytes_decides k j).0 v)) in
        let l = among_times (g m) (map g ns) (to_map g ns m u) in
        absurd (omega arith)
    by (inr u) (inr v) more = more u v

once_under : (g : Name → Name) (ns : List Name) → ((n : Name) → times n ns ≤ 1) → ((m k : Name) → is_among m ns ≡ true → is_among k ns ≡ true → g m ≡ g k → m ≡ k) → (n : Name) → times n (map g ns) ≤ 1
once_under g [] once apart n = omega arith
once_under g (j ∷ ns) once apart n =
    by (bytes_eq n (g j)) refl (once_under g ns (λ m. let l = counted_less m j ns in let o = once m in omega arith) (λ m k p q e. apart m k (or-right (bytes_eq m j) (is_among m ns) p) (or-right (bytes_eq k j) (is_among k ns) q) e) n) (cases_lt 0 (times n (map g ns)))
  where
    by : (b : Bool) → bytes_eq n (g j) ≡ b → times n (map g ns) ≤ 1 → (0 < times n (map g ns)) ⊎ (times n (map g ns) ≤ 0) → cond b 1 0 + times n (map g ns) ≤ 1
    by false p le c = omega arith
    by true p le (inr z) = omega arith
    by true p le (inl lt) =
        let r = from_map g ns n (times_among n (map g ns) (omega arith)) in
        let is : j ≡ r.0 = apart j r.0 (or-left (bytes_eq j j) (is_among j ns) (same_self j)) (or-right (bytes_eq r.0 j) (is_among r.0 ns) r.1) (sym ((bytes_decides n (g j)).0 p) ∙ r.2) in
        let o = once j in
        let c = counted_first j j ns refl in
        let l = among_times j ns (ap (λ x. is_among x ns) is ∙ r.1) in
        absurd (omega arith)

pub same_truth : (a b : Bool) → (a ≡ true → b ≡ true) → (b ≡ true → a ≡ true) → a ≡ b
same_truth true b f g = sym (f refl)
same_truth false true f g = g refl
same_truth false false f g = refl

-- a right name beside these left ones
abbrev pub renamed : Name → List Name → Name → Name
renamed suffix taken m = cond (is_among m taken) (m ++ suffix) m

pub suffixed_names : (suffix : Name) (taken : List Name) (s : Fields) → names_of (suffixed suffix taken s) ≡ map (renamed suffix taken) (names_of s)
suffixed_names suffix taken [] = refl
suffixed_names suffix taken (x ∷ s) = ap (λ (ns : List Name). renamed suffix taken x.0 ∷ ns) (suffixed_names suffix taken s)

suffixed_has : (suffix : Name) (taken : List Name) (s : Fields) (x : Name × DataType) → Has s x → Has (suffixed suffix taken s) (renamed suffix taken x.0, x.1)
suffixed_has suffix taken [] x h = absurd h
suffixed_has suffix taken (y ∷ s) x (inl e) = inl (ap (λ (f : Name × DataType). (renamed suffix taken f.0, f.1)) e)
suffixed_has suffix taken (y ∷ s) x (inr h) = inr (suffixed_has suffix taken s x h)

has_first : (s t : Fields) (x : Name × DataType) → Has s x → Has (s ++ t) x
has_first [] t x h = absurd h
has_first (y ∷ s) t x (inl e) = inl e
has_first (y ∷ s) t x (inr h) = inr (has_first s t x h)

has_last : (s t : Fields) (x : Name × DataType) → Has t x → Has (s ++ t) x
has_last [] t x h = h
has_last (y ∷ s) t x h = inr (has_last s t x h)

has_its_name : (s : Fields) (x : Name × DataType) → Has s x → is_among x.0 (names_of s) ≡ true
has_its_name [] x h = absurd h
has_its_name (y ∷ s) x (inl e) = or-left (bytes_eq x.0 y.0) (is_among x.0 (names_of s)) ((bytes_decides x.0 y.0).1 (ap (λ (f : Name × DataType). f.0) (sym e)))
has_its_name (y ∷ s) x (inr h) = or-right (bytes_eq x.0 y.0) (is_among x.0 (names_of s)) (has_its_name s x h)

-- both sides, one after the other
abbrev pub merged : Name → Fields → Fields → Fields
merged suffix l r = l ++ suffixed suffix (names_of l) r

pub merged_names : (suffix : Name) (l r : Fields) → names_of (merged suffix l r) ≡ names_of l ++ map (renamed suffix (names_of l)) (names_of r)
merged_names suffix l r = map-append (λ (x : Name × DataType). x.0) l (suffixed suffix (names_of l) r) ∙ ap (λ (ns : List Name). names_of l ++ ns) (suffixed_names suffix (names_of l) r)

-- Sides and wider ones: what was known before is the same on both, and what isn't is new.
pub record AreWider (Before After : Name → Type 0) (suffix : Name) (l r wide_l wide_r : Fields) : Type 0 where
  pub once : (n : Name) → times n (names_of (merged suffix l r)) ≤ 1
  pub known : (n : Name) → is_among n (names_of (merged suffix l r)) ≡ true → Before n
  pub left_old : (n : Name) → is_among n (names_of wide_l) ≡ true → Before n → is_among n (names_of l) ≡ true
  pub left_new : (n : Name) → is_among n (names_of l) ≡ true → is_among n (names_of wide_l) ≡ true
  pub left_known : (n : Name) → is_among n (names_of wide_l) ≡ true → After n
  pub left_once : (n : Name) → times n (names_of wide_l) ≤ 1
  pub right_known : (n : Name) → is_among n (names_of r) ≡ true → Before n
  pub right_cases : (n : Name) → is_among n (names_of wide_r) ≡ true → (Before n × (is_among n (names_of r) ≡ true)) ⊎ (After n → ⊥)
  pub right_once : (n : Name) → times n (names_of wide_r) ≤ 1
  pub left_has : (x : Name × DataType) → Has l x → Has wide_l x
  pub right_has : (x : Name × DataType) → Has r x → Has wide_r x
  pub still : (n : Name) → Before n → After n

module _ (Before After : Name → Type 0) (suffix : Name) (l r wide_l wide_r : Fields) (h : AreWider Before After suffix l r wide_l wide_r) where
  abbrev narrow : Name → Name
  narrow m = renamed suffix (names_of l) m

  abbrev wide : Name → Name
  wide m = renamed suffix (names_of wide_l) m

  wide_old : (m : Name) → Before m → wide m ≡ narrow m
  wide_old m k = ap (λ (b : Bool). cond b (m ++ suffix) m) (same_truth (is_among m (names_of wide_l)) (is_among m (names_of l)) (λ q. h.left_old m q k) (λ q. h.left_new m q))

  wide_new : (m : Name) → (After m → ⊥) → wide m ≡ m
  wide_new m never = by (is_among m (names_of wide_l)) refl
    where
      by : (b : Bool) → is_among m (names_of wide_l) ≡ b → cond b (m ++ suffix) m ≡ m
      by false q = refl
      by true q = absurd (never (h.left_known m q))

  -- the name of a known right field is one of the narrower sides'
  narrow_there : (m : Name) → is_among m (names_of r) ≡ true → is_among (narrow m) (names_of (merged suffix l r)) ≡ true
  narrow_there m q = ap (is_among (narrow m)) (merged_names suffix l r) ∙ list_any-append (bytes_eq (narrow m)) (names_of l) (map narrow (names_of r)) ∙ or-right (is_among (narrow m) (names_of l)) (is_among (narrow m) (map narrow (names_of r))) (to_map narrow (names_of r) m q)

  count : (n : Name) → times n (names_of (merged suffix l r)) ≡ times n (names_of l) + times n (map narrow (names_of r))
  count n = ap (times n) (merged_names suffix l r) ∙ times_append n (names_of l) (map narrow (names_of r))

  apart : (m k : Name) → is_among m (names_of wide_r) ≡ true → is_among k (names_of wide_r) ≡ true → wide m ≡ wide k → m ≡ k
  apart m k p q e = by (h.right_cases m p) (h.right_cases k q)
    where
      by : (Before m × (is_among m (names_of r) ≡ true)) ⊎ (After m → ⊥) → (Before k × (is_among k (names_of r) ≡ true)) ⊎ (After k → ⊥) → m ≡ k
      by (inl u) (inl v) =
          let c = count (narrow m) in
          let o = h.once (narrow m) in
          told narrow (names_of r) m k u.1 v.1 (sym (wide_old m u.0) ∙ e ∙ wide_old k v.0) (omega arith)
      by (inl u) (inr v) = absurd (v (subst After (sym (wide_old m u.0) ∙ e ∙ wide_new k v) (h.still (narrow m) (h.known (narrow m) (narrow_there m u.1)))))
      by (inr u) (inl v) = absurd (u (subst After (sym (wide_old k v.0) ∙ sym e ∙ wide_new m u) (h.still (narrow k) (h.known (narrow k) (narrow_there k v.1)))))
      by (inr u) (inr v) = sym (wide_new m u) ∙ e ∙ wide_new k v

  disjoint : (n : Name) → is_among n (names_of wide_l) ≡ true → is_among n (map wide (names_of wide_r)) ≡ true → ⊥
  disjoint n p q = by (from_map wide (names_of wide_r) n q)
    where
      by : (m : Name) × (is_among m (names_of wide_r) ≡ true) × (n ≡ wide m) → ⊥
      by (m, there, is) =
          elim (h.right_cases m there) [
            | inl u ↦
                let e : n ≡ narrow m = is ∙ wide_old m u.0 in
                let k : Before n = subst Before (sym e) (h.known (narrow m) (narrow_there m u.1)) in
                let c = count n in
                let o = h.once n in
                let a = among_times n (names_of l) (h.left_old n p k) in
                let b = among_times n (map narrow (names_of r)) (ap (λ x. is_among x (map narrow (names_of r))) e ∙ to_map narrow (names_of r) m u.1) in
                omega arith
            | inr never ↦ never (subst After (is ∙ wide_new m never) (h.left_known n p))
          ]

  pub merged_once : (n : Name) → times n (names_of (merged suffix wide_l wide_r)) ≤ 1
  merged_once n =
      let c = ap (times n) (merged_names suffix wide_l wide_r) ∙ times_append n (names_of wide_l) (map wide (names_of wide_r)) in
      let a = h.left_once n in
      let b = once_under wide (names_of wide_r) h.right_once apart n in
      by (cases_lt 0 (times n (names_of wide_l))) (cases_lt 0 (times n (map wide (names_of wide_r)))) c a b
    where
      by : (0 < times n (names_of wide_l)) ⊎ (times n (names_of wide_l) ≤ 0) → (0 < times n (map wide (names_of wide_r))) ⊎ (times n (map wide (names_of wide_r)) ≤ 0) → times n (names_of (merged suffix wide_l wide_r)) ≡ times n (names_of wide_l) + times n (map wide (names_of wide_r))
          → times n (names_of wide_l) ≤ 1 → times n (map wide (names_of wide_r)) ≤ 1 → times n (names_of (merged suffix wide_l wide_r)) ≤ 1
      by (inl x) (inl y) c a b = absurd (disjoint n (times_among n (names_of wide_l) (omega arith)) (times_among n (map wide (names_of wide_r)) (omega arith)))
      by (inl x) (inr y) c a b = omega arith
      by (inr x) y c a b = omega arith

  -- each column of the narrower sides is one of the wider ones
  left_all : (s : Fields) → ((x : Name × DataType) → Has s x → Has l x) → AllByRecursion (Contains (merged suffix wide_l wide_r)) s
  left_all [] inside = tt
  left_all (x ∷ s) inside = (from_has (merged suffix wide_l wide_r) x (has_first wide_l (suffixed suffix (names_of wide_l) wide_r) x (h.left_has x (inside x (inl refl)))), left_all s (λ y k. inside y (inr k)))

  right_all : (s : Fields) → ((x : Name × DataType) → Has s x → Has r x) → AllByRecursion (Contains (merged suffix wide_l wide_r)) (suffixed suffix (names_of l) s)
  right_all [] inside = tt
  right_all (x ∷ s) inside =
      let k = inside x (inl refl) in
      let e : wide x.0 ≡ narrow x.0 = wide_old x.0 (h.right_known x.0 (has_its_name r x k)) in
      let there : Has (suffixed suffix (names_of wide_l) wide_r) (narrow x.0, x.1) = subst (λ (n : Name). Has (suffixed suffix (names_of wide_l) wide_r) (n, x.1)) e (suffixed_has suffix (names_of wide_l) wide_r x (h.right_has x k)) in
      (from_has (merged suffix wide_l wide_r) (narrow x.0, x.1) (has_last wide_l (suffixed suffix (names_of wide_l) wide_r) (narrow x.0, x.1) there), right_all s (λ y k. inside y (inr k)))

  pub merged_contained : AllByRecursion (Contains (merged suffix wide_l wide_r)) (merged suffix l r)
  merged_contained = both l (suffixed suffix (names_of l) r) (left_all l (λ x k. k)) (right_all r (λ x k. k))
    where
      both : (s t : Fields) → AllByRecursion (Contains (merged suffix wide_l wide_r)) s → AllByRecursion (Contains (merged suffix wide_l wide_r)) t → AllByRecursion (Contains (merged suffix wide_l wide_r)) (s ++ t)
      both [] t p q = q
      both (x ∷ s) t p q = (p.0, both s t p.1 q)
