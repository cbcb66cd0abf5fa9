-- Numbers that stand in lists.
use Rattle.std.proofs.Common.{◌≡◌, ◌⊎◌, inl, inr, ℕ, zero, suc, ◌+◌, ◌<◌, ◌≤◌, Bool, true, false, cond, get_or, not, List, [], ◌∷◌, ◌++◌, length, refl, sym, ap, subst, ◌∙◌, arith}
use Rattle.std.proofs.lemmas.Bool.{eqb-false, eqb-true, ne_eqb}
use Rattle.std.specs.Prelude.{◌==◌, ◌||◌, if◌then◌else◌}
use Rattle.ps_phys.specs.Walks.{is_one_of, place_in}

-- the number stands in the list
abbrev pub Stands : ℕ → List ℕ → Type 0
Stands n ns = is_one_of n ns ≡ true

pub either : (b : Bool) → (b ≡ true) ⊎ (b ≡ false)
either true = inl refl
either false = inr refl

pub not_both : (b : Bool) → b ≡ true → b ≡ false → ⊥
not_both b t f = let never : true ≡ false = sym t ∙ f in cc

pub no_stand : (n : ℕ) (ns : List ℕ) → (Stands n ns → ⊥) → is_one_of n ns ≡ false
no_stand n ns h = by (is_one_of n ns) refl
  where
    by : (b : Bool) → is_one_of n ns ≡ b → is_one_of n ns ≡ false
    by true e = absurd (h e)
    by false e = e

pub front_or_more : (m n : ℕ) (ns : List ℕ) → Stands m (n ∷ ns) → (n ≡ m) ⊎ Stands m ns
front_or_more m n ns e = by (n == m) refl e
  where
    by : (b : Bool) → n == m ≡ b → (b || is_one_of m ns) ≡ true → (n ≡ m) ⊎ Stands m ns
    by true is f = inl (eqb-true n m is)
    by false is f = inr f

pub stands_more : (m n : ℕ) (ns : List ℕ) → Stands m ns → Stands m (n ∷ ns)
stands_more m n ns e = by (n == m)
  where
    by : (b : Bool) → (b || is_one_of m ns) ≡ true
    by true = refl
    by false = e

pub stands_here : (m n : ℕ) (ns : List ℕ) → n ≡ m → Stands m (n ∷ ns)
stands_here m n ns is = by (n == m) refl
  where
    by : (b : Bool) → n == m ≡ b → (b || is_one_of m ns) ≡ true
    by true e = refl
    by false e = absurd (eqb-false n m e is)

pub stands_left : (m : ℕ) (xs ys : List ℕ) → Stands m xs → Stands m (xs ++ ys)
stands_left m [] ys e = cc
stands_left m (x ∷ xs) ys e = by (front_or_more m x xs e) (λ h. stands_left m xs ys h)
  where
    by : (x ≡ m) ⊎ Stands m xs → (Stands m xs → Stands m (xs ++ ys)) → Stands m (x ∷ (xs ++ ys))
    by (inl is) rest = stands_here m x (xs ++ ys) is
    by (inr h) rest = stands_more m x (xs ++ ys) (rest h)

pub stands_right : (m : ℕ) (xs ys : List ℕ) → Stands m ys → Stands m (xs ++ ys)
stands_right m [] ys e = e
stands_right m (x ∷ xs) ys e = stands_more m x (xs ++ ys) (stands_right m xs ys e)

pub stands_split : (m : ℕ) (xs ys : List ℕ) → Stands m (xs ++ ys) → Stands m xs ⊎ Stands m ys
stands_split m [] ys e = inr e
stands_split m (x ∷ xs) ys e = by (front_or_more m x (xs ++ ys) e) (λ h. stands_split m xs ys h)
  where
    more : Stands m xs ⊎ Stands m ys → Stands m (x ∷ xs) ⊎ Stands m ys
    more (inl h) = inl (stands_more m x xs h)
    more (inr h) = inr h

    by : (x ≡ m) ⊎ Stands m (xs ++ ys) → (Stands m (xs ++ ys) → Stands m xs ⊎ Stands m ys) → Stands m (x ∷ xs) ⊎ Stands m ys
    by (inl is) rest = inl (stands_here m x xs is)
    by (inr h) rest = more (rest h)

pub stands_last : (m : ℕ) (xs : List ℕ) (x : ℕ) → Stands m (xs ++ x ∷ []) → Stands m xs ⊎ (x ≡ m)
stands_last m xs x e = by (stands_split m xs (x ∷ []) e)
  where
    one : (x ≡ m) ⊎ Stands m [] → Stands m xs ⊎ (x ≡ m)
    one (inl is) = inr is
    one (inr h) = cc

    by : Stands m xs ⊎ Stands m (x ∷ []) → Stands m xs ⊎ (x ≡ m)
    by (inl h) = inl h
    by (inr h) = one (front_or_more m x [] h)

-- no number stands twice
abbrev pub Apart : List ℕ → Type 0
Apart [] = Unit {0}
Apart (n ∷ ns) = (is_one_of n ns ≡ false) × Apart ns

pub apart_last : (xs : List ℕ) (x : ℕ) → Apart xs → is_one_of x xs ≡ false → Apart (xs ++ x ∷ [])
apart_last [] x a new = (refl, tt)
apart_last (y ∷ ys) x a new = (
  no_stand y (ys ++ x ∷ []) (λ e. which (stands_last y ys x e)),
  apart_last ys x a.1 (no_stand x ys (λ e. not_both (is_one_of x (y ∷ ys)) (stands_more x y ys e) new)),
)
  where
    which : Stands y ys ⊎ (x ≡ y) → ⊥
    which (inl e) = not_both (is_one_of y ys) e a.0
    which (inr is) = not_both (is_one_of x (y ∷ ys)) (stands_here x y ys (sym is)) new

pub last_apart : (xs : List ℕ) (x : ℕ) → Apart (xs ++ x ∷ []) → is_one_of x xs ≡ false
last_apart [] x a = refl
last_apart (y ∷ ys) x a = no_stand x (y ∷ ys) (λ e. by (last_apart ys x a.1) (front_or_more x y ys e))
  where
    by : is_one_of x ys ≡ false → (y ≡ x) ⊎ Stands x ys → ⊥
    by rest (inl is) = not_both (is_one_of y (ys ++ x ∷ [])) (stands_right y ys (x ∷ []) (stands_here y x [] (sym is))) a.0
    by rest (inr h) = not_both (is_one_of x ys) h rest

-- the number at a place stands in the list
pub got_stands : (ms : List ℕ) (j : ℕ) → j < length ms → Stands (get_or ms j 0) ms
got_stands [] j h = absurd (omega (arith, h))
got_stands (m ∷ ms) zero h = stands_here m m ms refl
got_stands (m ∷ ms) (suc j) h = stands_more (get_or ms j 0) m ms (got_stands ms j (omega (arith, h)))

-- places
pub place_here : (n : ℕ) (ns : List ℕ) → place_in (n ∷ ns) n ≡ 0
place_here n ns = by (n == n) refl
  where
    by : (b : Bool) → n == n ≡ b → cond (not b) (1 + place_in ns n) 0 ≡ 0
    by true e = refl
    by false e = absurd (eqb-false n n e refl)

pub place_more : (m n : ℕ) (ns : List ℕ) → n == m ≡ false → place_in (n ∷ ns) m ≡ suc (place_in ns m)
place_more m n ns e = ap (λ b. cond (not b) (1 + place_in ns m) 0) e ∙ omega arith

pub place_within : (m : ℕ) (ns : List ℕ) → Stands m ns → place_in ns m < length ns
place_within m [] e = cc
place_within m (n ∷ ns) e = by (n == m) e (λ h. place_within m ns h)
  where
    by : (b : Bool) → (b || is_one_of m ns) ≡ true → (Stands m ns → place_in ns m < length ns) → cond (not b) (1 + place_in ns m) 0 < suc (length ns)
    by true f rest = omega arith
    by false f rest = let l = rest f in omega (arith, l)

pub place_kept : (m : ℕ) (xs ys : List ℕ) → Stands m xs → place_in (xs ++ ys) m ≡ place_in xs m
place_kept m [] ys e = cc
place_kept m (x ∷ xs) ys e = by (x == m) e (λ h. place_kept m xs ys h)
  where
    by : (b : Bool) → (b || is_one_of m xs) ≡ true → (Stands m xs → place_in (xs ++ ys) m ≡ place_in xs m) → cond (not b) (1 + place_in (xs ++ ys) m) 0 ≡ cond (not b) (1 + place_in xs m) 0
    by true f rest = refl
    by false f rest = ap (λ k. 1 + k) (rest f)

pub place_last : (x : ℕ) (xs : List ℕ) → is_one_of x xs ≡ false → place_in (xs ++ x ∷ []) x ≡ length xs
place_last x [] e = place_here x []
place_last x (y ∷ ys) e = by (y == x) refl e (λ h. place_last x ys h)
  where
    by : (b : Bool) → y == x ≡ b → (b || is_one_of x ys) ≡ false → (is_one_of x ys ≡ false → place_in (ys ++ x ∷ []) x ≡ length ys) → cond (not b) (1 + place_in (ys ++ x ∷ []) x) 0 ≡ suc (length ys)
    by true is f rest = cc
    by false is f rest = let h = rest f in omega (arith, h)

-- how many numbers below the first one don't stand in the list
abbrev pub missing : ℕ → List ℕ → ℕ
missing zero ns = 0
missing (suc c) ns = (if is_one_of c ns then 0 else 1) + missing c ns

pub missing_fewer : (c : ℕ) (xs ys : List ℕ) → ((m : ℕ) → Stands m xs → Stands m ys) → missing c ys ≤ missing c xs
missing_fewer zero xs ys sub = omega arith
missing_fewer (suc c) xs ys sub = let rest = missing_fewer c xs ys sub in by (is_one_of c xs) (is_one_of c ys) refl refl rest
  where
    by : (a b : Bool) → is_one_of c xs ≡ a → is_one_of c ys ≡ b → missing c ys ≤ missing c xs → (if b then 0 else 1) + missing c ys ≤ (if a then 0 else 1) + missing c xs
    by true true e f rest = omega (arith, rest)
    by true false e f rest = absurd (not_both (is_one_of c ys) (sub c e) f)
    by false true e f rest = omega (arith, rest)
    by false false e f rest = omega (arith, rest)

pub missing_same : (c n : ℕ) (ns : List ℕ) → c ≤ n → missing c (n ∷ ns) ≡ missing c ns
missing_same zero n ns h = refl
missing_same (suc c) n ns h =
    let rest = missing_same c n ns (omega (arith, h)) in
    let other : n == c ≡ false = ne_eqb n c (λ e. (omega (arith, e, h))) in
    (λ i. (if other i || is_one_of c ns then 0 else 1) + rest i)

pub missing_less : (c n : ℕ) (ns : List ℕ) → n < c → is_one_of n ns ≡ false → suc (missing c (n ∷ ns)) ≡ missing c ns
missing_less zero n ns h new = absurd (omega (arith, h))
missing_less (suc c) n ns h new = by (n == c) refl (λ l. missing_less c n ns l new)
  where
    by : (b : Bool) → n == c ≡ b → (n < c → suc (missing c (n ∷ ns)) ≡ missing c ns) → suc ((if b || is_one_of c ns then 0 else 1) + missing c (n ∷ ns)) ≡ (if is_one_of c ns then 0 else 1) + missing c ns
    by true e rest =
        let is : n ≡ c = eqb-true n c e in
        let P : ℕ → Type 0 = λ x. is_one_of x ns ≡ false in
        let free : is_one_of c ns ≡ false = subst P is new in
        let same = missing_same c n ns (omega (arith, is)) in
        let one : (if is_one_of c ns then 0 else 1) ≡ 1 = ap {B = ℕ} (λ (b : Bool). if b then 0 else 1) free in
        omega (arith, same, one)
    by false e rest =
        let other = eqb-false n c e in
        let r = rest (below h other) in
        omega (arith, r)
      where
        below : n < suc c → (n ≡ c → ⊥) → n < c
        below l apart = closer (either (n == c)) l
          where
            closer : ((n == c) ≡ true) ⊎ ((n == c) ≡ false) → n < suc c → n < c
            closer (inl t) l = absurd (apart (eqb-true n c t))
            closer (inr f) l = omega (arith, l, apart)
