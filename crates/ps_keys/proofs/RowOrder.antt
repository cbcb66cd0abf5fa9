-- Lists in the order of their items, and rows in that of their values.
use Rattle.std.proofs.Common.{◌≡◌, ℕ, zero, suc, ◌+◌, ◌<◌, List, [], ◌∷◌, length, get_or, drop, min, true, false, refl, sym, ap, subst, ◌∙◌, arith}
use Rattle.std.specs.Prelude.{slice_get, Some}
use Rattle.std.specs.declared.cmp.Ordering.{Ordering}
use Rattle.std.specs.declared.cmp.Ordering.TheVariants.{Less, Equal, Greater}
use Rattle.std.specs.Cmp.{Equal-is, nat_cmp_is, ranks}
use Rattle.std.specs.Cmp.Lexicographic.{lists_total, slice_cmp}
use Rattle.std.specs.FinMap.{slice_cmp-IsAntisymmetric}
use Rattle.std.specs.Ordering.{MatchOrdering, is_eq, is_ne, nat_cmp, ordering_then}
use Rattle.std.proofs.lemmas.Cmp.{tied_itself}
use Rattle.std.proofs.lemmas.List.{get_or-map, length-map}
use Rattle.ps_frame.proofs.Orders.{value_total}
use Rattle.ps_frame.specs.Series.{Series}
use Rattle.ps_frame.specs.Values.{value_cmp}
use Rattle.ps_frame.specs.declared.value.Value.{Value}
use Rattle.ps_frame.specs.declared.value.Value.TheVariants as val
use Rattle.ps_keys.specs.Hashes.{row_at}
use Rattle.ps_keys.proofs.RowValues.{value_in}
use Rattle.ps_keys.proofs.SameRows.{same_value-is}

one-more : (m n : ℕ) (o : Ordering) → MatchOrdering o (m < n) (m ≡ n) (n < m) → o ≡ nat_cmp (suc m) (suc n)
one-more m n Less h = nat_cmp_is (suc m) (suc n) Less (omega (arith, h))
one-more m n Equal h = nat_cmp_is (suc m) (suc n) Equal (omega (arith, h))
one-more m n Greater h = nat_cmp_is (suc m) (suc n) Greater (omega (arith, h))

module _ {A : Type 0} (R : A → A → Ordering) (d : A) where
  -- the items at a place decide, and else those behind it
  cmp-at : (xs ys : List A) (i : ℕ) → i < length xs → i < length ys → slice_cmp R (drop i xs) (drop i ys) ≡ ordering_then (R (get_or xs i d) (get_or ys i d)) (slice_cmp R (drop (suc i) xs) (drop (suc i) ys))
  cmp-at [] ys i h g = absurd (omega arith)
  cmp-at (x ∷ xs) [] i h g = absurd (omega arith)
  cmp-at (x ∷ xs) (y ∷ ys) zero h g = refl
  cmp-at (x ∷ xs) (y ∷ ys) (suc i) h g = cmp-at xs ys i (omega arith) (omega arith)

  -- where the shorter list ends the lengths decide
  cmp-end : (xs ys : List A) (i : ℕ) → i ≡ min (length xs) (length ys) → slice_cmp R (drop i xs) (drop i ys) ≡ nat_cmp (length xs) (length ys)
  cmp-end [] [] zero e = refl
  cmp-end [] [] (suc i) e = absurd (omega (arith, e))
  cmp-end [] (y ∷ ys) zero e = nat_cmp_is 0 (suc (length ys)) Less (omega arith)
  cmp-end [] (y ∷ ys) (suc i) e = absurd (omega (arith, e))
  cmp-end (x ∷ xs) [] zero e = nat_cmp_is (suc (length xs)) 0 Greater (omega arith)
  cmp-end (x ∷ xs) [] (suc i) e = absurd (omega (arith, e))
  cmp-end (x ∷ xs) (y ∷ ys) zero e = absurd (omega (arith, e))
  cmp-end (x ∷ xs) (y ∷ ys) (suc i) e = cmp-end xs ys i (omega (arith, e)) ∙ one-more (length xs) (length ys) (nat_cmp (length xs) (length ys)) (ranks (length xs) (length ys))

-- the value of a row at a column
value-at : (c : Series) (cs : List Series) (k i : ℕ) (v : Value) → k < length cs → c ≡ get_or cs k c → slice_get c.values i ≡ Some v → get_or (row_at cs i) k val.Null ≡ v
value-at c cs k i v within at found =
    get_or-map (λ (e : Series). get_or e.values i val.Null) cs k c val.Null within
    ∙ sym (value_in c cs k i v at found)

then-first : (o p : Ordering) → is_ne o ≡ true → o ≡ ordering_then o p
then-first Less p e = refl
then-first Equal p e = cc
then-first Greater p e = refl

then-second : (o p : Ordering) → is_ne o ≡ false → ordering_then o p ≡ p
then-second Less p e = cc
then-second Equal p e = refl
then-second Greater p e = cc

-- the order of two rows from a column on
abbrev pub cmp_from : ℕ → List Value → List Value → Ordering
cmp_from k a b = slice_cmp value_cmp (drop k a) (drop k b)

module _ (c d : Series) (cs ds : List Series) (k a b : ℕ) (v w : Value) (in_c : k < length cs) (in_d : k < length ds) (at_c : c ≡ get_or cs k c) (at_d : d ≡ get_or ds k d)
    (first : slice_get c.values a ≡ Some v) (second : slice_get d.values b ≡ Some w) where
  step : cmp_from k (row_at cs a) (row_at ds b) ≡ ordering_then (value_cmp v w) (cmp_from (suc k) (row_at cs a) (row_at ds b))
  step =
      cmp-at value_cmp val.Null (row_at cs a) (row_at ds b) k (omega (arith, length-map cs (λ (e : Series). get_or e.values a val.Null))) (omega (arith, length-map ds (λ (e : Series). get_or e.values b val.Null)))
      ∙ ap (λ x. ordering_then (value_cmp x (get_or (row_at ds b) k val.Null)) (cmp_from (suc k) (row_at cs a) (row_at ds b))) (value-at c cs k a v in_c at_c first)
      ∙ ap (λ x. ordering_then (value_cmp v x) (cmp_from (suc k) (row_at cs a) (row_at ds b))) (value-at d ds k b w in_d at_d second)

  -- the values of a column decide
  pub row-decides : (o : Ordering) → o ≡ value_cmp v w → is_ne o ≡ true → slice_cmp value_cmp (row_at cs a) (row_at ds b) ≡ cmp_from k (row_at cs a) (row_at ds b) → o ≡ slice_cmp value_cmp (row_at cs a) (row_at ds b)
  row-decides o is differ so_far =
      then-first o (cmp_from (suc k) (row_at cs a) (row_at ds b)) differ
      ∙ ap (λ p. ordering_then p (cmp_from (suc k) (row_at cs a) (row_at ds b))) is
      ∙ sym (so_far ∙ step)

  -- or leave it to those behind
  pub row-passes : (o : Ordering) → o ≡ value_cmp v w → is_ne o ≡ false → slice_cmp value_cmp (row_at cs a) (row_at ds b) ≡ cmp_from k (row_at cs a) (row_at ds b)
      → slice_cmp value_cmp (row_at cs a) (row_at ds b) ≡ cmp_from (k + 1) (row_at cs a) (row_at ds b)
  row-passes o is same so_far =
      let more : suc k ≡ k + 1 = omega arith in
      so_far ∙ step
      ∙ ap (λ p. ordering_then p (cmp_from (suc k) (row_at cs a) (row_at ds b))) (sym is)
      ∙ then-second o (cmp_from (suc k) (row_at cs a) (row_at ds b)) same
      ∙ ap (λ n. cmp_from n (row_at cs a) (row_at ds b)) more

pub row-ends : (cs ds : List Series) (k a b : ℕ) → k ≡ min (length cs) (length ds) → slice_cmp value_cmp (row_at cs a) (row_at ds b) ≡ cmp_from k (row_at cs a) (row_at ds b)
    → nat_cmp (length cs) (length ds) ≡ slice_cmp value_cmp (row_at cs a) (row_at ds b)
row-ends cs ds k a b end so_far =
    let long_c = length-map cs (λ (e : Series). get_or e.values a val.Null) in
    let long_d = length-map ds (λ (e : Series). get_or e.values b val.Null) in
    sym (so_far ∙ cmp-end value_cmp val.Null (row_at cs a) (row_at ds b) k (end ∙ ap (λ n. min n (length ds)) (sym long_c) ∙ ap (λ n. min (length (row_at cs a)) n) (sym long_d))
    ∙ ap (λ n. nat_cmp n (length (row_at ds b))) long_c ∙ ap (nat_cmp (length cs)) long_d)

-- rows tie where they are equal, and only there
pub tied-same : (a b : List Value) → is_eq (slice_cmp value_cmp a b) ≡ true → a ≡ b
tied-same a b e = slice_cmp-IsAntisymmetric (λ v w same. same_value-is v w (ap is_eq same)) a b ((Equal-is (slice_cmp value_cmp a b)).0 e)

pub same-tied : (a b : List Value) → a ≡ b → is_eq (slice_cmp value_cmp a b) ≡ true
same-tied a b e = subst (λ r. is_eq (slice_cmp value_cmp a r) ≡ true) e (ap is_eq (tied_itself (lists_total value_total) a))
