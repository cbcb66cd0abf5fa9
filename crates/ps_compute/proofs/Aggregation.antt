-- Sums and ends of lists of values.
use Rattle.std.proofs.Common.{◌≡◌, ℕ, suc, ◌+◌, ◌-◌, ◌%◌, ◌^◌, ◌<◌, ℤ, pos, negsuc, ◌+ℤ◌, FitsSigned, List, [], ◌∷◌, ◌++◌, length, take, Bool, true, false, ltb, Option, Some, ◌⊎◌, refl, sym, ◌∙◌, ap, subst, arith}
use Rattle.std.specs.Prelude.{slice_get}
use Rattle.std.specs.Int.{cast_signed, cast_unsigned, int_wrap, w64}
use Rattle.std.proofs.lemmas.Int.{SFits-int_wrap, int_wrap-add_left, ints, to_z-of_z}
use mir.Val.{sel}
use Rattle.ps_frame.specs.Aggregates.{last_value, number_of, sum_value, total}
use Rattle.ps_frame.specs.Operators.{wrap_idx}
use Rattle.ps_frame.specs.declared.value.DataType.{DataType}
use Rattle.ps_frame.specs.declared.value.DataType.TheVariants as kind
use Rattle.ps_frame.specs.declared.value.Value.{Value}
use Rattle.ps_frame.specs.declared.value.Value.TheVariants as val
use Rattle.ps_compute.specs.Nullable.{or_null}
use Rattle.ps_compute.proofs.Listed.{take_at}

-- ---- the last value

last-two : (v w : Value) (vs : List Value) → slice_get (v ∷ w ∷ vs) (length (v ∷ w ∷ vs) - 1) ≡ slice_get (w ∷ vs) (length (w ∷ vs) - 1)
last-two v w vs =
    let e : suc (suc (length vs)) - 1 ≡ suc (length vs) = omega arith in
    let f : suc (length vs) - 1 ≡ length vs = omega arith in
    ap (slice_get (v ∷ w ∷ vs)) e ∙ sym (ap (slice_get (w ∷ vs)) f)

last-at : (vs : List Value) → or_null (slice_get vs (length vs - 1)) ≡ last_value vs
last-at [] = refl
last-at (v ∷ []) = refl
last-at (v ∷ w ∷ vs) = ap or_null (last-two v w vs) ∙ last-at (w ∷ vs)

pub last-is : (vs : List Value) (o : Option Value) → o ≡ slice_get vs (length vs - 1) → or_null o ≡ last_value vs
last-is vs o e = ap or_null e ∙ last-at vs

-- ---- sums

total-push : (vs : List Value) (v : Value) → total (vs ++ v ∷ []) ≡ total vs +ℤ number_of v
total-push [] v = omega (arith, ints)
total-push (w ∷ vs) v = let e = total-push vs v in omega (arith, ints)

pub total-more : (vs : List Value) (i : ℕ) (v : Value) (s n r : ℤ) → slice_get vs i ≡ Some v → s ≡ int_wrap w64 (total (take i vs)) → n ≡ number_of v → FitsSigned w64 n
    → r ≡ int_wrap w64 (s +ℤ cast_signed w64 (cast_unsigned w64 n)) → cast_signed w64 (cast_unsigned w64 r) ≡ int_wrap w64 (total (take (i + 1) vs))
total-more vs i v s n r at before is fits e =
    let sum : total (take (i + 1) vs) ≡ total (take i vs) +ℤ number_of v = ap total (take_at vs i v at) ∙ total-push (take i vs) v in
    let value : r ≡ int_wrap w64 (total (take (i + 1) vs)) =
    e ∙ ap (λ x. int_wrap w64 (s +ℤ x)) (to_z-of_z w64 n fits ∙ is) ∙ ap (λ x. int_wrap w64 (x +ℤ number_of v)) before
    ∙ int_wrap-add_left w64 (total (take i vs)) (number_of v) ∙ ap (int_wrap w64) (sym sum) in
    let fit : FitsSigned w64 r = subst (FitsSigned w64) (sym value) (SFits-int_wrap w64 (total (take (i + 1) vs))) in
    to_z-of_z w64 r fit ∙ value

-- what is left in 32 bits of what is left in 64
half : (b : Bool) (m : ℕ) → m < 2 ^ 64 → wrap_idx (sel b (pos m) (negsuc (2 ^ 64 - suc m))) ≡ m % 2 ^ 32
half true m h = refl
half false m h = omega arith

wrap-wrap : (z : ℤ) → wrap_idx (int_wrap w64 z) ≡ wrap_idx z
unfolding int_wrap
wrap-wrap (pos a) = let h : a % 2 ^ 64 < 2 ^ 64 = omega arith in half (ltb (a % 2 ^ 64) (2 ^ 63)) (a % 2 ^ 64) h ∙ omega arith
wrap-wrap (negsuc a) = let m : ℕ = 2 ^ 64 - 1 - a % 2 ^ 64 in let h : m < 2 ^ 64 = omega arith in half (ltb m (2 ^ 63)) m h ∙ omega arith

idx-sum : (k : DataType) (vs : List Value) → (k ≡ kind.Boolean) ⊎ ((k ≡ kind.IdxSize) ⊎ (k ≡ kind.String)) → sum_value (Some k) vs ≡ val.IdxSize (wrap_idx (total vs))
idx-sum kind.Boolean vs h = refl
idx-sum kind.Int64 vs h = grind arith
idx-sum kind.IdxSize vs h = refl
idx-sum kind.String vs h = refl

-- what is left of a sum in 32 bits
pub idx-is : (k : DataType) (vs : List Value) (z : ℤ) (n : ℕ) → (k ≡ kind.Boolean) ⊎ ((k ≡ kind.IdxSize) ⊎ (k ≡ kind.String)) → z ≡ int_wrap w64 (total vs) → n ≡ wrap_idx z
    → val.IdxSize n ≡ sum_value (Some k) vs
idx-is k vs z n h is low = ap val.IdxSize (low ∙ ap wrap_idx is ∙ wrap-wrap (total vs)) ∙ sym (idx-sum k vs h)
