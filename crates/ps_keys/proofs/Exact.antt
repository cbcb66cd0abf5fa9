-- A number that stands alone in its row can be told from the hash.
use Rattle.std.proofs.Common.{◌≡◌, ◌≢◌, ℕ, zero, suc, ◌+◌, ◌*◌, ◌/◌, ◌%◌, ◌^◌, ◌<◌, ◌≤◌, ℤ, FitsSigned, List, [], ◌∷◌, length, get_or, Bool, true, false, refl, rules, sym, subst, ap, ◌∙◌, arith, if◌then◌else◌}
use Rattle.std.specs.Prelude.{IsTrue, slice_get, Some, None}
use Rattle.std.specs.Prelude.{bit_xor}
use Rattle.std.specs.Int.{w64, bit_at, cast_signed, cast_unsigned, int_wrap}
use Rattle.std.specs.Int.Bits.{xor_assoc, xor_self, xor_zero_r}
use Rattle.std.specs.Ordering.{int_eq}
use Rattle.std.proofs.Math.Nat.{div-div-eq-div-mul, mod-eq_of_lt, mul_assoc, mul-one}
use Rattle.std.proofs.lemmas.Bool.Decides.{Decides-int_eq}
use Rattle.std.proofs.lemmas.Int.{SFits-int_wrap, to_z-of_z}
use Rattle.std.proofs.lemmas.Nat.{mul-mod_first, mul-mod_second, pow-add, xor_lt}
use Rattle.std.proofs.lemmas.Nat.Bits.{bit_at-lt, bit_at_above, bit_at_xor, same_from_bits}
use Rattle.std.proofs.lemmas.Option.{get_or_from_slice_get}
use Rattle.ps_frame.proofs.Lists.{both}
use Rattle.ps_frame.specs.Series.{Series, all_fit}
use Rattle.ps_frame.specs.Values.{fits_kind}
use Rattle.ps_frame.specs.declared.value.DataType.TheVariants as kind
use Rattle.ps_frame.specs.declared.value.Value.{Value}
use Rattle.ps_frame.specs.declared.value.Value.TheVariants as val
use Rattle.ps_keys.specs.Hashes.{TellsApart, alone_hash, folded, number_hash, row_at, row_hash, times_odd}

-- the way back: this number times the odd one is 1 modulo 2 ^ 64
abbrev back : ℕ → ℕ
back n = n * 17428512612931826493 % 2 ^ 64

back-times_odd : (n : ℕ) → n < 2 ^ 64 → back (times_odd n) ≡ n
back-times_odd n small =
    mul-mod_first (n * 11400714819323198485) 17428512612931826493 (2 ^ 64)
    ∙ ap (λ m. m % 2 ^ 64) (mul_assoc n 11400714819323198485 17428512612931826493)
    ∙ sym (mul-mod_second n (11400714819323198485 * 17428512612931826493) (2 ^ 64))
    ∙ ap (λ m. m % 2 ^ 64) (mul-one n)
    ∙ mod-eq_of_lt small

-- a number of 64 bits is folded back by folding it again
folded-folded : (n : ℕ) → n < 2 ^ 64 → folded (folded n) ≡ n
folded-folded n small =
    ap (bit_xor (folded n)) (same_from_bits (folded n / 2 ^ 32) (n / 2 ^ 32) upper)
    ∙ xor_assoc n (n / 2 ^ 32) (n / 2 ^ 32)
    ∙ ap (bit_xor n) (xor_self (n / 2 ^ 32))
    ∙ xor_zero_r n
  where
    short : n / 2 ^ 32 < 2 ^ 32
    short = omega arith

    shifted : (m i : ℕ) → bit_at (m / 2 ^ 32) i ≡ bit_at m (32 + i)
    shifted m i = ap (λ q. q % 2) (div-div-eq-div-mul m (2 ^ 32) (2 ^ i) ∙ ap (λ k. m / k) (sym (pow-add 2 32 i)))

    upper : (i : ℕ) → bit_at (folded n / 2 ^ 32) i ≡ bit_at (n / 2 ^ 32) i
    upper i =
        shifted (folded n) i ∙ bit_at_xor n (n / 2 ^ 32) (32 + i)
        ∙ ap (λ b. (bit_at n (32 + i) + b) % 2) (bit_at_above (n / 2 ^ 32) 32 (32 + i) short (omega arith))
        ∙ (let h = bit_at-lt n (32 + i) in omega arith)
        ∙ sym (shifted n i)

folded-small : (n : ℕ) → n < 2 ^ 64 → folded n < 2 ^ 64
folded-small n small = xor_lt 64 n (n / 2 ^ 32) small (omega arith)

-- the number of a hash that isn't 0
told : (z : ℤ) (h : ℕ) → h ≢ 0 → number_hash z ≡ h → z ≡ cast_signed w64 (folded (back h))
told z h some = by (int_eq (int_wrap w64 z) z) refl
  where
    by : (t : Bool) → int_eq (int_wrap w64 z) z ≡ t → (if t then times_odd (folded (cast_unsigned w64 z)) else 0) ≡ h → z ≡ cast_signed w64 (folded (back h))
    by true same is =
        let fits : FitsSigned w64 z = subst (FitsSigned w64) ((Decides-int_eq (int_wrap w64 z) z).0 same) (SFits-int_wrap w64 z) in
        let small : cast_unsigned w64 z < 2 ^ 64 = search rules in
        let n = cast_unsigned w64 z in
        sym (to_z-of_z w64 z fits)
        ∙ ap (cast_signed w64) (sym (folded-folded n small) ∙ ap folded (sym (back-times_odd (folded n) (folded-small n small)) ∙ ap back is))
    by false differ is = absurd (some (sym is))

-- the value of such a hash
value-told : (v : Value) (h : ℕ) → IsTrue (fits_kind kind.Int64 v) → h ≢ 0 → row_hash (v ∷ []) ≡ h → v ≡ val.Int64 (cast_signed w64 (folded (back h)))
value-told val.Null h fits some is = absurd (some (sym is))
value-told (val.Boolean b) h fits some is = absurd cc
value-told (val.Int64 z) h fits some is = ap val.Int64 (told z h some is)
value-told (val.IdxSize n) h fits some is = absurd cc
value-told (val.String s) h fits some is = absurd cc

-- what stands at a place, or null, is of the kind
fits-at : (vs : List Value) (i : ℕ) → IsTrue (all_fit kind.Int64 vs) → IsTrue (fits_kind kind.Int64 (get_or vs i val.Null))
fits-at [] i fit = refl
fits-at (v ∷ vs) zero fit = (both (fits_kind kind.Int64 v) (all_fit kind.Int64 vs) fit).0
fits-at (v ∷ vs) (suc i) fit = fits-at vs i (both (fits_kind kind.Int64 v) (all_fit kind.Int64 vs) fit).1

-- a column of numbers
pub numbers-told : (c : Series) (h : ℕ) → IsTrue (all_fit c.kind c.values) → c.kind ≡ kind.Int64 → h ≢ 0 → TellsApart (c ∷ []) h
numbers-told c h fit is some a b first second = ap (λ v. v ∷ []) (at a first ∙ sym (at b second))
  where
    at : (i : ℕ) → row_hash (row_at (c ∷ []) i) ≡ h → get_or c.values i val.Null ≡ val.Int64 (cast_signed w64 (folded (back h)))
    at i hashed = value-told (get_or c.values i val.Null) h (fits-at c.values i (subst (λ k. IsTrue (all_fit k c.values)) is fit)) some hashed

-- a list of one column
pub only : (c : Series) (cs : List Series) → 1 ≤ length cs → length cs < 2 → c ≡ get_or cs 0 c → cs ≡ c ∷ []
only c [] some few at = absurd (omega arith)
only c (d ∷ []) some few at = ap (λ e. e ∷ []) (sym at)
only c (d ∷ e ∷ cs) some few at = absurd (omega arith)

-- and its rows
pub only-value : (c : Series) (cs : List Series) (i : ℕ) (v : Value) → 1 ≤ length cs → length cs < 2 → c ≡ get_or cs 0 c → slice_get c.values i ≡ Some v → row_at cs i ≡ v ∷ []
only-value c cs i v some few at found =
    ap (λ ds. row_at ds i) (only c cs some few at)
    ∙ ap (λ w. w ∷ []) (get_or_from_slice_get c.values i v val.Null found)

-- what is neither null nor a number
pub other-alone : (v : Value) → v ≢ val.Null → ((z : ℤ) → v ≢ val.Int64 z) → None ≡ alone_hash (v ∷ [])
other-alone val.Null null number = absurd (null refl)
other-alone (val.Boolean b) null number = refl
other-alone (val.Int64 z) null number = absurd (number z refl)
other-alone (val.IdxSize n) null number = refl
other-alone (val.String s) null number = refl
