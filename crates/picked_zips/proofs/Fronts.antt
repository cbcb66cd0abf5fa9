-- The values that are picked at a row's front, and those at all of its columns.
use Rattle.std.proofs.Common.{◌≡◌, ℕ, suc, ◌+◌, ◌<◌, ◌≤◌, true, List, [], ◌∷◌, length, take, get_or, refl, sym, ap, subst, ◌∙◌, arith}
use Rattle.std.specs.Prelude.{unwrap_or}
use Rattle.std.specs.List.{AllByRecursion}
use Rattle.std.proofs.lemmas.List.{get_or-take}
use Rattle.ps_frame.specs.Frames.{has_distinct_names}
use Rattle.ps_frame.specs.Tables.{Fields}
use Rattle.ps_frame.specs.declared.value.Value.{Value}
use Rattle.ps_frame.specs.declared.value.Value.TheVariants as val
use Rattle.ps_meaning.specs.Distinct.{picked, places_in}
use Rattle.ps_meaning.specs.Schemas.{names_of}
use Rattle.ps_shares.proofs.KeySorts.{Placed, own_places}

-- values at places before the end of a front
pub picked_front : (w : ℕ) (row : List Value) (js : List ℕ) → AllByRecursion (λ j. j < w) js → picked js (take w row) ≡ picked js row
picked_front w row [] all = refl
picked_front w row (j ∷ js) all = let p = get_or-take w row j val.Null all.0 in let q = picked_front w row js all.1 in λ i. p i ∷ q i

-- the values at the places from one on
abbrev places_on : ℕ → Fields → List ℕ
places_on k [] = []
places_on k (f ∷ s) = k ∷ places_on (suc k) s

own_are : (s : Fields) (fs : Fields) (k : ℕ) → Placed s fs k → places_in (names_of fs) s ≡ places_on k fs
own_are s [] k h = refl
own_are s (f ∷ fs) k h = let p = ap (λ o. unwrap_or o 0) h.0 in let q = own_are s fs (suc k) h.1 in λ i. p i ∷ q i

shifted : (v : Value) (row : List Value) (k : ℕ) (fs : Fields) → picked (places_on (suc k) fs) (v ∷ row) ≡ picked (places_on k fs) row
shifted v row k [] = refl
shifted v row k (f ∷ fs) = ap (λ vs. get_or row k val.Null ∷ vs) (shifted v row (suc k) fs)

front_is : (fs : Fields) (row : List Value) → length fs ≤ length row → picked (places_on 0 fs) row ≡ take (length fs) row
front_is [] row h = refl
front_is (f ∷ fs) [] h = absurd (omega arith)
front_is (f ∷ fs) (v ∷ row) h = ap (λ vs. v ∷ vs) (shifted v row 0 fs ∙ front_is fs row (omega arith))

-- all columns of a row are its front
pub own_front : (s : Fields) → has_distinct_names s ≡ true → (row : List Value) → length s ≤ length row → picked (places_in (names_of s) s) row ≡ take (length s) row
own_front s d row h = ap (λ js. picked js row) (own_are s s 0 (own_places s d)) ∙ front_is s row h

on_inside : (fs : Fields) (k n : ℕ) → k + length fs ≤ n → AllByRecursion (λ j. j < n) (places_on k fs)
on_inside [] k n h = tt
on_inside (f ∷ fs) k n h = (omega arith, on_inside fs (suc k) n (omega arith))

pub own_inside : (s : Fields) → has_distinct_names s ≡ true → AllByRecursion (λ j. j < length s) (places_in (names_of s) s)
own_inside s d = subst (AllByRecursion (λ j. j < length s)) (sym (own_are s s 0 (own_places s d))) (on_inside s 0 (length s) (omega arith))
