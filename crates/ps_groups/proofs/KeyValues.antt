-- A column's values in the rows of each key, as the rows are gone over.
use Rattle.std.proofs.Common.{◌≡◌, ℕ, suc, ◌+◌, ◌<◌, ◌≤◌, ℤ, ◌+ℤ◌, FitsSigned, List, [], ◌∷◌, ◌++◌, length, get_or, set, take, map, not, replicate, refl, sym, ap, subst, ◌∙◌, arith, inl, inr, length-append}
use Rattle.std.specs.Prelude.{filter, slice_get, Some}
use Rattle.std.specs.Int.{cast_signed, cast_unsigned, int_wrap, w64}
use Rattle.std.specs.List.{All}
use Rattle.std.proofs.Math.Seq.{take-append_seam}
use Rattle.std.proofs.lemmas.Bool.{cases_eq}
use Rattle.std.proofs.lemmas.Grind.{get_or_default_zero}
use Rattle.std.proofs.lemmas.Int.{SFits-int_wrap, to_z-of_z}
use Rattle.std.proofs.lemmas.List.{get_or-replicate, get_or-set_other, get_or-set_same, get_or_push, length-map, length-replicate, length-set, length_push, map_push, take_all}
use Rattle.std.proofs.lemmas.List.Elements.{filter-append}
use Rattle.std.proofs.lemmas.Option.{slice_get-get_or}
use Rattle.ps_compute.proofs.Aggregation.{total-more}
use Rattle.ps_frame.specs.Aggregates.{max_rows, number_of, total}
use Rattle.ps_frame.specs.Values.{is_null}
use Rattle.ps_frame.specs.Zip.{below}
use Rattle.ps_frame.specs.declared.value.Value.{Value}
use Rattle.ps_frame.specs.declared.value.Value.TheVariants as val
use Rattle.ps_keys.specs.KeyRows.{AreBelow}
use Rattle.ps_keys.specs.Numbering.{places_of}
use Rattle.ps_keys.proofs.KeptRows.{kept-few, map-places}
use Rattle.ps_keys.proofs.Places.{places-few, places-here, places-other}
use Rattle.ps_groups.specs.Reductions.{AreOfKeys, count_values, values_of_key}

module _ (values : List Value) (keys : List ℕ) (i : ℕ) (within : i < length keys) where
  values-here : (k : ℕ) → get_or keys i 0 ≡ k → values_of_key values (take (i + 1) keys) k ≡ values_of_key values (take i keys) k ++ get_or values i val.Null ∷ []
  values-here k e = ap (map (λ j. get_or values j val.Null)) (places-here keys i within k e) ∙ map_push (λ j. get_or values j val.Null) (places_of k (take i keys)) i

  values-other : (k : ℕ) → (get_or keys i 0 ≡ k → ⊥) → values_of_key values (take (i + 1) keys) k ≡ values_of_key values (take i keys) k
  values-other k e = ap (map (λ j. get_or values j val.Null)) (places-other keys i within k e)

-- before the first row
pub of-keys-none : {A : Type 0} (none : A) (P : List Value → A → Type 0) (count : ℕ) (values : List Value) (a : A) → P [] a → AreOfKeys none P count values [] (replicate count a)
of-keys-none none P count values a p = record {
  long = length-replicate count a;
  each = λ k inside. subst (P []) (sym (get_or-replicate count k a none inside)) p;
}

-- a row more changes the item of its key alone
pub of-keys-more : {A : Type 0} (none : A) (P : List Value → A → Type 0) (count : ℕ) (values : List Value) (keys : List ℕ) (items : List A) (i : ℕ) (a : A) → i < length keys → AreBelow count keys
    → ((vs : List Value) → P vs (get_or items (get_or keys i 0) none) → P (vs ++ get_or values i val.Null ∷ []) a)
    → AreOfKeys none P count values (take i keys) items → AreOfKeys none P count values (take (i + 1) keys) (set items (get_or keys i 0) a)
of-keys-more none P count values keys items i a within inside step before =
    let key = get_or keys i 0 in
    let there : key < length items = omega (arith, inside i within, before.long) in
    record {
      long = length-set items key a ∙ before.long;
      each = λ k in_count. elim (cases_eq key k) [
        | inl same ↦
            subst (λ m. P (values_of_key values (take (i + 1) keys) m) (get_or (set items key a) m none)) same
            (subst (λ vs. P vs (get_or (set items key a) key none)) (sym (values-here values keys i within key refl))
            (subst (P (values_of_key values (take i keys) key ++ get_or values i val.Null ∷ [])) (sym (get_or-set_same items key a none there))
            (step (values_of_key values (take i keys) key) (before.each key (inside i within)))))
        | inr other ↦
            subst (λ vs. P vs (get_or (set items key a) k none)) (sym (values-other values keys i within k other))
            (subst (P (values_of_key values (take i keys) k)) (sym (get_or-set_other items key k a none (λ e. other (sym e)))) (before.each k in_count))
      ];
    }

-- one value more is counted
pub count-push : (vs : List Value) (v : Value) (n one : ℕ) → n ≡ count_values vs → one ≡ count_values (v ∷ []) → n + one ≡ count_values (vs ++ v ∷ [])
count-push vs v n one before here =
    let p : Value → _ = λ (w : Value). not (is_null w) in
    omega (arith, before, here, ap length (filter-append p vs (v ∷ [])), length-append (filter p vs) (filter p (v ∷ [])))

pub one-counted : (v : Value) → count_values (v ∷ []) ≤ 1
one-counted v = kept-few (λ w. not (is_null w)) (v ∷ [])

-- no more values are counted than there are rows
pub counted-few : (values : List Value) (keys : List ℕ) (k : ℕ) → count_values (values_of_key values keys k) ≤ length keys
counted-few values keys k =
    omega (arith, kept-few (λ v. not (is_null v)) (values_of_key values keys k), length-map (places_of k keys) (λ j. get_or values j val.Null), places-few k keys)

-- one value more is added
pub sum-push : (vs : List Value) (v : Value) (s n r : ℤ) → s ≡ int_wrap w64 (total vs) → n ≡ number_of v → FitsSigned w64 n
    → r ≡ int_wrap w64 (cast_signed w64 (cast_unsigned w64 s) +ℤ cast_signed w64 (cast_unsigned w64 n)) → cast_signed w64 (cast_unsigned w64 r) ≡ int_wrap w64 (total (vs ++ v ∷ []))
sum-push vs v s n r before is fits e =
    let all = vs ++ v ∷ [] in
    let long : length all ≡ length vs + 1 = length_push vs v in
    let here : slice_get all (length vs) ≡ Some v = slice_get-get_or all (length vs) v (omega arith) ∙ ap Some (get_or_push vs v v (length vs) refl) in
    let front : s ≡ int_wrap w64 (total (take (length vs) all)) = before ∙ ap (λ ws. int_wrap w64 (total ws)) (sym (take-append_seam vs (v ∷ []))) in
    let kept : cast_signed w64 (cast_unsigned w64 s) ≡ s = to_z-of_z w64 s (subst (FitsSigned w64) (sym before) (SFits-int_wrap w64 (total vs))) in
    total-more all (length vs) v s n r here front is fits (e ∙ ap (λ x. int_wrap w64 (x +ℤ cast_signed w64 (cast_unsigned w64 n))) kept)
    ∙ ap (λ ws. int_wrap w64 (total ws)) (take_all (length vs + 1) all (omega arith))

-- counts as values
pub counts-are : (count : ℕ) (f : ℕ → ℕ) (counts : List ℕ) → length counts ≡ count → ((k : ℕ) → k < count → get_or counts k 0 ≡ f k) → map val.IdxSize counts ≡ map (λ k. val.IdxSize (f k)) (below count)
counts-are count f counts long each =
    sym (map-places val.IdxSize counts 0 (λ k. val.IdxSize (f k)) (λ k within. ap val.IdxSize (sym (each k (omega arith)))))
    ∙ ap (λ m. map (λ k. val.IdxSize (f k)) (below m)) long

pub counts-few : (count n : ℕ) (f : ℕ → ℕ) (counts : List ℕ) → length counts ≡ count → ((k : ℕ) → k < count → get_or counts k 0 ≡ f k) → ((k : ℕ) → f k ≤ n) → n ≤ max_rows → All (λ m. m ≤ max_rows) counts
counts-few count n f counts long each few small k d within = omega (arith, get_or_default_zero counts k d within, each k (omega arith), few k)

-- what a loop over the keys gives
pub below-more : {A : Type 0} (f : ℕ → A) (i : ℕ) (a : A) (old new : List A) → old ≡ map f (below i) → a ≡ f i → new ≡ old ++ a ∷ [] → new ≡ map f (below (i + 1))
below-more f i a old new before is grown =
    grown ∙ (λ j. before j ++ is j ∷ []) ∙ sym (map_push f (below i) i) ∙ (let e : suc i ≡ i + 1 = omega arith in ap (λ m. map f (below m)) e)
