-- What a distinct keeps, by the numbers of the rows.
use Rattle.std.proofs.Common.{◌≡◌, ℕ, suc, ◌+◌, ◌<◌, ◌≤◌, List, [], ◌∷◌, length, get_or, map, take, drop, Bool, true, false, cond, refl, sym, ap, subst, ◌∙◌, arith}
use Rattle.std.specs.Prelude.{◌==◌, ◌||◌, not, filter as kept}
use Rattle.std.specs.List.{All, list_any}
use Rattle.std.proofs.lemmas.List.{get_or-map, length-map}
use Rattle.ps_frame.specs.Frames.{AllOfHeight, column_values}
use Rattle.ps_frame.specs.Gathered.{rows_at}
use Rattle.ps_frame.specs.Tables.{rows_of, values_at}
use Rattle.ps_frame.specs.Series.{Series}
use Rattle.ps_frame.specs.Values.{same_row}
use Rattle.ps_frame.specs.Zip.{below}
use Rattle.ps_frame.specs.declared.value.Value.{Value}
use Rattle.ps_meaning.specs.Distinct.{kept_rows, last_rows, single_rows, picked, same_key}
use Rattle.ps_meaning.specs.declared.options.UniqueKeepStrategy.{UniqueKeepStrategy}
use Rattle.ps_meaning.specs.declared.options.UniqueKeepStrategy.TheVariants as keep
use Rattle.ps_keys.specs.KeyRows.{AreBelow}
use Rattle.ps_keys.specs.Numbering.{Numbers, places_of}
use Rattle.ps_keys.specs.declared.numbering.Numbering.{Numbering}
use Rattle.ps_keys.proofs.FirstRows.{firsts-at, firsts_by-picked, kept-below}
use Rattle.ps_keys.proofs.KeptRows.{items_at-next, kept-at, kept-all, kept_below-few, kept-front}
use Rattle.ps_keys.proofs.Numberings.{keys-below, keys-length, keys-match}
use Rattle.ps_tables.proofs.Projected.{heights-at, rows-picked}
use Rattle.ps_groups.specs.KeptRows.{comes_again, kept_places, last_places, single_places}

module _ (places : List ℕ) where
  -- numbers are equal where the keys of rows are the same
  pub record AreNumbersOf (numbers : List ℕ) (rows : List (List Value)) : Type 0 where
    pub long : length numbers ≡ length rows
    pub agree : (i j : ℕ) → i < length rows → j < length rows → (get_or numbers j 0 == get_or numbers i 0) ≡ same_key places (get_or rows i []) (get_or rows j [])

  pub numbers-of : (rows : List (List Value)) (n : Numbering) → Numbers (map (picked places) rows) n → AreNumbersOf n.keys.items rows
  numbers-of rows n of =
      let keys = map (picked places) rows in
      let long : length keys ≡ length rows = length-map rows (picked places) in
      record {
        long = keys-length keys n of ∙ long;
        agree = λ i j in_i in_j.
            keys-match keys n of i j (omega arith) (omega arith)
            ∙ ap (λ a. same_row a (get_or keys j [])) (get_or-map (picked places) rows i [] [] in_i)
            ∙ ap (same_row (picked places (get_or rows i []))) (get_or-map (picked places) rows j [] [] in_j);
      }

  any-agree : (p : ℕ → Bool) (q : List Value → Bool) (ks : List ℕ) (rows : List (List Value)) → length ks ≡ length rows → ((j : ℕ) → j < length rows → p (get_or ks j 0) ≡ q (get_or rows j [])) → list_any p ks ≡ list_any q rows
  any-agree p q [] [] long agree = refl
  any-agree p q [] (r ∷ rows) long agree = cc
  any-agree p q (k ∷ ks) [] long agree = cc
  any-agree p q (k ∷ ks) (r ∷ rows) long agree = ap (λ t. t || list_any p ks) (agree 0 (omega arith)) ∙ ap (λ t. q r || t) (any-agree p q ks rows (omega arith) (λ j within. agree (suc j) (omega arith)))

  -- the last places, from the front
  last_places-front : (k : ℕ) (ks : List ℕ) → last_places (k ∷ ks) ≡ cond (list_any (λ j. j == k) ks) (map suc (last_places ks)) (0 ∷ map suc (last_places ks))
  last_places-front k ks =
      kept-front (λ i. not (comes_again (k ∷ ks) i)) (length ks)
      ∙ ap (λ xs. cond (not (list_any (λ j. j == k) ks)) (0 ∷ map suc xs) (map suc xs))
      (kept-below (length ks) (λ i. not (comes_again (k ∷ ks) (suc i))) (λ i. not (comes_again ks i)) (λ i within. ap not (again-next i)))
      ∙ turned (list_any (λ j. j == k) ks) (map suc (last_places ks))
    where
      turned : (t : Bool) (xs : List ℕ) → cond (not t) (0 ∷ xs) xs ≡ cond t xs (0 ∷ xs)
      turned true xs = refl
      turned false xs = refl

      again-next : (i : ℕ) → comes_again (k ∷ ks) (suc i) ≡ comes_again ks i
      again-next i = let e : suc i + 1 ≡ suc (i + 1) = omega arith in ap (λ m. list_any (λ j. j == get_or ks i 0) (drop m (k ∷ ks))) e

  pub lasts-at : (ks : List ℕ) (rows : List (List Value)) → AreNumbersOf ks rows → rows_at (last_places ks) rows ≡ last_rows places rows
  lasts-at [] [] are = refl
  lasts-at [] (r ∷ rows) are = let e = are.long in cc
  lasts-at (k ∷ ks) [] are = let e = are.long in cc
  lasts-at (k ∷ ks) (r ∷ rows) are =
      let long : length ks ≡ length rows = let e = are.long in omega arith in
      let rest : AreNumbersOf ks rows = record { long = long; agree = λ i j in_i in_j. are.agree (suc i) (suc j) (omega arith) (omega arith) } in
      ap (λ ps. rows_at ps (r ∷ rows)) (last_places-front k ks)
      ∙ ap (λ t. rows_at (cond t (map suc (last_places ks)) (0 ∷ map suc (last_places ks))) (r ∷ rows))
      (any-agree (λ j. j == k) (same_key places r) ks rows long (λ j within. are.agree 0 (suc j) (omega arith) (omega arith)))
      ∙ step (list_any (same_key places r) rows) (items_at-next [] r rows (last_places ks) ∙ lasts-at ks rows rest)
    where
      step : (t : Bool) → rows_at (map suc (last_places ks)) (r ∷ rows) ≡ last_rows places rows → rows_at (cond t (map suc (last_places ks)) (0 ∷ map suc (last_places ks))) (r ∷ rows) ≡ cond t (last_rows places rows) (r ∷ last_rows places rows)
      step true e = e
      step false e = ap (λ rs. r ∷ rs) e

  pub singles-at : (ks : List ℕ) (rows : List (List Value)) → AreNumbersOf ks rows → rows_at (single_places ks) rows ≡ single_rows places rows rows
  singles-at ks rows are =
      ap (λ m. rows_at (kept (λ i. length (places_of (get_or ks i 0) ks) == 1) (below m)) rows) are.long
      ∙ ap (λ ps. rows_at ps rows) (kept-below (length rows) (λ i. length (places_of (get_or ks i 0) ks) == 1) (λ i. length (kept (same_key places (get_or rows i [])) rows) == 1) (λ i within. ap (λ m. m == 1) (as-many i within)))
      ∙ kept-at [] (λ r. length (kept (same_key places r) rows) == 1) rows
    where
      as-many : (i : ℕ) → i < length rows → length (places_of (get_or ks i 0) ks) ≡ length (kept (same_key places (get_or rows i [])) rows)
      as-many i within =
          ap (λ m. length (kept (λ j. get_or ks j 0 == get_or ks i 0) (below m))) are.long
          ∙ ap length (kept-below (length rows) (λ j. get_or ks j 0 == get_or ks i 0) (λ j. same_key places (get_or rows i []) (get_or rows j [])) (λ j in_j. are.agree i j within in_j))
          ∙ sym (length-map (kept (λ j. same_key places (get_or rows i []) (get_or rows j [])) (below (length rows))) (λ j. get_or rows j []))
          ∙ ap length (kept-at [] (same_key places (get_or rows i [])) rows)

  -- the rows at the places that are kept are the rows that are kept
  pub kept_places-at : (how : UniqueKeepStrategy) (rows : List (List Value)) (n : Numbering) → Numbers (map (picked places) rows) n → rows_at (kept_places how n) rows ≡ kept_rows how places rows
  kept_places-at keep.First rows n of = ap (λ ps. rows_at ps rows) of.firsts ∙ firsts-at (picked places) [] rows ∙ sym (firsts_by-picked places rows)
  kept_places-at keep.Any rows n of = ap (λ ps. rows_at ps rows) of.firsts ∙ firsts-at (picked places) [] rows ∙ sym (firsts_by-picked places rows)
  kept_places-at keep.Last rows n of = lasts-at n.keys.items rows (numbers-of rows n of)
  kept_places-at keep.None rows n of = singles-at n.keys.items rows (numbers-of rows n of)

-- each kept place is below the number of rows, and there are no more of them
module _ (keys : List (List Value)) (n : Numbering) (of : Numbers keys n) where
  pub keys-below-firsts : AreBelow (length n.firsts.items) n.keys.items
  keys-below-firsts i within = keys-below keys n of i (omega (arith, keys-length keys n of))

  pub firsts-few : length n.firsts.items ≤ length keys
  firsts-few = omega (arith, ap length of.firsts, kept_below-few (length keys) (λ i. not (list_any (same_row (get_or keys i [])) (take i keys))))

  pub kept_places-below : (how : UniqueKeepStrategy) → All (λ i. i < length keys) (kept_places how n)
  kept_places-below keep.First = subst (All (λ i. i < length keys)) (sym of.firsts) (kept-all (length keys) (λ i. not (list_any (same_row (get_or keys i [])) (take i keys))))
  kept_places-below keep.Any = subst (All (λ i. i < length keys)) (sym of.firsts) (kept-all (length keys) (λ i. not (list_any (same_row (get_or keys i [])) (take i keys))))
  kept_places-below keep.Last = subst (λ m. All (λ i. i < m) (last_places n.keys.items)) (keys-length keys n of) (kept-all (length n.keys.items) (λ i. not (comes_again n.keys.items i)))
  kept_places-below keep.None = subst (λ m. All (λ i. i < m) (single_places n.keys.items)) (keys-length keys n of) (kept-all (length n.keys.items) (λ i. length (places_of (get_or n.keys.items i 0) n.keys.items) == 1))

  pub kept_places-few : (how : UniqueKeepStrategy) → length (kept_places how n) ≤ length keys
  kept_places-few keep.First = firsts-few
  kept_places-few keep.Any = firsts-few
  kept_places-few keep.Last = omega (arith, keys-length keys n of, kept_below-few (length n.keys.items) (λ i. not (comes_again n.keys.items i)))
  kept_places-few keep.None = omega (arith, keys-length keys n of, kept_below-few (length n.keys.items) (λ i. length (places_of (get_or n.keys.items i 0) n.keys.items) == 1))

-- the rows of the columns at some places
pub picked-heights : (rows : List (List Value)) (places : List ℕ) (cs : List Series) → column_values cs ≡ map (λ i. values_at i rows) places → AllOfHeight (length rows) cs
picked-heights rows places cs e = heights-at rows places cs (length rows) refl e

pub picked-rows : (rows : List (List Value)) (places : List ℕ) (cs : List Series) → column_values cs ≡ map (λ i. values_at i rows) places → rows_of (length rows) (column_values cs) ≡ map (picked places) rows
picked-rows rows places cs e = ap (rows_of (length rows)) e ∙ rows-picked rows places
