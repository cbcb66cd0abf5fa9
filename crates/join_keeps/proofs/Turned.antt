-- Rows with keys behind them that are alike by the keys and by some columns: those that show more, with the keys behind these columns, are the others.
use Rattle.std.proofs.Common.{◌≡◌, ℕ, zero, suc, ◌+◌, ◌<◌, true, Some, List, [], ◌∷◌, ◌++◌, length, take, drop, get_or, refl, sym, ap, ◌∙◌, arith}
use Rattle.std.specs.Prelude.{map}
use Rattle.std.specs.List.{AllByRecursion}
use Rattle.std.proofs.Math.Seq.{drop-append_seam, take-append_seam}
use Rattle.std.proofs.lemmas.List.{length-map, length-take-le}
use Rattle.ps_frame.specs.Frames.{has_distinct_names}
use Rattle.ps_frame.specs.Tables.{Fields, Table, field_kind}
use Rattle.ps_frame.specs.Trees.{Tree}
use Rattle.ps_frame.specs.declared.value.DataType.{DataType}
use Rattle.ps_frame.specs.declared.value.Value.{Value}
use Rattle.ps_frame.specs.declared.value.Value.TheVariants as val
use Rattle.ps_meaning.specs.Distinct.{picked, places_in}
use Rattle.ps_meaning.specs.Schemas.{names_of}
use Rattle.ps_meaning.specs.Steps.{Name}
use Rattle.ps_meaning.proofs.EvalFits.{stands}
use Rattle.ps_meaning.proofs.StepFits.{own-kinds}
use Rattle.ps_shares.proofs.Aggregated.{map_again}
use Rattle.step_keeps.proofs.OwnColumns.{own_values}
use Rattle.picked_zips.specs.Picked.{places_from}
use Rattle.picked_zips.proofs.Keyed.{ArePlaced, places_inside, rest_of}
use Rattle.picked_zips.proofs.Members.{map_each}
use Rattle.keyed_calls.specs.Keyed.{row_by}
use Rattle.join_keeps.proofs.Pairs.{picked_front, turned}

-- all names of a schema have places before its end
all_placed : (s fs : Fields) → AllByRecursion (λ (f : Name × DataType). field_kind f.0 s ≡ Some f.1) fs → ArePlaced s (names_of fs)
all_placed s [] own = tt
all_placed s (f ∷ fs) own = let r = stands f.0 s f.1 own.0 in ((r.0, r.1), all_placed s fs own.1)

pub own_places_inside : (s : Fields) → has_distinct_names s ≡ true → AllByRecursion (λ j. j < length s) (places_in (names_of s) s)
own_places_inside s d = places_inside s (names_of s) (all_placed s s (own-kinds s d))

module _ (at : ℕ) (asked given : List Tree) (count : length given ≡ length asked) (t z : Table) (distinct : has_distinct_names t.schema ≡ true) where
  abbrev js : List ℕ
  js = places_in (names_of t.schema) z.schema

  abbrev own : List ℕ
  own = places_in (names_of t.schema) t.schema

  abbrev w : ℕ
  w = length t.schema

  -- keys that stand first, behind the rest
  back : ℕ → List Value → List Value
  back k row = drop k row ++ take k row

  back_is : (k : ℕ) (xs ys : List Value) → length xs ≡ k → back k (xs ++ ys) ≡ ys ++ xs
  unfolding back
  back_is k xs ys e =
      let d = ap (λ n. drop n (xs ++ ys)) (sym e) ∙ drop-append_seam xs ys in
      let h = ap (λ n. take n (xs ++ ys)) (sym e) ∙ take-append_seam xs ys in
      λ i. d i ++ h i

  places_count : {A : Type 0} (w : ℕ) (xs : List A) → length (places_from w xs) ≡ length xs
  places_count w [] = refl
  places_count w (x ∷ xs) = let n = places_count (suc w) xs in omega (arith, n)

  turned_is : (places : List ℕ) (w : ℕ) (keys : List Tree) (row : List Value) → length row ≡ w + length keys → back (length keys) (row_by places w keys row) ≡ turned places w row
  turned_is places w keys row long =
      back_is (length keys) (picked (places_from w keys) row) (picked places row) (length-map (places_from w keys) (λ k. get_or row k val.Null) ∙ places_count w keys)
      ∙ ap (λ (rest : List Value). picked places row ++ rest) (rest_of row w keys long)

  joins : (row : List Value) (n : ℕ) → take n row ++ drop n row ≡ row
  joins row zero = refl
  joins [] (suc n) = refl
  joins (x ∷ row) (suc n) = ap (λ (r : List Value). x ∷ r) (joins row n)

  turned_own : (row : List Value) → length row ≡ w + length asked → turned own w row ≡ row
  turned_own row long =
      let front : picked own row ≡ take w row = sym (picked_front w row own (own_places_inside t.schema distinct)) ∙ own_values t.schema (take w row) distinct (length-take-le w row (omega (arith, long))) in
      ap (λ (vs : List Value). vs ++ drop w row) front ∙ joins row w

  pub rows_alike : (given_rows asked_rows : List (List Value)) → AllByRecursion (λ (row : List Value). length row ≡ length z.schema + length given) given_rows → AllByRecursion (λ (row : List Value). length row ≡ w + length asked) asked_rows
      → map (row_by js (length z.schema) given) given_rows ≡ map (row_by own w asked) asked_rows → map (turned js (length z.schema)) given_rows ≡ asked_rows
  rows_alike given_rows asked_rows wide_given wide_asked alike =
      map_each (turned js (length z.schema)) (λ row. back (length given) (row_by js (length z.schema) given row)) (λ (row : List Value). length row ≡ length z.schema + length given) (λ row long. sym (turned_is js (length z.schema) given row long)) given_rows wide_given
      ∙ sym (map_again (back (length given)) (row_by js (length z.schema) given) given_rows)
      ∙ ap (map (back (length given))) alike
      ∙ ap (λ k. map (back k) (map (row_by own w asked) asked_rows)) count
      ∙ map_again (back (length asked)) (row_by own w asked) asked_rows
      ∙ map_each (λ row. back (length asked) (row_by own w asked row)) (λ row. row) (λ (row : List Value). length row ≡ w + length asked) (λ row long. turned_is own w asked row long ∙ turned_own row long) asked_rows wide_asked
      ∙ same asked_rows
    where
      same : (rows : List (List Value)) → map (λ (row : List Value). row) rows ≡ rows
      same [] = refl
      same (r ∷ rows) = ap (λ (rs : List (List Value)). r ∷ rs) (same rows)
