-- The rows that a filter keeps, by the values of some columns and the predicate.
use Rattle.std.proofs.Common.{◌≡◌, ℕ, ◌+◌, ◌<◌, Bool, true, List, [], ◌∷◌, length, take, drop, get_or, sym, ap, ◌∙◌, arith}
use Rattle.std.specs.Prelude.{map, filter}
use Rattle.std.specs.List.{AllByRecursion}
use Rattle.std.proofs.lemmas.List.{length-take-le}
use Rattle.ps_frame.specs.Frames.{has_distinct_names}
use Rattle.ps_frame.specs.Tables.{Fields}
use Rattle.ps_frame.specs.Trees.{Tree}
use Rattle.ps_frame.specs.Values.{is_true}
use Rattle.ps_frame.specs.declared.value.Value.{Value}
use Rattle.ps_frame.specs.declared.value.Value.TheVariants as val
use Rattle.ps_meaning.specs.Cases.{where_true}
use Rattle.ps_meaning.specs.Distinct.{picked, places_in}
use Rattle.ps_meaning.specs.Schemas.{names_of}
use Rattle.ps_meaning.proofs.Fits.{all-filter, all-map}
use Rattle.ps_shares.proofs.Aggregated.{map_again}
use Rattle.picked_zips.proofs.Fronts.{own_front, own_inside, picked_front}
use Rattle.picked_zips.proofs.Members.{filter_map, map_each}
use Rattle.keyed_calls.specs.Keyed.{row_by}

-- the rows whose first value is true, without it
abbrev kept_first : List (List Value) → List (List Value)
kept_first rows = map (drop 1) (filter (λ row. is_true (get_or row 0 val.Null)) rows)

module _ (js : List ℕ) (w : ℕ) (e : Tree) (inside : AllByRecursion (λ j. j < w) js) where
  abbrev by_row : List Value → List Value
  by_row = row_by js w (e ∷ [])

  those_kept : (rows : List (List Value)) → map (picked js) (where_true w rows) ≡ kept_first (map by_row rows)
  those_kept rows =
      let test : List Value → Bool = λ row. is_true (get_or row w val.Null) in
      map_again (picked js) (take w) (filter test rows)
      ∙ (λ i. map (λ row. picked_front w row js inside i) (filter test rows))
      ∙ sym (map_again (drop 1) by_row (filter test rows))
      ∙ sym (ap (map (drop 1)) (filter_map by_row (λ row. is_true (get_or row 0 val.Null)) rows))

own_kept : (s : Fields) (e : Tree) → has_distinct_names s ≡ true → (inside : AllByRecursion (λ j. j < length s) (places_in (names_of s) s)) (rows : List (List Value)) → AllByRecursion (λ (row : List Value). length row ≡ length s + 1) rows
    → where_true (length s) rows ≡ kept_first (map (row_by (places_in (names_of s) s) (length s) (e ∷ [])) rows)
own_kept s e d inside rows wide =
    let js = places_in (names_of s) s in
    let w = length s in
    let test : List Value → Bool = λ row. is_true (get_or row w val.Null) in
    map_each (take w) (picked js) (λ (row : List Value). length row ≡ length s + 1) (λ row long. sym (own_front s d row (omega (arith, long)))) (filter test rows) (all-filter (λ (row : List Value). length row ≡ length s + 1) test rows wide)
    ∙ (λ i. map (λ row. sym (picked_front w row js inside) i) (filter test rows))
    ∙ sym (map_again (picked js) (take w) (filter test rows))
    ∙ those_kept js w e inside rows

-- so alike rows are kept alike
pub kept_alike : (js : List ℕ) (w : ℕ) (p e : Tree) (s : Fields) → AllByRecursion (λ j. j < w) js → has_distinct_names s ≡ true → (given known : List (List Value)) → AllByRecursion (λ (row : List Value). length row ≡ length s + 1) known
    → map (row_by js w (p ∷ [])) given ≡ map (row_by (places_in (names_of s) s) (length s) (e ∷ [])) known → map (picked js) (where_true w given) ≡ where_true (length s) known
kept_alike js w p e s inside d given known wide same = those_kept js w p inside given ∙ ap kept_first same ∙ sym (own_kept s e d (own_inside s d) known wide)

-- and each has a value for each field
pub kept_wide : (w : ℕ) (rows : List (List Value)) → AllByRecursion (λ (row : List Value). length row ≡ w + 1) rows → AllByRecursion (λ (row : List Value). length row ≡ w) (where_true w rows)
kept_wide w rows wide =
    let test : List Value → Bool = λ row. is_true (get_or row w val.Null) in
    all-map (λ (row : List Value). length row ≡ w + 1) (λ (row : List Value). length row ≡ w) (take w) (λ row long. length-take-le w row (omega (arith, long))) (filter test rows)
    (all-filter (λ (row : List Value). length row ≡ w + 1) test rows wide)
