-- Each row of a group-by has a value for each field.
use Rattle.std.proofs.Common.{◌≡◌, inl, inr, ℕ, ◌+◌, Bool, true, false, List, [], ◌∷◌, length, drop, sym, subst, ◌∙◌, arith, length-append, length-drop}
use Rattle.std.specs.Prelude.{map, if◌then◌else◌}
use Rattle.std.specs.List.{AllByRecursion}
use Rattle.std.proofs.lemmas.List.{length-map}
use Rattle.ps_frame.specs.Causes.{Cause, is_empty}
use Rattle.ps_frame.specs.Eval.{eval}
use Rattle.ps_frame.specs.Functions.{Functions}
use Rattle.ps_frame.specs.Tables.{Fields, Table}
use Rattle.ps_frame.specs.declared.value.Value.{Value}
use Rattle.ps_meaning.specs.Cases.{Case, GivesBeforeCut, if_whole, keyed, out_schema, with_group_causes}
use Rattle.ps_meaning.specs.Groups.{Group, group_columns, group_of, group_rows, groups, groups_table, keys_of, only_value, rows_before_faulty}
use Rattle.ps_meaning.specs.Steps.{Named, exprs_of, group_by}
use Rattle.ps_meaning.proofs.Fits.{all-map}
use Rattle.ps_meaning.proofs.StepFits.{all-order, distinct-all}
use Rattle.picked_zips.proofs.Keyed.{keyed_wide}
use Rattle.group_keeps.proofs.Groups.{free_group}

module _ (n : ℕ) where
  abbrev Wide : List (List Value) → Type 0
  Wide rows = AllByRecursion (λ (row : List Value). length row ≡ n) rows

  abbrev GroupsWide : List Group → Type 0
  GroupsWide gs = AllByRecursion (λ (g : Group). length g.cells ≡ n) gs

  before_wide : (gs : List Group) → GroupsWide gs → Wide (rows_before_faulty gs)
  before_wide [] all = tt
  before_wide (g ∷ gs) all = by (is_empty g.causes) (before_wide gs all.1)
    where
      by : (b : Bool) → Wide (rows_before_faulty gs) → Wide (if b then g.cells ∷ rows_before_faulty gs else [])
      by true rest = (all.0, rest)
      by false rest = tt

  given_wide : (s : Fields) (cs : List Cause) (gs : List Group) → GroupsWide gs → Wide (if_whole s cs (groups_table s gs)).rows
  given_wide s [] gs all = before_wide gs all
  given_wide s (c ∷ cs) gs all = tt

module _ (F : Functions) (at : ℕ) (keys aggs : List Named) (t : Table) where
  abbrev k : ℕ
  k = length (exprs_of keys)

  abbrev count : ℕ
  count = k + length (exprs_of aggs)

  pub each_key : AllByRecursion (λ (key : List Value). length key ≡ k) (keys_of (length t.schema) (keyed at (exprs_of keys) t).rows)
  each_key =
      distinct-all (λ (key : List Value). length key ≡ k) (map (drop (length t.schema)) (keyed at (exprs_of keys) t).rows)
      (all-map (λ (row : List Value). length row ≡ length t.schema + k) (λ (key : List Value). length key ≡ k) (drop (length t.schema)) (λ row long. length-drop (length t.schema) row ∙ omega (arith, long)) (keyed at (exprs_of keys) t).rows (keyed_wide at t (exprs_of keys)))

  all_groups : GroupsWide count (groups at (exprs_of aggs) t.schema (keyed at (exprs_of keys) t).rows)
  all_groups =
      let rows = (keyed at (exprs_of keys) t).rows in
      all-map (λ (key : List Value). length key ≡ k) (λ (g : Group). length g.cells ≡ count) (group_of at (exprs_of aggs) t.schema rows) (λ key long.
      let cs = group_columns at (exprs_of aggs) t.schema rows key in
      length-append key (map only_value cs) ∙ (λ i. long i + (length-map cs only_value ∙ length-map (exprs_of aggs) (λ e. eval at (group_rows t.schema rows key) e)) i)) (keys_of (length t.schema) rows) each_key

  of_before : (U : Table) → GivesBeforeCut F at (group_by (free_group keys aggs)) (t ∷ []) U → Wide count U.rows
  of_before U (inl (gs, order, e)) =
      subst (λ (T : Table). Wide count T.rows) (sym e)
      (given_wide count (out_schema F at (group_by (free_group keys aggs)) (t ∷ [])) (with_group_causes (keyed at (exprs_of keys) t).broken gs) gs
      (all-order (λ (g : Group). length g.cells ≡ count) false (groups at (exprs_of aggs) t.schema (keyed at (exprs_of keys) t).rows) gs order all_groups))
  of_before U (inr (V, g, some, e)) = subst (λ (T : Table). Wide count T.rows) (sym e) tt

  pub case_wide : (U : Table) → Case F at (group_by (free_group keys aggs)) (t ∷ []) U → AllByRecursion (λ (row : List Value). length row ≡ length (exprs_of keys) + length (exprs_of aggs)) U.rows
  case_wide U (V, g, e) = subst (λ (T : Table). Wide count T.rows) (sym e) (of_before V g)
