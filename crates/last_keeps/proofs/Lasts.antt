-- A distinct that keeps the last row of each key, in any order.
use Rattle.std.proofs.Common.{◌≡◌, ◌≢◌, ℕ, Bool, true, false, ◌&&◌, List, [], ◌∷◌, Some, refl, sym, ap, subst}
use Rattle.std.specs.Prelude.{map, unwrap_or, if◌then◌else◌}
use Rattle.std.specs.List.Sorted.{IsPermutation}
use Rattle.std.proofs.lemmas.List.Sorted.{IsPermutation-sym, IsPermutation-trans}
use Rattle.ps_frame.specs.Aggregates.{last_value}
use Rattle.ps_frame.specs.Frames.{has_distinct_names}
use Rattle.ps_frame.specs.Functions.{Functions}
use Rattle.ps_frame.specs.Tables.{Fields}
use Rattle.ps_frame.specs.Trees.{Aggregation}
use Rattle.ps_frame.specs.declared.value.Value.{Value}
use Rattle.ps_meaning.specs.Distinct.{distinct_rows, kept_rows, last_rows, picked}
use Rattle.ps_meaning.specs.Orders.{IsOrder}
use Rattle.ps_meaning.specs.Schemas.{named_fields, names_of}
use Rattle.ps_meaning.specs.Steps.{DistinctStep, distinct}
use Rattle.ps_meaning.specs.declared.options.UniqueKeepStrategy.{UniqueKeepStrategy}
use Rattle.ps_meaning.specs.declared.options.UniqueKeepStrategy.TheVariants as keep
use Rattle.ps_rules.specs.Slots.{State, Stream, schema_at}
use Rattle.plan_rules.specs.Distinct.{kept_value, keeps_last, keeps_none}
use Rattle.step_keeps.specs.Kept.{IsKeptStep}
use Rattle.distinct_parts.proofs.FirstRows.{with_key}
use Rattle.distinct_parts.proofs.Picks.{Picks}
use Rattle.distinct_keeps.proofs.Streams.{distincts_keep}
use Rattle.last_keeps.proofs.LastRows.{last_is_one, last_of_column, last_row, last_rows_are}

picks_last : Picks Aggregation.last
picks_last = record { row = last_row; value = last_value; column = λ at k vs. refl; of_rows = last_of_column; one_of = last_is_one; kind = λ o. refl; free = λ at n. refl }

last_kept : (k : UniqueKeepStrategy) → keeps_last k ≡ true → (places : List ℕ) (rows : List (List Value)) → kept_rows k places rows ≡ last_rows places rows
last_kept keep.First l places rows = cc
last_kept keep.Any l places rows = cc
last_kept keep.Last l places rows = refl
last_kept keep.None l places rows = cc

some_kept : (k : UniqueKeepStrategy) → keeps_last k ≡ true → keeps_none k ≡ false
some_kept keep.First l = cc
some_kept keep.Any l = cc
some_kept keep.Last l = refl
some_kept keep.None l = cc

last_picked : (k : UniqueKeepStrategy) → keeps_last k ≡ true → kept_value k ≡ Aggregation.last
last_picked k l = ap (λ b. if b then Aggregation.last else Aggregation.first) l

-- some order of the groups is some order of the last rows
in_some_order : (m : Bool) → m ≡ false → (xs ys zs : List (List Value)) → IsPermutation xs ys → IsOrder m xs zs → IsOrder m ys zs
in_some_order true e xs ys zs p h = cc
in_some_order false e xs ys zs p h = IsPermutation-trans ys xs zs (IsPermutation-sym xs ys p) h

pub last_distincts_keep : (F : Functions) (at : ℕ) (s : State) (i : Stream) (o : DistinctStep) → keeps_last o.keep ≡ true → o.maintain_order ≡ false → schema_at s.nodes i ≢ [] → has_distinct_names (schema_at s.nodes i) ≡ true → let keys = unwrap_or o.subset (names_of (schema_at s.nodes i)) in
    (kf : Fields) → named_fields keys (schema_at s.nodes i) ≡ Some kf → keys ≢ [] → (schema : Fields) → IsKeptStep F at (distinct o) schema (i ∷ []) s
unfolding picks_last
last_distincts_keep F at s i o last free some names kf keyed_by some_key schema =
    distincts_keep Aggregation.last picks_last F at s i o (ap (λ b. b && keeps_last o.keep) free) (some_kept o.keep last) (last_picked o.keep last)
    (λ places rows ys h.
    subst (λ rs. IsOrder o.maintain_order rs ys) (sym (last_kept o.keep last places rows))
    (in_some_order o.maintain_order free (map (λ key. last_row (with_key places key rows)) (distinct_rows (map (picked places) rows))) (last_rows places rows) ys (last_rows_are places rows) h))
    some names kf keyed_by some_key schema
