-- A distinct that keeps the first row of each key, or any.
use Rattle.std.proofs.Common.{◌≡◌, ◌≢◌, ℕ, Bool, true, false, ◌&&◌, List, [], ◌∷◌, Some, refl, sym, ap, subst, ◌∙◌}
use Rattle.std.specs.Prelude.{map, unwrap_or, if◌then◌else◌}
use Rattle.ps_frame.specs.Frames.{has_distinct_names}
use Rattle.ps_frame.specs.Functions.{Functions}
use Rattle.ps_frame.specs.Tables.{Fields}
use Rattle.ps_frame.specs.Trees.{Aggregation}
use Rattle.ps_frame.specs.declared.value.Value.{Value}
use Rattle.ps_meaning.specs.Distinct.{distinct_rows, first_rows, kept_rows, picked}
use Rattle.ps_meaning.specs.Orders.{IsOrder}
use Rattle.ps_meaning.specs.Schemas.{named_fields, names_of}
use Rattle.ps_meaning.specs.Steps.{DistinctStep, distinct}
use Rattle.ps_meaning.specs.declared.options.UniqueKeepStrategy.{UniqueKeepStrategy}
use Rattle.ps_meaning.specs.declared.options.UniqueKeepStrategy.TheVariants as keep
use Rattle.ps_rules.specs.Slots.{State, Stream, schema_at}
use Rattle.plan_rules.specs.Distinct.{kept_value, keeps_last, keeps_none}
use Rattle.step_keeps.specs.Kept.{IsKeptStep}
use Rattle.distinct_parts.proofs.FirstPicked.{first_picked, picks_first}
use Rattle.distinct_parts.proofs.FirstRows.{first_rows_are, with_key}
use Rattle.distinct_keeps.proofs.Streams.{distincts_keep}

-- the first row is kept
first_kept : (k : UniqueKeepStrategy) → keeps_last k ≡ false → keeps_none k ≡ false → (places : List ℕ) (rows : List (List Value)) → kept_rows k places rows ≡ first_rows places rows
first_kept keep.First l n places rows = refl
first_kept keep.Any l n places rows = refl
first_kept keep.Last l n places rows = cc
first_kept keep.None l n places rows = cc

first_value : (k : UniqueKeepStrategy) → keeps_last k ≡ false → kept_value k ≡ Aggregation.first
first_value k l = ap (λ b. if b then Aggregation.last else Aggregation.first) l

and_false : (a b : Bool) → b ≡ false → (a && b) ≡ false
and_false true b h = h
and_false false b h = refl

pub first_distincts_keep : (F : Functions) (at : ℕ) (s : State) (i : Stream) (o : DistinctStep) → keeps_last o.keep ≡ false → keeps_none o.keep ≡ false → schema_at s.nodes i ≢ [] → has_distinct_names (schema_at s.nodes i) ≡ true → let keys = unwrap_or o.subset (names_of (schema_at s.nodes i)) in
    (kf : Fields) → named_fields keys (schema_at s.nodes i) ≡ Some kf → keys ≢ [] → (schema : Fields) → IsKeptStep F at (distinct o) schema (i ∷ []) s
first_distincts_keep F at s i o few many some names kf keyed_by some_key schema =
    distincts_keep Aggregation.first picks_first F at s i o (and_false o.maintain_order (keeps_last o.keep) few) many (first_value o.keep few) (λ places rows ys h. subst (λ rs. IsOrder o.maintain_order rs ys) ((λ j. map (λ key. first_picked (with_key places key rows) j) (distinct_rows (map (picked places) rows))) ∙ first_rows_are places rows ∙ sym (first_kept o.keep few many places rows)) h) some names
    kf keyed_by some_key schema
