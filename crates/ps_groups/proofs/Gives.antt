-- What the tables are that distinct and group-by give.
use Rattle.std.proofs.Common.{◌≡◌, ℕ, List, [], ◌∷◌, Bool, true, false, refl, inl}
use Rattle.std.proofs.lemmas.List.Sorted.{IsPermutation-refl}
use Rattle.ps_frame.specs.Functions.{Functions}
use Rattle.ps_frame.specs.Tables.{Frame, whole}
use Rattle.ps_meaning.specs.Cases.{cut_by, rows_table}
use Rattle.ps_meaning.specs.Distinct.{kept_rows, subset_places}
use Rattle.ps_meaning.specs.Nodes.{GivesFrame}
use Rattle.ps_meaning.specs.Orders.{IsOrder}
use Rattle.ps_meaning.specs.Steps.{distinct_step}
use Rattle.ps_meaning.specs.declared.options.DistinctOptions.{DistinctOptions}

-- a list is some order of itself
pub same-order : {X : Type 0} (maintained : Bool) (xs : List X) → IsOrder maintained xs xs
same-order true xs = refl
same-order false xs = IsPermutation-refl xs

pub distinct-gives : (t : Frame) (o : DistinctOptions) (kept f : Frame) → kept.schema ≡ t.schema → kept.rows ≡ kept_rows o.keep_strategy (subset_places o.subset t.schema) t.rows → whole f ≡ cut_by o.slice (whole kept)
    → (F : Functions) (at : ℕ) → GivesFrame F at (distinct_step o) (t ∷ []) f
distinct-gives t o kept f schema rows cut F at = (whole kept, inl (kept_rows o.keep_strategy (subset_places o.subset t.schema) t.rows, same-order o.maintain_order _, λ i. rows_table (schema i) (rows i)), cut)
