-- What breaks small plans, and a slice that forgets it.
use Rattle.std.proofs.Common.{[], ◌∷◌, pos, refl, inl, arith}
use Rattle.std.specs.Prelude.{codes}
use Rattle.ps_frame.specs.Causes.{Cause}
use Rattle.ps_frame.specs.Functions.{Functions}
use Rattle.ps_frame.specs.Tables.{Table, no_rows, whole}
use Rattle.ps_frame.specs.declared.value.DataFault.TheVariants as fault
use Rattle.ps_frame.specs.declared.value.DataType.TheVariants as kind
use Rattle.ps_meaning.specs.Meaning.{IsBrokenBy, IsWholeMeaning, Means}
use Rattle.ps_meaning.specs.Steps.{memory_sink, slice}
use Rattle.plan_laws.proofs.ExprRows.{step_means}
use Rattle.plan_laws.proofs.Rows.{no_choice, one_means}
use Rattle.plan_laws.specs.Examples.{a_frame, ab, at_one, cast_plan, cut_plan, forgotten_plan, gather_plan, index_plan, minus_one, misfit_plan, number, single, texts}

-- lengths 2 and 3: the rows of the shorter one are there, and Shape breaks them
abbrev misfit_rows : Table
misfit_rows =
    record {
      schema = (codes "x", kind.Int64) ∷ (codes "b", kind.Int64) ∷ [];
      rows = (number 2 ∷ number 4 ∷ []) ∷ (number 3 ∷ number 5 ∷ []) ∷ [];
      broken = at_one fault.Shape ∷ [];
    }

pub misfit_broken : (F : Functions) → IsBrokenBy F misfit_plan (at_one fault.Shape)
misfit_broken F = (no_choice, misfit_rows, inl (step_means F ab _ misfit_rows (misfit_rows, inl refl, refl) tt), (0, omega arith, refl))

-- one past the last number that a row may have
abbrev past_index : Table
past_index = no_rows ((codes "i", kind.IdxSize) ∷ (codes "a", kind.Int64) ∷ []) (at_one fault.RowIndex ∷ [])

pub index_broken : (F : Functions) → IsBrokenBy F (index_plan 4294967295) (at_one fault.RowIndex)
index_broken F = (no_choice, past_index, inl (step_means F (a_frame (5 ∷ [])) _ past_index (past_index, inl refl, refl) tt), (0, omega arith, refl))

-- a strict cast that fails
abbrev uncast : Table
uncast = no_rows ((codes "n", kind.Int64) ∷ []) (at_one fault.StrictCast ∷ [])

cast_means : (F : Functions) → Means F no_choice cast_plan uncast
cast_means F = step_means F texts _ uncast (uncast, inl refl, refl) tt

pub cast_broken : (F : Functions) → IsBrokenBy F cast_plan (at_one fault.StrictCast)
cast_broken F = (no_choice, uncast, inl (cast_means F), (0, omega arith, refl))

-- a slice of no rows above it has all its rows
pub forgotten_meaning : (F : Functions) → IsWholeMeaning F forgotten_plan (whole (single (codes "n") []))
forgotten_meaning F =
    let t = whole (single (codes "n") []) in
    ((no_choice, one_means 3 memory_sink t (one_means 2 (slice (pos 0) 0) t (cast_means F) (t, inl refl, refl) tt) (t, inl refl, refl) tt), refl)

-- a slice of a negative length, and a place past the end
abbrev x_broken_by : Cause → Table
x_broken_by c = no_rows ((codes "x", kind.Int64) ∷ []) (c ∷ [])

pub bound_broken : (F : Functions) → IsBrokenBy F (cut_plan minus_one) (at_one fault.SliceBound)
bound_broken F =
    let t = x_broken_by (at_one fault.SliceBound) in
    (no_choice, t, inl (step_means F (a_frame (1 ∷ 2 ∷ 3 ∷ [])) _ t (t, inl refl, refl) tt), (0, omega arith, refl))

pub gather_broken : (F : Functions) → IsBrokenBy F gather_plan (at_one fault.Gather)
gather_broken F =
    let t = x_broken_by (at_one fault.Gather) in
    (no_choice, t, inl (step_means F (a_frame (1 ∷ 2 ∷ 3 ∷ [])) _ t (t, inl refl, refl) tt), (0, omega arith, refl))
