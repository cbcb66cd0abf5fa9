use Rattle.std.proofs.Common.{ℕ, ap, subst, sym}
use Rattle.ps_frame.proofs.Rows.{length-rows_of}
use Rattle.ps_frame.specs.Frames.{IsFrame, column_values}
use Rattle.ps_frame.specs.Tables.{rows_of}
use Rattle.ps_frame.proofs.frame.DataFrame.get_columns.Goals as goal

pub returns-clause-fields : goal.returns-clause-fields
returns-clause-fields c =
    let a = c.self.inside in
    rw (← c.self.view_is, c.as_slice.ensures.value)
    (subst (λ (h : ℕ). IsFrame a.schema a.columns.items h) (sym (length-rows_of a.height a.columns.items c.self.invariant.heights)) c.self.invariant)

pub returns-clause-rows : goal.returns-clause-rows
returns-clause-rows c =
    let a = c.self.inside in
    rw (← c.self.view_is, c.as_slice.ensures.value)
    (ap (λ (h : ℕ). rows_of h (column_values a.columns.items)) (sym (length-rows_of a.height a.columns.items c.self.invariant.heights)))
