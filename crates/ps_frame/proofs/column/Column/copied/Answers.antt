use Rattle.std.proofs.Common.{IsTrue, refl}
use Rattle.ps_frame.proofs.Gathers.{list_all-gathered, list_all-picked}
use Rattle.ps_frame.specs.Series.{all_fit}
use Rattle.ps_frame.specs.Values.{fits_kind}
use Rattle.ps_frame.specs.declared.value.Value.TheVariants as val
use Rattle.ps_frame.proofs.column.Column.copied.Goals as goal

pub of_values-requires : goal.of_values-requires
of_values-requires c =
    let a = c.self.inside in
    let mine : IsTrue (all_fit a.dtype c.args.self.now.values) = rw (← c.self.view_is) (list_all-picked (fits_kind a.dtype) a.places a.run refl c.self.invariant.1) in
    rw c.in_ok-values.ensures.picked (list_all-gathered (fits_kind a.dtype) val.Null c.args.self.now.values c.args.rows.now refl mine)
