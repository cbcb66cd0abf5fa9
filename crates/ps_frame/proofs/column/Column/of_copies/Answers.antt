use Rattle.std.proofs.Common.{refl}
use Rattle.ps_frame.proofs.Gathers.{list_all-gathered}
use Rattle.ps_frame.specs.Values.{fits_kind}
use Rattle.ps_frame.specs.declared.value.Value.TheVariants as val
use Rattle.ps_frame.proofs.column.Column.of_copies.Goals as goal

pub of_values-requires : goal.of_values-requires
of_values-requires c = rw c.in_ok-values.ensures.picked (list_all-gathered (fits_kind c.args.dtype) val.Null c.args.few.now c.args.places.now refl c.requires.fit)
