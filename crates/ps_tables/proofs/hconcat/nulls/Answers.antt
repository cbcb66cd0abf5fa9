use Rattle.std.proofs.Common.{List, refl, sym, subst}
use Rattle.std.specs.Prelude.{IsTrue}
use Rattle.ps_frame.specs.Series.{all_fit}
use Rattle.ps_frame.specs.declared.value.Value.{Value}
use Rattle.ps_frame.specs.declared.value.Value.TheVariants as val
use Rattle.ps_frame.proofs.Lists.{list_all-replicate}
use Rattle.ps_frame.specs.Values.{fits_kind}
use Rattle.ps_tables.proofs.hconcat.nulls.Goals as goal

pub column_of_values-requires : goal.column_of_values-requires
column_of_values-requires c =
    subst (λ (vs : List Value). IsTrue (all_fit c.args.dtype vs)) (sym c.in_ok-values.ensures.values) (list_all-replicate (fits_kind c.args.dtype) c.args.count val.Null refl)
