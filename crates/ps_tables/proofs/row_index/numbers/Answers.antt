use Rattle.std.proofs.Common.{List, sym, subst}
use Rattle.std.specs.Prelude.{IsTrue}
use Rattle.ps_frame.specs.Series.{all_fit}
use Rattle.ps_frame.specs.declared.value.DataType.TheVariants as kind
use Rattle.ps_frame.specs.declared.value.Value.{Value}
use Rattle.ps_tables.proofs.Numbered.{numbers-fit}
use Rattle.ps_tables.proofs.row_index.numbers.Goals as goal

pub column_of_values-requires : goal.column_of_values-requires
column_of_values-requires c = subst (λ (vs : List Value). IsTrue (all_fit kind.IdxSize vs)) (sym c.in_ok-values.ensures.values) (numbers-fit c.args.first c.args.count)
