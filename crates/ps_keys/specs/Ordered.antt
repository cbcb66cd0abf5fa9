-- Keys that are found by the order of their rows.
use Rattle.std.specs.Prelude.{◌≡◌, ℕ, List, Option, Some, None}
use Rattle.std.specs.BTreeMap.{get_by}
use Rattle.std.specs.Cmp.Lexicographic.{slice_cmp}
use Rattle.ps_frame.specs.Series.{Series}
use Rattle.ps_frame.specs.Values.{value_cmp}
use Rattle.ps_frame.specs.declared.value.Value.{Value}
use Rattle.ps_keys.specs.Chains.{IsKeyOf, IsNew}
use Rattle.ps_keys.specs.Hashes.{HaveRow, row_at}
use Rattle.ps_keys.specs.RowOrder.{values_of}
use Rattle.ps_keys.specs.declared.ordered.OrderedKeys.{OrderedKeys}

-- the number that is found for a row of these values
abbrev pub number_for : OrderedKeys → List Value → Option ℕ
number_for t values = get_by (λ r. slice_cmp value_cmp values (values_of r)) t.numbers

-- the number that is found for a row is that of its key, and a row for which none is found is unlike the first row of each key
pub record IsOrdered (columns : List Series) (t : OrderedKeys) : Type 0 where
  pub found : (i k : ℕ) → HaveRow columns i → number_for t (row_at columns i) ≡ Some k → IsKeyOf (row_at columns) t.firsts.items i k
  pub absent : (i : ℕ) → HaveRow columns i → number_for t (row_at columns i) ≡ None → IsNew (row_at columns) t.firsts.items i
