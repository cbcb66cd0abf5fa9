use Rattle.std.proofs.Common.{◌<◌, ◌≤◌, ℕ, List, [], length, get_or, subst, sym, ap, ◌∙◌}
use Rattle.std.specs.List.{All}
use Rattle.ps_compute.specs.Rows.{beside_keys, numbered}
use Rattle.ps_frame.specs.Aggregates.{max_rows}
use Rattle.ps_frame.specs.Gathered.{rows_at}
use Rattle.ps_frame.specs.Sorting.{directions_of, in_order_of_keys}
use Rattle.ps_frame.specs.declared.value.Value.{Value}
use Rattle.ps_rows.proofs.Sorting.{order-length, order-places}
use Rattle.ps_rows.proofs.sort.sorted.Goals as goal

pub gathered-requires-clause-there : goal.gathered-requires-clause-there
gathered-requires-clause-there c =
    let ds = c.as_slice-3.result.now in
    let keys = c.as_slice-keys.result.now in
    let order = c.as_slice-in-Ok-sorted_rows.ensures.value ∙ c.in-Ok-sorted_rows.ensures.rows in
    subst (All (λ i. i < length c.args.keyed.now.table.rows)) (sym order)
    (subst (λ n. All (λ i. i < n) (in_order_of_keys ds (numbered keys c.height.result))) c.height.ensures.rows (order-places ds keys c.height.result))

pub gathered-requires-clause-few : goal.gathered-requires-clause-few
gathered-requires-clause-few c =
    let count = ap length (c.as_slice-in-Ok-sorted_rows.ensures.value ∙ c.in-Ok-sorted_rows.ensures.rows) ∙ order-length c.as_slice-3.result.now c.as_slice-keys.result.now c.height.result in
    subst (λ n. n ≤ max_rows) (sym count) c.height.ensures.counted

pub returns-in-Ok-sorted_rows-clause-rows : goal.returns-in-Ok-sorted_rows-clause-rows
returns-in-Ok-sorted_rows-clause-rows c =
    let rows = c.args.keyed.now.table.rows in
    let item : ℕ → List Value = λ i. get_or rows i [] in
    let keys = c.as_slice-keys.ensures.value in
    let down = c.as_slice.ensures in
    let last = c.as_slice-2.ensures in
    let count = c.height.ensures.rows in
    let directions = c.as_slice-3.ensures.value ∙ c.in-Ok.ensures.directions ∙ (λ j. directions_of (length (keys j)) (down j) (last j)) in
    c.in_ok-gathered-in-Ok-sorted_rows.ensures.rows ∙ ap (λ places. rows_at places rows) c.as_slice-in-Ok-sorted_rows.ensures.value ∙ c.in-Ok-sorted_rows.ensures.lists rows ∙ (λ j. in_order_of_keys (directions j) (beside_keys (keys j) item (count j)))
