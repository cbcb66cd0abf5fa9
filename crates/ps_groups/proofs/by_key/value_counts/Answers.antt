use Rattle.std.proofs.Common.{◌≤◌, length, map, subst, sym, ap, ◌∙◌}
use Rattle.std.specs.List.{All}
use Rattle.std.proofs.lemmas.Result.{IfOk-weaker}
use Rattle.ps_frame.specs.Aggregates.{max_rows}
use Rattle.ps_frame.specs.declared.value.Value.TheVariants as val
use Rattle.ps_groups.specs.Reductions.{count_values, values_of_key}
use Rattle.ps_groups.proofs.KeyValues.{counted-few, counts-are, counts-few}
use Rattle.ps_groups.proofs.by_key.value_counts.Goals as goal

pub counts_as_values-requires : goal.counts_as_values-requires
counts_as_values-requires c =
    let keys = c.args.keys.now in
    let values = c.args.column.now.values in
    let counted = c.in_ok-counts.ensures in
    subst (All (λ n. n ≤ max_rows)) (sym c.as_slice.ensures.value)
    (counts-few c.args.count (length keys) (λ k. count_values (values_of_key values keys k)) c.in_ok-counts.counts.items counted.long counted.each (counted-few values keys) c.requires.few)

pub returns : goal.returns
returns c =
    let keys = c.args.keys.now in
    let values = c.args.column.now.values in
    let counted = c.in_ok-counts.ensures in
    IfOk-weaker c.counts_as_values.result _ _
    (λ out is. is ∙ ap (map val.IdxSize) c.as_slice.ensures.value ∙ counts-are c.args.count (λ k. count_values (values_of_key values keys k)) c.in_ok-counts.counts.items counted.long counted.each)
    c.counts_as_values.ensures
