use Rattle.std.proofs.Common.{length, map, ap, ◌∙◌}
use Rattle.std.proofs.lemmas.Result.{IfOk-weaker}
use Rattle.ps_frame.specs.declared.value.Value.TheVariants as val
use Rattle.ps_keys.specs.Numbering.{places_of}
use Rattle.ps_groups.proofs.KeyValues.{counts-are}
use Rattle.ps_groups.proofs.by_key.row_counts.Goals as goal

pub returns : goal.returns
returns c =
    let keys = c.args.keys.now in
    let counted = c.in_ok-counts.ensures in
    IfOk-weaker c.counts_as_values.result _ _
    (λ values is. is ∙ ap (map val.IdxSize) c.as_slice.ensures.value ∙ counts-are c.args.count (λ k. length (places_of k keys)) c.in_ok-counts.counts.items counted.long counted.each)
    c.counts_as_values.ensures
