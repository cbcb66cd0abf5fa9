use Rattle.std.proofs.Common.{◌≡◌, ◌<◌, pos, FitsSigned, length, get_or, sym, ap, ◌∙◌, arith, rules}
use Rattle.std.specs.Int.{cast_signed, cast_unsigned, w64}
use Rattle.std.proofs.lemmas.List.{get_or_default}
use Rattle.std.proofs.lemmas.Option.{get_or_from_slice_get}
use Rattle.ps_frame.specs.Aggregates.{number_of}
use Rattle.ps_frame.specs.declared.value.Value.TheVariants as val
use Rattle.ps_groups.specs.Reductions.{IsSum}
use Rattle.ps_groups.proofs.KeyValues.{of-keys-more, sum-push}
use Rattle.ps_groups.proofs.by_key.wrapped_sums.Goals as goal

pub loop-row-preserved : goal.loop-row-preserved
loop-row-preserved c =
    let values = c.args.column.now.values in
    let keys = c.args.keys.now in
    let sums = c.loop-row.sums.items in
    let i = c.loop-row.row in
    let key = get_or keys i 0 in
    let there : key < length sums = omega (arith, c.requires.below i c.loop-row-test.true, c.loop-row.invariant.long) in
    let read : c.index.result.now ≡ get_or sums key (pos 0) = c.index.ensures ∙ get_or_default sums key c.index.result.now (pos 0) there in
    let here : get_or values i val.Null ≡ c.value.result.now = get_or_from_slice_get values i c.value.result.now val.Null c.value.ensures in
    let fits : FitsSigned w64 c.number.result = search rules in
    of-keys-more (pos 0) IsSum c.args.count values keys sums i (cast_signed w64 (cast_unsigned w64 c.int64_sum.result)) c.loop-row-test.true c.requires.below
    (λ vs is. sum-push vs (get_or values i val.Null) c.index.result.now c.number.result c.int64_sum.result (read ∙ is) (c.number.ensures ∙ ap number_of (sym here)) fits c.int64_sum.ensures)
    c.loop-row.invariant
