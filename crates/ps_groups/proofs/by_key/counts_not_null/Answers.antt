use Rattle.std.proofs.Common.{◌≡◌, ◌+◌, [], ◌∷◌, get_or, take, sym, ap, ◌∙◌, arith}
use Rattle.std.proofs.lemmas.Grind.{get_or_default_zero}
use Rattle.std.proofs.lemmas.List.{length-take}
use Rattle.std.proofs.lemmas.Option.{get_or_from_slice_get}
use Rattle.ps_frame.specs.declared.value.Value.{Value}
use Rattle.ps_frame.specs.declared.value.Value.TheVariants as val
use Rattle.ps_groups.specs.Reductions.{IsCount, count_values}
use Rattle.ps_groups.proofs.KeyValues.{count-push, counted-few, of-keys-more, one-counted}
use Rattle.ps_groups.proofs.by_key.counts_not_null.Goals as goal

pub overflow_add-index_mut : goal.overflow_add-index_mut
overflow_add-index_mut c =
    let values = c.args.column.now.values in
    let keys = c.args.keys.now in
    let counts = c.loop-row.counts.items in
    let i = c.loop-row.row in
    let key = get_or keys i 0 in
    let below = c.requires.below i c.loop-row-test.true in
    let read : c.index_mut.result.now ≡ get_or counts key 0 = c.index_mut.ensures.value ∙ get_or_default_zero counts key c.index_mut.result.now (omega (arith, below, c.loop-row.invariant.long)) in
    omega (arith, read, c.loop-row.invariant.each key below, counted-few values (take i keys) key, length-take i keys, c.counted.ensures, one-counted c.value.result.now, c.loop-row-test.true, c.requires.few)

pub loop-row-preserved : goal.loop-row-preserved
loop-row-preserved c =
    let values = c.args.column.now.values in
    let keys = c.args.keys.now in
    let counts = c.loop-row.counts.items in
    let i = c.loop-row.row in
    let key = get_or keys i 0 in
    let below = c.requires.below i c.loop-row-test.true in
    let read : c.index_mut.result.now ≡ get_or counts key 0 = c.index_mut.ensures.value ∙ get_or_default_zero counts key c.index_mut.result.now (omega (arith, below, c.loop-row.invariant.long)) in
    let here : get_or values i val.Null ≡ c.value.result.now = get_or_from_slice_get values i c.value.result.now val.Null c.value.ensures in
    of-keys-more 0 IsCount c.args.count values keys counts i (c.index_mut.result.now + c.counted.result) c.loop-row-test.true c.requires.below
    (λ vs is. count-push vs (get_or values i val.Null) c.index_mut.result.now c.counted.result (read ∙ is) (c.counted.ensures ∙ ap (λ (v : Value). count_values (v ∷ [])) (sym here)))
    c.loop-row.invariant
