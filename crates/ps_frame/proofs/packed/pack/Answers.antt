use Rattle.std.proofs.Common.{List, length, ap, refl, ◌∙◌, arith}
use Rattle.std.proofs.lemmas.List.{take_all}
use Rattle.std.proofs.lemmas.Option.{slice_get_read}
use Rattle.ps_frame.proofs.Lists.{list_all-at}
use Rattle.ps_frame.proofs.Packing.{pushed-more, was_taken}
use Rattle.ps_frame.specs.Series.{Series}
use Rattle.ps_frame.specs.Values.{fits_kind}
use Rattle.ps_frame.specs.declared.value.Value.{Value}
use Rattle.ps_frame.proofs.packed.pack.Goals as goal

pub push-requires : goal.push-requires
push-requires c =
    let values = c.args.values.now in
    let here = slice_get_read values (length values) c.loop-value.value-index c.value-item.result refl (omega arith) c.value-item.is in
    rw c.loop-value.invariant (list_all-at (fits_kind c.args.dtype) values c.loop-value.value-index c.value-item.result c.requires here)

pub loop-value-preserved : goal.loop-value-preserved
loop-value-preserved c =
    let values = c.args.values.now in
    let here = slice_get_read values (length values) c.loop-value.value-index c.value-item.result refl (omega arith) c.value-item.is in
    pushed-more c.args.dtype values c.loop-value.value-index c.value-item.result c.loop-value.packed c.push.new.self c.loop-value.invariant (was_taken c.in_ok-taken.taken _ _ _ c.in_ok-taken.ensures.taken c.if-not-taken.false) here

pub returns-clause-same : goal.returns-clause-same
returns-clause-same c =
    c.loop-value.invariant
    ∙ ap (λ (values : List Value). let t : Series = record { kind = c.args.dtype; values = values } in t) (take_all c.loop-value.value-index c.args.values.now (omega arith))
