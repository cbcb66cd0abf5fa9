use Rattle.std.proofs.Common.{get_or}
use Rattle.std.proofs.lemmas.Option.{slice_get-get_or}
use Rattle.ps_phys.specs.declared.phys.PhysStream.{PhysStream}
use Rattle.sound_plans.proofs.Empty.{empty-is}
use Rattle.sound_plans.proofs.Several.{alike-end, alike-next, union-fit}
use Rattle.sound_plans.proofs.many.union.Goals as goal

pub loop-input-preserved : goal.loop-input-preserved
loop-input-preserved c =
    let none : PhysStream = record { node = record { 0 = 0 }; port = 0 } in
    alike-next c.args.phys.now.slots c.args.schema.now c.args.inputs.now c.loop-input.input-index (get_or c.args.inputs.now c.loop-input.input-index none) c.in-Some.other.now
    (slice_get-get_or c.args.inputs.now c.loop-input.input-index none c.loop-input-test.true) c.in-Some.ensures (c.same-same.ensures.0 c.if-not-same.false) c.loop-input.invariant

pub returns : goal.returns
returns c = λ told. union-fit c.args.phys.now.slots c.args.schema.now c.args.inputs.now c.is_empty.result c.is_empty-2.result (empty-is c.args.inputs.now c.is_empty.result c.is_empty.ensures) c.if-is_empty.false c.is_empty-2.ensures c.if-is_empty-2.false c.names_differ.ensures
    (alike-end c.args.phys.now.slots c.args.schema.now c.args.inputs.now c.loop-input.input-index c.loop-input-test.false c.loop-input.invariant)
