use Rattle.std.proofs.Common.{arith}
use Rattle.sound_plans.proofs.Choosing.{fields-end, fields-next}
use Rattle.sound_plans.proofs.given.are_fields_of.Goals as goal

pub loop-place-preserved : goal.loop-place-preserved
loop-place-preserved c =
    fields-next c.args.given.now c.args.schema.now c.loop-place.place c.name.result.now c.kind.result c.name.ensures c.kind.ensures (c.has_field-has.ensures c.if-not-has.false) c.loop-place.invariant

pub returns : goal.returns
returns c = λ told. let past = c.loop-place-test.false in (fields-end c.args.given.now c.args.schema.now c.loop-place.place (omega (arith, past)) c.loop-place.invariant, c.names_differ.ensures)
