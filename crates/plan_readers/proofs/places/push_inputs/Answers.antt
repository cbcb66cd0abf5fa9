use Rattle.std.proofs.Common.{sym}
use Rattle.ps_phys.specs.Placed.{placed}
use Rattle.ps_phys.specs.Shown.{inputs_of, stream_of}
use Rattle.plan_readers.proofs.Ordering.{pushed-end, pushed-next}
use Rattle.plan_readers.proofs.places.push_inputs.Goals as goal

pub loop-input-preserved : goal.loop-input-preserved
loop-input-preserved c =
    pushed-next (placed c.args.places.now.slots c.args.count) (inputs_of c.args.kind.now) c.loop-input.number (stream_of c.in-Some.input) c.args.inputs.now.items c.loop-input.inputs.items c.push.new.self.items c.placed-told.result (sym c.in-Some.ensures.stream)
    c.placed-told.ensures c.in_ok-push.ensures.items c.loop-input.invariant

pub returns-clause-pushed : goal.returns-clause-pushed
returns-clause-pushed c =
    pushed-end (placed c.args.places.now.slots c.args.count) (inputs_of c.args.kind.now) c.loop-input.number c.args.inputs.now.items c.loop-input.inputs.items (sym c.in_default.ensures.stream) c.loop-input.invariant
