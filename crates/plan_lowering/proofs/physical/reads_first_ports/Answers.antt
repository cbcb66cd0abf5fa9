use Rattle.std.proofs.Common.{◌≡◌, arith, rules}
use Rattle.std.specs.Prelude.{IsSome}
use Rattle.keyed_slots.specs.Slots.{value_at}
use Rattle.ps_phys.specs.Shown.{inputs_of, stream_of}
use Rattle.plan_lowering.proofs.Readers.{all_inputs, one_more}
use Rattle.plan_lowering.proofs.physical.reads_first_ports.Goals as goal

pub loop-input-preserved : goal.loop-input-preserved
loop-input-preserved c =
    let there : IsSome (value_at c.args.phys_sm.now.slots c.in-Some.input.node.0) = search rules in
    let port : c.in-Some.input.port ≡ 0 = omega arith in
    one_more c.args.phys_sm.now.slots (inputs_of c.args.kind.now) c.loop-input.place (stream_of c.in-Some.input) c.loop-input.invariant c.in-Some.ensures.stream there port

pub returns : goal.returns
returns c _ = all_inputs c.args.phys_sm.now.slots (inputs_of c.args.kind.now) c.loop-input.place c.loop-input.invariant c.in_default.ensures.stream
