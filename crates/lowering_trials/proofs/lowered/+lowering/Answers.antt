use Rattle.std.proofs.Common.{List, ◌+◌, ◌-◌, ◌*◌, ◌<◌, ◌∙◌, arith, length, subst, sym}
use Rattle.ps_plan.specs.declared.ir.IR.{IR}
use Rattle.lowering_trials.proofs.Plans.{entry_there, exprs_whole, in_range, inputs_reached, schema_known, stands_after}
use Rattle.lowering_trials.proofs.lowered.+lowering.Goals as goal

pub node_stream-get-step-requires : goal.node_stream-get-step-requires
node_stream-get-step-requires t c =
    subst (λ (es : List IR). c.args.node.0 < length es) (sym c.ir.ensures) (in_range c.args.valid.now c.args.exprs.now.items c.args.low.now c.requires.stands c.args.node c.requires.reached)

pub node_stream-streams_of-requires : goal.node_stream-streams_of-requires
node_stream-streams_of-requires t c =
    let falls : 2 * (c.args.depth - 1) + 1 < t = omega arith in (
      falls,
      (
        c.requires.stands,
        inputs_reached c.args.valid.now c.args.node c.get-step.result.now c.as_slice.result.now c.requires.reached
            (entry_there c.args.valid.now.nodes c.ir.result.now.items c.args.node.0 c.get-step.result.now c.ir.ensures c.get-step.ensures) (c.as_slice.ensures.value ∙ c.in_ok-inputs.ensures ∙ c.inputs.ensures),
      ),
    )

pub node_stream-schema-requires : goal.node_stream-schema-requires
node_stream-schema-requires t c = schema_known c.args.valid.now c.args.exprs.now.items c.args.low.now c.requires.stands c.args.node c.requires.reached

pub node_stream-step_stream-requires-clause-whole : goal.node_stream-step_stream-requires-clause-whole
node_stream-step_stream-requires-clause-whole t c =
    exprs_whole c.args.valid.now c.streams_of.new.exprs.items c.streams_of.new.low c.in_ok-streams.ensures c.args.node c.requires.reached c.get-step.result.now
    (entry_there c.args.valid.now.nodes c.ir.result.now.items c.args.node.0 c.get-step.result.now c.ir.ensures c.get-step.ensures)

pub node_stream-returns : goal.node_stream-returns
node_stream-returns t c = stands_after c.step_stream.result c.args.valid.now c.streams_of.new.exprs.items c.step_stream.new.exprs.items c.streams_of.new.low c.step_stream.new.low c.in_ok-streams.ensures c.step_stream.ensures.entries c.step_stream.ensures.cache
