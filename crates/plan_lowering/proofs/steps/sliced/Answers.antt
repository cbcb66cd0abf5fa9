use Rattle.std.proofs.Common.{rules}
use mir.Syntax.{w64}
use mir.Val.{SFits}
use Rattle.ps_phys.specs.Shown.{stream_of}
use Rattle.lowering_parts.specs.Gathered.{state_of}
use Rattle.plan_lowering.proofs.StepLemmas.{offset_passed}
use Rattle.plan_lowering.proofs.steps.sliced.Goals as goal

pub returns-clause-made : goal.returns-clause-made
returns-clause-made c f =
    let fits : SFits w64 c.args.offset.now = search rules in
    offset_passed f c.args.low.now.origin.0 c.args.offset.now c.args.length (stream_of c.args.input) (state_of f c.args.low.now) c.build_slice_stream.result c.build_slice_stream.new.low fits (c.build_slice_stream.ensures.made f)
