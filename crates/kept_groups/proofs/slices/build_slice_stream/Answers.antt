use Rattle.std.proofs.Common.{ap, rules}
use Rattle.pu_base.specs.declared.arena.Node.{Node}
use Rattle.ps_frame.specs.Trees.{Tree}
use Rattle.ps_phys.specs.Shown.{stream_of}
use Rattle.ps_rules.specs.Slots.{Made}
use Rattle.lowering_parts.specs.Gathered.{made_of, state_of}
use Rattle.kept_groups.proofs.Counts.{slice_added}
use Rattle.kept_groups.proofs.Kept.{offset_passed, slices_kept, slices_sound}
use Rattle.kept_groups.proofs.slices.build_slice_stream.Goals as goal
use mir.Syntax.{w64}
use mir.Val.{SFits}

pub returns-clause-keeps : goal.returns-clause-keeps
returns-clause-keeps c F f =
    let at = c.args.low.now.origin.0 in
    let input = stream_of c.args.input in
    let s = state_of f c.args.low.now in
    let fits : SFits w64 c.args.offset = search rules in
    slices_kept F at input s c.args.offset c.args.length (state_of f c.build_slice_stream.new.low) (stream_of c.in_ok-stream.stream) (offset_passed at c.args.offset c.args.length input s (made_of f c.build_slice_stream.new.low c.in_ok-stream.stream) fits (c.in_ok-stream.ensures.made f))

pub returns-clause-sound : goal.returns-clause-sound
returns-clause-sound c F f =
    let at = c.args.low.now.origin.0 in
    let input = stream_of c.args.input in
    let s = state_of f c.args.low.now in
    let fits : SFits w64 c.args.offset = search rules in
    slices_sound F at input s c.args.offset c.args.length (state_of f c.build_slice_stream.new.low) (stream_of c.in_ok-stream.stream) (offset_passed at c.args.offset c.args.length input s (made_of f c.build_slice_stream.new.low c.in_ok-stream.stream) fits (c.in_ok-stream.ensures.made f))

pub returns-clause-inserts : goal.returns-clause-inserts
returns-clause-inserts c =
    let at = c.args.low.now.origin.0 in
    let input = stream_of c.args.input in
    let f : Node → Tree = λ n. Tree.missing in
    let s = state_of f c.args.low.now in
    let fits : SFits w64 c.args.offset = search rules in
    slice_added at input f c.args.low.now c.build_slice_stream.new.low c.args.offset c.args.length (ap (λ (m : Made). m.state) (offset_passed at c.args.offset c.args.length input s (made_of f c.build_slice_stream.new.low c.in_ok-stream.stream) fits (c.in_ok-stream.ensures.made f)))
