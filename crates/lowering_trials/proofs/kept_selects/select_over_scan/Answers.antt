use Rattle.std.proofs.Common.{ap}
use Rattle.ps_frame.specs.Trees.{tree_at}
use Rattle.ps_fresh.specs.declared.lowering.Lowering.{Lowering}
use Rattle.ps_phys.specs.Shown.{nodes_of, stream_of}
use Rattle.lowering_parts.specs.Gathered.{made_of, state_of}
use Rattle.lowering_trials.proofs.Ready.{means, sound_of, whole_of}
use Rattle.lowering_trials.proofs.kept_selects.select_over_scan.Goals as goal

pub build_select_stream-requires-clause-whole : goal.build_select_stream-requires-clause-whole
build_select_stream-requires-clause-whole c = whole_of c.args.valid.now c.args.exprs.now.items c.requires.valid c.args.asked.now c.args.table.now c.requires.selects

pub returns-in-Ok : goal.returns-in-Ok
returns-in-Ok c = record {
  keeps = λ F later kept.
      means F c.args.valid.now c.args.exprs.now.items c.requires.valid c.args.asked.now c.args.table.now c.requires.selects (state_of (tree_at later) c.args.low.now) c.args.low.now.origin.0
      (ap (nodes_of (tree_at later)) c.requires.none) c.requires.names (made_of (tree_at later) c.source_of.new.low c.in_ok-input.input) c.source_of.new.low.origin.0 (state_of (tree_at later) c.build_select_stream.new.low) (stream_of c.in-Ok.stream)
      (c.in_ok-input.ensures.made (tree_at later)) (ap (λ (l : Lowering). l.origin.0) c.in_ok-input.ensures.others) (c.in-Ok.ensures.keeps F later kept);
  sound = λ F later kept.
      sound_of F c.args.valid.now c.args.exprs.now.items c.requires.valid c.args.asked.now c.args.table.now c.requires.selects c.table_fits.ensures (state_of (tree_at later) c.args.low.now) c.args.low.now.origin.0 c.args.low.now.origin.0
      (ap (nodes_of (tree_at later)) c.requires.none) (state_of (tree_at later) c.build_select_stream.new.low) (stream_of c.in-Ok.stream)
      (
      means F c.args.valid.now c.args.exprs.now.items c.requires.valid c.args.asked.now c.args.table.now c.requires.selects (state_of (tree_at later) c.args.low.now) c.args.low.now.origin.0
      (ap (nodes_of (tree_at later)) c.requires.none) c.requires.names (made_of (tree_at later) c.source_of.new.low c.in_ok-input.input) c.source_of.new.low.origin.0 (state_of (tree_at later) c.build_select_stream.new.low) (stream_of c.in-Ok.stream)
      (c.in_ok-input.ensures.made (tree_at later)) (ap (λ (l : Lowering). l.origin.0) c.in_ok-input.ensures.others) (c.in-Ok.ensures.keeps F later kept));
}
