use Rattle.std.proofs.Common.{ap, refl}
use Rattle.ps_frame.specs.Trees.{tree_at}
use Rattle.ps_phys.specs.Shown.{stream_of}
use Rattle.ps_rules.specs.Slots.{Made}
use Rattle.lowering_parts.specs.Gathered.{state_of}
use Rattle.group_lowering.specs.Groups.{group_of}
use Rattle.kept_groups.proofs.Counts.{groups_added}
use Rattle.kept_groups.proofs.Kept.{groups_kept, groups_sound}
use Rattle.kept_groups.proofs.groups.build_group_by_stream.Goals as goal

pub returns-clause-keeps : goal.returns-clause-keeps
returns-clause-keeps c =
    λ F later keeps ready.
    groups_kept F c.args.low.now.origin.0 (stream_of c.args.input) (state_of (tree_at later) c.args.low.now) (group_of (tree_at c.args.expr_arena.now.items) c.args.keys.now c.args.aggs.now c.args.maintain_order c.args.options.slice) ready
    (state_of (tree_at later) c.build_group_by_stream.new.low) (stream_of c.in_ok-stream.stream) (c.in_ok-stream.ensures.makes.by_rule later keeps) c.counter-counter.ensures.fits

pub returns-clause-sound : goal.returns-clause-sound
returns-clause-sound c =
    λ F later keeps ready.
    groups_sound F c.args.low.now.origin.0 (stream_of c.args.input) (state_of (tree_at later) c.args.low.now) (group_of (tree_at c.args.expr_arena.now.items) c.args.keys.now c.args.aggs.now c.args.maintain_order c.args.options.slice) ready
    (state_of (tree_at later) c.build_group_by_stream.new.low) (stream_of c.in_ok-stream.stream) (c.in_ok-stream.ensures.makes.by_rule later keeps) c.counter-counter.ensures.fits

pub returns-clause-inserts : goal.returns-clause-inserts
returns-clause-inserts c =
    groups_added c.args.low.now.origin.0 (stream_of c.args.input) (tree_at c.build_group_by_stream.new.expr_arena.items) c.args.low.now c.build_group_by_stream.new.low (tree_at c.args.expr_arena.now.items) c.args.keys.now c.args.aggs.now c.args.maintain_order
    c.args.options.slice (ap (λ (m : Made). m.state) (c.in_ok-stream.ensures.makes.by_rule c.build_group_by_stream.new.expr_arena.items (λ n h. refl)))
