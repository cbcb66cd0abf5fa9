use Rattle.ps_frame.specs.Trees.{tree_at}
use Rattle.ps_phys.specs.Shown.{stream_of}
use Rattle.lowering_parts.specs.Gathered.{state_of}
use Rattle.kept_lowering.proofs.Calls.{select_kept}
use Rattle.kept_lowering.proofs.exprs.build_select_stream.Goals as goal

pub returns-clause-keeps : goal.returns-clause-keeps
returns-clause-keeps c =
    λ F later keeps ready.
    select_kept F (tree_at c.args.expr_arena.now.items) c.args.low.now.origin.0 (stream_of c.args.input) (state_of (tree_at later) c.args.low.now) (state_of (tree_at later) c.build_select_stream.new.low) c.args.exprs.now (stream_of c.in_ok-stream.stream)
    (c.in_ok-stream.ensures.makes.by_rule later keeps) c.counter-counter.ensures.fits ready
