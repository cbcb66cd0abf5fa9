use Rattle.ps_frame.specs.Trees.{tree_at}
use Rattle.ps_meaning.specs.Steps.{named_trees}
use Rattle.ps_phys.specs.Shown.{stream_of}
use Rattle.lowering_parts.specs.Gathered.{state_of}
use Rattle.kept_lowering.proofs.Calls.{exprs_kept}
use Rattle.kept_lowering.proofs.exprs.lower_exprs.Goals as goal

pub returns-clause-keeps : goal.returns-clause-keeps
returns-clause-keeps c =
    λ F later keeps ready.
    exprs_kept F (tree_at c.args.expr_arena.now.items) c.args.low.now.origin.0 (stream_of c.args.input) (state_of (tree_at later) c.args.low.now) (state_of (tree_at later) c.lower_exprs.new.low) c.args.exprs.now
    (named_trees (tree_at later) c.in_ok-answer.answer.1.items) (stream_of c.in_ok-answer.answer.0) (c.in_ok-answer.ensures.nodes later keeps) (c.in_ok-answer.ensures.stream later keeps) (c.in_ok-answer.ensures.exprs later keeps) c.counter-counter.ensures.fits ready
