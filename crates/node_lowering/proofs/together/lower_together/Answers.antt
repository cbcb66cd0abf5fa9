use Rattle.ps_frame.specs.Trees.{tree_at}
use Rattle.ps_phys.specs.Shown.{stream_of}
use Rattle.lowering_parts.specs.Gathered.{trees_at}
use Rattle.lowering_parts.proofs.Going.{goes_built}
use Rattle.node_lowering.proofs.AnswerLemmas.{together_answers}
use Rattle.node_lowering.proofs.together.lower_together.Goals as goal

pub returns-clause-answers : goal.returns-clause-answers
returns-clause-answers c =
    together_answers (stream_of c.args.input) (trees_at (tree_at c.args.arena.now.items) c.args.exprs.now) c.args.arena.now.items c.together.new.arena.items c.args.low.now c.together.new.low c.finish.new.low c.in_ok-bundle.bundle c.in_ok-stream.stream _
    c.in_ok-bundle.ensures.gathers c.in_ok-stream.ensures.made c.finish.ensures.nodes c.finish.ensures.others c.in_ok-stream.ensures.exprs

pub returns-in_err-bundle-clause-goes_on : goal.returns-in_err-bundle-clause-goes_on
returns-in_err-bundle-clause-goes_on c = c.together.ensures.goes_on

pub returns-in_err-stream-clause-goes_on : goal.returns-in_err-stream-clause-goes_on
returns-in_err-stream-clause-goes_on c = goes_built c.args.arena.now.items c.together.new.arena.items c.args.low.now c.together.new.low c.finish.new.low c.together.ensures.goes_on c.finish.ensures.nodes c.finish.ensures.others

pub returns-clause-goes_on : goal.returns-clause-goes_on
returns-clause-goes_on c = goes_built c.args.arena.now.items c.together.new.arena.items c.args.low.now c.together.new.low c.finish.new.low c.together.ensures.goes_on c.finish.ensures.nodes c.finish.ensures.others
