use Rattle.std.proofs.Common.{ap, sym, ◌∙◌}
use Rattle.node_lowering.proofs.FilterLemmas.{first_there}
use Rattle.node_lowering.proofs.filters.first_under.Goals as goal

pub returns-clause-tree : goal.returns-clause-tree
returns-clause-tree c = λ f. ap f c.in_ok-kept.ensures.node ∙ first_there f c.args.answers.now c.in-Some.node (sym c.expr_at.ensures ∙ c.in-Some.is)
