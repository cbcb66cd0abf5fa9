use Rattle.std.proofs.Common.{Bool, [], ◌∷◌, sym, subst}
use Rattle.std.specs.Prelude.{IfOk, IsTrue}
use Rattle.ps_frame.specs.Functions.{Functions}
use Rattle.ps_frame.specs.Trees.{tree_at}
use Rattle.ps_meaning.specs.Steps.{named_trees}
use Rattle.sound_plans.specs.Fit.{IsFitOver}
use Rattle.ps_meaning.specs.Shape.{select_node}
use Rattle.sound_plans.proofs.nodes.select.Goals as goal

pub returns-then-extends-clause-fit : goal.returns-then-extends-clause-fit
returns-then-extends-clause-fit g c = subst (λ (b : Bool). IfOk c.with_columns.result (λ fit. IsTrue fit → (F : Functions) → IsFitOver F (select_node (named_trees (tree_at c.args.arena.now.items) c.args.selectors.now) b) c.args.schema.now (c.args.input.now ∷ []))) (sym c.if-extends.true) c.with_columns.ensures.fit

pub returns-else-extends-clause-fit : goal.returns-else-extends-clause-fit
returns-else-extends-clause-fit g c = subst (λ (b : Bool). IfOk c.select.result (λ fit. IsTrue fit → (F : Functions) → IsFitOver F (select_node (named_trees (tree_at c.args.arena.now.items) c.args.selectors.now) b) c.args.schema.now (c.args.input.now ∷ []))) (sym c.if-extends.false) c.select.ensures.fit
