-- Inputs of small nodes, small trees of a plan, and small expressions.
use Rattle.std.specs.Prelude.{ℕ, List, [], ◌∷◌, codes, pos}
use Rattle.ps_frame.specs.Trees.{Aggregation, Tree}
use Rattle.ps_frame.specs.declared.expr.LiteralValue.TheVariants as lit
use Rattle.ps_meaning.specs.PlanTrees.{PlanTree, PlanTrees}
use Rattle.ps_meaning.specs.Steps.{Named, Step}

-- a zip reads ports 0 and 1 of node 1, which reads node 0; node 3 reads port 1 of node 1 again
abbrev pub inputs : List (ℕ × ℕ)
inputs = (0, 0) ∷ (1, 0) ∷ (1, 1) ∷ (1, 1) ∷ []

abbrev pub col_a : Tree
col_a = Tree.column (codes "a")

abbrev pub one : Tree
one = Tree.literal (lit.Int64 (pos 1))

abbrev pub sum_a : Tree
sum_a = Tree.aggregate Aggregation.sum col_a

abbrev pub named : List ℕ → Tree → Named
named name e = (name, e)

-- node 4 over node 2, which stands over node 0
abbrev pub leaf : PlanTree
leaf = PlanTree.node 0 Step.hconcat PlanTrees.no_trees

abbrev pub middle : PlanTree
middle = PlanTree.node 2 (Step.cache 7) (PlanTrees.tree leaf PlanTrees.no_trees)

abbrev pub whole : PlanTree
whole = PlanTree.node 4 (Step.slice (pos 0) 1) (PlanTrees.tree middle PlanTrees.no_trees)
