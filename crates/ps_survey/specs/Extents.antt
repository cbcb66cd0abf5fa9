-- How deep and how large trees are, as far as the limits need it.
use Rattle.std.specs.Prelude.{◌≡◌, ℕ, max, min, List, [], ◌∷◌, slice_get, Some}
use Rattle.ps_frame.specs.Parts.{tree_depth}
use Rattle.ps_frame.specs.Trees.{tree_at, tree_size}
use Rattle.ps_frame.specs.declared.expr.AExpr.{AExpr}
use Rattle.ps_meaning.specs.PlanTrees.{depth, occurrences}
use Rattle.ps_plan.specs.Plans.{plan_at}
use Rattle.ps_plan.specs.declared.ir.IR.{IR}
use Rattle.ps_survey.specs.declared.extents.Extent.{Extent}

-- the greatest of these numbers' values
abbrev pub largest : (ℕ → ℕ) → List ℕ → ℕ
largest f [] = 0
largest f (n ∷ ns) = max (f n) (largest f ns)

-- a depth and a size, each counted up to one more than its limit
abbrev pub IsExtent : ℕ → ℕ → Extent → Type 0
IsExtent depth size e = (e.depth ≡ min depth 257) × (e.size ≡ min size 65537)

-- the table holds the extent of a number's tree
abbrev pub HasExtent : List Extent → ℕ → ℕ → ℕ → Type 0
HasExtent table n depth size = (e : Extent) × (slice_get table n ≡ Some e) × IsExtent depth size e

-- how deep and how large an expression is
abbrev pub expr_depth : List AExpr → ℕ → ℕ
expr_depth exprs e = tree_depth (tree_at exprs (record { 0 = e }))

abbrev pub expr_size : List AExpr → ℕ → ℕ
expr_size exprs e = tree_size (tree_at exprs (record { 0 = e }))

-- how deep and how large a node is
abbrev pub node_depth : List IR → List AExpr → ℕ → ℕ
node_depth nodes exprs n = depth (plan_at nodes exprs (record { 0 = n }))

abbrev pub node_size : List IR → List AExpr → ℕ → ℕ
node_size nodes exprs n = occurrences (plan_at nodes exprs (record { 0 = n }))
