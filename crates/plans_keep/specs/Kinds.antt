-- Plans whose steps are of kinds that the rules are known to keep, where no rule refuses them.
use Rattle.std.specs.Prelude.{◌≡◌, ◌⊎◌, true, false, ⊤}
use Rattle.ps_frame.specs.Functions.{Functions}
use Rattle.ps_meaning.specs.PlanTrees.{PlanTree, PlanTrees, missing, no_trees, node, tree}
use Rattle.ps_meaning.specs.Steps.{Step, distinct}
use Rattle.plan_rules.specs.Distinct.{keeps_none}
use Rattle.plan_keeps.specs.Kept.{AreSmall}

-- Of distincts those are left out that keep rows without an equal.
abbrev pub IsOfKeptKind : Step → Type 0
IsOfKeptKind (distinct o) = keeps_none o.keep ≡ false
IsOfKeptKind _ = ⊤

-- a distinct that keeps rows without an equal: it counts the rows of each key
abbrev pub CountsRows : Step → Type 0
CountsRows (distinct o) = keeps_none o.keep ≡ true
CountsRows _ = ⊥

-- The step is of such a kind, or it counts rows and nothing at or under its inputs is large.
abbrev pub IsKeptAbove : Functions → Step → PlanTrees → Type 0
IsKeptAbove F step below = IsOfKeptKind step ⊎ CountsRows step × AreSmall F below

-- each step of a tree is
abbrev mutual
  pub IsOfKeptKinds : Functions → PlanTree → Type 0
  IsOfKeptKinds F (node at step below) = IsKeptAbove F step below × AreOfKeptKinds F below
  IsOfKeptKinds F missing = ⊤

  pub AreOfKeptKinds : Functions → PlanTrees → Type 0
  AreOfKeptKinds F no_trees = ⊤
  AreOfKeptKinds F (tree t ts) = IsOfKeptKinds F t × AreOfKeptKinds F ts
