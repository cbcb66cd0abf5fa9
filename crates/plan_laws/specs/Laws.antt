-- Words of the laws of meanings: which steps fix their order, which tables end alike, and which cache ids a tree holds.
use Rattle.std.specs.Prelude.{ℕ, ◌⊎◌, ◌≡◌, List, [], ◌∷◌, flat_map, IsTrue, ⊤}
use Rattle.ps_frame.specs.Causes.{Cause}
use Rattle.ps_frame.specs.Tables.{Table}
use Rattle.ps_meaning.specs.PlanTrees.{PlanTree, node, missing, PlanTrees, no_trees, tree}
use Rattle.ps_meaning.specs.Steps.{Step, cache, group_by, distinct}
use Rattle.ps_meaning.specs.Within.{EndAlike}

-- a group-by or a distinct that maintains the order, and each other step
abbrev pub FixesOrder : Step → Type 0
FixesOrder (group_by o) = IsTrue o.maintain_order
FixesOrder (distinct o) = IsTrue o.maintain_order
FixesOrder _ = ⊤

-- tables of which each two end alike
abbrev pub AllEndAlike : List Table → List Table → Type 0
AllEndAlike [] [] = ⊤
AllEndAlike (p ∷ ps) (l ∷ ls) = EndAlike p l × AllEndAlike ps ls
AllEndAlike _ _ = ⊥

abbrev pub causes_of : List Table → List Cause
causes_of ts = flat_map (λ (t : Table). t.broken) ts

-- the step is a cache of this id
abbrev pub IsCacheOf : ℕ → Step → Type 0
IsCacheOf id (cache other) = id ≡ other
IsCacheOf id _ = ⊥

-- a cache of this id stands in the tree
abbrev mutual
  pub HoldsId : ℕ → PlanTree → Type 0
  HoldsId id (node at step below) = IsCacheOf id step ⊎ SomeHoldsId id below
  HoldsId id missing = ⊥

  pub SomeHoldsId : ℕ → PlanTrees → Type 0
  SomeHoldsId id no_trees = ⊥
  SomeHoldsId id (tree t ts) = HoldsId id t ⊎ SomeHoldsId id ts

-- a cache stands over the tree that is stored for its id
abbrev pub IsStored : (ℕ → PlanTree) → Step → PlanTrees → Type 0
IsStored stored (cache id) below = below ≡ tree (stored id) no_trees
IsStored stored _ below = ⊤

-- nothing is missing, and each cache stands over the tree that is stored for its id
abbrev mutual
  pub StandsOver : (ℕ → PlanTree) → PlanTree → Type 0
  StandsOver stored (node at step below) = IsStored stored step below × HaveStored stored below
  StandsOver stored missing = ⊥

  pub HaveStored : (ℕ → PlanTree) → PlanTrees → Type 0
  HaveStored stored no_trees = ⊤
  HaveStored stored (tree t ts) = StandsOver stored t × HaveStored stored ts
