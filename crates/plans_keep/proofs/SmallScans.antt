-- A scan of a table that isn't large.
use Rattle.std.proofs.Common.{◌≡◌, ◌≤◌, ℕ, length, None, refl, ap, ◌∙◌, inl, inr, arith, List}
use Rattle.ps_frame.specs.Aggregates.{max_rows}
use Rattle.ps_frame.specs.Functions.{Functions}
use Rattle.ps_frame.specs.Tables.{Frame, Table, whole}
use Rattle.ps_meaning.specs.Cases.{GivesBeforeCut}
use Rattle.ps_meaning.specs.Meaning.{Choice, IsLargeUnder, Means, by_case}
use Rattle.ps_meaning.specs.PlanTrees.{node, no_trees, tree}
use Rattle.ps_meaning.specs.Steps.{scan}
use Rattle.plan_keeps.specs.Kept.{AreSmall}

module _ (F : Functions) (at : ℕ) (t : Frame) where
  before_is : (ts : List Table) (U : Table) → GivesBeforeCut F at (scan t None) ts U → U ≡ whole t
  before_is ts U (inl e) = e
  before_is ts U (inr (V, g, lost, e)) = absurd (lost refl)

  table_is : (choice : Choice) (U : Table) → Means F choice (node at (scan t None) no_trees) U → U ≡ whole t
  table_is choice U (by_case {Ts = ts} ms (V, g, e) c) = e ∙ before_is ts V g

  never_large : (choice : Choice) → length t.rows ≤ max_rows → IsLargeUnder F choice (node at (scan t None) no_trees) → ⊥
  never_large choice few (inl h) = absurd h
  never_large choice few (inr (inl (U, inl m, long))) = let l = ap (λ (T : Table). length T.rows) (table_is choice U m) in omega arith
  never_large choice few (inr (inl (U, inr (ts, ms, g, c), long))) = let l = ap (λ (T : Table). length T.rows) (before_is ts U g) in omega arith
  never_large choice few (inr (inr (ts, ms, l))) = absurd l

  pub small_scan : length t.rows ≤ max_rows → AreSmall F (tree (node at (scan t None) no_trees) no_trees)
  small_scan few choice (inl h) = never_large choice few h
  small_scan few choice (inr h) = absurd h
