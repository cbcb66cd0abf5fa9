-- The count that is read off a column, as a tree of its arena.
use Rattle.std.proofs.Common.{◌≡◌, List, [], ◌∷◌, refl, sym, ap, subst, ◌∙◌}
use Rattle.std.specs.List.{AllByRecursion}
use Rattle.ps_frame.specs.Trees.{IsComplete, tree_at, tree_within}
use Rattle.ps_frame.specs.declared.expr.AExpr.{AExpr}
use Rattle.ps_meaning.specs.Maps.{map_step}
use Rattle.ps_meaning.specs.Steps.{Step, select, step_exprs}
use Rattle.ps_meaning.specs.declared.map.MapKind.{MapKind}
use Rattle.map_flow_trials.specs.Shown.{count_entries, count_map, count_named, count_read, reads}

own-tree : tree_at count_entries count_named.node ≡ count_read.1
unfolding tree_within
own-tree = refl

module _ (items : List AExpr) (k : MapKind) (entries : items ≡ count_entries) (is : k ≡ count_map) where
  pub read : map_step (tree_at items) k ≡ reads
  unfolding reads
  read = (λ i. map_step (tree_at (entries i)) (is i)) ∙ ap (λ t. select ((count_read.0, t) ∷ [])) own-tree

  whole-step : AllByRecursion IsComplete (step_exprs reads)
  unfolding reads
  whole-step = (tt, tt)

  pub whole : AllByRecursion IsComplete (step_exprs (map_step (tree_at items) k))
  whole = subst (λ (step : Step). AllByRecursion IsComplete (step_exprs step)) (sym read) whole-step
