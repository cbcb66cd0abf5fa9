-- The number that is read off a column, as a tree of its arena.
use Rattle.std.proofs.Common.{◌≡◌, List, refl, sym, ap, subst, ◌∙◌}
use Rattle.ps_frame.specs.Trees.{IsComplete, IsExpression, tree_at, tree_within}
use Rattle.ps_frame.specs.declared.expr.AExpr.{AExpr}
use Rattle.ps_meaning.specs.Steps.{name_in}
use Rattle.ps_meaning.specs.declared.options.ExprIR.{ExprIR}
use Rattle.flow_trials.specs.Tested.{number_entries, number_named, number_read}

own-tree : tree_at number_entries number_named.node ≡ number_read.1
unfolding tree_within
own-tree = refl

pub whole : (items : List AExpr) (e : ExprIR) → items ≡ number_entries → e ≡ number_named → IsExpression items e.node
whole items e entries named =
    subst (λ (x : List AExpr). IsExpression x e.node) (sym entries) (subst (λ (n : ExprIR). IsExpression number_entries n.node) (sym named) (subst IsComplete (sym own-tree) tt))

pub read : (items : List AExpr) (e : ExprIR) → items ≡ number_entries → e ≡ number_named → (name_in e.output_name, tree_at items e.node) ≡ number_read
read items e entries named =
    (λ i. (name_in (named i).output_name, tree_at (entries i) (named i).node)) ∙ ap (λ t. (number_read.0, t)) own-tree
