-- An expression that was added to an empty arena is whole if it is a column.
use Rattle.std.proofs.Common.{◌≡◌, ℕ, List, [], ◌∷◌, ◌++◌, length, sym, ap, subst, ◌∙◌}
use Rattle.ps_frame.specs.Trees.{IsComplete, IsExpression, tree_at, tree_within}
use Rattle.ps_frame.specs.declared.expr.AExpr.{AExpr}
use Rattle.ps_frame.specs.declared.expr.AExpr.TheVariants as expr
use Rattle.pu_base.specs.declared.arena.Node.{Node}

pub column_whole : (old new : List AExpr) (name : List ℕ) (n : Node) → old ≡ [] → n.0 ≡ length old → new ≡ old ++ expr.Column name ∷ [] → IsExpression new n
unfolding tree_within
column_whole old new name n none number added =
    let alone : new ≡ expr.Column name ∷ [] = added ∙ ap (λ (x : List AExpr). x ++ expr.Column name ∷ []) none in
    let first : n.0 ≡ 0 = number ∙ ap length none in
    subst (λ (x : List AExpr). IsComplete (tree_at x n)) (sym alone) (subst (λ (k : ℕ). IsComplete (tree_at (expr.Column name ∷ []) (record { 0 = k }))) (sym first) tt)
