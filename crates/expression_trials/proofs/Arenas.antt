-- A small arena, for tests.
use Rattle.std.proofs.Common.{◌≡◌, ℕ, List, [], ◌∷◌, ◌++◌, length, sym, subst, ◌∙◌, ap, refl}
use Rattle.pu_base.specs.declared.arena.Node.{Node}
use Rattle.ps_frame.specs.Trees.{IsExpression, tree_within}
use Rattle.ps_frame.specs.declared.expr.AExpr.{AExpr}
use Rattle.ps_frame.specs.declared.expr.AExpr.TheVariants as entry
use Rattle.ps_frame.specs.declared.expr.LiteralValue.{LiteralValue}
use Rattle.ps_frame.specs.declared.expr.Operator.{Operator}

compared : (name : List ℕ) (l : LiteralValue) (o : Operator) → IsExpression (entry.Column name ∷ entry.Literal l ∷ entry.BinaryExpr (record { 0 = 0 }) o (record { 0 = 1 }) ∷ []) (record { 0 = 2 })
unfolding tree_within
compared name l o = (tt, tt)

-- a column, a literal and their comparison, each added to what was there before
pub comparison-is : (a b c d : List AExpr) (x y z : Node) (name : List ℕ) (l : LiteralValue) (o : Operator) → a ≡ [] → x.0 ≡ length a → b ≡ a ++ entry.Column name ∷ [] → y.0 ≡ length b → c ≡ b ++ entry.Literal l ∷ [] → z.0 ≡ length c → d ≡ c ++ entry.BinaryExpr x o y ∷ [] → IsExpression d z
comparison-is a b c d x y z name l o p q r s t u v =
    let first : a ++ entry.Column name ∷ [] ≡ entry.Column name ∷ [] = ap (λ w. w ++ entry.Column name ∷ []) p in
    let b-is : b ≡ entry.Column name ∷ [] = r ∙ first in
    let c-is : c ≡ entry.Column name ∷ entry.Literal l ∷ [] = t ∙ ap (λ w. w ++ entry.Literal l ∷ []) b-is in
    let x-is : x ≡ record { 0 = 0 } = λ i. record { 0 = (q ∙ ap length p) i } in
    let y-is : y ≡ record { 0 = 1 } = λ i. record { 0 = (s ∙ ap length b-is) i } in
    let z-is : z ≡ record { 0 = 2 } = λ i. record { 0 = (u ∙ ap length c-is) i } in
    let d-is : d ≡ entry.Column name ∷ entry.Literal l ∷ entry.BinaryExpr (record { 0 = 0 }) o (record { 0 = 1 }) ∷ [] =
    v ∙ ap (λ w. w ++ entry.BinaryExpr x o y ∷ []) c-is ∙ ap (λ n. entry.Column name ∷ entry.Literal l ∷ entry.BinaryExpr n o y ∷ []) x-is ∙ ap (λ n. entry.Column name ∷ entry.Literal l ∷ entry.BinaryExpr (record { 0 = 0 }) o n ∷ []) y-is in
    subst (λ w. IsExpression w z) (sym d-is) (subst (λ n. IsExpression (entry.Column name ∷ entry.Literal l ∷ entry.BinaryExpr (record { 0 = 0 }) o (record { 0 = 1 }) ∷ []) n) (sym z-is) (compared name l o))
