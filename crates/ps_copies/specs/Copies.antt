-- Arenas that grow.
use Rattle.std.specs.Prelude.{◌≡◌, List}
use Rattle.pu_base.specs.declared.arena.Node.{Node}
use Rattle.ps_frame.specs.Trees.{IsExpression, tree_at}
use Rattle.ps_frame.specs.declared.expr.AExpr.{AExpr}

-- each expression of one arena has its tree in another too
abbrev pub KeepsTrees : List AExpr → List AExpr → Type 0
KeepsTrees old new = (n : Node) → IsExpression old n → tree_at new n ≡ tree_at old n
