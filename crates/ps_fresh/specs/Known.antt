-- What a cache of expressions knows, by the numbers of the expressions.
use Rattle.std.specs.Prelude.{◌≡◌, ℕ, Bool, List, Option, Some, None, slice_get, unwrap_or}
use Rattle.pu_base.specs.declared.arena.Node.{Node}
use Rattle.ps_frame.specs.Trees.{IsExpression, Tree, tree_at}
use Rattle.ps_frame.specs.Typing.{is_elementwise, is_independent}
use Rattle.ps_frame.specs.declared.expr.AExpr.{AExpr}
use Rattle.ps_fresh.specs.declared.expr_cache.ExprCache.{ExprCache}

-- what is known of a number, if anything
abbrev pub known_at : List (Option Bool) → ℕ → Option Bool
known_at known n = unwrap_or (slice_get known n) None

-- each number of which something is known is that of an expression, and what is known is what a test says of its tree
abbrev pub RemembersBy : (test : Tree → Bool) → List AExpr → List (Option Bool) → Type 0
RemembersBy test arena known = (n : Node) (is : Bool) → known_at known n.0 ≡ Some is → IsExpression arena n × (test (tree_at arena n) ≡ is)

-- a cache knows of expressions whether they read no input, and whether they are elementwise
pub record Remembers (arena : List AExpr) (cache : ExprCache) : Type 0 where
  pub independent : RemembersBy is_independent arena cache.independent
  pub elementwise : RemembersBy is_elementwise arena cache.elementwise
