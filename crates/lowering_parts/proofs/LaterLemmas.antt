-- What holds over an arena, once entries are added.
use Rattle.std.proofs.Common.{◌≡◌, List, [], ◌∷◌, ◌++◌, sym, ap, subst, ◌∙◌}
use Rattle.std.specs.Prelude.{Bool, Option}
use Rattle.std.specs.List.{AllByRecursion}
use Rattle.pu_base.specs.declared.arena.Node.{Node}
use Rattle.ps_copies.specs.Copies.{KeepsTrees}
use Rattle.ps_frame.specs.Trees.{IsComplete, IsExpression, Tree, tree_at}
use Rattle.ps_frame.specs.Typing.{is_elementwise, is_independent}
use Rattle.ps_frame.specs.declared.expr.AExpr.{AExpr}
use Rattle.ps_fresh.specs.Known.{Remembers, RemembersBy}
use Rattle.ps_fresh.specs.declared.lowering.Lowering.{Lowering}
use Rattle.ps_meaning.specs.Steps.{Name, key_trees}
use Rattle.ps_meaning.specs.declared.options.ExprIR.{ExprIR}
use Rattle.lowering_parts.specs.Gathered.{trees_at}

module _ (arena later : List AExpr) (keeps : KeepsTrees arena later) where
  -- an expression is one in an arena that was added to
  pub still_whole : (n : Node) → IsExpression arena n → IsExpression later n
  still_whole n h = subst IsComplete (sym (keeps n h)) h

  pub nodes_whole : (ns : List Node) → AllByRecursion IsComplete (trees_at (tree_at arena) ns) → AllByRecursion IsComplete (trees_at (tree_at later) ns)
  nodes_whole [] h = tt
  nodes_whole (n ∷ ns) h = (still_whole n h.0, nodes_whole ns h.1)

  pub named_whole : (es : List ExprIR) → AllByRecursion IsComplete (key_trees (tree_at arena) es) → AllByRecursion IsComplete (key_trees (tree_at later) es)
  named_whole [] h = tt
  named_whole (e ∷ es) h = (still_whole e.node h.0, named_whole es h.1)

  still_known : (test : Tree → Bool) (known : List (Option Bool)) → RemembersBy test arena known → RemembersBy test later known
  still_known test known r n is e = let h = r n is e in (still_whole n h.0, ap test (keeps n h.0) ∙ h.1)

  -- what is known of expressions stays right
  pub remembers_later : (low : Lowering) → Remembers arena low.cache → Remembers later low.cache
  remembers_later low r = record {
    independent = still_known is_independent low.cache.independent r.independent;
    elementwise = still_known is_elementwise low.cache.elementwise r.elementwise;
  }

-- a column stands when entries are added
pub column_later : (arena later : List AExpr) → KeepsTrees arena later → (n : Node) (name : Name) → tree_at arena n ≡ Tree.column name → tree_at later n ≡ Tree.column name
column_later arena later keeps n name is = keeps n (subst IsComplete (sym is) tt) ∙ is

-- one more expression
pub nodes_whole_more : (f : Node → Tree) (ns : List Node) (n : Node) → AllByRecursion IsComplete (trees_at f ns) → IsComplete (f n) → AllByRecursion IsComplete (trees_at f (ns ++ n ∷ []))
nodes_whole_more f [] n h own = (own, tt)
nodes_whole_more f (m ∷ ns) n h own = (h.0, nodes_whole_more f ns n h.1 own)

pub named_whole_more : (f : Node → Tree) (es : List ExprIR) (e : ExprIR) → AllByRecursion IsComplete (key_trees f es) → IsComplete (f e.node) → AllByRecursion IsComplete (key_trees f (es ++ e ∷ []))
named_whole_more f [] e h own = (own, tt)
named_whole_more f (x ∷ es) e h own = (h.0, named_whole_more f es e h.1 own)
