-- That the expressions of a step are whole, by its kind.
use Rattle.std.proofs.Common.{◌≡◌, List, [], ◌∷◌, ◌++◌, subst, sym}
use Rattle.std.specs.Prelude.{Bool}
use Rattle.std.specs.List.{AllByRecursion}
use Rattle.pu_base.specs.declared.arena.Node.{Node}
use Rattle.ps_frame.specs.Trees.{IsComplete, Tree, tree_at}
use Rattle.ps_frame.specs.declared.expr.AExpr.{AExpr}
use Rattle.ps_meaning.specs.Steps.{exprs_of, key_trees, named_trees}
use Rattle.ps_meaning.specs.declared.options.ExprIR.{ExprIR}
use Rattle.ps_meaning.specs.declared.options.GroupbyOptions.{GroupbyOptions}
use Rattle.ps_meaning.specs.declared.options.JoinArgs.{JoinArgs}
use Rattle.ps_plan.specs.declared.ir.IR.{IR}
use Rattle.ps_plan.specs.declared.ir.IR.TheVariants as entry
use Rattle.lowering_trials.specs.Going.{HasWholeExprs}

-- the expressions of one list, and those of two
keys_whole : (f : Node → Tree) (es : List ExprIR) → AllByRecursion IsComplete (exprs_of (named_trees f es)) → AllByRecursion IsComplete (key_trees f es)
keys_whole f [] h = tt
keys_whole f (e ∷ es) h = (h.0, keys_whole f es h.1)

first_whole : (es gs : List Tree) → AllByRecursion IsComplete (es ++ gs) → AllByRecursion IsComplete es
first_whole [] gs h = tt
first_whole (e ∷ es) gs h = (h.0, first_whole es gs h.1)

second_whole : (es gs : List Tree) → AllByRecursion IsComplete (es ++ gs) → AllByRecursion IsComplete gs
second_whole [] gs h = h
second_whole (e ∷ es) gs h = second_whole es gs h.1

module _ (exprs : List AExpr) (e : IR) (whole : HasWholeExprs exprs e) where
  -- as another name for the same list
  as_lent : (xs es : List ExprIR) → xs ≡ es → AllByRecursion IsComplete (key_trees (tree_at exprs) es) → AllByRecursion IsComplete (key_trees (tree_at exprs) xs)
  as_lent xs es same h = subst (λ (ys : List ExprIR). AllByRecursion IsComplete (key_trees (tree_at exprs) ys)) (sym same) h

  pub select_whole : (input : Node) (es xs : List ExprIR) → e ≡ entry.Select input es → xs ≡ es → AllByRecursion IsComplete (key_trees (tree_at exprs) xs)
  select_whole input es xs is same = as_lent xs es same (keys_whole (tree_at exprs) es (subst (HasWholeExprs exprs) is whole))

  pub hstack_whole : (input : Node) (es : List ExprIR) → e ≡ entry.HStack input es → AllByRecursion IsComplete (key_trees (tree_at exprs) es)
  hstack_whole input es is = keys_whole (tree_at exprs) es (subst (HasWholeExprs exprs) is whole)

  module _ (input : Node) (keys aggs : List ExprIR) (ordered : Bool) (options : GroupbyOptions) (is : e ≡ entry.GroupBy input keys aggs ordered options) where
    both : AllByRecursion IsComplete (exprs_of (named_trees (tree_at exprs) keys) ++ exprs_of (named_trees (tree_at exprs) aggs))
    both = subst (HasWholeExprs exprs) is whole

    pub group_keys_whole : (xs : List ExprIR) → xs ≡ keys → AllByRecursion IsComplete (key_trees (tree_at exprs) xs)
    group_keys_whole xs same = as_lent xs keys same (keys_whole (tree_at exprs) keys (first_whole (exprs_of (named_trees (tree_at exprs) keys)) (exprs_of (named_trees (tree_at exprs) aggs)) both))

    pub aggregates_whole : (xs : List ExprIR) → xs ≡ aggs → AllByRecursion IsComplete (key_trees (tree_at exprs) xs)
    aggregates_whole xs same = as_lent xs aggs same (keys_whole (tree_at exprs) aggs (second_whole (exprs_of (named_trees (tree_at exprs) keys)) (exprs_of (named_trees (tree_at exprs) aggs)) both))

  module _ (left right : Node) (left_on right_on : List ExprIR) (args : JoinArgs) (is : e ≡ entry.Join left right left_on right_on args) where
    pub left_whole : AllByRecursion IsComplete (key_trees (tree_at exprs) left_on)
    left_whole = first_whole (key_trees (tree_at exprs) left_on) (key_trees (tree_at exprs) right_on) (subst (HasWholeExprs exprs) is whole)

    pub right_whole : AllByRecursion IsComplete (key_trees (tree_at exprs) right_on)
    right_whole = second_whole (key_trees (tree_at exprs) left_on) (key_trees (tree_at exprs) right_on) (subst (HasWholeExprs exprs) is whole)
