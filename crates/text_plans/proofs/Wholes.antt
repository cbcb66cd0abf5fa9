-- The trees of queries are complete.
use Rattle.std.proofs.Common.{◌≡◌, ℕ, ◌+◌, List, [], ◌∷◌, map, sym, subst, ◌∙◌}
use Rattle.std.specs.Prelude.{Option, Some, None, option_map}
use Rattle.std.specs.List.{AllByRecursion}
use Rattle.pu_base.specs.declared.arena.Node.{Node}
use Rattle.ps_frame.specs.Tables.{Frame}
use Rattle.ps_frame.specs.Trees.{Tree, IsComplete, IsExpression, tree_at}
use Rattle.ps_frame.specs.declared.expr.AExpr.{AExpr}
use Rattle.ps_meaning.specs.PlanTrees.{PlanTree, node, no_trees, tree, IsCompletePlan}
use Rattle.ps_meaning.specs.Steps.{Named, exprs_of, key_trees, named_trees, step_exprs}
use Rattle.ps_meaning.specs.declared.options.ExprIR.{ExprIR}
use Rattle.text_plans.proofs.Lists.{all-both, all-map}
use Rattle.text_plans.proofs.Planned.{keys-same, named-same}
use Rattle.text_plans.specs.Arenas.{KeepsTrees}
use Rattle.text_plans.specs.QueryPlans.{Tables, call_tree, columns, expr_tree, named, scan_at, stage_step, stage_tree}
use Rattle.text_queries.specs.Queries.{Expr, Name, Int, Text, Truth, Null, Call, Len, Binary, Item, Key, Stage, Filter, Select, With, Group, Sort, Slice, Distinct, Join}
use Rattle.text_queries.specs.declared.words.TextFn.{TextFn}
use Rattle.text_queries.specs.declared.words.TextFn.TheVariants as fun

call-whole : (f : TextFn) (t : Tree) → IsComplete t → IsComplete (call_tree f t)
call-whole fun.Min t h = h
call-whole fun.Max t h = h
call-whole fun.First t h = h
call-whole fun.Last t h = h
call-whole fun.Sum t h = h
call-whole fun.NUnique t h = h
call-whole fun.Count t h = h
call-whole fun.Not t h = h
call-whole fun.IsNull t h = h
call-whole fun.IsNotNull t h = h

pub expr-whole : (e : Expr) → IsComplete (expr_tree e)
expr-whole (Name name) = tt
expr-whole (Int n) = tt
expr-whole (Text text) = tt
expr-whole (Truth b) = tt
expr-whole (Null k) = tt
expr-whole (Call f e) = call-whole f (expr_tree e) (expr-whole e)
expr-whole Len = tt
expr-whole (Binary o l r) = (expr-whole l, expr-whole r)

pub items-whole : (items : List Item) → AllByRecursion IsComplete (exprs_of (map named items))
items-whole [] = tt
items-whole (x ∷ xs) = (expr-whole x.expr, items-whole xs)

pub columns-whole : (names : List (List ℕ)) → AllByRecursion IsComplete (columns names)
columns-whole [] = tt
columns-whole (x ∷ xs) = (tt, columns-whole xs)

step-whole : (s : Stage) → AllByRecursion IsComplete (step_exprs (stage_step s))
step-whole (Filter e) = (expr-whole e, tt)
step-whole (Select items) = items-whole items
step-whole (With items) = items-whole items
step-whole (Group keys aggs) = all-both IsComplete (exprs_of (map named keys)) (exprs_of (map named aggs)) (items-whole keys) (items-whole aggs)
step-whole (Sort keys) = all-map IsComplete (λ (k : Key). expr_tree k.expr) (λ k. expr-whole k.expr) keys
step-whole (Slice offset length) = tt
step-whole Distinct = tt
step-whole (Join kept table on) = all-both IsComplete (columns on) (columns on) (columns-whole on) (columns-whole on)

-- the node of a stage is complete over what is
pub stage-whole : (tables : Tables) (at : ℕ) (before : PlanTree) (s : Stage) (t : PlanTree) → IsCompletePlan before → stage_tree tables at before s ≡ Some t → IsCompletePlan t
stage-whole tables at before s t h = by s
  where
    one : (s : Stage) → Some (node at (stage_step s) (tree before no_trees)) ≡ Some t → IsCompletePlan t
    one s e = let p : node at (stage_step s) (tree before no_trees) ≡ t = cc in subst IsCompletePlan p (step-whole s, (h, tt))

    two : (s : Stage) (o : Option Frame) → option_map (λ frame. node (at + 1) (stage_step s) (tree before (tree (scan_at at frame) no_trees))) o ≡ Some t → IsCompletePlan t
    two s None e = absurd (cc)
    two s (Some frame) e =
        let p : node (at + 1) (stage_step s) (tree before (tree (scan_at at frame) no_trees)) ≡ t = cc in subst IsCompletePlan p (step-whole s, (h, ((tt, tt), tt)))

    by : (s : Stage) → stage_tree tables at before s ≡ Some t → IsCompletePlan t
    by (Filter e) = one (Filter e)
    by (Select items) = one (Select items)
    by (With items) = one (With items)
    by (Group keys aggs) = one (Group keys aggs)
    by (Sort keys) = one (Sort keys)
    by (Slice offset length) = one (Slice offset length)
    by Distinct = one Distinct
    by (Join kept table on) = two (Join kept table on) (tables table)

-- an entered expression is complete, and stands in each greater arena
pub entered-whole : (exprs : List AExpr) (n : Node) (e : Expr) → tree_at exprs n ≡ expr_tree e → IsExpression exprs n
entered-whole exprs n e is = subst IsComplete (sym is) (expr-whole e)

pub entered-stays : (exprs more : List AExpr) (n : Node) (e : Expr) → KeepsTrees exprs more → tree_at exprs n ≡ expr_tree e → tree_at more n ≡ expr_tree e
entered-stays exprs more n e keeps is = keeps n (entered-whole exprs n e is) ∙ is

-- named expressions and keys that stand in an arena stand in each greater one
module _ (exprs more : List AExpr) (keeps : KeepsTrees exprs more) where
  pub items-stay : (es : List ExprIR) (items : List Item) → named_trees (tree_at exprs) es ≡ map named items → named_trees (tree_at more) es ≡ map named items
  items-stay es items is =
      named-same (tree_at more) (tree_at exprs) keeps es (subst (λ (ts : List Named). AllByRecursion IsComplete (exprs_of ts)) (sym is) (items-whole items)) ∙ is

  pub keys-stay : (es : List ExprIR) (ts : List Tree) → AllByRecursion IsComplete ts → key_trees (tree_at exprs) es ≡ ts → key_trees (tree_at more) es ≡ ts
  keys-stay es ts whole is = keys-same (tree_at more) (tree_at exprs) keeps es (subst (λ (us : List Tree). AllByRecursion IsComplete us) (sym is) whole) ∙ is

pub keys-whole : (keys : List Key) → AllByRecursion IsComplete (map (λ (k : Key). expr_tree k.expr) keys)
keys-whole keys = all-map IsComplete (λ (k : Key). expr_tree k.expr) (λ k. expr-whole k.expr) keys
