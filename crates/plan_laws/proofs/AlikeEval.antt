-- Expressions over tables that end alike have columns that do.
use Rattle.std.proofs.Common.{◌≡◌, ℕ, false, not, List, [], ◌∷◌, ◌++◌, refl, subst}
use Rattle.std.specs.Prelude.{map, reverse}
use Rattle.ps_frame.specs.Aggregates.{aggregate_column}
use Rattle.ps_frame.specs.Causes.{Cause, Column, value, whole_column}
use Rattle.ps_frame.specs.Eval.{at, eval, eval_all, function_column, height_column, operand, picked, slice_column}
use Rattle.ps_frame.specs.Operators.{binary_value, cast_cell, cast_value, choice_of, not_value}
use Rattle.ps_frame.specs.Sorting.{directions_of, values_in_order}
use Rattle.ps_frame.specs.Tables.{Fields, Table, column_at, columns_of}
use Rattle.ps_frame.specs.Trees.{Tree, Trees}
use Rattle.ps_frame.specs.Typing.{kind_over, tree_count}
use Rattle.ps_frame.specs.Values.{is_null}
use Rattle.ps_frame.specs.Zip.{zipped}
use Rattle.ps_frame.specs.declared.expr.FunctionExpr.{FunctionExpr}
use Rattle.ps_frame.specs.declared.expr.FunctionExpr.TheVariants as fun
use Rattle.ps_frame.specs.declared.value.Value.{Value}
use Rattle.ps_frame.specs.declared.value.Value.TheVariants as val
use Rattle.ps_meaning.specs.Cases.{columns_at}
use Rattle.plan_laws.proofs.AlikeColumns.{Alike, AllAlike, Ends, ZipAlike, alike-same, cellwise-alike, from_whole-alike, kept-alike, sorted-alike, zipped-alike}

module _ (Q : Cause → Type 0) (s : Fields) (rows : List (List Value)) (ps ls : List Cause) (ends : Ends Q ps ls) where
  abbrev one : Table
  one = record { schema = s; rows = rows; broken = ps }

  abbrev other : Table
  other = record { schema = s; rows = rows; broken = ls }

  height-alike : (node : ℕ) → Alike Q (height_column node one) (height_column node other)
  height-alike node = by ps ls ends
    where
      by : (cs ds : List Cause) → Ends Q cs ds → Alike Q (height_column node (record { schema = s; rows = rows; broken = cs })) (height_column node (record { schema = s; rows = rows; broken = ds }))
      by [] [] e = alike-same Q _ _ refl
      by [] (d ∷ ds) e = let never = e.empty in cc
      by (c ∷ cs) [] e = let never = e.empty in cc
      by (c ∷ cs) (d ∷ ds) e = record { cells = refl; lost = refl; ends = e }

  function-alike : (node : ℕ) (g : FunctionExpr) (c d : Column) → Alike Q c d → Alike Q (function_column node g c) (function_column node g d)
  function-alike node fun.Not c d a = cellwise-alike Q node (λ row. value (not_value (at 0 row))) (c ∷ []) (d ∷ []) (a, tt)
  function-alike node fun.IsNull c d a = cellwise-alike Q node (λ row. value (val.Boolean (is_null (at 0 row)))) (c ∷ []) (d ∷ []) (a, tt)
  function-alike node fun.IsNotNull c d a = cellwise-alike Q node (λ row. value (val.Boolean (not (is_null (at 0 row))))) (c ∷ []) (d ∷ []) (a, tt)
  function-alike node fun.Reverse c d a = from_whole-alike Q (λ vs. whole_column (reverse (operand 0 vs))) (c ∷ []) (d ∷ []) (a, tt)

  mutual
    pub eval-alike : (node : ℕ) (e : Tree) → Alike Q (eval node one e) (eval node other e)
    eval-alike node (Tree.column name) = record { cells = refl; lost = refl; ends = ends }
    eval-alike node (Tree.literal l) = alike-same Q _ _ refl
    eval-alike node (Tree.binary o l r) =
        cellwise-alike Q node (λ row. value (binary_value o (at 0 row) (at 1 row))) (eval node one l ∷ eval node one r ∷ []) (eval node other l ∷ eval node other r ∷ []) (eval-alike node l, (eval-alike node r, tt))
    eval-alike node (Tree.cast k strict e) = cellwise-alike Q node (λ row. cast_cell node strict (cast_value k (at 0 row))) (eval node one e ∷ []) (eval node other e ∷ []) (eval-alike node e, tt)
    eval-alike node (Tree.sort d n e) =
        from_whole-alike Q (λ vs. whole_column (values_in_order (record { descending = d; nulls_last = n }) (operand 0 vs))) (eval node one e ∷ []) (eval node other e ∷ []) (eval-alike node e, tt)
    eval-alike node (Tree.sort_by d n e by) =
        sorted-alike Q (directions_of (tree_count by) d n) _ _ (zipped-alike Q false node (eval node one e ∷ eval_all node one by) (eval node other e ∷ eval_all node other by) (eval-alike node e, all-alike node by))
    eval-alike node (Tree.gather k e i) =
        from_whole-alike Q (λ vs. record { cells = map (picked node (operand 0 vs)) (operand 1 vs); broken = []; lost = [] }) (eval node one e ∷ eval node one i ∷ []) (eval node other e ∷ eval node other i ∷ [])
        (eval-alike node e, (eval-alike node i, tt))
    eval-alike node (Tree.filter e by) = kept-alike Q _ _ (zipped-alike Q false node (eval node one e ∷ eval node one by ∷ []) (eval node other e ∷ eval node other by ∷ []) (eval-alike node e, (eval-alike node by, tt)))
    eval-alike node (Tree.aggregate a e) = from_whole-alike Q (λ vs. aggregate_column node a (kind_over s e) (operand 0 vs)) (eval node one e ∷ []) (eval node other e ∷ []) (eval-alike node e, tt)
    eval-alike node (Tree.ternary p a b) =
        cellwise-alike Q node (λ row. value (choice_of (at 0 row) (at 1 row) (at 2 row))) (eval node one p ∷ eval node one a ∷ eval node one b ∷ []) (eval node other p ∷ eval node other a ∷ eval node other b ∷ [])
        (eval-alike node p, (eval-alike node a, (eval-alike node b, tt)))
    eval-alike node (Tree.function g e) = function-alike node g (eval node one e) (eval node other e) (eval-alike node e)
    eval-alike node (Tree.slice e o l) =
        from_whole-alike Q (λ vs. slice_column node (operand 0 vs) (at 0 (operand 1 vs)) (at 0 (operand 2 vs))) (eval node one e ∷ eval node one o ∷ eval node one l ∷ []) (eval node other e ∷ eval node other o ∷ eval node other l ∷ [])
        (eval-alike node e, (eval-alike node o, (eval-alike node l, tt)))
    eval-alike node Tree.len = height-alike node
    eval-alike node (Tree.left_out w) = alike-same Q _ _ refl
    eval-alike node Tree.missing = alike-same Q _ _ refl

    all-alike : (node : ℕ) (es : Trees) → AllAlike Q (eval_all node one es) (eval_all node other es)
    all-alike node Trees.no_trees = tt
    all-alike node (Trees.tree e es) = (eval-alike node e, all-alike node es)

  places-alike : (is : List ℕ) → AllAlike Q (map (λ i. column_at i one) is) (map (λ i. column_at i other) is)
  places-alike [] = tt
  places-alike (i ∷ is) = (record { cells = refl; lost = refl; ends = ends }, places-alike is)

  own-columns : AllAlike Q (columns_of one) (columns_of other)
  own-columns = places-alike _

  own-exprs : (node : ℕ) (es : List Tree) → AllAlike Q (columns_at node es one) (columns_at node es other)
  own-exprs node [] = tt
  own-exprs node (e ∷ es) = (eval-alike node e, own-exprs node es)

-- tables that end alike, and whose causes are the same but for those of the inputs
pub record TableAlike (Q : Cause → Type 0) (T K : Table) : Type 0 where
  pub schema : T.schema ≡ K.schema
  pub rows : T.rows ≡ K.rows
  pub ends : Ends Q T.broken K.broken

module _ (Q : Cause → Type 0) where
  pub both-columns : (cs ds es fs : List Column) → AllAlike Q cs ds → AllAlike Q es fs → AllAlike Q (cs ++ es) (ds ++ fs)
  both-columns [] [] es fs a b = b
  both-columns [] (d ∷ ds) es fs a b = absurd a
  both-columns (c ∷ cs) [] es fs a b = absurd a
  both-columns (c ∷ cs) (d ∷ ds) es fs a b = (a.0, both-columns cs ds es fs a.1 b)

  module _ (p l : Table) (a : TableAlike Q p l) where
    abbrev moved : Table
    moved = record { schema = p.schema; rows = p.rows; broken = l.broken }

    same : moved ≡ l
    same = λ i. record { schema = a.schema i; rows = a.rows i; broken = l.broken }

    pub columns-alike : AllAlike Q (columns_of p) (columns_of l)
    columns-alike = subst (λ t. AllAlike Q (columns_of p) (columns_of t)) same (own-columns Q p.schema p.rows p.broken l.broken a.ends)

    pub exprs-alike : (node : ℕ) (es : List Tree) → AllAlike Q (columns_at node es p) (columns_at node es l)
    exprs-alike node es = subst (λ t. AllAlike Q (columns_at node es p) (columns_at node es t)) same (own-exprs Q p.schema p.rows p.broken l.broken a.ends node es)

    pub keyed-alike : (node : ℕ) (es : List Tree) → ZipAlike Q (zipped false node (columns_of p ++ columns_at node es p)) (zipped false node (columns_of l ++ columns_at node es l))
    keyed-alike node es = zipped-alike Q false node _ _ (both-columns (columns_of p) (columns_of l) (columns_at node es p) (columns_at node es l) columns-alike (exprs-alike node es))
