-- Where lengths can't agree, Shape is among the causes.
use Rattle.std.proofs.Common.{◌≡◌, ℕ, Bool, true, false, not, cond, List, [], ◌∷◌, ◌++◌, refl, sym, ap, subst, ◌∙◌, arith}
use Rattle.std.specs.Prelude.{Contains, IsTrue, map, flat_map, ◌&&◌, ◌||◌}
use Rattle.std.specs.List.{AllByRecursion, list_any}
use Rattle.std.proofs.lemmas.List.Elements.{Contains-append_left, Contains-append_right}
use Rattle.std.proofs.lemmas.List.Folds.{list_any-append}
use Rattle.ps_frame.specs.Causes.{Cause, Cell, Column, value, cell_causes, column_causes, is_empty, is_ended}
use Rattle.ps_frame.specs.Eval.{at, cellwise}
use Rattle.ps_frame.specs.Operators.{binary_value, cast_cell, cast_value, choice_of, not_value}
use Rattle.ps_frame.specs.Trees.{Tree}
use Rattle.ps_frame.specs.Typing.{goes_by_cell, is_elementwise}
use Rattle.ps_frame.specs.Values.{is_null}
use Rattle.ps_frame.specs.Zip.{breaks_shape, ends_early, extents, is_faulty_row, zip_causes, zip_length, zip_rows, zipped}
use Rattle.ps_frame.specs.declared.expr.FunctionExpr.{FunctionExpr}
use Rattle.ps_frame.specs.declared.expr.FunctionExpr.TheVariants as fun
use Rattle.ps_frame.specs.declared.value.DataFault.TheVariants as data_fault
use Rattle.ps_frame.specs.declared.value.Value.{Value}
use Rattle.ps_frame.specs.declared.value.Value.TheVariants as val
use Rattle.ps_shares.specs.Leaves.{Naming, all_leaves, eval_with, leaves}
use Rattle.ps_shares.specs.CallLaws.{ShapeShows}
use Rattle.ps_shares.proofs.ByLeaves.{is_ended_as}
use Rattle.ps_shares.proofs.FlatLength.{both_hold, neither}

module _ (node : ℕ) where
  abbrev shape : Cause
  shape = record { fault = data_fault.Shape; node = node }

  -- a column that is ended shows it
  abbrev Tells : Column → Type 0
  Tells c = is_ended c ≡ true → Contains c.broken shape

  some_tells : (cs : List Column) → AllByRecursion Tells cs → list_any is_ended cs ≡ true → Contains (flat_map column_causes cs) shape
  some_tells [] all h = cc
  some_tells (c ∷ cs) all h = by (is_ended c) refl h (some_tells cs all.1)
    where
      by : (b : Bool) → is_ended c ≡ b → (is_ended c || list_any is_ended cs) ≡ true → (list_any is_ended cs ≡ true → Contains (flat_map column_causes cs) shape) → Contains (column_causes c ++ flat_map column_causes cs) shape
      by true q h rest = Contains-append_left (column_causes c) (flat_map column_causes cs) shape (Contains-append_right (flat_map cell_causes c.cells) c.broken shape (all.0 q))
      by false q h rest = Contains-append_right (column_causes c) (flat_map column_causes cs) shape (rest (sym (ap (λ b. b || list_any is_ended cs) q) ∙ h))

  -- what ends a zip early shows it
  zip_tells : (cs : List Column) → AllByRecursion Tells cs → (a b : Bool) → list_any is_ended cs ≡ a → breaks_shape false (extents cs) ≡ b → ends_early false cs ≡ true → Contains (zip_causes false node cs) shape
  zip_tells cs all true b p q h = Contains-append_left (flat_map column_causes cs) _ shape (some_tells cs all p)
  zip_tells cs all false true p q h =
      Contains-append_right (flat_map column_causes cs) _ shape (subst (λ b. Contains (cond {A = List Cause} b (shape ∷ []) []) shape) (sym q) (0, omega arith, refl))
  zip_tells cs all false false p q h = let w : false ≡ true = sym (λ i. p i || q i) ∙ h in cc

  -- an operator over such columns
  operator_tells : (f : List Value → Cell) (cs : List Column) → AllByRecursion Tells cs → Tells (cellwise node f cs)
  operator_tells f cs all h = by (ends_early false cs) refl
    where
      by : (b : Bool) → ends_early false cs ≡ b → Contains (cellwise node f cs).broken shape
      by true q = subst (λ b. Contains (cond b (zip_causes false node cs) []) shape) (sym q) (zip_tells cs all (list_any is_ended cs) (breaks_shape false (extents cs)) refl refl q)
      by false q = let w : false ≡ true = sym (ap (λ b. not (is_empty (cond b (zip_causes false node cs) []))) q) ∙ h in cc

  differ : {A : Type 0} → false ≡ true → A
  differ h = cc

  module _ (env : Naming) where
    two : (xs ys : List Column) → list_any is_ended (xs ++ ys) ≡ false → (list_any is_ended xs ≡ false) × (list_any is_ended ys ≡ false)
    two xs ys h = neither (list_any is_ended xs) (list_any is_ended ys) (sym (list_any-append is_ended xs ys) ∙ h)

    function_tells : (g : FunctionExpr) (e : Tree) → goes_by_cell g ≡ true → Tells (eval_with node env e) → Tells (eval_with node env (Tree.function g e))
    function_tells fun.Not e h p = operator_tells (λ row. value (not_value (at 0 row))) (eval_with node env e ∷ []) (p, tt)
    function_tells fun.IsNull e h p = operator_tells (λ row. value (val.Boolean (is_null (at 0 row)))) (eval_with node env e ∷ []) (p, tt)
    function_tells fun.IsNotNull e h p = operator_tells (λ row. value (val.Boolean (not (is_null (at 0 row))))) (eval_with node env e ∷ []) (p, tt)
    function_tells fun.Reverse e h p = cc

    tree_tells : (e : Tree) → IsTrue (is_elementwise e) → list_any is_ended (leaves env e) ≡ false → Tells (eval_with node env e)
    tree_tells (Tree.column name) h none = λ q. let w : false ≡ true = sym (neither (is_ended (env name)) false none).0 ∙ q in differ w
    tree_tells (Tree.literal l) h none = λ q. differ q
    tree_tells (Tree.binary o l r) h none =
        let b = both_hold (is_elementwise l) (is_elementwise r) h in
        let n = two (leaves env l) (leaves env r ++ []) none in
        let m = two (leaves env r) [] n.1 in
        operator_tells (λ row. value (binary_value o (at 0 row) (at 1 row))) (eval_with node env l ∷ eval_with node env r ∷ []) (tree_tells l b.0 n.0, (tree_tells r b.1 m.0, tt))
    tree_tells (Tree.cast k strict e) h none = let n = two (leaves env e) [] none in operator_tells (λ row. cast_cell node strict (cast_value k (at 0 row))) (eval_with node env e ∷ []) (tree_tells e h n.0, tt)
    tree_tells (Tree.ternary p a b) h none =
        let x = both_hold (is_elementwise p) (is_elementwise a && is_elementwise b) h in
        let y = both_hold (is_elementwise a) (is_elementwise b) x.1 in
        let n = two (leaves env p) (leaves env a ++ (leaves env b ++ [])) none in
        let m = two (leaves env a) (leaves env b ++ []) n.1 in
        let k = two (leaves env b) [] m.1 in
        operator_tells (λ row. value (choice_of (at 0 row) (at 1 row) (at 2 row))) (eval_with node env p ∷ eval_with node env a ∷ eval_with node env b ∷ []) (tree_tells p x.0 n.0, (tree_tells a y.0 m.0, (tree_tells b y.1 k.0, tt)))
    tree_tells (Tree.function g e) h none = let n = two (leaves env e) [] none in let b = both_hold (goes_by_cell g) (is_elementwise e) h in function_tells g e b.0 (tree_tells e b.1 n.0)
    tree_tells (Tree.sort d n e) h none = cc
    tree_tells (Tree.sort_by d n e by) h none = cc
    tree_tells (Tree.gather s e i) h none = cc
    tree_tells (Tree.filter e by) h none = cc
    tree_tells (Tree.aggregate a e) h none = cc
    tree_tells (Tree.slice e o l) h none = cc
    tree_tells Tree.len h none = cc
    tree_tells (Tree.left_out w) h none = cc
    tree_tells Tree.missing h none = cc

    all_tell : (es : List Tree) → AllByRecursion (λ e. IsTrue (is_elementwise e)) es → list_any is_ended (all_leaves env es) ≡ false → AllByRecursion Tells (map (eval_with node env) es)
    all_tell [] all none = tt
    all_tell (e ∷ es) all none = let n = two (leaves env e) (all_leaves env es) none in (tree_tells e all.0 n.0, all_tell es all.1 n.1)

pub shape_shows : ShapeShows
shape_shows at known es all none breaks =
    let cs = map (eval_with at known) es in
    let early : ends_early false cs ≡ true = is_ended_as at known es all ∙ ap (λ b. b || breaks_shape false (extents (all_leaves known es))) none ∙ breaks in
    let c = zip_tells at cs (all_tell at known es all none) (list_any is_ended cs) (breaks_shape false (extents cs)) refl refl early in
    let broken : (zipped false at cs).broken ≡ zip_causes false at cs = ap (λ b. cond (b || list_any is_faulty_row (zip_rows false (zip_length false (extents cs)) cs)) (zip_causes false at cs) []) early in
    Contains-append_left (zipped false at cs).broken (zipped false at cs).lost (shape at) (subst (λ xs. Contains xs (shape at)) (sym broken) c)
