-- An expression over a row of reductions has the cell that the expression which holds the reductions has over the group's rows.
use Rattle.std.proofs.Common.{◌≡◌, ℕ, true, not, List, [], ◌∷◌, refl, sym, subst}
use Rattle.ps_frame.specs.Causes.{Cell, Column, value}
use Rattle.ps_frame.specs.Eval.{at as item, cell_of_row, cellwise, eval, function_column}
use Rattle.ps_frame.specs.Operators.{binary_value, cast_cell, cast_value, choice_of, not_value}
use Rattle.ps_frame.specs.Tables.{Fields, Table, field_index}
use Rattle.ps_frame.specs.Trees.{Tree}
use Rattle.ps_frame.specs.Typing.{goes_by_cell}
use Rattle.ps_frame.specs.Values.{is_null}
use Rattle.ps_frame.specs.declared.expr.FunctionExpr.{FunctionExpr}
use Rattle.ps_frame.specs.declared.expr.FunctionExpr.TheVariants as fun
use Rattle.ps_frame.specs.declared.value.Value.{Value}
use Rattle.ps_frame.specs.declared.value.Value.TheVariants as val
use Rattle.ps_meaning.specs.Steps.{Named}
use Rattle.ps_rowwise.proofs.ByRow.{both, cell_for, function_cell, place_cell}
use Rattle.ps_shares.proofs.Members.{Has}
use Rattle.plan_rules.specs.Reductions.{is_made_of_reductions}
use Rattle.reductions_keep.specs.Reduced.{IsCell}
use Rattle.reductions_keep.proofs.Inside.{three}
use Rattle.reductions_keep.proofs.Parts.{IsApart}

-- a column of one cell, but for what it lost
as_cell : (c : Column) (x : Cell) → IsCell c x → c ≡ record { cells = x ∷ []; broken = []; lost = c.lost }
as_cell c x k = λ i. record { cells = k.cells i; broken = k.broken i; lost = c.lost }

module _ (at : ℕ) (f : List Value → Cell) where
  over_one : (c : Column) (x : Cell) → IsCell c x → IsCell (cellwise at f (c ∷ [])) (cell_of_row f (x ∷ []))
  over_one c x k = let p = as_cell c x k in record { cells = λ i. (cellwise at f (p i ∷ [])).cells; broken = λ i. (cellwise at f (p i ∷ [])).broken }

  over_two : (c d : Column) (x y : Cell) → IsCell c x → IsCell d y → IsCell (cellwise at f (c ∷ d ∷ [])) (cell_of_row f (x ∷ y ∷ []))
  over_two c d x y k l =
      let p = as_cell c x k in
      let q = as_cell d y l in
      record { cells = λ i. (cellwise at f (p i ∷ q i ∷ [])).cells; broken = λ i. (cellwise at f (p i ∷ q i ∷ [])).broken }

  over_three : (b c d : Column) (x y z : Cell) → IsCell b x → IsCell c y → IsCell d z → IsCell (cellwise at f (b ∷ c ∷ d ∷ [])) (cell_of_row f (x ∷ y ∷ z ∷ []))
  over_three b c d x y z j k l =
      let o = as_cell b x j in
      let p = as_cell c y k in
      let q = as_cell d z l in
      record { cells = λ i. (cellwise at f (o i ∷ p i ∷ q i ∷ [])).cells; broken = λ i. (cellwise at f (o i ∷ p i ∷ q i ∷ [])).broken }

module _ (at : ℕ) (h : Fields) (row : List Value) (G : Table) where
  function_is : (g : FunctionExpr) → goes_by_cell g ≡ true → (c : Column) (x : Cell) → IsCell c x → IsCell (function_column at g c) (function_cell at h g x)
  function_is fun.Not k c x i = over_one at (λ row. value (not_value (item 0 row))) c x i
  function_is fun.IsNull k c x i = over_one at (λ row. value (val.Boolean (is_null (item 0 row)))) c x i
  function_is fun.IsNotNull k c x i = over_one at (λ row. value (val.Boolean (not (is_null (item 0 row))))) c x i
  function_is fun.Reverse k c x i = cc

  -- the one cell of a reduction stands in the row under the reduction's name
  pub record IsRead (m : Named) : Type 0 where
    pub cell : Cell
    pub column : IsCell (eval at G m.1) cell
    pub place : place_cell at h (field_index m.0 h) row ≡ cell

  module _ (found : List Named) (read : (m : Named) → Has found m → IsRead m) where
    abbrev Is : Tree → Tree → Type 0
    Is e x = IsCell (eval at G e) (cell_for at h x row)

    reduced : (e x : Tree) (m : Named) → m.1 ≡ e → x ≡ Tree.column m.0 → Has found m → Is e x
    reduced e x m is named has =
        let r = read m has in
        subst (λ (x : Tree). Is e x) (sym named) (subst (λ (e : Tree). IsCell (eval at G e) (place_cell at h (field_index m.0 h) row)) is (subst (IsCell (eval at G m.1)) (sym r.place) r.column))

    pub cell_is : (e x : Tree) → is_made_of_reductions e ≡ true → IsApart found e x → IsCell (eval at G e) (cell_for at h x row)
    cell_is (Tree.aggregate a e) x made (n, named, has) = reduced (Tree.aggregate a e) x (n, Tree.aggregate a e) refl named has
    cell_is Tree.len x made (n, named, has) = reduced Tree.len x (n, Tree.len) refl named has
    cell_is (Tree.literal l) x made is = subst (λ (x : Tree). Is (Tree.literal l) x) (sym is) (record { cells = refl; broken = refl })
    cell_is (Tree.binary o l r) x made (a, b, is, p, q) =
        let m = both (is_made_of_reductions l) (is_made_of_reductions r) made in
        subst (λ (x : Tree). Is (Tree.binary o l r) x) (sym is)
        (over_two at (λ row. value (binary_value o (item 0 row) (item 1 row))) (eval at G l) (eval at G r) (cell_for at h a row) (cell_for at h b row) (cell_is l a m.0 p) (cell_is r b m.1 q))
    cell_is (Tree.cast k strict e) x made (a, is, p) =
        subst (λ (x : Tree). Is (Tree.cast k strict e) x) (sym is) (over_one at (λ row. cast_cell at strict (cast_value k (item 0 row))) (eval at G e) (cell_for at h a row) (cell_is e a made p))
    cell_is (Tree.ternary t u v) x made (a, b, c, is, p, q, r) =
        let m = three (is_made_of_reductions t) (is_made_of_reductions u) (is_made_of_reductions v) made in
        subst (λ (x : Tree). Is (Tree.ternary t u v) x) (sym is)
        (over_three at (λ row. value (choice_of (item 0 row) (item 1 row) (item 2 row))) (eval at G t) (eval at G u) (eval at G v) (cell_for at h a row) (cell_for at h b row) (cell_for at h c row) (cell_is t a m.0 p) (cell_is u b m.1 q) (cell_is v c m.2 r))
    cell_is (Tree.function g e) x made (a, is, p) =
        let m = both (goes_by_cell g) (is_made_of_reductions e) made in
        subst (λ (x : Tree). Is (Tree.function g e) x) (sym is) (function_is g m.0 (eval at G e) (cell_for at h a row) (cell_is e a m.1 p))
    cell_is (Tree.column name) x made is = absurd is
    cell_is (Tree.sort d n e) x made is = absurd is
    cell_is (Tree.sort_by d n e by) x made is = absurd is
    cell_is (Tree.gather s e i) x made is = absurd is
    cell_is (Tree.filter e by) x made is = absurd is
    cell_is (Tree.slice e o l) x made is = absurd is
    cell_is (Tree.left_out w) x made is = absurd is
    cell_is Tree.missing x made is = absurd is
