-- What is computed value by value is what the cells give.
use Rattle.std.proofs.Common.{◌≡◌, ℕ, ◌+◌, List, [], ◌∷◌, ◌++◌, sym, ◌∙◌, ap, add-one}
use Rattle.std.specs.Prelude.{map, if◌then◌else◌}
use Rattle.std.proofs.lemmas.List.{map-append}
use Rattle.ps_expr_eval.specs.Cellwise.{binary_row}
use Rattle.ps_expr_eval.specs.Held.{cells_of}
use Rattle.ps_expr_eval.specs.Operands.{IsOperand, value_for, values_from}
use Rattle.ps_expr_eval.specs.Rows.{cell_for, cell_from, cells_from, repeats}
use Rattle.ps_expr_eval.specs.declared.computed.ComputedColumn.{ComputedColumn}
use Rattle.ps_expr_eval.specs.declared.operand.Operand.{Operand}
use Rattle.ps_expr_eval.proofs.Zips.{get_or-map_at, map-map, map_same}
use Rattle.ps_frame.specs.Operators.{binary_value}
use Rattle.ps_frame.specs.Zip.{below}
use Rattle.ps_frame.specs.declared.expr.Operator.{Operator}
use Rattle.ps_frame.specs.declared.value.Cell.{Cell as Held}
use Rattle.ps_frame.specs.declared.value.Cell.TheVariants as held
use Rattle.ps_frame.specs.declared.value.Value.TheVariants as val

-- the value of a row is that of the column's cell
operand-value : (o : Operand) (p : ComputedColumn) (row : ℕ) → IsOperand o p → cell_for (cells_of p.cells) (repeats p) row ≡ held.Val (value_for o row)
operand-value o p row is =
    ap (λ hs. cell_for hs (repeats p) row) is.cells ∙ ap (λ b. cell_for (map held.Val o.values) b row) (sym is.repeating)
    ∙ get_or-map_at held.Val o.values (if o.repeats then 0 else row) val.Null

-- values that are computed are the cells that the columns give
pub cells-operated : (op : Operator) (l r : Operand) (p q : ComputedColumn) (n : ℕ) → IsOperand l p → IsOperand r q → map held.Val (values_from op l r n) ≡ cells_from (binary_row op) (p ∷ q ∷ []) n
cells-operated op l r p q n left right =
    let at : ℕ → Held = λ row. held.Val (binary_value op (value_for l row) (value_for r row)) in
    map-map held.Val (λ row. binary_value op (value_for l row) (value_for r row)) (below n)
    ∙ map_same at _ (λ row. sym (ap (λ h. cell_from (binary_row op) (h ∷ cell_for (cells_of q.cells) (repeats q) row ∷ [])) (operand-value l p row left)
    ∙ ap (λ h. cell_from (binary_row op) (held.Val (value_for l row) ∷ h ∷ [])) (operand-value r q row right))) (below n)

-- one more row
pub rows-more : {A : Type 0} (f : ℕ → A) (i : ℕ) (old new : List A) (x : A) → old ≡ map f (below i) → x ≡ f i → new ≡ old ++ x ∷ [] → new ≡ map f (below (i + 1))
rows-more f i old new x before made grown =
    rw add-one (grown ∙ ap (λ xs. xs ++ x ∷ []) before ∙ ap (λ y. map f (below i) ++ y ∷ []) made ∙ sym (map-append f (below i) (i ∷ [])))

-- the same of the cells of values
pub cells-more : (op : Operator) (l r : Operand) (i : ℕ) (old new : List Held) (h : Held) → old ≡ map held.Val (values_from op l r i) → h ≡ held.Val (binary_value op (value_for l i) (value_for r i)) → new ≡ old ++ h ∷ []
    → new ≡ map held.Val (values_from op l r (i + 1))
cells-more op l r i old new h before made grown =
    let value = λ (row : ℕ). binary_value op (value_for l row) (value_for r row) in
    rows-more (λ row. held.Val (value row)) i old new h (before ∙ map-map held.Val value (below i)) made grown ∙ sym (map-map held.Val value (below (i + 1)))
