-- What is computed for each kind of expression is held of its column, and has its kind.
use Rattle.std.proofs.Common.{◌≡◌, ℕ, zero, suc, ◌+◌, ◌<◌, List, [], ◌∷◌, get_or, Bool, true, false, cond, refl, subst, sym, ◌∙◌, ap, arith}
use Rattle.std.specs.Prelude.{map, slice_get, not, IsSome, IfOk, Option, Some, None, Result, Ok, Err, if◌then◌else◌, is_some}
use Rattle.std.specs.List.{position_from}
use Rattle.std.specs.Str.{bytes_eq}
use Rattle.std.specs.declared.alloc.AllocError.{AllocError}
use Rattle.std.proofs.lemmas.Iterator.Adapters.{position_from-zero}
use Rattle.std.proofs.lemmas.List.Quantifiers.{position-Some}
use Rattle.ps_expr_eval.specs.Cellwise.{IsCellwise, cast_held, unary_row}
use Rattle.ps_expr_eval.specs.Evaluations.{Evaluates}
use Rattle.ps_expr_eval.specs.Held.{Keeps, held_cell}
use Rattle.ps_expr_eval.specs.declared.elementwise.Unary.TheVariants as unary
use Rattle.ps_expr_eval.specs.declared.computed.ComputedColumn.{ComputedColumn}
use Rattle.ps_expr_eval.proofs.Zips.{cellwise-keeps}
use Rattle.ps_frame.specs.Causes.{Column, value, whole_column}
use Rattle.ps_frame.specs.Eval.{at, function_column}
use Rattle.ps_frame.specs.Frames.{kinds_of}
use Rattle.ps_frame.specs.Operators.{cast_cell, not_value}
use Rattle.ps_frame.specs.Tables.{Fields, Frame, field_index, field_kind, values_at, values_at_some}
use Rattle.ps_frame.specs.Trees.{Tree}
use Rattle.ps_frame.specs.Series.{Series}
use Rattle.ps_frame.specs.Values.{is_null}
use Rattle.ps_frame.specs.declared.expr.FunctionExpr.{FunctionExpr}
use Rattle.ps_frame.specs.declared.expr.FunctionExpr.TheVariants as fun
use Rattle.ps_frame.specs.declared.value.DataType.{DataType}
use Rattle.ps_frame.specs.declared.value.DataType.TheVariants as kind
use Rattle.ps_frame.specs.declared.value.Value.{Value}
use Rattle.ps_frame.specs.declared.value.Value.TheVariants as val

-- two facts of a result
pub ok_both : {X : Type 0} (r : Result ComputedColumn X) (P Q S : ComputedColumn → Type 0) → ((p : ComputedColumn) → P p → Q p → S p) → IfOk r P → IfOk r Q → IfOk r S
ok_both (Ok p) P Q S f a b = f p a b
ok_both (Err e) P Q S f a b = tt

-- where a name stands nowhere there is no kind
none-kind : (name : List ℕ) (s : Fields) (i : ℕ) → position_from (λ (f : List ℕ × DataType). bytes_eq name f.0) i s ≡ None → field_kind name s ≡ None
none-kind name [] i e = refl
none-kind name (f ∷ fs) i e = go (bytes_eq name f.0) e (none-kind name fs (i + 1))
  where
    go : (b : Bool) → cond b (Some i) (position_from (λ (f : List ℕ × DataType). bytes_eq name f.0) (i + 1) fs) ≡ None
        → (position_from (λ (f : List ℕ × DataType). bytes_eq name f.0) (i + 1) fs ≡ None → field_kind name fs ≡ None)
        → (if b then Some f.1 else field_kind name fs) ≡ None
    go true e rest = cc
    go false e rest = rest e

pub no_kind : (name : List ℕ) (s : Fields) → field_index name s ≡ None → IsSome (field_kind name s) → ⊥
no_kind name s e h =
    let none = none-kind name s 0 (sym (position_from-zero (λ (f : List ℕ × DataType). bytes_eq name f.0) s) ∙ e) in
    let no : false ≡ true = sym (ap is_some none) ∙ h in
    cc

-- the kind of the field at the place of a name
at-first : (name : List ℕ) (s : Fields) (i : ℕ) (k : DataType) (d : List ℕ × DataType) → bytes_eq name (get_or s i d).0 ≡ true → ((j : ℕ) → j < i → bytes_eq name (get_or s j d).0 ≡ false)
    → slice_get (kinds_of s) i ≡ Some k → field_kind name s ≡ Some k
at-first name [] i k d hit before is = absurd (let no : None ≡ Some k = is in cc)
at-first name (f ∷ fs) zero k d hit before is = rw hit is
at-first name (f ∷ fs) (suc i) k d hit before is =
    let miss : bytes_eq name f.0 ≡ false = before 0 (omega arith) in
    rw miss (at-first name fs i k d hit (λ j h. before (suc j) (omega arith)) is)

kind-at : (name : List ℕ) (s : Fields) (i : ℕ) (k : DataType) → field_index name s ≡ Some i → slice_get (kinds_of s) i ≡ Some k → field_kind name s ≡ Some k
kind-at name s i k there is =
    let d : List ℕ × DataType = ([], kind.Int64) in
    let first = position-Some (λ (f : List ℕ × DataType). bytes_eq name f.0) s i d there in
    at-first name s i k d first.1 first.2 is

-- a column of a table
pub column-evaluates : (f : Frame) (name : List ℕ) (i : ℕ) (c : Series) (r : Result ComputedColumn AllocError) → field_index name f.schema ≡ Some i → slice_get (kinds_of f.schema) i ≡ Some c.kind → c.values ≡ values_at i f.rows
    → IfOk r (λ p. p.dtype ≡ c.kind) → IfOk r (λ p. Keeps p (whole_column c.values)) → IfOk r (Evaluates f (Tree.column name))
column-evaluates f name i c r there is values kinds kept =
    ok_both r _ _ _ (λ p k h. record {
      keeps = λ node. subst (λ o. Keeps p (record { cells = map value (values_at_some o f.rows); broken = []; lost = [] })) (sym there) (subst (λ vs. Keeps p (whole_column vs)) values h);
      kind = kind-at name f.schema i c.kind there is ∙ ap Some (sym k);
    }) kinds kept

-- a cast's cell
pub cast-held : (node : ℕ) (strict : Bool) (o : Option Value) → cast_held strict o ≡ held_cell (cast_cell node strict o)
cast-held node true None = refl
cast-held node false None = refl
cast-held node strict (Some v) = refl

-- functions that go cell by cell
pub not-keeps : (p q : ComputedColumn) → IsCellwise (unary_row unary.Not) (p ∷ []) q → (node : ℕ) (c : Column) → Keeps p c → Keeps q (function_column node fun.Not c)
not-keeps p q is node c k = cellwise-keeps (unary_row unary.Not) (λ row. value (not_value (at 0 row))) (λ vs. refl) (p ∷ []) q is node (c ∷ []) (k, tt)

pub is_null-keeps : (p q : ComputedColumn) → IsCellwise (unary_row unary.IsNull) (p ∷ []) q → (node : ℕ) (c : Column) → Keeps p c → Keeps q (function_column node fun.IsNull c)
is_null-keeps p q is node c k = cellwise-keeps (unary_row unary.IsNull) (λ row. value (val.Boolean (is_null (at 0 row)))) (λ vs. refl) (p ∷ []) q is node (c ∷ []) (k, tt)

pub is_not_null-keeps : (p q : ComputedColumn) → IsCellwise (unary_row unary.IsNotNull) (p ∷ []) q → (node : ℕ) (c : Column) → Keeps p c → Keeps q (function_column node fun.IsNotNull c)
is_not_null-keeps p q is node c k = cellwise-keeps (unary_row unary.IsNotNull) (λ row. value (val.Boolean (not (is_null (at 0 row))))) (λ vs. refl) (p ∷ []) q is node (c ∷ []) (k, tt)

pub called : (g h : FunctionExpr) (p : ComputedColumn) (r : Result ComputedColumn AllocError) → g ≡ h → IfOk r (λ q. (node : ℕ) (c : Column) → Keeps p c → Keeps q (function_column node h c))
    → IfOk r (λ q. (node : ℕ) (c : Column) → Keeps p c → Keeps q (function_column node g c))
called g h p r e k = subst (λ x. IfOk r (λ q. (node : ℕ) (c : Column) → Keeps p c → Keeps q (function_column node x c))) (sym e) k
