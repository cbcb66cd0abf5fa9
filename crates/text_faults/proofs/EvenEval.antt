-- The columns of the language's expressions over a table are even, where their names stand in the table.
use Rattle.std.proofs.Common.{◌≡◌, ℕ, suc, ◌<◌, ◌≤◌, max, List, [], ◌∷◌, ◌++◌, length, map, Bool, true, false, cond, refl, sym, subst, ap, ◌∙◌, inl, inr, arith}
use Rattle.std.specs.Prelude.{filter, get_or, not, ◌&&◌, ◌||◌, nat_le, if◌then◌else◌, Option, Some, ⊤}
use Rattle.std.specs.List.{AllByRecursion}
use Rattle.std.proofs.lemmas.Bool.{leb-false}
use Rattle.std.proofs.lemmas.List.{length-map}
use Rattle.ps_frame.proofs.Lists.{both}
use Rattle.ps_frame.specs.Aggregates.{aggregate_column, count_column, distinct_values, max_rows}
use Rattle.ps_frame.specs.Causes.{Cause, Cell, Column, value, faulty, cell_values, column_causes, has_cause, is_empty, whole_column}
use Rattle.ps_frame.specs.Eval.{at, eval, from_whole, function_column, height_column, operand}
use Rattle.ps_frame.specs.Free.{causes_if_free, free_causes, no_table}
use Rattle.ps_frame.specs.Operators.{binary_value, not_value}
use Rattle.ps_frame.specs.Tables.{Fields, Table, column_at, columns_of, field_index, field_kind, values_at, values_at_some}
use Rattle.ps_frame.specs.Trees.{Aggregation, Tree}
use Rattle.ps_frame.specs.Typing.{is_elementwise, is_independent, kind_over}
use Rattle.ps_frame.specs.Values.{is_null, same_value}
use Rattle.ps_frame.specs.Zip.{below}
use Rattle.ps_frame.specs.declared.expr.FunctionExpr.{FunctionExpr}
use Rattle.ps_frame.specs.declared.expr.FunctionExpr.TheVariants as fun
use Rattle.ps_frame.specs.declared.value.DataFault.TheVariants as fault
use Rattle.ps_frame.specs.declared.value.DataType.{DataType}
use Rattle.ps_frame.specs.declared.value.Value.{Value}
use Rattle.ps_frame.specs.declared.value.Value.TheVariants as val
use Rattle.ps_meaning.proofs.EvalFits.{stands}
use Rattle.ps_meaning.proofs.Fits.{all-append, all-of}
use Rattle.text_faults.proofs.Even.{IsEven, IsValue, cellwise-even, column-causes}

-- columns, values, operators, aggregates, functions of each cell and `len`, whose names stand in the schema
abbrev pub IsKnown : Fields → Tree → Type 0
IsKnown s (Tree.column name) = (i : ℕ) × (field_index name s ≡ Some i)
IsKnown s (Tree.literal l) = ⊤
IsKnown s (Tree.binary o l r) = IsKnown s l × IsKnown s r
IsKnown s (Tree.aggregate a e) = IsKnown s e
IsKnown s (Tree.function fun.Not e) = IsKnown s e
IsKnown s (Tree.function fun.IsNull e) = IsKnown s e
IsKnown s (Tree.function fun.IsNotNull e) = IsKnown s e
IsKnown s Tree.len = ⊤
IsKnown s _ = ⊥

-- a name that has a kind stands in the schema
pub known-name : (name : List ℕ) (s : Fields) (k : DataType) → field_kind name s ≡ Some k → IsKnown s (Tree.column name)
known-name name s k e = let p = stands name s k e in (p.0, p.1)

-- no more values than cells, and no more that pass or differ than there are
values-few : (cells : List Cell) → length (cell_values cells) ≤ length cells
values-few [] = omega arith
values-few (value v ∷ cells) = let h = values-few cells in omega arith
values-few (faulty c cs ∷ cells) = let h = values-few cells in omega arith

passing-few : {A : Type 0} (p : A → Bool) (xs : List A) → length (filter p xs) ≤ length xs
passing-few p [] = omega arith
passing-few p (x ∷ xs) = by (p x) (passing-few p xs)
  where
    by : (b : Bool) → length (filter p xs) ≤ length xs → length (cond b (x ∷ filter p xs) (filter p xs)) ≤ suc (length xs)
    by true h = omega arith
    by false h = omega arith

distinct-few : (vs : List Value) → length (distinct_values vs) ≤ length vs
distinct-few [] = omega arith
distinct-few (v ∷ vs) = let h = distinct-few vs in let k = passing-few (λ w. not (same_value v w)) (distinct_values vs) in omega arith

kept-few : (all : Bool) (vs : List Value) → length (if all then vs else filter (λ v. not (is_null v)) vs) ≤ length vs
kept-few true vs = omega arith
kept-few false vs = passing-few (λ v. not (is_null v)) vs

module _ (P : Cause → Type 0) (n node : ℕ) (big : max_rows < n → P (record { fault = fault.Rows; node = node })) where
  one-value : (v : Value) → IsEven P n (whole_column (v ∷ []))
  one-value v = record { values = (tt, tt); causes = tt; lost = refl; short = omega arith; whole = λ e. inl refl }

  -- a count of no more than there are cells
  count-even : (m : ℕ) → m ≤ max 1 n → IsEven P n (count_column node m)
  count-even m few = by (nat_le m max_rows) refl
    where
      by : (b : Bool) → nat_le m max_rows ≡ b → IsEven P n (if b then whole_column (val.IdxSize m ∷ []) else record { cells = []; broken = record { fault = fault.Rows; node = node } ∷ []; lost = [] })
      by true e = one-value (val.IdxSize m)
      by false e =
          let more : max_rows < m = leb-false m max_rows e in
          record { values = tt; causes = (big (omega arith), tt); lost = refl; short = omega arith; whole = λ e. cc }

  aggregate-even : (a : Aggregation) (k : Option DataType) (vs : List Value) → length vs ≤ max 1 n → IsEven P n (aggregate_column node a k vs)
  aggregate-even Aggregation.min k vs few = one-value _
  aggregate-even Aggregation.max k vs few = one-value _
  aggregate-even Aggregation.first k vs few = one-value _
  aggregate-even Aggregation.last k vs few = one-value _
  aggregate-even Aggregation.sum k vs few = one-value _
  aggregate-even Aggregation.n_unique k vs few = count-even (length (distinct_values vs)) (let h = distinct-few vs in omega arith)
  aggregate-even (Aggregation.count all) k vs few = count-even (length (if all then vs else filter (λ v. not (is_null v)) vs)) (let h = kept-few all vs in omega arith)

  -- what takes its whole operand
  append-none : {A : Type 0} (xs : List A) → xs ≡ [] → xs ++ [] ≡ []
  append-none xs e = ap (λ ys. ys ++ []) e

  whole-even : (f : List Value → Column) (c : Column) → IsEven P n c → ((vs : List Value) → length vs ≤ max 1 n → IsEven P n (f vs)) → IsEven P n (from_whole (λ vs. f (operand 0 vs)) (c ∷ []))
  whole-even f c h each = by (has_cause c) refl
    where
      result : Bool → Column
      result b =
          if b || false
          then record { cells = []; broken = column_causes c ++ []; lost = c.lost ++ [] }
          else record (f (cell_values c.cells)) { lost = c.lost ++ [] }

      given : IsEven P n (f (cell_values c.cells))
      given = each (cell_values c.cells) (let few = values-few c.cells in let short = h.short in omega arith)

      some : (xs : List Cause) → not (is_empty xs) ≡ true → not (is_empty (xs ++ [])) ≡ false → ⊥
      some [] p q = cc
      some (x ∷ xs) p q = cc

      by : (b : Bool) → has_cause c ≡ b → IsEven P n (if b || false then record { cells = []; broken = column_causes c ++ []; lost = c.lost ++ [] } else record (f (cell_values c.cells)) { lost = c.lost ++ [] })
      by true e =
          record {
            values = tt;
            causes = all-append P (column_causes c) [] (column-causes P n c h) tt;
            lost = append-none c.lost h.lost;
            short = omega arith;
            whole = λ q. absurd (some (column_causes c) e q);
          }
      by false e = record { values = given.values; causes = given.causes; lost = append-none c.lost h.lost; short = given.short; whole = given.whole }

  function-even : (g : FunctionExpr) (c : Column) → (g ≡ fun.Reverse → ⊥) → IsEven P n c → IsEven P n (function_column node g c)
  function-even fun.Not c no_reverse h = cellwise-even P n node (c ∷ []) (h, tt) (λ row. not_value (at 0 row))
  function-even fun.IsNull c no_reverse h = cellwise-even P n node (c ∷ []) (h, tt) (λ row. val.Boolean (is_null (at 0 row)))
  function-even fun.IsNotNull c no_reverse h = cellwise-even P n node (c ∷ []) (h, tt) (λ row. val.Boolean (not (is_null (at 0 row))))
  function-even fun.Reverse c no_reverse h = absurd (no_reverse refl)

module _ (P : Cause → Type 0) (node : ℕ) (t : Table) (broken : AllByRecursion P t.broken) (big : max_rows < length t.rows → P (record { fault = fault.Rows; node = node })) where
  place-even : (i : ℕ) → IsEven P (length t.rows) (column_at i t)
  place-even i =
      let l : length (map value (values_at i t.rows)) ≡ length t.rows = length-map (values_at i t.rows) value ∙ length-map t.rows (λ row. get_or row i val.Null) in
      record { values = all-of IsValue value (λ v. tt) (values_at i t.rows); causes = broken; lost = refl; short = omega arith; whole = λ e. inr l }

  height-even : IsEven P (length t.rows) (height_column node t)
  height-even = by (is_empty t.broken) refl
    where
      by : (b : Bool) → is_empty t.broken ≡ b → IsEven P (length t.rows) (if b then count_column node (length t.rows) else record { cells = []; broken = t.broken; lost = [] })
      by true e = count-even P (length t.rows) node big (length t.rows) (omega arith)
      by false e = record { values = tt; causes = broken; lost = refl; short = omega arith; whole = λ q. let p : not (is_empty t.broken) ≡ true = ap not e in cc }

  pub even-column : (e : Tree) → IsKnown t.schema e → IsEven P (length t.rows) (eval node t e)
  even-column (Tree.column name) k = subst (λ o. IsEven P (length t.rows) (record { cells = map value (values_at_some o t.rows); broken = t.broken; lost = [] })) (sym k.1) (place-even k.0)
  even-column (Tree.literal l) k = one-value P (length t.rows) node big _
  even-column (Tree.binary o l r) k = cellwise-even P (length t.rows) node (eval node t l ∷ eval node t r ∷ []) (even-column l k.0, (even-column r k.1, tt)) (λ row. binary_value o (at 0 row) (at 1 row))
  even-column (Tree.aggregate a e) k = whole-even P (length t.rows) node big (aggregate_column node a (kind_over t.schema e)) (eval node t e) (even-column e k) (aggregate-even P (length t.rows) node big a (kind_over t.schema e))
  even-column (Tree.function fun.Not e) k = function-even P (length t.rows) node big fun.Not (eval node t e) (λ q. cc) (even-column e k)
  even-column (Tree.function fun.IsNull e) k = function-even P (length t.rows) node big fun.IsNull (eval node t e) (λ q. cc) (even-column e k)
  even-column (Tree.function fun.IsNotNull e) k = function-even P (length t.rows) node big fun.IsNotNull (eval node t e) (λ q. cc) (even-column e k)
  even-column (Tree.function fun.Reverse e) k = absurd k
  even-column Tree.len k = height-even
  even-column (Tree.cast d s e) k = absurd k
  even-column (Tree.sort d s e) k = absurd k
  even-column (Tree.sort_by d s e by) k = absurd k
  even-column (Tree.gather s e i) k = absurd k
  even-column (Tree.filter e by) k = absurd k
  even-column (Tree.ternary p a b) k = absurd k
  even-column (Tree.slice e o l) k = absurd k
  even-column (Tree.left_out w) k = absurd k
  even-column Tree.missing k = absurd k

  pub even-columns : (es : List Tree) → AllByRecursion (IsKnown t.schema) es → AllByRecursion (IsEven P (length t.rows)) (map (λ e. eval node t e) es)
  even-columns [] k = tt
  even-columns (e ∷ es) k = (even-column e k.0, even-columns es k.1)

  pub even-table : AllByRecursion (IsEven P (length t.rows)) (columns_of t)
  even-table = all-of (IsEven P (length t.rows)) (λ i. column_at i t) place-even (below (length t.schema))

-- an expression that reads no input is known over no table, and has no causes there
free-known : (s : Fields) (e : Tree) → IsKnown s e → is_independent e ≡ true → IsKnown [] e
free-known s (Tree.column name) k q = cc
free-known s (Tree.literal l) k q = tt
free-known s (Tree.binary o l r) k q = let p = both (is_independent l) (is_independent r) q in (free-known s l k.0 p.0, free-known s r k.1 p.1)
free-known s (Tree.aggregate a e) k q = free-known s e k q
free-known s (Tree.function fun.Not e) k q = free-known s e k q
free-known s (Tree.function fun.IsNull e) k q = free-known s e k q
free-known s (Tree.function fun.IsNotNull e) k q = free-known s e k q
free-known s (Tree.function fun.Reverse e) k q = absurd k
free-known s Tree.len k q = cc
free-known s (Tree.cast d t e) k q = absurd k
free-known s (Tree.sort d t e) k q = absurd k
free-known s (Tree.sort_by d t e by) k q = absurd k
free-known s (Tree.gather t e i) k q = absurd k
free-known s (Tree.filter e by) k q = absurd k
free-known s (Tree.ternary p a b) k q = absurd k
free-known s (Tree.slice e o l) k q = absurd k
free-known s (Tree.left_out w) k q = absurd k
free-known s Tree.missing k q = absurd k

none-of : (cs : List Cause) → AllByRecursion (λ c. ⊥) cs → cs ≡ []
none-of [] h = refl
none-of (c ∷ cs) h = absurd h.0

free-none : (node : ℕ) (e : Tree) → IsKnown [] e → column_causes (eval node no_table e) ≡ []
free-none node e k =
    let big : max_rows < 0 → ⊥ = λ h. omega arith in
    none-of (column_causes (eval node no_table e)) (column-causes (λ c. ⊥) 0 (eval node no_table e) (even-column (λ c. ⊥) node no_table tt big e k))

if-free : (node : ℕ) (s : Fields) (e : Tree) (below : List Cause) → IsKnown s e → below ≡ [] → causes_if_free node e below ≡ []
if-free node s e below k none = by (is_elementwise e && is_independent e) refl
  where
    by : (b : Bool) → (is_elementwise e && is_independent e) ≡ b → (if b then column_causes (eval node no_table e) else below) ≡ []
    by true q = free-none node e (free-known s e k (both (is_elementwise e) (is_independent e) q).1)
    by false q = none

pub free-causes : (node : ℕ) (s : Fields) (e : Tree) → IsKnown s e → free_causes node e ≡ []
free-causes node s (Tree.column name) k = refl
free-causes node s (Tree.literal l) k = refl
free-causes node s (Tree.binary o l r) k = if-free node s (Tree.binary o l r) (free_causes node l ++ free_causes node r) k ((λ i. free-causes node s l k.0 i ++ free-causes node s r k.1 i))
free-causes node s (Tree.aggregate a e) k = refl
free-causes node s (Tree.function fun.Not e) k = if-free node s (Tree.function fun.Not e) (free_causes node e) k (free-causes node s e k)
free-causes node s (Tree.function fun.IsNull e) k = if-free node s (Tree.function fun.IsNull e) (free_causes node e) k (free-causes node s e k)
free-causes node s (Tree.function fun.IsNotNull e) k = if-free node s (Tree.function fun.IsNotNull e) (free_causes node e) k (free-causes node s e k)
free-causes node s (Tree.function fun.Reverse e) k = absurd k
free-causes node s Tree.len k = refl
free-causes node s (Tree.cast d t e) k = absurd k
free-causes node s (Tree.sort d t e) k = absurd k
free-causes node s (Tree.sort_by d t e by) k = absurd k
free-causes node s (Tree.gather t e i) k = absurd k
free-causes node s (Tree.filter e by) k = absurd k
free-causes node s (Tree.ternary p a b) k = absurd k
free-causes node s (Tree.slice e o l) k = absurd k
free-causes node s (Tree.left_out w) k = absurd k
free-causes node s Tree.missing k = absurd k
