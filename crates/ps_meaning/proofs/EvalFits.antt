-- The cells of an expression that has a kind are of that kind.
use Rattle.std.proofs.Common.{◌≡◌, ℕ, suc, ◌+◌, ◌<◌, List, [], ◌∷◌, length, get_or, drop, reverse, refl, sym, ap, subst, ◌∙◌, arith}
use Rattle.std.proofs.lemmas.Bool.{lt-ltb, ltb-true}
use Rattle.std.proofs.lemmas.List.{reverse-append}
use Rattle.std.specs.Int.{int_wrap, w64}
use Rattle.std.specs.Str.{bytes_eq}
use Rattle.std.specs.Prelude.{Bool, true, false, cond, not, ◌&&◌, ◌||◌, ◌==◌, ℤ, pos, negsuc, map, filter, if◌then◌else◌, Option, Some, None, is_some, nat_lt, nat_le, ◌^◌, int_le, int_lt, neg_ℤ, option_and_then, ⊤}
use Rattle.std.specs.List.{AllByRecursion, position_or_len}
use Rattle.ps_frame.proofs.Lists.{both}
use Rattle.ps_frame.specs.Aggregates.{aggregate_column, count_column, distinct_values, greatest_value, last_value, least_value, max_rows, total}
use Rattle.ps_frame.specs.Causes.{Column, value, faulty, is_empty, whole_column}
use Rattle.ps_frame.specs.Eval.{at, cellwise, eval, eval_all, from_whole, function_column, height_column, kept, literal_value, operand, picked, slice_column, sorted_by_keys}
use Rattle.ps_frame.specs.Operators.{arithmetic, binary_value, cast_cell, cast_value, choice_of, exact, idx_if_fits, idx_of, int64_if_fits, int64_of, not_value, number_or_null, read_number, three_and, three_or}
use Rattle.ps_frame.specs.Tables.{Fields, Table, field_index, field_kind, table_column, values_at, values_at_some}
use Rattle.ps_frame.specs.Sorting.{Direction, directions_of, in_order_of_keys, keys_cmp, values_in_order}
use Rattle.std.specs.Ordering.{is_gt, is_lt}
use Rattle.ps_frame.specs.declared.value.DataFault.TheVariants as fault
use Rattle.ps_frame.specs.Trees.{Aggregation, Tree, Trees}
use Rattle.ps_frame.specs.Typing.{aggregate_kind, binary_kind, branch_kind, can_cast, cast_kind, compares, fits_keys, function_kind, have_kinds, is_kind, is_scalar, kind_if, kind_over, literal_kind, takes_kinds, tree_count}
use Rattle.ps_frame.specs.Values.{is_null, is_true, same_kind, value_cmp}
use Rattle.ps_frame.specs.Zip.{zipped}
use Rattle.ps_frame.specs.declared.expr.FunctionExpr.{FunctionExpr}
use Rattle.ps_frame.specs.declared.expr.FunctionExpr.TheVariants as fun
use Rattle.ps_frame.specs.declared.expr.LiteralValue.{LiteralValue}
use Rattle.ps_frame.specs.declared.expr.LiteralValue.TheVariants as lit
use Rattle.ps_frame.specs.declared.expr.Operator.{Operator}
use Rattle.ps_frame.specs.declared.expr.Operator.TheVariants as op
use Rattle.ps_frame.specs.declared.value.DataType.{DataType}
use Rattle.ps_frame.specs.declared.value.DataType.TheVariants as kind
use Rattle.ps_frame.specs.declared.value.Value.{Value}
use Rattle.ps_frame.specs.declared.value.Value.TheVariants as val
use Rattle.ps_meaning.specs.Laws.{FitsKinds, FitsRow, FitsTable}
use Rattle.ps_meaning.proofs.Fits.{AllFit, CellFits, ColumnFits, ColumnsFit, Fits, all-append, all-drop, all-filter, all-get, all-in_order, all-map, all-of, all-take, cellwise-fits, from_whole-fits, values-whole, zipped-fits}

same-is : (a b : DataType) → same_kind a b ≡ true → a ≡ b
same-is kind.Boolean kind.Boolean e = refl
same-is kind.Int64 kind.Int64 e = refl
same-is kind.IdxSize kind.IdxSize e = refl
same-is kind.String kind.String e = refl
same-is _ _ e = cc

int64-fits : (k : DataType) (z w : ℤ) → Fits k (val.Int64 z) → Fits k (val.Int64 w)
int64-fits kind.Int64 z w f = refl
int64-fits kind.Boolean z w f = cc
int64-fits kind.IdxSize z w f = cc
int64-fits kind.String z w f = cc

idx-fits : (k : DataType) (z w : ℕ) → Fits k (val.IdxSize z) → Fits k (val.IdxSize w)
idx-fits kind.IdxSize z w f = refl
idx-fits kind.Boolean z w f = cc
idx-fits kind.Int64 z w f = cc
idx-fits kind.String z w f = cc

number-fits : (k : DataType) (make : ℤ → Value) → ((z : ℤ) → Fits k (make z)) → (o : Option ℤ) → Fits k (number_or_null make o)
number-fits k make each None = refl
number-fits k make each (Some z) = each z

arithmetic-fits : (o : Operator) (k : DataType) (x y : Value) → Fits k x → Fits k (arithmetic o x y)
arithmetic-fits o k (val.Int64 a) (val.Int64 b) f = number-fits k int64_of (λ z. int64-fits k a (int_wrap w64 z) f) (exact o a b)
arithmetic-fits o k (val.IdxSize a) (val.IdxSize b) f = number-fits k idx_of (λ z. idx-fits k a _ f) (exact o (pos a) (pos b))
arithmetic-fits o k _ _ f = refl

if-fits : (k : DataType) (b : Bool) (v : Value) → Fits k v → Fits k (if b then val.Null else v)
if-fits k true v f = refl
if-fits k false v f = f

and-fits : (x y : Value) → Fits kind.Boolean (three_and x y)
and-fits (val.Boolean false) y = refl
and-fits (val.Boolean true) (val.Boolean false) = refl
and-fits (val.Boolean true) (val.Boolean true) = refl
and-fits (val.Boolean true) y = refl
and-fits x (val.Boolean false) = refl
and-fits x y = refl

or-fits : (x y : Value) → Fits kind.Boolean (three_or x y)
or-fits (val.Boolean true) y = refl
or-fits (val.Boolean false) (val.Boolean true) = refl
or-fits (val.Boolean false) (val.Boolean false) = refl
or-fits (val.Boolean false) y = refl
or-fits x (val.Boolean true) = refl
or-fits x y = refl

logical : (a b : DataType) → (same_kind a b && (false || same_kind a kind.Boolean)) ≡ true → kind.Boolean ≡ a
logical a b t = sym (same-is a kind.Boolean (both (same_kind a b) (same_kind a kind.Boolean) t).1)

binary-fits : (o : Operator) (a b : DataType) (x y : Value) → takes_kinds o a b ≡ true → Fits a x → Fits (if compares o then kind.Boolean else a) (binary_value o x y)
binary-fits op.Eq a b x y t f = if-fits kind.Boolean (is_null x || is_null y) _ refl
binary-fits op.NotEq a b x y t f = if-fits kind.Boolean (is_null x || is_null y) _ refl
binary-fits op.Lt a b x y t f = if-fits kind.Boolean (is_null x || is_null y) _ refl
binary-fits op.LtEq a b x y t f = if-fits kind.Boolean (is_null x || is_null y) _ refl
binary-fits op.Gt a b x y t f = if-fits kind.Boolean (is_null x || is_null y) _ refl
binary-fits op.GtEq a b x y t f = if-fits kind.Boolean (is_null x || is_null y) _ refl
binary-fits op.Plus a b x y t f = if-fits a (is_null x || is_null y) _ (arithmetic-fits op.Plus a x y f)
binary-fits op.Minus a b x y t f = if-fits a (is_null x || is_null y) _ (arithmetic-fits op.Minus a x y f)
binary-fits op.Multiply a b x y t f = if-fits a (is_null x || is_null y) _ (arithmetic-fits op.Multiply a x y f)
binary-fits op.FloorDivide a b x y t f = if-fits a (is_null x || is_null y) _ (arithmetic-fits op.FloorDivide a x y f)
binary-fits op.Modulus a b x y t f = if-fits a (is_null x || is_null y) _ (arithmetic-fits op.Modulus a x y f)
binary-fits op.And a b x y t f = subst (λ k. Fits k (three_and x y)) (logical a b t) (and-fits x y)
binary-fits op.Or a b x y t f = subst (λ k. Fits k (three_or x y)) (logical a b t) (or-fits x y)

-- what a kind that there is says of the operands
if-some : (t : Bool) (o : Option DataType) (k : DataType) → kind_if t o ≡ Some k → (t ≡ true) × (o ≡ Some k)
if-some true o k e = (refl, e)
if-some false o k e = cc

-- an operand's cells are of its kind, where it has one
abbrev KindOf : Option DataType → Column → Type 0
KindOf o c = (j : DataType) → o ≡ Some j → ColumnFits j c

pair-value : (o : Operator) (a b : DataType) → takes_kinds o a b ≡ true → (vs : List Value) → FitsKinds (a ∷ b ∷ []) vs → CellFits (if compares o then kind.Boolean else a) (value (binary_value o (at 0 vs) (at 1 vs)))
pair-value o a b t [] f = absurd f
pair-value o a b t (x ∷ vs) f = binary-fits o a b x (at 0 vs) t f.0

binary-column : (node : ℕ) (o : Operator) (a b : Option DataType) (k : DataType) (c d : Column) → KindOf a c → KindOf b d → binary_kind o a b ≡ Some k → ColumnFits k (cellwise node (λ row. value (binary_value o (at 0 row) (at 1 row))) (c ∷ d ∷ []))
binary-column node o None b k c d f g e = cc
binary-column node o (Some a) None k c d f g e = cc
binary-column node o (Some a) (Some b) k c d f g e = by (takes_kinds o a b) refl e
  where
    by : (t : Bool) → takes_kinds o a b ≡ t → (if t then Some (if compares o then kind.Boolean else a) else None) ≡ Some k → ColumnFits k (cellwise node (λ row. value (binary_value o (at 0 row) (at 1 row))) (c ∷ d ∷ []))
    by false q e = cc
    by true q e =
        let is : (if compares o then kind.Boolean else a) ≡ k = cc in
        subst (λ k. ColumnFits k (cellwise node (λ row. value (binary_value o (at 0 row) (at 1 row))) (c ∷ d ∷ []))) is
        (cellwise-fits node (a ∷ b ∷ []) (if compares o then kind.Boolean else a) (λ row. value (binary_value o (at 0 row) (at 1 row))) (c ∷ d ∷ []) (pair-value o a b q) (f a refl, (g b refl, tt)))

-- a cast gives its kind, whatever it is of
abbrev GivesKind : DataType → Option Value → Type 0
GivesKind k None = ⊤
GivesKind k (Some v) = Fits k v

int64-gives : (o : Option ℤ) (f : ℤ → Option Value) (k : DataType) → ((z : ℤ) → GivesKind k (f z)) → GivesKind k (option_and_then f o)
int64-gives None f k each = tt
int64-gives (Some z) f k each = each z

cast-gives : (k : DataType) (v : Value) → GivesKind k (cast_value k v)
cast-gives k val.Null = refl
cast-gives kind.Boolean (val.Boolean b) = refl
cast-gives kind.Boolean (val.Int64 z) = refl
cast-gives kind.Boolean (val.IdxSize n) = refl
cast-gives kind.Boolean (val.String s) = tt
cast-gives kind.Int64 (val.Boolean b) = refl
cast-gives kind.Int64 (val.Int64 z) = refl
cast-gives kind.Int64 (val.IdxSize n) = refl
cast-gives kind.Int64 (val.String s) = int64-gives (read_number s) int64_if_fits kind.Int64 one
  where
    one : (z : ℤ) → GivesKind kind.Int64 (int64_if_fits z)
    one z = by (int_le (neg_ℤ (pos (2 ^ 63))) z && int_lt z (pos (2 ^ 63)))
      where
        by : (b : Bool) → GivesKind kind.Int64 (if b then Some (val.Int64 z) else None)
        by true = refl
        by false = tt
cast-gives kind.IdxSize (val.Boolean b) = refl
cast-gives kind.IdxSize (val.Int64 z) = idx-gives z
  where
    idx-gives : (z : ℤ) → GivesKind kind.IdxSize (idx_if_fits z)
    idx-gives (negsuc n) = tt
    idx-gives (pos n) = by (nat_lt n (2 ^ 32))
      where
        by : (b : Bool) → GivesKind kind.IdxSize (if b then Some (val.IdxSize n) else None)
        by true = refl
        by false = tt
cast-gives kind.IdxSize (val.IdxSize n) = refl
cast-gives kind.IdxSize (val.String s) = int64-gives (read_number s) idx_if_fits kind.IdxSize idx-gives
  where
    idx-gives : (z : ℤ) → GivesKind kind.IdxSize (idx_if_fits z)
    idx-gives (negsuc n) = tt
    idx-gives (pos n) = by (nat_lt n (2 ^ 32))
      where
        by : (b : Bool) → GivesKind kind.IdxSize (if b then Some (val.IdxSize n) else None)
        by true = refl
        by false = tt
cast-gives kind.String (val.Boolean b) = tt
cast-gives kind.String (val.Int64 z) = refl
cast-gives kind.String (val.IdxSize n) = refl
cast-gives kind.String (val.String s) = refl

cast-cell : (node : ℕ) (strict : Bool) (k : DataType) (o : Option Value) → GivesKind k o → CellFits k (cast_cell node strict o)
cast-cell node strict k (Some v) f = f
cast-cell node true k None f = tt
cast-cell node false k None f = refl

cast-column : (node : ℕ) (to : DataType) (strict : Bool) (a : Option DataType) (k : DataType) (c : Column) → KindOf a c → cast_kind to a ≡ Some k → ColumnFits k (cellwise node (λ row. cast_cell node strict (cast_value to (at 0 row))) (c ∷ []))
cast-column node to strict None k c f e = cc
cast-column node to strict (Some a) k c f e =
    let h = if-some (can_cast a to) (Some to) k e in
    let is : to ≡ k = (let q = h.1 in cc) in
    subst (λ k. ColumnFits k (cellwise node (λ row. cast_cell node strict (cast_value to (at 0 row))) (c ∷ []))) is
    (cellwise-fits node (a ∷ []) to (λ row. cast_cell node strict (cast_value to (at 0 row))) (c ∷ []) (λ vs g. cast-cell node strict to (cast_value to (at 0 vs)) (cast-gives to (at 0 vs))) (f a refl, tt))

-- The column of a name.
abbrev name_test : List ℕ → List ℕ × DataType → Bool
name_test name f = bytes_eq name f.0

pub first-place : (name : List ℕ) (f : List ℕ × DataType) (fs : Fields) → bytes_eq name f.0 ≡ true → field_index name (f ∷ fs) ≡ Some 0
first-place name f fs q =
    let zero_len : position_or_len (name_test name) (f ∷ fs) ≡ 0 = ap (λ b. cond (not b) (1 + position_or_len (name_test name) fs) 0) q in
    let lt : nat_lt (position_or_len (name_test name) (f ∷ fs)) (length (f ∷ fs)) ≡ true = lt-ltb _ _ (omega arith) in
    ap (λ b. cond b (Some (position_or_len (name_test name) (f ∷ fs))) None) lt ∙ ap (λ n. Some n) zero_len

found : (n m i : ℕ) (b : Bool) → nat_lt n m ≡ b → cond b (Some n) None ≡ Some i → (n < m) × (n ≡ i)
found n m i true q e = (ltb-true n m q, cc)
found n m i false q e = cc

pub next-place : (name : List ℕ) (f : List ℕ × DataType) (fs : Fields) (i : ℕ) → bytes_eq name f.0 ≡ false → field_index name fs ≡ Some i → field_index name (f ∷ fs) ≡ Some (suc i)
next-place name f fs i q e =
    let at_rest = found (position_or_len (name_test name) fs) (length fs) i (nat_lt (position_or_len (name_test name) fs) (length fs)) refl e in
    let one_more : position_or_len (name_test name) (f ∷ fs) ≡ suc i =
    ap (λ b. cond (not b) (1 + position_or_len (name_test name) fs) 0) q ∙ (let n = at_rest.1 in omega arith) in
    let lt : nat_lt (position_or_len (name_test name) (f ∷ fs)) (length (f ∷ fs)) ≡ true = lt-ltb _ _ (let n = at_rest.0 in let m = at_rest.1 in omega arith) in
    ap (λ b. cond b (Some (position_or_len (name_test name) (f ∷ fs))) None) lt ∙ ap (λ n. Some n) one_more

-- where a field of a name stands, each row has a value of its kind
abbrev pub Stands : List ℕ → Fields → DataType → Type 0
Stands name s k = (i : ℕ) × (field_index name s ≡ Some i) × ((row : List Value) → FitsRow s row → Fits k (get_or row i val.Null))

stands-first : (name : List ℕ) (f : List ℕ × DataType) (fs : Fields) (k : DataType) → bytes_eq name f.0 ≡ true → f.1 ≡ k → Stands name (f ∷ fs) k
stands-first name f fs k q e = (0, first-place name f fs q, fits)
  where
    fits : (row : List Value) → FitsRow (f ∷ fs) row → Fits k (get_or row 0 val.Null)
    fits [] g = absurd g
    fits (v ∷ vs) g = subst (λ k. Fits k v) e g.0

stands-next : (name : List ℕ) (f : List ℕ × DataType) (fs : Fields) (k : DataType) → bytes_eq name f.0 ≡ false → Stands name fs k → Stands name (f ∷ fs) k
stands-next name f fs k q (i, e, g) = (suc i, next-place name f fs i q e, fits)
  where
    fits : (row : List Value) → FitsRow (f ∷ fs) row → Fits k (get_or row (suc i) val.Null)
    fits [] h = absurd h
    fits (v ∷ vs) h = g vs h.1

stands-either : (name : List ℕ) (f : List ℕ × DataType) (fs : Fields) (k : DataType) (b : Bool) → bytes_eq name f.0 ≡ b → (if b then Some f.1 else field_kind name fs) ≡ Some k → (field_kind name fs ≡ Some k → Stands name fs k) → Stands name (f ∷ fs) k
stands-either name f fs k true q e rest = stands-first name f fs k q cc
stands-either name f fs k false q e rest = stands-next name f fs k q (rest e)

pub stands : (name : List ℕ) (s : Fields) (k : DataType) → field_kind name s ≡ Some k → Stands name s k
stands name [] k e = cc
stands name (f ∷ fs) k e = stands-either name f fs k (bytes_eq name f.0) refl e (stands name fs k)

name-column : (name : List ℕ) (k : DataType) (t : Table) → FitsTable t → Stands name t.schema k → ColumnFits k (table_column name t)
name-column name k t fits (i, e, g) =
    subst (λ o. AllByRecursion (CellFits k) (map value (values_at_some o t.rows))) (sym e)
    (all-map (Fits k) (CellFits k) value (λ v h. h) (values_at i t.rows) (all-map (FitsRow t.schema) (Fits k) (λ row. get_or row i val.Null) g t.rows fits))

-- What takes whole operands.
head-fits : (k : DataType) (ks : List DataType) (row : List Value) → FitsKinds (k ∷ ks) row → Fits k (get_or row 0 val.Null)
head-fits k ks [] f = absurd f
head-fits k ks (v ∷ vs) f = f.0

first-fits : (k : DataType) (ks : List DataType) (vss : List (List Value)) → AllFit (k ∷ ks) vss → AllByRecursion (Fits k) (operand 0 vss)
first-fits k ks [] f = absurd f
first-fits k ks (vs ∷ vss) f = f.0

sorted-column : (node : ℕ) (d : Direction) (k : DataType) (c : Column) → ColumnFits k c → ColumnFits k (from_whole (λ vs. whole_column (values_in_order d (operand 0 vs))) (c ∷ []))
sorted-column node d k c f =
    from_whole-fits (k ∷ []) k (λ vs. whole_column (values_in_order d (operand 0 vs))) (c ∷ []) (λ vss g. values-whole k (values_in_order d (operand 0 vss)) (all-in_order (Fits k) _ (operand 0 vss) (first-fits k [] vss g))) (f, tt)

reversed-fits : (k : DataType) (vs : List Value) → AllByRecursion (Fits k) vs → AllByRecursion (Fits k) (reverse vs)
reversed-fits k [] f = tt
reversed-fits k (v ∷ vs) f = subst (AllByRecursion (Fits k)) (sym (reverse-append (v ∷ []) vs)) (all-append (Fits k) (reverse vs) (v ∷ []) (reversed-fits k vs f.1) (f.0, tt))

reverse-column : (k : DataType) (c : Column) → ColumnFits k c → ColumnFits k (from_whole (λ vs. whole_column (reverse (operand 0 vs))) (c ∷ []))
reverse-column k c f = from_whole-fits (k ∷ []) k (λ vs. whole_column (reverse (operand 0 vs))) (c ∷ []) (λ vss g. values-whole k (reverse (operand 0 vss)) (reversed-fits k (operand 0 vss) (first-fits k [] vss g))) (f, tt)

by-keys-column : (node : ℕ) (ds : List Direction) (k : DataType) (ks : List DataType) (c : Column) (cs : List Column) → ColumnFits k c → ColumnsFit ks cs → ColumnFits k (sorted_by_keys ds (zipped false node (c ∷ cs)))
by-keys-column node ds k ks c cs f g = by (is_empty (zipped false node (c ∷ cs)).broken)
  where
    rows : AllByRecursion (FitsKinds (k ∷ ks)) (zipped false node (c ∷ cs)).rows
    rows = zipped-fits false node (k ∷ ks) (c ∷ cs) (f, g)

    by : (b : Bool) → AllByRecursion (CellFits k) (if b then map value (in_order_of_keys ds (map (λ row. (drop 1 row, at 0 row)) (zipped false node (c ∷ cs)).rows)) else [])
    by true =
        let pairs = all-map (FitsKinds (k ∷ ks)) (λ (p : List Value × Value). Fits k p.1) (λ row. (drop 1 row, at 0 row)) (λ row h. head-fits k ks row h) (zipped false node (c ∷ cs)).rows rows in
        let sorted = all-in_order (λ (p : List Value × Value). Fits k p.1) (λ p q. is_lt (keys_cmp ds p.0 q.0)) _ pairs in
        values-whole k _ (all-map (λ (p : List Value × Value). Fits k p.1) (Fits k) (λ p. p.1) (λ p h. h) _ sorted)
    by false = tt

picked-fits : (node : ℕ) (k : DataType) (vs : List Value) → AllByRecursion (Fits k) vs → (v : Value) → CellFits k (picked node vs v)
picked-fits node k vs f (val.Int64 (pos i)) = by (nat_lt i (length vs))
  where
    by : (b : Bool) → CellFits k (if b then value (get_or vs i val.Null) else faulty (record { fault = fault.Gather; node = node }) [])
    by true = all-get (Fits k) vs i val.Null f refl
    by false = tt
picked-fits node k vs f (val.Int64 (negsuc i)) = tt
picked-fits node k vs f (val.IdxSize i) = by (nat_lt i (length vs))
  where
    by : (b : Bool) → CellFits k (if b then value (get_or vs i val.Null) else faulty (record { fault = fault.Gather; node = node }) [])
    by true = all-get (Fits k) vs i val.Null f refl
    by false = tt
picked-fits node k vs f _ = refl

gathered-column : (node : ℕ) (k j : DataType) (c d : Column) → ColumnFits k c → ColumnFits j d → ColumnFits k (from_whole (λ vs. record { cells = map (picked node (operand 0 vs)) (operand 1 vs); broken = []; lost = [] }) (c ∷ d ∷ []))
gathered-column node k j c d f g =
    from_whole-fits (k ∷ j ∷ []) k (λ vs. record { cells = map (picked node (operand 0 vs)) (operand 1 vs); broken = []; lost = [] }) (c ∷ d ∷ [])
    (λ vss h. all-of (CellFits k) (picked node (operand 0 vss)) (picked-fits node k (operand 0 vss) (first-fits k (j ∷ []) vss h)) (operand 1 vss)) (f, (g, tt))

kept-column : (node : ℕ) (k j : DataType) (c d : Column) → ColumnFits k c → ColumnFits j d → ColumnFits k (kept (zipped false node (c ∷ d ∷ [])))
kept-column node k j c d f g =
    all-map (FitsKinds (k ∷ j ∷ [])) (CellFits k) (λ row. value (at 0 row)) (λ row h. head-fits k (j ∷ []) row h) _ (all-filter (FitsKinds (k ∷ j ∷ [])) (λ row. is_true (at 1 row)) _ (zipped-fits false node (k ∷ j ∷ []) (c ∷ d ∷ []) (f, (g, tt))))

-- aggregates
either-fits : (k : DataType) (b : Bool) (x y : Value) → Fits k x → Fits k y → Fits k (if b then x else y)
either-fits k true x y f g = f
either-fits k false x y f g = g

least-fits : (k : DataType) (vs : List Value) → AllByRecursion (Fits k) vs → Fits k (least_value vs)
least-fits k [] f = refl
least-fits k (v ∷ vs) f =
    let rest = least-fits k vs f.1 in
    either-fits k (is_null (least_value vs)) v (if is_null v || is_gt (value_cmp v (least_value vs)) then least_value vs else v) f.0 (either-fits k (is_null v || is_gt (value_cmp v (least_value vs))) (least_value vs) v rest f.0)

greatest-fits : (k : DataType) (vs : List Value) → AllByRecursion (Fits k) vs → Fits k (greatest_value vs)
greatest-fits k [] f = refl
greatest-fits k (v ∷ vs) f =
    let rest = greatest-fits k vs f.1 in
    either-fits k (is_null (greatest_value vs)) v (if is_null v || is_lt (value_cmp v (greatest_value vs)) then greatest_value vs else v) f.0 (either-fits k (is_null v || is_lt (value_cmp v (greatest_value vs))) (greatest_value vs) v rest f.0)

last-fits : (k : DataType) (vs : List Value) → AllByRecursion (Fits k) vs → Fits k (last_value vs)
last-fits k [] f = refl
last-fits k (v ∷ []) f = f.0
last-fits k (v ∷ w ∷ vs) f = last-fits k (w ∷ vs) f.1

count-fits : (node n : ℕ) → ColumnFits kind.IdxSize (count_column node n)
count-fits node n = by (nat_le n max_rows)
  where
    by : (b : Bool) → ColumnFits kind.IdxSize (if b then whole_column (val.IdxSize n ∷ []) else record { cells = []; broken = record { fault = fault.Rows; node = node } ∷ []; lost = [] })
    by true = (refl, tt)
    by false = tt

aggregate-fits : (node : ℕ) (a : Aggregation) (j k : DataType) (vs : List Value) → aggregate_kind a (Some j) ≡ Some k → AllByRecursion (Fits j) vs → ColumnFits k (aggregate_column node a (Some j) vs)
aggregate-fits node Aggregation.min j k vs e f = let is : j ≡ k = cc in subst (λ k. Fits k (least_value vs) × ⊤) is (least-fits j vs f, tt)
aggregate-fits node Aggregation.max j k vs e f = let is : j ≡ k = cc in subst (λ k. Fits k (greatest_value vs) × ⊤) is (greatest-fits j vs f, tt)
aggregate-fits node Aggregation.first j k vs e f = let is : j ≡ k = cc in subst (λ k. Fits k (get_or vs 0 val.Null) × ⊤) is (all-get (Fits j) vs 0 val.Null f refl, tt)
aggregate-fits node Aggregation.last j k vs e f = let is : j ≡ k = cc in subst (λ k. Fits k (last_value vs) × ⊤) is (last-fits j vs f, tt)
aggregate-fits node Aggregation.sum kind.Boolean k vs e f = let is : kind.IdxSize ≡ k = cc in subst (λ k. Fits k (idx_of (total vs)) × ⊤) is (refl, tt)
aggregate-fits node Aggregation.sum kind.Int64 k vs e f = let is : kind.Int64 ≡ k = cc in subst (λ k. Fits k (int64_of (total vs)) × ⊤) is (refl, tt)
aggregate-fits node Aggregation.sum kind.IdxSize k vs e f = let is : kind.IdxSize ≡ k = cc in subst (λ k. Fits k (idx_of (total vs)) × ⊤) is (refl, tt)
aggregate-fits node Aggregation.sum kind.String k vs e f = cc
aggregate-fits node Aggregation.n_unique j k vs e f = let is : kind.IdxSize ≡ k = cc in subst (λ k. ColumnFits k (count_column node (length (distinct_values vs)))) is (count-fits node (length (distinct_values vs)))
aggregate-fits node (Aggregation.count all) j k vs e f =
    let is : kind.IdxSize ≡ k = cc in
    let n = length (if all then vs else filter (λ v. not (is_null v)) vs) in
    subst (λ k. ColumnFits k (count_column node (length (if all then vs else filter (λ v. not (is_null v)) vs)))) is (count-fits node (length (if all then vs else filter (λ v. not (is_null v)) vs)))

no-kind : (a : Aggregation) (k : DataType) → aggregate_kind a None ≡ Some k → ⊥
no-kind Aggregation.min k e = cc
no-kind Aggregation.max k e = cc
no-kind Aggregation.first k e = cc
no-kind Aggregation.last k e = cc
no-kind Aggregation.sum k e = cc
no-kind Aggregation.n_unique k e = cc
no-kind (Aggregation.count all) k e = cc

aggregate-case : (node : ℕ) (a : Aggregation) (o : Option DataType) (k : DataType) (c : Column) → KindOf o c → aggregate_kind a o ≡ Some k → ColumnFits k (from_whole (λ vs. aggregate_column node a o (operand 0 vs)) (c ∷ []))
aggregate-case node a None k c f e = absurd (no-kind a k e)
aggregate-case node a (Some j) k c f e =
    from_whole-fits (j ∷ []) k (λ vs. aggregate_column node a (Some j) (operand 0 vs)) (c ∷ []) (λ vss g. aggregate-fits node a j k (operand 0 vss) e (first-fits j [] vss g)) (f j refl, tt)

-- conditions and functions
if-either : (k : DataType) (x y z : Value) → Fits k y → Fits k z → Fits k (choice_of x y z)
if-either k x y z f g = either-fits k (is_true x) y z f g

choice-value : (j k : DataType) (vs : List Value) → FitsKinds (j ∷ k ∷ k ∷ []) vs → Fits k (choice_of (at 0 vs) (at 1 vs) (at 2 vs))
choice-value j k [] f = absurd f
choice-value j k (x ∷ []) f = absurd f.1
choice-value j k (x ∷ y ∷ []) f = absurd f.1.1
choice-value j k (x ∷ y ∷ z ∷ vs) f = if-either k x y z f.1.0 f.1.1.0

branches : (a b : Option DataType) (k : DataType) → branch_kind a b ≡ Some k → (a ≡ Some k) × (b ≡ Some k)
branches None b k e = cc
branches (Some a) None k e = cc
branches (Some a) (Some b) k e =
    let h = if-some (same_kind a b) (Some a) k e in
    let same = same-is a b h.0 in
    (h.1, ap (λ j. Some j) (sym same) ∙ h.1)

has-kind : (k : DataType) (o : Option DataType) → is_kind k o ≡ true → (j : DataType) × (o ≡ Some j)
has-kind k None e = cc
has-kind k (Some j) e = (j, refl)

has-either : (a b : DataType) (o : Option DataType) → (is_kind a o || is_kind b o) ≡ true → (j : DataType) × (o ≡ Some j)
has-either a b None e = cc
has-either a b (Some j) e = (j, refl)

ternary-column : (node : ℕ) (p a b : Option DataType) (k : DataType) (c d e : Column) → KindOf p c → KindOf a d → KindOf b e → kind_if (is_kind kind.Boolean p) (branch_kind a b) ≡ Some k
    → ColumnFits k (cellwise node (λ row. value (choice_of (at 0 row) (at 1 row) (at 2 row))) (c ∷ d ∷ e ∷ []))
ternary-column node p a b k c d e f g h q =
    let parts = if-some (is_kind kind.Boolean p) (branch_kind a b) k q in
    let test = has-kind kind.Boolean p parts.0 in
    let both' = branches a b k parts.1 in
    cellwise-fits node (test.0 ∷ k ∷ k ∷ []) k (λ row. value (choice_of (at 0 row) (at 1 row) (at 2 row))) (c ∷ d ∷ e ∷ []) (λ vs fits. choice-value test.0 k vs fits) (f test.0 test.1, (g k both'.0, (h k both'.1, tt)))

not-fits : (v : Value) → Fits kind.Boolean (not_value v)
not-fits (val.Boolean b) = refl
not-fits _ = refl

boolean-is : (b : Bool) (k : DataType) → kind_if b (Some kind.Boolean) ≡ Some k → kind.Boolean ≡ k
boolean-is b k e = let q = (if-some b (Some kind.Boolean) k e).1 in cc

function-column : (node : ℕ) (g : FunctionExpr) (o : Option DataType) (k : DataType) (c : Column) → KindOf o c → function_kind g o ≡ Some k → ColumnFits k (function_column node g c)
function-column node fun.Not None k c f e = cc
function-column node fun.Not (Some j) k c f e =
    subst (λ k. ColumnFits k (cellwise node (λ row. value (not_value (at 0 row))) (c ∷ []))) (boolean-is (same_kind j kind.Boolean) k e)
    (cellwise-fits node (j ∷ []) kind.Boolean (λ row. value (not_value (at 0 row))) (c ∷ []) (λ vs h. not-fits (at 0 vs)) (f j refl, tt))
function-column node fun.IsNull None k c f e = cc
function-column node fun.IsNull (Some j) k c f e =
    subst (λ k. ColumnFits k (cellwise node (λ row. value (val.Boolean (is_null (at 0 row)))) (c ∷ []))) (boolean-is true k e)
    (cellwise-fits node (j ∷ []) kind.Boolean (λ row. value (val.Boolean (is_null (at 0 row)))) (c ∷ []) (λ vs h. refl) (f j refl, tt))
function-column node fun.IsNotNull None k c f e = cc
function-column node fun.IsNotNull (Some j) k c f e =
    subst (λ k. ColumnFits k (cellwise node (λ row. value (val.Boolean (not (is_null (at 0 row))))) (c ∷ []))) (boolean-is true k e)
    (cellwise-fits node (j ∷ []) kind.Boolean (λ row. value (val.Boolean (not (is_null (at 0 row))))) (c ∷ []) (λ vs h. refl) (f j refl, tt))
function-column node fun.Reverse o k c f e = reverse-column k c (f k e)

-- slices and heights
slice-fits : (node : ℕ) (k : DataType) (vs : List Value) (o l : Value) → AllByRecursion (Fits k) vs → ColumnFits k (slice_column node vs o l)
slice-fits node k vs (val.Int64 o) (val.Int64 (pos l)) f = values-whole k _ (all-take (Fits k) _ _ (all-drop (Fits k) _ vs f))
slice-fits node k vs _ _ f = tt

slice-whole : (node : ℕ) (k i j : DataType) (c d e : Column) → ColumnFits k c → ColumnFits i d → ColumnFits j e → ColumnFits k (from_whole (λ vs. slice_column node (operand 0 vs) (at 0 (operand 1 vs)) (at 0 (operand 2 vs))) (c ∷ d ∷ e ∷ []))
slice-whole node k i j c d e f g h =
    from_whole-fits (k ∷ i ∷ j ∷ []) k (λ vs. slice_column node (operand 0 vs) (at 0 (operand 1 vs)) (at 0 (operand 2 vs))) (c ∷ d ∷ e ∷ [])
    (λ vss fits. slice-fits node k (operand 0 vss) (at 0 (operand 1 vss)) (at 0 (operand 2 vss)) (first-fits k (i ∷ j ∷ []) vss fits)) (f, (g, (h, tt)))

height-fits : (node : ℕ) (t : Table) → ColumnFits kind.IdxSize (height_column node t)
height-fits node t = by (is_empty t.broken)
  where
    by : (b : Bool) → ColumnFits kind.IdxSize (if b then count_column node (length t.rows) else record { cells = []; broken = t.broken; lost = [] })
    by true = count-fits node (length t.rows)
    by false = tt

literal-fits : (l : LiteralValue) → Fits (literal_kind l) (literal_value l)
literal-fits (lit.Null k) = refl
literal-fits (lit.Boolean b) = refl
literal-fits (lit.Int64 z) = refl
literal-fits (lit.IdxSize n) = refl
literal-fits (lit.String s) = refl

and-left : (a b : Bool) → (a && b) ≡ true → a ≡ true
and-left a b e = (both a b e).0

and-right : (a b : Bool) → (a && b) ≡ true → b ≡ true
and-right a b e = (both a b e).1

has-some : (o : Option DataType) → is_some o ≡ true → (j : DataType) × (o ≡ Some j)
has-some None e = cc
has-some (Some j) e = (j, refl)

-- The column of an expression over a table whose rows fit its schema.
module _ (node : ℕ) (t : Table) (fits : FitsTable t) where
  mutual
    pub eval-fits : (e : Tree) (k : DataType) → kind_over t.schema e ≡ Some k → ColumnFits k (eval node t e)
    eval-fits (Tree.column name) k q = name-column name k t fits (stands name t.schema k q)
    eval-fits (Tree.literal l) k q = let is : literal_kind l ≡ k = cc in subst (λ k. Fits k (literal_value l) × ⊤) is (literal-fits l, tt)
    eval-fits (Tree.binary o l r) k q = binary-column node o (kind_over t.schema l) (kind_over t.schema r) k (eval node t l) (eval node t r) (λ j h. eval-fits l j h) (λ j h. eval-fits r j h) q
    eval-fits (Tree.cast to strict e) k q = cast-column node to strict (kind_over t.schema e) k (eval node t e) (λ j h. eval-fits e j h) q
    eval-fits (Tree.sort d n e) k q = sorted-column node (record { descending = d; nulls_last = n }) k (eval node t e) (eval-fits e k q)
    eval-fits (Tree.sort_by d n e by) k q =
        let parts = if-some (have_kinds t.schema by && not (tree_count by == 0) && fits_keys d (tree_count by) && fits_keys n (tree_count by)) (kind_over t.schema e) k q in
        let some = and-left (have_kinds t.schema by && not (tree_count by == 0) && fits_keys d (tree_count by)) (fits_keys n (tree_count by)) parts.0 in
        let keyed = and-left (have_kinds t.schema by && not (tree_count by == 0)) (fits_keys d (tree_count by)) some in
        let keys = eval_all-fit by (and-left (have_kinds t.schema by) (not (tree_count by == 0)) keyed) in
        by-keys-column node (directions_of (tree_count by) d n) k keys.0 (eval node t e) (eval_all node t by) (eval-fits e k parts.1) keys.1
    eval-fits (Tree.gather s e i) k q =
        let parts = if-some _ (kind_over t.schema e) k q in
        let index = has-either kind.Int64 kind.IdxSize (kind_over t.schema i) (and-left (is_kind kind.Int64 (kind_over t.schema i) || is_kind kind.IdxSize (kind_over t.schema i)) _ parts.0) in
        gathered-column node k index.0 (eval node t e) (eval node t i) (eval-fits e k parts.1) (eval-fits i index.0 index.1)
    eval-fits (Tree.filter e by) k q =
        let parts = if-some _ (kind_over t.schema e) k q in
        let test = has-kind kind.Boolean (kind_over t.schema by) parts.0 in
        kept-column node k test.0 (eval node t e) (eval node t by) (eval-fits e k parts.1) (eval-fits by test.0 test.1)
    eval-fits (Tree.aggregate a e) k q = aggregate-case node a (kind_over t.schema e) k (eval node t e) (λ j h. eval-fits e j h) q
    eval-fits (Tree.ternary p a b) k q =
        ternary-column node (kind_over t.schema p) (kind_over t.schema a) (kind_over t.schema b) k (eval node t p) (eval node t a) (eval node t b) (λ j h. eval-fits p j h) (λ j h. eval-fits a j h) (λ j h. eval-fits b j h) q
    eval-fits (Tree.function g e) k q = function-column node g (kind_over t.schema e) k (eval node t e) (λ j h. eval-fits e j h) q
    eval-fits (Tree.slice e o l) k q =
        let parts = if-some (is_scalar o && is_scalar l && is_kind kind.Int64 (kind_over t.schema o) && is_kind kind.Int64 (kind_over t.schema l)) (kind_over t.schema e) k q in
        let first = and-left (is_scalar o && is_scalar l && is_kind kind.Int64 (kind_over t.schema o)) (is_kind kind.Int64 (kind_over t.schema l)) parts.0 in
        let from = has-kind kind.Int64 (kind_over t.schema o) (and-right (is_scalar o && is_scalar l) (is_kind kind.Int64 (kind_over t.schema o)) first) in
        let count = has-kind kind.Int64 (kind_over t.schema l) (and-right (is_scalar o && is_scalar l && is_kind kind.Int64 (kind_over t.schema o)) (is_kind kind.Int64 (kind_over t.schema l)) parts.0) in
        slice-whole node k from.0 count.0 (eval node t e) (eval node t o) (eval node t l) (eval-fits e k parts.1) (eval-fits o from.0 from.1) (eval-fits l count.0 count.1)
    eval-fits Tree.len k q = let is : kind.IdxSize ≡ k = cc in subst (λ k. ColumnFits k (height_column node t)) is (height-fits node t)
    eval-fits (Tree.left_out w) k q = tt
    eval-fits Tree.missing k q = tt

    pub eval_all-fit : (es : Trees) → have_kinds t.schema es ≡ true → (ks : List DataType) × ColumnsFit ks (eval_all node t es)
    eval_all-fit Trees.no_trees q = ([], tt)
    eval_all-fit (Trees.tree e es) q =
        let here = has-some (kind_over t.schema e) (and-left (is_some (kind_over t.schema e)) (have_kinds t.schema es) q) in
        let rest = eval_all-fit es (and-right (is_some (kind_over t.schema e)) (have_kinds t.schema es) q) in
        (here.0 ∷ rest.0, (eval-fits e here.0 here.1, rest.1))
