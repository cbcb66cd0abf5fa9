-- A scalar expression gives one cell, unless a fault ended its column.
use Rattle.std.proofs.Common.{◌≡◌, ℕ, zero, suc, List, [], ◌∷◌, ◌++◌, length, get_or, refl, sym, ap, ◌∙◌, arith}
use Rattle.std.proofs.lemmas.List.{length-map, length-reverse}
use Rattle.std.proofs.lemmas.List.Sums.{take_while-cons}
use Rattle.std.specs.Prelude.{Bool, true, false, not, ◌&&◌, ◌||◌, ◌==◌, cond, flat_map, filter, map, nat_le, reverse, take_while, drop, is_some, IsTrue, Option, if◌then◌else◌}
use Rattle.std.specs.List.{AllByRecursion, list_any}
use Rattle.ps_frame.specs.Aggregates.{aggregate_column, count_column, distinct_values, max_rows}
use Rattle.ps_frame.specs.Causes.{Cause, Cell, Column, value, faulty, cell_causes, cell_values, column_causes, has_cause, is_empty, is_ended, whole_column}
use Rattle.ps_frame.specs.Eval.{at, cell_of_row, cellwise, eval, eval_all, from_whole, function_column, height_column, operand, picked, sorted_by_keys}
use Rattle.ps_frame.specs.Operators.{binary_value, cast_cell, cast_value, choice_of, not_value}
use Rattle.std.specs.Ordering.{is_lt}
use Rattle.ps_frame.specs.Sorting.{Direction, directions_of, in_order, in_order_of_keys, insert_in_order, key_cmp, keys_cmp, values_in_order}
use Rattle.ps_frame.specs.Tables.{Table}
use Rattle.ps_frame.specs.Trees.{Aggregation, Tree, Trees}
use Rattle.ps_frame.specs.Typing.{are_scalar, fits_keys, have_kinds, is_kind, is_scalar, kind_over, tree_count}
use Rattle.ps_frame.specs.Values.{is_null}
use Rattle.ps_frame.specs.Zip.{Extent, aligned, below, cell_in_row, ends_early, extents, is_faulty_row, lengths_where, row_causes, zip_causes, zip_length, zip_rows, zipped}
use Rattle.ps_frame.specs.declared.expr.FunctionExpr.{FunctionExpr}
use Rattle.ps_frame.specs.declared.expr.FunctionExpr.TheVariants as fun
use Rattle.ps_frame.specs.declared.value.DataFault.TheVariants as fault
use Rattle.ps_frame.specs.declared.value.DataType.{DataType}
use Rattle.ps_frame.specs.declared.value.DataType.TheVariants as kind
use Rattle.ps_frame.specs.declared.value.Value.{Value}
use Rattle.ps_frame.specs.declared.value.Value.TheVariants as val
use Rattle.ps_meaning.proofs.Begins.{append-empty_left, append-empty_right}
use Rattle.ps_meaning.proofs.Under.{causes-nonempty}
use Rattle.ps_rowwise.specs.Rows.{HasKind}
use Rattle.ps_rowwise.proofs.ByRow.{binary-kinds, both, cast-kinds, function-kinds, if-kind, some-kind, ternary-kinds}
use Rattle.ps_rowwise.proofs.Standing.{least-same, lengths-same}

-- each column has one cell
abbrev HaveOne : List Column → Type 0
HaveOne cs = AllByRecursion (λ (c : Column). length c.cells ≡ 1) cs

length-below : (n : ℕ) → length (below n) ≡ n
length-below zero = refl
length-below (suc n) = pushed (below n) n ∙ ap suc (length-below n)
  where
    pushed : (xs : List ℕ) (x : ℕ) → length (xs ++ x ∷ []) ≡ suc (length xs)
    pushed [] x = refl
    pushed (y ∷ ys) x = ap suc (pushed ys x)

-- side by side they have one row
each-one : (cs : List Column) → HaveOne cs → AllByRecursion (λ (e : Extent). not (not (e.ended) && (e.len == 1)) ≡ true → e.len ≡ 1) (extents cs)
each-one [] all = tt
each-one (c ∷ cs) all = (λ h. all.0, each-one cs all.1)

one-long : (cs : List Column) → HaveOne cs → zip_length false (extents cs) ≡ 1
one-long cs all =
    let steady : Extent → Bool = λ e. not (not (e.ended) && (e.len == 1)) in
    least-same 1 (lengths_where steady (extents cs)) (lengths-same steady 1 (extents cs) (each-one cs all)) (λ e. refl)

cellwise-one : (node : ℕ) (f : List Value → Cell) (cs : List Column) → HaveOne cs → length (cellwise node f cs).cells ≡ 1
cellwise-one node f cs all =
    length-map (zip_rows false (zip_length false (extents cs)) cs) (cell_of_row f)
    ∙ length-map (below (zip_length false (extents cs))) (λ i. map (cell_in_row false i) cs)
    ∙ length-below (zip_length false (extents cs)) ∙ one-long cs all

-- what isn't ended
whole-from : (c : Column) → is_ended c ≡ false → c.broken ≡ []
whole-from c h = by c.broken h
  where
    by : (xs : List Cause) → not (is_empty xs) ≡ false → xs ≡ []
    by [] h = refl
    by (x ∷ xs) h = cc

pub or-parts : (a b : Bool) → (a || b) ≡ false → (a ≡ false) × (b ≡ false)
or-parts true b h = cc
or-parts false b h = (refl, h)

first-whole : (c : Column) (cs : List Column) → list_any is_ended (c ∷ cs) ≡ false → (c.broken ≡ []) × (list_any is_ended cs ≡ false)
first-whole c cs h = let p = or-parts (is_ended c) (list_any is_ended cs) h in (whole-from c p.0, p.1)

none-ended : (cs : List Column) (causes : List Cause) (rest : Bool) → cond (list_any is_ended cs || rest) (flat_map column_causes cs ++ causes) [] ≡ [] → list_any is_ended cs ≡ false
none-ended cs causes rest e = by (list_any is_ended cs) refl e
  where
    by : (b : Bool) → list_any is_ended cs ≡ b → cond (b || rest) (flat_map column_causes cs ++ causes) [] ≡ [] → b ≡ false
    by true q e = absurd (causes-nonempty cs q (append-empty_left (flat_map column_causes cs) causes e))
    by false q e = refl

-- where what takes whole operands isn't ended, they have no cause
clean-causes : (c : Column) (cs : List Column) (b : Bool) → has_cause c ≡ b → (list_any has_cause cs ≡ true → flat_map column_causes cs ≡ [] → ⊥) → (b || list_any has_cause cs) ≡ true → column_causes c ++ flat_map column_causes cs ≡ [] → ⊥
clean-causes c cs true q rest h e = let z = ap (λ xs. not (is_empty xs)) (append-empty_left (column_causes c) (flat_map column_causes cs) e) in cc
clean-causes c cs false q rest h e = rest h (append-empty_right (column_causes c) (flat_map column_causes cs) e)

some-causes : (cs : List Column) → list_any has_cause cs ≡ true → flat_map column_causes cs ≡ [] → ⊥
some-causes [] h e = cc
some-causes (c ∷ cs) h e = clean-causes c cs (has_cause c) refl (some-causes cs) h e

-- of columns without causes
abbrev AreClean : List Column → Type 0
AreClean cs = list_any has_cause cs ≡ false

abbrev all_values : List Column → List (List Value)
all_values cs = map (λ (c : Column). cell_values c.cells) cs

record WholeAre (f : List (List Value) → Column) (cs : List Column) : Type 0 where
  pub clean : AreClean cs
  pub cells : (from_whole f cs).cells ≡ (f (all_values cs)).cells
  pub broken : (f (all_values cs)).broken ≡ []

from-whole : (f : List (List Value) → Column) (cs : List Column) → (from_whole f cs).broken ≡ [] → WholeAre f cs
from-whole f cs e = by (list_any has_cause cs) refl
  where
    is : (b : Bool) → list_any has_cause cs ≡ b
        → from_whole f cs ≡ cond b (record { cells = []; broken = flat_map column_causes cs; lost = flat_map (λ (c : Column). c.lost) cs }) (record (f (all_values cs)) { lost = flat_map (λ (c : Column). c.lost) cs })
    is b q = ap (λ b. cond b (record { cells = []; broken = flat_map column_causes cs; lost = flat_map (λ (c : Column). c.lost) cs }) (record (f (all_values cs)) { lost = flat_map (λ (c : Column). c.lost) cs })) q

    by : (b : Bool) → list_any has_cause cs ≡ b → WholeAre f cs
    by true q = absurd (some-causes cs q (ap (λ (c : Column). c.broken) (sym (is true q)) ∙ e))
    by false q = record { clean = q; cells = ap (λ (c : Column). c.cells) (is false q); broken = ap (λ (c : Column). c.broken) (sym (is false q)) ∙ e }

no-causes : (c : Column) → has_cause c ≡ false → column_causes c ≡ []
no-causes c h = by (column_causes c) h
  where
    by : (xs : List Cause) → not (is_empty xs) ≡ false → xs ≡ []
    by [] h = refl
    by (x ∷ xs) h = cc

values-all : (cells : List Cell) → flat_map cell_causes cells ≡ [] → length (cell_values cells) ≡ length cells
values-all [] e = refl
values-all (value v ∷ cells) e = ap suc (values-all cells e)
values-all (faulty c cs ∷ cells) e = cc

clean-first : (c : Column) (cs : List Column) → AreClean (c ∷ cs) → (c.broken ≡ []) × (length (cell_values c.cells) ≡ length c.cells) × AreClean cs
clean-first c cs h =
    let p = or-parts (has_cause c) (list_any has_cause cs) h in
    let q = no-causes c p.0 in
    (append-empty_right (flat_map cell_causes c.cells) c.broken q, values-all c.cells (append-empty_left (flat_map cell_causes c.cells) c.broken q), p.1)

-- sorting keeps the number
length-insert : {A : Type 0} (less : A → A → Bool) (x : A) (ys : List A) → length (insert_in_order less x ys) ≡ suc (length ys)
length-insert less x [] = refl
length-insert less x (y ∷ ys) = by (less y x) (length-insert less x ys)
  where
    by : (b : Bool) → length (insert_in_order less x ys) ≡ suc (length ys) → length (cond b (y ∷ insert_in_order less x ys) (x ∷ y ∷ ys)) ≡ suc (suc (length ys))
    by true e = ap suc e
    by false e = refl

length-ordered : {A : Type 0} (less : A → A → Bool) (xs : List A) → length (in_order less xs) ≡ length xs
length-ordered less [] = refl
length-ordered less (x ∷ xs) = length-insert less x (in_order less xs) ∙ ap suc (length-ordered less xs)

-- a count
abbrev counted : ℕ → ℕ → Bool → Column
counted node n b = cond b (whole_column (val.IdxSize n ∷ [])) (record { cells = []; broken = record { fault = fault.Rows; node = node } ∷ []; lost = [] })

counted-one : (node n : ℕ) (b : Bool) → (counted node n b).broken ≡ [] → length (counted node n b).cells ≡ 1
counted-one node n true e = refl
counted-one node n false e = cc

count-one : (node n : ℕ) → (count_column node n).broken ≡ [] → length (count_column node n).cells ≡ 1
count-one node n e = counted-one node n (nat_le n max_rows) e

aggregate-one : (node : ℕ) (a : Aggregation) (k : Option DataType) (vs : List Value) → (aggregate_column node a k vs).broken ≡ [] → length (aggregate_column node a k vs).cells ≡ 1
aggregate-one node Aggregation.min k vs e = refl
aggregate-one node Aggregation.max k vs e = refl
aggregate-one node Aggregation.first k vs e = refl
aggregate-one node Aggregation.last k vs e = refl
aggregate-one node Aggregation.sum k vs e = refl
aggregate-one node Aggregation.n_unique k vs e = count-one node (length (distinct_values vs)) e
aggregate-one node (Aggregation.count all) k vs e = count-one node (length (if all then vs else filter (λ v. not (is_null v)) vs)) e

-- the height of a table
height-one : (node : ℕ) (T : Table) → (height_column node T).broken ≡ [] → length (height_column node T).cells ≡ 1
height-one node T e = by T.broken e
  where
    by : (causes : List Cause) → (height_column node (record { schema = T.schema; rows = T.rows; broken = causes })).broken ≡ [] → length (height_column node (record { schema = T.schema; rows = T.rows; broken = causes })).cells ≡ 1
    by [] e = count-one node (length T.rows) e
    by (x ∷ xs) e = cc

-- A zip that nothing broke.
cell-clean : (cells : List Cell) (k : ℕ) → flat_map cell_causes cells ≡ [] → cell_causes (get_or cells k (value val.Null)) ≡ []
cell-clean [] k e = refl
cell-clean (x ∷ cells) zero e = append-empty_left (cell_causes x) (flat_map cell_causes cells) e
cell-clean (x ∷ cells) (suc k) e = cell-clean cells k (append-empty_right (cell_causes x) (flat_map cell_causes cells) e)

row-clean : (i : ℕ) (cs : List Column) → flat_map column_causes cs ≡ [] → row_causes (map (cell_in_row false i) cs) ≡ []
row-clean i [] e = refl
row-clean i (c ∷ cs) e =
    let first = append-empty_left (flat_map cell_causes c.cells) c.broken (append-empty_left (column_causes c) (flat_map column_causes cs) e) in
    ap (λ xs. xs ++ row_causes (map (cell_in_row false i) cs)) (cell-clean c.cells _ first) ∙ row-clean i cs (append-empty_right (column_causes c) (flat_map column_causes cs) e)

rows-clean : (cs : List Column) → flat_map column_causes cs ≡ [] → (is : List ℕ) → list_any is_faulty_row (map (λ i. map (cell_in_row false i) cs) is) ≡ false
rows-clean cs e [] = refl
rows-clean cs e (i ∷ is) = ap (λ xs. not (is_empty xs) || list_any is_faulty_row (map (λ i. map (cell_in_row false i) cs) is)) (row-clean i cs e) ∙ rows-clean cs e is

all-before : (rows : List (List Cell)) → list_any is_faulty_row rows ≡ false → take_while (λ row. not (is_faulty_row row)) rows ≡ rows
all-before [] h = refl
all-before (r ∷ rows) h =
    let p = or-parts (is_faulty_row r) (list_any is_faulty_row rows) h in
    take_while-cons (λ row. not (is_faulty_row row)) r rows
    ∙ ap (λ b. cond (not b) (r ∷ take_while (λ row. not (is_faulty_row row)) rows) []) p.0
    ∙ ap (λ more. r ∷ more) (all-before rows p.1)

zip-unended : (cs : List Column) (causes : List Cause) (shape more : Bool) → cond ((list_any is_ended cs || shape) || more) (flat_map column_causes cs ++ causes) [] ≡ [] → list_any is_ended cs ≡ false
zip-unended cs causes shape more e = by (list_any is_ended cs) refl e
  where
    by : (b : Bool) → list_any is_ended cs ≡ b → cond ((b || shape) || more) (flat_map column_causes cs ++ causes) [] ≡ [] → b ≡ false
    by true q e = absurd (causes-nonempty cs q (append-empty_left (flat_map column_causes cs) causes e))
    by false q e = refl

pub or-true : (a : Bool) → (a || true) ≡ true
or-true true = refl
or-true false = refl

pub zip-clean : (node : ℕ) (cs : List Column) → (zipped false node cs).broken ≡ [] → list_any is_faulty_row (aligned false node cs).rows ≡ false
zip-clean node cs e = by (list_any is_faulty_row (aligned false node cs).rows) refl e
  where
    by : (b : Bool) → list_any is_faulty_row (aligned false node cs).rows ≡ b → cond (ends_early false cs || b) (zip_causes false node cs) [] ≡ [] → list_any is_faulty_row (aligned false node cs).rows ≡ false
    by true q e =
        let all : zip_causes false node cs ≡ [] = ap (λ b. cond b (zip_causes false node cs) []) (sym (or-true (ends_early false cs))) ∙ e in
        rows-clean cs (append-empty_left (flat_map column_causes cs) _ all) (below (zip_length false (extents cs)))
    by false q e = q

zip-one : (node : ℕ) (cs : List Column) → (zipped false node cs).broken ≡ [] → HaveOne cs → length (zipped false node cs).rows ≡ 1
zip-one node cs e all =
    length-map (take_while (λ row. not (is_faulty_row row)) (aligned false node cs).rows) cell_values
    ∙ ap length (all-before (aligned false node cs).rows (zip-clean node cs e))
    ∙ length-map (below (zip_length false (extents cs))) (λ i. map (cell_in_row false i) cs)
    ∙ length-below (zip_length false (extents cs)) ∙ one-long cs all

sorted-one : (node : ℕ) (ds : List Direction) (cs : List Column) → (zipped false node cs).broken ≡ [] → HaveOne cs → length (sorted_by_keys ds (zipped false node cs)).cells ≡ 1
sorted-one node ds cs e all =
    ap (λ b. length (cond (is_empty b) (map value (in_order_of_keys ds (map (λ row. (drop 1 row, at 0 row)) (zipped false node cs).rows))) [])) e
    ∙ length-map (in_order_of_keys ds (map (λ row. (drop 1 row, at 0 row)) (zipped false node cs).rows)) value
    ∙ length-map (in_order (λ p q. is_lt (keys_cmp ds p.0 q.0)) (map (λ row. (drop 1 row, at 0 row)) (zipped false node cs).rows)) (λ p. p.1)
    ∙ length-ordered (λ p q. is_lt (keys_cmp ds p.0 q.0)) (map (λ row. (drop 1 row, at 0 row)) (zipped false node cs).rows)
    ∙ length-map (zipped false node cs).rows (λ row. (drop 1 row, at 0 row))
    ∙ zip-one node cs e all

module _ (node : ℕ) (T : Table) where
  abbrev IsOne : Column → Type 0
  IsOne c = c.broken ≡ [] → length c.cells ≡ 1

  -- cell by cell
  over-one : (f : List Value → Cell) (c : Column) → IsOne c → IsOne (cellwise node f (c ∷ []))
  over-one f c one e =
      let p = first-whole c [] (none-ended (c ∷ []) _ _ e) in
      cellwise-one node f (c ∷ []) (one p.0, tt)

  over-two : (f : List Value → Cell) (c d : Column) → IsOne c → IsOne d → IsOne (cellwise node f (c ∷ d ∷ []))
  over-two f c d one two e =
      let p = first-whole c (d ∷ []) (none-ended (c ∷ d ∷ []) _ _ e) in
      let q = first-whole d [] p.1 in
      cellwise-one node f (c ∷ d ∷ []) (one p.0, (two q.0, tt))

  over-three : (f : List Value → Cell) (b c d : Column) → IsOne b → IsOne c → IsOne d → IsOne (cellwise node f (b ∷ c ∷ d ∷ []))
  over-three f b c d one two three e =
      let p = first-whole b (c ∷ d ∷ []) (none-ended (b ∷ c ∷ d ∷ []) _ _ e) in
      let q = first-whole c (d ∷ []) p.1 in
      let r = first-whole d [] q.1 in
      cellwise-one node f (b ∷ c ∷ d ∷ []) (one p.0, (two q.0, (three r.0, tt)))

  -- over a whole operand: what f gives keeps the number of values
  over-whole : (f : List (List Value) → Column) (c : Column) → ((vs : List Value) → length (f (vs ∷ [])).cells ≡ length vs) → IsOne c → IsOne (from_whole f (c ∷ []))
  over-whole f c keeps one e =
      let w = from-whole f (c ∷ []) e in
      let p = clean-first c [] w.clean in
      ap length w.cells ∙ keeps (cell_values c.cells) ∙ p.1 ∙ one p.0

  function-one : (g : FunctionExpr) (c : Column) → IsOne c → IsOne (function_column node g c)
  function-one fun.Not c one = over-one (λ row. value (not_value (at 0 row))) c one
  function-one fun.IsNull c one = over-one (λ row. value (val.Boolean (is_null (at 0 row)))) c one
  function-one fun.IsNotNull c one = over-one (λ row. value (val.Boolean (not (is_null (at 0 row))))) c one
  function-one fun.Reverse c one = over-whole (λ vs. whole_column (reverse (operand 0 vs))) c (λ vs. length-map (reverse vs) value ∙ length-reverse vs) one

  gathered-one : (c d : Column) → IsOne d → IsOne (from_whole (λ vs. record { cells = map (picked node (operand 0 vs)) (operand 1 vs); broken = []; lost = [] }) (c ∷ d ∷ []))
  gathered-one c d one e =
      let w = from-whole (λ vs. record { cells = map (picked node (operand 0 vs)) (operand 1 vs); broken = []; lost = [] }) (c ∷ d ∷ []) e in
      let p = clean-first d [] (clean-first c (d ∷ []) w.clean).2 in
      ap length w.cells ∙ length-map (cell_values d.cells) (picked node (cell_values c.cells)) ∙ p.1 ∙ one p.0

  and-last : (a b c d : Bool) → (a && b && c && d) ≡ true → a ≡ true
  and-last true b c d h = refl
  and-last false b c d h = cc

  number-kind : (k : Option DataType) → (is_kind kind.Int64 k || is_kind kind.IdxSize k) ≡ true → IsTrue (is_some k)
  number-kind k h = by (is_kind kind.Int64 k) refl h
    where
      by : (b : Bool) → is_kind kind.Int64 k ≡ b → (b || is_kind kind.IdxSize k) ≡ true → IsTrue (is_some k)
      by true q h = some-kind kind.Int64 k q
      by false q h = some-kind kind.IdxSize k h

  mutual
    pub scalar-one : (t : Tree) → IsTrue (is_scalar t) → HasKind T.schema t → IsOne (eval node T t)
    scalar-one (Tree.column name) h k = cc
    scalar-one (Tree.literal l) h k = λ e. refl
    scalar-one (Tree.binary o l r) h k =
        let p = both (is_scalar l) (is_scalar r) h in
        let q = binary-kinds o (kind_over T.schema l) (kind_over T.schema r) k in
        over-two (λ row. value (binary_value o (at 0 row) (at 1 row))) (eval node T l) (eval node T r) (scalar-one l p.0 q.0) (scalar-one r p.1 q.1)
    scalar-one (Tree.cast to strict e) h k = over-one (λ row. cast_cell node strict (cast_value to (at 0 row))) (eval node T e) (scalar-one e h (cast-kinds to (kind_over T.schema e) k))
    scalar-one (Tree.sort d n e) h k =
        over-whole (λ vs. whole_column (values_in_order (record { descending = d; nulls_last = n }) (operand 0 vs))) (eval node T e)
        (λ vs. length-map (values_in_order (record { descending = d; nulls_last = n }) vs) value ∙ length-ordered (λ a b. is_lt (key_cmp (record { descending = d; nulls_last = n }) a b)) vs) (scalar-one e h k)
    scalar-one (Tree.sort_by d n e by) h k =
        let p = both (is_scalar e) (are_scalar by) h in
        let q = if-kind _ (kind_over T.schema e) k in
        let kinds = and-last (have_kinds T.schema by) (not (tree_count by == 0)) (fits_keys d (tree_count by)) (fits_keys n (tree_count by)) q.0 in
        λ broken.
        let some = first-whole (eval node T e) (eval_all node T by) (zip-unended (eval node T e ∷ eval_all node T by) _ _ _ broken) in
        sorted-one node (directions_of (tree_count by) d n) (eval node T e ∷ eval_all node T by) broken (scalar-one e p.0 q.1 some.0, scalars-one by p.1 kinds some.1)
    scalar-one (Tree.gather s e i) h k =
        let q = if-kind _ (kind_over T.schema e) k in
        let p = both (is_kind kind.Int64 (kind_over T.schema i) || is_kind kind.IdxSize (kind_over T.schema i)) (not s || is_scalar i) q.0 in
        gathered-one (eval node T e) (eval node T i) (scalar-one i (ap (λ b. not b || is_scalar i) (sym h) ∙ p.1) (number-kind (kind_over T.schema i) p.0))
    scalar-one (Tree.filter e by) h k = cc
    scalar-one (Tree.aggregate a e) h k = λ broken.
        let w = from-whole (λ vs. aggregate_column node a (kind_over T.schema e) (operand 0 vs)) (eval node T e ∷ []) broken in
        ap length w.cells ∙ aggregate-one node a (kind_over T.schema e) (cell_values (eval node T e).cells) w.broken
    scalar-one (Tree.ternary c a b) h k =
        let p = both (is_scalar c) (is_scalar a && is_scalar b) h in
        let r = both (is_scalar a) (is_scalar b) p.1 in
        let q = ternary-kinds (kind_over T.schema c) (kind_over T.schema a) (kind_over T.schema b) k in
        over-three (λ row. value (choice_of (at 0 row) (at 1 row) (at 2 row))) (eval node T c) (eval node T a) (eval node T b) (scalar-one c p.0 q.0) (scalar-one a r.0 q.1) (scalar-one b r.1 q.2)
    scalar-one (Tree.function g e) h k = function-one g (eval node T e) (scalar-one e h (function-kinds g (kind_over T.schema e) k))
    scalar-one (Tree.slice e o l) h k = cc
    scalar-one Tree.len h k = height-one node T
    scalar-one (Tree.left_out w) h k = cc
    scalar-one Tree.missing h k = cc

    scalars-one : (ts : Trees) → IsTrue (are_scalar ts) → IsTrue (have_kinds T.schema ts) → list_any is_ended (eval_all node T ts) ≡ false → HaveOne (eval_all node T ts)
    scalars-one Trees.no_trees h k some = tt
    scalars-one (Trees.tree t ts) h k some =
        let p = both (is_scalar t) (are_scalar ts) h in
        let q = both (is_some (kind_over T.schema t)) (have_kinds T.schema ts) k in
        let w = first-whole (eval node T t) (eval_all node T ts) some in
        (scalar-one t p.0 q.0 w.0, scalars-one ts p.1 q.1 w.1)

  -- a column of one cell without a cause has one value
  pub value-one : (t : Tree) → IsTrue (is_scalar t) → HasKind T.schema t → has_cause (eval node T t) ≡ false → (v : Value) × ((eval node T t).cells ≡ value v ∷ [])
  value-one t h k clean =
      let none = no-causes (eval node T t) clean in
      by (eval node T t).cells (scalar-one t h k (append-empty_right (flat_map cell_causes (eval node T t).cells) (eval node T t).broken none)) (append-empty_left (flat_map cell_causes (eval node T t).cells) (eval node T t).broken none)
    where
      by : (cells : List Cell) → length cells ≡ 1 → flat_map cell_causes cells ≡ [] → (v : Value) × (cells ≡ value v ∷ [])
      by [] len e = absurd (omega (arith, len))
      by (value v ∷ []) len e = (v, refl)
      by (faulty c cs ∷ []) len e = cc
      by (x ∷ y ∷ cells) len e = absurd (omega (arith, len))
