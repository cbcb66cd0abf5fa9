-- The column of an expression over a part of a table is an ended part of its column over the table, or the same.
use Rattle.std.proofs.Common.{◌≡◌, ℕ, ◌⊎◌, List, [], ◌∷◌, ◌++◌, get_or, refl, sym, ap, subst, ◌∙◌, inl, inr}
use Rattle.std.specs.Prelude.{Bool, true, false, not, ◌||◌, cond, map, flat_map, reverse, Option, Some, None}
use Rattle.std.specs.List.{list_any}
use Rattle.ps_frame.specs.Aggregates.{aggregate_column}
use Rattle.ps_frame.specs.Causes.{Cause, Cell, Column, value, cell_causes, cell_values, column_causes, has_cause, is_empty, is_ended, whole_column}
use Rattle.ps_frame.specs.Eval.{at, cell_of_row, cellwise, eval, eval_all, from_whole, function_column, height_column, kept, operand, picked, slice_column, sorted_by_keys}
use Rattle.ps_frame.specs.Operators.{binary_value, cast_cell, cast_value, choice_of, not_value}
use Rattle.ps_frame.specs.Typing.{kind_over, tree_count}
use Rattle.ps_frame.specs.Sorting.{Direction, directions_of, values_in_order}
use Rattle.ps_frame.specs.Tables.{Fields, Table, column_at, columns_of, field_index, values_at, values_at_some}
use Rattle.ps_frame.specs.Trees.{Tree, Trees}
use Rattle.ps_frame.specs.Values.{is_null, is_true}
use Rattle.ps_frame.specs.Zip.{aligned, zipped}
use Rattle.ps_frame.specs.declared.expr.FunctionExpr.{FunctionExpr}
use Rattle.ps_frame.specs.declared.expr.FunctionExpr.TheVariants as fun
use Rattle.ps_frame.specs.declared.value.Value.{Value}
use Rattle.ps_frame.specs.declared.value.Value.TheVariants as val
use Rattle.ps_meaning.specs.Cases.{columns_at}
use Rattle.ps_meaning.specs.Within.{Within}
use Rattle.ps_meaning.proofs.Begins.{Begins, append-empty_right, begins-empty, begins-filter, begins-map, or-left, or-right}
use Rattle.ps_meaning.proofs.Under.{AllUnder, Broken, Under, aligned-under, causes-nonempty, nonempty, not_empty, same_or_ended, zipped-under}

one-under : {c d : Column} → Under c d → AllUnder (c ∷ []) (d ∷ [])
one-under u = (u, tt)

two-under : {c d e f : Column} → Under c d → Under e f → AllUnder (c ∷ e ∷ []) (d ∷ f ∷ [])
two-under u v = (u, (v, tt))

three-under : {c d e f g h : Column} → Under c d → Under e f → Under g h → AllUnder (c ∷ e ∷ g ∷ []) (d ∷ f ∷ h ∷ [])
three-under u v w = (u, (v, (w, tt)))

-- cell by cell
cellwise-under : (node : ℕ) (f : List Value → Cell) (cs ds : List Column) → AllUnder cs ds → Under (cellwise node f cs) (cellwise node f ds)
cellwise-under node f cs ds u = by (aligned-under false node cs ds u)
  where
    by : (cs ≡ ds) ⊎ Broken (aligned false node cs).broken × Begins (aligned false node cs).rows (aligned false node ds).rows → Under (cellwise node f cs) (cellwise node f ds)
    by (inl e) = inl (ap (cellwise node f) e)
    by (inr (broken, b)) = inr (nonempty (aligned false node cs).broken broken, begins-map (cell_of_row f) (aligned false node cs).rows (aligned false node ds).rows b)

-- what ends a column is one of its causes
ended-cause : (c : Column) → is_ended c ≡ true → has_cause c ≡ true
ended-cause c h = nonempty (column_causes c) (λ e. not_empty c.broken h (append-empty_right (flat_map cell_causes c.cells) c.broken e))

some-cause : (c : Column) (cs : List Column) (b : Bool) → is_ended c ≡ b → (list_any is_ended cs ≡ true → list_any has_cause cs ≡ true) → (is_ended c || list_any is_ended cs) ≡ true → (has_cause c || list_any has_cause cs) ≡ true
some-cause c cs true q rest h = or-left (has_cause c) (list_any has_cause cs) (ended-cause c q)
some-cause c cs false q rest h = or-right (has_cause c) (list_any has_cause cs) (rest (ap (λ b. b || list_any is_ended cs) (sym q) ∙ h))

any-cause : (cs : List Column) → list_any is_ended cs ≡ true → list_any has_cause cs ≡ true
any-cause [] h = h
any-cause (c ∷ cs) h = some-cause c cs (is_ended c) refl (any-cause cs) h

-- what takes whole operands
from_whole-ended : (f : List (List Value) → Column) (cs : List Column) (d : Column) → list_any is_ended cs ≡ true → Under (from_whole f cs) d
from_whole-ended f cs d h =
    let e : from_whole f cs ≡ record { cells = []; broken = flat_map column_causes cs; lost = flat_map (λ c. c.lost) cs } =
    ap (λ b. cond b (record { cells = []; broken = flat_map column_causes cs; lost = flat_map (λ (c : Column). c.lost) cs }) (record (f (map (λ (c : Column). cell_values c.cells) cs)) { lost = flat_map (λ (c : Column). c.lost) cs })) (any-cause cs h) in
    subst (λ (c : Column). Under c d) (sym e) (inr (nonempty (flat_map column_causes cs) (causes-nonempty cs h), begins-empty d.cells))

from_whole-under : (f : List (List Value) → Column) (cs ds : List Column) → AllUnder cs ds → Under (from_whole f cs) (from_whole f ds)
from_whole-under f cs ds u = by (same_or_ended cs ds u)
  where
    by : (cs ≡ ds) ⊎ (list_any is_ended cs ≡ true) → Under (from_whole f cs) (from_whole f ds)
    by (inl e) = inl (ap (from_whole f) e)
    by (inr h) = from_whole-ended f cs (from_whole f ds) h

-- the rows where a test holds
kept-under : (node : ℕ) (cs ds : List Column) → AllUnder cs ds → Under (kept (zipped false node cs)) (kept (zipped false node ds))
kept-under node cs ds u = by (zipped-under false node cs ds u)
  where
    by : (cs ≡ ds) ⊎ Broken (zipped false node cs).broken × Begins (zipped false node cs).rows (zipped false node ds).rows → Under (kept (zipped false node cs)) (kept (zipped false node ds))
    by (inl e) = inl (ap (λ cs. kept (zipped false node cs)) e)
    by (inr (broken, b)) = inr (nonempty (zipped false node cs).broken broken, begins-map (λ row. value (get_or row 0 val.Null)) _ _ (begins-filter (λ row. is_true (get_or row 1 val.Null)) _ _ b))

-- the rows in the order of keys
sorted-ended : (ds : List Direction) (rows : List (List Value)) (broken lost : List Cause) (d : Column) → Broken broken → Under (sorted_by_keys ds (record { rows = rows; broken = broken; lost = lost })) d
sorted-ended ds rows [] lost d h = absurd (h refl)
sorted-ended ds rows (x ∷ xs) lost d h = inr (refl, begins-empty d.cells)

sorted-under : (node : ℕ) (ds : List Direction) (cs es : List Column) → AllUnder cs es → Under (sorted_by_keys ds (zipped false node cs)) (sorted_by_keys ds (zipped false node es))
sorted-under node ds cs es u = by (zipped-under false node cs es u)
  where
    by : (cs ≡ es) ⊎ Broken (zipped false node cs).broken × Begins (zipped false node cs).rows (zipped false node es).rows → Under (sorted_by_keys ds (zipped false node cs)) (sorted_by_keys ds (zipped false node es))
    by (inl e) = inl (ap (λ cs. sorted_by_keys ds (zipped false node cs)) e)
    by (inr (broken, b)) = sorted-ended ds (zipped false node cs).rows (zipped false node cs).broken (zipped false node cs).lost (sorted_by_keys ds (zipped false node es)) broken

-- A part of a table: its first rows, ended by some cause.
module _ (s : Fields) (rows rest : List (List Value)) (causes others : List Cause) (ended : not (is_empty causes) ≡ true) where
  abbrev pub part : Table
  part = record { schema = s; rows = rows; broken = causes }

  abbrev pub whole_of : Table
  whole_of = record { schema = s; rows = rows ++ rest; broken = others }

  values-begin : (i : ℕ) → Begins (map value (values_at i rows)) (map value (values_at i (rows ++ rest)))
  values-begin i = begins-map value _ _ (begins-map (λ row. get_or row i val.Null) rows (rows ++ rest) (rest, refl))

  column-under : (o : Option ℕ) → Begins (map value (values_at_some o rows)) (map value (values_at_some o (rows ++ rest)))
  column-under None = begins-empty []
  column-under (Some i) = values-begin i

  height-under : (node : ℕ) (c : Column) → Under (height_column node part) c
  height-under node c = by causes ended
    where
      by : (causes : List Cause) → not (is_empty causes) ≡ true → Under (height_column node (record { schema = s; rows = rows; broken = causes })) c
      by [] h = cc
      by (x ∷ xs) h = inr (refl, begins-empty c.cells)

  function-under : (node : ℕ) (g : FunctionExpr) (c d : Column) → Under c d → Under (function_column node g c) (function_column node g d)
  function-under node fun.Not c d u = cellwise-under node (λ row. value (not_value (at 0 row))) (c ∷ []) (d ∷ []) (one-under u)
  function-under node fun.IsNull c d u = cellwise-under node (λ row. value (val.Boolean (is_null (at 0 row)))) (c ∷ []) (d ∷ []) (one-under u)
  function-under node fun.IsNotNull c d u = cellwise-under node (λ row. value (val.Boolean (not (is_null (at 0 row))))) (c ∷ []) (d ∷ []) (one-under u)
  function-under node fun.Reverse c d u = from_whole-under (λ vs. whole_column (reverse (operand 0 vs))) (c ∷ []) (d ∷ []) (one-under u)

  mutual
    pub eval-part : (node : ℕ) (e : Tree) → Under (eval node part e) (eval node whole_of e)
    eval-part node (Tree.column name) = inr (ended, column-under (field_index name s))
    eval-part node (Tree.literal l) = inl refl
    eval-part node (Tree.binary o l r) =
        cellwise-under node (λ row. value (binary_value o (at 0 row) (at 1 row))) (eval node part l ∷ eval node part r ∷ []) (eval node whole_of l ∷ eval node whole_of r ∷ []) (two-under (eval-part node l) (eval-part node r))
    eval-part node (Tree.cast k strict e) = cellwise-under node (λ row. cast_cell node strict (cast_value k (at 0 row))) (eval node part e ∷ []) (eval node whole_of e ∷ []) (one-under (eval-part node e))
    eval-part node (Tree.sort d n e) =
        from_whole-under (λ vs. whole_column (values_in_order (record { descending = d; nulls_last = n }) (operand 0 vs))) (eval node part e ∷ []) (eval node whole_of e ∷ []) (one-under (eval-part node e))
    eval-part node (Tree.sort_by d n e by) =
        sorted-under node (directions_of (tree_count by) d n) (eval node part e ∷ eval_all node part by) (eval node whole_of e ∷ eval_all node whole_of by) (eval-part node e, eval_all-part node by)
    eval-part node (Tree.gather k e i) =
        from_whole-under (λ vs. record { cells = map (picked node (operand 0 vs)) (operand 1 vs); broken = []; lost = [] }) (eval node part e ∷ eval node part i ∷ []) (eval node whole_of e ∷ eval node whole_of i ∷ [])
        (two-under (eval-part node e) (eval-part node i))
    eval-part node (Tree.filter e by) = kept-under node (eval node part e ∷ eval node part by ∷ []) (eval node whole_of e ∷ eval node whole_of by ∷ []) (two-under (eval-part node e) (eval-part node by))
    eval-part node (Tree.aggregate a e) = from_whole-under (λ vs. aggregate_column node a (kind_over s e) (operand 0 vs)) (eval node part e ∷ []) (eval node whole_of e ∷ []) (one-under (eval-part node e))
    eval-part node (Tree.ternary p a b) =
        cellwise-under node (λ row. value (choice_of (at 0 row) (at 1 row) (at 2 row))) (eval node part p ∷ eval node part a ∷ eval node part b ∷ []) (eval node whole_of p ∷ eval node whole_of a ∷ eval node whole_of b ∷ [])
        (three-under (eval-part node p) (eval-part node a) (eval-part node b))
    eval-part node (Tree.function g e) = function-under node g (eval node part e) (eval node whole_of e) (eval-part node e)
    eval-part node (Tree.slice e o l) =
        from_whole-under (λ vs. slice_column node (operand 0 vs) (at 0 (operand 1 vs)) (at 0 (operand 2 vs))) (eval node part e ∷ eval node part o ∷ eval node part l ∷ []) (eval node whole_of e ∷ eval node whole_of o ∷ eval node whole_of l ∷ [])
        (three-under (eval-part node e) (eval-part node o) (eval-part node l))
    eval-part node Tree.len = height-under node (eval node whole_of Tree.len)
    eval-part node (Tree.left_out w) = inl refl
    eval-part node Tree.missing = inl refl

    eval_all-part : (node : ℕ) (es : Trees) → AllUnder (eval_all node part es) (eval_all node whole_of es)
    eval_all-part node Trees.no_trees = tt
    eval_all-part node (Trees.tree e es) = (eval-part node e, eval_all-part node es)

  places-under : (is : List ℕ) → AllUnder (map (λ i. column_at i part) is) (map (λ i. column_at i whole_of) is)
  places-under [] = tt
  places-under (i ∷ is) = (inr (ended, values-begin i), places-under is)

  columns-part : AllUnder (columns_of part) (columns_of whole_of)
  columns-part = places-under _

  exprs-part : (node : ℕ) (es : List Tree) → AllUnder (columns_at node es part) (columns_at node es whole_of)
  exprs-part node [] = tt
  exprs-part node (e ∷ es) = (eval-part node e, exprs-part node es)

pub all-append : (as' bs cs ds : List Column) → AllUnder as' bs → AllUnder cs ds → AllUnder (as' ++ cs) (bs ++ ds)
all-append [] [] cs ds u v = v
all-append [] (b ∷ bs) cs ds u v = absurd u
all-append (a ∷ as') [] cs ds u v = absurd u
all-append (a ∷ as') (b ∷ bs) cs ds u v = (u.0, all-append as' bs cs ds u.1 v)

pub all-same : (cs : List Column) → AllUnder cs cs
all-same [] = tt
all-same (c ∷ cs) = (inl refl, all-same cs)

-- The same of tables of which one is within the other.
within-by : (P : Table → Table → Type 0) → ((t : Table) → P t t) → ((s : Fields) (rows rest : List (List Value)) (causes others : List Cause) → not (is_empty causes) ≡ true → P (record { schema = s; rows = rows; broken = causes }) (record { schema = s; rows = rows ++ rest; broken = others }))
    → (p l : Table) → Within p l → P p l
within-by P same parts p l w = by w.part
  where
    by : (p ≡ l) ⊎ (p.broken ≡ [] → ⊥) × ((rest : List (List Value)) × (p.rows ++ rest ≡ l.rows)) → P p l
    by (inl e) = subst (λ t. P p t) e (same p)
    by (inr (broken, (rest, e))) =
        let q : record { schema = p.schema; rows = p.rows ++ rest; broken = l.broken } ≡ l = λ i. record { schema = w.same_schema i; rows = e i; broken = l.broken } in
        subst (λ t. P p t) q (parts p.schema p.rows rest p.broken l.broken (nonempty p.broken broken))

pub exprs-under : (node : ℕ) (es : List Tree) (p l : Table) → Within p l → AllUnder (columns_at node es p) (columns_at node es l)
exprs-under node es = within-by (λ p l. AllUnder (columns_at node es p) (columns_at node es l)) (λ t. all-same (columns_at node es t)) (λ s rows rest causes others ended. exprs-part s rows rest causes others ended node es)

pub columns-under : (p l : Table) → Within p l → AllUnder (columns_of p) (columns_of l)
columns-under = within-by (λ p l. AllUnder (columns_of p) (columns_of l)) (λ t. all-same (columns_of t)) (λ s rows rest causes others ended. columns-part s rows rest causes others ended)

pub keyed-under : (node : ℕ) (es : List Tree) (p l : Table) → Within p l → AllUnder (columns_of p ++ columns_at node es p) (columns_of l ++ columns_at node es l)
keyed-under node es p l w = all-append (columns_of p) (columns_of l) _ _ (columns-under p l w) (exprs-under node es p l w)
