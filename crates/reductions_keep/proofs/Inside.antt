-- What is put together from reductions: the reductions in it, and what it shows of them over a table.
use Rattle.std.proofs.Common.{◌≡◌, ◌⊎◌, inl, inr, ℕ, Bool, true, false, cond, not, List, [], ◌∷◌, ◌++◌, length, refl, sym, subst}
use Rattle.std.specs.Prelude.{Option, flat_map, nat_le, ◌&&◌, ◌||◌}
use Rattle.ps_frame.specs.Aggregates.{aggregate_column, max_rows}
use Rattle.ps_frame.specs.Causes.{Cause, Cell, Column, value, cell_values, column_causes, has_cause, is_empty, whole_column}
use Rattle.ps_frame.specs.Eval.{at as item, cellwise, eval, from_whole, function_column, height_column, literal_value, operand}
use Rattle.ps_frame.specs.Free.{causes_if_free, free_causes, no_table}
use Rattle.ps_frame.specs.Parts.{tree_parts}
use Rattle.ps_frame.specs.Operators.{binary_value, cast_cell, cast_value, choice_of, not_value}
use Rattle.ps_frame.specs.Tables.{Table}
use Rattle.ps_frame.specs.Trees.{Aggregation, Tree}
use Rattle.ps_frame.specs.Typing.{goes_by_cell, is_elementwise, is_independent, kind_over}
use Rattle.ps_frame.specs.Values.{is_null}
use Rattle.ps_frame.specs.declared.expr.FunctionExpr.{FunctionExpr}
use Rattle.ps_frame.specs.declared.expr.FunctionExpr.TheVariants as fun
use Rattle.ps_frame.specs.declared.value.DataFault.TheVariants as fault
use Rattle.ps_frame.specs.declared.value.DataType.{DataType}
use Rattle.ps_frame.specs.declared.value.Value.{Value}
use Rattle.ps_frame.specs.declared.value.Value.TheVariants as val
use Rattle.ps_rowwise.proofs.ByRow.{both}
use Rattle.ps_rowwise.proofs.Ignoring.{same-column}
use Rattle.ps_shares.proofs.Ends.{has_either, has_first}
use Rattle.ps_shares.proofs.Members.{Has}
use Rattle.ps_bundles.proofs.Gathered.{has_last}
use Rattle.plan_rules.specs.Reductions.{is_made_of_reductions, is_mergeable}
use Rattle.reductions_keep.specs.Reduced.{IsSingle, reductions_in}
use Rattle.reductions_keep.proofs.Single.{AreSingle, operator_lost, single_again, single_shows}

in_both : (xs ys us vs : List Tree) (r : Tree) → (Has xs r → Has us r) → (Has ys r → Has vs r) → Has (xs ++ ys) r → Has (us ++ vs) r
in_both xs ys us vs r f g k = by (has_either xs ys r k)
  where
    by : Has xs r ⊎ Has ys r → Has (us ++ vs) r
    by (inl h) = has_first us vs r (f h)
    by (inr h) = has_last us vs r (g h)

-- each reduction in an expression is a part of it
pub reduction_part : (e r : Tree) → Has (reductions_in e) r → Has (tree_parts e) r
reduction_part (Tree.aggregate a e) r (inl q) = inl q
reduction_part (Tree.aggregate a e) r (inr k) = absurd k
reduction_part Tree.len r (inl q) = inl q
reduction_part Tree.len r (inr k) = absurd k
reduction_part (Tree.binary o l r) x k = inr (in_both (reductions_in l) (reductions_in r) (tree_parts l) (tree_parts r) x (reduction_part l x) (reduction_part r x) k)
reduction_part (Tree.cast to strict e) r k = inr (reduction_part e r k)
reduction_part (Tree.ternary p a b) r k =
    inr
    (in_both (reductions_in p) (reductions_in a ++ reductions_in b) (tree_parts p) (tree_parts a ++ tree_parts b) r (reduction_part p r)
    (in_both (reductions_in a) (reductions_in b) (tree_parts a) (tree_parts b) r (reduction_part a r) (reduction_part b r)) k)
reduction_part (Tree.function g e) r k = inr (reduction_part e r k)
reduction_part (Tree.column name) r k = absurd k
reduction_part (Tree.literal l) r k = absurd k
reduction_part (Tree.sort d n e) r k = absurd k
reduction_part (Tree.sort_by d n e by) r k = absurd k
reduction_part (Tree.gather s e i) r k = absurd k
reduction_part (Tree.filter e by) r k = absurd k
reduction_part (Tree.slice e o l) r k = absurd k
reduction_part (Tree.left_out w) r k = absurd k
reduction_part Tree.missing r k = absurd k

-- the three tests of a ternary
pub three : (a b c : Bool) → (a && b && c) ≡ true → (a ≡ true) × (b ≡ true) × (c ≡ true)
three a b c h = let m = both (a && b) c h in let n = both a b m.0 in (n.0, n.1, m.1)

some_cause : (xs : List Cause) → not (is_empty xs) ≡ true → not (is_empty (xs ++ [])) ≡ true
some_cause [] h = cc
some_cause (x ∷ xs) h = refl

module _ (at : ℕ) (T : Table) where
  -- functions that go by cell
  function_single : (g : FunctionExpr) → goes_by_cell g ≡ true → (c : Column) → IsSingle c → IsSingle (function_column at g c)
  function_single fun.Not h c s = single_again at (λ row. value (not_value (item 0 row))) (c ∷ []) (s, tt)
  function_single fun.IsNull h c s = single_again at (λ row. value (val.Boolean (is_null (item 0 row)))) (c ∷ []) (s, tt)
  function_single fun.IsNotNull h c s = single_again at (λ row. value (val.Boolean (not (is_null (item 0 row))))) (c ∷ []) (s, tt)
  function_single fun.Reverse h c s = cc

  pub function_shows : (g : FunctionExpr) → goes_by_cell g ≡ true → (x : Column) → IsSingle x → (c : Cause) → Has (flat_map column_causes (x ∷ [])) c → Has (column_causes (function_column at g x)) c
  function_shows fun.Not h x s = single_shows at (λ row. value (not_value (item 0 row))) (x ∷ []) (s, tt)
  function_shows fun.IsNull h x s = single_shows at (λ row. value (val.Boolean (is_null (item 0 row)))) (x ∷ []) (s, tt)
  function_shows fun.IsNotNull h x s = single_shows at (λ row. value (val.Boolean (not (is_null (item 0 row))))) (x ∷ []) (s, tt)
  function_shows fun.Reverse h x s = cc

  function_lost : (g : FunctionExpr) → goes_by_cell g ≡ true → (x : Column) (c : Cause) → Has (flat_map (λ (x : Column). x.lost) (x ∷ [])) c → Has (function_column at g x).lost c
  function_lost fun.Not h x = operator_lost at (λ row. value (not_value (item 0 row))) (x ∷ [])
  function_lost fun.IsNull h x = operator_lost at (λ row. value (val.Boolean (is_null (item 0 row)))) (x ∷ [])
  function_lost fun.IsNotNull h x = operator_lost at (λ row. value (val.Boolean (not (is_null (item 0 row))))) (x ∷ [])
  function_lost fun.Reverse h x = cc

  -- one cell, or ended
  merged_single : (a : Aggregation) → is_mergeable a ≡ true → (k : Option DataType) (vs : List Value) (lost : List Cause) → IsSingle (record (aggregate_column at a k vs) { lost = lost })
  merged_single Aggregation.min h k vs lost = inl (_, record { cells = refl; broken = refl })
  merged_single Aggregation.max h k vs lost = inl (_, record { cells = refl; broken = refl })
  merged_single Aggregation.first h k vs lost = inl (_, record { cells = refl; broken = refl })
  merged_single Aggregation.last h k vs lost = inl (_, record { cells = refl; broken = refl })
  merged_single Aggregation.sum h k vs lost = inl (_, record { cells = refl; broken = refl })
  merged_single Aggregation.n_unique h k vs lost = cc
  merged_single (Aggregation.count all) h k vs lost = cc

  reduced_single : (a : Aggregation) (k : Option DataType) → is_mergeable a ≡ true → (x : Column) → IsSingle (from_whole (λ vs. aggregate_column at a k (operand 0 vs)) (x ∷ []))
  reduced_single a k h x = by (has_cause x) refl
    where
      broken : Column
      broken = record { cells = []; broken = flat_map column_causes (x ∷ []); lost = flat_map (λ (c : Column). c.lost) (x ∷ []) }

      by : (b : Bool) → has_cause x ≡ b → IsSingle (cond {A = Column} (b || false) broken (record (aggregate_column at a k (cell_values x.cells)) { lost = flat_map (λ (c : Column). c.lost) (x ∷ []) }))
      by true q = inr (record { cells = refl; ended = some_cause (column_causes x) q })
      by false q = merged_single a h k _ _

  height_single : IsSingle (height_column at T)
  height_single = by T.broken
    where
      counted : (b : Bool) (n : ℕ) → IsSingle (cond {A = Column} b (whole_column (val.IdxSize n ∷ [])) (record { cells = []; broken = record { fault = fault.Rows; node = at } ∷ []; lost = [] }))
      counted true n = inl (_, record { cells = refl; broken = refl })
      counted false n = inr (record { cells = refl; ended = refl })

      by : (broken : List Cause) → IsSingle (height_column at (record { schema = T.schema; rows = T.rows; broken = broken }))
      by [] = counted (nat_le (length T.rows) max_rows) (length T.rows)
      by (c ∷ cs) = inr (record { cells = refl; ended = refl })

  pub made_single : (e : Tree) → is_made_of_reductions e ≡ true → IsSingle (eval at T e)
  made_single (Tree.literal l) h = inl (value (literal_value l), record { cells = refl; broken = refl })
  made_single Tree.len h = height_single
  made_single (Tree.aggregate a e) h = reduced_single a (kind_over T.schema e) (both (is_mergeable a) (is_elementwise e) h).0 (eval at T e)
  made_single (Tree.binary o l r) h =
      let m = both (is_made_of_reductions l) (is_made_of_reductions r) h in
      single_again at (λ row. value (binary_value o (item 0 row) (item 1 row))) (eval at T l ∷ eval at T r ∷ []) (made_single l m.0, (made_single r m.1, tt))
  made_single (Tree.cast k strict e) h = single_again at (λ row. cast_cell at strict (cast_value k (item 0 row))) (eval at T e ∷ []) (made_single e h, tt)
  made_single (Tree.ternary p a b) h =
      let m = three (is_made_of_reductions p) (is_made_of_reductions a) (is_made_of_reductions b) h in
      single_again at (λ row. value (choice_of (item 0 row) (item 1 row) (item 2 row))) (eval at T p ∷ eval at T a ∷ eval at T b ∷ []) (made_single p m.0, (made_single a m.1, (made_single b m.2, tt)))
  made_single (Tree.function g e) h = let m = both (goes_by_cell g) (is_made_of_reductions e) h in function_single g m.0 (eval at T e) (made_single e m.1)
  made_single (Tree.column name) h = cc
  made_single (Tree.sort d n e) h = cc
  made_single (Tree.sort_by d n e by) h = cc
  made_single (Tree.gather s e i) h = cc
  made_single (Tree.filter e by) h = cc
  made_single (Tree.slice e o l) h = cc
  made_single (Tree.left_out w) h = cc
  made_single Tree.missing h = cc

  -- What is shown by columns side by side, of two and of three.
  module _ (G : Column → List Cause) where
    first_of : (x : Column) (xs : List Column) (c : Cause) → Has (G x) c → Has (flat_map G (x ∷ xs)) c
    first_of x xs c h = has_first (G x) (flat_map G xs) c h

    next_of : (x : Column) (xs : List Column) (c : Cause) → Has (flat_map G xs) c → Has (flat_map G (x ∷ xs)) c
    next_of x xs c h = has_last (G x) (flat_map G xs) c h

    pub in_two : {X : Type 0} (us vs : List X) (a : X) (x y : Column) (c : Cause) → (Has us a → Has (G x) c) → (Has vs a → Has (G y) c) → Has (us ++ vs) a → Has (flat_map G (x ∷ y ∷ [])) c
    in_two us vs a x y c f g h = by (has_either us vs a h)
      where
        by : Has us a ⊎ Has vs a → Has (flat_map G (x ∷ y ∷ [])) c
        by (inl k) = first_of x (y ∷ []) c (f k)
        by (inr k) = next_of x (y ∷ []) c (first_of y [] c (g k))

    pub in_three : {X : Type 0} (us vs ws : List X) (a : X) (x y z : Column) (c : Cause) → (Has us a → Has (G x) c) → (Has vs a → Has (G y) c) → (Has ws a → Has (G z) c) → Has (us ++ (vs ++ ws)) a → Has (flat_map G (x ∷ y ∷ z ∷ [])) c
    in_three us vs ws a x y z c f g j h = by (has_either us (vs ++ ws) a h)
      where
        by : Has us a ⊎ Has (vs ++ ws) a → Has (flat_map G (x ∷ y ∷ z ∷ [])) c
        by (inl k) = first_of x (y ∷ z ∷ []) c (f k)
        by (inr k) = next_of x (y ∷ z ∷ []) c (in_two vs ws a y z c g j k)

    -- a cause of a reduction in the expression is one of the expression, where operators hand causes on
    module _ (own : (e : Tree) → is_made_of_reductions e ≡ true → IsSingle (eval at T e))
        (over : (f : List Value → Cell) (cs : List Column) → AreSingle cs → (c : Cause) → Has (flat_map G cs) c → Has (G (cellwise at f cs)) c)
        (through : (g : FunctionExpr) → goes_by_cell g ≡ true → (x : Column) → IsSingle x → (c : Cause) → Has (flat_map G (x ∷ [])) c → Has (G (function_column at g x)) c) where
      handed_on : (e : Tree) → is_made_of_reductions e ≡ true → (r : Tree) → Has (reductions_in e) r → (c : Cause) → Has (G (eval at T r)) c → Has (G (eval at T e)) c
      handed_on (Tree.literal l) h r k c q = absurd k
      handed_on Tree.len h r (inl e) c q = subst (λ (r : Tree). Has (G (eval at T r)) c) (sym e) q
      handed_on Tree.len h r (inr k) c q = absurd k
      handed_on (Tree.aggregate a e) h r (inl w) c q = subst (λ (r : Tree). Has (G (eval at T r)) c) (sym w) q
      handed_on (Tree.aggregate a e) h r (inr k) c q = absurd k
      handed_on (Tree.binary o l r) h x k c q =
          let m = both (is_made_of_reductions l) (is_made_of_reductions r) h in
          over (λ row. value (binary_value o (item 0 row) (item 1 row))) (eval at T l ∷ eval at T r ∷ []) (own l m.0, (own r m.1, tt)) c
          (in_two (reductions_in l) (reductions_in r) x (eval at T l) (eval at T r) c (λ k. handed_on l m.0 x k c q) (λ k. handed_on r m.1 x k c q) k)
      handed_on (Tree.cast to strict e) h x k c q = over (λ row. cast_cell at strict (cast_value to (item 0 row))) (eval at T e ∷ []) (own e h, tt) c (first_of (eval at T e) [] c (handed_on e h x k c q))
      handed_on (Tree.ternary p a b) h x k c q =
          let m = three (is_made_of_reductions p) (is_made_of_reductions a) (is_made_of_reductions b) h in
          over (λ row. value (choice_of (item 0 row) (item 1 row) (item 2 row))) (eval at T p ∷ eval at T a ∷ eval at T b ∷ []) (own p m.0, (own a m.1, (own b m.2, tt))) c
          (in_three (reductions_in p) (reductions_in a) (reductions_in b) x (eval at T p) (eval at T a) (eval at T b) c (λ k. handed_on p m.0 x k c q) (λ k. handed_on a m.1 x k c q) (λ k. handed_on b m.2 x k c q) k)
      handed_on (Tree.function g e) h x k c q =
          let m = both (goes_by_cell g) (is_made_of_reductions e) h in
          through g m.0 (eval at T e) (own e m.1) c (first_of (eval at T e) [] c (handed_on e m.1 x k c q))
      handed_on (Tree.column name) h r k c q = absurd k
      handed_on (Tree.sort d n e) h r k c q = absurd k
      handed_on (Tree.sort_by d n e by) h r k c q = absurd k
      handed_on (Tree.gather s e i) h r k c q = absurd k
      handed_on (Tree.filter e by) h r k c q = absurd k
      handed_on (Tree.slice e o l) h r k c q = absurd k
      handed_on (Tree.left_out w) h r k c q = absurd k
      handed_on Tree.missing h r k c q = absurd k

  -- A cause of a reduction's column is one of the whole expression's, and what that column lost is lost.
  pub shows_reductions : (e : Tree) → is_made_of_reductions e ≡ true → (r : Tree) → Has (reductions_in e) r → (c : Cause) → Has (column_causes (eval at T r)) c → Has (column_causes (eval at T e)) c
  shows_reductions = handed_on column_causes made_single (λ f cs all c h. single_shows at f cs all c h) function_shows

  pub loses_as_reductions : (e : Tree) → is_made_of_reductions e ≡ true → (r : Tree) → Has (reductions_in e) r → (c : Cause) → Has (eval at T r).lost c → Has (eval at T e).lost c
  loses_as_reductions = handed_on (λ (x : Column). x.lost) made_single (λ f cs all c h. operator_lost at f cs c h) (λ g h x s c k. function_lost g h x c k)

  -- what breaks the parts that read no row breaks the expression over any table
  if_free : (t : Tree) (below : List Cause) (c : Cause) → (Has below c → Has (column_causes (eval at T t)) c) → Has (causes_if_free at t below) c → Has (column_causes (eval at T t)) c
  if_free t below c rest = by (is_elementwise t && is_independent t) refl
    where
      by : (b : Bool) → (is_elementwise t && is_independent t) ≡ b → Has (cond {A = List Cause} b (column_causes (eval at no_table t)) below) c → Has (column_causes (eval at T t)) c
      by true q h = subst (λ (x : Column). Has (column_causes x) c) (same-column at no_table T t (both (is_elementwise t) (is_independent t) q).1) h
      by false q h = rest h

  pub shows_free : (e : Tree) → is_made_of_reductions e ≡ true → (c : Cause) → Has (free_causes at e) c → Has (column_causes (eval at T e)) c
  shows_free (Tree.literal l) h c k = absurd k
  shows_free Tree.len h c k = absurd k
  shows_free (Tree.aggregate a e) h c k = absurd k
  shows_free (Tree.binary o l r) h c k =
      let m = both (is_made_of_reductions l) (is_made_of_reductions r) h in
      if_free (Tree.binary o l r) (free_causes at l ++ free_causes at r) c
      (λ k. single_shows at (λ row. value (binary_value o (item 0 row) (item 1 row))) (eval at T l ∷ eval at T r ∷ []) (made_single l m.0, (made_single r m.1, tt)) c
      (in_two column_causes (free_causes at l) (free_causes at r) c (eval at T l) (eval at T r) c (λ k. shows_free l m.0 c k) (λ k. shows_free r m.1 c k) k)) k
  shows_free (Tree.cast to strict e) h c k =
      if_free (Tree.cast to strict e) (free_causes at e) c (λ k. single_shows at (λ row. cast_cell at strict (cast_value to (item 0 row))) (eval at T e ∷ []) (made_single e h, tt) c (first_of column_causes (eval at T e) [] c (shows_free e h c k))) k
  shows_free (Tree.ternary p a b) h c k =
      let m = three (is_made_of_reductions p) (is_made_of_reductions a) (is_made_of_reductions b) h in
      if_free (Tree.ternary p a b) (free_causes at p ++ (free_causes at a ++ free_causes at b)) c
      (λ k. single_shows at (λ row. value (choice_of (item 0 row) (item 1 row) (item 2 row))) (eval at T p ∷ eval at T a ∷ eval at T b ∷ []) (made_single p m.0, (made_single a m.1, (made_single b m.2, tt))) c
      (in_three column_causes (free_causes at p) (free_causes at a) (free_causes at b) c (eval at T p) (eval at T a) (eval at T b) c (λ k. shows_free p m.0 c k) (λ k. shows_free a m.1 c k) (λ k. shows_free b m.2 c k) k)) k
  shows_free (Tree.function g e) h c k =
      if_free (Tree.function g e) (free_causes at e) c (λ k. (
      let m = both (goes_by_cell g) (is_made_of_reductions e) h in
      function_shows g m.0 (eval at T e) (made_single e m.1) c (first_of column_causes (eval at T e) [] c (shows_free e m.1 c k)))) k
  shows_free (Tree.column name) h c k = absurd k
  shows_free (Tree.sort d n e) h c k = let w : false ≡ true = h in cc
  shows_free (Tree.sort_by d n e by) h c k = let w : false ≡ true = h in cc
  shows_free (Tree.gather s e i) h c k = let w : false ≡ true = h in cc
  shows_free (Tree.filter e by) h c k = let w : false ≡ true = h in cc
  shows_free (Tree.slice e o l) h c k = let w : false ≡ true = h in cc
  shows_free (Tree.left_out w) h c k = absurd k
  shows_free Tree.missing h c k = absurd k
