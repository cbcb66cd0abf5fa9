-- Elementwise expressions go by their leaves.
use Rattle.std.proofs.Common.{◌≡◌, ℕ, suc, ◌≤◌, ◌<◌, min, Bool, true, false, not, cond, List, [], ◌∷◌, ◌++◌, length, get_or, refl, sym, ap, ◌∙◌, arith}
use Rattle.std.specs.Prelude.{map, flat_map, filter, fold, ◌==◌, ◌&&◌, ◌||◌, IsTrue}
use Rattle.std.specs.List.{AllByRecursion, list_any}
use Rattle.std.proofs.lemmas.Bool.{eqb-true}
use Rattle.std.proofs.lemmas.List.{ext_get_or, length-map, map-append}
use Rattle.ps_frame.specs.Causes.{Cause, Cell, Column, value, column_causes, is_empty, is_ended, whole_column}
use Rattle.ps_frame.specs.Eval.{at, cell_of_row, cellwise, eval, function_column, literal_value}
use Rattle.ps_frame.specs.Operators.{binary_value, cast_cell, cast_value, choice_of, not_value}
use Rattle.ps_frame.specs.Tables.{Table}
use Rattle.ps_frame.specs.Trees.{Tree}
use Rattle.ps_frame.specs.Typing.{goes_by_cell, is_elementwise}
use Rattle.ps_frame.specs.Values.{is_null}
use Rattle.ps_frame.specs.Zip.{Extent, below, all_same, breaks_shape, broadcasts, cell_in_row, ends_early, extent_of, extents, least_or, outgrows, zip_causes, zip_length}
use Rattle.ps_frame.specs.declared.expr.FunctionExpr.{FunctionExpr}
use Rattle.ps_frame.specs.declared.expr.FunctionExpr.TheVariants as fun
use Rattle.ps_frame.specs.declared.value.DataFault.TheVariants as data_fault
use Rattle.ps_frame.specs.declared.value.Value.{Value}
use Rattle.ps_frame.specs.declared.value.Value.TheVariants as val
use Rattle.ps_meaning.proofs.Under.{causes-nonempty, nonempty}
use Rattle.ps_meaning.specs.Steps.{Named}
use Rattle.ps_shares.specs.Leaves.{GoByLeaves, Naming, PutsBack, ReadsColumns, cell_at, eval_with, leaves, put_back, stands_for}
use Rattle.ps_shares.proofs.ClearZips.{any_ended}
use Rattle.ps_shares.proofs.FlatEnds.{flat_ends}
use Rattle.ps_shares.proofs.FlatLength.{all_broadcast, both_hold, ends, flat_length, moving, moving-append, whole_of_one, zip_extent}
use Rattle.ps_shares.proofs.Below.{get_below, length_below, map_below}

-- A column, what stands at its leaves, and its cell in each row.
pub record Part : Type 0 where
  pub column : Column
  pub below_it : List Column
  pub cell : ℕ → Cell

abbrev pub length_over : List Column → ℕ
length_over cs = zip_length false (extents cs)

pub record IsPart (p : Part) : Type 0 where
  pub extent : extent_of p.column ≡ zip_extent (extents p.below_it)
  pub cells : p.column.cells ≡ map p.cell (below (length_over p.below_it))
  pub still : moving (extents p.below_it) ≡ [] → (i : ℕ) → p.cell i ≡ p.cell 0

abbrev pub columns_in : List Part → List Column
columns_in ps = map (λ (p : Part). p.column) ps

abbrev pub leaves_in : List Part → List Column
leaves_in ps = flat_map (λ (p : Part). p.below_it) ps

abbrev pub cells_in : ℕ → List Part → List Cell
cells_in i ps = map (λ (p : Part). p.cell i) ps

pub append_assoc : {A : Type 0} (xs ys zs : List A) → xs ++ (ys ++ zs) ≡ (xs ++ ys) ++ zs
append_assoc [] ys zs = refl
append_assoc (x ∷ xs) ys zs = ap (λ ws. x ∷ ws) (append_assoc xs ys zs)

append_none : {A : Type 0} (xs : List A) → xs ++ [] ≡ xs
append_none [] = refl
append_none (x ∷ xs) = ap (λ ws. x ∷ ws) (append_none xs)

-- the columns' extents may give place to those of their leaves
module _ (A : Type 0) (f : List Extent → A) (flat : (before inner after : List Extent) → f (before ++ (zip_extent inner ∷ after)) ≡ f (before ++ (inner ++ after))) where
  opened : (before : List Extent) (ps : List Part) → AllByRecursion IsPart ps → f (before ++ extents (columns_in ps)) ≡ f (before ++ extents (leaves_in ps))
  opened before [] all = refl
  opened before (p ∷ ps) all =
      ap (λ e. f (before ++ (e ∷ extents (columns_in ps)))) all.0.extent
      ∙ flat before (extents p.below_it) (extents (columns_in ps))
      ∙ ap f (append_assoc before (extents p.below_it) (extents (columns_in ps)))
      ∙ opened (before ++ extents p.below_it) ps all.1
      ∙ ap f (sym (append_assoc before (extents p.below_it) (extents (leaves_in ps))))
      ∙ ap (λ es. f (before ++ es)) (sym (map-append extent_of p.below_it (leaves_in ps)))

pub same_length : (ps : List Part) → AllByRecursion IsPart ps → length_over (columns_in ps) ≡ length_over (leaves_in ps)
same_length = opened ℕ (zip_length false) (λ before inner after. flat_length before inner after 0) []

pub same_ends : (ps : List Part) → AllByRecursion IsPart ps → ends (extents (columns_in ps)) ≡ ends (extents (leaves_in ps))
same_ends = opened Bool ends (λ before inner after. flat_ends before inner after 0) []

-- the cell that a part gives to a row
pub part_cell : (p : Part) → IsPart p → (i : ℕ) → (broadcasts false (extent_of p.column) ≡ false → i < length_over p.below_it) → cell_in_row false i p.column ≡ p.cell i
part_cell p is i inside = by (broadcasts false (extent_of p.column)) refl
  where
    by : (b : Bool) → broadcasts false (extent_of p.column) ≡ b → cell_in_row false i p.column ≡ p.cell i
    by true h =
        let h' : broadcasts false (zip_extent (extents p.below_it)) ≡ true = ap (broadcasts false) (sym is.extent) ∙ h in
        let w = whole_of_one (ends (extents p.below_it)) (length_over p.below_it == 1) h' in
        let one : length_over p.below_it ≡ 1 = eqb-true (length_over p.below_it) 1 w.1 in
        let none = all_broadcast (extents p.below_it) w.0 one in
        let in' : 0 < length_over p.below_it = omega arith in
        ap (λ b. get_or p.column.cells (cond b 0 i) (value val.Null)) h ∙ ap (λ cs. get_or cs 0 (value val.Null)) is.cells ∙ get_below p.cell (length_over p.below_it) 0 (value val.Null) in' ∙ sym (is.still none i)
    by false h =
        ap (λ b. get_or p.column.cells (cond b 0 i) (value val.Null)) h ∙ ap (λ cs. get_or cs i (value val.Null)) is.cells ∙ get_below p.cell (length_over p.below_it) i (value val.Null) (inside h)

-- no number is below the least one
fold_all : (b a : ℕ) (ns : List ℕ) → b ≤ fold min a ns → (b ≤ a) × AllByRecursion (λ n. b ≤ n) ns
fold_all b a [] h = (h, tt)
fold_all b a (n ∷ ns) h = let r = fold_all b (min a n) ns h in (omega arith, (omega arith, r.1))

pub least_all : (b d : ℕ) (ns : List ℕ) → b ≤ least_or d ns → AllByRecursion (λ n. b ≤ n) ns
least_all b d [] h = tt
least_all b d (n ∷ ns) h = fold_all b n ns h

-- an input that doesn't broadcast is at least as long as the zip
pub moves_far : (n : ℕ) (cs : List Column) → AllByRecursion (λ m. n ≤ m) (moving (extents cs)) → AllByRecursion (λ (c : Column). broadcasts false (extent_of c) ≡ false → n ≤ length c.cells) cs
moves_far n [] all = tt
moves_far n (c ∷ cs) all = let h = by (broadcasts false (extent_of c)) refl all in (h.0, moves_far n cs h.1)
  where
    by : (b : Bool) → broadcasts false (extent_of c) ≡ b → AllByRecursion (λ m. n ≤ m) (map (λ (e : Extent). e.len) (cond (not b) (extent_of c ∷ filter (λ e. not (broadcasts false e)) (extents cs)) (filter (λ e. not (broadcasts false e)) (extents cs))))
        → (broadcasts false (extent_of c) ≡ false → n ≤ length c.cells) × AllByRecursion (λ m. n ≤ m) (moving (extents cs))
    by true h all = ((λ f. cc), all)
    by false h all = ((λ f. all.0), all.1)

pub row_cells : (n i : ℕ) (ps : List Part) → AllByRecursion IsPart ps → i < n → AllByRecursion (λ (c : Column). broadcasts false (extent_of c) ≡ false → n ≤ length c.cells) (columns_in ps)
    → map (cell_in_row false i) (columns_in ps) ≡ cells_in i ps
row_cells n i [] all lt far = refl
row_cells n i (p ∷ ps) all lt far =
    let e : length p.column.cells ≡ length_over p.below_it = ap (λ (e : Extent). e.len) all.0.extent in
    let q = part_cell p all.0 i (λ h. let le = far.0 h in omega arith) in
    let r = row_cells n i ps all.1 lt far.1 in
    λ j. q j ∷ r j

-- what ends a zip ends the column that an operator makes of it
pub some_cause : (node : ℕ) (cs : List Column) (a b : Bool) → list_any is_ended cs ≡ a → breaks_shape false (extents cs) ≡ b → not (is_empty (cond (ends_early false cs) (zip_causes false node cs) [])) ≡ ends (extents cs)
some_cause node cs true b p q =
    let none = causes-nonempty cs p in
    ap (λ t. not (is_empty (cond (t || breaks_shape false (extents cs)) (zip_causes false node cs) []))) p
    ∙ before (flat_map column_causes cs) _ (nonempty (flat_map column_causes cs) none)
    ∙ sym (ap (λ t. t || breaks_shape false (extents cs)) (any_ended cs ∙ p))
  where
    before : (xs ys : List Cause) → not (is_empty xs) ≡ true → not (is_empty (xs ++ ys)) ≡ true
    before [] ys h = cc
    before (x ∷ xs) ys h = refl
some_cause node cs false true p q =
    ap (λ t. not (is_empty (cond (t || breaks_shape false (extents cs)) (zip_causes false node cs) []))) p
    ∙ ap (λ t. not (is_empty (cond t (flat_map column_causes cs ++ cond t (record { fault = data_fault.Shape; node = node } ∷ []) []) []))) q
    ∙ after (flat_map column_causes cs)
    ∙ sym (ap (λ t. t || breaks_shape false (extents cs)) (any_ended cs ∙ p) ∙ q)
  where
    after : (xs : List Cause) → not (is_empty (xs ++ record { fault = data_fault.Shape; node = node } ∷ [])) ≡ true
    after [] = refl
    after (x ∷ xs) = refl
some_cause node cs false false p q =
    ap (λ t. not (is_empty (cond (t || breaks_shape false (extents cs)) (zip_causes false node cs) []))) p
    ∙ ap (λ t. not (is_empty (cond t (flat_map column_causes cs ++ cond t (record { fault = data_fault.Shape; node = node } ∷ []) []) []))) q
    ∙ sym (ap (λ t. t || breaks_shape false (extents cs)) (any_ended cs ∙ p) ∙ q)

count_rows : (f : List Cell → Cell) (g : ℕ → List Cell) (n : ℕ) → length (map f (map g (below n))) ≡ n
count_rows f g n = length_map (map g (below n)) ∙ length_of (below n) ∙ length_below n
  where
    length_map : (xs : List (List Cell)) → length (map f xs) ≡ length xs
    length_map [] = refl
    length_map (x ∷ xs) = ap suc (length_map xs)

    length_of : (ns : List ℕ) → length (map g ns) ≡ length ns
    length_of [] = refl
    length_of (n ∷ ns) = ap suc (length_of ns)

pub map_twice : (f : List Cell → Cell) (g : ℕ → List Cell) (ns : List ℕ) → map f (map g ns) ≡ map (λ i. f (g i)) ns
map_twice f g [] = refl
map_twice f g (n ∷ ns) = ap (λ cs. f (g n) ∷ cs) (map_twice f g ns)

none_left : {A : Type 0} (xs ys : List A) → xs ++ ys ≡ [] → (xs ≡ []) × (ys ≡ [])
none_left [] ys e = (refl, e)
none_left (x ∷ xs) ys e = cc

stays : (ps : List Part) → AllByRecursion IsPart ps → moving (extents (leaves_in ps)) ≡ [] → (i : ℕ) → cells_in i ps ≡ cells_in 0 ps
stays [] all none i = refl
stays (p ∷ ps) all none i =
    let e = ap moving (map-append extent_of p.below_it (leaves_in ps)) ∙ moving-append (extents p.below_it) (extents (leaves_in ps)) in
    let n = none_left (moving (extents p.below_it)) (moving (extents (leaves_in ps))) (sym e ∙ none) in
    let q = all.0.still n.0 i in
    let r = stays ps all.1 n.1 i in
    λ j. q j ∷ r j

-- an operator over parts is a part, over all that stands below them
abbrev made : ℕ → (List Value → Cell) → List Part → Part
made node f ps = record { column = cellwise node f (columns_in ps); below_it = leaves_in ps; cell = λ i. cell_of_row f (cells_in i ps) }

makes : (node : ℕ) (f : List Value → Cell) (ps : List Part) → AllByRecursion IsPart ps → IsPart (made node f ps)
makes node f ps all =
    let n = length_over (columns_in ps) in
    let l = same_length ps all in
    let far = moves_far n (columns_in ps) (least_all n 1 (moving (extents (columns_in ps))) (omega arith)) in
    let ended = some_cause node (columns_in ps) (list_any is_ended (columns_in ps)) (breaks_shape false (extents (columns_in ps))) refl refl ∙ same_ends ps all in
    let len = count_rows (cell_of_row f) (λ i. map (cell_in_row false i) (columns_in ps)) n ∙ l in
    record {
      extent = λ j. record { ended = ended j; len = len j };
      cells = map_twice (cell_of_row f) (λ i. map (cell_in_row false i) (columns_in ps)) (below n)
          ∙ map_below (λ i. cell_of_row f (map (cell_in_row false i) (columns_in ps))) (λ i. cell_of_row f (cells_in i ps)) n (λ i lt. ap (cell_of_row f) (row_cells n i ps all lt far))
          ∙ ap (λ n. map (λ i. cell_of_row f (cells_in i ps)) (below n)) l;
      still = λ none i. ap (cell_of_row f) (stays ps all none i);
    }

-- a leaf is a part by itself
abbrev leaf : Column → Part
leaf c = record { column = c; below_it = c ∷ []; cell = λ i. cell_in_row false i c }

pub one_extent : (e : Extent) → e ≡ zip_extent (e ∷ [])
one_extent e = by e.ended (e.len == 1) refl refl
  where
    ends_as : Bool → Bool → Bool
    ends_as a b =
        let opens = map (λ (e : Extent). e.len) (cond (not a && not b) (e ∷ []) []) in
        (a || false) || (not (all_same opens) || list_any (outgrows opens) (map (λ (e : Extent). e.len) (cond a (e ∷ []) [])))

    length_as : Bool → Bool → ℕ
    length_as a b = least_or 1 (map (λ (e : Extent). e.len) (cond (not (not a && b)) (e ∷ []) []))

    by : (a b : Bool) → e.ended ≡ a → (e.len == 1) ≡ b → e ≡ zip_extent (e ∷ [])
    by true b p q =
        let t : ends (e ∷ []) ≡ true = λ j. ends_as (p j) (q j) in
        let l : zip_length false (e ∷ []) ≡ e.len = λ j. length_as (p j) (q j) in
        λ j. record { ended = (p ∙ sym t) j; len = sym l j }
    by false true p q =
        let t : ends (e ∷ []) ≡ false = λ j. ends_as (p j) (q j) in
        let l : zip_length false (e ∷ []) ≡ 1 = λ j. length_as (p j) (q j) in
        λ j. record { ended = (p ∙ sym t) j; len = (eqb-true e.len 1 q ∙ sym l) j }
    by false false p q =
        let t : ends (e ∷ []) ≡ false = λ j. ends_as (p j) (q j) in
        let l : zip_length false (e ∷ []) ≡ e.len = λ j. length_as (p j) (q j) in
        λ j. record { ended = (p ∙ sym t) j; len = sym l j }

pub get_all : {A : Type 0} (cs : List A) (d : A) → map (λ i. get_or cs i d) (below (length cs)) ≡ cs
get_all cs d =
    let e : length cs ≡ length (map (λ i. get_or cs i d) (below (length cs))) = sym (length-map (below (length cs)) (λ i. get_or cs i d) ∙ length_below (length cs)) in
    sym (ext_get_or d cs (map (λ i. get_or cs i d) (below (length cs))) e (λ i lt. sym (get_below (λ i. get_or cs i d) (length cs) i d lt)))

-- the cells of a column, each at its place
in_places : (cs : List Cell) (d : Cell) → cs ≡ map (λ i. get_or cs i d) (below (length cs))
in_places cs d = sym (get_all cs d)

pub leaf_cells : (c : Column) (b : Bool) → broadcasts false (extent_of c) ≡ b → c.cells ≡ map (λ i. cell_in_row false i c) (below (length c.cells))
leaf_cells c b h =
    in_places c.cells (value val.Null)
    ∙ map_below (λ i. get_or c.cells i (value val.Null)) (λ i. cell_in_row false i c) (length c.cells) (λ i lt. by b h i lt)
  where
    by : (b : Bool) → broadcasts false (extent_of c) ≡ b → (i : ℕ) → i < length c.cells → get_or c.cells i (value val.Null) ≡ cell_in_row false i c
    by true h i lt =
        let w = whole_of_one (is_ended c) (length c.cells == 1) h in
        let one : length c.cells ≡ 1 = eqb-true (length c.cells) 1 w.1 in
        let zero_is : i ≡ 0 = omega arith in
        ap (λ k. get_or c.cells k (value val.Null)) zero_is ∙ sym (ap (λ b. get_or c.cells (cond b 0 i) (value val.Null)) h)
    by false h i lt = sym (ap (λ b. get_or c.cells (cond b 0 i) (value val.Null)) h)

leaf_stays : (c : Column) (b : Bool) → broadcasts false (extent_of c) ≡ b → moving (extent_of c ∷ []) ≡ [] → (i : ℕ) → cell_in_row false i c ≡ cell_in_row false 0 c
leaf_stays c true h none i = ap (λ b. get_or c.cells (cond b 0 i) (value val.Null)) h ∙ sym (ap (λ b. get_or c.cells (cond b 0 0) (value val.Null)) h)
leaf_stays c false h none i =
    let some : moving (extent_of c ∷ []) ≡ length c.cells ∷ [] = ap (λ b. map (λ (e : Extent). e.len) (cond (not b) (extent_of c ∷ []) [])) h in
    let e : length c.cells ∷ [] ≡ [] = sym some ∙ none in
    cc

leaf_is : (c : Column) → IsPart (leaf c)
leaf_is c =
    let e = one_extent (extent_of c) in
    record {
      extent = e;
      cells = leaf_cells c (broadcasts false (extent_of c)) refl ∙ ap (λ n. map (λ i. cell_in_row false i c) (below n)) (ap (λ (e : Extent). e.len) e);
      still = leaf_stays c (broadcasts false (extent_of c)) refl;
    }

-- a literal
literal_is : (v : Value) → IsPart (record { column = whole_column (v ∷ []); below_it = whole_column (v ∷ []) ∷ []; cell = λ i. value v })
literal_is v = record { extent = refl; cells = refl; still = λ none i. refl }

module _ (node : ℕ) (env : Naming) where
  abbrev pub part : Tree → Part
  part e = record { column = eval_with node env e; below_it = leaves env e; cell = cell_at node env e }

  function_is : (g : FunctionExpr) (e : Tree) → goes_by_cell g ≡ true → IsPart (part e) → IsPart (part (Tree.function g e))
  function_is fun.Not e h p = makes node (λ row. value (not_value (at 0 row))) (part e ∷ []) (p, tt)
  function_is fun.IsNull e h p = makes node (λ row. value (val.Boolean (is_null (at 0 row)))) (part e ∷ []) (p, tt)
  function_is fun.IsNotNull e h p = makes node (λ row. value (val.Boolean (not (is_null (at 0 row))))) (part e ∷ []) (p, tt)
  function_is fun.Reverse e h p = cc

  pub tree_is : (e : Tree) → IsTrue (is_elementwise e) → IsPart (part e)
  tree_is (Tree.column name) h = leaf_is (env name)
  tree_is (Tree.literal l) h = literal_is (literal_value l)
  tree_is (Tree.binary o l r) h =
      let b = both_hold (is_elementwise l) (is_elementwise r) h in
      makes node (λ row. value (binary_value o (at 0 row) (at 1 row))) (part l ∷ part r ∷ []) (tree_is l b.0, (tree_is r b.1, tt))
  tree_is (Tree.cast k strict e) h = makes node (λ row. cast_cell node strict (cast_value k (at 0 row))) (part e ∷ []) (tree_is e h, tt)
  tree_is (Tree.ternary p a b) h =
      let x = both_hold (is_elementwise p) (is_elementwise a && is_elementwise b) h in
      let y = both_hold (is_elementwise a) (is_elementwise b) x.1 in
      makes node (λ row. value (choice_of (at 0 row) (at 1 row) (at 2 row))) (part p ∷ part a ∷ part b ∷ []) (tree_is p x.0, (tree_is a y.0, (tree_is b y.1, tt)))
  tree_is (Tree.function g e) h = let b = both_hold (goes_by_cell g) (is_elementwise e) h in function_is g e b.0 (tree_is e b.1)
  tree_is (Tree.sort d n e) h = cc
  tree_is (Tree.sort_by d n e by) h = cc
  tree_is (Tree.gather s e i) h = cc
  tree_is (Tree.filter e by) h = cc
  tree_is (Tree.aggregate a e) h = cc
  tree_is (Tree.slice e o l) h = cc
  tree_is Tree.len h = cc
  tree_is (Tree.left_out w) h = cc
  tree_is Tree.missing h = cc

pub go_by_leaves : GoByLeaves
go_by_leaves node env e h =
    let p = tree_is node env e h in
    record {
      cells = p.cells;
      ended = p.extent ∙ (λ j. record { ended = any_ended (leaves env e) j || breaks_shape false (extents (leaves env e)); len = zip_length false (extents (leaves env e)) });
    }

-- what fresh names stand for, put back
module _ (node : ℕ) (ms : List Named) (t : Table) where
  abbrev columns : Naming
  columns n = eval node t (stands_for ms n)

  pub puts_back_in : (e : Tree) → IsTrue (is_elementwise e) → eval node t (put_back ms e) ≡ eval_with node columns e
  puts_back_in (Tree.column name) h = refl
  puts_back_in (Tree.literal l) h = refl
  puts_back_in (Tree.binary o l r) h =
      let b = both_hold (is_elementwise l) (is_elementwise r) h in
      let p = puts_back_in l b.0 in
      let q = puts_back_in r b.1 in
      λ i. cellwise node (λ row. value (binary_value o (at 0 row) (at 1 row))) (p i ∷ q i ∷ [])
  puts_back_in (Tree.cast k strict e) h = ap (λ c. cellwise node (λ row. cast_cell node strict (cast_value k (at 0 row))) (c ∷ [])) (puts_back_in e h)
  puts_back_in (Tree.ternary p a b) h =
      let x = both_hold (is_elementwise p) (is_elementwise a && is_elementwise b) h in
      let y = both_hold (is_elementwise a) (is_elementwise b) x.1 in
      let q = puts_back_in p x.0 in
      let r = puts_back_in a y.0 in
      let s = puts_back_in b y.1 in
      λ i. cellwise node (λ row. value (choice_of (at 0 row) (at 1 row) (at 2 row))) (q i ∷ r i ∷ s i ∷ [])
  puts_back_in (Tree.function g e) h = ap (function_column node g) (puts_back_in e (both_hold (goes_by_cell g) (is_elementwise e) h).1)
  puts_back_in (Tree.sort d n e) h = cc
  puts_back_in (Tree.sort_by d n e by) h = cc
  puts_back_in (Tree.gather s e i) h = cc
  puts_back_in (Tree.filter e by) h = cc
  puts_back_in (Tree.aggregate a e) h = cc
  puts_back_in (Tree.slice e o l) h = cc
  puts_back_in Tree.len h = cc
  puts_back_in (Tree.left_out w) h = cc
  puts_back_in Tree.missing h = cc

pub puts_back : PutsBack
puts_back node ms t e h = puts_back_in node ms t e h

pub put_none : (e : Tree) → IsTrue (is_elementwise e) → put_back [] e ≡ e
put_none (Tree.column name) h = refl
put_none (Tree.literal l) h = refl
put_none (Tree.binary o l r) h =
    let b = both_hold (is_elementwise l) (is_elementwise r) h in
    let p = put_none l b.0 in
    let q = put_none r b.1 in
    λ i. Tree.binary o (p i) (q i)
put_none (Tree.cast k strict e) h = ap (Tree.cast k strict) (put_none e h)
put_none (Tree.ternary p a b) h =
    let x = both_hold (is_elementwise p) (is_elementwise a && is_elementwise b) h in
    let y = both_hold (is_elementwise a) (is_elementwise b) x.1 in
    let q = put_none p x.0 in
    let r = put_none a y.0 in
    let s = put_none b y.1 in
    λ i. Tree.ternary (q i) (r i) (s i)
put_none (Tree.function g e) h = ap (Tree.function g) (put_none e (both_hold (goes_by_cell g) (is_elementwise e) h).1)
put_none (Tree.sort d n e) h = refl
put_none (Tree.sort_by d n e by) h = refl
put_none (Tree.gather s e i) h = refl
put_none (Tree.filter e by) h = refl
put_none (Tree.aggregate a e) h = refl
put_none (Tree.slice e o l) h = refl
put_none Tree.len h = refl
put_none (Tree.left_out w) h = refl
put_none Tree.missing h = refl

pub reads_columns : ReadsColumns
reads_columns node t e h = ap (eval node t) (sym (put_none e h)) ∙ puts_back_in node [] t e h
