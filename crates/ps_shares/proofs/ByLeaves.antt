-- Elementwise expressions over leaves that are within others.
use Rattle.std.proofs.Common.{◌≡◌, ◌⊎◌, inl, inr, ℕ, zero, suc, ◌≤◌, Bool, true, false, not, cond, List, [], ◌∷◌, ◌++◌, get_or, refl, sym, ap, subst, ◌∙◌, arith}
use Rattle.std.specs.Prelude.{map, flat_map, ◌||◌, IsTrue}
use Rattle.std.specs.List.{AllByRecursion, list_any}
use Rattle.ps_frame.specs.Causes.{Cause, Cell, Column, value, cell_causes, cell_values, column_causes, is_empty, is_ended}
use Rattle.ps_frame.specs.Eval.{at, cell_of_row}
use Rattle.ps_frame.specs.Operators.{binary_value, cast_cell, cast_value, choice_of}
use Rattle.ps_frame.specs.Trees.{Tree}
use Rattle.ps_frame.specs.Typing.{is_elementwise}
use Rattle.ps_frame.specs.Zip.{below, breaks_shape, broadcasts, cell_in_row, ends_early, extent_of, extents, is_faulty_row, row_causes, rows_before_fault, zip_causes, zip_length, zip_rows, zipped}
use Rattle.ps_frame.specs.declared.value.Value.TheVariants as val
use Rattle.ps_meaning.proofs.Begins.{Begins, append-empty_left, append-empty_right, begins-below, begins-map, begins-while}
use Rattle.ps_meaning.proofs.Under.{not_empty}
use Rattle.ps_shares.specs.Kept.{IsPartOf}
use Rattle.ps_shares.specs.Leaves.{AreLeavesWithin, AtLeaves, Naming, StayWithinByLeaves, all_leaves, cell_at, eval_with, extent_as_zip, function_cell, leaves}
use Rattle.ps_shares.proofs.ClearZips.{any_ended}
use Rattle.ps_shares.proofs.FlatLength.{ends, moving}
use Rattle.ps_shares.proofs.Below.{map_below}
use Rattle.ps_shares.proofs.Leaves.{IsPart, Part, cells_in, columns_in, leaves_in, least_all, length_over, moves_far, part, row_cells, same_ends, same_length, some_cause, tree_is}

-- cells of expressions whose leaves have the same cells
pub same_cell : (node i : ℕ) (given known : Naming) (e : Tree) → AtLeaves (λ n. cell_in_row false i (given n) ≡ cell_in_row false i (known n)) e → cell_at node given e i ≡ cell_at node known e i
same_cell node i given known (Tree.column name) h = h
same_cell node i given known (Tree.literal l) h = refl
same_cell node i given known (Tree.binary o l r) h = let p = same_cell node i given known l h.0 in let q = same_cell node i given known r h.1 in λ j. cell_of_row (λ row. value (binary_value o (at 0 row) (at 1 row))) (p j ∷ q j ∷ [])
same_cell node i given known (Tree.cast k strict e) h = let p = same_cell node i given known e h in λ j. cell_of_row (λ row. cast_cell node strict (cast_value k (at 0 row))) (p j ∷ [])
same_cell node i given known (Tree.ternary p a b) h =
    let x = same_cell node i given known p h.0 in
    let y = same_cell node i given known a h.1 in
    let z = same_cell node i given known b h.2 in
    λ j. cell_of_row (λ row. value (choice_of (at 0 row) (at 1 row) (at 2 row))) (x j ∷ y j ∷ z j ∷ [])
same_cell node i given known (Tree.function g e) h = ap (function_cell g) (same_cell node i given known e h)
same_cell node i given known (Tree.sort d n e) h = refl
same_cell node i given known (Tree.sort_by d n e by) h = refl
same_cell node i given known (Tree.gather s e x) h = refl
same_cell node i given known (Tree.filter e by) h = refl
same_cell node i given known (Tree.aggregate a e) h = refl
same_cell node i given known (Tree.slice e o l) h = refl
same_cell node i given known Tree.len h = refl
same_cell node i given known (Tree.left_out w) h = refl
same_cell node i given known Tree.missing h = refl

-- the parts that expressions are
abbrev parts : ℕ → Naming → List Tree → List Part
parts node env es = map (part node env) es

are_parts : (node : ℕ) (env : Naming) (es : List Tree) → AllByRecursion (λ e. IsTrue (is_elementwise e)) es → AllByRecursion IsPart (parts node env es)
are_parts node env [] all = tt
are_parts node env (e ∷ es) all = (tree_is node env e all.0, are_parts node env es all.1)

columns_same : (node : ℕ) (env : Naming) (es : List Tree) → columns_in (parts node env es) ≡ map (eval_with node env) es
columns_same node env [] = refl
columns_same node env (e ∷ es) = ap (λ cs. eval_with node env e ∷ cs) (columns_same node env es)

leaves_same : (node : ℕ) (env : Naming) (es : List Tree) → leaves_in (parts node env es) ≡ all_leaves env es
leaves_same node env [] = refl
leaves_same node env (e ∷ es) = ap (λ cs. leaves env e ++ cs) (leaves_same node env es)

same_cells : (node i : ℕ) (given known : Naming) (es : List Tree) → AllByRecursion (AtLeaves (λ n. cell_in_row false i (given n) ≡ cell_in_row false i (known n))) es → cells_in i (parts node given es) ≡ cells_in i (parts node known es)
same_cells node i given known [] all = refl
same_cells node i given known (e ∷ es) all = let p = same_cell node i given known e all.0 in let q = same_cells node i given known es all.1 in λ j. p j ∷ q j

-- a zip of columns without causes has no faulty row
cell_clear : (cs : List Cell) (k : ℕ) → flat_map cell_causes cs ≡ [] → cell_causes (get_or cs k (value val.Null)) ≡ []
cell_clear [] k h = refl
cell_clear (c ∷ cs) zero h = append-empty_left (cell_causes c) (flat_map cell_causes cs) h
cell_clear (c ∷ cs) (suc k) h = cell_clear cs k (append-empty_right (cell_causes c) (flat_map cell_causes cs) h)

row_clear : (i : ℕ) (cs : List Column) → flat_map column_causes cs ≡ [] → row_causes (map (cell_in_row false i) cs) ≡ []
row_clear i [] h = refl
row_clear i (c ∷ cs) h =
    let x = append-empty_left (column_causes c) (flat_map column_causes cs) h in
    let y = append-empty_left (flat_map cell_causes c.cells) c.broken x in
    ap (λ as'. as' ++ row_causes (map (cell_in_row false i) cs)) (cell_clear c.cells (cond (broadcasts false (extent_of c)) 0 i) y) ∙ row_clear i cs (append-empty_right (column_causes c) (flat_map column_causes cs) h)

pub rows_clear : (cs : List Column) (ns : List ℕ) → flat_map column_causes cs ≡ [] → list_any is_faulty_row (map (λ i. map (cell_in_row false i) cs) ns) ≡ false
rows_clear cs [] h = refl
rows_clear cs (n ∷ ns) h = ap (λ as'. not (is_empty as') || list_any is_faulty_row (map (λ i. map (cell_in_row false i) cs) ns)) (row_clear n cs h) ∙ rows_clear cs ns h

pub faulty_breaks : (node : ℕ) (cs : List Column) (ns : List ℕ) → list_any is_faulty_row (map (λ i. map (cell_in_row false i) cs) ns) ≡ true → zip_causes false node cs ≡ [] → ⊥
faulty_breaks node cs ns h e = differ (sym h ∙ rows_clear cs ns (append-empty_left (flat_map column_causes cs) _ e))
  where
    differ : true ≡ false → ⊥
    differ h = cc

-- what ends a zip early breaks it
pub early_breaks : (node : ℕ) (cs : List Column) → ends_early false cs ≡ true → zip_causes false node cs ≡ [] → ⊥
early_breaks node cs h e =
    let k = some_cause node cs (list_any is_ended cs) (breaks_shape false (extents cs)) refl refl in
    let y : ends (extents cs) ≡ true = ap (λ b. b || breaks_shape false (extents cs)) (any_ended cs) ∙ h in
    not_empty (cond (ends_early false cs) (zip_causes false node cs) []) (k ∙ y) (ap (λ b. cond b (zip_causes false node cs) []) h ∙ e)

module _ (node : ℕ) (env : Naming) (es : List Tree) (all : AllByRecursion (λ e. IsTrue (is_elementwise e)) es) where
  abbrev pub columns : List Column
  columns = map (eval_with node env) es

  abbrev pub count : ℕ
  count = zip_length false (extents (all_leaves env es))

  is_count : zip_length false (extents columns) ≡ count
  is_count = ap length_over (sym (columns_same node env es)) ∙ same_length (parts node env es) (are_parts node env es all) ∙ ap length_over (leaves_same node env es)

  pub is_ended_as : ends_early false columns ≡ (extent_as_zip (all_leaves env es)).ended
  is_ended_as =
      ap (λ b. b || breaks_shape false (extents columns)) (sym (any_ended columns))
      ∙ ap (λ cs. ends (extents cs)) (sym (columns_same node env es))
      ∙ same_ends (parts node env es) (are_parts node env es all)
      ∙ ap (λ cs. ends (extents cs)) (leaves_same node env es)
      ∙ ap (λ b. b || breaks_shape false (extents (all_leaves env es))) (any_ended (all_leaves env es))

  -- the rows of the zip, by the cells of the expressions
  rows_are : zip_rows false (zip_length false (extents columns)) columns ≡ map (λ i. cells_in i (parts node env es)) (below count)
  rows_are =
      let ps = parts node env es in
      let n = length_over (columns_in ps) in
      let far = moves_far n (columns_in ps) (least_all n 1 (moving (extents (columns_in ps))) (omega arith)) in
      ap (λ cs. zip_rows false (length_over cs) cs) (sym (columns_same node env es))
      ∙ map_below (λ i. map (cell_in_row false i) (columns_in ps)) (λ i. cells_in i ps) n (λ i lt. row_cells n i ps (are_parts node env es all) lt far)
      ∙ ap (λ n. map (λ i. cells_in i ps) (below n)) (ap length_over (columns_same node env es) ∙ is_count)

module _ (node : ℕ) (given known : Naming) (es : List Tree) (all : AllByRecursion (λ e. IsTrue (is_elementwise e)) es) (w : AreLeavesWithin given known es) where
  abbrev p : List Column
  p = columns node given es all

  abbrev l : List Column
  l = columns node known es all

  abbrev p_rows : List (List Cell)
  p_rows = zip_rows false (zip_length false (extents p)) p

  abbrev l_rows : List (List Cell)
  l_rows = zip_rows false (zip_length false (extents l)) l

  begins : (n m : ℕ) → n ≡ count node given es all → m ≡ count node known es all → n ≤ m → Begins p_rows l_rows
  begins n m en em le =
      let c = count node given es all in
      let same = map_below (λ i. cells_in i (parts node given es)) (λ i. cells_in i (parts node known es)) c (λ i lt. same_cells node i given known es (w.cells i lt)) in
      let b = begins-map (λ i. cells_in i (parts node known es)) (below c) (below (count node known es all)) (begins-below c (count node known es all) (omega arith)) in
      subst (λ xs. Begins xs l_rows) (sym (rows_are node given es all ∙ same)) (subst (λ ys. Begins (map (λ i. cells_in i (parts node known es)) (below c)) ys) (sym (rows_are node known es all)) b)

  first_rows : Begins p_rows l_rows → Begins (zipped false node p).rows (zipped false node l).rows
  first_rows b = begins-map cell_values _ _ (begins-while (λ row. not (is_faulty_row row)) p_rows l_rows b)

  abbrev broken_as : List Column → Bool → Bool → List Cause
  broken_as cs a b = cond (a || b) (zip_causes false node cs) []

  ended_part : ends_early false p ≡ true → zip_length false (extents (all_leaves given es)) ≤ zip_length false (extents (all_leaves known es)) → IsPartOf (zipped false node p) (zipped false node l)
  ended_part h le =
      inr ((λ e. early_breaks node p h (sym (ap (λ b. broken_as p b (list_any is_faulty_row p_rows)) h) ∙ e)), first_rows (begins (count node given es all) (count node known es all) refl refl le))

  whole_part : (f : Bool) → list_any is_faulty_row p_rows ≡ f → ends_early false p ≡ false → ends_early false l ≡ false → p_rows ≡ l_rows → IsPartOf (zipped false node p) (zipped false node l)
  whole_part false h u v e =
      let g : list_any is_faulty_row l_rows ≡ false = ap (list_any is_faulty_row) (sym e) ∙ h in
      inl ((λ i. broken_as p (u i) (h i)), (λ i. broken_as l (v i) (g i)), ap rows_before_fault e)
  whole_part true h u v e =
      let k : (zipped false node p).broken ≡ zip_causes false node p = λ i. broken_as p (u i) (h i) in
      inr ((λ none. faulty_breaks node p (below (zip_length false (extents p))) h (sym k ∙ none)), ([], append_none _ ∙ ap rows_before_fault e))
    where
      append_none : {A : Type 0} (xs : List A) → xs ++ [] ≡ xs
      append_none [] = refl
      append_none (x ∷ xs) = ap (λ ws. x ∷ ws) (append_none xs)

  part_of : IsPartOf (zipped false node p) (zipped false node l)
  part_of = by w.ends
    where
      by : ((extent_as_zip (all_leaves given es)).ended ≡ false × (extent_as_zip (all_leaves known es) ≡ extent_as_zip (all_leaves given es)))
          ⊎ ((extent_as_zip (all_leaves given es)).ended ≡ true × (zip_length false (extents (all_leaves given es)) ≤ zip_length false (extents (all_leaves known es))))
          → IsPartOf (zipped false node p) (zipped false node l)
      by (inl (h, e)) =
          let n : count node known es all ≡ count node given es all = λ i. (e i).len in
          let same = map_below (λ i. cells_in i (parts node given es)) (λ i. cells_in i (parts node known es)) (count node given es all) (λ i lt. same_cells node i given known es (w.cells i lt)) in
          let rows = rows_are node given es all ∙ same ∙ sym (rows_are node known es all ∙ ap (λ n. map (λ i. cells_in i (parts node known es)) (below n)) n) in
          whole_part (list_any is_faulty_row p_rows) refl (is_ended_as node given es all ∙ h) (is_ended_as node known es all ∙ (λ i. (e i).ended) ∙ h) rows
      by (inr (h, le)) = ended_part (is_ended_as node given es all ∙ h) le

pub stay_within : StayWithinByLeaves
stay_within node given known es all w = part_of node given known es all w
