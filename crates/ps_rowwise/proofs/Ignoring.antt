-- What is independent of the input doesn't look at the table.
use Rattle.std.proofs.Common.{◌≡◌, ℕ, [], ◌∷◌, refl}
use Rattle.std.specs.Prelude.{true, false, not, ◌&&◌, ◌||◌, ◌==◌, map, is_some, IsTrue}
use Rattle.ps_frame.specs.Aggregates.{aggregate_column}
use Rattle.ps_frame.specs.Causes.{whole_column}
use Rattle.ps_frame.specs.Eval.{at, cellwise, eval, eval_all, from_whole, function_column, kept, operand, picked, slice_column, sorted_by_keys}
use Rattle.ps_frame.specs.Operators.{binary_value, cast_cell, cast_value, choice_of}
use Rattle.ps_frame.specs.Causes.{value}
use Rattle.ps_frame.specs.Sorting.{directions_of, values_in_order}
use Rattle.ps_frame.specs.Tables.{Fields, Table}
use Rattle.ps_frame.specs.Trees.{Tree, Trees}
use Rattle.ps_frame.specs.Typing.{aggregate_kind, binary_kind, branch_kind, cast_kind, every_part_of_all, fits_keys, function_kind, have_kinds, is_independent, is_kind, is_scalar, kind_if, kind_over, reads_no_input, tree_count}
use Rattle.ps_frame.specs.Zip.{zipped}
use Rattle.ps_frame.specs.declared.value.DataType.TheVariants as kind
use Rattle.ps_rowwise.proofs.ByRow.{both}

abbrev AreIndependent : Trees → Type 0
AreIndependent ts = every_part_of_all reads_no_input ts ≡ true

module _ (s r : Fields) where
  mutual
    pub same-kind : (t : Tree) → IsTrue (is_independent t) → kind_over s t ≡ kind_over r t
    same-kind (Tree.column name) h = cc
    same-kind (Tree.literal l) h = refl
    same-kind (Tree.binary o a b) h =
        let p = both (is_independent a) (is_independent b) h in
        λ i. binary_kind o (same-kind a p.0 i) (same-kind b p.1 i)
    same-kind (Tree.cast k strict e) h = λ i. cast_kind k (same-kind e h i)
    same-kind (Tree.sort d n e) h = same-kind e h
    same-kind (Tree.sort_by d n e by) h =
        let p = both (is_independent e) (every_part_of_all reads_no_input by) h in
        λ i. kind_if (same-kinds by p.1 i && not (tree_count by == 0) && fits_keys d (tree_count by) && fits_keys n (tree_count by)) (same-kind e p.0 i)
    same-kind (Tree.gather scalar e idx) h =
        let p = both (is_independent e) (is_independent idx) h in
        λ i. kind_if ((is_kind kind.Int64 (same-kind idx p.1 i) || is_kind kind.IdxSize (same-kind idx p.1 i)) && (not scalar || is_scalar idx)) (same-kind e p.0 i)
    same-kind (Tree.filter e by) h =
        let p = both (is_independent e) (is_independent by) h in
        λ i. kind_if (is_kind kind.Boolean (same-kind by p.1 i)) (same-kind e p.0 i)
    same-kind (Tree.aggregate a e) h = λ i. aggregate_kind a (same-kind e h i)
    same-kind (Tree.ternary c a b) h =
        let p = both (is_independent c) (is_independent a && is_independent b) h in
        let q = both (is_independent a) (is_independent b) p.1 in
        λ i. kind_if (is_kind kind.Boolean (same-kind c p.0 i)) (branch_kind (same-kind a q.0 i) (same-kind b q.1 i))
    same-kind (Tree.function g e) h = λ i. function_kind g (same-kind e h i)
    same-kind (Tree.slice e o l) h =
        let p = both (is_independent e) (is_independent o && is_independent l) h in
        let q = both (is_independent o) (is_independent l) p.1 in
        λ i. kind_if (is_scalar o && is_scalar l && is_kind kind.Int64 (same-kind o q.0 i) && is_kind kind.Int64 (same-kind l q.1 i)) (same-kind e p.0 i)
    same-kind Tree.len h = cc
    same-kind (Tree.left_out w) h = refl
    same-kind Tree.missing h = refl

    same-kinds : (ts : Trees) → AreIndependent ts → have_kinds s ts ≡ have_kinds r ts
    same-kinds Trees.no_trees h = refl
    same-kinds (Trees.tree t ts) h =
        let p = both (is_independent t) (every_part_of_all reads_no_input ts) h in
        λ i. is_some (same-kind t p.0 i) && same-kinds ts p.1 i

module _ (node : ℕ) (T U : Table) where
  mutual
    pub same-column : (t : Tree) → IsTrue (is_independent t) → eval node T t ≡ eval node U t
    same-column (Tree.column name) h = cc
    same-column (Tree.literal l) h = refl
    same-column (Tree.binary o a b) h =
        let p = both (is_independent a) (is_independent b) h in
        λ i. cellwise node (λ row. value (binary_value o (at 0 row) (at 1 row))) (same-column a p.0 i ∷ same-column b p.1 i ∷ [])
    same-column (Tree.cast k strict e) h = λ i. cellwise node (λ row. cast_cell node strict (cast_value k (at 0 row))) (same-column e h i ∷ [])
    same-column (Tree.sort d n e) h = λ i. from_whole (λ vs. whole_column (values_in_order (record { descending = d; nulls_last = n }) (operand 0 vs))) (same-column e h i ∷ [])
    same-column (Tree.sort_by d n e by) h =
        let p = both (is_independent e) (every_part_of_all reads_no_input by) h in
        λ i. sorted_by_keys (directions_of (tree_count by) d n) (zipped false node (same-column e p.0 i ∷ same-columns by p.1 i))
    same-column (Tree.gather scalar e idx) h =
        let p = both (is_independent e) (is_independent idx) h in
        λ i. from_whole (λ vs. record { cells = map (picked node (operand 0 vs)) (operand 1 vs); broken = []; lost = [] }) (same-column e p.0 i ∷ same-column idx p.1 i ∷ [])
    same-column (Tree.filter e by) h =
        let p = both (is_independent e) (is_independent by) h in
        λ i. kept (zipped false node (same-column e p.0 i ∷ same-column by p.1 i ∷ []))
    same-column (Tree.aggregate a e) h = λ i. from_whole (λ vs. aggregate_column node a (same-kind T.schema U.schema e h i) (operand 0 vs)) (same-column e h i ∷ [])
    same-column (Tree.ternary c a b) h =
        let p = both (is_independent c) (is_independent a && is_independent b) h in
        let q = both (is_independent a) (is_independent b) p.1 in
        λ i. cellwise node (λ row. value (choice_of (at 0 row) (at 1 row) (at 2 row))) (same-column c p.0 i ∷ same-column a q.0 i ∷ same-column b q.1 i ∷ [])
    same-column (Tree.function g e) h = λ i. function_column node g (same-column e h i)
    same-column (Tree.slice e o l) h =
        let p = both (is_independent e) (is_independent o && is_independent l) h in
        let q = both (is_independent o) (is_independent l) p.1 in
        λ i. from_whole (λ vs. slice_column node (operand 0 vs) (at 0 (operand 1 vs)) (at 0 (operand 2 vs))) (same-column e p.0 i ∷ same-column o q.0 i ∷ same-column l q.1 i ∷ [])
    same-column Tree.len h = cc
    same-column (Tree.left_out w) h = refl
    same-column Tree.missing h = refl

    same-columns : (ts : Trees) → AreIndependent ts → eval_all node T ts ≡ eval_all node U ts
    same-columns Trees.no_trees h = refl
    same-columns (Trees.tree t ts) h =
        let p = both (is_independent t) (every_part_of_all reads_no_input ts) h in
        λ i. same-column t p.0 i ∷ same-columns ts p.1 i
