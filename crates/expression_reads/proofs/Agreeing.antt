-- Over tables that agree in what an expression reads it has one kind and one column.
use Rattle.std.proofs.Common.{◌≡◌, ℕ, false, not, [], ◌∷◌, length, refl, ap}
use Rattle.std.specs.Prelude.{map, is_some, ◌==◌, ◌&&◌, ◌||◌, if◌then◌else◌}
use Rattle.ps_frame.specs.Aggregates.{aggregate_column, count_column}
use Rattle.ps_frame.specs.Causes.{is_empty, value, whole_column}
use Rattle.ps_frame.specs.Eval.{at, cellwise, eval, eval_all, from_whole, function_column, kept, operand, picked, slice_column, sorted_by_keys}
use Rattle.ps_frame.specs.Operators.{binary_value, cast_cell, cast_value, choice_of}
use Rattle.ps_frame.specs.Sorting.{directions_of, values_in_order}
use Rattle.ps_frame.specs.Tables.{Table, field_kind, table_column}
use Rattle.ps_frame.specs.Trees.{Tree, Trees}
use Rattle.ps_frame.specs.Typing.{aggregate_kind, binary_kind, branch_kind, cast_kind, fits_keys, function_kind, have_kinds, is_kind, is_scalar, kind_if, kind_over, tree_count}
use Rattle.ps_frame.specs.Zip.{zipped}
use Rattle.ps_frame.specs.declared.value.DataType.TheVariants as kind
use Rattle.ps_meaning.specs.Steps.{Name}
use Rattle.expression_reads.specs.Reads.{AllReadAll, ReadsAll}

-- one column, of one kind, in both tables
pub record IsSameIn (t u : Table) (n : Name) : Type 0 where
  pub column : table_column n t ≡ table_column n u
  pub kind : field_kind n t.schema ≡ field_kind n u.schema

module _ (P : Name → Type 0) (t u : Table) (same : (name : Name) → P name → IsSameIn t u name) where
  mutual
    pub same_kind : (e : Tree) → ReadsAll P e → kind_over t.schema e ≡ kind_over u.schema e
    same_kind (Tree.column name) h = (same name h).kind
    same_kind (Tree.literal l) h = refl
    same_kind (Tree.binary o l r) h = let p = same_kind l h.0 in let q = same_kind r h.1 in λ i. binary_kind o (p i) (q i)
    same_kind (Tree.cast k strict e) h = ap (cast_kind k) (same_kind e h)
    same_kind (Tree.sort d n e) h = same_kind e h
    same_kind (Tree.sort_by d n e by) h =
        let p = same_kind e h.0 in
        let q = same_kinds by h.1 in
        λ i. kind_if (q i && not (tree_count by == 0) && fits_keys d (tree_count by) && fits_keys n (tree_count by)) (p i)
    same_kind (Tree.gather g e x) h =
        let p = same_kind e h.0 in
        let q = same_kind x h.1 in
        λ i. kind_if ((is_kind kind.Int64 (q i) || is_kind kind.IdxSize (q i)) && (not g || is_scalar x)) (p i)
    same_kind (Tree.filter e by) h =
        let p = same_kind e h.0 in
        let q = same_kind by h.1 in
        λ i. kind_if (is_kind kind.Boolean (q i)) (p i)
    same_kind (Tree.aggregate a e) h = ap (aggregate_kind a) (same_kind e h)
    same_kind (Tree.ternary c x y) h =
        let p = same_kind c h.0 in
        let q = same_kind x h.1 in
        let r = same_kind y h.2 in
        λ i. kind_if (is_kind kind.Boolean (p i)) (branch_kind (q i) (r i))
    same_kind (Tree.function g e) h = ap (function_kind g) (same_kind e h)
    same_kind (Tree.slice e o l) h =
        let p = same_kind e h.0 in
        let q = same_kind o h.1 in
        let r = same_kind l h.2 in
        λ i. kind_if (is_scalar o && is_scalar l && is_kind kind.Int64 (q i) && is_kind kind.Int64 (r i)) (p i)
    same_kind Tree.len h = refl
    same_kind (Tree.left_out w) h = refl
    same_kind Tree.missing h = refl

    same_kinds : (es : Trees) → AllReadAll P es → have_kinds t.schema es ≡ have_kinds u.schema es
    same_kinds Trees.no_trees h = refl
    same_kinds (Trees.tree e es) h =
        let p = same_kind e h.0 in
        let q = same_kinds es h.1 in
        λ i. is_some (p i) && q i

  module _ (n : ℕ) (height : length t.rows ≡ length u.rows) (broken : t.broken ≡ u.broken) where
    mutual
      pub same_column : (e : Tree) → ReadsAll P e → eval n t e ≡ eval n u e
      same_column (Tree.column name) h = (same name h).column
      same_column (Tree.literal l) h = refl
      same_column (Tree.binary o l r) h =
          let p = same_column l h.0 in
          let q = same_column r h.1 in
          λ i. cellwise n (λ row. value (binary_value o (at 0 row) (at 1 row))) (p i ∷ q i ∷ [])
      same_column (Tree.cast k strict e) h = ap (λ c. cellwise n (λ row. cast_cell n strict (cast_value k (at 0 row))) (c ∷ [])) (same_column e h)
      same_column (Tree.sort d l e) h = ap (λ c. from_whole (λ vs. whole_column (values_in_order (record { descending = d; nulls_last = l }) (operand 0 vs))) (c ∷ [])) (same_column e h)
      same_column (Tree.sort_by d l e by) h =
          let p = same_column e h.0 in
          let q = same_columns by h.1 in
          λ i. sorted_by_keys (directions_of (tree_count by) d l) (zipped false n (p i ∷ q i))
      same_column (Tree.gather g e x) h =
          let p = same_column e h.0 in
          let q = same_column x h.1 in
          λ i. from_whole (λ vs. record { cells = map (picked n (operand 0 vs)) (operand 1 vs); broken = []; lost = [] }) (p i ∷ q i ∷ [])
      same_column (Tree.filter e by) h =
          let p = same_column e h.0 in
          let q = same_column by h.1 in
          λ i. kept (zipped false n (p i ∷ q i ∷ []))
      same_column (Tree.aggregate a e) h =
          let p = same_column e h in
          let k = same_kind e h in
          λ i. from_whole (λ vs. aggregate_column n a (k i) (operand 0 vs)) (p i ∷ [])
      same_column (Tree.ternary c x y) h =
          let p = same_column c h.0 in
          let q = same_column x h.1 in
          let r = same_column y h.2 in
          λ i. cellwise n (λ row. value (choice_of (at 0 row) (at 1 row) (at 2 row))) (p i ∷ q i ∷ r i ∷ [])
      same_column (Tree.function g e) h = ap (function_column n g) (same_column e h)
      same_column (Tree.slice e o l) h =
          let p = same_column e h.0 in
          let q = same_column o h.1 in
          let r = same_column l h.2 in
          λ i. from_whole (λ vs. slice_column n (operand 0 vs) (at 0 (operand 1 vs)) (at 0 (operand 2 vs))) (p i ∷ q i ∷ r i ∷ [])
      same_column Tree.len h = λ i. if is_empty (broken i) then count_column n (height i) else record { cells = []; broken = broken i; lost = [] }
      same_column (Tree.left_out w) h = refl
      same_column Tree.missing h = refl

      same_columns : (es : Trees) → AllReadAll P es → eval_all n t es ≡ eval_all n u es
      same_columns Trees.no_trees h = refl
      same_columns (Trees.tree e es) h =
          let p = same_column e h.0 in
          let q = same_columns es h.1 in
          λ i. p i ∷ q i
