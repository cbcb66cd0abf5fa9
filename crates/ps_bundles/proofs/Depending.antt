-- What depends on the input shows all causes that break it, and reads columns by their names.
use Rattle.std.proofs.Common.{◌≡◌, ℕ, Bool, true, false, not, cond, List, [], ◌∷◌, ◌++◌, length, refl, sym, ap, subst, ◌∙◌}
use Rattle.std.specs.Prelude.{flat_map, map, reverse, ◌&&◌, ◌||◌}
use Rattle.std.specs.Cmp.Lexicographic.{bytes_decides}
use Rattle.std.specs.List.{AllByRecursion, list_any}
use Rattle.std.specs.Str.{bytes_eq}
use Rattle.std.proofs.lemmas.List.Folds.{list_any-append}
use Rattle.ps_frame.specs.Aggregates.{aggregate_column, count_column}
use Rattle.ps_frame.specs.Causes.{Cause, Column, value, cell_causes, cell_values, column_causes, has_cause, is_empty, whole_column}
use Rattle.ps_frame.specs.Eval.{at as item, eval, eval_all, from_whole, height_column, operand, picked, slice_column}
use Rattle.ps_frame.specs.Operators.{binary_value, cast_cell, cast_value, choice_of, not_value}
use Rattle.ps_frame.specs.Parts.{is_column_of, tree_parts, trees_parts}
use Rattle.ps_frame.specs.Sorting.{values_in_order}
use Rattle.ps_frame.specs.Tables.{Table}
use Rattle.ps_frame.specs.Trees.{Tree, Trees}
use Rattle.ps_frame.specs.Typing.{every_part_of_all, is_independent, kind_over, reads_no_input}
use Rattle.ps_frame.specs.Values.{is_null}
use Rattle.ps_frame.specs.Zip.{zipped}
use Rattle.ps_frame.specs.declared.expr.FunctionExpr.{FunctionExpr}
use Rattle.ps_frame.specs.declared.expr.FunctionExpr.TheVariants as fun
use Rattle.ps_frame.specs.declared.value.Value.{Value}
use Rattle.ps_frame.specs.declared.value.Value.TheVariants as val
use Rattle.ps_meaning.specs.Steps.{Name}
use Rattle.ps_shares.specs.Leaves.{AllReadAll, ReadsAll}
use Rattle.ps_shares.proofs.Causes.{Known, all_append, all_left, all_right, down_operator, down_zip}
use Rattle.ps_shares.proofs.FlatLength.{neither}
use Rattle.ps_bundles.proofs.ZipEnds.{differ, lost_in}

-- all causes of whole operands show
module _ (Q : Cause → Type 0) where
  abbrev All : List Cause → Type 0
  All xs = AllByRecursion Q xs

  of_all : (cs : List Column) → All (flat_map column_causes cs) → All (lost_in cs) → AllByRecursion (Known Q) cs
  of_all [] h l = tt
  of_all (c ∷ cs) h l =
      let k = all_left Q (column_causes c) (flat_map column_causes cs) h in
      ((all_left Q (flat_map cell_causes c.cells) c.broken k, all_right Q (flat_map cell_causes c.cells) c.broken k, all_left Q c.lost (lost_in cs) l), of_all cs (all_right Q (column_causes c) (flat_map column_causes cs) h) (all_right Q c.lost (lost_in cs) l))

  none_all : (cs : List Column) → list_any has_cause cs ≡ false → All (flat_map column_causes cs)
  none_all [] h = tt
  none_all (c ∷ cs) h =
      let n = neither (has_cause c) (list_any has_cause cs) h in
      all_append Q (column_causes c) (flat_map column_causes cs) (by (column_causes c) n.0) (none_all cs n.1)
    where
      by : (xs : List Cause) → not (is_empty xs) ≡ false → All xs
      by [] h = tt
      by (x ∷ xs) h = absurd (differ h)

  pub down_whole : (f : List (List Value) → Column) (cs : List Column) → Known Q (from_whole f cs) → AllByRecursion (Known Q) cs
  down_whole f cs k = by (list_any has_cause cs) refl k
    where
      by : (b : Bool) → list_any has_cause cs ≡ b
          → Known Q (cond b (record { cells = []; broken = flat_map column_causes cs; lost = lost_in cs }) (record (f (map (λ (c : Column). cell_values c.cells) cs)) { lost = lost_in cs })) → AllByRecursion (Known Q) cs
      by true q k = of_all cs k.1 k.2
      by false q k = of_all cs (none_all cs q) k.2

  module _ (node : ℕ) (t : Table) where
    function_down : (g : FunctionExpr) (e : Tree) → Known Q (eval node t (Tree.function g e)) → Known Q (eval node t e)
    function_down fun.Not e k = (down_operator Q node (λ row. value (not_value (item 0 row))) (eval node t e ∷ []) k).0
    function_down fun.IsNull e k = (down_operator Q node (λ row. value (val.Boolean (is_null (item 0 row)))) (eval node t e ∷ []) k).0
    function_down fun.IsNotNull e k = (down_operator Q node (λ row. value (val.Boolean (not (is_null (item 0 row))))) (eval node t e ∷ []) k).0
    function_down fun.Reverse e k = (down_whole (λ vs. whole_column (reverse (operand 0 vs))) (eval node t e ∷ []) k).0

    height_broken : Known Q (height_column node t) → All t.broken
    height_broken k = by t.broken refl k
      where
        by : (xs : List Cause) → t.broken ≡ xs → Known Q (height_column node t) → All t.broken
        by [] q k = subst All (sym q) tt
        by (x ∷ xs) q k = subst (λ (c : Column). All c.broken) (ap (λ b. cond (is_empty b) (count_column node (length t.rows)) (record { cells = []; broken = t.broken; lost = [] })) q) k.1

    either : (a b : Bool) → (a ≡ false → All t.broken) → (b ≡ false → All t.broken) → (a && b) ≡ false → All t.broken
    either false b f g h = f refl
    either true b f g h = g h

    mutual
      pub input_shows : (e : Tree) → is_independent e ≡ false → Known Q (eval node t e) → All t.broken
      input_shows (Tree.column name) i k = k.1
      input_shows (Tree.literal l) i k = absurd (differ i)
      input_shows (Tree.binary o l r) i k =
          let d = down_operator Q node (λ row. value (binary_value o (item 0 row) (item 1 row))) (eval node t l ∷ eval node t r ∷ []) k in
          either (is_independent l) (is_independent r) (λ q. input_shows l q d.0) (λ q. input_shows r q d.1.0) i
      input_shows (Tree.cast c strict e) i k = input_shows e i (down_operator Q node (λ row. cast_cell node strict (cast_value c (item 0 row))) (eval node t e ∷ []) k).0
      input_shows (Tree.sort d n e) i k = input_shows e i (down_whole (λ vs. whole_column (values_in_order (record { descending = d; nulls_last = n }) (operand 0 vs))) (eval node t e ∷ []) k).0
      input_shows (Tree.sort_by d n e by) i k =
          let z = down_zip Q node (eval node t e ∷ eval_all node t by) (all_append Q (zipped false node (eval node t e ∷ eval_all node t by)).broken (zipped false node (eval node t e ∷ eval_all node t by)).lost k.1 k.2) in
          either (is_independent e) (every_part_of_all reads_no_input by) (λ q. input_shows e q z.0) (λ q. all_input_show by q z.1) i
      input_shows (Tree.gather s e x) i k =
          let d = down_whole (λ vs. record { cells = map (picked node (operand 0 vs)) (operand 1 vs); broken = []; lost = [] }) (eval node t e ∷ eval node t x ∷ []) k in
          either (is_independent e) (is_independent x) (λ q. input_shows e q d.0) (λ q. input_shows x q d.1.0) i
      input_shows (Tree.filter e by) i k =
          let z = down_zip Q node (eval node t e ∷ eval node t by ∷ []) (all_append Q (zipped false node (eval node t e ∷ eval node t by ∷ [])).broken (zipped false node (eval node t e ∷ eval node t by ∷ [])).lost k.1 k.2) in
          either (is_independent e) (is_independent by) (λ q. input_shows e q z.0) (λ q. input_shows by q z.1.0) i
      input_shows (Tree.aggregate a e) i k = input_shows e i (down_whole (λ vs. aggregate_column node a (kind_over t.schema e) (operand 0 vs)) (eval node t e ∷ []) k).0
      input_shows (Tree.ternary p a b) i k =
          let d = down_operator Q node (λ row. value (choice_of (item 0 row) (item 1 row) (item 2 row))) (eval node t p ∷ eval node t a ∷ eval node t b ∷ []) k in
          either (is_independent p) (is_independent a && is_independent b) (λ q. input_shows p q d.0) (λ q. either (is_independent a) (is_independent b) (λ q. input_shows a q d.1.0) (λ q. input_shows b q d.1.1.0) q) i
      input_shows (Tree.function g e) i k = input_shows e i (function_down g e k)
      input_shows (Tree.slice e o l) i k =
          let d = down_whole (λ vs. slice_column node (operand 0 vs) (item 0 (operand 1 vs)) (item 0 (operand 2 vs))) (eval node t e ∷ eval node t o ∷ eval node t l ∷ []) k in
          either (is_independent e) (is_independent o && is_independent l) (λ q. input_shows e q d.0) (λ q. either (is_independent o) (is_independent l) (λ q. input_shows o q d.1.0) (λ q. input_shows l q d.1.1.0) q) i
      input_shows Tree.len i k = height_broken k
      input_shows (Tree.left_out w) i k = absurd (differ i)
      input_shows Tree.missing i k = absurd (differ i)

      all_input_show : (es : Trees) → every_part_of_all reads_no_input es ≡ false → AllByRecursion (Known Q) (eval_all node t es) → All t.broken
      all_input_show Trees.no_trees i k = absurd (differ i)
      all_input_show (Trees.tree e es) i k = either (is_independent e) (every_part_of_all reads_no_input es) (λ q. input_shows e q k.0) (λ q. all_input_show es q k.1) i

-- a name whose column is among the parts of an expression is read
module _ (P : Name → Type 0) (name : Name) where
  abbrev IsPart : List Tree → Type 0
  IsPart parts = list_any (is_column_of name) parts ≡ true

  in_two : (xs ys : List Tree) → (IsPart xs → P name) → (IsPart ys → P name) → IsPart (xs ++ ys) → P name
  in_two xs ys f g h = by (list_any (is_column_of name) xs) refl (sym (list_any-append (is_column_of name) xs ys) ∙ h)
    where
      by : (b : Bool) → list_any (is_column_of name) xs ≡ b → (list_any (is_column_of name) xs || list_any (is_column_of name) ys) ≡ true → P name
      by true q h = f q
      by false q h = g (sym (ap (λ b. b || list_any (is_column_of name) ys) q) ∙ h)

  mutual
    pub is_read : (e : Tree) → ReadsAll P e → IsPart (tree_parts e) → P name
    is_read (Tree.column n) h k = by (bytes_eq name n) refl k
      where
        by : (b : Bool) → bytes_eq name n ≡ b → (bytes_eq name n || false) ≡ true → P name
        by true q k = subst P (sym ((bytes_decides name n).0 q)) h
        by false q k = absurd (differ (sym (sym (ap (λ b. b || false) q) ∙ k)))
    is_read (Tree.literal l) h k = absurd (differ (sym k))
    is_read (Tree.binary o l r) h k = in_two (tree_parts l) (tree_parts r) (is_read l h.0) (is_read r h.1) k
    is_read (Tree.cast c strict e) h k = is_read e h k
    is_read (Tree.sort d n e) h k = is_read e h k
    is_read (Tree.sort_by d n e by) h k = in_two (tree_parts e) (trees_parts by) (is_read e h.0) (are_read by h.1) k
    is_read (Tree.gather s e i) h k = in_two (tree_parts e) (tree_parts i) (is_read e h.0) (is_read i h.1) k
    is_read (Tree.filter e by) h k = in_two (tree_parts e) (tree_parts by) (is_read e h.0) (is_read by h.1) k
    is_read (Tree.aggregate a e) h k = is_read e h k
    is_read (Tree.ternary p a b) h k = in_two (tree_parts p) (tree_parts a ++ tree_parts b) (is_read p h.0) (in_two (tree_parts a) (tree_parts b) (is_read a h.1) (is_read b h.2)) k
    is_read (Tree.function g e) h k = is_read e h k
    is_read (Tree.slice e o l) h k = in_two (tree_parts e) (tree_parts o ++ tree_parts l) (is_read e h.0) (in_two (tree_parts o) (tree_parts l) (is_read o h.1) (is_read l h.2)) k
    is_read Tree.len h k = absurd (differ (sym k))
    is_read (Tree.left_out w) h k = absurd (differ (sym k))
    is_read Tree.missing h k = absurd (differ (sym k))

    are_read : (es : Trees) → AllReadAll P es → IsPart (trees_parts es) → P name
    are_read Trees.no_trees h k = absurd (differ (sym k))
    are_read (Trees.tree e es) h k = in_two (tree_parts e) (trees_parts es) (is_read e h.0) (are_read es h.1) k
