-- The columns of a table and of elementwise expressions go row by row.
use Rattle.std.proofs.Common.{◌≡◌, ℕ, List, [], ◌∷◌, ◌++◌, refl, sym, ap, subst, ◌∙◌}
use Rattle.std.proofs.lemmas.Simd.{map-map}
use Rattle.std.specs.Prelude.{false, not, ◌&&◌, map, is_some, IsTrue}
use Rattle.std.specs.List.{AllByRecursion, list_all}
use Rattle.ps_frame.specs.Causes.{Cause, Cell, Column, value}
use Rattle.ps_frame.specs.Eval.{at, eval}
use Rattle.ps_frame.specs.Operators.{binary_value, cast_cell, cast_value, choice_of, not_value}
use Rattle.ps_frame.specs.Tables.{Fields, column_at}
use Rattle.ps_frame.specs.Trees.{Tree}
use Rattle.ps_frame.specs.Typing.{is_elementwise, is_independent, kind_over}
use Rattle.ps_frame.specs.Values.{is_null}
use Rattle.ps_frame.specs.declared.expr.FunctionExpr.{FunctionExpr}
use Rattle.ps_frame.specs.declared.expr.FunctionExpr.TheVariants as fun
use Rattle.ps_frame.specs.declared.value.Value.{Value}
use Rattle.ps_frame.specs.declared.value.Value.TheVariants as val
use Rattle.ps_rowwise.specs.Rows.{HasKind}
use Rattle.ps_rowwise.proofs.ByRow.{binary-kinds, both, cast-kinds, cell_for, function-kinds, goes-by, ternary-kinds}
use Rattle.passing_laws.proofs.Goers.{AllGo, Goer, Goes, IsClean, combined, combined-goes}

-- the column at a place
abbrev pub column_goer : Fields → ℕ → Goer
column_goer s i = record { lone = false; cell = λ r. value (at i r); over = λ rows causes. column_at i (record { schema = s; rows = rows; broken = causes }) }

pub column-goes : (s : Fields) (i : ℕ) → Goes (column_goer s i)
column-goes s i = record { stands = λ rows causes. (map-map value (λ r. at i r) rows, refl, λ some. refl); keeps = λ a rows causes h. refl; loses = λ r h rows causes. refl }

pub columns-go : (s : Fields) (is : List ℕ) → AllGo (map (column_goer s) is)
columns-go s [] = tt
columns-go s (i ∷ is) = (column-goes s i, columns-go s is)

module _ (node : ℕ) (s : Fields) where
  abbrev pub tree_goer : Tree → Goer
  tree_goer t = record { lone = is_independent t; cell = cell_for node s t; over = λ rows causes. eval node (record { schema = s; rows = rows; broken = causes }) t }

  -- an expression of an operator goes row by row where its operands do
  of-combined : (t : Tree) → IsTrue (is_elementwise t) → HasKind s t → (f : List Value → Cell) (gs : List Goer) → ((rows : List (List Value)) (causes : List Cause) → (combined node f gs).over rows causes ≡ (tree_goer t).over rows causes)
      → (combined node f gs).cell ≡ (tree_goer t).cell → AllGo gs → Goes (tree_goer t)
  of-combined t h k f gs same cells all =
      let g = combined-goes node f gs all in
      record {
        stands = λ rows causes. goes-by node s rows causes t h k;
        keeps = λ a rows causes clean.
            ap (λ (d : Column). d.broken) (sym (same (a ++ rows) causes))
            ∙ g.keeps a rows causes (subst (λ (c : List Value → Cell). AllByRecursion (IsClean c) a) (sym cells) clean)
            ∙ ap (λ (d : Column). d.broken) (same rows causes);
        loses = λ r clean rows causes. ap (λ (d : Column). d.lost) (sym (same rows causes)) ∙ g.loses r (subst (λ (c : List Value → Cell). IsClean c r) (sym cells) clean) rows causes;
      }

  function-goes : (g : FunctionExpr) (t : Tree) → IsTrue (is_elementwise (Tree.function g t)) → HasKind s (Tree.function g t) → Goes (tree_goer t) → Goes (tree_goer (Tree.function g t))
  function-goes fun.Not t h k a = of-combined (Tree.function fun.Not t) h k (λ row. value (not_value (at 0 row))) (tree_goer t ∷ []) (λ rows causes. refl) refl (a, tt)
  function-goes fun.IsNull t h k a = of-combined (Tree.function fun.IsNull t) h k (λ row. value (val.Boolean (is_null (at 0 row)))) (tree_goer t ∷ []) (λ rows causes. refl) refl (a, tt)
  function-goes fun.IsNotNull t h k a = of-combined (Tree.function fun.IsNotNull t) h k (λ row. value (val.Boolean (not (is_null (at 0 row))))) (tree_goer t ∷ []) (λ rows causes. refl) refl (a, tt)
  function-goes fun.Reverse t h k a = cc

  pub tree-goes : (t : Tree) → IsTrue (is_elementwise t) → HasKind s t → Goes (tree_goer t)
  tree-goes (Tree.column name) h k = record { stands = λ rows causes. goes-by node s rows causes (Tree.column name) h k; keeps = λ a rows causes c. refl; loses = λ r c rows causes. refl }
  tree-goes (Tree.literal l) h k = record { stands = λ rows causes. goes-by node s rows causes (Tree.literal l) h k; keeps = λ a rows causes c. refl; loses = λ r c rows causes. refl }
  tree-goes (Tree.binary o l r) h k =
      let p = both (is_elementwise l) (is_elementwise r) h in
      let q = binary-kinds o (kind_over s l) (kind_over s r) k in
      of-combined (Tree.binary o l r) h k (λ row. value (binary_value o (at 0 row) (at 1 row))) (tree_goer l ∷ tree_goer r ∷ []) (λ rows causes. refl) refl
      (tree-goes l p.0 q.0, (tree-goes r p.1 q.1, tt))
  tree-goes (Tree.cast to strict e) h k =
      of-combined (Tree.cast to strict e) h k (λ row. cast_cell node strict (cast_value to (at 0 row))) (tree_goer e ∷ []) (λ rows causes. refl) refl
      (tree-goes e h (cast-kinds to (kind_over s e) k), tt)
  tree-goes (Tree.ternary p a b) h k =
      let i = both (is_elementwise p) (is_elementwise a && is_elementwise b) h in
      let j = both (is_elementwise a) (is_elementwise b) i.1 in
      let q = ternary-kinds (kind_over s p) (kind_over s a) (kind_over s b) k in
      of-combined (Tree.ternary p a b) h k (λ row. value (choice_of (at 0 row) (at 1 row) (at 2 row))) (tree_goer p ∷ tree_goer a ∷ tree_goer b ∷ []) (λ rows causes. refl) refl
      (tree-goes p i.0 q.0, (tree-goes a j.0 q.1, (tree-goes b j.1 q.2, tt)))
  tree-goes (Tree.function g e) h k = function-goes g e h k (tree-goes e (both _ (is_elementwise e) h).1 (function-kinds g (kind_over s e) k))
  tree-goes (Tree.sort d n e) h k = cc
  tree-goes (Tree.sort_by d n e by) h k = cc
  tree-goes (Tree.gather b e i) h k = cc
  tree-goes (Tree.filter e by) h k = cc
  tree-goes (Tree.aggregate a e) h k = cc
  tree-goes (Tree.slice e o l) h k = cc
  tree-goes Tree.len h k = cc
  tree-goes (Tree.left_out w) h k = cc
  tree-goes Tree.missing h k = cc

  -- each of several
  pub trees-go : (es : List Tree) → IsTrue (list_all is_elementwise es) → IsTrue (list_all (λ e. is_some (kind_over s e)) es) → AllGo (map tree_goer es)
  trees-go [] h k = tt
  trees-go (e ∷ es) h k =
      let p = both (is_elementwise e) (list_all is_elementwise es) h in
      let q = both (is_some (kind_over s e)) (list_all (λ e. is_some (kind_over s e)) es) k in
      (tree-goes e p.0 q.0, trees-go es p.1 q.1)
