-- An elementwise expression makes one cause alone: that of a strict cast, at its node.
use Rattle.std.proofs.Common.{◌≡◌, ℕ, ◌⊎◌, List, [], ◌∷◌, ◌++◌, refl, sym, subst, inl, inr}
use Rattle.std.specs.Prelude.{Bool, true, false, Contains, flat_map, map, not, IsTrue, Option, Some, None}
use Rattle.std.specs.List.{AllByRecursion}
use Rattle.ps_frame.specs.Causes.{Cause, Cell, Column, cell_causes, cell_values, column_causes, faulty_or, is_empty}
use Rattle.ps_frame.specs.Eval.{at, eval}
use Rattle.ps_frame.specs.Operators.{cast_cell, cast_value}
use Rattle.ps_frame.specs.Tables.{Fields, Row, field_index}
use Rattle.ps_frame.specs.Trees.{Tree}
use Rattle.ps_frame.specs.Typing.{is_elementwise, is_independent}
use Rattle.ps_frame.specs.Zip.{row_causes}
use Rattle.ps_frame.specs.declared.expr.FunctionExpr.{FunctionExpr}
use Rattle.ps_frame.specs.declared.expr.FunctionExpr.TheVariants as fun
use Rattle.ps_frame.specs.declared.value.Value.{Value}
use Rattle.ps_rowwise.specs.Rows.{HasKind}
use Rattle.ps_rowwise.proofs.ByRow.{cell_for, function_cell, goes-by, place_cell}
use Rattle.ps_rowwise.proofs.Standing.{Stands}
use Rattle.passing_laws.proofs.PartFaults.{tree-shows}
use Rattle.passing_laws.proofs.Shows.{among-either}
use Rattle.passing_laws.proofs.ZipPieces.{table_with}
use Rattle.part_laws.specs.Parts.{strict_cause}
use Rattle.part_laws.proofs.Members.{all-at, out-flat, out-map}
use Rattle.world_laws.proofs.InOrder.{none_in_nil}

-- all of these are the cause of a strict cast at the node
abbrev pub AllStrict : ℕ → List Cause → Type 0
AllStrict node cs = AllByRecursion (λ c. c ≡ strict_cause node) cs

both-strict : (node : ℕ) (xs ys : List Cause) → AllStrict node xs → AllStrict node ys → AllStrict node (xs ++ ys)
both-strict node [] ys h k = k
both-strict node (x ∷ xs) ys h k = (h.0, both-strict node xs ys h.1 k)

or-strict : (node : ℕ) (xs : List Cause) (c : Cell) → AllStrict node xs → AllStrict node (cell_causes c) → AllStrict node (cell_causes (faulty_or xs c))
or-strict node [] c h k = k
or-strict node (x ∷ xs) c h k = h

cast-strict : (node : ℕ) (strict : Bool) (o : Option Value) → AllStrict node (cell_causes (cast_cell node strict o))
cast-strict node strict (Some v) = tt
cast-strict node true None = (refl, tt)
cast-strict node false None = tt

place-strict : (node : ℕ) (s : Fields) (o : Option ℕ) (r : List Value) → AllStrict node (cell_causes (place_cell node s o r))
place-strict node s None r = tt
place-strict node s (Some i) r = tt

function-strict : (node : ℕ) (s : Fields) (g : FunctionExpr) (c : Cell) → AllStrict node (cell_causes c) → AllStrict node (cell_causes (function_cell node s g c))
function-strict node s fun.Not c h = or-strict node (row_causes (c ∷ [])) _ (both-strict node (cell_causes c) [] h tt) tt
function-strict node s fun.IsNull c h = or-strict node (row_causes (c ∷ [])) _ (both-strict node (cell_causes c) [] h tt) tt
function-strict node s fun.IsNotNull c h = or-strict node (row_causes (c ∷ [])) _ (both-strict node (cell_causes c) [] h tt) tt
function-strict node s fun.Reverse c h = h

-- the cell that it gives to a row
pub cell-strict : (node : ℕ) (s : Fields) (t : Tree) (r : List Value) → AllStrict node (cell_causes (cell_for node s t r))
cell-strict node s (Tree.column name) r = place-strict node s (field_index name s) r
cell-strict node s (Tree.literal l) r = tt
cell-strict node s (Tree.binary o l r') r =
    or-strict node (row_causes (cell_for node s l r ∷ cell_for node s r' r ∷ [])) _
    (both-strict node (cell_causes (cell_for node s l r)) _ (cell-strict node s l r) (both-strict node (cell_causes (cell_for node s r' r)) [] (cell-strict node s r' r) tt)) tt
cell-strict node s (Tree.cast k strict e) r =
    or-strict node (row_causes (cell_for node s e r ∷ [])) _ (both-strict node (cell_causes (cell_for node s e r)) [] (cell-strict node s e r) tt) (cast-strict node strict (cast_value k (at 0 (cell_values (cell_for node s e r ∷ [])))))
cell-strict node s (Tree.ternary p a b) r =
    or-strict node (row_causes (cell_for node s p r ∷ cell_for node s a r ∷ cell_for node s b r ∷ [])) _
    (both-strict node (cell_causes (cell_for node s p r)) _ (cell-strict node s p r)
    (both-strict node (cell_causes (cell_for node s a r)) _ (cell-strict node s a r) (both-strict node (cell_causes (cell_for node s b r)) [] (cell-strict node s b r) tt))) tt
cell-strict node s (Tree.function g e) r = function-strict node s g (cell_for node s e r) (cell-strict node s e r)
cell-strict node s (Tree.sort d n e) r = tt
cell-strict node s (Tree.sort_by d n e by) r = tt
cell-strict node s (Tree.gather b e i) r = tt
cell-strict node s (Tree.filter e by) r = tt
cell-strict node s (Tree.aggregate a e) r = tt
cell-strict node s (Tree.slice e o l) r = tt
cell-strict node s Tree.len r = tt
cell-strict node s (Tree.left_out w) r = tt
cell-strict node s Tree.missing r = tt

cell-is : (node : ℕ) (s : Fields) (t : Tree) (r : List Value) (c : Cause) → Contains (cell_causes (cell_for node s t r)) c → c ≡ strict_cause node
cell-is node s t r c h = all-at (λ c. c ≡ strict_cause node) (cell_causes (cell_for node s t r)) c (cell-strict node s t r) h

no-end : (xs : List Cause) → not (is_empty xs) ≡ false → xs ≡ []
no-end [] h = refl
no-end (x ∷ xs) h = cc

-- Over rows that nothing ended its column has no other cause, and loses none.
module _ (node : ℕ) (s : Fields) (t : Tree) (h : IsTrue (is_elementwise t)) (k : HasKind s t) (rows : List Row) where
  pub column-is : (c : Cause) → Contains (column_causes (eval node (table_with s rows []) t)) c → c ≡ strict_cause node
  column-is c m = by (is_independent t) (eval node (table_with s rows []) t) (goes-by node s rows [] t h k) m
    where
      lone : Contains (cell_causes (cell_for node s t []) ++ []) c ⊎ Contains [] c → c ≡ strict_cause node
      lone (inl x) = alone (among-either (cell_causes (cell_for node s t [])) [] c x)
        where
          alone : Contains (cell_causes (cell_for node s t [])) c ⊎ Contains [] c → c ≡ strict_cause node
          alone (inl y) = cell-is node s t [] c y
          alone (inr y) = absurd (none_in_nil c y)
      lone (inr x) = absurd (none_in_nil c x)

      many : (w : Column) → w.cells ≡ map (cell_for node s t) rows → w.broken ≡ [] → Contains (flat_map cell_causes w.cells) c ⊎ Contains w.broken c → c ≡ strict_cause node
      many w e q (inl x) =
          let f = out-flat cell_causes (map (cell_for node s t) rows) c (subst (λ cells. Contains (flat_map cell_causes cells) c) e x) in
          let r = out-map (cell_for node s t) rows f.0 f.1 in
          cell-is node s t r.0 c (subst (λ cell. Contains (cell_causes cell) c) (sym r.2) f.2)
      many w e q (inr x) = absurd (none_in_nil c (subst (λ cs. Contains cs c) q x))

      by : (b : Bool) (w : Column) → Stands rows false b w (cell_for node s t) → Contains (column_causes w) c → c ≡ strict_cause node
      by true w st x = lone (among-either (cell_causes (cell_for node s t []) ++ []) [] c (subst (λ (w : Column). Contains (column_causes w) c) st.0 x))
      by false w st x = many w st.0 (no-end w.broken st.1) (among-either (flat_map cell_causes w.cells) w.broken c x)

-- what it loses over no rows is that cause as well
pub lost-is : (node : ℕ) (s : Fields) (t : Tree) → IsTrue (is_elementwise t) → HasKind s t → (c : Cause) → Contains (eval node (table_with s [] []) t).lost c → c ≡ strict_cause node
lost-is node s t h k c m = cell-is node s t [] c ((tree-shows node s t h k).lost_shows c [] m)

-- over rows it loses nothing
pub lost-over : (node : ℕ) (s : Fields) (t : Tree) → IsTrue (is_elementwise t) → HasKind s t → (rows : List Row) (c : Cause) → Contains (eval node (table_with s rows []) t).lost c → c ≡ strict_cause node
lost-over node s t h k [] c m = lost-is node s t h k c m
lost-over node s t h k (x ∷ rows) c m = by (is_independent t) (eval node (table_with s (x ∷ rows) []) t) (goes-by node s (x ∷ rows) [] t h k) m
  where
    by : (b : Bool) (w : Column) → Stands (x ∷ rows) false b w (cell_for node s t) → Contains w.lost c → c ≡ strict_cause node
    by true w st y = absurd (none_in_nil c (subst (λ (w : Column). Contains w.lost c) st.0 y))
    by false w st y = absurd (none_in_nil c (subst (λ cs. Contains cs c) (st.2 (λ e. cc)) y))
