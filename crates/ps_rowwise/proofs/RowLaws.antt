-- What follows where the column of an expression goes row by row.
use Rattle.std.proofs.Common.{◌≡◌, ℕ, List, [], ◌∷◌, ◌++◌, length, refl, sym, ap, subst, ◌∙◌}
use Rattle.std.proofs.lemmas.List.{append-nil, length-map, map-append}
use Rattle.std.specs.Prelude.{Bool, true, false, not, map, IsTrue}
use Rattle.std.specs.List.{flat_map}
use Rattle.ps_frame.specs.Causes.{Cause, Cell, Column, is_empty}
use Rattle.ps_frame.specs.Eval.{eval}
use Rattle.ps_frame.specs.Tables.{Fields, Table}
use Rattle.ps_frame.specs.Trees.{Tree}
use Rattle.ps_frame.specs.Typing.{is_elementwise, is_independent}
use Rattle.ps_frame.specs.declared.value.Value.{Value}
use Rattle.ps_meaning.proofs.Begins.{begins-map}
use Rattle.ps_rowwise.specs.Rows.{AreParts, Begins, GoesByRow, HasKind, IsFront, row_alone}
use Rattle.ps_rowwise.proofs.ByRow.{cell_for, goes-by}
use Rattle.ps_rowwise.proofs.Ignoring.{same-column}
use Rattle.ps_rowwise.proofs.Standing.{Stands}

-- a cell for each row
pub spreads : (node : ℕ) (T : Table) (t : Tree) → GoesByRow T.schema t → Stands T.rows (not (is_empty T.broken)) false (eval node T t) (cell_for node T.schema t)
spreads node T t g =
    subst (λ b. Stands T.rows (not (is_empty T.broken)) b (eval node T t) (cell_for node T.schema t)) g.reads_input (goes-by node T.schema T.rows T.broken t g.elementwise g.kind)

alone : (node : ℕ) (s : Fields) (t : Tree) → GoesByRow s t → (rows : List (List Value)) → flat_map (λ row. (eval node (row_alone s row) t).cells) rows ≡ map (cell_for node s t) rows
alone node s t g [] = refl
alone node s t g (r ∷ rows) = λ i. (spreads node (row_alone s r) t g).0 i ++ alone node s t g rows i

pub cells-alone : (node : ℕ) (T : Table) (t : Tree) → GoesByRow T.schema t → (eval node T t).cells ≡ flat_map (λ row. (eval node (row_alone T.schema row) t).cells) T.rows
cells-alone node T t g = (spreads node T t g).0 ∙ sym (alone node T.schema t g T.rows)

pub cell-each : (node : ℕ) (T : Table) (t : Tree) → GoesByRow T.schema t → length (eval node T t).cells ≡ length T.rows
cell-each node T t g = ap length (spreads node T t g).0 ∙ length-map T.rows (cell_for node T.schema t)

empty-from : (cs ds : List Cause) → not (is_empty cs) ≡ not (is_empty ds) → ds ≡ [] → cs ≡ []
empty-from [] ds e h = refl
empty-from (c ∷ cs) ds e h = let q = ap (λ ds. not (is_empty ds)) h in cc

pub ends-with : (node : ℕ) (T : Table) (t : Tree) → GoesByRow T.schema t → T.broken ≡ [] → (eval node T t).broken ≡ []
ends-with node T t g = empty-from (eval node T t).broken T.broken (spreads node T t g).1

pub ended-only : (node : ℕ) (T : Table) (t : Tree) → GoesByRow T.schema t → (eval node T t).broken ≡ [] → T.broken ≡ []
ended-only node T t g = empty-from T.broken (eval node T t).broken (sym (spreads node T t g).1)

-- cells of one schema's rows
cells-of : (node : ℕ) (s : Fields) (p : Table) (t : Tree) → p.schema ≡ s → GoesByRow s t → (eval node p t).cells ≡ map (cell_for node s t) p.rows
cells-of node s p t e g =
    subst (λ s. GoesByRow s t → (eval node p t).cells ≡ map (cell_for node s t) p.rows) e (λ g. (spreads node p t g).0) g

pub parts-apart : (node : ℕ) (p q T : Table) (t : Tree) → GoesByRow T.schema t → AreParts p q T → (eval node p t).cells ++ (eval node q t).cells ≡ (eval node T t).cells
parts-apart node p q T t g a =
    (λ i. cells-of node T.schema p t a.first_schema g i ++ cells-of node T.schema q t a.second_schema g i)
    ∙ sym (map-append (cell_for node T.schema t) p.rows q.rows)
    ∙ ap (map (cell_for node T.schema t)) a.rows
    ∙ sym (spreads node T t g).0

pub front-begins : (node : ℕ) (p T : Table) (t : Tree) → IsTrue (is_elementwise t) → HasKind T.schema t → IsFront p T → Begins (eval node p t).cells (eval node T t).cells
front-begins node p T t h k f = by (is_independent t) refl
  where
    by : (b : Bool) → is_independent t ≡ b → Begins (eval node p t).cells (eval node T t).cells
    by true q = ([], append-nil (eval node p t).cells ∙ ap (λ (c : Column). c.cells) (same-column node p T t q))
    by false q =
        let g : GoesByRow T.schema t = record { elementwise = h; reads_input = q; kind = k } in
        let b = begins-map (cell_for node T.schema t) p.rows T.rows f.rows in
        (b.0, ap (λ cs. cs ++ b.0) (cells-of node T.schema p t f.schema g) ∙ b.1 ∙ sym (spreads node T t g).0)

pub one-cell : (node : ℕ) (T : Table) (t : Tree) → IsTrue (is_elementwise t) → IsTrue (is_independent t) → HasKind T.schema t → (c : Cell) × (eval node T t ≡ record { cells = c ∷ []; broken = []; lost = [] })
one-cell node T t h i k =
    let st = subst (λ b. Stands T.rows (not (is_empty T.broken)) b (eval node T t) (cell_for node T.schema t)) i (goes-by node T.schema T.rows T.broken t h k) in
    (cell_for node T.schema t [], st.0)
