-- The value of an aggregate over the table of a group.
use Rattle.std.proofs.Common.{◌≡◌, ℕ, zero, suc, ◌+◌, ◌<◌, List, [], ◌∷◌, ◌++◌, length, get_or, map, take, refl, sym, ap, subst, ◌∙◌, inl, inr, arith}
use Rattle.std.specs.Prelude.{Contains, flat_map, unwrap_or, IsTrue, Option, None, Some, Result, Ok, Err}
use Rattle.std.specs.List.{All}
use Rattle.std.proofs.lemmas.Bool.{cases_eq}
use Rattle.std.proofs.lemmas.List.{map_more}
use Rattle.std.proofs.lemmas.List.Elements.{Contains-append_left, Contains-append_right}
use Rattle.std.proofs.lemmas.Option.{same_Some}
use Rattle.ps_expr_eval.specs.Held.{IsOneOf, Keeps, cells_of, first_bad, first_fault, held_cell, held_values, or_else}
use Rattle.ps_expr_eval.specs.declared.computed.ComputedColumn.{ComputedColumn}
use Rattle.ps_frame.proofs.Lists.{and_both}
use Rattle.ps_frame.specs.Causes.{Cause, Cell, Column, value, faulty, cell_causes, cell_value, column_causes}
use Rattle.ps_frame.specs.Eval.{eval}
use Rattle.ps_frame.specs.Evaluated.{IsFaultOf}
use Rattle.ps_frame.specs.Lawful.{FitsFrame}
use Rattle.ps_frame.specs.Tables.{Frame, whole}
use Rattle.ps_frame.specs.Trees.{Tree}
use Rattle.ps_frame.specs.Series.{all_fit}
use Rattle.ps_frame.specs.Typing.{kind_over}
use Rattle.ps_frame.specs.Values.{fits_kind}
use Rattle.ps_frame.specs.declared.value.DataFault.{DataFault}
use Rattle.ps_frame.specs.declared.value.DataType.{DataType}
use Rattle.ps_frame.specs.declared.value.Value.{Value}
use Rattle.ps_frame.specs.declared.value.Value.TheVariants as val
use Rattle.ps_meaning.proofs.EvalFits.{eval-fits}
use Rattle.ps_meaning.proofs.Fits.{CellFits, all-get, null-fits}
use Rattle.ps_meaning.proofs.StepFits.{all-flat}
use Rattle.ps_meaning.specs.Groups.{only_value}
use Rattle.ps_zip.proofs.CausesAt.{AreAt, ColumnAt, CellAt, eval-at, fault-at}
use Rattle.ps_groups.specs.Grouped.{GivesFirst, IsFaultOver, IsValueOf}

no-first : (o p : Option DataFault) → or_else o p ≡ None → (o ≡ None) × (p ≡ None)
no-first None p e = (refl, e)
no-first (Some f) p e = cc

-- cells of which none is faulty have no causes, and their first value is held
clean-cells : (cells : List Cell) → first_bad (map held_cell cells) ≡ None → flat_map cell_causes cells ≡ []
clean-cells [] e = refl
clean-cells (value v ∷ cells) e = clean-cells cells e
clean-cells (faulty c cs ∷ cells) e = cc

first-held : (cells : List Cell) → first_bad (map held_cell cells) ≡ None → get_or (held_values (map held_cell cells)) 0 val.Null ≡ unwrap_or (cell_value (get_or cells 0 (value val.Null))) val.Null
first-held [] e = refl
first-held (value v ∷ cells) e = refl
first-held (faulty c cs ∷ cells) e = cc

-- the fault of the first faulty cell is one of theirs
bad-cells : (cells : List Cell) (f : DataFault) → first_bad (map held_cell cells) ≡ Some f → IsFaultOf (flat_map cell_causes cells) f
bad-cells [] f e = cc
bad-cells (value v ∷ cells) f e = bad-cells cells f e
bad-cells (faulty c cs ∷ cells) f e = inl (sym (same_Some c.fault f e))

module _ (at : ℕ) (p : ComputedColumn) (c : Column) (keeps : Keeps p c) where
  held-bad : first_bad (map held_cell c.cells) ≡ first_bad (cells_of p.cells)
  held-bad = ap first_bad (sym keeps.cells)

  clean-column : first_fault p ≡ None → column_causes c ≡ []
  clean-column e =
      let both = no-first p.fault (first_bad (cells_of p.cells)) e in
      let ended : c.broken ≡ [] = subst (IsOneOf c.broken) both.0 keeps.ended in
      ap (λ cs. cs ++ c.broken) (clean-cells c.cells (held-bad ∙ both.1)) ∙ ended

  first-of-column : first_fault p ≡ None → get_or (held_values (cells_of p.cells)) 0 val.Null ≡ only_value c
  first-of-column e =
      let both = no-first p.fault (first_bad (cells_of p.cells)) e in
      ap (λ cs. get_or (held_values cs) 0 val.Null) keeps.cells ∙ first-held c.cells (held-bad ∙ both.1)

  fault-of-column : (f : DataFault) → ColumnAt at c → first_fault p ≡ Some f → Contains (column_causes c) (record { fault = f; node = at })
  fault-of-column f here e = by p.fault refl
    where
      by : (o : Option DataFault) → p.fault ≡ o → Contains (column_causes c) (record { fault = f; node = at })
      by (Some g) is =
          let same : g ≡ f = same_Some g f (sym (ap (λ o. or_else o (first_bad (cells_of p.cells))) is) ∙ e) in
          let ended : IsFaultOf c.broken f = subst (IsFaultOf c.broken) same (subst (IsOneOf c.broken) is keeps.ended) in
          Contains-append_right (flat_map cell_causes c.cells) c.broken (record { fault = f; node = at }) (fault-at at c.broken f here.ended ended)
      by None is =
          let bad : first_bad (cells_of p.cells) ≡ Some f = sym (ap (λ o. or_else o (first_bad (cells_of p.cells))) is) ∙ e in
          let found = bad-cells c.cells f (held-bad ∙ bad) in
          let all : AreAt at (flat_map cell_causes c.cells) = all-flat (λ (x : Cause). x.node ≡ at) (CellAt at) cell_causes (λ x k. k) c.cells here.cells in
          Contains-append_left (flat_map cell_causes c.cells) c.broken (record { fault = f; node = at }) (fault-at at (flat_map cell_causes c.cells) f all found)

-- what is held of an expression's column gives its value or its fault
pub value-of : (at : ℕ) (f : Frame) (t : Tree) (p : ComputedColumn) → Keeps p (eval at (whole f) t) → (outcome : Result Value DataFault) → GivesFirst p outcome → IsValueOf at f t outcome
value-of at f t p keeps (Ok v) g = (clean-column at p (eval at (whole f) t) keeps g.0, g.1 ∙ first-of-column at p (eval at (whole f) t) keeps g.0)
value-of at f t p keeps (Err e) g = fault-of-column at p (eval at (whole f) t) keeps e (eval-at at f t) g

-- the values of an expression over tables are of its kind
module _ (at : ℕ) (k : DataType) (t : Tree) where
  cell-fits : (c : Cell) → CellFits k c → IsTrue (fits_kind k (unwrap_or (cell_value c) val.Null))
  cell-fits (value v) h = h
  cell-fits (faulty c cs) h = null-fits k

  value-fits : (f : Frame) → FitsFrame f → kind_over f.schema t ≡ Some k → IsTrue (fits_kind k (only_value (eval at (whole f) t)))
  value-fits f fits q =
      let cells = (eval at (whole f) t).cells in
      cell-fits (get_or cells 0 (value val.Null)) (all-get (CellFits k) cells 0 (value val.Null) (eval-fits at (whole f) fits t k q) (null-fits k))

  pub values-fit : (tables : List Frame) → All FitsFrame tables → All (λ f. kind_over f.schema t ≡ Some k) tables → IsTrue (all_fit k (map (λ f. only_value (eval at (whole f) t)) tables))
  values-fit [] fits kinds = refl
  values-fit (f ∷ fs) fits kinds =
      and_both (fits_kind k (only_value (eval at (whole f) t))) (all_fit k (map (λ g. only_value (eval at (whole g) t)) fs))
      (value-fits f (fits 0 f (omega arith)) (kinds 0 f (omega arith)))
      (values-fit fs (λ i d within. fits (suc i) d (omega arith)) (λ i d within. kinds (suc i) d (omega arith)))

-- a fault over the table of one group is one over some table
pub fault-over : (at : ℕ) (t : Tree) (tables : List Frame) (i : ℕ) (e : DataFault) → i < length tables → ((f : Frame) → Contains (column_causes (eval at (whole (get_or tables i f)) t)) (record { fault = e; node = at })) → IsFaultOver at tables t e
fault-over at t tables i e within faulty_at =
    let none : Frame = record { schema = []; rows = [] } in
    (i, get_or tables i none, within, any-default tables i within, faulty_at none)
  where
    any-default : (xs : List Frame) (i : ℕ) → i < length xs → get_or xs i (get_or xs i (record { schema = []; rows = [] })) ≡ get_or xs i (record { schema = []; rows = [] })
    any-default [] i within = absurd (omega arith)
    any-default (x ∷ xs) zero within = refl
    any-default (x ∷ xs) (suc i) within = any-default xs i (omega arith)

-- so far nothing is faulty
pub clean-more : (P : Frame → Type 0) (tables : List Frame) (i : ℕ) → ((k : ℕ) (d : Frame) → k < i → P (get_or tables k d)) → ((d : Frame) → P (get_or tables i d)) → (k : ℕ) (d : Frame) → k < i + 1 → P (get_or tables k d)
clean-more P tables i before here k d within = elim (cases_eq i k) [
  | inl same ↦ subst (λ n. P (get_or tables n d)) same (here d)
  | inr other ↦ before k d (omega arith)
]

-- one value more
pub values-more : (at : ℕ) (t : Tree) (tables : List Frame) (i : ℕ) (v : Value) (old new : List Value) → i < length tables → old ≡ map (λ f. only_value (eval at (whole f) t)) (take i tables) → ((f : Frame) → v ≡ only_value (eval at (whole (get_or tables i f)) t))
    → new ≡ old ++ v ∷ [] → new ≡ map (λ f. only_value (eval at (whole f) t)) (take (i + 1) tables)
values-more at t tables i v old new within before is grown =
    let none : Frame = record { schema = []; rows = [] } in
    let one : Frame → Value = λ f. only_value (eval at (whole f) t) in
    grown ∙ ap (λ vs. vs ++ v ∷ []) before ∙ ap (λ x. map one (take i tables) ++ x ∷ []) (is none) ∙ sym (map_more one tables i none within)
