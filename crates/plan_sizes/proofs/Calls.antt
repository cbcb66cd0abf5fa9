-- What the calls of a step insert: those for expressions, selects, columns and slices.
use Rattle.std.proofs.Common.{◌≡◌, ℕ, ◌+◌, ◌*◌, ◌≤◌, Bool, true, false, cond, List, [], ◌∷◌, ◌++◌, length, Some, None, refl, sym, ap, ◌∙◌, subst, arith, length-append}
use Rattle.std.specs.Prelude.{ℤ, map}
use Rattle.std.specs.List.{list_all}
use Rattle.ps_frame.specs.Tables.{Fields}
use Rattle.ps_frame.specs.Trees.{Tree}
use Rattle.ps_frame.specs.Typing.{is_elementwise}
use Rattle.ps_meaning.specs.Shape.{PhysicalKind, PhysicalNode, select_node}
use Rattle.ps_meaning.specs.Steps.{Cut, Name, Named, exprs_of}
use Rattle.ps_rules.specs.Calls.{Answer, Operand, all_independent, exprs_of_all}
use Rattle.ps_rules.specs.Counted.{occurrences_in}
use Rattle.ps_rules.specs.Lowered.{as_operand, lower_exprs, select_stream}
use Rattle.ps_rules.specs.Rules.{NamedOperand, answered, are_own_columns, computed, names_of_items, operands_of}
use Rattle.ps_rules.specs.Slots.{Made, State, Stream, columns_named, insert_node, over, selected_schema, schema_at, under, with_columns, without_input}
use Rattle.lowering_parts.proofs.Sizes.{HaveCosts, answered_adds, columns_add, operands_cost, selected_adds}
use Rattle.plan_rules.specs.Groups.{own_columns}
use Rattle.plan_rules.specs.Slices.{cut_stream, slice_kind, slice_stream}
use Rattle.step_keeps.proofs.ByCell.{operands_back, stays_alone}
use Rattle.plan_sizes.specs.Counted.{InsertsAtMost}

pub node_inserts : (s : State) (p : PhysicalNode) → InsertsAtMost 1 s (insert_node s p).state
node_inserts s p = let l = length-append s.nodes (p ∷ []) in omega arith

-- one call after another
pub and_then : (j k : ℕ) (a b c : State) → InsertsAtMost j a b → InsertsAtMost k b c → InsertsAtMost (j + k) a c
and_then j k a b c first second = omega arith

pub few : (j k : ℕ) (a b : State) → j ≤ k → InsertsAtMost j a b → InsertsAtMost k a b
few j k a b le inserts = omega arith

pub occurrences_both : (xs ys : List Tree) → occurrences_in (xs ++ ys) ≡ occurrences_in xs + occurrences_in ys
occurrences_both [] ys = omega arith
occurrences_both (x ∷ xs) ys = let e = occurrences_both xs ys in omega arith

pub occurrences_columns : (ns : List Name) → occurrences_in (columns_named ns) ≡ 0
occurrences_columns [] = refl
occurrences_columns (n ∷ ns) = let e = occurrences_columns ns in omega arith

pub occurrences_own : (ns : List Name) → occurrences_in (exprs_of (own_columns ns)) ≡ 0
occurrences_own [] = refl
occurrences_own (n ∷ ns) = let e = occurrences_own ns in omega arith

module _ (at : ℕ) (i : Stream) where
  pub exprs_insert : (es : List Tree) (s : State) → InsertsAtMost (7 * occurrences_in es + 4) s (lower_exprs at i es s).state
  exprs_insert es s =
      let e = ap occurrences_in (operands_back at i es) in
      let a = answered_adds at i (map (as_operand at i) es) (operands_cost at i es) s in
      let b = a.1 in
      omega arith

  -- beside columns
  pub beside_insert : (es : List Tree) (ns : List Name) (s : State) → InsertsAtMost (7 * occurrences_in es + 4) s (lower_exprs at i (es ++ columns_named ns) s).state
  beside_insert es ns s =
      let b = occurrences_both es (columns_named ns) in
      let c = occurrences_columns ns in
      let l = exprs_insert (es ++ columns_named ns) s in
      omega arith

  pub behind_insert : (ns : List Name) (es : List Tree) (s : State) → InsertsAtMost (7 * occurrences_in es + 4) s (lower_exprs at i (columns_named ns ++ es) s).state
  behind_insert ns es s =
      let b = occurrences_both (columns_named ns) es in
      let c = occurrences_columns ns in
      let l = exprs_insert (columns_named ns ++ es) s in
      omega arith

  abbrev items_of : List Named → List NamedOperand
  items_of es = map (λ (e : Named). (e.0, as_operand at i e.1)) es

  operands_are : (es : List Named) → operands_of (items_of es) ≡ map (as_operand at i) (exprs_of es)
  operands_are [] = refl
  operands_are (e ∷ es) = ap (λ (os : List Operand). as_operand at i e.1 ∷ os) (operands_are es)

  exprs_are : (es : List Named) → exprs_of_all (operands_of (items_of es)) ≡ exprs_of es
  exprs_are es = ap exprs_of_all (operands_are es) ∙ operands_back at i (exprs_of es)

  pub select_inserts : (es : List Named) (s : State) → InsertsAtMost (7 * occurrences_in (exprs_of es) + 5) s (select_stream at i es s).state
  select_inserts es s =
      let e = ap occurrences_in (exprs_are es) in
      let costs = subst (HaveCosts at i) (sym (operands_are es)) (operands_cost at i (exprs_of es)) in
      let a = selected_adds at i (items_of es) costs s in
      let b = a.1 in
      omega arith

  pub columns_insert : (ns : List Name) (s : State) → InsertsAtMost 1 s (with_columns at ns i s).state
  columns_insert ns s = (columns_add at ns i s).1

  -- what goes by cell takes one node at most
  pub cells_insert : (es : List Named) → list_all is_elementwise (exprs_of es) ≡ true → (s : State) → InsertsAtMost 1 s (select_stream at i es s).state
  cells_insert es cells s = by (all_independent (exprs_of_all (operands_of (items_of es)))) refl (are_own_columns (items_of es))
    where
      compute : all_independent (exprs_of es) ≡ false → InsertsAtMost 1 s (computed at i (items_of es) s).state
      compute reads =
          let a = answered at i (operands_of (items_of es)) s in
          let e = ap (λ (os : List Operand). answered at i os s) (operands_are es) ∙ stays_alone at i (exprs_of es) cells reads s in
          let n = ap (λ (x : Answer). length x.state.nodes) e in
          let named = under (names_of_items (items_of es)) a.exprs in
          let l = node_inserts a.state (record { kind = select_node named false; schema = selected_schema named (schema_at a.state.nodes a.stream); origin = at; inputs = a.stream ∷ [] }) in
          omega arith

      by : (b : Bool) → all_independent (exprs_of_all (operands_of (items_of es))) ≡ b → (own : Bool)
          → InsertsAtMost 1 s (cond {A = State → Made} b (without_input at (under (names_of_items (items_of es)) (exprs_of_all (operands_of (items_of es))))) (cond {A = State → Made} own (with_columns at (names_of_items (items_of es)) i) (computed at i (items_of es))) s).state
      by true q own = node_inserts s _
      by false q true = columns_insert (names_of_items (items_of es)) s
      by false q false = compute (sym (ap all_independent (exprs_are es)) ∙ q)

  pub over_inserts : (kind : PhysicalKind) (schema : Fields) (s : State) → InsertsAtMost 1 s (over at kind schema i s).state
  over_inserts kind schema s = node_inserts s (record { kind = kind; schema = schema; origin = at; inputs = i ∷ [] })

  pub slice_inserts : (offset : ℤ) (n : ℕ) (s : State) → InsertsAtMost 1 s (slice_stream at offset n i s).state
  slice_inserts offset n s = node_inserts s (record { kind = slice_kind offset n; schema = schema_at s.nodes i; origin = at; inputs = i ∷ [] })

  pub cut_inserts : (cut : Cut) (s : State) → InsertsAtMost 1 s (cut_stream at cut i s).state
  cut_inserts None s = omega arith
  cut_inserts (Some cut) s = slice_inserts cut.0 cut.1 s
