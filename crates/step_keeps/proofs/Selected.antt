-- A select whose expressions go by cell, and aren't all columns under their own names: one node over the input.
use Rattle.std.proofs.Common.{◌≡◌, ℕ, Bool, false, true, cond, ◌&&◌, List, [], ◌∷◌, refl, sym, ap, subst, ◌∙◌}
use Rattle.std.specs.Prelude.{map}
use Rattle.std.specs.List.{list_all}
use Rattle.ps_frame.specs.Functions.{Functions}
use Rattle.ps_frame.specs.Tables.{Fields}
use Rattle.ps_frame.specs.Typing.{is_elementwise}
use Rattle.ps_meaning.specs.Schemas.{expr_names}
use Rattle.ps_meaning.specs.Shape.{select_node}
use Rattle.ps_meaning.specs.Steps.{Name, Named, exprs_of, select}
use Rattle.ps_rules.specs.Calls.{Answer, Operand, all_independent, exprs_of_all}
use Rattle.ps_rules.specs.Lowered.{as_operand, lower_exprs, select_stream}
use Rattle.ps_rules.specs.Rules.{NamedOperand, answered, are_own_columns, computed, is_own_column, names_of_items, operands_of, selected_from_input}
use Rattle.ps_rules.specs.Slots.{Made, State, Stream, over_selected, schema_at, selected_schema, under, with_columns, without_input}
use Rattle.step_keeps.specs.Kept.{IsKeptStep, KeepsStep, are_all_own}
use Rattle.step_keeps.proofs.ByCell.{operands_back, stays_alone}
use Rattle.step_keeps.proofs.One.{plain_keeps}

module _ (at : ℕ) (i : Stream) where
  abbrev items_of : List Named → List NamedOperand
  items_of es = map (λ (e : Named). (e.0, as_operand at i e.1)) es

  operands_are : (es : List Named) → operands_of (items_of es) ≡ map (as_operand at i) (exprs_of es)
  operands_are [] = refl
  operands_are (e ∷ es) = ap (λ (os : List Operand). as_operand at i e.1 ∷ os) (operands_are es)

  names_are : (es : List Named) → names_of_items (items_of es) ≡ expr_names es
  names_are [] = refl
  names_are (e ∷ es) = ap (λ (ns : List Name). e.0 ∷ ns) (names_are es)

  own_are : (es : List Named) → are_own_columns (items_of es) ≡ are_all_own es
  own_are [] = refl
  own_are (e ∷ es) = ap (λ (b : Bool). is_own_column e.0 e.1 && b) (own_are es)

under_own_names : (es : List Named) → under (expr_names es) (exprs_of es) ≡ es
under_own_names [] = refl
under_own_names (e ∷ es) = ap (λ (more : List Named). e ∷ more) (under_own_names es)

module _ (F : Functions) (at : ℕ) (schema : Fields) (i : Stream) (s : State) (es : List Named) where
  -- the select over an answer
  abbrev made_over : List Name → Answer → Made
  made_over ns a = over_selected at (select_node (under ns a.exprs) false) (under ns a.exprs) a.stream a.state

  pub select_is : list_all is_elementwise (exprs_of es) ≡ true → all_independent (exprs_of es) ≡ false → are_all_own es ≡ false → select_stream at i es s ≡ over_selected at (select_node es false) es i s
  select_is cells reads own =
      let items = items_of at i es in
      let apart : all_independent (exprs_of_all (operands_of items)) ≡ false = ap (λ (os : List Operand). all_independent (exprs_of_all os)) (operands_are at i es) ∙ ap all_independent (operands_back at i (exprs_of es)) ∙ reads in
      let first = ap (λ (b : Bool). cond {A = State → Made} b (without_input at (under (names_of_items items) (exprs_of_all (operands_of items)))) (selected_from_input at i items) s) apart in
      let second = ap (λ (b : Bool). cond {A = State → Made} b (with_columns at (names_of_items items) i) (computed at i items) s) (own_are at i es ∙ own) in
      let third = ap (λ (os : List Operand). made_over (names_of_items items) (answered at i os s)) (operands_are at i es) in
      let fourth = ap (λ (ns : List Name). made_over ns (lower_exprs at i (exprs_of es) s)) (names_are at i es) ∙ ap (made_over (expr_names es)) (stays_alone at i (exprs_of es) cells reads s) in
      let fifth = ap (λ (xs : List Named). over_selected at (select_node xs false) xs i s) (under_own_names es) in
      first ∙ second ∙ third ∙ fourth ∙ fifth

  pub selects_by_cell_keep : list_all is_elementwise (exprs_of es) ≡ true → all_independent (exprs_of es) ≡ false → are_all_own es ≡ false → IsKeptStep F at (select es) schema (i ∷ []) s
  selects_by_cell_keep cells reads own =
      let kept = plain_keeps F at (select es) (select_node es false) (selected_schema es (schema_at s.nodes i)) (i ∷ []) refl (λ ts. refl) refl s in
      subst (λ (m : Made). KeepsStep F at (select es) s m.state (i ∷ []) m.stream) (sym (select_is cells reads own)) kept
