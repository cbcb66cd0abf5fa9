-- Group-bys and distincts that one map computes, and further columns by cell.
use Rattle.std.proofs.Common.{◌≡◌, ℕ, Bool, true, false, cond, ◌&&◌, List, [], ◌∷◌, ◌++◌, refl, sym, subst}
use Rattle.std.specs.List.{list_all}
use Rattle.ps_frame.specs.Functions.{Functions}
use Rattle.ps_frame.specs.Tables.{Fields}
use Rattle.ps_frame.specs.Typing.{is_elementwise}
use Rattle.ps_meaning.specs.Shape.{in_memory_map, select_node}
use Rattle.ps_meaning.specs.Steps.{DistinctStep, GroupStep, Named, distinct, exprs_of, group_by, hstack}
use Rattle.ps_rules.specs.Slots.{Made, State, Stream, over, schema_at, selected_schema}
use Rattle.plan_rules.specs.Distinct.{grouped_distinct, keeps_last, mapped_distinct}
use Rattle.plan_rules.specs.Groups.{can_stream, mapped_groups, streamed_groups}
use Rattle.plan_rules.specs.Nodes.{extended_apart}
use Rattle.step_keeps.specs.Kept.{IsKeptStep, KeepsStep}
use Rattle.step_keeps.proofs.One.{plain_keeps}

module _ (F : Functions) (at : ℕ) (schema : Fields) (i : Stream) (s : State) where
  pub mapped_groups_keep : (o : GroupStep) → can_stream o ≡ false → IsKeptStep F at (group_by o) schema (i ∷ []) s
  mapped_groups_keep o whole =
      let node = plain_keeps F at (group_by o) (in_memory_map (group_by o)) (selected_schema (o.keys ++ o.aggregates) (schema_at s.nodes i)) (i ∷ []) refl (λ ts. refl) refl s in
      subst (λ (b : Bool). let m = cond {A = Stream → State → Made} b (streamed_groups at o) (mapped_groups at o) i s in KeepsStep F at (group_by o) s m.state (i ∷ []) m.stream) (sym whole) node

  pub mapped_distincts_keep : (o : DistinctStep) → (o.maintain_order && keeps_last o.keep) ≡ true → IsKeptStep F at (distinct o) schema (i ∷ []) s
  mapped_distincts_keep o whole =
      let node = plain_keeps F at (distinct o) (in_memory_map (distinct o)) (schema_at s.nodes i) (i ∷ []) refl (λ ts. refl) refl s in
      subst (λ (b : Bool). let m = cond {A = Stream → State → Made} b (mapped_distinct at o) (grouped_distinct at o) i s in KeepsStep F at (distinct o) s m.state (i ∷ []) m.stream) (sym whole) node

  pub columns_by_cell_keep : (es : List Named) → list_all is_elementwise (exprs_of es) ≡ true → IsKeptStep F at (hstack es) schema (i ∷ []) s
  columns_by_cell_keep es cells =
      let node = plain_keeps F at (hstack es) (select_node es true) schema (i ∷ []) refl (λ ts. refl) refl s in
      subst (λ (b : Bool). let m = cond {A = Stream → State → Made} b (over at (select_node es true) schema) (extended_apart at es schema) i s in KeepsStep F at (hstack es) s m.state (i ∷ []) m.stream) (sym cells) node
