-- Steps of one node, and steps that give what another gives.
use Rattle.std.proofs.Common.{◌≡◌, ℕ, ◌⊎◌, Bool, true, false, List, [], ◌∷◌, Option, refl, ap, ◌∙◌, inl, inr}
use Rattle.std.specs.Prelude.{unwrap_or, if◌then◌else◌}
use Rattle.ps_frame.specs.Causes.{Cause}
use Rattle.ps_frame.specs.Functions.{Functions}
use Rattle.ps_frame.specs.Tables.{Fields, Table}
use Rattle.ps_meaning.specs.Cases.{Case, GivesBeforeCut, IsCaseBrokenBy, cut_by}
use Rattle.ps_meaning.specs.Meaning.{IsLargeCase, IsLargeStep}
use Rattle.ps_meaning.specs.Schemas.{named_fields}
use Rattle.ps_meaning.specs.Shape.{in_memory_map, in_memory_sink, simple_projection, stream_map, with_row_index, zip_node}
use Rattle.ps_meaning.specs.Steps.{Name, SortStep, Step, hconcat, memory_sink, project, row_index, sink, sort, step_cut, user}
use Rattle.ps_meaning.specs.declared.options.SinkType.{SinkType}
use Rattle.ps_rules.specs.Slots.{State, Stream, insert_node, schema_at}
use Rattle.step_keeps.specs.Kept.{IsKeptStep, KeepsStep, SomeIsLarge, tables_from}
use Rattle.step_keeps.proofs.One.{plain_keeps}

-- what is kept of one step is kept of another that may give all that it gives
module _ (F : Functions) (at : ℕ) (step other : Step) (befores : (ts : List Table) (U : Table) → GivesBeforeCut F at step ts U → GivesBeforeCut F at other ts U) (larges : (ts : List Table) → IsLargeStep F at step ts → IsLargeStep F at other ts)
    (cut : step_cut step ≡ step_cut other) where
  pub case_as : (ts : List Table) (T : Table) → Case F at step ts T → Case F at other ts T
  case_as ts T (U, g, e) = (U, befores ts U g, e ∙ ap (λ c. cut_by c U) cut)

  pub broken_as : (ts : List Table) (c : Cause) → IsCaseBrokenBy F at step ts c → IsCaseBrokenBy F at other ts c
  broken_as ts c (U, inl k, h) = (U, inl (case_as ts U k), h)
  broken_as ts c (U, inr g, h) = (U, inr (befores ts U g), h)

  pub large_as : (ts : List Table) → IsLargeCase F at step ts ⊎ SomeIsLarge ts → IsLargeCase F at other ts ⊎ SomeIsLarge ts
  large_as ts (inl (inl l)) = inl (inl (larges ts l))
  large_as ts (inl (inr (U, g, l))) = inl (inr (U, befores ts U g, l))
  large_as ts (inr l) = inr l

  pub keeps_as : (before after : State) (inputs : List Stream) (stream : Stream) → KeepsStep F at step before after inputs stream → KeepsStep F at other before after inputs stream
  keeps_as before after inputs stream k =
      record {
        more = k.more;
        nodes = k.nodes;
        made = k.made;
        there = k.there;
        fed = k.fed;
        meaning = λ tables chosen rows.
            let ts = tables_from tables inputs in
            let m = k.meaning tables chosen rows in (
              record { table = (m.0.table.0, case_as ts m.0.table.0 m.0.table.1, m.0.table.2); causes = λ c h. broken_as ts c (m.0.causes c h) },
              record { causes = λ n U c low high may h. broken_as ts c (m.1.causes n U c low high may h); sizes = λ n low high l. large_as ts (m.1.sizes n low high l) },
            );
      }

-- one node takes the step's own case
module _ (F : Functions) (at : ℕ) (schema : Fields) (s : State) where
  pub projections_keep : (names : List Name) (i : Stream) → IsKeptStep F at (project names) schema (i ∷ []) s
  projections_keep names i = plain_keeps F at (project names) (simple_projection names) (unwrap_or (named_fields names (schema_at s.nodes i)) []) (i ∷ []) refl (λ ts. refl) refl s

  pub sinks_keep : (target : SinkType) (i : Stream) → IsKeptStep F at (sink target) schema (i ∷ []) s
  sinks_keep target i =
      let m = insert_node s (record { kind = in_memory_sink; schema = schema_at s.nodes i; origin = at; inputs = i ∷ [] }) in
      keeps_as F at memory_sink (sink target) (λ ts U g. g) (λ ts l. l) refl s m.state (i ∷ []) m.stream (plain_keeps F at memory_sink in_memory_sink (schema_at s.nodes i) (i ∷ []) refl (λ ts. refl) refl s)

  pub row_numbers_keep : (name : Name) (offset : Option ℕ) (i : Stream) → IsKeptStep F at (row_index name offset) schema (i ∷ []) s
  row_numbers_keep name offset i = plain_keeps F at (row_index name offset) (with_row_index name offset) schema (i ∷ []) refl (λ ts. refl) refl s

  pub functions_keep : (n : ℕ) (i : Stream) → IsKeptStep F at (user n) schema (i ∷ []) s
  functions_keep n i = by (F.streams n)
    where
      by : (b : Bool) → let m = insert_node s (record { kind = (if b then stream_map (user n) else in_memory_map (user n)); schema = schema; origin = at; inputs = i ∷ [] }) in KeepsStep F at (user n) s m.state (i ∷ []) m.stream
      by true = plain_keeps F at (user n) (stream_map (user n)) schema (i ∷ []) refl (λ ts. refl) refl s
      by false = plain_keeps F at (user n) (in_memory_map (user n)) schema (i ∷ []) refl (λ ts. refl) refl s

  pub sorts_keep : (o : SortStep) (i : Stream) → IsKeptStep F at (sort o) schema (i ∷ []) s
  sorts_keep o i = plain_keeps F at (sort o) (in_memory_map (sort o)) (schema_at s.nodes i) (i ∷ []) refl (λ ts. refl) refl s

  pub hconcats_keep : (inputs : List Stream) → IsKeptStep F at hconcat schema inputs s
  hconcats_keep inputs = plain_keeps F at hconcat (zip_node true) schema inputs refl (λ ts. refl) refl s
