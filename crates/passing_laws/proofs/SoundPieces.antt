-- Every passing node of a sound shape goes on from piece to piece, and what breaks a part of its rows breaks all.
use Rattle.std.proofs.Common.{◌≡◌, ℕ, zero, suc, ◌<◌, List, [], ◌∷◌, Some, true, false, refl, sym, ap, subst, ◌∙◌, arith}
use Rattle.std.proofs.lemmas.Option.{same_Some}
use Rattle.std.specs.Prelude.{◌≢◌, IsTrue, is_some, pos, slice_get, map}
use Rattle.std.specs.List.{AllByRecursion}
use Rattle.ps_frame.specs.Functions.{Functions}
use Rattle.ps_frame.specs.Tables.{Fields}
use Rattle.ps_frame.specs.Typing.{kind_over}
use Rattle.ps_frame.specs.declared.value.DataType.TheVariants as kind
use Rattle.ps_frame.proofs.Lists.{both}
use Rattle.ps_meaning.specs.Schemas.{output_schema}
use Rattle.ps_meaning.specs.Shape.{PhysicalKind, PhysicalNode, Shape, equi_join, filter_node, group_by_node, in_memory_join, in_memory_map, in_memory_sink, in_memory_source, independent_select, multiplexer, negative_slice, ordered_union, reduce, select_node, simple_projection, stream_map, streaming_slice, with_row_index, zip_node}
use Rattle.ps_meaning.specs.Sound.{IsFunctionStep, IsSound, IsFitNode, have_kinds_over, input_schemas, schema_at}
use Rattle.ps_meaning.specs.Steps.{Step, cache, distinct, filter, group_by, hconcat, hstack, join, left_out, project, row_index, scan, select, sink, slice, sort, union, user}
use Rattle.ps_world.specs.Booking.{Computes, FaultsByPart, GivesFewer, GoesOn, IsPassing, NeverGrows}
use Rattle.passing_laws.proofs.ExactPieces.{project-goes}
use Rattle.passing_laws.proofs.FewerRows.{extend-fewer, filter-fewer, index-fewer, project-fewer, select-fewer}
use Rattle.passing_laws.proofs.FilterPieces.{filter-goes}
use Rattle.passing_laws.proofs.IndexPieces.{index-goes}
use Rattle.passing_laws.proofs.MapPieces.{map-goes}
use Rattle.world_laws.proofs.OnwardLaw.{goes-on}
use Rattle.passing_laws.proofs.PartFaults.{extend-faults, filter-faults, index-faults, map-faults, project-faults, select-faults}
use Rattle.passing_laws.proofs.SelectPieces.{extend-goes, select-goes}
use Rattle.passing_laws.proofs.SlicePieces.{slice-goes}

-- what stands before an item is there
stands-before : {A : Type 0} (xs : List A) (m n : ℕ) (x : A) → slice_get xs n ≡ Some x → m < n → (y : A) × (slice_get xs m ≡ Some y)
stands-before [] m n x e h = cc
stands-before (y ∷ xs) zero n x e h = (y, refl)
stands-before (y ∷ xs) (suc m) zero x e h = absurd (omega arith)
stands-before (y ∷ xs) (suc m) (suc n) x e h = stands-before xs m n x e (omega arith)

module _ (F : Functions) (shape : Shape) (sound : IsSound F shape) (n : ℕ) (q : PhysicalNode) (there : slice_get shape n ≡ Some q) where
  -- a schema of an input isn't empty
  input-columns : (is : List (ℕ × ℕ)) → AllByRecursion (λ i. i.0 < n) is → (s : Fields) → map (λ (i : ℕ × ℕ). schema_at (slice_get shape i.0)) is ≡ s ∷ [] → s ≢ []
  input-columns [] h s e = cc
  input-columns (i ∷ is) h s e =
      let m = stands-before shape i.0 n q there h.0 in
      let same : schema_at (slice_get shape i.0) ≡ s = cc in
      λ none. (sound.0 i.0 m.0 m.1).not_empty (ap schema_at (sym m.1) ∙ same ∙ none)

module _ (F : Functions) (shape : Shape) (sound : IsSound F shape) (n : ℕ) (schema : Fields) (origin : ℕ) (inputs : List (ℕ × ℕ)) (s : Fields) where
  abbrev node : PhysicalKind → PhysicalNode
  node kind = record { kind = kind; schema = schema; origin = origin; inputs = inputs }

  -- what a sound node of a kind has
  record Has (kind : PhysicalKind) : Type 0 where
    pub at : slice_get shape n ≡ Some (node kind)
    pub reads : input_schemas shape (node kind) ≡ s ∷ []

  module _ (kind : PhysicalKind) (has : Has kind) where
    abbrev of : IsFitNode F shape n (node kind)
    of = sound.0 n (node kind) has.at

    columns : s ≢ []
    columns = input-columns F shape sound n (node kind) has.at inputs of.earlier s has.reads

  over : (A : List Fields → Type 0) (kind : PhysicalKind) → Has kind → A (input_schemas shape (node kind)) → A (s ∷ [])
  over A kind has a = subst A has.reads a

  map-goes-on : (step : Step) → Has (stream_map step) → IsFunctionStep F step → GoesOn F (node (stream_map step)) s
  map-goes-on (user k) has h =
      goes-on F (node (stream_map (user k))) s (stream_map (user k)) tt (map-goes F (node (stream_map (user k))) s k refl (over (λ ss. output_schema F (user k) ss ≡ Some schema) (stream_map (user k)) has (of (stream_map (user k)) has).schema) h.1)
  map-goes-on (scan t names) has h = absurd h
  map-goes-on (project ns) has h = absurd h
  map-goes-on (select es) has h = absurd h
  map-goes-on (hstack es) has h = absurd h
  map-goes-on (filter e) has h = absurd h
  map-goes-on (slice offset l) has h = absurd h
  map-goes-on (sink payload) has h = absurd h
  map-goes-on (row_index name offset) has h = absurd h
  map-goes-on (sort o) has h = absurd h
  map-goes-on (union cut) has h = absurd h
  map-goes-on hconcat has h = absurd h
  map-goes-on (cache id) has h = absurd h
  map-goes-on (group_by o) has h = absurd h
  map-goes-on (join o) has h = absurd h
  map-goes-on (distinct o) has h = absurd h
  map-goes-on (left_out what) has h = absurd h

  passes-on : (kind : PhysicalKind) → IsPassing kind → Has kind → GoesOn F (node kind) s
  passes-on (filter_node e) h has =
      let k = over (λ ss. IsTrue (have_kinds_over ss (filter e))) (filter_node e) has (of (filter_node e) has).kinds in
      goes-on F (node (filter_node e)) s (filter_node e) tt
      (filter-goes F (node (filter_node e)) s e refl (sym (same_Some s schema (over (λ ss. output_schema F (filter e) ss ≡ Some schema) (filter_node e) has (of (filter_node e) has).schema))) (columns (filter_node e) has) (of (filter_node e) has).parameters (both (is_some (kind_over s e)) true k).0)
  passes-on (select_node es true) h has =
      goes-on F (node (select_node es true)) s (select_node es true) tt
      (extend-goes F (node (select_node es true)) s es refl (over (λ ss. output_schema F (hstack es) ss ≡ Some schema) (select_node es true) has (of (select_node es true) has).schema) (columns (select_node es true) has) (of (select_node es true) has).parameters
      (over (λ ss. IsTrue (have_kinds_over ss (hstack es))) (select_node es true) has (of (select_node es true) has).kinds))
  passes-on (select_node es false) h has =
      let k = (of (select_node es false) has).parameters in
      goes-on F (node (select_node es false)) s (select_node es false) tt
      (select-goes F (node (select_node es false)) s es refl (over (λ ss. output_schema F (select es) ss ≡ Some schema) (select_node es false) has (of (select_node es false) has).schema) k.0 k.1
      (over (λ ss. IsTrue (have_kinds_over ss (select es))) (select_node es false) has (of (select_node es false) has).kinds))
  passes-on (simple_projection ns) h has =
      goes-on F (node (simple_projection ns)) s (simple_projection ns) tt (project-goes F (node (simple_projection ns)) s ns refl (over (λ ss. output_schema F (project ns) ss ≡ Some schema) (simple_projection ns) has (of (simple_projection ns) has).schema))
  passes-on (stream_map step) h has = map-goes-on step has (of (stream_map step) has).parameters
  passes-on (with_row_index name offset) h has =
      index-goes F (node (with_row_index name offset)) s name offset refl (same_Some ((name, kind.IdxSize) ∷ s) schema (over (λ ss. output_schema F (row_index name offset) ss ≡ Some schema) (with_row_index name offset) has (of (with_row_index name offset) has).schema))
  passes-on (streaming_slice offset l) h has =
      slice-goes F (node (streaming_slice offset l)) s offset l refl (sym (same_Some s schema (over (λ ss. output_schema F (slice (pos offset) l) ss ≡ Some schema) (streaming_slice offset l) has (of (streaming_slice offset l) has).schema)))
  passes-on (in_memory_source t) h has = absurd h
  passes-on (negative_slice back l) h has = absurd h
  passes-on (independent_select es) h has = absurd h
  passes-on (reduce es) h has = absurd h
  passes-on in_memory_sink h has = absurd h
  passes-on (in_memory_map step) h has = absurd h
  passes-on ordered_union h has = absurd h
  passes-on (zip_node extend) h has = absurd h
  passes-on multiplexer h has = absurd h
  passes-on (group_by_node keys aggregates) h has = absurd h
  passes-on (equi_join o) h has = absurd h
  passes-on (in_memory_join o) h has = absurd h

  map-breaks : (step : Step) → IsFunctionStep F step → FaultsByPart F (node (stream_map step)) s
  map-breaks (user k) h = map-faults F (node (stream_map (user k))) s k refl h.1
  map-breaks (scan t names) h = absurd h
  map-breaks (project ns) h = absurd h
  map-breaks (select es) h = absurd h
  map-breaks (hstack es) h = absurd h
  map-breaks (filter e) h = absurd h
  map-breaks (slice offset l) h = absurd h
  map-breaks (sink payload) h = absurd h
  map-breaks (row_index name offset) h = absurd h
  map-breaks (sort o) h = absurd h
  map-breaks (union cut) h = absurd h
  map-breaks hconcat h = absurd h
  map-breaks (cache id) h = absurd h
  map-breaks (group_by o) h = absurd h
  map-breaks (join o) h = absurd h
  map-breaks (distinct o) h = absurd h
  map-breaks (left_out what) h = absurd h

  part-faults : (kind : PhysicalKind) → Computes kind → Has kind → FaultsByPart F (node kind) s
  part-faults (filter_node e) h has =
      let k = over (λ ss. IsTrue (have_kinds_over ss (filter e))) (filter_node e) has (of (filter_node e) has).kinds in
      filter-faults F (node (filter_node e)) s e refl (columns (filter_node e) has) (of (filter_node e) has).parameters (both (is_some (kind_over s e)) true k).0
  part-faults (select_node es true) h has =
      extend-faults F (node (select_node es true)) s es refl (columns (select_node es true) has) (of (select_node es true) has).parameters (over (λ ss. IsTrue (have_kinds_over ss (hstack es))) (select_node es true) has (of (select_node es true) has).kinds)
  part-faults (select_node es false) h has =
      let k = (of (select_node es false) has).parameters in
      select-faults F (node (select_node es false)) s es refl k.0 k.1 (over (λ ss. IsTrue (have_kinds_over ss (select es))) (select_node es false) has (of (select_node es false) has).kinds)
  part-faults (simple_projection ns) h has = project-faults F (node (simple_projection ns)) s ns refl
  part-faults (stream_map step) h has = map-breaks step (of (stream_map step) has).parameters
  part-faults (with_row_index name offset) h has = index-faults F (node (with_row_index name offset)) s name offset refl
  part-faults (streaming_slice offset l) h has = absurd h
  part-faults (negative_slice back l) h has = absurd h
  part-faults (in_memory_source t) h has = absurd h
  part-faults (independent_select es) h has = absurd h
  part-faults (reduce es) h has = absurd h
  part-faults in_memory_sink h has = absurd h
  part-faults (in_memory_map step) h has = absurd h
  part-faults ordered_union h has = absurd h
  part-faults (zip_node extend) h has = absurd h
  part-faults multiplexer h has = absurd h
  part-faults (group_by_node keys aggregates) h has = absurd h
  part-faults (equi_join o) h has = absurd h
  part-faults (in_memory_join o) h has = absurd h

  short-pieces : (kind : PhysicalKind) → NeverGrows kind → Has kind → GivesFewer F (node kind) s
  short-pieces (filter_node e) h has =
      let k = over (λ ss. IsTrue (have_kinds_over ss (filter e))) (filter_node e) has (of (filter_node e) has).kinds in
      filter-fewer F (node (filter_node e)) s e refl (columns (filter_node e) has) (of (filter_node e) has).parameters (both (is_some (kind_over s e)) true k).0
  short-pieces (select_node es true) h has =
      extend-fewer F (node (select_node es true)) s es refl (columns (select_node es true) has) (of (select_node es true) has).parameters (over (λ ss. IsTrue (have_kinds_over ss (hstack es))) (select_node es true) has (of (select_node es true) has).kinds)
  short-pieces (select_node es false) h has =
      let k = (of (select_node es false) has).parameters in
      select-fewer F (node (select_node es false)) s es refl k.0 k.1 (over (λ ss. IsTrue (have_kinds_over ss (select es))) (select_node es false) has (of (select_node es false) has).kinds)
  short-pieces (simple_projection ns) h has = project-fewer F (node (simple_projection ns)) s ns refl
  short-pieces (stream_map step) h has = absurd h
  short-pieces (with_row_index name offset) h has = index-fewer F (node (with_row_index name offset)) s name offset refl
  short-pieces (streaming_slice offset l) h has = absurd h
  short-pieces (negative_slice back l) h has = absurd h
  short-pieces (in_memory_source t) h has = absurd h
  short-pieces (independent_select es) h has = absurd h
  short-pieces (reduce es) h has = absurd h
  short-pieces in_memory_sink h has = absurd h
  short-pieces (in_memory_map step) h has = absurd h
  short-pieces ordered_union h has = absurd h
  short-pieces (zip_node extend) h has = absurd h
  short-pieces multiplexer h has = absurd h
  short-pieces (group_by_node keys aggregates) h has = absurd h
  short-pieces (equi_join o) h has = absurd h
  short-pieces (in_memory_join o) h has = absurd h

pub sound-goes-on : (F : Functions) (shape : Shape) (n : ℕ) (p : PhysicalNode) (s : Fields) → IsSound F shape → slice_get shape n ≡ Some p → IsPassing p.kind → input_schemas shape p ≡ s ∷ [] → GoesOn F p s
sound-goes-on F shape n p s sound there h reads = passes-on F shape sound n p.schema p.origin p.inputs s p.kind h (record { at = there; reads = reads })

pub sound-part-faults : (F : Functions) (shape : Shape) (n : ℕ) (p : PhysicalNode) (s : Fields) → IsSound F shape → slice_get shape n ≡ Some p → Computes p.kind → input_schemas shape p ≡ s ∷ [] → FaultsByPart F p s
sound-part-faults F shape n p s sound there h reads = part-faults F shape sound n p.schema p.origin p.inputs s p.kind h (record { at = there; reads = reads })

pub sound-fewer : (F : Functions) (shape : Shape) (n : ℕ) (p : PhysicalNode) (s : Fields) → IsSound F shape → slice_get shape n ≡ Some p → NeverGrows p.kind → input_schemas shape p ≡ s ∷ [] → GivesFewer F p s
sound-fewer F shape n p s sound there h reads = short-pieces F shape sound n p.schema p.origin p.inputs s p.kind h (record { at = there; reads = reads })
