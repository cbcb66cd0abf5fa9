-- The tables of a sound shape have rows of its nodes' schemas.
use Rattle.std.proofs.Common.{◌≡◌, ℕ, zero, suc, pos, ◌<◌, true, false, List, [], ◌∷◌, length, Option, Some, None, refl, sym, ap, subst, ◌∙◌, inl, inr, arith}
use Rattle.std.proofs.lemmas.Option.{same_Some}
use Rattle.std.specs.Prelude.{Contains, IsTrue, map, slice_get, unwrap_or}
use Rattle.std.specs.List.{AllByRecursion}
use Rattle.ps_frame.specs.Frames.{has_distinct_names, kinds_of}
use Rattle.ps_frame.specs.Functions.{Functions, IsLawful}
use Rattle.ps_frame.specs.Tables.{Fields, Frame, Table, field_kind, no_rows}
use Rattle.ps_frame.specs.Zip.{zipped}
use Rattle.ps_frame.specs.declared.expr.What.TheVariants as what
use Rattle.ps_frame.specs.declared.value.DataType.{DataType}
use Rattle.ps_frame.specs.declared.value.Value.{Value}
use Rattle.ps_meaning.specs.Cases.{Case, all_columns, projected, schemas_of}
use Rattle.ps_meaning.specs.Laws.{FitsRow, FitsTable, HoldsFitting, IsTypedStep}
use Rattle.ps_meaning.specs.Schemas.{both, first_schema, join_schema, joined_schemas, named_fields, names_of, output_schema, schema_or_empty, second_schema}
use Rattle.ps_meaning.specs.Shape.{IsPhysicalChoice, PhysicalBefore, PhysicalCase, PhysicalKind, PhysicalNode, Shape, below_zero, equi_join, filter_node, group_by_node, in_memory_join, in_memory_map, in_memory_sink, in_memory_source, independent_select, multiplexer, negative_slice, ordered_union, reduce, select_node, simple_projection, stream_map, streaming_slice, with_row_index, zip_node}
use Rattle.ps_meaning.specs.Sound.{HasFieldsOf, HasSchema, IsFitNode, IsFunctionStep, IsMapStep, IsSoundButForReaders, have_kinds_over, input_schemas, rules_of, schema_at}
use Rattle.ps_meaning.specs.StepRefusals.{Refusal, TypingRefused, column_not_found, duplicate, schema_mismatch, unsupported}
use Rattle.ps_meaning.specs.Steps.{JoinStep, Name, Named, Step, scan, project, select, hstack, filter, slice, sink, row_index, user, sort, union, hconcat, cache, group_by, join, distinct, left_out, memory_sink}
use Rattle.ps_meaning.proofs.Fits.{all-map, zipped-fits}
use Rattle.ps_meaning.proofs.MeaningFits.{case-fits, joined-columns}
use Rattle.ps_meaning.proofs.OneInput.{fits-length}
use Rattle.ps_meaning.proofs.RowFits.{picks-fit}
use Rattle.ps_meaning.proofs.SchemaLaw.{case-schema}
use Rattle.ps_meaning.proofs.StepFits.{own-kinds}
use Rattle.ps_plan.proofs.TypedSteps.{alike, output-distinct}
use Rattle.ps_plan.specs.Lowering.{AreTablesOf}
use Rattle.plan_laws.specs.Shapes.{physical}
use native.Mathlib.Decide.{dec_le}
use mathlib.Core.Logic.{dite}

-- what holds of all items holds of each
all-at : {A : Type 0} (P : A → Type 0) (xs : List A) (x : A) → AllByRecursion P xs → Contains xs x → P x
all-at P [] x all (k, h, e) = absurd (omega arith)
all-at P (y ∷ xs) x all (zero, h, e) = subst P e all.0
all-at P (y ∷ xs) x all (suc k, h, e) = all-at P xs x all.1 (k, omega arith, e)

-- fields of a schema are its named ones
named-own : (given s : Fields) → has_distinct_names given ≡ true → AllByRecursion (Contains given) s → named_fields (names_of s) given ≡ Some s
named-own given [] d all = refl
named-own given (f ∷ s) d all =
    let k = all-at (λ (f : Name × DataType). field_kind f.0 given ≡ Some f.1) given f (own-kinds given d) all.0 in
    let rest = named-own given s d all.1 in
    λ i. both (λ (k : DataType) (fs : Fields). (f.0, k) ∷ fs) (k i) (rest i)

-- a table of a schema, whose rows fit it
abbrev Fit : Fields → Table → Type 0
Fit s T = (T.schema ≡ s) × FitsTable T

-- only a scan holds a table
holds : (step : Step) → ((t : Frame) (ns : Option (List Name)) → step ≡ scan t ns → ⊥) → HoldsFitting step
holds (scan t ns) other = absurd (other t ns refl)
holds (project ns) other = tt
holds (select es) other = tt
holds (hstack es) other = tt
holds (filter e) other = tt
holds (slice offset n) other = tt
holds (sink payload) other = tt
holds (row_index name offset) other = tt
holds (user n) other = tt
holds (sort o) other = tt
holds (union cut) other = tt
holds hconcat other = tt
holds (cache id) other = tt
holds (group_by o) other = tt
holds (join o) other = tt
holds (distinct o) other = tt
holds (left_out what) other = tt

-- a select over no input and over an input without columns
no-input : (F : Functions) (es : List Named) → ((R : Refusal) → ¬ TypingRefused F (select es) [] R) → (R : Refusal) → ¬ TypingRefused F (select es) ([] ∷ []) R
no-input F es rules (column_not_found n) h = rules (column_not_found n) h
no-input F es rules (duplicate n) h = rules (duplicate n) h
no-input F es rules schema_mismatch h = rules schema_mismatch h
no-input F es rules (unsupported what.NoColumns) h = rules (unsupported what.NoColumns) h
no-input F es rules (unsupported what.LiteralAggregate) h = rules (unsupported what.LiteralAggregate) h
no-input F es rules (unsupported _) h = h
no-input F es rules _ h = h

module _ (F : Functions) (lawful : IsLawful F) where
  -- a step over tables that fit
  over : (at : ℕ) (step : Step) (ss : List Fields) (s : Fields) (ts : List Table) (T : Table) → schemas_of ts ≡ ss → AllByRecursion FitsTable ts → AllByRecursion (λ s. has_distinct_names s ≡ true) ss
      → IsTrue (have_kinds_over ss step) → ((R : Refusal) → ¬ TypingRefused F step ss R) → HoldsFitting step → output_schema F step ss ≡ Some s → Case F at step ts T → Fit s T
  over at step ss s ts T same fits names kinds rules held out k =
      let typed : IsTypedStep F step ss = record { kinds = kinds; rules = rules; alike = alike F step ss rules; names = names } in
      (case-schema F lawful at step ts T k ∙ ap (schema_or_empty F step) same ∙ ap (λ (o : Option Fields). unwrap_or o []) out, case-fits F lawful at step ts T (subst (IsTypedStep F step) (sym same) typed) held fits k)

  -- the columns of a join that are kept
  narrowed-fits : (o : JoinStep) (ss : List Fields) (s : Fields) (V T : Table) → HasFieldsOf (join_schema o (first_schema ss) (second_schema ss)) s → has_distinct_names (join_schema o (first_schema ss) (second_schema ss)) ≡ true
      → Fit (join_schema o (first_schema ss) (second_schema ss)) V → T ≡ projected (names_of s) s V → Fit s T
  narrowed-fits o ss s V T fields d v e =
      let named = subst (λ (given : Fields). named_fields (names_of s) given ≡ Some s) (sym v.0) (named-own (join_schema o (first_schema ss) (second_schema ss)) s d fields.0) in
      (ap (λ (U : Table). U.schema) e, subst FitsTable (sym e) (all-map (FitsRow V.schema) (FitsRow s) _ (picks-fit (names_of s) V.schema s named) V.rows v.1))

  module _ (shape : Shape) (sound : IsSoundButForReaders F shape) (tables : ℕ → Table) (chosen : IsPhysicalChoice F shape tables) where
    -- no name stands twice in a node's schema
    outs-distinct : (step : Step) (ss : List Fields) (s : Fields) → ((R : Refusal) → ¬ TypingRefused F step ss R) → output_schema F step ss ≡ Some s → has_distinct_names s ≡ true
    outs-distinct step ss s rules e = subst (λ (o : Option Fields). has_distinct_names (unwrap_or o []) ≡ true) e (output-distinct F step ss rules)

    kind-distinct : (kind : PhysicalKind) (ss : List Fields) (s : Fields) → ((R : Refusal) → ¬ TypingRefused F (rules_of kind) ss R) → HasSchema F kind ss s → has_distinct_names s ≡ true
    kind-distinct (equi_join o) ss s rules h = h.1
    kind-distinct (in_memory_join o) ss s rules h = h.1
    kind-distinct (in_memory_source t) ss s rules h = outs-distinct (rules_of (in_memory_source t)) ss s rules h
    kind-distinct (select_node es b) ss s rules h = outs-distinct (rules_of (select_node es b)) ss s rules h
    kind-distinct (with_row_index name offset) ss s rules h = outs-distinct (rules_of (with_row_index name offset)) ss s rules h
    kind-distinct (independent_select es) ss s rules h = outs-distinct (rules_of (independent_select es)) ss s rules h
    kind-distinct (reduce es) ss s rules h = outs-distinct (rules_of (reduce es)) ss s rules h
    kind-distinct (streaming_slice offset n) ss s rules h = outs-distinct (rules_of (streaming_slice offset n)) ss s rules h
    kind-distinct (negative_slice back n) ss s rules h = outs-distinct (rules_of (negative_slice back n)) ss s rules h
    kind-distinct (filter_node e) ss s rules h = outs-distinct (rules_of (filter_node e)) ss s rules h
    kind-distinct (simple_projection ns) ss s rules h = outs-distinct (rules_of (simple_projection ns)) ss s rules h
    kind-distinct in_memory_sink ss s rules h = outs-distinct (rules_of in_memory_sink) ss s rules h
    kind-distinct (in_memory_map step) ss s rules h = outs-distinct (rules_of (in_memory_map step)) ss s rules h
    kind-distinct (stream_map step) ss s rules h = outs-distinct (rules_of (stream_map step)) ss s rules h
    kind-distinct ordered_union ss s rules h = outs-distinct (rules_of ordered_union) ss s rules h
    kind-distinct (zip_node b) ss s rules h = outs-distinct (rules_of (zip_node b)) ss s rules h
    kind-distinct multiplexer ss s rules h = outs-distinct (rules_of multiplexer) ss s rules h
    kind-distinct (group_by_node keys aggregates) ss s rules h = outs-distinct (rules_of (group_by_node keys aggregates)) ss s rules h

    node-distinct : (n : ℕ) (p : PhysicalNode) → slice_get shape n ≡ Some p → has_distinct_names p.schema ≡ true
    node-distinct n p e = kind-distinct p.kind (input_schemas shape p) p.schema (sound n p e).rules.3 (sound n p e).schema

    abbrev AllBelow : ℕ → Type 0
    AllBelow n = (m : ℕ) → m < n → (q : PhysicalNode) → slice_get shape m ≡ Some q → Fit q.schema (tables m)

    -- what stands before a node is there
    stands : (xs : Shape) (n : ℕ) (x : PhysicalNode) (m : ℕ) → slice_get xs n ≡ Some x → m < n → (y : PhysicalNode) × (slice_get xs m ≡ Some y)
    stands [] n x m e h = cc
    stands (y ∷ xs) n x zero e h = (y, refl)
    stands (y ∷ xs) zero x (suc m) e h = absurd (omega arith)
    stands (y ∷ xs) (suc n) x (suc m) e h = stands xs n x m e (omega arith)

    record Inputs (is : List (ℕ × ℕ)) : Type 0 where
      pub schemas : schemas_of (map (λ (i : ℕ × ℕ). tables i.0) is) ≡ map (λ (i : ℕ × ℕ). schema_at (slice_get shape i.0)) is
      pub fit : AllByRecursion FitsTable (map (λ (i : ℕ × ℕ). tables i.0) is)
      pub names : AllByRecursion (λ s. has_distinct_names s ≡ true) (map (λ (i : ℕ × ℕ). schema_at (slice_get shape i.0)) is)

    inputs : (n : ℕ) (p : PhysicalNode) → slice_get shape n ≡ Some p → AllBelow n → (is : List (ℕ × ℕ)) → AllByRecursion (λ (i : ℕ × ℕ). i.0 < n) is → Inputs is
    inputs n p e below [] all = record { schemas = refl; fit = tt; names = tt }
    inputs n p e below (i ∷ is) all =
        let q = stands shape n p i.0 e all.0 in
        let f = below i.0 all.0 q.0 q.1 in
        let rest = inputs n p e below is all.1 in
        let at : schema_at (slice_get shape i.0) ≡ q.0.schema = ap schema_at q.1 in
        record {
          schemas = (let first = f.0 ∙ sym at in let more = rest.schemas in λ j. first j ∷ more j);
          fit = (f.1, rest.fit);
          names = (ap has_distinct_names at ∙ node-distinct i.0 q.0 q.1, rest.names);
        }

    module _ (n : ℕ) (below : AllBelow n) (s : Fields) (at : ℕ) (is : List (ℕ × ℕ)) where
      -- a node of a kind that takes a step's case
      by-step : (kind : PhysicalKind) (step : Step) → HoldsFitting step → slice_get shape n ≡ Some (physical kind s at is) → IsTrue (have_kinds_over (input_schemas shape (physical kind s at is)) step)
          → ((R : Refusal) → ¬ TypingRefused F step (input_schemas shape (physical kind s at is)) R) → output_schema F step (input_schemas shape (physical kind s at is)) ≡ Some s → AllByRecursion (λ (i : ℕ × ℕ). i.0 < n) is
          → Case F at step (map (λ (i : ℕ × ℕ). tables i.0) is) (tables n) → Fit s (tables n)
      by-step kind step held e kinds rules out all k =
          let i = inputs n (physical kind s at is) e below is all in
          over at step (input_schemas shape (physical kind s at is)) s (map (λ (i : ℕ × ℕ). tables i.0) is) (tables n) i.schemas i.fit i.names kinds rules held out k

      by-join : (kind : PhysicalKind) (o : JoinStep) → slice_get shape n ≡ Some (physical kind s at is) → IsTrue (have_kinds_over (input_schemas shape (physical kind s at is)) (join o))
          → ((R : Refusal) → ¬ TypingRefused F (join o) (input_schemas shape (physical kind s at is)) R) → HasFieldsOf (join_schema o (first_schema (input_schemas shape (physical kind s at is))) (second_schema (input_schemas shape (physical kind s at is)))) s
          → AllByRecursion (λ (i : ℕ × ℕ). i.0 < n) is
          → (V : Table) × Case F at (join o) (map (λ (i : ℕ × ℕ). tables i.0) is) V × (tables n ≡ projected (names_of s) s V) → Fit s (tables n)
      by-join kind o e kinds rules fields all (V, k, q) =
          let i = inputs n (physical kind s at is) e below is all in
          let ss = input_schemas shape (physical kind s at is) in
          let v = over at (join o) (input_schemas shape (physical kind s at is)) (join_schema o (first_schema (input_schemas shape (physical kind s at is))) (second_schema (input_schemas shape (physical kind s at is)))) (map (λ (i : ℕ × ℕ). tables i.0) is) V i.schemas i.fit i.names kinds rules tt refl k in
          narrowed-fits o (input_schemas shape (physical kind s at is)) s V (tables n) fields (output-distinct F (join o) (input_schemas shape (physical kind s at is)) rules) v q

      kind-fits : (kind : PhysicalKind) → slice_get shape n ≡ Some (physical kind s at is) → IsFitNode F shape n (physical kind s at is) → PhysicalCase F (physical kind s at is) (map (λ (i : ℕ × ℕ). tables i.0) is) (tables n) → Fit s (tables n)
      kind-fits (in_memory_source t) e f k = by-step (in_memory_source t) (scan t None) f.parameters e f.kinds f.rules.3 f.schema f.earlier k
      kind-fits (select_node es true) e f k = by-step (select_node es true) (hstack es) tt e f.kinds f.rules.3 f.schema f.earlier k
      kind-fits (select_node es false) e f k = by-step (select_node es false) (select es) tt e f.kinds f.rules.3 f.schema f.earlier k
      kind-fits (with_row_index name offset) e f k = by-step (with_row_index name offset) (row_index name offset) tt e f.kinds f.rules.3 f.schema f.earlier k
      kind-fits (independent_select es) e f k = independent is f.inputs e f k
        where
          independent : (is : List (ℕ × ℕ)) → length is ≡ 0 → slice_get shape n ≡ Some (physical (independent_select es) s at is) → IsFitNode F shape n (physical (independent_select es) s at is)
              → PhysicalCase F (physical (independent_select es) s at is) (map (λ (i : ℕ × ℕ). tables i.0) is) (tables n) → Fit s (tables n)
          independent [] h e f k = over at (select es) ([] ∷ []) s (no_rows [] [] ∷ []) (tables n) refl (tt, tt) (refl, tt) f.kinds (no-input F es f.rules.3) tt f.schema k
          independent (i ∷ is) h e f k = absurd (omega arith)
      kind-fits (reduce es) e f k = by-step (reduce es) (select es) tt e f.kinds f.rules.3 f.schema f.earlier k
      kind-fits (streaming_slice offset m) e f k = by-step (streaming_slice offset m) (slice (pos offset) m) tt e f.kinds f.rules.3 f.schema f.earlier k
      kind-fits (negative_slice back m) e f k = by-step (negative_slice back m) (slice (below_zero back) m) tt e f.kinds f.rules.3 f.schema f.earlier k
      kind-fits (filter_node t) e f k = by-step (filter_node t) (filter t) tt e f.kinds f.rules.3 f.schema f.earlier k
      kind-fits (simple_projection ns) e f k = by-step (simple_projection ns) (project ns) tt e f.kinds f.rules.3 f.schema f.earlier k
      kind-fits in_memory_sink e f k = by-step in_memory_sink memory_sink tt e f.kinds f.rules.3 f.schema f.earlier k
      kind-fits (in_memory_map step) e f k = by-step (in_memory_map step) step (holds step (λ t ns q. subst (IsMapStep F) q f.parameters)) e f.kinds f.rules.3 f.schema f.earlier k
      kind-fits (stream_map step) e f k = by-step (stream_map step) step (holds step (λ t ns q. subst (IsFunctionStep F) q f.parameters)) e f.kinds f.rules.3 f.schema f.earlier k
      kind-fits ordered_union e f k = by-step ordered_union (union None) tt e f.kinds f.rules.3 f.schema f.earlier k
      kind-fits (zip_node true) e f k = by-step (zip_node true) hconcat tt e f.kinds f.rules.3 f.schema f.earlier k
      kind-fits (zip_node false) e f (U, before, q) = mild before
        where
          i : Inputs is
          i = inputs n (physical (zip_node false) s at is) e below is f.earlier

          own : joined_schemas (schemas_of (map (λ (i : ℕ × ℕ). tables i.0) is)) ≡ s
          own = ap joined_schemas i.schemas ∙ same_Some _ s f.schema

          mild : PhysicalBefore F (physical (zip_node false) s at is) None (map (λ (i : ℕ × ℕ). tables i.0) is) U → Fit s (tables n)
          mild (inl u) = (
            ap (λ (T : Table). T.schema) (q ∙ u),
            subst FitsTable (sym (q ∙ u))
                (subst (λ (s : Fields). AllByRecursion (FitsRow s) (zipped false at (all_columns (map (λ (i : ℕ × ℕ). tables i.0) is))).rows) own (zipped-fits false at (kinds_of (joined_schemas (schemas_of (map (λ (i : ℕ × ℕ). tables i.0) is)))) (all_columns (map (λ (i : ℕ × ℕ). tables i.0) is)) (joined-columns (map (λ (i : ℕ × ℕ). tables i.0) is) i.fit))),
          )
          mild (inr u) = (ap (λ (T : Table). T.schema) (q ∙ u.1), subst FitsTable (sym (q ∙ u.1)) tt)
      kind-fits multiplexer e f k = by-step multiplexer memory_sink tt e f.kinds f.rules.3 f.schema f.earlier k
      kind-fits (group_by_node keys aggregates) e f k = by-step (group_by_node keys aggregates) (group_by (record { keys = keys; aggregates = aggregates; maintain_order = false; cut = None })) tt e f.kinds f.rules.3 f.schema f.earlier k
      kind-fits (equi_join o) e f (U, before, q) = by-join (equi_join o) o e f.kinds f.rules.3 f.schema f.earlier (_, (U, before, refl), q)
      kind-fits (in_memory_join o) e f (U, before, q) = by-join (in_memory_join o) o e f.kinds f.rules.3 f.schema f.earlier (_, (U, before, refl), q)

    all-below : (n : ℕ) → AllBelow n
    all-below zero m h q e = absurd (omega arith)
    all-below (suc n) m h q e =
        dite (dec_le (suc m) n)
        (λ less. let before : m < n = omega arith in all-below n m before q e)
        (λ more. kind-fits m (λ k less r there. let before : k < n = omega arith in all-below n k before r there) q.schema q.origin q.inputs q.kind e (sound m q e) (chosen m q e))

    widths : (s : Fields) (rows : List (List Value)) → AllByRecursion (FitsRow s) rows → AllByRecursion (λ (row : List Value). length row ≡ length s) rows
    widths s [] f = tt
    widths s (row ∷ rows) f = (fits-length s row f.0, widths s rows f.1)

    pub sound-tables : AreTablesOf F shape tables
    sound-tables = (chosen, λ n p e. let f = all-below (suc n) n (omega arith) p e in (f.0, subst (λ (s : Fields). AllByRecursion (λ (row : List Value). length row ≡ length s) (tables n).rows) f.0 (widths (tables n).schema (tables n).rows f.1)))
