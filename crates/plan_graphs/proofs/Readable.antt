-- What nodes of a sound shape read, and that what makes a table of it can.
use Rattle.std.proofs.Common.{◌≡◌, ◌≢◌, ℕ, zero, suc, ◌<◌, ◌≤◌, ◌⊎◌, Bool, true, false, List, [], ◌∷◌, length, Option, None, Some, refl, ap, sym, subst, ◌∙◌, inl, inr, arith}
use Rattle.std.specs.Prelude.{IsTrue, map, slice_get, unwrap_or}
use Rattle.std.specs.List.{AllByRecursion}
use Rattle.ps_frame.specs.Frames.{has_distinct_names}
use Rattle.ps_frame.specs.Functions.{Functions}
use Rattle.ps_frame.specs.Tables.{Fields}
use Rattle.made_tables.specs.Joinable.{CanJoin}
use Rattle.ps_meaning.specs.Laws.{IsBuilt}
use Rattle.ps_meaning.specs.Schemas.{first_schema, join_schema, output_schema, second_schema}
use Rattle.ps_meaning.specs.Shape.{PhysicalKind, PhysicalNode, Shape, equi_join, filter_node, group_by_node, in_memory_join, in_memory_map, in_memory_sink, in_memory_source, independent_select, multiplexer, negative_slice, ordered_union, reduce, select_node, simple_projection, stream_map, streaming_slice, with_row_index, zip_node}
use Rattle.ps_meaning.specs.Sound.{BreaksNoRule, HasFieldsOf, HasSchema, IsFitNode, IsMapStep, IsSoundButForReaders, have_kinds_over, input_schemas, rules_of, schema_at}
use Rattle.ps_meaning.specs.StepRefusals.{IsFileSink, NamesMissingFunction, NeedsInput, Refusal, TypingRefused}
use Rattle.ps_meaning.specs.Steps.{JoinStep, Step, cache, distinct, filter, group_by, hconcat, hstack, join, left_out, project, row_index, scan, select, sink, slice, sort, union, user}
use Rattle.ps_nodes.specs.Fit.{CanMap}
use Rattle.ps_plan.proofs.TypedSteps.{alike, output-distinct}
use Rattle.ps_meaning.proofs.Complete.{step-complete}

module _ (F : Functions) where
  -- no name stands twice in a node's schema
  by-step : (step : Step) (ss : List Fields) (s : Fields) → ((R : Refusal) → ¬ TypingRefused F step ss R) → output_schema F step ss ≡ Some s → has_distinct_names s ≡ true
  by-step step ss s rules e = let P : Option Fields → Type 0 = λ o. has_distinct_names (unwrap_or o []) ≡ true in subst P e (output-distinct F step ss rules)

  kind-distinct : (kind : PhysicalKind) (ss : List Fields) (s : Fields) → ((R : Refusal) → ¬ TypingRefused F (rules_of kind) ss R) → HasSchema F kind ss s → has_distinct_names s ≡ true
  kind-distinct (equi_join o) ss s rules h = h.1
  kind-distinct (in_memory_join o) ss s rules h = h.1
  kind-distinct (in_memory_source t) ss s rules h = by-step (rules_of (in_memory_source t)) ss s rules h
  kind-distinct (select_node es b) ss s rules h = by-step (rules_of (select_node es b)) ss s rules h
  kind-distinct (with_row_index name offset) ss s rules h = by-step (rules_of (with_row_index name offset)) ss s rules h
  kind-distinct (independent_select es) ss s rules h = by-step (rules_of (independent_select es)) ss s rules h
  kind-distinct (reduce es) ss s rules h = by-step (rules_of (reduce es)) ss s rules h
  kind-distinct (streaming_slice offset n) ss s rules h = by-step (rules_of (streaming_slice offset n)) ss s rules h
  kind-distinct (negative_slice back n) ss s rules h = by-step (rules_of (negative_slice back n)) ss s rules h
  kind-distinct (filter_node e) ss s rules h = by-step (rules_of (filter_node e)) ss s rules h
  kind-distinct (simple_projection ns) ss s rules h = by-step (rules_of (simple_projection ns)) ss s rules h
  kind-distinct in_memory_sink ss s rules h = by-step (rules_of in_memory_sink) ss s rules h
  kind-distinct (in_memory_map step) ss s rules h = by-step (rules_of (in_memory_map step)) ss s rules h
  kind-distinct (stream_map step) ss s rules h = by-step (rules_of (stream_map step)) ss s rules h
  kind-distinct ordered_union ss s rules h = by-step (rules_of ordered_union) ss s rules h
  kind-distinct (zip_node b) ss s rules h = by-step (rules_of (zip_node b)) ss s rules h
  kind-distinct multiplexer ss s rules h = by-step (rules_of multiplexer) ss s rules h
  kind-distinct (group_by_node keys aggregates) ss s rules h = by-step (rules_of (group_by_node keys aggregates)) ss s rules h

  -- schemas with a column, and with no name twice
  pub record AreGood (ss : List Fields) : Type 0 where
    pub columns : AllByRecursion (λ s. s ≢ []) ss
    pub names : AllByRecursion (λ s. has_distinct_names s ≡ true) ss

  stands : (xs : Shape) (n : ℕ) (x : PhysicalNode) (m : ℕ) → slice_get xs n ≡ Some x → m < n → (y : PhysicalNode) × (slice_get xs m ≡ Some y)
  stands [] n x m e h = cc
  stands (y ∷ xs) n x zero e h = (y, refl)
  stands (y ∷ xs) zero x (suc m) e h = absurd (omega arith)
  stands (y ∷ xs) (suc n) x (suc m) e h = stands xs n x m e (omega arith)

  module _ (shape : Shape) (sound : IsSoundButForReaders F shape) (n : ℕ) (p : PhysicalNode) (at : slice_get shape n ≡ Some p) where
    reads : (is : List (ℕ × ℕ)) → AllByRecursion (λ (i : ℕ × ℕ). i.0 < n) is → AreGood (map (λ (i : ℕ × ℕ). schema_at (slice_get shape i.0)) is)
    reads [] all = record { columns = tt; names = tt }
    reads (i ∷ is) all =
        let q = stands shape n p i.0 at all.0 in
        let f = sound i.0 q.0 q.1 in
        let rest = reads is all.1 in
        let same : schema_at (slice_get shape i.0) ≡ q.0.schema = ap schema_at q.1 in
        let P : Fields → Type 0 = λ s. s ≢ [] in
        record {
          columns = (subst P (sym same) f.not_empty, rest.columns);
          names = (ap has_distinct_names same ∙ kind-distinct q.0.kind (input_schemas shape q.0) q.0.schema f.rules.3 f.schema, rest.names);
        }

    pub good-inputs : AreGood (input_schemas shape p)
    good-inputs = reads p.inputs (sound n p at).earlier

  -- a step that a map may do is in memory, the engine has it, and it needs no further input
  no-file : (step : Step) → IsMapStep F step → ¬ IsFileSink step
  no-file (user n) m h = h
  no-file (select es) m h = h
  no-file (sort o) m h = h
  no-file (group_by o) m h = h
  no-file (distinct o) m h = h
  no-file (scan t ns) m h = m
  no-file (project ns) m h = m
  no-file (hstack es) m h = m
  no-file (filter e) m h = m
  no-file (slice offset n) m h = m
  no-file (sink payload) m h = m
  no-file (row_index name offset) m h = m
  no-file (union cut) m h = m
  no-file hconcat m h = m
  no-file (cache id) m h = m
  no-file (join o) m h = m
  no-file (left_out what) m h = m

  none-missing : (step : Step) → IsMapStep F step → ¬ NamesMissingFunction F.count step
  none-missing (user n) m h = omega (arith, m, h)
  none-missing (select es) m h = h
  none-missing (sort o) m h = h
  none-missing (group_by o) m h = h
  none-missing (distinct o) m h = h
  none-missing (scan t ns) m h = m
  none-missing (project ns) m h = m
  none-missing (hstack es) m h = m
  none-missing (filter e) m h = m
  none-missing (slice offset n) m h = m
  none-missing (sink payload) m h = m
  none-missing (row_index name offset) m h = m
  none-missing (union cut) m h = m
  none-missing hconcat m h = m
  none-missing (cache id) m h = m
  none-missing (join o) m h = m
  none-missing (left_out what) m h = m

  is-built : (step : Step) → IsMapStep F step → IsBuilt step
  is-built (left_out what) m = m
  is-built (user n) m = tt
  is-built (select es) m = tt
  is-built (sort o) m = tt
  is-built (group_by o) m = tt
  is-built (distinct o) m = tt
  is-built (scan t ns) m = tt
  is-built (project ns) m = tt
  is-built (hstack es) m = tt
  is-built (filter e) m = tt
  is-built (slice offset n) m = tt
  is-built (sink payload) m = tt
  is-built (row_index name offset) m = tt
  is-built (union cut) m = tt
  is-built hconcat m = tt
  is-built (cache id) m = tt
  is-built (join o) m = tt

  pub can-map : (step : Step) (s out : Fields) → IsMapStep F step → have_kinds_over (s ∷ []) step ≡ true → BreaksNoRule F step (s ∷ []) → output_schema F step (s ∷ []) ≡ Some out → AreGood (s ∷ []) → CanMap step s
  can-map step s out m kinds rules schema good =
      inr (
        out,
        (
          F,
          record {
            fit = record {
              complete = step-complete (s ∷ []) step kinds;
              typed = record { kinds = kinds; rules = rules.3; alike = alike F step (s ∷ []) rules.3; names = good.names };
              keys = rules.0;
              key = rules.1;
              unvalidated = rules.2;
              in_memory = no-file step m;
              known = none-missing step m;
              built = is-built step m;
              input = λ needs e. cc;
              columns = good.columns;
            };
            schema = schema;
          },
        ),
      )

  pub can-join : (o : JoinStep) (l r s : Fields) → have_kinds_over (l ∷ r ∷ []) (join o) ≡ true → BreaksNoRule F (join o) (l ∷ r ∷ []) → HasFieldsOf (join_schema o l r) s → AreGood (l ∷ r ∷ []) → CanJoin o l r s
  can-join o l r s kinds rules fields good =
      record {
        given = join_schema o l r;
        fit = (
          F,
          record {
            fit = record {
              complete = step-complete (l ∷ r ∷ []) (join o) kinds;
              typed = record { kinds = kinds; rules = rules.3; alike = tt; names = good.names };
              keys = rules.0;
              key = rules.1;
              unvalidated = rules.2;
              in_memory = λ h. h;
              known = λ h. h;
              built = tt;
              input = λ needs e. needs;
              columns = good.columns;
            };
            schema = refl;
          },
        );
        fields = fields;
      }
