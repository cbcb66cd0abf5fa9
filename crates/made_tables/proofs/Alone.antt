-- A map that is no function of the caller's is fit whatever functions there are.
use Rattle.std.proofs.Common.{◌≡◌, true, false, List, refl, ◌∙◌}
use Rattle.bare_nodes.specs.Uncalled.{no_functions}
use Rattle.pu_base.specs.declared.arena.Node.{Node}
use Rattle.ps_frame.specs.Functions.{Functions}
use Rattle.ps_frame.specs.Tables.{Fields, Frame}
use Rattle.ps_frame.specs.Trees.{Tree, tree_at}
use Rattle.ps_frame.specs.declared.expr.What.TheVariants as what
use Rattle.ps_meaning.specs.Maps.{map_step}
use Rattle.ps_meaning.specs.Schemas.{output_schema}
use Rattle.ps_meaning.specs.StepRefusals.{NamesMissingFunction, Refusal, TypingRefused, column_not_found, duplicate, schema_mismatch, unsupported}
use Rattle.ps_meaning.specs.Steps.{DistinctStep, GroupStep, Named, SortStep, Step, distinct, group_by, key_trees, named_trees, select, sort}
use Rattle.ps_meaning.specs.declared.map.MapKind.{MapKind}
use Rattle.ps_meaning.specs.declared.map.MapKind.TheVariants as kind
use Rattle.ready_steps.specs.Ready.{IsReady, IsReadyFor, frame_schemas}
use Rattle.ps_owned_maps.specs.Owned.{MapParts, is_function, step_of}

module _ (F G : Functions) (ss : List Fields) where
  refused_select : (es : List Named) (R : Refusal) → TypingRefused G (select es) ss R → TypingRefused F (select es) ss R
  refused_select es (column_not_found n) t = t
  refused_select es (duplicate n) t = t
  refused_select es schema_mismatch t = t
  refused_select es (unsupported what.NoColumns) t = t
  refused_select es (unsupported what.LiteralAggregate) t = t
  refused_select es R t = t

  refused_sort : (o : SortStep) (R : Refusal) → TypingRefused G (sort o) ss R → TypingRefused F (sort o) ss R
  refused_sort o (column_not_found n) t = t
  refused_sort o (duplicate n) t = t
  refused_sort o schema_mismatch t = t
  refused_sort o (unsupported what.NoColumns) t = t
  refused_sort o (unsupported what.LiteralAggregate) t = t
  refused_sort o R t = t

  refused_group_by : (o : GroupStep) (R : Refusal) → TypingRefused G (group_by o) ss R → TypingRefused F (group_by o) ss R
  refused_group_by o (column_not_found n) t = t
  refused_group_by o (duplicate n) t = t
  refused_group_by o schema_mismatch t = t
  refused_group_by o (unsupported what.NoColumns) t = t
  refused_group_by o (unsupported what.LiteralAggregate) t = t
  refused_group_by o R t = t

  refused_distinct : (o : DistinctStep) (R : Refusal) → TypingRefused G (distinct o) ss R → TypingRefused F (distinct o) ss R
  refused_distinct o (column_not_found n) t = t
  refused_distinct o (duplicate n) t = t
  refused_distinct o schema_mismatch t = t
  refused_distinct o (unsupported what.NoColumns) t = t
  refused_distinct o (unsupported what.LiteralAggregate) t = t
  refused_distinct o R t = t

fit_for : (F G : Functions) (step : Step) (fs : List Frame) (s : Fields) → IsReadyFor F step fs s → ((R : Refusal) → TypingRefused G step (frame_schemas fs) R → TypingRefused F step (frame_schemas fs) R) → ¬ NamesMissingFunction G.count step
    → output_schema G step (frame_schemas fs) ≡ output_schema F step (frame_schemas fs) → IsReadyFor G step fs s
fit_for F G step fs s r refused known schema =
    record {
      fit = record {
        complete = r.fit.complete;
        typed = record { kinds = r.fit.typed.kinds; rules = λ R t. r.fit.typed.rules R (refused R t); alike = r.fit.typed.alike; names = r.fit.typed.names };
        keys = r.fit.keys;
        key = r.fit.key;
        unvalidated = r.fit.unvalidated;
        in_memory = r.fit.in_memory;
        known = known;
        built = r.fit.built;
        input = r.fit.input;
        columns = r.fit.columns;
      };
      schema = schema ∙ r.schema;
    }

by_kind : (f : Node → Tree) (k : MapKind) (fs : List Frame) (s : Fields) → is_function (map_step f k) ≡ false → IsReady (map_step f k) fs s → IsReadyFor no_functions (map_step f k) fs s
by_kind f (kind.Function n) fs s alone r = absurd (let no : true ≡ false = alone in cc)
by_kind f (kind.Select es) fs s alone r = fit_for r.0 no_functions (map_step f (kind.Select es)) fs s r.1 (refused_select r.0 no_functions (frame_schemas fs) (named_trees f es)) (λ h. h) refl
by_kind f (kind.Sort by cut options) fs s alone r = fit_for r.0 no_functions (map_step f (kind.Sort by cut options)) fs s r.1 (refused_sort r.0 no_functions (frame_schemas fs) (record { keys = key_trees f by; descending = options.descending; nulls_last = options.nulls_last; cut = cut })) (λ h. h) refl
by_kind f (kind.GroupBy keys aggs maintain cut) fs s alone r = fit_for r.0 no_functions (map_step f (kind.GroupBy keys aggs maintain cut)) fs s r.1 (refused_group_by r.0 no_functions (frame_schemas fs) (record { keys = named_trees f keys; aggregates = named_trees f aggs; maintain_order = maintain; cut = cut })) (λ h. h) refl
by_kind f (kind.Distinct o) fs s alone r = fit_for r.0 no_functions (map_step f (kind.Distinct o)) fs s r.1 (refused_distinct r.0 no_functions (frame_schemas fs) (record { subset = o.subset; maintain_order = o.maintain_order; keep = o.keep_strategy; cut = o.slice })) (λ h. h) refl

pub ready_alone : (m : MapParts) (fs : List Frame) (s : Fields) → is_function (step_of m) ≡ false → IsReady (step_of m) fs s → IsReadyFor no_functions (step_of m) fs s
ready_alone m fs s alone r = by_kind (tree_at m.exprs) m.kind fs s alone r
