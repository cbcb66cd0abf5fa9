-- What a step with expressions over one table is ready for.
use Rattle.std.proofs.Common.{◌≡◌, List, [], ◌∷◌, refl, sym, subst, ap, ◌∙◌, inl}
use Rattle.std.specs.Prelude.{true, false, ◌&&◌, IsTrue, IsSome, Option, Some, None, is_some, option_map}
use Rattle.std.specs.List.{AllByRecursion}
use Rattle.pu_base.specs.declared.arena.Node.{Node}
use Rattle.ps_frame.proofs.Lists.{both}
use Rattle.ps_frame.specs.Refusals.{has_kind_where, is_not}
use Rattle.ps_frame.specs.Tables.{Fields, Frame}
use Rattle.ps_frame.specs.Trees.{IsComplete, Tree}
use Rattle.ps_frame.specs.Typing.{kind_over}
use Rattle.ps_frame.specs.declared.value.DataType.{DataType}
use Rattle.ps_frame.specs.declared.value.DataType.TheVariants as kind
use Rattle.ps_meaning.specs.StepRefusals.{duplicate, repeats, schema_mismatch}
use Rattle.ps_meaning.specs.Schemas.{expr_names, fields_of, first_schema, put_fields}
use Rattle.ps_meaning.specs.Sound.{have_all_kinds}
use Rattle.ps_meaning.specs.Steps.{Cut, Name, exprs_of, filter, hstack, key_trees, named_trees, select, sort_step}
use Rattle.ps_meaning.specs.declared.options.ExprIR.{ExprIR}
use Rattle.ps_meaning.specs.declared.options.SortMultipleOptions.{SortMultipleOptions}
use Rattle.ps_zip.proofs.Named.{exprs-of-named}
use Rattle.ps_zip.specs.Zips.{AreTypedOver}
use Rattle.ready_steps.specs.Ready.{IsReady, frame_schemas}

-- expressions that have kinds
pub all-kinds : (s : Fields) (es : List Tree) → IsTrue (have_all_kinds s es) → AllByRecursion (λ e. IsSome (kind_over s e)) es
all-kinds s [] h = tt
all-kinds s (e ∷ es) h = let parts = both (is_some (kind_over s e)) (have_all_kinds s es) h in (parts.0, all-kinds s es parts.1)

-- an only input has the first schema
pub first-of : (fs : List Frame) (d : Frame) → fs ≡ d ∷ [] → first_schema (frame_schemas fs) ≡ d.schema
first-of fs d e = ap (λ gs. first_schema (frame_schemas gs)) e

-- named expressions that are whole
named-whole : (f : Node → Tree) (es : List ExprIR) → AllByRecursion IsComplete (exprs_of (named_trees f es)) → AllByRecursion IsComplete (key_trees f es)
named-whole f es h = subst (λ ts. AllByRecursion IsComplete ts) (exprs-of-named f es) h

module _ (f : Node → Tree) (es : List ExprIR) (fs : List Frame) (d : Frame) (s : Fields) (only : fs ≡ d ∷ []) where
  pub select-whole : IsReady (select (named_trees f es)) fs s → AllByRecursion IsComplete (key_trees f es)
  select-whole r = named-whole f es r.1.fit.complete

  pub select-fields : IsReady (select (named_trees f es)) fs s → fields_of (named_trees f es) d.schema ≡ Some s
  select-fields r = ap (λ t. fields_of (named_trees f es) t) (sym (first-of fs d only)) ∙ r.1.schema

  pub hstack-whole : IsReady (hstack (named_trees f es)) fs s → AllByRecursion IsComplete (key_trees f es)
  hstack-whole r = named-whole f es r.1.fit.complete

  pub hstack-fields : IsReady (hstack (named_trees f es)) fs s → option_map (put_fields d.schema) (fields_of (named_trees f es) d.schema) ≡ Some s
  hstack-fields r = ap (λ t. option_map (put_fields t) (fields_of (named_trees f es) t)) (sym (first-of fs d only)) ∙ r.1.schema

  pub hstack-names : IsReady (hstack (named_trees f es)) fs s → (name : Name) → ¬ IsTrue (repeats name (expr_names (named_trees f es)))
  hstack-names r name h = r.1.fit.typed.rules (duplicate name) (inl h)

  pub sort-typed : (cut : Cut) (options : SortMultipleOptions) → IsReady (sort_step f es cut options) fs s → AreTypedOver d.schema (key_trees f es)
  sort-typed cut options r = (r.1.fit.complete, all-kinds d.schema (key_trees f es) (subst (λ t. IsTrue (have_all_kinds t (key_trees f es))) (first-of fs d only) r.1.fit.typed.kinds))

-- a predicate
boolean-is : (o : Option DataType) → IsTrue (is_some o && true) → ¬ IsTrue (has_kind_where (is_not kind.Boolean) o) → o ≡ Some kind.Boolean
boolean-is None h n = absurd (let q : false ≡ true = h in cc)
boolean-is (Some kind.Boolean) h n = refl
boolean-is (Some kind.Int64) h n = absurd (n refl)
boolean-is (Some kind.IdxSize) h n = absurd (n refl)
boolean-is (Some kind.String) h n = absurd (n refl)

pub filter-whole : (e : Tree) (fs : List Frame) (s : Fields) → IsReady (filter e) fs s → IsComplete e
filter-whole e fs s r = r.1.fit.complete.0

pub filter-kind : (e : Tree) (fs : List Frame) (d : Frame) (s : Fields) → fs ≡ d ∷ [] → IsReady (filter e) fs s → kind_over d.schema e ≡ Some kind.Boolean
filter-kind e fs d s only r = ap (λ t. kind_over t e) (sym (first-of fs d only)) ∙ boolean-is _ r.1.fit.typed.kinds (λ h. r.1.fit.typed.rules schema_mismatch (inl h))
