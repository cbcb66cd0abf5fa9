-- What a step that stands on keys of one table's rows is ready for.
use Rattle.std.proofs.Common.{◌≡◌, List, [], ◌∷◌, ◌++◌, refl, sym, subst, ap, ◌∙◌}
use Rattle.std.specs.Prelude.{Bool, true, false, not, ◌&&◌, ◌||◌, IsTrue, IsSomeAnd, Option, Some, None, is_some}
use Rattle.std.specs.List.{AllByRecursion}
use Rattle.std.specs.Str.{bytes_eq}
use Rattle.std.proofs.lemmas.List.Folds.{list_all-append}
use Rattle.pu_base.specs.declared.arena.Node.{Node}
use Rattle.ps_frame.proofs.Lists.{and_both, both}
use Rattle.ps_frame.specs.Frames.{has_name}
use Rattle.ps_frame.specs.Tables.{Fields, Frame}
use Rattle.ps_frame.specs.Trees.{IsComplete, Tree}
use Rattle.ps_frame.specs.Typing.{kind_over}
use Rattle.ps_meaning.proofs.Begins.{or-left, or-right}
use Rattle.ps_meaning.proofs.StepFits.{same-name}
use Rattle.ps_plan.proofs.TypedKinds.{all-left, all-right}
use Rattle.ps_meaning.specs.StepRefusals.{column_not_found, lacks_name}
use Rattle.ps_meaning.specs.Schemas.{fields_of, first_schema, is_among}
use Rattle.ps_meaning.specs.Sound.{have_all_kinds}
use Rattle.ps_meaning.specs.Steps.{Cut, Name, distinct_step, exprs_of, group_step, key_trees, named_trees}
use Rattle.ps_meaning.specs.declared.options.DistinctOptions.{DistinctOptions}
use Rattle.ps_meaning.specs.declared.options.ExprIR.{ExprIR}
use Rattle.ps_zip.proofs.Named.{exprs-of-named}
use Rattle.ps_zip.specs.Zips.{AreTypedOver}
use Rattle.ps_groups.specs.Subsets.{StandIn}
use Rattle.ready_steps.specs.Ready.{IsReady, frame_schemas}
use Rattle.ready_steps.proofs.RowSteps.{all-kinds, first-of}

-- keys and aggregates
module _ (f : Node → Tree) (keys aggs : List ExprIR) (maintained : Bool) (cut : Cut) (fs : List Frame) (d : Frame) (s : Fields) (only : fs ≡ d ∷ []) (r : IsReady (group_step f keys aggs maintained cut) fs s) where
  named : exprs_of (named_trees f keys) ++ exprs_of (named_trees f aggs) ≡ key_trees f keys ++ key_trees f aggs
  named = ap (λ ts. ts ++ exprs_of (named_trees f aggs)) (exprs-of-named f keys) ∙ ap (λ ts. key_trees f keys ++ ts) (exprs-of-named f aggs)

  complete : AllByRecursion IsComplete (key_trees f keys ++ key_trees f aggs)
  complete = subst (λ ts. AllByRecursion IsComplete ts) named r.1.fit.complete

  have-kinds : IsTrue (have_all_kinds d.schema (key_trees f keys ++ key_trees f aggs))
  have-kinds = subst (λ ts. IsTrue (have_all_kinds d.schema ts)) named (subst (λ t. IsTrue (have_all_kinds t (exprs_of (named_trees f keys) ++ exprs_of (named_trees f aggs)))) (first-of fs d only) r.1.fit.typed.kinds)

  kinds : IsTrue (have_all_kinds d.schema (key_trees f keys)) × IsTrue (have_all_kinds d.schema (key_trees f aggs))
  kinds = both _ _ (sym (list_all-append (λ e. is_some (kind_over d.schema e)) (key_trees f keys) (key_trees f aggs)) ∙ have-kinds)

  pub keys-typed : AreTypedOver d.schema (key_trees f keys)
  keys-typed = (all-left IsComplete (key_trees f keys) (key_trees f aggs) complete, all-kinds d.schema (key_trees f keys) kinds.0)

  pub aggs-typed : AreTypedOver d.schema (key_trees f aggs)
  aggs-typed = (all-right IsComplete (key_trees f keys) (key_trees f aggs) complete, all-kinds d.schema (key_trees f aggs) kinds.1)

  pub group-fields : fields_of (named_trees f keys ++ named_trees f aggs) d.schema ≡ Some s
  group-fields = ap (λ t. fields_of (named_trees f keys ++ named_trees f aggs) t) (sym (first-of fs d only)) ∙ r.1.schema

-- names that stand
all-stand : (ns : List Name) (s : Fields) → ((n : Name) → ¬ IsTrue (lacks_name n s ns)) → AllByRecursion (λ n. IsTrue (has_name n s)) ns
all-stand [] s h = tt
all-stand (n ∷ ns) s h = (there (has_name n s) refl, all-stand ns s (λ m l. h m (later m l)))
  where
    there : (b : Bool) → has_name n s ≡ b → IsTrue (has_name n s)
    there true q = q
    there false q = absurd (h n (and_both (bytes_eq n n || is_among n ns) (not (has_name n s)) (or-left (bytes_eq n n) (is_among n ns) (same-name n)) (ap not q)))

    later : (m : Name) → IsTrue (is_among m ns && not (has_name m s)) → IsTrue ((bytes_eq m n || is_among m ns) && not (has_name m s))
    later m l = let parts = both (is_among m ns) (not (has_name m s)) l in and_both (bytes_eq m n || is_among m ns) (not (has_name m s)) (or-right (bytes_eq m n) (is_among m ns) parts.0) parts.1

subset-stands : (o : DistinctOptions) (subset : Option (List Name)) (fs : List Frame) (d : Frame) (s : Fields) → o.subset ≡ subset → fs ≡ d ∷ [] → IsReady (distinct_step o) fs s → StandIn subset d.schema
subset-stands o None fs d s q only r = tt
subset-stands o (Some ns) fs d s q only r =
    all-stand ns d.schema
    (λ n h. r.1.fit.typed.rules (column_not_found n) (subst (λ columns. IsSomeAnd columns (λ ms. IsTrue (lacks_name n (first_schema (frame_schemas fs)) ms))) (sym q) (subst (λ t. IsTrue (lacks_name n t ns)) (sym (first-of fs d only)) h)))

pub distinct-stands : (o : DistinctOptions) (fs : List Frame) (d : Frame) (s : Fields) → fs ≡ d ∷ [] → IsReady (distinct_step o) fs s → StandIn o.subset d.schema
distinct-stands o fs d s only r = subset-stands o o.subset fs d s refl only r
