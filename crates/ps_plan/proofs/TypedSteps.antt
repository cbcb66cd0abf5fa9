-- What clean inputs and no refusal tell of a step: distinct names, and inputs of a union that are alike.
use Rattle.std.proofs.Common.{◌≡◌, ◌≢◌, suc, ◌⊎◌, inl, inr, ◌++◌, List, [], ◌∷◌, refl, sym, ap, subst, arith, ◌∙◌}
use Rattle.std.specs.Prelude.{Bool, true, false, Any, Option, Some, None, unwrap_or}
use Rattle.std.specs.List.{AllByRecursion}
use Rattle.std.specs.Str.{bytes_eq}
use Rattle.std.proofs.lemmas.Option.{same_Some}
use Rattle.std.proofs.lemmas.Slice.Eq.{bytes_eq-Decides}
use Rattle.ps_frame.specs.Frames.{has_distinct_names}
use Rattle.ps_frame.specs.Functions.{Functions}
use Rattle.ps_frame.specs.Tables.{Fields}
use Rattle.ps_frame.specs.Typing.{kind_over}
use Rattle.ps_frame.specs.declared.value.DataType.{DataType}
use Rattle.ps_frame.specs.declared.value.DataType.TheVariants as kind
use Rattle.ps_meaning.specs.Laws.{AreAlike}
use Rattle.ps_meaning.specs.PlanTrees.{PlanTree, PlanTrees, node, missing, no_trees, tree}
use Rattle.ps_plan.specs.Plans.{Plan}
use Rattle.ps_meaning.specs.StepRefusals.{Refusal, TypingRefused, duplicate, repeats, schema_mismatch}
use Rattle.ps_plan.specs.Refusals.{AreClean, IsClean}
use Rattle.ps_meaning.specs.Schemas.{both, expr_names, fields_of, first_schema, names_of, schema_or_empty, tree_schema, tree_schemas}
use Rattle.ps_meaning.specs.Steps.{Name, Named, Step, scan, project, select, hstack, filter, slice, sink, row_index, user, sort, union, hconcat, cache, group_by, join, distinct, left_out}
use Rattle.ps_meaning.proofs.HStackFits.{distinct-from}

-- equality of schemas is decided
same_kind-or : (a b : DataType) → (a ≡ b) ⊎ (a ≢ b)
same_kind-or kind.Boolean kind.Boolean = inl refl
same_kind-or kind.Boolean kind.Int64 = inr (λ e. cc)
same_kind-or kind.Boolean kind.IdxSize = inr (λ e. cc)
same_kind-or kind.Boolean kind.String = inr (λ e. cc)
same_kind-or kind.Int64 kind.Boolean = inr (λ e. cc)
same_kind-or kind.Int64 kind.Int64 = inl refl
same_kind-or kind.Int64 kind.IdxSize = inr (λ e. cc)
same_kind-or kind.Int64 kind.String = inr (λ e. cc)
same_kind-or kind.IdxSize kind.Boolean = inr (λ e. cc)
same_kind-or kind.IdxSize kind.Int64 = inr (λ e. cc)
same_kind-or kind.IdxSize kind.IdxSize = inl refl
same_kind-or kind.IdxSize kind.String = inr (λ e. cc)
same_kind-or kind.String kind.Boolean = inr (λ e. cc)
same_kind-or kind.String kind.Int64 = inr (λ e. cc)
same_kind-or kind.String kind.IdxSize = inr (λ e. cc)
same_kind-or kind.String kind.String = inl refl

same_name-or : (a b : Name) → (a ≡ b) ⊎ (a ≢ b)
same_name-or a b = by (bytes_eq a b) refl
  where
    by : (r : Bool) → bytes_eq a b ≡ r → (a ≡ b) ⊎ (a ≢ b)
    by true q = inl ((bytes_eq-Decides a b).0 q)
    by false q = inr (λ e. let t = (bytes_eq-Decides a b).1 e in cc)

front : Name × DataType → Fields → Name × DataType
front g [] = g
front g (f ∷ s) = f

rest : Fields → Fields
rest [] = []
rest (f ∷ s) = s

same_schema-or : (s t : Fields) → (s ≡ t) ⊎ (s ≢ t)
unfolding front rest
same_schema-or [] [] = inl refl
same_schema-or [] (g ∷ t) = inr (λ e. cc)
same_schema-or (f ∷ s) [] = inr (λ e. cc)
same_schema-or ((n, j) ∷ s) ((m, k) ∷ t) = by (same_name-or n m) (same_kind-or j k) (same_schema-or s t)
  where
    by : (n ≡ m) ⊎ (n ≢ m) → (j ≡ k) ⊎ (j ≢ k) → (s ≡ t) ⊎ (s ≢ t) → ((n, j) ∷ s ≡ (m, k) ∷ t) ⊎ ((n, j) ∷ s ≢ (m, k) ∷ t)
    by (inl a) (inl b) (inl c) = inl (λ i. (a i, b i) ∷ c i)
    by (inr a) b c = inr (λ e. a (ap (λ s. (front (n, j) s).0) e))
    by (inl a) (inr b) c = inr (λ e. b (ap (λ s. (front (n, j) s).1) e))
    by (inl a) (inl b) (inr c) = inr (λ e. c (ap rest e))

none-differs : (s : Fields) (ss : List Fields) → (Any (λ t. t ≢ s) ss → ⊥) → AllByRecursion (λ t. t ≡ s) ss
none-differs s [] h = tt
none-differs s (t ∷ ss) h = (by (same_schema-or t s), none-differs s ss (λ a. h (suc a.0, a.1, omega (arith, a.2), a.3, a.4)))
  where
    by : (t ≡ s) ⊎ (t ≢ s) → t ≡ s
    by (inl e) = e
    by (inr d) = absurd (h (0, t, omega arith, refl, d))

module _ (F : Functions) where
  pub alike : (step : Step) (ss : List Fields) → ((R : Refusal) → ¬ TypingRefused F step ss R) → AreAlike step ss
  alike (scan f ns) ss rules = tt
  alike (project ns) ss rules = tt
  alike (select es) ss rules = tt
  alike (hstack es) ss rules = tt
  alike (filter e) ss rules = tt
  alike (slice offset n) ss rules = tt
  alike (sink payload) ss rules = tt
  alike (row_index name offset) ss rules = tt
  alike (user n) ss rules = tt
  alike (sort o) ss rules = tt
  alike (union cut) ss rules = none-differs (first_schema ss) ss (λ a. rules schema_mismatch (inl a))
  alike hconcat ss rules = tt
  alike (cache id) ss rules = tt
  alike (group_by o) ss rules = tt
  alike (join o) ss rules = tt
  alike (distinct o) ss rules = tt
  alike (left_out what) ss rules = tt

-- named expressions have the names of their fields
names-of_fields : (es : List Named) (s : Fields) (out : Fields) → fields_of es s ≡ Some out → names_of out ≡ expr_names es
names-of_fields [] s out e = let q : [] ≡ out = cc in ap names_of (sym q)
names-of_fields ((n, t) ∷ es) s out e = by (kind_over s t) (fields_of es s) refl e (λ fs q. names-of_fields es s fs q)
  where
    by : (o : Option DataType) (r : Option Fields) → fields_of es s ≡ r → both (λ (k : DataType) (fs : Fields). (n, k) ∷ fs) o r ≡ Some out → ((fs : Fields) → fields_of es s ≡ Some fs → names_of fs ≡ expr_names es) → names_of out ≡ n ∷ expr_names es
    by None r q h later = cc
    by (Some k) None q h later = cc
    by (Some k) (Some fs) q h later = ap names_of (sym (same_Some _ _ h)) ∙ ap (λ ns. n ∷ ns) (later fs q)

named-distinct : (es : List Named) (s : Fields) → ((n : Name) → repeats n (expr_names es) ≡ true → ⊥) → has_distinct_names (unwrap_or (fields_of es s) []) ≡ true
named-distinct es s h = by (fields_of es s) refl
  where
    by : (o : Option Fields) → fields_of es s ≡ o → has_distinct_names (unwrap_or o []) ≡ true
    by None q = refl
    by (Some out) q = distinct-from out (λ n r. h n (subst (λ ns. repeats n ns ≡ true) (names-of_fields es s out q) r))

module _ (F : Functions) where
  pub output-distinct : (step : Step) (ss : List Fields) → ((R : Refusal) → ¬ TypingRefused F step ss R) → has_distinct_names (schema_or_empty F step ss) ≡ true
  output-distinct (scan f ns) ss rules = distinct-from (schema_or_empty F (scan f ns) ss) (λ n r. rules (duplicate n) (inr r))
  output-distinct (project ns) ss rules = distinct-from (schema_or_empty F (project ns) ss) (λ n r. rules (duplicate n) (inr r))
  output-distinct (select es) ss rules = named-distinct es (first_schema ss) (λ n r. rules (duplicate n) (inr r))
  output-distinct (hstack es) ss rules = distinct-from (schema_or_empty F (hstack es) ss) (λ n r. rules (duplicate n) (inr r))
  output-distinct (filter e) ss rules = distinct-from (schema_or_empty F (filter e) ss) (λ n r. rules (duplicate n) (inr r))
  output-distinct (slice offset n) ss rules = distinct-from (schema_or_empty F (slice offset n) ss) (λ n r. rules (duplicate n) (inr r))
  output-distinct (sink payload) ss rules = distinct-from (schema_or_empty F (sink payload) ss) (λ n r. rules (duplicate n) (inr r))
  output-distinct (row_index name offset) ss rules = distinct-from (schema_or_empty F (row_index name offset) ss) (λ n r. rules (duplicate n) (inr r))
  output-distinct (user n) ss rules = distinct-from (schema_or_empty F (user n) ss) (λ n r. rules (duplicate n) (inr r))
  output-distinct (sort o) ss rules = distinct-from (schema_or_empty F (sort o) ss) (λ n r. rules (duplicate n) (inr r))
  output-distinct (union cut) ss rules = distinct-from (schema_or_empty F (union cut) ss) (λ n r. rules (duplicate n) (inr r))
  output-distinct hconcat ss rules = distinct-from (schema_or_empty F hconcat ss) (λ n r. rules (duplicate n) (inr r))
  output-distinct (cache id) ss rules = distinct-from (schema_or_empty F (cache id) ss) (λ n r. rules (duplicate n) (inr r))
  output-distinct (group_by o) ss rules = named-distinct (o.keys ++ o.aggregates) (first_schema ss) (λ n r. rules (duplicate n) (inr r))
  output-distinct (join o) ss rules = distinct-from (schema_or_empty F (join o) ss) (λ n r. rules (duplicate n) (inr r))
  output-distinct (distinct o) ss rules = distinct-from (schema_or_empty F (distinct o) ss) (λ n r. rules (duplicate n) (inr r))
  output-distinct (left_out what) ss rules = refl

  clean-distinct : (plan : Plan) (t : PlanTree) → IsClean F plan t → has_distinct_names (tree_schema F t) ≡ true
  clean-distinct plan (node at step below) c = output-distinct step (tree_schemas F below) c.2
  clean-distinct plan missing c = refl

  pub inputs-distinct : (plan : Plan) (ts : PlanTrees) → AreClean F plan ts → AllByRecursion (λ s. has_distinct_names s ≡ true) (tree_schemas F ts)
  inputs-distinct plan no_trees c = tt
  inputs-distinct plan (tree t ts) c = (clean-distinct plan t c.0, inputs-distinct plan ts c.1)
