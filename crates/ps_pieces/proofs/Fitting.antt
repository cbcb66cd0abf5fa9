-- What parameters that are fit for a table give of their operation.
use Rattle.std.proofs.Common.{◌≡◌, ◌<◌, ℕ, true, false, List, [], ◌∷◌, Option, Some, None, refl, ap, sym, subst, inl}
use Rattle.std.specs.Prelude.{◌&&◌, IfErr, IfOk, IsSome, Result, IsTrue, is_some, option_map, ⊤}
use Rattle.std.specs.List.{AllByRecursion}
use Rattle.std.proofs.lemmas.Option.{same_Some}
use Rattle.std.proofs.lemmas.Result.{IfErr-weaker, IfOk-weaker}
use Rattle.std.specs.declared.alloc.Global.{Global}
use Rattle.std.specs.declared.vec.Vec.{Vec}
use Rattle.pu_base.specs.declared.arena.Node.{Node}
use Rattle.ps_frame.specs.Functions.{Functions}
use Rattle.ps_frame.specs.Lawful.{empty_frame}
use Rattle.ps_frame.specs.Refusals.{has_kind_where, is_not}
use Rattle.ps_frame.specs.Tables.{Fields, Frame}
use Rattle.ps_frame.specs.Trees.{IsComplete, Tree, tree_at}
use Rattle.ps_frame.specs.Typing.{kind_over}
use Rattle.ps_frame.specs.declared.refusal.PolarsError.{PolarsError}
use Rattle.ps_frame.specs.declared.value.DataType.{DataType}
use Rattle.ps_frame.specs.declared.value.DataType.TheVariants as kind
use Rattle.ps_meaning.specs.Nodes.{GivesFrame}
use Rattle.ps_meaning.specs.Schemas.{expr_names, fields_of, named_fields, output_schema, put_fields}
use Rattle.ps_meaning.specs.Sound.{BreaksNoRule, HasFitParameters, HasSchema, have_all_kinds, have_kinds_over, rules_of}
use Rattle.ps_meaning.specs.StepRefusals.{duplicate, repeats, schema_mismatch}
use Rattle.ps_meaning.specs.Steps.{Name, Step, exprs_of, key_trees, named_trees, step_exprs}
use Rattle.ps_meaning.specs.declared.options.ExprIR.{ExprIR}
use Rattle.ps_pieces.specs.Computed.{MayFail}
use Rattle.ps_pieces.specs.Operations.{IsFitFor, Suits, kind_computed, kind_in, schemas_taken, step_in}
use Rattle.ps_pieces.specs.declared.parameters.Operation.{Operation}
use Rattle.ps_pieces.specs.declared.parameters.Operation.TheVariants as operation
use Rattle.ps_pieces.specs.declared.parameters.Parameters.{Parameters}
use Rattle.ps_meaning.proofs.Complete.{all-complete}

exprs-named : (f : Node → Tree) (es : List ExprIR) → exprs_of (named_trees f es) ≡ key_trees f es
exprs-named f [] = refl
exprs-named f (e ∷ es) = ap (λ ts. f e.node ∷ ts) (exprs-named f es)

whole-keys : (f : Node → Tree) (s : Fields) (es : List ExprIR) → have_all_kinds s (exprs_of (named_trees f es)) ≡ true → AllByRecursion IsComplete (key_trees f es)
whole-keys f s es h = subst (AllByRecursion IsComplete) (exprs-named f es) (all-complete s (exprs_of (named_trees f es)) h)

boolean-is : (o : Option DataType) → IsTrue (is_some o && true) → ¬ IsTrue (has_kind_where (is_not kind.Boolean) o) → o ≡ Some kind.Boolean
boolean-is None h n = absurd (let q : false ≡ true = h in cc)
boolean-is (Some kind.Boolean) h n = refl
boolean-is (Some kind.Int64) h n = absurd (n refl)
boolean-is (Some kind.IdxSize) h n = absurd (n refl)
boolean-is (Some kind.String) h n = absurd (n refl)

declared-some : (o : Option Fields) (s : Fields) → o ≡ Some s → IsSome o
declared-some (Some t) s e = refl
declared-some None s e = absurd (let q : None ≡ Some s = e in cc)

module _ (F : Functions) (p : Parameters) (k : ℕ) (t : Frame) (h : IsFitFor F p k t) where
  abbrev trees : Node → Tree
  trees = tree_at p.exprs.items

  schema : (o : Operation) → p.operation ≡ o → output_schema F (step_in trees k o) (t.schema ∷ []) ≡ Some p.schema
  schema o is = subst (λ o. output_schema F (step_in trees k o) (t.schema ∷ []) ≡ Some p.schema) is h.schema

  kinds : (o : Operation) → p.operation ≡ o → IsTrue (have_all_kinds t.schema (step_exprs (step_in trees k o)))
  kinds o is = subst (λ o. IsTrue (have_all_kinds t.schema (step_exprs (step_in trees k o)))) is h.kinds

  suits : (o : Operation) → p.operation ≡ o → Suits F trees o t
  suits o is = subst (λ o. Suits F trees o t) is h.suits

  module _ (es : Vec ExprIR Global) where
    pub select-whole : p.operation ≡ operation.Select es → AllByRecursion IsComplete (key_trees trees es.items)
    select-whole is = whole-keys trees t.schema es.items (kinds (operation.Select es) is)

    pub select-fields : p.operation ≡ operation.Select es → fields_of (named_trees trees es.items) t.schema ≡ Some p.schema
    select-fields is = schema (operation.Select es) is

    pub hstack-whole : p.operation ≡ operation.HStack es → AllByRecursion IsComplete (key_trees trees es.items)
    hstack-whole is = whole-keys trees t.schema es.items (kinds (operation.HStack es) is)

    pub hstack-fields : p.operation ≡ operation.HStack es → option_map (put_fields t.schema) (fields_of (named_trees trees es.items) t.schema) ≡ Some p.schema
    hstack-fields is = schema (operation.HStack es) is

    pub hstack-names : p.operation ≡ operation.HStack es → (name : Name) → ¬ IsTrue (repeats name (expr_names (named_trees trees es.items)))
    hstack-names is = suits (operation.HStack es) is

    pub alone-whole : p.operation ≡ operation.IndependentSelect es → AllByRecursion IsComplete (key_trees trees es.items)
    alone-whole is = whole-keys trees t.schema es.items (kinds (operation.IndependentSelect es) is)

    pub alone-fields : p.operation ≡ operation.IndependentSelect es → fields_of (named_trees trees es.items) t.schema ≡ Some p.schema
    alone-fields is = schema (operation.IndependentSelect es) is

  pub filter-whole : (e : ExprIR) → p.operation ≡ operation.Filter e → IsComplete (trees e.node)
  filter-whole e is = (all-complete t.schema (trees e.node ∷ []) (kinds (operation.Filter e) is)).0

  pub filter-kind : (e : ExprIR) → p.operation ≡ operation.Filter e → kind_over t.schema (trees e.node) ≡ Some kind.Boolean
  filter-kind e is = suits (operation.Filter e) is

  pub project-fields : (names : Vec Name Global) → p.operation ≡ operation.SimpleProjection names → named_fields names.items t.schema ≡ Some p.schema
  project-fields names is = schema (operation.SimpleProjection names) is

  pub index-schema : (name : Name) (offset : Option ℕ) → p.operation ≡ operation.WithRowIndex name offset → p.schema ≡ (name, kind.IdxSize) ∷ t.schema
  index-schema name offset is = sym (same_Some _ _ (schema (operation.WithRowIndex name offset) is))

  pub map-counted : (n : ℕ) → p.operation ≡ operation.Map n → n < F.count
  map-counted n is = suits (operation.Map n) is

  pub map-declared : (n : ℕ) → p.operation ≡ operation.Map n → IsSome (F.declared n t.schema)
  map-declared n is = declared-some (F.declared n t.schema) p.schema (schema (operation.Map n) is)

-- THE NODE OF A SOUND SHAPE: what soundness says of it by itself makes its parameters fit for every table of its input.
module _ (F : Functions) (f : Node → Tree) (k : ℕ) (s : Fields) (t : Frame) where
  abbrev Sound : Operation → Type 0
  Sound o = HasSchema F (kind_in f k o) (schemas_taken o t) s × HasFitParameters F (kind_in f k o) × IsTrue (have_kinds_over (schemas_taken o t) (rules_of (kind_in f k o))) × BreaksNoRule F (rules_of (kind_in f k o)) (schemas_taken o t)

  -- a select that reads no input has a table without columns
  abbrev pub TakesNone : Operation → Type 0
  TakesNone (operation.IndependentSelect es) = t ≡ empty_frame []
  TakesNone o = ⊤

  abbrev Fit : Operation → Type 0
  Fit o = (output_schema F (step_in f k o) (t.schema ∷ []) ≡ Some s) × IsTrue (have_all_kinds t.schema (step_exprs (step_in f k o))) × Suits F f o t

  fit-by : (o : Operation) → TakesNone o → Sound o → Fit o
  fit-by (operation.Select es) h (schema, parameters, kinds, rules) = (schema, kinds, tt)
  fit-by (operation.HStack es) h (schema, parameters, kinds, rules) = (schema, kinds, λ name r. rules.3 (duplicate name) (inl r))
  fit-by (operation.IndependentSelect es) h (schema, parameters, kinds, rules) =
      (subst (λ (u : Frame). fields_of (named_trees f es.items) u.schema ≡ Some s) (sym h) schema, subst (λ (u : Frame). IsTrue (have_all_kinds u.schema (exprs_of (named_trees f es.items)))) (sym h) kinds, h)
  fit-by (operation.Filter e) h (schema, parameters, kinds, rules) = (schema, kinds, boolean-is (kind_over t.schema (f e.node)) kinds (λ r. rules.3 schema_mismatch (inl r)))
  fit-by (operation.SimpleProjection names) h (schema, parameters, kinds, rules) = (schema, refl, tt)
  fit-by (operation.WithRowIndex name offset) h (schema, parameters, kinds, rules) = (schema, refl, tt)
  fit-by (operation.Map n) h (schema, parameters, kinds, rules) = (schema, refl, parameters.0)

pub sound-fits : (F : Functions) (p : Parameters) (before : ℕ) (t : Frame) → TakesNone F (tree_at p.exprs.items) before p.schema t p.operation → HasSchema F (kind_computed p before) (schemas_taken p.operation t) p.schema
    → HasFitParameters F (kind_computed p before) → IsTrue (have_kinds_over (schemas_taken p.operation t) (rules_of (kind_computed p before))) → BreaksNoRule F (rules_of (kind_computed p before)) (schemas_taken p.operation t) → IsFitFor F p before t
sound-fits F p k t none schema parameters kinds rules =
    let fit = fit-by F (tree_at p.exprs.items) k p.schema t p.operation none (schema, parameters, kinds, rules) in
    record { schema = fit.0; kinds = fit.1; suits = fit.2 }

-- What holds of a step whatever functions there are holds of the same step under another name.
module _ (F : Functions) (n : ℕ) (t : Frame) (r : Result Frame PolarsError) (a b : Step) (same : a ≡ b) where
  pub gives-by : IfOk r (λ f. (G : Functions) → GivesFrame G n a (t ∷ []) f) → IfOk r (λ f. GivesFrame F n b (t ∷ []) f)
  gives-by h = IfOk-weaker r _ _ (λ f g. subst (λ s. GivesFrame F n s (t ∷ []) f) same (g F)) h

  pub fails-by : IfErr r (λ e. (G : Functions) → MayFail G n a t e) → IfErr r (λ e. MayFail F n b t e)
  fails-by h = IfErr-weaker r _ _ (λ e g. subst (λ s. MayFail F n s t e) same (g F)) h
