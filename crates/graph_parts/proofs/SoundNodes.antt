-- What the node of a sound shape gives of its parameters, kind by kind.
use Rattle.std.proofs.Common.{◌≡◌, ℕ, Bool, true, false, List, [], ◌∷◌, ◌++◌, Option, Some, None, refl, ap, sym, subst, ◌∙◌}
use Rattle.std.specs.Prelude.{IsTrue, map}
use Rattle.std.specs.List.{AllByRecursion}
use Rattle.std.proofs.lemmas.Option.{same_Some}
use Rattle.pu_base.specs.declared.arena.Node.{Node}
use Rattle.ps_frame.specs.Functions.{Functions}
use Rattle.ps_frame.specs.Tables.{Fields}
use Rattle.ps_frame.specs.Trees.{IsComplete, Tree}
use Rattle.ps_frame.specs.Typing.{kind_over}
use Rattle.ps_frame.specs.declared.value.DataType.{DataType}
use Rattle.ps_meaning.specs.Maps.{map_step}
use Rattle.ps_meaning.specs.Schemas.{both, expr_names, fields_of, first_schema, names_of, second_schema}
use Rattle.ps_meaning.specs.Shape.{PhysicalKind, Shape, equi_join, filter_node, group_by_node, in_memory_join, in_memory_map, independent_select, reduce, select_node, stream_map}
use Rattle.ps_meaning.specs.Sound.{BreaksNoRule, HasFitParameters, HasInputs, HasSchema, IsFunctionStep, IsReduction, have_all_kinds, have_kinds_over, input_schemas, rules_of}
use Rattle.ps_meaning.specs.Steps.{JoinStep, Name, Named, Step, exprs_of, filter, group_by, hstack, join, key_trees, named_trees, select, sort_step, step_exprs}
use Rattle.ps_meaning.specs.declared.map.MapKind.{MapKind}
use Rattle.ps_meaning.specs.declared.options.ExprIR.{ExprIR}
use Rattle.ps_meaning.specs.declared.options.JoinArgs.{JoinArgs}
use Rattle.ps_meaning.specs.declared.options.SortMultipleOptions.{SortMultipleOptions}
use Rattle.ps_phys.specs.Shown.{join_of}
use Rattle.graph_parts.specs.SoundShapes.{IsOfSoundShape}
use Rattle.ps_meaning.proofs.Complete.{all-complete, and-parts, step-complete}

-- what soundness says of a node by itself
pub record IsSoundNode (F : Functions) (kind : PhysicalKind) (s : Fields) (ss : List Fields) : Type 0 where
  pub schema : HasSchema F kind ss s
  pub parameters : HasFitParameters F kind
  pub kinds : have_kinds_over ss (rules_of kind) ≡ true
  pub rules : BreaksNoRule F (rules_of kind) ss

pub by-itself : (kind : PhysicalKind) (s : Fields) (ss : List Fields) (x : IsOfSoundShape kind s ss) → IsSoundNode x.functions kind s ss
by-itself kind s ss x =
    let P : List Fields → Type 0 = λ ts. HasSchema x.functions x.node.kind ts x.node.schema in
    let Q : Fields → Type 0 = λ t. HasSchema x.functions x.node.kind ss t in
    let R : PhysicalKind → Type 0 = λ k. HasSchema x.functions k ss s in
    let T : List Fields → Type 0 = λ ts. have_kinds_over ts (rules_of x.node.kind) ≡ true in
    let V : List Fields → Type 0 = λ ts. BreaksNoRule x.functions (rules_of x.node.kind) ts in
    let W : PhysicalKind → Type 0 = λ k. BreaksNoRule x.functions (rules_of k) ss in
    let U : PhysicalKind → Type 0 = λ k. have_kinds_over ss (rules_of k) ≡ true in
    record {
      schema = subst R x.of_kind (subst Q x.of_schema (subst P x.inputs x.fit.schema));
      parameters = subst (HasFitParameters x.functions) x.of_kind x.fit.parameters;
      kinds = subst U x.of_kind (subst T x.inputs x.fit.kinds);
      rules = subst W x.of_kind (subst V x.inputs x.fit.rules);
    }

-- expressions without their names
pub exprs-named : (f : Node → Tree) (es : List ExprIR) → exprs_of (named_trees f es) ≡ key_trees f es
exprs-named f [] = refl
exprs-named f (e ∷ es) = ap (λ ts. f e.node ∷ ts) (exprs-named f es)

whole-keys : (f : Node → Tree) (es : List ExprIR) → AllByRecursion IsComplete (exprs_of (named_trees f es)) → AllByRecursion IsComplete (key_trees f es)
whole-keys f es = subst (AllByRecursion IsComplete) (exprs-named f es)

-- named expressions have the names of their fields
field-names : (es : List Named) (s out : Fields) → fields_of es s ≡ Some out → names_of out ≡ expr_names es
field-names [] s out e = let q : [] ≡ out = cc in ap names_of (sym q)
field-names ((n, t) ∷ es) s out e = by (kind_over s t) (fields_of es s) e (λ fs q. field-names es s fs q) refl
  where
    by : (o : Option DataType) (r : Option Fields) → both (λ (k : DataType) (fs : Fields). (n, k) ∷ fs) o r ≡ Some out → ((fs : Fields) → fields_of es s ≡ Some fs → names_of fs ≡ expr_names es) → fields_of es s ≡ r → names_of out ≡ n ∷ expr_names es
    by None r h later q = cc
    by (Some k) None h later q = cc
    by (Some k) (Some fs) h later q = ap names_of (sym (same_Some _ _ h)) ∙ ap (λ ns. n ∷ ns) (later fs q)

pub front-names : (es more : List Named) → expr_names (es ++ more) ≡ expr_names es ++ expr_names more
front-names [] more = refl
front-names (e ∷ es) more = ap (λ ns. e.0 ∷ ns) (front-names es more)

front-all : (xs ys : List Tree) → AllByRecursion IsComplete (xs ++ ys) → AllByRecursion IsComplete xs
front-all [] ys h = tt
front-all (x ∷ xs) ys h = (h.0, front-all xs ys h.1)

rest-all : (xs ys : List Tree) → AllByRecursion IsComplete (xs ++ ys) → AllByRecursion IsComplete ys
rest-all [] ys h = h
rest-all (x ∷ xs) ys h = rest-all xs ys h.1

module _ (f : Node → Tree) (s : Fields) (ss : List Fields) where
  pub select-whole : (es : List ExprIR) (extends : Bool) → IsOfSoundShape (select_node (named_trees f es) extends) s ss → AllByRecursion IsComplete (key_trees f es)
  select-whole es true x = whole-keys f es (all-complete (first_schema ss) (exprs_of (named_trees f es)) (by-itself _ s ss x).kinds)
  select-whole es false x = whole-keys f es (all-complete (first_schema ss) (exprs_of (named_trees f es)) (by-itself _ s ss x).kinds)

  pub independent-whole : (es : List ExprIR) → IsOfSoundShape (independent_select (named_trees f es)) s ss → AllByRecursion IsComplete (key_trees f es)
  independent-whole es x = whole-keys f es (all-complete (first_schema ss) (exprs_of (named_trees f es)) (by-itself _ s ss x).kinds)

  pub filter-whole : (t : Tree) → IsOfSoundShape (filter_node t) s ss → IsComplete t
  filter-whole t x = (all-complete (first_schema ss) (t ∷ []) (by-itself _ s ss x).kinds).0

  pub map-whole : (step : Step) → IsOfSoundShape (in_memory_map step) s ss → AllByRecursion IsComplete (step_exprs step)
  map-whole step x = step-complete ss step (by-itself _ s ss x).kinds

  pub reduce-whole : (es : List ExprIR) → IsOfSoundShape (reduce (named_trees f es)) s ss → AllByRecursion IsComplete (key_trees f es)
  reduce-whole es x = whole-keys f es (all-complete (first_schema ss) (exprs_of (named_trees f es)) (by-itself _ s ss x).kinds)

  pub reduce-reduces : (es : List ExprIR) → IsOfSoundShape (reduce (named_trees f es)) s ss → AllByRecursion IsReduction (key_trees f es)
  reduce-reduces es x = subst (AllByRecursion IsReduction) (exprs-named f es) (by-itself _ s ss x).parameters

  pub reduce-names : (es : List ExprIR) → IsOfSoundShape (reduce (named_trees f es)) s ss → names_of s ≡ expr_names (named_trees f es)
  reduce-names es x = field-names (named_trees f es) (first_schema ss) s (by-itself _ s ss x).schema

  pub function-streams : (step : Step) → IsOfSoundShape (stream_map step) s ss → (F : Functions) × IsFunctionStep F step
  function-streams step x = (x.functions, (by-itself _ s ss x).parameters)

  module _ (ks as' : List ExprIR) (x : IsOfSoundShape (group_by_node (named_trees f ks) (named_trees f as')) s ss) where
    whole : AllByRecursion IsComplete (exprs_of (named_trees f ks) ++ exprs_of (named_trees f as'))
    whole = all-complete (first_schema ss) (exprs_of (named_trees f ks) ++ exprs_of (named_trees f as')) (by-itself _ s ss x).kinds

    pub keys-whole : AllByRecursion IsComplete (key_trees f ks)
    keys-whole = whole-keys f ks (front-all (exprs_of (named_trees f ks)) (exprs_of (named_trees f as')) whole)

    pub aggregates-whole : AllByRecursion IsComplete (key_trees f as')
    aggregates-whole = whole-keys f as' (rest-all (exprs_of (named_trees f ks)) (exprs_of (named_trees f as')) whole)

    pub aggregates-reduce : AllByRecursion IsReduction (key_trees f as')
    aggregates-reduce = subst (AllByRecursion IsReduction) (exprs-named f as') (by-itself _ s ss x).parameters.1

    pub group-names : names_of s ≡ expr_names (named_trees f ks ++ named_trees f as')
    group-names = field-names (named_trees f ks ++ named_trees f as') (first_schema ss) s (by-itself _ s ss x).schema

  both-whole : (o : JoinStep) → have_kinds_over ss (join o) ≡ true → AllByRecursion IsComplete o.left_on × AllByRecursion IsComplete o.right_on
  both-whole o e =
      let parts = and-parts (have_all_kinds (first_schema ss) o.left_on) (have_all_kinds (second_schema ss) o.right_on) e in
      (all-complete (first_schema ss) o.left_on parts.0, all-complete (second_schema ss) o.right_on parts.1)

  pub equi-whole : (o : JoinStep) → IsOfSoundShape (equi_join o) s ss → AllByRecursion IsComplete o.left_on × AllByRecursion IsComplete o.right_on
  equi-whole o x = both-whole o (by-itself (equi_join o) s ss x).kinds

  pub join-whole : (o : JoinStep) → IsOfSoundShape (in_memory_join o) s ss → AllByRecursion IsComplete o.left_on × AllByRecursion IsComplete o.right_on
  join-whole o x = both-whole o (by-itself (in_memory_join o) s ss x).kinds
