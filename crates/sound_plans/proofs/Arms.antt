-- What is found of a node at its kind, and what its expressions are there.
use Rattle.std.proofs.Common.{◌≡◌, Bool, true, false, List, [], ◌∷◌, ◌++◌, Option, None, Some, Result, Ok, Err, refl, ap, sym, subst, ◌∙◌}
use Rattle.std.specs.Prelude.{IfOk, IsTrue, slice_get}
use Rattle.std.specs.List.{AllByRecursion}
use Rattle.keyed_slots.specs.Slots.{value_at}
use Rattle.pu_base.specs.declared.arena.Node.{Node}
use Rattle.ps_frame.specs.Functions.{Functions}
use Rattle.ps_frame.specs.Tables.{Fields}
use Rattle.ps_frame.specs.Trees.{IsComplete, Tree}
use Rattle.ps_frame.specs.declared.refusal.PolarsError.{PolarsError}
use Rattle.ps_meaning.specs.Maps.{map_step}
use Rattle.ps_meaning.specs.Shape.{in_memory_map, ordered_union, stream_map, zip_node}
use Rattle.ps_meaning.specs.Sound.{rules_of}
use Rattle.ps_meaning.specs.Steps.{Cut, exprs_of, key_trees, named_trees, step_exprs}
use Rattle.ps_meaning.specs.declared.map.MapKind.{MapKind}
use Rattle.ps_meaning.specs.declared.map.MapKind.TheVariants as map
use Rattle.ps_meaning.specs.declared.options.ExprIR.{ExprIR}
use Rattle.ps_meaning.specs.declared.options.JoinArgs.{JoinArgs}
use Rattle.ps_meaning.specs.declared.options.SortMultipleOptions.{SortMultipleOptions}
use Rattle.ps_phys.specs.Shown.{inputs_of, kind_of, streams_of}
use Rattle.ps_phys.specs.Walks.{Stream}
use Rattle.ps_phys.specs.declared.phys.PhysNode.{PhysNode}
use Rattle.ps_phys.specs.declared.phys.PhysNodeKind.{PhysNodeKind}
use Rattle.ps_phys.specs.declared.phys.PhysNodeKind.TheVariants as phys
use Rattle.ps_phys.specs.declared.phys.PhysStream.{PhysStream}
use Rattle.sound_plans.specs.Fit.{IsFitOver}
use Rattle.sound_plans.specs.Read.{schemas_read, slot_schema}
use Rattle.sound_plans.proofs.Testing.{exprs-named}

all-first : (P : Tree → Type 0) (xs ys : List Tree) → AllByRecursion P (xs ++ ys) → AllByRecursion P xs
all-first P [] ys h = tt
all-first P (x ∷ xs) ys h = (h.0, all-first P xs ys h.1)

all-last : (P : Tree → Type 0) (xs ys : List Tree) → AllByRecursion P (xs ++ ys) → AllByRecursion P ys
all-last P [] ys h = h
all-last P (x ∷ xs) ys h = all-last P xs ys h.1

module _ (f : Node → Tree) where
  abbrev pub IsFound : Functions → Fields → List Fields → PhysNodeKind → Result Bool PolarsError → Type 0
  IsFound F s ss k r = IfOk r (λ fit. IsTrue fit → IsFitOver F (kind_of f k) s ss)

  abbrev pub IsFoundForAll : Fields → List Fields → PhysNodeKind → Result Bool PolarsError → Type 0
  IsFoundForAll s ss k r = IfOk r (λ fit. IsTrue fit → (F : Functions) → IsFitOver F (kind_of f k) s ss)

  pub fits-at : (F : Functions) (s : Fields) (ss : List Fields) (k q : PhysNodeKind) → k ≡ q → (r : Result Bool PolarsError) → IsFound F s ss q r → IsFound F s ss k r
  fits-at F s ss k q e r h = let P : PhysNodeKind → Type 0 = λ x. IsFound F s ss x r in subst P (sym e) h

  pub fits-all : (s : Fields) (ss : List Fields) (k q : PhysNodeKind) → k ≡ q → (r : Result Bool PolarsError) → IsFoundForAll s ss q r → IsFoundForAll s ss k r
  fits-all s ss k q e r h = let P : PhysNodeKind → Type 0 = λ x. IsFoundForAll s ss x r in subst P (sym e) h

  pub for-one : (F : Functions) (s : Fields) (ss : List Fields) (k : PhysNodeKind) (r : Result Bool PolarsError) → IsFoundForAll s ss k r → IsFound F s ss k r
  for-one F s ss k (Ok b) h = λ told. h told F
  for-one F s ss k (Err e) h = tt

  pub read-as : (F : Functions) (s : Fields) (ts ss : List Fields) (k : PhysNodeKind) (r : Result Bool PolarsError) → ts ≡ ss → IsFound F s ts k r → IsFound F s ss k r
  read-as F s ts ss k r e h = let P : List Fields → Type 0 = λ us. IsFound F s us k r in subst P e h

  abbrev pub IsWhole : PhysNodeKind → Type 0
  IsWhole k = AllByRecursion IsComplete (step_exprs (rules_of (kind_of f k)))

  at : (k q : PhysNodeKind) → k ≡ q → IsWhole k → IsWhole q
  at k q e h = let P : PhysNodeKind → Type 0 = λ x. IsWhole x in subst P e h

  unnamed : (es : List ExprIR) → AllByRecursion IsComplete (exprs_of (named_trees f es)) → AllByRecursion IsComplete (key_trees f es)
  unnamed es h = subst (AllByRecursion IsComplete) (exprs-named f es) h

  module _ (k : PhysNodeKind) (whole : IsWhole k) where
    pub select-whole : (i : PhysStream) (es : List ExprIR) (extends : Bool) → k ≡ phys.Select i es extends → AllByRecursion IsComplete (key_trees f es)
    select-whole i es true e = unnamed es (at k (phys.Select i es true) e whole)
    select-whole i es false e = unnamed es (at k (phys.Select i es false) e whole)

    pub independent-whole : (es : List ExprIR) → k ≡ phys.InputIndependentSelect es → AllByRecursion IsComplete (key_trees f es)
    independent-whole es e = unnamed es (at k (phys.InputIndependentSelect es) e whole)

    pub reduce-whole : (i : PhysStream) (es : List ExprIR) → k ≡ phys.Reduce i es → AllByRecursion IsComplete (key_trees f es)
    reduce-whole i es e = unnamed es (at k (phys.Reduce i es) e whole)

    pub filter-whole : (i : PhysStream) (x : ExprIR) → k ≡ phys.Filter i x → IsComplete (f x.node)
    filter-whole i x e = (at k (phys.Filter i x) e whole).0

    pub map-whole : (i : PhysStream) (m : MapKind) → k ≡ phys.InMemoryMap i m → AllByRecursion IsComplete (step_exprs (map_step f m))
    map-whole i m e = at k (phys.InMemoryMap i m) e whole

    pub sort-whole : (i : PhysStream) (es : List ExprIR) (cut : Cut) (o : SortMultipleOptions) → k ≡ phys.Sort i es cut o → AllByRecursion IsComplete (key_trees f es)
    sort-whole i es cut o e = at k (phys.Sort i es cut o) e whole

    pub keys-whole : (i : PhysStream) (ks as' : List ExprIR) → k ≡ phys.GroupBy i ks as' → AllByRecursion IsComplete (key_trees f ks)
    keys-whole i ks as' e = unnamed ks (all-first IsComplete (exprs_of (named_trees f ks)) (exprs_of (named_trees f as')) (at k (phys.GroupBy i ks as') e whole))

    pub aggregates-whole : (i : PhysStream) (ks as' : List ExprIR) → k ≡ phys.GroupBy i ks as' → AllByRecursion IsComplete (key_trees f as')
    aggregates-whole i ks as' e = unnamed as' (all-last IsComplete (exprs_of (named_trees f ks)) (exprs_of (named_trees f as')) (at k (phys.GroupBy i ks as') e whole))

    pub equi-left : (i j : PhysStream) (ls rs : List ExprIR) (o : JoinArgs) → k ≡ phys.EquiJoin i j ls rs o → AllByRecursion IsComplete (key_trees f ls)
    equi-left i j ls rs o e = all-first IsComplete (key_trees f ls) (key_trees f rs) (at k (phys.EquiJoin i j ls rs o) e whole)

    pub equi-right : (i j : PhysStream) (ls rs : List ExprIR) (o : JoinArgs) → k ≡ phys.EquiJoin i j ls rs o → AllByRecursion IsComplete (key_trees f rs)
    equi-right i j ls rs o e = all-last IsComplete (key_trees f ls) (key_trees f rs) (at k (phys.EquiJoin i j ls rs o) e whole)

    pub join-left : (i j : PhysStream) (ls rs : List ExprIR) (o : JoinArgs) → k ≡ phys.InMemoryJoin i j ls rs o → AllByRecursion IsComplete (key_trees f ls)
    join-left i j ls rs o e = all-first IsComplete (key_trees f ls) (key_trees f rs) (at k (phys.InMemoryJoin i j ls rs o) e whole)

    pub join-right : (i j : PhysStream) (ls rs : List ExprIR) (o : JoinArgs) → k ≡ phys.InMemoryJoin i j ls rs o → AllByRecursion IsComplete (key_trees f rs)
    join-right i j ls rs o e = all-last IsComplete (key_trees f ls) (key_trees f rs) (at k (phys.InMemoryJoin i j ls rs o) e whole)

  -- the same of maps
  pub map-at : (F : Functions) (s : Fields) (ss : List Fields) (k q : MapKind) → k ≡ q → (r : Result Bool PolarsError) → IfOk r (λ fit. IsTrue fit → IsFitOver F (in_memory_map (map_step f q)) s ss) → IfOk r (λ fit. IsTrue fit → IsFitOver F (in_memory_map (map_step f k)) s ss)
  map-at F s ss k q e r h = let P : MapKind → Type 0 = λ x. IfOk r (λ fit. IsTrue fit → IsFitOver F (in_memory_map (map_step f x)) s ss) in subst P (sym e) h

  pub map-select-whole : (k : MapKind) (es : List ExprIR) → k ≡ map.Select es → AllByRecursion IsComplete (step_exprs (map_step f k)) → AllByRecursion IsComplete (key_trees f es)
  map-select-whole k es e h = let P : MapKind → Type 0 = λ x. AllByRecursion IsComplete (step_exprs (map_step f x)) in unnamed es (subst P e h)

  pub map-sort-whole : (k : MapKind) (es : List ExprIR) (cut : Cut) (o : SortMultipleOptions) → k ≡ map.Sort es cut o → AllByRecursion IsComplete (step_exprs (map_step f k)) → AllByRecursion IsComplete (key_trees f es)
  map-sort-whole k es cut o e h = let P : MapKind → Type 0 = λ x. AllByRecursion IsComplete (step_exprs (map_step f x)) in subst P e h

  pub map-keys-whole : (k : MapKind) (ks as' : List ExprIR) (maintain : Bool) (cut : Cut) → k ≡ map.GroupBy ks as' maintain cut → AllByRecursion IsComplete (step_exprs (map_step f k)) → AllByRecursion IsComplete (key_trees f ks)
  map-keys-whole k ks as' maintain cut e h =
      let P : MapKind → Type 0 = λ x. AllByRecursion IsComplete (step_exprs (map_step f x)) in unnamed ks (all-first IsComplete (exprs_of (named_trees f ks)) (exprs_of (named_trees f as')) (subst P e h))

  pub map-aggregates-whole : (k : MapKind) (ks as' : List ExprIR) (maintain : Bool) (cut : Cut) → k ≡ map.GroupBy ks as' maintain cut → AllByRecursion IsComplete (step_exprs (map_step f k)) → AllByRecursion IsComplete (key_trees f as')
  map-aggregates-whole k ks as' maintain cut e h =
      let P : MapKind → Type 0 = λ x. AllByRecursion IsComplete (step_exprs (map_step f x)) in unnamed as' (all-last IsComplete (exprs_of (named_trees f ks)) (exprs_of (named_trees f as')) (subst P e h))

pub stream-at : (F : Functions) (s : Fields) (ss : List Fields) (k q : MapKind) → k ≡ q → (r : Result Bool PolarsError) → IfOk r (λ fit. IsTrue fit → (f : Node → Tree) → IsFitOver F (stream_map (map_step f q)) s ss)
    → IfOk r (λ fit. IsTrue fit → (f : Node → Tree) → IsFitOver F (stream_map (map_step f k)) s ss)
stream-at F s ss k q e r h = let P : MapKind → Type 0 = λ x. IfOk r (λ fit. IsTrue fit → (f : Node → Tree) → IsFitOver F (stream_map (map_step f x)) s ss) in subst P (sym e) h

-- the schemas of no, of one and of two streams
module _ (slots : List (Option PhysNode)) where
  pub none-read : (is : List Stream) → slice_get is 0 ≡ None → [] ≡ schemas_read slots is
  none-read [] e = refl
  none-read (i ∷ is) e = cc

  pub one-read : (is : List Stream) (a : Stream) (s : Fields) → slice_get is 0 ≡ Some a → slice_get is 1 ≡ None → s ≡ slot_schema (value_at slots a.0) → s ∷ [] ≡ schemas_read slots is
  one-read [] a s e n h = cc
  one-read (i ∷ []) a s e n h = let is : i ≡ a = cc in ap (λ (t : Fields). t ∷ []) (h ∙ ap (λ (x : Stream). slot_schema (value_at slots x.0)) (sym is))
  one-read (i ∷ j ∷ is) a s e n h = cc

  pub two-read : (is : List Stream) (a b : Stream) (s t : Fields) → slice_get is 0 ≡ Some a → slice_get is 1 ≡ Some b → slice_get is 2 ≡ None → s ≡ slot_schema (value_at slots a.0) → t ≡ slot_schema (value_at slots b.0) → s ∷ t ∷ [] ≡ schemas_read slots is
  two-read [] a b s t e g n h k = cc
  two-read (i ∷ []) a b s t e g n h k = cc
  two-read (i ∷ j ∷ []) a b s t e g n h k =
      let first : i ≡ a = cc in
      let second : j ≡ b = cc in
      let p = h ∙ ap (λ (x : Stream). slot_schema (value_at slots x.0)) (sym first) in
      let q = k ∙ ap (λ (x : Stream). slot_schema (value_at slots x.0)) (sym second) in
      λ n. p n ∷ q n ∷ []
  two-read (i ∷ j ∷ x ∷ is) a b s t e g n h k = cc

-- a union and a zip of streams
module _ (f : Node → Tree) (F : Functions) (s : Fields) (slots : List (Option PhysNode)) (k : PhysNodeKind) (is : List PhysStream) where
  pub union-at : k ≡ phys.OrderedUnion is → (b : Bool) → (IsTrue b → (G : Functions) → IsFitOver G ordered_union s (schemas_read slots (streams_of is))) → IsTrue b → IsFitOver F (kind_of f k) s (schemas_read slots (inputs_of k))
  union-at e b h told = let P : PhysNodeKind → Type 0 = λ x. IsFitOver F (kind_of f x) s (schemas_read slots (inputs_of x)) in subst P (sym e) (h told F)

  pub zip-at : (extend : Bool) → k ≡ phys.Zip is extend → (r : Result Bool PolarsError) → IfOk r (λ fit. IsTrue fit → (G : Functions) (x : Bool) → IsFitOver G (zip_node x) s (schemas_read slots (streams_of is)))
      → IfOk r (λ fit. IsTrue fit → IsFitOver F (kind_of f k) s (schemas_read slots (inputs_of k)))
  zip-at extend e (Ok b) h = λ told. let P : PhysNodeKind → Type 0 = λ x. IsFitOver F (kind_of f x) s (schemas_read slots (inputs_of x)) in subst P (sym e) (h told F extend)
  zip-at extend e (Err x) h = tt
