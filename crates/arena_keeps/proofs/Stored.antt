-- Caches of one id in a valid plan stand over one tree.
use Rattle.std.proofs.Common.{◌≡◌, ◌≢◌, ℕ, ◌⊎◌, Bool, true, false, cond, [], ◌∷◌, Option, Some, None, refl, sym, ap, subst, ◌∙◌, inl, inr, arith}
use Rattle.std.proofs.lemmas.Option.{same_Some}
use Rattle.std.specs.Prelude.{◌==◌, IsSomeAnd, unwrap_or, ⊤}
use Rattle.pu_base.specs.declared.arena.Node.{Node}
use Rattle.ps_frame.specs.Functions.{Functions}
use Rattle.ps_frame.specs.Trees.{Tree, tree_at}
use Rattle.ps_frame.specs.declared.refusal.Why.TheVariants as why
use Rattle.ps_meaning.specs.PlanTrees.{AreCompletePlans, IsCompletePlan, PlanTree, PlanTrees, missing, no_trees, node, tree}
use Rattle.ps_meaning.specs.StepRefusals.{invalid_plan}
use Rattle.ps_meaning.specs.Steps.{Step, cache, hconcat}
use Rattle.ps_meaning.specs.declared.options.FunctionIR.TheVariants as call
use Rattle.ps_plan.specs.Entries.{entry_inputs, entry_step}
use Rattle.ps_plan.specs.Graph.{Reached, here}
use Rattle.ps_plan.specs.Plans.{Plan, tree_of}
use Rattle.ps_plan.specs.Refusals.{EntryIs, IsCacheOver, IsValid, two_inputs}
use Rattle.ps_plan.specs.declared.ir.IR.{IR}
use Rattle.ps_plan.specs.declared.ir.IR.TheVariants as entry
use Rattle.ps_plan.proofs.ValidPlans.{reached-complete}
use Rattle.plan_laws.specs.Laws.{HaveStored, IsStored, StandsOver}
use Rattle.plan_rules.specs.Plans.{first_plan}
use Rattle.plan_keeps.specs.Kept.{IsPartOf, IsPartOfSome}
use Rattle.arena_keeps.proofs.Parts.{entered, part_is, trees_at}

-- the input of the first cache of an id in a tree
abbrev or_else : Option PlanTree → Option PlanTree → Option PlanTree
or_else (Some t) other = Some t
or_else None other = other

abbrev input_of : ℕ → Step → PlanTrees → Option PlanTree
input_of id (cache other) below = cond {A = Option PlanTree} (other == id) (Some (first_plan below)) None
input_of id _ below = None

abbrev mutual
  found : ℕ → PlanTree → Option PlanTree
  found id (node at step below) = or_else (input_of id step below) (found_in id below)
  found id missing = None

  found_in : ℕ → PlanTrees → Option PlanTree
  found_in id no_trees = None
  found_in id (tree t ts) = or_else (found id t) (found_in id ts)

-- what is found stands below a cache of the id
record IsFound (id : ℕ) (Part : PlanTree → Type 0) (x : PlanTree) : Type 0 where
  at : ℕ
  below : PlanTrees
  part : Part (node at (cache id) below)
  first : first_plan below ≡ x

either_found : (id : ℕ) (P Q : PlanTree → Type 0) (x : PlanTree) (o r : Option PlanTree) → ((y : PlanTree) → o ≡ Some y → IsFound id P y) → ((y : PlanTree) → r ≡ Some y → IsFound id Q y) → or_else o r ≡ Some x → IsFound id (λ u. P u ⊎ Q u) x
either_found id P Q x (Some y) r first second e = let f = first x e in record { at = f.at; below = f.below; part = inl f.part; first = f.first }
either_found id P Q x None r first second e = let f = second x e in record { at = f.at; below = f.below; part = inr f.part; first = f.first }

own_found : (id at : ℕ) (step : Step) (below : PlanTrees) (x : PlanTree) → input_of id step below ≡ Some x → IsFound id (λ u. u ≡ node at step below) x
own_found id at (cache other) below x e = by (other == id) refl e
  where
    by : (b : Bool) → (other == id) ≡ b → cond {A = Option PlanTree} b (Some (first_plan below)) None ≡ Some x → IsFound id (λ u. u ≡ node at (cache other) below) x
    by true q e = let same : other ≡ id = grind (arith) in record { at = at; below = below; part = ap (λ (k : ℕ). node at (cache k) below) (sym same); first = same_Some (first_plan below) x e }
    by false q e = cc
own_found id at _ below x e = cc

mutual
  found_is : (id : ℕ) (t x : PlanTree) → found id t ≡ Some x → IsFound id (λ u. IsPartOf u t) x
  found_is id (node at step below) x e = either_found id (λ u. u ≡ node at step below) (λ u. IsPartOfSome u below) x (input_of id step below) (found_in id below) (λ y h. own_found id at step below y h) (λ y h. found_in_is id below y h) e
  found_is id missing x e = cc

  found_in_is : (id : ℕ) (ts : PlanTrees) (x : PlanTree) → found_in id ts ≡ Some x → IsFound id (λ u. IsPartOfSome u ts) x
  found_in_is id no_trees x e = cc
  found_in_is id (tree t ts) x e = either_found id (λ u. IsPartOf u t) (λ u. IsPartOfSome u ts) x (found id t) (found_in id ts) (λ y h. found_is id t y h) (λ y h. found_in_is id ts y h) e

-- where a cache of the id stands in the tree something is found
or_first : (o r : Option PlanTree) → (x : PlanTree) × (o ≡ Some x) → (x : PlanTree) × (or_else o r ≡ Some x)
or_first (Some y) r h = (y, refl)
or_first None r h = (let e = h.1 in cc)

or_second : (o r : Option PlanTree) → (x : PlanTree) × (r ≡ Some x) → (x : PlanTree) × (or_else o r ≡ Some x)
or_second (Some y) r h = (y, refl)
or_second None r h = h

id_itself : (id : ℕ) (t : PlanTree) → cond {A = Option PlanTree} (id == id) (Some t) None ≡ Some t
id_itself id t = let same : (id == id) ≡ true = grind (arith) in ap (λ (b : Bool). cond {A = Option PlanTree} b (Some t) None) same

abbrev input_here : ℕ → PlanTree → Option PlanTree
input_here id (node at step below) = input_of id step below
input_here id missing = None

mutual
  part_found : (id at : ℕ) (below : PlanTrees) (t : PlanTree) → IsPartOf (node at (cache id) below) t → (x : PlanTree) × (found id t ≡ Some x)
  part_found id at below (node other step under) (inl e) =
      or_first (input_of id step under) (found_in id under)
      (subst (λ (t : PlanTree). (x : PlanTree) × (input_here id t ≡ Some x)) e (first_plan below, id_itself id (first_plan below)))
  part_found id at below (node other step under) (inr h) = or_second (input_of id step under) (found_in id under) (some_part_found id at below under h)
  part_found id at below missing h = absurd h

  some_part_found : (id at : ℕ) (below : PlanTrees) (ts : PlanTrees) → IsPartOfSome (node at (cache id) below) ts → (x : PlanTree) × (found_in id ts ≡ Some x)
  some_part_found id at below no_trees h = absurd h
  some_part_found id at below (tree t ts) (inl h) = or_first (found id t) (found_in id ts) (part_found id at below t h)
  some_part_found id at below (tree t ts) (inr h) = or_second (found id t) (found_in id ts) (some_part_found id at below ts h)

abbrev step_in : PlanTree → Step
step_in (node at step below) = step
step_in missing = hconcat

abbrev below_in : PlanTree → PlanTrees
below_in (node at step below) = below
below_in missing = no_trees

abbrev IsCache : Step → Type 0
IsCache (cache id) = ⊤
IsCache _ = ⊥

abbrev id_in : Step → ℕ
id_in (cache id) = id
id_in _ = 0

-- an entry whose step is a cache is one
cache_entry : (f : Node → Tree) (e : IR) (id : ℕ) → cache id ≡ entry_step f e → (input : Node) × IsCacheOver id input.0 e × (entry_inputs e ≡ input ∷ [])
cache_entry f (entry.Cache input other hits) id q = (input, (ap id_in q, refl), refl)
cache_entry f (entry.MapFunction input (call.RowIndex name offset)) id q = absurd (subst IsCache q tt)
cache_entry f (entry.MapFunction input (call.User n)) id q = absurd (subst IsCache q tt)
cache_entry f _ id q = absurd (subst IsCache q tt)

same_unless : (a b : ℕ) → ((a ≢ b) → ⊥) → a ≡ b
same_unless a b never = by (a == b) refl
  where
    by : (t : Bool) → (a == b) ≡ t → a ≡ b
    by true q = grind (arith)
    by false q = absurd (never (λ e. grind (arith)))

module _ (F : Functions) (plan : Plan) (valid : IsValid F plan) where
  abbrev pub whole : PlanTree
  whole = tree_of plan plan.root.0

  abbrev pub stored : ℕ → PlanTree
  stored id = unwrap_or (found id whole) missing

  -- a cache of the plan
  record CacheAt (id : ℕ) (below : PlanTrees) : Type 0 where
    number : ℕ
    reached : Reached plan number
    input : Node
    over : EntryIs plan number (IsCacheOver id input.0)
    is : below ≡ tree (tree_of plan input.0) no_trees

  cache_at : (id at : ℕ) (below : PlanTrees) → IsPartOf (node at (cache id) below) whole → CacheAt id below
  cache_at id at below part =
      let t = part_is F plan valid (node at (cache id) below) plan.root.0 here part in
      let e = entered F plan valid t.number t.reached in
      let q = t.is ∙ e.is in
      let c = cache_entry (tree_at plan.exprs) e.entry id (ap step_in q) in
      record {
        number = t.number;
        reached = t.reached;
        input = c.0;
        over = subst (λ (o : Option IR). IsSomeAnd o (IsCacheOver id c.0.0)) (sym e.there) c.1;
        is = ap below_in q ∙ ap (trees_at F plan valid) c.2;
      }

  -- two caches of one id stand over one node
  one_input : (id : ℕ) (a b : PlanTrees) (c : CacheAt id a) (d : CacheAt id b) → c.input.0 ≡ d.input.0
  one_input id a b c d =
      same_unless c.input.0 d.input.0 (λ differ. valid c.number (invalid_plan why.Limits) (record { reached = c.reached; because = inl (two_inputs d.number id c.input.0 d.input.0 d.reached c.over d.over differ) }))

  cache_stored : (id at : ℕ) (below : PlanTrees) → IsPartOf (node at (cache id) below) whole → below ≡ tree (stored id) no_trees
  cache_stored id at below part =
      let c = cache_at id at below part in
      let x = part_found id at below whole part in
      let f = found_is id whole x.0 x.1 in
      let d = cache_at id f.at f.below f.part in
      let kept : stored id ≡ tree_of plan c.input.0 = ap (λ (o : Option PlanTree). unwrap_or o missing) x.1 ∙ sym f.first ∙ ap first_plan d.is ∙ ap (λ (n : ℕ). tree_of plan n) (sym (one_input id below f.below c d)) in
      c.is ∙ ap (λ (t : PlanTree). tree t no_trees) (sym kept)

  own_stored : (at : ℕ) (step : Step) (below : PlanTrees) → IsPartOf (node at step below) whole → IsStored stored step below
  own_stored at (cache id) below part = cache_stored id at below part
  own_stored at _ below part = tt

  mutual
    stands : (t : PlanTree) → IsCompletePlan t → ((u : PlanTree) → IsPartOf u t → IsPartOf u whole) → StandsOver stored t
    stands (node at step below) complete inside = (own_stored at step below (inside (node at step below) (inl refl)), all_stand below complete.1 (λ u h. inside u (inr h)))
    stands missing complete inside = absurd complete

    all_stand : (ts : PlanTrees) → AreCompletePlans ts → ((u : PlanTree) → IsPartOfSome u ts → IsPartOf u whole) → HaveStored stored ts
    all_stand no_trees complete inside = tt
    all_stand (tree t ts) complete inside = (stands t complete.0 (λ u h. inside u (inl h)), all_stand ts complete.1 (λ u h. inside u (inr h)))

  pub whole_stands : StandsOver stored whole
  whole_stands = stands whole (reached-complete F plan valid plan.root.0 here) (λ u h. h)
