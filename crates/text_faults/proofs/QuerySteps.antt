-- The nodes of a query's plan make the steps of its stages, whose expressions are known where they have kinds.
use Rattle.std.proofs.Common.{◌≡◌, ℕ, zero, suc, ◌+◌, List, [], ◌∷◌, ◌++◌, length, map, true, false, refl, sym, subst, ap, ◌∙◌, arith}
use Rattle.std.specs.Prelude.{Contains, is_some, ◌&&◌, Option, Some, None, option_and_then, option_map, slice_get}
use Rattle.std.specs.List.{AllByRecursion}
use Rattle.pu_base.specs.declared.arena.Node.{Node}
use Rattle.ps_frame.proofs.Lists.{both}
use Rattle.ps_frame.specs.Functions.{Functions}
use Rattle.ps_frame.specs.Tables.{Fields, Frame, field_kind}
use Rattle.ps_frame.specs.Trees.{Aggregation, Tree, tree_at}
use Rattle.ps_frame.specs.Typing.{aggregate_kind, binary_kind, function_kind, kind_over}
use Rattle.ps_frame.specs.declared.expr.FunctionExpr.{FunctionExpr}
use Rattle.ps_frame.specs.declared.expr.FunctionExpr.TheVariants as function
use Rattle.ps_frame.specs.declared.expr.Operator.{Operator}
use Rattle.ps_frame.specs.declared.value.DataType.{DataType}
use Rattle.ps_meaning.proofs.Containing.{contains-first, contains-later}
use Rattle.ps_meaning.specs.Laws.{EachStep, EachStepOf}
use Rattle.ps_meaning.specs.PlanTrees.{PlanTree, no_trees, node, tree}
use Rattle.ps_meaning.specs.Schemas.{first_schema, second_schema, tree_schemas}
use Rattle.ps_meaning.specs.Sound.{have_all_kinds, have_kinds_over}
use Rattle.ps_meaning.specs.Steps.{Step, exprs_of, memory_sink, scan}
use Rattle.ps_plan.proofs.CleanPlans.{each-reached, inputs_of, reached-clean, reached-is}
use Rattle.ps_plan.proofs.Complete.{numbers, there}
use Rattle.ps_plan.proofs.ReachedSteps.{path-then}
use Rattle.ps_plan.proofs.ValidPlans.{reached-below}
use Rattle.ps_plan.proofs.ValidTyped.{typed-step}
use Rattle.ps_plan.specs.Entries.{entry_inputs, entry_step}
use Rattle.ps_plan.specs.Graph.{Path, Reached, here, inputs_at, named_by, onward}
use Rattle.ps_plan.specs.Plans.{Plan, plan_at, plan_trees_of, tree_of}
use Rattle.ps_plan.specs.Refusals.{IsClean, IsValid}
use Rattle.ps_plan.specs.declared.ir.IR.{IR}
use Rattle.text_faults.proofs.EvenEval.{IsKnown, known-name}
use Rattle.text_faults.proofs.EvenPlans.{AreNamed, IsNamed}
use Rattle.text_faults.proofs.EvenSteps.{IsKnownStep}
use Rattle.text_plans.specs.QueryPlans.{Tables, call_tree, columns, expr_tree, named, nodes_of, query_tree, scan_at, stage_step, stage_tree, stages_tree}
use Rattle.text_queries.specs.Queries.{Expr, Name, Int, Text, Truth, Null, Call, Len, Binary, Item, Key, Stage, Filter, Select, With, Group, Sort, Slice, Distinct, Join, Query}
use Rattle.text_queries.specs.declared.words.TextFn.{TextFn}
use Rattle.text_queries.specs.declared.words.TextFn.TheVariants as fun

-- what gives something with a kind is of something with a kind
aggregated : (a : Aggregation) (k : Option DataType) → is_some (aggregate_kind a k) ≡ true → is_some k ≡ true
aggregated a (Some k) e = refl
aggregated Aggregation.min None e = e
aggregated Aggregation.max None e = e
aggregated Aggregation.first None e = e
aggregated Aggregation.last None e = e
aggregated Aggregation.sum None e = e
aggregated Aggregation.n_unique None e = e
aggregated (Aggregation.count all) None e = e

called : (g : FunctionExpr) (k : Option DataType) → is_some (function_kind g k) ≡ true → is_some k ≡ true
called g (Some k) e = refl
called function.Not None e = e
called function.IsNull None e = e
called function.IsNotNull None e = e
called function.Reverse None e = e

operands : (o : Operator) (a b : Option DataType) → is_some (binary_kind o a b) ≡ true → (is_some a ≡ true) × (is_some b ≡ true)
operands o (Some a) (Some b) e = (refl, refl)
operands o (Some a) None e = cc
operands o None b e = cc

-- an expression with a kind is known
known-column : (s : Fields) (name : List ℕ) (o : Option DataType) → field_kind name s ≡ o → is_some o ≡ true → IsKnown s (Tree.column name)
known-column s name (Some k) e h = known-name name s k e
known-column s name None e h = cc

known-call : (s : Fields) (f : TextFn) (e : Tree) → (is_some (kind_over s e) ≡ true → IsKnown s e) → is_some (kind_over s (call_tree f e)) ≡ true → IsKnown s (call_tree f e)
known-call s fun.Min e known h = known (aggregated Aggregation.min (kind_over s e) h)
known-call s fun.Max e known h = known (aggregated Aggregation.max (kind_over s e) h)
known-call s fun.First e known h = known (aggregated Aggregation.first (kind_over s e) h)
known-call s fun.Last e known h = known (aggregated Aggregation.last (kind_over s e) h)
known-call s fun.Sum e known h = known (aggregated Aggregation.sum (kind_over s e) h)
known-call s fun.NUnique e known h = known (aggregated Aggregation.n_unique (kind_over s e) h)
known-call s fun.Count e known h = known (aggregated (Aggregation.count false) (kind_over s e) h)
known-call s fun.Not e known h = known (called function.Not (kind_over s e) h)
known-call s fun.IsNull e known h = known (called function.IsNull (kind_over s e) h)
known-call s fun.IsNotNull e known h = known (called function.IsNotNull (kind_over s e) h)

known-expr : (s : Fields) (e : Expr) → is_some (kind_over s (expr_tree e)) ≡ true → IsKnown s (expr_tree e)
known-expr s (Name name) h = known-column s name (field_kind name s) refl h
known-expr s (Int n) h = tt
known-expr s (Text text) h = tt
known-expr s (Truth b) h = tt
known-expr s (Null k) h = tt
known-expr s (Call f e) h = known-call s f (expr_tree e) (known-expr s e) h
known-expr s Len h = tt
known-expr s (Binary o l r) h = let p = operands o (kind_over s (expr_tree l)) (kind_over s (expr_tree r)) h in (known-expr s l p.0, known-expr s r p.1)

known-items : (s : Fields) (items : List Item) → have_all_kinds s (exprs_of (map named items)) ≡ true → AllByRecursion (IsKnown s) (exprs_of (map named items))
known-items s [] h = tt
known-items s (x ∷ xs) h =
    let p = both (is_some (kind_over s (expr_tree x.expr))) (have_all_kinds s (exprs_of (map named xs))) h in (known-expr s x.expr p.0, known-items s xs p.1)

known-keys : (s : Fields) (keys : List Key) → have_all_kinds s (map (λ (k : Key). expr_tree k.expr) keys) ≡ true → AllByRecursion (IsKnown s) (map (λ (k : Key). expr_tree k.expr) keys)
known-keys s [] h = tt
known-keys s (x ∷ xs) h =
    let p = both (is_some (kind_over s (expr_tree x.expr))) (have_all_kinds s (map (λ (k : Key). expr_tree k.expr) xs)) h in (known-expr s x.expr p.0, known-keys s xs p.1)

known-columns : (s : Fields) (names : List (List ℕ)) → have_all_kinds s (columns names) ≡ true → AllByRecursion (IsKnown s) (columns names)
known-columns s [] h = tt
known-columns s (x ∷ xs) h = let p = both (is_some (field_kind x s)) (have_all_kinds s (columns xs)) h in (known-column s x (field_kind x s) refl p.0, known-columns s xs p.1)

split-kinds : (s : Fields) (xs ys : List Tree) → have_all_kinds s (xs ++ ys) ≡ true → (have_all_kinds s xs ≡ true) × (have_all_kinds s ys ≡ true)
split-kinds s [] ys h = (refl, h)
split-kinds s (x ∷ xs) ys h =
    let p = both (is_some (kind_over s x)) (have_all_kinds s (xs ++ ys)) h in
    let q = split-kinds s xs ys p.1 in
    (ap (λ b. b && have_all_kinds s xs) p.0 ∙ q.0, q.1)

-- the steps of a query's plan
pub data IsQueryStep : Step → Type 0 where
  scans : (frame : Frame) → IsQueryStep (scan frame None)
  does : (stage : Stage) → IsQueryStep (stage_step stage)
  sinks : IsQueryStep memory_sink

known-stage : (ss : List Fields) (stage : Stage) → have_kinds_over ss (stage_step stage) ≡ true → IsKnownStep ss (stage_step stage)
known-stage ss (Filter e) h = (known-expr (first_schema ss) e (both (is_some (kind_over (first_schema ss) (expr_tree e))) true h).0)
known-stage ss (Select items) h = known-items (first_schema ss) items h
known-stage ss (With items) h = known-items (first_schema ss) items h
known-stage ss (Group keys aggs) h =
    let p = split-kinds (first_schema ss) (exprs_of (map named keys)) (exprs_of (map named aggs)) h in (refl, known-items (first_schema ss) keys p.0, known-items (first_schema ss) aggs p.1)
known-stage ss (Sort keys) h = known-keys (first_schema ss) keys h
known-stage ss (Slice offset length) h = tt
known-stage ss Distinct h = tt
known-stage ss (Join how table on) h =
    let p = both (have_all_kinds (first_schema ss) (columns on)) (have_all_kinds (second_schema ss) (columns on)) h in (known-columns (first_schema ss) on p.0, known-columns (second_schema ss) on p.1)

known-step : (ss : List Fields) (step : Step) → IsQueryStep step → have_kinds_over ss step ≡ true → IsKnownStep ss step
known-step ss _ (scans frame) h = tt
known-step ss _ (does stage) h = known-stage ss stage h
known-step ss _ sinks h = tt

-- each node of a query's plan makes such a step
module _ (tables : Tables) where
  stage-each : (at : ℕ) (before : PlanTree) (stage : Stage) (t : PlanTree) → EachStep IsQueryStep before → stage_tree tables at before stage ≡ Some t → EachStep IsQueryStep t
  stage-each at before stage t h = by stage
    where
      one : (s : Stage) → Some (node at (stage_step s) (tree before no_trees)) ≡ Some t → EachStep IsQueryStep t
      one s e = let p : node at (stage_step s) (tree before no_trees) ≡ t = cc in subst (EachStep IsQueryStep) p (does s, (h, tt))

      two : (s : Stage) (o : Option Frame) → option_map (λ frame. node (at + 1) (stage_step s) (tree before (tree (scan_at at frame) no_trees))) o ≡ Some t → EachStep IsQueryStep t
      two s None e = absurd (cc)
      two s (Some frame) e =
          let p : node (at + 1) (stage_step s) (tree before (tree (scan_at at frame) no_trees)) ≡ t = cc in subst (EachStep IsQueryStep) p (does s, (h, ((scans frame, tt), tt)))

      by : (s : Stage) → stage_tree tables at before s ≡ Some t → EachStep IsQueryStep t
      by (Filter e) = one (Filter e)
      by (Select items) = one (Select items)
      by (With items) = one (With items)
      by (Group keys aggs) = one (Group keys aggs)
      by (Sort keys) = one (Sort keys)
      by (Slice offset length) = one (Slice offset length)
      by Distinct = one Distinct
      by (Join kept table on) = two (Join kept table on) (tables table)

  stages-each : (stages : List Stage) (at : ℕ) (before t : PlanTree) → EachStep IsQueryStep before → stages_tree tables at before stages ≡ Some t → EachStep IsQueryStep t
  stages-each [] at before t h e = let p : node at memory_sink (tree before no_trees) ≡ t = cc in subst (EachStep IsQueryStep) p (sinks, (h, tt))
  stages-each (stage ∷ stages) at before t h e = by (stage_tree tables at before stage) refl (λ over. stages-each stages (at + nodes_of stage) over t) e
    where
      by : (o : Option PlanTree) → stage_tree tables at before stage ≡ o → ((over : PlanTree) → EachStep IsQueryStep over → stages_tree tables (at + nodes_of stage) over stages ≡ Some t → EachStep IsQueryStep t)
          → option_and_then (λ over. stages_tree tables (at + nodes_of stage) over stages) o ≡ Some t → EachStep IsQueryStep t
      by None q rest e = absurd (cc)
      by (Some over) q rest e = rest over (stage-each at before stage over h q) e

  query-each : (query : Query) (t : PlanTree) → query_tree tables query ≡ Some t → EachStep IsQueryStep t
  query-each query t = by (tables query.source)
    where
      by : (o : Option Frame) → option_and_then (λ frame. stages_tree tables 1 (scan_at 0 frame) query.stages) o ≡ Some t → EachStep IsQueryStep t
      by None e = absurd (cc)
      by (Some frame) e = stages-each query.stages 1 (scan_at 0 frame) t (scans frame, tt) e

-- so does each node that is reached
module _ (F : Functions) (plan : Plan) (valid : IsValid F plan) where
  input-each : (ns : List Node) (m : ℕ) → EachStepOf IsQueryStep (plan_trees_of (plan_at plan.nodes plan.exprs) ns) → Contains (numbers ns) m → EachStep IsQueryStep (tree_of plan m)
  input-each [] m h (k, within, e) = absurd (omega arith)
  input-each (n ∷ ns) m h (zero, within, e) = subst (λ (j : ℕ). EachStep IsQueryStep (tree_of plan j)) e h.0
  input-each (n ∷ ns) m h (suc k, within, e) = input-each ns m h.1 (k, omega arith, e)

  along : {a b : ℕ} → Path (inputs_at plan) a b → Reached plan a → EachStep IsQueryStep (tree_of plan a) → EachStep IsQueryStep (tree_of plan b)
  along here reached h = h
  along {a} (onward {b = b} next way) reached h =
      let x = there plan.nodes a (reached-below F plan valid a reached) in
      let made = subst (EachStep IsQueryStep) (reached-is F plan valid a x.0 reached x.1) h in
      along way (path-then reached next) (input-each (entry_inputs x.0) b made.1 (subst (λ (o : Option IR). Contains (named_by entry_inputs o) b) x.1 next))

  module _ (tables : Tables) (query : Query) (is : query_tree tables query ≡ Some (tree_of plan plan.root.0)) where
    reached-each : (n : ℕ) → Reached plan n → EachStep IsQueryStep (tree_of plan n)
    reached-each n reached = along reached here (query-each tables query (tree_of plan plan.root.0) is)

    inputs-named : (ns : List Node) → ((m : Node) → Contains (numbers ns) m.0 → IsNamed F (plan_at plan.nodes plan.exprs m)) → AreNamed F (plan_trees_of (plan_at plan.nodes plan.exprs) ns)
    inputs-named [] all = tt
    inputs-named (n ∷ ns) all = (all n (contains-first n.0 _), inputs-named ns (λ m c. all m (contains-later n.0 m.0 _ c)))

    node-named : (n : ℕ) (x : IR) → Reached plan n → slice_get plan.nodes n ≡ Some x → ((m : Node) → Contains (numbers (entry_inputs x)) m.0 → IsNamed F (tree_of plan m.0)) → IsNamed F (tree_of plan n)
    node-named n x reached at all =
        let q = reached-is F plan valid n x reached at in
        let typed = typed-step F plan valid n x reached at (subst (IsClean F plan) q (reached-clean F plan valid n reached)) in
        let made = subst (EachStep IsQueryStep) q (reached-each n reached) in
        subst (IsNamed F) (sym q) (known-step (tree_schemas F (inputs_of F plan valid x)) (entry_step (tree_at plan.exprs) x) made.0 typed.kinds, inputs-named (entry_inputs x) all)

    pub reached-named : (n : ℕ) → Reached plan n → IsNamed F (tree_of plan n)
    reached-named = each-reached F plan valid (λ n. IsNamed F (tree_of plan n)) node-named
