-- Each call that a plan of steps of kept kinds makes keeps its step.
use Rattle.std.proofs.Common.{ℕ, ◌≤◌, ◌^◌, Option, Some, None, refl, sym, subst, inl, inr, arith}
use Rattle.ps_frame.specs.Functions.{Functions}
use Rattle.ps_meaning.specs.PlanTrees.{PlanTree, PlanTrees, missing, no_trees, node, tree}
use Rattle.ps_meaning.specs.Schemas.{tree_schema, tree_schemas}
use Rattle.ps_meaning.specs.Steps.{Step}
use Rattle.ps_rules.specs.Names.{Names}
use Rattle.ps_rules.specs.Slots.{Stream}
use Rattle.plan_laws.specs.Laws.{HaveStored, IsCacheOf, StandsOver}
use Rattle.plan_rules.specs.Plans.{LoweredPlan, Progress, cache_stream, first_plan, lower_plan, lower_plans, lowering_of, nothing_yet, stream_of_cache, stream_over}
use Rattle.plan_keeps.specs.Kept.{AreKeptPlans, AreSmall, IsKeptCache, IsKeptCall, IsKeptPlan}
use Rattle.plan_keeps.proofs.Ordinary.{CacheOr, cache_or, is_cache, is_ordinary}
use Rattle.plan_keeps.proofs.Small.{kept_call, small_call}
use Rattle.rule_parts.specs.Good.{IsGoodStep}
use Rattle.rule_parts.proofs.Growing.{step_grows}
use Rattle.rule_soundness.specs.Plans.{AreGoodPlans, IsGoodPlan, KnowPlans, KnowsPlan}
use Rattle.rule_soundness.proofs.Plans.{IsGoodProgress, LowersAll, all_known_later, known_later, nothing_good, plan_grows, plan_lowers, plans_grow, plans_lower, schemas_known}
use Rattle.plans_keep.specs.Kinds.{AreOfKeptKinds, IsKeptAbove, IsOfKeptKinds}
use Rattle.plans_keep.proofs.Steps.{step_counted, step_kept}

lower : (a b top : ℕ) → a ≤ b → b ≤ top → a ≤ top
lower a b top more small = omega arith

module _ (F : Functions) (stored : ℕ → PlanTree) where
  -- where a cache id has a stream nothing is lowered
  cache_kept : (id : ℕ) (below : PlanTrees) (p : Progress) → ((lower_plans F below p).progress.state.names.next ≤ 2 ^ 64 → AreKeptPlans F below p) → (o : Option Stream) → (cache_stream o id (first_plan below) (lower_plans F below) p).progress.state.names.next ≤ 2 ^ 64 → IsKeptCache o (AreKeptPlans F below p)
  cache_kept id below p under (Some stream) small = tt
  cache_kept id below p under None small = under small

  -- what is to be shown of a node
  abbrev NodeGoal : ℕ → PlanTrees → Progress → Step → Type 0
  NodeGoal at below p step =
      IsGoodStep F step (tree_schemas F below) → IsKeptAbove F step below → KnowsPlan F p.state.names (node at step below) → (lower_plan F (node at step below) p).progress.state.names.next ≤ 2 ^ 64 → IsKeptPlan F (node at step below) p

  node_kept : (at : ℕ) (step : Step) (below : PlanTrees) (p : Progress) → ((lower_plans F below p).progress.state.names.next ≤ 2 ^ 64 → AreKeptPlans F below p × LowersAll F stored p (lower_plans F below p) (tree_schemas F below)) → NodeGoal at below p step
  node_kept at step below p under = by (cache_or F at step)
    where
      by : CacheOr F at step → NodeGoal at below p step
      by (is_cache id e) = subst (NodeGoal at below p) e (λ good kind known small. cache_kept id below p (λ le. (under le).0) (stream_of_cache id p.cached) small)
      by (is_ordinary o) =
          λ good kind known small.
          let schema = tree_schema F (node at step below) in
          let low = lower_plans F below p in
          let a = p.state.names in
          let b = low.progress.state.names in
          let lt : (stream_over F at step schema low).progress.state.names.next ≤ 2 ^ 64 = subst (λ (q : LoweredPlan). q.progress.state.names.next ≤ 2 ^ 64) (sym (o.same schema (first_plan below) (lower_plans F below) p)) small in
          let more = (step_grows at F step schema low.streams low.progress.state).1 in
          let u = under (lower b.next (stream_over F at step schema low).progress.state.names.next (2 ^ 64) more lt) in
          let later = known_later F a b (node at step below) (plans_grow F below p) known in
          let call : IsKeptCall F at step schema (AreSmall F below) low = elim kind [
            | inl k ↦ kept_call F at step schema (AreSmall F below) low (step_kept F at low.progress.state step low.streams (tree_schemas F below) (λ id e. o.other id (subst (IsCacheOf id) e refl)) u.1.good.sound u.1.streams good k (later.0, schemas_known F b below later.1) lt)
            | inr c ↦ small_call F at step schema (AreSmall F below) c.1 low (step_counted F at low.progress.state step low.streams (tree_schemas F below) u.1.good.sound u.1.streams good c.0 (later.0, schemas_known F b below later.1) lt).0
          ] in
          o.back schema (AreSmall F below) (AreKeptPlans F below) (lower_plans F below) p (u.0, call)

  mutual
    plan_kept : (t : PlanTree) → StandsOver stored t → IsGoodPlan F t → IsOfKeptKinds F t → (p : Progress) → IsGoodProgress F stored p → KnowsPlan F p.state.names t → (lower_plan F t p).progress.state.names.next ≤ 2 ^ 64 → IsKeptPlan F t p
    plan_kept (node at step below) so good kinds p right known small = node_kept at step below p (λ le. (plans_kept below so.1 good.1 kinds.1 p right known.1 le, plans_lower F stored below so.1 good.1 p right known.1 le)) good.0 kinds.0 known small
    plan_kept missing so good kinds p right known small = absurd good

    plans_kept : (ts : PlanTrees) → HaveStored stored ts → AreGoodPlans F ts → AreOfKeptKinds F ts → (p : Progress) → IsGoodProgress F stored p → KnowPlans F p.state.names ts → (lower_plans F ts p).progress.state.names.next ≤ 2 ^ 64 → AreKeptPlans F ts p
    plans_kept no_trees so good kinds p right known small = tt
    plans_kept (tree t ts) so good kinds p right known small =
        let q = (lower_plan F t p).progress in
        let more = (plans_grow F ts q).1 in
        let le = lower q.state.names.next (lower_plans F ts q).progress.state.names.next (2 ^ 64) more small in
        let first = plan_lowers F stored t so.0 good.0 p right known.0 le in
        (plan_kept t so.0 good.0 kinds.0 p right known.0 le, plans_kept ts so.1 good.1 kinds.1 q first.good (all_known_later F p.state.names q.state.names ts (plan_grows F t p) known.1) small)

  -- from nothing
  pub root_kept : (names : Names) (t : PlanTree) → StandsOver stored t → IsGoodPlan F t → KnowsPlan F names t → IsOfKeptKinds F t → (lowering_of F names t).progress.state.names.next ≤ 2 ^ 64 → IsKeptPlan F t (nothing_yet names)
  root_kept names t so good known kinds small = plan_kept t so good kinds (nothing_yet names) (nothing_good F stored names) known small
