-- The table of each call of a plan stays within those of its step, whatever kinds and sizes there are.
use Rattle.std.proofs.Common.{ℕ, ◌≤◌, ◌^◌, Option, Some, None, refl, sym, subst, arith}
use Rattle.ps_frame.specs.Functions.{Functions}
use Rattle.ps_meaning.specs.PlanTrees.{PlanTree, PlanTrees, missing, no_trees, node, tree}
use Rattle.ps_meaning.specs.Schemas.{tree_schema, tree_schemas}
use Rattle.ps_meaning.specs.Steps.{Step}
use Rattle.ps_rules.specs.Names.{Names}
use Rattle.ps_rules.specs.Slots.{Stream}
use Rattle.plan_laws.specs.Laws.{HaveStored, IsCacheOf, StandsOver}
use Rattle.plan_rules.specs.Plans.{LoweredPlan, Progress, cache_stream, first_plan, lower_plan, lower_plans, lowering_of, nothing_yet, stream_of_cache, stream_over}
use Rattle.plan_keeps.specs.Kept.{IsKeptCache}
use Rattle.within_plans.specs.Within.{AreWithinPlans, IsWithinPlan}
use Rattle.within_plans.proofs.Ordinary.{CacheOr, cache_or, is_cache, is_ordinary}
use Rattle.rule_parts.specs.Good.{IsGoodStep}
use Rattle.rule_parts.proofs.Growing.{step_grows}
use Rattle.rule_soundness.specs.Plans.{AreGoodPlans, IsGoodPlan, KnowPlans, KnowsPlan}
use Rattle.rule_soundness.proofs.Plans.{IsGoodProgress, LowersAll, all_known_later, known_later, nothing_good, plan_grows, plan_lowers, plans_grow, plans_lower, schemas_known}
use Rattle.valid_within.proofs.Steps.{step_within}

lower : (a b top : ℕ) → a ≤ b → b ≤ top → a ≤ top
lower a b top more small = omega arith

module _ (F : Functions) (stored : ℕ → PlanTree) where
  -- where a cache id has a stream nothing is lowered
  cache_within : (id : ℕ) (below : PlanTrees) (p : Progress) → ((lower_plans F below p).progress.state.names.next ≤ 2 ^ 64 → AreWithinPlans F below p) → (o : Option Stream) → (cache_stream o id (first_plan below) (lower_plans F below) p).progress.state.names.next ≤ 2 ^ 64 → IsKeptCache o (AreWithinPlans F below p)
  cache_within id below p under (Some stream) small = tt
  cache_within id below p under None small = under small

  -- what is to be shown of a node
  abbrev NodeGoal : ℕ → PlanTrees → Progress → Step → Type 0
  NodeGoal at below p step =
      IsGoodStep F step (tree_schemas F below) → KnowsPlan F p.state.names (node at step below) → (lower_plan F (node at step below) p).progress.state.names.next ≤ 2 ^ 64 → IsWithinPlan F (node at step below) p

  node_within : (at : ℕ) (step : Step) (below : PlanTrees) (p : Progress) → ((lower_plans F below p).progress.state.names.next ≤ 2 ^ 64 → AreWithinPlans F below p × LowersAll F stored p (lower_plans F below p) (tree_schemas F below)) → NodeGoal at below p step
  node_within at step below p under = by (cache_or F at step)
    where
      by : CacheOr F at step → NodeGoal at below p step
      by (is_cache id e) = subst (NodeGoal at below p) e (λ good known small. cache_within id below p (λ le. (under le).0) (stream_of_cache id p.cached) small)
      by (is_ordinary o) =
          λ good known small.
          let schema = tree_schema F (node at step below) in
          let low = lower_plans F below p in
          let a = p.state.names in
          let b = low.progress.state.names in
          let lt : (stream_over F at step schema low).progress.state.names.next ≤ 2 ^ 64 = subst (λ (q : LoweredPlan). q.progress.state.names.next ≤ 2 ^ 64) (sym (o.same schema (first_plan below) (lower_plans F below) p)) small in
          let more = (step_grows at F step schema low.streams low.progress.state).1 in
          let u = under (lower b.next (stream_over F at step schema low).progress.state.names.next (2 ^ 64) more lt) in
          let later = known_later F a b (node at step below) (plans_grow F below p) known in
          let call = step_within F at low.progress.state step low.streams (tree_schemas F below) (λ id e. o.other id (subst (IsCacheOf id) e refl)) u.1.good.sound u.1.streams good (later.0, schemas_known F b below later.1) lt in
          o.back schema (AreWithinPlans F below) (lower_plans F below) p (u.0, call)

  mutual
    plan_within : (t : PlanTree) → StandsOver stored t → IsGoodPlan F t → (p : Progress) → IsGoodProgress F stored p → KnowsPlan F p.state.names t → (lower_plan F t p).progress.state.names.next ≤ 2 ^ 64 → IsWithinPlan F t p
    plan_within (node at step below) so good p right known small = node_within at step below p (λ le. (plans_within below so.1 good.1 p right known.1 le, plans_lower F stored below so.1 good.1 p right known.1 le)) good.0 known small
    plan_within missing so good p right known small = absurd good

    plans_within : (ts : PlanTrees) → HaveStored stored ts → AreGoodPlans F ts → (p : Progress) → IsGoodProgress F stored p → KnowPlans F p.state.names ts → (lower_plans F ts p).progress.state.names.next ≤ 2 ^ 64 → AreWithinPlans F ts p
    plans_within no_trees so good p right known small = tt
    plans_within (tree t ts) so good p right known small =
        let q = (lower_plan F t p).progress in
        let more = (plans_grow F ts q).1 in
        let le = lower q.state.names.next (lower_plans F ts q).progress.state.names.next (2 ^ 64) more small in
        let first = plan_lowers F stored t so.0 good.0 p right known.0 le in
        (plan_within t so.0 good.0 p right known.0 le, plans_within ts so.1 good.1 q first.good (all_known_later F p.state.names q.state.names ts (plan_grows F t p) known.1) small)

  -- from nothing
  pub root_within : (names : Names) (t : PlanTree) → StandsOver stored t → IsGoodPlan F t → KnowsPlan F names t → (lowering_of F names t).progress.state.names.next ≤ 2 ^ 64 → IsWithinPlan F t (nothing_yet names)
  root_within names t so good known small = plan_within t so good (nothing_yet names) (nothing_good F stored names) known small
