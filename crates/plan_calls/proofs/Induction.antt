-- Each call that a part of a plan makes stays within its step, and what it makes is told of, whatever calls came before.
use Rattle.std.proofs.Common.{◌≡◌, ℕ, ◌≤◌, ◌^◌, Option, Some, None, refl, sym, subst, arith}
use Rattle.ps_frame.specs.Functions.{Functions, IsLawful}
use Rattle.ps_meaning.specs.PlanTrees.{PlanTree, PlanTrees, missing, no_trees, node, tree}
use Rattle.ps_meaning.specs.Schemas.{tree_schema, tree_schemas}
use Rattle.ps_meaning.specs.Steps.{Step, cache}
use Rattle.ps_rules.specs.Slots.{Stream}
use Rattle.plan_calls.proofs.Parts.{AreFit, IsFit}
use Rattle.plan_calls.specs.Calls.{StepsStayWithin}
use Rattle.plan_keeps.proofs.Inputs.{AreFine}
use Rattle.plan_keeps.specs.Kept.{IsKeptCache}
use Rattle.plan_laws.specs.Laws.{HaveStored, IsCacheOf, StandsOver}
use Rattle.plan_rules.specs.Plans.{LoweredPlan, Progress, cache_stream, first_plan, lower_plan, lower_plans, stream_of_cache, stream_over}
use Rattle.rule_parts.proofs.Growing.{step_grows}
use Rattle.rule_soundness.proofs.Plans.{IsGoodProgress, all_known_later, known_later, plan_grows, plan_lowers, plans_grow, plans_lower, schemas_known}
use Rattle.within_plans.proofs.Induction.{plan_lowered, plans_lowered}
use Rattle.within_plans.proofs.Inputs.{one_lowered}
use Rattle.within_plans.proofs.Ordinary.{CacheOr, cache_or, is_cache, is_ordinary}
use Rattle.within_plans.proofs.Told.{IsTold, TellAll, Tells, more_told, none_told, one_told, step_tells}
use Rattle.within_plans.proofs.ToldCaches.{again_tells, cache_tells}
use Rattle.within_plans.specs.Within.{AreWithinPlans, IsWithinPlan}

-- the counter is no further than it is later
sooner : (a b top : ℕ) → a ≤ b → b ≤ top → a ≤ top
sooner a b top more small = omega arith

-- what stands is sound, caches stand over what is stored, and their streams mean what that does
pub record IsReady (F : Functions) (stored : ℕ → PlanTree) (p : Progress) : Type 0 where
  pub good : IsGoodProgress F stored p
  pub fine : AreFine stored p
  pub told : IsTold F p

module _ (F : Functions) (lawful : IsLawful F) (steps : StepsStayWithin F) (stored : ℕ → PlanTree) where
  abbrev pub IsKept : Progress → PlanTree → Type 0
  IsKept p t = IsWithinPlan F t p × Tells F p t (lower_plan F t p)

  abbrev AreKept : Progress → PlanTrees → Type 0
  AreKept p ts = AreWithinPlans F ts p × TellAll F p ts (lower_plans F ts p)

  -- where the counter of names is in range at the end
  abbrev Under : Progress → PlanTrees → Type 0
  Under p ts = (lower_plans F ts p).progress.state.names.next ≤ 2 ^ 64 → AreKept p ts

  -- one more call finds what it needs
  pub ready_then : (t : PlanTree) (p : Progress) → IsReady F stored p → IsFit F stored p.state.names t → (lower_plan F t p).progress.state.names.next ≤ 2 ^ 64 → IsKept p t → IsReady F stored (lower_plan F t p).progress
  ready_then t p h fit small kept = record { good = (plan_lowers F stored t fit.0 fit.1 p h.good fit.2 small).good; fine = (plan_lowered F lawful stored t fit.0 p h.fine kept.0).fine; told = kept.1.told }

  -- a cache over the tree that is stored for its id
  stored_kept : (at id : ℕ) (p : Progress) → IsReady F stored p → StandsOver stored (stored id) → (o : Option Stream) → stream_of_cache id p.cached ≡ o → Under p (tree (stored id) no_trees)
      → let l = cache_stream o id (stored id) (lower_plans F (tree (stored id) no_trees)) p in
      l.progress.state.names.next ≤ 2 ^ 64 → IsKeptCache o (AreWithinPlans F (tree (stored id) no_trees) p) × Tells F p (node at (cache id) (tree (stored id) no_trees)) l
  stored_kept at id p h stands (Some stream) e under small = (tt, again_tells F stored p h.fine at id h.told stream e)
  stored_kept at id p h stands None e under small =
      let k = under small in
      let q = lower_plan F (stored id) p in
      let low = one_lowered F stored p (stored id) q (plans_lowered F lawful stored (tree (stored id) no_trees) (stands, tt) p h.fine k.0) in
      (k.0, cache_tells F stored p h.fine at id h.told e stands q low (one_told F p (stored id) q k.1))

  abbrev CacheGoal : ℕ → ℕ → Progress → PlanTrees → Type 0
  CacheGoal at id p below = HaveStored stored below → Under p below → (lower_plan F (node at (cache id) below) p).progress.state.names.next ≤ 2 ^ 64 → IsKept p (node at (cache id) below)

  over_stored : (at id : ℕ) (p : Progress) → IsReady F stored p → CacheGoal at id p (tree (stored id) no_trees)
  over_stored at id p h have under small = stored_kept at id p h have.0 (stream_of_cache id p.cached) refl under small

  cache_kept : (at id : ℕ) (below : PlanTrees) (p : Progress) → IsReady F stored p → StandsOver stored (node at (cache id) below) → Under p below → (lower_plan F (node at (cache id) below) p).progress.state.names.next ≤ 2 ^ 64 → IsKept p (node at (cache id) below)
  cache_kept at id below p h stands = subst (CacheGoal at id p) (sym stands.0) (over_stored at id p h) stands.1

  abbrev NodeGoal : ℕ → PlanTrees → Progress → Step → Type 0
  NodeGoal at below p step = IsFit F stored p.state.names (node at step below) → Under p below → (lower_plan F (node at step below) p).progress.state.names.next ≤ 2 ^ 64 → IsKept p (node at step below)

  node_kept : (at : ℕ) (step : Step) (below : PlanTrees) (p : Progress) → IsReady F stored p → NodeGoal at below p step
  node_kept at step below p h = by (cache_or F at step)
    where
      by : CacheOr F at step → NodeGoal at below p step
      by (is_cache id e) = subst (NodeGoal at below p) e (λ fit under small. cache_kept at id below p h fit.0 under small)
      by (is_ordinary o) =
          λ fit under small.
          let schema = tree_schema F (node at step below) in
          let low = lower_plans F below p in
          let a = p.state.names in
          let b = low.progress.state.names in
          let lt : (stream_over F at step schema low).progress.state.names.next ≤ 2 ^ 64 = subst (λ (q : LoweredPlan). q.progress.state.names.next ≤ 2 ^ 64) (sym (o.same schema (first_plan below) (lower_plans F below) p)) small in
          let le = sooner b.next (stream_over F at step schema low).progress.state.names.next (2 ^ 64) (step_grows at F step schema low.streams low.progress.state).1 lt in
          let k = under le in
          let l = plans_lower F stored below fit.0.1 fit.1.1 p h.good fit.2.1 le in
          let known = known_later F a b (node at step below) (plans_grow F below p) fit.2 in
          let call = steps at low.progress.state step low.streams (tree_schemas F below) (λ id e. o.other id (subst (IsCacheOf id) e refl)) l.good.sound l.streams fit.1.0 (known.0, schemas_known F b below known.1) lt in (
            o.back schema (AreWithinPlans F below) (lower_plans F below) p (k.0, call),
            subst (Tells F p (node at step below)) (o.same schema (first_plan below) (lower_plans F below) p)
                (step_tells F lawful stored p at step schema below o.chosen fit.3.0 low (plans_lowered F lawful stored below fit.0.1 p h.fine k.0) h.told k.1 call),
          )

  mutual
    pub plan_kept : (t : PlanTree) (p : Progress) → IsReady F stored p → IsFit F stored p.state.names t → (lower_plan F t p).progress.state.names.next ≤ 2 ^ 64 → IsKept p t
    plan_kept (node at step below) p h fit small = node_kept at step below p h fit (λ le. plans_kept below p h (fit.0.1, fit.1.1, fit.2.1, fit.3.1) le) small
    plan_kept missing p h fit small = absurd fit.1

    plans_kept : (ts : PlanTrees) (p : Progress) → IsReady F stored p → AreFit F stored p.state.names ts → (lower_plans F ts p).progress.state.names.next ≤ 2 ^ 64 → AreKept p ts
    plans_kept no_trees p h fit small = (tt, none_told F p h.told)
    plans_kept (tree t ts) p h fit small =
        let q = lower_plan F t p in
        let r = lower_plans F ts q.progress in
        let le = sooner q.progress.state.names.next r.progress.state.names.next (2 ^ 64) (plans_grow F ts q.progress).1 small in
        let own : IsFit F stored p.state.names t = (fit.0.0, fit.1.0, fit.2.0, fit.3.0) in
        let first = plan_kept t p h own le in
        let then_ready = ready_then t p h own le first in
        let others = plans_kept ts q.progress then_ready (fit.0.1, fit.1.1, all_known_later F p.state.names q.progress.state.names ts (plan_grows F t p) fit.2.1, fit.3.1) small in
        ((first.0, others.0), more_told F stored p t ts q r (plans_lowered F lawful stored ts fit.0.1 q.progress then_ready.fine others.0) first.1 others.1)
