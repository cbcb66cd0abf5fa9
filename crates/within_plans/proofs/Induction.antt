-- A plan whose calls keep their steps is lowered to nodes that mean what it means.
use Rattle.std.proofs.Common.{◌≡◌, ℕ, [], Option, Some, None, refl, sym, subst}
use Rattle.std.proofs.lemmas.List.{append-nil}
use Rattle.ps_frame.specs.Functions.{Functions, IsLawful}
use Rattle.ps_frame.specs.Tables.{Table}
use Rattle.ps_meaning.specs.PlanTrees.{PlanTree, PlanTrees, missing, no_trees, node, tree}
use Rattle.ps_meaning.specs.Schemas.{tree_schema}
use Rattle.ps_meaning.specs.Sound.{IsSoundButForReaders}
use Rattle.ps_meaning.specs.Steps.{Step, cache}
use Rattle.ps_meaning.specs.Within.{Within}
use Rattle.within_plans.specs.Within.{LowersWithin}
use Rattle.plan_laws.proofs.SoundTables.{sound-tables}
use Rattle.plan_laws.specs.Laws.{HaveStored, StandsOver}
use Rattle.ps_rules.specs.Names.{Names}
use Rattle.ps_rules.specs.Slots.{Stream}
use Rattle.plan_rules.specs.Plans.{Progress, cache_stream, first_plan, lower_plan, lower_plans, lowering_of, nothing_yet, stream_of_cache}
use Rattle.plan_keeps.specs.Kept.{IsKeptCache, MeansWithin}
use Rattle.within_plans.specs.Within.{AreWithinPlans, IsWithinPlan}
use Rattle.within_plans.proofs.Caches.{again_lowered, cache_lowered}
use Rattle.plan_keeps.proofs.Inputs.{AreFine}
use Rattle.within_plans.proofs.Inputs.{AreLowered, IsLowered, more_lowered, none_lowered, one_lowered}
use Rattle.plan_keeps.proofs.Lists.{in_none}
use Rattle.within_plans.proofs.OneStep.{step_lowered}
use Rattle.within_plans.proofs.Ordinary.{CacheOr, cache_or, is_cache, is_ordinary}

module _ (F : Functions) (lawful : IsLawful F) (stored : ℕ → PlanTree) where
  -- a cache over the tree that is stored for its id
  stored_cache : (at id : ℕ) → StandsOver stored (stored id) → (p : Progress) → AreFine stored p → (o : Option Stream) → stream_of_cache id p.cached ≡ o → IsKeptCache o (AreWithinPlans F (tree (stored id) no_trees) p)
      → (AreWithinPlans F (tree (stored id) no_trees) p → IsLowered F stored p (stored id) (lower_plan F (stored id) p))
      → IsLowered F stored p (node at (cache id) (tree (stored id) no_trees)) (cache_stream o id (stored id) (lower_plans F (tree (stored id) no_trees)) p)
  stored_cache at id stands p fine (Some stream) e kept low = again_lowered F stored p fine at id stream e
  stored_cache at id stands p fine None e kept low = cache_lowered F stored p fine at id e stands (lower_plan F (stored id) p) (low kept)

  -- what is to be shown of a cache
  abbrev CacheGoal : ℕ → ℕ → Progress → PlanTrees → Type 0
  CacheGoal at id p below =
      HaveStored stored below → IsWithinPlan F (node at (cache id) below) p → (AreWithinPlans F below p → AreLowered F stored p below (lower_plans F below p)) → IsLowered F stored p (node at (cache id) below) (lower_plan F (node at (cache id) below) p)

  over_stored : (at id : ℕ) (p : Progress) → AreFine stored p → CacheGoal at id p (tree (stored id) no_trees)
  over_stored at id p fine stands kept low = stored_cache at id stands.0 p fine (stream_of_cache id p.cached) refl kept (λ ks. one_lowered F stored p (stored id) (lower_plan F (stored id) p) (low ks))

  cache_node_lowered : (at id : ℕ) (below : PlanTrees) → StandsOver stored (node at (cache id) below) → (p : Progress) → AreFine stored p → IsWithinPlan F (node at (cache id) below) p
      → (AreWithinPlans F below p → AreLowered F stored p below (lower_plans F below p)) → IsLowered F stored p (node at (cache id) below) (lower_plan F (node at (cache id) below) p)
  cache_node_lowered at id below so p fine = subst (CacheGoal at id p) (sym so.0) (over_stored at id p fine) so.1

  -- what is to be shown of a node
  abbrev NodeGoal : ℕ → PlanTrees → Progress → Step → Type 0
  NodeGoal at below p step =
      StandsOver stored (node at step below) → IsWithinPlan F (node at step below) p → (AreWithinPlans F below p → AreLowered F stored p below (lower_plans F below p)) → IsLowered F stored p (node at step below) (lower_plan F (node at step below) p)

  node_lowered : (at : ℕ) (step : Step) (below : PlanTrees) → (p : Progress) → AreFine stored p → NodeGoal at below p step
  node_lowered at step below p fine = by (cache_or F at step)
    where
      by : CacheOr F at step → NodeGoal at below p step
      by (is_cache id e) = subst (NodeGoal at below p) e (λ so kept low. cache_node_lowered at id below so p fine kept low)
      by (is_ordinary o) =
          λ so kept low.
          let schema = tree_schema F (node at step below) in
          let k = o.within schema (AreWithinPlans F below) (lower_plans F below) p kept in
          subst (IsLowered F stored p (node at step below)) (o.same schema (first_plan below) (lower_plans F below) p) (step_lowered F lawful stored p at step schema below o.chosen o.other (lower_plans F below p) (low k.0) k.1)

  mutual
    pub plan_lowered : (t : PlanTree) → StandsOver stored t → (p : Progress) → AreFine stored p → IsWithinPlan F t p → IsLowered F stored p t (lower_plan F t p)
    plan_lowered (node at step below) so p fine kept = node_lowered at step below p fine so kept (λ ks. plans_lowered below so.1 p fine ks)
    plan_lowered missing so p fine kept = absurd kept

    pub plans_lowered : (ts : PlanTrees) → HaveStored stored ts → (p : Progress) → AreFine stored p → AreWithinPlans F ts p → AreLowered F stored p ts (lower_plans F ts p)
    plans_lowered no_trees so p fine kept = none_lowered F stored p fine
    plans_lowered (tree t ts) so p fine kept =
        let first = plan_lowered t so.0 p fine kept.0 in
        let q = lower_plan F t p in
        more_lowered F stored p t ts q (lower_plans F ts q.progress) first (plans_lowered ts so.1 q.progress first.fine kept.1)

  -- from nothing
  module _ (names : Names) (t : PlanTree) (stands : StandsOver stored t) (kept : IsWithinPlan F t (nothing_yet names)) where
    whole : IsLowered F stored (nothing_yet names) t (lowering_of F names t)
    whole = plan_lowered t stands (nothing_yet names) (λ c h. absurd (in_none c h)) kept

    pub root_lowers : let l = lowering_of F names t in LowersWithin F l.progress.state.nodes [] l.progress.cached t l.stream.0
    root_lowers = whole.lowers (lowering_of F names t).progress.state.nodes [] (sym (append-nil (lowering_of F names t).progress.state.nodes))

    pub root_means : let l = lowering_of F names t in IsSoundButForReaders F l.progress.state.nodes → MeansWithin F l.progress.state.nodes l.stream.0 t
    root_means sound T (tables, chosen, within, e) =
        let l = lowering_of F names t in
        let r = root_lowers tables (sound-tables F lawful l.progress.state.nodes sound tables chosen) tables (λ c h. absurd (in_none c h)) in
        let m = r.3 in
        (m.0, (r.0, m.1), subst (λ (U : Table). Within U m.0) e m.2.0)
