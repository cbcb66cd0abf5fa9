-- Each node of a lowered plan was made for a node of the plan.
use Rattle.std.proofs.Common.{◌≡◌, ℕ, [], Option, Some, None, refl, sym, subst, arith}
use Rattle.std.proofs.lemmas.List.{append-nil}
use Rattle.ps_frame.specs.Functions.{Functions, IsLawful}
use Rattle.ps_frame.specs.Tables.{Table, no_rows}
use Rattle.ps_meaning.specs.PlanTrees.{PlanTree, PlanTrees, missing, no_trees, node, tree}
use Rattle.ps_meaning.specs.Schemas.{tree_schema}
use Rattle.ps_meaning.specs.Shape.{IsPhysicalChoice}
use Rattle.ps_meaning.specs.Sound.{IsSoundButForReaders}
use Rattle.ps_meaning.specs.Steps.{Step, cache}
use Rattle.plan_laws.proofs.SoundTables.{sound-tables}
use Rattle.plan_laws.specs.Laws.{HaveStored, StandsOver}
use Rattle.ps_rules.specs.Names.{Names}
use Rattle.ps_rules.specs.Slots.{Stream}
use Rattle.plan_rules.specs.Plans.{Progress, cache_stream, first_plan, lower_plan, lower_plans, lowering_of, nothing_yet, stream_of_cache}
use Rattle.plan_keeps.specs.Kept.{AreNumberedApart, IsKeptCache, IsNumberedApart, SomeHasNumber}
use Rattle.within_plans.specs.Within.{AreMadeOrLarge, AreWithinPlans, IsWithinPlan}
use Rattle.within_plans.proofs.Induction.{plan_lowered, plans_lowered}
use Rattle.plan_keeps.proofs.Inputs.{AreFine}
use Rattle.within_plans.proofs.Inputs.{AreLowered, IsLowered, one_lowered}
use Rattle.plan_keeps.proofs.Lists.{in_none}
use Rattle.within_plans.proofs.Ordinary.{CacheOr, cache_or, is_cache, is_ordinary}
use Rattle.plan_keeps.proofs.Told.{IsEarlier}
use Rattle.within_plans.proofs.Told.{IsOf, IsTold, TellAll, Tells, more_told, none_told, one_told, step_tells}
use Rattle.within_plans.proofs.ToldCaches.{again_tells, cache_tells}

module _ (F : Functions) (lawful : IsLawful F) (stored : ℕ → PlanTree) where
  -- a cache over the tree that is stored for its id
  stored_told : (at id : ℕ) → StandsOver stored (stored id) → (p : Progress) → AreFine stored p → IsTold F p → (o : Option Stream) → stream_of_cache id p.cached ≡ o → IsKeptCache o (AreWithinPlans F (tree (stored id) no_trees) p)
      → (AreWithinPlans F (tree (stored id) no_trees) p → IsLowered F stored p (stored id) (lower_plan F (stored id) p) × Tells F p (stored id) (lower_plan F (stored id) p))
      → Tells F p (node at (cache id) (tree (stored id) no_trees)) (cache_stream o id (stored id) (lower_plans F (tree (stored id) no_trees)) p)
  stored_told at id stands p fine told (Some stream) e kept low = again_tells F stored p fine at id told stream e
  stored_told at id stands p fine told None e kept low = let both = low kept in cache_tells F stored p fine at id told e stands (lower_plan F (stored id) p) both.0 both.1

  -- what is to be shown of a cache
  abbrev CacheGoal : ℕ → ℕ → Progress → PlanTrees → Type 0
  CacheGoal at id p below =
      HaveStored stored below → IsWithinPlan F (node at (cache id) below) p → (AreWithinPlans F below p → AreLowered F stored p below (lower_plans F below p) × TellAll F p below (lower_plans F below p))
      → Tells F p (node at (cache id) below) (lower_plan F (node at (cache id) below) p)

  over_stored : (at id : ℕ) (p : Progress) → AreFine stored p → IsTold F p → CacheGoal at id p (tree (stored id) no_trees)
  over_stored at id p fine told stands kept low =
      stored_told at id stands.0 p fine told (stream_of_cache id p.cached) refl kept (λ ks. let both = low ks in (one_lowered F stored p (stored id) (lower_plan F (stored id) p) both.0, one_told F p (stored id) (lower_plan F (stored id) p) both.1))

  cache_node_told : (at id : ℕ) (below : PlanTrees) → StandsOver stored (node at (cache id) below) → (p : Progress) → AreFine stored p → IsTold F p → IsWithinPlan F (node at (cache id) below) p
      → (AreWithinPlans F below p → AreLowered F stored p below (lower_plans F below p) × TellAll F p below (lower_plans F below p)) → Tells F p (node at (cache id) below) (lower_plan F (node at (cache id) below) p)
  cache_node_told at id below so p fine told = subst (CacheGoal at id p) (sym so.0) (over_stored at id p fine told) so.1

  -- what is to be shown of a node
  abbrev NodeGoal : ℕ → PlanTrees → Progress → Step → Type 0
  NodeGoal at below p step =
      StandsOver stored (node at step below) → IsWithinPlan F (node at step below) p → (AreWithinPlans F below p → AreLowered F stored p below (lower_plans F below p) × TellAll F p below (lower_plans F below p))
      → Tells F p (node at step below) (lower_plan F (node at step below) p)

  node_told : (at : ℕ) (step : Step) (below : PlanTrees) → (SomeHasNumber at below → ⊥) → (p : Progress) → AreFine stored p → IsTold F p → NodeGoal at below p step
  node_told at step below apart p fine told = by (cache_or F at step)
    where
      by : CacheOr F at step → NodeGoal at below p step
      by (is_cache id e) = subst (NodeGoal at below p) e (λ so kept low. cache_node_told at id below so p fine told kept low)
      by (is_ordinary o) =
          λ so kept low.
          let schema = tree_schema F (node at step below) in
          let k = o.within schema (AreWithinPlans F below) (lower_plans F below) p kept in
          let both = low k.0 in
          subst (Tells F p (node at step below)) (o.same schema (first_plan below) (lower_plans F below) p) (step_tells F lawful stored p at step schema below o.chosen apart (lower_plans F below p) both.0 told both.1 k.1)

  mutual
    plan_told : (t : PlanTree) → StandsOver stored t → IsNumberedApart t → (p : Progress) → AreFine stored p → IsTold F p → IsWithinPlan F t p → Tells F p t (lower_plan F t p)
    plan_told (node at step below) so apart p fine told kept = node_told at step below apart.0 p fine told so kept (λ ks. (plans_lowered F lawful stored below so.1 p fine ks, plans_told below so.1 apart.1 p fine told ks))
    plan_told missing so apart p fine told kept = absurd kept

    plans_told : (ts : PlanTrees) → HaveStored stored ts → AreNumberedApart ts → (p : Progress) → AreFine stored p → IsTold F p → AreWithinPlans F ts p → TellAll F p ts (lower_plans F ts p)
    plans_told no_trees so apart p fine told kept = none_told F p told
    plans_told (tree t ts) so apart p fine told kept =
        let q = lower_plan F t p in
        let low = plan_lowered F lawful stored t so.0 p fine kept.0 in
        let first = plan_told t so.0 apart.0 p fine told kept.0 in
        more_told F stored p t ts q (lower_plans F ts q.progress) (plans_lowered F lawful stored ts so.1 q.progress low.fine kept.1) first (plans_told ts so.1 apart.1 q.progress low.fine first.told kept.1)

  -- from nothing
  pub root_made : (names : Names) (t : PlanTree) → StandsOver stored t → IsNumberedApart t → IsWithinPlan F t (nothing_yet names) → let l = lowering_of F names t in IsSoundButForReaders F l.progress.state.nodes → AreMadeOrLarge F l.progress.state.nodes t
  root_made names t stands apart kept sound n within =
      let nodes = (lowering_of F names t).progress.state.nodes in
      let tells = plan_told t stands apart (nothing_yet names) (λ c h. absurd (in_none c h)) nothing kept in
      let made = tells.nodes n (omega arith) within in
      let early : IsEarlier nodes = λ m p there. (sound m p there).earlier in
      let shown : (tables : ℕ → Table) → IsPhysicalChoice F nodes tables → IsOf F nodes tables n made.0 = λ tables chosen. made.2.later nodes [] (sym (append-nil nodes)) early tables (sound-tables F lawful nodes sound tables chosen) in (
        made.0,
        made.1,
        record {
          origin = made.2.origin;
          causes = λ c e h. (shown h.0 h.1).causes h.3 c h.4 h.5 e;
          sizes = λ h. (shown h.0 h.1).sizes h.2 h.4 h.5;
        },
      )
    where
      nothing : IsTold F (nothing_yet names)
      nothing = record { able = λ shape more is early tables given. ((λ k. no_rows [] []), (λ c h. absurd (in_none c h))); caches = λ c h. absurd (in_none c h) }
