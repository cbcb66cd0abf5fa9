-- Each call of a plan of covered steps keeps its step.
use Rattle.std.proofs.Common.{◌≡◌, ℕ, ◌<◌, ◌⊎◌, [], ◌∷◌, ◌++◌, length, Option, Some, None, refl, sym, ap, subst, ◌∙◌, inl, inr}
use Rattle.std.proofs.lemmas.Option.{slice_get-get_or}
use Rattle.std.specs.Prelude.{Contains, get_or}
use Rattle.ps_frame.specs.Functions.{Functions}
use Rattle.ps_meaning.specs.PlanTrees.{PlanTree, PlanTrees, missing, no_trees, node, tree}
use Rattle.ps_meaning.specs.Schemas.{first_schema, tree_schema}
use Rattle.ps_meaning.specs.Shape.{PhysicalNode, Shape, in_memory_sink}
use Rattle.ps_meaning.specs.Steps.{Step, cache}
use Rattle.ps_plan.specs.Lowering.{Cached}
use Rattle.plan_laws.specs.Laws.{HaveStored, IsCacheOf, StandsOver}
use Rattle.ps_rules.specs.Names.{Names}
use Rattle.ps_rules.specs.Slots.{Stream, schema_at, schema_or_none}
use Rattle.plan_rules.specs.Plans.{LoweredPlan, LoweredPlans, Progress, cache_stream, first_plan, lower_plan, lower_plans, nothing_yet, stream_of_cache, stream_over}
use Rattle.step_keeps.specs.Kept.{IsKeptStep}
use Rattle.step_keeps.proofs.Added.{stays}
use Rattle.plan_keeps.specs.Kept.{AreKeptPlans, AreSmall, IsKeptCache, IsKeptPlan}
use Rattle.plan_keeps.proofs.Induction.{plan_lowered, plans_lowered}
use Rattle.plan_keeps.proofs.Inputs.{AreFine, AreLowered}
use Rattle.plan_keeps.proofs.Lists.{in_cons, in_none, stream_known}
use Rattle.plan_keeps.proofs.Ordinary.{CacheOr, cache_or, is_cache, is_ordinary}
use Rattle.plan_keeps.proofs.Small.{kept_call}
use Rattle.arena_keeps.specs.Covered.{AreCovered, IsCovered, IsCoveredStep}
use Rattle.arena_keeps.proofs.Calls.{SchemasAre, call_seen}

abbrev no_node : PhysicalNode
no_node = record { kind = in_memory_sink; schema = []; origin = 0; inputs = [] }

-- a node's schema stays when more stands
schema_stays : (F : Functions) (a b more : Shape) → b ≡ a ++ more → (i : Stream) → i.0 < length a → schema_at b i ≡ schema_at a i
schema_stays F a b more e i inside =
    let p = get_or a i.0 no_node in
    let at = slice_get-get_or a i.0 no_node inside in
    ap schema_or_none (stays F a b more e i.0 p at ∙ sym at)

-- streams of caches have the schemas of their inputs
abbrev AreSeen : Functions → Progress → Type 0
AreSeen F p = (c : Cached) → Contains p.cached c → schema_at p.state.nodes (c.from, 0) ≡ tree_schema F c.input

record Seen (F : Functions) (p : Progress) (t : PlanTree) (q : LoweredPlan) : Type 0 where
  kept : IsKeptPlan F t p
  schema : schema_at q.progress.state.nodes q.stream ≡ tree_schema F t
  caches : AreSeen F q.progress

record SeenAll (F : Functions) (p : Progress) (ts : PlanTrees) (q : LoweredPlans) : Type 0 where
  kept : AreKeptPlans F ts p
  schemas : SchemasAre F q ts
  caches : AreSeen F q.progress

module _ (F : Functions) (stored : ℕ → PlanTree) where
  -- caches stay seen
  seen_later : (p : Progress) (b more : Shape) → b ≡ p.state.nodes ++ more → AreFine stored p → AreSeen F p → (c : Cached) → Contains p.cached c → schema_at b (c.from, 0) ≡ tree_schema F c.input
  seen_later p b more e fine seen c h = schema_stays F p.state.nodes b more e (c.from, 0) (fine c h).there ∙ seen c h

  -- a step that is no cache
  step_seen : (at : ℕ) (step : Step) (below : PlanTrees) (p : Progress) → IsCoveredStep F step below → ((id : ℕ) → cache id ≡ step → ⊥) → AreLowered F stored p below (lower_plans F below p) → SeenAll F p below (lower_plans F below p)
      → let r = lower_plans F below p in
      let schema = tree_schema F (node at step below) in
      let q = stream_over F at step schema r in
      IsKeptStep F at step schema r.streams r.progress.state × (schema_at q.progress.state.nodes q.stream ≡ schema) × AreSeen F q.progress
  step_seen at step below p covered other low seen =
      let r = lower_plans F below p in
      let schema = tree_schema F (node at step below) in
      let call = call_seen F at below r seen.schemas step covered other schema refl in
      let nodes = (stream_over F at step schema r).progress.state.nodes in
      (call.0, call.1, λ c h. seen_later r.progress nodes call.0.more call.0.nodes low.fine seen.caches c h)

  again_seen : (at id : ℕ) (p : Progress) (stream : Stream) → AreFine stored p → AreSeen F p → stream_of_cache id p.cached ≡ Some stream → schema_at p.state.nodes stream ≡ tree_schema F (node at (cache id) (tree (stored id) no_trees))
  again_seen at id p stream fine seen e =
      let c = stream_known id p.cached stream e in
      let input : c.0.input ≡ stored id = (fine c.0 c.1).input ∙ ap stored c.2 in
      ap (schema_at p.state.nodes) (sym c.3) ∙ seen c.0 c.1 ∙ ap (tree_schema F) input

  all_seen : (id from : ℕ) (q : LoweredPlan) → AreSeen F q.progress → schema_at q.progress.state.nodes (from, 0) ≡ tree_schema F (stored id) → (c : Cached) → (record { id = id; input = stored id; from = from } ≡ c) ⊎ Contains q.progress.cached c
      → schema_at q.progress.state.nodes (c.from, 0) ≡ tree_schema F c.input
  all_seen id from q seen own c (inl e) = subst (λ (c : Cached). schema_at q.progress.state.nodes (c.from, 0) ≡ tree_schema F c.input) e own
  all_seen id from q seen own c (inr h) = seen c h

  cache_seen : (at id : ℕ) (p : Progress) → AreFine stored p → AreSeen F p → (o : Option Stream) → stream_of_cache id p.cached ≡ o → Seen F p (stored id) (lower_plan F (stored id) p) → AreKeptPlans F (tree (stored id) no_trees) p
      → let q = cache_stream o id (stored id) (lower_plans F (tree (stored id) no_trees)) p in
      IsKeptCache o (AreKeptPlans F (tree (stored id) no_trees) p) × (schema_at q.progress.state.nodes q.stream ≡ tree_schema F (node at (cache id) (tree (stored id) no_trees))) × AreSeen F q.progress
  cache_seen at id p fine seen (Some stream) e below ks = (tt, again_seen at id p stream fine seen e, seen)
  cache_seen at id p fine seen None e below ks =
      let q = lower_plan F (stored id) p in
      (ks, below.schema, λ c h. all_seen id q.stream.0 q below.caches below.schema c (in_cons (record { id = id; input = stored id; from = q.stream.0 }) c q.progress.cached h))

  -- what is to be shown of a cache
  abbrev CacheGoal : ℕ → ℕ → Progress → PlanTrees → Type 0
  CacheGoal at id p below = SeenAll F p below (lower_plans F below p) → Seen F p (node at (cache id) below) (lower_plan F (node at (cache id) below) p)

  over_stored : (at id : ℕ) (p : Progress) → AreFine stored p → AreSeen F p → CacheGoal at id p (tree (stored id) no_trees)
  over_stored at id p fine seen all =
      let below : Seen F p (stored id) (lower_plan F (stored id) p) = record { kept = all.kept.0; schema = ap first_schema all.schemas; caches = all.caches } in
      let c = cache_seen at id p fine seen (stream_of_cache id p.cached) refl below all.kept in
      record { kept = c.0; schema = c.1; caches = c.2 }

  -- what is to be shown of a node
  abbrev NodeGoal : ℕ → PlanTrees → Progress → Step → Type 0
  NodeGoal at below p step = StandsOver stored (node at step below) → IsCoveredStep F step below → Seen F p (node at step below) (lower_plan F (node at step below) p)

  node_seen : (at : ℕ) (step : Step) (below : PlanTrees) (p : Progress) → AreFine stored p → AreSeen F p → AreLowered F stored p below (lower_plans F below p) → SeenAll F p below (lower_plans F below p) → NodeGoal at below p step
  node_seen at step below p fine seen low all = by (cache_or F at step)
    where
      by : CacheOr F at step → NodeGoal at below p step
      by (is_cache id e) = subst (NodeGoal at below p) e (λ so covered. subst (CacheGoal at id p) (sym so.0) (over_stored at id p fine seen) all)
      by (is_ordinary o) =
          λ so covered.
          let schema = tree_schema F (node at step below) in
          let s = step_seen at step below p covered (λ id e. o.other id (subst (IsCacheOf id) e refl)) low all in
          let same = o.same schema (first_plan below) (lower_plans F below) p in
          record {
            kept = o.back schema (AreSmall F below) (AreKeptPlans F below) (lower_plans F below) p (all.kept, kept_call F at step schema (AreSmall F below) (lower_plans F below p) s.0);
            schema = subst (λ (q : LoweredPlan). schema_at q.progress.state.nodes q.stream ≡ schema) same s.1;
            caches = subst (λ (q : LoweredPlan). AreSeen F q.progress) same s.2;
          }

  mutual
    plan_seen : (t : PlanTree) → StandsOver stored t → IsCovered F t → (p : Progress) → AreFine stored p → AreSeen F p → Seen F p t (lower_plan F t p)
    plan_seen (node at step below) so covered p fine seen =
        let all = plans_seen below so.1 covered.1 p fine seen in
        node_seen at step below p fine seen (plans_lowered F stored below so.1 p fine all.kept) all so covered.0
    plan_seen missing so covered p fine seen = absurd covered

    plans_seen : (ts : PlanTrees) → HaveStored stored ts → AreCovered F ts → (p : Progress) → AreFine stored p → AreSeen F p → SeenAll F p ts (lower_plans F ts p)
    plans_seen no_trees so covered p fine seen = record { kept = tt; schemas = refl; caches = seen }
    plans_seen (tree t ts) so covered p fine seen =
        let q = lower_plan F t p in
        let first = plan_seen t so.0 covered.0 p fine seen in
        let low = plan_lowered F stored t so.0 p fine first.kept in
        let others = plans_seen ts so.1 covered.1 q.progress low.fine first.caches in
        let rest = plans_lowered F stored ts so.1 q.progress low.fine others.kept in
        let r = lower_plans F ts q.progress in
        let own : schema_at r.progress.state.nodes q.stream ≡ tree_schema F t = schema_stays F q.progress.state.nodes r.progress.state.nodes rest.more rest.nodes q.stream low.there ∙ first.schema in
        record { kept = (first.kept, others.kept); schemas = λ i. own i ∷ others.schemas i; caches = others.caches }

  pub covered_kept : (t : PlanTree) → StandsOver stored t → IsCovered F t → (names : Names) → IsKeptPlan F t (nothing_yet names)
  covered_kept t so covered names = (plan_seen t so covered (nothing_yet names) (λ c h. absurd (in_none c h)) (λ c h. absurd (in_none c h))).kept
