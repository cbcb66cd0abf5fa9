-- Lowered plans: what stands stays sound, and each stream has the schema of its tree.
use Rattle.std.proofs.Common.{◌≡◌, ℕ, ◌≤◌, ◌^◌, Bool, true, false, cond, List, [], ◌∷◌, ◌++◌, Option, Some, None, refl, sym, ap, subst, ◌∙◌, arith, append_assoc}
use Rattle.std.specs.Prelude.{◌==◌}
use Rattle.std.specs.List.{AllByRecursion}
use Rattle.std.proofs.lemmas.Bool.{eqb-true}
use Rattle.std.proofs.lemmas.List.{append-nil}
use Rattle.ps_frame.specs.Functions.{Functions}
use Rattle.ps_frame.specs.Tables.{Fields}
use Rattle.ps_meaning.specs.PlanTrees.{PlanTree, PlanTrees, missing, no_trees, node, tree}
use Rattle.ps_meaning.specs.Schemas.{first_schema, schema_or_empty, tree_schema, tree_schemas}
use Rattle.ps_meaning.specs.Shape.{Shape}
use Rattle.ps_meaning.specs.Sound.{IsSoundButForReaders}
use Rattle.ps_meaning.specs.Steps.{Step, cache, distinct, filter, group_by, hconcat, hstack, join, left_out, project, row_index, scan, select, sink, slice, sort, union, user}
use Rattle.ps_plan.specs.Lowering.{Cached}
use Rattle.ps_rules.specs.Names.{Names}
use Rattle.ps_rules.specs.Slots.{Stream}
use Rattle.ps_shares.proofs.Fresh.{Grown, grown_same, grown_then}
use Rattle.plan_rules.specs.Nodes.{step_stream}
use Rattle.plan_rules.specs.Plans.{LoweredPlan, LoweredPlans, Progress, cache_stream, first_plan, lower_plan, lower_plans, node_stream, nothing_yet, stream_of_cache, stream_over}
use Rattle.plan_laws.specs.Laws.{HaveStored, IsStored, StandsOver}
use Rattle.rule_parts.specs.Good.{AreStreams, IsGoodStep, IsStream, KnowsNames}
use Rattle.rule_parts.proofs.Growing.{step_grows}
use Rattle.rule_parts.proofs.Standing.{stream_later}
use Rattle.rule_nodes.proofs.Steps.{step_makes}
use Rattle.rule_soundness.specs.Plans.{AreGoodPlans, IsGoodPlan, KnowPlans, KnowsPlan, PlansStaySound}

none_sound : (F : Functions) → IsSoundButForReaders F []
none_sound F n p e = cc

streams_later : (a b more : Shape) (is : List Stream) (ss : List Fields) → b ≡ a ++ more → AreStreams a is ss → AreStreams b is ss
streams_later a b more [] [] e h = tt
streams_later a b more [] (s ∷ ss) e h = h
streams_later a b more (i ∷ is) [] e h = h
streams_later a b more (i ∷ is) (s ∷ ss) e h = (stream_later a b more i s e h.0, streams_later a b more is ss e h.1)

module _ (F : Functions) where
  -- names that were known
  mutual
    pub known_later : (a b : Names) (t : PlanTree) → Grown a b → KnowsPlan F a t → KnowsPlan F b t
    known_later a b (node at step below) g h = ((λ n q. g.0 n (h.0 n q)), all_known_later a b below g h.1)
    known_later a b missing g h = tt

    pub all_known_later : (a b : Names) (ts : PlanTrees) → Grown a b → KnowPlans F a ts → KnowPlans F b ts
    all_known_later a b no_trees g h = tt
    all_known_later a b (tree t ts) g h = (known_later a b t g h.0, all_known_later a b ts g h.1)

  schema_known : (names : Names) (t : PlanTree) → KnowsPlan F names t → KnowsNames names (tree_schema F t)
  schema_known names (node at step below) h = h.0
  schema_known names missing h = λ n q. cc

  pub schemas_known : (names : Names) (ts : PlanTrees) → KnowPlans F names ts → AllByRecursion (KnowsNames names) (tree_schemas F ts)
  schemas_known names no_trees h = tt
  schemas_known names (tree t ts) h = (schema_known names t h.0, schemas_known names ts h.1)

  -- names only grow
  over_grows : (at : ℕ) (step : Step) (schema : Fields) (below : PlanTrees) (p : Progress) → Grown p.state.names (lower_plans F below p).progress.state.names → Grown p.state.names (stream_over F at step schema (lower_plans F below p)).progress.state.names
  over_grows at step schema below p g = let low = lower_plans F below p in grown_then p.state.names low.progress.state.names (stream_over F at step schema low).progress.state.names g (step_grows at F step schema low.streams low.progress.state)

  node_grows : (at : ℕ) (below : PlanTrees) (schema : Fields) (p : Progress) → Grown p.state.names (lower_plans F below p).progress.state.names → (step : Step) → Grown p.state.names (node_stream F at step schema (first_plan below) (lower_plans F below) p).progress.state.names
  node_grows at below schema p g (cache id) = by (stream_of_cache id p.cached)
    where
      by : (o : Option Stream) → Grown p.state.names (cache_stream o id (first_plan below) (lower_plans F below) p).progress.state.names
      by (Some s) = grown_same p.state.names
      by None = g
  node_grows at below schema p g (scan table columns) = over_grows at (scan table columns) schema below p g
  node_grows at below schema p g (project ns) = over_grows at (project ns) schema below p g
  node_grows at below schema p g (select es) = over_grows at (select es) schema below p g
  node_grows at below schema p g (hstack es) = over_grows at (hstack es) schema below p g
  node_grows at below schema p g (filter e) = over_grows at (filter e) schema below p g
  node_grows at below schema p g (slice offset n) = over_grows at (slice offset n) schema below p g
  node_grows at below schema p g (sink target) = over_grows at (sink target) schema below p g
  node_grows at below schema p g (row_index name offset) = over_grows at (row_index name offset) schema below p g
  node_grows at below schema p g (user n) = over_grows at (user n) schema below p g
  node_grows at below schema p g (sort o) = over_grows at (sort o) schema below p g
  node_grows at below schema p g (union cut) = over_grows at (union cut) schema below p g
  node_grows at below schema p g hconcat = over_grows at hconcat schema below p g
  node_grows at below schema p g (group_by o) = over_grows at (group_by o) schema below p g
  node_grows at below schema p g (join o) = over_grows at (join o) schema below p g
  node_grows at below schema p g (distinct o) = over_grows at (distinct o) schema below p g
  node_grows at below schema p g (left_out what) = over_grows at (left_out what) schema below p g

  mutual
    pub plan_grows : (t : PlanTree) (p : Progress) → Grown p.state.names (lower_plan F t p).progress.state.names
    plan_grows (node at step below) p = node_grows at below (tree_schema F (node at step below)) p (plans_grow below p) step
    plan_grows missing p = grown_same p.state.names

    pub plans_grow : (ts : PlanTrees) (p : Progress) → Grown p.state.names (lower_plans F ts p).progress.state.names
    plans_grow no_trees p = grown_same p.state.names
    plans_grow (tree t ts) p =
        let low = lower_plan F t p in
        grown_then p.state.names low.progress.state.names (lower_plans F ts low.progress).progress.state.names (plan_grows t p) (plans_grow ts low.progress)

  module _ (stored : ℕ → PlanTree) where
    -- the streams of cache ids have the schemas of what is stored for these
    abbrev pub AllCached : Shape → List Cached → Type 0
    AllCached nodes cs = AllByRecursion (λ (c : Cached). IsStream nodes (c.from, 0) (tree_schema F (stored c.id))) cs

    cached_later : (a b more : Shape) (cs : List Cached) → b ≡ a ++ more → AllCached a cs → AllCached b cs
    cached_later a b more [] e h = tt
    cached_later a b more (c ∷ cs) e h = (stream_later a b more (c.from, 0) (tree_schema F (stored c.id)) e h.0, cached_later a b more cs e h.1)

    cached_stream : (nodes : Shape) (id : ℕ) (cs : List Cached) (s : Stream) → AllCached nodes cs → stream_of_cache id cs ≡ Some s → IsStream nodes s (tree_schema F (stored id))
    cached_stream nodes id [] s h e = cc
    cached_stream nodes id (c ∷ cs) s h e = by (c.id == id) refl e (cached_stream nodes id cs s h.1)
      where
        by : (b : Bool) → (c.id == id) ≡ b → cond {A = Option Stream} b (Some (c.from, 0)) (stream_of_cache id cs) ≡ Some s → (stream_of_cache id cs ≡ Some s → IsStream nodes s (tree_schema F (stored id))) → IsStream nodes s (tree_schema F (stored id))
        by true q e rest =
            let is : (c.from, 0) ≡ s = cc in
            let same : c.id ≡ id = eqb-true c.id id q in
            subst (λ (k : ℕ). IsStream nodes s (tree_schema F (stored k))) same (subst (λ (i : Stream). IsStream nodes i (tree_schema F (stored c.id))) is h.0)
        by false q e rest = rest e

    -- what stands is sound
    pub record IsGoodProgress (p : Progress) : Type 0 where
      pub sound : IsSoundButForReaders F p.state.nodes
      pub cached : AllCached p.state.nodes p.cached

    pub record Lowers (p : Progress) (l : LoweredPlan) (out : Fields) : Type 0 where
      pub good : IsGoodProgress l.progress
      pub stream : IsStream l.progress.state.nodes l.stream out
      pub more : Shape
      pub nodes : l.progress.state.nodes ≡ p.state.nodes ++ more

    pub record LowersAll (p : Progress) (l : LoweredPlans) (outs : List Fields) : Type 0 where
      pub good : IsGoodProgress l.progress
      pub streams : AreStreams l.progress.state.nodes l.streams outs
      pub more : Shape
      pub nodes : l.progress.state.nodes ≡ p.state.nodes ++ more

    pub nothing_good : (names : Names) → IsGoodProgress (nothing_yet names)
    nothing_good names = record { sound = none_sound F; cached = tt }

    -- a step over its lowered inputs
    over_lowers : (at : ℕ) (step : Step) (below : PlanTrees) (p : Progress) → IsGoodStep F step (tree_schemas F below) → AllByRecursion (KnowsNames p.state.names) (schema_or_empty F step (tree_schemas F below) ∷ tree_schemas F below)
        → (let low = lower_plans F below p in low.progress.state.names.next ≤ 2 ^ 64 → LowersAll p low (tree_schemas F below))
        → let l = stream_over F at step (schema_or_empty F step (tree_schemas F below)) (lower_plans F below p) in l.progress.state.names.next ≤ 2 ^ 64 → Lowers p l (schema_or_empty F step (tree_schemas F below))
    over_lowers at step below p good known under small =
        let low = lower_plans F below p in
        let ss = tree_schemas F below in
        let out = schema_or_empty F step ss in
        let up = (step_grows at F step out low.streams low.progress.state).1 in
        let l = under (omega arith) in
        let grown = plans_grow below p in
        let m = step_stream at F step out low.streams low.progress.state in
        let k = step_makes F at step ss low.streams low.progress.state good l.good.sound l.streams (all_later p.state.names low.progress.state.names (out ∷ ss) grown known) small in
        record {
          good = record { sound = k.sound; cached = cached_later low.progress.state.nodes m.state.nodes k.more low.progress.cached k.nodes l.good.cached };
          stream = k.stream;
          more = l.more ++ k.more;
          nodes = k.nodes ∙ ap (λ (nodes : Shape). nodes ++ k.more) l.nodes ∙ append_assoc p.state.nodes l.more k.more;
        }
      where
        all_later : (a b : Names) (fs : List Fields) → Grown a b → AllByRecursion (KnowsNames a) fs → AllByRecursion (KnowsNames b) fs
        all_later a b [] g h = tt
        all_later a b (f ∷ fs) g h = ((λ n q. g.0 n (h.0 n q)), all_later a b fs g h.1)

    -- a cache takes the stream of its id, or that of its input from now on
    abbrev CacheOwes : ℕ → Progress → PlanTrees → Type 0
    CacheOwes id p below =
        (let low = lower_plans F below p in low.progress.state.names.next ≤ 2 ^ 64 → LowersAll p low (tree_schemas F below))
        → let l = cache_stream (stream_of_cache id p.cached) id (first_plan below) (lower_plans F below) p in l.progress.state.names.next ≤ 2 ^ 64 → Lowers p l (first_schema (tree_schemas F below))

    cache_one : (id : ℕ) (p : Progress) → IsGoodProgress p → CacheOwes id p (tree (stored id) no_trees)
    cache_one id p g under = by (stream_of_cache id p.cached) refl
      where
        below : PlanTrees
        below = tree (stored id) no_trees

        by : (o : Option Stream) → stream_of_cache id p.cached ≡ o → let l = cache_stream o id (stored id) (lower_plans F (tree (stored id) no_trees)) p in l.progress.state.names.next ≤ 2 ^ 64 → Lowers p l (tree_schema F (stored id))
        by (Some s) e small = record { good = g; stream = cached_stream p.state.nodes id p.cached s g.cached e; more = []; nodes = sym (append-nil p.state.nodes) }
        by None e small =
            let l = under small in
            let first = l.streams.0 in
            record {
              good = record { sound = l.good.sound; cached = (record { node = first.node; there = first.there; schema = first.schema }, l.good.cached) };
              stream = first;
              more = l.more;
              nodes = l.nodes;
            }

    abbrev Owes : ℕ → PlanTrees → Progress → Step → Type 0
    Owes at below p step =
        IsGoodStep F step (tree_schemas F below) → IsStored stored step below → AllByRecursion (KnowsNames p.state.names) (schema_or_empty F step (tree_schemas F below) ∷ tree_schemas F below)
        → (let low = lower_plans F below p in low.progress.state.names.next ≤ 2 ^ 64 → LowersAll p low (tree_schemas F below))
        → let l = node_stream F at step (schema_or_empty F step (tree_schemas F below)) (first_plan below) (lower_plans F below) p in l.progress.state.names.next ≤ 2 ^ 64 → Lowers p l (schema_or_empty F step (tree_schemas F below))

    node_lowers : (at : ℕ) (below : PlanTrees) (p : Progress) → IsGoodProgress p → (step : Step) → Owes at below p step
    node_lowers at below p g (cache id) = λ good is known under. subst (CacheOwes id p) (sym is) (cache_one id p g) under
    node_lowers at below p g (scan table columns) = λ good is known under. over_lowers at (scan table columns) below p good known under
    node_lowers at below p g (project ns) = λ good is known under. over_lowers at (project ns) below p good known under
    node_lowers at below p g (select es) = λ good is known under. over_lowers at (select es) below p good known under
    node_lowers at below p g (hstack es) = λ good is known under. over_lowers at (hstack es) below p good known under
    node_lowers at below p g (filter e) = λ good is known under. over_lowers at (filter e) below p good known under
    node_lowers at below p g (slice offset n) = λ good is known under. over_lowers at (slice offset n) below p good known under
    node_lowers at below p g (sink target) = λ good is known under. over_lowers at (sink target) below p good known under
    node_lowers at below p g (row_index name offset) = λ good is known under. over_lowers at (row_index name offset) below p good known under
    node_lowers at below p g (user n) = λ good is known under. over_lowers at (user n) below p good known under
    node_lowers at below p g (sort o) = λ good is known under. over_lowers at (sort o) below p good known under
    node_lowers at below p g (union cut) = λ good is known under. over_lowers at (union cut) below p good known under
    node_lowers at below p g hconcat = λ good is known under. over_lowers at hconcat below p good known under
    node_lowers at below p g (group_by o) = λ good is known under. over_lowers at (group_by o) below p good known under
    node_lowers at below p g (join o) = λ good is known under. over_lowers at (join o) below p good known under
    node_lowers at below p g (distinct o) = λ good is known under. over_lowers at (distinct o) below p good known under
    node_lowers at below p g (left_out what) = λ good is known under. absurd good.inputs

    mutual
      pub plan_lowers : (t : PlanTree) → StandsOver stored t → IsGoodPlan F t → (p : Progress) → IsGoodProgress p → KnowsPlan F p.state.names t → (lower_plan F t p).progress.state.names.next ≤ 2 ^ 64 → Lowers p (lower_plan F t p) (tree_schema F t)
      plan_lowers (node at step below) stands good p g known small = node_lowers at below p g step good.0 stands.0 (known.0, schemas_known p.state.names below known.1) (λ le. plans_lower below stands.1 good.1 p g known.1 le) small
      plan_lowers missing stands good p g known small = absurd good

      pub plans_lower : (ts : PlanTrees) → HaveStored stored ts → AreGoodPlans F ts → (p : Progress) → IsGoodProgress p → KnowPlans F p.state.names ts → (lower_plans F ts p).progress.state.names.next ≤ 2 ^ 64 → LowersAll p (lower_plans F ts p) (tree_schemas F ts)
      plans_lower no_trees stands good p g known small = record { good = g; streams = tt; more = []; nodes = sym (append-nil p.state.nodes) }
      plans_lower (tree t ts) stands good p g known small =
          let low = lower_plan F t p in
          let after = lower_plans F ts low.progress in
          let up = (plans_grow ts low.progress).1 in
          let grown = plan_grows t p in
          let first = plan_lowers t stands.0 good.0 p g known.0 (omega arith) in
          let others = plans_lower ts stands.1 good.1 low.progress first.good (all_known_later p.state.names low.progress.state.names ts grown known.1) small in
          record {
            good = others.good;
            streams = (stream_later low.progress.state.nodes after.progress.state.nodes others.more low.stream (tree_schema F t) others.nodes first.stream, others.streams);
            more = first.more ++ others.more;
            nodes = others.nodes ∙ ap (λ (nodes : Shape). nodes ++ others.more) first.nodes ∙ append_assoc p.state.nodes first.more others.more;
          }

pub plans_stay_sound : PlansStaySound
plans_stay_sound F stored names t stands good known small = (plan_lowers F stored t stands good (nothing_yet names) (nothing_good F stored names) known small).good.sound
