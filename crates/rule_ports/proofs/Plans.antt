-- Lowered plans keep nodes plain, and a sink above is the only one.
use Rattle.std.proofs.Common.{◌≡◌, ℕ, ◌<◌, ◌≤◌, Bool, true, false, List, [], ◌∷◌, length, Option, Some, None, refl, subst, arith}
use Rattle.std.proofs.lemmas.Option.{slice_get_within}
use Rattle.std.proofs.lemmas.List.{length-append}
use Rattle.std.specs.Prelude.{if◌then◌else◌, ◌==◌, ◌↔◌}
use Rattle.std.specs.List.{AllByRecursion}
use Rattle.ps_frame.specs.Functions.{Functions}
use Rattle.ps_frame.specs.Tables.{Fields}
use Rattle.ps_meaning.specs.PlanTrees.{PlanTree, PlanTrees, missing, no_trees, node, tree}
use Rattle.ps_meaning.specs.Schemas.{tree_schema}
use Rattle.ps_meaning.specs.Shape.{PhysicalNode, Shape, in_memory_sink}
use Rattle.ps_meaning.specs.Sound.{EachNode}
use Rattle.ps_meaning.specs.StepRefusals.{IsSinkStep}
use Rattle.ps_meaning.specs.Steps.{Step, cache, distinct, filter, group_by, hconcat, hstack, join, left_out, project, row_index, scan, select, sink, slice, sort, union, user}
use Rattle.ps_plan.specs.Lowering.{Cached}
use Rattle.ps_rules.specs.Names.{Names}
use Rattle.ps_rules.specs.Slots.{Stream, schema_at}
use Rattle.plan_rules.specs.Nodes.{first_stream, second_stream, step_stream}
use Rattle.plan_rules.specs.Plans.{LoweredPlan, LoweredPlans, Progress, cache_stream, first_plan, lower_plan, lower_plans, lowering_of, node_stream, nothing_yet, stream_of_cache, stream_over}
use Rattle.multiplexer_laws.specs.Shared.{IsOnlySink, ReadFirstPortsBefore}
use Rattle.rule_ports.specs.Fed.{AreFedPlans, HasFirst, HasNoSink, HasSecond, HaveNoSinks, IsFed, IsFedPlan, IsSunk}
use Rattle.rule_ports.proofs.Plain.{AllFirst, ArePlain, IsFirst, ReadsFirst, at_end, first_stays, no_nodes}
use Rattle.rule_ports.proofs.Steps.{step_makes}

-- the streams of cache ids are those of nodes that are there
abbrev AllThere : Shape → List Cached → Type 0
AllThere nodes cs = AllByRecursion (λ (c : Cached). c.from < length nodes) cs

there_stays : (a b : Shape) (cs : List Cached) → length a ≤ length b → AllThere a cs → AllThere b cs
there_stays a b [] l h = tt
there_stays a b (c ∷ cs) l h = (let k = h.0 in omega (arith, k, l), there_stays a b cs l h.1)

cached_first : (nodes : Shape) (id : ℕ) (cs : List Cached) (s : Stream) → AllThere nodes cs → stream_of_cache id cs ≡ Some s → IsFirst nodes s
cached_first nodes id [] s h e = cc
cached_first nodes id (c ∷ cs) s h e = by (c.id == id) e (cached_first nodes id cs s h.1)
  where
    by : (b : Bool) → (if b then Some (c.from, 0) else stream_of_cache id cs) ≡ Some s → (stream_of_cache id cs ≡ Some s → IsFirst nodes s) → IsFirst nodes s
    by true e rest = let is : (c.from, 0) ≡ s = cc in subst (IsFirst nodes) is (h.0, refl)
    by false e rest = rest e

-- what stands is plain
record IsGoodProgress (p : Progress) : Type 0 where
  plain : ArePlain p.state.nodes
  cached : AllThere p.state.nodes p.cached

record Lowers (p : Progress) (l : LoweredPlan) : Type 0 where
  good : IsGoodProgress l.progress
  stream : IsFirst l.progress.state.nodes l.stream
  more : length p.state.nodes ≤ length l.progress.state.nodes

record LowersAll (p : Progress) (l : LoweredPlans) : Type 0 where
  good : IsGoodProgress l.progress
  streams : AllFirst l.progress.state.nodes l.streams
  more : length p.state.nodes ≤ length l.progress.state.nodes

module _ (F : Functions) where
  -- the streams of inputs that are there
  one_of : (below : PlanTrees) (p : Progress) → AllFirst (lower_plans F below p).progress.state.nodes (lower_plans F below p).streams → HasFirst below → IsFirst (lower_plans F below p).progress.state.nodes (first_stream (lower_plans F below p).streams)
  one_of no_trees p all h = absurd h
  one_of (tree t ts) p all h = all.0

  two_of : (below : PlanTrees) (p : Progress) → AllFirst (lower_plans F below p).progress.state.nodes (lower_plans F below p).streams → HasSecond below → IsFirst (lower_plans F below p).progress.state.nodes (second_stream (lower_plans F below p).streams)
  two_of no_trees p all h = absurd h
  two_of (tree t no_trees) p all h = absurd h
  two_of (tree t (tree u us)) p all h = all.1.0

  -- a step over its lowered inputs
  over_lowers : (at : ℕ) (step : Step) (schema : Fields) (below : PlanTrees) (p : Progress) → IsFed step below → (IsSinkStep step → ⊥) → LowersAll p (lower_plans F below p) → Lowers p (stream_over F at step schema (lower_plans F below p))
  over_lowers at step schema below p fed no_sink l =
      let low = lower_plans F below p in
      let k = step_makes at F schema low.streams low.progress.state l.good.plain l.streams below (one_of below p l.streams) (two_of below p l.streams) step fed no_sink in
      let a = l.more in
      let b = k.more in
      record {
        good = record { plain = k.plain; cached = there_stays low.progress.state.nodes (step_stream at F step schema low.streams low.progress.state).state.nodes low.progress.cached k.more l.good.cached };
        stream = k.stream;
        more = omega (arith, a, b);
      }

  -- a cache takes the stream of its id, or that of its input from now on
  cache_lowers : (id : ℕ) (below : PlanTrees) (p : Progress) → IsGoodProgress p → HasFirst below → LowersAll p (lower_plans F below p) → Lowers p (cache_stream (stream_of_cache id p.cached) id (first_plan below) (lower_plans F below) p)
  cache_lowers id below p g fed l = by (stream_of_cache id p.cached) refl
    where
      by : (o : Option Stream) → stream_of_cache id p.cached ≡ o → Lowers p (cache_stream o id (first_plan below) (lower_plans F below) p)
      by (Some s) e = record { good = g; stream = cached_first p.state.nodes id p.cached s g.cached e; more = omega arith }
      by None e = let first = one_of below p l.streams fed in record { good = record { plain = l.good.plain; cached = (first.0, l.good.cached) }; stream = first; more = l.more }

  abbrev Goal : ℕ → PlanTrees → Fields → Progress → Step → Type 0
  Goal at below schema p step = IsFed step below → (IsSinkStep step → ⊥) → Lowers p (node_stream F at step schema (first_plan below) (lower_plans F below) p)

  node_lowers : (at : ℕ) (below : PlanTrees) (schema : Fields) (p : Progress) → IsGoodProgress p → LowersAll p (lower_plans F below p) → (step : Step) → Goal at below schema p step
  node_lowers at below schema p g l (cache id) = λ fed no_sink. cache_lowers id below p g fed l
  node_lowers at below schema p g l (scan table columns) = λ fed no_sink. over_lowers at (scan table columns) schema below p fed no_sink l
  node_lowers at below schema p g l (project names) = λ fed no_sink. over_lowers at (project names) schema below p fed no_sink l
  node_lowers at below schema p g l (select es) = λ fed no_sink. over_lowers at (select es) schema below p fed no_sink l
  node_lowers at below schema p g l (hstack es) = λ fed no_sink. over_lowers at (hstack es) schema below p fed no_sink l
  node_lowers at below schema p g l (filter e) = λ fed no_sink. over_lowers at (filter e) schema below p fed no_sink l
  node_lowers at below schema p g l (slice offset n) = λ fed no_sink. over_lowers at (slice offset n) schema below p fed no_sink l
  node_lowers at below schema p g l (sink target) = λ fed no_sink. over_lowers at (sink target) schema below p fed no_sink l
  node_lowers at below schema p g l (row_index name offset) = λ fed no_sink. over_lowers at (row_index name offset) schema below p fed no_sink l
  node_lowers at below schema p g l (user n) = λ fed no_sink. over_lowers at (user n) schema below p fed no_sink l
  node_lowers at below schema p g l (sort o) = λ fed no_sink. over_lowers at (sort o) schema below p fed no_sink l
  node_lowers at below schema p g l (union cut) = λ fed no_sink. over_lowers at (union cut) schema below p fed no_sink l
  node_lowers at below schema p g l hconcat = λ fed no_sink. over_lowers at hconcat schema below p fed no_sink l
  node_lowers at below schema p g l (group_by o) = λ fed no_sink. over_lowers at (group_by o) schema below p fed no_sink l
  node_lowers at below schema p g l (join o) = λ fed no_sink. over_lowers at (join o) schema below p fed no_sink l
  node_lowers at below schema p g l (distinct o) = λ fed no_sink. over_lowers at (distinct o) schema below p fed no_sink l
  node_lowers at below schema p g l (left_out what) = λ fed no_sink. over_lowers at (left_out what) schema below p fed no_sink l

  mutual
    plan_lowers : (t : PlanTree) → IsFedPlan t → HasNoSink t → (p : Progress) → IsGoodProgress p → Lowers p (lower_plan F t p)
    plan_lowers (node at step below) fed no_sink p g = node_lowers at below (tree_schema F (node at step below)) p g (plans_lower below fed.1 no_sink.1 p g) step fed.0 no_sink.0
    plan_lowers missing fed no_sink p g = absurd fed

    plans_lower : (ts : PlanTrees) → AreFedPlans ts → HaveNoSinks ts → (p : Progress) → IsGoodProgress p → LowersAll p (lower_plans F ts p)
    plans_lower no_trees fed no_sink p g = record { good = g; streams = tt; more = omega arith }
    plans_lower (tree t ts) fed no_sink p g =
        let first = plan_lowers t fed.0 no_sink.0 p g in
        let low = lower_plan F t p in
        let others = plans_lower ts fed.1 no_sink.1 low.progress first.good in
        let after = lower_plans F ts low.progress in
        let a = first.more in
        let b = others.more in
        record { good = others.good; streams = (first_stays low.progress.state.nodes after.progress.state.nodes low.stream others.more first.stream, others.streams); more = omega (arith, a, b) }

  -- a sink above
  module _ (names : Names) where
    record IsSinkAbove (l : LoweredPlan) : Type 0 where
      there : l.stream.0 < length l.progress.state.nodes
      reads : ReadFirstPortsBefore l.progress.state.nodes
      sink : IsOnlySink l.stream.0 l.progress.state.nodes

    plain_reads : (nodes : Shape) → ArePlain nodes → EachNode nodes (λ n p. ReadsFirst n p)
    plain_reads nodes plain n p e = (plain n p e).0

    none_sinks : (nodes : Shape) → ArePlain nodes → EachNode nodes (λ n p. (p.kind ≡ in_memory_sink) ↔ (n ≡ length nodes))
    none_sinks nodes plain n p e = (
      λ is. absurd ((plain n p e).1 is),
      λ is. (let l = slice_get_within nodes n p e in absurd (omega (arith, l, is))),
    )

    sunk_step : (at : ℕ) (below : PlanTrees) (schema : Fields) (step : Step) → IsSinkStep step → IsFed step below → LowersAll (nothing_yet names) (lower_plans F below (nothing_yet names)) → IsSinkAbove (node_stream F at step schema (first_plan below) (lower_plans F below) (nothing_yet names))
    sunk_step at below schema (sink target) is fed l =
        let low = lower_plans F below (nothing_yet names) in
        let nodes = low.progress.state.nodes in
        let input = first_stream low.streams in
        let first = one_of below (nothing_yet names) l.streams fed in
        let q : PhysicalNode = record { kind = in_memory_sink; schema = schema_at nodes input; origin = at; inputs = input ∷ [] } in
        let long = length-append nodes (q ∷ []) in
        record {
          there = omega (arith, long);
          reads = at_end (λ n p. ReadsFirst n p) nodes q (plain_reads nodes l.good.plain) (first, tt);
          sink = at_end (λ n p. (p.kind ≡ in_memory_sink) ↔ (n ≡ length nodes)) nodes q (none_sinks nodes l.good.plain) (λ e. refl, λ e. refl);
        }
    sunk_step at below schema (scan table columns) is fed l = absurd is
    sunk_step at below schema (project names') is fed l = absurd is
    sunk_step at below schema (select es) is fed l = absurd is
    sunk_step at below schema (hstack es) is fed l = absurd is
    sunk_step at below schema (filter e) is fed l = absurd is
    sunk_step at below schema (slice offset n) is fed l = absurd is
    sunk_step at below schema (row_index name offset) is fed l = absurd is
    sunk_step at below schema (user n) is fed l = absurd is
    sunk_step at below schema (sort o) is fed l = absurd is
    sunk_step at below schema (union cut) is fed l = absurd is
    sunk_step at below schema hconcat is fed l = absurd is
    sunk_step at below schema (cache id) is fed l = absurd is
    sunk_step at below schema (group_by o) is fed l = absurd is
    sunk_step at below schema (join o) is fed l = absurd is
    sunk_step at below schema (distinct o) is fed l = absurd is
    sunk_step at below schema (left_out what) is fed l = absurd is

    sunk_plan : (t : PlanTree) → IsFedPlan t → IsSunk t → IsSinkAbove (lowering_of F names t)
    sunk_plan (node at step below) fed sunk =
        let nothing : IsGoodProgress (nothing_yet names) = record { plain = no_nodes; cached = tt } in
        sunk_step at below (tree_schema F (node at step below)) step sunk.0 fed.0 (plans_lower below fed.1 sunk.1 (nothing_yet names) nothing)
    sunk_plan missing fed sunk = absurd fed

    pub sunk_there : (t : PlanTree) → IsFedPlan t → IsSunk t → let l = lowering_of F names t in l.stream.0 < length l.progress.state.nodes
    sunk_there t fed sunk = (sunk_plan t fed sunk).there

    pub sunk_reads : (t : PlanTree) → IsFedPlan t → IsSunk t → ReadFirstPortsBefore (lowering_of F names t).progress.state.nodes
    sunk_reads t fed sunk = (sunk_plan t fed sunk).reads

    pub sunk_sink : (t : PlanTree) → IsFedPlan t → IsSunk t → let l = lowering_of F names t in IsOnlySink l.stream.0 l.progress.state.nodes
    sunk_sink t fed sunk = (sunk_plan t fed sunk).sink
