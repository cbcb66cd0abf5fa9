-- What a lowering has made of a plan, as the rules see it.
use Rattle.std.specs.Prelude.{◌≡◌, ℕ, List, Option, Some, None, option_map}
use Rattle.std.specs.BTreeMap.{BTreeMap, get}
use Rattle.std.specs.Ordering.{nat_cmp}
use Rattle.pu_base.specs.declared.arena.Node.{Node}
use Rattle.ps_frame.specs.Functions.{Functions}
use Rattle.ps_frame.specs.Trees.{Tree}
use Rattle.ps_frame.specs.declared.expr.AExpr.{AExpr}
use Rattle.ps_meaning.specs.PlanTrees.{PlanTree, no_trees, tree}
use Rattle.ps_phys.specs.Shown.{stream_of, streams_of}
use Rattle.ps_phys.specs.declared.phys.PhysStream.{PhysStream}
use Rattle.ps_plan.specs.Lowering.{Cached}
use Rattle.ps_plan.specs.declared.ir.IR.{IR}
use Rattle.ps_plan.specs.declared.ir.IR.TheVariants as entry
use Rattle.plan_rules.specs.Plans.{LoweredPlan, LoweredPlans, Progress, cache_stream, lower_plans, stream_of_cache}
use Rattle.ps_fresh.specs.declared.lowering.Lowering.{Lowering}
use Rattle.lowering_parts.specs.Gathered.{GoesOn, Later, state_of}

-- the input and the id of a cache
abbrev pub cache_in : IR → Option (Node × ℕ)
cache_in (entry.Cache input id hits) = Some (input, id)
cache_in _ = None

-- the streams of cache ids
abbrev pub CacheStreams : Type 0
CacheStreams = BTreeMap ℕ PhysStream

-- each cache id has the stream that was noted for it, if any was
abbrev pub AreNoted : CacheStreams → List Cached → Type 0
AreNoted caches cached = (id : ℕ) → option_map stream_of (get nat_cmp caches id) ≡ stream_of_cache id cached

-- the nodes, the names in use and the streams of cache ids are those to which the rules have come
pub record Shows (f : Node → Tree) (low : Lowering) (caches : CacheStreams) (p : Progress) : Type 0 where
  pub state : state_of f low ≡ p.state
  pub cached : AreNoted caches p.cached

-- and so is the stream of a plan, or those of several
pub record ShowsPlan (f : Node → Tree) (low : Lowering) (caches : CacheStreams) (made : PhysStream) (l : LoweredPlan) : Type 0 where
  pub progress : Shows f low caches l.progress
  pub stream : stream_of made ≡ l.stream

pub record ShowsPlans (f : Node → Tree) (low : Lowering) (caches : CacheStreams) (made : List PhysStream) (l : LoweredPlans) : Type 0 where
  pub progress : Shows f low caches l.progress
  pub streams : streams_of made ≡ l.streams

-- From whatever the rules had come to, a plan is lowered as a rule says; or several are.
pub record LowersAs (rule : Progress → LoweredPlan) (arena arena' : List AExpr) (low low' : Lowering) (caches caches' : CacheStreams) (stream : PhysStream) : Type 0 where
  pub by_rule : Later arena' (λ f. (p : Progress) → Shows f low caches p → ShowsPlan f low' caches' stream (rule p))
  pub goes_on : GoesOn arena arena' low low'

pub record LowerAs (rule : Progress → LoweredPlans) (arena arena' : List AExpr) (low low' : Lowering) (caches caches' : CacheStreams) (made : List PhysStream) : Type 0 where
  pub by_rule : Later arena' (λ f. (p : Progress) → Shows f low caches p → ShowsPlans f low' caches' made (rule p))
  pub goes_on : GoesOn arena arena' low low'

-- a cache over a plan
abbrev pub cache_over : Functions → ℕ → PlanTree → Progress → LoweredPlan
cache_over F id input p = cache_stream (stream_of_cache id p.cached) id input (lower_plans F (tree input no_trees)) p
