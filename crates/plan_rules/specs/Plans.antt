-- A plan, node by node: inputs first, in order. A node that has two readers is lowered for each of them, unless it is below a cache: each cache id has one stream, that which was made first.
use Rattle.std.specs.Prelude.{ℕ, ◌==◌, List, [], ◌∷◌, Option, Some, None, if◌then◌else◌}
use Rattle.ps_frame.specs.Functions.{Functions}
use Rattle.ps_frame.specs.Tables.{Fields}
use Rattle.ps_meaning.specs.PlanTrees.{PlanTree, PlanTrees, missing, no_trees, node, tree}
use Rattle.ps_meaning.specs.Schemas.{tree_schema}
use Rattle.ps_meaning.specs.Steps.{Step, cache}
use Rattle.ps_plan.specs.Lowering.{Cached}
use Rattle.ps_rules.specs.Names.{Names}
use Rattle.ps_rules.specs.Slots.{State, Stream}
use Rattle.plan_rules.specs.Nodes.{first_stream, step_stream}

-- what stands so far, and the streams that cache ids have
pub record Progress : Type 0 where
  pub state : State
  pub cached : List Cached

pub record LoweredPlan : Type 0 where
  pub progress : Progress
  pub stream : Stream

pub record LoweredPlans : Type 0 where
  pub progress : Progress
  pub streams : List Stream

-- the stream that a cache id has, if any: until multiplexers come, each node has one port
abbrev pub stream_of_cache : ℕ → List Cached → Option Stream
stream_of_cache id [] = None
stream_of_cache id (c ∷ cs) = if c.id == id then Some (c.from, 0) else stream_of_cache id cs

abbrev pub first_plan : PlanTrees → PlanTree
first_plan no_trees = missing
first_plan (tree t ts) = t

-- a cache id has the stream of its input from now on
abbrev pub now_cached : ℕ → PlanTree → LoweredPlans → LoweredPlan
now_cached id input below =
    record {
      progress = record { state = below.progress.state; cached = record { id = id; input = input; from = (first_stream below.streams).0 } ∷ below.progress.cached };
      stream = first_stream below.streams;
    }

-- the stream that a cache id has, or else that of its input, which is lowered now
abbrev pub cache_stream : Option Stream → ℕ → PlanTree → (Progress → LoweredPlans) → Progress → LoweredPlan
cache_stream (Some stream) id input lower p = record { progress = p; stream = stream }
cache_stream None id input lower p = now_cached id input (lower p)

-- the stream of a step once its inputs are lowered
abbrev pub stream_over : Functions → ℕ → Step → Fields → LoweredPlans → LoweredPlan
stream_over F at step schema below =
    let m = step_stream at F step schema below.streams below.progress.state in
    record { progress = record { state = m.state; cached = below.progress.cached }; stream = m.stream }

abbrev pub node_stream : Functions → ℕ → Step → Fields → PlanTree → (Progress → LoweredPlans) → Progress → LoweredPlan
node_stream F at (cache id) schema input lower p = cache_stream (stream_of_cache id p.cached) id input lower p
node_stream F at step schema input lower p = stream_over F at step schema (lower p)

abbrev mutual
  pub lower_plan : Functions → PlanTree → Progress → LoweredPlan
  lower_plan F (node at step below) = node_stream F at step (tree_schema F (node at step below)) (first_plan below) (lower_plans F below)
  lower_plan F missing = λ p. record { progress = p; stream = (0, 0) }

  pub lower_plans : Functions → PlanTrees → Progress → LoweredPlans
  lower_plans F no_trees = λ p. record { progress = p; streams = [] }
  lower_plans F (tree t ts) =
      λ p.
      let first = lower_plan F t p in
      let others = lower_plans F ts first.progress in
      record { progress = others.progress; streams = first.stream ∷ others.streams }

-- nothing is lowered yet, and these names are in use
abbrev pub nothing_yet : Names → Progress
nothing_yet names = record { state = record { nodes = []; names = names }; cached = [] }

-- the nodes that a plan is lowered to, before those that several nodes read get a multiplexer; they feed the stream of the plan's root
abbrev pub lowering_of : Functions → Names → PlanTree → LoweredPlan
lowering_of F names t = lower_plan F t (nothing_yet names)
