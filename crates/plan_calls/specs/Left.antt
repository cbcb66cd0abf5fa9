-- When a lowering is as calls on a plan have left it.
use Rattle.pu_base.specs.declared.arena.Node.{Node}
use Rattle.plan_calls.specs.Calls.{HasCome}
use Rattle.plan_lowering.specs.Lowered.{CacheStreams, Shows}
use Rattle.plan_rules.specs.Plans.{Progress}
use Rattle.ps_frame.specs.Functions.{Functions}
use Rattle.ps_frame.specs.Trees.{Tree}
use Rattle.ps_fresh.specs.declared.lowering.Lowering.{Lowering}
use Rattle.ps_plan.specs.Plans.{Plan, tree_of}

-- The lowering and the streams of cache ids are as calls on the plan have left them.
pub record AreLeftByCalls (F : Functions) (plan : Plan) (f : Node → Tree) (low : Lowering) (caches : CacheStreams) : Type 0 where
  pub progress : Progress
  pub shows : Shows f low caches progress
  pub come : HasCome F (tree_of plan plan.root.0) progress
