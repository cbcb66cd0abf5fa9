use Rattle.std.proofs.lemmas.Result.{IfOk-weaker}
use Rattle.ps_frame.specs.Trees.{tree_at}
use Rattle.ps_groups.proofs.Values.{value-of}
use Rattle.ps_groups.proofs.aggregates.value_of.Goals as goal

pub returns : goal.returns
returns c = IfOk-weaker c.first_value.result _ _ (λ outcome g at. value-of at c.args.df.now (tree_at c.args.arena.now.items c.args.expr) c.in_ok-part.part (c.in_ok-part.ensures.keeps at) outcome g) c.first_value.ensures
