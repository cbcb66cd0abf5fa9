use Rattle.std.proofs.Common.{subst, sym}
use Rattle.ps_frame.specs.Trees.{Aggregation}
use Rattle.ps_groups.specs.Reductions.{ReducesColumn}
use Rattle.ps_groups.specs.declared.reductions.Reduction.TheVariants as reduction
use Rattle.ps_groups.proofs.Reducing.{rows-reduce, values-reduce}
use Rattle.ps_groups.proofs.reductions.count_at.Goals as goal

pub returns-then-all-clause-reduces : goal.returns-then-all-clause-reduces
returns-then-all-clause-reduces c = subst (λ all. ReducesColumn (Aggregation.count all) c.args.place reduction.Len) (sym c.if-all.true) (rows-reduce c.args.place)

pub returns-else-all-clause-reduces : goal.returns-else-all-clause-reduces
returns-else-all-clause-reduces c = subst (λ all. ReducesColumn (Aggregation.count all) c.args.place (reduction.Count c.args.place)) (sym c.if-all.false) (values-reduce c.args.place)
