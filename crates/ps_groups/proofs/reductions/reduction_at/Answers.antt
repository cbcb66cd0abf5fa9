use Rattle.std.proofs.Common.{subst, sym}
use Rattle.ps_expr_eval.specs.Wholes.{aggregation_of}
use Rattle.ps_groups.specs.Reductions.{ReducesColumn}
use Rattle.ps_groups.specs.declared.reductions.Reduction.TheVariants as reduction
use Rattle.ps_groups.specs.declared.statistics.Statistic.TheVariants as statistic
use Rattle.ps_groups.proofs.Reducing.{distinct-told, first-told, greatest-told, last-told, least-told, sum-reduces}
use Rattle.ps_groups.proofs.reductions.reduction_at.Goals as goal

pub returns-in-Sum-clause-reduces : goal.returns-in-Sum-clause-reduces
returns-in-Sum-clause-reduces c = subst (λ a. ReducesColumn (aggregation_of a) c.args.place (reduction.Sum c.args.place)) (sym c.in-Sum.is) (sum-reduces c.args.place)

pub returns-in-Min-clause-reduces : goal.returns-in-Min-clause-reduces
returns-in-Min-clause-reduces c = subst (λ a. ReducesColumn (aggregation_of a) c.args.place (reduction.Told statistic.Least c.args.place)) (sym c.in-Min.is) (least-told c.args.place)

pub returns-in-Max-clause-reduces : goal.returns-in-Max-clause-reduces
returns-in-Max-clause-reduces c = subst (λ a. ReducesColumn (aggregation_of a) c.args.place (reduction.Told statistic.Greatest c.args.place)) (sym c.in-Max.is) (greatest-told c.args.place)

pub returns-in-First-clause-reduces : goal.returns-in-First-clause-reduces
returns-in-First-clause-reduces c = subst (λ a. ReducesColumn (aggregation_of a) c.args.place (reduction.Told statistic.First c.args.place)) (sym c.in-First.is) (first-told c.args.place)

pub returns-in-Last-clause-reduces : goal.returns-in-Last-clause-reduces
returns-in-Last-clause-reduces c = subst (λ a. ReducesColumn (aggregation_of a) c.args.place (reduction.Told statistic.Last c.args.place)) (sym c.in-Last.is) (last-told c.args.place)

pub returns-in-NUnique-clause-reduces : goal.returns-in-NUnique-clause-reduces
returns-in-NUnique-clause-reduces c = subst (λ a. ReducesColumn (aggregation_of a) c.args.place (reduction.Told statistic.Distinct c.args.place)) (sym c.in-NUnique.is) (distinct-told c.args.place)
