-- What an aggregate of the arena is, and over which expression it goes.
use Rattle.pu_base.specs.declared.arena.Node.{Node}
use Rattle.ps_frame.specs.Trees.{Aggregation}
use Rattle.ps_frame.specs.declared.expr.IRAggExpr.{IRAggExpr}
use Rattle.ps_frame.specs.declared.expr.IRAggExpr.TheVariants as agg

abbrev pub aggregation_of : IRAggExpr → Aggregation
aggregation_of (agg.Min n) = Aggregation.min
aggregation_of (agg.Max n) = Aggregation.max
aggregation_of (agg.First n) = Aggregation.first
aggregation_of (agg.Last n) = Aggregation.last
aggregation_of (agg.Sum n) = Aggregation.sum
aggregation_of (agg.NUnique n) = Aggregation.n_unique
aggregation_of (agg.Count n all) = Aggregation.count all

abbrev pub aggregated : IRAggExpr → Node
aggregated (agg.Min n) = n
aggregated (agg.Max n) = n
aggregated (agg.First n) = n
aggregated (agg.Last n) = n
aggregated (agg.Sum n) = n
aggregated (agg.NUnique n) = n
aggregated (agg.Count n all) = n
