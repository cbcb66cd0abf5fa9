use Rattle.ps_compute.proofs.Aggregation.{idx-is}
use Rattle.ps_compute.proofs.aggregates.sum_of_kind.Goals as goal

pub returns-in-Boolean : goal.returns-in-Boolean
returns-in-Boolean c = λ vs is. idx-is c.args.dtype vs c.args.sum.now c.low_bits.result c.in-Boolean.is is c.low_bits.ensures
