use Rattle.ps_compute.proofs.Numbers.{quotient-is}
use Rattle.ps_compute.proofs.operators.int64_quotient.Goals as goal

pub returns : goal.returns
returns c =
    quotient-is c.args.a c.args.b c.wrapping_floor_div_mod.result.0 c.ranges.a c.ranges.b c.requires c.wrapping_floor_div_mod.ensures.quotient
