use Rattle.std.proofs.Common.{FitsSigned, rules}
use Rattle.std.specs.Int.{w64}
use Rattle.ps_compute.proofs.Numbers.{remainder-is}
use Rattle.ps_compute.proofs.operators.int64_remainder.Goals as goal

pub returns : goal.returns
returns c =
    let fits : FitsSigned w64 c.wrapping_floor_div_mod.result.1 = search rules in
    remainder-is c.args.a c.args.b c.wrapping_floor_div_mod.result.1 c.ranges.a c.ranges.b fits c.requires c.wrapping_floor_div_mod.ensures.remainder
