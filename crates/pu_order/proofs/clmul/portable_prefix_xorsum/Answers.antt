use Rattle.std.proofs.Common.{◌∙◌}
use Rattle.pu_order.proofs.Carryless.{xor_below-shl}
use Rattle.pu_order.proofs.clmul.portable_prefix_xorsum.Goals as goal

pub returns : goal.returns
returns c i h = c.portable_prefix_xorsum_inclusive.ensures i h ∙ xor_below-shl c.args.x i h
