use Rattle.std.proofs.Common.{sym, arith, bit_or}
use Rattle.std.proofs.lemmas.Nat.Bits.{bit_at_lowest, bit_at_or, bit_at-lt}
use Rattle.pu_order.proofs.partitioner.HashPartitioner.new.Goals as goal

pub returns-clause-odd : goal.returns-clause-odd
returns-clause-odd c =
    let r = c.folded_multiply-seed-2.result in
    omega (arith, sym (bit_at_lowest (bit_or r 1)), bit_at_or r 1 0, bit_at-lt r 0)
