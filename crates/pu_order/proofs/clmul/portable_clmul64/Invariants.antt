use Rattle.std.proofs.Common.{◌≡◌, ℕ, ◌+◌, ◌%◌, ◌<◌}
use Rattle.std.specs.Int.{bit_at}
use Rattle.pu_order.specs.Bits.{carryless_bit}
use Rattle.pu_order.proofs.clmul.portable_clmul64.Given as goal

abbrev pub invariant-loop-left : goal.invariant-loop-left
invariant-loop-left l =
    (i : ℕ) → i < 64 → carryless_bit l.fn.x l.fn.y i ≡ (bit_at l.product i + carryless_bit l.shifted l.left i) % 2

abbrev pub decreases-loop-left : goal.decreases-loop-left
decreases-loop-left l = l.left
