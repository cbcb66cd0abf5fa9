use Rattle.std.proofs.Common.{◌≡◌, ◌*◌, bit_and, arith, ap, ◌∙◌}
use Rattle.std.specs.Int.{bit_at}
use Rattle.std.proofs.lemmas.Nat.Bits.{and_pow, bit_at-lt}
use Rattle.pu_order.specs.Bits.{carryless_bit}
use Rattle.pu_order.proofs.Carryless.{turn_taken, turn_left, carryless_bit-zero}
use Rattle.pu_order.proofs.clmul.portable_clmul64.Goals as goal
use Rattle.pu_order.proofs.clmul.portable_clmul64.Goals.{then-left-eq1, else-left-eq1}

pub loop-left-preserved : goal.loop-left-preserved
loop-left-preserved c i h =
    let x = c.loop-left.shifted in
    let y = c.loop-left.left in
    let p = c.loop-left.product in
    let lowest : bit_and y 1 ≡ bit_at y 0 * 1 = and_pow y 0 in
    elim c.if-left-eq1.branch [
      | then-left-eq1 w ↦
          let odd : bit_at y 0 ≡ 1 = omega (arith, lowest) in
          rw w.product-is (turn_taken x y p i (carryless_bit c.args.x c.args.y i) h odd (c.loop-left.invariant i h))
      | else-left-eq1 w ↦
          let even : bit_at y 0 ≡ 0 = omega (arith, lowest, bit_at-lt y 0) in
          rw w.product-is (turn_left x y p i (carryless_bit c.args.x c.args.y i) h even (c.loop-left.invariant i h))
    ]

pub returns : goal.returns
returns c i h =
    let end : carryless_bit c.loop-left.shifted c.loop-left.left i ≡ 0 =
    ap (λ k. carryless_bit c.loop-left.shifted k i) c.loop-left-test.false ∙ carryless_bit-zero c.loop-left.shifted i in
    omega (arith, c.loop-left.invariant i h, bit_at-lt c.loop-left.product i)
