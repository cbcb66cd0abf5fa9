use Rattle.std.proofs.Common.{arith}
use Rattle.std.specs.Int.{w16}
use Rattle.std.proofs.lemmas.Int.{ints}
use Rattle.pu_num.proofs.Rounding.{quot_read, rem_read, Keeps-above, Keeps-below, GoesDown-above, GoesDown-below, kept_quotient, kept_remainder, kept_sign, down_quotient, down_remainder, down_sign}
use Rattle.pu_num.proofs.floor_divmod.I16FloorDivMod.wrapping_floor_div_mod.Goals as goal

pub returns-then-remainder-lt0-clause-quotient : goal.returns-then-remainder-lt0-clause-quotient
returns-then-remainder-lt0-clause-quotient c _ =
    down_quotient w16 c.args.self c.args.other c.ranges.self c.ranges.other c.wrapping_div-quotient.result (quot_read w16 c.args.self c.args.other c.ranges.self c.ranges.other c.wrapping_div-quotient.ensures)
    (GoesDown-above c.args.self c.args.other c.wrapping_rem-remainder.result (rem_read w16 c.args.self c.args.other c.ranges.self c.ranges.other c.wrapping_rem-remainder.ensures) (omega (arith, ints)) (omega (arith, ints)))

pub returns-then-remainder-lt0-clause-remainder : goal.returns-then-remainder-lt0-clause-remainder
returns-then-remainder-lt0-clause-remainder c _ =
    down_remainder w16 c.args.self c.args.other c.ranges.self c.ranges.other c.wrapping_rem-remainder.result (rem_read w16 c.args.self c.args.other c.ranges.self c.ranges.other c.wrapping_rem-remainder.ensures)
    (GoesDown-above c.args.self c.args.other c.wrapping_rem-remainder.result (rem_read w16 c.args.self c.args.other c.ranges.self c.ranges.other c.wrapping_rem-remainder.ensures) (omega (arith, ints)) (omega (arith, ints)))

pub returns-then-remainder-lt0-clause-sign : goal.returns-then-remainder-lt0-clause-sign
returns-then-remainder-lt0-clause-sign c _ =
    down_sign w16 c.args.self c.args.other c.ranges.self c.ranges.other c.wrapping_rem-remainder.result (rem_read w16 c.args.self c.args.other c.ranges.self c.ranges.other c.wrapping_rem-remainder.ensures)
    (GoesDown-above c.args.self c.args.other c.wrapping_rem-remainder.result (rem_read w16 c.args.self c.args.other c.ranges.self c.ranges.other c.wrapping_rem-remainder.ensures) (omega (arith, ints)) (omega (arith, ints)))

pub returns-then-other-gt0-clause-quotient : goal.returns-then-other-gt0-clause-quotient
returns-then-other-gt0-clause-quotient c _ =
    kept_quotient w16 c.args.self c.args.other c.ranges.self c.ranges.other c.wrapping_div-quotient.result (quot_read w16 c.args.self c.args.other c.ranges.self c.ranges.other c.wrapping_div-quotient.ensures)
    (Keeps-above c.args.self c.args.other c.wrapping_rem-remainder.result (rem_read w16 c.args.self c.args.other c.ranges.self c.ranges.other c.wrapping_rem-remainder.ensures) (omega (arith, ints)) (omega (arith, ints)))

pub returns-then-other-gt0-clause-remainder : goal.returns-then-other-gt0-clause-remainder
returns-then-other-gt0-clause-remainder c _ =
    kept_remainder w16 c.args.self c.args.other c.ranges.self c.ranges.other c.wrapping_rem-remainder.result (rem_read w16 c.args.self c.args.other c.ranges.self c.ranges.other c.wrapping_rem-remainder.ensures)
    (Keeps-above c.args.self c.args.other c.wrapping_rem-remainder.result (rem_read w16 c.args.self c.args.other c.ranges.self c.ranges.other c.wrapping_rem-remainder.ensures) (omega (arith, ints)) (omega (arith, ints)))

pub returns-then-other-gt0-clause-sign : goal.returns-then-other-gt0-clause-sign
returns-then-other-gt0-clause-sign c _ =
    kept_sign w16 c.args.self c.args.other c.ranges.self c.ranges.other c.wrapping_rem-remainder.result (rem_read w16 c.args.self c.args.other c.ranges.self c.ranges.other c.wrapping_rem-remainder.ensures)
    (Keeps-above c.args.self c.args.other c.wrapping_rem-remainder.result (rem_read w16 c.args.self c.args.other c.ranges.self c.ranges.other c.wrapping_rem-remainder.ensures) (omega (arith, ints)) (omega (arith, ints)))

pub returns-then-remainder-gt0-clause-quotient : goal.returns-then-remainder-gt0-clause-quotient
returns-then-remainder-gt0-clause-quotient c _ =
    down_quotient w16 c.args.self c.args.other c.ranges.self c.ranges.other c.wrapping_div-quotient.result (quot_read w16 c.args.self c.args.other c.ranges.self c.ranges.other c.wrapping_div-quotient.ensures)
    (GoesDown-below c.args.self c.args.other c.wrapping_rem-remainder.result (rem_read w16 c.args.self c.args.other c.ranges.self c.ranges.other c.wrapping_rem-remainder.ensures) (omega (arith, ints)) (omega (arith, ints)))

pub returns-then-remainder-gt0-clause-remainder : goal.returns-then-remainder-gt0-clause-remainder
returns-then-remainder-gt0-clause-remainder c _ =
    down_remainder w16 c.args.self c.args.other c.ranges.self c.ranges.other c.wrapping_rem-remainder.result (rem_read w16 c.args.self c.args.other c.ranges.self c.ranges.other c.wrapping_rem-remainder.ensures)
    (GoesDown-below c.args.self c.args.other c.wrapping_rem-remainder.result (rem_read w16 c.args.self c.args.other c.ranges.self c.ranges.other c.wrapping_rem-remainder.ensures) (omega (arith, ints)) (omega (arith, ints)))

pub returns-then-remainder-gt0-clause-sign : goal.returns-then-remainder-gt0-clause-sign
returns-then-remainder-gt0-clause-sign c _ =
    down_sign w16 c.args.self c.args.other c.ranges.self c.ranges.other c.wrapping_rem-remainder.result (rem_read w16 c.args.self c.args.other c.ranges.self c.ranges.other c.wrapping_rem-remainder.ensures)
    (GoesDown-below c.args.self c.args.other c.wrapping_rem-remainder.result (rem_read w16 c.args.self c.args.other c.ranges.self c.ranges.other c.wrapping_rem-remainder.ensures) (omega (arith, ints)) (omega (arith, ints)))

pub returns-clause-quotient : goal.returns-clause-quotient
returns-clause-quotient c _ =
    kept_quotient w16 c.args.self c.args.other c.ranges.self c.ranges.other c.wrapping_div-quotient.result (quot_read w16 c.args.self c.args.other c.ranges.self c.ranges.other c.wrapping_div-quotient.ensures)
    (Keeps-below c.args.self c.args.other c.wrapping_rem-remainder.result (rem_read w16 c.args.self c.args.other c.ranges.self c.ranges.other c.wrapping_rem-remainder.ensures) (omega (arith, ints)) (omega (arith, ints)))

pub returns-clause-remainder : goal.returns-clause-remainder
returns-clause-remainder c _ =
    kept_remainder w16 c.args.self c.args.other c.ranges.self c.ranges.other c.wrapping_rem-remainder.result (rem_read w16 c.args.self c.args.other c.ranges.self c.ranges.other c.wrapping_rem-remainder.ensures)
    (Keeps-below c.args.self c.args.other c.wrapping_rem-remainder.result (rem_read w16 c.args.self c.args.other c.ranges.self c.ranges.other c.wrapping_rem-remainder.ensures) (omega (arith, ints)) (omega (arith, ints)))

pub returns-clause-sign : goal.returns-clause-sign
returns-clause-sign c _ =
    kept_sign w16 c.args.self c.args.other c.ranges.self c.ranges.other c.wrapping_rem-remainder.result (rem_read w16 c.args.self c.args.other c.ranges.self c.ranges.other c.wrapping_rem-remainder.ensures)
    (Keeps-below c.args.self c.args.other c.wrapping_rem-remainder.result (rem_read w16 c.args.self c.args.other c.ranges.self c.ranges.other c.wrapping_rem-remainder.ensures) (omega (arith, ints)) (omega (arith, ints)))
