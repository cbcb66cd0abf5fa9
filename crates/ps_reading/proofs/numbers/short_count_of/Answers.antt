use Rattle.std.proofs.Common.{◌<◌, ◌^◌, arith, length, length-take, rules}
use Rattle.std.proofs.lemmas.Bool.Decides.{nat_tests}
use Rattle.ps_reading.proofs.Digits.{digits-more, digits-some, digits-short}
use Rattle.ps_reading.proofs.numbers.short_count_of.Goals as goal

pub overflow_mul-number : goal.overflow_mul-number
overflow_mul-number c =
    let i = c.loop-byte.invariant in
    let small : c.loop-byte.number < 10 ^ 17 = digits-short c.args.bytes.now c.loop-byte.byte-index c.loop-byte.number 17 i.0 i.1 (omega (arith, length-take c.loop-byte.byte-index c.args.bytes.now)) in
    search (rules, arith)

pub overflow_add-number : goal.overflow_add-number
overflow_add-number c =
    let i = c.loop-byte.invariant in
    let small : c.loop-byte.number < 10 ^ 17 = digits-short c.args.bytes.now c.loop-byte.byte-index c.loop-byte.number 17 i.0 i.1 (omega (arith, length-take c.loop-byte.byte-index c.args.bytes.now)) in
    search (rules, arith)

pub loop-byte-preserved : goal.loop-byte-preserved
loop-byte-preserved c =
    let i = c.loop-byte.invariant in
    digits-more c.args.bytes.now c.loop-byte.byte-index c.loop-byte.number c.from.result (omega arith) i.0 i.1 (rw c.if-not-is_ascii_digit.false at c.is_ascii_digit.ensures.bound) c.from.ensures

pub returns-clause-some : goal.returns-clause-some
returns-clause-some c =
    let i = c.loop-byte.invariant in
    let some : 0 < length c.args.bytes.now = grind (arith, nat_tests) in
    digits-some c.args.bytes.now c.loop-byte.byte-index c.loop-byte.number some (omega arith) (omega arith) i.0 i.1

pub returns-clause-small : goal.returns-clause-small
returns-clause-small c =
    let i = c.loop-byte.invariant in
    digits-short c.args.bytes.now c.loop-byte.byte-index c.loop-byte.number 18 i.0 i.1 (omega (arith, length-take c.loop-byte.byte-index c.args.bytes.now))
