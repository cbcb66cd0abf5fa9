use Rattle.text_reading.proofs.Integers.{minus_found, minus_reads, plain_found, plain_reads}
use Rattle.text_reading.proofs.numbers.read_integer.Goals as goal

pub returns-in-Some-read_positive-clause-found : goal.returns-in-Some-read_positive-clause-found
returns-in-Some-read_positive-clause-found c =
    plain_found c.args.tokens.now c.in-Some.digits.now c.as_str.result.now c.in-Some.rest.now c.in-Some-read_positive.number c.in-Some.ensures.some c.as_str.ensures c.in-Some-read_positive.ensures.some

pub returns-in-Some-read_positive-clause-reads : goal.returns-in-Some-read_positive-clause-reads
returns-in-Some-read_positive-clause-reads c front rest part is h follows =
    plain_reads c.args.tokens.now c.in-Some.digits.now c.as_str.result.now c.in-Some.rest.now c.in-Some-read_positive.number c.in-Some.ensures.some c.as_str.ensures c.in-Some-read_positive.ensures.some front rest part is h

pub returns-in-Some-read_negative-clause-found : goal.returns-in-Some-read_negative-clause-found
returns-in-Some-read_negative-clause-found c =
    minus_found c.args.tokens.now c.in-Some-behind_sign.behind.now c.in-Some-first_digits.digits.now c.as_str-2.result.now c.in-Some-first_digits.rest.now c.in-Some-read_negative.number c.in-Some-behind_sign.ensures.some c.in-Some-first_digits.ensures.some c.as_str-2.ensures c.in-Some-read_negative.ensures.some

pub returns-in-Some-read_negative-clause-reads : goal.returns-in-Some-read_negative-clause-reads
returns-in-Some-read_negative-clause-reads c front rest part is h follows =
    minus_reads c.args.tokens.now c.in-Some-behind_sign.behind.now c.in-Some-first_digits.digits.now c.as_str-2.result.now c.in-Some-first_digits.rest.now c.in-Some-read_negative.number c.in-Some-behind_sign.ensures.some c.in-Some-first_digits.ensures.some c.as_str-2.ensures c.in-Some-read_negative.ensures.some front rest part is h
