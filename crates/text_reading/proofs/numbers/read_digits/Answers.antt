use Rattle.text_reading.proofs.Integers.{too_large}
use Rattle.text_reading.proofs.numbers.read_digits.Goals as goal

pub returns-then-has_digits_alone-clause-none : goal.returns-then-has_digits_alone-clause-none
returns-then-has_digits_alone-clause-none c = rw c.ok.ensures.value (too_large c.args.digits.now c.parse.result c.parse.ensures.value.0)
