use Rattle.std.specs.Prelude.{◌≡◌, ◌≢◌, ℕ, Some}
use Rattle.serde_json.specs.Data.{unsigned}
use Rattle.ps_reading.proofs.Numerals.{minus-signed, of_no_minus, told, untold}
use Rattle.ps_reading.proofs.numbers.count_of.Goals as goal

pub returns-then-has_minus-clause-none : goal.returns-then-has_minus-clause-none
returns-then-has_minus-clause-none c n = minus-signed c.as_bytes-bytes.result.now c.args.text.now n c.as_bytes-bytes.ensures.value c.if-has_minus.ensures.value

pub returns-else-has_minus-clause-some : goal.returns-else-has_minus-clause-some
returns-else-has_minus-clause-some c =
    let is = of_no_minus c.as_bytes-bytes.result.now c.args.text.now c.scan.result c.as_bytes-bytes.ensures.value c.if-has_minus.ensures.value c.scan.ensures.parts in
    told (λ n m. m ≡ Some (unsigned n)) c.unsigned_of.result _ _ is c.unsigned_of.ensures.some

pub returns-else-has_minus-clause-none : goal.returns-else-has_minus-clause-none
returns-else-has_minus-clause-none c =
    let is = of_no_minus c.as_bytes-bytes.result.now c.args.text.now c.scan.result c.as_bytes-bytes.ensures.value c.if-has_minus.ensures.value c.scan.ensures.parts in
    untold (λ m. (n : ℕ) → m ≢ Some (unsigned n)) c.unsigned_of.result _ _ is c.unsigned_of.ensures.none
