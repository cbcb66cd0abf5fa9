use Rattle.std.specs.Prelude.{◌≡◌, ◌≢◌, ℤ, Some, FitsSigned}
use Rattle.std.specs.Int.{w64}
use Rattle.serde_json.specs.Find.{of_integer}
use Rattle.ps_reading.proofs.Numerals.{of_minus, of_no_minus, told, untold}
use Rattle.ps_reading.proofs.numbers.whole_number_of.Goals as goal

pub returns-then-has_minus-clause-number : goal.returns-then-has_minus-clause-number
returns-then-has_minus-clause-number c =
    let is = of_minus c.as_bytes-bytes.result.now c.args.text.now c.scan.result c.as_bytes-bytes.ensures.value c.if-has_minus.ensures.value c.scan.ensures.parts in
    told (λ z m. m ≡ Some (of_integer z)) c.negative_of.result _ _ is c.negative_of.ensures.number

pub returns-then-has_minus-clause-none : goal.returns-then-has_minus-clause-none
returns-then-has_minus-clause-none c =
    let is = of_minus c.as_bytes-bytes.result.now c.args.text.now c.scan.result c.as_bytes-bytes.ensures.value c.if-has_minus.ensures.value c.scan.ensures.parts in
    untold (λ m. (z : ℤ) → FitsSigned w64 z → m ≢ Some (of_integer z)) c.negative_of.result _ _ is c.negative_of.ensures.none

pub returns-else-has_minus-clause-number : goal.returns-else-has_minus-clause-number
returns-else-has_minus-clause-number c =
    let is = of_no_minus c.as_bytes-bytes.result.now c.args.text.now c.scan-else-has_minus.result c.as_bytes-bytes.ensures.value c.if-has_minus.ensures.value c.scan-else-has_minus.ensures.parts in
    told (λ z m. m ≡ Some (of_integer z)) c.signed_of.result _ _ is c.signed_of.ensures.number

pub returns-else-has_minus-clause-none : goal.returns-else-has_minus-clause-none
returns-else-has_minus-clause-none c =
    let is = of_no_minus c.as_bytes-bytes.result.now c.args.text.now c.scan-else-has_minus.result c.as_bytes-bytes.ensures.value c.if-has_minus.ensures.value c.scan-else-has_minus.ensures.parts in
    untold (λ m. (z : ℤ) → FitsSigned w64 z → m ≢ Some (of_integer z)) c.signed_of.result _ _ is c.signed_of.ensures.none
