use Rattle.std.proofs.Common.{FitsSigned, of_z, rules, to_z, w64}
use Rattle.tool_ends.proofs.Plain.{plain-decimal, plain-signed}
use Rattle.tool_ends.proofs.csv_text.put_value.Goals as goal

pub put_plain-requires-in-Int64 : goal.put_plain-requires-in-Int64
put_plain-requires-in-Int64 c =
    let fits : FitsSigned w64 (to_z w64 (of_z w64 c.in-Int64.number)) = search rules in
    rw (c.as_bytes.ensures.value, c.format.ensures.text) (plain-signed (to_z w64 (of_z w64 c.in-Int64.number)) fits)

pub put_plain-requires-in-IdxSize : goal.put_plain-requires-in-IdxSize
put_plain-requires-in-IdxSize c = rw (c.as_bytes-in-IdxSize.ensures.value, c.format-in-IdxSize.ensures.text) (plain-decimal c.in-IdxSize.number (search rules))
