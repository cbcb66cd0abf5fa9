use Rattle.std.proofs.Common.{◌≡◌, ◌≤◌, ◌∙◌, Some, length, get_or, sym, ap, arith}
use Rattle.text_tokens.specs.SignBytes.{two_byte_sign}
use Rattle.std.specs.Prelude.{slice_get}
use Rattle.text_tokens.proofs.SignReading.{two_boundary, one_boundary_first}
use Rattle.text_tokens.proofs.sign.read_sign.Goals as goal

-- the bytes of a sign are ASCII
pub split_at-requires : goal.split_at-requires
split_at-requires c =
    let same = c.as_bytes-bytes.ensures.value in
    let long : 2 ≤ length c.args.text.now = omega (arith, ap length same, c.in-len2-up.len_at_least) in
    let sign : two_byte_sign (get_or c.args.text.now 0 0) (get_or c.args.text.now 1 0) ≡ Some c.in-Some.sign =
    (λ i. two_byte_sign (get_or (sym same i) 0 0) (get_or (sym same i) 1 0)) ∙ sym c.in-Some.ensures in
    two_boundary c.args.text.now c.in-Some.sign c.utf8.text long sign

pub split_at-requires-2 : goal.split_at-requires-2
split_at-requires-2 c =
    one_boundary_first c.args.text.now c.in_ok-sign.sign c.in_ok-first.field-0.now c.utf8.text
    (c.in_ok-first.ensures.value ∙ ap (λ bs. slice_get bs 0) c.as_bytes-bytes.ensures.value)
    (sym c.in_ok-sign.ensures)
