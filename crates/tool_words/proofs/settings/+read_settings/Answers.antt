use Rattle.std.proofs.Common.{refl, sym, ◌∙◌}
use Rattle.std.specs.Prelude.{map, string_bytes, codes}
use Rattle.std.specs.Cmp.Lexicographic.{same_text}
use Rattle.tool_words.proofs.OneMore.{told-number, told-serial}
use Rattle.tool_words.proofs.Reading.{if-none, no-serial, read-more, refused-end, refused-flag, refused-more, refused-twice, refused-value, spelled-flag, spelled-number, spelled-serial, was-set}
use Rattle.tool_words.specs.Words.{Number, Serial}
use Rattle.tool_words.proofs.settings.+read_settings.Goals as goal

pub returns-in_err-with_serial-clause-none : goal.returns-in_err-with_serial-clause-none
returns-in_err-with_serial-clause-none t c seen told =
    let flag = sym c.as_str.ensures.value ∙ same_text c.as_str.result.now (codes "--serial") c.if-eq.ensures in
    let are = spelled-serial _ _ _ c.in-Some.ensures.cases.0 flag in
    if-none _ (refused-twice seen Serial _ _ are Serial (told.serial.0 c.in_err-with_serial.ensures.none) refl)

pub returns-then-eq-clause-some : goal.returns-then-eq-clause-some
returns-then-eq-clause-some t c seen told =
    let flag = sym c.as_str.ensures.value ∙ same_text c.as_str.result.now (codes "--serial") c.if-eq.ensures in
    let are = spelled-serial _ _ _ c.in-Some.ensures.cases.0 flag in
    let h = c.in_ok-with_serial.ensures in
    read-more seen Serial _ _ are _ (c.read_settings.ensures.some _ (told-serial _ _ seen told h.some.0 h.some.1 h.new))

pub returns-then-eq-clause-none : goal.returns-then-eq-clause-none
returns-then-eq-clause-none t c seen told =
    let flag = sym c.as_str.ensures.value ∙ same_text c.as_str.result.now (codes "--serial") c.if-eq.ensures in
    let are = spelled-serial _ _ _ c.in-Some.ensures.cases.0 flag in
    let h = c.in_ok-with_serial.ensures in
    refused-more seen Serial _ _ are _ (c.read_settings.ensures.none _ (told-serial _ _ seen told h.some.0 h.some.1 h.new))

pub returns-in_err-kind-clause-none : goal.returns-in_err-kind-clause-none
returns-in_err-kind-clause-none t c seen told =
    let are = spelled-flag _ _ _ _ c.in-Some.ensures.cases.0 c.as_str-2.ensures.value in
    let plain = no-serial c.as_str.result.now c.if-eq.ensures in
    if-none _ (refused-flag seen _ _ _ are (λ e. plain (c.as_str.ensures.value ∙ sym c.as_str-2.ensures.value ∙ e)) c.in_err-kind.ensures.none)

pub returns-in_err-numeral-clause-none : goal.returns-in_err-numeral-clause-none
returns-in_err-numeral-clause-none t c seen told =
    let are = spelled-flag _ _ _ _ c.in-Some.ensures.cases.0 (sym c.in_ok-kind.ensures.some ∙ c.as_str-2.ensures.value) in
    if-none _ (refused-end seen c.in_ok-kind.kind _ _ are c.in_err-numeral.ensures.cases)

pub returns-in_err-number-clause-none : goal.returns-in_err-number-clause-none
returns-in_err-number-clause-none t c seen told =
    let are = spelled-number _ _ _ _ _ _ _ _ c.in-Some.ensures.cases.0 c.in_ok-numeral.ensures.cases.0 c.as_str-2.ensures.value c.in_ok-kind.ensures.some c.as_str-3.ensures.value in
    if-none _ (refused-value seen (Number c.in_ok-kind.kind c.as_str-3.result.now) _ (map string_bytes c.in_ok-numeral.rest.now) are c.in_err-number.ensures.none)

pub returns-in_err-with_number-clause-none : goal.returns-in_err-with_number-clause-none
returns-in_err-with_number-clause-none t c seen told =
    let are = spelled-number _ _ _ _ _ _ _ _ c.in-Some.ensures.cases.0 c.in_ok-numeral.ensures.cases.0 c.as_str-2.ensures.value c.in_ok-kind.ensures.some c.as_str-3.ensures.value in
    let (numeral, there) = was-set seen c.in_ok-kind.kind _ (told.numbers c.in_ok-kind.kind) c.in_err-with_number.ensures.none in
    if-none _ (refused-twice seen (Number c.in_ok-kind.kind c.as_str-3.result.now) _ (map string_bytes c.in_ok-numeral.rest.now) are (Number c.in_ok-kind.kind numeral) there refl)

pub returns-clause-some : goal.returns-clause-some
returns-clause-some t c seen told =
    let are = spelled-number _ _ _ _ _ _ _ _ c.in-Some.ensures.cases.0 c.in_ok-numeral.ensures.cases.0 c.as_str-2.ensures.value c.in_ok-kind.ensures.some c.as_str-3.ensures.value in
    let h = c.in_ok-with_number.ensures in
    read-more seen (Number c.in_ok-kind.kind c.as_str-3.result.now) _ (map string_bytes c.in_ok-numeral.rest.now) are _ (c.read_settings-2.ensures.some _ (told-number _ _ seen _ _ _ told h.some h.new c.in_ok-number.ensures.some.0 c.in_ok-number.ensures.some.1))

pub returns-clause-none : goal.returns-clause-none
returns-clause-none t c seen told =
    let are = spelled-number _ _ _ _ _ _ _ _ c.in-Some.ensures.cases.0 c.in_ok-numeral.ensures.cases.0 c.as_str-2.ensures.value c.in_ok-kind.ensures.some c.as_str-3.ensures.value in
    let h = c.in_ok-with_number.ensures in
    refused-more seen (Number c.in_ok-kind.kind c.as_str-3.result.now) _ (map string_bytes c.in_ok-numeral.rest.now) are _ (c.read_settings-2.ensures.none _ (told-number _ _ seen _ _ _ told h.some h.new c.in_ok-number.ensures.some.0 c.in_ok-number.ensures.some.1))
