use Rattle.std.proofs.Common.{◌<◌, ◌^◌, ◌∷◌, sym, ap, ◌∙◌, subst, arith, rules}
use Rattle.text_queries.specs.Grammar.{IsInteger, number}
use Rattle.text_queries.specs.Queries.{Slice}
use Rattle.text_reading.proofs.Integers.{bits_integer}
use Rattle.text_reading.proofs.StageForms.{digits_once, slice_found, slice_parts}
use Rattle.text_reading.proofs.stages.read_slice.Goals as goal
use Rattle.text_tokens.specs.Tokens.{IsToken}
use Rattle.text_tokens.specs.declared.token.Token.TheVariants as token
use mir.Syntax.{w64}
use mir.Val.{of_z, to_z}

pub returns-in-Some-read_digits-clause-found : goal.returns-in-Some-read_digits-clause-found
returns-in-Some-read_digits-clause-found c =
    let found = c.in-Ok.ensures.found in
    let fits : c.in-Some-read_digits.length < 2 ^ 64 = search rules in
    slice_found c.args.tokens.now c.in-Ok.found.1.now c.in-Some.after.now c.as_str.result.now (to_z w64 (of_z w64 c.in-Ok.found.0)) c.in-Some-read_digits.length fits
    (found.0, found.1, subst (IsInteger found.0) (sym (bits_integer found.0 c.in-Ok.found.0 found.2)) found.2)
    (c.in-Some.ensures.some ∙ ap (λ d. token.Digits d ∷ c.in-Some.after.now) (sym c.as_str.ensures)) c.in-Some-read_digits.ensures.some.0 c.in-Some-read_digits.ensures.some.1

pub returns-in-Some-read_digits-clause-reads : goal.returns-in-Some-read_digits-clause-reads
returns-in-Some-read_digits-clause-reads c front rest part is h ends =
    let own = slice_parts c.args.tokens.now front rest part is h in
    let found = c.in-Ok.ensures.found in
    let same = c.in-Ok.ensures.reads own.from (token.Digits own.digits ∷ rest) own.offset own.split own.is_offset tt in
    let last = digits_once c.in-Ok.found.1.now c.in-Some.digits.now own.digits c.in-Some.after.now rest c.in-Some.ensures.some same.1 in
    let offset = bits_integer found.0 c.in-Ok.found.0 found.2 ∙ same.0 in
    let count = c.in-Some-read_digits.ensures.some.1 ∙ ap number (c.as_str.ensures ∙ last.0) ∙ sym own.count_is in
    ((λ i. Slice (offset i) (count i)) ∙ own.stage_is, last.1)

pub returns-in-None-clause-reads : goal.returns-in-None-clause-reads
returns-in-None-clause-reads c front rest part is h ends =
    let own = slice_parts c.args.tokens.now front rest part is h in
    let same = c.in-Ok.ensures.reads own.from (token.Digits own.digits ∷ rest) own.offset own.split own.is_offset tt in
    let last = digits_once c.in-Ok.found.1.now c.in-Some.digits.now own.digits c.in-Some.after.now rest c.in-Some.ensures.some same.1 in
    let named = c.as_str.ensures ∙ last.0 in
    let large = c.in-None.ensures.none (subst (λ d. IsToken (token.Digits d)) (sym named) own.are_digits) in
    absurd (omega (arith, large, ap number named, own.fits))

pub returns-in_default-clause-reads : goal.returns-in_default-clause-reads
returns-in_default-clause-reads c front rest part is h ends =
    let own = slice_parts c.args.tokens.now front rest part is h in
    let same = c.in-Ok.ensures.reads own.from (token.Digits own.digits ∷ rest) own.offset own.split own.is_offset tt in
    absurd (c.in_default.ensures.none own.digits rest same.1)

pub returns-in-Err-clause-reads : goal.returns-in-Err-clause-reads
returns-in-Err-clause-reads c front rest part is h ends =
    let own = slice_parts c.args.tokens.now front rest part is h in
    c.in-Err.ensures.reads own.from (token.Digits own.digits ∷ rest) own.offset own.split own.is_offset tt
