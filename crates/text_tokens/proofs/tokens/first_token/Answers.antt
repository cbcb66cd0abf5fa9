use Rattle.std.proofs.Common.{◌≡◌, Some, None, Err, ap, arith}
use Rattle.std.proofs.lemmas.Str.Pattern.{strip_prefix_char}
use Rattle.text_tokens.specs.declared.error.TextError.TheVariants as refusal
use Rattle.text_tokens.proofs.OneToken.{none_name, none_text, none_of_all}
use Rattle.text_tokens.proofs.tokens.first_token.Goals as goal

-- a double quote that is not closed
pub returns-in-Err-clause-none : goal.returns-in-Err-clause-none
returns-in-Err-clause-none c refused =
    let opened = c.in-Some-strip_prefix.opened in
    let same : c.in-Err.error ≡ refusal.NoReading = cc in
    none_name c.args.text.now opened.now (strip_prefix_char 34 c.args.text.now (Some opened) c.in-Some-strip_prefix.ensures.cases (omega arith)) (c.in-Err.ensures.none (ap Err same))

-- a single quote that is not closed
pub returns-in-Err-read_quoted-clause-none : goal.returns-in-Err-read_quoted-clause-none
returns-in-Err-read_quoted-clause-none c refused =
    let opened = c.in-Some-strip_prefix-2.opened in
    let same : c.in-Err-read_quoted.error ≡ refusal.NoReading = cc in
    none_text c.args.text.now opened.now (strip_prefix_char 39 c.args.text.now (Some opened) c.in-Some-strip_prefix-2.ensures.cases (omega arith)) (c.in-Err-read_quoted.ensures.none (ap Err same))

-- no token of any kind
pub returns-in-None-clause-none : goal.returns-in-None-clause-none
returns-in-None-clause-none c refused =
    none_of_all c.args.text.now c.in_default.ensures.none c.in_default-split_digits.ensures.none
    (strip_prefix_char 34 c.args.text.now None c.in_default-strip_prefix.ensures.cases (omega arith))
    (strip_prefix_char 39 c.args.text.now None c.in_default-strip_prefix-2.ensures.cases (omega arith))
    c.in-None.ensures.none
