use Rattle.std.proofs.Common.{◌≡◌, [], ◌∷◌, ◌++◌, Some, None, rules, sym, ap, ◌∙◌, subst}
use Rattle.std.specs.Prelude.{string_bytes}
use Rattle.std.proofs.lemmas.Str.Pattern.{split_parts, strip_prefix_char}
use Rattle.text_tokens.specs.Quotes.{doubled, IsQuoted}
use Rattle.text_tokens.proofs.Quoting.{quoted_end, quoted_more, unclosed, closed_from}
use Rattle.text_tokens.proofs.quoted.read_quoted.Goals as goal

pub loop-before-preserved : goal.loop-before-preserved
loop-before-preserved c =
    let quote = c.args.quote in
    let parts = split_parts quote c.loop-before.rest.now (Some (c.in-Some.before, c.in-Some.after)) c.in-Some.ensures.cases c.requires in
    let stripped = strip_prefix_char quote c.in-Some.after.now (Some c.in-Some-strip_prefix.more) c.in-Some-strip_prefix.ensures.cases c.requires in
    let pushed : string_bytes c.push.new.self ≡ (string_bytes c.loop-before.content ++ c.in-Some.before.now) ++ quote ∷ [] =
    c.in_ok-push-in-Some-strip_prefix.ensures.bytes ∙ (λ i. c.in_ok-push_str.ensures.bytes i ++ c.push.ensures.ascii c.requires i) in (
      quoted_more quote c.args.text.now (string_bytes c.loop-before.content) c.loop-before.rest.now c.in-Some.before.now c.in-Some.after.now c.in-Some-strip_prefix.more.now c.loop-before.invariant.0 parts.0 parts.1 stripped
          ∙ ap (λ s. doubled quote s ++ c.in-Some-strip_prefix.more.now) (sym pushed),
      search rules,
    )

pub returns-in-None-clause-found : goal.returns-in-None-clause-found
returns-in-None-clause-found c =
    let quote = c.args.quote in
    let parts = split_parts quote c.loop-before.rest.now (Some (c.in-Some.before, c.in-Some.after)) c.in-Some.ensures.cases c.requires in
    let stripped = strip_prefix_char quote c.in-Some.after.now None c.in-None.ensures.cases c.requires in
    let content = c.from_string.ensures ∙ c.in_ok-push_str.ensures.bytes in
    subst (λ s. IsQuoted quote c.args.text.now s c.in-Some.after.now) (sym content)
    (quoted_end quote c.args.text.now (string_bytes c.loop-before.content) c.loop-before.rest.now c.in-Some.before.now c.in-Some.after.now c.loop-before.invariant.0 parts.0 parts.1 (closed_from quote c.in-Some.after.now stripped))

pub returns-clause-none : goal.returns-clause-none
returns-clause-none c _ content after is =
    let quote = c.args.quote in
    let lacks = split_parts quote c.loop-before.rest.now None c.in_default.ensures.cases c.requires in
    unclosed quote (string_bytes c.loop-before.content) content c.loop-before.rest.now after (sym c.loop-before.invariant.0 ∙ is.text_is) lacks is.closed
