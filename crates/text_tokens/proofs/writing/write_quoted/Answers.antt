use Rattle.std.proofs.Common.{◌≡◌, [], ◌∷◌, ◌++◌, Some, None, rules, ◌∙◌}
use Rattle.std.specs.Prelude.{string_bytes}
use Rattle.std.proofs.lemmas.Str.Pattern.{split_parts}
use Rattle.text_tokens.proofs.Written.{doubled_more, doubled_all}
use Rattle.text_tokens.proofs.writing.write_quoted.Goals as goal

pub loop-before-preserved : goal.loop-before-preserved
loop-before-preserved c =
    let quote = c.args.quote in
    let parts = split_parts quote c.loop-before.rest.now (Some (c.in-Some.before, c.in-Some.after)) c.in-Some.ensures.cases c.requires in
    let once : string_bytes c.push-in-Some.new.self ≡ (string_bytes c.loop-before.text ++ c.in-Some.before.now) ++ quote ∷ [] =
    c.in_ok-push-2.ensures.bytes ∙ (λ i. c.in_ok-push_str.ensures.bytes i ++ c.push-in-Some.ensures.ascii c.requires i) in
    let twice : string_bytes c.push-in-Some-2.new.self ≡ ((string_bytes c.loop-before.text ++ c.in-Some.before.now) ++ quote ∷ []) ++ quote ∷ [] =
    c.in_ok-push-3.ensures.bytes ∙ (λ i. once i ++ c.push-in-Some-2.ensures.ascii c.requires i) in (
      doubled_more quote (string_bytes c.args.text.now) c.args.content.now c.loop-before.rest.now c.in-Some.before.now c.in-Some.after.now (string_bytes c.loop-before.text) (string_bytes c.push-in-Some-2.new.self) c.loop-before.invariant.0 parts.0 parts.1 twice,
      search rules,
    )

pub returns-clause-written : goal.returns-clause-written
returns-clause-written c =
    let quote = c.args.quote in
    let lacks = split_parts quote c.loop-before.rest.now None c.in_default.ensures.cases c.requires in
    let written : string_bytes c.push-2.new.self ≡ (string_bytes c.loop-before.text ++ c.loop-before.rest.now) ++ quote ∷ [] =
    c.in_ok-push-4.ensures.bytes ∙ (λ i. c.in_ok-push_str-2.ensures.bytes i ++ c.push-2.ensures.ascii c.requires i) in
    doubled_all quote (string_bytes c.args.text.now) c.args.content.now c.loop-before.rest.now (string_bytes c.loop-before.text) (string_bytes c.push-2.new.self) c.loop-before.invariant.0 lacks written
