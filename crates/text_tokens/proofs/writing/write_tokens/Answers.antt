use Rattle.std.proofs.Common.{◌≡◌, sym, subst}
use Rattle.std.specs.Prelude.{string_bytes}
use Rattle.std.proofs.lemmas.Result.{IfOk-weaker}
use Rattle.text_tokens.specs.Tokens.{AreTokens, spaced}
use Rattle.text_tokens.proofs.Written.{spaced_cut}
use Rattle.text_tokens.proofs.writing.write_tokens.Goals as goal

-- what is written is cut into the tokens
pub returns-clause-again : goal.returns-clause-again
returns-clause-again c all =
    IfOk-weaker c.joined.result (λ text. string_bytes text ≡ spaced c.args.tokens.now) (λ text. AreTokens c.args.tokens.now (string_bytes text))
    (λ text is. subst (AreTokens c.args.tokens.now) (sym is) (spaced_cut c.args.tokens.now all)) c.joined.ensures.spaced
