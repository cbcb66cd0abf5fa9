-- A text is cut into tokens in one way at most.
use Rattle.std.proofs.Common.{◌≡◌, ℕ, ◌<◌, List, [], ◌∷◌, ◌++◌, length, sym, refl, ap, ◌∙◌, subst, arith}
use Rattle.text_tokens.specs.Runs.{is_blank}
use Rattle.text_tokens.specs.Tokens.{BeginsWith, AreSpaced, AreTokens}
use Rattle.text_tokens.specs.declared.token.Token.{Token}
use Rattle.text_tokens.proofs.FrontRuns.{run_once}
use Rattle.text_tokens.proofs.OneToken.{begins_once, begins_not_blank}
use Rattle.text_tokens.proofs.Cutting.{empty_cut}

spaced_once : (tokens others : List Token) (text : List ℕ) → AreSpaced tokens text → AreSpaced others text → tokens ≡ others
spaced_once [] others text h k = sym (empty_cut others (subst (AreSpaced others) h k))
spaced_once (t ∷ ts) [] text h k = empty_cut (t ∷ ts) (subst (AreSpaced (t ∷ ts)) k h)
spaced_once (t ∷ ts) (u ∷ us) text (blanks, begun, after, split, are_blank, token, rest) (own, own_begun, own_after, own_split, own_blank, own_token, own_rest) =
    let cut = run_once is_blank blanks own begun own_begun are_blank (begins_not_blank begun t after token) own_blank (begins_not_blank own_begun u own_after own_token) (sym split ∙ own_split) in
    let same = begins_once begun t u after own_after token (subst (λ b. BeginsWith b u own_after) (sym cut.1) own_token) in
    (λ i. same.0 i ∷ spaced_once ts us after rest (subst (AreSpaced us) (sym same.1) own_rest) i)

pub one_cut : (text : List ℕ) (tokens others : List Token) → AreTokens tokens text → AreTokens others text → tokens ≡ others
one_cut text tokens others h k = spaced_once tokens others text h.1 k.1
