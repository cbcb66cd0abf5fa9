-- The evidence of the worked examples.
use Rattle.std.proofs.Common.{◌≡◌, pos, List, [], ◌∷◌, drop, take, refl, arith}
use Rattle.std.specs.Prelude.{codes}
use Rattle.std.specs.Fmt.{digits}
use Rattle.ps_frame.specs.declared.expr.Operator.TheVariants as op
use Rattle.text_queries.specs.Examples.{a, above_one, b, c, col_a, col_b, col_c, doubled_and_counted}
use Rattle.text_queries.specs.Grammar.{IsWhole, is_name, is_integer, is_operation, ReadsAs}
use Rattle.text_queries.specs.Queries.{Binary, Int}
use Rattle.text_queries.specs.Writing.{printed}
use Rattle.text_tokens.specs.Tokens.{AreTokens}
use Rattle.text_tokens.specs.declared.token.Sign.TheVariants as sign
use Rattle.text_tokens.specs.declared.token.Token.{Token}
use Rattle.text_tokens.specs.declared.token.Token.TheVariants as token

pub longest_signs : AreTokens (a ∷ token.Sign sign.Equal ∷ token.Sign sign.Minus ∷ token.Digits (codes "1") ∷ []) (codes "a==-1")
longest_signs = (refl, ([], codes "a==-1", codes "==-1", refl, refl, record { text_is = refl; is_token = (refl, refl); longest = refl }, ([], codes "==-1", codes "-1", refl, refl, record { text_is = refl; is_token = tt; longest = refl }, ([], codes "-1", codes "1", refl, refl, record { text_is = refl; is_token = tt; longest = refl }, ([], codes "1", [], refl, refl, record { text_is = refl; is_token = (refl, refl); longest = refl }, refl)))))

pub doubled_quotes : AreTokens (token.Text (codes "it's") ∷ []) (codes "'it''s'")
doubled_quotes = (refl, ([], codes "'it''s'", [], refl, refl, record { text_is = refl; is_token = tt; longest = refl }, refl))

pub products_first : IsWhole (a ∷ token.Sign sign.Plus ∷ b ∷ token.Sign sign.Times ∷ c ∷ []) (Binary op.Plus col_a (Binary op.Multiply col_b col_c))
products_first =
    is_operation {o = op.Plus} {ls = a ∷ []} {rs = b ∷ token.Sign sign.Times ∷ c ∷ []} (omega arith) (is_name {t = a} (refl, refl))
    (is_operation {o = op.Multiply} {ls = b ∷ []} {rs = c ∷ []} (omega arith) (is_name {t = b} (refl, refl)) (is_name {t = c} (refl, refl)))

pub from_the_left : IsWhole (a ∷ token.Sign sign.Minus ∷ b ∷ token.Sign sign.Minus ∷ c ∷ []) (Binary op.Minus (Binary op.Minus col_a col_b) col_c)
from_the_left =
    is_operation {o = op.Minus} {ls = a ∷ token.Sign sign.Minus ∷ b ∷ []} {rs = c ∷ []} (omega arith)
    (is_operation {o = op.Minus} {ls = a ∷ []} {rs = b ∷ []} (omega arith) (is_name {t = a} (refl, refl)) (is_name {t = b} (refl, refl)))
    (is_name {t = c} (refl, refl))

above : IsWhole (a ∷ token.Sign sign.Above ∷ token.Digits (codes "1") ∷ []) (Binary op.Gt col_a (Int (pos 1)))
above = is_operation {o = op.Gt} {ls = a ∷ []} {rs = token.Digits (codes "1") ∷ []} (omega arith) (is_name {t = a} (refl, refl)) (is_integer {ts = token.Digits (codes "1") ∷ []} ((refl, refl), refl, omega arith))

abbrev tokens : List Token
tokens = token.Word (codes "from") ∷ token.Word (codes "t") ∷ token.Sign sign.Bar ∷ token.Word (codes "filter") ∷ a ∷ token.Sign sign.Above ∷ token.Digits (codes "1") ∷ []

pub a_query : ReadsAs (codes "from t | filter a > 1") above_one
a_query = record {
  tokens = tokens;
  cut = (refl, ([], codes "from t | filter a > 1", codes " t | filter a > 1", refl, refl, record { text_is = refl; is_token = (refl, refl); longest = refl }, (codes " ", codes "t | filter a > 1", codes " | filter a > 1", refl, refl, record { text_is = refl; is_token = (refl, refl); longest = refl }, (codes " ", codes "| filter a > 1", codes " filter a > 1", refl, refl, record { text_is = refl; is_token = tt; longest = refl }, (codes " ", codes "filter a > 1", codes " a > 1", refl, refl, record { text_is = refl; is_token = (refl, refl); longest = refl }, (codes " ", codes "a > 1", codes " > 1", refl, refl, record { text_is = refl; is_token = (refl, refl); longest = refl }, (codes " ", codes "> 1", codes " 1", refl, refl, record { text_is = refl; is_token = tt; longest = refl }, (codes " ", codes "1", [], refl, refl, record { text_is = refl; is_token = (refl, refl); longest = refl }, refl))))))));
  is_query = (token.Word (codes "t"), drop 2 tokens, refl, (refl, refl), (take 4 (drop 3 tokens), [], refl, (drop 4 tokens, refl, above), refl));
  not_deep = omega arith;
}

pub print : printed doubled_and_counted ≡ codes "from t | select x = ( a + 1 ) * 2 , y = len ( ) | sort x desc"
unfolding digits
print = refl
