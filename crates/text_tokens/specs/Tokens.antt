-- Tokens: how each is spelled, and how a text is cut into them.
use Rattle.std.specs.Prelude.{◌≡◌, ℕ, Bool, true, false, List, [], ◌∷◌, ◌++◌, ◌==◌, IsTrue, codes, if◌then◌else◌}
use Rattle.std.specs.Char.{is_ascii_digit}
use Rattle.std.specs.List.{flat_map, list_all}
use Rattle.text_tokens.specs.Runs.{begins, is_blank, is_letter, is_word_byte}
use Rattle.text_tokens.specs.Quotes.{doubled}
use Rattle.text_tokens.specs.declared.token.Token.{Token}
use Rattle.text_tokens.specs.declared.token.Token.TheVariants.{Word, Digits, Name, Text, Sign}
use Rattle.text_tokens.specs.declared.token.Sign as signs
use Rattle.text_tokens.specs.declared.token.Sign.TheVariants.{Bar, Comma, Is, Equal, NotEqual, AtMost, AtLeast, Below, Above, Plus, Minus, Times, Over, Modulo, Open, Close}

abbrev pub sign_spelling : signs.Sign → List ℕ
sign_spelling Bar = codes "|"
sign_spelling Comma = codes ","
sign_spelling Is = codes "="
sign_spelling Equal = codes "=="
sign_spelling NotEqual = codes "!="
sign_spelling AtMost = codes "<="
sign_spelling AtLeast = codes ">="
sign_spelling Below = codes "<"
sign_spelling Above = codes ">"
sign_spelling Plus = codes "+"
sign_spelling Minus = codes "-"
sign_spelling Times = codes "*"
sign_spelling Over = codes "//"
sign_spelling Modulo = codes "%"
sign_spelling Open = codes "("
sign_spelling Close = codes ")"

-- a text between two quotes, in which the quote itself is doubled
abbrev pub quoted : ℕ → List ℕ → List ℕ
quoted quote text = quote ∷ doubled quote text ++ quote ∷ []

-- how a token is written
abbrev pub spelling : Token → List ℕ
spelling (Word word) = word
spelling (Digits digits) = digits
spelling (Name name) = quoted 34 name
spelling (Text text) = quoted 39 text
spelling (Sign sign) = sign_spelling sign

-- a word is a letter a to z or `_`, and then such letters and digits; digits are one or more; in quotes anything stands
abbrev pub IsToken : Token → Type 0
IsToken (Word word) = IsTrue (begins is_letter word) × IsTrue (list_all is_word_byte word)
IsToken (Digits digits) = IsTrue (begins is_ascii_digit digits) × IsTrue (list_all is_ascii_digit digits)
IsToken (Name name) = Unit {0}
IsToken (Text text) = Unit {0}
IsToken (Sign sign) = Unit {0}

-- whether a sign with a `=` behind it is another sign
abbrev pub takes_equals : signs.Sign → Bool
takes_equals Is = true
takes_equals Below = true
takes_equals Above = true
takes_equals _ = false

-- whether a token is longer with this byte behind it, which after a quote is the first half of a doubled one
abbrev pub goes_on : Token → ℕ → Bool
goes_on (Word word) b = is_word_byte b
goes_on (Digits digits) b = is_ascii_digit b
goes_on (Name name) b = b == 34
goes_on (Text text) b = b == 39
goes_on (Sign sign) b = if takes_equals sign then b == 61 else false

-- the text begins with the token, which is as long as it can be, and goes on with what stands after it
pub record BeginsWith (text : List ℕ) (token : Token) (after : List ℕ) : Type 0 where
  pub text_is : text ≡ spelling token ++ after
  pub is_token : IsToken token
  pub longest : begins (goes_on token) after ≡ false

-- the text is the tokens, each as long as it can be, with spaces and newlines before any
abbrev pub AreSpaced : List Token → List ℕ → Type 0
AreSpaced [] text = text ≡ []
AreSpaced (token ∷ tokens) text =
    (blanks rest after : List ℕ) × (text ≡ blanks ++ rest) × IsTrue (list_all is_blank blanks) × BeginsWith rest token after × AreSpaced tokens after

-- the text is the tokens, with spaces and newlines between them alone
abbrev pub AreTokens : List Token → List ℕ → Type 0
AreTokens tokens text = (begins is_blank text ≡ false) × AreSpaced tokens text

-- the tokens with a space before each, and with single spaces between
abbrev pub led : List Token → List ℕ
led tokens = flat_map (λ token. 32 ∷ spelling token) tokens

abbrev pub spaced : List Token → List ℕ
spaced [] = []
spaced (token ∷ tokens) = spelling token ++ led tokens
