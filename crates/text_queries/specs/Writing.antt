-- How a query is written: its tokens with single spaces between them.
use Rattle.std.specs.Prelude.{ℕ, ℤ, pos, negsuc, suc, ◌&&◌, not, Bool, true, false, if◌then◌else◌, List, [], ◌∷◌, ◌++◌, codes}
use Rattle.std.specs.Fmt.{decimal}
use Rattle.std.specs.List.{list_all}
use Rattle.ps_meaning.specs.declared.options.JoinType.{JoinType}
use Rattle.ps_meaning.specs.declared.options.JoinType.TheVariants as how
use Rattle.text_queries.specs.Grammar.{is_reserved, function_word, kind_word, how_word, truth_word, operator_token}
use Rattle.text_queries.specs.Queries.{Expr, Name, Int, Text, Truth, Null, Call, Len, Binary, Item, Key, Stage, Filter, Select, With, Group, Sort, Slice, Distinct, Join, Query}
use Rattle.text_tokens.specs.Runs.{begins, is_letter, is_word_byte}
use Rattle.text_tokens.specs.Tokens.{spaced}
use Rattle.text_tokens.specs.declared.token.Sign.TheVariants as sign
use Rattle.text_tokens.specs.declared.token.Token.{Token}
use Rattle.text_tokens.specs.declared.token.Token.TheVariants as token

-- a name stands without quotes where it is a word that isn't reserved
abbrev pub name_token : List ℕ → Token
name_token name =
    if begins is_letter name && (list_all is_word_byte name && not (is_reserved name)) then token.Word name else token.Name name

abbrev pub integer_tokens : ℤ → List Token
integer_tokens (pos n) = token.Digits (decimal n) ∷ []
integer_tokens (negsuc n) = token.Sign sign.Minus ∷ token.Digits (decimal (suc n)) ∷ []

abbrev pub in_parentheses : List Token → List Token
in_parentheses ts = token.Sign sign.Open ∷ ts ++ token.Sign sign.Close ∷ []

abbrev pub is_binary : Expr → Bool
is_binary (Binary operator left right) = true
is_binary _ = false

-- the argument of a call stands in the parentheses of the call alone, and an operand that is an operator's tree in its own
abbrev pub expr_tokens : Expr → List Token
expr_tokens (Name n) = name_token n ∷ []
expr_tokens (Int n) = integer_tokens n
expr_tokens (Text t) = token.Text t ∷ []
expr_tokens (Truth b) = token.Word (truth_word b) ∷ []
expr_tokens (Null k) = token.Word (codes "null") ∷ token.Word (kind_word k) ∷ []
expr_tokens (Call function operand) = token.Word (function_word function) ∷ in_parentheses (expr_tokens operand)
expr_tokens Len = token.Word (codes "len") ∷ in_parentheses []
expr_tokens (Binary operator left right) =
    (if is_binary left then in_parentheses (expr_tokens left) else expr_tokens left)
    ++ operator_token operator ∷ (if is_binary right then in_parentheses (expr_tokens right) else expr_tokens right)

-- an expression as an operand
abbrev pub operand_tokens : Expr → List Token
operand_tokens e = if is_binary e then in_parentheses (expr_tokens e) else expr_tokens e

-- with a comma before each but the first
abbrev pub with_commas : {X : Type 0} → (X → List Token) → List X → List Token
with_commas f [] = []
with_commas f (x ∷ []) = f x
with_commas f (x ∷ y ∷ xs) = f x ++ token.Sign sign.Comma ∷ with_commas f (y ∷ xs)

abbrev pub item_tokens : Item → List Token
item_tokens item = name_token item.name ∷ token.Sign sign.Is ∷ expr_tokens item.expr

abbrev pub key_tokens : Key → List Token
key_tokens key = expr_tokens key.expr ++ (if key.desc then token.Word (codes "desc") ∷ [] else [])

abbrev pub on_tokens : JoinType → List (List ℕ) → List Token
on_tokens how.Cross on = []
on_tokens _ on = token.Word (codes "on") ∷ with_commas (λ name. name_token name ∷ []) on

abbrev pub stage_tokens : Stage → List Token
stage_tokens (Filter predicate) = token.Word (codes "filter") ∷ expr_tokens predicate
stage_tokens (Select items) = token.Word (codes "select") ∷ with_commas item_tokens items
stage_tokens (With items) = token.Word (codes "with") ∷ with_commas item_tokens items
stage_tokens (Group keys aggs) = token.Word (codes "group") ∷ with_commas item_tokens keys ++ token.Word (codes "agg") ∷ with_commas item_tokens aggs
stage_tokens (Sort keys) = token.Word (codes "sort") ∷ with_commas key_tokens keys
stage_tokens (Slice offset length) = token.Word (codes "slice") ∷ integer_tokens offset ++ token.Digits (decimal length) ∷ []
stage_tokens Distinct = token.Word (codes "distinct") ∷ []
stage_tokens (Join kept table on) = token.Word (codes "join") ∷ token.Word (how_word kept) ∷ name_token table ∷ on_tokens kept on

abbrev pub stages_tokens : List Stage → List Token
stages_tokens [] = []
stages_tokens (stage ∷ stages) = token.Sign sign.Bar ∷ stage_tokens stage ++ stages_tokens stages

abbrev pub query_tokens : Query → List Token
query_tokens query = token.Word (codes "from") ∷ name_token query.source ∷ stages_tokens query.stages

-- what is printed of a query
abbrev pub printed : Query → List ℕ
printed query = spaced (query_tokens query)
