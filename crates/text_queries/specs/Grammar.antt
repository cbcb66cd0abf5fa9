-- The grammar: which tokens are an expression, a stage and a query, and which text reads as which query.
use Rattle.std.specs.Prelude.{◌≡◌, ℕ, ℤ, pos, neg_ℤ, suc, ◌^◌, ◌<◌, ◌≤◌, ◌⊎◌, nat_eq, Bool, true, false, if◌then◌else◌, List, [], ◌∷◌, ◌++◌, codes}
use Rattle.std.specs.List.{list_any}
use Rattle.std.specs.Str.{bytes_eq}
use Rattle.std.specs.Str.Parse.{digits_value}
use Rattle.ps_frame.specs.declared.expr.Operator.{Operator}
use Rattle.ps_frame.specs.declared.expr.Operator.TheVariants as op
use Rattle.ps_frame.specs.declared.value.DataType.{DataType}
use Rattle.ps_frame.specs.declared.value.DataType.TheVariants as kind
use Rattle.ps_meaning.specs.declared.options.JoinType.{JoinType}
use Rattle.ps_meaning.specs.declared.options.JoinType.TheVariants as how
use Rattle.text_queries.specs.Queries.{Expr, Name, Int, Text, Truth, Null, Call, Len, Binary, Item, Key, Stage, Filter, Select, With, Group, Sort, Slice, Distinct, Join, Query, depth}
use Rattle.text_queries.specs.declared.words.TextFn.{TextFn}
use Rattle.text_queries.specs.declared.words.TextFn.TheVariants as fun
use Rattle.text_tokens.specs.Tokens.{AreTokens, IsToken}
use Rattle.text_tokens.specs.declared.token.Sign.TheVariants as sign
use Rattle.text_tokens.specs.declared.token.Token.{Token}
use Rattle.text_tokens.specs.declared.token.Token.TheVariants as token

-- the words that are no names, unless they are quoted
abbrev pub reserved : List (List ℕ)
reserved =
    codes "from" ∷ codes "filter" ∷ codes "select" ∷ codes "with" ∷ codes "group" ∷ codes "agg" ∷ codes "sort" ∷ codes "slice"
    ∷ codes "distinct" ∷ codes "join" ∷ codes "on" ∷ codes "desc" ∷ codes "or" ∷ codes "and" ∷ codes "true" ∷ codes "false" ∷ codes "null" ∷ []

abbrev pub is_reserved : List ℕ → Bool
is_reserved word = list_any (bytes_eq word) reserved

abbrev pub function_word : TextFn → List ℕ
function_word fun.Min = codes "min"
function_word fun.Max = codes "max"
function_word fun.First = codes "first"
function_word fun.Last = codes "last"
function_word fun.Sum = codes "sum"
function_word fun.NUnique = codes "n_unique"
function_word fun.Count = codes "count"
function_word fun.Not = codes "not"
function_word fun.IsNull = codes "is_null"
function_word fun.IsNotNull = codes "is_not_null"

abbrev pub kind_word : DataType → List ℕ
kind_word kind.Boolean = codes "bool"
kind_word kind.Int64 = codes "int"
kind_word kind.IdxSize = codes "idx"
kind_word kind.String = codes "str"

abbrev pub how_word : JoinType → List ℕ
how_word how.Inner = codes "inner"
how_word how.Left = codes "left"
how_word how.Right = codes "right"
how_word how.Full = codes "full"
how_word how.Semi = codes "semi"
how_word how.Anti = codes "anti"
how_word how.Cross = codes "cross"

abbrev pub truth_word : Bool → List ℕ
truth_word true = codes "true"
truth_word false = codes "false"

abbrev pub operator_token : Operator → Token
operator_token op.Or = token.Word (codes "or")
operator_token op.And = token.Word (codes "and")
operator_token op.Eq = token.Sign sign.Equal
operator_token op.NotEq = token.Sign sign.NotEqual
operator_token op.Lt = token.Sign sign.Below
operator_token op.LtEq = token.Sign sign.AtMost
operator_token op.Gt = token.Sign sign.Above
operator_token op.GtEq = token.Sign sign.AtLeast
operator_token op.Plus = token.Sign sign.Plus
operator_token op.Minus = token.Sign sign.Minus
operator_token op.Multiply = token.Sign sign.Times
operator_token op.FloorDivide = token.Sign sign.Over
operator_token op.Modulus = token.Sign sign.Modulo

-- how tightly an operator binds: `or` least, then `and`, comparisons, sums, and products most
abbrev pub binding : Operator → ℕ
binding op.Or = 1
binding op.And = 2
binding op.Eq = 3
binding op.NotEq = 3
binding op.Lt = 3
binding op.LtEq = 3
binding op.Gt = 3
binding op.GtEq = 3
binding op.Plus = 4
binding op.Minus = 4
binding op.Multiply = 5
binding op.FloorDivide = 5
binding op.Modulus = 5

-- what stands left of an operator binds as tightly at least, since chains group from the left; but comparisons make no chains
abbrev pub left_binding : Operator → ℕ
left_binding operator = if nat_eq (binding operator) 3 then 4 else binding operator

-- one token, and the name that it is: a word that isn't reserved, or a quoted name
abbrev pub IsName : Token → List ℕ → Type 0
IsName (token.Word word) name = (word ≡ name) × (is_reserved word ≡ false)
IsName (token.Name quoted) name = quoted ≡ name
IsName _ name = ⊥

abbrev pub number : List ℕ → ℕ
number digits = digits_value 10 digits

-- digits, or `-` and digits, in the range of 64 bits with a sign
abbrev pub IsInteger : List Token → ℤ → Type 0
IsInteger (token.Digits digits ∷ []) n = IsToken (token.Digits digits) × (n ≡ pos (number digits)) × (number digits < 2 ^ 63)
IsInteger (token.Sign sign.Minus ∷ token.Digits digits ∷ []) n = IsToken (token.Digits digits) × (n ≡ neg_ℤ (pos (number digits))) × (number digits ≤ 2 ^ 63)
IsInteger _ n = ⊥

-- The tokens are the expression; parentheses, those of calls included, nest at most `opens` deep in them, and operators outside of parentheses bind at least as tightly as `least` says.
pub data IsExpr : ℕ → ℕ → List Token → Expr → Type 0 where
  is_name : {opens least : ℕ} {t : Token} {n : List ℕ} → IsName t n → IsExpr opens least (t ∷ []) (Name n)
  is_integer : {opens least : ℕ} {ts : List Token} {n : ℤ} → IsInteger ts n → IsExpr opens least ts (Int n)
  is_text : {opens least : ℕ} {t : List ℕ} → IsExpr opens least (token.Text t ∷ []) (Text t)
  is_truth : {opens least : ℕ} {b : Bool} → IsExpr opens least (token.Word (truth_word b) ∷ []) (Truth b)
  is_null : {opens least : ℕ} {k : DataType} → IsExpr opens least (token.Word (codes "null") ∷ token.Word (kind_word k) ∷ []) (Null k)
  is_call : {opens least : ℕ} {f : TextFn} {ts : List Token} {e : Expr} → IsExpr opens 1 ts e
      → IsExpr (suc opens) least (token.Word (function_word f) ∷ token.Sign sign.Open ∷ ts ++ token.Sign sign.Close ∷ []) (Call f e)
  is_len : {opens least : ℕ} → IsExpr (suc opens) least (token.Word (codes "len") ∷ token.Sign sign.Open ∷ token.Sign sign.Close ∷ []) Len
  is_enclosed : {opens least : ℕ} {ts : List Token} {e : Expr} → IsExpr opens 1 ts e → IsExpr (suc opens) least (token.Sign sign.Open ∷ ts ++ token.Sign sign.Close ∷ []) e
  is_operation : {opens least : ℕ} {o : Operator} {ls rs : List Token} {l r : Expr} → least ≤ binding o → IsExpr opens (left_binding o) ls l → IsExpr opens (suc (binding o)) rs r
      → IsExpr opens least (ls ++ operator_token o ∷ rs) (Binary o l r)

-- a whole expression: any operator may stand outside of parentheses, and these nest at most 100 deep
abbrev pub IsWhole : List Token → Expr → Type 0
IsWhole ts e = IsExpr 100 1 ts e

-- one or more of what P reads, with commas between
abbrev pub Listed : {X : Type 0} → (List Token → X → Type 0) → List Token → List X → Type 0
Listed P ts [] = ⊥
Listed P ts (x ∷ []) = P ts x
Listed P ts (x ∷ y ∷ xs) = (first rest : List Token) × (ts ≡ first ++ token.Sign sign.Comma ∷ rest) × P first x × Listed P rest (y ∷ xs)

-- a name, `=` and an expression
abbrev pub IsItem : List Token → Item → Type 0
IsItem ts item = (t : Token) × (rest : List Token) × (ts ≡ t ∷ token.Sign sign.Is ∷ rest) × IsName t item.name × IsWhole rest item.expr

-- an expression, then `desc` or nothing
abbrev pub IsKey : List Token → Key → Type 0
IsKey ts key =
    ((key.desc ≡ false) × IsWhole ts key.expr)
    ⊎ ((key.desc ≡ true) × (rest : List Token) × (ts ≡ rest ++ token.Word (codes "desc") ∷ []) × IsWhole rest key.expr)

-- one token that is a name
abbrev pub IsColumn : List Token → List ℕ → Type 0
IsColumn ts name = (t : Token) × (ts ≡ t ∷ []) × IsName t name

-- what stands behind the table of a join: nothing for all pairs, and else `on` and names
abbrev pub IsOn : JoinType → List Token → List (List ℕ) → Type 0
IsOn how.Cross ts on = (ts ≡ []) × (on ≡ [])
IsOn _ ts on = (rest : List Token) × (ts ≡ token.Word (codes "on") ∷ rest) × Listed IsColumn rest on

abbrev pub IsStage : List Token → Stage → Type 0
IsStage ts (Filter predicate) = (rest : List Token) × (ts ≡ token.Word (codes "filter") ∷ rest) × IsWhole rest predicate
IsStage ts (Select items) = (rest : List Token) × (ts ≡ token.Word (codes "select") ∷ rest) × Listed IsItem rest items
IsStage ts (With items) = (rest : List Token) × (ts ≡ token.Word (codes "with") ∷ rest) × Listed IsItem rest items
IsStage ts (Group keys aggs) =
    (first rest : List Token) × (ts ≡ token.Word (codes "group") ∷ first ++ token.Word (codes "agg") ∷ rest) × Listed IsItem first keys × Listed IsItem rest aggs
IsStage ts (Sort keys) = (rest : List Token) × (ts ≡ token.Word (codes "sort") ∷ rest) × Listed IsKey rest keys
IsStage ts (Slice offset length) =
    (from : List Token) × (digits : List ℕ) × (ts ≡ token.Word (codes "slice") ∷ from ++ token.Digits digits ∷ [])
    × IsInteger from offset × IsToken (token.Digits digits) × (length ≡ number digits) × (number digits < 2 ^ 64)
IsStage ts Distinct = ts ≡ token.Word (codes "distinct") ∷ []
IsStage ts (Join kept table on) =
    (t : Token) × (rest : List Token) × (ts ≡ token.Word (codes "join") ∷ token.Word (how_word kept) ∷ t ∷ rest) × IsName t table × IsOn kept rest on

-- any number of stages, each behind a `|`
abbrev pub AreStages : List Token → List Stage → Type 0
AreStages ts [] = ts ≡ []
AreStages ts (stage ∷ stages) = (first rest : List Token) × (ts ≡ token.Sign sign.Bar ∷ first ++ rest) × IsStage first stage × AreStages rest stages

-- `from`, the name of a table, and stages
abbrev pub IsQuery : List Token → Query → Type 0
IsQuery ts query = (t : Token) × (rest : List Token) × (ts ≡ token.Word (codes "from") ∷ t ∷ rest) × IsName t query.source × AreStages rest query.stages

-- the text reads as the query: it is cut into tokens, and these are the query, which is at most 200 deep
pub record ReadsAs (text : List ℕ) (query : Query) : Type 0 where
  pub tokens : List Token
  pub cut : AreTokens tokens text
  pub is_query : IsQuery tokens query
  pub not_deep : depth query ≤ 200
