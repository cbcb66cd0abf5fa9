-- What is written of a query are tokens.
use Rattle.std.proofs.Common.{◌≡◌, ℕ, suc, ◌<◌, ◌^◌, ℤ, pos, negsuc, FitsSigned, Bool, true, false, ◌&&◌, not, List, [], ◌∷◌, ◌++◌, refl, arith}
use Rattle.std.specs.Prelude.{if◌then◌else◌, codes}
use Rattle.std.specs.Fmt.{decimal}
use Rattle.std.specs.Int.{w64}
use Rattle.std.specs.List.{AllByRecursion, list_all}
use Rattle.std.proofs.lemmas.Bool.{false≢true}
use Rattle.ps_frame.specs.declared.expr.Operator.{Operator}
use Rattle.ps_frame.specs.declared.expr.Operator.TheVariants as op
use Rattle.ps_frame.specs.declared.value.DataType.{DataType}
use Rattle.ps_frame.specs.declared.value.DataType.TheVariants as kind
use Rattle.ps_meaning.specs.declared.options.JoinType.{JoinType}
use Rattle.ps_meaning.specs.declared.options.JoinType.TheVariants as how
use Rattle.text_laws.specs.Widths.{ExprFits, ItemsFit, KeysFit, StageFits, QueryFits}
use Rattle.text_laws.proofs.WrittenNumbers.{decimal_token}
use Rattle.text_queries.specs.Grammar.{is_reserved, function_word, kind_word, how_word, truth_word, operator_token, IsName}
use Rattle.text_queries.specs.Queries.{Expr, Name, Int, Text, Truth, Null, Call, Len, Binary, Item, Key, Stage, Filter, Select, With, Group, Sort, Slice, Distinct, Join, Query}
use Rattle.text_queries.specs.Writing.{name_token, integer_tokens, in_parentheses, expr_tokens, operand_tokens, with_commas, item_tokens, key_tokens, on_tokens, stage_tokens, stages_tokens, query_tokens}
use Rattle.text_queries.specs.declared.words.TextFn.{TextFn}
use Rattle.text_queries.specs.declared.words.TextFn.TheVariants as fun
use Rattle.text_tokens.specs.Runs.{begins, is_letter, is_word_byte}
use Rattle.text_tokens.specs.Tokens.{IsToken}
use Rattle.text_tokens.specs.declared.token.Sign.TheVariants as sign
use Rattle.text_tokens.specs.declared.token.Token.{Token}
use Rattle.text_tokens.specs.declared.token.Token.TheVariants as token

abbrev AreTokens : List Token → Type 0
AreTokens ts = AllByRecursion IsToken ts

joined : (xs ys : List Token) → AreTokens xs → AreTokens ys → AreTokens (xs ++ ys)
joined [] ys all others = others
joined (x ∷ xs) ys all others = (all.0, joined xs ys all.1 others)

-- a word, or a name in quotes
name_is : (p q r b : Bool) (name : List ℕ) → (p && (q && not r)) ≡ b → (begins is_letter name ≡ p) × (list_all is_word_byte name ≡ q) × (is_reserved name ≡ r)
    → IsToken (if b then token.Word name else token.Name name) × IsName (if b then token.Word name else token.Name name) name
name_is p q r false name is parts = (tt, refl)
name_is true true false true name is parts = ((parts.0, parts.1), (refl, parts.2))
name_is true true true true name is parts = absurd (false≢true is)
name_is true false r true name is parts = absurd (false≢true is)
name_is false q r true name is parts = absurd (false≢true is)

pub name_token_is : (name : List ℕ) → IsToken (name_token name)
name_token_is name = (name_is _ _ _ _ name refl (refl, refl, refl)).0

pub name_reads : (name : List ℕ) → IsName (name_token name) name
name_reads name = (name_is _ _ _ _ name refl (refl, refl, refl)).1

integer_are : (n : ℤ) → FitsSigned w64 n → AreTokens (integer_tokens n)
integer_are (pos n) fits = let below : n < 2 ^ 63 = fits.sfits in (decimal_token n (omega arith), tt)
integer_are (negsuc n) fits = let below : n < 2 ^ 63 = fits.sfits in (tt, (decimal_token (suc n) (omega arith), tt))

truth_is : (b : Bool) → IsToken (token.Word (truth_word b))
truth_is true = (refl, refl)
truth_is false = (refl, refl)

kind_is : (k : DataType) → IsToken (token.Word (kind_word k))
kind_is kind.Boolean = (refl, refl)
kind_is kind.Int64 = (refl, refl)
kind_is kind.IdxSize = (refl, refl)
kind_is kind.String = (refl, refl)

function_is : (f : TextFn) → IsToken (token.Word (function_word f))
function_is fun.Min = (refl, refl)
function_is fun.Max = (refl, refl)
function_is fun.First = (refl, refl)
function_is fun.Last = (refl, refl)
function_is fun.Sum = (refl, refl)
function_is fun.NUnique = (refl, refl)
function_is fun.Count = (refl, refl)
function_is fun.Not = (refl, refl)
function_is fun.IsNull = (refl, refl)
function_is fun.IsNotNull = (refl, refl)

how_is : (h : JoinType) → IsToken (token.Word (how_word h))
how_is how.Inner = (refl, refl)
how_is how.Left = (refl, refl)
how_is how.Right = (refl, refl)
how_is how.Full = (refl, refl)
how_is how.Semi = (refl, refl)
how_is how.Anti = (refl, refl)
how_is how.Cross = (refl, refl)

operator_is : (o : Operator) → IsToken (operator_token o)
operator_is op.Or = (refl, refl)
operator_is op.And = (refl, refl)
operator_is op.Eq = tt
operator_is op.NotEq = tt
operator_is op.Lt = tt
operator_is op.LtEq = tt
operator_is op.Gt = tt
operator_is op.GtEq = tt
operator_is op.Plus = tt
operator_is op.Minus = tt
operator_is op.Multiply = tt
operator_is op.FloorDivide = tt
operator_is op.Modulus = tt

enclosed : (ts : List Token) → AreTokens ts → AreTokens (in_parentheses ts)
enclosed ts all = (tt, joined ts (token.Sign sign.Close ∷ []) all (tt, tt))

operand_are : (e : Expr) → AreTokens (expr_tokens e) → AreTokens (operand_tokens e)
operand_are (Name n) all = all
operand_are (Int n) all = all
operand_are (Text t) all = all
operand_are (Truth b) all = all
operand_are (Null k) all = all
operand_are (Call f e) all = all
operand_are Len all = all
operand_are (Binary o l r) all = enclosed (expr_tokens (Binary o l r)) all

pub expr_are : (e : Expr) → ExprFits e → AreTokens (expr_tokens e)
expr_are (Name n) fits = (name_token_is n, tt)
expr_are (Int n) fits = integer_are n fits
expr_are (Text t) fits = (tt, tt)
expr_are (Truth b) fits = (truth_is b, tt)
expr_are (Null k) fits = ((refl, refl), (kind_is k, tt))
expr_are (Call f e) fits = (function_is f, enclosed (expr_tokens e) (expr_are e fits))
expr_are Len fits = ((refl, refl), (tt, (tt, tt)))
expr_are (Binary o l r) fits =
    joined (operand_tokens l) (operator_token o ∷ operand_tokens r) (operand_are l (expr_are l fits.0)) (operator_is o, operand_are r (expr_are r fits.1))

commas_are : {X : Type 0} (f : X → List Token) → (xs : List X) → AllByRecursion (λ x. AreTokens (f x)) xs → AreTokens (with_commas f xs)
commas_are f [] all = tt
commas_are f (x ∷ []) all = all.0
commas_are f (x ∷ y ∷ xs) all = joined (f x) (token.Sign sign.Comma ∷ with_commas f (y ∷ xs)) all.0 (tt, commas_are f (y ∷ xs) all.1)

each_item : (items : List Item) → ItemsFit items → AllByRecursion (λ item. AreTokens (item_tokens item)) items
each_item [] fits = tt
each_item (item ∷ items) fits = ((name_token_is item.name, (tt, expr_are item.expr fits.0)), each_item items fits.1)

items_are : (items : List Item) → ItemsFit items → AreTokens (with_commas item_tokens items)
items_are items fits = commas_are item_tokens items (each_item items fits)

desc_are : (desc : Bool) → AreTokens (if desc then token.Word (codes "desc") ∷ [] else [])
desc_are true = ((refl, refl), tt)
desc_are false = tt

each_key : (keys : List Key) → KeysFit keys → AllByRecursion (λ key. AreTokens (key_tokens key)) keys
each_key [] fits = tt
each_key (key ∷ keys) fits = (joined (expr_tokens key.expr) (if key.desc then token.Word (codes "desc") ∷ [] else []) (expr_are key.expr fits.0) (desc_are key.desc), each_key keys fits.1)

each_name : (names : List (List ℕ)) → AllByRecursion (λ name. AreTokens (name_token name ∷ [])) names
each_name [] = tt
each_name (name ∷ names) = ((name_token_is name, tt), each_name names)

named_are : (on : List (List ℕ)) → AreTokens (token.Word (codes "on") ∷ with_commas (λ name. name_token name ∷ []) on)
named_are on = ((refl, refl), commas_are (λ name. name_token name ∷ []) on (each_name on))

on_are : (h : JoinType) (on : List (List ℕ)) → AreTokens (on_tokens h on)
on_are how.Inner on = named_are on
on_are how.Left on = named_are on
on_are how.Right on = named_are on
on_are how.Full on = named_are on
on_are how.Semi on = named_are on
on_are how.Anti on = named_are on
on_are how.Cross on = tt

stage_are : (stage : Stage) → StageFits stage → AreTokens (stage_tokens stage)
stage_are (Filter predicate) fits = ((refl, refl), expr_are predicate fits)
stage_are (Select items) fits = ((refl, refl), items_are items fits)
stage_are (With items) fits = ((refl, refl), items_are items fits)
stage_are (Group keys aggs) fits =
    ((refl, refl), joined (with_commas item_tokens keys) (token.Word (codes "agg") ∷ with_commas item_tokens aggs) (items_are keys fits.0) ((refl, refl), items_are aggs fits.1))
stage_are (Sort keys) fits = ((refl, refl), commas_are key_tokens keys (each_key keys fits))
stage_are (Slice offset length) fits = ((refl, refl), joined (integer_tokens offset) (token.Digits (decimal length) ∷ []) (integer_are offset fits.0) (decimal_token length fits.1, tt))
stage_are Distinct fits = ((refl, refl), tt)
stage_are (Join kept table on) fits = ((refl, refl), (how_is kept, (name_token_is table, on_are kept on)))

stages_are : (stages : List Stage) → AllByRecursion StageFits stages → AreTokens (stages_tokens stages)
stages_are [] fits = tt
stages_are (stage ∷ stages) fits = (tt, joined (stage_tokens stage) (stages_tokens stages) (stage_are stage fits.0) (stages_are stages fits.1))

pub query_are : (query : Query) → QueryFits query → AllByRecursion IsToken (query_tokens query)
query_are query fits = ((refl, refl), (name_token_is query.source, stages_are query.stages fits))
