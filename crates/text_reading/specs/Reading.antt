-- What the readers of parts of a query answer: the part at the front of some tokens, and the tokens behind it.
use Rattle.std.specs.Prelude.{◌≡◌, ◌≢◌, ℕ, suc, ◌<◌, ◌≤◌, List, [], ◌∷◌, ◌++◌, Result, Ok, Err, IfOk, codes}
use Rattle.std.specs.Borrow.{Bor}
use Rattle.ps_frame.specs.declared.expr.Operator.{Operator}
use Rattle.text_queries.specs.Grammar.{AreStages, IsExpr, IsQuery, IsStage, binding, operator_token}
use Rattle.text_queries.specs.Queries.{Expr, Len, Query, Stage, depth, expr_depth, greatest, stage_depth}
use Rattle.text_tokens.specs.declared.error.TextError.{TextError}
use Rattle.text_tokens.specs.declared.error.TextError.TheVariants as refusal
use Rattle.text_tokens.specs.declared.token.Sign.TheVariants as sign
use Rattle.text_tokens.specs.declared.token.Token.{Token}
use Rattle.text_tokens.specs.declared.token.Token.TheVariants as token

-- what was found, seen by view, stands at the front, as P says, and the tokens behind it were answered too
abbrev pub Found : {X Y : Type 0} → (List Token → Y → Type 0) → (X → Y) → List Token → Result (X × Bor (List Token)) TextError → Type 0
Found P view tokens result = IfOk result (λ x. (front : List Token) × (tokens ≡ front ++ x.1.now) × P front (view x.0))

-- this part was answered, with the tokens behind it, or there was no memory
abbrev pub Gives : {X Y : Type 0} → (X → Y) → Result (X × Bor (List Token)) TextError → Y → List Token → Type 0
Gives view (Ok x) part rest = (view x.0 ≡ part) × (x.1.now ≡ rest)
Gives view (Err error) part rest = error ≡ refusal.OutOfMemory

-- whatever part stands at the front, with what may stand behind it, is given
abbrev pub ReadsEach : {X Y : Type 0} → (List Token → Y → Type 0) → (List Token → Type 0) → (X → Y) → List Token → Result (X × Bor (List Token)) TextError → Type 0
ReadsEach {Y = Y} P Follows view tokens result = (front rest : List Token) (part : Y) → tokens ≡ front ++ rest → P front part → Follows rest → Gives view result part rest

-- an error other than want of memory says that there is no reading
abbrev pub IsRefusal : TextError → Type 0
IsRefusal error = (name : List ℕ) → error ≢ refusal.UnknownTable name

-- anything may stand behind
abbrev pub Anything : List Token → Type 0
Anything rest = Unit {0}

-- with this token before it
abbrev pub Behind : {Y : Type 0} → Token → (List Token → Y → Type 0) → List Token → Y → Type 0
Behind first P ts part = P (first ∷ ts) part

-- an expression without operators and parentheses
abbrev pub IsLeaf : List Token → Expr → Type 0
IsLeaf ts e = IsExpr 0 6 ts e

-- an expression that isn't too deep
abbrev pub IsShallow : (List Token → Expr → Type 0) → List Token → Expr → Type 0
IsShallow P ts e = P ts e × (expr_depth e ≤ 200)

-- an expression with the parenthesis that closes it; the one that opens it stands before
abbrev pub IsClosed : ℕ → List Token → Expr → Type 0
IsClosed opens ts e = (fewer : ℕ) × (inner : List Token) × (opens ≡ suc fewer) × (ts ≡ inner ++ token.Sign sign.Close ∷ []) × IsExpr fewer 1 inner e

-- a call, of which the word and the parenthesis that opens stand before
abbrev pub IsCall : ℕ → List ℕ → List Token → Expr → Type 0
IsCall opens word ts e = IsExpr opens 6 (token.Word word ∷ token.Sign sign.Open ∷ ts) e

-- the number of rows, where `len` and the parenthesis that opens stand before
abbrev pub IsLenOf : ℕ → List ℕ → List Token → Expr → Type 0
IsLenOf opens word ts e = (1 ≤ opens) × (word ≡ codes "len") × (ts ≡ token.Sign sign.Close ∷ []) × (e ≡ Len)

-- what may stand behind an expression: no operator that binds at least so tightly, and no parenthesis that opens
pub record Ends (least : ℕ) (rest : List Token) : Type 0 where
  pub no_operator : (o : Operator) (more : List Token) → rest ≡ operator_token o ∷ more → binding o < least
  pub no_call : (more : List Token) → rest ≢ token.Sign sign.Open ∷ more

-- the same, and no `desc`, which would be the key's
pub record EndsKey (rest : List Token) : Type 0 where
  pub ends : Ends 1 rest
  pub no_desc : (more : List Token) → rest ≢ token.Word (codes "desc") ∷ more

-- what may stand behind a list: what may stand behind its last entry, and no comma
pub record EndsList (Follows : List Token → Type 0) (rest : List Token) : Type 0 where
  pub ends : Follows rest
  pub no_comma : (more : List Token) → rest ≢ token.Sign sign.Comma ∷ more

-- what may stand behind a stage: nothing, or the sign before the next
abbrev pub EndsStage : List Token → Type 0
EndsStage rest = (first : Token) (more : List Token) → rest ≡ first ∷ more → first ≡ token.Sign sign.Bar

-- what holds an expression that isn't too deep
abbrev pub HoldsShallow : {X : Type 0} → (List Token → X → Type 0) → (X → Expr) → List Token → X → Type 0
HoldsShallow P expr ts x = P ts x × (expr_depth (expr x) ≤ 200)

abbrev pub IsShallowStage : List Token → Stage → Type 0
IsShallowStage ts stage = IsStage ts stage × (stage_depth stage ≤ 200)

-- the stage behind its first word
abbrev pub BehindWord : List ℕ → List Token → Stage → Type 0
BehindWord word ts stage = IsShallowStage (token.Word word ∷ ts) stage

-- all the tokens are these stages, none of them too deep
abbrev pub AreShallowStages : List Token → List Stage → Type 0
AreShallowStages ts stages = AreStages ts stages × (greatest stage_depth stages ≤ 200)

-- all the tokens are the query, which isn't too deep
abbrev pub IsShallowQuery : List Token → Query → Type 0
IsShallowQuery ts query = IsQuery ts query × (depth query ≤ 200)

-- this value was answered, seen by view, or there was no memory
abbrev pub IsAnswer : {X Y : Type 0} → (X → Y) → Result X TextError → Y → Type 0
IsAnswer view (Ok x) value = view x ≡ value
IsAnswer view (Err error) value = error ≡ refusal.OutOfMemory
