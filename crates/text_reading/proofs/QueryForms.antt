-- Stages one behind the other, and the query that they make.
use Rattle.std.proofs.Common.{◌≡◌, ℕ, ◌≤◌, max, List, [], ◌∷◌, ◌++◌, length, sym, refl, ap, ◌∙◌, subst, arith, append_assoc, append-nil}
use Rattle.std.specs.Prelude.{◌≢◌, Result, Ok, Err, IfOk, codes}
use Rattle.text_queries.specs.Grammar.{AreStages, IsColumn, IsQuery, ReadsAs}
use Rattle.text_queries.specs.Queries.{Query, Stage, greatest, stage_depth}
use Rattle.text_reading.specs.Reading.{AreShallowStages, EndsStage, IsAnswer, IsShallowQuery, IsShallowStage}
use Rattle.text_tokens.specs.declared.error.TextError.{TextError}
use Rattle.text_tokens.specs.declared.error.TextError.TheVariants as refusal
use Rattle.text_tokens.specs.Tokens.{AreTokens}
use Rattle.text_tokens.specs.declared.token.Sign.TheVariants as sign
use Rattle.text_tokens.specs.declared.token.Token.{Token}
use Rattle.text_tokens.specs.declared.token.Token.TheVariants as token

-- the stages that were read, and what is left of the tokens
pub record StagesRead (tokens : List Token) (stages : List Stage) (rest : List Token) : Type 0 where
  pub sound : (more : List Stage) → AreStages rest more → AreStages tokens (stages ++ more)
  pub low : greatest stage_depth stages ≤ 200
  pub only : (all : List Stage) → AreShallowStages tokens all → (more : List Stage) × (all ≡ stages ++ more) × AreShallowStages rest more

pub stages_none : (tokens : List Token) → StagesRead tokens [] tokens
stages_none tokens = record { sound = λ more h. h; low = omega arith; only = λ all h. (all, refl, h) }

greatest_append : (xs ys : List Stage) → greatest stage_depth (xs ++ ys) ≡ max (greatest stage_depth xs) (greatest stage_depth ys)
greatest_append [] ys = omega arith
greatest_append (x ∷ xs) ys = omega (arith, greatest_append xs ys)

-- what stands behind a stage ends it
pub stages_end : (rest : List Token) (stages : List Stage) → AreStages rest stages → EndsStage rest
stages_end rest [] h t more is = absurd (let none : t ∷ more ≡ [] = sym is ∙ h in cc)
stages_end rest (stage ∷ stages) h t more is =
    let all : t ∷ more ≡ token.Sign sign.Bar ∷ (h.0 ++ h.1) = sym is ∙ h.2 in
    let first : t ≡ token.Sign sign.Bar = cc in first

-- the first of the stages that are left, behind the bar
pub next_stage : (rest behind : List Token) (more : List Stage) → AreShallowStages rest more → rest ≡ token.Sign sign.Bar ∷ behind
    → (stage : Stage) × (stages : List Stage) × (first after : List Token) × (more ≡ stage ∷ stages) × (behind ≡ first ++ after) × IsShallowStage first stage × AreShallowStages after stages
next_stage rest behind [] h begins = absurd (let none : token.Sign sign.Bar ∷ behind ≡ [] = sym begins ∙ h.0 in cc)
next_stage rest behind (stage ∷ stages) h begins =
    let all : token.Sign sign.Bar ∷ behind ≡ token.Sign sign.Bar ∷ (h.0.0 ++ h.0.1) = sym begins ∙ h.0.2 in
    let split : behind ≡ h.0.0 ++ h.0.1 = cc in
    (stage, stages, h.0.0, h.0.1, refl, split, (h.0.3, omega (arith, h.1)), (h.0.4, omega (arith, h.1)))

-- one more stage
pub stages_more : (tokens : List Token) (stages : List Stage) (rest behind : List Token) (stage : Stage) (after : List Token) → StagesRead tokens stages rest → rest ≡ token.Sign sign.Bar ∷ behind
    → ((front : List Token) × (behind ≡ front ++ after) × IsShallowStage front stage)
    → ((front others : List Token) (part : Stage) → behind ≡ front ++ others → IsShallowStage front part → EndsStage others → (stage ≡ part) × (after ≡ others))
    → StagesRead tokens (stages ++ stage ∷ []) after
stages_more tokens stages rest behind stage after so_far begins found reads = record {
  sound = λ more h.
      subst (AreStages tokens) (sym (append_assoc stages (stage ∷ []) more))
      (so_far.sound (stage ∷ more) (found.0, after, begins ∙ ap (λ b. token.Sign sign.Bar ∷ b) found.1, found.2.0, h));
  low = omega (arith, greatest_append stages (stage ∷ []), so_far.low, found.2.1);
  only = λ all h. let left = so_far.only all h in step all left.0 left.1 (next_stage rest behind left.0 left.2 begins);
}
  where
    step : (all more : List Stage) → all ≡ stages ++ more → ((next : Stage) × (others : List Stage) × (first beyond : List Token) × (more ≡ next ∷ others) × (behind ≡ first ++ beyond) × IsShallowStage first next × AreShallowStages beyond others)
        → (left : List Stage) × (all ≡ (stages ++ stage ∷ []) ++ left) × AreShallowStages after left
    step all more is (next, others, first, beyond, more_is, split, here, left) =
        let same = reads first beyond next split here (stages_end beyond others left.0) in
        (others, is ∙ ap (λ m. stages ++ m) (more_is ∙ ap (λ s. s ∷ others) (sym same.0)) ∙ sym (append_assoc stages (stage ∷ []) others), subst (λ ts. AreShallowStages ts others) (sym same.1) left)

-- where the reader of a stage refuses, it says why
pub stages_refused : (Q : Type 0) (tokens : List Token) (stages : List Stage) (rest behind : List Token) → StagesRead tokens stages rest → rest ≡ token.Sign sign.Bar ∷ behind
    → ((front others : List Token) (part : Stage) → behind ≡ front ++ others → IsShallowStage front part → EndsStage others → Q) → (all : List Stage) → AreShallowStages tokens all → Q
stages_refused Q tokens stages rest behind so_far begins reads all h =
    let left = so_far.only all h in
    let next = next_stage rest behind left.0 left.2 begins in
    reads next.2 next.3 next.0 next.5 next.6 (stages_end next.3 next.1 next.7.0)

-- where no bar stands, there is no further stage
pub stages_stuck : (tokens : List Token) (stages : List Stage) (rest : List Token) → StagesRead tokens stages rest → rest ≢ [] → ((behind : List Token) → rest ≢ token.Sign sign.Bar ∷ behind) → (all : List Stage) → AreShallowStages tokens all → ⊥
stages_stuck tokens stages rest so_far some none all h = let left = so_far.only all h in of left.0 left.2.0
  where
    of : (more : List Stage) → AreStages rest more → ⊥
    of [] h = some h
    of (stage ∷ others) h = none (h.0 ++ h.1) h.2

-- at the end
pub stages_all : (tokens : List Token) (stages : List Stage) (rest : List Token) → StagesRead tokens stages rest → rest ≡ [] → AreShallowStages tokens stages × ((all : List Stage) → AreShallowStages tokens all → stages ≡ all)
stages_all tokens stages rest so_far end = (
  (subst (AreStages tokens) (append-nil stages) (so_far.sound [] end), so_far.low),
  λ all h. let left = so_far.only all h in sym (append-nil stages) ∙ ap (λ m. stages ++ m) (sym (of left.0 left.2.0)) ∙ sym left.1,
)
  where
    of : (more : List Stage) → AreStages rest more → more ≡ []
    of [] h = refl
    of (stage ∷ others) h = absurd (let none : [] ≡ token.Sign sign.Bar ∷ (h.0 ++ h.1) = sym end ∙ h.2 in cc)

pub record QueryParts (behind : List Token) (query : Query) : Type 0 where
  pub first : Token
  pub rest : List Token
  pub split : behind ≡ (first ∷ []) ++ rest
  pub named : IsColumn (first ∷ []) query.source
  pub stages : AreShallowStages rest query.stages

pub query_parts : (tokens behind : List Token) (query : Query) → IsShallowQuery tokens query → tokens ≡ token.Word (codes "from") ∷ behind → QueryParts behind query
query_parts tokens behind query h begins =
    let all : token.Word (codes "from") ∷ behind ≡ token.Word (codes "from") ∷ h.0.0 ∷ h.0.1 = sym begins ∙ h.0.2 in
    let split : behind ≡ h.0.0 ∷ h.0.1 = cc in
    record { first = h.0.0; rest = h.0.1; split = split; named = (h.0.0, refl, h.0.3); stages = (h.0.4, h.1) }

pub query_same : (source : List ℕ) (stages : List Stage) (query : Query) → source ≡ query.source → stages ≡ query.stages → (let made : Query = record { source = source; stages = stages } in made ≡ query)
query_same source stages query s t i = record { source = s i; stages = t i }

pub tokens_read : (text : List ℕ) (tokens : List Token) (query : Query) → ((others : List Token) → AreTokens others text → tokens ≡ others) → ReadsAs text query → IsShallowQuery tokens query
tokens_read text tokens query only h = (subst (λ ts. IsQuery ts query) (sym (only h.tokens h.cut)) h.is_query, h.not_deep)

pub nothing_left : (ts : List Token) → length ts ≡ 0 → ts ≡ []
nothing_left [] none = refl
nothing_left (t ∷ ts) none = absurd (omega (arith, none))

-- an answer of the reader of tokens is an answer for the text
pub answered : {X Y : Type 0} (view : X → Y) (P : Y → Type 0) (r : Result X TextError) → ((y : Y) → P y → IsAnswer view r y) → IfOk r (λ x. (y : Y) → P y → view x ≡ y)
answered view P (Ok x) h = h
answered view P (Err error) h = tt

pub unanswered : {X Y : Type 0} (view : X → Y) (P : Y → Type 0) (r : Result X TextError) → ((y : Y) → P y → IsAnswer view r y) → r ≡ Err refusal.NoReading → (y : Y) → ¬ P y
unanswered view P r h is y p = let memory : refusal.NoReading ≡ refusal.OutOfMemory = subst (λ s. IsAnswer view s y) is (h y p) in cc
