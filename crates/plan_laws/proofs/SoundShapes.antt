-- How a small shape is shown to be sound.
use Rattle.std.proofs.Common.{◌≡◌, ℕ, zero, suc, ◌<◌, Bool, true, false, not, ◌&&◌, ◌||◌, List, [], ◌∷◌, Some, None, refl, sym, ap, subst, ◌∙◌, inl, inr, arith}
use Rattle.std.proofs.lemmas.Option.{same_Some}
use Rattle.std.proofs.lemmas.Slice.Eq.{bytes_eq-Decides}
use Rattle.std.specs.Prelude.{IsTrue, ⊤}
use Rattle.std.specs.Str.{bytes_eq}
use Rattle.ps_frame.proofs.Lists.{both}
use Rattle.ps_frame.specs.Functions.{Functions}
use Rattle.ps_frame.specs.Tables.{Fields, Frame}
use Rattle.ps_frame.specs.declared.expr.What.TheVariants as what
use Rattle.ps_meaning.specs.Schemas.{first_schema, is_among, names_of, output_schema}
use Rattle.ps_meaning.specs.Shape.{PhysicalNode, Shape}
use Rattle.ps_meaning.specs.Sound.{BreaksNoRule, EachNode}
use Rattle.ps_meaning.specs.StepRefusals.{HasBadKeys, HasLiteralAggregate, HasNoKey, IsMissingColumn, IsRepeated, IsValidated, Refusal, StepMismatch, TypingRefused, WouldRepeat, break_rules, column_not_found, duplicate, own_exprs, repeats, schema_mismatch, unsupported}
use Rattle.ps_meaning.specs.Steps.{Name, Step, memory_sink, scan}
use Rattle.ps_meaning.proofs.StepFits.{not-true}

-- this holds of each node under its number
abbrev pub AllAt : (ℕ → PhysicalNode → Type 0) → Shape → Type 0
AllAt P [] = ⊤
AllAt P (p ∷ ps) = P 0 p × AllAt (λ n. P (suc n)) ps

pub each-node : (P : ℕ → PhysicalNode → Type 0) (ps : Shape) → AllAt P ps → EachNode ps P
each-node P [] all n p e = cc
each-node P (q ∷ ps) all zero p e = subst (P 0) (same_Some q p e) all.0
each-node P (q ∷ ps) all (suc n) p e = each-node (λ m. P (suc m)) ps all.1 n p e

-- each port has one reader: of none, of one and of two
pub no-port : (f : ℕ → ℕ) (port : ℕ) → port < 0 → f port ≡ 1
no-port f port h = absurd (omega arith)

pub one-port : (f : ℕ → ℕ) → f 0 ≡ 1 → (port : ℕ) → port < 1 → f port ≡ 1
one-port f e zero h = e
one-port f e (suc port) h = absurd (omega arith)

pub two-ports : (f : ℕ → ℕ) → f 0 ≡ 1 → f 1 ≡ 1 → (port : ℕ) → port < 2 → f port ≡ 1
two-ports f e g zero h = e
two-ports f e g (suc zero) h = g
two-ports f e g (suc (suc port)) h = absurd (omega arith)

-- names of which none stands twice
abbrev pub names_differ : List Name → Bool
names_differ [] = true
names_differ (n ∷ ns) = not (is_among n ns) && names_differ ns

pub none-repeats : (ns : List Name) → names_differ ns ≡ true → (n : Name) → repeats n ns ≡ true → ⊥
none-repeats [] d n h = cc
none-repeats (m ∷ ms) d n h =
    let parts = both (not (is_among m ms)) (names_differ ms) d in
    by (bytes_eq n m) refl (not-true (is_among m ms) parts.0) (none-repeats ms parts.1 n) h
  where
    by : (b : Bool) → bytes_eq n m ≡ b → is_among m ms ≡ false → (repeats n ms ≡ true → ⊥) → ((b && is_among n ms) || repeats n ms) ≡ true → ⊥
    by true q away rest h =
        let same : n ≡ m = (bytes_eq-Decides n m).0 q in
        let none : is_among n ms ≡ false = ap (λ k. is_among k ms) same ∙ away in
        rest (ap (λ b. b || repeats n ms) (sym none) ∙ h)
    by false q away rest h = rest h

-- the rules on the parameters of a node, one by one
pub record KeepsRules (F : Functions) (step : Step) (ss : List Fields) : Type 0 where
  pub keys : HasBadKeys step → ⊥
  pub key : HasNoKey step → ⊥
  pub validated : IsValidated step → ⊥
  pub missing : (n : Name) → IsMissingColumn n step ss → ⊥
  pub repeated : (n : Name) → IsRepeated n step → ⊥
  pub names : (n : Name) → WouldRepeat F n step ss → ⊥
  pub kinds : StepMismatch F step ss → ⊥
  pub typed : IsTrue (break_rules (first_schema ss) (own_exprs step)) → ⊥
  pub columns : output_schema F step ss ≡ Some [] → ⊥
  pub literal : HasLiteralAggregate step → ⊥

pub keeps-rules : (F : Functions) (step : Step) (ss : List Fields) → KeepsRules F step ss → BreaksNoRule F step ss
keeps-rules F step ss k = (k.keys, k.key, k.validated, typing)
  where
    typing : (R : Refusal) → TypingRefused F step ss R → ⊥
    typing (column_not_found n) h = k.missing n h
    typing (duplicate n) (inl h) = k.repeated n h
    typing (duplicate n) (inr h) = k.names n h
    typing schema_mismatch (inl h) = k.kinds h
    typing schema_mismatch (inr h) = k.typed h
    typing (unsupported what.NoColumns) h = k.columns h
    typing (unsupported what.LiteralAggregate) h = k.literal h
    typing (unsupported _) h = h
    typing _ h = h

-- of a source, and of what hands its input on
pub source-rules : (F : Functions) (f : Frame) → names_differ (names_of f.schema) ≡ true → (Some f.schema ≡ Some [] → ⊥) → BreaksNoRule F (scan f None) []
source-rules F f differ some =
    keeps-rules F (scan f None) []
    (record { keys = λ h. h; key = λ h. h; validated = λ h. h; missing = λ n h. cc; repeated = λ n h. h; names = none-repeats (names_of f.schema) differ; kinds = λ h. h; typed = λ h. cc; columns = some; literal = λ h. h })

pub sink-rules : (F : Functions) (s : Fields) → names_differ (names_of s) ≡ true → (Some s ≡ Some [] → ⊥) → BreaksNoRule F memory_sink (s ∷ [])
sink-rules F s differ some =
    keeps-rules F memory_sink (s ∷ [])
    (record { keys = λ h. h; key = λ h. h; validated = λ h. h; missing = λ n h. cc; repeated = λ n h. h; names = none-repeats (names_of s) differ; kinds = λ h. h; typed = λ h. cc; columns = some; literal = λ h. h })
