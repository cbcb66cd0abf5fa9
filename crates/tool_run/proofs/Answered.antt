-- What the answer of a query means for the document of its plan.
use Rattle.std.proofs.Common.{◌≡◌, inl, inr, ℕ, List, refl, sym, ◌∙◌, ap, subst}
use Rattle.std.specs.Prelude.{true, false, Some, String, string_bytes}
use Rattle.std.specs.declared.alloc.Global.{Global}
use Rattle.std.proofs.lemmas.Bool.{false≢true}
use Rattle.ps_frame.specs.Functions.{Functions}
use Rattle.ps_frame.specs.declared.refusal.PolarsError.{PolarsError}
use Rattle.ps_frame.specs.declared.refusal.PolarsError.TheVariants as error
use Rattle.ps_frame.specs.declared.value.DataFault.{DataFault}
use Rattle.ps_frame.specs.declared.value.DataFault.TheVariants as fault
use Rattle.ps_meaning.specs.Errors.{fault_error, refusal_error}
use Rattle.ps_plan.specs.Plans.{Plan}
use Rattle.ps_meaning.specs.StepRefusals.{Refusal, column_not_found, duplicate, invalid_plan, no_key, schema_mismatch, unsupported}
use Rattle.plain_queries.specs.Queries.{IsQueryError}
use Rattle.ps_validate.specs.Errors.{IsPlanError}
use Rattle.query_document.specs.QueryDocuments.{Asked, IsQueryDocumentOf}
use Rattle.text_plans.specs.QueryPlans.{first_unknown, query_tables, table_named}
use Rattle.text_queries.specs.Grammar.{ReadsAs}
use Rattle.text_queries.specs.Queries.{Query}
use Rattle.text_tokens.specs.declared.error.TextError.{TextError}
use Rattle.text_tokens.specs.declared.error.TextError.TheVariants as refusal
use Rattle.tool_words.specs.Words.{AsksTable, IsText}
use Rattle.tool_run.specs.Answers.{IsUnanswered, error_line}
use Rattle.tool_run.specs.Asked.{IsAskedPlan, Words}
use Rattle.tool_run.specs.Errors.{IsOutcomeOf, is_refusal}
use Rattle.tool_run.specs.declared.outcome.Outcome.{Outcome}
use Rattle.tool_run.specs.declared.outcome.Outcome.TheVariants as outcome

-- refusals and faults are told apart by their errors
refusal-is : (n : ℕ) (R : Refusal) → is_refusal (refusal_error n R) ≡ true
refusal-is n (invalid_plan w) = refl
refusal-is n (column_not_found name) = refl
refusal-is n (duplicate name) = refl
refusal-is n schema_mismatch = refl
refusal-is n no_key = refl
refusal-is n (unsupported w) = refl

fault-isn't : (n : ℕ) (f : DataFault) → is_refusal (fault_error n f) ≡ false
fault-isn't n fault.StrictCast = refl
fault-isn't n fault.SliceBound = refl
fault-isn't n fault.Function = refl
fault-isn't n fault.Shape = refl
fault-isn't n fault.RowIndex = refl
fault-isn't n fault.Gather = refl
fault-isn't n fault.Rows = refl

module _ (F : Functions) (words : Words) (bytes : List ℕ) (plan : Plan) (read : IsAskedPlan words bytes plan) where
  refused-line : (e : PolarsError) (line : String Global) → IsQueryError F plan e → is_refusal e ≡ true → string_bytes line ≡ error_line e → IsUnanswered F words bytes (outcome.Refused line)
  refused-line e line (inl m) told is = absurd (false≢true (sym (ap is_refusal m) ∙ told))
  refused-line e line (inr (inl r)) told is = (plan, read, (e, r, is))
  refused-line e line (inr (inr (valid, f))) told is = absurd (false≢true (sym (ap is_refusal f.is ∙ fault-isn't f.node f.fault) ∙ told))

  -- what a plan is refused for, and never a fault
  plan-error : (e : PolarsError) → IsPlanError F plan e → IsQueryError F plan e
  plan-error e (inl m) = inl m
  plan-error e (inr (n, R, is, refused)) = inr (inl (record { node = n; refusal = R; is = is; refused = refused }))

  never-of : (n : ℕ) (R : Refusal) (line : String Global) → IsOutcomeOf (refusal_error n R) (outcome.Faulted line) → ⊥
  never-of n (invalid_plan w) line h = false≢true (sym h.0)
  never-of n (column_not_found name) line h = false≢true (sym h.0)
  never-of n (duplicate name) line h = false≢true (sym h.0)
  never-of n schema_mismatch line h = false≢true (sym h.0)
  never-of n no_key line h = false≢true (sym h.0)
  never-of n (unsupported w) line h = false≢true (sym h.0)

  never-faulted : (e : PolarsError) (line : String Global) → IsPlanError F plan e → IsOutcomeOf e (outcome.Faulted line) → ⊥
  never-faulted e line (inl m) h = subst (λ e. IsOutcomeOf e (outcome.Faulted line)) m h
  never-faulted e line (inr (n, R, is, refused)) h = never-of n R line (subst (λ e. IsOutcomeOf e (outcome.Faulted line)) is h)

  pub unexplained-by : (e : PolarsError) (o : Outcome) → IsPlanError F plan e → IsOutcomeOf e o → IsUnanswered F words bytes o
  unexplained-by e (outcome.Refused line) q h = refused-line e line (plan-error e q) h.0 h.1
  unexplained-by e (outcome.Faulted line) q h = absurd (never-faulted e line q h)
  unexplained-by e outcome.Written q h = absurd h
  unexplained-by e outcome.Usage q h = absurd h
  unexplained-by e outcome.BadJson q h = absurd h
  unexplained-by e outcome.BadDocument q h = absurd h
  unexplained-by e outcome.BadQuery q h = absurd h
  unexplained-by e outcome.UnknownTable q h = absurd h
  unexplained-by e outcome.ReadFault q h = absurd h
  unexplained-by e outcome.WriteFault q h = absurd h
  unexplained-by e outcome.TooLong q h = absurd h
  unexplained-by e outcome.OutOfMemory q h = tt

module _ (F : Functions) (words : Words) (bytes : List ℕ) (plan : Plan) (read : IsAskedPlan words bytes plan) (asks : AsksTable words) where
  fault-line : (e : PolarsError) (line : String Global) → IsQueryError F plan e → (e ≡ error.OutOfMemory → ⊥) → is_refusal e ≡ false → string_bytes line ≡ error_line e → IsUnanswered F words bytes (outcome.Faulted line)
  fault-line e line (inl m) some told is = absurd (some m)
  fault-line e line (inr (inl r)) some told is = absurd (false≢true (sym told ∙ ap is_refusal r.is ∙ refusal-is r.node r.refusal))
  fault-line e line (inr (inr (valid, f))) some told is = (asks, (plan, read, (e, (valid, f), is)))

  pub unanswered-by : (e : PolarsError) (o : Outcome) → IsQueryError F plan e → IsOutcomeOf e o → IsUnanswered F words bytes o
  unanswered-by e (outcome.Refused line) q h = refused-line F words bytes plan read e line q h.0 h.1
  unanswered-by e (outcome.Faulted line) q h = faulted e line q h
    where
      faulted : (e : PolarsError) (line : String Global) → IsQueryError F plan e → IsOutcomeOf e (outcome.Faulted line) → IsUnanswered F words bytes (outcome.Faulted line)
      faulted error.OutOfMemory line q h = absurd h
      faulted (error.InvalidPlan n w) line q h = fault-line (error.InvalidPlan n w) line q (λ e. cc) h.0 h.1
      faulted (error.ColumnNotFound n w) line q h = fault-line (error.ColumnNotFound n w) line q (λ e. cc) h.0 h.1
      faulted (error.Duplicate n w) line q h = fault-line (error.Duplicate n w) line q (λ e. cc) h.0 h.1
      faulted (error.SchemaMismatch n) line q h = fault-line (error.SchemaMismatch n) line q (λ e. cc) h.0 h.1
      faulted (error.ComputeError n w) line q h = fault-line (error.ComputeError n w) line q (λ e. cc) h.0 h.1
      faulted (error.ShapeMismatch n) line q h = fault-line (error.ShapeMismatch n) line q (λ e. cc) h.0 h.1
      faulted (error.OutOfBounds n w) line q h = fault-line (error.OutOfBounds n w) line q (λ e. cc) h.0 h.1
      faulted (error.Unsupported n w) line q h = fault-line (error.Unsupported n w) line q (λ e. cc) h.0 h.1
  unanswered-by e outcome.Written q h = absurd h
  unanswered-by e outcome.Usage q h = absurd h
  unanswered-by e outcome.BadJson q h = absurd h
  unanswered-by e outcome.BadDocument q h = absurd h
  unanswered-by e outcome.BadQuery q h = absurd h
  unanswered-by e outcome.UnknownTable q h = absurd h
  unanswered-by e outcome.ReadFault q h = absurd h
  unanswered-by e outcome.WriteFault q h = absurd h
  unanswered-by e outcome.TooLong q h = absurd h
  unanswered-by e outcome.OutOfMemory q h = tt

-- a query that has no plan
module _ (F : Functions) (words : Words) (bytes : List ℕ) (text : IsText words) (asked : Asked) (read : IsQueryDocumentOf asked bytes) where
  pub unplanned-by : (e : TextError) (o : Outcome) → (e ≡ refusal.NoReading → (query : Query) → ReadsAs asked.query query → ⊥)
      → ((name : List ℕ) → e ≡ refusal.UnknownTable name → (query : Query) × ReadsAs asked.query query × (first_unknown (table_named asked.names asked.tables) (query_tables query) ≡ Some name))
      → (e ≡ refusal.NoReading → o ≡ outcome.BadQuery) → ((name : List ℕ) → e ≡ refusal.UnknownTable name → o ≡ outcome.UnknownTable) → (e ≡ refusal.OutOfMemory → o ≡ outcome.OutOfMemory) → IsUnanswered F words bytes o
  unplanned-by refusal.NoReading o none unknown a b d = subst (IsUnanswered F words bytes) (sym (a refl)) (text, (asked, read, none refl))
  unplanned-by (refusal.UnknownTable name) o none unknown a b d =
      let (query, reads, is) = unknown name refl in
      subst (IsUnanswered F words bytes) (sym (b name refl)) (text, (asked, read, (query, reads, (name, is))))
  unplanned-by refusal.OutOfMemory o none unknown a b d = subst (IsUnanswered F words bytes) (sym (d refl)) tt
