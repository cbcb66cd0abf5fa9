-- What answers a document, and why one has no answer.
use Rattle.std.specs.Prelude.{◌≡◌, ◌⊎◌, ℕ, List, ◌++◌, codes, string_bytes, ⊤}
use Rattle.ps_document.specs.Document.{IsJson}
use Rattle.plain_queries.specs.Queries.{IsFault, IsQueryAnswer, IsRefusal}
use Rattle.ps_frame.specs.Csv.{csv_text_of}
use Rattle.ps_frame.specs.Functions.{Functions}
use Rattle.ps_frame.specs.Lines.{refusal_line}
use Rattle.ps_frame.specs.Tables.{Frame}
use Rattle.ps_frame.specs.declared.refusal.PolarsError.{PolarsError}
use Rattle.ps_frame.specs.declared.value.DataFault.TheVariants as fault
use Rattle.physical_plans.specs.PhysicalPlans.{IsPhysicalPlan}
use Rattle.ps_meaning.specs.Errors.{fault_error}
use Rattle.ps_meaning.specs.Shape.{Shape}
use Rattle.ps_phys.specs.Printed.{plan_text}
use Rattle.ps_plan.specs.PlanMeanings.{NodeMayFault}
use Rattle.ps_plan.specs.Plans.{Plan}
use Rattle.ps_plan.specs.Refusals.{IsValid}
use Rattle.tool_words.specs.Words.{AsksTable, IsExplain}
use Rattle.tool_run.specs.Asked.{HasNoReading, HasUnknownTable, IsAskedPlan, IsWantedDocument, Words}
use Rattle.tool_run.specs.declared.outcome.Outcome.{Outcome}
use Rattle.tool_run.specs.declared.outcome.Outcome.TheVariants as outcome

-- the bytes are a document, and this holds of a plan for which it asks
abbrev pub HasPlan : Words → List ℕ → (Plan → Type 0) → Type 0
HasPlan words bytes P = (plan : Plan) × IsAskedPlan words bytes plan × P plan

-- the plan is valid, and the text is the CSV text of a whole table that its root means
abbrev pub IsPlanText : Functions → Plan → List ℕ → Type 0
IsPlanText F plan text = (table : Frame) × IsQueryAnswer F plan table × (text ≡ csv_text_of table)

-- the plan is valid, and the text is that of the physical plan which the rules of lowering give for it
abbrev pub IsExplanation : Functions → Plan → List ℕ → Type 0
IsExplanation F plan text = IsValid F plan × ((shape : Shape) × IsPhysicalPlan F plan shape × (text ≡ plan_text shape))

-- the text answers the plan as the words ask
pub record IsAnswerText (F : Functions) (words : Words) (plan : Plan) (text : List ℕ) : Type 0 where
  pub table : AsksTable words → IsPlanText F plan text
  pub explanation : IsExplain words → IsExplanation F plan text

-- the line of an error
abbrev pub error_line : PolarsError → List ℕ
error_line e = refusal_line e ++ codes "\n"

-- the line is that of a refusal of the plan
abbrev pub IsRefusalLine : Functions → Plan → List ℕ → Type 0
IsRefusalLine F plan line = (e : PolarsError) × IsRefusal F plan e × (line ≡ error_line e)

-- the plan is valid, and the line is that of a fault with which it may end
abbrev pub IsFaultLine : Functions → Plan → List ℕ → Type 0
IsFaultLine F plan line = (e : PolarsError) × (IsValid F plan × IsFault F plan e) × (line ≡ error_line e)

-- the plan is valid, and the line is that of a table or a column of a node that may pass the greatest number of rows
abbrev pub IsRowsLine : Functions → Plan → List ℕ → Type 0
IsRowsLine F plan line = (n : ℕ) × NodeMayFault F plan n fault.Rows × (line ≡ error_line (fault_error n fault.Rows))

-- the line tells why the bytes ask for no plan
abbrev pub IsNoPlanLine : Words → List ℕ → List ℕ → Type 0
IsNoPlanLine words bytes line =
    ((¬ IsJson bytes) × (line ≡ codes "BadJson\n"))
    ⊎ ((IsJson bytes × ¬ IsWantedDocument words bytes) × (line ≡ codes "BadDocument\n"))
    ⊎ (HasNoReading words bytes × (line ≡ codes "BadQuery\n"))
    ⊎ (HasUnknownTable words bytes × (line ≡ codes "UnknownTable\n"))

-- why bytes have no answer; want of memory needs no cause
abbrev pub IsUnanswered : Functions → Words → List ℕ → Outcome → Type 0
IsUnanswered F words bytes outcome.BadJson = ¬ IsJson bytes
IsUnanswered F words bytes outcome.BadDocument = IsJson bytes × ¬ IsWantedDocument words bytes
IsUnanswered F words bytes outcome.BadQuery = HasNoReading words bytes
IsUnanswered F words bytes outcome.UnknownTable = HasUnknownTable words bytes
IsUnanswered F words bytes (outcome.Refused line) = HasPlan words bytes (λ plan. IsRefusalLine F plan (string_bytes line))
IsUnanswered F words bytes (outcome.Faulted line) = AsksTable words × HasPlan words bytes (λ plan. IsFaultLine F plan (string_bytes line))
IsUnanswered F words bytes outcome.OutOfMemory = ⊤
IsUnanswered F words bytes _ = ⊥
