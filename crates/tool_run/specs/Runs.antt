-- What a run of the program is given, what it may write, and how it may end.
use Rattle.std.specs.Prelude.{◌≡◌, ◌≤◌, ◌⊎◌, ℕ, List, [], length, Option, Some, codes, string_bytes}
use Rattle.ps_document.specs.Document.{IsDocumentOf}
use Rattle.ps_frame.specs.Functions.{Functions}
use Rattle.ps_plan.specs.Plans.{Plan}
use Rattle.tool_words.specs.Words.{AreWords, AsksTable, IsHelp, IsText, IsVersion, ReadsDocument}
use Rattle.tool_run.specs.Answers.{HasPlan, IsAnswerText, IsFaultLine, IsNoPlanLine, IsRefusalLine, IsRowsLine, IsUnanswered}
use Rattle.tool_run.specs.Asked.{IsTextPlan, Words}
use Rattle.tool_run.specs.Outcomes.{line_of, status_of}
use Rattle.tool_ends.specs.Outside.{IsLonger, Rose, Writes, WritesFront}
use Rattle.tool_run.specs.declared.outcome.Outcome.{Outcome}
use Rattle.tool_run.specs.declared.outcome.Outcome.TheVariants as outcome

-- the greatest number of bytes of a document
abbrev pub max_document_bytes : ℕ
max_document_bytes = 67108864

-- a source tells that these bytes are left to be read, and they are few enough for a document
abbrev pub IsLeft : Option (List ℕ) → List ℕ → Type 0
IsLeft left bytes = (left ≡ Some bytes) × (length bytes ≤ max_document_bytes)

-- a source tells that the document of this plan is left to be read
abbrev pub IsPlanLeft : Option (List ℕ) → Plan → Type 0
IsPlanLeft left plan = (bytes : List ℕ) × IsLeft left bytes × IsDocumentOf plan bytes

-- a source tells that a document of a query with this plan is left to be read
abbrev pub IsTextPlanLeft : Option (List ℕ) → Plan → Type 0
IsTextPlanLeft left plan = (bytes : List ℕ) × IsLeft left bytes × IsTextPlan bytes plan

-- the bytes that were left are few enough for a document, and this holds of them, as far as the source tells them
abbrev pub OfBytes : Option (List ℕ) → (List ℕ → Type 0) → Type 0
OfBytes left P = (bytes : List ℕ) → left ≡ Some bytes → (length bytes ≤ max_document_bytes) × P bytes

-- the bytes that were left are a document, and this holds of a plan for which it asks, as far as the source tells them
abbrev pub OfPlan : Words → Option (List ℕ) → (Plan → Type 0) → Type 0
OfPlan words left P = OfBytes left (λ bytes. HasPlan words bytes P)

-- all that was left was read
abbrev pub IsReadWhole : Option (List ℕ) → Option (List ℕ) → Type 0
IsReadWhole left after = OfBytes left (λ _. after ≡ Some [])

-- what is written for `--help` and for `--version`
abbrev pub help_text : List ℕ
help_text = codes "plan_tool answers queries: a document of tables and a plan, or for `text` of tables, their names and a query, on standard input, the table as CSV on standard output, or for `explain` the physical plan.\n\nplan_tool run [--workers N] [--rows N] [--partitions N] [--seed N] [--serial]\nplan_tool text [--workers N] [--rows N] [--partitions N] [--seed N] [--serial]\nplan_tool explain [--workers N] [--rows N] [--partitions N] [--seed N] [--serial]\nplan_tool --help\nplan_tool --version\n"

abbrev pub version_text : List ℕ
version_text = codes "plan_tool 0.1.0\n"

-- a text that the program may write: for a document one that answers a plan for which it asks, else what was asked for
abbrev pub IsToolText : Functions → Words → Option (List ℕ) → List ℕ → Type 0
IsToolText F words left text =
    (ReadsDocument words × OfPlan words left (λ plan. IsAnswerText F words plan text))
    ⊎ (IsHelp words × (text ≡ help_text))
    ⊎ (IsVersion words × (text ≡ version_text))

-- the line of a run that ended with this status; where the document is the cause, the line says how. No explanation ends with a fault, and no query with another than Rows
pub record IsLine (F : Functions) (words : Words) (left : Option (List ℕ)) (status : ℕ) (line : List ℕ) : Type 0 where
  pub of_outcome : (o : Outcome) × (status ≡ status_of o) × (line ≡ line_of o)
  pub no_plan : status ≡ 3 → OfBytes left (λ bytes. IsNoPlanLine words bytes line)
  pub refused : status ≡ 4 → OfPlan words left (λ plan. IsRefusalLine F plan line)
  pub faulted : status ≡ 5 → OfPlan words left (λ plan. IsFaultLine F plan line)
  pub tables_fault : status ≡ 5 → AsksTable words
  pub queries_fault_by_rows : status ≡ 5 → IsText words → OfPlan words left (λ plan. IsRowsLine F plan line)

-- what a source had left and what was written, and the counts of their faults, before and after a run
pub record Outside : Type 0 where
  pub left : Option (List ℕ)
  pub left_after : Option (List ℕ)
  pub read_faults : ℕ
  pub read_faults_after : ℕ
  pub written : Option (List ℕ)
  pub written_after : Option (List ℕ)
  pub write_faults : ℕ
  pub write_faults_after : ℕ

-- why a run that wrote nothing ended so
abbrev pub IsCause : Functions → Words → Outside → Outcome → Type 0
IsCause F words s outcome.Usage = ¬ AreWords words
IsCause F words s outcome.OutOfMemory = AreWords words
IsCause F words s outcome.ReadFault = ReadsDocument words × Rose s.read_faults s.read_faults_after
IsCause F words s outcome.TooLong = ReadsDocument words × IsLonger max_document_bytes s.left
IsCause F words s (outcome.Faulted line) = AsksTable words × OfPlan words s.left (λ plan. IsFaultLine F plan (string_bytes line))
IsCause F words s o = ReadsDocument words × OfBytes s.left (λ bytes. IsUnanswered F words bytes o)

-- an outcome that has its cause; what is written is a text, a front of one where a write failed, or nothing
abbrev pub IsEnd : Functions → Words → Outside → Outcome → Type 0
IsEnd F words s outcome.Written = Writes (IsToolText F words s.left) s.written s.written_after × (ReadsDocument words → IsReadWhole s.left s.left_after)
IsEnd F words s outcome.WriteFault = WritesFront (IsToolText F words s.left) s.written s.written_after × Rose s.write_faults s.write_faults_after
IsEnd F words s o = IsCause F words s o × (s.written_after ≡ s.written)
