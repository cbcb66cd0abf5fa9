-- What follows of how a run ended.
use Rattle.std.proofs.Common.{◌≡◌, ◌⊎◌, ◌==◌, inl, inr, ℕ, ◌<◌, ◌≤◌, List, [], length, refl, sym, ◌∙◌, ap, subst, arith}
use Rattle.std.specs.Prelude.{MatchBool, Option, Some, None, String, string_bytes, ⊤}
use Rattle.std.specs.declared.alloc.Global.{Global}
use Rattle.ps_frame.specs.Functions.{Functions, IsLawful}
use Rattle.ps_frame.specs.declared.value.DataFault.TheVariants as fault
use Rattle.ps_meaning.specs.Errors.{fault_error}
use Rattle.text_faults.proofs.RowsAlone.{rows-alone}
use Rattle.ps_frame.specs.declared.value.DataFault.{DataFault}
use Rattle.ps_document.proofs.OnePlan.{one_plan}
use Rattle.ps_document.specs.Document.{IsDocument, IsDocumentOf, IsJson}
use Rattle.query_document.proofs.OneQuery.{one_query}
use Rattle.query_document.specs.QueryDocuments.{Asked}
use Rattle.text_plans.specs.QueryPlans.{first_unknown, query_tables, table_named}
use Rattle.text_queries.specs.Grammar.{ReadsAs}
use Rattle.text_queries.specs.Queries.{Query}
use Rattle.ps_plan.specs.PlanMeanings.{NodeMayFault, NothingBreaks}
use Rattle.ps_plan.specs.Plans.{Plan}
use Rattle.ps_plan.specs.Refusals.{IsValid}
use Rattle.tool_words.proofs.OneCommand.{explain-not-help, explain-not-version, not-explain, not-help, not-text, not-version, text-not-explain, text-not-help, text-not-version}
use Rattle.tool_words.specs.Words.{AreWords, AsksTable, IsExplain, IsHelp, IsRun, IsText, IsVersion, ReadsDocument, ReadsPlan}
use Rattle.tool_run.specs.Answers.{HasPlan, IsAnswerText, IsExplanation, IsFaultLine, IsNoPlanLine, IsPlanText, IsRefusalLine, IsRowsLine, IsUnanswered, error_line}
use Rattle.tool_run.specs.Asked.{HasNoReading, HasUnknownTable, IsAskedPlan, IsTextPlan, IsWantedBy, IsWantedDocument, Words}
use Rattle.tool_run.specs.declared.answer.Wanted.{Wanted}
use Rattle.tool_run.specs.declared.answer.Wanted.TheVariants as wanted
use Rattle.tool_run.specs.Outcomes.{line_of, status_of}
use Rattle.tool_ends.specs.Outside.{Appends, AppendsFront, IsLonger, Rose, TakesAll, Writes, WritesFront}
use Rattle.tool_run.specs.Runs.{IsEnd, IsLeft, IsLine, IsPlanLeft, IsReadWhole, IsTextPlanLeft, IsToolText, OfBytes, OfPlan, Outside, max_document_bytes}
use Rattle.tool_run.specs.declared.outcome.Outcome.{Outcome}
use Rattle.tool_run.specs.declared.outcome.Outcome.TheVariants as outcome

-- a document is a JSON text, and what asks for a plan is a document as it is wanted
json-of : (words : Words) (plan : Plan) (bytes : List ℕ) → IsAskedPlan words bytes plan → IsJson bytes
json-of words plan bytes (inl (run, d)) = record { is_text = d.is_text; json = d.json; reads = d.reads }
json-of words plan bytes (inr (text, (asked, d, q))) = record { is_text = d.is_text; json = d.json; reads = d.reads }

wanted-of : (words : Words) (plan : Plan) (bytes : List ℕ) → IsAskedPlan words bytes plan → IsWantedDocument words bytes
wanted-of words plan bytes (inl (run, d)) = inl (run, record { plan = plan; is_document = d })
wanted-of words plan bytes (inr (text, (asked, d, q))) = inr (text, record { asked = asked; is_document = d })

-- words that read a plan read no query, and ask for a table or for an explanation
plan-not-text : (words : Words) → ReadsPlan words → ¬ IsText words
plan-not-text words (inl run) text = not-text words run text
plan-not-text words (inr explain) text = text-not-explain words text explain

pub table-not-explain : (words : Words) → AsksTable words → ¬ IsExplain words
table-not-explain words (inl run) explain = not-explain words run explain
table-not-explain words (inr text) explain = text-not-explain words text explain

pub table-reads : (words : Words) → AsksTable words → ReadsDocument words
table-reads words (inl run) = inl (inl run)
table-reads words (inr text) = inr text

-- a plan that is answered is valid
answered-valid : (F : Functions) (words : Words) (plan : Plan) (text : List ℕ) → ReadsDocument words → IsAnswerText F words plan text → IsValid F plan
answered-valid F words plan text (inl (inl run)) a = (a.table (inl run)).1.valid
answered-valid F words plan text (inl (inr explain)) a = (a.explanation explain).0
answered-valid F words plan text (inr asked) a = (a.table (inr asked)).1.valid

-- a query that asks for a plan has a reading, and its names are tables
reads-of : (words : Words) (plan : Plan) (bytes : List ℕ) → IsAskedPlan words bytes plan → HasNoReading words bytes → ⊥
reads-of words plan bytes (inl (reads, d)) (text, none) = plan-not-text words reads text
reads-of words plan bytes (inr (text, (asked, d, q))) (same, (other, e, none)) = none q.query (subst (λ (a : Asked). ReadsAs a.query q.query) (one_query asked other bytes d e) q.reads)

known-of : (words : Words) (plan : Plan) (bytes : List ℕ) → IsAskedPlan words bytes plan → HasUnknownTable words bytes → ⊥
known-of words plan bytes (inl (reads, d)) (text, unknown) = plan-not-text words reads text
known-of words plan bytes (inr (text, (asked, d, q))) (same, (other, e, (query, reads, (name, unknown)))) =
    let one : other ≡ asked = one_query other asked bytes e d in
    let alike : q.query ≡ query = q.only query (subst (λ (a : Asked). ReadsAs a.query query) one reads) in
    let here : first_unknown (table_named asked.names asked.tables) (query_tables query) ≡ Some name = subst (λ (a : Asked). first_unknown (table_named a.names a.tables) (query_tables query) ≡ Some name) one unknown in
    let there : first_unknown (table_named asked.names asked.tables) (query_tables query) ≡ None = subst (λ (x : Query). first_unknown (table_named asked.names asked.tables) (query_tables x) ≡ None) alike q.known in
    let both : Some name ≡ None = sym here ∙ there in
    cc

too-many : (bytes : List ℕ) → max_document_bytes < length bytes → length bytes ≤ max_document_bytes → ⊥
too-many bytes a b = omega (arith, a, b)

not-long : (left : Option (List ℕ)) (bytes : List ℕ) → IsLeft left bytes → IsLonger max_document_bytes left → ⊥
not-long left bytes is long = too-many bytes (subst (λ l. IsLonger max_document_bytes l) is.0 long) is.1

-- a plan that nothing breaks ends with no fault
pub nothing-faults : (F : Functions) (plan : Plan) → NothingBreaks F plan → (n : ℕ) (f : DataFault) → NodeMayFault F plan n f → ⊥
nothing-faults F plan nothing n f (reached, inl broken) = (nothing n reached).0 (record { fault = f; node = n }) broken
nothing-faults F plan nothing n f (reached, inr (rows, large)) = (nothing n reached).1 large

-- words that want a document are words, and ask for nothing else
are-words_of : (words : Words) → ReadsDocument words → AreWords words
are-words_of words reads = inl reads

pub reads-not-help : (words : Words) → ReadsDocument words → ¬ IsHelp words
reads-not-help words (inl (inl run)) = not-help words run
reads-not-help words (inl (inr explain)) = explain-not-help words explain
reads-not-help words (inr text) = text-not-help words text

pub reads-not-version : (words : Words) → ReadsDocument words → ¬ IsVersion words
reads-not-version words (inl (inl run)) = not-version words run
reads-not-version words (inl (inr explain)) = explain-not-version words explain
reads-not-version words (inr text) = text-not-version words text

module _ (F : Functions) (words : Words) (s : Outside) where
  are-words : (text : List ℕ) → IsToolText F words s.left text → AreWords words
  are-words text (inl r) = are-words_of words r.0
  are-words text (inr (inl h)) = inr (inl h.0)
  are-words text (inr (inr v)) = inr (inr v.0)

  of-document : ReadsDocument words → (text : List ℕ) → IsToolText F words s.left text → OfPlan words s.left (λ plan. IsAnswerText F words plan text)
  of-document reads text (inl r) = r.1
  of-document reads text (inr (inl h)) = absurd (reads-not-help words reads h.0)
  of-document reads text (inr (inr v)) = absurd (reads-not-version words reads v.0)

  -- what a run says that ended with this status and this line
  abbrev Says : ℕ → List ℕ → Type 0
  Says status line =
      MatchBool (status == 0) (Writes (IsToolText F words s.left) s.written s.written_after × (ReadsDocument words → IsReadWhole s.left s.left_after))
      (MatchBool (status == 2) (AreWords words → ⊥)
      (MatchBool (status == 3) (OfBytes s.left (λ bytes. IsNoPlanLine words bytes line))
      (MatchBool (status == 4) (OfPlan words s.left (λ plan. IsRefusalLine F plan line))
      (MatchBool (status == 5) (AsksTable words × OfPlan words s.left (λ plan. IsFaultLine F plan line))
      (MatchBool (status == 6) (Rose s.read_faults s.read_faults_after)
      (MatchBool (status == 7) (WritesFront (IsToolText F words s.left) s.written s.written_after × Rose s.write_faults s.write_faults_after)
      (MatchBool (status == 8) (IsLonger max_document_bytes s.left)
      ⊤)))))))

  says : (o : Outcome) → IsEnd F words s o → Says (status_of o) (line_of o)
  says outcome.Written e = e
  says outcome.Usage e = e.0
  says outcome.BadJson e = λ bytes is. let r = e.0.1 bytes is in (r.0, inl (r.1, refl))
  says outcome.BadDocument e = λ bytes is. let r = e.0.1 bytes is in (r.0, inr (inl (r.1, refl)))
  says outcome.BadQuery e = λ bytes is. let r = e.0.1 bytes is in (r.0, inr (inr (inl (r.1, refl))))
  says outcome.UnknownTable e = λ bytes is. let r = e.0.1 bytes is in (r.0, inr (inr (inr (r.1, refl))))
  says (outcome.Refused line) e = e.0.1
  says (outcome.Faulted line) e = e.0
  says outcome.ReadFault e = e.0.1
  says outcome.WriteFault e = e
  says outcome.TooLong e = e.0.1
  says outcome.OutOfMemory e = tt

  pub end-says : (o : Outcome) → IsEnd F words s o → (status : ℕ) → status_of o ≡ status → Says status (line_of o)
  end-says o e status is = subst (λ n. Says n (line_of o)) is (says o e)

  -- the line of a fault of a query
  rows-line : IsLawful F → IsText words → (line : List ℕ) → OfPlan words s.left (λ plan. IsFaultLine F plan line) → OfPlan words s.left (λ plan. IsRowsLine F plan line)
  rows-line lawful text line told bytes is =
      let (short, (plan, asked, faulted)) = told bytes is in
      (short, (plan, asked, rows-of plan bytes asked line faulted))
    where
      rows-of : (plan : Plan) (bytes : List ℕ) → IsAskedPlan words bytes plan → (line : List ℕ) → IsFaultLine F plan line → IsRowsLine F plan line
      rows-of plan bytes (inl (reads, d)) line h = absurd (plan-not-text words reads text)
      rows-of plan bytes (inr (same, (asked, d, q))) line (e, (valid, f), is) =
          let rows : f.fault ≡ fault.Rows = rows-alone F (table_named asked.names asked.tables) q.query plan f.node f.fault lawful q.is_tree valid f.may in
          (f.node, subst (NodeMayFault F plan f.node) rows f.may, is ∙ ap error_line (f.is ∙ ap (fault_error f.node) rows))

  pub end-line : IsLawful F → (o : Outcome) → IsEnd F words s o → (status : ℕ) → status ≡ status_of o → IsLine F words s.left status (line_of o)
  end-line lawful o e status is = record {
    of_outcome = (o, is, refl);
    no_plan = λ h. end-says o e 3 (sym is ∙ h);
    refused = λ h. end-says o e 4 (sym is ∙ h);
    faulted = λ h. (end-says o e 5 (sym is ∙ h)).1;
    tables_fault = λ h. (end-says o e 5 (sym is ∙ h)).0;
    queries_fault_by_rows = λ h text. rows-line lawful text (line_of o) (end-says o e 5 (sym is ∙ h)).1;
  }

  pub end-unknown : (o : Outcome) → IsEnd F words s o → (AreWords words → ⊥) → status_of o ≡ 2
  end-unknown outcome.Written e none = absurd (none (are-words e.0.0 e.0.1))
  end-unknown outcome.Usage e none = refl
  end-unknown outcome.BadJson e none = absurd (none (are-words_of words e.0.0))
  end-unknown outcome.BadDocument e none = absurd (none (are-words_of words e.0.0))
  end-unknown outcome.BadQuery e none = absurd (none (are-words_of words e.0.0))
  end-unknown outcome.UnknownTable e none = absurd (none (are-words_of words e.0.0))
  end-unknown (outcome.Refused line) e none = absurd (none (are-words_of words e.0.0))
  end-unknown (outcome.Faulted line) e none = absurd (none (are-words_of words (table-reads words e.0.0)))
  end-unknown outcome.ReadFault e none = absurd (none (are-words_of words e.0.0))
  end-unknown outcome.WriteFault e none = absurd (none (are-words e.0.0 e.0.1))
  end-unknown outcome.TooLong e none = absurd (none (are-words_of words e.0.0))
  end-unknown outcome.OutOfMemory e none = absurd (none e.0)

  pub end-reads : (o : Outcome) → IsEnd F words s o → (status_of o ≡ 0 → ⊥) → (status_of o ≡ 2 → ⊥) → (status_of o ≡ 7 → ⊥) → (status_of o ≡ 9 → ⊥) → ReadsDocument words
  end-reads outcome.Written e a b c d = absurd (a refl)
  end-reads outcome.Usage e a b c d = absurd (b refl)
  end-reads outcome.BadJson e a b c d = e.0.0
  end-reads outcome.BadDocument e a b c d = e.0.0
  end-reads outcome.BadQuery e a b c d = e.0.0
  end-reads outcome.UnknownTable e a b c d = e.0.0
  end-reads (outcome.Refused line) e a b c d = e.0.0
  end-reads (outcome.Faulted line) e a b c d = table-reads words e.0.0
  end-reads outcome.ReadFault e a b c d = e.0.0
  end-reads outcome.WriteFault e a b c d = absurd (c refl)
  end-reads outcome.TooLong e a b c d = e.0.0
  end-reads outcome.OutOfMemory e a b c d = absurd (d refl)

  pub end-silent : (o : Outcome) → IsEnd F words s o → (status_of o ≡ 0 → ⊥) → (status_of o ≡ 7 → ⊥) → s.written_after ≡ s.written
  end-silent outcome.Written e a b = absurd (a refl)
  end-silent outcome.Usage e a b = e.1
  end-silent outcome.BadJson e a b = e.1
  end-silent outcome.BadDocument e a b = e.1
  end-silent outcome.BadQuery e a b = e.1
  end-silent outcome.UnknownTable e a b = e.1
  end-silent (outcome.Refused line) e a b = e.1
  end-silent (outcome.Faulted line) e a b = e.1
  end-silent outcome.ReadFault e a b = e.1
  end-silent outcome.WriteFault e a b = absurd (b refl)
  end-silent outcome.TooLong e a b = e.1
  end-silent outcome.OutOfMemory e a b = e.1

  pub end-longer : ReadsDocument words → (bytes : List ℕ) → s.left ≡ Some bytes → max_document_bytes < length bytes → (o : Outcome) → IsEnd F words s o → (status_of o ≡ 8) ⊎ (status_of o ≡ 6) ⊎ (status_of o ≡ 9)
  end-longer reads bytes is long outcome.Written e = absurd (too-many bytes long (of-document reads e.0.0 e.0.1 bytes is).0)
  end-longer reads bytes is long outcome.Usage e = absurd (e.0 (are-words_of words reads))
  end-longer reads bytes is long outcome.BadJson e = absurd (too-many bytes long (e.0.1 bytes is).0)
  end-longer reads bytes is long outcome.BadDocument e = absurd (too-many bytes long (e.0.1 bytes is).0)
  end-longer reads bytes is long outcome.BadQuery e = absurd (too-many bytes long (e.0.1 bytes is).0)
  end-longer reads bytes is long outcome.UnknownTable e = absurd (too-many bytes long (e.0.1 bytes is).0)
  end-longer reads bytes is long (outcome.Refused line) e = absurd (too-many bytes long (e.0.1 bytes is).0)
  end-longer reads bytes is long (outcome.Faulted line) e = absurd (too-many bytes long (e.0.1 bytes is).0)
  end-longer reads bytes is long outcome.ReadFault e = inr (inl refl)
  end-longer reads bytes is long outcome.WriteFault e = absurd (too-many bytes long (of-document reads e.0.0 e.0.1 bytes is).0)
  end-longer reads bytes is long outcome.TooLong e = inl refl
  end-longer reads bytes is long outcome.OutOfMemory e = inr (inr refl)

  -- bytes that ask for no plan
  end-unasked : ReadsDocument words → (bytes : List ℕ) → IsLeft s.left bytes → ((plan : Plan) → IsAskedPlan words bytes plan → ⊥) → (o : Outcome) → IsEnd F words s o → (status_of o ≡ 3) ⊎ (status_of o ≡ 6) ⊎ (status_of o ≡ 9)
  end-unasked reads bytes is none outcome.Written e = let p = (of-document reads e.0.0 e.0.1 bytes is.0).1 in absurd (none p.0 p.1)
  end-unasked reads bytes is none outcome.Usage e = absurd (e.0 (are-words_of words reads))
  end-unasked reads bytes is none outcome.BadJson e = inl refl
  end-unasked reads bytes is none outcome.BadDocument e = inl refl
  end-unasked reads bytes is none outcome.BadQuery e = inl refl
  end-unasked reads bytes is none outcome.UnknownTable e = inl refl
  end-unasked reads bytes is none (outcome.Refused line) e = let p = (e.0.1 bytes is.0).1 in absurd (none p.0 p.1)
  end-unasked reads bytes is none (outcome.Faulted line) e = let p = (e.0.1 bytes is.0).1 in absurd (none p.0 p.1)
  end-unasked reads bytes is none outcome.ReadFault e = inr (inl refl)
  end-unasked reads bytes is none outcome.WriteFault e = let p = (of-document reads e.0.0 e.0.1 bytes is.0).1 in absurd (none p.0 p.1)
  end-unasked reads bytes is none outcome.TooLong e = absurd (not-long s.left bytes is e.0.1)
  end-unasked reads bytes is none outcome.OutOfMemory e = inr (inr refl)

  -- bytes that ask for plans of which this holds
  module _ (reads : ReadsDocument words) (bytes : List ℕ) (is : IsLeft s.left bytes) (P : Plan → Type 0) (each : (plan : Plan) → IsAskedPlan words bytes plan → P plan) where
    told : {Q : Plan → Type 0} → OfPlan words s.left Q → (plan : Plan) × P plan × Q plan
    told h = let p = (h bytes is.0).1 in (p.0, each p.0 p.1, p.2)

    written : (text : List ℕ) → IsToolText F words s.left text → (plan : Plan) × P plan × IsAnswerText F words plan text
    written text t = told (of-document reads text t)

    -- a fault is none of plans that nothing breaks
    unfaulted : ((plan : Plan) → P plan → NothingBreaks F plan) → (line : String Global) → AsksTable words × OfPlan words s.left (λ plan. IsFaultLine F plan (string_bytes line)) → ⊥
    unfaulted nothing line e = let (p, is, fault) = told e.1 in let f = fault.1.1 in nothing-faults F p (nothing p is) f.node f.fault f.may

    module _ (plan : Plan) (asked : IsAskedPlan words bytes plan) where
      no-json : OfBytes s.left (λ bytes. IsJson bytes → ⊥) → ⊥
      no-json h = (h bytes is.0).1 (json-of words plan bytes asked)

      no-document : OfBytes s.left (λ bytes. IsJson bytes × (IsWantedDocument words bytes → ⊥)) → ⊥
      no-document h = (h bytes is.0).1.1 (wanted-of words plan bytes asked)

      no-reading : OfBytes s.left (HasNoReading words) → ⊥
      no-reading h = reads-of words plan bytes asked (h bytes is.0).1

      no-table : OfBytes s.left (HasUnknownTable words) → ⊥
      no-table h = known-of words plan bytes asked (h bytes is.0).1

      all-invalid : ((plan : Plan) → P plan → IsValid F plan → ⊥) → (o : Outcome) → IsEnd F words s o → (status_of o ≡ 4) ⊎ (status_of o ≡ 6) ⊎ (status_of o ≡ 9)
      all-invalid bad outcome.Written e = let (p, is, text) = written e.0.0 e.0.1 in absurd (bad p is (answered-valid F words p e.0.0 reads text))
      all-invalid bad outcome.Usage e = absurd (e.0 (are-words_of words reads))
      all-invalid bad outcome.BadJson e = absurd (no-json e.0.1)
      all-invalid bad outcome.BadDocument e = absurd (no-document e.0.1)
      all-invalid bad outcome.BadQuery e = absurd (no-reading e.0.1)
      all-invalid bad outcome.UnknownTable e = absurd (no-table e.0.1)
      all-invalid bad (outcome.Refused line) e = inl refl
      all-invalid bad (outcome.Faulted line) e = let (p, is, fault) = told e.0.1 in absurd (bad p is fault.1.0)
      all-invalid bad outcome.ReadFault e = inr (inl refl)
      all-invalid bad outcome.WriteFault e = let (p, is, text) = written e.0.0 e.0.1 in absurd (bad p is (answered-valid F words p e.0.0 reads text))
      all-invalid bad outcome.TooLong e = absurd (not-long s.left bytes is e.0.1)
      all-invalid bad outcome.OutOfMemory e = inr (inr refl)

      all-complete : ((plan : Plan) → P plan → IsValid F plan) → ((line : String Global) → AsksTable words × OfPlan words s.left (λ plan. IsFaultLine F plan (string_bytes line)) → ⊥) → (Rose s.read_faults s.read_faults_after → ⊥) → (Rose s.write_faults s.write_faults_after → ⊥) → (o : Outcome) → IsEnd F words s o → (status_of o ≡ 0) ⊎ (status_of o ≡ 9)
      all-complete good calm reading writes outcome.Written e = inl refl
      all-complete good calm reading writes outcome.Usage e = absurd (e.0 (are-words_of words reads))
      all-complete good calm reading writes outcome.BadJson e = absurd (no-json e.0.1)
      all-complete good calm reading writes outcome.BadDocument e = absurd (no-document e.0.1)
      all-complete good calm reading writes outcome.BadQuery e = absurd (no-reading e.0.1)
      all-complete good calm reading writes outcome.UnknownTable e = absurd (no-table e.0.1)
      all-complete good calm reading writes (outcome.Refused line) e = let (p, is, refused) = told e.0.1 in let r = refused.1 in absurd (good p is r.node r.refusal r.refused)
      all-complete good calm reading writes (outcome.Faulted line) e = absurd (calm line e.0)
      all-complete good calm reading writes outcome.ReadFault e = absurd (reading e.0.1)
      all-complete good calm reading writes outcome.WriteFault e = absurd (writes e.1)
      all-complete good calm reading writes outcome.TooLong e = absurd (not-long s.left bytes is e.0.1)
      all-complete good calm reading writes outcome.OutOfMemory e = inr refl

  -- the same of the words `run` and `explain`, where a document has one plan
  one-asked : ReadsPlan words → (bytes : List ℕ) (plan : Plan) → IsDocumentOf plan bytes → (other : Plan) → IsAskedPlan words bytes other → plan ≡ other
  one-asked reads bytes plan d other (inl (same, e)) = one_plan plan other bytes d e
  one-asked reads bytes plan d other (inr (text, e)) = absurd (plan-not-text words reads text)

  pub end-other : ReadsPlan words → (bytes : List ℕ) → IsLeft s.left bytes → (IsDocument bytes → ⊥) → (o : Outcome) → IsEnd F words s o → (status_of o ≡ 3) ⊎ (status_of o ≡ 6) ⊎ (status_of o ≡ 9)
  end-other reads bytes is none o e = end-unasked (inl reads) bytes is by o e
    where
      by : (plan : Plan) → IsAskedPlan words bytes plan → ⊥
      by plan (inl (same, d)) = none (record { plan = plan; is_document = d })
      by plan (inr (text, d)) = plan-not-text words reads text

  pub end-invalid : ReadsPlan words → (plan : Plan) → IsPlanLeft s.left plan → (IsValid F plan → ⊥) → (o : Outcome) → IsEnd F words s o → (status_of o ≡ 4) ⊎ (status_of o ≡ 6) ⊎ (status_of o ≡ 9)
  end-invalid reads plan (bytes, is, d) bad o e = all-invalid (inl reads) bytes is (λ p. plan ≡ p) (one-asked reads bytes plan d) plan (inl (reads, d)) (λ p same valid. bad (subst (IsValid F) (sym same) valid)) o e

  pub end-complete : IsRun words → (plan : Plan) → IsPlanLeft s.left plan → IsValid F plan → NothingBreaks F plan → (Rose s.read_faults s.read_faults_after → ⊥) → (Rose s.write_faults s.write_faults_after → ⊥) → (o : Outcome) → IsEnd F words s o → (status_of o ≡ 0) ⊎ (status_of o ≡ 9)
  end-complete run plan (bytes, is, d) valid nothing reading writes o e =
      let asked = one-asked (inl run) bytes plan d in
      all-complete (inl (inl run)) bytes is (λ p. plan ≡ p) asked plan (inl (inl run, d)) (λ p same. subst (IsValid F) same valid)
      (unfaulted (inl (inl run)) bytes is (λ p. plan ≡ p) asked (λ p same. subst (NothingBreaks F) same nothing)) reading writes o e

  pub end-explained : IsExplain words → (plan : Plan) → IsPlanLeft s.left plan → IsValid F plan → (Rose s.read_faults s.read_faults_after → ⊥) → (Rose s.write_faults s.write_faults_after → ⊥) → (o : Outcome) → IsEnd F words s o → (status_of o ≡ 0) ⊎ (status_of o ≡ 9)
  end-explained explain plan (bytes, is, d) valid reading writes o e =
      all-complete (inl (inr explain)) bytes is (λ p. plan ≡ p) (one-asked (inr explain) bytes plan d) plan (inl (inr explain, d)) (λ p same. subst (IsValid F) same valid)
      (λ line f. table-not-explain words f.0 explain) reading writes o e

  -- the same of the words `text`
  of-text : IsText words → (bytes : List ℕ) (plan : Plan) → IsAskedPlan words bytes plan → IsTextPlan bytes plan
  of-text text bytes plan (inl (reads, d)) = absurd (plan-not-text words reads text)
  of-text text bytes plan (inr (same, p)) = p

  pub end-other_text : IsText words → (bytes : List ℕ) → IsLeft s.left bytes → ((plan : Plan) → IsTextPlan bytes plan → ⊥) → (o : Outcome) → IsEnd F words s o → (status_of o ≡ 3) ⊎ (status_of o ≡ 6) ⊎ (status_of o ≡ 9)
  end-other_text text bytes is none o e = end-unasked (inr text) bytes is (λ plan p. none plan (of-text text bytes plan p)) o e

  pub end-invalid_text : IsText words → (plan : Plan) → IsTextPlanLeft s.left plan → ((each : Plan) → IsTextPlanLeft s.left each → IsValid F each → ⊥) → (o : Outcome) → IsEnd F words s o → (status_of o ≡ 4) ⊎ (status_of o ≡ 6) ⊎ (status_of o ≡ 9)
  end-invalid_text text plan (bytes, is, p) bad o e = all-invalid (inr text) bytes is (IsTextPlan bytes) (of-text text bytes) plan (inr (text, p)) (λ q h. bad q (bytes, is, h)) o e

  pub end-complete_text : IsText words → (plan : Plan) → IsTextPlanLeft s.left plan → ((each : Plan) → IsTextPlanLeft s.left each → IsValid F each × NothingBreaks F each) → (Rose s.read_faults s.read_faults_after → ⊥) → (Rose s.write_faults s.write_faults_after → ⊥) → (o : Outcome) → IsEnd F words s o
      → (status_of o ≡ 0) ⊎ (status_of o ≡ 9)
  end-complete_text text plan (bytes, is, p) good reading writes o e =
      all-complete (inr text) bytes is (IsTextPlan bytes) (of-text text bytes) plan (inr (text, p)) (λ q h. (good q (bytes, is, h)).0)
      (unfaulted (inr text) bytes is (IsTextPlan bytes) (of-text text bytes) (λ q h. (good q (bytes, is, h)).1)) reading writes o e

  -- a text that was written whole, or a front of it
  pub text-end : (text : List ℕ) → IsToolText F words s.left text → (ReadsDocument words → IsReadWhole s.left s.left_after) → (o : Outcome) → (o ≡ outcome.Written) ⊎ (o ≡ outcome.WriteFault) → (o ≡ outcome.Written → Appends s.written text s.written_after)
      → (o ≡ outcome.WriteFault → AppendsFront s.written text s.written_after) → (o ≡ outcome.WriteFault → Rose s.write_faults s.write_faults_after) → IsEnd F words s o
  text-end text is read o (inl e) whole front rose = subst (λ o. IsEnd F words s o) (sym e) ((text, is, whole e), read)
  text-end text is read o (inr e) whole front rose = subst (λ o. IsEnd F words s o) (sym e) ((text, is, front e), rose e)

  -- what holds of the very bytes that were read
  module _ (bytes : List ℕ) (takes : TakesAll s.left bytes s.left_after) (short : length bytes ≤ max_document_bytes) where
    of-bytes : (P : List ℕ → Type 0) → P bytes → OfBytes s.left P
    of-bytes P p given is = by-left s.left takes given is
      where
        by-left : (left : Option (List ℕ)) → TakesAll left bytes s.left_after → (given : List ℕ) → left ≡ Some given → (length given ≤ max_document_bytes) × P given
        by-left None t given is = cc
        by-left (Some all) t given is = let whole : bytes ≡ given = (let a = t.0 in cc) in (subst (λ b. length b ≤ max_document_bytes) whole short, subst P whole p)

    read-whole : IsReadWhole s.left s.left_after
    read-whole given is = by-left s.left takes given is
      where
        by-left : (left : Option (List ℕ)) → TakesAll left bytes s.left_after → (given : List ℕ) → left ≡ Some given → (length given ≤ max_document_bytes) × (s.left_after ≡ Some [])
        by-left None t given is = cc
        by-left (Some all) t given is = let whole : bytes ≡ given = (let a = t.0 in cc) in (subst (λ b. length b ≤ max_document_bytes) whole short, t.1)

    -- a text that answers them
    pub answer-end : ReadsDocument words → (text : List ℕ) → HasPlan words bytes (λ plan. IsAnswerText F words plan text) → (o : Outcome) → (o ≡ outcome.Written) ⊎ (o ≡ outcome.WriteFault) → (o ≡ outcome.Written → Appends s.written text s.written_after)
        → (o ≡ outcome.WriteFault → AppendsFront s.written text s.written_after) → (o ≡ outcome.WriteFault → Rose s.write_faults s.write_faults_after) → IsEnd F words s o
    answer-end reads text answers o = text-end text (inl (reads, of-bytes (λ b. HasPlan words b (λ plan. IsAnswerText F words plan text)) answers)) (λ _. read-whole) o

    -- an outcome without one
    pub unanswered-end : ReadsDocument words → s.written_after ≡ s.written → (o : Outcome) → IsUnanswered F words bytes o → IsEnd F words s o
    unanswered-end reads same outcome.Written h = absurd h
    unanswered-end reads same outcome.Usage h = absurd h
    unanswered-end reads same outcome.BadJson h = ((reads, of-bytes (λ b. IsUnanswered F words b outcome.BadJson) h), same)
    unanswered-end reads same outcome.BadDocument h = ((reads, of-bytes (λ b. IsUnanswered F words b outcome.BadDocument) h), same)
    unanswered-end reads same outcome.BadQuery h = ((reads, of-bytes (λ b. IsUnanswered F words b outcome.BadQuery) h), same)
    unanswered-end reads same outcome.UnknownTable h = ((reads, of-bytes (λ b. IsUnanswered F words b outcome.UnknownTable) h), same)
    unanswered-end reads same (outcome.Refused line) h = ((reads, of-bytes (λ b. IsUnanswered F words b (outcome.Refused line)) h), same)
    unanswered-end reads same (outcome.Faulted line) h = ((h.0, of-bytes (λ b. HasPlan words b (λ plan. IsFaultLine F plan (string_bytes line))) h.1), same)
    unanswered-end reads same outcome.ReadFault h = absurd h
    unanswered-end reads same outcome.WriteFault h = absurd h
    unanswered-end reads same outcome.TooLong h = absurd h
    unanswered-end reads same outcome.OutOfMemory h = (are-words_of words reads, same)

-- words that want something read a document
pub reads-wanted : (words : Words) (w : Wanted) → IsWantedBy words w → ReadsDocument words
reads-wanted words (wanted.Plan options serial) h = inl (inl h)
reads-wanted words (wanted.Query options serial) h = inr h
reads-wanted words wanted.Explanation h = inl (inr h)

-- a table answers words that ask for one, and an explanation those that ask for it
pub table-answers : (F : Functions) (words : Words) (bytes text : List ℕ) → AsksTable words → HasPlan words bytes (λ plan. IsPlanText F plan text) → HasPlan words bytes (λ plan. IsAnswerText F words plan text)
table-answers F words bytes text asks (plan, asked, answer) = (plan, asked, record { table = λ _. answer; explanation = λ explain. absurd (table-not-explain words asks explain) })

pub explanation-answers : (F : Functions) (words : Words) (bytes text : List ℕ) → IsExplain words → HasPlan words bytes (λ plan. IsExplanation F plan text) → HasPlan words bytes (λ plan. IsAnswerText F words plan text)
explanation-answers F words bytes text explain (plan, asked, answer) = (plan, asked, record { table = λ asks. absurd (table-not-explain words asks explain); explanation = λ _. answer })
