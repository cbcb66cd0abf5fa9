-- The plan that a document asks for: for `run` and `explain` the plan that it holds, for `text` the plan of its query.
use Rattle.std.specs.Prelude.{ℕ, ◌≡◌, ◌⊎◌, List, None, Some, String}
use Rattle.std.specs.declared.alloc.Global.{Global}
use Rattle.ps_document.specs.Document.{IsDocument, IsDocumentOf}
use Rattle.ps_plan.specs.Plans.{Plan, tree_of}
use Rattle.query_document.specs.QueryDocuments.{Asked, IsQueryDocument, IsQueryDocumentOf}
use Rattle.text_plans.specs.QueryPlans.{first_unknown, query_tables, query_tree, table_named}
use Rattle.text_queries.specs.Grammar.{ReadsAs}
use Rattle.text_queries.specs.Queries.{Query}
use Rattle.tool_run.specs.declared.answer.Wanted.{Wanted}
use Rattle.tool_run.specs.declared.answer.Wanted.TheVariants as wanted
use Rattle.tool_words.specs.Words.{IsExplain, IsRun, IsText, ReadsPlan}

abbrev pub Words : Type 0
Words = List (String Global)

-- the text reads as a query and as no other, its names are tables, and its tree over these is that of the plan
pub record IsQueryPlan (asked : Asked) (plan : Plan) : Type 0 where
  pub query : Query
  pub reads : ReadsAs asked.query query
  pub only : (other : Query) → ReadsAs asked.query other → query ≡ other
  pub known : first_unknown (table_named asked.names asked.tables) (query_tables query) ≡ None
  pub is_tree : query_tree (table_named asked.names asked.tables) query ≡ Some (tree_of plan plan.root.0)

-- the bytes are a document of a query, and this is a plan of it
abbrev pub IsTextPlan : List ℕ → Plan → Type 0
IsTextPlan bytes plan = (asked : Asked) × IsQueryDocumentOf asked bytes × IsQueryPlan asked plan

-- the bytes are a document as the words want it, and this is a plan for which it asks; a document of a plan has only one
abbrev pub IsAskedPlan : Words → List ℕ → Plan → Type 0
IsAskedPlan words bytes plan = (ReadsPlan words × IsDocumentOf plan bytes) ⊎ (IsText words × IsTextPlan bytes plan)

-- the words want this of a document
abbrev pub IsWantedBy : Words → Wanted → Type 0
IsWantedBy words (wanted.Plan options serial) = IsRun words
IsWantedBy words (wanted.Query options serial) = IsText words
IsWantedBy words wanted.Explanation = IsExplain words

-- the bytes are a document as the words want it
abbrev pub IsWantedDocument : Words → List ℕ → Type 0
IsWantedDocument words bytes = (ReadsPlan words × IsDocument bytes) ⊎ (IsText words × IsQueryDocument bytes)

-- the bytes are a document of a query, and its text reads as none
abbrev pub HasNoReading : Words → List ℕ → Type 0
HasNoReading words bytes = IsText words × ((asked : Asked) × IsQueryDocumentOf asked bytes × ((query : Query) → ¬ ReadsAs asked.query query))

-- the bytes are a document of a query, and a name in it is no table's
abbrev pub HasUnknownTable : Words → List ℕ → Type 0
HasUnknownTable words bytes =
    IsText words
    × ((asked : Asked) × IsQueryDocumentOf asked bytes
    × ((query : Query) × ReadsAs asked.query query × ((name : List ℕ) × (first_unknown (table_named asked.names asked.tables) (query_tables query) ≡ Some name))))
