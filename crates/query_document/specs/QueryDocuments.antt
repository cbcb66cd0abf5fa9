-- A document of a query: tables, their names, and the query's text, as JSON.
use Rattle.std.specs.Prelude.{ℕ, ◌≡◌, ◌≢◌, List, Some, AllPairs, IsUtf8, codes, length}
use Rattle.std.specs.List.{AllZip}
use Rattle.serde_json.specs.Data.{Data, member, no_members, object}
use Rattle.serde_json.specs.Read.{read}
use Rattle.ps_frame.specs.Tables.{Frame}
use Rattle.ps_document.specs.Json.{list, list_of, text}
use Rattle.ps_document.specs.Tables.{IsTable}
use Rattle.query_document.specs.declared.document.QueryDocument.{QueryDocument}

-- tables with a name for each, and the text of a query
pub record Asked : Type 0 where
  pub names : List (List ℕ)
  pub query : List ℕ
  pub tables : List Frame

-- what a document asks
abbrev pub asked_of : QueryDocument → Asked
asked_of d = record { names = d.names; query = d.query; tables = d.tables.items }

-- an object of the three members, which stand in the order of their names
abbrev pub three_members : Data → Data → Data → Data
three_members names query tables = object (member (codes "names") names (member (codes "query") query (member (codes "tables") tables no_members)))

-- there is a name for each table, and no two names are alike
pub record IsNaming (names : List (List ℕ)) (tables : List Frame) : Type 0 where
  pub one_each : length names ≡ length tables
  pub differ : AllPairs (λ a b. a ≢ b) names

-- the JSON is that of the tables, their names and the query's text
pub record IsQueryJson (asked : Asked) (d : Data) : Type 0 where
  pub tables_json : List Data
  pub members : d ≡ three_members (list_of text asked.names) (text asked.query) (list tables_json)
  pub are_tables : AllZip IsTable asked.tables tables_json
  pub naming : IsNaming asked.names asked.tables

-- the bytes are the document that asks this
pub record IsQueryDocumentOf (asked : Asked) (bytes : List ℕ) : Type 0 where
  pub is_text : IsUtf8 bytes
  pub json : Data
  pub reads : read bytes ≡ Some json
  pub is_query : IsQueryJson asked json

-- the bytes are a document of a query
pub record IsQueryDocument (bytes : List ℕ) : Type 0 where
  pub asked : Asked
  pub is_document : IsQueryDocumentOf asked bytes
