-- A document: tables and a plan over them, as JSON.
use Rattle.std.specs.Prelude.{ℕ, ◌≡◌, List, Some, IsUtf8}
use Rattle.std.specs.List.{AllZip}
use Rattle.serde_json.specs.Data.{Data}
use Rattle.serde_json.specs.Read.{read}
use Rattle.ps_frame.specs.Tables.{Frame}
use Rattle.ps_plan.specs.Plans.{Plan}
use Rattle.ps_document.specs.Expressions.{IsExpr, entry_number}
use Rattle.ps_document.specs.Json.{four_members, list}
use Rattle.ps_document.specs.Nodes.{IsNode}
use Rattle.ps_document.specs.Tables.{IsTable}

-- the JSON is that of the tables and of the plan over them
pub record IsPlanJson (tables : List Frame) (plan : Plan) (d : Data) : Type 0 where
  pub tables_json : List Data
  pub exprs_json : List Data
  pub nodes_json : List Data
  pub members : d ≡ four_members (list tables_json) (list exprs_json) (list nodes_json) (entry_number plan.root)
  pub are_tables : AllZip IsTable tables tables_json
  pub are_exprs : AllZip IsExpr plan.exprs exprs_json
  pub are_nodes : AllZip (IsNode tables) plan.nodes nodes_json

-- the bytes are the document of a plan
pub record IsDocumentOf (plan : Plan) (bytes : List ℕ) : Type 0 where
  pub is_text : IsUtf8 bytes
  pub json : Data
  pub reads : read bytes ≡ Some json
  pub tables : List Frame
  pub is_plan : IsPlanJson tables plan json

-- the bytes are a JSON text
pub record IsJson (bytes : List ℕ) : Type 0 where
  pub is_text : IsUtf8 bytes
  pub json : Data
  pub reads : read bytes ≡ Some json

-- the bytes are a document
pub record IsDocument (bytes : List ℕ) : Type 0 where
  pub plan : Plan
  pub is_document : IsDocumentOf plan bytes
