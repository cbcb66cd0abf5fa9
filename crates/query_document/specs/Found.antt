-- The members of a document that were found so far; for private clauses.
use Rattle.std.specs.Prelude.{◌≡◌, Option, codes, option_map}
use Rattle.serde_json.specs.Data.{Data, Members, no_members}
use Rattle.serde_json.specs.View.{view}
use Rattle.ps_document.specs.Found.{AreTables, with_member}
use Rattle.query_document.specs.declared.found.Found.{Found}

-- the members that were found, in the order of their names
abbrev pub members_found : Option Data → Option Data → Option Data → Members
members_found names query tables = with_member (codes "names") names (with_member (codes "query") query (with_member (codes "tables") tables no_members))

-- the members are those that were found
pub record IsFound (f : Found) (ms : Members) : Type 0 where
  pub tables : Option Data
  pub are_tables : AreTables f.tables tables
  pub members : ms ≡ members_found (option_map view f.names) (option_map view f.query) tables
