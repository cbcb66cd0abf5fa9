-- The members of a document that were found so far; for private clauses.
use Rattle.std.specs.Prelude.{ℕ, ◌≡◌, List, Option, Some, None, Vec, codes, option_map, ⊤}
use Rattle.std.specs.List.{AllZip}
use Rattle.std.specs.declared.alloc.Global.{Global}
use Rattle.serde_json.specs.Data.{Data, Members, member, no_members}
use Rattle.serde_json.specs.View.{view}
use Rattle.ps_frame.specs.Tables.{Frame}
use Rattle.ps_document.specs.Expressions.{entry_number}
use Rattle.ps_document.specs.Json.{list}
use Rattle.ps_document.specs.Tables.{IsTable}
use Rattle.ps_document.specs.declared.found.Found.{Found}

-- the JSON is that of the tables, where there are any
abbrev pub AreTables : Option (Vec Frame Global) → Option Data → Type 0
AreTables None None = ⊤
AreTables None (Some d) = ⊥
AreTables (Some tables) None = ⊥
AreTables (Some tables) (Some d) = (ds : List Data) × (d ≡ list ds) × AllZip IsTable tables.items ds

-- with a member, where it was found
abbrev pub with_member : List ℕ → Option Data → Members → Members
with_member name None ms = ms
with_member name (Some d) ms = member name d ms

-- the members that were found, in the order of their names
abbrev pub members_found : Option Data → Option Data → Option Data → Option Data → Members
members_found exprs nodes root tables =
    with_member (codes "exprs") exprs (with_member (codes "nodes") nodes (with_member (codes "root") root (with_member (codes "tables") tables no_members)))

-- the members are those that were found
pub record IsFound (f : Found) (ms : Members) : Type 0 where
  pub tables : Option Data
  pub are_tables : AreTables f.tables tables
  pub members : ms ≡ members_found (option_map view f.exprs) (option_map view f.nodes) (option_map entry_number f.root) tables
