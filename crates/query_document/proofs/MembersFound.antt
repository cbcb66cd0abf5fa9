-- The members of a document, found one after another.
use Rattle.std.proofs.Common.{◌≡◌, List, Option, Some, None, refl, ap, ◌∙◌, subst}
use Rattle.std.specs.Prelude.{Vec, codes, option_map}
use Rattle.std.specs.List.{AllZip}
use Rattle.std.specs.declared.alloc.Global.{Global}
use Rattle.serde_json.specs.Data.{Data, Members, object, put}
use Rattle.serde_json.specs.View.{view}
use Rattle.serde_json.specs.declared.value.Value.{Value}
use Rattle.ps_frame.specs.Tables.{Frame}
use Rattle.ps_document.specs.Found.{AreTables}
use Rattle.ps_document.specs.Json.{list}
use Rattle.ps_document.specs.Tables.{IsTable}
use Rattle.query_document.specs.Found.{IsFound, members_found}
use Rattle.query_document.specs.QueryDocuments.{three_members}
use Rattle.query_document.specs.declared.found.Found.{Found}

put-names : (d : Data) (q t : Option Data) → put (codes "names") d (members_found None q t) ≡ members_found (Some d) q t
put-names d None None = refl
put-names d None (Some t) = refl
put-names d (Some q) None = refl
put-names d (Some q) (Some t) = refl

put-query : (d : Data) (n t : Option Data) → put (codes "query") d (members_found n None t) ≡ members_found n (Some d) t
put-query d None None = refl
put-query d None (Some t) = refl
put-query d (Some n) None = refl
put-query d (Some n) (Some t) = refl

put-tables : (d : Data) (n q : Option Data) → put (codes "tables") d (members_found n q None) ≡ members_found n q (Some d)
put-tables d None None = refl
put-tables d None (Some q) = refl
put-tables d (Some n) None = refl
put-tables d (Some n) (Some q) = refl

-- ---- one more of them

pub names-found : (old : Found) (value : Value) (ms : Members) → old.names ≡ None → IsFound old ms → IsFound (record old { names = Some value }) (put (codes "names") (view value) ms)
names-found old value ms e is = record {
  tables = is.tables;
  are_tables = is.are_tables;
  members = ap (put (codes "names") (view value)) (is.members ∙ ap (λ (o : Option Value). members_found (option_map view o) (option_map view old.query) is.tables) e) ∙ put-names (view value) (option_map view old.query) is.tables;
}

pub query-found : (old : Found) (value : Value) (ms : Members) → old.query ≡ None → IsFound old ms → IsFound (record old { query = Some value }) (put (codes "query") (view value) ms)
query-found old value ms e is = record {
  tables = is.tables;
  are_tables = is.are_tables;
  members = ap (put (codes "query") (view value)) (is.members ∙ ap (λ (o : Option Value). members_found (option_map view old.names) (option_map view o) is.tables) e) ∙ put-query (view value) (option_map view old.names) is.tables;
}

no_tables : (o : Option Data) → AreTables None o → o ≡ None
no_tables None h = refl
no_tables (Some d) h = absurd h

pub tables-found : (old : Found) (tables : Vec Frame Global) (ds : List Data) (ms : Members) → old.tables ≡ None → AllZip IsTable tables.items ds → IsFound old ms
    → IsFound (record old { tables = Some tables }) (put (codes "tables") (list ds) ms)
tables-found old tables ds ms e zip is =
    let none = no_tables is.tables (subst (λ (o : Option (Vec Frame Global)). AreTables o is.tables) e is.are_tables) in
    record {
      tables = Some (list ds);
      are_tables = (ds, refl, zip);
      members = ap (put (codes "tables") (list ds)) (is.members ∙ ap (members_found (option_map view old.names) (option_map view old.query)) none) ∙ put-tables (list ds) (option_map view old.names) (option_map view old.query);
    }

-- ---- all of them

some_tables : (tables : Vec Frame Global) (o : Option Data) → AreTables (Some tables) o → (ds : List Data) × (o ≡ Some (list ds)) × AllZip IsTable tables.items ds
some_tables tables None h = absurd h
some_tables tables (Some d) h = (h.0, ap Some h.1, h.2)

pub all-found : (f : Found) (tables : Vec Frame Global) (names query : Value) (ms : Members) → f.tables ≡ Some tables → f.names ≡ Some names → f.query ≡ Some query → IsFound f ms
    → (ds : List Data) × AllZip IsTable tables.items ds × (object ms ≡ three_members (view names) (view query) (list ds))
all-found f tables names query ms t n q is =
    let some = some_tables tables is.tables (subst (λ (o : Option (Vec Frame Global)). AreTables o is.tables) t is.are_tables) in (
      some.0,
      some.2,
      ap object (
          is.members ∙ ap (λ (o : Option Value). members_found (option_map view o) (option_map view f.query) is.tables) n
          ∙ ap (λ (o : Option Value). members_found (Some (view names)) (option_map view o) is.tables) q
          ∙ ap (members_found (Some (view names)) (Some (view query))) some.1
          ),
    )
