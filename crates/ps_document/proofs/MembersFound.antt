-- The members of a document, found one after another.
use Rattle.std.proofs.Common.{◌≡◌, List, Option, Some, None, refl, ap, ◌∙◌, subst}
use Rattle.std.specs.Option.{option_zip}
use Rattle.std.specs.Prelude.{Vec, codes, option_map}
use Rattle.std.specs.List.{AllZip}
use Rattle.std.specs.declared.alloc.Global.{Global}
use Rattle.serde_json.specs.Data.{Data, Members, object, put}
use Rattle.serde_json.specs.View.{view}
use Rattle.serde_json.specs.declared.value.Value.{Value}
use Rattle.ps_frame.specs.Tables.{Frame}
use Rattle.pu_base.specs.declared.arena.Node.{Node}
use Rattle.ps_document.specs.Found.{AreTables, IsFound, members_found}
use Rattle.ps_document.specs.Expressions.{entry_number}
use Rattle.ps_document.specs.Json.{four_members, list}
use Rattle.ps_document.specs.Tables.{IsTable}
use Rattle.ps_document.specs.declared.found.Found.{Found}

put-exprs : (d : Data) (n r t : Option Data) → put (codes "exprs") d (members_found None n r t) ≡ members_found (Some d) n r t
put-exprs d None None None = refl
put-exprs d None None (Some t) = refl
put-exprs d None (Some r) None = refl
put-exprs d None (Some r) (Some t) = refl
put-exprs d (Some n) None None = refl
put-exprs d (Some n) None (Some t) = refl
put-exprs d (Some n) (Some r) None = refl
put-exprs d (Some n) (Some r) (Some t) = refl

put-nodes : (d : Data) (e r t : Option Data) → put (codes "nodes") d (members_found e None r t) ≡ members_found e (Some d) r t
put-nodes d None None None = refl
put-nodes d None None (Some t) = refl
put-nodes d None (Some r) None = refl
put-nodes d None (Some r) (Some t) = refl
put-nodes d (Some e) None None = refl
put-nodes d (Some e) None (Some t) = refl
put-nodes d (Some e) (Some r) None = refl
put-nodes d (Some e) (Some r) (Some t) = refl

put-root : (d : Data) (e n t : Option Data) → put (codes "root") d (members_found e n None t) ≡ members_found e n (Some d) t
put-root d None None None = refl
put-root d None None (Some t) = refl
put-root d None (Some n) None = refl
put-root d None (Some n) (Some t) = refl
put-root d (Some e) None None = refl
put-root d (Some e) None (Some t) = refl
put-root d (Some e) (Some n) None = refl
put-root d (Some e) (Some n) (Some t) = refl

put-tables : (d : Data) (e n r : Option Data) → put (codes "tables") d (members_found e n r None) ≡ members_found e n r (Some d)
put-tables d None None None = refl
put-tables d None None (Some r) = refl
put-tables d None (Some n) None = refl
put-tables d None (Some n) (Some r) = refl
put-tables d (Some e) None None = refl
put-tables d (Some e) None (Some r) = refl
put-tables d (Some e) (Some n) None = refl
put-tables d (Some e) (Some n) (Some r) = refl

-- ---- one more of them

pub exprs-found : (old : Found) (value : Value) (ms : Members) → old.exprs ≡ None → IsFound old ms → IsFound (record old { exprs = Some value }) (put (codes "exprs") (view value) ms)
exprs-found old value ms e is = record {
  tables = is.tables;
  are_tables = is.are_tables;
  members = ap (put (codes "exprs") (view value)) (is.members ∙ ap (λ (o : Option Value). members_found (option_map view o) (option_map view old.nodes) (option_map entry_number old.root) is.tables) e) ∙ put-exprs (view value) (option_map view old.nodes) (option_map entry_number old.root) is.tables;
}

pub nodes-found : (old : Found) (value : Value) (ms : Members) → old.nodes ≡ None → IsFound old ms → IsFound (record old { nodes = Some value }) (put (codes "nodes") (view value) ms)
nodes-found old value ms e is = record {
  tables = is.tables;
  are_tables = is.are_tables;
  members = ap (put (codes "nodes") (view value)) (is.members ∙ ap (λ (o : Option Value). members_found (option_map view old.exprs) (option_map view o) (option_map entry_number old.root) is.tables) e) ∙ put-nodes (view value) (option_map view old.exprs) (option_map entry_number old.root) is.tables;
}

pub root-found : (old : Found) (root : Node) (ms : Members) → old.root ≡ None → IsFound old ms → IsFound (record old { root = Some root }) (put (codes "root") (entry_number root) ms)
root-found old root ms e is = record {
  tables = is.tables;
  are_tables = is.are_tables;
  members = ap (put (codes "root") (entry_number root)) (is.members ∙ ap (λ (o : Option Node). members_found (option_map view old.exprs) (option_map view old.nodes) (option_map entry_number o) is.tables) e) ∙ put-root (entry_number root) (option_map view old.exprs) (option_map view old.nodes) is.tables;
}

no_tables : (o : Option Data) → AreTables None o → o ≡ None
no_tables None h = refl
no_tables (Some d) h = absurd h

pub tables-found : (old : Found) (tables : Vec Frame Global) (ds : List Data) (ms : Members) → old.tables ≡ None → AllZip IsTable tables.items ds → IsFound old ms
    → IsFound (record old { tables = Some tables }) (put (codes "tables") (list ds) ms)
tables-found old tables ds ms e zip is =
    let none = no_tables is.tables (subst (λ (o : Option (Vec Frame Global)). AreTables o is.tables) e is.are_tables) in
    record {
      tables = Some (list ds);
      are_tables = (ds, refl, zip);
      members = ap (put (codes "tables") (list ds)) (is.members ∙ ap (members_found (option_map view old.exprs) (option_map view old.nodes) (option_map entry_number old.root)) none) ∙ put-tables (list ds) (option_map view old.exprs) (option_map view old.nodes) (option_map entry_number old.root);
    }

-- ---- all of them

abbrev first_of : {A B : Type 0} → A → Option (A × B) → A
first_of a None = a
first_of a (Some p) = p.0

abbrev second_of : {A B : Type 0} → B → Option (A × B) → B
second_of b None = b
second_of b (Some p) = p.1

pub zip-some : {A B : Type 0} (o : Option A) (p : Option B) (x : A) (y : B) → option_zip o p ≡ Some (x, y) → (o ≡ Some x) × (p ≡ Some y)
zip-some None p x y e = absurd (cc)
zip-some (Some a) None x y e = absurd (cc)
zip-some (Some a) (Some b) x y e = (ap Some (ap (first_of x) e), ap Some (ap (second_of y) e))

some_tables : (tables : Vec Frame Global) (o : Option Data) → AreTables (Some tables) o → (ds : List Data) × (o ≡ Some (list ds)) × AllZip IsTable tables.items ds
some_tables tables None h = absurd h
some_tables tables (Some d) h = (h.0, ap Some h.1, h.2)

pub all-found : (f : Found) (tables : Vec Frame Global) (exprs nodes : Value) (root : Node) (ms : Members) → f.tables ≡ Some tables → f.exprs ≡ Some exprs → f.nodes ≡ Some nodes → f.root ≡ Some root → IsFound f ms
    → (ds : List Data) × AllZip IsTable tables.items ds × (object ms ≡ four_members (list ds) (view exprs) (view nodes) (entry_number root))
all-found f tables exprs nodes root ms t e n r is =
    let some = some_tables tables is.tables (subst (λ (o : Option (Vec Frame Global)). AreTables o is.tables) t is.are_tables) in (
      some.0,
      some.2,
      ap object (
          is.members ∙ ap (λ (o : Option Value). members_found (option_map view o) (option_map view f.nodes) (option_map entry_number f.root) is.tables) e
          ∙ ap (λ (o : Option Value). members_found (Some (view exprs)) (option_map view o) (option_map entry_number f.root) is.tables) n
          ∙ ap (λ (o : Option Node). members_found (Some (view exprs)) (Some (view nodes)) (option_map entry_number o) is.tables) r
          ∙ ap (members_found (Some (view exprs)) (Some (view nodes)) (Some (entry_number root))) some.1
          ),
    )
