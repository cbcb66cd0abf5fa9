-- What is the JSON of no query.
use Rattle.std.proofs.Common.{◌≡◌, ◌≢◌, ℕ, suc, List, [], ◌∷◌, length, refl, ap, subst, sym, ◌∙◌}
use Rattle.std.specs.Prelude.{AllPairs}
use Rattle.std.specs.List.{AllZip}
use Rattle.serde_json.specs.Data.{Data, Members, member, object}
use Rattle.ps_frame.specs.Tables.{Frame}
use Rattle.ps_document.proofs.Lists.{list_same}
use Rattle.ps_document.proofs.Told.{list_in, list-told, text_in}
use Rattle.ps_document.specs.Json.{list, list_of, text}
use Rattle.ps_document.specs.Tables.{IsTable}
use Rattle.query_document.specs.QueryDocuments.{Asked, IsNaming, IsQueryJson, three_members}

-- the members of equal documents are equal
pub same_members : (n q t m r u : Data) → three_members n q t ≡ three_members m r u → (n ≡ m) × (q ≡ r) × (t ≡ u)
same_members n q t m r u h = (cc, cc, cc)

-- the last members of a document, after the first two, and after the first
pub last_members : (x y e n : Data) (k l : List ℕ) (all rest more : Members) → all ≡ member k x (member l y rest) → object all ≡ object (member k e (member l n more)) → rest ≡ more
last_members x y e n k l all rest more g h = cc

pub last_member : (x e : Data) (k : List ℕ) (all rest more : Members) → all ≡ member k x rest → all ≡ member k e more → rest ≡ more
last_member x e k all rest more g h = cc

-- names are told by their JSON
pub same_names : (xs ys : List (List ℕ)) → list_of text xs ≡ list_of text ys → xs ≡ ys
same_names xs ys e = sym (list-told text text_in (λ x. refl) xs) ∙ ap (list_in text_in) e ∙ list-told text text_in (λ x. refl) ys

zip_length : {A B : Type 0} (R : A → B → Type 0) (xs : List A) (ys : List B) → AllZip R xs ys → length xs ≡ length ys
zip_length R [] [] h = refl
zip_length R [] (y ∷ ys) h = absurd h
zip_length R (x ∷ xs) [] h = absurd h
zip_length R (x ∷ xs) (y ∷ ys) h = ap suc (zip_length R xs ys h.1)

pub no_names : (n q t : Data) → ((names : List (List ℕ)) → n ≢ list_of text names) → (asked : Asked) → IsQueryJson asked (three_members n q t) → ⊥
no_names n q t none asked is = none asked.names (same_members n q t (list_of text asked.names) (text asked.query) (list is.tables_json) is.members).0

pub no_text : (n q t : Data) → ((query : List ℕ) → q ≢ text query) → (asked : Asked) → IsQueryJson asked (three_members n q t) → ⊥
no_text n q t none asked is = none asked.query (same_members n q t (list_of text asked.names) (text asked.query) (list is.tables_json) is.members).1

pub no_tables : (n q t : Data) → ((xs : List Frame) (ds : List Data) → AllZip IsTable xs ds → t ≢ list ds) → (asked : Asked) → IsQueryJson asked (three_members n q t) → ⊥
no_tables n q t none asked is = none asked.tables is.tables_json is.are_tables (same_members n q t (list_of text asked.names) (text asked.query) (list is.tables_json) is.members).2

-- the names of a query over tables are a naming of them
pub naming_of : (n q : Data) (names : List (List ℕ)) (tables : List Frame) (ts : List Data) → n ≡ list_of text names → AllZip IsTable tables ts → (asked : Asked) → IsQueryJson asked (three_members n q (list ts)) → IsNaming names tables
naming_of n q names tables ts e zip asked is =
    let same = same_members n q (list ts) (list_of text asked.names) (text asked.query) (list is.tables_json) is.members in
    let named : names ≡ asked.names = same_names names asked.names (sym e ∙ same.0) in
    let lists : ts ≡ is.tables_json = list_same ts is.tables_json same.2 in
    let counted : length asked.names ≡ length tables = is.naming.one_each ∙ zip_length IsTable asked.tables is.tables_json is.are_tables ∙ ap length (sym lists) ∙ sym (zip_length IsTable tables ts zip) in
    record { one_each = ap length named ∙ counted; differ = subst (λ (xs : List (List ℕ)). AllPairs (λ a b. a ≢ b) xs) (sym named) is.naming.differ }

-- the JSON of what was read
pub read_query : (n q : Data) (asked : Asked) (ts : List Data) → n ≡ list_of text asked.names → q ≡ text asked.query → AllZip IsTable asked.tables ts → IsNaming asked.names asked.tables → IsQueryJson asked (three_members n q (list ts))
read_query n q asked ts en eq zip naming = record {
  tables_json = ts;
  members = ap (λ x. three_members x q (list ts)) en ∙ ap (λ x. three_members (list_of text asked.names) x (list ts)) eq;
  are_tables = zip;
  naming = naming;
}
