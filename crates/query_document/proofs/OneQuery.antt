-- What a JSON value asks: a document asks one thing.
use Rattle.std.proofs.Common.{◌≡◌, ℕ, List, ap, sym, ◌∙◌}
use Rattle.std.specs.Prelude.{map}
use Rattle.std.proofs.lemmas.Option.{same_Some}
use Rattle.serde_json.specs.Data.{Data}
use Rattle.ps_document.proofs.Lists.{list_same}
use Rattle.ps_document.proofs.Told.{text_in}
use Rattle.ps_document.proofs.ToldTable.{table_in, tables-told}
use Rattle.ps_document.specs.Json.{list, list_of, text}
use Rattle.query_document.proofs.NoQuery.{same_members, same_names}
use Rattle.query_document.specs.QueryDocuments.{Asked, IsQueryDocumentOf, IsQueryJson}

one-json : (p q : Asked) (d e : Data) → d ≡ e → IsQueryJson p d → IsQueryJson q e → p ≡ q
one-json p q d e same is other =
    let all = same_members (list_of text p.names) (text p.query) (list is.tables_json) (list_of text q.names) (text q.query) (list other.tables_json) (sym is.members ∙ same ∙ other.members) in
    let names : p.names ≡ q.names = same_names p.names q.names all.0 in
    let query : p.query ≡ q.query = ap text_in all.1 in
    let lists = list_same is.tables_json other.tables_json all.2 in
    let tables : p.tables ≡ q.tables = sym (tables-told p.tables is.tables_json is.are_tables) ∙ ap (map table_in) lists ∙ tables-told q.tables other.tables_json other.are_tables in
    λ i. record { names = names i; query = query i; tables = tables i }

pub one_query : (p q : Asked) (bytes : List ℕ) → IsQueryDocumentOf p bytes → IsQueryDocumentOf q bytes → p ≡ q
one_query p q bytes is other = one-json p q is.json other.json (same_Some is.json other.json (sym is.reads ∙ other.reads)) is.is_query other.is_query
