use Rattle.std.proofs.Common.{◌≡◌, Some, subst, sym}
use Rattle.serde_json.specs.Data.{object}
use Rattle.serde_json.specs.Read.{read}
use Rattle.query_document.proofs.MembersFound.{all-found}
use Rattle.query_document.specs.QueryDocuments.{IsQueryJson, asked_of}
use Rattle.query_document.proofs.found.read_off_tokens.Goals as goal

pub returns : goal.returns
returns c =
    let told = rw c.in-Some.is at c.in_ok-found.ensures in
    let tables = c.in-Some-tables.tables in
    let names = c.in-Some-names.names in
    let query = c.in-Some-query.query in
    let document = c.in-Some-2.document in
    let all = all-found c.in-Some.found tables names query told.0 c.in-Some-tables.is c.in-Some-names.is c.in-Some-query.is told.1 in
    let asked = (rw c.in-Some-2.is at c.in_ok-document.ensures.some) all.0 all.1 in
    record {
      is_text = c.in-Ok.ensures.1;
      json = object told.0;
      reads = subst (λ text. read text ≡ Some (object told.0)) c.in-Ok.ensures.0 told.2;
      is_query = subst (IsQueryJson (asked_of document)) (sym all.2) asked;
    }
