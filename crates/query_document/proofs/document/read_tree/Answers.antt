use Rattle.std.proofs.Common.{◌∙◌, subst, sym}
use Rattle.std.proofs.lemmas.Option.{same_Some}
use Rattle.serde_json.specs.View.{view}
use Rattle.query_document.proofs.document.read_tree.Goals as goal
use Rattle.query_document.specs.QueryDocuments.{IsQueryJson}

pub returns-in-Ok-clause-json : goal.returns-in-Ok-clause-json
returns-in-Ok-clause-json c = λ q.
    let ok = rw c.as_slice.ensures.value at c.in-Ok.ensures.ok in
    record { is_text = ok.0; json = view c.in-Ok.value; reads = ok.1 }

pub returns-in-Ok-clause-bad_document : goal.returns-in-Ok-clause-bad_document
returns-in-Ok-clause-bad_document c = λ q is.
    let ok = rw c.as_slice.ensures.value at c.in-Ok.ensures.ok in
    let d = is.is_document in
    let same = same_Some d.json (view c.in-Ok.value) (sym d.reads ∙ ok.1) in
    c.document_of.ensures.none q is.asked (subst (IsQueryJson is.asked) same d.is_query)
