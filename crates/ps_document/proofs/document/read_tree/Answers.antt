use Rattle.std.proofs.Common.{◌∙◌, subst, sym}
use Rattle.std.proofs.lemmas.Option.{same_Some}
use Rattle.serde_json.specs.View.{view}
use Rattle.ps_document.specs.Document.{IsPlanJson}
use Rattle.ps_document.proofs.document.read_tree.Goals as goal

pub returns-in-Ok-clause-json : goal.returns-in-Ok-clause-json
returns-in-Ok-clause-json c = λ q.
    let ok = rw c.as_slice.ensures.value at c.in-Ok.ensures.ok in
    record { is_text = ok.0; json = view c.in-Ok.value; reads = ok.1 }

pub returns-in-Ok-clause-bad_document : goal.returns-in-Ok-clause-bad_document
returns-in-Ok-clause-bad_document c = λ q is.
    let ok = rw c.as_slice.ensures.value at c.in-Ok.ensures.ok in
    let d = is.is_document in
    let same = same_Some d.json (view c.in-Ok.value) (sym d.reads ∙ ok.1) in
    c.document_of.ensures.none q d.tables is.plan (subst (IsPlanJson d.tables is.plan) same d.is_plan)
