use Rattle.std.proofs.Common.{subst}
use Rattle.ps_document.specs.Document.{IsDocumentOf}
use Rattle.ps_document.proofs.document.read_document.Goals as goal

pub returns-in-Ok-Some-clause-document : goal.returns-in-Ok-Some-clause-document
returns-in-Ok-Some-clause-document c =
    let d = c.in-Ok-Some.document in
    subst (IsDocumentOf (record { nodes = d.nodes.items; exprs = d.exprs.items; root = d.root })) c.as_slice.ensures.value (rw c.in-Ok-Some.field-0-is at c.in-Ok-Some.ensures)
