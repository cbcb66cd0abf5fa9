use Rattle.std.proofs.Common.{subst}
use Rattle.query_document.proofs.document.read_query_document.Goals as goal
use Rattle.query_document.specs.QueryDocuments.{IsQueryDocumentOf, asked_of}

pub returns-in-Ok-Some-clause-document : goal.returns-in-Ok-Some-clause-document
returns-in-Ok-Some-clause-document c = subst (IsQueryDocumentOf (asked_of c.in-Ok-Some.document)) c.as_slice.ensures.value (rw c.in-Ok-Some.field-0-is at c.in-Ok-Some.ensures)
