use Rattle.std.proofs.Common.{subst}
use Rattle.query_document.proofs.document.document_of.Goals as goal
use Rattle.query_document.specs.QueryDocuments.{IsQueryJson}

pub returns-in-Ok-None-clause-none : goal.returns-in-Ok-None-clause-none
returns-in-Ok-None-clause-none c = λ q asked is. (rw c.in-Ok-None.field-0-is at c.in-Ok-None.ensures.none) asked (subst (IsQueryJson asked) c.in-Some.ensures.some is)
