use Rattle.std.proofs.Common.{subst}
use Rattle.ps_document.specs.Document.{IsPlanJson}
use Rattle.ps_document.proofs.document.document_of.Goals as goal

pub returns-in-Ok-None-clause-none : goal.returns-in-Ok-None-clause-none
returns-in-Ok-None-clause-none c = λ q tables plan is. (rw c.in-Ok-None.field-0-is at c.in-Ok-None.ensures.none) tables plan (subst (IsPlanJson tables plan) c.in-Some.ensures.some is)
