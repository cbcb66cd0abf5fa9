use Rattle.std.proofs.Common.{◌≡◌, true, false, refl}
use Rattle.expression_reads.proofs.examples.tables_with_what_is_read.Goals as goal

pub returns-clause-read : goal.returns-clause-read
returns-clause-read c = record { columns = record { fields = refl; rows = refl }; names = ((λ h. refl), (λ h. refl)) }

pub returns-clause-only : goal.returns-clause-only
returns-clause-only c = (refl, tt)

pub returns-clause-height : goal.returns-clause-height
returns-clause-height c = record { columns = record { fields = refl; rows = refl }; names = tt }

pub returns-clause-unread : goal.returns-clause-unread
returns-clause-unread c = λ h. let e : false ≡ true = h.names.1 refl in cc

pub returns-clause-needless : goal.returns-clause-needless
returns-clause-needless c = λ h. let e : false ≡ true = h.0 in cc
