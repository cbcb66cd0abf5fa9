use Rattle.join_laws.proofs.Laws.{last-faults, left-faults, right-faults}
use Rattle.join_laws.proofs.joining.causes_of_pieces.Goals as goal

pub returns-clause-right : goal.returns-clause-right
returns-clause-right c = λ F p j l r is left front a rest causes cause h. right-faults F p j l r is left front a rest causes cause h

pub returns-clause-left : goal.returns-clause-left
returns-clause-left c = λ F p j l r is a rights cause h. left-faults F p j l r is a rights cause h

pub returns-clause-last : goal.returns-clause-last
returns-clause-last c = λ F p j l r is lefts rights cause h. last-faults F p j l r is lefts rights cause h
