use Rattle.join_laws.proofs.Laws.{last-result, left-result, right-result}
use Rattle.join_laws.proofs.joining.each_piece_has_a_result.Goals as goal

pub returns-clause-right : goal.returns-clause-right
returns-clause-right c = λ F p j l r is a. right-result F p j l r is a

pub returns-clause-left : goal.returns-clause-left
returns-clause-left c = λ F p j l r is a rights. left-result F p j l r is a rights

pub returns-clause-last : goal.returns-clause-last
returns-clause-last c = λ F p j l r is lefts rights. last-result F p j l r is lefts rights
