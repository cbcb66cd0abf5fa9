use Rattle.join_laws.proofs.Laws.{begin, end, gives-some}
use Rattle.join_laws.proofs.joining.morsels_give_the_join.Goals as goal

pub returns-clause-begins : goal.returns-clause-begins
returns-clause-begins c = λ F p j l r is rights ms rest causes whole all. begin F p j l r is rights ms rest causes whole all

pub returns-clause-ends : goal.returns-clause-ends
returns-clause-ends c = λ F p j l r is rights ms last whole all comes. end F p j l r is rights ms last whole all comes

pub returns-clause-some : goal.returns-clause-some
returns-clause-some c = λ F p j l r is rows causes rights more. gives-some F p j l r is rows causes rights more
