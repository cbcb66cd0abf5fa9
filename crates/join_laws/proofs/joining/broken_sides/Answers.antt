use Rattle.join_laws.proofs.Laws.{by-broken-left, by-broken-right}
use Rattle.join_laws.proofs.joining.broken_sides.Goals as goal

pub returns-clause-left : goal.returns-clause-left
returns-clause-left c = λ F p j l r is rows causes rights cause cs e whole. by-broken-left F p j l r is rows causes rights cause cs e whole

pub returns-clause-right : goal.returns-clause-right
returns-clause-right c = λ F p j l r is rows causes rights more cause cs e. by-broken-right F p j l r is rows causes rights more cause cs e
