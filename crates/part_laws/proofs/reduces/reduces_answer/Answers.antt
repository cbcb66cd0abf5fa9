use Rattle.part_laws.proofs.Partials.{reduce-made, reduce-partial}
use Rattle.part_laws.proofs.reduces.reduces_answer.Goals as goal

pub returns-clause-partial : goal.returns-clause-partial
returns-clause-partial c = λ F p es is i ts. reduce-partial F p es is i ts

pub returns-clause-row : goal.returns-clause-row
returns-clause-row c = λ F p es is ts. reduce-made F p es is ts
