use Rattle.ps_turns.specs.Keys.{part_of}
use Rattle.part_laws.proofs.GroupAnswers.{group-made, group-partial}
use Rattle.part_laws.proofs.group_bys.group_bys_answer.Goals as goal

pub returns-clause-partial : goal.returns-clause-partial
returns-clause-partial c = λ F p keys aggregates is i ts. group-partial F p keys aggregates is i ts

pub returns-clause-part : goal.returns-clause-part
returns-clause-part c = λ F p keys aggregates is ts list. group-made F p keys aggregates is (part_of p list ts)
