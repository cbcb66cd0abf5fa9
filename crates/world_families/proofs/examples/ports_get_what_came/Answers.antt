use Rattle.world_families.proofs.OnwardExamples.{a_front, not_less_while_open, not_the_others, unread}
use Rattle.world_families.proofs.examples.ports_get_what_came.Goals as goal

pub returns-clause-a_front : goal.returns-clause-a_front
returns-clause-a_front c = a_front

pub returns-clause-not_less_while_open : goal.returns-clause-not_less_while_open
returns-clause-not_less_while_open c = λ h. not_less_while_open h

pub returns-clause-not_the_others : goal.returns-clause-not_the_others
returns-clause-not_the_others c = λ h. not_the_others h

pub returns-clause-unread : goal.returns-clause-unread
returns-clause-unread c = λ h. unread h
