use Rattle.step_keeps.proofs.Mapped.{mapped_distincts_keep, mapped_groups_keep}
use Rattle.step_keeps.proofs.laws.maps_keep_their_step.Goals as goal

pub returns-clause-groups : goal.returns-clause-groups
returns-clause-groups c = λ F at schema s i o. mapped_groups_keep F at schema i s o

pub returns-clause-distincts : goal.returns-clause-distincts
returns-clause-distincts c = λ F at schema s i o. mapped_distincts_keep F at schema i s o
