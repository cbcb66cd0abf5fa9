use Rattle.part_laws.proofs.GroupAnswers.{sound-partials-whole}
use Rattle.part_laws.proofs.InPipes.{slots-whole}
use Rattle.part_laws.proofs.group_bys.partials_are_whole_together.Goals as goal

pub returns-clause-morsels : goal.returns-clause-morsels
returns-clause-morsels c = λ F shape n p s keys aggregates sound there is reads morsels made. sound-partials-whole F shape n p s keys aggregates sound there is reads morsels made

pub returns-clause-slots : goal.returns-clause-slots
returns-clause-slots c = λ F shape n p s keys aggregates sound there is reads i slots made. slots-whole F shape n p s keys aggregates sound there is reads i slots made
