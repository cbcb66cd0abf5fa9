use Rattle.part_laws.proofs.GroupAnswers.{sound-groups-show}
use Rattle.part_laws.proofs.group_bys.group_bys_show_parts.Goals as goal

pub returns : goal.returns
returns c = λ F shape n p s keys aggregates sound there is reads. sound-groups-show F shape n p s keys aggregates sound there is reads
