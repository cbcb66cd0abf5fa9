use Rattle.part_laws.proofs.GroupAnswers.{sound-lists-few, sound-lists-show}
use Rattle.part_laws.proofs.group_bys.group_bys_show_lists.Goals as goal

pub returns-clause-causes : goal.returns-clause-causes
returns-clause-causes c = λ F shape n p s keys aggregates sound there is reads rows whole list cause broken. sound-lists-show F shape n p s keys aggregates sound there is reads rows whole list cause broken

pub returns-clause-sizes : goal.returns-clause-sizes
returns-clause-sizes c = λ F shape n p s keys aggregates sound there is reads rows partitions lists list split inside many. sound-lists-few F shape n p s keys aggregates sound there is reads rows partitions lists list split inside many
