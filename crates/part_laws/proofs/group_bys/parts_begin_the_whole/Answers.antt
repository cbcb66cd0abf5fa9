use Rattle.part_laws.proofs.GroupAnswers.{sound-parts-begin}
use Rattle.part_laws.proofs.group_bys.parts_begin_the_whole.Goals as goal

pub returns : goal.returns
returns c = λ F shape n p s keys aggregates sound there is reads rows whole partitions given left rss split made. sound-parts-begin F shape n p s keys aggregates sound there is reads rows whole partitions given left rss split made
