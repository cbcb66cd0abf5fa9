use Rattle.part_laws.proofs.Reductions.{reduction-part}
use Rattle.part_laws.proofs.reduces.reductions_find_by_part.Goals as goal

pub returns : goal.returns
returns c = λ node s t reduction k a rows causes among cause m. reduction-part node s t reduction k a rows causes among cause m
