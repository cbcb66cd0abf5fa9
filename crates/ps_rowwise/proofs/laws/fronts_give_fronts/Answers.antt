use Rattle.ps_rowwise.proofs.RowLaws.{front-begins}
use Rattle.ps_rowwise.proofs.laws.fronts_give_fronts.Goals as goal

pub returns : goal.returns
returns c = λ node p T t h k f. front-begins node p T t h k f
