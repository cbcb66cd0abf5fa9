use Rattle.reductions_keep.proofs.Inside.{made_single}
use Rattle.reductions_keep.proofs.laws.reductions_give_one_cell.Goals as goal

pub returns : goal.returns
returns c = made_single
