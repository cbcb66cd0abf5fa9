use Rattle.ps_rowwise.proofs.RowLaws.{parts-apart}
use Rattle.ps_rowwise.proofs.laws.parts_give_parts.Goals as goal

pub returns : goal.returns
returns c = λ node p q T t g a. parts-apart node p q T t g a
