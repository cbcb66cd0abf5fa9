use Rattle.join_laws.proofs.Pairs.{suffix-same}
use Rattle.join_laws.proofs.joining.suffixes_change_no_row.Goals as goal

pub returns : goal.returns
returns c = λ o suffix l r ls rs. suffix-same o suffix l r ls rs
