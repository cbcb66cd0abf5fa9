use Rattle.join_laws.proofs.WholeSides.{front-of-whole}
use Rattle.join_laws.proofs.joining.whole_sides_are_not_newly_large.Goals as goal

pub returns : goal.returns
returns c = λ at o left right e h. front-of-whole at o left right e h
