-- What the world tells.
use Rattle.flow_driver.proofs.run.Run+N+N+Piece.journal.Goals as goal

pub returns : goal.returns
returns g c = λ F shape o w at. c.journal.ensures.told w at.tells
