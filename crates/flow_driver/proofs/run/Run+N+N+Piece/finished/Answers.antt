-- What the world tells.
use Rattle.flow_driver.proofs.run.Run+N+N+Piece.finished.Goals as goal

pub returns : goal.returns
returns g c = λ F shape o w at. c.finished.ensures.told w at.tells
