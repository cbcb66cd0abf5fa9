use denote.RattleType.{RattleType}
use denote.Param.Send.{IsSend}
use Rattle.pu_index.proofs.PlacesCross.{Places-send}
use Rattle.pu_index.specs.contracts.ring.places.Places.{the_row}

pub send : (R : RattleType) → IsSend R → IsSend (the_row R)
send = Places-send
