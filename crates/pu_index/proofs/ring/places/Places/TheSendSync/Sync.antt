use denote.RattleType.{RattleType}
use denote.Param.Send.{IsSync}
use Rattle.pu_index.proofs.PlacesCross.{Places-sync}
use Rattle.pu_index.specs.contracts.ring.places.Places.{the_row}

pub sync : (R : RattleType) → IsSync R → IsSync (the_row R)
sync = Places-sync
