use denote.RattleType.{RattleType}
use denote.Param.Send.{IsSync}
use Rattle.std.specs.declared.alloc.Allocator.{Ghosts}
use Rattle.pu_index.proofs.PlacesCross.{Deed-sync}
use Rattle.pu_index.specs.contracts.ring.places.Deed.{the_row}

pub sync : (R A : RattleType) (g : Ghosts A.Denot) → IsSync (the_row R A g)
sync = Deed-sync
