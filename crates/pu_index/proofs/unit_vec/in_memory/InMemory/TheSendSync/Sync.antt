use denote.RattleType.{RattleType}
use denote.Struct.Owning.{shape, to}
use denote.Param.Send.{IsSync, struct_sync, sendable}
use Rattle.pu_index.specs.contracts.unit_vec.in_memory.InMemory.{the_row, the_type}

pub sync : (R : RattleType) → IsSync (the_row R)
sync R = let O = the_type R in record { shared = λ d b o κ. ((struct_sync (shape O) (search sendable, tt)).shared (to O d) b o κ, tt) }
