use denote.RattleType.{RattleType}
use denote.Struct.Struct.{exits_of}
use denote.Struct.Owning.{shape, fields, to}
use denote.Param.Send.{IsSend, AllSend, owning_send, struct_send, sendable}
use Rattle.std_alloc.proofs.SendSync.{quiet}
use Rattle.pu_index.specs.contracts.unit_vec.in_memory.InMemory.{the_row, the_type}

pub send : (R : RattleType) → IsSend (the_row R)
send R =
    let O = the_type R in let all : AllSend (fields O) = (search sendable, tt) in
    owning_send O all (λ d. tt) (λ k. quiet (to O) (exits_of k (fields O)) ((struct_send (shape O) all).leaving k))
