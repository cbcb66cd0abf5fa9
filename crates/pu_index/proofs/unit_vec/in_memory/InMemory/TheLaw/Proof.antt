-- A `&` to it tells the same. Assumes `Logic`.
use denote.RattleType.{RattleType}
use denote.RawPtr.{RawPtr}
use denote.Param.Laws.{Laws}
use denote.Param.Shared.{copy_shared}
use denote.SharingLaws.{said_shr_laws}
use denote.Struct.Laws.{field_copy}
use denote.Struct.Lending.{of_Lends, Lends-said}
use Rattle.std.specs.contracts.marker.PhantomData as marker
use Rattle.pu_index.specs.InMemory.{fits}
use Rattle.pu_index.specs.contracts.unit_vec.in_memory.InMemory as C
use Rattle.pu_index.proofs.unit_vec.in_memory.InMemory.TheLaw.Statement.{statement}

pub shares : (R : RattleType) (L : Laws R) → statement R L
shares R L =
    of_Lends (C.struct R) (C.the_codes R.Denot R.coded) (C.the_heap R) (C.the_lent R) (λ d p. said_shr_laws (fits R) tt)
    (copy_shared (marker.the_field RawPtr) (field_copy (marker.the_type RawPtr) tt), tt) (λ M 𝓤 𝓛 d p. Lends-said 𝓛 (fits R) tt (C.the_row R).lives)
