-- What the walks of an `InMemory` share. Assumes `Logic`.
use Prim.Native.Nat.{ℕ}
use mathlib.Core.List.{[], ◌∷◌}
use seplogic.Ra.Ura.{Ura}
use base.Logic.{ent}
use base.Fml.{Lft, fhide}
use types.Logic.{Logic, sem}
use types.Kit.{‵, ◌⊛◌, ◌$◌, ◌∵◌, !, qed, keep, use1, split, move, done}
use denote.RattleType.{RattleType}
use denote.Memory.{hidden_shr}
use denote.Opens.{unhide}
use denote.RawPtr.{block_ptr}
use denote.Struct.Lending.{lent_out}
use Rattle.std.proofs.mem.Param.{El, R, el_x}
use Rattle.pu_index.specs.InMemory.{fits}
use Rattle.pu_index.specs.contracts.unit_vec.in_memory.InMemory as K-type
use Rattle.pu_index.proofs.Marks.{Mark}

abbrev pub Kept : El → RattleType
Kept E = K-type.the_row (R E)

-- a `&` to one shows the bound
pub shown : (E : El) {M : Type 1} {𝓤 : Ura M} (𝓛 : Logic 𝓤) (κ : Lft) (d : (Kept E).Denot) (b o : ℕ) → ent 𝓤 (sem 𝓛 (hidden_shr (Kept E) κ d b o)) (sem 𝓛 (fits (R E)))
shown E 𝓛 κ d b o = qed 𝓛 (‵ (hidden_shr (Kept E) κ d b o) ∷ []) ∵
    use1 𝓛 (‵ (hidden_shr Mark κ (record {}, tt) b o) ⊛ ‵ (fhide (K-type.the_lent (R E) d (block_ptr b o) κ))) (lent_out 𝓛 (K-type.struct (R E)) (K-type.the_codes (el_x E) (R E).coded) (K-type.the_heap (R E)) (K-type.the_lent (R E)) κ d b o) $ split ! $
    move ! (1 ∷ []) $ unhide ! $ keep ! (0 ∷ []) $ done !
