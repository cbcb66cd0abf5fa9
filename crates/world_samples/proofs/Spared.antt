-- What feeds a multiplexer is spared where each of its ports leads to a dropped pipe or to a reader that is done, and not before.
use Rattle.std.proofs.Common.{◌≡◌, ℕ, zero, suc, ◌⊎◌, true, false, [], ◌∷◌, refl, sym, ap, subst, ◌∙◌, inl, inr, arith}
use Rattle.std.specs.Prelude.{Contains, IsFalse, IsTrue}
use Rattle.ps_ports.specs.declared.port_state.PortState.TheVariants as port
use Rattle.ps_world.specs.Promises.{IsSpared, spared}
use Rattle.ps_world.specs.World.{Pipe, counts_for_sender}
use Rattle.world_samples.specs.SmallWorlds.{beside, into_multiplexer, into_slice, shared}

-- WANTED
-- the port beside leads on outside the phase
multiplexer_wanted : (n : ℕ) → n ≡ 1 → IsSpared (shared port.Blocked) n → ⊥
multiplexer_wanted n e (spared some c s t inside leads) =
    let no : false ≡ true = inside (beside port.Blocked) (2, omega arith, refl) (sym e) refl refl in absurd cc

pub scan_wanted : (n : ℕ) → n ≡ 0 → IsSpared (shared port.Blocked) n → ⊥
scan_wanted n e (spared some c s t inside leads) = multiplexer_wanted 1 refl (leads into_multiplexer (0, omega arith, refl) (sym e) refl refl)

-- SPARED
-- a pipe of the three is one of them
one_of : (p x y z : Pipe) → Contains (x ∷ y ∷ z ∷ []) p → (x ≡ p) ⊎ (y ≡ p) ⊎ (z ≡ p)
one_of p x y z (zero, h, e) = inl e
one_of p x y z (suc zero, h, e) = inr (inl e)
one_of p x y z (suc (suc zero), h, e) = inr (inr e)
one_of p x y z (suc (suc (suc k)), h, e) = absurd (omega arith)

-- both ports of the multiplexer lead nowhere
no_way : (p : Pipe) → Contains (shared port.Done).pipes p → p.wire.sender ≡ 1 → IsTrue (counts_for_sender (shared port.Done) p) → IsFalse p.is_dropped → ⊥
no_way p c s t d = by (one_of p into_multiplexer into_slice (beside port.Done) c)
  where
    by : (into_multiplexer ≡ p) ⊎ (into_slice ≡ p) ⊎ (beside port.Done ≡ p) → ⊥
    by (inl e) = let no : 0 ≡ 1 = ap (λ (q : Pipe). q.wire.sender) e ∙ s in absurd (omega (arith, no))
    by (inr (inl e)) = let no : true ≡ false = ap (λ (q : Pipe). q.is_dropped) e ∙ d in absurd cc
    by (inr (inr e)) = let no : false ≡ true = ap (counts_for_sender (shared port.Done)) e ∙ t in absurd cc

multiplexer_spared : IsSpared (shared port.Done) 1
multiplexer_spared = spared into_slice (1, omega arith, refl) refl refl (λ p c s t d. absurd (no_way p c s t d)) (λ p c s t d. absurd (no_way p c s t d))

-- the scan has one pipe, into the multiplexer
its_pipe : (p : Pipe) → Contains (shared port.Done).pipes p → p.wire.sender ≡ 0 → into_multiplexer ≡ p
its_pipe p c s = by (one_of p into_multiplexer into_slice (beside port.Done) c)
  where
    by : (into_multiplexer ≡ p) ⊎ (into_slice ≡ p) ⊎ (beside port.Done ≡ p) → into_multiplexer ≡ p
    by (inl e) = e
    by (inr (inl e)) = let no : 1 ≡ 0 = ap (λ (q : Pipe). q.wire.sender) e ∙ s in absurd (omega (arith, no))
    by (inr (inr e)) = let no : 1 ≡ 0 = ap (λ (q : Pipe). q.wire.sender) e ∙ s in absurd (omega (arith, no))

pub scan_spared : IsSpared (shared port.Done) 0
scan_spared =
    spared into_multiplexer (0, omega arith, refl) refl refl (λ p c s t d. ap (λ (q : Pipe). q.in_phase) (sym (its_pipe p c s)))
    (λ p c s t d. subst (λ (q : Pipe). IsSpared (shared port.Done) q.wire.receiver) (its_pipe p c s) multiplexer_spared)
