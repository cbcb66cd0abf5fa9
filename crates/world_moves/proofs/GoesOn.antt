-- From the moves of nodes: no run is stuck in a phase, nor between phases where updates come to rest.
use Rattle.std.proofs.Common.{◌≡◌, ◌≢◌, ℕ, suc, ◌+◌, ◌⊎◌, Bool, true, false, List, [], ◌∷◌, Some, refl, inl, inr}
use Rattle.std.specs.Prelude.{IsFalse, IsTrue, not, slice_get, ◌&&◌}
use Rattle.std.specs.List.{AllByRecursion}
use Rattle.ps_frame.specs.Causes.{Cause}
use Rattle.ps_frame.specs.Functions.{Functions}
use Rattle.ps_meaning.specs.Shape.{Shape}
use Rattle.ps_meaning.specs.Sound.{IsSound}
use Rattle.ps_options.specs.declared.options.Options.{Options}
use Rattle.ps_turns.specs.Tasks.{Piece}
use Rattle.ps_world.specs.Closing.{after_end}
use Rattle.ps_world.specs.Laws.{ComesToRest, IsOut, MayStep, Progresses}
use Rattle.ps_world.specs.Opening.{Reaches}
use Rattle.ps_world.specs.Phases.{after_fault, after_open}
use Rattle.ps_world.specs.Step.{breaks, settles}
use Rattle.ps_world.specs.Updates.{FaultFound, IsSettled, Updates}
use Rattle.ps_world.specs.World.{Node, World, ended, opened, running}
use Rattle.world_claims.proofs.ReachedFacts.{known_reached}
use Rattle.world_claims.proofs.WholeLaw.{facts_law}
use Rattle.world_claims.specs.Numbering.{Known}
use Rattle.world_laws.proofs.OnePhase.{goes_on}
use Rattle.world_ends.proofs.Stored.{has_stores}
use Rattle.world_moves.proofs.NodeMoves.{Moves, moves}
use Rattle.world_moves.proofs.Reached.{fits_reached}

out_or_none : (xs : List Piece) → (xs ≡ []) ⊎ (xs ≢ [])
out_or_none [] = inl refl
out_or_none (q ∷ qs) = inr (λ e. let no : q ∷ qs ≡ [] = e in cc)

-- all nodes of the phase are closed, or one isn't
closed_or_one : (nodes : List Node) → AllByRecursion (λ (n : Node). IsTrue n.in_phase → IsTrue n.is_closed) nodes ⊎ ((n : ℕ) × (node : Node) × (slice_get nodes n ≡ Some node) × ((node.in_phase && not node.is_closed) ≡ true))
closed_or_one [] = inl tt
closed_or_one (x ∷ xs) = by (x.in_phase && not x.is_closed) refl (closed_or_one xs)
  where
    closed_by : (a b : Bool) → (a && not b) ≡ false → a ≡ true → b ≡ true
    closed_by true true e h = refl
    closed_by true false e h = absurd (let no : true ≡ false = e in cc)
    closed_by false b e h = absurd (let no : false ≡ true = h in cc)

    by : (b : Bool) → (x.in_phase && not x.is_closed) ≡ b
        → AllByRecursion (λ (n : Node). IsTrue n.in_phase → IsTrue n.is_closed) xs ⊎ ((n : ℕ) × (node : Node) × (slice_get xs n ≡ Some node) × ((node.in_phase && not node.is_closed) ≡ true))
        → AllByRecursion (λ (n : Node). IsTrue n.in_phase → IsTrue n.is_closed) (x ∷ xs) ⊎ ((n : ℕ) × (node : Node) × (slice_get (x ∷ xs) n ≡ Some node) × ((node.in_phase && not node.is_closed) ≡ true))
    by true e rest = inr (0, x, refl, e)
    by false e (inl all) = inl (closed_by x.in_phase x.is_closed e, all)
    by false e (inr m) = inr (suc m.0, m.1, m.2, m.3)

module _ (F : Functions) (shape : Shape) (o : Options) (sound : IsSound F shape) (w : World) (reached : Reaches F shape o w) (run : w.ending ≡ running) where
  pub progresses : (n : ℕ) → Progresses F w n
  progresses n (node, at, working) = by (out_or_none w.outs)
    where
      by : (w.outs ≡ []) ⊎ (w.outs ≢ []) → Moves F w n
      by (inr out) = inr (inl out)
      by (inl none) = moves F w (known_reached F shape o w sound reached) (fits_reached F shape o w sound reached) run n node at working none (has_stores F shape o w reached n node at)

  pub open_goes_on : w.is_open ≡ true → MayStep F w ⊎ IsOut w
  open_goes_on open_now = by (closed_or_one w.nodes)
    where
      at_work : (b : Bool) → w.is_open ≡ true → b ≡ true → (w.is_open && b) ≡ true
      at_work b e h = rw (e, h) refl

      by : AllByRecursion (λ (n : Node). IsTrue n.in_phase → IsTrue n.is_closed) w.nodes ⊎ ((n : ℕ) × (node : Node) × (slice_get w.nodes n ≡ Some node) × ((node.in_phase && not node.is_closed) ≡ true)) → MayStep F w ⊎ IsOut w
      by (inl all) = inl (ended w.phase, after_end w, (open_now, run, refl, all, refl))
      by (inr m) = goes_on F w ((facts_law F).phase w (known_reached F shape o w sound reached) run) progresses m.0 (m.1, m.2, at_work (m.1.in_phase && not m.1.is_closed) open_now m.3)

  -- between phases
  of_rest : IsFalse w.is_open → (s : World) × Updates F w s × (IsSettled s ⊎ ((n : ℕ) × (c : Cause) × FaultFound F s n c)) → MayStep F w
  of_rest shut (s, u, inl rest) = (opened (w.phase + 1), after_open s (w.phase + 1), (shut, run, refl, (s, u, settles rest refl)))
  of_rest shut (s, u, inr f) = (opened (w.phase + 1), after_fault s (w.phase + 1) f.1, (shut, run, refl, (s, u, breaks f.0 f.1 f.2 refl)))

  pub not_stuck : ComesToRest F (Known F) → MayStep F w ⊎ IsOut w
  not_stuck rests = by w.is_open refl
    where
      by : (b : Bool) → w.is_open ≡ b → MayStep F w ⊎ IsOut w
      by true e = open_goes_on e
      by false e = inl (of_rest e (rests w (known_reached F shape o w sound reached) e run))
