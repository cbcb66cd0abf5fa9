-- A run that goes on may move or has a piece out.
use Rattle.std.proofs.Common.{◌≡◌, ℕ, suc, ◌+◌, ◌⊎◌, Bool, true, false, List, [], ◌∷◌, Some, refl, subst, inl, inr}
use Rattle.std.specs.Prelude.{slice_get, IsTrue, IsFalse, not, ◌&&◌}
use Rattle.std.specs.List.{AllByRecursion}
use Rattle.ps_frame.specs.Functions.{Functions}
use Rattle.ps_meaning.specs.Shape.{Shape}
use Rattle.ps_world.specs.World.{Node, World, ended, opened, running}
use Rattle.ps_world.specs.Closing.{after_end}
use Rattle.ps_world.specs.Laws.{AnyKind, ComesToRest, FactsLaw, FamilyLaw, IsOut, MayStep, Progresses}
use Rattle.ps_world.specs.Phases.{after_fault, after_open}
use Rattle.ps_world.specs.Step.{breaks, settles}
use Rattle.world_laws.proofs.Answered.{in_shape}
use Rattle.world_laws.proofs.Induction.{Keeps}
use Rattle.world_laws.proofs.OnePhase.{goes_on}

-- all nodes of the phase are closed, or one isn't
unclosed_or_none : (nodes : List Node) → AllByRecursion (λ (n : Node). IsTrue n.in_phase → IsTrue n.is_closed) nodes ⊎ ((n : ℕ) × (node : Node) × (slice_get nodes n ≡ Some node) × IsTrue (node.in_phase && not node.is_closed))
unclosed_or_none [] = inl tt
unclosed_or_none (x ∷ xs) = by (x.in_phase && not x.is_closed) refl (unclosed_or_none xs)
  where
    closed_by : (a b : Bool) → (a && not b) ≡ false → a ≡ true → b ≡ true
    closed_by true true e h = refl
    closed_by true false e h = absurd (let no : true ≡ false = e in cc)
    closed_by false b e h = absurd (let no : false ≡ true = h in cc)

    by : (b : Bool) → (x.in_phase && not x.is_closed) ≡ b
        → AllByRecursion (λ (n : Node). IsTrue n.in_phase → IsTrue n.is_closed) xs ⊎ ((n : ℕ) × (node : Node) × (slice_get xs n ≡ Some node) × IsTrue (node.in_phase && not node.is_closed))
        → AllByRecursion (λ (n : Node). IsTrue n.in_phase → IsTrue n.is_closed) (x ∷ xs) ⊎ ((n : ℕ) × (node : Node) × (slice_get (x ∷ xs) n ≡ Some node) × IsTrue (node.in_phase && not node.is_closed))
    by true e rest = inr (0, x, refl, e)
    by false e (inl all) = inl (closed_by x.in_phase x.is_closed e, all)
    by false e (inr m) = inr (suc m.0, m.1, m.2, m.3)

module _ (F : Functions) (Facts : World → Type 0) (Holds : World → ℕ → Type 0) (facts : FactsLaw F Facts) (law : FamilyLaw F AnyKind Facts Holds) (rests : ComesToRest F Facts) where
  pub never_stuck : (shape : Shape) (w : World) → Keeps F Facts Holds facts law shape w → w.ending ≡ running → MayStep F w ⊎ IsOut w
  never_stuck shape w k run = by w.is_open refl
    where
      progress_of : (n : ℕ) → Progresses F w n
      progress_of n u =
          let at = in_shape w n u.0 u.1 in
          law.progresses w n u.0.node k.known at tt (k.each n u.0.node (subst (λ x. slice_get x n ≡ Some u.0.node) k.same at)) run u

      by_nodes : IsTrue w.is_open → AllByRecursion (λ (n : Node). IsTrue n.in_phase → IsTrue n.is_closed) w.nodes ⊎ ((n : ℕ) × (node : Node) × (slice_get w.nodes n ≡ Some node) × IsTrue (node.in_phase && not node.is_closed)) → MayStep F w ⊎ IsOut w
      by_nodes is_o (inl all) = inl (ended w.phase, after_end w, (is_o, run, refl, all, refl))
      by_nodes is_o (inr m) = goes_on F w (facts.phase w k.known run) progress_of m.0 (m.1, m.2, rw (is_o, m.3) refl)

      by : (b : Bool) → w.is_open ≡ b → MayStep F w ⊎ IsOut w
      by true e = by_nodes e (unclosed_or_none w.nodes)
      by false e = inl (of_rest e (rests w k.known e run))
        where
          of_rest : IsFalse w.is_open → (s : World) × Rattle.ps_world.specs.Updates.Updates F w s × (Rattle.ps_world.specs.Updates.IsSettled s ⊎ ((n : ℕ) × (c : Rattle.ps_frame.specs.Causes.Cause) × Rattle.ps_world.specs.Updates.FaultFound F s n c)) → MayStep F w
          of_rest shut r = pick shut r.0 r.1 r.2
            where
              pick : IsFalse w.is_open → (s : World) → Rattle.ps_world.specs.Updates.Updates F w s → Rattle.ps_world.specs.Updates.IsSettled s ⊎ ((n : ℕ) × (c : Rattle.ps_frame.specs.Causes.Cause) × Rattle.ps_world.specs.Updates.FaultFound F s n c) → MayStep F w
              pick shut s u (inl rest) = (opened (w.phase + 1), after_open s (w.phase + 1), (shut, run, refl, (s, u, settles rest refl)))
              pick shut s u (inr f) = (opened (w.phase + 1), after_fault s (w.phase + 1) f.1, (shut, run, refl, (s, u, breaks f.0 f.1 f.2 refl)))
