-- When a phase opens, and when the open one is at its end.
use Rattle.std.proofs.Common.{◌≡◌, ◌⊎◌, ℕ, ◌+◌, Bool, true, false, List, [], ◌∷◌, inl, inr, refl}
use Rattle.std.specs.Prelude.{◌&&◌, ◌||◌, IsFalse, IsTrue, map, not}
use Rattle.std.specs.List.{AllByRecursion, list_all}
use Rattle.ps_flow.specs.Marked.{mark_of}
use Rattle.ps_flow.specs.declared.marks.Mark.{Mark}
use Rattle.ps_frame.specs.Causes.{Cause}
use Rattle.ps_frame.specs.Functions.{Functions}
use Rattle.ps_world.specs.Closing.{after_end}
use Rattle.ps_world.specs.Facts.{Facts}
use Rattle.ps_world.specs.Phases.{after_fault, after_open}
use Rattle.ps_world.specs.Step.{breaks, settles}
use Rattle.ps_world.specs.Updates.{FaultFound, IsSettled, Updates}
use Rattle.ps_world.specs.World.{Node, World, ended, opened, running}
use Rattle.world_records.specs.Shown.{IsEnabled}
use Rattle.world_records.specs.declared.records.Move.TheVariants as turn
use Rattle.world_rest.proofs.Rest.{rest_from_facts}

module _ (F : Functions) (w : World) where
  -- updates come to rest, so a phase opens, or a fault is found
  pub opens : Facts F w → IsFalse w.is_open → w.ending ≡ running → IsEnabled F w turn.Open
  opens facts shut runs = let r = rest_from_facts F w facts shut runs in by r.0 r.1 r.2
    where
      by : (s : World) → Updates F w s → IsSettled s ⊎ ((n : ℕ) × (c : Cause) × FaultFound F s n c) → IsEnabled F w turn.Open
      by s updates (inl settled) = (opened (w.phase + 1), after_open s (w.phase + 1), refl, (shut, runs, refl, (s, updates, settles settled refl)))
      by s updates (inr found) = (opened (w.phase + 1), after_fault s (w.phase + 1) found.1, refl, (shut, runs, refl, (s, updates, breaks found.0 found.1 found.2 refl)))

  pub ends : IsTrue w.is_open → w.ending ≡ running → AllByRecursion (λ (x : Node). IsTrue x.in_phase → IsTrue x.is_closed) w.nodes → IsEnabled F w turn.End
  ends open_phase runs all = (ended w.phase, after_end w, refl, (open_phase, runs, refl, all, refl))

abbrev is_left : Mark → Bool
is_left m = not m.in_phase || m.is_closed

-- by the marks: each node of the phase is closed
pub all_closed : (xs : List Node) → list_all (λ (m : Mark). not m.in_phase || m.is_closed) (map mark_of xs) ≡ true → AllByRecursion (λ (x : Node). IsTrue x.in_phase → IsTrue x.is_closed) xs
all_closed [] e = tt
all_closed (x ∷ xs) e = let both = both_true (is_left (mark_of x)) (list_all is_left (map mark_of xs)) e in (closed_by x.in_phase x.is_closed both.0, all_closed xs both.1)
  where
    both_true : (a b : Bool) → (a && b) ≡ true → (a ≡ true) × (b ≡ true)
    both_true true true e = (refl, refl)
    both_true true false e = absurd (let clash : false ≡ true = e in cc)
    both_true false b e = absurd (let clash : false ≡ true = e in cc)

    closed_by : (a c : Bool) → (not a || c) ≡ true → IsTrue a → IsTrue c
    closed_by true c e t = e
    closed_by false c e t = absurd (let clash : false ≡ true = t in cc)

pub marked_closed : (xs : List Node) → AllByRecursion (λ (x : Node). IsTrue x.in_phase → IsTrue x.is_closed) xs → list_all (λ (m : Mark). not m.in_phase || m.is_closed) (map mark_of xs) ≡ true
marked_closed [] all = refl
marked_closed (x ∷ xs) all = λ i. left_by x.in_phase x.is_closed all.0 i && marked_closed xs all.1 i
  where
    left_by : (a c : Bool) → (IsTrue a → IsTrue c) → (not a || c) ≡ true
    left_by true c h = h refl
    left_by false c h = refl
