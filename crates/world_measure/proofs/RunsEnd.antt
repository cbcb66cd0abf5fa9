-- Where no phase is idle, every run ends: by induction on what is left over all phases, and within a phase on its steps.
use Rattle.std.proofs.Common.{◌≡◌, ℕ, suc, ◌⊎◌, Bool, true, false, List, [], ◌∷◌, ◌++◌, length, refl, sym, ap, subst, ◌∙◌, inl, inr, arith}
use Rattle.ps_frame.specs.Functions.{Functions}
use Rattle.ps_meaning.specs.Shape.{Shape}
use Rattle.ps_meaning.specs.Sound.{IsSound}
use Rattle.ps_options.specs.declared.options.Options.{Options}
use Rattle.ps_world.specs.Opening.{Reaches, opening}
use Rattle.ps_world.specs.Step.{Replays, Steps}
use Rattle.ps_world.specs.World.{Ending, Record, World, claimed, closed, ended, faulty, finished, handed_in, opened, pulled, running}
use Rattle.world_measure.proofs.OrderEnds.{less_after, lists_end, same_length}
use Rattle.world_claims.proofs.ReachedFacts.{known_reached}
use Rattle.world_claims.specs.Numbering.{Known}
use Rattle.world_measure.proofs.Falls.{nodes_left}
use Rattle.world_measure.proofs.OverPhases.{never_more, taken_less}
use Rattle.world_measure.proofs.Phase.{phases_end}
use Rattle.world_measure.specs.Driving.{Idles, NoPhaseIsIdle, StepsTo, WithinPhase, further, here, idle_here, idles_on}
use Rattle.world_measure.specs.Order.{Ends, IsLess, ends}
use Rattle.world_measure.specs.Runs.{StepsInPhase}
use Rattle.world_measure.specs.Turns.{left_over_phases, takes}

-- only a running world steps
runs : (F : Functions) (w v : World) (r : Record) → Steps F w r v → w.ending ≡ running
runs F w v (opened phase) s = s.1
runs F w v (claimed n i number worker) s = s.1.2
runs F w v (handed_in n i number worker handed) s = s.6
runs F w v (pulled n i number) s = s.1.2
runs F w v (closed n) s = s.1.2
runs F w v (ended phase) s = s.1

is_running : (e : Ending) → (e ≡ running) ⊎ (e ≡ running → ⊥)
is_running running = inl refl
is_running finished = inr (λ q. let no : finished ≡ running = q in cc)
is_running (faulty c) = inr (λ q. let no : faulty c ≡ running = q in cc)

one_more : (F : Functions) (u w v : World) (r : Record) (journal : List Record) → Replays F u journal w → Steps F w r v → Replays F u (journal ++ r ∷ []) v
one_more F u w v r [] e s = (v, subst (λ x. Steps F x r v) e s, refl)
one_more F u w v r (q ∷ qs) (x, t, more) s = (x, t, one_more F x w v r qs more s)

no_more_less : (ns ms ls : List ℕ) → IsLess ms ns → IsLess ls ms ⊎ (ls ≡ ms) → IsLess ls ns
no_more_less ns ms ls less (inl h) = less_after ns ms ls (inl less) h
no_more_less ns ms ls less (inr same) = subst (λ ks. IsLess ks ns) (sym same) less

module _ (F : Functions) (shape : Shape) (o : Options) (sound : IsSound F shape) where
  reach : (w v : World) (r : Record) → Reaches F shape o w → Steps F w r v → Reaches F shape o v
  reach w v r reached s = (reached.0 ++ r ∷ [], one_more F (opening shape o) w v r reached.0 reached.1 s)

  reach_within : (w x : World) → Reaches F shape o w → WithinPhase F w x → Reaches F shape o x
  reach_within w x reached (here v e) = subst (Reaches F shape o) (sym e) reached
  reach_within w x reached (further y v r way inside s) = reach y v r (reach_within w y reached way) s

  -- from the Open to here less is left, or nothing was taken and as much is left
  so_far : (w x : World) → Reaches F shape o w → WithinPhase F w x → IsLess (left_over_phases x) (left_over_phases w) ⊎ (Idles F w x × (left_over_phases x ≡ left_over_phases w))
  so_far w x reached (here v e) = inr (idle_here v e, λ i. left_over_phases (e i))
  so_far w x reached (further y v r way inside s) = by (so_far w y reached way) (takes r) refl
    where
      known : Known F y
      known = known_reached F shape o y sound (reach_within w y reached way)

      idle : takes r ≡ false → Idles F w y → left_over_phases y ≡ left_over_phases w → IsLess (left_over_phases v) (left_over_phases y) ⊎ (left_over_phases v ≡ left_over_phases y) → IsLess (left_over_phases v) (left_over_phases w) ⊎ (Idles F w v × (left_over_phases v ≡ left_over_phases w))
      idle e i same (inl less) = inl (subst (IsLess (left_over_phases v)) same less)
      idle e i same (inr equal) = inr (idles_on y v r i inside e s, equal ∙ same)

      by : IsLess (left_over_phases y) (left_over_phases w) ⊎ (Idles F w y × (left_over_phases y ≡ left_over_phases w)) → (b : Bool) → takes r ≡ b → IsLess (left_over_phases v) (left_over_phases w) ⊎ (Idles F w v × (left_over_phases v ≡ left_over_phases w))
      by (inl less) b e = inl (no_more_less (left_over_phases w) (left_over_phases y) (left_over_phases v) less (never_more F y v known r s))
      by (inr (i, same)) true e = inl (subst (IsLess (left_over_phases v)) same (taken_less F y v known r e s))
      by (inr (i, same)) false e = idle e i same (never_more F y v known r s)

  module _ (not_idle : NoPhaseIsIdle F shape o) where
    -- so from an Open to the next, where the run goes on, less is left
    gets_on : (u w x v : World) (first next : ℕ) → Reaches F shape o u → Steps F u (opened first) w → WithinPhase F w x → Steps F x (opened next) v → v.ending ≡ running → IsLess (left_over_phases v) (left_over_phases w)
    gets_on u w x v first next reached s way t on = by (so_far w x (reach u w (opened first) reached s) way)
      where
        again : IsLess (left_over_phases v) (left_over_phases x) ⊎ (left_over_phases v ≡ left_over_phases x)
        again = never_more F x v (known_reached F shape o x sound (reach_within w x (reach u w (opened first) reached s) way)) (opened next) t

        as_long : IsLess (left_over_phases v) (left_over_phases x) ⊎ (left_over_phases v ≡ left_over_phases x) → length (left_over_phases v) ≡ length (left_over_phases x)
        as_long (inl less) = same_length (left_over_phases v) (left_over_phases x) less
        as_long (inr same) = ap length same

        by : IsLess (left_over_phases x) (left_over_phases w) ⊎ (Idles F w x × (left_over_phases x ≡ left_over_phases w)) → IsLess (left_over_phases v) (left_over_phases w)
        by (inl less) = no_more_less (left_over_phases w) (left_over_phases x) (left_over_phases v) less again
        by (inr (idle, same)) = inl (not_idle u w x v first next reached s idle t on, let l : suc (length (nodes_left v)) ≡ suc (length (nodes_left w)) = as_long again ∙ ap length same in omega arith)

    -- one step of a phase that the Open from u to w began
    one_step : (u w x : World) (first : ℕ) → Reaches F shape o u → Steps F u (opened first) w → ((v y : World) (n : ℕ) → Reaches F shape o y → Steps F y (opened n) v → IsLess (left_over_phases v) (left_over_phases w) → Ends (StepsTo F) v)
        → WithinPhase F w x → ((v : World) → StepsInPhase F v x → WithinPhase F w v → Ends (StepsTo F) v) → (v : World) (r : Record) → Steps F x r v → Ends (StepsTo F) v
    one_step u w x first reached s next way inner v (opened n) t = by (is_running v.ending)
      where
        by : (v.ending ≡ running) ⊎ (v.ending ≡ running → ⊥) → Ends (StepsTo F) v
        by (inl on) = next v x n (reach_within w x (reach u w (opened first) reached s) way) t (gets_on u w x v first n reached s way t on)
        by (inr stopped) = ends v (λ y b. absurd (stopped (runs F v y b.0 b.1)))
    one_step u w x first reached s next way inner v (claimed n i number worker) t = inner v (claimed n i number worker, refl, t) (further x v (claimed n i number worker) way refl t)
    one_step u w x first reached s next way inner v (handed_in n i number worker handed) t = inner v (handed_in n i number worker handed, refl, t) (further x v (handed_in n i number worker handed) way refl t)
    one_step u w x first reached s next way inner v (pulled n i number) t = inner v (pulled n i number, refl, t) (further x v (pulled n i number) way refl t)
    one_step u w x first reached s next way inner v (closed n) t = inner v (closed n, refl, t) (further x v (closed n) way refl t)
    one_step u w x first reached s next way inner v (ended phase) t = inner v (ended phase, refl, t) (further x v (ended phase) way refl t)

    within : (u w : World) (first : ℕ) → Reaches F shape o u → Steps F u (opened first) w → ((v y : World) (n : ℕ) → Reaches F shape o y → Steps F y (opened n) v → IsLess (left_over_phases v) (left_over_phases w) → Ends (StepsTo F) v)
        → (x : World) → Ends (StepsInPhase F) x → WithinPhase F w x → Ends (StepsTo F) x
    within u w first reached s next x (ends x' below) way = ends x' (λ v b. one_step u w x' first reached s next way (λ y c d. within u w first reached s next y (below y c) d) v b.0 b.1)

    after_open : (m : List ℕ) → Ends IsLess m → (u w : World) (first : ℕ) → Reaches F shape o u → Steps F u (opened first) w → left_over_phases w ≡ m → Ends (StepsTo F) w
    after_open m (ends m' below) u w first reached s e =
        within u w first reached s (λ v y n r t less. after_open (left_over_phases v) (below (left_over_phases v) (subst (IsLess (left_over_phases v)) e less)) y v n r t refl) w
        (phases_end F shape o w sound (reach u w (opened first) reached s)) (here w refl)

    -- before the first Open that follows
    first_step : (x : World) → Reaches F shape o x → ((v : World) → StepsInPhase F v x → Ends (StepsTo F) v) → (v : World) (r : Record) → Steps F x r v → Ends (StepsTo F) v
    first_step x reached inner v (opened n) t = after_open (left_over_phases v) (lists_end (left_over_phases v)) x v n reached t refl
    first_step x reached inner v (claimed n i number worker) t = inner v (claimed n i number worker, refl, t)
    first_step x reached inner v (handed_in n i number worker handed) t = inner v (handed_in n i number worker handed, refl, t)
    first_step x reached inner v (pulled n i number) t = inner v (pulled n i number, refl, t)
    first_step x reached inner v (closed n) t = inner v (closed n, refl, t)
    first_step x reached inner v (ended phase) t = inner v (ended phase, refl, t)

    before_open : (x : World) → Ends (StepsInPhase F) x → Reaches F shape o x → Ends (StepsTo F) x
    before_open x (ends x' below) reached = ends x' (λ v b. first_step x' reached (λ y c. before_open y (below y c) (reach x' y c.0 reached c.2)) v b.0 b.1)

    pub runs_end : (w : World) → Reaches F shape o w → Ends (StepsTo F) w
    runs_end w reached = before_open w (phases_end F shape o w sound reached) reached
