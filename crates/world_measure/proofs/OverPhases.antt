-- Over phases: no step leaves more, and each claim and each pull leaves less, so that no run claims and pulls for ever.
use Rattle.std.proofs.Common.{◌≡◌, ℕ, ◌<◌, ◌≤◌, ◌⊎◌, true, false, List, [], ◌∷◌, refl, sym, subst, inl, inr, arith}
use Rattle.std.specs.Prelude.{IsTrue}
use Rattle.std.proofs.lemmas.Bool.{cases_lt}
use Rattle.ps_frame.specs.Functions.{Functions}
use Rattle.ps_meaning.specs.Shape.{Shape}
use Rattle.ps_meaning.specs.Sound.{IsSound}
use Rattle.ps_options.specs.declared.options.Options.{Options}
use Rattle.ps_world.specs.Opening.{Reaches}
use Rattle.ps_world.specs.Step.{Replays, Steps}
use Rattle.ps_world.specs.World.{Record, World, claimed, closed, ended, handed_in, opened, pulled}
use Rattle.world_claims.proofs.ReachedFacts.{known_reached, known_step}
use Rattle.world_claims.specs.Numbering.{Known}
use Rattle.world_measure.proofs.Changes.{Onward, joined_onward, opens_onward, updates_onward}
use Rattle.world_measure.proofs.Falls.{nodes_long, nodes_same}
use Rattle.world_measure.proofs.Kept.{claims_keep, closes_keep, ends_keep, hand_ins_keep, pulls_keep}
use Rattle.world_measure.proofs.OrderEnds.{ends_by_measure, less_after}
use Rattle.world_measure.proofs.Phase.{onward}
use Rattle.world_measure.proofs.Takes.{claims_fall, pulls_fall}
use Rattle.world_measure.specs.Left.{own_left_at}
use Rattle.world_measure.specs.Order.{Ends, IsLess}
use Rattle.world_measure.specs.Turns.{TakesLater, changes_left, left_over_phases, takes}

no_more : (w v : World) → Onward w v → IsLess (left_over_phases v) (left_over_phases w) ⊎ (left_over_phases v ≡ left_over_phases w)
no_more w v h = by h.turn
  where
    by : (changes_left v < changes_left w) ⊎ ((changes_left v ≤ changes_left w) × ((j : ℕ) → own_left_at v j ≡ own_left_at w j)) → IsLess (left_over_phases v) (left_over_phases w) ⊎ (left_over_phases v ≡ left_over_phases w)
    by (inl less) = inl (inl (less, nodes_long w v h.nodes))
    by (inr (same, own)) = split (cases_lt (changes_left v) (changes_left w))
      where
        split : (changes_left v < changes_left w) ⊎ (changes_left w ≤ changes_left v) → IsLess (left_over_phases v) (left_over_phases w) ⊎ (left_over_phases v ≡ left_over_phases w)
        split (inl less) = inl (inl (less, nodes_long w v h.nodes))
        split (inr more) = let c : changes_left v ≡ changes_left w = omega arith in let n = nodes_same w v h.nodes h.pipes own in inr (λ i. c i ∷ n i)

module _ (F : Functions) (w v : World) (k : Known F w) where
  pub taken_less : (r : Record) → IsTrue (takes r) → Steps F w r v → IsLess (left_over_phases v) (left_over_phases w)
  taken_less (claimed n i number worker) e s = inr (claims_keep F w n i number worker v s, claims_fall F w (onward F w k.facts) n i number worker v s)
  taken_less (pulled n i number) e s = inr (pulls_keep F w n i number v s, pulls_fall F w (onward F w k.facts) n i number v s)
  taken_less (opened phase) e s = absurd (let no : false ≡ true = e in cc)
  taken_less (handed_in n i number worker handed) e s = absurd (let no : false ≡ true = e in cc)
  taken_less (closed n) e s = absurd (let no : false ≡ true = e in cc)
  taken_less (ended phase) e s = absurd (let no : false ≡ true = e in cc)

  pub never_more : (r : Record) → Steps F w r v → IsLess (left_over_phases v) (left_over_phases w) ⊎ (left_over_phases v ≡ left_over_phases w)
  never_more (claimed n i number worker) s = inl (taken_less (claimed n i number worker) refl s)
  never_more (pulled n i number) s = inl (taken_less (pulled n i number) refl s)
  never_more (opened phase) s = let u = s.3 in no_more w v (joined_onward w u.0 v (updates_onward F w u.0 u.1) (opens_onward F u.0 v phase u.2))
  never_more (handed_in n i number worker handed) s = no_more w v (hand_ins_keep F w n i number worker handed v s)
  never_more (closed n) s = no_more w v (closes_keep F w n v s)
  never_more (ended phase) s = no_more w v (ends_keep F w phase v s)

-- along a run
run_known : (F : Functions) (w v : World) (journal : List Record) → Known F w → Replays F w journal v → Known F v
run_known F w v [] k e = subst (Known F) (sym e) k
run_known F w v (r ∷ rs) k (u, s, more) = run_known F u v rs (known_step F w u r k s) more

run_never_more : (F : Functions) (w v : World) (journal : List Record) → Known F w → Replays F w journal v → IsLess (left_over_phases v) (left_over_phases w) ⊎ (left_over_phases v ≡ left_over_phases w)
run_never_more F w v [] k e = inr (λ i. left_over_phases (e i))
run_never_more F w v (r ∷ rs) k (u, s, more) = by (run_never_more F u v rs (known_step F w u r k s) more)
  where
    by : IsLess (left_over_phases v) (left_over_phases u) ⊎ (left_over_phases v ≡ left_over_phases u) → IsLess (left_over_phases v) (left_over_phases w) ⊎ (left_over_phases v ≡ left_over_phases w)
    by (inl less) = inl (less_after (left_over_phases w) (left_over_phases u) (left_over_phases v) (never_more F w u k r s) less)
    by (inr same) = subst (λ ns. IsLess ns (left_over_phases w) ⊎ (ns ≡ left_over_phases w)) (sym same) (never_more F w u k r s)

later_known : (F : Functions) (w v : World) → Known F w → TakesLater F v w → Known F v
later_known F w v k (journal, u, r, run, t, s) = known_step F u v r (run_known F w u journal k run) s

later_less : (F : Functions) (w v : World) → Known F w → TakesLater F v w → IsLess (left_over_phases v) (left_over_phases w)
later_less F w v k (journal, u, r, run, t, s) = less_after (left_over_phases w) (left_over_phases u) (left_over_phases v) (run_never_more F w u journal k run) (taken_less F u v (run_known F w u journal k run) r t s)

pub reached_never_more : (F : Functions) (shape : Shape) (o : Options) (w v : World) (r : Record) → IsSound F shape → Reaches F shape o w → Steps F w r v → IsLess (left_over_phases v) (left_over_phases w) ⊎ (left_over_phases v ≡ left_over_phases w)
reached_never_more F shape o w v r sound reached s = never_more F w v (known_reached F shape o w sound reached) r s

pub reached_takes_less : (F : Functions) (shape : Shape) (o : Options) (w v : World) (r : Record) → IsSound F shape → Reaches F shape o w → IsTrue (takes r) → Steps F w r v → IsLess (left_over_phases v) (left_over_phases w)
reached_takes_less F shape o w v r sound reached t s = taken_less F w v (known_reached F shape o w sound reached) r t s

pub takes_end : (F : Functions) (shape : Shape) (o : Options) (w : World) → IsSound F shape → Reaches F shape o w → Ends (TakesLater F) w
takes_end F shape o w sound reached = ends_by_measure (TakesLater F) left_over_phases (Known F) (λ x y k b. later_known F x y k b) (λ x y k b. later_less F x y k b) w (known_reached F shape o w sound reached)
