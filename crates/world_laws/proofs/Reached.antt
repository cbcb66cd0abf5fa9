-- From the laws of all families: every reached world keeps the promises.
use Rattle.std.proofs.Common.{◌≡◌, ℕ, cond, List, [], ◌∷◌, refl, sym, ap, subst, ◌∙◌}
use Rattle.std.specs.Prelude.{Contains}
use Rattle.ps_frame.specs.Causes.{Cause, is_empty}
use Rattle.ps_frame.specs.Functions.{Functions}
use Rattle.ps_options.specs.declared.options.Options.{Options}
use Rattle.ps_meaning.specs.Shape.{Shape}
use Rattle.ps_meaning.specs.Sound.{IsSound}
use Rattle.ps_world.specs.World.{Ending, Pipe, Record, World, faulty, finished, running}
use Rattle.ps_world.specs.Laws.{AnyKind, AllDone, ComesToRest, FactsLaw, FamilyLaw}
use Rattle.ps_world.specs.Opening.{Reaches, opening}
use Rattle.ps_world.specs.Phases.{after_open, blockers_in, with_phase}
use Rattle.ps_world.specs.Promises.{IsAnswered, NamesCause, Promises}
use Rattle.ps_world.specs.Step.{Replays, Steps}
use Rattle.world_laws.proofs.Answered.{all_done, holds_meaning}
use Rattle.world_laws.proofs.Endings.{Ends, ends_of, faults, finishes, goes_on}
use Rattle.world_laws.proofs.Faulty.{names_cause}
use Rattle.world_laws.proofs.Induction.{Keeps, after_step, after_updates, at_opening, served}
use Rattle.world_laws.proofs.Stuck.{never_stuck}

-- an Open without a blocker changes no pipe
last_pipes : (s : World) (phase : ℕ) → blockers_in s ≡ [] → (after_open s phase).pipes ≡ s.pipes
last_pipes s phase none = ap (λ b. (cond b (record s { ending = finished }) (with_phase s)).pipes) (ap is_empty none)

last_ending : (s : World) (phase : ℕ) → blockers_in s ≡ [] → (after_open s phase).ending ≡ finished
last_ending s phase none = ap (λ b. (cond b (record s { ending = finished }) (with_phase s)).ending) (ap is_empty none)

not_both : (e : Ending) → e ≡ running → e ≡ finished → ⊥
not_both e a b = let no : running ≡ finished = sym a ∙ b in cc

not_faulty : (e : Ending) (c : Cause) → e ≡ running → e ≡ faulty c → ⊥
not_faulty e c a b = let no : running ≡ faulty c = sym a ∙ b in cc

one_end : (e : Ending) (c : Cause) → e ≡ finished → e ≡ faulty c → ⊥
one_end e c a b = let no : finished ≡ faulty c = sym a ∙ b in cc

same_cause : (e : Ending) (c d : Cause) → e ≡ faulty c → e ≡ faulty d → c ≡ d
same_cause e c d a b = let q : faulty c ≡ faulty d = sym a ∙ b in cc

module _ (F : Functions) (Facts : World → Type 0) (Holds : World → ℕ → Type 0) (facts : FactsLaw F Facts) (law : FamilyLaw F AnyKind Facts Holds) (rests : ComesToRest F Facts) where
  record Good (shape : Shape) (w : World) : Type 0 where
    keeps : Keeps F Facts Holds facts law shape w
    answered : IsAnswered F shape w

  of_end : (shape : Shape) (w v : World) (r : Record) → Keeps F Facts Holds facts law shape w → Keeps F Facts Holds facts law shape v → Ends F w r v → IsAnswered F shape v
  of_end shape w v r k l (goes_on e) = ((λ f. absurd (not_both v.ending e f)), λ c f. absurd (not_faulty v.ending c e f))
  of_end shape w v r k l (faults n c m e) =
      ((λ f. absurd (one_end v.ending c f e)), λ d f. subst (λ x. NamesCause F shape x) (same_cause v.ending c d e f) (names_cause F Facts Holds facts law shape w r n c k m))
  of_end shape w v r k l (finishes s phase shut u rest none e) =
      let pipes : v.pipes ≡ s.pipes = ap (λ (x : World). x.pipes) e ∙ last_pipes s phase none in
      let done_s = all_done F Facts Holds facts law shape s (after_updates F Facts Holds facts law shape w s k shut u) rest none in
      let done : AllDone v = λ p c. done_s p (subst (λ (ps : List Pipe). Contains (Rattle.std.specs.Prelude.map (λ (x : Pipe). x.wire) ps) p) pipes c) in
      let ending : v.ending ≡ finished = ap (λ (x : World). x.ending) e ∙ last_ending s phase none in
      ((λ f. (holds_meaning F shape v l.same (served F Facts Holds facts law shape v l) done, done)), λ c f. absurd (one_end v.ending c ending f))

  good_step : (shape : Shape) (w v : World) (r : Record) → Good shape w → Steps F w r v → Good shape v
  good_step shape w v r g s =
      let l = after_step F Facts Holds facts law shape w v r g.keeps s in
      record { keeps = l; answered = of_end shape w v r g.keeps l (ends_of F w v r s) }

  good_run : (shape : Shape) (w v : World) (rs : List Record) → Good shape w → Replays F w rs v → Good shape v
  good_run shape w v [] g h = subst (λ x. Good shape x) (sym h) g
  good_run shape w v (r ∷ rs) g h = good_run shape h.0 v rs (good_step shape w h.0 r g h.1) h.2

  good_opening : (shape : Shape) (o : Options) → IsSound F shape → Good shape (opening shape o)
  good_opening shape o sound =
      record { keeps = at_opening F Facts Holds facts law shape o sound; answered = ((λ f. absurd (not_both running refl f)), λ c f. absurd (not_faulty running c refl f)) }

  pub every_reached : (shape : Shape) (o : Options) (w : World) → IsSound F shape → Reaches F shape o w → Promises F shape w
  every_reached shape o w sound r =
      let g = good_run shape (opening shape o) w r.0 (good_opening shape o sound) r.1 in
      record {
        served = served F Facts Holds facts law shape w g.keeps;
        answered = g.answered;
        never_stuck = never_stuck F Facts Holds facts law rests shape w g.keeps;
      }
