-- In every reached world the inputs of a phase are those that the stages of their readers take.
use Rattle.std.proofs.Common.{◌≡◌, ℕ, Bool, true, false, cond, List, [], ◌∷◌, ◌++◌, refl, sym, ap, subst, ◌∙◌}
use Rattle.ps_frame.specs.Causes.{is_empty}
use Rattle.ps_frame.specs.Functions.{Functions}
use Rattle.ps_meaning.specs.Shape.{Shape}
use Rattle.ps_meaning.specs.Sound.{IsSound}
use Rattle.ps_options.specs.declared.options.Options.{Options}
use Rattle.ps_world.specs.Facts.{Facts}
use Rattle.ps_world.specs.Opening.{Reaches, opening}
use Rattle.ps_world.specs.Phases.{after_open, blockers_in, with_phase}
use Rattle.ps_world.specs.Step.{Opens, Replays, Steps, breaks, settles}
use Rattle.ps_world.specs.World.{Record, World, claimed, closed, ended, finished, handed_in, opened, pulled}
use Rattle.world_claims.proofs.ReachedFacts.{known_opening, known_step}
use Rattle.world_claims.specs.Numbering.{Known}
use Rattle.world_facts.proofs.UpdatedKeeps.{updates_keep_facts}
use Rattle.world_moves.proofs.Standing.{answers_alike, claims_alike, closes_alike, pulls_alike}
use Rattle.world_moves.proofs.Takers.{InputsFit, alike_fits, phase_fits, shut_fits}

opens_fit : (F : Functions) (s v : World) (phase : ℕ) → Facts F s → s.is_open ≡ false → Facts F v → Opens F s phase v → InputsFit v
opens_fit F s v phase f shut g (breaks n c b e) = shut_fits F v g (ap (λ (x : World). x.is_open) e ∙ shut)
opens_fit F s v phase f shut g (settles rest e) = by (is_empty (blockers_in s)) refl
  where
    by : (b : Bool) → is_empty (blockers_in s) ≡ b → InputsFit v
    by true none = shut_fits F v g (ap (λ (x : World). x.is_open) e ∙ ap (λ b. (cond b (record s { ending = finished }) (with_phase s)).is_open) none ∙ shut)
    by false some =
        let journal = s.journal ++ opened phase ∷ [] in
        let here : record (with_phase s) { phase = phase; journal = journal } ≡ after_open s phase = rw some refl in
        subst InputsFit (here ∙ sym e) (phase_fits F s f rest phase journal)

fits_step : (F : Functions) (w v : World) (r : Record) → Known F w → Steps F w r v → InputsFit w → InputsFit v
fits_step F w v (opened phase) k s h = let f = updates_keep_facts F w s.3.0 s.3.1 k.facts s.0 in opens_fit F s.3.0 v phase f.0 f.1 (known_step F w v (opened phase) k s).facts s.3.2
fits_step F w v (claimed n i number worker) k s h = subst InputsFit (sym s.5.3) (alike_fits w _ (claims_alike w n i worker s.0 s.5.0 s.1.0 s.5.1) h)
fits_step F w v (handed_in n i number worker handed) k s h = subst InputsFit (sym s.7.3) (alike_fits w _ (answers_alike w s.0 s.7.0) h)
fits_step F w v (pulled n i number) k s h = subst InputsFit (sym s.4.8) (alike_fits w _ (pulls_alike w n i s.0 s.4.0 s.4.1 s.1.0) h)
fits_step F w v (closed n) k s h = subst InputsFit (sym s.4) (alike_fits w _ (closes_alike w n s.0 s.1.0) h)
fits_step F w v (ended phase) k s h = shut_fits F v (known_step F w v (ended phase) k s).facts (ap (λ (x : World). x.is_open) s.4)

fits_run : (F : Functions) (w v : World) (rs : List Record) → Known F w → InputsFit w → Replays F w rs v → InputsFit v
fits_run F w v [] k h e = subst InputsFit (sym e) h
fits_run F w v (r ∷ rs) k h s = fits_run F s.0 v rs (known_step F w s.0 r k s.1) (fits_step F w s.0 r k s.1 h) s.2

pub fits_reached : (F : Functions) (shape : Shape) (o : Options) (w : World) → IsSound F shape → Reaches F shape o w → InputsFit w
fits_reached F shape o w sound r = let k = known_opening F shape o sound in fits_run F (opening shape o) w r.0 k (shut_fits F (opening shape o) k.facts refl) r.1
