-- Every reached world is orderly, and so is each that updates and fills lead to from there.
use Rattle.std.proofs.Common.{◌≡◌, ℕ, Bool, true, false, cond, List, [], ◌∷◌, ◌++◌, length, Some, refl, sym, ap, subst, ◌∙◌}
use Rattle.std.specs.Prelude.{Contains, slice_get, slice_set, ◌&&◌, ◌||◌}
use Rattle.ps_frame.specs.Causes.{is_empty}
use Rattle.ps_frame.specs.Functions.{Functions}
use Rattle.ps_meaning.specs.Shape.{Shape}
use Rattle.ps_meaning.specs.Sound.{IsSound}
use Rattle.ps_options.specs.declared.options.Options.{Options}
use Rattle.ps_ports.specs.Phases.{is_in_phase}
use Rattle.ps_ports.specs.Ports.{is_done}
use Rattle.ps_turns.specs.Progress.{Progress}
use Rattle.ps_world.specs.Answers.{answered}
use Rattle.ps_world.specs.Claims.{after_claim}
use Rattle.ps_world.specs.Closing.{after_close, after_end}
use Rattle.ps_world.specs.Pulls.{after_pull}
use Rattle.ps_world.specs.Laws.{EndsAgree}
use Rattle.ps_world.specs.Opening.{Reaches, opening}
use Rattle.ps_world.specs.Phases.{after_open, blockers_in, intensive_at, with_phase}
use Rattle.ps_world.specs.Pipes.{put_progress, with_progress}
use Rattle.ps_world.specs.Step.{Opens, Replays, Steps, breaks, settles}
use Rattle.ps_world.specs.Updates.{FillsAt, TurnsAt, Updates, no_update, one_fill, one_update, updated}
use Rattle.ps_world.specs.World.{Node, Pipe, Record, World, claimed, closed, ended, finished, handed_in, opened, pulled, wires_of}
use Rattle.world_claims.proofs.ReachedFacts.{known_opening, known_step}
use Rattle.world_claims.proofs.WholeLaw.{facts_law}
use Rattle.world_claims.specs.Numbering.{Known}
use Rattle.world_facts.proofs.Placing.{ends_agree, in_place, some_node}
use Rattle.world_facts.proofs.UpdatedKeeps.{updates_keep_facts}
use Rattle.world_facts.proofs.Wiring.{wires_inside}
use Rattle.world_laws.proofs.Agree.{from_map}
use Rattle.world_laws.proofs.InOrder.{contains_map}
use Rattle.family_pipes.proofs.Begins.{begins}
use Rattle.family_pipes.proofs.Complete.{complete, whole}
use Rattle.world_families.specs.Work.{IsComplete}
use Rattle.orderly_worlds.proofs.Goes.{IsTakenBy, IsTakenOf, NoneTaken, answer_goes, claim_goes, close_goes, end_goes, pull_goes}
use Rattle.orderly_worlds.proofs.Orderly.{Orderly, step_orderly, turn_orderly}
use Rattle.orderly_worlds.proofs.Turned.{updated_is}

-- AN OPEN: pipes get marks alone
pub record Marked (x y : Pipe) : Type 0 where
  pub wire : y.wire ≡ x.wire
  pub got : y.got ≡ x.got
  pub next : y.next ≡ x.next
  pub dropped : y.is_dropped ≡ x.is_dropped
  pub unread : y.is_unread ≡ x.is_unread

same_mark : (x : Pipe) → Marked x x
same_mark x = record { wire = refl; got = refl; next = refl; dropped = refl; unread = refl }

abbrev pub MarkedFrom : World → World → Type 0
MarkedFrom s v = (y : Pipe) → Contains v.pipes y → (x : Pipe) × Contains s.pipes x × Marked x y

pub open_marks : (s : World) (phase : ℕ) → MarkedFrom s (after_open s phase)
open_marks s phase = by (is_empty (blockers_in s))
  where
    by : (b : Bool) → MarkedFrom s (record (cond b (record s { ending = finished }) (with_phase s)) { phase = phase; journal = s.journal ++ opened phase ∷ [] })
    by true y c = (y, c, same_mark y)
    by false y c =
        let x = from_map (λ (p : Pipe). record p { in_phase = is_in_phase (length s.nodes) (intensive_at s) (wires_of s) p.wire }) y s.pipes c in
        (x.0, x.1, subst (Marked x.0) x.2 (record { wire = refl; got = refl; next = refl; dropped = refl; unread = refl }))

pub opens_mark : (F : Functions) (s v : World) (phase : ℕ) → Opens F s phase v → MarkedFrom s v
opens_mark F s v phase (settles rest e) = subst (MarkedFrom s) (sym e) (open_marks s phase)
opens_mark F s v phase (breaks n c f e) = λ y k. (y, subst (λ ps. Contains ps y) (ap (λ (x : World). x.pipes) e) k, same_mark y)

marked_complete : (x y : Pipe) → Marked x y → IsComplete y → IsComplete x
marked_complete x y m c = let h = whole y c in complete x (record { done = (λ i. is_done (sym m.wire i).send_state) ∙ h.done; dropped = sym m.dropped ∙ h.dropped; unread = sym m.unread ∙ h.unread })

module _ (F : Functions) where
  opens_orderly : (s v : World) (phase : ℕ) → Orderly F s → s.is_open ≡ false → Known F v → Opens F s phase v → Orderly F v
  opens_orderly s v phase o shut kv opens =
      record {
        known = kv;
        agree = by opens;
        unread = λ y c d.
            let x = opens_mark F s v phase opens y c in
            (λ i. is_done (x.2.wire i).send_state || x.2.unread i) ∙ o.unread x.0 x.1 ((λ i. is_done (sym x.2.wire i).receive_state) ∙ d);
        read = λ y c is.
            let x = opens_mark F s v phase opens y c in
            x.2.next ∙ o.read x.0 x.1 (marked_complete x.0 y x.2 is) ∙ sym (ap length x.2.got);
      }
    where
      by : Opens F s phase v → v.is_open ≡ true → EndsAgree v
      by (settles rest e) on p c =
          let y = from_map (λ (x : Pipe). x.wire) p v.pipes c in
          let x = opens_mark F s v phase (settles rest e) y.0 y.1 in
          let same : x.0.wire ≡ p = sym x.2.wire ∙ y.2 in
          ends_agree F s o.known.facts rest p (subst (Contains (wires_of s)) same (contains_map (λ (z : Pipe). z.wire) x.0 s.pipes x.1))
      by (breaks n c f e) on p k = absurd (let no : false ≡ true = sym shut ∙ sym (ap (λ (x : World). x.is_open) e) ∙ on in cc)

  -- UPDATES AND FILLS
  pub update_orderly : (w : World) (m : ℕ) (other : Node) (progress : Progress) → Orderly F w → w.is_open ≡ false → TurnsAt F w m other progress → Orderly F (updated w m other progress)
  update_orderly w m other progress o shut t =
      let known = (facts_law F).at_update w (updated w m other progress) o.known shut (one_update m other progress t no_update) in
      let is = updated_is w m other progress t.0 in
      subst (Orderly F) (sym is) (turn_orderly F w m other progress o shut t.0 (subst (Known F) is known))

  pub filled_is : (w : World) (m : ℕ) (other : Node) (progress : Progress) → slice_get w.nodes m ≡ Some other → with_progress m progress w ≡ record w { nodes = slice_set w.nodes m (record other { progress = progress }) }
  filled_is w m other progress at = λ i. put_progress (at i) m progress w

  pub fill_orderly : (w : World) (m : ℕ) (other : Node) (progress : Progress) → Orderly F w → w.is_open ≡ false → FillsAt F w m other progress → Orderly F (with_progress m progress w)
  fill_orderly w m other progress o shut t =
      let known = (facts_law F).at_update w (with_progress m progress w) o.known shut (one_fill m other progress t no_update) in
      let is = filled_is w m other progress t.0 in
      subst (Orderly F) (sym is) (record { known = subst (Known F) is known; agree = o.agree; unread = o.unread; read = o.read })

  pub still_shut : (w s : World) → Orderly F w → w.is_open ≡ false → Updates F w s → s.is_open ≡ false
  still_shut w s o shut u = (updates_keep_facts F w s u o.known.facts shut).1

  pub updates_orderly : (w s : World) → Orderly F w → w.is_open ≡ false → Updates F w s → Orderly F s
  updates_orderly w s o shut no_update = o
  updates_orderly w s o shut (one_update m other progress t u) =
      updates_orderly (updated w m other progress) s (update_orderly w m other progress o shut t) (still_shut w (updated w m other progress) o shut (one_update m other progress t no_update)) u
  updates_orderly w s o shut (one_fill m other progress t u) =
      updates_orderly (with_progress m progress w) s (fill_orderly w m other progress o shut t) (still_shut w (with_progress m progress w) o shut (one_fill m other progress t no_update)) u

  -- EVERY STEP
  open_of : (b c : Bool) → (b && c) ≡ true → b ≡ true
  open_of true c e = refl
  open_of false c e = e

  pub orderly_step : (w v : World) (r : Record) → Orderly F w → Steps F w r v → Orderly F v
  orderly_step w v (opened phase) o s =
      let u = updates_orderly w s.3.0 o s.0 s.3.1 in
      opens_orderly s.3.0 v phase u (still_shut w s.3.0 o s.0 s.3.1) (known_step F w v (opened phase) o.known s) s.3.2
  orderly_step w v (claimed m i number worker) o s =
      let start = after_claim w m i worker s.0 s.5.0 in
      subst (Orderly F) (sym s.5.3)
      (step_orderly F w start (IsTakenOf m i) (IsTakenBy m i s.5.0.takes_morsel) o (subst (Known F) s.5.3 (known_step F w v (claimed m i number worker) o.known s)) (open_of w.is_open _ s.1.1) (λ x t. t.1) (claim_goes F w o.known m i worker s.0 s.5.0 s.1.0 s.1.1 s.5.1))
  orderly_step w v (handed_in m i number worker handed) o s =
      subst (Orderly F) (sym s.7.3)
      (step_orderly F w (answered w s.0 s.7.0) NoneTaken NoneTaken o (subst (Known F) s.7.3 (known_step F w v (handed_in m i number worker handed) o.known s)) ((facts_law F).pieces_open w s.0 o.known s.1) (λ x t. absurd t) (answer_goes F w o.known s.0 s.1 s.7.0 s.7.1))
  orderly_step w v (pulled m i number) o s =
      subst (Orderly F) (sym s.4.8)
      (step_orderly F w (after_pull w m i s.0 s.4.0 s.4.1) (IsTakenOf m i) (IsTakenBy m i true) o (subst (Known F) s.4.8 (known_step F w v (pulled m i number) o.known s)) (open_of w.is_open _ s.1.1) (λ x t. t.1) (pull_goes F w o.known m i s.0 s.4.0 s.4.1 s.4.2 s.4.3 s.4.4))
  orderly_step w v (closed m) o s =
      subst (Orderly F) (sym s.4)
      (step_orderly F w (after_close w m s.0) NoneTaken NoneTaken o (subst (Known F) s.4 (known_step F w v (closed m) o.known s)) (open_of w.is_open _ s.1.1) (λ x t. absurd t) (close_goes F w o.known m s.0))
  orderly_step w v (ended phase) o s =
      subst (Orderly F) (sym s.4) (step_orderly F w (after_end w) NoneTaken NoneTaken o (subst (Known F) s.4 (known_step F w v (ended phase) o.known s)) s.0 (λ x t. absurd t) (end_goes F w o.known))

  pub fresh_orderly : (shape : Shape) (o : Options) → IsSound F shape → Orderly F (opening shape o)
  fresh_orderly shape o sound =
      let known = known_opening F shape o sound in
      let w = opening shape o in
      record {
        known = known;
        agree = λ on. absurd (let no : false ≡ true = on in cc);
        unread = λ p c d. let x = (in_place F w known.facts).sender p.wire (contains_map (λ (z : Pipe). z.wire) p w.pipes c) in (begins F shape o p.wire.sender x.0 x.1).pipes.unread p (c, refl) d;
        read = λ p c is. let x = some_node w.nodes p.wire.receiver (wires_inside F w known.facts p.wire (contains_map (λ (z : Pipe). z.wire) p w.pipes c)) in (begins F shape o p.wire.receiver x.0 x.1).pipes.read p (c, refl) is;
      }

  orderly_run : (w v : World) (rs : List Record) → Orderly F w → Replays F w rs v → Orderly F v
  orderly_run w v [] o e = subst (Orderly F) (sym e) o
  orderly_run w v (r ∷ rs) o s = orderly_run s.0 v rs (orderly_step w s.0 r o s.1) s.2

  pub orderly_reached : (shape : Shape) (o : Options) (w : World) → IsSound F shape → Reaches F shape o w → Orderly F w
  orderly_reached shape o w sound r = orderly_run (opening shape o) w r.0 (fresh_orderly shape o sound) r.1

  -- a step more
  replay_more : (w u v : World) (js : List Record) (r : Record) → Replays F w js u → Steps F u r v → Replays F w (js ++ r ∷ []) v
  replay_more w u v [] r e s = (v, subst (λ x. Steps F x r v) e s, refl)
  replay_more w u v (j ∷ js) r h s = (h.0, h.1, replay_more h.0 u v js r h.2 s)

  pub reached_more : (shape : Shape) (o : Options) (w v : World) (r : Record) → Reaches F shape o w → Steps F w r v → Reaches F shape o v
  reached_more shape o w v r h s = (h.0 ++ r ∷ [], replay_more (opening shape o) w v h.0 r h.1 s)

  pub fresh_reached : (shape : Shape) (o : Options) → Reaches F shape o (opening shape o)
  fresh_reached shape o = ([], refl)
