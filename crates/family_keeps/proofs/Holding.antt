-- From what the steps, the updates and the Opens keep of a node to every reached world.
use Rattle.std.proofs.Common.{◌≡◌, ℕ, Bool, true, false, List, [], ◌∷◌, ◌++◌, Some, refl, sym, ap, subst, ◌∙◌}
use Rattle.std.specs.Prelude.{Contains, slice_get, ◌&&◌}
use Rattle.ps_frame.specs.Causes.{is_empty}
use Rattle.ps_frame.specs.Functions.{Functions}
use Rattle.ps_meaning.specs.Shape.{PhysicalKind, PhysicalNode, Shape}
use Rattle.ps_meaning.specs.Sound.{IsSound}
use Rattle.ps_options.specs.declared.options.Options.{Options}
use Rattle.ps_ports.specs.Ports.{is_done}
use Rattle.ps_ports.specs.Wires.{Wire}
use Rattle.ps_turns.specs.Progress.{Progress, is_multiplexer}
use Rattle.ps_world.specs.Facts.{is_over_slice}
use Rattle.ps_world.specs.Opening.{Reaches, opening}
use Rattle.ps_world.specs.Phases.{after_open, blockers_in, with_phase}
use Rattle.ps_world.specs.Pipes.{with_progress}
use Rattle.ps_world.specs.Step.{Opens, Replays, Steps, breaks, settles}
use Rattle.ps_world.specs.Updates.{FillsAt, IsSettled, TurnsAt, Updates, given_at, no_update, one_fill, one_update, updated}
use Rattle.ps_world.specs.World.{Node, Record, World, claimed, closed, ended, finished, handed_in, opened, pulled, schemas_for, shape_of}
use Rattle.world_claims.proofs.ReachedFacts.{known_step}
use Rattle.world_claims.proofs.WholeLaw.{facts_law}
use Rattle.world_claims.specs.Numbering.{Known}
use Rattle.world_facts.proofs.ClaimedOnce.{replay_shape}
use Rattle.world_laws.proofs.Answered.{in_shape}
use Rattle.world_laws.proofs.Induction.{opening_shape}
use Rattle.world_laws.proofs.Shapes.{step_keeps, updates_keep as shapes_kept}
use Rattle.family_pipes.proofs.Begins.{begins}
use Rattle.family_pipes.proofs.Complete.{complete, whole}
use Rattle.family_pipes.proofs.Sent.{node_of}
use Rattle.family_fronts.proofs.SourceLaw.{from_single}
use Rattle.family_pipes.proofs.SourceSteps.{same_node}
use Rattle.passing_runs.proofs.Still.{IsStill, still_then, updates_still}
use Rattle.family_keeps.proofs.Done.{DoneFits, StaysOver, done_on, done_step, done_turned, wire_joins}
use Rattle.orderly_worlds.proofs.Orderly.{Orderly}
use Rattle.orderly_worlds.proofs.Reaching.{fill_orderly, filled_is, fresh_orderly, fresh_reached, MarkedFrom, open_marks, orderly_step, reached_more, still_shut, update_orderly, updates_orderly}
use Rattle.orderly_worlds.proofs.Seen.{Seen, end_seen, step_seen}
use Rattle.orderly_worlds.proofs.Stands.{Stands, StandsBefore, as_it_stood, phase_stands}
use Rattle.orderly_worlds.proofs.Turned.{turned, updated_is}
use Rattle.family_keeps.proofs.Turns.{Leaves as LeavesProgress, fill_leaves, leaves_stand, turn_leaves}
use Rattle.world_families.specs.Kinds.{HandsOn}

-- a reached world, or one that stands as a reached one, but for states of ports and progress
abbrev pub IsNear : Functions → World → Type 0
IsNear F w = (shape : Shape) × (o : Options) × (u : World) × IsSound F shape × Reaches F shape o u × IsStill u w × (shape_of w ≡ shape)

pub near_reached : (F : Functions) (shape : Shape) (o : Options) (w : World) → IsSound F shape → Reaches F shape o w → IsNear F w
near_reached F shape o w sound r = (shape, o, w, sound, r, updates_still F w w no_update, replay_shape F (opening shape o) w r.0 r.1 ∙ opening_shape shape)

near_then : (F : Functions) (w v : World) → IsNear F w → Updates F w v → IsNear F v
near_then F w v (shape, o, u, sound, r, still, same) steps = (shape, o, u, sound, r, still_then u w v still (updates_still F w v steps), shapes_kept F w v steps ∙ same)

-- WHAT A FAMILY HAS TO SHOW, for nodes of its kinds
module _ (F : Functions) (n : ℕ) (K : PhysicalKind → Type 0) (Own : World → Node → Type 0) where
  pub record OwnLaw : Type 0 where
    pub hands : (kind : PhysicalKind) → K kind → HandsOn kind
    pub single : (kind : PhysicalKind) → K kind → is_multiplexer kind ≡ false
    pub fresh : (shape : Shape) (o : Options) (node : Node) → IsSound F shape → slice_get (opening shape o).nodes n ≡ Some node → K node.node.kind → Own (opening shape o) node
    pub step : (w v : World) (node y : Node) → Orderly F w → Known F v → w.is_open ≡ true → shape_of v ≡ shape_of w → slice_get w.nodes n ≡ Some node → slice_get v.nodes n ≡ Some y → K node.node.kind → Seen F w v n node → Own w node → Own v y
    pub turn : (w : World) (m : ℕ) (other : Node) (progress : Progress) (node y : Node) → IsNear F w → (o : Orderly F w) (shut : w.is_open ≡ false) (t : TurnsAt F w m other progress) → Known F (turned w m other progress t.0) → shape_of (turned w m other progress t.0) ≡ shape_of w → slice_get w.nodes n ≡ Some node
        → slice_get (turned w m other progress t.0).nodes n ≡ Some y → Stands node y → K node.node.kind → DoneFits w n → Own w node → Own (turned w m other progress t.0) y
    -- while all pipes and pieces stay
    pub still : (w v : World) (node y : Node) → v.pipes ≡ w.pipes → v.outs ≡ w.outs → v.options ≡ w.options → shape_of v ≡ shape_of w → Stands node y → K node.node.kind → Own w node → Own v y
    pub phase : (s : World) (phase : ℕ) (journal : List Record) (node y : Node) → Orderly F s → IsSettled s → Known F (record (with_phase s) { phase = phase; journal = journal }) → shape_of (with_phase s) ≡ shape_of s → slice_get s.nodes n ≡ Some node → slice_get (with_phase s).nodes n ≡ Some y → Stands node y → K node.node.kind → DoneFits s n → Own s node
        → Own (record (with_phase s) { phase = phase; journal = journal }) y

  pub record KeepsNode (w : World) (node : Node) : Type 0 where
    pub done : DoneFits w n
    pub own : Own w node

  abbrev pub KeepsAt : World → Type 0
  KeepsAt w = (node : Node) → slice_get w.nodes n ≡ Some node → K node.node.kind → KeepsNode w node

  module _ (law : OwnLaw) where
    -- the node of a world of the same shape
    was : (w v : World) → shape_of v ≡ shape_of w → (y : Node) → slice_get v.nodes n ≡ Some y → K y.node.kind → (x : Node) × (slice_get w.nodes n ≡ Some x) × K x.node.kind
    was w v shape y at k =
        let x = node_of w n y.node (ap (λ ps. slice_get ps n) (sym shape) ∙ in_shape v n y at) in
        (x.0, x.1, subst (λ (p : PhysicalNode). K p.kind) (sym x.2) k)

    stands : (w : World) (x y : Node) → slice_get w.nodes n ≡ Some x → StandsBefore w n y → Stands x y
    stands w x y at (z, there, s) = subst (λ u. Stands u y) (same_node w n z x there at) s

    -- STEPS OF A PHASE
    by_seen : (w v : World) → Orderly F w → Known F v → w.is_open ≡ true → shape_of v ≡ shape_of w → ((x : Node) → slice_get w.nodes n ≡ Some x → is_multiplexer x.node.kind ≡ false → Seen F w v n x) → KeepsAt w → KeepsAt v
    by_seen w v o kv started shape seen h y at k =
        let x = was w v shape y at k in
        let s = seen x.0 x.1 (law.single x.0.node.kind x.2) in
        let old = h x.0 x.1 x.2 in
        record { done = done_step F w v n x.0 o kv started shape x.1 s old.done; own = law.step w v x.0 y o kv started shape x.1 at x.2 s old.own }

    -- UPDATES AND FILLS
    turn_keeps : (w : World) (m : ℕ) (other : Node) (progress : Progress) → IsNear F w → Orderly F w → w.is_open ≡ false → TurnsAt F w m other progress → KeepsAt w → KeepsAt (updated w m other progress)
    turn_keeps w m other progress near o shut t h = subst KeepsAt (sym is) there
      where
        is : updated w m other progress ≡ turned w m other progress t.0
        is = updated_is w m other progress t.0

        kv : Known F (turned w m other progress t.0)
        kv = subst (Known F) is ((facts_law F).at_update w (updated w m other progress) o.known shut (one_update m other progress t no_update))

        shape : shape_of (turned w m other progress t.0) ≡ shape_of w
        shape = ap shape_of (sym is) ∙ shapes_kept F w (updated w m other progress) (one_update m other progress t no_update)

        leaves : LeavesProgress other.progress progress
        leaves = turn_leaves F w.options other.node (schemas_for w other) (given_at w m) other.progress progress t.2

        there : KeepsAt (turned w m other progress t.0)
        there y at k =
            let x = was w (turned w m other progress t.0) shape y at k in
            let old = h x.0 x.1 x.2 in
            let s = stands w x.0 y x.1 (leaves_stand w m other progress t.0 leaves n y at) in
            record {
              done =
                  done_turned F w m other progress o shut t.0 leaves.booked kv shape n old.done (λ here. subst (λ (z : Node). HandsOn z.node.kind) (same_node w n x.0 other x.1 (ap (slice_get w.nodes) here ∙ t.0)) (law.hands x.0.node.kind x.2))
                  (λ p r l q. o.known.facts.one_output p r l.0 q.0 (l.1 ∙ sym q.1) (from_single w n x.0 p x.1 (law.single x.0.node.kind x.2) l.1));
              own = law.turn w m other progress x.0 y near o shut t kv shape x.1 at s x.2 old.done old.own;
            }

    stay_over : (w v : World) → ((y : Node) → slice_get v.nodes n ≡ Some y → StandsBefore w n y) → StaysOver w v n
    stay_over w v nodes x y before after e = let s = stands w x y before (nodes y after) in (λ i. is_over_slice (s.node i).kind (s.booked i)) ∙ e

    -- while all pipes stay
    still_keeps : (w v : World) → Known F w → Known F v → v.pipes ≡ w.pipes → v.outs ≡ w.outs → v.options ≡ w.options → shape_of v ≡ shape_of w → ((y : Node) → slice_get v.nodes n ≡ Some y → StandsBefore w n y) → KeepsAt w → KeepsAt v
    still_keeps w v kw kv pipes outs options shape nodes h y at k =
        let x = was w v shape y at k in
        let old = h x.0 x.1 x.2 in
        record {
          done =
              done_on F w v kw kv shape (λ p c. (p, subst (λ ps. Contains ps p) pipes c, record { joins = refl; dropped = λ d. d; received = λ d. d })) n (stay_over w v nodes)
              (λ p c d. (p, (subst (λ ps. Contains ps p) pipes c.0, c.1), d, λ is. is)) old.done;
          own = law.still w v x.0 y pipes outs options shape (stands w x.0 y x.1 (nodes y at)) x.2 old.own;
        }

    fill_keeps : (w : World) (m : ℕ) (other : Node) (progress : Progress) → Orderly F w → w.is_open ≡ false → FillsAt F w m other progress → KeepsAt w → KeepsAt (with_progress m progress w)
    fill_keeps w m other progress o shut t h =
        let v = with_progress m progress w in
        let is = filled_is F w m other progress t.0 in
        let kv = (facts_law F).at_update w v o.known shut (one_fill m other progress t no_update) in
        still_keeps w v o.known kv (ap (λ (x : World). x.pipes) is) (ap (λ (x : World). x.outs) is) (ap (λ (x : World). x.options) is) (shapes_kept F w v (one_fill m other progress t no_update))
        (λ y at. leaves_stand w m other progress t.0 (fill_leaves F other.node (schemas_for w other) (given_at w m) other.progress progress t.1) n y (ap (λ (x : World). slice_get x.nodes n) (sym is) ∙ at)) h

    pub updates_keep : (w s : World) → IsNear F w → Orderly F w → w.is_open ≡ false → Updates F w s → KeepsAt w → KeepsAt s
    updates_keep w s near o shut no_update h = h
    updates_keep w s near o shut (one_update m other progress t u) h =
        updates_keep (updated w m other progress) s (near_then F w (updated w m other progress) near (one_update m other progress t no_update)) (update_orderly F w m other progress o shut t) (still_shut F w (updated w m other progress) o shut (one_update m other progress t no_update)) u (turn_keeps w m other progress near o shut t h)
    updates_keep w s near o shut (one_fill m other progress t u) h =
        updates_keep (with_progress m progress w) s (near_then F w (with_progress m progress w) near (one_fill m other progress t no_update)) (fill_orderly F w m other progress o shut t) (still_shut F w (with_progress m progress w) o shut (one_fill m other progress t no_update)) u (fill_keeps w m other progress o shut t h)

    -- OPENS
    marked_done : (s v : World) → Known F s → Known F v → shape_of v ≡ shape_of s → MarkedFrom s v → ((y : Node) → slice_get v.nodes n ≡ Some y → StandsBefore s n y) → DoneFits s n → DoneFits v n
    marked_done s v ks kv shape g nodes h =
        done_on F s v ks kv shape (λ p c. let x = g p c in (x.0, x.1, record { joins = wire_joins x.0 p x.2.wire; dropped = λ d. x.2.dropped ∙ d; received = λ d. ap (λ (u : Wire). is_done u.receive_state) x.2.wire ∙ d })) n (stay_over s v nodes)
        (λ p c d.
        let x = g p c.0 in (
          x.0,
          (x.1, ap (λ (u : Wire). u.receiver) (sym x.2.wire) ∙ c.1),
          ap (λ (u : Wire). is_done u.receive_state) (sym x.2.wire) ∙ d,
          λ is.
              let w = whole x.0 is in
              complete p (record { done = ap (λ (u : Wire). is_done u.send_state) x.2.wire ∙ w.done; dropped = x.2.dropped ∙ w.dropped; unread = x.2.unread ∙ w.unread }),
        )) h

    phase_keeps : (s : World) (phase : ℕ) (journal : List Record) → Orderly F s → IsSettled s → Known F (record (with_phase s) { phase = phase; journal = journal }) → shape_of (with_phase s) ≡ shape_of s → MarkedFrom s (record (with_phase s) { phase = phase; journal = journal }) → KeepsAt s
        → KeepsAt (record (with_phase s) { phase = phase; journal = journal })
    phase_keeps s phase journal o rest kv shape g h y at k =
        let v = record (with_phase s) { phase = phase; journal = journal } in
        let x = was s v shape y at k in
        let old = h x.0 x.1 x.2 in
        record { done = marked_done s v o.known kv shape g (phase_stands s n) old.done; own = law.phase s phase journal x.0 y o rest kv shape x.1 at (stands s x.0 y x.1 (phase_stands s n y at)) x.2 old.done old.own }

    opens_keep : (s v : World) (phase : ℕ) → Orderly F s → Known F v → shape_of v ≡ shape_of s → Opens F s phase v → KeepsAt s → KeepsAt v
    opens_keep s v phase o kv shape (breaks m c f e) h =
        still_keeps s v o.known kv (ap (λ (x : World). x.pipes) e) (ap (λ (x : World). x.outs) e) (ap (λ (x : World). x.options) e) shape (λ y at. (y, ap (λ (x : World). slice_get x.nodes n) (sym e) ∙ at, as_it_stood y)) h
    opens_keep s v phase o kv shape (settles rest e) h = subst KeepsAt (sym e) (by (is_empty (blockers_in s)) refl (subst (Known F) e kv) (ap shape_of (sym e) ∙ shape))
      where
        by : (b : Bool) → is_empty (blockers_in s) ≡ b → Known F (after_open s phase) → shape_of (after_open s phase) ≡ shape_of s → KeepsAt (after_open s phase)
        by true none ko same =
            let is : after_open s phase ≡ record s { ending = finished; phase = phase; journal = s.journal ++ opened phase ∷ [] } = rw none refl in
            still_keeps s (after_open s phase) o.known ko (ap (λ (x : World). x.pipes) is) (ap (λ (x : World). x.outs) is) (ap (λ (x : World). x.options) is) same (λ y at. (y, ap (λ (x : World). slice_get x.nodes n) (sym is) ∙ at, as_it_stood y)) h
        by false some ko same =
            let is : record (with_phase s) { phase = phase; journal = s.journal ++ opened phase ∷ [] } ≡ after_open s phase = rw some refl in
            subst KeepsAt is (phase_keeps s phase (s.journal ++ opened phase ∷ []) o rest (subst (Known F) (sym is) ko) (ap shape_of is ∙ same) (subst (MarkedFrom s) (sym is) (open_marks s phase)) h)

    -- EVERY STEP
    open_of : (b c : Bool) → (b && c) ≡ true → b ≡ true
    open_of true c e = refl
    open_of false c e = e

    pub keeps_step : (w v : World) (r : Record) → IsNear F w → Orderly F w → Steps F w r v → KeepsAt w → KeepsAt v
    keeps_step w v (opened phase) near o s h =
        let u = updates_keep w s.3.0 near o s.0 s.3.1 h in
        let ou = updates_orderly F w s.3.0 o s.0 s.3.1 in
        opens_keep s.3.0 v phase ou (known_step F w v (opened phase) o.known s) (step_keeps F w v (opened phase) s ∙ sym (shapes_kept F w s.3.0 s.3.1)) s.3.2 u
    keeps_step w v (claimed m i number worker) near o s h =
        by_seen w v o (known_step F w v (claimed m i number worker) o.known s) (open_of w.is_open _ s.1.1) (step_keeps F w v (claimed m i number worker) s) (λ x at single. step_seen F w n x o.known at single v (claimed m i number worker) refl s) h
    keeps_step w v (handed_in m i number worker handed) near o s h =
        by_seen w v o (known_step F w v (handed_in m i number worker handed) o.known s) ((facts_law F).pieces_open w s.0 o.known s.1) (step_keeps F w v (handed_in m i number worker handed) s)
        (λ x at single. step_seen F w n x o.known at single v (handed_in m i number worker handed) refl s) h
    keeps_step w v (pulled m i number) near o s h =
        by_seen w v o (known_step F w v (pulled m i number) o.known s) (open_of w.is_open _ s.1.1) (step_keeps F w v (pulled m i number) s) (λ x at single. step_seen F w n x o.known at single v (pulled m i number) refl s) h
    keeps_step w v (closed m) near o s h =
        by_seen w v o (known_step F w v (closed m) o.known s) (open_of w.is_open _ s.1.1) (step_keeps F w v (closed m) s) (λ x at single. step_seen F w n x o.known at single v (closed m) refl s) h
    keeps_step w v (ended phase) near o s h =
        by_seen w v o (known_step F w v (ended phase) o.known s) s.0 (step_keeps F w v (ended phase) s) (λ x at single. subst (λ z. Seen F w z n x) (sym s.4) (end_seen F w n x o.known at single)) h

    keeps_run : (shape : Shape) (o : Options) (w v : World) (rs : List Record) → IsSound F shape → Reaches F shape o w → Orderly F w → Replays F w rs v → KeepsAt w → KeepsAt v
    keeps_run shape o w v [] sound r k e h = subst KeepsAt (sym e) h
    keeps_run shape o w v (j ∷ js) sound r k s h =
        keeps_run shape o s.0 v js sound (reached_more F shape o w s.0 j r s.1) (orderly_step F w s.0 j k s.1) s.2 (keeps_step w s.0 j (near_reached F shape o w sound r) k s.1 h)

    fresh_keeps : (shape : Shape) (o : Options) → IsSound F shape → KeepsAt (opening shape o)
    fresh_keeps shape o sound node at k = record { done = λ q c d. (begins F shape o n node at).pipes.done q c d; own = law.fresh shape o node sound at k }

    pub keeps_reached : (shape : Shape) (o : Options) (w : World) → IsSound F shape → Reaches F shape o w → KeepsAt w
    keeps_reached shape o w sound r = keeps_run shape o (opening shape o) w r.0 sound (fresh_reached F shape o) (fresh_orderly F shape o sound) r.1 (fresh_keeps shape o sound)
