-- From what the steps, the updates, the fills and the Opens keep of a node to every reached world, for kinds that may lose their stores or make a table, and whatever the reason why they say that they are done.
use Rattle.std.proofs.Common.{◌≡◌, ◌≢◌, ◌⊎◌, inl, inr, length, ℕ, Bool, true, false, List, [], ◌∷◌, ◌++◌, Some, refl, sym, ap, subst, ◌∙◌}
use Rattle.std.specs.Prelude.{Contains, slice_get, ◌&&◌, slice_set}
use Rattle.ps_frame.specs.Causes.{is_empty}
use Rattle.ps_frame.specs.Functions.{Functions}
use Rattle.ps_meaning.specs.Shape.{PhysicalKind, PhysicalNode, Shape, zip_node}
use Rattle.ps_meaning.specs.Sound.{IsSound}
use Rattle.ps_options.specs.declared.options.Options.{Options}
use Rattle.ps_ports.specs.Ports.{is_done}
use Rattle.ps_ports.specs.Wires.{Wire}
use Rattle.ps_turns.specs.Progress.{Progress, is_multiplexer}
use Rattle.ps_world.specs.Facts.{is_over_slice}
use Rattle.ps_world.specs.Opening.{Reaches, opening}
use Rattle.ps_world.specs.Phases.{after_open, blockers_in, nodes_of_phase, with_phase}
use Rattle.ps_world.specs.Pipes.{with_progress}
use Rattle.ps_world.specs.Closing.{after_end}
use Rattle.ps_world.specs.Step.{Opens, Replays, Steps, breaks, settles}
use Rattle.ps_world.specs.Updates.{FillsAt, IsSettled, TurnsAt, Updates, given_at, no_update, one_fill, one_update, updated}
use Rattle.ps_world.specs.World.{Node, Record, World, claimed, closed, ended, faulty, finished, handed_in, running, opened, pulled, schemas_for, shape_of}
use Rattle.world_claims.proofs.ReachedFacts.{known_step}
use Rattle.world_claims.proofs.WholeLaw.{facts_law}
use Rattle.world_claims.specs.Numbering.{Known}
use Rattle.world_laws.proofs.Answered.{in_shape}
use Rattle.world_laws.proofs.Shapes.{step_keeps, updates_keep as shapes_kept}
use Rattle.family_pipes.proofs.Begins.{begins}
use Rattle.family_pipes.proofs.Complete.{complete, whole}
use Rattle.family_pipes.proofs.Sent.{node_of}
use Rattle.family_fronts.proofs.SourceLaw.{from_single}
use Rattle.family_pipes.proofs.SourceSteps.{same_node}
use Rattle.family_keeps.proofs.Done.{DoneFits, StaysOver, done_on, done_step, done_turned, wire_joins}
use Rattle.orderly_worlds.proofs.Orderly.{Orderly}
use Rattle.orderly_worlds.proofs.Reaching.{fill_orderly, filled_is, fresh_orderly, fresh_reached, MarkedFrom, open_marks, orderly_step, reached_more, still_shut, update_orderly, updates_orderly}
use Rattle.node_keeps.proofs.SameTurn.{AllStay, SameTurn, StaysTurn, end_stays, phase_stays, same_turn, step_stays}
use Rattle.node_keeps.proofs.Slots.{SameTaken, SeesSlots, end_slots, step_slots}
use Rattle.node_keeps.proofs.Sees.{SameMarks, Sees, as_seen, end_sees, step_marks, step_sees}
use Rattle.node_keeps.proofs.Lost.{LostStep, end_lost, step_lost}
use Rattle.orderly_worlds.proofs.Stands.{Stands, StandsBefore, as_it_stood, phase_stands, zips}
use Rattle.orderly_worlds.proofs.Turned.{turned, updated_is}
use Rattle.family_keeps.proofs.Turns.{Leaves as LeavesProgress, fill_leaves, leaves_stand, turn_leaves}
use Rattle.world_claims.proofs.Beside.{Before, marked_from, set_from}
use Rattle.world_ends.proofs.Stored.{HasStores, has_stores}
use Rattle.std.proofs.lemmas.Bool.{cases_eq}

abbrev pub filled : World → ℕ → Node → Progress → World
filled w m other progress = record w { nodes = slice_set w.nodes m (record other { progress = progress }) }

-- WHAT A FAMILY HAS TO SHOW, for nodes of its kinds
module _ (F : Functions) (n : ℕ) (K : PhysicalKind → Type 0) (Own : World → Node → Type 0) where
  -- all outputs or some inputs of the node are newly done by its own update
  abbrev pub EndsFit : Type 0
  EndsFit =
      (w : World) (m : ℕ) (other : Node) (progress : Progress) (o : Orderly F w) (shut : w.is_open ≡ false) (t : TurnsAt F w m other progress) → Known F (turned w m other progress t.0) → shape_of (turned w m other progress t.0) ≡ shape_of w → n ≡ m → K other.node.kind → Own w other
      → DoneFits w n → DoneFits (turned w m other progress t.0) n

  pub record NodeLaw : Type 0 where
    pub single : (kind : PhysicalKind) → K kind → is_multiplexer kind ≡ false
    pub ends : EndsFit
    pub fresh : (shape : Shape) (o : Options) (node : Node) → IsSound F shape → slice_get (opening shape o).nodes n ≡ Some node → K node.node.kind → Own (opening shape o) node
    pub step : (w v : World) (node y : Node) → Orderly F w → Known F v → w.is_open ≡ true → shape_of v ≡ shape_of w → slice_get w.nodes n ≡ Some node → slice_get v.nodes n ≡ Some y → K node.node.kind → HasStores (length node.node.inputs) node.node.kind node.progress → DoneFits w n → (v.is_open ≡ true → SameMarks w v) → (zips node.node.kind ≡ true → LostStep w v n y) → Sees F w v n node → SameTurn node.progress y.progress → SeesSlots F w v n node y → w.ending ≡ running → Own w node → Own v y
    pub turn : (w : World) (m : ℕ) (other : Node) (progress : Progress) (node y : Node) → (o : Orderly F w) (shut : w.is_open ≡ false) (t : TurnsAt F w m other progress) → Known F (turned w m other progress t.0) → shape_of (turned w m other progress t.0) ≡ shape_of w → slice_get w.nodes n ≡ Some node
        → slice_get (turned w m other progress t.0).nodes n ≡ Some y → Stands node y → y.progress.stores ≡ node.progress.stores → K node.node.kind → HasStores (length node.node.inputs) node.node.kind node.progress → DoneFits w n → w.ending ≡ running → Own w node → Own (turned w m other progress t.0) y
    -- while all pipes and pieces stay
    pub still : (w v : World) (node y : Node) → Known F w → Known F v → slice_get w.nodes n ≡ Some node → slice_get v.nodes n ≡ Some y → v.pipes ≡ w.pipes → v.outs ≡ w.outs → v.options ≡ w.options → (v.is_open ≡ true → w.is_open ≡ true) → (v.ending ≡ running → w.ending ≡ running) → shape_of v ≡ shape_of w → Stands node y → y.progress.stores ≡ node.progress.stores → SameTurn node.progress y.progress → y.progress.taken ≡ node.progress.taken → K node.node.kind → Own w node → Own v y
    -- a map of a handed-in function is filled
    pub fill : (w : World) (m : ℕ) (other : Node) (progress : Progress) (node y : Node) → Orderly F w → w.is_open ≡ false → FillsAt F w m other progress → Known F (filled w m other progress) → shape_of (filled w m other progress) ≡ shape_of w → slice_get w.nodes n ≡ Some node → slice_get (filled w m other progress).nodes n ≡ Some y → K node.node.kind → DoneFits w n → w.ending ≡ running → Own w node → Own (filled w m other progress) y
    pub phase : (s : World) (phase : ℕ) (journal : List Record) (node y : Node) → Orderly F s → s.is_open ≡ false → IsSettled s → Known F (record (with_phase s) { phase = phase; journal = journal }) → shape_of (with_phase s) ≡ shape_of s → slice_get s.nodes n ≡ Some node → slice_get (with_phase s).nodes n ≡ Some y → Stands node y → y.progress.stores ≡ node.progress.stores → SameTurn node.progress y.progress → y.progress.taken ≡ node.progress.taken → K node.node.kind → DoneFits s n → Own s node
        → Own (record (with_phase s) { phase = phase; journal = journal }) y

  pub record KeepsNode (w : World) (node : Node) : Type 0 where
    pub done : DoneFits w n
    pub fits : HasStores (length node.node.inputs) node.node.kind node.progress
    pub own : Own w node

  abbrev pub KeepsAt : World → Type 0
  KeepsAt w = (node : Node) → slice_get w.nodes n ≡ Some node → K node.node.kind → KeepsNode w node

  module _ (law : NodeLaw) where
    -- the node of a world of the same shape
    was : (w v : World) → shape_of v ≡ shape_of w → (y : Node) → slice_get v.nodes n ≡ Some y → K y.node.kind → (x : Node) × (slice_get w.nodes n ≡ Some x) × K x.node.kind
    was w v shape y at k =
        let x = node_of w n y.node (ap (λ ps. slice_get ps n) (sym shape) ∙ in_shape v n y at) in
        (x.0, x.1, subst (λ (p : PhysicalNode). K p.kind) (sym x.2) k)

    stands : (w : World) (x y : Node) → slice_get w.nodes n ≡ Some x → StandsBefore w n y → Stands x y
    stands w x y at (z, there, s) = subst (λ u. Stands u y) (same_node w n z x there at) s

    stay : (w : World) (x y : Node) → slice_get w.nodes n ≡ Some x → Before StaysTurn w.nodes n y → SameTurn x.progress y.progress
    stay w x y at (z, there, s) = subst (λ u. StaysTurn u y) (same_node w n z x there at) s

    took : (w : World) (x y : Node) → slice_get w.nodes n ≡ Some x → Before SameTaken w.nodes n y → y.progress.taken ≡ x.progress.taken
    took w x y at (z, there, s) = subst (λ u. SameTaken u y) (same_node w n z x there at) s

    -- STEPS OF A PHASE
    by_seen : (w v : World) → Orderly F w → Known F v → w.is_open ≡ true → shape_of v ≡ shape_of w → ((y : Node) → slice_get v.nodes n ≡ Some y → HasStores (length y.node.inputs) y.node.kind y.progress) → (v.is_open ≡ true → SameMarks w v) → ((x y : Node) → slice_get w.nodes n ≡ Some x → zips x.node.kind ≡ true → is_multiplexer x.node.kind ≡ false → slice_get v.nodes n ≡ Some y → LostStep w v n y) → ((x : Node) → slice_get w.nodes n ≡ Some x → is_multiplexer x.node.kind ≡ false → Sees F w v n x) → AllStay w v → ((x y : Node) → slice_get w.nodes n ≡ Some x → slice_get v.nodes n ≡ Some y → SeesSlots F w v n x y) → w.ending ≡ running → KeepsAt w → KeepsAt v
    by_seen w v o kv started shape fits marks lost seen same slots run h y at k =
        let x = was w v shape y at k in
        let s = seen x.0 x.1 (law.single x.0.node.kind x.2) in
        let old = h x.0 x.1 x.2 in
        record { done = done_step F w v n x.0 o kv started shape x.1 (as_seen F w v n x.0 s) old.done; fits = fits y at; own = law.step w v x.0 y o kv started shape x.1 at x.2 old.fits old.done marks (λ zip. lost x.0 y x.1 zip (law.single x.0.node.kind x.2) at) s (stay w x.0 y x.1 (same n y at)) (slots x.0 y x.1 at) run old.own }

    -- what it stores stays
    abbrev Keeps : Node → Node → Type 0
    Keeps x y = (y.node ≡ x.node) × (y.progress.stores ≡ x.progress.stores)

    kept : (w : World) (x y : Node) → slice_get w.nodes n ≡ Some x → Before Keeps w.nodes n y → Keeps x y
    kept w x y at (z, there, s) = subst (λ u. Keeps u y) (same_node w n z x there at) s

    fit : (x y : Node) → Keeps x y → HasStores (length x.node.inputs) x.node.kind x.progress → HasStores (length y.node.inputs) y.node.kind y.progress
    fit x y (e, s) h = by x.node.kind y.node.kind (ap (λ (p : PhysicalNode). p.kind) e) (ap (λ (p : PhysicalNode). length p.inputs) e) h
      where
        by : (a b : PhysicalKind) → b ≡ a → length y.node.inputs ≡ length x.node.inputs → HasStores (length x.node.inputs) a x.progress → HasStores (length y.node.inputs) b y.progress
        by a b e l h = subst (λ z. HasStores (length y.node.inputs) z y.progress) (sym e) (of a h)
          where
            of : (z : PhysicalKind) → HasStores (length x.node.inputs) z x.progress → HasStores (length y.node.inputs) z y.progress
            of (zip_node extend) h = ap length s ∙ h ∙ sym l
            of z h = tt

    -- UPDATES AND FILLS
    turn_keeps : (w : World) (m : ℕ) (other : Node) (progress : Progress) → Orderly F w → w.is_open ≡ false → TurnsAt F w m other progress → w.ending ≡ running → KeepsAt w → KeepsAt (updated w m other progress)
    turn_keeps w m other progress o shut t run h = subst KeepsAt (sym is) there
      where
        is : updated w m other progress ≡ turned w m other progress t.0
        is = updated_is w m other progress t.0

        kv : Known F (turned w m other progress t.0)
        kv = subst (Known F) is ((facts_law F).at_update w (updated w m other progress) o.known shut (one_update m other progress t no_update))

        shape : shape_of (turned w m other progress t.0) ≡ shape_of w
        shape = ap shape_of (sym is) ∙ shapes_kept F w (updated w m other progress) (one_update m other progress t no_update)

        leaves : LeavesProgress other.progress progress
        leaves = turn_leaves F w.options other.node (schemas_for w other) (given_at w m) other.progress progress t.2

        there : KeepsAt (turned w m other progress t.0)
        there y at k =
            let x = was w (turned w m other progress t.0) shape y at k in
            let old = h x.0 x.1 x.2 in
            let s = stands w x.0 y x.1 (leaves_stand w m other progress t.0 leaves n y at) in
            let stays = kept w x.0 y x.1 (set_from Keeps (λ z. (refl, refl)) w.nodes m other (record other { progress = progress }) t.0 (refl, leaves.stores) n y at) in
            record {
              done = by x.0 x.1 x.2 old.own old.done kv (cases_eq n m);
              fits = fit x.0 y stays old.fits;
              own = law.turn w m other progress x.0 y o shut t kv shape x.1 at s stays.1 x.2 old.fits old.done run old.own;
            }
          where
            by : (x : Node) → slice_get w.nodes n ≡ Some x → K x.node.kind → Own w x → DoneFits w n → Known F (turned w m other progress t.0) → (n ≡ m) ⊎ (n ≢ m) → DoneFits (turned w m other progress t.0) n
            by x at_x k own done kv (inr apart) =
                done_turned F w m other progress o shut t.0 leaves.booked kv shape n done (λ same. absurd (apart same))
                (λ p r l q. o.known.facts.one_output p r l.0 q.0 (l.1 ∙ sym q.1) (from_single w n x p at_x (law.single x.node.kind k) l.1))
            by x at_x k own done kv (inl here) =
                let same : x ≡ other = same_node w n x other at_x (ap (slice_get w.nodes) here ∙ t.0) in
                law.ends w m other progress o shut t kv shape here (subst (λ (z : Node). K z.node.kind) same k) (subst (Own w) same own) done

    stay_over : (w v : World) → ((y : Node) → slice_get v.nodes n ≡ Some y → StandsBefore w n y) → StaysOver w v n
    stay_over w v nodes x y before after e = let s = stands w x y before (nodes y after) in (λ i. is_over_slice (s.node i).kind (s.booked i)) ∙ e

    -- while all pipes stay
    still_keeps : (w v : World) → Known F w → Known F v → v.pipes ≡ w.pipes → v.outs ≡ w.outs → v.options ≡ w.options → (v.is_open ≡ true → w.is_open ≡ true) → (v.ending ≡ running → w.ending ≡ running) → shape_of v ≡ shape_of w → ((y : Node) → slice_get v.nodes n ≡ Some y → StandsBefore w n y) → ((y : Node) → slice_get v.nodes n ≡ Some y → Before Keeps w.nodes n y) → AllStay w v → ((y : Node) → slice_get v.nodes n ≡ Some y → Before SameTaken w.nodes n y) → KeepsAt w → KeepsAt v
    still_keeps w v kw kv pipes outs options opens ends shape nodes stores same slots h y at k =
        let x = was w v shape y at k in
        let old = h x.0 x.1 x.2 in
        record {
          done =
              done_on F w v kw kv shape (λ p c. (p, subst (λ ps. Contains ps p) pipes c, record { joins = refl; dropped = λ d. d; received = λ d. d })) n (stay_over w v nodes)
              (λ p c d. (p, (subst (λ ps. Contains ps p) pipes c.0, c.1), d, λ is. is)) old.done;
          fits = fit x.0 y (kept w x.0 y x.1 (stores y at)) old.fits;
          own = law.still w v x.0 y kw kv x.1 at pipes outs options opens ends shape (stands w x.0 y x.1 (nodes y at)) (kept w x.0 y x.1 (stores y at)).1 (stay w x.0 y x.1 (same n y at)) (took w x.0 y x.1 (slots y at)) x.2 old.own;
        }

    fill_keeps : (w : World) (m : ℕ) (other : Node) (progress : Progress) → Orderly F w → w.is_open ≡ false → FillsAt F w m other progress → w.ending ≡ running → KeepsAt w → KeepsAt (with_progress m progress w)
    fill_keeps w m other progress o shut t run h = subst KeepsAt (sym is) there
      where
        is : with_progress m progress w ≡ filled w m other progress
        is = filled_is F w m other progress t.0

        kv : Known F (filled w m other progress)
        kv = subst (Known F) is ((facts_law F).at_update w (with_progress m progress w) o.known shut (one_fill m other progress t no_update))

        shape : shape_of (filled w m other progress) ≡ shape_of w
        shape = ap shape_of (sym is) ∙ shapes_kept F w (with_progress m progress w) (one_fill m other progress t no_update)

        leaves : LeavesProgress other.progress progress
        leaves = fill_leaves F other.node (schemas_for w other) (given_at w m) other.progress progress t.1

        there : KeepsAt (filled w m other progress)
        there y at k =
            let v = filled w m other progress in
            let x = was w v shape y at k in
            let old = h x.0 x.1 x.2 in
            let stays = kept w x.0 y x.1 (set_from Keeps (λ z. (refl, refl)) w.nodes m other (record other { progress = progress }) t.0 (refl, leaves.stores) n y at) in
            record {
              done =
                  done_on F w v o.known kv shape (λ p c. (p, c, record { joins = refl; dropped = λ d. d; received = λ d. d })) n (stay_over w v (λ z e. leaves_stand w m other progress t.0 leaves n z e))
                  (λ p c d. (p, c, d, λ is. is)) old.done;
              fits = fit x.0 y stays old.fits;
              own = law.fill w m other progress x.0 y o shut t kv shape x.1 at x.2 old.done run old.own;
            }

    pub updates_keep : (w s : World) → Orderly F w → w.is_open ≡ false → w.ending ≡ running → Updates F w s → KeepsAt w → KeepsAt s
    updates_keep w s o shut run no_update h = h
    updates_keep w s o shut run (one_update m other progress t u) h =
        updates_keep (updated w m other progress) s (update_orderly F w m other progress o shut t) (still_shut F w (updated w m other progress) o shut (one_update m other progress t no_update)) (ap (λ (x : World). x.ending) (updated_is w m other progress t.0) ∙ run) u (turn_keeps w m other progress o shut t run h)
    updates_keep w s o shut run (one_fill m other progress t u) h =
        updates_keep (with_progress m progress w) s (fill_orderly F w m other progress o shut t) (still_shut F w (with_progress m progress w) o shut (one_fill m other progress t no_update)) (ap (λ (x : World). x.ending) (filled_is F w m other progress t.0) ∙ run) u (fill_keeps w m other progress o shut t run h)

    -- OPENS
    marked_done : (s v : World) → Known F s → Known F v → shape_of v ≡ shape_of s → MarkedFrom s v → ((y : Node) → slice_get v.nodes n ≡ Some y → StandsBefore s n y) → DoneFits s n → DoneFits v n
    marked_done s v ks kv shape g nodes h =
        done_on F s v ks kv shape (λ p c. let x = g p c in (x.0, x.1, record { joins = wire_joins x.0 p x.2.wire; dropped = λ d. x.2.dropped ∙ d; received = λ d. ap (λ (u : Wire). is_done u.receive_state) x.2.wire ∙ d })) n (stay_over s v nodes)
        (λ p c d.
        let x = g p c.0 in (
          x.0,
          (x.1, ap (λ (u : Wire). u.receiver) (sym x.2.wire) ∙ c.1),
          ap (λ (u : Wire). is_done u.receive_state) (sym x.2.wire) ∙ d,
          λ is.
              let w = whole x.0 is in
              complete p (record { done = ap (λ (u : Wire). is_done u.send_state) x.2.wire ∙ w.done; dropped = x.2.dropped ∙ w.dropped; unread = x.2.unread ∙ w.unread }),
        )) h

    phase_kept : (s : World) (y : Node) → slice_get (with_phase s).nodes n ≡ Some y → Before Keeps s.nodes n y
    phase_kept s y at = marked_from Keeps (λ x b. (refl, refl)) (nodes_of_phase s) 0 s.nodes n y at

    phase_keeps : (s : World) (phase : ℕ) (journal : List Record) → Orderly F s → s.is_open ≡ false → IsSettled s → Known F (record (with_phase s) { phase = phase; journal = journal }) → shape_of (with_phase s) ≡ shape_of s → MarkedFrom s (record (with_phase s) { phase = phase; journal = journal }) → KeepsAt s
        → KeepsAt (record (with_phase s) { phase = phase; journal = journal })
    phase_keeps s phase journal o shut rest kv shape g h y at k =
        let v = record (with_phase s) { phase = phase; journal = journal } in
        let x = was s v shape y at k in
        let old = h x.0 x.1 x.2 in
        let stays = kept s x.0 y x.1 (phase_kept s y at) in
        record { done = marked_done s v o.known kv shape g (phase_stands s n) old.done; fits = fit x.0 y stays old.fits; own = law.phase s phase journal x.0 y o shut rest kv shape x.1 at (stands s x.0 y x.1 (phase_stands s n y at)) stays.1 (stay s x.0 y x.1 (phase_stays s n y at)) (took s x.0 y x.1 (marked_from SameTaken (λ x b. refl) (nodes_of_phase s) 0 s.nodes n y at)) x.2 old.done old.own }

    opens_keep : (s v : World) (phase : ℕ) → Orderly F s → s.is_open ≡ false → Known F v → shape_of v ≡ shape_of s → Opens F s phase v → KeepsAt s → KeepsAt v
    opens_keep s v phase o shut kv shape (breaks m c f e) h =
        still_keeps s v o.known kv (ap (λ (x : World). x.pipes) e) (ap (λ (x : World). x.outs) e) (ap (λ (x : World). x.options) e) (λ on. ap (λ (x : World). x.is_open) (sym e) ∙ on) (λ on. absurd (let no : faulty c ≡ running = ap (λ (x : World). x.ending) (sym e) ∙ on in cc)) shape (λ y at. (y, ap (λ (x : World). slice_get x.nodes n) (sym e) ∙ at, as_it_stood y)) (λ y at. (y, ap (λ (x : World). slice_get x.nodes n) (sym e) ∙ at, (refl, refl))) (λ k y at. (y, ap (λ (x : World). slice_get x.nodes k) (sym e) ∙ at, same_turn y.progress)) (λ y at. (y, ap (λ (x : World). slice_get x.nodes n) (sym e) ∙ at, refl)) h
    opens_keep s v phase o shut kv shape (settles rest e) h = subst KeepsAt (sym e) (by (is_empty (blockers_in s)) refl (subst (Known F) e kv) (ap shape_of (sym e) ∙ shape))
      where
        by : (b : Bool) → is_empty (blockers_in s) ≡ b → Known F (after_open s phase) → shape_of (after_open s phase) ≡ shape_of s → KeepsAt (after_open s phase)
        by true none ko same =
            let is : after_open s phase ≡ record s { ending = finished; phase = phase; journal = s.journal ++ opened phase ∷ [] } = rw none refl in
            still_keeps s (after_open s phase) o.known ko (ap (λ (x : World). x.pipes) is) (ap (λ (x : World). x.outs) is) (ap (λ (x : World). x.options) is) (λ on. ap (λ (x : World). x.is_open) (sym is) ∙ on) (λ on. absurd (let no : finished ≡ running = ap (λ (x : World). x.ending) (sym is) ∙ on in cc)) same (λ y at. (y, ap (λ (x : World). slice_get x.nodes n) (sym is) ∙ at, as_it_stood y)) (λ y at. (y, ap (λ (x : World). slice_get x.nodes n) (sym is) ∙ at, (refl, refl))) (λ k y at. (y, ap (λ (x : World). slice_get x.nodes k) (sym is) ∙ at, same_turn y.progress)) (λ y at. (y, ap (λ (x : World). slice_get x.nodes n) (sym is) ∙ at, refl)) h
        by false some ko same =
            let is : record (with_phase s) { phase = phase; journal = s.journal ++ opened phase ∷ [] } ≡ after_open s phase = rw some refl in
            subst KeepsAt is (phase_keeps s phase (s.journal ++ opened phase ∷ []) o shut rest (subst (Known F) (sym is) ko) (ap shape_of is ∙ same) (subst (MarkedFrom s) (sym is) (open_marks s phase)) h)

    -- EVERY STEP
    open_of : (b c : Bool) → (b && c) ≡ true → b ≡ true
    open_of true c e = refl
    open_of false c e = e

    abbrev Fit : World → Type 0
    Fit v = (y : Node) → slice_get v.nodes n ≡ Some y → HasStores (length y.node.inputs) y.node.kind y.progress

    not_after : (w : World) → (after_end w).is_open ≡ true → SameMarks w (after_end w)
    not_after w on = absurd (let no : false ≡ true = on in cc)

    pub keeps_step : (w v : World) (r : Record) → Fit v → Orderly F w → Steps F w r v → KeepsAt w → KeepsAt v
    keeps_step w v (opened phase) fits o s h =
        let u = updates_keep w s.3.0 o s.0 s.1 s.3.1 h in
        let ou = updates_orderly F w s.3.0 o s.0 s.3.1 in
        opens_keep s.3.0 v phase ou (still_shut F w s.3.0 o s.0 s.3.1) (known_step F w v (opened phase) o.known s) (step_keeps F w v (opened phase) s ∙ sym (shapes_kept F w s.3.0 s.3.1)) s.3.2 u
    keeps_step w v (claimed m i number worker) fits o s h =
        by_seen w v o (known_step F w v (claimed m i number worker) o.known s) (open_of w.is_open _ s.1.1) (step_keeps F w v (claimed m i number worker) s) fits (λ on. step_marks F w v (claimed m i number worker) refl s) (λ x y at zip single there. step_lost F w n x o.known at zip single v (claimed m i number worker) refl s y there) (λ x at single. step_sees F w n x o.known at single v (claimed m i number worker) refl s) (step_stays F w v (claimed m i number worker) refl s) (λ x y at there. step_slots F w o.known n x at v (claimed m i number worker) refl s y there) s.1.2 h
    keeps_step w v (handed_in m i number worker handed) fits o s h =
        by_seen w v o (known_step F w v (handed_in m i number worker handed) o.known s) ((facts_law F).pieces_open w s.0 o.known s.1) (step_keeps F w v (handed_in m i number worker handed) s) fits (λ on. step_marks F w v (handed_in m i number worker handed) refl s) (λ x y at zip single there. step_lost F w n x o.known at zip single v (handed_in m i number worker handed) refl s y there)
        (λ x at single. step_sees F w n x o.known at single v (handed_in m i number worker handed) refl s) (step_stays F w v (handed_in m i number worker handed) refl s) (λ x y at there. step_slots F w o.known n x at v (handed_in m i number worker handed) refl s y there) s.6 h
    keeps_step w v (pulled m i number) fits o s h =
        by_seen w v o (known_step F w v (pulled m i number) o.known s) (open_of w.is_open _ s.1.1) (step_keeps F w v (pulled m i number) s) fits (λ on. step_marks F w v (pulled m i number) refl s) (λ x y at zip single there. step_lost F w n x o.known at zip single v (pulled m i number) refl s y there) (λ x at single. step_sees F w n x o.known at single v (pulled m i number) refl s) (step_stays F w v (pulled m i number) refl s) (λ x y at there. step_slots F w o.known n x at v (pulled m i number) refl s y there) s.1.2 h
    keeps_step w v (closed m) fits o s h =
        by_seen w v o (known_step F w v (closed m) o.known s) (open_of w.is_open _ s.1.1) (step_keeps F w v (closed m) s) fits (λ on. step_marks F w v (closed m) refl s) (λ x y at zip single there. step_lost F w n x o.known at zip single v (closed m) refl s y there) (λ x at single. step_sees F w n x o.known at single v (closed m) refl s) (step_stays F w v (closed m) refl s) (λ x y at there. step_slots F w o.known n x at v (closed m) refl s y there) s.1.2 h
    keeps_step w v (ended phase) fits o s h =
        by_seen w v o (known_step F w v (ended phase) o.known s) s.0 (step_keeps F w v (ended phase) s) fits (λ on. subst (SameMarks w) (sym s.4) (not_after w (ap (λ (x : World). x.is_open) (sym s.4) ∙ on))) (λ x y at zip single there. subst (λ z. LostStep w z n y) (sym s.4) (end_lost F w n x o.known at zip single y)) (λ x at single. subst (λ z. Sees F w z n x) (sym s.4) (end_sees F w n x o.known at single)) (subst (AllStay w) (sym s.4) (end_stays w)) (λ x y at there. subst (λ z. SeesSlots F w z n x y) (sym s.4) (end_slots F w o.known n x at y (ap (λ (z : World). slice_get z.nodes n) (sym s.4) ∙ there))) s.1 h

    keeps_run : (shape : Shape) (o : Options) (w v : World) (rs : List Record) → IsSound F shape → Reaches F shape o w → Orderly F w → Replays F w rs v → KeepsAt w → KeepsAt v
    keeps_run shape o w v [] sound r k e h = subst KeepsAt (sym e) h
    keeps_run shape o w v (j ∷ js) sound r k s h =
        let next = reached_more F shape o w s.0 j r s.1 in
        keeps_run shape o s.0 v js sound next (orderly_step F w s.0 j k s.1) s.2 (keeps_step w s.0 j (λ y at. has_stores F shape o s.0 next n y at) k s.1 h)

    fresh_keeps : (shape : Shape) (o : Options) → IsSound F shape → KeepsAt (opening shape o)
    fresh_keeps shape o sound node at k = record { done = λ q c d. (begins F shape o n node at).pipes.done q c d; fits = has_stores F shape o (opening shape o) (fresh_reached F shape o) n node at; own = law.fresh shape o node sound at k }

    pub keeps_reached : (shape : Shape) (o : Options) (w : World) → IsSound F shape → Reaches F shape o w → KeepsAt w
    keeps_reached shape o w sound r = keeps_run shape o (opening shape o) w r.0 sound (fresh_reached F shape o) (fresh_orderly F shape o sound) r.1 (fresh_keeps shape o sound)
