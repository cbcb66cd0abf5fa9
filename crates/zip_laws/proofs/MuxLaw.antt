-- What the families keep of a multiplexer holds in every reached world.
use Rattle.std.proofs.Common.{◌≡◌, ◌≢◌, ℕ, suc, ◌⊎◌, Bool, true, false, List, [], ◌∷◌, ◌++◌, cond, length, take, Option, Some, None, refl, sym, ap, subst, ◌∙◌, inl, inr}
use Rattle.std.specs.Prelude.{Contains, nat_eq, not, slice_get, ◌&&◌, ◌||◌}
use Rattle.std.proofs.lemmas.Bool.{cases_eq}
use Rattle.ps_frame.specs.Causes.{is_empty}
use Rattle.ps_frame.specs.Functions.{Functions}
use Rattle.ps_frame.specs.Tables.{Row}
use Rattle.ps_meaning.specs.Shape.{PhysicalNode, Shape, multiplexer}
use Rattle.ps_meaning.specs.Sound.{IsSound, input_schemas}
use Rattle.ps_options.specs.declared.options.Options.{Options}
use Rattle.ps_ports.specs.Ports.{is_done}
use Rattle.ps_ports.specs.Wires.{Wire}
use Rattle.ps_turns.specs.Claims.{Claim, claim_by}
use Rattle.ps_world.specs.Answers.{answered}
use Rattle.ps_world.specs.Facts.{is_over_slice}
use Rattle.ps_world.specs.Keeping.{IsFrontOf}
use Rattle.world_families.proofs.Members.{nothing_is}
use Rattle.ps_turns.specs.Progress.{Progress, is_multiplexer}
use Rattle.ps_world.specs.Claims.{after_claim, before_drops, claim_at, piece_of, inputs_in_phase, next_morsel}
use Rattle.ps_world.specs.Closing.{after_close, after_end}
use Rattle.ps_world.specs.Laws.{Justified, sent_at, sent_by, sent_to}
use Rattle.ps_world.specs.Opening.{Reaches, opening}
use Rattle.ps_world.specs.Phases.{blockers_in, with_phase}
use Rattle.ps_world.specs.Pipes.{is_input, with_progress}
use Rattle.ps_world.specs.Pulls.{after_pull}
use Rattle.ps_world.specs.Step.{Opens, Replays, Steps, breaks, settles}
use Rattle.ps_world.specs.Updates.{FillsAt, TurnsAt, Updates, given_at, no_update, one_fill, one_update, updated}
use Rattle.ps_world.specs.World.{Node, Pipe, Record, World, finished, claimed, closed, ended, flat, handed_in, has_next, heads_of, inputs_done, morsel_at, opened, pulled, rows_in_order, schemas_for, shape_of}
use Rattle.world_claims.proofs.ReachedFacts.{known_step}
use Rattle.world_claims.proofs.WholeLaw.{facts_law}
use Rattle.world_claims.specs.Numbering.{Known}
use Rattle.world_facts.proofs.CutOff.{both_true}
use Rattle.world_laws.proofs.Answered.{in_shape}
use Rattle.world_laws.proofs.PassingPorts.{same_number, was_kept}
use Rattle.world_laws.proofs.InOrder.{contains_cases, none_in_nil}
use Rattle.family_pipes.proofs.Outputs.{drops_rest}
use Rattle.ps_turns.specs.Tasks.{Piece}
use Rattle.world_laws.proofs.Shapes.{step_keeps, updates_keep as shapes_kept}
use Rattle.family_fronts.proofs.FrontsLaw.{multiplexers_justified}
use Rattle.family_pipes.proofs.Begins.{begins}
use Rattle.family_pipes.proofs.Complete.{complete, whole}
use Rattle.family_pipes.proofs.Sent.{node_of}
use Rattle.family_pipes.proofs.SourceSteps.{same_node}
use Rattle.family_keeps.proofs.Done.{DoneFits, StaysOver, done_on, wire_joins}
use Rattle.family_keeps.proofs.SinkLaw.{pipes_hold}
use Rattle.family_keeps.proofs.Turns.{turn_leaves}
use Rattle.orderly_worlds.proofs.Goes.{Goes, GoesOn, IsTakenBy, IsTakenOf, NoneTaken, answer_goes, claim_goes, close_goes, end_goes, pull_goes}
use Rattle.orderly_worlds.proofs.Orderly.{Orderly}
use Rattle.orderly_worlds.proofs.Reaching.{Marked, MarkedFrom, fill_orderly, filled_is, fresh_orderly, fresh_reached, opens_mark, orderly_reached, orderly_step, reached_more, still_shut, update_orderly, updates_orderly}
use Rattle.orderly_worlds.proofs.Turned.{turned, updated_is}
use Rattle.zip_laws.proofs.PortPipes.{AllSame, PortsGo, answer_ports, claim_ports, close_ports, as_ports, end_ports, none_more, pull_other, pull_own}
use Rattle.zip_laws.proofs.PortSteps.{done_keeps, filled, mux_turns, ports_pull, ports_still}
use Rattle.world_families.specs.Holds.{Holds, HoldsOfKind}
use Rattle.world_families.specs.Onward.{HoldsPorts}
use Rattle.world_families.specs.Work.{Enters, IsComplete, Leaves}

-- it has no piece out
abbrev pub NoPiece : World → ℕ → Type 0
NoPiece w n = (q : Piece) → Contains w.outs q → q.node ≡ n → ⊥

abbrev KeepsMux : World → ℕ → Type 0
KeepsMux w n = DoneFits w n × HoldsPorts w n × NoPiece w n

none_slot : (x : Pipe) → NoneTaken x → (rs : List Row) × (slice_get x.got x.next ≡ Some (Some rs))
none_slot x t = absurd t

module _ (F : Functions) (n : ℕ) where
  abbrev KeepsAt : World → Type 0
  KeepsAt w = (node : Node) → slice_get w.nodes n ≡ Some node → node.node.kind ≡ multiplexer → KeepsMux w n

  was : (w v : World) → shape_of v ≡ shape_of w → (y : Node) → slice_get v.nodes n ≡ Some y → y.node.kind ≡ multiplexer → (x : Node) × (slice_get w.nodes n ≡ Some x) × (x.node.kind ≡ multiplexer)
  was w v shape y at k =
      let x = node_of w n y.node (ap (λ ps. slice_get ps n) (sym shape) ∙ in_shape v n y at) in
      (x.0, x.1, ap (λ (p : PhysicalNode). p.kind) x.2 ∙ k)

  -- A STEP OF A PHASE
  module _ (w v : World) (o : Orderly F w) (kv : Known F v) (begun : w.is_open ≡ true) (shape : shape_of v ≡ shape_of w) (node : Node) (there : slice_get w.nodes n ≡ Some node) (is_one : node.node.kind ≡ multiplexer) where
    mux : is_multiplexer node.node.kind ≡ true
    mux = ap is_multiplexer is_one

    -- nothing is taken of its input
    quiet : (Takes Musts : Pipe → Type 0) → ((x : Pipe) → Takes x → (rs : List Row) × (slice_get x.got x.next ≡ Some (Some rs))) → GoesOn Takes Musts w v → ((q x : Pipe) → Enters w n x → Goes Takes Musts x q → q.next ≡ x.next) → PortsGo none_more w v n → ((q : Piece) → Contains v.outs q → q.node ≡ n → Contains w.outs q) → KeepsMux w n → KeepsMux v n
    quiet Takes Musts some g still ports outs h =
        (done_keeps F w v n node o kv begun shape there is_one Takes Musts some g h.0, ports_still F w v n node o kv begun shape there is_one Takes Musts some g still ports h.1, λ q c e. h.2 q (outs q c e) e)

    none_next : (Takes Musts : Pipe → Type 0) (q x : Pipe) → (Takes x → ⊥) → Goes Takes Musts x q → q.next ≡ x.next
    none_next Takes Musts q x never go = by go.next
      where
        by : (q.next ≡ x.next) ⊎ (q.next ≡ suc x.next) × Takes x → q.next ≡ x.next
        by (inl same) = same
        by (inr (more, t)) = absurd (never t)

    -- of another node's input
    other_taken : (m i : ℕ) → n ≢ m → (x : Pipe) → Enters w n x → IsTakenOf m i x → ⊥
    other_taken m i apart x e t = apart (sym e.1 ∙ same_number x.wire.receiver m (both_true (nat_eq x.wire.receiver m) (nat_eq x.wire.input i) t.0).0)

    -- a multiplexer claims nothing
    no_claim : (i : ℕ) (c : Claim) → claim_at w n i node ≡ Some c → ⊥
    no_claim i c e = nothing_is c ((λ j. claim_by w.options node.node (schemas_for w node) (sym is_one j) node.progress (heads_of w n node) (inputs_done w n) i (next_morsel (inputs_in_phase w n i))) ∙ e)

  opened_of : (b c : Bool) → (b && c) ≡ true → b ≡ true
  opened_of true c e = refl
  opened_of false c e = e

  slot_of : (m i : ℕ) (x : Pipe) → IsTakenOf m i x → (rs : List Row) × (slice_get x.got x.next ≡ Some (Some rs))
  slot_of m i x t = t.1

  claim_keeps : (w : World) (m i worker : ℕ) (other : Node) (c : Claim) → Orderly F w → Known F (after_claim w m i worker other c) → shape_of (after_claim w m i worker other c) ≡ shape_of w → slice_get w.nodes m ≡ Some other → (w.is_open && (other.in_phase && not other.is_closed)) ≡ true → claim_at w m i other ≡ Some c
      → KeepsAt w → KeepsAt (after_claim w m i worker other c)
  claim_keeps w m i worker other c o kv shape at on is h y at_y k =
      let v = after_claim w m i worker other c in
      let x = was w v shape y at_y k in
      by x.0 x.1 x.2 (cases_eq n m)
    where
      not_new : (q : Piece) → n ≢ m → q.node ≡ n → (piece_of m i worker c ≡ q) ⊎ Contains w.outs q → Contains w.outs q
      not_new q apart e (inl new) = absurd (apart (sym (ap (λ (z : Piece). z.node) new ∙ e)))
      not_new q apart e (inr old) = old

      by : (x : Node) → slice_get w.nodes n ≡ Some x → x.node.kind ≡ multiplexer → (n ≡ m) ⊎ (n ≢ m) → KeepsMux (after_claim w m i worker other c) n
      by x there is_one (inl here) =
          let same = same_node w n x other there (ap (slice_get w.nodes) here ∙ at) in
          absurd (no_claim w (after_claim w m i worker other c) o kv (opened_of w.is_open _ on) shape x there is_one i c ((λ j. claim_at w (here j) i (same j)) ∙ is))
      by x there is_one (inr apart) =
          quiet w (after_claim w m i worker other c) o kv (opened_of w.is_open _ on) shape x there is_one (IsTakenOf m i) (IsTakenBy m i c.takes_morsel) (slot_of m i) (claim_goes F w o.known m i worker other c at on is)
          (λ q z e go. none_next w (after_claim w m i worker other c) o kv (opened_of w.is_open _ on) shape x there is_one (IsTakenOf m i) (IsTakenBy m i c.takes_morsel) q z (other_taken w (after_claim w m i worker other c) o kv (opened_of w.is_open _ on) shape x there is_one m i apart z e) go)
          (as_ports w (after_claim w m i worker other c) n (claim_ports F w n x o.known there (ap is_multiplexer is_one) m i worker other c)) (λ q cq e. not_new q apart e (contains_cases (piece_of m i worker c) q w.outs (subst (λ qs. Contains qs q) (drops_rest (length (before_drops w m i worker other c).nodes) (before_drops w m i worker other c)).0 cq))) (h x there is_one)

  -- a step that takes nothing
  still_keeps : (w v : World) → Orderly F w → Known F v → w.is_open ≡ true → shape_of v ≡ shape_of w → GoesOn NoneTaken NoneTaken w v → ((x : Node) → slice_get w.nodes n ≡ Some x → x.node.kind ≡ multiplexer → AllSame w v n) → ((q : Piece) → Contains v.outs q → Contains w.outs q) → KeepsAt w → KeepsAt v
  still_keeps w v o kv begun shape g ports outs h y at k =
      let x = was w v shape y at k in
      quiet w v o kv begun shape x.0 x.1 x.2 NoneTaken NoneTaken none_slot g (λ q z e go. none_next w v o kv begun shape x.0 x.1 x.2 NoneTaken NoneTaken q z (λ t. t) go) (as_ports w v n (ports x.0 x.1 x.2)) (λ q c e. outs q c) (h x.0 x.1 x.2)

  pull_keeps : (w : World) (m i : ℕ) (other : Node) (p : Pipe) (rs : List Row) → Orderly F w → Known F (after_pull w m i other p rs) → w.is_open ≡ true → shape_of (after_pull w m i other p rs) ≡ shape_of w → slice_get w.nodes m ≡ Some other → Contains w.pipes p → (is_input m i p && p.in_phase) ≡ true → has_next p ≡ true → morsel_at p.next p.got ≡ Some rs
      → KeepsAt w → KeepsAt (after_pull w m i other p rs)
  pull_keeps w m i other p rs o kv begun shape at cp input has is h y at_y k =
      let x = was w (after_pull w m i other p rs) shape y at_y k in
      by x.0 x.1 x.2 (cases_eq n m)
    where
      goes : GoesOn (IsTakenOf m i) (IsTakenBy m i true) w (after_pull w m i other p rs)
      goes = pull_goes F w o.known m i other p rs cp input has

      at_input : (p.wire.receiver ≡ m) × (p.wire.input ≡ i)
      at_input = let a = both_true (nat_eq p.wire.receiver m) (nat_eq p.wire.input i) (both_true (is_input m i p) p.in_phase input).0 in (same_number p.wire.receiver m a.0, same_number p.wire.input i a.1)

      slot_is : (o : Option (Option (List Row))) → flat o ≡ Some rs → o ≡ Some (Some rs)
      slot_is None e = absurd (nothing_is rs e)
      slot_is (Some slot) e = ap Some e

      by : (x : Node) → slice_get w.nodes n ≡ Some x → x.node.kind ≡ multiplexer → (n ≡ m) ⊎ (n ≢ m) → KeepsMux (after_pull w m i other p rs) n
      by x there is_one (inr apart) =
          quiet w (after_pull w m i other p rs) o kv begun shape x there is_one (IsTakenOf m i) (IsTakenBy m i true) (slot_of m i) goes
          (λ q z e go. none_next w (after_pull w m i other p rs) o kv begun shape x there is_one (IsTakenOf m i) (IsTakenBy m i true) q z (other_taken w (after_pull w m i other p rs) o kv begun shape x there is_one m i apart z e) go)
          (pull_other F w n x o.known there (ap is_multiplexer is_one) m i other p rs apart) (λ q c e. c) (h x there is_one)
      by x there is_one (inl here) =
          let same = same_node w n x other there (ap (slice_get w.nodes) here ∙ at) in
          let old = h x there is_one in (
            done_keeps F w (after_pull w m i other p rs) n x o kv begun shape there is_one (IsTakenOf m i) (IsTakenBy m i true) (slot_of m i) goes old.0,
            ports_pull F w (after_pull w m i other p rs) n x o kv begun shape there is_one (IsTakenOf m i) (IsTakenBy m i true) (slot_of m i) goes m i other p rs (cp, at_input.0 ∙ sym here) (slot_is (slice_get p.got p.next) is) (λ q go. go.surely (refl, (both_true (is_input m i p) p.in_phase input).0))
                (pull_own F w n x o.known there (ap is_multiplexer is_one) m i other p rs here (ap (λ (z : Node). is_multiplexer z.node.kind) (sym same) ∙ ap is_multiplexer is_one)) old.1,
            old.2,
          )

  -- WHILE ALL PIPES STAY
  same_keeps : (w v : World) → Known F w → Known F v → MarkedFrom w v → v.outs ≡ w.outs → shape_of v ≡ shape_of w → KeepsAt w → KeepsAt v
  same_keeps w v kw kv g outs shape h y at k =
      let x = was w v shape y at k in
      let old = h x.0 x.1 x.2 in (
        done_on F w v kw kv shape (λ p c. let z = g p c in (z.0, z.1, record { joins = wire_joins z.0 p z.2.wire; dropped = λ d. z.2.dropped ∙ d; received = λ d. ap (λ (u : Wire). is_done u.receive_state) z.2.wire ∙ d })) n (never x.0 x.1 x.2)
            (λ p c d. let z = g p c.0 in (z.0, (z.1, ap (λ (u : Wire). u.receiver) (sym z.2.wire) ∙ c.1), ap (λ (u : Wire). is_done u.receive_state) (sym z.2.wire) ∙ d, λ is. onward z.0 p z.2 is)) old.0,
        record {
          fronts = λ p q l e. front p q (g p l.0) (g q e.0) l e old.1;
          open_ports = λ p q l e on.
              let a = g p l.0 in
              let b = g q e.0 in
              a.2.got ∙ old.1.open_ports a.0 b.0 (a.1, ap (λ (u : Wire). u.sender) (sym a.2.wire) ∙ l.1) (b.1, ap (λ (u : Wire). u.receiver) (sym b.2.wire) ∙ e.1) ((λ j. is_done (sym a.2.wire j).receive_state || sym a.2.dropped j) ∙ on) ∙ sym (λ j. take (b.2.next j) (b.2.got j));
        },
        λ q c e. old.2 q (subst (λ qs. Contains qs q) outs c) e,
      )
    where
      onward : (z p : Pipe) → Marked z p → IsComplete z → IsComplete p
      onward z p m c = let h = whole z c in complete p (record { done = ap (λ (u : Wire). is_done u.send_state) m.wire ∙ h.done; dropped = m.dropped ∙ h.dropped; unread = m.unread ∙ h.unread })

      back : (z p : Pipe) → Marked z p → IsComplete p → IsComplete z
      back z p m c = let h = whole p c in complete z (record { done = ap (λ (u : Wire). is_done u.send_state) (sym m.wire) ∙ h.done; dropped = sym m.dropped ∙ h.dropped; unread = sym m.unread ∙ h.unread })

      never : (x : Node) → slice_get w.nodes n ≡ Some x → x.node.kind ≡ multiplexer → StaysOver w v n
      never x there is_one z u at e over = let same = same_node w n z x at there in absurd (let no : false ≡ true = ap (λ k. is_over_slice k z.progress.booked) (sym (ap (λ (i : Node). i.node.kind) same ∙ is_one)) ∙ over in cc)

      front : (p q : Pipe) → (a : Pipe) × Contains w.pipes a × Marked a p → (b : Pipe) × Contains w.pipes b × Marked b q → Leaves v n p → Enters v n q → HoldsPorts w n → IsFrontOf (sent_by p) (sent_by q)
      front p q (a, ca, ma) (b, cb, mb) l e h =
          let f = h.fronts a b (ca, ap (λ (u : Wire). u.sender) (sym ma.wire) ∙ l.1) (cb, ap (λ (u : Wire). u.receiver) (sym mb.wire) ∙ e.1) in
          record { rest = f.rest; begins = (λ j. rows_in_order (ma.got j) ++ f.rest) ∙ f.begins ∙ ap rows_in_order (sym mb.got); all = λ c. let r = f.all (back a p ma c) in (r.0, onward b q mb r.1) }

  -- UPDATES AND FILLS
  turn_keeps : (w : World) (m : ℕ) (other : Node) (progress : Progress) → Orderly F w → w.is_open ≡ false → TurnsAt F w m other progress → KeepsAt w → KeepsAt (updated w m other progress)
  turn_keeps w m other progress o shut t h = subst KeepsAt (sym is) there
    where
      is : updated w m other progress ≡ turned w m other progress t.0
      is = updated_is w m other progress t.0

      kv : Known F (turned w m other progress t.0)
      kv = subst (Known F) is ((facts_law F).at_update w (updated w m other progress) o.known shut (one_update m other progress t no_update))

      shape : shape_of (turned w m other progress t.0) ≡ shape_of w
      shape = ap shape_of (sym is) ∙ shapes_kept F w (updated w m other progress) (one_update m other progress t no_update)

      there : KeepsAt (turned w m other progress t.0)
      there y at k =
          let x = was w (turned w m other progress t.0) shape y at k in
          let old = h x.0 x.1 x.2 in
          let r = mux_turns F w m other progress o shut t.0 (turn_leaves F w.options other.node (schemas_for w other) (given_at w m) other.progress progress t.2).booked kv shape n x.0 x.1 x.2 old.0 old.1 in
          (r.0, r.1, old.2)

  unchanged : (w v : World) → v.pipes ≡ w.pipes → MarkedFrom w v
  unchanged w v pipes y c = (y, subst (λ ps. Contains ps y) pipes c, record { wire = refl; got = refl; next = refl; dropped = refl; unread = refl })

  fill_keeps : (w : World) (m : ℕ) (other : Node) (progress : Progress) → Orderly F w → w.is_open ≡ false → FillsAt F w m other progress → KeepsAt w → KeepsAt (with_progress m progress w)
  fill_keeps w m other progress o shut t h =
      let v = with_progress m progress w in
      same_keeps w v o.known ((facts_law F).at_update w v o.known shut (one_fill m other progress t no_update)) (unchanged w v (ap (λ (x : World). x.pipes) (filled_is F w m other progress t.0))) (ap (λ (x : World). x.outs) (filled_is F w m other progress t.0)) (shapes_kept F w v (one_fill m other progress t no_update)) h

  updates_keep : (w s : World) → Orderly F w → w.is_open ≡ false → Updates F w s → KeepsAt w → KeepsAt s
  updates_keep w s o shut no_update h = h
  updates_keep w s o shut (one_update m other progress t u) h = updates_keep (updated w m other progress) s (update_orderly F w m other progress o shut t) (still_shut F w (updated w m other progress) o shut (one_update m other progress t no_update)) u (turn_keeps w m other progress o shut t h)
  updates_keep w s o shut (one_fill m other progress t u) h = updates_keep (with_progress m progress w) s (fill_orderly F w m other progress o shut t) (still_shut F w (with_progress m progress w) o shut (one_fill m other progress t no_update)) u (fill_keeps w m other progress o shut t h)

  opens_outs : (s v : World) (phase : ℕ) → Opens F s phase v → v.outs ≡ s.outs
  opens_outs s v phase (breaks m c f e) = ap (λ (x : World). x.outs) e
  opens_outs s v phase (settles rest e) = ap (λ (x : World). x.outs) e ∙ by (is_empty (blockers_in s))
    where
      by : (b : Bool) → (cond b (record s { ending = finished }) (with_phase s)).outs ≡ s.outs
      by true = refl
      by false = refl

  -- EVERY STEP
  keeps_step : (w v : World) (r : Record) → Orderly F w → Steps F w r v → KeepsAt w → KeepsAt v
  keeps_step w v (opened phase) o s h =
      let u = updates_keep w s.3.0 o s.0 s.3.1 h in
      let ou = updates_orderly F w s.3.0 o s.0 s.3.1 in
      same_keeps s.3.0 v ou.known (known_step F w v (opened phase) o.known s) (opens_mark F s.3.0 v phase s.3.2) (opens_outs s.3.0 v phase s.3.2) (step_keeps F w v (opened phase) s ∙ sym (shapes_kept F w s.3.0 s.3.1)) u
  keeps_step w v (claimed m i number worker) o s h =
      let is = s.5.3 in
      subst KeepsAt (sym is)
      (claim_keeps w m i worker s.0 s.5.0 o (subst (Known F) is (known_step F w v (claimed m i number worker) o.known s)) (ap shape_of (sym is) ∙ step_keeps F w v (claimed m i number worker) s) s.1.0 s.1.1 s.5.1 h)
  keeps_step w v (handed_in m i number worker handed) o s h =
      let is = s.7.3 in
      subst KeepsAt (sym is)
      (still_keeps w (answered w s.0 s.7.0) o (subst (Known F) is (known_step F w v (handed_in m i number worker handed) o.known s)) ((facts_law F).pieces_open w s.0 o.known s.1) (ap shape_of (sym is) ∙ step_keeps F w v (handed_in m i number worker handed) s) (answer_goes F w o.known s.0 s.1 s.7.0 s.7.1)
      (λ x there is_one. answer_ports F w n x o.known there (ap is_multiplexer is_one) (filled F w n x o.known there is_one (h x there is_one).1) s.0 s.7.0 s.1 s.7.1) (λ q c. (was_kept (λ (x : Piece). not (nat_eq x.worker s.0.worker)) q w.outs c).0) h)
  keeps_step w v (pulled m i number) o s h =
      let is = s.4.8 in
      subst KeepsAt (sym is)
      (pull_keeps w m i s.0 s.4.0 s.4.1 o (subst (Known F) is (known_step F w v (pulled m i number) o.known s)) (opened_of w.is_open _ s.1.1) (ap shape_of (sym is) ∙ step_keeps F w v (pulled m i number) s) s.1.0 s.4.2 s.4.3 s.4.4 s.4.5 h)
  keeps_step w v (closed m) o s h =
      let is = s.4 in
      subst KeepsAt (sym is)
      (still_keeps w (after_close w m s.0) o (subst (Known F) is (known_step F w v (closed m) o.known s)) (opened_of w.is_open _ s.1.1) (ap shape_of (sym is) ∙ step_keeps F w v (closed m) s) (close_goes F w o.known m s.0) (λ x there is_one. close_ports F w n x o.known there (ap is_multiplexer is_one) m s.0) (λ q c. c) h)
  keeps_step w v (ended phase) o s h =
      let is = s.4 in
      subst KeepsAt (sym is)
      (still_keeps w (after_end w) o (subst (Known F) is (known_step F w v (ended phase) o.known s)) s.0 (ap shape_of (sym is) ∙ step_keeps F w v (ended phase) s) (end_goes F w o.known) (λ x there is_one. end_ports F w n x o.known there (ap is_multiplexer is_one)) (λ q c. c) h)

  keeps_run : (shape : Shape) (o : Options) (w v : World) (rs : List Record) → IsSound F shape → Reaches F shape o w → Orderly F w → Replays F w rs v → KeepsAt w → KeepsAt v
  keeps_run shape o w v [] sound r k e h = subst KeepsAt (sym e) h
  keeps_run shape o w v (j ∷ js) sound r k s h = keeps_run shape o s.0 v js sound (reached_more F shape o w s.0 j r s.1) (orderly_step F w s.0 j k s.1) s.2 (keeps_step w s.0 j k s.1 h)

  fresh_keeps : (shape : Shape) (o : Options) → IsSound F shape → KeepsAt (opening shape o)
  fresh_keeps shape o sound node at is = let b = begins F shape o n node at in (λ q c d. b.pipes.done q c d, subst (HoldsOfKind F (opening shape o) n node) is b.own, λ q c e. none_in_nil q c)

  keeps_reached : (shape : Shape) (o : Options) (w : World) → IsSound F shape → Reaches F shape o w → KeepsAt w
  keeps_reached shape o w sound r = keeps_run shape o (opening shape o) w r.0 sound (fresh_reached F shape o) (fresh_orderly F shape o sound) r.1 (fresh_keeps shape o sound)

pub multiplexers_hold : (F : Functions) (shape : Shape) (o : Options) (w : World) (n : ℕ) (p : PhysicalNode) → IsSound F shape → Reaches F shape o w → slice_get (shape_of w) n ≡ Some p → p.kind ≡ multiplexer → Holds F w n
multiplexers_hold F shape o w n p sound r e is node at =
    let q : Some node.node ≡ Some p = sym (in_shape w n node at) ∙ e in
    let same : node.node ≡ p = cc in
    let kind : node.node.kind ≡ multiplexer = ap (λ (x : PhysicalNode). x.kind) same ∙ is in
    let k = keeps_reached F n shape o w sound r node at kind in
    record { pipes = pipes_hold F w n (orderly_reached F shape o w sound r) k.0; own = subst (HoldsOfKind F w n node) (sym kind) k.1 }

-- It has no piece out.
pub multiplexers_have_no_piece : (F : Functions) (shape : Shape) (o : Options) (w : World) (n : ℕ) (node : Node) → IsSound F shape → Reaches F shape o w → slice_get w.nodes n ≡ Some node → node.node.kind ≡ multiplexer → (q : Piece) → Contains w.outs q → q.node ≡ n → ⊥
multiplexers_have_no_piece F shape o w n node sound r at is = (keeps_reached F n shape o w sound r node at is).2

-- So what a multiplexer has sent begins a table that it may give.
pub multiplexers_are_justified : (F : Functions) (shape : Shape) (o : Options) (w : World) (n : ℕ) (p : PhysicalNode) → IsSound F shape → Reaches F shape o w → slice_get (shape_of w) n ≡ Some p → p.kind ≡ multiplexer → Justified F p (input_schemas (shape_of w) p) (sent_to (sent_at w) p) (sent_at w n)
multiplexers_are_justified F shape o w n p sound r e is = multiplexers_justified F w n p (orderly_reached F shape o w sound r).known e is (multiplexers_hold F shape o w n p sound r e is)
