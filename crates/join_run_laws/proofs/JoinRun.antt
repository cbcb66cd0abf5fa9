-- What is kept of an equi join holds in every reached world.
use Rattle.std.proofs.Common.{◌≡◌, ◌≢◌, ℕ, zero, suc, ◌⊎◌, Bool, true, false, List, [], ◌∷◌, ◌++◌, None, Some, refl, sym, ap, subst, ◌∙◌, inl, inr}
use Rattle.std.specs.Prelude.{Contains, cond, map, slice_get, slice_set, ◌&&◌}
use Rattle.std.proofs.lemmas.Bool.{cases_eq}
use Rattle.ps_frame.specs.Causes.{is_empty}
use Rattle.ps_frame.specs.Functions.{Functions}
use Rattle.ps_meaning.specs.Shape.{PhysicalNode, Shape, equi_join}
use Rattle.ps_meaning.specs.Sound.{IsSound}
use Rattle.ps_meaning.specs.Steps.{JoinStep}
use Rattle.ps_options.specs.declared.options.Options.{Options}
use Rattle.ps_ports.specs.Ports.{is_done}
use Rattle.ps_ports.specs.Wires.{Wire}
use Rattle.ps_turns.specs.Progress.{Progress, is_multiplexer, is_spent}
use Rattle.ps_turns.specs.Updates.{Turns, is_waiting}
use Rattle.ps_world.specs.Facts.{is_over_slice}
use Rattle.ps_world.specs.Opening.{Reaches, fresh_node, opening}
use Rattle.ps_world.specs.Phases.{after_open, blockers_in, with_phase}
use Rattle.ps_world.specs.Pipes.{with_progress}
use Rattle.ps_world.specs.Promises.{within_phase}
use Rattle.ps_world.specs.Step.{Opens, Replays, Steps, breaks, settles}
use Rattle.ps_world.specs.Updates.{FillsAt, TurnsAt, Updates, given_at, no_update, one_fill, one_update, updated}
use Rattle.ps_world.specs.World.{Node, Record, World, claimed, closed, ended, finished, handed_in, opened, pulled, running, schemas_for, shape_of}
use Rattle.world_claims.proofs.Beside.{Before}
use Rattle.world_claims.proofs.ReachedFacts.{known_step}
use Rattle.world_claims.proofs.WholeLaw.{facts_law}
use Rattle.world_claims.specs.Numbering.{Known}
use Rattle.world_facts.proofs.Slots.{set_here, set_other}
use Rattle.world_laws.proofs.Answered.{in_shape}
use Rattle.world_laws.proofs.Shapes.{step_keeps, updates_keep as shapes_kept}
use Rattle.world_families.specs.Holds.{HoldsOfKind}
use Rattle.family_keeps.proofs.Done.{DoneFits, StaysOver, done_on, done_step, done_turned, wire_joins}
use Rattle.family_keeps.proofs.Turns.{turn_leaves}
use Rattle.family_fronts.proofs.SourceLaw.{from_single}
use Rattle.family_pipes.proofs.Begins.{begins}
use Rattle.family_pipes.proofs.Complete.{complete, whole}
use Rattle.family_pipes.proofs.Sent.{node_of}
use Rattle.family_pipes.proofs.SourceSteps.{same_node}
use Rattle.join_run_laws.proofs.JoinInputs.{JoinAt, join_at}
use Rattle.join_run_laws.proofs.JoinKept.{JoinSeen, join_beside, join_opens, keeps_step}
use Rattle.join_run_laws.proofs.JoinSees.{end_sees, steps_seen}
use Rattle.join_run_laws.proofs.JoinTurns.{KeepsJoin, join_done, join_turned}
use Rattle.join_run_laws.proofs.SameProgress.{Same, as_it_was, phase_same}
use Rattle.orderly_worlds.proofs.Orderly.{Orderly}
use Rattle.orderly_worlds.proofs.Reaching.{MarkedFrom, fill_orderly, filled_is, fresh_orderly, fresh_reached, open_marks, orderly_step, reached_more, still_shut, update_orderly, updates_orderly}
use Rattle.orderly_worlds.proofs.Seen.{Seen, end_seen, step_seen}
use Rattle.orderly_worlds.proofs.Stands.{zips}
use Rattle.orderly_worlds.proofs.Turned.{turned, updated_is}

module _ (F : Functions) (n : ℕ) where
  pub record KeepsNode (w : World) (node : Node) (j : JoinStep) : Type 0 where
    pub done : DoneFits w n
    pub own : KeepsJoin F w n node j

  abbrev pub KeepsAt : World → Type 0
  KeepsAt w = (node : Node) (j : JoinStep) → slice_get w.nodes n ≡ Some node → node.node.kind ≡ equi_join j → KeepsNode w node j

  -- the node of a world of the same shape
  was : (w v : World) → shape_of v ≡ shape_of w → (y : Node) (j : JoinStep) → slice_get v.nodes n ≡ Some y → y.node.kind ≡ equi_join j → (x : Node) × (slice_get w.nodes n ≡ Some x) × (x.node.kind ≡ equi_join j)
  was w v shape y j at k =
      let x = node_of w n y.node (ap (λ ps. slice_get ps n) (sym shape) ∙ in_shape v n y at) in
      (x.0, x.1, ap (λ (p : PhysicalNode). p.kind) x.2 ∙ k)

  join_of : (w : World) (node : Node) (j : JoinStep) → Known F w → slice_get w.nodes n ≡ Some node → node.node.kind ≡ equi_join j → JoinAt F w n node j
  join_of w node j known at k = join_at F w n node j known at (in_shape w n node at) k

  -- A STEP OF A PHASE
  by_step : (w v : World) (r : Record) → within_phase r ≡ true → w.is_open ≡ true → Orderly F w → Steps F w r v → KeepsAt w → KeepsAt v
  by_step w v r within begun o s h y j at k =
      let kv = known_step F w v r o.known s in
      let shape = step_keeps F w v r s in
      let x = was w v shape y j at k in
      let old = h x.0 j x.1 x.2 in
      let seen = steps_seen F w n x.0 j o.known begun x.1 x.2 old.own.holds old.done v r within s y at in
      record {
        done = done_step F w v n x.0 o kv begun shape x.1 (step_seen F w n x.0 o.known x.1 (ap is_multiplexer x.2) v r within s) old.done;
        own = keeps_step F w v n x.0 y j o kv begun shape x.1 x.2 seen.0 (join_of w x.0 j o.known x.1 x.2) (join_of v y j kv at k) seen.1 old.own;
      }

  abbrev SeesAt : World → Node → World → Type 0
  SeesAt w x z = (y : Node) → slice_get z.nodes n ≡ Some y → (y.node ≡ x.node) × JoinSeen F w z n x y

  by_end : (w v : World) (phase : ℕ) → Orderly F w → Steps F w (ended phase) v → KeepsAt w → KeepsAt v
  by_end w v phase o s h y j at k =
      let kv = known_step F w v (ended phase) o.known s in
      let shape = step_keeps F w v (ended phase) s in
      let x = was w v shape y j at k in
      let old = h x.0 j x.1 x.2 in
      let seen = subst (SeesAt w x.0) (sym s.4) (end_sees F w n x.0 j o.known s.0 x.1 x.2 old.own.holds old.done s.1) y at in
      record {
        done = done_step F w v n x.0 o kv s.0 shape x.1 (subst (λ z. Seen F w z n x.0) (sym s.4) (end_seen F w n x.0 o.known x.1 (ap is_multiplexer x.2))) old.done;
        own = keeps_step F w v n x.0 y j o kv s.0 shape x.1 x.2 seen.0 (join_of w x.0 j o.known x.1 x.2) (join_of v y j kv at k) seen.1 old.own;
      }

  -- a join is no slice
  never_over : (w v : World) (x : Node) (j : JoinStep) → slice_get w.nodes n ≡ Some x → x.node.kind ≡ equi_join j → StaysOver w v n
  never_over w v x j at k a b ea eb over =
      let is = same_node w n a x ea at in
      absurd (let no : false ≡ true = sym (ap (λ (z : Node). is_over_slice z.node.kind z.progress.booked) is ∙ ap (λ q. is_over_slice q x.progress.booked) k) ∙ over in cc)

  -- WHILE THE PIPES SAY THE SAME
  before_same : (w v : World) (x y : Node) (j : JoinStep) → slice_get w.nodes n ≡ Some x → x.node.kind ≡ equi_join j → Before Same w.nodes n y → (y.node ≡ x.node) × (y.progress ≡ x.progress)
  before_same w v x y j at k (z, there, s) =
      let is = same_node w n z x there at in
      (s.node ∙ ap (λ (u : Node). u.node) is, s.progress (ap (λ (u : Node). zips u.node.kind) is ∙ ap zips k) ∙ ap (λ (u : Node). u.progress) is)

  marks_keep : (w v : World) → Known F w → Known F v → shape_of v ≡ shape_of w → MarkedFrom w v → v.outs ≡ w.outs → w.ending ≡ running → ((y : Node) → slice_get v.nodes n ≡ Some y → Before Same w.nodes n y) → KeepsAt w → KeepsAt v
  marks_keep w v kw kv shape g outs runs nodes h y j at k =
      let x = was w v shape y j at k in
      let old = h x.0 j x.1 x.2 in
      let b = before_same w v x.0 y j x.1 x.2 (nodes y at) in
      record {
        done =
            done_on F w v kw kv shape (λ p c. let z = g p c in (z.0, z.1, record { joins = wire_joins z.0 p z.2.wire; dropped = λ d. z.2.dropped ∙ d; received = λ d. ap (λ (u : Wire). is_done u.receive_state) z.2.wire ∙ d })) n (never_over w v x.0 j x.1 x.2)
            (λ p c d.
            let z = g p c.0 in (
              z.0,
              (z.1, ap (λ (u : Wire). u.receiver) (sym z.2.wire) ∙ c.1),
              ap (λ (u : Wire). is_done u.receive_state) (sym z.2.wire) ∙ d,
              λ is.
                  let a = whole z.0 is in
                  complete p (record { done = ap (λ (u : Wire). is_done u.send_state) z.2.wire ∙ a.done; dropped = z.2.dropped ∙ a.dropped; unread = z.2.unread ∙ a.unread }),
            )) old.done;
        own = join_opens F w v n x.0 y j kw kv shape b.0 (join_of w x.0 j kw x.1 x.2) (join_of v y j kv at k) g outs (λ e. runs) b.1 old.own;
      }

  same_pipes : (w v : World) → v.pipes ≡ w.pipes → MarkedFrom w v
  same_pipes w v e y c = (y, subst (λ ps. Contains ps y) e c, record { wire = refl; got = refl; next = refl; dropped = refl; unread = refl })

  -- ITS OWN UPDATE
  turn_here : (w : World) (other : Node) (progress : Progress) → Orderly F w → w.is_open ≡ false → w.ending ≡ running → (at : slice_get w.nodes n ≡ Some other) → Turns F w.options other.node (schemas_for w other) (given_at w n) other.progress progress
      → Known F (turned w n other progress at) → shape_of (turned w n other progress at) ≡ shape_of w → KeepsAt w → KeepsAt (turned w n other progress at)
  turn_here w other progress o shut runs at t kv shape h y j aty k = subst (λ z. KeepsNode (turned w n other progress at) z j) is here
    where
      new_at : slice_get (turned w n other progress at).nodes n ≡ Some (record other { progress = progress })
      new_at = set_here w.nodes n other (record other { progress = progress }) at

      is : record other { progress = progress } ≡ y
      is = let q : Some (record other { progress = progress }) ≡ Some y = sym new_at ∙ aty in cc

      kind : other.node.kind ≡ equi_join j
      kind = ap (λ (z : Node). z.node.kind) is ∙ k

      booked : progress.booked ≡ other.progress.booked
      booked = (turn_leaves F w.options other.node (schemas_for w other) (given_at w n) other.progress progress t).booked

      X : JoinAt F w n other j
      X = join_of w other j o.known at kind

      Y : JoinAt F (turned w n other progress at) n (record other { progress = progress }) j
      Y = join_of (turned w n other progress at) (record other { progress = progress }) j kv new_at kind

      here : KeepsNode (turned w n other progress at) (record other { progress = progress }) j
      here =
          let old = h other j at kind in
          record {
            done = join_done F w n other j o shut runs at kind progress t kv shape X Y old.done booked old.own;
            own = join_turned F w n other j o shut runs at kind progress t kv shape X Y old.done booked old.own;
          }

  -- ANOTHER NODE'S
  turn_beside : (w : World) (m : ℕ) (other : Node) (progress : Progress) → n ≢ m → Orderly F w → w.is_open ≡ false → (at : slice_get w.nodes m ≡ Some other) → progress.booked ≡ other.progress.booked
      → Known F (turned w m other progress at) → shape_of (turned w m other progress at) ≡ shape_of w → KeepsAt w → KeepsAt (turned w m other progress at)
  turn_beside w m other progress apart o shut at booked kv shape h y j aty k =
      let before : slice_get w.nodes n ≡ Some y = sym (set_other w.nodes m n (record other { progress = progress }) apart) ∙ aty in
      let old = h y j before k in
      record {
        done =
            done_turned F w m other progress o shut at booked kv shape n old.done (λ here. absurd (apart here))
            (λ p r l q. o.known.facts.one_output p r l.0 q.0 (l.1 ∙ sym q.1) (from_single w n y p before (ap is_multiplexer k) l.1));
        own = join_beside F w m other progress o shut at n apart y y j kv shape refl (join_of w y j o.known before k) (join_of (turned w m other progress at) y j kv aty k) refl old.own;
      }

  turn_keeps : (w : World) (m : ℕ) (other : Node) (progress : Progress) → Orderly F w → w.is_open ≡ false → w.ending ≡ running → TurnsAt F w m other progress → KeepsAt w → KeepsAt (updated w m other progress)
  turn_keeps w m other progress o shut runs t h = subst KeepsAt (sym is) (by (cases_eq n m))
    where
      is : updated w m other progress ≡ turned w m other progress t.0
      is = updated_is w m other progress t.0

      kv : Known F (turned w m other progress t.0)
      kv = subst (Known F) is ((facts_law F).at_update w (updated w m other progress) o.known shut (one_update m other progress t no_update))

      shape : shape_of (turned w m other progress t.0) ≡ shape_of w
      shape = ap shape_of (sym is) ∙ shapes_kept F w (updated w m other progress) (one_update m other progress t no_update)

      Here : ℕ → Type 0
      Here k = (at : slice_get w.nodes k ≡ Some other) → Turns F w.options other.node (schemas_for w other) (given_at w k) other.progress progress → Known F (turned w k other progress at) → shape_of (turned w k other progress at) ≡ shape_of w → KeepsAt (turned w k other progress at)

      of_here : (e : n ≡ m) → Here m
      of_here e = subst Here e (λ at u kw sh. turn_here w other progress o shut runs at u kw sh h)

      by : (n ≡ m) ⊎ (n ≢ m) → KeepsAt (turned w m other progress t.0)
      by (inl e) = of_here e t.0 t.2 kv shape
      by (inr apart) = turn_beside w m other progress apart o shut t.0 (turn_leaves F w.options other.node (schemas_for w other) (given_at w m) other.progress progress t.2).booked kv shape h

  -- A FILL
  fill_keeps : (w : World) (m : ℕ) (other : Node) (progress : Progress) → Orderly F w → w.is_open ≡ false → w.ending ≡ running → FillsAt F w m other progress → KeepsAt w → KeepsAt (with_progress m progress w)
  fill_keeps w m other progress o shut runs t h y j at k = by (cases_eq n m)
    where
      is : with_progress m progress w ≡ record w { nodes = slice_set w.nodes m (record other { progress = progress }) }
      is = filled_is F w m other progress t.0

      there : slice_get (slice_set w.nodes m (record other { progress = progress })) n ≡ Some y
      there = ap (λ (x : World). slice_get x.nodes n) (sym is) ∙ at

      -- a join is never filled
      here : n ≡ m → ⊥
      here e =
          let new_at : slice_get (slice_set w.nodes m (record other { progress = progress })) n ≡ Some (record other { progress = progress }) = ap (slice_get (slice_set w.nodes m (record other { progress = progress }))) e ∙ set_here w.nodes m other (record other { progress = progress }) t.0 in
          let q : Some (record other { progress = progress }) ≡ Some y = sym new_at ∙ there in
          let same : record other { progress = progress } ≡ y = cc in
          let kind : other.node.kind ≡ equi_join j = ap (λ (z : Node). z.node.kind) same ∙ k in
          let never : false ≡ true = sym (ap (λ x. is_waiting x other.progress (given_at w m)) kind) ∙ t.1.0 in cc

      by : (n ≡ m) ⊎ (n ≢ m) → KeepsNode (with_progress m progress w) y j
      by (inl e) = absurd (here e)
      by (inr apart) =
          marks_keep w (with_progress m progress w) o.known ((facts_law F).at_update w (with_progress m progress w) o.known shut (one_fill m other progress t no_update)) (shapes_kept F w (with_progress m progress w) (one_fill m other progress t no_update))
          (same_pipes w (with_progress m progress w) (ap (λ (x : World). x.pipes) is)) (ap (λ (x : World). x.outs) is) runs
          (λ z e. (z, sym (set_other w.nodes m n (record other { progress = progress }) apart) ∙ ap (λ (x : World). slice_get x.nodes n) (sym is) ∙ e, as_it_was z)) h y j at k

  -- A LIST OF UPDATES
  updates_run : (w s : World) → Orderly F w → w.is_open ≡ false → w.ending ≡ running → Updates F w s → KeepsAt w → KeepsAt s × (s.ending ≡ running)
  updates_run w s o shut runs no_update h = (h, runs)
  updates_run w s o shut runs (one_update m other progress t u) h =
      updates_run (updated w m other progress) s (update_orderly F w m other progress o shut t) (still_shut F w (updated w m other progress) o shut (one_update m other progress t no_update)) (ap (λ (x : World). x.ending) (updated_is w m other progress t.0) ∙ runs) u (turn_keeps w m other progress o shut runs t h)
  updates_run w s o shut runs (one_fill m other progress t u) h =
      updates_run (with_progress m progress w) s (fill_orderly F w m other progress o shut t) (still_shut F w (with_progress m progress w) o shut (one_fill m other progress t no_update)) (ap (λ (x : World). x.ending) (filled_is F w m other progress t.0) ∙ runs) u (fill_keeps w m other progress o shut runs t h)

  -- AN OPEN
  opens_keep : (s v : World) (phase : ℕ) → Orderly F s → s.ending ≡ running → Known F v → shape_of v ≡ shape_of s → Opens F s phase v → KeepsAt s → KeepsAt v
  opens_keep s v phase o runs kv shape (breaks m c f e) h =
      marks_keep s v o.known kv shape (same_pipes s v (ap (λ (x : World). x.pipes) e)) (ap (λ (x : World). x.outs) e) runs (λ y at. (y, ap (λ (x : World). slice_get x.nodes n) (sym e) ∙ at, as_it_was y)) h
  opens_keep s v phase o runs kv shape (settles rest e) h = subst KeepsAt (sym e) (marks_keep s (after_open s phase) o.known (subst (Known F) e kv) (ap shape_of (sym e) ∙ shape) (open_marks s phase) (outs (is_empty (blockers_in s))) runs (nodes (is_empty (blockers_in s))) h)
    where
      outs : (b : Bool) → (record (cond {A = World} b (record s { ending = finished }) (with_phase s)) { phase = phase; journal = s.journal ++ opened phase ∷ [] }).outs ≡ s.outs
      outs true = refl
      outs false = refl

      nodes : (b : Bool) (y : Node) → slice_get (record (cond {A = World} b (record s { ending = finished }) (with_phase s)) { phase = phase; journal = s.journal ++ opened phase ∷ [] }).nodes n ≡ Some y → Before Same s.nodes n y
      nodes true y at = (y, at, as_it_was y)
      nodes false y at = phase_same s n y at

  -- EVERY STEP
  open_of : (b c : Bool) → (b && c) ≡ true → b ≡ true
  open_of true c e = refl
  open_of false c e = e

  step_run : (w v : World) (r : Record) → Orderly F w → Steps F w r v → KeepsAt w → KeepsAt v
  step_run w v (opened phase) o s h =
      let u = updates_run w s.3.0 o s.0 s.1 s.3.1 h in
      opens_keep s.3.0 v phase (updates_orderly F w s.3.0 o s.0 s.3.1) u.1 (known_step F w v (opened phase) o.known s) (step_keeps F w v (opened phase) s ∙ sym (shapes_kept F w s.3.0 s.3.1)) s.3.2 u.0
  step_run w v (claimed m i number worker) o s h = by_step w v (claimed m i number worker) refl (open_of w.is_open _ s.1.1) o s h
  step_run w v (handed_in m i number worker handed) o s h = by_step w v (handed_in m i number worker handed) refl ((facts_law F).pieces_open w s.0 o.known s.1) o s h
  step_run w v (pulled m i number) o s h = by_step w v (pulled m i number) refl (open_of w.is_open _ s.1.1) o s h
  step_run w v (closed m) o s h = by_step w v (closed m) refl (open_of w.is_open _ s.1.1) o s h
  step_run w v (ended phase) o s h = by_end w v phase o s h

  run_keeps : (shape : Shape) (o : Options) (w v : World) (rs : List Record) → IsSound F shape → Reaches F shape o w → Orderly F w → Replays F w rs v → KeepsAt w → KeepsAt v
  run_keeps shape o w v [] sound r k e h = subst KeepsAt (sym e) h
  run_keeps shape o w v (x ∷ xs) sound r k s h = run_keeps shape o s.0 v xs sound (reached_more F shape o w s.0 x r s.1) (orderly_step F w s.0 x k s.1) s.2 (step_run w s.0 x k s.1 h)

  -- AT THE OPENING
  fresh_stage : (shape : Shape) (i : ℕ) (node : Node) → slice_get (map fresh_node shape) i ≡ Some node → is_spent node.progress.stage ≡ false
  fresh_stage [] i node e = absurd (let none : None ≡ Some node = e in cc)
  fresh_stage (p ∷ ps) zero node e = let q : Some (fresh_node p) ≡ Some node = e in let is : fresh_node p ≡ node = cc in ap (λ (z : Node). is_spent z.progress.stage) (sym is)
  fresh_stage (p ∷ ps) (suc i) node e = fresh_stage ps i node e

  fresh_keeps : (shape : Shape) (o : Options) → KeepsAt (opening shape o)
  fresh_keeps shape o node j at k =
      let b = begins F shape o n node at in
      record {
        done = λ q c d. b.pipes.done q c d;
        own = record { holds = subst (HoldsOfKind F (opening shape o) n node) k b.own; spent_gave = λ t. absurd (let never : true ≡ false = sym t ∙ fresh_stage shape n node at in cc) };
      }

  pub joins_keep : (shape : Shape) (o : Options) (w : World) → IsSound F shape → Reaches F shape o w → KeepsAt w
  joins_keep shape o w sound r = run_keeps shape o (opening shape o) w r.0 sound (fresh_reached F shape o) (fresh_orderly F shape o sound) r.1 (fresh_keeps shape o)
