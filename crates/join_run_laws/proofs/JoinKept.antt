-- Along the steps of a phase, updates and Opens, an equi join keeps what is kept of it.
use Rattle.std.proofs.Common.{◌≡◌, ◌≢◌, ℕ, zero, suc, ◌⊎◌, Bool, true, false, List, [], ◌∷◌, Some, None, refl, sym, ap, ◌∙◌, inl, inr}
use Rattle.std.specs.Prelude.{Contains, IsTrue, cond, get_or, nat_eq, slice_get, ◌&&◌, ◌||◌}
use Rattle.ps_frame.specs.Functions.{Functions}
use Rattle.ps_frame.specs.Tables.{Row}
use Rattle.ps_meaning.specs.Joins.{fills_right}
use Rattle.ps_meaning.specs.Shape.{equi_join}
use Rattle.ps_meaning.specs.Steps.{JoinStep}
use Rattle.ps_ports.specs.Ports.{Sides, is_done, is_ready}
use Rattle.ps_ports.specs.Wires.{Wire}
use Rattle.ps_turns.specs.Claims.{Claim, Next, claim_by, filled_slot, of_join, of_last, of_left, of_morsel, owes_last, with_kept, with_slot}
use Rattle.ps_turns.specs.Progress.{Progress, Stage, giving, is_giving, is_spent, is_taking, spent, taking}
use Rattle.ps_turns.specs.Results.{IsResult}
use Rattle.ps_turns.specs.Tasks.{Piece, keeps, partial}
use Rattle.ps_world.specs.Claims.{claim_at, inputs_in_phase, next_morsel, piece_of}
use Rattle.ps_world.specs.Facts.{Joins, joins_of}
use Rattle.ps_world.specs.Updates.{sent}
use Rattle.ps_world.specs.World.{Node, Pipe, World, heads_of, inputs_done, running, schemas_for, shape_of}
use Rattle.world_claims.specs.Numbering.{Known}
use Rattle.world_laws.proofs.Agree.{from_map}
use Rattle.world_laws.proofs.PassingPorts.{same_number}
use Rattle.world_families.specs.Joins.{BuildsFirst, HoldsJoin}
use Rattle.world_families.specs.Keepers.{IsKeptOf}
use Rattle.world_families.specs.Work.{Enters, IsComplete, Leaves}
use Rattle.family_pipes.proofs.Complete.{complete, whole}
use Rattle.family_pipes.proofs.SourceSteps.{StepOf}
use Rattle.join_run_laws.proofs.JoinInputs.{JoinAt}
use Rattle.join_run_laws.proofs.JoinClaimed.{join_claim}
use Rattle.join_run_laws.proofs.JoinPartials.{OthersStay, join_keeps_partial, waits_not}
use Rattle.join_run_laws.proofs.JoinGoes.{InputGoes, given_on}
use Rattle.join_run_laws.proofs.JoinQuiet.{AllRest, Given, given_still, left_rests, quiet_join, right_rests, right_still}
use Rattle.join_run_laws.proofs.JoinStill.{OutsStay, join_still, left_on, one_of, right_goes_on}
use Rattle.join_run_laws.proofs.JoinTurns.{KeepsJoin}
use Rattle.orderly_worlds.proofs.Goes.{GoesOn, IsTakenBy, IsTakenOf, NoneTaken}
use Rattle.orderly_worlds.proofs.Orderly.{Orderly, complete_turned, newly, Newly}
use Rattle.orderly_worlds.proofs.Reaching.{Marked, MarkedFrom}
use Rattle.orderly_worlds.proofs.Seen.{OutsOrNew, OutsWere, TakenElsewhere}
use Rattle.orderly_worlds.proofs.Turned.{answer, turned, turned_from, turns, written_pipe}

second : (a b : Bool) → b ≡ true → (a || b) ≡ true
second true b e = refl
second false b e = e

or_on : (a b c d : Bool) → (a ≡ true → c ≡ true) → (b ≡ true → d ≡ true) → (a || b) ≡ true → (c || d) ≡ true
or_on true b c d f g e = ap (λ z. z || d) (f refl)
or_on false true c d f g e = second c d (g refl)
or_on false false c d f g e = absurd (let no : false ≡ true = e in cc)

-- A STEP OF AN OPEN PHASE, as the join sees it: what a step has to be seen as of a node that keeps partials.
pub data JoinSeen (F : Functions) (w v : World) (n : ℕ) (node y : Node) : Type 0 where
  stands_still : GoesOn (TakenElsewhere n) NoneTaken w v → StepOf F w v n node → y.progress ≡ node.progress → OutsWere w v n → OutsStay w v n → JoinSeen F w v n node y
  -- a join that gives and claims has a use for more: an input that it is done with was sent to its end
  claims : (i : ℕ) (c : Claim) → claim_at w n i node ≡ Some c → GoesOn (IsTakenOf n i) (IsTakenBy n i c.takes_morsel) w v → StepOf F w v n node → y.progress ≡ c.progress → OutsOrNew w v n i c → OutsStay w v n → (worker : ℕ) × Contains v.outs (piece_of n i worker c)
      → (IsTrue (is_giving node.progress.stage) → (q : Pipe) → Enters w n q → is_done q.wire.receive_state ≡ true → IsComplete q) → JoinSeen F w v n node y
  puts_in : (q : Piece) → Contains w.outs q → q.node ≡ n → IsKeptOf w n node 1 q → (size : ℕ) → IsResult F q (partial size) → GoesOn (TakenElsewhere n) NoneTaken w v → StepOf F w v n node
      → y.progress ≡ record node.progress { taken = filled_slot 1 q.number (get_or q.tables 0 []) node.progress.taken } → OutsWere w v n → OthersStay w v n q → JoinSeen F w v n node y

module _ (F : Functions) (w v : World) (n : ℕ) (node y : Node) (j : JoinStep) (o : Orderly F w) (kv : Known F v) (begun : w.is_open ≡ true) (shape : shape_of v ≡ shape_of w) (there : slice_get w.nodes n ≡ Some node) (is_one : node.node.kind ≡ equi_join j) (same : y.node ≡ node.node)
    (X : JoinAt F w n node j) (Y : JoinAt F v n y j) (h : HoldsJoin F w n node j) where
  pub join_step : JoinSeen F w v n node y → HoldsJoin F v n y j
  join_step (stands_still g s progress outs stay) = join_still F w v n node y j o kv begun shape there is_one same X Y g s progress outs stay h
  join_step (claims i c is g s progress outs stay new done) = join_claim F w v n node y j o kv begun shape there is_one same X Y h i c is g s progress outs stay new done
  join_step (puts_in q cq at of size result g s progress outs stay) = join_keeps_partial F w v n node y j o kv begun shape there is_one same X Y h q cq at of size result g s progress outs stay

  -- a spent join claims nothing and keeps nothing, so that it stands still: what it gave stays given
  pub spent_step : JoinSeen F w v n node y → KeepsJoin F w n node j → IsTrue (is_spent y.progress.stage) → Given v n y j ⊎ ((p : Pipe) → Leaves v n p → IsTrue (p.is_dropped || is_done p.wire.receive_state))
  spent_step (stands_still g s progress outs stay) k t = by (k.spent_gave (ap (λ (a : Progress). is_spent a.stage) (sym progress) ∙ t))
    where
      some : (x : Pipe) → TakenElsewhere n x → (b : List Row) × (slice_get x.got x.next ≡ Some (Some b))
      some x e = e.1

      gl : InputGoes X.left Y.left
      gl = left_on F w v n node y j o kv begun shape there is_one same X Y (TakenElsewhere n) NoneTaken some g

      gr : InputGoes X.right Y.right
      gr = right_goes_on F w v n node y j o kv begun shape there is_one same X Y (TakenElsewhere n) NoneTaken some g

      by : Given w n node j ⊎ ((p : Pipe) → Leaves w n p → IsTrue (p.is_dropped || is_done p.wire.receive_state)) → Given v n y j ⊎ ((p : Pipe) → Leaves v n p → IsTrue (p.is_dropped || is_done p.wire.receive_state))
      by (inl d) = inl (given_on F w v n node y j o.known shape same X.left X.right Y.left Y.right X.of Y.of gl gr (λ r. ap (λ (a : Progress). get_or a.taken 1 []) progress) (one_of F v n y j kv Y) (ap (owes_last j) progress) d)
      by (inr none) =
          inr (λ p l.
          let x = g p l.0 in
          or_on x.0.is_dropped (is_done x.0.wire.receive_state) p.is_dropped (is_done p.wire.receive_state) x.2.kept (λ d. ap (λ (u : Wire). is_done u.receive_state) x.2.wire ∙ d) (none x.0 (x.1, ap (λ (u : Wire). u.sender) (sym x.2.wire) ∙ l.1)))
  spent_step (claims i c is g s progress outs stay new done) k t = absurd (spent_claims i c is progress t)
    where
      spent_claims : (i : ℕ) (c : Claim) → claim_at w n i node ≡ Some c → y.progress ≡ c.progress → IsTrue (is_spent y.progress.stage) → ⊥
      spent_claims i c is progress t =
          by node.progress.stage refl i (next_morsel (inputs_in_phase w n i)) ((λ k. claim_by w.options node.node (schemas_for w node) (sym is_one k) node.progress (heads_of w n node) (inputs_done w n) i (next_morsel (inputs_in_phase w n i))) ∙ is)
        where
          now : is_spent c.progress.stage ≡ true
          now = ap (λ (a : Progress). is_spent a.stage) (sym progress) ∙ t

          none_here : None ≡ Some c → ⊥
          none_here e = let none : None ≡ Some c = e in cc

          same_stage : (x : Claim) → is_spent x.progress.stage ≡ false → Some x ≡ Some c → ⊥
          same_stage x e q = let is_x : x ≡ c = cc in let never : false ≡ true = sym e ∙ ap (λ (z : Claim). is_spent z.progress.stage) is_x ∙ now in cc

          with_left_stage : (b : Bool) (rs : List Row) → is_spent node.progress.stage ≡ false → is_spent (cond b (record node.progress { taken = with_kept 0 rs node.progress.taken }) node.progress).stage ≡ false
          with_left_stage true rs e = e
          with_left_stage false rs e = e

          ends_now : (b : Bool) → is_spent node.progress.stage ≡ false → cond b (Some (of_last w.options node.node (schemas_for w node) j node.progress)) None ≡ Some c → ⊥
          ends_now true e q = same_stage (of_last w.options node.node (schemas_for w node) j node.progress) e q
          ends_now false e q = none_here q

          by : (st : Stage) → node.progress.stage ≡ st → (i : ℕ) (m : Next) → of_join w.options node.node (schemas_for w node) j st (get_or (inputs_done w n) 0 false) i node.progress m ≡ Some c → ⊥
          by taking e zero m q = none_here q
          by taking e (suc i) None q = none_here q
          by taking e (suc i) (Some m) q = same_stage (record (of_morsel w.options node.node (schemas_for w node) (record node.progress { taken = with_slot (suc i) node.progress.taken }) (keeps node.node) m.0 m.1) { schemas = get_or (schemas_for w node) (suc i) [] ∷ [] }) (ap is_spent e) q
          by giving e zero (Some m) q = same_stage (of_left w.options node.node (schemas_for w node) j node.progress m.0 m.1) (with_left_stage (fills_right j.args.how) m.1 (ap is_spent e)) q
          by giving e zero None q = ends_now (get_or (inputs_done w n) 0 false && owes_last j node.progress) (ap is_spent e) q
          by giving e (suc i) m q = none_here q
          by spent e i m q = none_here q
  spent_step (puts_in q cq at of size result g s progress outs stay) k t = by (k.spent_gave (ap (λ (a : Progress). is_spent a.stage) (sym progress) ∙ t))
    where
      by : Given w n node j ⊎ ((p : Pipe) → Leaves w n p → IsTrue (p.is_dropped || is_done p.wire.receive_state)) → Given v n y j ⊎ ((p : Pipe) → Leaves v n p → IsTrue (p.is_dropped || is_done p.wire.receive_state))
      by (inl d) = absurd (waits_not F w v n node y j o kv begun shape there is_one same X Y h q cq at of size result g s progress outs stay (d.1 X.right X.of.right_enters.0 X.of.right_enters.1))
      by (inr none) =
          inr (λ p l.
          let x = g p l.0 in
          or_on x.0.is_dropped (is_done x.0.wire.receive_state) p.is_dropped (is_done p.wire.receive_state) x.2.kept (λ d. ap (λ (u : Wire). is_done u.receive_state) x.2.wire ∙ d) (none x.0 (x.1, ap (λ (u : Wire). u.sender) (sym x.2.wire) ∙ l.1)))

pub keeps_step : (F : Functions) (w v : World) (n : ℕ) (node y : Node) (j : JoinStep) (o : Orderly F w) (kv : Known F v) (begun : w.is_open ≡ true) (shape : shape_of v ≡ shape_of w) (there : slice_get w.nodes n ≡ Some node) (is_one : node.node.kind ≡ equi_join j) (same : y.node ≡ node.node) (X : JoinAt F w n node j) (Y : JoinAt F v n y j)
    → JoinSeen F w v n node y → KeepsJoin F w n node j → KeepsJoin F v n y j
keeps_step F w v n node y j o kv begun shape there is_one same X Y seen k =
    record { holds = join_step F w v n node y j o kv begun shape there is_one same X Y k.holds seen; spent_gave = λ t. spent_step F w v n node y j o kv begun shape there is_one same X Y k.holds seen k t }

-- WHILE ITS PORTS SAY THE SAME
module _ (F : Functions) (w v : World) (n : ℕ) (node y : Node) (j : JoinStep) (kw : Known F w) (kv : Known F v) (shape : shape_of v ≡ shape_of w) (same : y.node ≡ node.node) (X : JoinAt F w n node j) (Y : JoinAt F v n y j)
    (back : AllRest w v) (outs : v.outs ≡ w.outs) (ran : v.ending ≡ running → w.ending ≡ running) (progress : y.progress ≡ node.progress)
    -- its own ends say the same, and what is dropped stays as it is
    (reads : (a b : Pipe) → Contains w.pipes a → Contains v.pipes b → joins_of b ≡ joins_of a → a.wire.receiver ≡ n → b.wire.receive_state ≡ a.wire.receive_state)
    (drops : (b : Pipe) → Leaves v n b → (a : Pipe) × Leaves w n a × (b.is_dropped ≡ a.is_dropped) × (is_done a.wire.receive_state ≡ true → is_done b.wire.receive_state ≡ true))
    (completes : (p : Pipe) → Leaves v n p → IsComplete p → (x : Pipe) × Leaves w n x × IsComplete x) (k : KeepsJoin F w n node j) where
  stage : y.progress.stage ≡ node.progress.stage
  stage = ap (λ (a : Progress). a.stage) progress

  taken : y.progress.taken ≡ node.progress.taken
  taken = ap (λ (a : Progress). a.taken) progress

  sent_same : y.progress.sent ≡ node.progress.sent
  sent_same = ap (λ (a : Progress). a.sent) progress

  turn : BuildsFirst v n y Y.left Y.right
  turn =
      let b = k.holds.turn X.left X.right X.of in
      let l = reads X.left Y.left X.of.left_enters.0.0 Y.of.left_enters.0.0 (left_rests F w v n node y j kw kv shape same X Y back outs ran taken sent_same).joins X.of.left_enters.0.1 in
      let r = reads X.right Y.right X.of.right_enters.0.0 Y.of.right_enters.0.0 (right_rests F w v n node y j kw kv shape same X Y back outs ran taken sent_same).joins X.of.right_enters.0.1 in
      record {
        builds = λ t.
            let x = b.builds (ap is_taking (sym stage) ∙ t) in
            (ap is_ready l ∙ x.0, λ p e. let z = drops p e in z.2 ∙ x.1 z.0 z.1);
        built = λ f. ap is_done r ∙ b.built (ap is_taking (sym stage) ∙ f);
        ends = λ s. ap is_done l ∙ b.ends (ap is_spent (sym stage) ∙ s);
      }

  pub join_waits : KeepsJoin F v n y j
  join_waits =
      record {
        holds = quiet_join F w v n node y j kw kv shape same X Y back outs ran taken sent_same turn (λ t. right_still F w v n node y j kw kv shape same X Y back outs ran taken sent_same (k.holds.has_right (ap is_giving (sym stage) ∙ t) X.right X.of.right_enters.0 X.of.right_enters.1)) (λ p l c. inl (completes p l c)) k.holds;
        spent_gave = λ t. by (k.spent_gave (ap is_spent (sym stage) ∙ t));
      }
    where
      by : Given w n node j ⊎ ((p : Pipe) → Leaves w n p → IsTrue (p.is_dropped || is_done p.wire.receive_state)) → Given v n y j ⊎ ((p : Pipe) → Leaves v n p → IsTrue (p.is_dropped || is_done p.wire.receive_state))
      by (inl g) = inl (given_still F w v n node y j kw kv shape same X Y back outs ran taken sent_same g)
      by (inr none) = inr (λ p l. let z = drops p l in or_on z.0.is_dropped (is_done z.0.wire.receive_state) p.is_dropped (is_done p.wire.receive_state) (λ d. z.2 ∙ d) z.3 (none z.0 z.1))

-- ANOTHER NODE IS UPDATED
module _ (F : Functions) (w : World) (m : ℕ) (other : Node) (progress : Progress) (o : Orderly F w) (shut : w.is_open ≡ false) (at : slice_get w.nodes m ≡ Some other) (n : ℕ) (apart : n ≢ m) (node y : Node) (j : JoinStep) (kv : Known F (turned w m other progress at)) (shape : shape_of (turned w m other progress at) ≡ shape_of w)
    (same : y.node ≡ node.node) (X : JoinAt F w n node j) (Y : JoinAt F (turned w m other progress at) n y j) (stays : y.progress ≡ node.progress) (k : KeepsJoin F w n node j) where
  abbrev v : World
  v = turned w m other progress at

  abbrev a : Sides
  a = answer w m other progress at

  -- the end of another reader is left
  left_alone : (x : Pipe) (b : Bool) → nat_eq x.wire.receiver m ≡ b → (x.wire.receiver ≡ m → ⊥) → (written_pipe m a x).wire.receive_state ≡ x.wire.receive_state
  left_alone x true e not_m = absurd (not_m (same_number x.wire.receiver m e))
  left_alone x false e not_m = rw e (by (nat_eq x.wire.sender m))
    where
      by : (c : Bool) → (cond c (sent (get_or a.outputs x.wire.port x.wire.send_state) x) x).wire.receive_state ≡ x.wire.receive_state
      by true = refl
      by false = refl

  pub join_beside : KeepsJoin F v n y j
  join_beside =
      join_waits F w v n node y j o.known kv shape same X Y (λ z c. let x = turned_from w m other progress at z c in (x.0, x.1, record { joins = x.2.joins; got = x.2.got; next = x.2.next; completes = complete_turned F w m other progress o shut at x.0 z x.2 }))
      refl (λ e. e) stays reads (λ z l. let x = turned_from w m other progress at z l.0 in (x.0, (x.1, sym (ap (λ (q : Joins). q.sender) x.2.joins) ∙ l.1), x.2.dropped, x.2.received_on))
      (λ p l c. let x = turned_from w m other progress at p l.0 in by x.0 p (x.1, sym (ap (λ (q : Joins). q.sender) x.2.joins) ∙ l.1) (newly F w m other progress o shut at x.0 p x.1 x.2 c)) k
    where
      by : (x p : Pipe) → Leaves w n x → IsComplete x ⊎ Newly F w m other progress o shut at x p → (x : Pipe) × Leaves w n x × IsComplete x
      by x p l (inl was) = (x, l, was)
      by x p l (inr new) = absurd (apart (sym l.1 ∙ new.from))

      reads : (x b : Pipe) → Contains w.pipes x → Contains v.pipes b → joins_of b ≡ joins_of x → x.wire.receiver ≡ n → b.wire.receive_state ≡ x.wire.receive_state
      reads x b cx cb js r =
          let z = from_map (written_pipe m a) b w.pipes cb in
          let joined = (turns m a z.0).joins ∙ refl in
          let back : joins_of z.0 ≡ joins_of x = sym joined ∙ ap joins_of z.2 ∙ js in
          let is : z.0 ≡ x = o.known.facts.one_input z.0 x z.1 cx (ap (λ (q : Joins). q.receiver) back) (ap (λ (q : Joins). q.input) back) in
          ap (λ (p : Pipe). p.wire.receive_state) (sym z.2) ∙ ap (λ (p : Pipe). (written_pipe m a p).wire.receive_state) is ∙ left_alone x (nat_eq x.wire.receiver m) refl (λ e. apart (sym r ∙ e))

-- AN OPEN
module _ (F : Functions) (s v : World) (n : ℕ) (node y : Node) (j : JoinStep) (ks : Known F s) (kv : Known F v) (shape : shape_of v ≡ shape_of s) (same : y.node ≡ node.node) (X : JoinAt F s n node j) (Y : JoinAt F v n y j)
    (marks : MarkedFrom s v) (outs : v.outs ≡ s.outs) (ran : v.ending ≡ running → s.ending ≡ running) (progress : y.progress ≡ node.progress) (k : KeepsJoin F s n node j) where
  pub join_opens : KeepsJoin F v n y j
  join_opens =
      join_waits F s v n node y j ks kv shape same X Y (λ z c. let x = marks z c in (x.0, x.1, record { joins = joins_are x.0 z x.2.wire; got = x.2.got; next = x.2.next; completes = on x.0 z x.2 })) outs ran progress reads
      (λ z l. let x = marks z l.0 in (x.0, (x.1, ap (λ (u : Wire). u.sender) (sym x.2.wire) ∙ l.1), x.2.dropped, λ d. ap (λ (u : Wire). is_done u.receive_state) x.2.wire ∙ d))
      (λ p l c. let x = marks p l.0 in (x.0, (x.1, ap (λ (u : Wire). u.sender) (sym x.2.wire) ∙ l.1), before x.0 p x.2 c)) k
    where
      joins_are : (x z : Pipe) → z.wire ≡ x.wire → joins_of z ≡ joins_of x
      joins_are x z e = ap (λ (u : Wire). let q : Joins = record { sender = u.sender; port = u.port; receiver = u.receiver; input = u.input } in q) e

      on : (x z : Pipe) → Marked x z → IsComplete x → IsComplete z
      on x z t c = let h = whole x c in complete z (record { done = ap (λ (u : Wire). is_done u.send_state) t.wire ∙ h.done; dropped = t.dropped ∙ h.dropped; unread = t.unread ∙ h.unread })

      before : (x z : Pipe) → Marked x z → IsComplete z → IsComplete x
      before x z t c = let h = whole z c in complete x (record { done = ap (λ (u : Wire). is_done u.send_state) (sym t.wire) ∙ h.done; dropped = sym t.dropped ∙ h.dropped; unread = sym t.unread ∙ h.unread })

      reads : (x b : Pipe) → Contains s.pipes x → Contains v.pipes b → joins_of b ≡ joins_of x → x.wire.receiver ≡ n → b.wire.receive_state ≡ x.wire.receive_state
      reads x b cx cb js r =
          let z = marks b cb in
          let back : joins_of z.0 ≡ joins_of x = sym (joins_are z.0 b z.2.wire) ∙ js in
          let is : z.0 ≡ x = ks.facts.one_input z.0 x z.1 cx (ap (λ (q : Joins). q.receiver) back) (ap (λ (q : Joins). q.input) back) in
          ap (λ (u : Wire). u.receive_state) z.2.wire ∙ ap (λ (p : Pipe). p.wire.receive_state) is
