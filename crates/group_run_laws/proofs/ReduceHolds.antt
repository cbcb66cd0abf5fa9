-- What the families keep of a reduce holds in every reached world.
use Rattle.std.proofs.Common.{◌≡◌, ℕ, true, false, List, Some, refl, sym, ap, subst, ◌∙◌, inl, arith}
use Rattle.std.specs.Prelude.{Contains, slice_get}
use Rattle.ps_frame.specs.Functions.{Functions}
use Rattle.ps_meaning.specs.Shape.{PhysicalKind, PhysicalNode, Shape, reduce}
use Rattle.ps_meaning.specs.Sound.{IsSound, input_schemas}
use Rattle.ps_meaning.specs.Steps.{Named}
use Rattle.ps_options.specs.declared.options.Options.{Options}
use Rattle.ps_turns.specs.Progress.{is_giving, is_spent}
use Rattle.ps_world.specs.Laws.{Justified, PortLaw, sent_at, sent_to}
use Rattle.ps_world.specs.Opening.{Reaches, opening}
use Rattle.ps_world.specs.Phases.{with_phase}
use Rattle.ps_world.specs.Updates.{IsSettled, Updates}
use Rattle.ps_world.specs.World.{Node, Pipe, Record, World, running, shape_of}
use Rattle.world_claims.specs.Numbering.{Known}
use Rattle.world_families.specs.Holds.{Holds, HoldsOfKind}
use Rattle.world_families.specs.Keepers.{HoldsReduce}
use Rattle.world_families.specs.Work.{IsComplete}
use Rattle.world_laws.proofs.Agree.{from_map}
use Rattle.world_laws.proofs.Answered.{in_shape}
use Rattle.family_pipes.proofs.Begins.{begins}
use Rattle.family_keeps.proofs.Done.{DoneFits, wire_joins}
use Rattle.family_keeps.proofs.SinkLaw.{pipes_hold}
use Rattle.family_keeps.proofs.UnionTurns.{mark_of}
use Rattle.orderly_worlds.proofs.Orderly.{Orderly}
use Rattle.orderly_worlds.proofs.Reaching.{orderly_reached, updates_orderly}
use Rattle.orderly_worlds.proofs.Stands.{Stands}
use Rattle.orderly_worlds.proofs.Turned.{turned}
use Rattle.table_fronts.proofs.ReduceLaw.{reduces_justified}
use Rattle.node_keeps.proofs.Law.{KeepsNode, NodeLaw, keeps_reached, updates_keep}
use Rattle.node_keeps.proofs.SameTurn.{SameTurn}
use Rattle.keeper_laws.proofs.Says.{keeper}
use Rattle.keeper_laws.proofs.Turned.{keeper_done, turn_kept}
use Rattle.keeper_laws.proofs.Ports.{keeper_ports}
use Rattle.keeper_laws.proofs.MadeLaw.{fresh_progress}
use Rattle.group_run_laws.proofs.Whole.{has_all}
use Rattle.group_run_laws.proofs.Reduces.{IsReduce, KeepsReduce, is_reduce, keeps, reduce_step, slotted}
use Rattle.group_run_laws.proofs.ReduceTurned.{reduce_filled, reduce_quiet, reduce_turned}
use Rattle.ps_ports.specs.Wires.{Wire}

of_kind : (F : Functions) (w : World) (n : ℕ) (node : Node) (kind : PhysicalKind) → IsReduce kind → HoldsOfKind F w n node kind → HoldsReduce F w n node
of_kind F w n node (reduce es) r h = h
of_kind F w n node kind r h = absurd (let no : false ≡ true = r in cc)

to_kind : (F : Functions) (w : World) (n : ℕ) (node : Node) (kind : PhysicalKind) → IsReduce kind → HoldsReduce F w n node → HoldsOfKind F w n node kind
to_kind F w n node (reduce es) r h = h
to_kind F w n node kind r h = absurd (let no : false ≡ true = r in cc)

reduce_fresh : (F : Functions) (n : ℕ) (shape : Shape) (o : Options) (node : Node) → slice_get (opening shape o).nodes n ≡ Some node → IsReduce node.node.kind → KeepsReduce F (opening shape o) n node
reduce_fresh F n shape o node at is =
    let w = opening shape o in
    let h = of_kind F w n node node.node.kind is (begins F shape o n node at).own in
    let e = fresh_progress shape n node at in
    record {
      turn = record { first = h.turn; unsent = λ t. (λ i. (e i).sent); gave = λ s. absurd (let no : false ≡ true = (λ i. is_spent (sym e i).stage) ∙ s in cc) };
      morsels = h.keeps_morsels;
      whole = λ g. absurd (let no : false ≡ true = (λ i. is_giving (sym e i).stage) ∙ g in cc);
      sent_all = λ more. absurd (let none : node.progress.sent ≡ 0 = (λ i. (e i).sent) in omega (arith, none, more));
      gives = h.gives;
    }

module _ (F : Functions) (n : ℕ) where
  -- while pipes stay, but for marks
  module _ (w v : World) (node y : Node) (kw : Known F w) (kv : Known F v) (shape : shape_of v ≡ shape_of w) (there : slice_get w.nodes n ≡ Some node) (at : slice_get v.nodes n ≡ Some y) (options : v.options ≡ w.options) (outs : v.outs ≡ w.outs) (ends : v.ending ≡ running → w.ending ≡ running)
      (back : (p : Pipe) → Contains v.pipes p → (x : Pipe) × Contains w.pipes x × (p.wire ≡ x.wire) × (p.is_dropped ≡ x.is_dropped) × (p.got ≡ x.got) × (IsComplete p → IsComplete x) × (IsComplete x → IsComplete p)) (st : Stands node y) (same : SameTurn node.progress y.progress) (taken : y.progress.taken ≡ node.progress.taken) (is : IsReduce node.node.kind) (h : KeepsReduce F w n node) where
    reduce_kept : KeepsReduce F v n y
    reduce_kept =
        reduce_quiet F w v n node y kw kv shape there at st.node is st.sent taken outs ends (λ q c. let x = back q c in (x.0, x.1, wire_joins x.0 q x.2, x.4, x.6)) h
        (turn_kept w v n node y (λ p c. let x = back p c in (x.0, x.1, x.2, x.3)) options st same (keeps node.node.kind is) h.turn) (λ g. h.whole (ap is_giving (sym same.stage) ∙ g))
        (λ p l c. let x = back p l.0 in inl (x.0, (x.1, ap (λ (u : Wire). u.sender) (sym x.2) ∙ l.1), x.5 c))

  reduce_phase : (s : World) (phase : ℕ) (journal : List Record) (node y : Node) → Orderly F s → Known F (record (with_phase s) { phase = phase; journal = journal }) → shape_of (with_phase s) ≡ shape_of s → slice_get s.nodes n ≡ Some node → slice_get (with_phase s).nodes n ≡ Some y → Stands node y → SameTurn node.progress y.progress
      → y.progress.taken ≡ node.progress.taken → IsReduce node.node.kind → KeepsReduce F s n node → KeepsReduce F (record (with_phase s) { phase = phase; journal = journal }) n y
  reduce_phase s phase journal node y o kv shape there at st same taken is h = reduce_kept s (record (with_phase s) { phase = phase; journal = journal }) node y o.known kv shape there at refl refl (λ on. on) back st same taken is h
    where
      back : (p : Pipe) → Contains (with_phase s).pipes p → (x : Pipe) × Contains s.pipes x × (p.wire ≡ x.wire) × (p.is_dropped ≡ x.is_dropped) × (p.got ≡ x.got) × (IsComplete p → IsComplete x) × (IsComplete x → IsComplete p)
      back p c =
          let x = from_map (mark_of s) p s.pipes c in
          (x.0, x.1, ap (λ (z : Pipe). z.wire) (sym x.2), ap (λ (z : Pipe). z.is_dropped) (sym x.2), ap (λ (z : Pipe). z.got) (sym x.2), λ d. marked_back x.0 (subst IsComplete (sym x.2) d), λ d. subst IsComplete x.2 (marked_on x.0 d))
        where
          marked_back : (x : Pipe) → IsComplete (mark_of s x) → IsComplete x
          marked_back x d = d

          marked_on : (x : Pipe) → IsComplete x → IsComplete (mark_of s x)
          marked_on x d = d

  pub reduce_law : NodeLaw F n IsReduce (λ w node. KeepsReduce F w n node)
  reduce_law =
      record {
        single = λ kind is. (keeper kind (keeps kind is)).single;
        ends = λ w m other progress o shut t kv shape here is own done.
            let k : KeepsReduce F w m other = subst (λ j. KeepsReduce F w j other) here own in
            subst (λ j. DoneFits (turned w m other progress t.0) j) (sym here) (keeper_done F w m other progress o shut t kv shape (keeps other.node.kind is) k.turn (subst (DoneFits w) here done));
        fresh = λ shape o node sound at is. reduce_fresh F n shape o node at is;
        step = λ w v node y o kv started shape there at is fits done marks lost seen same slots run h. reduce_step F w v n node y o kv started shape there at is same slots run h seen;
        turn = λ w m other progress node y o shut t kv shape there at s stores is fits done run h. reduce_turned F w m other progress o shut t kv shape run n node y there at is done h;
        still = λ w v node y kw kv there at pipes outs options opens ends shape s stores same taken is h. reduce_kept w v node y kw kv shape there at options outs ends (λ p c. (p, subst (λ ps. Contains ps p) pipes c, refl, refl, refl, λ d. d, λ d. d)) s same taken is h;
        fill = λ w m other progress node y o shut t kv shape there at is done run h. reduce_filled F w m other progress o t kv shape n node y there at is h;
        phase = λ s phase journal node y o shut rest kv shape there at st stores same taken is done h. reduce_phase s phase journal node y o kv shape there at st same taken is h;
      }

pub reduces_keep : (F : Functions) (shape : Shape) (o : Options) (w : World) (n : ℕ) → IsSound F shape → Reaches F shape o w → (node : Node) → slice_get w.nodes n ≡ Some node → IsReduce node.node.kind → KeepsNode F n IsReduce (λ u x. KeepsReduce F u n x) w node
reduces_keep F shape o w n sound r node at is = keeps_reached F n IsReduce (λ u x. KeepsReduce F u n x) (reduce_law F n) shape o w sound r node at is

pub reduces_hold : (F : Functions) (shape : Shape) (o : Options) (w : World) (n : ℕ) (p : PhysicalNode) → IsSound F shape → Reaches F shape o w → slice_get (shape_of w) n ≡ Some p → is_reduce p.kind ≡ true → Holds F w n
reduces_hold F shape o w n p sound r e is node at =
    let q : Some node.node ≡ Some p = sym (in_shape w n node at) ∙ e in
    let same : node.node ≡ p = cc in
    let one : IsReduce node.node.kind = ap (λ (x : PhysicalNode). is_reduce x.kind) same ∙ is in
    let k = reduces_keep F shape o w n sound r node at one in
    let orderly = orderly_reached F shape o w sound r in
    record {
      pipes = pipes_hold F w n orderly k.done;
      own = to_kind F w n node node.node.kind one (record { turn = k.own.turn.first; keeps_morsels = k.own.morsels; has_all = λ g. let all = k.own.whole g in (all.0, has_all F w n node orderly at (slotted node.node.kind one) all); gives = k.own.gives });
    }

-- So what it has sent begins the row that it may give.
pub reduces_are_justified : (F : Functions) (shape : Shape) (o : Options) (w : World) (n : ℕ) (p : PhysicalNode) (es : List Named) → IsSound F shape → Reaches F shape o w → slice_get (shape_of w) n ≡ Some p → p.kind ≡ reduce es → Justified F p (input_schemas (shape_of w) p) (sent_to (sent_at w) p) (sent_at w n)
reduces_are_justified F shape o w n p es sound r e is = reduces_justified F w n p es (orderly_reached F shape o w sound r).known e is (reduces_hold F shape o w n p sound r e (ap is_reduce is))

-- Between phases a reduce takes a live input, or is ready to its output.
pub reduce_ports : (F : Functions) (shape : Shape) (o : Options) (w : World) → IsSound F shape → Reaches F shape o w → (n : ℕ) (s : World) → w.is_open ≡ false → w.ending ≡ running → Updates F w s → (node : Node) → slice_get s.nodes n ≡ Some node → is_reduce node.node.kind ≡ true → IsSettled s → PortLaw s n
reduce_ports F shape o w sound r n s shut run u node there is rest =
    let orderly = orderly_reached F shape o w sound r in
    let k = updates_keep F n IsReduce (λ v x. KeepsReduce F v n x) (reduce_law F n) w s orderly shut run u (λ x at one. reduces_keep F shape o w n sound r x at one) node there is in
    keeper_ports F s (updates_orderly F w s orderly shut u).known rest n node there (keeps node.node.kind is) k.own.turn
