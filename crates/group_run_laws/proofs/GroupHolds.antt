-- What the families keep of a group-by holds in every reached world.
use Rattle.std.proofs.Common.{◌≡◌, ℕ, ◌⊎◌, true, false, List, [], length, ◌≤◌, Some, refl, sym, ap, subst, ◌∙◌, inl, inr}
use Rattle.std.specs.Prelude.{Contains, slice_get}
use Rattle.ps_frame.specs.Functions.{Functions}
use Rattle.ps_meaning.specs.Shape.{PhysicalKind, PhysicalNode, Shape, group_by_node}
use Rattle.ps_meaning.specs.Sound.{IsSound}
use Rattle.ps_options.specs.declared.options.Options.{Options}
use Rattle.ps_turns.specs.Progress.{is_giving, is_spent, is_taking}
use Rattle.ps_ports.specs.Ports.{is_done}
use Rattle.ps_ports.specs.Wires.{Wire}
use Rattle.ps_turns.specs.Tasks.{Piece}
use Rattle.ps_world.specs.Laws.{PortLaw}
use Rattle.ps_world.specs.Opening.{Reaches, opening}
use Rattle.ps_world.specs.Phases.{with_phase}
use Rattle.ps_world.specs.Updates.{IsSettled, Updates}
use Rattle.ps_world.specs.World.{Node, Pipe, Record, World, running, shape_of}
use Rattle.world_claims.specs.Numbering.{Known}
use Rattle.world_families.specs.Holds.{Holds, HoldsOfKind}
use Rattle.world_families.specs.Keepers.{HasSplitAll, HoldsGroups, IsKeptOf, IsPartWork, SplitsAll}
use Rattle.world_families.specs.Work.{Gives, IsComplete, Leaves, work_of}
use Rattle.world_laws.proofs.Agree.{from_map}
use Rattle.world_laws.proofs.Answered.{in_shape}
use Rattle.world_laws.proofs.InOrder.{none_in_nil}
use Rattle.world_families.proofs.Members.{nothing_is}
use Rattle.family_pipes.proofs.Complete.{whole}
use Rattle.family_pipes.proofs.Begins.{begins, fresh_pipes}
use Rattle.family_keeps.proofs.Done.{DoneFits, wire_joins}
use Rattle.family_keeps.proofs.SinkLaw.{pipes_hold}
use Rattle.family_keeps.proofs.UnionTurns.{mark_of}
use Rattle.orderly_worlds.proofs.Orderly.{Orderly}
use Rattle.orderly_worlds.proofs.Reaching.{orderly_reached, updates_orderly}
use Rattle.orderly_worlds.proofs.Stands.{Stands}
use Rattle.orderly_worlds.proofs.Turned.{turned}
use Rattle.node_keeps.proofs.Law.{KeepsNode, NodeLaw, keeps_reached, updates_keep}
use Rattle.node_keeps.proofs.SameTurn.{SameTurn}
use Rattle.keeper_laws.proofs.Says.{keeper}
use Rattle.keeper_laws.proofs.Turn.{IsReadOut}
use Rattle.keeper_laws.proofs.Turned.{keeper_done, turn_kept}
use Rattle.keeper_laws.proofs.Ports.{keeper_ports}
use Rattle.keeper_laws.proofs.MadeLaw.{fresh_progress}
use Rattle.group_run_laws.proofs.Whole.{WholeSlots, has_all}
use Rattle.group_run_laws.proofs.Groups.{GaveParts, IsGroup, KeepsGroups, PartWork, group_step, is_group, keeps, slotted}
use Rattle.group_run_laws.proofs.GroupTurned.{group_filled, group_turned, groups_quiet}

of_kind : (F : Functions) (w : World) (n : ℕ) (node : Node) (kind : PhysicalKind) → IsGroup kind → HoldsOfKind F w n node kind → HoldsGroups F w n node
of_kind F w n node (group_by_node keys aggregates) r h = h
of_kind F w n node kind r h = absurd (let no : false ≡ true = r in cc)

to_kind : (F : Functions) (w : World) (n : ℕ) (node : Node) (kind : PhysicalKind) → IsGroup kind → HoldsGroups F w n node → HoldsOfKind F w n node kind
to_kind F w n node (group_by_node keys aggregates) r h = h
to_kind F w n node kind r h = absurd (let no : false ≡ true = r in cc)

-- THE OPENING
module _ (F : Functions) (n : ℕ) (shape : Shape) (o : Options) (node : Node) (at : slice_get (opening shape o).nodes n ≡ Some node) (is : IsGroup node.node.kind) where
  abbrev first : World
  first = opening shape o

  -- nothing came, nothing is out and nothing is done
  no_pipe_done : (p : Pipe) → Leaves first n p → (p.got ≡ []) × (is_done p.wire.send_state ≡ false)
  no_pipe_done p l = fresh_pipes (λ (q : Pipe). (q.got ≡ []) × (is_done q.wire.send_state ≡ false)) (λ s j r i. (refl, refl)) shape 0 p l.0

  group_fresh : KeepsGroups F first n node
  group_fresh =
      let h = of_kind F first n node node.node.kind is (begins F shape o n node at).own in
      let e = fresh_progress shape n node at in
      record {
        turn = record { first = h.turn; unsent = λ t. (λ i. (e i).sent); gave = λ s. absurd (let no : false ≡ true = (λ i. is_spent (sym e i).stage) ∙ s in cc) };
        morsels = h.keeps_morsels;
        whole = λ g. absurd (let no : false ≡ true = (λ i. is_giving (sym e i).stage) ∙ g in cc);
        after = λ s. absurd (let no : false ≡ true = (λ i. is_spent (sym e i).stage) ∙ s in cc);
        open_out = λ t p l c. none p l c;
        gives = record { answers = λ p k rs l q. absurd (nothing_is (Some rs) (ap (λ xs. slice_get xs k) (sym (no_pipe_done p l).0) ∙ q)); pieces = λ q c r. absurd (none_in_nil q c); completes = λ p l c. absurd (none p l c) };
      }
    where
      none : (p : Pipe) → Leaves first n p → IsComplete p → ⊥
      none p l c = let no : true ≡ false = sym (whole p c).done ∙ (no_pipe_done p l).1 in cc

module _ (F : Functions) (n : ℕ) where
  -- while pipes stay, but for marks
  module _ (w v : World) (node y : Node) (kw : Known F w) (kv : Known F v) (shape : shape_of v ≡ shape_of w) (there : slice_get w.nodes n ≡ Some node) (at : slice_get v.nodes n ≡ Some y) (options : v.options ≡ w.options) (outs : v.outs ≡ w.outs) (ends : v.ending ≡ running → w.ending ≡ running)
      (back : (p : Pipe) → Contains v.pipes p → (x : Pipe) × Contains w.pipes x × (p.wire ≡ x.wire) × (p.is_dropped ≡ x.is_dropped) × (p.got ≡ x.got) × (IsComplete p → IsComplete x) × (IsComplete x → IsComplete p)) (st : Stands node y) (same : SameTurn node.progress y.progress) (taken : y.progress.taken ≡ node.progress.taken) (is : IsGroup node.node.kind) (h : KeepsGroups F w n node) where
    group_kept : KeepsGroups F v n y
    group_kept =
        groups_quiet F w v n node y kw kv shape there at st.node is taken outs ends (λ q c. let x = back q c in (x.0, x.1, wire_joins x.0 q x.2, x.4, x.6)) h options same.lists st.sent
        (turn_kept w v n node y (λ p c. let x = back p c in (x.0, x.1, x.2, x.3)) options st same (keeps node.node.kind is) h.turn) (λ g. h.whole (ap is_giving (sym same.stage) ∙ g)) (λ e. read_on (h.after (ap is_spent (sym same.stage) ∙ e)))
        (λ t p l c. let x = was p l c in h.open_out (ap is_taking (sym same.stage) ∙ t) x.0 x.1 x.2) (λ p l c. inl (was p l c))
      where
        was : (p : Pipe) → Leaves v n p → IsComplete p → (x : Pipe) × Leaves w n x × IsComplete x
        was p l c = let x = back p l.0 in (x.0, (x.1, ap (λ (u : Wire). u.sender) (sym x.2) ∙ l.1), x.5 c)

        read_on : (WholeSlots w n node × SplitsAll w n node) ⊎ IsReadOut w n → (WholeSlots w n node × SplitsAll w n node) ⊎ IsReadOut v n
        read_on (inl x) = inl x
        read_on (inr r) = inr (λ p l. let x = back p l.0 in ap (λ (u : Wire). is_done u.receive_state) x.2 ∙ r x.0 (x.1, ap (λ (u : Wire). u.sender) (sym x.2) ∙ l.1))

  group_phase : (s : World) (phase : ℕ) (journal : List Record) (node y : Node) → Orderly F s → Known F (record (with_phase s) { phase = phase; journal = journal }) → shape_of (with_phase s) ≡ shape_of s → slice_get s.nodes n ≡ Some node → slice_get (with_phase s).nodes n ≡ Some y → Stands node y → SameTurn node.progress y.progress
      → y.progress.taken ≡ node.progress.taken → IsGroup node.node.kind → KeepsGroups F s n node → KeepsGroups F (record (with_phase s) { phase = phase; journal = journal }) n y
  group_phase s phase journal node y o kv shape there at st same taken is h = group_kept s (record (with_phase s) { phase = phase; journal = journal }) node y o.known kv shape there at refl refl (λ on. on) back st same taken is h
    where
      back : (p : Pipe) → Contains (with_phase s).pipes p → (x : Pipe) × Contains s.pipes x × (p.wire ≡ x.wire) × (p.is_dropped ≡ x.is_dropped) × (p.got ≡ x.got) × (IsComplete p → IsComplete x) × (IsComplete x → IsComplete p)
      back p c =
          let x = from_map (mark_of s) p s.pipes c in
          (x.0, x.1, ap (λ (z : Pipe). z.wire) (sym x.2), ap (λ (z : Pipe). z.is_dropped) (sym x.2), ap (λ (z : Pipe). z.got) (sym x.2), λ d. marked_back x.0 (subst IsComplete (sym x.2) d), λ d. subst IsComplete x.2 (marked_on x.0 d))
        where
          marked_back : (x : Pipe) → IsComplete (mark_of s x) → IsComplete x
          marked_back x d = d

          marked_on : (x : Pipe) → IsComplete x → IsComplete (mark_of s x)
          marked_on x d = d

  pub group_law : NodeLaw F n IsGroup (λ w node. KeepsGroups F w n node)
  group_law =
      record {
        single = λ kind is. (keeper kind (keeps kind is)).single;
        ends = λ w m other progress o shut t kv shape here is own done.
            let k : KeepsGroups F w m other = subst (λ j. KeepsGroups F w j other) here own in
            subst (λ j. DoneFits (turned w m other progress t.0) j) (sym here) (keeper_done F w m other progress o shut t kv shape (keeps other.node.kind is) k.turn (subst (DoneFits w) here done));
        fresh = λ shape o node sound at is. group_fresh F n shape o node at is;
        step = λ w v node y o kv started shape there at is fits done marks lost seen same slots run h. group_step F w v n node y o kv started shape there at is same slots run h seen;
        turn = λ w m other progress node y o shut t kv shape there at s stores is fits done run h. group_turned F w m other progress o shut t kv shape run n node y there at is done h;
        still = λ w v node y kw kv there at pipes outs options opens ends shape s stores same taken is h. group_kept w v node y kw kv shape there at options outs ends (λ p c. (p, subst (λ ps. Contains ps p) pipes c, refl, refl, refl, λ d. d, λ d. d)) s same taken is h;
        fill = λ w m other progress node y o shut t kv shape there at is done run h. group_filled F w m other progress o t kv shape n node y there at is h;
        phase = λ s phase journal node y o shut rest kv shape there at st stores same taken is done h. group_phase s phase journal node y o kv shape there at st same taken is h;
      }

pub groups_keep : (F : Functions) (shape : Shape) (o : Options) (w : World) (n : ℕ) → IsSound F shape → Reaches F shape o w → (node : Node) → slice_get w.nodes n ≡ Some node → IsGroup node.node.kind → KeepsNode F n IsGroup (λ u x. KeepsGroups F u n x) w node
groups_keep F shape o w n sound r node at is = keeps_reached F n IsGroup (λ u x. KeepsGroups F u n x) (group_law F n) shape o w sound r node at is

pub groups_hold : (F : Functions) (shape : Shape) (o : Options) (w : World) (n : ℕ) (p : PhysicalNode) → IsSound F shape → Reaches F shape o w → slice_get (shape_of w) n ≡ Some p → is_group p.kind ≡ true → Holds F w n
groups_hold F shape o w n p sound r e is node at =
    let q : Some node.node ≡ Some p = sym (in_shape w n node at) ∙ e in
    let same : node.node ≡ p = cc in
    let one : IsGroup node.node.kind = ap (λ (x : PhysicalNode). is_group x.kind) same ∙ is in
    let k = groups_keep F shape o w n sound r node at one in
    let orderly = orderly_reached F shape o w sound r in
    record {
      pipes = pipes_hold F w n orderly k.done;
      own = to_kind F w n node node.node.kind one (record { turn = k.own.turn.first; keeps_morsels = k.own.morsels; has_all = λ g. let all = k.own.whole g in split node orderly at one all.0 all.1; gives = split_gives node orderly at one k.own.gives });
    }
  where
    split : (node : Node) → Orderly F w → slice_get w.nodes n ≡ Some node → IsGroup node.node.kind → WholeSlots w n node → SplitsAll w n node → HasSplitAll w n node
    split node orderly at one whole splits = ((whole.0, has_all F w n node orderly at (slotted node.node.kind one) whole), splits)

    split_gives : (node : Node) → Orderly F w → slice_get w.nodes n ≡ Some node → IsGroup node.node.kind → Gives F w n (PartWork w n node) (IsKeptOf w n node 0) (GaveParts w n node) → Gives F w n (IsPartWork w n node) (IsKeptOf w n node 0) (HasSplitAll w n node × (length node.progress.lists ≤ node.progress.sent))
    split_gives node orderly at one g =
        record {
          answers = λ p k rs l e. let a = g.answers p k rs l e in (a.0, (split node orderly at one a.1.0 a.1.1, a.1.2, a.1.3), a.2);
          pieces = λ q c e. by q (g.pieces q c e);
          completes = λ p l c. let a = g.completes p l c in (split node orderly at one a.0 a.1, a.2);
        }
      where
        by : (q : Piece) → PartWork w n node q.gives (work_of q) ⊎ IsKeptOf w n node 0 q → IsPartWork w n node q.gives (work_of q) ⊎ IsKeptOf w n node 0 q
        by q (inl x) = inl (split node orderly at one x.0 x.1, x.2, x.3)
        by q (inr k) = inr k

-- Between phases a group-by takes a live input, or is ready to its output.
pub group_ports : (F : Functions) (shape : Shape) (o : Options) (w : World) → IsSound F shape → Reaches F shape o w → (n : ℕ) (s : World) → w.is_open ≡ false → w.ending ≡ running → Updates F w s → (node : Node) → slice_get s.nodes n ≡ Some node → is_group node.node.kind ≡ true → IsSettled s → PortLaw s n
group_ports F shape o w sound r n s shut run u node there is rest =
    let orderly = orderly_reached F shape o w sound r in
    let k = updates_keep F n IsGroup (λ v x. KeepsGroups F v n x) (group_law F n) w s orderly shut run u (λ x at one. groups_keep F shape o w n sound r x at one) node there is in
    keeper_ports F s (updates_orderly F w s orderly shut u).known rest n node there (keeps node.node.kind is) k.own.turn
