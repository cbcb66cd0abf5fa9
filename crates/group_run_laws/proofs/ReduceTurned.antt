-- Updates, fills and Opens keep what is kept of a reduce: it turns once all that came is kept.
use Rattle.std.proofs.Common.{◌≡◌, ◌≢◌, ℕ, ◌<◌, ◌⊎◌, Bool, true, false, List, Some, refl, sym, ap, subst, ◌∙◌, inl, inr, arith}
use Rattle.std.specs.Prelude.{Contains, get_or, nat_lt, not, slice_get, ◌&&◌}
use Rattle.std.proofs.lemmas.Bool.{cases_eq}
use Rattle.std.proofs.lemmas.Bool.Decides.{nat_tests}
use Rattle.ps_frame.specs.Functions.{Functions}
use Rattle.ps_frame.specs.Tables.{Fields}
use Rattle.ps_meaning.specs.Shape.{PhysicalKind, PhysicalNode, reduce}
use Rattle.ps_options.specs.declared.options.Options.{Options}
use Rattle.ps_ports.specs.Ports.{Sides, all_done, first_port, is_done}
use Rattle.ps_turns.specs.Progress.{Progress, is_giving, is_user_map}
use Rattle.ps_turns.specs.Tasks.{computes}
use Rattle.ps_turns.specs.Updates.{Makes, Turns, has_given_all, is_filled, keeper_answer}
use Rattle.ps_world.specs.Facts.{Joins}
use Rattle.ps_world.specs.Updates.{FillsAt, TurnsAt, given_at}
use Rattle.ps_world.specs.World.{Node, Pipe, World, running, schemas_for, shape_of}
use Rattle.turn_laws.proofs.Turned.{waits}
use Rattle.world_claims.specs.Numbering.{Known}
use Rattle.world_facts.proofs.CutOff.{both_true}
use Rattle.world_families.specs.Keepers.{IsKeptOf}
use Rattle.world_families.specs.Sources.{HasGivenAll}
use Rattle.world_families.specs.Work.{AllComplete, IsComplete, Leaves, Work}
use Rattle.family_keeps.proofs.Done.{DoneFits}
use Rattle.family_keeps.proofs.Turns.{turn_leaves}
use Rattle.family_keeps.proofs.Unions.{same_schemas}
use Rattle.family_pipes.proofs.Outputs.{gives_keep}
use Rattle.family_pipes.proofs.SourceSteps.{same_node}
use Rattle.orderly_worlds.proofs.Orderly.{Newly, Orderly, complete_turned, newly}
use Rattle.orderly_worlds.proofs.Says.{kept_at}
use Rattle.orderly_worlds.proofs.Turned.{turned, turned_from}
use Rattle.node_keeps.proofs.Law.{filled}
use Rattle.keeper_laws.proofs.Says.{Keeper, keeper, says_out, starts}
use Rattle.keeper_laws.proofs.Starts.{state_out}
use Rattle.keeper_laws.proofs.Turn.{IsReadOut, KeepsTurn}
use Rattle.keeper_laws.proofs.Turned.{new_here, new_stage, same_there, says, spent_why, turn_filled, turn_turned}
use Rattle.keeper_laws.proofs.Made.{received_same}
use Rattle.group_run_laws.proofs.Quiet.{Quiet, all_kept, complete, kept_quiet, morsels_quiet, stay, whole_quiet}
use Rattle.group_run_laws.proofs.Whole.{WholeSlots, silent}
use Rattle.group_run_laws.proofs.Reduces.{IsReduce, KeepsReduce, RowWork, keeps, slotted}

never : (b : Bool) → b ≡ true → b ≡ false → ⊥
never b t f = let no : true ≡ false = sym t ∙ f in cc

-- WHILE NOTHING COMES AND NOTHING IS HANDED IN
module _ (F : Functions) (w v : World) (n : ℕ) (node y : Node) (kw : Known F w) (kv : Known F v) (shape : shape_of v ≡ shape_of w) (there : slice_get w.nodes n ≡ Some node) (at : slice_get v.nodes n ≡ Some y) (node_is : y.node ≡ node.node) (is : IsReduce node.node.kind) (sent : y.progress.sent ≡ node.progress.sent) (taken : y.progress.taken ≡ node.progress.taken)
    (outs : v.outs ≡ w.outs) (ends : v.ending ≡ running → w.ending ≡ running) (quiet : Quiet w v) (h : KeepsReduce F w n node) where
  complete_too : AllComplete w n → AllComplete v n
  complete_too = complete F w v n node y kw kv shape there at node_is (slotted node.node.kind is) taken outs ends quiet h.morsels

  work_on : (k : ℕ) (x : Work) → RowWork w n node k x → RowWork v n y k x
  work_on k x (zero_k, all, work) = (zero_k, complete_too all, work ∙ (λ i. let a : Work = record { task = computes (sym node_is i); schemas = sym (same_schemas w v node y shape node_is) i; tables = sym (received_same F w v n node y kw.facts kv.facts there at node_is shape (stay F w v n node y kw kv shape there at node_is (slotted node.node.kind is) taken outs ends quiet h.morsels) all) i } in a))

  pub reduce_quiet : KeepsTurn v n y → (is_giving y.progress.stage ≡ true → WholeSlots w n node) → ((p : Pipe) → Leaves v n p → IsComplete p → ((x : Pipe) × Leaves w n x × IsComplete x) ⊎ (AllComplete v n × (0 < y.progress.sent))) → KeepsReduce F v n y
  reduce_quiet turn whole completes =
      record {
        turn = turn;
        morsels = morsels_quiet F w v n node y kw kv shape there at node_is (slotted node.node.kind is) taken outs ends quiet h.morsels;
        whole = λ g. whole_quiet F w v n node y kw kv shape there at node_is (slotted node.node.kind is) taken outs ends quiet h.morsels (whole g);
        sent_all = λ more. complete_too (h.sent_all (omega (arith, sent, more)));
        gives =
            gives_keep F w v n (RowWork w n node) (RowWork v n y) (IsKeptOf w n node 0) (IsKeptOf v n y 0) (AllComplete w n × (0 < node.progress.sent)) (AllComplete v n × (0 < y.progress.sent)) work_on (kept_quiet F w v n node y kw kv shape there at node_is (slotted node.node.kind is) taken outs ends quiet h.morsels) (λ q rs k r. silent F w n node q rs k r)
            (λ p k rs l e. let x = quiet p l.0 in inl (x.0, (x.1, ap (λ (j : Joins). j.sender) (sym x.2) ∙ l.1), ap (λ xs. slice_get xs k) (sym x.3) ∙ e)) (λ q c e. inl (subst (λ qs. Contains qs q) outs c)) (λ p l c. of (completes p l c)) h.gives;
      }
    where
      of : ((x : Pipe) × Leaves w n x × IsComplete x) ⊎ (AllComplete v n × (0 < y.progress.sent)) → ((x : Pipe) × Leaves w n x × IsComplete x × (AllComplete w n × (0 < node.progress.sent) → AllComplete v n × (0 < y.progress.sent))) ⊎ (AllComplete v n × (0 < y.progress.sent))
      of (inr g) = inr g
      of (inl (x, l, c)) = inl (x, l, c, λ a. (complete_too a.0, let more = a.1 in omega (arith, sent, more)))

-- AN UPDATE
makes_same : (F : Functions) (o : Options) (p : PhysicalNode) (kind : PhysicalKind) (ss : List Fields) (a b : Progress) → IsReduce kind → Makes F o p kind ss a b → b ≡ a
makes_same F o p (reduce es) ss a b r e = e
makes_same F o p kind ss a b r e = absurd (let no : false ≡ true = r in cc)

turn_taken : (F : Functions) (o : Options) (p : PhysicalNode) (ss : List Fields) (given : Sides) (a b : Progress) → IsReduce p.kind → Turns F o p ss given a b → b.taken ≡ a.taken
turn_taken F o p ss given a b r (inl s) = ap (λ (x : Progress). x.taken) s.1
turn_taken F o p ss given a b r (inr s) = ap (λ (x : Progress). x.taken) s.3 ∙ ap (λ (x : Progress). x.taken) (makes_same F o p p.kind ss a s.1 r s.2)

given_is : (o : Options) (kind : PhysicalKind) (a : Progress) → IsReduce kind → has_given_all o kind a ≡ true → 0 < a.sent
given_is o (reduce es) a r e = let t : nat_lt 0 a.sent ≡ true = e in grind (arith, t, nat_tests)
given_is o kind a r e = absurd (let no : false ≡ true = r in cc)

module _ (F : Functions) (w : World) (m : ℕ) (other : Node) (progress : Progress) (o : Orderly F w) (shut : w.is_open ≡ false) (t : TurnsAt F w m other progress) (kv : Known F (turned w m other progress t.0)) (shape : shape_of (turned w m other progress t.0) ≡ shape_of w) (run : w.ending ≡ running) where
  abbrev v : World
  v = turned w m other progress t.0

  abbrev new : Node
  new = record other { progress = progress }

  quiet : Quiet w v
  quiet q c = let x = turned_from w m other progress t.0 q c in (x.0, x.1, x.2.joins, x.2.got, λ d. complete_turned F w m other progress o shut t.0 x.0 q x.2 d)

  -- THE REDUCE ITSELF
  module _ (is : IsReduce other.node.kind) (h : KeepsReduce F w m other) (turn : KeepsTurn v m new) (at : slice_get v.nodes m ≡ Some new) (done : DoneFits w m) where
    kp : Keeper other.node.kind
    kp = keeper other.node.kind (keeps other.node.kind is)

    sent : progress.sent ≡ other.progress.sent
    sent = (turn_leaves F w.options other.node (schemas_for w other) (given_at w m) other.progress progress t.2).sent

    taken : progress.taken ≡ other.progress.taken
    taken = turn_taken F w.options other.node (schemas_for w other) (given_at w m) other.progress progress is t.2

    whole : is_giving progress.stage ≡ true → WholeSlots w m other
    whole g = by (is_giving other.progress.stage) refl
      where
        not_false : (b : Bool) → b ≡ false → not b ≡ true
        not_false false e = refl
        not_false true e = absurd (let no : true ≡ false = e in cc)

        by : (b : Bool) → is_giving other.progress.stage ≡ b → WholeSlots w m other
        by true e = h.whole e
        by false e =
            let stage = new_stage F w m other progress o shut t kv shape (keeps other.node.kind is) h.turn in
            let why = starts other.progress.stage (is_done (first_port (given_at w m).outputs)) (all_done (given_at w m).inputs && is_filled other.node.kind other.progress) (has_given_all w.options other.node.kind other.progress) (not_false (is_giving other.progress.stage) e) (ap is_giving (sym stage) ∙ g) in
            all_kept F w m other o shut t.0 (keeps other.node.kind is) (slotted other.node.kind is) h.turn h.morsels run done why.2 (both_true (all_done (given_at w m).inputs) (is_filled other.node.kind other.progress) why.1).0 why.0

    completes : (p : Pipe) → Leaves v m p → IsComplete p → ((x : Pipe) × Leaves w m x × IsComplete x) ⊎ (AllComplete v m × (0 < progress.sent))
    completes p l c =
        let x = turned_from w m other progress t.0 p l.0 in
        by x.0 (x.1, ap (λ (j : Joins). j.sender) (sym x.2.joins) ∙ l.1) (newly F w m other progress o shut t.0 x.0 p x.1 x.2 c)
      where
        by : (x : Pipe) → Leaves w m x → IsComplete x ⊎ Newly F w m other progress o shut t.0 x p → ((z : Pipe) × Leaves w m z × IsComplete z) ⊎ (AllComplete v m × (0 < progress.sent))
        by x lx (inl was) = inl (x, lx, was)
        by x lx (inr now) = inr (of (kept_at (given_at w m).outputs (keeper_answer progress.stage (given_at w m)).outputs x.wire.port x.wire.receive_state x.wire.send_state (state_out F w m other o shut t.0 (keeps other.node.kind is) h.turn x lx) now.sent (ap (λ (z : Sides). is_done (get_or z.outputs x.wire.port x.wire.send_state)) (sym (says F w m other progress o shut t kv shape (keeps other.node.kind is) h.turn)) ∙ now.said)))
          where
            why : HasGivenAll v new ⊎ IsReadOut w m → AllComplete v m × (0 < progress.sent)
            why (inr r) = absurd (never (is_done x.wire.receive_state) (r x lx) now.reader)
            why (inl g) =
                let more = given_is w.options other.node.kind progress is g in
                (complete F w v m other new o.known kv shape t.0 at refl (slotted other.node.kind is) taken refl (λ on. on) quiet h.morsels (h.sent_all (omega (arith, more, sent))), more)

            of : (is_done x.wire.receive_state ≡ true) ⊎ (is_done (get_or (keeper_answer progress.stage (given_at w m)).outputs x.wire.port x.wire.send_state) ≡ true) → AllComplete v m × (0 < progress.sent)
            of (inl d) = absurd (never (is_done x.wire.receive_state) d now.reader)
            of (inr said) = why (spent_why F w m other progress o shut t kv shape (keeps other.node.kind is) h.turn (says_out progress.stage (given_at w m) x.wire.port x.wire.send_state now.sent said))

    turned_here : KeepsReduce F v m new
    turned_here = reduce_quiet F w v m other new o.known kv shape t.0 at refl is sent taken refl (λ on. on) quiet h turn whole completes

  -- ANY NODE
  pub reduce_turned : (n : ℕ) (node y : Node) → slice_get w.nodes n ≡ Some node → slice_get v.nodes n ≡ Some y → IsReduce node.node.kind → DoneFits w n → KeepsReduce F w n node → KeepsReduce F v n y
  reduce_turned n node y there at is done h = by (cases_eq n m)
    where
      by : (n ≡ m) ⊎ (n ≢ m) → KeepsReduce F v n y
      by (inr apart) =
          let same = same_node w n y node (same_there w.nodes m n other new y t.0 at apart) there in
          let at_node : slice_get v.nodes n ≡ Some node = at ∙ ap Some same in
          subst (KeepsReduce F v n) (sym same)
          (reduce_quiet F w v n node node o.known kv shape there at_node refl is refl refl refl (λ on. on) quiet h (turn_turned F w m other progress o shut t kv shape n node node there at_node (keeps node.node.kind is) h.turn) h.whole
          (λ p l c. let x = turned_from w m other progress t.0 p l.0 in old x.0 (x.1, ap (λ (j : Joins). j.sender) (sym x.2.joins) ∙ l.1) p (newly F w m other progress o shut t.0 x.0 p x.1 x.2 c)))
        where
          old : (x : Pipe) → Leaves w n x → (p : Pipe) → IsComplete x ⊎ Newly F w m other progress o shut t.0 x p → ((z : Pipe) × Leaves w n z × IsComplete z) ⊎ (AllComplete v n × (0 < node.progress.sent))
          old x l p (inl was) = inl (x, l, was)
          old x l p (inr now) = absurd (apart (sym l.1 ∙ now.from))
      by (inl here) =
          let node_is = same_node w n node other there (ap (slice_get w.nodes) here ∙ t.0) in
          let y_is = new_here w.nodes m n other new y t.0 at here in
          let turn : KeepsTurn v m new = subst (λ j. KeepsTurn v j new) here (subst (KeepsTurn v n) (sym y_is) (turn_turned F w m other progress o shut t kv shape n node y there at (keeps node.node.kind is) h.turn)) in
          let at_new : slice_get v.nodes m ≡ Some new = ap (slice_get v.nodes) (sym here) ∙ at ∙ ap Some (sym y_is) in
          let old : KeepsReduce F w m other = subst (λ j. KeepsReduce F w j other) here (subst (KeepsReduce F w n) node_is h) in
          subst (KeepsReduce F v n) y_is (subst (λ j. KeepsReduce F v j new) (sym here) (turned_here (subst (λ (z : Node). IsReduce z.node.kind) node_is is) old turn at_new (subst (DoneFits w) here done)))

-- A FILL
no_map : (kind : PhysicalKind) → IsReduce kind → is_user_map kind ≡ true → ⊥
no_map (reduce es) r e = let no : false ≡ true = e in cc
no_map kind r e = let no : false ≡ true = r in cc

module _ (F : Functions) (w : World) (m : ℕ) (other : Node) (progress : Progress) (o : Orderly F w) (t : FillsAt F w m other progress) (kv : Known F (filled w m other progress)) (shape : shape_of (filled w m other progress) ≡ shape_of w) where
  pub reduce_filled : (n : ℕ) (node y : Node) → slice_get w.nodes n ≡ Some node → slice_get (filled w m other progress).nodes n ≡ Some y → IsReduce node.node.kind → KeepsReduce F w n node → KeepsReduce F (filled w m other progress) n y
  reduce_filled n node y there at is h = by (cases_eq n m)
    where
      by : (n ≡ m) ⊎ (n ≢ m) → KeepsReduce F (filled w m other progress) n y
      by (inl here) = let same = same_node w n node other there (ap (slice_get w.nodes) here ∙ t.0) in absurd (no_map other.node.kind (subst (λ (z : Node). IsReduce z.node.kind) same is) (waits other.node.kind other.progress (given_at w m) t.1.0).is_map)
      by (inr apart) =
          let same = same_node w n y node (same_there w.nodes m n other (record other { progress = progress }) y t.0 at apart) there in
          let at_node : slice_get (filled w m other progress).nodes n ≡ Some node = at ∙ ap Some same in
          subst (KeepsReduce F (filled w m other progress) n) (sym same)
          (reduce_quiet F w (filled w m other progress) n node node o.known kv shape there at_node refl is refl refl refl (λ on. on) (λ q c. (q, c, refl, refl, λ d. d)) h (turn_filled F w m other progress t n node node there at_node h.turn) h.whole (λ p l c. inl (p, l, c)))
