-- Updates, fills and Opens keep what is kept of a keeper's stage; and what it says it is done with was sent to its end, or nobody wants its rows.
use Rattle.std.proofs.Common.{◌≡◌, ◌≢◌, ℕ, zero, suc, ◌⊎◌, Bool, true, false, cond, List, [], ◌∷◌, Some, refl, sym, ap, subst, ◌∙◌, inl, inr, arith}
use Rattle.std.specs.Prelude.{Contains, get_or, nat_eq, slice_get, slice_set, ◌&&◌, ◌||◌}
use Rattle.std.proofs.lemmas.Bool.{cases_eq}
use Rattle.std.proofs.lemmas.Bool.Decides.{nat_tests}
use Rattle.ps_frame.specs.Functions.{Functions}
use Rattle.ps_ports.specs.Ports.{Sides, all_done, first_port, is_done, kept_done, kept_state}
use Rattle.ps_ports.specs.Wires.{Wire}
use Rattle.ps_ports.specs.declared.port_state.PortState.{PortState}
use Rattle.ps_ports.specs.declared.port_state.PortState.TheVariants as port
use Rattle.ps_turns.specs.Progress.{Progress, is_spent, is_taking}
use Rattle.ps_turns.specs.Updates.{Turns, has_given_all, is_filled, keeper_answer, next_stage, stage_after}
use Rattle.ps_world.specs.Facts.{HasNoUse, Joins, is_over_slice}
use Rattle.ps_world.specs.Updates.{FillsAt, TurnsAt, empty_outs, given_at, received, sent}
use Rattle.ps_world.specs.World.{Node, Pipe, World, heads_of, schemas_for, shape_of}
use Rattle.turn_laws.proofs.Turned.{turn_stage, waits}
use Rattle.world_claims.specs.Numbering.{Known}
use Rattle.world_facts.proofs.CutOff.{both_true}
use Rattle.world_facts.proofs.Slots.{set_here, set_other}
use Rattle.world_families.proofs.Members.{nothing_is}
use Rattle.world_families.specs.Keepers.{TakesFirst}
use Rattle.world_families.specs.Sources.{HasGivenAll}
use Rattle.world_families.specs.Work.{Enters, IsComplete, Leaves}
use Rattle.world_laws.proofs.Agree.{from_map}
use Rattle.family_pipes.proofs.SourceSteps.{same_node}
use Rattle.family_keeps.proofs.Done.{AllOnward, DoneFits, StaysOver, no_use_on, sent_cases}
use Rattle.family_keeps.proofs.Turns.{turn_leaves}
use Rattle.orderly_worlds.proofs.Orderly.{Orderly, all_done_at, complete_turned}
use Rattle.orderly_worlds.proofs.PortPipes.{given_input, given_output}
use Rattle.orderly_worlds.proofs.Says.{kept_at, reader_pipe}
use Rattle.orderly_worlds.proofs.Stands.{Stands}
use Rattle.orderly_worlds.proofs.Turned.{Turned, answer, turned, turned_from, written_pipe, turns}
use Rattle.streaming_ports.proofs.OnePort.{one_state}
use Rattle.node_keeps.proofs.Law.{filled}
use Rattle.node_keeps.proofs.SameTurn.{SameTurn}
use Rattle.keeper_laws.proofs.Says.{IsKeeper, Keeper, given_same, keeper, no_more, not_all, now_spent, says_in, still_takes, took_all}
use Rattle.keeper_laws.proofs.Turn.{IsReadOut, KeepsTurn, one_out}

never : (b : Bool) → b ≡ true → b ≡ false → ⊥
never b t f = let no : true ≡ false = sym t ∙ f in cc

or_last : (a b : Bool) → b ≡ true → (a || b) ≡ true
or_last true b e = refl
or_last false b e = e

eq_true : (k m : ℕ) → k ≡ m → nat_eq k m ≡ true
eq_true k m e = grind (arith, nat_tests)

-- WHILE WIRES STAY
-- each pipe has the ends of one before, and is dropped where it was
abbrev pub SameEnds : World → World → Type 0
SameEnds w v = (p : Pipe) → Contains v.pipes p → (x : Pipe) × Contains w.pipes x × (p.wire ≡ x.wire) × (p.is_dropped ≡ x.is_dropped)

module _ (w v : World) (n : ℕ) (node y : Node) (ends : SameEnds w v) where
  first_kept : is_taking y.progress.stage ≡ is_taking node.progress.stage → TakesFirst w n node → TakesFirst v n y
  first_kept same h =
      record {
        takes = λ t p l. let x = ends p l.0 in x.3 ∙ h.takes (sym same ∙ t) x.0 (x.1, ap (λ (u : Wire). u.sender) (sym x.2) ∙ l.1);
        took = λ t q e. let x = ends q e.0 in ap (λ (u : Wire). is_done u.receive_state) x.2 ∙ h.took (sym same ∙ t) x.0 (x.1, ap (λ (u : Wire). u.receiver) (sym x.2) ∙ e.1);
      }

  pub turn_kept : v.options ≡ w.options → Stands node y → SameTurn node.progress y.progress → IsKeeper node.node.kind → KeepsTurn w n node → KeepsTurn v n y
  turn_kept options st same is h =
      record {
        first = first_kept (ap is_taking same.stage) h.first;
        unsent = λ t. st.sent ∙ h.unsent (ap is_taking (sym same.stage) ∙ t);
        gave = λ t. by (h.gave (ap is_spent (sym same.stage) ∙ t));
      }
    where
      by : HasGivenAll w node ⊎ IsReadOut w n → HasGivenAll v y ⊎ IsReadOut v n
      by (inl all) = inl ((λ i. has_given_all (options i) (st.node i).kind y.progress) ∙ given_same w.options node.node.kind node.progress y.progress is same st.sent ∙ all)
      by (inr r) = inr (λ p l. let x = ends p l.0 in ap (λ (u : Wire). is_done u.receive_state) x.2 ∙ r x.0 (x.1, ap (λ (u : Wire). u.sender) (sym x.2) ∙ l.1))

-- the node of a number after a change of one node
module _ (nodes : List Node) (m n : ℕ) (other new y : Node) (at_m : slice_get nodes m ≡ Some other) (at : slice_get (slice_set nodes m new) n ≡ Some y) where
  pub new_here : n ≡ m → new ≡ y
  new_here here = let there : slice_get (slice_set nodes m new) n ≡ Some new = ap (slice_get (slice_set nodes m new)) here ∙ set_here nodes m other new at_m in let q : Some new ≡ Some y = sym there ∙ at in cc

  pub same_there : n ≢ m → slice_get nodes n ≡ Some y
  same_there apart = sym (set_other nodes m n new apart) ∙ at

-- A FILL
module _ (F : Functions) (w : World) (m : ℕ) (other : Node) (progress : Progress) (t : FillsAt F w m other progress) (n : ℕ) (node y : Node) (there : slice_get w.nodes n ≡ Some node) (at : slice_get (filled w m other progress).nodes n ≡ Some y) (h : KeepsTurn w n node) where
  pub turn_filled : KeepsTurn (filled w m other progress) n y
  turn_filled = by (cases_eq n m)
    where
      v : World
      v = filled w m other progress

      ends : SameEnds w (filled w m other progress)
      ends p c = (p, c, refl, refl)

      by : (n ≡ m) ⊎ (n ≢ m) → KeepsTurn v n y
      by (inr apart) = let same = same_node w n y node (same_there w.nodes m n other (record other { progress = progress }) y t.0 at apart) there in subst (KeepsTurn v n) (sym same) (record { first = first_kept w v n node node ends refl h.first; unsent = h.unsent; gave = h.gave })
      by (inl here) =
          let node_is = same_node w n node other there (ap (slice_get w.nodes) here ∙ t.0) in
          let y_is = new_here w.nodes m n other (record other { progress = progress }) y t.0 at here in
          let stage : progress.stage ≡ other.progress.stage = ap (λ (z : Progress). z.stage) t.1.3 in
          let took = (waits other.node.kind other.progress (given_at w m) t.1.0).takes in
          let old : KeepsTurn w n other = subst (KeepsTurn w n) node_is h in
          subst (KeepsTurn v n) y_is
          (record {
            first = first_kept w v n other (record other { progress = progress }) ends (ap is_taking stage) old.first;
            unsent = λ e. ap (λ (z : Progress). z.sent) t.1.3 ∙ old.unsent (ap is_taking took);
            gave = λ e. absurd (not_all other.progress.stage (ap is_taking took) (ap is_spent (sym stage) ∙ e));
          })

-- WHAT AN UPDATE WRITES
kept_done_at : (olds news : List PortState) (k : ℕ) (old d : PortState) → slice_get olds k ≡ Some old → is_done (get_or news k d) ≡ true → is_done (get_or (kept_done olds news) k d) ≡ true
kept_done_at [] news k old d at now = absurd (nothing_is old at)
kept_done_at (o ∷ olds) [] k old d at now = now
kept_done_at (o ∷ olds) (n ∷ news) zero old d at now = by o
  where
    by : (s : PortState) → is_done (kept_state s n) ≡ true
    by port.Done = refl
    by port.Ready = now
    by port.Blocked = now
kept_done_at (o ∷ olds) (n ∷ news) (suc k) old d at now = kept_done_at olds news k old d at now

kept_now : (old new : PortState) → is_done new ≡ true → is_done (kept_state old new) ≡ true
kept_now port.Done new e = refl
kept_now port.Ready new e = e
kept_now port.Blocked new e = e

sent_same : (b : Bool) (s : PortState) (q : Pipe) → (cond b (sent s q) q).wire.receive_state ≡ q.wire.receive_state
sent_same true s q = refl
sent_same false s q = refl

received_now : (m : ℕ) (a : Sides) (x : Pipe) → x.wire.receiver ≡ m → is_done (get_or a.inputs x.wire.input x.wire.receive_state) ≡ true → is_done (written_pipe m a x).wire.receive_state ≡ true
received_now m a x e now =
    let q = cond (nat_eq x.wire.receiver m) (received (get_or a.inputs x.wire.input x.wire.receive_state) x) x in
    ap is_done (sent_same (nat_eq q.wire.sender m) (get_or a.outputs q.wire.port q.wire.send_state) q)
    ∙ ap (λ b. is_done (cond b (received (get_or a.inputs x.wire.input x.wire.receive_state) x) x).wire.receive_state) (eq_true x.wire.receiver m e) ∙ kept_now x.wire.receive_state (get_or a.inputs x.wire.input x.wire.receive_state) now

-- AN UPDATE
module _ (F : Functions) (w : World) (m : ℕ) (other : Node) (progress : Progress) (o : Orderly F w) (shut : w.is_open ≡ false) (t : TurnsAt F w m other progress) (kv : Known F (turned w m other progress t.0)) (shape : shape_of (turned w m other progress t.0) ≡ shape_of w) where
  abbrev v : World
  v = turned w m other progress t.0

  abbrev a : Sides
  a = answer w m other progress t.0

  abbrev given : Sides
  given = given_at w m

  state_in : (x : Pipe) → Enters w m x → slice_get given.inputs x.wire.input ≡ Some x.wire.send_state
  state_in x e = ap (λ k. slice_get (given_at w k).inputs x.wire.input) (sym e.1) ∙ given_input F w o.known.facts x e.0

  state_out : (x : Pipe) → Leaves w m x → slice_get given.outputs x.wire.port ≡ Some x.wire.receive_state
  state_out x l = ap (λ k. slice_get (given_at w k).outputs x.wire.port) (sym l.1) ∙ given_output F w o.known.facts x l.0

  -- THE KEEPER ITSELF
  module _ (is : IsKeeper other.node.kind) (h : KeepsTurn w m other) where
    k : Keeper other.node.kind
    k = keeper other.node.kind is

    pub says : a ≡ record { inputs = kept_done given.inputs (keeper_answer progress.stage given).inputs; outputs = kept_done given.outputs (keeper_answer progress.stage given).outputs }
    says = λ i. record { inputs = kept_done given.inputs (k.says w.options progress (heads_of w m other) (empty_outs w m) given i).inputs; outputs = kept_done given.outputs (k.says w.options progress (heads_of w m other) (empty_outs w m) given i).outputs }

    abbrev pub out : Bool
    out = is_done (first_port given.outputs)

    abbrev pub ins : Bool
    ins = all_done given.inputs && is_filled other.node.kind other.progress

    abbrev pub all : Bool
    all = has_given_all w.options other.node.kind other.progress

    pub new_stage : progress.stage ≡ next_stage other.progress.stage out ins all
    new_stage = turn_stage F w.options other.node (schemas_for w other) given other.progress progress t.2 ∙ k.stage w.options other.progress given

    onward : AllOnward w v
    onward y c = let x = turned_from w m other progress t.0 y c in (x.0, x.1, record { joins = x.2.joins; dropped = λ d. x.2.dropped ∙ d; received = x.2.received_on })

    stays_over : StaysOver w v m
    stays_over x y before after e =
        let same = same_node w m x other before t.0 in
        absurd (never (is_over_slice other.node.kind x.progress.booked) (ap (λ (z : Node). is_over_slice z.node.kind x.progress.booked) (sym same) ∙ e) (k.never_over x.progress.booked))

    -- where its output is done all that leaves it is
    pub out_read : out ≡ true → IsReadOut w m
    out_read e x l =
        let one = one_state given.outputs x.wire.port x.wire.receive_state (one_out F w m other o.known t.0 k) (state_out x l) in
        ap (λ ss. is_done (first_port ss)) (sym one.1) ∙ e

    no_use : out ≡ true → (x : Pipe) → Enters w m x → HasNoUse w m
    no_use e x c = by (first_of given.outputs e)
      where
        first_of : (ss : List PortState) → is_done (first_port ss) ≡ true → (s : PortState) × (slice_get ss 0 ≡ Some s)
        first_of [] q = absurd (let bad : false ≡ true = q in cc)
        first_of (s ∷ ss) q = (s, refl)

        by : (s : PortState) × (slice_get given.outputs 0 ≡ Some s) → HasNoUse w m
        by (s, at) = let z = reader_pipe w m 0 s at in inr (z.0, z.1, z.2, λ q cq from. or_last q.is_dropped (is_done q.wire.receive_state) (out_read e q (cq, from)))

    -- WHY AN INPUT IS DONE
    pub keeper_done : DoneFits w m → DoneFits v m
    keeper_done done y c d =
        let x = turned_from w m other progress t.0 y c.0 in
        by x.0 (x.1, ap (λ (j : Joins). j.receiver) (sym x.2.joins) ∙ c.1) x.2 (is_done x.0.wire.receive_state) refl (x.2.received_new d)
      where
        of : (x : Pipe) → Turned m a x y → IsComplete x ⊎ HasNoUse w m → IsComplete y ⊎ HasNoUse v m
        of x u (inl is) = inl (complete_turned F w m other progress o shut t.0 x y u is)
        of x u (inr none) = inr (no_use_on F w v o.known kv shape onward m stays_over none)

        cases : (x : Pipe) → Enters w m x → is_done x.wire.send_state ≡ true → IsComplete x ⊎ HasNoUse w m
        cases x e s = sent_cases F w m other progress o shut t.0 (turn_leaves F w.options other.node (schemas_for w other) given other.progress progress t.2).booked m x e s done

        told : (x : Pipe) → Enters w m x → is_done x.wire.receive_state ≡ false → (is_taking other.progress.stage ≡ false) ⊎ (out ≡ true) ⊎ (ins ≡ true) → IsComplete x ⊎ HasNoUse w m
        told x e none (inl off) = absurd (never (is_done x.wire.receive_state) (h.first.took off x e) none)
        told x e none (inr (inl read)) = inr (no_use read x e)
        told x e none (inr (inr all_in)) = cases x e (all_done_at given.inputs x.wire.input x.wire.send_state (both_true (all_done given.inputs) (is_filled other.node.kind other.progress) all_in).0 (state_in x e))

        now_done : (x : Pipe) → Enters w m x → is_done x.wire.receive_state ≡ false → (is_done x.wire.send_state ≡ true) ⊎ (is_done (get_or (keeper_answer progress.stage given).inputs x.wire.input x.wire.receive_state) ≡ true) → IsComplete x ⊎ HasNoUse w m
        now_done x e none (inl s) = cases x e s
        now_done x e none (inr now) = told x e none (no_more other.progress.stage out ins all (ap is_taking (sym new_stage) ∙ says_in progress.stage given x.wire.input x.wire.receive_state none now))

        by : (x : Pipe) → Enters w m x → Turned m a x y → (b : Bool) → is_done x.wire.receive_state ≡ b → (is_done x.wire.receive_state ≡ true) ⊎ (x.wire.receiver ≡ m) × (is_done (get_or a.inputs x.wire.input x.wire.receive_state) ≡ true) → IsComplete y ⊎ HasNoUse v m
        by x e u true was new = of x u (done x e was)
        by x e u false was (inl is) = absurd (never (is_done x.wire.receive_state) is was)
        by x e u false was (inr (here, now)) =
            of x u (now_done x e was (kept_at given.inputs (keeper_answer progress.stage given).inputs x.wire.input x.wire.send_state x.wire.receive_state (state_in x e) was (ap (λ (z : Sides). is_done (get_or z.inputs x.wire.input x.wire.receive_state)) (sym says) ∙ now)))

    -- ITS STAGE
    abbrev new : Node
    new = record other { progress = progress }

    sent_is : progress.sent ≡ other.progress.sent
    sent_is = (turn_leaves F w.options other.node (schemas_for w other) given other.progress progress t.2).sent

    given_now : is_spent progress.stage ≡ true → all ≡ true → HasGivenAll v new
    given_now e g = by t.2
      where
        by : Turns F w.options other.node (schemas_for w other) given other.progress progress → HasGivenAll v new
        by (inl s) = ap (λ (z : Progress). has_given_all w.options other.node.kind z) s.1 ∙ k.given w.options other.progress (stage_after w.options other.node.kind other.progress given) ∙ g
        by (inr s) = absurd (let no : false ≡ true = sym (ap (λ (z : Progress). is_spent z.stage) s.3) ∙ e in cc)

    -- it is spent: it gave all, or its output was read to its end
    pub spent_why : is_spent progress.stage ≡ true → HasGivenAll v new ⊎ IsReadOut w m
    spent_why e = by (now_spent other.progress.stage out ins all (ap is_spent (sym new_stage) ∙ e))
      where
        old : HasGivenAll w other ⊎ IsReadOut w m → HasGivenAll v new ⊎ IsReadOut w m
        old (inl g) = inl (given_now e g)
        old (inr r) = inr r

        by : (out ≡ true) ⊎ (all ≡ true) ⊎ (is_spent other.progress.stage ≡ true) → HasGivenAll v new ⊎ IsReadOut w m
        by (inl read) = inr (out_read read)
        by (inr (inl g)) = inl (given_now e g)
        by (inr (inr was)) = old (h.gave was)

    turned_here : KeepsTurn v m new
    turned_here =
        record {
          first = record { takes = takes; took = took };
          unsent = λ e. sent_is ∙ h.unsent (still_takes other.progress.stage out ins all (ap is_taking (sym new_stage) ∙ e));
          gave = λ e. spent (spent_why e);
        }
      where
        takes : is_taking progress.stage ≡ true → (p : Pipe) → Leaves v m p → p.is_dropped ≡ false
        takes e p l = let x = turned_from w m other progress t.0 p l.0 in x.2.dropped ∙ h.first.takes (still_takes other.progress.stage out ins all (ap is_taking (sym new_stage) ∙ e)) x.0 (x.1, ap (λ (j : Joins). j.sender) (sym x.2.joins) ∙ l.1)

        took : is_taking progress.stage ≡ false → (q : Pipe) → Enters v m q → is_done q.wire.receive_state ≡ true
        took e q c = of (from_map (written_pipe m a) q w.pipes c.0) (turned_from w m other progress t.0 q c.0)
          where
            of : (x : Pipe) × Contains w.pipes x × (written_pipe m a x ≡ q) → (z : Pipe) × Contains w.pipes z × Turned m a z q → is_done q.wire.receive_state ≡ true
            of (x, cx, is_q) z =
                let j : x.wire.receiver ≡ m = let u = (turns m a x).joins in ap (λ (j : Joins). j.receiver) (sym u) ∙ ap (λ (p : Pipe). p.wire.receiver) is_q ∙ c.1 in
                let state = state_in x (cx, j) in
                let now : is_done (get_or (keeper_answer progress.stage given).inputs x.wire.input x.wire.receive_state) ≡ true = ap is_done (took_all progress.stage given x.wire.input x.wire.send_state x.wire.receive_state e state) in
                let said = ap (λ (s : Sides). is_done (get_or s.inputs x.wire.input x.wire.receive_state)) says ∙ kept_done_at given.inputs (keeper_answer progress.stage given).inputs x.wire.input x.wire.send_state x.wire.receive_state state now in
                ap (λ (p : Pipe). is_done p.wire.receive_state) (sym is_q) ∙ received_now m a x j said

        read_on : IsReadOut w m → IsReadOut v m
        read_on r p l = let x = turned_from w m other progress t.0 p l.0 in x.2.received_on (r x.0 (x.1, ap (λ (j : Joins). j.sender) (sym x.2.joins) ∙ l.1))

        spent : HasGivenAll v new ⊎ IsReadOut w m → HasGivenAll v new ⊎ IsReadOut v m
        spent (inl g) = inl g
        spent (inr r) = inr (read_on r)

  -- ANY KEEPER
  module _ (n : ℕ) (node y : Node) (there : slice_get w.nodes n ≡ Some node) (at : slice_get v.nodes n ≡ Some y) (is : IsKeeper node.node.kind) (h : KeepsTurn w n node) where
    elsewhere : KeepsTurn v n node
    elsewhere =
        record {
          first = record { takes = λ e p l. let x = turned_from w m other progress t.0 p l.0 in x.2.dropped ∙ h.first.takes e x.0 (x.1, ap (λ (j : Joins). j.sender) (sym x.2.joins) ∙ l.1); took = λ e q c. let x = turned_from w m other progress t.0 q c.0 in x.2.received_on (h.first.took e x.0 (x.1, ap (λ (j : Joins). j.receiver) (sym x.2.joins) ∙ c.1)) };
          unsent = h.unsent;
          gave = λ e. by (h.gave e);
        }
      where
        by : HasGivenAll w node ⊎ IsReadOut w n → HasGivenAll v node ⊎ IsReadOut v n
        by (inl g) = inl g
        by (inr r) = inr (λ p l. let x = turned_from w m other progress t.0 p l.0 in x.2.received_on (r x.0 (x.1, ap (λ (j : Joins). j.sender) (sym x.2.joins) ∙ l.1)))

    pub turn_turned : KeepsTurn v n y
    turn_turned = by (cases_eq n m)
      where
        by : (n ≡ m) ⊎ (n ≢ m) → KeepsTurn v n y
        by (inr apart) = let same = same_node w n y node (same_there w.nodes m n other (record other { progress = progress }) y t.0 at apart) there in subst (KeepsTurn v n) (sym same) elsewhere
        by (inl here) =
            let node_is = same_node w n node other there (ap (slice_get w.nodes) here ∙ t.0) in
            let y_is = new_here w.nodes m n other (record other { progress = progress }) y t.0 at here in
            let old : KeepsTurn w m other = subst (λ j. KeepsTurn w j other) here (subst (KeepsTurn w n) node_is h) in
            subst (KeepsTurn v n) y_is (subst (λ j. KeepsTurn v j (record other { progress = progress })) (sym here) (turned_here (subst (λ (z : Node). IsKeeper z.node.kind) node_is is) old))
