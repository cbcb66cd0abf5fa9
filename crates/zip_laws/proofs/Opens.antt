-- The next phase keeps what is kept of a zip: where its output is of the phase, so is each input that isn't done.
use Rattle.std.proofs.Common.{◌≡◌, ℕ, zero, suc, ◌+◌, ◌⊎◌, Bool, true, false, cond, List, [], ◌∷◌, length, Some, refl, sym, ap, subst, ◌∙◌, inl, inr, arith}
use Rattle.std.specs.Prelude.{Contains, IsTrue, get_or, not, slice_get, ◌&&◌, ◌||◌}
use Rattle.std.specs.List.{list_any}
use Rattle.std.proofs.lemmas.List.{append-nil}
use Rattle.ps_frame.specs.Functions.{Functions}
use Rattle.ps_meaning.specs.Shape.{zip_node}
use Rattle.ps_meaning.specs.Sound.{HasReaders}
use Rattle.ps_ports.specs.Ports.{Sides, first_port, is_blocked, is_done, is_ready, kept_done, kept_state}
use Rattle.ps_ports.specs.Phases.{is_in_phase, is_one_of}
use Rattle.ps_ports.specs.Wires.{both_ready}
use Rattle.ps_ports.specs.declared.port_state.PortState.{PortState}
use Rattle.ps_ports.specs.declared.port_state.PortState.TheVariants as port
use Rattle.ps_turns.specs.Heads.{Head, stored_rows}
use Rattle.ps_turns.specs.Updates.{answer_by, zip_answer}
use Rattle.ps_world.specs.Phases.{intensive_at, marked_nodes, nodes_of_phase, with_phase}
use Rattle.ps_world.specs.Updates.{IsSettled, empty_outs, given_at}
use Rattle.ps_world.specs.World.{IsWorking, Node, Pipe, Record, World, heads_of, shape_of, wires_of}
use Rattle.world_claims.specs.Numbering.{Known}
use Rattle.world_facts.proofs.CutOff.{both_true}
use Rattle.world_facts.proofs.Placing.{has_readers}
use Rattle.world_laws.proofs.Agree.{from_map}
use Rattle.world_laws.proofs.InOrder.{contains_map, list_any-contains}
use Rattle.family_keeps.proofs.UnionTurns.{mark_of, unmark}
use Rattle.orderly_worlds.proofs.Orderly.{Orderly}
use Rattle.orderly_worlds.proofs.PortPipes.{given_input, given_output}
use Rattle.orderly_worlds.proofs.Stands.{Stands}
use Rattle.streaming_ports.proofs.Ports.{agree, input_says, kept_rule, output_says}
use Rattle.world_facts.proofs.HandedIn.{contains_of}
use Rattle.zip_laws.proofs.Cuts.{Beside, Grows, KeepsZip, StoresRead, zip_goes}
use Rattle.zip_laws.proofs.Ends.{goes_answer, goes_if, only_port, own_state, repeated_is}
use Rattle.world_families.proofs.Members.{nothing_is}
use Rattle.world_families.specs.Work.{Enters, IsComplete, Leaves, rows_read}

marked_at : (ns : List ℕ) (j : ℕ) (nodes : List Node) (m : ℕ) (y : Node) → slice_get (marked_nodes ns j nodes) m ≡ Some y → y.in_phase ≡ is_one_of (j + m) ns
marked_at ns j [] m y e = absurd (nothing_is y e)
marked_at ns j (x ∷ xs) zero y e =
    let q : Some (record x { in_phase = is_one_of j ns }) ≡ Some y = e in
    let is : record x { in_phase = is_one_of j ns } ≡ y = cc in
    let n : j ≡ j + 0 = omega arith in
    ap (λ (z : Node). z.in_phase) (sym is) ∙ ap (λ k. is_one_of k ns) n
marked_at ns j (x ∷ xs) (suc m) y e = let n : j + 1 + m ≡ j + suc m = omega arith in marked_at ns (j + 1) xs m y e ∙ ap (λ k. is_one_of k ns) n

kept_ready : (old new : PortState) → is_ready (kept_state old new) ≡ true → is_ready new ≡ true
kept_ready port.Done new e = absurd (let no : false ≡ true = e in cc)
kept_ready port.Ready new e = e
kept_ready port.Blocked new e = e

-- a port that is ready isn't done
not_done : (s : PortState) → is_ready s ≡ true → is_done s ≡ false
not_done port.Ready e = refl
not_done port.Done e = absurd (let no : false ≡ true = e in cc)
not_done port.Blocked e = absurd (let no : false ≡ true = e in cc)

not_blocked : (s : PortState) → is_ready s ≡ true → is_blocked s ≡ false
not_blocked port.Ready e = refl
not_blocked port.Done e = absurd (let no : false ≡ true = e in cc)
not_blocked port.Blocked e = absurd (let no : false ≡ true = e in cc)

only_ready : (s : PortState) → is_done s ≡ false → is_blocked s ≡ false → is_ready s ≡ true
only_ready port.Ready d b = refl
only_ready port.Done d b = absurd (let no : true ≡ false = d in cc)
only_ready port.Blocked d b = absurd (let no : true ≡ false = b in cc)

unblocked_at : (ss : List PortState) (k : ℕ) (s : PortState) → slice_get ss k ≡ Some s → list_any is_blocked ss ≡ false → is_blocked s ≡ false
unblocked_at ss k s at none = by (is_blocked s) refl
  where
    by : (b : Bool) → is_blocked s ≡ b → is_blocked s ≡ false
    by false e = e
    by true e = absurd (let no : true ≡ false = sym (list_any-contains is_blocked s ss (contains_of ss k s at) e) ∙ none in cc)

-- IN A SETTLED WORLD
module _ (F : Functions) (s : World) (known : Known F s) (rest : IsSettled s) (n : ℕ) (node : Node) (extend : Bool) (there : slice_get s.nodes n ≡ Some node) (is_one : node.node.kind ≡ zip_node extend) where
  abbrev hs : List Head
  hs = heads_of s n node

  abbrev given : Sides
  given = given_at s n

  pub one_out : length given.outputs ≡ 1
  one_out = subst (λ k. HasReaders k (length given.outputs)) is_one (has_readers F s known.facts n node there)

  pub state_in : (x : Pipe) → Enters s n x → slice_get given.inputs x.wire.input ≡ Some x.wire.send_state
  state_in x e = ap (λ k. slice_get (given_at s k).inputs x.wire.input) (sym e.1) ∙ given_input F s known.facts x e.0

  pub state_out : (x : Pipe) → Leaves s n x → slice_get given.outputs x.wire.port ≡ Some x.wire.receive_state
  state_out x l = ap (λ k. slice_get (given_at s k).outputs x.wire.port) (sym l.1) ∙ given_output F s known.facts x l.0

  pub out_is : (x : Pipe) → Leaves s n x → (first_port given.outputs ≡ x.wire.receive_state) × (x.wire.port ≡ 0)
  out_is x l = only_port given.outputs x.wire.port x.wire.receive_state one_out (state_out x l)

  pub says_in : (x : Pipe) → Enters s n x → x.wire.receive_state ≡ kept_state x.wire.receive_state (get_or (kept_done given.inputs (zip_answer hs given).inputs) x.wire.input x.wire.receive_state)
  says_in x e = input_says F s known rest n node there x e.0 e.1 ∙ (λ i. kept_state x.wire.receive_state (get_or (kept_done given.inputs (answer_by s.options (is_one i) node.progress hs (empty_outs s n) given).inputs) x.wire.input x.wire.receive_state))

  pub says_out : (x : Pipe) → Leaves s n x → x.wire.send_state ≡ kept_state x.wire.send_state (get_or (kept_done given.outputs (zip_answer hs given).outputs) x.wire.port x.wire.send_state)
  says_out x l = output_says F s known rest n node there x l.0 l.1 ∙ (λ i. kept_state x.wire.send_state (get_or (kept_done given.outputs (answer_by s.options (is_one i) node.progress hs (empty_outs s n) given).outputs) x.wire.port x.wire.send_state))

  -- an input that isn't done says what its rule gives
  pub live_in : (x : Pipe) → Enters s n x → is_done x.wire.send_state ≡ false → x.wire.receive_state ≡ get_or (zip_answer hs given).inputs x.wire.input x.wire.receive_state
  live_in x e unsent =
      says_in x e ∙ ap (kept_state x.wire.receive_state) (kept_rule given.inputs (zip_answer hs given).inputs x.wire.input x.wire.send_state x.wire.receive_state (state_in x e) unsent)
      ∙ kept_new x.wire.receive_state (get_or (zip_answer hs given).inputs x.wire.input x.wire.receive_state) (sym (agree F s known rest n node there x.wire (contains_map (λ (z : Pipe). z.wire) x s.pipes e.0)) ∙ unsent)
    where
      kept_new : (old new : PortState) → is_done old ≡ false → kept_state old new ≡ new
      kept_new port.Done new e = absurd (let no : true ≡ false = e in cc)
      kept_new port.Ready new e = refl
      kept_new port.Blocked new e = refl

  -- the output too
  pub live_out : (x : Pipe) → Leaves s n x → is_done x.wire.receive_state ≡ false → x.wire.send_state ≡ get_or (zip_answer hs given).outputs 0 x.wire.send_state
  live_out x l unread =
      says_out x l ∙ ap (kept_state x.wire.send_state) (kept_rule given.outputs (zip_answer hs given).outputs x.wire.port x.wire.receive_state x.wire.send_state (state_out x l) unread)
      ∙ kept_new x.wire.send_state (get_or (zip_answer hs given).outputs x.wire.port x.wire.send_state) (agree F s known rest n node there x.wire (contains_map (λ (z : Pipe). z.wire) x s.pipes l.0) ∙ unread)
      ∙ ap (λ k. get_or (zip_answer hs given).outputs k x.wire.send_state) (out_is x l).1
    where
      kept_new : (old new : PortState) → is_done old ≡ false → kept_state old new ≡ new
      kept_new port.Done new e = absurd (let no : true ≡ false = e in cc)
      kept_new port.Ready new e = refl
      kept_new port.Blocked new e = refl

  -- where the output is ready on both ends, so are the inputs that aren't done
  pub inputs_ready : (p : Pipe) → Leaves s n p → both_ready p.wire ≡ true → (q : Pipe) → Enters s n q → is_done q.wire.send_state ≡ false → both_ready q.wire ≡ true
  inputs_ready p l ready q e unsent =
      let a = both_true (is_ready p.wire.send_state) (is_ready p.wire.receive_state) ready in
      let says = live_out p l (not_done p.wire.receive_state a.1) in
      let g = goes_if hs given p.wire.send_state (ap is_ready (sym says) ∙ a.0) in
      let here = goes_answer hs given g in
      let open_out : is_blocked (first_port given.outputs) ≡ false = ap is_blocked (out_is p l).0 ∙ not_blocked p.wire.receive_state a.1 in
      let own : own_state hs given ≡ port.Ready = ap (λ b. cond b port.Blocked port.Ready) open_out in
      let received : q.wire.receive_state ≡ port.Ready = live_in q e unsent ∙ ap (λ (z : Sides). get_or z.inputs q.wire.input q.wire.receive_state) here ∙ repeated_is (own_state hs given) given.inputs q.wire.input q.wire.send_state q.wire.receive_state (state_in q e) ∙ own in
      let sent = only_ready q.wire.send_state unsent (unblocked_at given.inputs q.wire.input q.wire.send_state (state_in q e) g.waits) in
      λ i. sent i && is_ready (received i)

-- AN OPEN
module _ (F : Functions) (s : World) (phase : ℕ) (journal : List Record) (n : ℕ) (node y : Node) (extend : Bool) (o : Orderly F s) (shut : s.is_open ≡ false) (rest : IsSettled s) (kv : Known F (record (with_phase s) { phase = phase; journal = journal })) (shape : shape_of (with_phase s) ≡ shape_of s)
    (there : slice_get s.nodes n ≡ Some node) (at : slice_get (with_phase s).nodes n ≡ Some y) (st : Stands node y) (same_stores : y.progress.stores ≡ node.progress.stores) (is_one : node.node.kind ≡ zip_node extend) (h : KeepsZip F s n node extend) where
  abbrev ph : World
  ph = record (with_phase s) { phase = phase; journal = journal }

  from : (q : Pipe) → Contains ph.pipes q → (x : Pipe) × Contains s.pipes x × (mark_of s x ≡ q)
  from q c = from_map (mark_of s) q s.pipes c

  back : (b : Pipe) → Enters ph n b → (x : Pipe) × Enters s n x × (b.wire.input ≡ x.wire.input) × Grows x b
  back b e =
      let x = from b e.0 in (
        x.0,
        (x.1, ap (λ (p : Pipe). p.wire.receiver) x.2 ∙ e.1),
        ap (λ (p : Pipe). p.wire.input) (sym x.2),
        record { more = []; rows = ap rows_read (sym x.2) ∙ sym (append-nil (rows_read x.0)); on = λ c. subst IsComplete x.2 (marked_complete x.0 c); none = λ c. refl },
      )
    where
      marked_complete : (x : Pipe) → IsComplete x → IsComplete (mark_of s x)
      marked_complete x c = c

  -- the pipe wasn't closed before
  fresh : (x : Pipe) → Contains s.pipes x → x.is_closed ≡ false
  fresh x c = by x.is_closed refl
    where
      by : (b : Bool) → x.is_closed ≡ b → x.is_closed ≡ false
      by false e = e
      by true e =
          let f = o.known.facts.pipes x c in
          absurd (let no : true ≡ false = sym (f.at_hand (f.closed_in_phase e)).1 ∙ shut in cc)

  opened : (a b c : Bool) → (a && (b && c)) ≡ true → b ≡ true
  opened a b c e = (both_true b c (both_true a (b && c) e).1).0

  -- the zip is of the phase
  of_phase : (p : Pipe) → Leaves ph n p → p.in_phase ≡ true → is_one_of n (nodes_of_phase s) ≡ true
  of_phase p l on =
      let x = from p l.0 in
      let works : IsWorking ph n = subst (IsWorking ph) l.1 ((kv.facts.pipes p l.0).closed_with_sender on (ap (λ (z : Pipe). z.is_closed) (sym x.2) ∙ fresh x.0 x.1)) in
      let m : 0 + n ≡ n = omega arith in
      ap (λ k. is_one_of k (nodes_of_phase s)) (sym m) ∙ sym (marked_at (nodes_of_phase s) 0 s.nodes n works.0 works.1) ∙ opened ph.is_open works.0.in_phase (not works.0.is_closed) works.2

  beside : Beside ph n
  beside begun p l on q e = by x.0 x.1 x.2 (is_done x.0.wire.send_state) refl
    where
      x : (x : Pipe) × Contains s.pipes x × (mark_of s x ≡ q)
      x = from q e.0

      z : (z : Pipe) × Contains s.pipes z × (mark_of s z ≡ p)
      z = from p l.0

      by : (x : Pipe) → Contains s.pipes x → mark_of s x ≡ q → (b : Bool) → is_done x.wire.send_state ≡ b → (q.in_phase || is_done q.wire.send_state) ≡ true
      by x c is true d = or_last q.in_phase (is_done q.wire.send_state) (ap (λ (u : Pipe). is_done u.wire.send_state) (sym is) ∙ d)
        where
          or_last : (a b : Bool) → b ≡ true → (a || b) ≡ true
          or_last true b e = refl
          or_last false b e = e
      by x c is false d =
          let zp = from p l.0 in
          let mark : is_in_phase (length s.nodes) (intensive_at s) (wires_of s) zp.0.wire ≡ true = ap (λ (u : Pipe). u.in_phase) zp.2 ∙ on in
          let ready = (both_true (both_ready zp.0.wire) (is_one_of zp.0.wire.receiver (nodes_of_phase s)) mark).0 in
          let ex : Enters s n x = (c, ap (λ (u : Pipe). u.wire.receiver) is ∙ e.1) in
          let both = inputs_ready F s o.known rest n node extend there is_one zp.0 (zp.1, ap (λ (u : Pipe). u.wire.sender) zp.2 ∙ l.1) ready x ex d in
          let among : is_one_of x.wire.receiver (nodes_of_phase s) ≡ true = ap (λ k. is_one_of k (nodes_of_phase s)) ex.1 ∙ of_phase p l on in
          let marked : is_in_phase (length s.nodes) (intensive_at s) (wires_of s) x.wire ≡ true = (λ i. both i && among i) in
          ap (λ b. b || is_done q.wire.send_state) (ap (λ (u : Pipe). u.in_phase) (sym is) ∙ marked)

  pub zip_phase : KeepsZip F ph n y extend
  zip_phase =
      let sent = st.sent in
      let b = st.booked in
      zip_goes F s ph n node y extend o.known kv shape there at st.node back h h.before (λ k less. refl) h.from_none (omega (arith, sent)) (omega (arith, b)) (ap h.before sent ∙ h.up_to_booked ∙ sym b)
      (λ k past less. absurd (omega (arith, past, less, sent)))
      (λ p k rs l e. let x = from p l.0 in inl (x.0, (x.1, ap (λ (u : Pipe). u.wire.sender) x.2 ∙ l.1), ap (λ (u : Pipe). slice_get u.got k) x.2 ∙ e))
      (λ q c e. inl c)
      (λ p l c. let x = from p l.0 in inl (x.0, (x.1, ap (λ (u : Pipe). u.wire.sender) x.2 ∙ l.1), unmark s x.0 p x.2 c))
      stores beside
    where
      stores : StoresRead ph n y
      stores q e = let x = from q e.0 in of x.0 x.2 (h.stores x.0 (x.1, ap (λ (u : Pipe). u.wire.receiver) x.2 ∙ e.1))
        where
          of : (x : Pipe) → mark_of s x ≡ q → (stored_rows (get_or node.progress.stores x.wire.input []) ≡ rows_read x) ⊎ (p : Pipe) × Leaves s n p × IsTrue p.is_dropped → (stored_rows (get_or y.progress.stores q.wire.input []) ≡ rows_read q) ⊎ (p : Pipe) × Leaves ph n p × IsTrue p.is_dropped
          of x is (inl stored) = inl ((λ i. stored_rows (get_or (same_stores i) (sym is i).wire.input [])) ∙ stored ∙ ap rows_read is)
          of x is (inr (p, l, gone)) = inr (mark_of s p, (contains_map (mark_of s) p s.pipes l.0, l.1), gone)

-- WHILE ALL PIPES STAY
module _ (F : Functions) (w v : World) (n : ℕ) (node y : Node) (extend : Bool) (pipes : v.pipes ≡ w.pipes) (outs : v.outs ≡ w.outs) (opens : v.is_open ≡ true → w.is_open ≡ true) (kw : Known F w) (kv : Known F v) (shape : shape_of v ≡ shape_of w) (there : slice_get w.nodes n ≡ Some node)
    (at : slice_get v.nodes n ≡ Some y) (st : Stands node y) (same_stores : y.progress.stores ≡ node.progress.stores) (h : KeepsZip F w n node extend) where
  was : (q : Pipe) → Contains v.pipes q → Contains w.pipes q
  was q c = subst (λ ps. Contains ps q) pipes c

  pub zip_stays : KeepsZip F v n y extend
  zip_stays =
      let sent = st.sent in
      let b = st.booked in
      zip_goes F w v n node y extend kw kv shape there at st.node (λ q e. (q, (was q e.0, e.1), refl, record { more = []; rows = sym (append-nil (rows_read q)); on = λ c. c; none = λ c. refl })) h h.before (λ k less. refl) h.from_none (omega (arith, sent)) (omega (arith, b)) (ap h.before sent ∙ h.up_to_booked ∙ sym b)
      (λ k past less. absurd (omega (arith, past, less, sent)))
      (λ p k rs l e. inl (p, (was p l.0, l.1), e))
      (λ q c e. inl (subst (λ qs. Contains qs q) outs c))
      (λ p l c. inl (p, (was p l.0, l.1), c))
      (λ q e. of q (h.stores q (was q e.0, e.1)))
      (λ on p l phase q e. h.beside (opens on) p (was p l.0, l.1) phase q (was q e.0, e.1))
    where
      of : (q : Pipe) → (stored_rows (get_or node.progress.stores q.wire.input []) ≡ rows_read q) ⊎ (p : Pipe) × Leaves w n p × IsTrue p.is_dropped → (stored_rows (get_or y.progress.stores q.wire.input []) ≡ rows_read q) ⊎ (p : Pipe) × Leaves v n p × IsTrue p.is_dropped
      of q (inl stored) = inl ((λ i. stored_rows (get_or (same_stores i) q.wire.input [])) ∙ stored)
      of q (inr (p, l, gone)) = inr (p, (subst (λ ps. Contains ps p) (sym pipes) l.0, l.1), gone)
