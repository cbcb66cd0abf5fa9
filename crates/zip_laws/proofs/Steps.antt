-- Each step of a phase keeps what is kept of a zip.
use Rattle.std.proofs.Common.{◌≡◌, ◌≢◌, ℕ, zero, suc, ◌+◌, ◌<◌, ◌≤◌, ◌⊎◌, Bool, true, false, cond, List, [], ◌∷◌, ◌++◌, length, take, Option, Some, None, refl, sym, ap, subst, ◌∙◌, inl, inr, arith}
use Rattle.std.specs.Prelude.{Contains, get_or, map, nat_eq, nat_lt, not, slice_get, slice_set, ◌&&◌, ◌||◌}
use Rattle.std.specs.List.{filter as kept, list_all, list_any}
use Rattle.std.proofs.lemmas.Bool.Decides.{nat_tests}
use Rattle.std.proofs.lemmas.Bool.{cases_eq}
use Rattle.std.proofs.lemmas.List.{append-nil}
use Rattle.std.proofs.lemmas.Option.{slice_get_within}
use Rattle.ps_frame.specs.Causes.{is_empty}
use Rattle.ps_frame.specs.Functions.{Functions}
use Rattle.ps_frame.specs.Tables.{Fields, Row}
use Rattle.ps_meaning.specs.Shape.{PhysicalNode, zip_node}
use Rattle.ps_ports.specs.Ports.{is_done, is_ready}
use Rattle.ps_ports.specs.Wires.{Wire, both_ready}
use Rattle.ps_ports.specs.declared.port_state.PortState.{PortState}
use Rattle.ps_ports.specs.declared.port_state.PortState.TheVariants as port
use Rattle.ps_turns.specs.Claims.{Claim, claim_by, of_own}
use Rattle.ps_turns.specs.Heads.{Head, common_length, heads_by, is_ready_head, stored_rows}
use Rattle.ps_turns.specs.Progress.{Progress, is_multiplexer}
use Rattle.ps_turns.specs.Pulls.{after_store}
use Rattle.ps_turns.specs.Tasks.{Piece, computes}
use Rattle.ps_world.specs.Claims.{claim_at, inputs_in_phase, next_morsel, piece_of}
use Rattle.ps_world.specs.Facts.{HasNoUse, Joins, is_over_slice, joins_of}
use Rattle.ps_world.specs.Laws.{sent_by}
use Rattle.ps_world.specs.Opening.{pipes_from}
use Rattle.ps_world.specs.Pipes.{is_input}
use Rattle.ps_world.specs.World.{IsWorking, flat, Node, Pipe, World, counts_for_sender, heads_of, inputs_done, is_cut_off, live_outs, morsel_at, multiplexes, pipes_in, pipes_out, rows_in_order, schemas_for, shape_of}
use Rattle.world_claims.specs.Numbering.{Known, only_takes}
use Rattle.world_ends.proofs.Back.{heads_over}
use Rattle.world_facts.proofs.CutOff.{both_true}
use Rattle.world_facts.proofs.HandedIn.{contains_of}
use Rattle.world_laws.proofs.Agree.{from_map}
use Rattle.world_laws.proofs.InOrder.{contains_kept, contains_map, none_in_nil}
use Rattle.world_laws.proofs.PassingPorts.{ordered, same_number, was_kept}
use Rattle.family_fronts.proofs.SourceLaw.{from_single}
use Rattle.family_pipes.proofs.Complete.{complete, in_no_phase, whole}
use Rattle.family_pipes.proofs.Inputs.{enters, inputs_long}
use Rattle.family_pipes.proofs.Outputs.{MayCome, was_complete}
use Rattle.family_pipes.proofs.SourceSteps.{StepOf, same_node}
use Rattle.family_keeps.proofs.Done.{DoneFits}
use Rattle.family_keeps.proofs.Unions.{same_schemas}
use Rattle.orderly_worlds.proofs.Goes.{Goes, GoesOn, IsTakenBy, IsTakenOf, NoneTaken}
use Rattle.orderly_worlds.proofs.Orderly.{Orderly, complete_rests}
use Rattle.orderly_worlds.proofs.PortPipes.{input_pipe, port_pipe}
use Rattle.orderly_worlds.proofs.ReadRows.{came_to, rows_more, stored_more, take_fills}
use Rattle.orderly_worlds.proofs.Seen.{OutsOrNew, OutsWere, TakenElsewhere}
use Rattle.orderly_worlds.proofs.Stands.{Stands, stored_progress}
use Rattle.passing_runs.proofs.Slots.{Came}
use Rattle.node_keeps.proofs.Lost.{LostStep}
use Rattle.node_keeps.proofs.Sees.{IsCleared, IsLost, NextStays, SameMarks, Sees, claims, pulls_in, stands_still}
use Rattle.zip_laws.proofs.Cuts.{Beside, Grows, KeepsZip, ZipWork, forth, map_same, placed, same_cut, serves_on, longer, zip_goes}
use Rattle.zip_laws.proofs.Heads.{all_if, heads, reached, served, some_rows, stored_are, tables_are}
use Rattle.world_families.proofs.Members.{nothing_is}
use Rattle.world_families.specs.Sources.{KeepsNone}
use Rattle.world_families.specs.Work.{Enters, IsComplete, Leaves, Work, rows_read, work_of}
use Rattle.world_families.specs.Zips.{AllCut, IsCut, rows_in_cut}

-- SMALL LEMMAS
slot_is : (o : Option (Option (List Row))) (rs : List Row) → flat o ≡ Some rs → o ≡ Some (Some rs)
slot_is None rs e = absurd (nothing_is rs e)
slot_is (Some slot) rs e = ap Some e

set_at : {A : Type 0} (xs : List A) (k : ℕ) (new d : A) → k < length xs → get_or (slice_set xs k new) k d ≡ new
set_at [] k new d short = absurd (omega arith)
set_at (x ∷ xs) zero new d short = refl
set_at (x ∷ xs) (suc k) new d short = set_at xs k new d (omega arith)

set_off : {A : Type 0} (xs : List A) (k j : ℕ) (new d : A) → j ≢ k → get_or (slice_set xs k new) j d ≡ get_or xs j d
set_off [] k j new d apart = refl
set_off (x ∷ xs) zero zero new d apart = absurd (apart refl)
set_off (x ∷ xs) zero (suc j) new d apart = refl
set_off (x ∷ xs) (suc k) zero new d apart = refl
set_off (x ∷ xs) (suc k) (suc j) new d apart = set_off xs k j new d (λ e. apart (ap suc e))

by_tests : (b e : Bool) (x c : Claim) → cond b (cond e (Some x) None) None ≡ Some c → (e ≡ true) × (x ≡ c)
by_tests true true x c q = (refl, let same : x ≡ c = cc in same)
by_tests true false x c q = absurd (nothing_is c q)
by_tests false e x c q = absurd (nothing_is c q)

not_less : (n k : ℕ) → k ≤ n → nat_lt n k ≡ false
not_less n k h = grind (arith, nat_tests)

is_more : (n : ℕ) → nat_lt n (n + 1) ≡ true
is_more n = grind (arith, nat_tests)

or_second : (a b : Bool) → b ≡ true → (a || b) ≡ true
or_second true b e = refl
or_second false b e = e

not_empty : {A : Type 0} (x : A) (xs : List A) → Contains xs x → not (is_empty xs) ≡ true
not_empty x [] c = absurd (none_in_nil x c)
not_empty x (y ∷ xs) c = refl

ready_not_done : (s : PortState) → is_ready s ≡ true → is_done s ≡ true → ⊥
ready_not_done port.Ready r d = let no : false ≡ true = d in cc
ready_not_done port.Done r d = let no : false ≡ true = r in cc
ready_not_done port.Blocked r d = let no : false ≡ true = r in cc

-- ONE OUTPUT
module _ (F : Functions) (w : World) (n : ℕ) (node : Node) (extend : Bool) (known : Known F w) (there : slice_get w.nodes n ≡ Some node) (is_one : node.node.kind ≡ zip_node extend) where
  single : is_multiplexer node.node.kind ≡ false
  single = ap is_multiplexer is_one

  pub one_output : (p r : Pipe) → Leaves w n p → Leaves w n r → p ≡ r
  one_output p r l q = known.facts.one_output p r l.0 q.0 (l.1 ∙ sym q.1) (from_single w n node p there single l.1)

  -- while it works its output is of the phase
  pub output_on : IsWorking w n → (p : Pipe) → Leaves w n p → p.in_phase ≡ true
  output_on works p l = by p.in_phase refl
    where
      opened : (b c : Bool) → (b && c) ≡ true → b ≡ true
      opened true c e = refl
      opened false c e = e

      by : (b : Bool) → p.in_phase ≡ b → p.in_phase ≡ true
      by true e = e
      by false off =
          let a = known.outs.aside p l.0 off (subst (IsWorking w) (sym l.1) works) (from_single w n node p there single l.1) in
          let q = a.1 in
          let no = known.outs.gives p q.0 node l.0 q.1 (ap (slice_get w.nodes) l.1 ∙ there) (opened w.is_open _ works.2) single (ap (λ k. only_takes k node.progress.stage) is_one) a.0 q.2 in
          absurd (let never : true ≡ false = sym q.3 ∙ no in cc)

  -- while it works and isn't cut off nothing of it is lost
  pub none_lost : IsWorking w n → is_cut_off w n ≡ false → (p : Pipe) → Leaves w n p → p.is_dropped ≡ true → ⊥
  none_lost works cut p l gone =
      let out : Contains (pipes_out w n) p = subst (λ k. Contains (pipes_out w k) p) l.1 (contains_of (pipes_out w p.wire.sender) p.wire.port p (port_pipe F w known.facts p l.0)) in
      let live : Contains (live_outs w n) p = contains_kept (counts_for_sender w) p (pipes_out w n) out (ap (λ b. b || (multiplexes (slice_get w.nodes p.wire.sender) && not (is_done p.wire.receive_state))) (output_on works p l)) in
      let all : list_all (λ (z : Pipe). z.is_dropped) (live_outs w n) ≡ true = all_if (λ (z : Pipe). z.is_dropped) (live_outs w n) (λ z c. ap (λ (x : Pipe). x.is_dropped) (one_output z p (leaves z c) l) ∙ gone) in
      let never : true ≡ false = sym (λ i. not_empty p (live_outs w n) live i && all i) ∙ cut in
      cc
    where
      leaves : (z : Pipe) → Contains (live_outs w n) z → Leaves w n z
      leaves z c =
          let o = was_kept (counts_for_sender w) z (pipes_out w n) c in
          let among = was_kept (λ (x : Pipe). nat_eq x.wire.sender n) z w.pipes (ordered (λ (a b : Pipe). nat_lt a.wire.port b.wire.port) z (kept (λ (x : Pipe). nat_eq x.wire.sender n) w.pipes) o.0) in
          (among.0, same_number z.wire.sender n among.1)

  -- nor is it without use
  pub used : IsWorking w n → is_cut_off w n ≡ false → HasNoUse w n → ⊥
  used works cut (inl (z, at_z, over)) =
      let same = same_node w n z node at_z there in
      let never : false ≡ true = ap (λ k. is_over_slice k z.progress.booked) (sym is_one) ∙ (λ i. is_over_slice (sym same i).node.kind z.progress.booked) ∙ over in
      cc
  used works cut (inr (z, cz, from, each)) = by z.is_dropped (is_done z.wire.receive_state) refl refl (each z cz from)
    where
      ready : both_ready z.wire ≡ true
      ready = ((known.facts.pipes z cz).at_hand (output_on works z (cz, from))).0

      by : (a b : Bool) → z.is_dropped ≡ a → is_done z.wire.receive_state ≡ b → (a || b) ≡ true → ⊥
      by true b gone d e = none_lost works cut z (cz, from) gone
      by false true gone d e = ready_not_done z.wire.receive_state (both_true (is_ready z.wire.send_state) (is_ready z.wire.receive_state) ready).1 d
      by false false gone d e = let no : false ≡ true = e in cc

  -- so what is sent to its end is complete
  pub sent_is : IsWorking w n → is_cut_off w n ≡ false → DoneFits w n → (q : Pipe) → Enters w n q → is_done q.wire.send_state ≡ (sent_by q).is_complete
  sent_is works cut done q e = by (is_done q.wire.send_state) q.is_dropped q.is_unread refl refl refl
    where
      of : q.is_unread ≡ true → IsComplete q ⊎ HasNoUse w n → ⊥
      of u (inl c) = let no : true ≡ false = sym u ∙ (whole q c).unread in cc
      of u (inr none) = used works cut none

      by : (d a b : Bool) → is_done q.wire.send_state ≡ d → q.is_dropped ≡ a → q.is_unread ≡ b → is_done q.wire.send_state ≡ (sent_by q).is_complete
      by false a b d g u = d ∙ sym (ap (λ z. z && (not q.is_dropped && not q.is_unread)) d)
      by true true b d g u = absurd (used works cut (subst (HasNoUse w) e.1 ((known.facts.pipes q e.0).why_dropped g)))
      by true false true d g u = absurd (of u (done q e ((known.facts.pipes q e.0).unread_done u)))
      by true false false d g u = d ∙ sym (complete q (record { done = d; dropped = g; unread = u }))

-- THE STEPS
module _ (F : Functions) (w v : World) (n : ℕ) (node y : Node) (extend : Bool) (o : Orderly F w) (kv : Known F v) (begun : w.is_open ≡ true) (shape : shape_of v ≡ shape_of w) (there : slice_get w.nodes n ≡ Some node) (at : slice_get v.nodes n ≡ Some y) (is_one : node.node.kind ≡ zip_node extend)
    (fits : length node.progress.stores ≡ length node.node.inputs) (done : DoneFits w n) (marks : v.is_open ≡ true → SameMarks w v) (h : KeepsZip F w n node extend) where
  -- a step leaves the ends of an input
  of_wire : (Takes Musts : Pipe → Type 0) → (g : GoesOn Takes Musts w v) → (b : Pipe) → Enters v n b → (a : Pipe) × Enters w n a × (b.wire.input ≡ a.wire.input) × Goes Takes Musts a b
  of_wire Takes Musts g b e = let x = g b e.0 in (x.0, (x.1, ap (λ (u : Wire). u.receiver) (sym x.2.wire) ∙ e.1), ap (λ (u : Wire). u.input) x.2.wire, x.2)

  -- nothing is taken of an input
  same_read : (Takes Musts : Pipe → Type 0) → (a b : Pipe) → Contains w.pipes a → Goes Takes Musts a b → b.next ≡ a.next → rows_read b ≡ rows_read a
  same_read Takes Musts a b c g next = ap (λ j. rows_in_order (take j b.got)) next ∙ ap rows_in_order (take_fills a.got b.got a.next g.got (came_to F w o.known a c))

  grows_none : (Takes Musts : Pipe → Type 0) → ((x : Pipe) → Takes x → (rs : List Row) × (slice_get x.got x.next ≡ Some (Some rs))) → (a b : Pipe) → Contains w.pipes a → Goes Takes Musts a b → b.next ≡ a.next → Grows a b
  grows_none Takes Musts some a b c g next = record { more = []; rows = same_read Takes Musts a b c g next ∙ sym (append-nil (rows_read a)); on = λ is. (complete_rests F w Takes Musts o begun some a b c g is).is_complete; none = λ is. refl }

  -- what leaves the zip goes on
  came : StepOf F w v n node → (p : Pipe) (k : ℕ) (rs : List Row) → Leaves v n p → slice_get p.got k ≡ Some (Some rs) → ((x : Pipe) × Leaves w n x × (slice_get x.got k ≡ Some (Some rs))) ⊎ MayCome F w n k rs
  came s p k rs l e = let x = s.outputs p l in by x.0 x.1 (x.2.got k rs e)
    where
      by : (x : Pipe) → Leaves w n x → (slice_get x.got k ≡ Some (Some rs)) ⊎ MayCome F w n k rs → ((z : Pipe) × Leaves w n z × (slice_get z.got k ≡ Some (Some rs))) ⊎ MayCome F w n k rs
      by x l (inl old) = inl (x, l, old)
      by x l (inr new) = inr new

  completes : StepOf F w v n node → (p : Pipe) → Leaves v n p → IsComplete p → ((x : Pipe) × Leaves w n x × IsComplete x) ⊎ AllCut v n extend y.progress.booked
  completes s p l c = let x = s.outputs p l in inl (x.0, x.1, was_complete x.0 p x.2 c)

  beside : Beside v n
  beside on p l phase q e =
      let x = marks on p l.0 in
      let z = marks on q e.0 in
      let old = h.beside begun x.0 (x.1, ap (λ (u : Wire). u.sender) (sym x.2) ∙ l.1) (sym x.3 ∙ phase) z.0 (z.1, ap (λ (u : Wire). u.receiver) (sym z.2) ∙ e.1) in
      (λ i. z.3 i || is_done (z.2 i).send_state) ∙ old

  -- a dropped output stays dropped
  lost_on : (Takes Musts : Pipe → Type 0) → GoesOn Takes Musts w v → IsLost w n → IsLost v n
  lost_on Takes Musts g (p, l, gone) =
      let same : map joins_of w.pipes ≡ map joins_of v.pipes = o.known.facts.wires ∙ ap (λ s. map joins_of (pipes_from s 0)) (sym shape) ∙ sym kv.facts.wires in
      let r = from_map joins_of (joins_of p) v.pipes (subst (λ js. Contains js (joins_of p)) same (contains_map joins_of p w.pipes l.0)) in
      let x = g r.0 r.1 in
      let from : r.0.wire.sender ≡ n = ap (λ (j : Joins). j.sender) r.2 ∙ l.1 in
      let is = one_output F w n node extend o.known there is_one x.0 p (x.1, ap (λ (u : Wire). u.sender) (sym x.2.wire) ∙ from) l in
      (r.0, (r.1, from), x.2.kept (ap (λ (z : Pipe). z.is_dropped) is ∙ gone))

  -- what is stored of an input of which nothing was taken
  stored_on : (Takes Musts : Pipe → Type 0) (g : GoesOn Takes Musts w v) → (q x : Pipe) → Contains w.pipes x → q.wire.input ≡ x.wire.input → rows_read q ≡ rows_read x → stored_rows (get_or y.progress.stores q.wire.input []) ≡ stored_rows (get_or node.progress.stores x.wire.input [])
      → (stored_rows (get_or node.progress.stores x.wire.input []) ≡ rows_read x) ⊎ IsLost w n → (stored_rows (get_or y.progress.stores q.wire.input []) ≡ rows_read q) ⊎ IsLost v n
  stored_on Takes Musts g q x c i same store (inl stored) = inl (store ∙ stored ∙ sym same)
  stored_on Takes Musts g q x c i same store (inr lost) = inr (lost_on Takes Musts g lost)

  -- IT STANDS STILL
  zip_still : GoesOn (TakenElsewhere n) NoneTaken w v → StepOf F w v n node → Stands node y → (y.progress.stores ≡ node.progress.stores) ⊎ IsLost v n → OutsWere w v n → KeepsZip F v n y extend
  zip_still g s st kept_stores outs =
      let sent = st.sent in
      let booked = st.booked in
      zip_goes F w v n node y extend o.known kv shape there at st.node back h h.before (λ k less. refl) h.from_none (omega (arith, sent)) (omega (arith, booked)) (ap h.before sent ∙ h.up_to_booked ∙ sym booked)
      (λ k past less. absurd (omega (arith, past, less, sent))) (came s) (λ q c e. inl (outs q c e)) (completes s) (λ q e. stores q e kept_stores) beside
    where
      next_same : (x b : Pipe) → x.wire.receiver ≡ n → (b.next ≡ x.next) ⊎ (b.next ≡ suc x.next) × TakenElsewhere n x → b.next ≡ x.next
      next_same x b r (inl same) = same
      next_same x b r (inr (more, t)) = absurd (t.0 r)

      back : (b : Pipe) → Enters v n b → (a : Pipe) × Enters w n a × (b.wire.input ≡ a.wire.input) × Grows a b
      back b e = let x = of_wire (TakenElsewhere n) NoneTaken g b e in (x.0, x.1, x.2, grows_none (TakenElsewhere n) NoneTaken (λ z t. t.1) x.0 b x.1.0 x.3 (next_same x.0 b x.1.1 x.3.next))

      stores : (q : Pipe) → Enters v n q → (y.progress.stores ≡ node.progress.stores) ⊎ IsLost v n → (stored_rows (get_or y.progress.stores q.wire.input []) ≡ rows_read q) ⊎ IsLost v n
      stores q e (inr lost) = inr lost
      stores q e (inl same) =
          let x = of_wire (TakenElsewhere n) NoneTaken g q e in
          let i = x.2 in
          stored_on (TakenElsewhere n) NoneTaken g q x.0 x.1.0 i (same_read (TakenElsewhere n) NoneTaken x.0 q x.1.0 x.3 (next_same x.0 q x.1.1 x.3.next)) (λ j. stored_rows (get_or (same j) (i j) [])) (h.stores x.0 x.1)

  -- IT PULLS
  module _ (i : ℕ) (p : Pipe) (rs : List Row) (cp : Contains w.pipes p) (input : is_input n i p ≡ true) (is : morsel_at p.next p.got ≡ Some rs) (g : GoesOn (IsTakenOf n i) (IsTakenBy n i true) w v) (s : StepOf F w v n node) (st : Stands (record node { progress = stored_progress node i rs }) y)
      (kept_stores : (y.progress.stores ≡ (stored_progress node i rs).stores) ⊎ IsLost v n) (outs : OutsWere w v n) where
    abbrev now : Progress
    now = after_store (zip_node extend) i rs node.progress

    now_is : stored_progress node i rs ≡ now
    now_is = (λ j. cond (is_multiplexer (is_one j)) node.progress (after_store (is_one j) i rs node.progress))

    at_p : (p.wire.receiver ≡ n) × (p.wire.input ≡ i)
    at_p = let a = both_true (nat_eq p.wire.receiver n) (nat_eq p.wire.input i) input in (same_number p.wire.receiver n a.0, same_number p.wire.input i a.1)

    slot : slice_get p.got p.next ≡ Some (Some rs)
    slot = slot_is (slice_get p.got p.next) rs is

    one_more : (x : Pipe) → slice_get x.got x.next ≡ Some (Some rs) → Came x.got x.next → Came x.got (suc x.next)
    one_more x e came k less = by (cases_eq k x.next)
      where
        by : (k ≡ x.next) ⊎ (k ≢ x.next) → (a : List Row) × (slice_get x.got k ≡ Some (Some a))
        by (inl same) = (rs, ap (slice_get x.got) same ∙ e)
        by (inr other) = came k (omega (arith, less, other))

    -- the pipe that it pulls
    pulled : (x b : Pipe) → Enters w n x → x.wire.input ≡ i → Goes (IsTakenOf n i) (IsTakenBy n i true) x b → (rows_read b ≡ rows_read x ++ rs) × (x.in_phase ≡ true)
    pulled x b e at_i go =
        let same : p ≡ x = o.known.facts.one_input p x cp e.0 (at_p.0 ∙ sym e.1) (at_p.1 ∙ sym at_i) in
        let here : slice_get x.got x.next ≡ Some (Some rs) = subst (λ (z : Pipe). slice_get z.got z.next ≡ Some (Some rs)) same slot in
        let on = go.surely (refl, subst (λ z. is_input n i z ≡ true) same input) in
        let came = came_to F w o.known x e.0 in (
          ap (λ j. rows_in_order (take j b.got)) on ∙ ap rows_in_order (take_fills x.got b.got (suc x.next) go.got (one_more x here came)) ∙ rows_more x.got x.next rs came here,
          by on go.next,
        )
      where
        by : b.next ≡ suc x.next → (b.next ≡ x.next) ⊎ (b.next ≡ suc x.next) × IsTakenOf n i x → x.in_phase ≡ true
        by on (inl same) = absurd (omega (arith, on, same))
        by on (inr (more, t)) = t.2

    others : (x b : Pipe) → (x.wire.input ≢ i) → (b.next ≡ x.next) ⊎ (b.next ≡ suc x.next) × IsTakenOf n i x → b.next ≡ x.next
    others x b apart (inl same) = same
    others x b apart (inr (more, t)) = absurd (apart (same_number x.wire.input i (both_true (nat_eq x.wire.receiver n) (nat_eq x.wire.input i) t.0).1))

    back_of : (b : Pipe) → Enters v n b → (a : Pipe) → Enters w n a → Goes (IsTakenOf n i) (IsTakenBy n i true) a b → (a.wire.input ≡ i) ⊎ (a.wire.input ≢ i) → Grows a b
    back_of b e a ea go (inr apart) = grows_none (IsTakenOf n i) (IsTakenBy n i true) (λ z t. t.1) a b ea.0 go (others a b apart go.next)
    back_of b e a ea go (inl here) =
        let k = pulled a b ea here go in
        record { more = rs; rows = k.0; on = λ c. absurd (not_yet c k.1); none = λ c. absurd (not_yet c k.1) }
      where
        not_yet : IsComplete a → a.in_phase ≡ true → ⊥
        not_yet c on = let never : true ≡ false = sym on ∙ in_no_phase F w a o.known ea.0 c in cc

    back : (b : Pipe) → Enters v n b → (a : Pipe) × Enters w n a × (b.wire.input ≡ a.wire.input) × Grows a b
    back b e = let x = of_wire (IsTakenOf n i) (IsTakenBy n i true) g b e in (x.0, x.1, x.2, back_of b e x.0 x.1 x.3 (cases_eq x.0.wire.input i))

    -- there is a store for each input
    in_store : (q : Pipe) → Enters w n q → q.wire.input < length node.progress.stores
    in_store q e =
        let stands : slice_get (pipes_in w n) q.wire.input ≡ Some q = ap (λ k. slice_get (pipes_in w k) q.wire.input) (sym e.1) ∙ input_pipe F w o.known.facts q e.0 in
        let short = slice_get_within (pipes_in w n) q.wire.input q stands in
        let l = inputs_long F w o.known.facts n node there in
        let m = fits in
        omega (arith, short, l, m)

    stores : (q : Pipe) → Enters v n q → (y.progress.stores ≡ (stored_progress node i rs).stores) ⊎ IsLost v n → (stored_rows (get_or y.progress.stores q.wire.input []) ≡ rows_read q) ⊎ IsLost v n
    stores q e (inr lost) = inr lost
    stores q e (inl same) = let x = of_wire (IsTakenOf n i) (IsTakenBy n i true) g q e in by x.0 x.1 x.2 x.3 (cases_eq x.0.wire.input i)
      where
        are : y.progress.stores ≡ now.stores
        are = same ∙ ap (λ (z : Progress). z.stores) now_is

        of : (x : Pipe) → rows_read q ≡ rows_read x ++ rs → stored_rows (get_or y.progress.stores q.wire.input []) ≡ stored_rows (get_or node.progress.stores x.wire.input []) ++ rs → (stored_rows (get_or node.progress.stores x.wire.input []) ≡ rows_read x) ⊎ IsLost w n
            → (stored_rows (get_or y.progress.stores q.wire.input []) ≡ rows_read q) ⊎ IsLost v n
        of x grown store (inl stored) = inl (store ∙ ap (λ zs. zs ++ rs) stored ∙ sym grown)
        of x grown store (inr lost) = inr (lost_on (IsTakenOf n i) (IsTakenBy n i true) g lost)

        by : (x : Pipe) → Enters w n x → q.wire.input ≡ x.wire.input → Goes (IsTakenOf n i) (IsTakenBy n i true) x q → (x.wire.input ≡ i) ⊎ (x.wire.input ≢ i) → (stored_rows (get_or y.progress.stores q.wire.input []) ≡ rows_read q) ⊎ IsLost v n
        by x ex at_x go (inr apart) =
            stored_on (IsTakenOf n i) (IsTakenBy n i true) g q x ex.0 at_x (same_read (IsTakenOf n i) (IsTakenBy n i true) x q ex.0 go (others x q apart go.next))
            ((λ j. stored_rows (get_or (are j) (at_x j) [])) ∙ ap stored_rows (set_off node.progress.stores i x.wire.input (get_or node.progress.stores i [] ++ rs ∷ []) [] apart)) (h.stores x ex)
        by x ex at_x go (inl here) =
            let ms = get_or node.progress.stores i [] in
            of x (pulled x q ex here go).0
            ((λ j. stored_rows (get_or (are j) ((at_x ∙ here) j) [])) ∙ ap stored_rows (set_at node.progress.stores i (ms ++ rs ∷ []) [] (subst (λ k. k < length node.progress.stores) here (in_store x ex))) ∙ stored_more ms rs ∙ (λ j. stored_rows (get_or node.progress.stores (sym here j) []) ++ rs)) (h.stores x ex)

    pub zip_pulls : KeepsZip F v n y extend
    zip_pulls =
        let sent : y.progress.sent ≡ node.progress.sent = st.sent ∙ ap (λ (z : Progress). z.sent) now_is in
        let booked : y.progress.booked ≡ node.progress.booked = st.booked ∙ ap (λ (z : Progress). z.booked) now_is in
        zip_goes F w v n node y extend o.known kv shape there at st.node back h h.before (λ k less. refl) h.from_none (omega (arith, sent)) (omega (arith, booked)) (ap h.before sent ∙ h.up_to_booked ∙ sym booked)
        (λ k past less. absurd (omega (arith, past, less, sent))) (came s) (λ q c e. inl (outs q c e)) (completes s) (λ q e. stores q e kept_stores) beside

  -- ITS CLAIM
  module _ (i : ℕ) (c : Claim) (is : claim_at w n i node ≡ Some c) (cut : is_cut_off w n ≡ false) (works : IsWorking w n) (g : GoesOn (IsTakenOf n i) (IsTakenBy n i c.takes_morsel) w v) (s : StepOf F w v n node) (st : Stands (record node { progress = c.progress }) y)
      (kept_stores : (y.progress.stores ≡ c.progress.stores) ⊎ IsLost v n) (next : c.takes_morsel ≡ false → NextStays w v) (outs : OutsOrNew w v n i c) where
    abbrev qs : List Pipe
    qs = pipes_in w n

    abbrev booked : ℕ
    booked = node.progress.booked

    abbrev ss : List Fields
    ss = schemas_for w node

    -- its heads are those of what it stores
    hs_are : heads_of w n node ≡ heads extend booked qs
    hs_are =
        heads_over w n node (zip_node extend) is_one
        ∙ ap (heads_by extend booked) (stored_are qs node.progress.stores (fits ∙ sym (inputs_long F w o.known.facts n node there)) (λ k q e. let x = enters F w o.known.facts n k q e in (by k q x.0 x.1 (h.stores q x.0), sent_is F w n node extend o.known there is_one works cut done q x.0)))
      where
        by : (k : ℕ) (q : Pipe) → Enters w n q → q.wire.input ≡ k → (stored_rows (get_or node.progress.stores q.wire.input []) ≡ rows_read q) ⊎ IsLost w n → stored_rows (get_or node.progress.stores k []) ≡ rows_read q
        by k q e at_k (inl stored) = ap (λ j. stored_rows (get_or node.progress.stores j [])) (sym at_k) ∙ stored
        by k q e at_k (inr (p, l, gone)) = absurd (none_lost F w n node extend o.known there is_one works cut p l gone)

    abbrev own_claim : List Head → Claim
    own_claim hs = of_own w.options node.node ss (record node.progress { booked = booked + common_length extend hs }) (computes node.node) ss (map (λ (z : Head). cond z.broadcasts z.rest (take (common_length extend hs) z.rest)) hs)

    abbrev tests : List Head → Bool
    tests hs = list_all (is_ready_head extend) hs && list_any (λ (z : Head). not (is_empty z.rest)) hs

    claimed : (tests (heads extend booked qs) ≡ true) × (own_claim (heads extend booked qs) ≡ c)
    claimed =
        by_tests (nat_eq i 0) (tests (heads extend booked qs)) (own_claim (heads extend booked qs)) c
        ((λ j. cond (nat_eq i 0) (cond (tests (sym hs_are j)) (Some (own_claim (sym hs_are j))) None) None) ∙ (λ j. claim_by w.options node.node ss (sym is_one j) node.progress (heads_of w n node) (inputs_done w n) i (next_morsel (inputs_in_phase w n i))) ∙ is)

    abbrev t : tests (heads extend booked qs) ≡ true
    t = claimed.0

    abbrev l : ℕ
    l = common_length extend (heads extend booked qs)

    stays_next : NextStays w v
    stays_next = next (ap (λ (z : Claim). z.takes_morsel) (sym claimed.1))

    next_of : (b : Pipe) → Enters v n b → (a : Pipe) → Enters w n a → b.wire.input ≡ a.wire.input → b.next ≡ a.next
    next_of b e a ea at_a =
        let x = stays_next b e.0 in
        let same = o.known.facts.one_input x.0 a x.1 ea.0 (ap (λ (u : Wire). u.receiver) (sym x.2) ∙ e.1 ∙ sym ea.1) (ap (λ (u : Wire). u.input) (sym x.2) ∙ at_a) in
        x.3 ∙ ap (λ (z : Pipe). z.next) same

    claim_back : (b : Pipe) → Enters v n b → (a : Pipe) × Enters w n a × (b.wire.input ≡ a.wire.input) × Grows a b
    claim_back b e = let x = of_wire (IsTakenOf n i) (IsTakenBy n i c.takes_morsel) g b e in (x.0, x.1, x.2, grows_none (IsTakenOf n i) (IsTakenBy n i c.takes_morsel) (λ z d. d.1) x.0 b x.1.0 x.3 (next_of b e x.0 x.1 x.2))

    read_on : (q : Pipe) → Enters v n q → (y.progress.stores ≡ c.progress.stores) ⊎ IsLost v n → (stored_rows (get_or y.progress.stores q.wire.input []) ≡ rows_read q) ⊎ IsLost v n
    read_on q e (inr lost) = inr lost
    read_on q e (inl same) =
        let x = of_wire (IsTakenOf n i) (IsTakenBy n i c.takes_morsel) g q e in
        let at_x = x.2 in
        let are : y.progress.stores ≡ node.progress.stores = same ∙ ap (λ (z : Claim). z.progress.stores) (sym claimed.1) in
        stored_on (IsTakenOf n i) (IsTakenBy n i c.takes_morsel) g q x.0 x.1.0 at_x (same_read (IsTakenOf n i) (IsTakenBy n i c.takes_morsel) x.0 q x.1.0 x.3 (next_of q e x.0 x.1 at_x)) (λ j. stored_rows (get_or (are j) (at_x j) [])) (h.stores x.0 x.1)

    abbrev before : ℕ → ℕ
    before k = cond (nat_lt node.progress.sent k) (booked + l) (h.before k)

    agree : (k : ℕ) → k ≤ node.progress.sent → before k ≡ h.before k
    agree k less = ap (λ b. cond b (booked + l) (h.before k)) (not_less node.progress.sent k less)

    at_next : before (node.progress.sent + 1) ≡ booked + l
    at_next = ap (λ b. cond b (booked + l) (h.before (node.progress.sent + 1))) (is_more node.progress.sent)

    at_sent : before node.progress.sent ≡ booked
    at_sent = agree node.progress.sent (omega arith) ∙ h.up_to_booked

    sent_more : y.progress.sent ≡ node.progress.sent + 1
    sent_more = st.sent ∙ ap (λ (z : Claim). z.progress.sent) (sym claimed.1)

    booked_more : y.progress.booked ≡ booked + l
    booked_more = st.booked ∙ ap (λ (z : Claim). z.progress.booked) (sym claimed.1)

    among : (q : Pipe) → Enters w n q → Contains qs q
    among q e = subst (λ k. Contains (pipes_in w k) q) e.1 (contains_of (pipes_in w q.wire.receiver) q.wire.input q (input_pipe F w o.known.facts q e.0))

    entered : (q : Pipe) → Contains qs q → Enters w n q
    entered q d =
        let into = was_kept (λ (x : Pipe). nat_eq x.wire.receiver n) q w.pipes (ordered (λ (a b : Pipe). nat_lt a.wire.input b.wire.input) q (kept (λ (x : Pipe). nat_eq x.wire.receiver n) w.pipes) d) in
        (into.0, same_number q.wire.receiver n into.1)

    next_cut : IsCut v n extend booked (booked + l)
    next_cut =
        record {
          some_rows = let p = some_rows extend booked qs t in omega (arith, p);
          served = λ q e. let x = claim_back q e in serves_on extend booked (booked + l) x.0 q x.3 (served extend booked qs t x.0 (among x.0 x.1));
          reached =
              let z = reached extend booked qs t in
              let q = forth F w v n node y extend o.known kv shape there at st.node claim_back z.0 (entered z.0 z.1) in
              let long = longer z.0 q.0 q.2 in
              let far = z.2 in
              (q.0, q.1, omega (arith, long, far));
        }

    same_tables : map (rows_in_cut extend booked (booked + l)) (pipes_in v n) ≡ map (rows_in_cut extend booked (booked + l)) qs
    same_tables =
        map_same (rows_in_cut extend booked (booked + l)) (rows_in_cut extend booked (booked + l)) qs (pipes_in v n) (inputs_long F w o.known.facts n node there ∙ ap (λ (p : PhysicalNode). length p.inputs) (sym st.node) ∙ sym (inputs_long F v kv.facts n y at))
        (λ k x z e f. let p = placed F w v n node y extend o.known kv shape there at st.node claim_back k x z e f in same_cut extend booked (booked + l) (let r = some_rows extend booked qs t in omega (arith, r)) x z p.0 (served extend booked qs t x (among x p.1)))

    abbrev NewWork : ℕ → Work → Type 0
    NewWork = ZipWork extend y.node (schemas_for v y) y.progress.sent before (pipes_in v n)

    new_work : (worker : ℕ) → NewWork c.gives (work_of (piece_of n i worker c))
    new_work worker =
        subst (λ (z : Claim). NewWork z.gives (record { task = z.task; schemas = z.schemas; tables = z.tables })) claimed.1 (
          (let m = sent_more in omega (arith, m)),
          (λ j. record { task = computes (sym st.node j); schemas = sym (same_schemas w v node y shape st.node) j; tables = tables j }),
        )
      where
        tables : map (λ (z : Head). cond z.broadcasts z.rest (take l z.rest)) (heads extend booked qs) ≡ map (rows_in_cut extend (before node.progress.sent) (before (node.progress.sent + 1))) (pipes_in v n)
        tables = tables_are extend booked qs t ∙ sym same_tables ∙ (λ j. map (rows_in_cut extend (sym at_sent j) (sym at_next j)) (pipes_in v n))

    piece : (q : Piece) → Contains w.outs q ⊎ ((worker : ℕ) × (piece_of n i worker c ≡ q)) → Contains w.outs q ⊎ NewWork q.gives (work_of q) ⊎ KeepsNone q
    piece q (inl old) = inl old
    piece q (inr (worker, new)) = inr (inl (subst (λ (z : Piece). NewWork z.gives (work_of z)) new (new_work worker)))

    pub zip_claims : KeepsZip F v n y extend
    zip_claims =
        let m = sent_more in
        let b = booked_more in
        zip_goes F w v n node y extend o.known kv shape there at st.node claim_back h before agree (agree 0 (omega arith) ∙ h.from_none) (omega (arith, m)) (omega (arith, b)) (ap before m ∙ at_next ∙ sym b)
        (λ k past less. let k_is : node.progress.sent ≡ k = omega (arith, past, less, m) in subst (λ z. IsCut v n extend (before z) (before (z + 1))) k_is (subst (λ z. IsCut v n extend z (before (node.progress.sent + 1))) (sym at_sent) (subst (λ z. IsCut v n extend booked z) (sym at_next) next_cut)))
        (came s) (λ q d e. piece q (outs q d e)) (completes s) (λ q e. read_on q e kept_stores) beside

  lose : {A B C : Type 0} → A ⊎ B × C → A ⊎ B
  lose (inl a) = inl a
  lose (inr b) = inr b.0

  pub zip_step : Sees F w v n node → KeepsZip F v n y extend
  zip_step (stands_still g s st stores outs) = zip_still g s (st y at) (lose (stores y at)) outs
  zip_step (claims i c is cut works g s st stores next outs) = zip_claims i c is cut works g s (st y at) (lose (stores y at)) next outs
  zip_step (pulls_in i p rs pulling cut works cp input is g s st stores outs) = zip_pulls i p rs cp input is g s (st y at) (lose (stores y at)) outs

-- WHAT IS LOST
-- a zip whose output is dropped stores nothing
abbrev pub StoresNone : World → ℕ → Node → Type 0
StoresNone w n node = (p : Pipe) → Leaves w n p → p.is_dropped ≡ true → IsCleared node

pub zip_lost : (F : Functions) (w v : World) (n : ℕ) (node y : Node) (extend : Bool) → Known F w → slice_get w.nodes n ≡ Some node → slice_get v.nodes n ≡ Some y → node.node.kind ≡ zip_node extend → LostStep w v n y → Sees F w v n node → StoresNone w n node → StoresNone v n y
zip_lost F w v n node y extend known there at is lost sees h p l gone = by (lost p l gone) sees
  where
    same : (x : Node) → (y.progress.stores ≡ x.progress.stores) ⊎ IsLost v n × IsCleared y → IsCleared x → IsCleared y
    same x (inl e) none i = ap (λ ms. stored_rows (get_or ms i [])) e ∙ none i
    same x (inr c) none i = c.1 i

    by : IsLost w n ⊎ IsCleared y → Sees F w v n node → IsCleared y
    by (inr none) s = none
    by (inl (x, lx, d)) (stands_still g s st stores outs) = same node (stores y at) (h x lx d)
    by (inl (x, lx, d)) (claims i c e cut works g s st stores next outs) = absurd (none_lost F w n node extend known there is works cut x lx d)
    by (inl (x, lx, d)) (pulls_in i q rs pulling cut works cq input e g s st stores outs) = absurd (none_lost F w n node extend known there is works cut x lx d)
