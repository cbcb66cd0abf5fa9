-- Each step of a phase, each update and each Open keeps what is kept of a multiplexer.
use Rattle.std.proofs.Common.{◌≡◌, ◌≢◌, ℕ, zero, suc, ◌<◌, ◌≤◌, ◌⊎◌, Bool, true, false, cond, List, [], ◌∷◌, ◌++◌, length, take, Some, None, refl, sym, ap, subst, ◌∙◌, inl, inr, arith}
use Rattle.std.specs.Prelude.{Contains, get_or, nat_eq, not, slice_get, ◌&&◌, ◌||◌}
use Rattle.std.proofs.Math.Seq.{take-length}
use Rattle.std.proofs.lemmas.Bool.{cases_eq}
use Rattle.std.proofs.lemmas.Bool.Decides.{nat_tests}
use Rattle.std.proofs.lemmas.List.{append_assoc, length-append, length-take}
use Rattle.std.proofs.lemmas.Option.{slice_get_within}
use Rattle.ps_frame.specs.Functions.{Functions}
use Rattle.ps_frame.specs.Tables.{Row}
use Rattle.ps_meaning.specs.Shape.{multiplexer}
use Rattle.ps_meaning.specs.Sound.{HasInputs, HasReaders}
use Rattle.ps_ports.specs.Ports.{Sides, all_blocked, all_done, first_port, is_done, kept_done}
use Rattle.ps_ports.specs.Wires.{Wire}
use Rattle.ps_ports.specs.declared.port_state.PortState.TheVariants as port
use Rattle.ps_turns.specs.Progress.{Progress, is_multiplexer}
use Rattle.ps_turns.specs.Updates.{answer_by, multiplexer_answer, port_answers, undone_empty}
use Rattle.ps_world.specs.Facts.{HasNoUse, Joins, is_over_slice}
use Rattle.ps_world.specs.Keeping.{IsFrontOf}
use Rattle.ps_world.specs.Laws.{sent_by}
use Rattle.ps_world.specs.Pulls.{is_open_port}
use Rattle.ps_world.specs.Updates.{empty_outs, given_at}
use Rattle.ps_world.specs.World.{Node, Pipe, World, heads_of, pipes_in, rows_in_order, shape_of}
use Rattle.world_claims.specs.Numbering.{Known}
use Rattle.world_facts.proofs.CutOff.{both_true}
use Rattle.world_facts.proofs.Placing.{has_inputs, has_readers}
use Rattle.world_laws.proofs.Answered.{in_shape}
use Rattle.world_laws.proofs.InOrder.{contains_map}
use Rattle.family_pipes.proofs.Complete.{complete, whole}
use Rattle.family_pipes.proofs.Inputs.{enters, inputs_long, take_at}
use Rattle.family_pipes.proofs.SourceSteps.{same_node}
use Rattle.family_keeps.proofs.Done.{AllOnward, DoneFits, StaysOver, done_on, goes_onward, no_use_on, sent_cases}
use Rattle.orderly_worlds.proofs.Goes.{Goes, GoesOn}
use Rattle.orderly_worlds.proofs.Orderly.{Newly, Orderly, all_done_at, complete_rests, complete_turned, newly}
use Rattle.orderly_worlds.proofs.PortPipes.{given_input, given_output, input_pipe}
use Rattle.orderly_worlds.proofs.ReadRows.{came_to, no_slot, take_fills, take_more}
use Rattle.orderly_worlds.proofs.Says.{kept_at, reader_pipe}
use Rattle.orderly_worlds.proofs.Turned.{Turned, answer, turned, turned_from}
use Rattle.passing_runs.proofs.Slots.{Came, Fills, Places}
use Rattle.streaming_ports.proofs.OnePort.{one_state}
use Rattle.zip_laws.proofs.PortPipes.{Port, PortsGo, comes, none_more}
use Rattle.zip_laws.proofs.Cuts.{item_at}
use Rattle.zip_laws.proofs.MultiplexerPorts.{all_over, answer_going, port_says}
use Rattle.world_families.specs.Onward.{HoldsPorts}
use Rattle.world_families.specs.Work.{Enters, IsComplete, Leaves}

-- ROWS OF PLACES
no_more : (xs ys : List Row) → xs ++ ys ≡ xs → ys ≡ []
no_more xs ys e = by ys (let l = length-append xs ys in let m = ap length e in omega (arith, l, m))
  where
    by : (ys : List Row) → length ys ≡ 0 → ys ≡ []
    by [] z = refl
    by (y ∷ ys) z = absurd (omega arith)

-- places that are filled, and more behind them
fills_front : (xs ys : Places) → Fills xs ys → (more : List Row) × (rows_in_order xs ++ more ≡ rows_in_order ys)
fills_front [] ys f = (rows_in_order ys, refl)
fills_front (None ∷ xs) [] f = absurd f
fills_front (Some a ∷ xs) [] f = absurd f
fills_front (None ∷ xs) (y ∷ ys) f = (rows_in_order (y ∷ ys), refl)
fills_front (Some a ∷ xs) (y ∷ ys) f =
    let r = fills_front xs ys f.1 in
    (r.0, append_assoc a (rows_in_order xs) r.0 ∙ ap (λ z. a ++ z) r.1 ∙ ap (λ z. rows_in_order (z ∷ ys)) (sym f.0))

came_front : (xs : Places) (j : ℕ) → Came xs j → (more : List Row) × (rows_in_order (take j xs) ++ more ≡ rows_in_order xs)
came_front xs zero c = (rows_in_order xs, refl)
came_front [] (suc j) c = ([], refl)
came_front (None ∷ xs) (suc j) c = absurd (let first = c 0 (omega arith) in no_slot first.0 first.1)
came_front (Some a ∷ xs) (suc j) c =
    let r = came_front xs j (λ k less. c (suc k) (omega (arith, less))) in
    (r.0, append_assoc a (rows_in_order (take j xs)) r.0 ∙ ap (λ z. a ++ z) r.1)

reflexive : (n : ℕ) → nat_eq n n ≡ true
reflexive n = grind (arith, nat_tests)

abbrev pub IsOpen : Pipe → Bool
IsOpen p = is_done p.wire.receive_state || p.is_dropped

or_two : (a b : Bool) → (a || b) ≡ false → (a ≡ false) × (b ≡ false)
or_two true b e = absurd (let no : true ≡ false = e in cc)
or_two false b e = (refl, e)

-- ONE INPUT
module _ (F : Functions) (w : World) (n : ℕ) (node : Node) (known : Known F w) (there : slice_get w.nodes n ≡ Some node) (is_one : node.node.kind ≡ multiplexer) where
  one_in : length (pipes_in w n) ≡ 1
  one_in =
      let shows = in_shape w n node there in
      inputs_long F w known.facts n node there ∙ subst (λ k. HasInputs k (length node.node.inputs)) is_one (known.facts.sound.0 n node.node shows).inputs

  pub input : (q : Pipe) × Enters w n q
  input = let l = one_in in let q = item_at (pipes_in w n) 0 (omega (arith, l)) in (q.0, (enters F w known.facts n 0 q.0 q.1).0)

  pub one_input : (q r : Pipe) → Enters w n q → Enters w n r → q ≡ r
  one_input q r a b = known.facts.one_input q r a.0 b.0 (a.1 ∙ sym b.1) (first q a ∙ sym (first r b))
    where
      first : (z : Pipe) → Enters w n z → z.wire.input ≡ 0
      first z e =
          let stands : slice_get (pipes_in w n) z.wire.input ≡ Some z = ap (λ k. slice_get (pipes_in w k) z.wire.input) (sym e.1) ∙ input_pipe F w known.facts z e.0 in
          let short = slice_get_within (pipes_in w n) z.wire.input z stands in
          let l = one_in in
          omega (arith, short, l)

  -- an open port has no empty place
  pub filled : HoldsPorts w n → (p : Pipe) → Leaves w n p → IsOpen p ≡ false → (k : ℕ) → slice_get p.got k ≡ Some None → ⊥
  filled h p l on k e =
      let q = input in
      let got = h.open_ports p q.0 l q.1 on in
      let here : slice_get (take q.0.next q.0.got) k ≡ Some None = ap (λ xs. slice_get xs k) (sym got) ∙ e in
      let short = slice_get_within (take q.0.next q.0.got) k None here in
      let len = length-take q.0.next q.0.got in
      let less : k < q.0.next = omega (arith, short, len) in
      let came = came_to F w known q.0 q.1.0 k less in
      no_slot came.0 (sym here ∙ take_at q.0.got q.0.next k less ∙ came.1)

-- A STEP OF A PHASE
module _ (F : Functions) (w v : World) (n : ℕ) (node : Node) (o : Orderly F w) (kv : Known F v) (begun : w.is_open ≡ true) (shape : shape_of v ≡ shape_of w) (there : slice_get w.nodes n ≡ Some node) (is_one : node.node.kind ≡ multiplexer) (Takes Musts : Pipe → Type 0)
    (some : (x : Pipe) → Takes x → (rs : List Row) × (slice_get x.got x.next ≡ Some (Some rs))) (g : GoesOn Takes Musts w v) where
  of_input : (q : Pipe) → Enters v n q → (x : Pipe) × Enters w n x × Goes Takes Musts x q
  of_input q e = let x = g q e.0 in (x.0, (x.1, ap (λ (u : Wire). u.receiver) (sym x.2.wire) ∙ e.1), x.2)

  -- no multiplexer is a slice
  never_over : StaysOver w v n
  never_over x y at e over = let same = same_node w n x node at there in absurd (let no : false ≡ true = ap (λ k. is_over_slice k x.progress.booked) (sym (ap (λ (z : Node). z.node.kind) same ∙ is_one)) ∙ over in cc)

  pub done_keeps : DoneFits w n → DoneFits v n
  done_keeps h =
      done_on F w v o.known kv shape (goes_onward Takes Musts w v g) n never_over
      (λ y c d.
      let x = g y c.0 in
      (x.0, (x.1, ap (λ (u : Wire). u.receiver) (sym x.2.wire) ∙ c.1), ap (λ (u : Wire). is_done u.receive_state) (sym x.2.wire) ∙ d, λ is. (complete_rests F w Takes Musts o begun some x.0 y x.1 x.2 is).is_complete)) h

  -- a port that got nothing has a front of what came
  front_on : (p q x z : Pipe) → p.wire ≡ x.wire → p.is_unread ≡ x.is_unread → (x.is_dropped ≡ true → p.is_dropped ≡ true) → p.got ≡ x.got → Contains w.pipes z → Goes Takes Musts z q → IsFrontOf (sent_by x) (sent_by z) → IsFrontOf (sent_by p) (sent_by q)
  front_on p q x z wire unread dropped got cz go f =
      let more = fills_front z.got q.got go.got in
      record {
        rest = f.rest ++ more.0;
        begins = (λ i. rows_in_order (got i) ++ (f.rest ++ more.0)) ∙ sym (append_assoc (rows_in_order x.got) f.rest more.0) ∙ ap (λ rows. rows ++ more.0) f.begins ∙ more.1;
        all = λ c.
            let a = f.all (before c) in
            let r = complete_rests F w Takes Musts o begun some z q cz go a.1 in
            let none = no_more (rows_in_order z.got) more.0 (more.1 ∙ ap rows_in_order (whole_got a.1 r.longer)) in
            ((λ i. a.0 i ++ none i), r.is_complete);
      }
    where
      kept : (b : Bool) → x.is_dropped ≡ b → p.is_dropped ≡ false → x.is_dropped ≡ false
      kept false e d = e
      kept true e d = absurd (let no : true ≡ false = sym (dropped e) ∙ d in cc)

      before : IsComplete p → IsComplete x
      before c = let h = whole p c in complete x (record { done = ap (λ (u : Wire). is_done u.send_state) (sym wire) ∙ h.done; dropped = kept x.is_dropped refl h.dropped; unread = sym unread ∙ h.unread })

      whole_got : IsComplete z → length q.got ≡ length z.got → q.got ≡ z.got
      whole_got c long =
          let all = o.read z cz c in
          sym (take-length q.got) ∙ ap (λ k. take k q.got) (long ∙ sym all) ∙ take_fills z.got q.got z.next go.got (came_to F w o.known z cz) ∙ ap (λ k. take k z.got) all ∙ take-length z.got

  still_open : (p x : Pipe) → p.wire ≡ x.wire → (x.is_dropped ≡ true → p.is_dropped ≡ true) → IsOpen p ≡ false → IsOpen x ≡ false
  still_open p x wire dropped e = let a = or_two (is_done p.wire.receive_state) p.is_dropped e in by x.is_dropped refl (ap (λ (u : Wire). is_done u.receive_state) (sym wire) ∙ a.0) a.1
    where
      by : (b : Bool) → x.is_dropped ≡ b → is_done x.wire.receive_state ≡ false → p.is_dropped ≡ false → IsOpen x ≡ false
      by false d r e = λ i. r i || d i
      by true d r e = absurd (let no : true ≡ false = sym (dropped d) ∙ e in cc)

  -- NOTHING IS TAKEN OF ITS INPUT
  module _ (still : (q x : Pipe) → Enters w n x → Goes Takes Musts x q → q.next ≡ x.next) (ports : PortsGo none_more w v n) where
    got_same : (p x : Pipe) → Port none_more x p → p.got ≡ x.got
    got_same p x t = t.got ∙ nil x.got
      where
        nil : (xs : Places) → xs ++ [] ≡ xs
        nil [] = refl
        nil (x ∷ xs) = ap (λ zs. x ∷ zs) (nil xs)

    pub ports_still : HoldsPorts w n → HoldsPorts v n
    ports_still h =
        record {
          fronts = λ p q l e. let x = ports p l in let z = of_input q e in front_on p q x.0 z.0 x.2.wire x.2.unread x.2.dropped (got_same p x.0 x.2) z.1.0 z.2 (h.fronts x.0 z.0 x.1 z.1);
          open_ports = λ p q l e on.
              let x = ports p l in
              let z = of_input q e in
              got_same p x.0 x.2 ∙ h.open_ports x.0 z.0 x.1 z.1 (still_open p x.0 x.2.wire x.2.dropped on) ∙ sym (ap (λ k. take k q.got) (still q z.0 z.1 z.2) ∙ take_fills z.0.got q.got z.0.next z.2.got (came_to F w o.known z.0 z.1.0));
        }

  -- IT PULLS
  module _ (m i : ℕ) (other : Node) (r : Pipe) (rs : List Row) (entered : Enters w n r) (slot : slice_get r.got r.next ≡ Some (Some rs)) (moves : (q : Pipe) → Goes Takes Musts r q → q.next ≡ suc r.next) (ports : PortsGo (comes F w n node o.known there (ap (λ k. is_multiplexer k) is_one) m i other r rs) w v n) where
    one_more : Came r.got (suc r.next)
    one_more k less = by (cases_eq k r.next)
      where
        by : (k ≡ r.next) ⊎ (k ≢ r.next) → (a : List Row) × (slice_get r.got k ≡ Some (Some a))
        by (inl same) = (rs, ap (slice_get r.got) same ∙ slot)
        by (inr apart) = came_to F w o.known r entered.0 k (omega (arith, less, apart))

    -- what was read after the pull
    read_now : (q : Pipe) → Goes Takes Musts r q → take q.next q.got ≡ take r.next r.got ++ Some rs ∷ []
    read_now q go = ap (λ k. take k q.got) (moves q go) ∙ take_fills r.got q.got (suc r.next) go.got one_more ∙ take_more r.got r.next rs slot

    input_is : (q : Pipe) (e : Enters v n q) → Goes Takes Musts r q
    input_is q e = let z = of_input q e in subst (λ y. Goes Takes Musts y q) (one_input F w n node o.known there is_one z.0 r z.1 entered) z.2

    open_got : (p x q : Pipe) → Leaves w n x → Port (comes F w n node o.known there (ap (λ k. is_multiplexer k) is_one) m i other r rs) x p → IsOpen x ≡ false → Goes Takes Musts r q → HoldsPorts w n → p.got ≡ take q.next q.got
    open_got p x q l t on go h =
        let a = or_two (is_done x.wire.receive_state) x.is_dropped on in
        let here : is_open_port n x ≡ true = (λ j. at_n l.1 j && (not (a.0 j) && not (a.1 j))) in
        t.got ∙ (λ j. h.open_ports x r l entered on j ++ cond (here j) (cond (a.1 j) [] (Some rs ∷ [])) []) ∙ sym (read_now q go)
      where
        at_n : x.wire.sender ≡ n → nat_eq x.wire.sender n ≡ true
        at_n e = ap (λ k. nat_eq k n) e ∙ reflexive n

    closed_got : (p x : Pipe) → Port (comes F w n node o.known there (ap (λ k. is_multiplexer k) is_one) m i other r rs) x p → IsOpen x ≡ true → p.got ≡ x.got
    closed_got p x t off = t.got ∙ by (nat_eq x.wire.sender n) (is_done x.wire.receive_state) x.is_dropped off
      where
        nil : (xs : Places) → xs ++ [] ≡ xs
        nil [] = refl
        nil (x ∷ xs) = ap (λ zs. x ∷ zs) (nil xs)

        by : (a b c : Bool) → (b || c) ≡ true → x.got ++ cond (a && (not b && not c)) (cond c [] (Some rs ∷ [])) [] ≡ x.got
        by true true c e = nil x.got
        by true false true e = nil x.got
        by true false false e = absurd (let no : false ≡ true = e in cc)
        by false b c e = nil x.got

    front_now : (p q x : Pipe) → Leaves w n x → Port (comes F w n node o.known there (ap (λ k. is_multiplexer k) is_one) m i other r rs) x p → Goes Takes Musts r q → HoldsPorts w n → (b : Bool) → IsOpen x ≡ b → IsFrontOf (sent_by p) (sent_by q)
    front_now p q x l t go h true off = front_on p q x r t.wire t.unread t.dropped (closed_got p x t off) entered.0 go (h.fronts x r l entered)
    front_now p q x l t go h false on =
        let more = came_front q.got q.next (subst (λ k. Came q.got k) (sym (moves q go)) (came_on q go)) in
        record {
          rest = more.0;
          begins = (λ j. rows_in_order (open_got p x q l t on go h j) ++ more.0) ∙ more.1;
          all = λ c.
              let d = (whole p c).done in
              let wired = contains_map (λ (z : Pipe). z.wire) x w.pipes l.0 in
              let read : is_done x.wire.receive_state ≡ true = sym (o.agree begun x.wire wired) ∙ ap (λ (u : Wire). is_done u.send_state) (sym t.wire) ∙ d in
              absurd (let no : true ≡ false = sym read ∙ (or_two (is_done x.wire.receive_state) x.is_dropped on).0 in cc);
        }
      where
        came_on : (q : Pipe) → Goes Takes Musts r q → Came q.got (suc r.next)
        came_on q go k less = let c = one_more k less in (c.0, sym (take_at q.got (suc r.next) k less) ∙ ap (λ xs. slice_get xs k) (take_fills r.got q.got (suc r.next) go.got one_more) ∙ take_at r.got (suc r.next) k less ∙ c.1)

    pub ports_pull : HoldsPorts w n → HoldsPorts v n
    ports_pull h =
        record {
          fronts = λ p q l e. let x = ports p l in front_now p q x.0 x.1 x.2 (input_is q e) h (IsOpen x.0) refl;
          open_ports = λ p q l e on. let x = ports p l in open_got p x.0 q x.1 x.2 (still_open p x.0 x.2.wire x.2.dropped on) (input_is q e) h;
        }

-- AN UPDATE
module _ (F : Functions) (w : World) (m : ℕ) (other : Node) (progress : Progress) (o : Orderly F w) (shut : w.is_open ≡ false) (at_m : slice_get w.nodes m ≡ Some other) (booked : progress.booked ≡ other.progress.booked) (kv : Known F (turned w m other progress at_m))
    (shape : shape_of (turned w m other progress at_m) ≡ shape_of w) (n : ℕ) (node : Node) (there : slice_get w.nodes n ≡ Some node) (is_one : node.node.kind ≡ multiplexer) where
  abbrev v : World
  v = turned w m other progress at_m

  abbrev a : Sides
  a = answer w m other progress at_m

  onward : AllOnward w v
  onward y c = let x = turned_from w m other progress at_m y c in (x.0, x.1, record { joins = x.2.joins; dropped = λ d. x.2.dropped ∙ d; received = x.2.received_on })

  stays_over : StaysOver w v n
  stays_over x y at e over = let same = same_node w n x node at there in absurd (let no : false ≡ true = ap (λ k. is_over_slice k x.progress.booked) (sym (ap (λ (z : Node). z.node.kind) same ∙ is_one)) ∙ over in cc)

  -- IT IS THE MULTIPLEXER
  module _ (here : n ≡ m) where
    is_mux : other.node.kind ≡ multiplexer
    is_mux = let same = same_node w n node other there (ap (slice_get w.nodes) here ∙ at_m) in ap (λ (z : Node). z.node.kind) (sym same) ∙ is_one

    abbrev given : Sides
    given = given_at w m

    abbrev es : List Bool
    es = empty_outs w m

    says : a ≡ record { inputs = kept_done given.inputs (multiplexer_answer es given).inputs; outputs = kept_done given.outputs (multiplexer_answer es given).outputs }
    says = λ i. record { inputs = kept_done given.inputs (answer_by w.options (is_mux i) progress (heads_of w m other) es given).inputs; outputs = kept_done given.outputs (answer_by w.options (is_mux i) progress (heads_of w m other) es given).outputs }

    one_given : length given.inputs ≡ 1
    one_given = subst (λ k. HasInputs k (length given.inputs)) is_mux (has_inputs F w o.known.facts m other at_m)

    state_in : (x : Pipe) → Enters w n x → slice_get given.inputs x.wire.input ≡ Some x.wire.send_state
    state_in x e = ap (λ k. slice_get (given_at w k).inputs x.wire.input) (sym here ∙ sym e.1) ∙ given_input F w o.known.facts x e.0

    state_out : (x : Pipe) → Leaves w n x → slice_get given.outputs x.wire.port ≡ Some x.wire.receive_state
    state_out x l = ap (λ k. slice_get (given_at w k).outputs x.wire.port) (sym here ∙ sym l.1) ∙ given_output F w o.known.facts x l.0

    split : (a b : Bool) → (a || b) ≡ true → (a ≡ true) ⊎ (b ≡ true)
    split true b e = inl refl
    split false b e = inr e

    -- where all its readers are done nobody wants its rows
    none_reads : all_done given.outputs ≡ true → HasNoUse w n
    none_reads all =
        let many : 1 ≤ length given.outputs = subst (λ k. HasReaders k (length given.outputs)) is_mux (has_readers F w o.known.facts m other at_m) in
        let s = item_at given.outputs 0 (omega (arith, many)) in
        let z = reader_pipe w m 0 s.0 s.1 in
        inr (z.0, z.1, z.2 ∙ sym here, λ q cq from. second q.is_dropped (is_done q.wire.receive_state) (all_done_at given.outputs q.wire.port q.wire.receive_state all (state_out q (cq, from))))
      where
        second : (a b : Bool) → b ≡ true → (a || b) ≡ true
        second true b e = refl
        second false b e = e

    own_done : (x : Pipe) → Enters w n x → DoneFits w n → is_done x.wire.receive_state ≡ false → (is_done x.wire.send_state ≡ true) ⊎ (is_done (get_or (multiplexer_answer es given).inputs x.wire.input x.wire.receive_state) ≡ true) → IsComplete x ⊎ HasNoUse w n
    own_done x e done none (inl sent) = sent_cases F w m other progress o shut at_m booked n x e sent done
    own_done x e done none (inr now) = by (all_over es given) refl
      where
        not_going : (b : Bool) (k : ℕ) → is_done (get_or (cond b port.Blocked port.Ready ∷ []) k x.wire.receive_state) ≡ true → ⊥
        not_going true zero e = let no : false ≡ true = e in cc
        not_going false zero e = let no : false ≡ true = e in cc
        not_going b (suc k) e = let no : true ≡ false = sym e ∙ none in cc

        of : (all_done given.outputs ≡ true) ⊎ ((all_done given.inputs && undone_empty es given.outputs) ≡ true) → IsComplete x ⊎ HasNoUse w n
        of (inl outs) = inr (none_reads outs)
        of (inr ins) = sent_cases F w m other progress o shut at_m booked n x e (all_done_at given.inputs x.wire.input x.wire.send_state (both_true (all_done given.inputs) (undone_empty es given.outputs) ins).0 (state_in x e)) done

        by : (b : Bool) → all_over es given ≡ b → IsComplete x ⊎ HasNoUse w n
        by true over = of (split (all_done given.outputs) (all_done given.inputs && undone_empty es given.outputs) over)
        by false going = absurd (not_going (all_blocked given.outputs) x.wire.input (ap (λ (s : Sides). is_done (get_or s.inputs x.wire.input x.wire.receive_state)) (sym (answer_going es given going)) ∙ now))

    -- a port is newly done only where the input was sent to its end
    module _ (x p : Pipe) (l : Leaves w n x) (new : Newly F w m other progress o shut at_m x p) (q : Pipe) (e : Enters w n q) (done : DoneFits w n) where
      sent : is_done q.wire.send_state ≡ true
      sent = by (kept_at given.outputs (multiplexer_answer es given).outputs x.wire.port x.wire.receive_state x.wire.send_state (state_out x l) new.sent (ap (λ (s : Sides). is_done (get_or s.outputs x.wire.port x.wire.send_state)) (sym says) ∙ new.said))
        where
          of_all : all_done given.inputs ≡ true → is_done q.wire.send_state ≡ true
          of_all all = all_done_at given.inputs q.wire.input q.wire.send_state all (state_in q e)

          over : (all_done given.outputs ≡ true) ⊎ ((all_done given.inputs && undone_empty es given.outputs) ≡ true) → is_done q.wire.send_state ≡ true
          over (inl outs) = absurd (let no : true ≡ false = sym (all_done_at given.outputs x.wire.port x.wire.receive_state outs (state_out x l)) ∙ new.reader in cc)
          over (inr ins) = of_all (both_true (all_done given.inputs) (undone_empty es given.outputs) ins).0

          first : first_port given.inputs ≡ q.wire.send_state
          first = ap first_port (one_state given.inputs q.wire.input q.wire.send_state one_given (state_in q e)).1

          going : is_done (get_or (port_answers (first_port given.inputs) es given.outputs) x.wire.port x.wire.send_state) ≡ true → (get_or (port_answers (first_port given.inputs) es given.outputs) x.wire.port x.wire.send_state ≡ first_port given.inputs) ⊎ (get_or (port_answers (first_port given.inputs) es given.outputs) x.wire.port x.wire.send_state ≡ port.Ready) → is_done q.wire.send_state ≡ true
          going d (inl same) = ap is_done (sym (same ∙ first)) ∙ d
          going d (inr ready) = absurd (let no : false ≡ true = ap is_done (sym ready) ∙ d in cc)

          cases : (b : Bool) → all_over es given ≡ b → is_done (get_or (multiplexer_answer es given).outputs x.wire.port x.wire.send_state) ≡ true → is_done q.wire.send_state ≡ true
          cases true h now = over (split (all_done given.outputs) (all_done given.inputs && undone_empty es given.outputs) h)
          cases false h now = going (ap (λ (s : Sides). is_done (get_or s.outputs x.wire.port x.wire.send_state)) (sym (answer_going es given h)) ∙ now) (port_says (first_port given.inputs) es given.outputs x.wire.port x.wire.receive_state x.wire.send_state (state_out x l))

          by : (is_done x.wire.receive_state ≡ true) ⊎ (is_done (get_or (multiplexer_answer es given).outputs x.wire.port x.wire.send_state) ≡ true) → is_done q.wire.send_state ≡ true
          by (inl d) = absurd (let no : true ≡ false = sym d ∙ new.reader in cc)
          by (inr now) = cases (all_over es given) refl now

      input_complete : IsComplete q
      input_complete = by (sent_cases F w m other progress o shut at_m booked n q e sent done)
        where
          used : HasNoUse w n → ⊥
          used (inl (z, at_z, over)) = let same = same_node w n z node at_z there in let no : false ≡ true = ap (λ k. is_over_slice k z.progress.booked) (sym (ap (λ (y : Node). y.node.kind) same ∙ is_one)) ∙ over in cc
          used (inr (z, cz, from, each)) = let no : false ≡ true = sym (λ i. new.dropped i || new.reader i) ∙ each x l.0 l.1 in cc

          by : IsComplete q ⊎ HasNoUse w n → IsComplete q
          by (inl c) = c
          by (inr none) = absurd (used none)

  done_turns : DoneFits w n → DoneFits v n
  done_turns done y c d =
      let x = turned_from w m other progress at_m y c.0 in
      by x.0 (x.1, ap (λ (j : Joins). j.receiver) (sym x.2.joins) ∙ c.1) x.2 (is_done x.0.wire.receive_state) refl (x.2.received_new d)
    where
      of : (x : Pipe) → Turned m a x y → IsComplete x ⊎ HasNoUse w n → IsComplete y ⊎ HasNoUse v n
      of x t (inl is) = inl (complete_turned F w m other progress o shut at_m x y t is)
      of x t (inr none) = inr (no_use_on F w v o.known kv shape onward n stays_over none)

      by : (x : Pipe) → Enters w n x → Turned m a x y → (b : Bool) → is_done x.wire.receive_state ≡ b → (is_done x.wire.receive_state ≡ true) ⊎ (x.wire.receiver ≡ m) × (is_done (get_or a.inputs x.wire.input x.wire.receive_state) ≡ true) → IsComplete y ⊎ HasNoUse v n
      by x e t true was new = of x t (done x e was)
      by x e t false was (inl is) = absurd (let no : true ≡ false = sym is ∙ was in cc)
      by x e t false was (inr (at_it, now)) =
          let here : n ≡ m = sym e.1 ∙ at_it in
          of x t (own_done here x e done was (kept_at (given_at w m).inputs (multiplexer_answer (empty_outs w m) (given_at w m)).inputs x.wire.input x.wire.send_state x.wire.receive_state (state_in here x e) was (ap (λ (z : Sides). is_done (get_or z.inputs x.wire.input x.wire.receive_state)) (sym (says here)) ∙ now)))

  pub mux_turns : DoneFits w n → HoldsPorts w n → DoneFits v n × HoldsPorts v n
  mux_turns done h = (done_turns done, record { fronts = fronts; open_ports = open_ports })
    where
      out_of : (p : Pipe) → Leaves v n p → (x : Pipe) × Leaves w n x × Turned m a x p
      out_of p l = let x = turned_from w m other progress at_m p l.0 in (x.0, (x.1, ap (λ (j : Joins). j.sender) (sym x.2.joins) ∙ l.1), x.2)

      into : (q : Pipe) → Enters v n q → (x : Pipe) × Enters w n x × Turned m a x q
      into q e = let x = turned_from w m other progress at_m q e.0 in (x.0, (x.1, ap (λ (j : Joins). j.receiver) (sym x.2.joins) ∙ e.1), x.2)

      was_open : (p x : Pipe) → Turned m a x p → IsOpen p ≡ false → IsOpen x ≡ false
      was_open p x t e = let b = or_two (is_done p.wire.receive_state) p.is_dropped e in by (is_done x.wire.receive_state) refl b.0 (sym t.dropped ∙ b.1)
        where
          by : (r : Bool) → is_done x.wire.receive_state ≡ r → is_done p.wire.receive_state ≡ false → x.is_dropped ≡ false → IsOpen x ≡ false
          by false r e d = λ i. r i || d i
          by true r e d = absurd (let no : true ≡ false = sym (t.received_on r) ∙ e in cc)

      fronts : (p q : Pipe) → Leaves v n p → Enters v n q → IsFrontOf (sent_by p) (sent_by q)
      fronts p q l e =
          let x = out_of p l in
          let z = into q e in
          let f = h.fronts x.0 z.0 x.1 z.1 in
          record { rest = f.rest; begins = (λ i. rows_in_order (x.2.got i) ++ f.rest) ∙ f.begins ∙ ap rows_in_order (sym z.2.got); all = λ c. all x.0 z.0 x.1 z.1 x.2 z.2 f (newly F w m other progress o shut at_m x.0 p x.1.0 x.2 c) }
        where
          all : (x z : Pipe) → Leaves w n x → Enters w n z → Turned m a x p → Turned m a z q → (f : IsFrontOf (sent_by x) (sent_by z)) → IsComplete x ⊎ Newly F w m other progress o shut at_m x p → (f.rest ≡ []) × IsComplete q
          all x z lx ez t u f (inl was) = let r = f.all was in (r.0, complete_turned F w m other progress o shut at_m z q u r.1)
          all x z lx ez t u f (inr new) =
              let here : n ≡ m = sym lx.1 ∙ new.from in
              let c = input_complete here x p lx new z ez done in
              let got = h.open_ports x z lx ez (λ i. new.reader i || new.dropped i) in
              let read = o.read z ez.0 c in
              let same : rows_in_order x.got ≡ rows_in_order z.got = ap rows_in_order (got ∙ ap (λ k. take k z.got) read ∙ take-length z.got) in
              (no_more (rows_in_order x.got) f.rest (f.begins ∙ sym same), complete_turned F w m other progress o shut at_m z q u c)

      open_ports : (p q : Pipe) → Leaves v n p → Enters v n q → IsOpen p ≡ false → p.got ≡ take q.next q.got
      open_ports p q l e on =
          let x = out_of p l in
          let z = into q e in
          x.2.got ∙ h.open_ports x.0 z.0 x.1 z.1 (was_open p x.0 x.2 on) ∙ sym (λ i. take (z.2.next i) (z.2.got i))
