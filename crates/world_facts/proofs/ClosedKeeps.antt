-- A node that closes keeps the facts: nothing is left in its inputs, and nothing of it is out.
use Rattle.std.proofs.Common.{◌≡◌, ◌≢◌, ℕ, zero, suc, ◌<◌, ◌+◌, ◌-◌, ◌≤◌, ◌⊎◌, Bool, true, false, cond, List, [], ◌∷◌, length, Option, Some, None, refl, sym, ap, subst, ◌∙◌, inl, inr, arith}
use Rattle.std.specs.Prelude.{Contains, IsTrue, drop, is_some, nat_eq, nat_lt, not, slice_get, ◌&&◌, ◌||◌}
use Rattle.std.specs.List.{count_by, fold, filter as kept, list_all}
use Rattle.std.proofs.lemmas.Bool.{cases_eq, cases_lt}
use Rattle.std.proofs.lemmas.Bool.Decides.{nat_tests}
use Rattle.std.proofs.lemmas.Option.{slice_get-get_or}
use Rattle.ps_frame.specs.Functions.{Functions}
use Rattle.ps_frame.specs.Tables.{Row}
use Rattle.ps_ports.specs.Ports.{is_done}
use Rattle.ps_turns.specs.Tasks.{Piece}
use Rattle.ps_world.specs.Closing.{HasFinished, after_close, inputs_over}
use Rattle.ps_world.specs.Facts.{Facts, IsAwaited, PipeFacts, is_filled_by, slots_of}
use Rattle.ps_world.specs.Step.{Steps}
use Rattle.ps_world.specs.World.{Node, Pipe, World, closed, counts_for_sender, is_bounded, is_cut_off, is_drained, is_over, pieces_of, running, waiting, IsWorking}
use Rattle.world_facts.proofs.CutOff.{and_true, both_true, cut_off_same, its_number, same_number}
use Rattle.world_laws.proofs.InOrder.{contains_kept, list_all-in_order, none_in_nil}
use Rattle.world_facts.proofs.Kin.{Base, Kin, base, came_from, multiplexes_kin, no_use_kin}
use Rattle.world_laws.proofs.Shapes.{shown_set}
use Rattle.world_facts.proofs.Slots.{all_at, all_of_kept, set_here, set_other}

at_least : (n : ℕ) (xs : List (Option (List Row))) → n ≤ fold (λ (a : ℕ) (slot : Option (List Row)). a + cond (is_some slot) 1 0) n xs
at_least n [] = omega arith
at_least n (x ∷ xs) = let h = at_least (n + cond (is_some x) 1 0) xs in by (cond (is_some x) 1 0) h
  where
    by : (c : ℕ) → n + c ≤ fold (λ (a : ℕ) (slot : Option (List Row)). a + cond (is_some slot) 1 0) (n + cond (is_some x) 1 0) xs → n ≤ fold (λ (a : ℕ) (slot : Option (List Row)). a + cond (is_some slot) 1 0) (n + cond (is_some x) 1 0) xs
    by c h = omega arith

some_counted : (xs : List (Option (List Row))) (k : ℕ) (rs : List Row) → slice_get xs k ≡ Some (Some rs) → 0 < count_by (λ (slot : Option (List Row)). is_some slot) (drop k xs)
some_counted [] k rs e = absurd (let no : None ≡ Some (Some rs) = e in cc)
some_counted (x ∷ xs) zero rs e = let s : Some x ≡ Some (Some rs) = e in let is : x ≡ Some rs = cc in subst (λ (y : Option (List Row)). 0 < count_by (λ (slot : Option (List Row)). is_some slot) (y ∷ xs)) (sym is) (at_least 1 xs)
some_counted (x ∷ xs) (suc k) rs e = some_counted xs k rs e

none_counted : (b : Bool) (n : ℕ) → nat_eq (cond b 0 n) 0 ≡ true → b ≡ false → n ≡ 0
none_counted true n e d = absurd (let no : true ≡ false = d in cc)
none_counted false n e d = grind (arith, nat_tests)

module _ (F : Functions) (w : World) (f : Facts F w) (n : ℕ) (node : Node) (at : slice_get w.nodes n ≡ Some node) (on : (w.is_open && (node.in_phase && not node.is_closed)) ≡ true) (runs : w.ending ≡ running) (nothing : pieces_of w n ≡ []) (finished : HasFinished w n node) where
  abbrev v : World
  v = after_close w n node

  abbrev shut_node : Node
  shut_node = record node { is_closed = true }

  abbrev shuts : Pipe → Bool
  shuts p = nat_eq p.wire.sender n && p.in_phase

  abbrev shut_if : Bool → Pipe → Pipe
  shut_if b p = cond b (record p { is_closed = true }) p

  is_open : w.is_open ≡ true
  is_open = (both_true w.is_open (node.in_phase && not node.is_closed) on).0

  true_or_false : (b : Bool) → (b ≡ true) ⊎ (b ≡ false)
  true_or_false true = inl refl
  true_or_false false = inr refl

  over_at : (m : ℕ) (x : Node) → slice_get w.nodes m ≡ Some x → IsTrue (Rattle.ps_world.specs.Facts.is_over_slice x.node.kind x.progress.booked) → (y : Node) × (slice_get v.nodes m ≡ Some y) × IsTrue (Rattle.ps_world.specs.Facts.is_over_slice y.node.kind y.progress.booked)
  over_at m x e o = by (cases_eq m n)
    where
      by : (m ≡ n) ⊎ (m ≢ n) → (y : Node) × (slice_get v.nodes m ≡ Some y) × IsTrue (Rattle.ps_world.specs.Facts.is_over_slice y.node.kind y.progress.booked)
      by (inl same) =
          let s : Some x ≡ Some node = sym e ∙ ap (slice_get w.nodes) same ∙ at in let is : x ≡ node = cc in
          (shut_node, ap (slice_get v.nodes) same ∙ set_here w.nodes n node shut_node at, subst (λ (z : Node). IsTrue (Rattle.ps_world.specs.Facts.is_over_slice z.node.kind z.progress.booked)) is o)
      by (inr other) = (x, set_other w.nodes n m shut_node other ∙ e, o)

  abbrev kin : Kin w v
  kin =
      record {
        shape = shown_set w.nodes n node shut_node at refl;
        options = refl;
        over = over_at;
        pipe = λ p. shut_if (shuts p) p;
        pipes = refl;
        joins = λ x. joins x (shuts x);
        dropped = λ x d. gone x (shuts x) d;
        done = λ x c d. done x (shuts x) d;
      }
    where
      joins : (x : Pipe) (b : Bool) → Rattle.ps_world.specs.Facts.joins_of (shut_if b x) ≡ Rattle.ps_world.specs.Facts.joins_of x
      joins x true = refl
      joins x false = refl

      gone : (x : Pipe) (b : Bool) → IsTrue x.is_dropped → IsTrue (shut_if b x).is_dropped
      gone x true d = d
      gone x false d = d

      done : (x : Pipe) (b : Bool) → IsTrue (is_done x.wire.receive_state) → IsTrue (is_done (shut_if b x).wire.receive_state)
      done x true d = d
      done x false d = d

  -- other nodes work on, this one doesn't
  works_on : (m : ℕ) → m ≢ n → IsWorking w m → IsWorking v m
  works_on m other (x, e, o) = (x, set_other w.nodes n m shut_node other ∙ e, o)

  worked : (m : ℕ) → IsWorking v m → IsWorking w m × (m ≢ n)
  worked m (y, e, o) = by (cases_eq m n)
    where
      never : (a b : Bool) → (a && (b && false)) ≡ true → ⊥
      never true true h = let no : false ≡ true = h in cc
      never true false h = let no : false ≡ true = h in cc
      never false b h = let no : false ≡ true = h in cc

      by : (m ≡ n) ⊎ (m ≢ n) → IsWorking w m × (m ≢ n)
      by (inl same) =
          let s : Some shut_node ≡ Some y = sym (ap (slice_get v.nodes) same ∙ set_here w.nodes n node shut_node at) ∙ e in let is : shut_node ≡ y = cc in
          absurd (never w.is_open node.in_phase (ap (λ (z : Node). w.is_open && (z.in_phase && not z.is_closed)) is ∙ o))
      by (inr other) = ((y, sym (set_other w.nodes n m shut_node other) ∙ e, o), other)

  not_its : (q : Piece) → Contains w.outs q → q.node ≢ n
  not_its q c same = none_in_nil q (subst (λ xs. Contains xs q) nothing (contains_kept (λ (p : Piece). nat_eq p.node n) q w.outs c (its_number q.node n same)))

  -- nothing is left in an input of the phase
  module _ (x : Pipe) (c : Contains w.pipes x) (into : x.wire.receiver ≡ n) (here : x.in_phase ≡ true) where
    facts_in : PipeFacts w x
    facts_in = f.pipes x c

    no_hole : x.is_dropped ≡ false → x.is_closed ≡ true → slice_get x.got x.next ≡ Some None → ⊥
    no_hole d shut hole = by (facts_in.expected runs x.next hole)
      where
        by : IsTrue x.is_dropped ⊎ IsTrue x.in_phase × IsAwaited w x.wire.sender x.next → ⊥
        by (inl gone) = let no : false ≡ true = sym d ∙ gone in cc
        by (inr (h, a)) = facts_in.closed_by_sender shut (subst (IsWorking w) a.2 (f.at_work a.0 a.1))

    empty_of : x.is_dropped ≡ false → x.is_closed ≡ true → count_by (λ (slot : Option (List Row)). is_some slot) (drop x.next x.got) ≡ 0 → (x.next < length x.got) ⊎ (length x.got ≤ x.next) → nat_eq (length x.got - x.next) 0 ≡ true
    empty_of d shut none (inr h) = zero_of (length x.got) x.next h
      where
        zero_of : (a b : ℕ) → a ≤ b → nat_eq (a - b) 0 ≡ true
        zero_of a b h = let z : a - b ≡ 0 = omega arith in ap (λ k. nat_eq k 0) z
    empty_of d shut none (inl h) = absurd (of_slot (slice_get x.got x.next) refl)
      where
        of_slot : (o : Option (Option (List Row))) → slice_get x.got x.next ≡ o → ⊥
        of_slot None e = let there = slice_get-get_or x.got x.next None h in let no : None ≡ Some (Rattle.std.specs.Prelude.get_or x.got x.next None) = sym e ∙ there in cc
        of_slot (Some None) e = no_hole d shut e
        of_slot (Some (Some rs)) e = let many = some_counted x.got x.next rs e in absurd (omega arith)

    over_of : (is_over x ≡ true) → (x.is_dropped ≡ true) ⊎ (x.is_dropped ≡ false) → (x.is_dropped ≡ true) ⊎ (x.is_closed && is_drained x) ≡ true
    over_of e (inl gone) = inl gone
    over_of e (inr d) =
        let rest = both_true x.is_closed (nat_eq (waiting x) 0) (sym (ap (λ b. b || (x.is_closed && nat_eq (waiting x) 0)) d) ∙ e) in
        let none = none_counted x.is_dropped (count_by (λ (slot : Option (List Row)). is_some slot) (drop x.next x.got)) rest.1 d in
        inr (and_true x.is_closed (is_drained x) rest.0 (Rattle.std.proofs.lemmas.Bool.or_right x.is_dropped (nat_eq (length x.got - x.next) 0) (empty_of d rest.0 none (cases_lt x.next (length x.got)))))

    input_over : IsTrue (inputs_over w n) → is_over x ≡ true
    input_over e =
        let all : list_all (λ (p : Pipe). not (nat_eq p.wire.receiver n) || (not p.in_phase || is_over p)) w.pipes ≡ true =
        sym (all_of_kept (λ (p : Pipe). nat_eq p.wire.receiver n) (λ (p : Pipe). not p.in_phase || is_over p) w.pipes)
        ∙ sym (list_all-in_order (λ (p q : Pipe). nat_lt p.wire.input q.wire.input) (λ (p : Pipe). not p.in_phase || is_over p) (kept (λ (p : Pipe). nat_eq p.wire.receiver n) w.pipes)) ∙ e in
        let mine = all_at (λ (p : Pipe). not (nat_eq p.wire.receiver n) || (not p.in_phase || is_over p)) w.pipes x all c in
        let yes = its_number x.wire.receiver n into in
        sym (λ i. not (yes i) || (not (here i) || is_over x)) ∙ mine

    pub finished_input : (x.is_dropped ≡ true) ⊎ (x.is_closed && is_drained x) ≡ true
    finished_input = by finished
      where
        by : HasFinished w n node → (x.is_dropped ≡ true) ⊎ (x.is_closed && is_drained x) ≡ true
        by (inl (over, rest)) = over_of (input_over over) (true_or_false x.is_dropped)
        by (inr cut) = inl (f.cut_off x c (omega arith) here (ap (is_cut_off w) into ∙ cut))

  of_pipe : (x : Pipe) → Contains w.pipes x → PipeFacts v (shut_if (shuts x) x)
  of_pipe x c = by (shuts x) refl
    where
      facts : PipeFacts w x
      facts = f.pipes x c

      same_bound : is_bounded v x ≡ is_bounded w x
      same_bound = ap not (multiplexes_kin w v kin x.wire.sender)

      not_sender : shuts x ≡ false → x.in_phase ≡ true → x.wire.sender ≢ n
      not_sender e here same = let yes = and_true (nat_eq x.wire.sender n) x.in_phase (its_number x.wire.sender n same) here in let no : true ≡ false = sym yes ∙ e in cc

      -- the reader of what isn't read to its end is another node
      reader : x.in_phase ≡ true → (x.is_dropped || (x.is_closed && is_drained x)) ≡ false → IsWorking v x.wire.receiver
      reader here left = works_on x.wire.receiver (λ into. other (finished_input x c into here)) (facts.read_to_end here left)
        where
          other : (x.is_dropped ≡ true) ⊎ (x.is_closed && is_drained x) ≡ true → ⊥
          other (inl gone) = let no : true ≡ false = sym (Rattle.std.proofs.lemmas.Bool.or_left x.is_dropped (x.is_closed && is_drained x) gone) ∙ left in cc
          other (inr over) = let no : true ≡ false = sym (Rattle.std.proofs.lemmas.Bool.or_right x.is_dropped (x.is_closed && is_drained x) over) ∙ left in cc

      by : (b : Bool) → shuts x ≡ b → PipeFacts v (shut_if b x)
      by true e =
          let parts = both_true (nat_eq x.wire.sender n) x.in_phase e in
          let sender = same_number x.wire.sender n parts.0 in
          record {
            taken = facts.taken;
            came = facts.came;
            expected = facts.expected;
            at_hand = facts.at_hand;
            closed_with_sender = λ here left. absurd (let no : true ≡ false = left in cc);
            closed_by_sender = λ shut work. (worked x.wire.sender work).1 sender;
            closed_in_phase = λ shut. parts.1;
            read_to_end = λ here left. reader here (weaker x.is_dropped x.is_closed (is_drained x) left);
            drained = λ off bound. facts.drained off (sym same_bound ∙ bound);
            unread_done = facts.unread_done;
            why_dropped = λ gone. no_use_kin w v kin x.wire.receiver (facts.why_dropped gone);
          }
        where
          weaker : (d c e : Bool) → (d || (true && e)) ≡ false → (d || (c && e)) ≡ false
          weaker true c e h = h
          weaker false true e h = h
          weaker false false e h = refl
      by false e =
          record {
            taken = facts.taken;
            came = facts.came;
            expected = facts.expected;
            at_hand = facts.at_hand;
            closed_with_sender = λ here left. works_on x.wire.sender (not_sender e here) (facts.closed_with_sender here left);
            closed_by_sender = λ shut work. facts.closed_by_sender shut (worked x.wire.sender work).0;
            closed_in_phase = facts.closed_in_phase;
            read_to_end = λ here left. reader here left;
            drained = λ off bound. facts.drained off (sym same_bound ∙ bound);
            unread_done = facts.unread_done;
            why_dropped = λ gone. no_use_kin w v kin x.wire.receiver (facts.why_dropped gone);
          }

  same_live : (m : ℕ) (x : Pipe) (b : Bool) → (nat_eq (shut_if b x).wire.sender m && counts_for_sender v (shut_if b x)) ≡ (nat_eq x.wire.sender m && counts_for_sender w x)
  same_live m x true = ap (λ b. nat_eq x.wire.sender m && (x.in_phase || (b && not (is_done x.wire.receive_state)))) (multiplexes_kin w v kin x.wire.sender)
  same_live m x false = ap (λ b. nat_eq x.wire.sender m && (x.in_phase || (b && not (is_done x.wire.receive_state)))) (multiplexes_kin w v kin x.wire.sender)

  same_counts : (x : Pipe) (b : Bool) → counts_for_sender v (shut_if b x) ≡ counts_for_sender w x
  same_counts x true = ap (λ b. x.in_phase || (b && not (is_done x.wire.receive_state))) (multiplexes_kin w v kin x.wire.sender)
  same_counts x false = ap (λ b. x.in_phase || (b && not (is_done x.wire.receive_state))) (multiplexes_kin w v kin x.wire.sender)

  same_dropped : (x : Pipe) (b : Bool) → (shut_if b x).is_dropped ≡ x.is_dropped
  same_dropped x true = refl
  same_dropped x false = refl

  same_wire : (x : Pipe) (b : Bool) → (shut_if b x).wire ≡ x.wire
  same_wire x true = refl
  same_wire x false = refl

  same_phase : (x : Pipe) (b : Bool) → (shut_if b x).in_phase ≡ x.in_phase
  same_phase x true = refl
  same_phase x false = refl

  same_got : (x : Pipe) (b : Bool) → (shut_if b x).got ≡ x.got
  same_got x true = refl
  same_got x false = refl

  filled_before : (m : ℕ) (p : Pipe) → is_filled_by v m p → (x : Pipe) × is_filled_by w m x × (shut_if (shuts x) x ≡ p)
  filled_before m p (c, s, e) =
      let x = came_from w v kin p c in
      let b = shuts x.0 in (
        x.0,
        (
          x.1,
          sym (ap (λ (u : Rattle.ps_ports.specs.Wires.Wire). u.sender) (same_wire x.0 b)) ∙ ap (λ (z : Pipe). z.wire.sender) x.2 ∙ s,
          (λ i. sym (same_counts x.0 b) i && not (sym (same_dropped x.0 b) i)) ∙ ap (λ (z : Pipe). counts_for_sender v z && not z.is_dropped) x.2 ∙ e,
        ),
        x.2,
      )

  slots_same : (m i : ℕ) → slots_of (slice_get v.nodes m) i ≡ slots_of (slice_get w.nodes m) i
  slots_same m i = by (cases_eq m n)
    where
      by : (m ≡ n) ⊎ (m ≢ n) → slots_of (slice_get v.nodes m) i ≡ slots_of (slice_get w.nodes m) i
      by (inl same) = ap (λ o. slots_of o i) (ap (slice_get v.nodes) same ∙ set_here w.nodes n node shut_node at) ∙ ap (λ o. slots_of o i) (sym at ∙ ap (slice_get w.nodes) (sym same))
      by (inr other) = ap (λ o. slots_of o i) (set_other w.nodes n m shut_node other)

  b : Base w v kin F
  b = base w v kin F f

  pub close_keeps : Facts F v
  close_keeps =
      record {
        sound = b.sound;
        wires = b.wires;
        one_input = b.one_input;
        one_output = b.one_output;
        workers = f.workers;
        own_workers = f.own_workers;
        at_work = λ q c. works_on q.node (not_its q c) (f.at_work q c);
        expected = λ q c. (
          λ k. ap (λ xs. slice_get xs q.number) (slots_same q.node q.input) ∙ (f.expected q c).0 k,
          λ g p into. let x = filled_before q.node p into in subst (λ (z : Pipe). slice_get z.got q.gives ≡ Some None) x.2 (ap (λ xs. slice_get xs q.gives) (same_got x.0 (shuts x.0)) ∙ (f.expected q c).1 g x.0 x.1),
        );
        own_numbers = λ q r p c d g h m k into. let x = filled_before q.node p into in f.own_numbers q r x.0 c d g h m k x.1;
        own_slots = f.own_slots;
        pipes = λ p c. let x = came_from w v kin p c in subst (PipeFacts v) x.2 (of_pipe x.0 x.1);
        cut_off = λ p c near here cut.
            let x = came_from w v kin p c in
            let m = x.0.wire.receiver in
            let r : m ≡ p.wire.receiver = sym (ap (λ (u : Rattle.ps_ports.specs.Wires.Wire). u.receiver) (same_wire x.0 (shuts x.0))) ∙ ap (λ (z : Pipe). z.wire.receiver) x.2 in
            let before : is_cut_off w m ≡ true = sym (cut_off_same w v m kin.pipe refl (λ z cz. same_live m z (shuts z)) (λ z cz l. same_dropped z (shuts z))) ∙ ap (is_cut_off v) r ∙ cut in
            ap (λ (z : Pipe). z.is_dropped) (sym x.2) ∙ same_dropped x.0 (shuts x.0) ∙ f.cut_off x.0 x.1 (omega arith) (sym (same_phase x.0 (shuts x.0)) ∙ ap (λ (z : Pipe). z.in_phase) x.2 ∙ here) before;
        no_marks = λ shut. absurd (let no : true ≡ false = sym is_open ∙ shut in cc);
      }

pub closed_keeps : (F : Functions) (w v : World) (n : ℕ) → Facts F w → Steps F w (closed n) v → Facts F v
closed_keeps F w v n f s = subst (Facts F) (sym s.4) (close_keeps F w f n s.0 s.1.0 s.1.1 s.1.2 s.2 s.3)
