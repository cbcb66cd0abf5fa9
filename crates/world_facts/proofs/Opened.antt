-- The opening of a phase over a settled world keeps the facts, where what is dropped is done.
use Rattle.std.proofs.Common.{◌≡◌, ℕ, zero, suc, ◌<◌, ◌+◌, ◌≤◌, ◌⊎◌, Bool, true, false, List, [], ◌∷◌, length, Some, None, refl, sym, ap, subst, ◌∙◌, inl, inr, arith}
use Rattle.std.specs.Prelude.{Contains, IsFalse, IsTrue, nat_eq, not, slice_get, ◌&&◌, ◌||◌}
use Rattle.std.specs.List.{AllByRecursion, filter as kept, list_any}
use Rattle.std.proofs.lemmas.Bool.{or_left, or_right}
use Rattle.ps_frame.specs.Functions.{Functions}
use Rattle.ps_frame.specs.Zip.{below}
use Rattle.ps_ports.specs.declared.port_state.PortState.{PortState}
use Rattle.ps_ports.specs.declared.port_state.PortState.TheVariants as port
use Rattle.ps_ports.specs.Phases.{all_feeders, blockers_of, is_in_phase, is_one_of, with_feeders}
use Rattle.ps_ports.specs.Ports.{is_done, is_ready}
use Rattle.ps_ports.specs.Wires.{Wire, both_ready}
use Rattle.ps_turns.specs.Tasks.{Piece}
use Rattle.ps_world.specs.Facts.{Facts, IsAwaited, PipeFacts}
use Rattle.ps_world.specs.Phases.{intensive_at, marked_nodes, nodes_of_phase, with_phase}
use Rattle.ps_world.specs.World.{Node, Pipe, World, counts_for_sender, is_cut_off, multiplexes, wires_of, IsWorking}
use Rattle.world_laws.proofs.Blockers.{contains_below}
use Rattle.std.proofs.lemmas.List.Elements.{Contains-append_cases}
use Rattle.world_facts.proofs.CutOff.{and_true, both_true, cut_all, cut_some, its_number, same_number}
use Rattle.world_facts.proofs.HandedIn.{contains_of}
use Rattle.world_laws.proofs.InOrder.{contains_cases, contains_kept, contains_map, list_any-contains, none_in_nil}
use Rattle.world_facts.proofs.Kin.{Base, Kin, base, came_from, multiplexes_kin, no_use_kin}
use Rattle.world_laws.proofs.Shapes.{marks_keep}
use Rattle.world_facts.proofs.Slots.{some_at}
use Rattle.world_facts.proofs.Wiring.{each_of, wires_forward, wires_inside}

true_or_false : (b : Bool) → (b ≡ true) ⊎ (b ≡ false)
true_or_false true = inl refl
true_or_false false = inr refl

one_of : (n : ℕ) (ns : List ℕ) → Contains ns n → is_one_of n ns ≡ true
one_of n ns c = list_any-contains (nat_eq n) n ns c (its_number n n refl)

is_there : (n : ℕ) (ns : List ℕ) → is_one_of n ns ≡ true → Contains ns n
is_there n ns e = let r = some_at (nat_eq n) ns e in subst (Contains ns) (sym (same_number n r.0 r.2)) r.1

from_kept_all : {A : Type 0} (t : A → Bool) (x : A) (xs : List A) → Contains (kept t xs) x → Contains xs x × (t x ≡ true)
from_kept_all t x xs c =
    let a = Rattle.world_facts.proofs.HandedIn.at_of (kept t xs) x c in
    let b = Rattle.world_facts.proofs.HandedIn.from_kept t xs a.0 x a.1 in
    (contains_of xs b.0.0 x b.0.1, b.1)

-- over wires that lead onward, what feeds a node of a phase is of the phase: after as many turns as there are nodes nothing is added
module _ (k : ℕ) (ws : List Wire) (onward : (p : Wire) → Contains ws p → p.sender < p.receiver) (inside : (p : Wire) → Contains ws p → p.sender < k) (below_has : (n : ℕ) → n < k → Contains (below k) n) (below_of : (n : ℕ) → Contains (below k) n → n < k) where
  record Feeds (m : ℕ) (ns : List ℕ) : Type 0 where
    wire : Wire
    is_wire : Contains ws wire
    sender : wire.sender ≡ m
    ready : both_ready wire ≡ true
    reader : Contains ns wire.receiver

  feeding : ℕ → List ℕ → Bool
  feeding m ns = is_one_of m ns || list_any (λ (p : Wire). nat_eq p.sender m && (both_ready p && is_one_of p.receiver ns)) ws

  feeds_in : (m : ℕ) (ns : List ℕ) → m < k → Contains ns m ⊎ Feeds m ns → Contains (with_feeders k ws ns) m
  feeds_in m ns h (inl c) =
      contains_kept (λ m. is_one_of m ns || list_any (λ (p : Wire). nat_eq p.sender m && (both_ready p && is_one_of p.receiver ns)) ws) m (below k) (below_has m h) (or_left (is_one_of m ns) (list_any (λ (p : Wire). nat_eq p.sender m && (both_ready p && is_one_of p.receiver ns)) ws) (one_of m ns c))
  feeds_in m ns h (inr f) =
      contains_kept (λ m. is_one_of m ns || list_any (λ (p : Wire). nat_eq p.sender m && (both_ready p && is_one_of p.receiver ns)) ws) m (below k) (below_has m h)
      (or_right (is_one_of m ns) (list_any (λ (p : Wire). nat_eq p.sender m && (both_ready p && is_one_of p.receiver ns)) ws)
      (list_any-contains (λ (p : Wire). nat_eq p.sender m && (both_ready p && is_one_of p.receiver ns)) f.wire ws f.is_wire
      (and_true (nat_eq f.wire.sender m) (both_ready f.wire && is_one_of f.wire.receiver ns) (its_number f.wire.sender m f.sender) (and_true (both_ready f.wire) (is_one_of f.wire.receiver ns) f.ready (one_of f.wire.receiver ns f.reader)))))

  feeds_of : (m : ℕ) (ns : List ℕ) → Contains (with_feeders k ws ns) m → (m < k) × (Contains ns m ⊎ Feeds m ns)
  feeds_of m ns c =
      let r = from_kept_all (λ m. is_one_of m ns || list_any (λ (p : Wire). nat_eq p.sender m && (both_ready p && is_one_of p.receiver ns)) ws) m (below k) c in
      (below_of m r.0, by (true_or_false (is_one_of m ns)) r.1)
    where
      by : (is_one_of m ns ≡ true) ⊎ (is_one_of m ns ≡ false) → (is_one_of m ns || list_any (λ (p : Wire). nat_eq p.sender m && (both_ready p && is_one_of p.receiver ns)) ws) ≡ true → Contains ns m ⊎ Feeds m ns
      by (inl e) h = inl (is_there m ns e)
      by (inr e) h =
          let t = some_at (λ (p : Wire). nat_eq p.sender m && (both_ready p && is_one_of p.receiver ns)) ws (sym (ap (λ b. b || list_any (λ (p : Wire). nat_eq p.sender m && (both_ready p && is_one_of p.receiver ns)) ws) e) ∙ h) in
          let a = both_true (nat_eq t.0.sender m) (both_ready t.0 && is_one_of t.0.receiver ns) t.2 in
          let b = both_true (both_ready t.0) (is_one_of t.0.receiver ns) a.1 in
          inr (record { wire = t.0; is_wire = t.1; sender = same_number t.0.sender m a.0; ready = b.0; reader = is_there t.0.receiver ns b.1 })

  -- the last turn comes last
  turn_last : (t : ℕ) (ns : List ℕ) → all_feeders (suc t) k ws ns ≡ with_feeders k ws (all_feeders t k ws ns)
  turn_last zero ns = refl
  turn_last (suc t) ns = turn_last t (with_feeders k ws ns)

  settled : (t m : ℕ) (ns : List ℕ) → k ≤ m + t → Contains (all_feeders (suc t) k ws ns) m → Contains (all_feeders t k ws ns) m
  settled zero m ns far c = let r = feeds_of m ns c in absurd (let h = r.0 in omega arith)
  settled (suc t) m ns far c = by (feeds_of m (all_feeders (suc t) k ws ns) (subst (λ xs. Contains xs m) (turn_last (suc t) ns) c)) (λ j near d. settled t j ns near d)
    where
      by : (m < k) × (Contains (all_feeders (suc t) k ws ns) m ⊎ Feeds m (all_feeders (suc t) k ws ns)) → ((j : ℕ) → k ≤ j + t → Contains (all_feeders (suc t) k ws ns) j → Contains (all_feeders t k ws ns) j) → Contains (all_feeders (suc t) k ws ns) m
      by (h, inl there) rest = there
      by (h, inr f) rest =
          let s = f.sender in
          let o = onward f.wire f.is_wire in
          let reader = rest f.wire.receiver (omega arith) f.reader in
          subst (λ xs. Contains xs m) (sym (turn_last t ns)) (feeds_in m (all_feeders t k ws ns) h (inr (record { wire = f.wire; is_wire = f.is_wire; sender = f.sender; ready = f.ready; reader = reader })))

  pub feeder_in : (p : Wire) (ns : List ℕ) → Contains ws p → both_ready p ≡ true → Contains (all_feeders k k ws ns) p.receiver → Contains (all_feeders k k ws ns) p.sender
  feeder_in p ns c ready reader =
      settled k p.sender ns (omega arith)
      (subst (λ xs. Contains xs p.sender) (sym (turn_last k ns)) (feeds_in p.sender (all_feeders k k ws ns) (inside p c) (inr (record { wire = p; is_wire = c; sender = refl; ready = ready; reader = reader }))))

marked_at : (ns : List ℕ) (j : ℕ) (nodes : List Node) (m : ℕ) (x : Node) → slice_get nodes m ≡ Some x → slice_get (marked_nodes ns j nodes) m ≡ Some (record x { in_phase = is_one_of (j + m) ns })
marked_at ns j [] m x e = absurd (let no : None ≡ Some x = e in cc)
marked_at ns j (y ∷ ys) zero x e = let s : Some y ≡ Some x = e in let is : y ≡ x = cc in let same : j ≡ j + 0 = omega arith in λ i. Some (record (is i) { in_phase = is_one_of (same i) ns })
marked_at ns j (y ∷ ys) (suc m) x e = let same : j + 1 + m ≡ j + suc m = omega arith in marked_at ns (j + 1) ys m x e ∙ (λ i. Some (record x { in_phase = is_one_of (same i) ns }))

some_node : (xs : List Node) (m : ℕ) → m < length xs → (x : Node) × (slice_get xs m ≡ Some x)
some_node [] m h = absurd (omega arith)
some_node (x ∷ xs) zero h = (x, refl)
some_node (x ∷ xs) (suc m) h = some_node xs m (omega arith)

each_node : (P : Node → Type 0) (xs : List Node) (m : ℕ) (x : Node) → AllByRecursion P xs → slice_get xs m ≡ Some x → P x
each_node P [] m x all e = absurd (let no : None ≡ Some x = e in cc)
each_node P (y ∷ ys) zero x all e = let s : Some y ≡ Some x = e in let is : y ≡ x = cc in subst P is all.0
each_node P (y ∷ ys) (suc m) x all e = each_node P ys m x all.1 e

below_of : (k n : ℕ) → Contains (below k) n → n < k
below_of zero n c = absurd (none_in_nil n c)
below_of (suc k) n c = by (below_of k n) (Contains-append_cases (below k) (k ∷ []) n c)
  where
    by : (Contains (below k) n → n < k) → Contains (below k) n ⊎ Contains (k ∷ []) n → n < suc k
    by rest (inl a) = let h = rest a in omega arith
    by rest (inr b) = last (contains_cases k n [] b)
      where
        last : (k ≡ n) ⊎ Contains [] n → n < suc k
        last (inl e) = omega arith
        last (inr none) = absurd (none_in_nil n none)

neither : (a b : Bool) → (a || b) ≡ false → (a ≡ false) × (b ≡ false)
neither true b e = absurd (let no : true ≡ false = e in cc)
neither false b e = (refl, e)

module _ (F : Functions) (w : World) (f : Facts F w) (shut : IsFalse w.is_open) (gone_done : (p : Pipe) → Contains w.pipes p → IsTrue p.is_dropped → IsTrue (is_done p.wire.receive_state)) (phase : ℕ) (journal : List Rattle.ps_world.specs.World.Record) where
  abbrev v : World
  v = record (with_phase w) { phase = phase; journal = journal }

  abbrev in_it : Wire → Bool
  in_it p = is_in_phase (length w.nodes) (intensive_at w) (wires_of w) p

  abbrev marked : Pipe → Pipe
  marked p = record p { in_phase = in_it p.wire }

  abbrev kin : Kin w v
  kin =
      record {
        shape = marks_keep (nodes_of_phase w) 0 w.nodes;
        options = refl;
        over = λ m x at o. (record x { in_phase = is_one_of (0 + m) (nodes_of_phase w) }, marked_at (nodes_of_phase w) 0 w.nodes m x at, o);
        pipe = marked;
        pipes = refl;
        joins = λ x. refl;
        dropped = λ x d. d;
        done = λ x c d. d;
      }

  none_out : (q : Piece) → Contains w.outs q → ⊥
  none_out q c =
      let on = both_true w.is_open ((f.at_work q c).0.in_phase && not (f.at_work q c).0.is_closed) (f.at_work q c).2 in
      let no : true ≡ false = sym on.0 ∙ shut in cc

  node_bare : (m : ℕ) (x : Node) → slice_get w.nodes m ≡ Some x → x.is_closed ≡ false
  node_bare m x at = (neither x.in_phase x.is_closed (each_node (λ (n : Node). IsFalse (n.in_phase || n.is_closed)) w.nodes m x (f.no_marks shut).0 at)).1

  pipe_bare : (x : Pipe) → Contains w.pipes x → (x.in_phase ≡ false) × (x.is_closed ≡ false)
  pipe_bare x c = neither x.in_phase x.is_closed (each_of (λ (p : Pipe). IsFalse (p.in_phase || p.is_closed)) w.pipes x (f.no_marks shut).1 c)

  works : (m : ℕ) → m < length w.nodes → Contains (nodes_of_phase w) m → IsWorking v m
  works m h c =
      let x = some_node w.nodes m h in (
        record x.0 { in_phase = is_one_of (0 + m) (nodes_of_phase w) },
        marked_at (nodes_of_phase w) 0 w.nodes m x.0 x.1,
        and_true (is_one_of (0 + m) (nodes_of_phase w)) (not x.0.is_closed) (let z : 0 + m ≡ m = omega arith in ap (λ n. is_one_of n (nodes_of_phase w)) z ∙ one_of m (nodes_of_phase w) c) (ap not (node_bare m x.0 x.1)),
      )

  reader_works : (x : Pipe) → Contains w.pipes x → in_it x.wire ≡ true → IsWorking v x.wire.receiver
  reader_works x c on =
      let a = both_true (both_ready x.wire) (is_one_of x.wire.receiver (nodes_of_phase w)) on in
      works x.wire.receiver (wires_inside F w f x.wire (contains_map (λ (p : Pipe). p.wire) x w.pipes c)) (is_there x.wire.receiver (nodes_of_phase w) a.1)

  sender_inside : (p : Wire) → Contains (wires_of w) p → p.sender < length w.nodes
  sender_inside p c = let a = wires_forward F w f p c in let b = wires_inside F w f p c in omega arith

  sender_works : (x : Pipe) → Contains w.pipes x → in_it x.wire ≡ true → IsWorking v x.wire.sender
  sender_works x c on =
      let a = both_true (both_ready x.wire) (is_one_of x.wire.receiver (nodes_of_phase w)) on in
      let wire = contains_map (λ (p : Pipe). p.wire) x w.pipes c in
      works x.wire.sender (sender_inside x.wire wire)
      (feeder_in (length w.nodes) (wires_of w) (wires_forward F w f) sender_inside (λ n h. contains_below n (length w.nodes) h) (below_of (length w.nodes))
      x.wire (blockers_of (length w.nodes) (intensive_at w) (wires_of w)) wire a.0 (is_there x.wire.receiver (nodes_of_phase w) a.1))

  of_pipe : (x : Pipe) → Contains w.pipes x → PipeFacts v (marked x)
  of_pipe x c =
      record {
        taken = facts.taken;
        came = facts.came;
        expected = λ runs k hole. still k (facts.expected runs k hole);
        at_hand = λ on. ((both_true (both_ready x.wire) (is_one_of x.wire.receiver (nodes_of_phase w)) on).0, refl);
        closed_with_sender = λ on left. sender_works x c on;
        closed_by_sender = λ closed. absurd (let no : false ≡ true = sym bare.1 ∙ closed in cc);
        closed_in_phase = λ closed. absurd (let no : false ≡ true = sym bare.1 ∙ closed in cc);
        read_to_end = λ on left. reader_works x c on;
        drained = λ off bound. facts.drained bare.0 (sym (ap not (multiplexes_kin w v kin x.wire.sender)) ∙ bound);
        unread_done = facts.unread_done;
        why_dropped = λ gone. no_use_kin w v kin x.wire.receiver (facts.why_dropped gone);
      }
    where
      facts : PipeFacts w x
      facts = f.pipes x c

      bare : (x.in_phase ≡ false) × (x.is_closed ≡ false)
      bare = pipe_bare x c

      still : (k : ℕ) → IsTrue x.is_dropped ⊎ IsTrue x.in_phase × IsAwaited w x.wire.sender k → IsTrue x.is_dropped ⊎ IsTrue (in_it x.wire) × IsAwaited v x.wire.sender k
      still k (inl gone) = inl gone
      still k (inr (on, a)) = absurd (let no : false ≡ true = sym bare.0 ∙ on in cc)

  -- nothing that counts is dropped
  not_cut : (m : ℕ) → is_cut_off v m ≡ true → ⊥
  not_cut m cut =
      let q = cut_some v m cut in
      let gone = cut_all v m cut q.0 q.1 q.2 q.3 in
      let z = came_from w v kin q.0 q.1 in
      let done = gone_done z.0 z.1 (ap (λ (p : Pipe). p.is_dropped) z.2 ∙ gone) in
      by z.0.wire (multiplexes (slice_get v.nodes z.0.wire.sender)) done (ap (counts_for_sender v) z.2 ∙ q.3)
    where
      is_not_ready : (u : Wire) → is_done u.receive_state ≡ true → both_ready u ≡ true → ⊥
      is_not_ready u done ready = of u.receive_state done (both_true (is_ready u.send_state) (is_ready u.receive_state) ready).1
        where
          of : (s : PortState) → is_done s ≡ true → is_ready s ≡ true → ⊥
          of port.Done d r = let no : false ≡ true = r in cc
          of port.Ready d r = let no : false ≡ true = d in cc
          of port.Blocked d r = let no : false ≡ true = d in cc

      by : (u : Wire) (b : Bool) → is_done u.receive_state ≡ true → (in_it u || (b && not (is_done u.receive_state))) ≡ true → ⊥
      by u b done counts = of (in_it u) refl
        where
          no_way : (b d : Bool) → d ≡ true → (b && not d) ≡ true → ⊥
          no_way true true e h = let no : false ≡ true = h in cc
          no_way true false e h = let no : false ≡ true = e in cc
          no_way false d e h = let no : false ≡ true = h in cc

          of : (a : Bool) → in_it u ≡ a → ⊥
          of true e = is_not_ready u done (both_true (both_ready u) (is_one_of u.receiver (nodes_of_phase w)) e).0
          of false e = no_way b (is_done u.receive_state) done (sym (ap (λ a. a || (b && not (is_done u.receive_state))) e) ∙ counts)

  b : Base w v kin F
  b = base w v kin F f

  pub phase_keeps : Facts F v
  phase_keeps =
      record {
        sound = b.sound;
        wires = b.wires;
        one_input = b.one_input;
        one_output = b.one_output;
        workers = f.workers;
        own_workers = f.own_workers;
        at_work = λ q c. absurd (none_out q c);
        expected = λ q c. absurd (none_out q c);
        own_numbers = λ q r p c d g h n k e. absurd (none_out q c);
        own_slots = f.own_slots;
        pipes = λ p c. let x = came_from w v kin p c in subst (PipeFacts v) x.2 (of_pipe x.0 x.1);
        cut_off = λ p c near on cut. absurd (not_cut p.wire.receiver cut);
        no_marks = λ closed. absurd (let no : true ≡ false = closed in cc);
      }

-- a world that ends where it stands
pub ending_keeps : (F : Functions) (w : World) (e : Rattle.ps_world.specs.World.Ending) (phase : ℕ) (journal : List Rattle.ps_world.specs.World.Record) → (e ≡ Rattle.ps_world.specs.World.running → ⊥) → Facts F w → Facts F (record w { ending = e; phase = phase; journal = journal })
ending_keeps F w e phase journal ends f =
    record {
      sound = f.sound;
      wires = f.wires;
      one_input = f.one_input;
      one_output = f.one_output;
      workers = f.workers;
      own_workers = f.own_workers;
      at_work = f.at_work;
      expected = f.expected;
      own_numbers = f.own_numbers;
      own_slots = f.own_slots;
      pipes = λ p c. of p (f.pipes p c);
      cut_off = f.cut_off;
      no_marks = f.no_marks;
    }
  where
    of : (p : Pipe) → PipeFacts w p → PipeFacts (record w { ending = e; phase = phase; journal = journal }) p
    of p x =
        record {
          taken = x.taken;
          came = x.came;
          expected = λ runs. absurd (ends runs);
          at_hand = x.at_hand;
          closed_with_sender = x.closed_with_sender;
          closed_by_sender = x.closed_by_sender;
          closed_in_phase = x.closed_in_phase;
          read_to_end = x.read_to_end;
          drained = x.drained;
          unread_done = x.unread_done;
          why_dropped = x.why_dropped;
        }
