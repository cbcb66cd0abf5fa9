-- A world after a step of the open phase beside the world before: the nodes keep their marks, and each pipe its wire and its marks, so most facts go over.
use Rattle.std.proofs.Common.{◌≡◌, ℕ, ◌<◌, ◌≤◌, ◌⊎◌, Bool, true, false, List, [], ◌∷◌, length, Option, Some, None, refl, sym, ap, subst, ◌∙◌, inl, inr}
use Rattle.std.specs.Prelude.{Contains, IsFalse, IsTrue, map, not, option_map, slice_get, ◌&&◌, ◌||◌}
use Rattle.std.proofs.lemmas.Bool.{or_left, or_right}
use Rattle.std.proofs.lemmas.Option.{slice_get-map}
use Rattle.ps_frame.specs.Functions.{Functions}
use Rattle.ps_frame.specs.Tables.{Row}
use Rattle.ps_ports.specs.Ports.{is_done}
use Rattle.ps_ports.specs.Wires.{Wire, both_ready}
use Rattle.ps_turns.specs.Progress.{is_multiplexer}
use Rattle.ps_turns.specs.Tasks.{Piece}
use Rattle.ps_meaning.specs.Shape.{PhysicalNode}
use Rattle.ps_world.specs.Facts.{FactsDownTo, HasNoUse, IsAwaited, IsExpected, PipeFacts, is_filled_by, is_over_slice, joins_of, keeps_one, Joins}
use Rattle.ps_world.specs.Opening.{pipes_from}
use Rattle.ps_world.specs.World.{Node, Pipe, World, counts_for_sender, is_bounded, is_cut_off, is_drained, multiplexes, running, shape_of, IsWorking}
use Rattle.world_laws.proofs.Agree.{from_map}
use Rattle.world_laws.proofs.InOrder.{contains_map}

pub record IsLike (x y : Pipe) : Type 0 where
  pub wire : y.wire ≡ x.wire
  pub in_phase : y.in_phase ≡ x.in_phase
  pub is_closed : y.is_closed ≡ x.is_closed
  pub is_unread : y.is_unread ≡ x.is_unread
  pub dropped : IsTrue x.is_dropped → IsTrue y.is_dropped

pub record HasMarksOf (x y : Node) : Type 0 where
  pub in_phase : y.in_phase ≡ x.in_phase
  pub is_closed : y.is_closed ≡ x.is_closed
  pub over : IsTrue (is_over_slice x.node.kind x.progress.booked) → IsTrue (is_over_slice y.node.kind y.progress.booked)

pub record Follows (w v : World) : Type 0 where
  pub shape : shape_of v ≡ shape_of w
  pub options : v.options ≡ w.options
  pub open_before : w.is_open ≡ true
  pub open_after : v.is_open ≡ true
  pub onward : (m : ℕ) (x : Node) → slice_get w.nodes m ≡ Some x → (y : Node) × (slice_get v.nodes m ≡ Some y) × HasMarksOf x y
  pub back : (m : ℕ) (y : Node) → slice_get v.nodes m ≡ Some y → (x : Node) × (slice_get w.nodes m ≡ Some x) × HasMarksOf x y
  pub pipe : Pipe → Pipe
  pub pipes : v.pipes ≡ map pipe w.pipes
  pub like : (x : Pipe) → IsLike x (pipe x)

abbrev pub shows : Option PhysicalNode → Bool
shows None = false
shows (Some p) = is_multiplexer p.kind

shows_same : (o : Option Node) → shows (option_map (λ (n : Node). n.node) o) ≡ multiplexes o
shows_same None = refl
shows_same (Some n) = refl

pub multiplexes_by : (w : World) (m : ℕ) → multiplexes (slice_get w.nodes m) ≡ shows (slice_get (shape_of w) m)
multiplexes_by w m = sym (shows_same (slice_get w.nodes m)) ∙ ap shows (sym (slice_get-map (λ (n : Node). n.node) w.nodes m))

pub map_like : {A : Type 0} (f : Pipe → A) (g : Pipe → Pipe) (xs : List Pipe) → ((x : Pipe) → f (g x) ≡ f x) → map f (map g xs) ≡ map f xs
map_like f g [] h = refl
map_like f g (x ∷ xs) h = let a = h x in let rest = map_like f g xs h in λ i. a i ∷ rest i

module _ (w v : World) (h : Follows w v) where
  pub traced : (y : Pipe) → Contains v.pipes y → (x : Pipe) × Contains w.pipes x × (h.pipe x ≡ y)
  traced y c = from_map h.pipe y w.pipes (subst (λ ps. Contains ps y) h.pipes c)

  pub carried : (x : Pipe) → Contains w.pipes x → Contains v.pipes (h.pipe x)
  carried x c = subst (λ ps. Contains ps (h.pipe x)) (sym h.pipes) (contains_map h.pipe x w.pipes c)

  pub multiplexes_same : (m : ℕ) → multiplexes (slice_get v.nodes m) ≡ multiplexes (slice_get w.nodes m)
  multiplexes_same m = multiplexes_by v m ∙ ap (λ s. shows (slice_get s m)) h.shape ∙ sym (multiplexes_by w m)

  pub bounded_same : (x : Pipe) → is_bounded v (h.pipe x) ≡ is_bounded w x
  bounded_same x = ap (λ (q : Wire). not (multiplexes (slice_get v.nodes q.sender))) (h.like x).wire ∙ ap not (multiplexes_same x.wire.sender)

  pub counts_same : (x : Pipe) → counts_for_sender v (h.pipe x) ≡ counts_for_sender w x
  counts_same x =
      let p = (h.like x).in_phase in
      let q = (h.like x).wire in
      let m = multiplexes_same x.wire.sender in
      (λ i. p i || (multiplexes (slice_get v.nodes (q i).sender) && not (is_done (q i).receive_state))) ∙ (λ i. x.in_phase || (m i && not (is_done x.wire.receive_state)))

  pub working : (m : ℕ) → IsWorking w m → IsWorking v m
  working m (x, at, on) =
      let y = h.onward m x at in
      (y.0, y.1, ap (λ b. b && (y.0.in_phase && not y.0.is_closed)) h.open_after ∙ (λ i. y.2.in_phase i && not (y.2.is_closed i)) ∙ sym (ap (λ b. b && (x.in_phase && not x.is_closed)) h.open_before) ∙ on)

  pub was_working : (m : ℕ) → IsWorking v m → IsWorking w m
  was_working m (y, at, on) =
      let x = h.back m y at in
      (x.0, x.1, ap (λ b. b && (x.0.in_phase && not x.0.is_closed)) h.open_before ∙ sym (λ i. x.2.in_phase i && not (x.2.is_closed i)) ∙ sym (ap (λ b. b && (y.in_phase && not y.is_closed)) h.open_after) ∙ on)

  pub still_no_use : (m : ℕ) → HasNoUse w m → HasNoUse v m
  still_no_use m (inl (x, at, over)) = let y = h.onward m x at in inl (y.0, y.1, y.2.over over)
  still_no_use m (inr (z, cz, sz, all)) = inr (h.pipe z, carried z cz, ap (λ (u : Wire). u.sender) (h.like z).wire ∙ sz, λ q c s. by q (traced q c) s)
    where
      of_wire : (x q : Pipe) → h.pipe x ≡ q → q.wire ≡ x.wire
      of_wire x q e = ap (λ (p : Pipe). p.wire) (sym e) ∙ (h.like x).wire

      or_of : (x q : Pipe) → h.pipe x ≡ q → (x.is_dropped || is_done x.wire.receive_state) ≡ true → (b : Bool) → x.is_dropped ≡ b → (q.is_dropped || is_done q.wire.receive_state) ≡ true
      or_of x q e known true d = or_left q.is_dropped (is_done q.wire.receive_state) (ap (λ (p : Pipe). p.is_dropped) (sym e) ∙ (h.like x).dropped d)
      or_of x q e known false d = or_right q.is_dropped (is_done q.wire.receive_state) (ap (λ (u : Wire). is_done u.receive_state) (of_wire x q e) ∙ sym (ap (λ b. b || is_done x.wire.receive_state) d) ∙ known)

      by : (q : Pipe) → (x : Pipe) × Contains w.pipes x × (h.pipe x ≡ q) → q.wire.sender ≡ m → IsTrue (q.is_dropped || is_done q.wire.receive_state)
      by q (x, c, e) s = or_of x q e (all x c (sym (ap (λ (u : Wire). u.sender) (of_wire x q e)) ∙ s)) x.is_dropped refl

  -- what a step owes of a pipe after it, and of its pieces
  pub record OwesPipe (y : Pipe) : Type 0 where
    pub taken : y.next ≤ length y.got
    pub came : (k : ℕ) → k < y.next → (rs : List Row) × (slice_get y.got k ≡ Some (Some rs))
    pub expected : v.ending ≡ running → (k : ℕ) → slice_get y.got k ≡ Some None → IsTrue y.is_dropped ⊎ IsTrue y.in_phase × IsAwaited v y.wire.sender k
    pub read_to_end : IsTrue y.in_phase → IsFalse (y.is_dropped || (y.is_closed && is_drained y)) → IsWorking v y.wire.receiver
    pub drained : IsFalse y.in_phase → IsTrue (is_bounded v y) → IsTrue (is_drained y)
    pub why_dropped : IsTrue y.is_dropped → HasNoUse v y.wire.receiver

  pub record OwesPieces : Type 0 where
    pub workers : (q : Piece) → Contains v.outs q → q.worker < v.options.workers
    pub own_workers : (i j : ℕ) (q r : Piece) → slice_get v.outs i ≡ Some q → slice_get v.outs j ≡ Some r → q.worker ≡ r.worker → i ≡ j
    pub at_work : (q : Piece) → Contains v.outs q → IsWorking v q.node
    pub expected : (q : Piece) → Contains v.outs q → IsExpected v q
    pub own_numbers : (q r : Piece) (p : Pipe) → Contains v.outs q → Contains v.outs r → IsFalse (keeps_one q.task) → IsFalse (keeps_one r.task) → q.node ≡ r.node → q.gives ≡ r.gives → is_filled_by v q.node p → q.worker ≡ r.worker
    pub own_slots : (q r : Piece) → Contains v.outs q → Contains v.outs r → IsTrue (keeps_one q.task) → IsTrue (keeps_one r.task) → q.node ≡ r.node → q.input ≡ r.input → q.number ≡ r.number → q.worker ≡ r.worker

  joins_like : (x : Pipe) → joins_of (h.pipe x) ≡ joins_of x
  joins_like x = ap (λ (u : Wire). let j : Joins = record { sender = u.sender; port = u.port; receiver = u.receiver; input = u.input } in j) (h.like x).wire

  module _ {k : ℕ} (F : Functions) (f : FactsDownTo F k w) where
    old_pipe : (x : Pipe) → Contains w.pipes x → OwesPipe (h.pipe x) → PipeFacts v (h.pipe x)
    old_pipe x c o =
        let p = f.pipes x c in
        let l = h.like x in
        record {
          taken = o.taken;
          came = o.came;
          expected = o.expected;
          read_to_end = o.read_to_end;
          drained = o.drained;
          why_dropped = o.why_dropped;
          at_hand = λ on. let was = p.at_hand (sym l.in_phase ∙ on) in (ap both_ready l.wire ∙ was.0, h.open_after);
          closed_with_sender = λ on shut. working (h.pipe x).wire.sender (subst (λ (u : Wire). IsWorking w u.sender) (sym l.wire) (p.closed_with_sender (sym l.in_phase ∙ on) (sym l.is_closed ∙ shut)));
          closed_by_sender = λ shut work. p.closed_by_sender (sym l.is_closed ∙ shut) (subst (λ (u : Wire). IsWorking w u.sender) l.wire (was_working (h.pipe x).wire.sender work));
          closed_in_phase = λ shut. l.in_phase ∙ p.closed_in_phase (sym l.is_closed ∙ shut);
          unread_done = λ un. ap (λ (u : Wire). is_done u.receive_state) l.wire ∙ p.unread_done (sym l.is_unread ∙ un);
        }

    same_pipe : (p q x z : Pipe) → h.pipe x ≡ p → h.pipe z ≡ q → x ≡ z → p ≡ q
    same_pipe p q x z e d s = sym e ∙ ap h.pipe s ∙ d

    wire_of : (x p : Pipe) → h.pipe x ≡ p → x.wire ≡ p.wire
    wire_of x p e = sym (h.like x).wire ∙ ap (λ (q : Pipe). q.wire) e

    pub follow : {j : ℕ} → ((x : Pipe) → Contains w.pipes x → OwesPipe (h.pipe x)) → OwesPieces
        → ((p : Pipe) → Contains v.pipes p → j ≤ p.wire.receiver → IsTrue p.in_phase → IsTrue (is_cut_off v p.wire.receiver) → IsTrue p.is_dropped)
        → FactsDownTo F j v
    follow owed pieces cut =
        record {
          sound = subst (Rattle.ps_meaning.specs.Sound.IsSound F) (sym h.shape) f.sound;
          wires = ap (map joins_of) h.pipes ∙ map_like joins_of h.pipe w.pipes joins_like ∙ f.wires ∙ ap (λ s. map joins_of (pipes_from s 0)) (sym h.shape);
          one_input = λ p q c d r i.
              let x = traced p c in let z = traced q d in
              let a = wire_of x.0 p x.2 in let b = wire_of z.0 q z.2 in
              same_pipe p q x.0 z.0 x.2 z.2 (f.one_input x.0 z.0 x.1 z.1 (ap (λ (u : Wire). u.receiver) a ∙ r ∙ sym (ap (λ (u : Wire). u.receiver) b)) (ap (λ (u : Wire). u.input) a ∙ i ∙ sym (ap (λ (u : Wire). u.input) b)));
          one_output = λ p q c d s m.
              let x = traced p c in let z = traced q d in
              let a = wire_of x.0 p x.2 in let b = wire_of z.0 q z.2 in
              same_pipe p q x.0 z.0 x.2 z.2 (f.one_output x.0 z.0 x.1 z.1 (ap (λ (u : Wire). u.sender) a ∙ s ∙ sym (ap (λ (u : Wire). u.sender) b)) (ap (λ (u : Wire). multiplexes (slice_get w.nodes u.sender)) a ∙ sym (multiplexes_same p.wire.sender) ∙ m));
          workers = pieces.workers;
          own_workers = pieces.own_workers;
          at_work = pieces.at_work;
          expected = pieces.expected;
          own_numbers = pieces.own_numbers;
          own_slots = pieces.own_slots;
          pipes = λ p c. let x = traced p c in subst (PipeFacts v) x.2 (old_pipe x.0 x.1 (owed x.0 x.1));
          cut_off = cut;
          no_marks = λ shut. absurd (let bad : true ≡ false = sym h.open_after ∙ shut in cc);
        }
