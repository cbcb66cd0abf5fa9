-- Updates and fills between phases keep the facts.
use Rattle.std.proofs.Common.{◌≡◌, ℕ, zero, suc, ◌-◌, ◌≤◌, ◌⊎◌, Bool, true, false, cond, List, [], ◌∷◌, ◌++◌, length, map-id, Option, Some, None, refl, sym, ap, subst, ◌∙◌, inl, inr}
use Rattle.std.specs.Prelude.{Contains, IsFalse, IsTrue, get_or, map, nat_eq, not, slice_get, slice_set, ◌&&◌, ◌||◌}
use Rattle.std.specs.List.{AllByRecursion}
use Rattle.ps_frame.specs.Functions.{Functions}
use Rattle.ps_ports.specs.Ports.{Sides, is_done, kept_state}
use Rattle.ps_ports.specs.declared.port_state.PortState.{PortState}
use Rattle.ps_ports.specs.declared.port_state.PortState.TheVariants as port
use Rattle.ps_frame.specs.Tables.{Fields}
use Rattle.ps_meaning.specs.Shape.{PhysicalKind, PhysicalNode, group_by_node, in_memory_join, in_memory_map, negative_slice}
use Rattle.ps_options.specs.declared.options.Options.{Options}
use Rattle.ps_turns.specs.Progress.{Progress}
use Rattle.ps_turns.specs.Updates.{Makes, Turns}
use Rattle.ps_turns.specs.Tasks.{Piece}
use Rattle.ps_world.specs.Facts.{Facts, IsAwaited, PipeFacts, is_over_slice, joins_of}
use Rattle.ps_world.specs.Fits.{DropsAreDone}
use Rattle.ps_world.specs.Pipes.{put_progress, with_progress}
use Rattle.ps_frame.specs.Causes.{is_empty}
use Rattle.ps_world.specs.Phases.{after_open, blockers_in, with_phase}
use Rattle.ps_world.specs.Step.{Opens, breaks, settles}
use Rattle.ps_world.specs.Updates.{IsSettled, Updates, answer_at, no_update, one_fill, one_update, received, sent, given_at, updated, written}
use Rattle.ps_world.specs.World.{Node, Pipe, World, faulty, finished, is_bounded, opened, running, schemas_for}
use Rattle.world_facts.proofs.Opened.{ending_keeps, phase_keeps}
use Rattle.world_facts.proofs.CutOff.{both_true}
use Rattle.world_facts.proofs.Kin.{Base, Kin, base, came_from, multiplexes_kin, no_use_kin}
use Rattle.world_laws.proofs.Shapes.{shown_set}
use Rattle.world_facts.proofs.Stays.{set_onward}
use Rattle.world_facts.proofs.Follows.{HasMarksOf}
use Rattle.world_facts.proofs.Wiring.{each_of}

map_map : (f g : Pipe → Pipe) (xs : List Pipe) → map g (map f xs) ≡ map (λ x. g (f x)) xs
map_map f g [] = refl
map_map f g (x ∷ xs) = ap (λ ys. g (f x) ∷ ys) (map_map f g xs)

set_bare : (P : Node → Type 0) (xs : List Node) (n : ℕ) (x : Node) → AllByRecursion P xs → P x → AllByRecursion P (slice_set xs n x)
set_bare P [] n x all h = tt
set_bare P (y ∷ ys) zero x all h = (h, all.1)
set_bare P (y ∷ ys) (suc n) x all h = (all.0, set_bare P ys n x all.1 h)

at_place : (P : Node → Type 0) (xs : List Node) (n : ℕ) (x : Node) → AllByRecursion P xs → slice_get xs n ≡ Some x → P x
at_place P [] n x all e = absurd (let no : None ≡ Some x = e in cc)
at_place P (y ∷ ys) zero x all e = let s : Some y ≡ Some x = e in let is : y ≡ x = cc in subst P is all.0
at_place P (y ∷ ys) (suc n) x all e = at_place P ys n x all.1 e

map_bare : (f : Pipe → Pipe) (xs : List Pipe) → ((x : Pipe) → (f x).in_phase ≡ x.in_phase) → ((x : Pipe) → (f x).is_closed ≡ x.is_closed) → AllByRecursion (λ (p : Pipe). IsFalse (p.in_phase || p.is_closed)) xs → AllByRecursion (λ (p : Pipe). IsFalse (p.in_phase || p.is_closed)) (map f xs)
map_bare f [] a b all = tt
map_bare f (x ∷ xs) a b all = ((λ i. a x i || b x i) ∙ all.0, map_bare f xs a b all.1)

neither : (a b : Bool) → (a || b) ≡ false → (a ≡ false) × (b ≡ false)
neither true b e = absurd (let no : true ≡ false = e in cc)
neither false b e = (refl, e)

-- a pipe after a node's answer is written
abbrev written_pipe : ℕ → Sides → Pipe → Pipe
written_pipe n a p =
    let q = cond (nat_eq p.wire.receiver n) (received (get_or a.inputs p.wire.input p.wire.receive_state) p) p in
    cond (nat_eq q.wire.sender n) (sent (get_or a.outputs q.wire.port q.wire.send_state) q) q

-- a turn books nothing
makes_booked : (F : Functions) (o : Options) (p : PhysicalNode) (kind : PhysicalKind) (ss : List Fields) (a c : Progress) → Makes F o p kind ss a c → c.booked ≡ a.booked
makes_booked F o p (in_memory_map step) ss a c (inl m) = ap (λ (x : Progress). x.booked) m.1
makes_booked F o p (in_memory_map step) ss a c (inr m) = ap (λ (x : Progress). x.booked) m.3
makes_booked F o p (in_memory_join j) ss a c m = ap (λ (x : Progress). x.booked) m.2
makes_booked F o p (group_by_node keys aggregates) ss a c m = ap (λ (x : Progress). x.booked) m.2
makes_booked F o p (negative_slice back n) ss a c m = ap (λ (x : Progress). x.booked) m
makes_booked F o p kind ss a c m = ap (λ (x : Progress). x.booked) m

turn_booked : (F : Functions) (o : Options) (p : PhysicalNode) (ss : List Fields) (given : Sides) (a b : Progress) → Turns F o p ss given a b → b.booked ≡ a.booked
turn_booked F o p ss given a b (inl t) = ap (λ (x : Progress). x.booked) t.1
turn_booked F o p ss given a b (inr t) = ap (λ (x : Progress). x.booked) t.3 ∙ makes_booked F o p p.kind ss a t.1 t.2

done_if_kept : (old s : PortState) → is_done old ≡ true → is_done (kept_state old s) ≡ true
done_if_kept port.Done s e = refl
done_if_kept port.Ready s e = absurd (let no : false ≡ true = e in cc)
done_if_kept port.Blocked s e = absurd (let no : false ≡ true = e in cc)

pub done_if_new : (old s : PortState) → is_done s ≡ true → is_done (kept_state old s) ≡ true
done_if_new port.Done s e = refl
done_if_new port.Ready s e = e
done_if_new port.Blocked s e = e

sent_leaves : (y : Pipe) (s : PortState) (b : Bool) → (cond b (sent s y) y).wire.receive_state ≡ y.wire.receive_state
sent_leaves y s true = refl
sent_leaves y s false = refl

received_done : (x : Pipe) (s : PortState) (b : Bool) → is_done x.wire.receive_state ≡ true → is_done (cond b (received s x) x).wire.receive_state ≡ true
received_done x s true d = done_if_kept x.wire.receive_state s d
received_done x s false d = d

-- what a reader has said to be done stays so
written_done : (n : ℕ) (a : Sides) (x : Pipe) → is_done x.wire.receive_state ≡ true → is_done (written_pipe n a x).wire.receive_state ≡ true
written_done n a x d =
    let s = get_or a.inputs x.wire.input x.wire.receive_state in
    let y = cond (nat_eq x.wire.receiver n) (received s x) x in
    ap is_done (sent_leaves y (get_or a.outputs y.wire.port y.wire.send_state) (nat_eq y.wire.sender n)) ∙ received_done x s (nat_eq x.wire.receiver n) d

-- what a written pipe leaves
record Leaves (x y : Pipe) : Type 0 where
  got : y.got ≡ x.got
  next : y.next ≡ x.next
  in_phase : y.in_phase ≡ x.in_phase
  is_closed : y.is_closed ≡ x.is_closed
  is_dropped : y.is_dropped ≡ x.is_dropped
  joins : joins_of y ≡ joins_of x

leaves_written : (n : ℕ) (a : Sides) (x : Pipe) → Leaves x (written_pipe n a x)
leaves_written n a x = by (nat_eq x.wire.receiver n) (nat_eq x.wire.sender n) refl refl
  where
    out : (y : Pipe) (b : Bool) → Leaves y (cond b (sent (get_or a.outputs y.wire.port y.wire.send_state) y) y)
    out y true = record { got = refl; next = refl; in_phase = refl; is_closed = refl; is_dropped = refl; joins = refl }
    out y false = record { got = refl; next = refl; in_phase = refl; is_closed = refl; is_dropped = refl; joins = refl }

    into : (b : Bool) → Leaves x (cond b (received (get_or a.inputs x.wire.input x.wire.receive_state) x) x)
    into true = record { got = refl; next = refl; in_phase = refl; is_closed = refl; is_dropped = refl; joins = refl }
    into false = record { got = refl; next = refl; in_phase = refl; is_closed = refl; is_dropped = refl; joins = refl }

    by : (b d : Bool) → nat_eq x.wire.receiver n ≡ b → nat_eq x.wire.sender n ≡ d → Leaves x (written_pipe n a x)
    by b d e h =
        let y = cond (nat_eq x.wire.receiver n) (received (get_or a.inputs x.wire.input x.wire.receive_state) x) x in
        let i = into (nat_eq x.wire.receiver n) in
        let o = out y (nat_eq y.wire.sender n) in
        record { got = o.got ∙ i.got; next = o.next ∙ i.next; in_phase = o.in_phase ∙ i.in_phase; is_closed = o.is_closed ∙ i.is_closed; is_dropped = o.is_dropped ∙ i.is_dropped; joins = o.joins ∙ i.joins }

unread_written : (n : ℕ) (a : Sides) (x : Pipe) → IsTrue (written_pipe n a x).is_unread → IsTrue x.is_unread ⊎ IsTrue (is_done (written_pipe n a x).wire.receive_state)
unread_written n a x u = by (nat_eq x.wire.receiver n) refl u
  where
    s : Rattle.ps_ports.specs.declared.port_state.PortState.PortState
    s = get_or a.inputs x.wire.input x.wire.receive_state

    at_output : Pipe → Pipe
    at_output y = cond (nat_eq y.wire.sender n) (sent (get_or a.outputs y.wire.port y.wire.send_state) y) y

    same : (y : Pipe) (b : Bool) → ((cond b (sent (get_or a.outputs y.wire.port y.wire.send_state) y) y).is_unread ≡ y.is_unread) × ((cond b (sent (get_or a.outputs y.wire.port y.wire.send_state) y) y).wire.receive_state ≡ y.wire.receive_state)
    same y true = (refl, refl)
    same y false = (refl, refl)

    or_of : (b d e : Bool) → (b || (d && e)) ≡ true → (b ≡ true) ⊎ (d ≡ true)
    or_of true d e h = inl refl
    or_of false true e h = inr refl
    or_of false false e h = absurd (let no : false ≡ true = h in cc)

    by : (b : Bool) → nat_eq x.wire.receiver n ≡ b → IsTrue (written_pipe n a x).is_unread → IsTrue x.is_unread ⊎ IsTrue (is_done (written_pipe n a x).wire.receive_state)
    by b e u =
        let y = cond (nat_eq x.wire.receiver n) (received (get_or a.inputs x.wire.input x.wire.receive_state) x) x in
        let o = same y (nat_eq y.wire.sender n) in
        of (nat_eq x.wire.receiver n) (sym o.0 ∙ u) o.1
      where
        of : (b : Bool) → IsTrue (cond b (received (get_or a.inputs x.wire.input x.wire.receive_state) x) x).is_unread → (written_pipe n a x).wire.receive_state ≡ (cond b (received (get_or a.inputs x.wire.input x.wire.receive_state) x) x).wire.receive_state → IsTrue x.is_unread ⊎ IsTrue (is_done (written_pipe n a x).wire.receive_state)
        of false u q = inl u
        of true u q = done (or_of x.is_unread (is_done (get_or a.inputs x.wire.input x.wire.receive_state)) (not (is_done x.wire.send_state)) u)
          where
            done : (x.is_unread ≡ true) ⊎ (is_done (get_or a.inputs x.wire.input x.wire.receive_state) ≡ true) → IsTrue x.is_unread ⊎ IsTrue (is_done (written_pipe n a x).wire.receive_state)
            done (inl h) = inl h
            done (inr h) = inr (ap is_done q ∙ done_if_new x.wire.receive_state (get_or a.inputs x.wire.input x.wire.receive_state) h)

-- a world in which one node has other progress, and its answer is written
module _ (F : Functions) (w : World) (f : Facts F w) (shut : IsFalse w.is_open) (n : ℕ) (node : Node) (progress : Progress) (g : Pipe → Pipe) (at : slice_get w.nodes n ≡ Some node) (booked : progress.booked ≡ node.progress.booked) (leaves : (x : Pipe) → Leaves x (g x)) (done_stays : (x : Pipe) → Contains w.pipes x → IsTrue (is_done x.wire.receive_state) → IsTrue (is_done (g x).wire.receive_state))
    (unread : (x : Pipe) → IsTrue (g x).is_unread → IsTrue x.is_unread ⊎ IsTrue (is_done (g x).wire.receive_state)) where
  abbrev new_node : Node
  new_node = record node { progress = progress }

  abbrev v : World
  v = record w { nodes = slice_set w.nodes n new_node; pipes = map (g) w.pipes }

  marks : HasMarksOf node new_node
  marks = record { in_phase = refl; is_closed = refl; over = λ o. ap (is_over_slice node.node.kind) booked ∙ o }

  abbrev kin : Kin w v
  kin =
      record {
        shape = shown_set w.nodes n node new_node at refl;
        options = refl;
        over = λ m x e o. let y = set_onward w.nodes n node new_node at marks m x e in (y.0, y.1, y.2.over o);
        pipe = g;
        pipes = refl;
        joins = λ x. (leaves x).joins;
        dropped = λ x d. (leaves x).is_dropped ∙ d;
        done = λ x c d. done_stays x c d;
      }

  none_out : (q : Piece) → Contains w.outs q → ⊥
  none_out q c =
      let on = both_true w.is_open ((f.at_work q c).0.in_phase && not (f.at_work q c).0.is_closed) (f.at_work q c).2 in
      let no : true ≡ false = sym on.0 ∙ shut in cc

  of_pipe : (x : Pipe) → Contains w.pipes x → PipeFacts v (g x)
  of_pipe x c =
      record {
        taken = subst (λ (k : ℕ). k ≤ length y.got) (sym l.next) (subst (λ xs. x.next ≤ length xs) (sym l.got) facts.taken);
        came = λ k h. let r = facts.came k (subst (λ (m : ℕ). suc k ≤ m) l.next h) in (r.0, ap (λ xs. slice_get xs k) l.got ∙ r.1);
        expected = λ runs k hole. still k (facts.expected runs k (sym (ap (λ xs. slice_get xs k) l.got) ∙ hole));
        at_hand = λ on. never on;
        closed_with_sender = λ on. never on;
        read_to_end = λ on. never on;
        closed_by_sender = λ closed. absurd (let no : false ≡ true = sym bare.1 ∙ sym l.is_closed ∙ closed in cc);
        closed_in_phase = λ closed. absurd (let no : false ≡ true = sym bare.1 ∙ sym l.is_closed ∙ closed in cc);
        drained = λ off bound. (λ i. l.is_dropped i || nat_eq (length (l.got i) - l.next i) 0) ∙ facts.drained bare.0 (sym same_bound ∙ bound);
        unread_done = λ u. by_unread (unread x u);
        why_dropped = λ gone. subst (Rattle.ps_world.specs.Facts.HasNoUse v) (sym (ap (λ (j : Rattle.ps_world.specs.Facts.Joins). j.receiver) l.joins)) (no_use_kin w v kin x.wire.receiver (facts.why_dropped (sym l.is_dropped ∙ gone)));
      }
    where
      y : Pipe
      y = g x

      l : Leaves x (g x)
      l = leaves x

      facts : PipeFacts w x
      facts = f.pipes x c

      bare : (x.in_phase ≡ false) × (x.is_closed ≡ false)
      bare = neither x.in_phase x.is_closed (each_of (λ (p : Pipe). IsFalse (p.in_phase || p.is_closed)) w.pipes x (f.no_marks shut).1 c)

      never : {A : Type 0} → IsTrue (g x).in_phase → A
      never on = absurd (let no : false ≡ true = sym bare.0 ∙ sym l.in_phase ∙ on in cc)

      same_bound : is_bounded v (g x) ≡ is_bounded w x
      same_bound = ap (λ (j : Rattle.ps_world.specs.Facts.Joins). not (Rattle.ps_world.specs.World.multiplexes (slice_get v.nodes j.sender))) l.joins ∙ ap not (multiplexes_kin w v kin x.wire.sender)

      still : (k : ℕ) → IsTrue x.is_dropped ⊎ IsTrue x.in_phase × IsAwaited w x.wire.sender k → IsTrue (g x).is_dropped ⊎ IsTrue (g x).in_phase × IsAwaited v (g x).wire.sender k
      still k (inl gone) = inl (l.is_dropped ∙ gone)
      still k (inr (on, h)) = absurd (let no : false ≡ true = sym bare.0 ∙ on in cc)

      by_unread : IsTrue x.is_unread ⊎ IsTrue (is_done (g x).wire.receive_state) → IsTrue (is_done (g x).wire.receive_state)
      by_unread (inl u) = done_stays x c (facts.unread_done u)
      by_unread (inr d) = d

  b : Base w v kin F
  b = base w v kin F f

  update_keeps : Facts F v
  update_keeps =
      record {
        sound = b.sound;
        wires = b.wires;
        one_input = b.one_input;
        one_output = b.one_output;
        workers = f.workers;
        own_workers = f.own_workers;
        at_work = λ q c. absurd (none_out q c);
        expected = λ q c. absurd (none_out q c);
        own_numbers = λ q r p c d g h n k e. absurd (none_out q c);
        own_slots = f.own_slots;
        pipes = λ p c. let x = came_from w v kin p c in subst (PipeFacts v) x.2 (of_pipe x.0 x.1);
        cut_off = λ p c near on cut.
            let x = came_from w v kin p c in
            let off = (neither x.0.in_phase x.0.is_closed (each_of (λ (p : Pipe). IsFalse (p.in_phase || p.is_closed)) w.pipes x.0 (f.no_marks shut).1 x.1)).0 in
            absurd (let no : false ≡ true = sym off ∙ sym (leaves x.0).in_phase ∙ ap (λ (z : Pipe). z.in_phase) x.2 ∙ on in cc);
        no_marks = λ e. (
          set_bare (λ (n : Node). IsFalse (n.in_phase || n.is_closed)) w.nodes n new_node (f.no_marks shut).0 (at_place (λ (n : Node). IsFalse (n.in_phase || n.is_closed)) w.nodes n node (f.no_marks shut).0 at),
          map_bare (g) w.pipes (λ x. (leaves x).in_phase) (λ x. (leaves x).is_closed) (f.no_marks shut).1,
        );
      }

put_is : (w : World) (n : ℕ) (node : Node) (progress : Progress) → slice_get w.nodes n ≡ Some node → with_progress n progress w ≡ record w { nodes = slice_set w.nodes n (record node { progress = progress }) }
put_is w n node progress at = λ i. put_progress (at i) n progress w

pub turn_keeps : (F : Functions) (w : World) (n : ℕ) (node : Node) (progress : Progress) (a : Sides) → Facts F w → IsFalse w.is_open → slice_get w.nodes n ≡ Some node → progress.booked ≡ node.progress.booked → Facts F (written n a (with_progress n progress w))
turn_keeps F w n node progress a f shut at booked = subst (Facts F) (sym is) (update_keeps F w f shut n node progress (written_pipe n a) at booked (leaves_written n a) (λ x c d. written_done n a x d) (unread_written n a))
  where
    is : written n a (with_progress n progress w) ≡ record w { nodes = slice_set w.nodes n (record node { progress = progress }); pipes = map (written_pipe n a) w.pipes }
    is =
        ap (written n a) (put_is w n node progress at)
        ∙ (λ i. record w { nodes = slice_set w.nodes n (record node { progress = progress }); pipes = map_map (λ (p : Pipe). cond (nat_eq p.wire.receiver n) (received (get_or a.inputs p.wire.input p.wire.receive_state) p) p) (λ (p : Pipe). cond (nat_eq p.wire.sender n) (sent (get_or a.outputs p.wire.port p.wire.send_state) p) p) w.pipes i })

pub fill_keeps : (F : Functions) (w : World) (n : ℕ) (node : Node) (progress : Progress) → Facts F w → IsFalse w.is_open → slice_get w.nodes n ≡ Some node → progress.booked ≡ node.progress.booked → Facts F (with_progress n progress w)
fill_keeps F w n node progress f shut at booked = subst (Facts F) (sym is) (update_keeps F w f shut n node progress (λ p. p) at booked (λ x. record { got = refl; next = refl; in_phase = refl; is_closed = refl; is_dropped = refl; joins = refl }) (λ x c d. d) (λ x u. inl u))
  where
    is : with_progress n progress w ≡ record w { nodes = slice_set w.nodes n (record node { progress = progress }); pipes = map (λ p. p) w.pipes }
    is = put_is w n node progress at ∙ (λ i. record w { nodes = slice_set w.nodes n (record node { progress = progress }); pipes = sym (map-id w.pipes) i })

still_shut : (w : World) (n : ℕ) (progress : Progress) → (with_progress n progress w).is_open ≡ w.is_open
still_shut w n progress = by (slice_get w.nodes n)
  where
    by : (o : Option Node) → (put_progress o n progress w).is_open ≡ w.is_open
    by None = refl
    by (Some node) = refl

pub updates_keep_facts : (F : Functions) (w s : World) → Updates F w s → Facts F w → IsFalse w.is_open → Facts F s × IsFalse s.is_open
updates_keep_facts F w s no_update f shut = (f, shut)
updates_keep_facts F w s (one_update n node progress t u) f shut =
    updates_keep_facts F (updated w n node progress) s u (turn_keeps F w n node progress (answer_at w n node progress) f shut t.0 (turn_booked F w.options node.node (schemas_for w node) (given_at w n) node.progress progress t.2)) (still_shut w n progress ∙ shut)
updates_keep_facts F w s (one_fill n node progress t u) f shut =
    updates_keep_facts F (with_progress n progress w) s u (fill_keeps F w n node progress f shut t.0 (ap (λ (p : Progress). p.booked) t.1.3)) (still_shut w n progress ∙ shut)

-- an Open
after_keeps : (F : Functions) (s : World) (phase : ℕ) → DropsAreDone s → Facts F s → IsFalse s.is_open → Facts F (after_open s phase)
after_keeps F s phase done f shut = by (is_empty (blockers_in s)) refl
  where
    by : (b : Bool) → is_empty (blockers_in s) ≡ b → Facts F (after_open s phase)
    by true e = subst (Facts F) (λ i. record (cond (sym e i) (record s { ending = finished }) (with_phase s)) { phase = phase; journal = s.journal ++ opened phase ∷ [] }) (ending_keeps F s finished phase (s.journal ++ opened phase ∷ []) (λ runs. let no : finished ≡ running = runs in cc) f)
    by false e = subst (Facts F) (λ i. record (cond (sym e i) (record s { ending = finished }) (with_phase s)) { phase = phase; journal = s.journal ++ opened phase ∷ [] }) (phase_keeps F s f shut done phase (s.journal ++ opened phase ∷ []))

pub opened_keeps : (F : Functions) (w s v : World) (phase : ℕ) → Updates F w s → (IsSettled s → DropsAreDone s) → Facts F w → IsFalse w.is_open → Opens F s phase v → Facts F v
opened_keeps F w s v phase u done f shut opens = by (updates_keep_facts F w s u f shut) opens
  where
    by : Facts F s × IsFalse s.is_open → Opens F s phase v → Facts F v
    by (g, closed) (settles rest e) = subst (Facts F) (sym e) (after_keeps F s phase (done rest) g closed)
    by (g, closed) (breaks n c b e) = subst (Facts F) (sym e) (ending_keeps F s (faulty c) phase (s.journal ++ opened phase ∷ []) (λ runs. let no : faulty c ≡ running = runs in cc) g)
