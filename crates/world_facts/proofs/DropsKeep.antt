-- Drops keep the facts: an input that is dropped has a reader without use for it, and from the last node to the first all that feeds a node that is cut off is dropped with it.
use Rattle.std.proofs.Common.{◌≡◌, ◌≢◌, ℕ, zero, suc, ◌<◌, ◌≤◌, ◌⊎◌, Bool, true, false, cond, List, length, Option, Some, None, refl, sym, ap, subst, ◌∙◌, inl, inr, arith}
use Rattle.std.specs.Prelude.{Contains, IsTrue, nat_eq, not, slice_get, slice_set, ◌&&◌, ◌||◌}
use Rattle.std.proofs.lemmas.Bool.{cases_eq, cases_lt, or_left, or_right}
use Rattle.ps_frame.specs.Functions.{Functions}
use Rattle.ps_ports.specs.Ports.{is_done}
use Rattle.ps_ports.specs.Wires.{Wire}
use Rattle.ps_meaning.specs.Shape.{PhysicalKind, zip_node}
use Rattle.ps_world.specs.Facts.{FactsDownTo, HasNoUse, IsAwaited, PipeFacts, is_over_slice, slots_of}
use Rattle.ps_world.specs.Pipes.{change_pipes, drop_at, drop_if, dropped_pipe, drops_from, heads_lost, is_input, put_without_heads, without_heads}
use Rattle.ps_world.specs.World.{Node, Pipe, World, counts_for_sender, is_bounded, is_cut_off, multiplexes}
use Rattle.world_facts.proofs.CutOff.{and_true, both_true, cut_all, cut_off_same, cut_some, goes_live, its_number, same_number}
use Rattle.world_facts.proofs.Follows.{Follows, HasMarksOf, IsLike, OwesPipe, carried, follow, multiplexes_same, still_no_use, traced, working}
use Rattle.world_laws.proofs.InOrder.{contains_map}
use Rattle.world_laws.proofs.Shapes.{lost_keep}
use Rattle.world_facts.proofs.Slots.{set_here, set_other}
use Rattle.world_facts.proofs.Stays.{live_same, pieces_stay, same_marks, set_back, set_onward}
use Rattle.world_facts.proofs.Wiring.{wires_forward, wires_inside}

-- A world in which the pipes of a test are dropped, the heads of some nodes lost.
module _ (w v : World) (h : Follows w v) (t : Pipe → Bool) (is_pipe : (x : Pipe) → h.pipe x ≡ cond (t x) (dropped_pipe x) x) (outs : v.outs ≡ w.outs) (ending : v.ending ≡ w.ending)
    (slots : (m i j : ℕ) → slice_get (slots_of (slice_get w.nodes m) i) j ≡ Some None → slice_get (slots_of (slice_get v.nodes m) i) j ≡ Some None) where
  got_same : (x : Pipe) (b : Bool) (y : Pipe) → y ≡ cond b (dropped_pipe x) x → y.got ≡ x.got
  got_same x true y e = ap (λ (z : Pipe). z.got) e
  got_same x false y e = ap (λ (z : Pipe). z.got) e

  module _ {k : ℕ} (F : Functions) (f : FactsDownTo F k w) (no_use : (x : Pipe) → Contains w.pipes x → t x ≡ true → HasNoUse v x.wire.receiver) where
    owed : (x : Pipe) → Contains w.pipes x → OwesPipe w v h (h.pipe x)
    owed x c = subst (OwesPipe w v h) (sym (is_pipe x)) (by (t x) refl)
      where
        facts : PipeFacts w x
        facts = f.pipes x c

        same_bound : is_bounded v x ≡ is_bounded w x
        same_bound = ap not (multiplexes_same w v h x.wire.sender)

        of_awaited : (k : ℕ) → IsTrue x.is_dropped ⊎ IsTrue x.in_phase × IsAwaited w x.wire.sender k → IsTrue x.is_dropped ⊎ IsTrue x.in_phase × IsAwaited v x.wire.sender k
        of_awaited k (inl gone) = inl gone
        of_awaited k (inr (here, a)) = inr (here, (a.0, subst (λ xs. Contains xs a.0) (sym outs) a.1, a.2, a.3, a.4))

        by : (b : Bool) → t x ≡ b → OwesPipe w v h (cond b (dropped_pipe x) x)
        by true e =
            record {
              taken = facts.taken;
              came = facts.came;
              expected = λ runs k hole. inl refl;
              read_to_end = λ here left. absurd (let no : true ≡ false = left in cc);
              drained = λ off bound. refl;
              why_dropped = λ gone. no_use x c e;
            }
        by false e =
            record {
              taken = facts.taken;
              came = facts.came;
              expected = λ runs k hole. of_awaited k (facts.expected (sym ending ∙ runs) k hole);
              read_to_end = λ here left. working w v h x.wire.receiver (facts.read_to_end here left);
              drained = λ off bound. facts.drained off (sym same_bound ∙ bound);
              why_dropped = λ gone. still_no_use w v h x.wire.receiver (facts.why_dropped gone);
            }

    pub drops_keep : {j : ℕ} → ((p : Pipe) → Contains v.pipes p → j ≤ p.wire.receiver → IsTrue p.in_phase → IsTrue (is_cut_off v p.wire.receiver) → IsTrue p.is_dropped) → FactsDownTo F j v
    drops_keep cut = follow w v h F f owed (pieces_stay w v h F f outs slots (λ x j e. ap (λ xs. slice_get xs j) (got_same x (t x) (h.pipe x) (is_pipe x)) ∙ e)) cut

dropped_like : (x : Pipe) (b : Bool) → IsLike x (cond b (dropped_pipe x) x)
dropped_like x true = record { wire = refl; in_phase = refl; is_closed = refl; is_unread = refl; dropped = λ d. refl }
dropped_like x false = record { wire = refl; in_phase = refl; is_closed = refl; is_unread = refl; dropped = λ d. d }

-- the input of a slice that has booked all its rows
abbrev pub drop_input_world : World → ℕ → ℕ → World
drop_input_world w n i = record w { pipes = change_pipes (is_input n i) dropped_pipe w.pipes }

module _ (w : World) (n i : ℕ) (is_open : w.is_open ≡ true) where
  abbrev input_follows : Follows w (drop_input_world w n i)
  input_follows =
      record {
        shape = refl;
        options = refl;
        open_before = is_open;
        open_after = is_open;
        onward = λ m x at. (x, at, same_marks x);
        back = λ m x at. (x, at, same_marks x);
        pipe = λ p. cond (is_input n i p) (dropped_pipe p) p;
        pipes = refl;
        like = λ x. dropped_like x (is_input n i x);
      }

  module _ {k : ℕ} (F : Functions) (f : FactsDownTo F k w) (node : Node) (at : slice_get w.nodes n ≡ Some node) (over : IsTrue (is_over_slice node.node.kind node.progress.booked)) where
    pub input_keeps : FactsDownTo F (length w.nodes) (drop_input_world w n i)
    input_keeps = drops_keep w (drop_input_world w n i) input_follows (is_input n i) (λ x. refl) refl refl (λ m i j e. e) F f no_use cut
      where
        no_use : (x : Pipe) → Contains w.pipes x → is_input n i x ≡ true → HasNoUse (drop_input_world w n i) x.wire.receiver
        no_use x c e = let parts = both_true (nat_eq x.wire.receiver n) (nat_eq x.wire.input i) e in inl (node, ap (slice_get w.nodes) (same_number x.wire.receiver n parts.0) ∙ at, over)

        cut : (p : Pipe) → Contains (drop_input_world w n i).pipes p → length w.nodes ≤ p.wire.receiver → IsTrue p.in_phase → IsTrue (is_cut_off (drop_input_world w n i) p.wire.receiver) → IsTrue p.is_dropped
        cut p c far on off =
            let x = traced w (drop_input_world w n i) input_follows p c in
            let wire : x.0.wire ≡ p.wire = sym (input_follows.like x.0).wire ∙ ap (λ (z : Pipe). z.wire) x.2 in
            let inside = wires_inside F w f x.0.wire (contains_map (λ (z : Pipe). z.wire) x.0 w.pipes x.1) in
            let r : x.0.wire.receiver ≡ p.wire.receiver = ap (λ (u : Wire). u.receiver) wire in
            absurd (omega arith)

-- all that feeds a node that is cut off
without_marks : (k : PhysicalKind) (node : Node) → HasMarksOf node (without_heads k node)
without_marks (zip_node extend) node = record { in_phase = refl; is_closed = refl; over = λ o. o }
without_marks k node = same_marks node

without_slots : (k : PhysicalKind) (node : Node) (i : ℕ) → slots_of (Some (without_heads k node)) i ≡ slots_of (Some node) i
without_slots (zip_node extend) node i = refl
without_slots k node i = refl

lost_onward : (n : ℕ) (nodes : List Node) (m : ℕ) (x : Node) → slice_get nodes m ≡ Some x → (y : Node) × (slice_get (heads_lost n nodes) m ≡ Some y) × HasMarksOf x y
lost_onward n nodes m x at = by (slice_get nodes n) refl
  where
    by : (o : Option Node) → slice_get nodes n ≡ o → (y : Node) × (slice_get (put_without_heads o n nodes) m ≡ Some y) × HasMarksOf x y
    by None e = (x, at, same_marks x)
    by (Some node) e = set_onward nodes n node (without_heads node.node.kind node) e (without_marks node.node.kind node) m x at

lost_back : (n : ℕ) (nodes : List Node) (m : ℕ) (y : Node) → slice_get (heads_lost n nodes) m ≡ Some y → (x : Node) × (slice_get nodes m ≡ Some x) × HasMarksOf x y
lost_back n nodes m y at = by (slice_get nodes n) refl at
  where
    by : (o : Option Node) → slice_get nodes n ≡ o → slice_get (put_without_heads o n nodes) m ≡ Some y → (x : Node) × (slice_get nodes m ≡ Some x) × HasMarksOf x y
    by None e at = (y, at, same_marks y)
    by (Some node) e at = set_back nodes n node (without_heads node.node.kind node) e (without_marks node.node.kind node) m y at

lost_slots : (n : ℕ) (nodes : List Node) (m i : ℕ) → slots_of (slice_get (heads_lost n nodes) m) i ≡ slots_of (slice_get nodes m) i
lost_slots n nodes m i = by (slice_get nodes n) refl
  where
    by : (o : Option Node) → slice_get nodes n ≡ o → slots_of (slice_get (put_without_heads o n nodes) m) i ≡ slots_of (slice_get nodes m) i
    by None e = refl
    by (Some node) e = by_place (cases_eq m n)
      where
        by_place : (m ≡ n) ⊎ (m ≢ n) → slots_of (slice_get (slice_set nodes n (without_heads node.node.kind node)) m) i ≡ slots_of (slice_get nodes m) i
        by_place (inl same) =
            ap (λ o. slots_of o i) (ap (slice_get (slice_set nodes n (without_heads node.node.kind node))) same ∙ set_here nodes n node (without_heads node.node.kind node) e)
            ∙ without_slots node.node.kind node i ∙ ap (λ o. slots_of o i) (sym e ∙ ap (slice_get nodes) (sym same))
        by_place (inr other) = ap (λ o. slots_of o i) (set_other nodes n m (without_heads node.node.kind node) other)

module _ (w : World) (n : ℕ) (is_open : w.is_open ≡ true) where
  abbrev v : World
  v = drop_if true n w

  feeds : Pipe → Bool
  feeds p = nat_eq p.wire.receiver n && p.in_phase

  abbrev drop_follows : Follows w v
  drop_follows =
      record {
        shape = lost_keep n w.nodes;
        options = refl;
        open_before = is_open;
        open_after = is_open;
        onward = lost_onward n w.nodes;
        back = lost_back n w.nodes;
        pipe = λ p. cond (nat_eq p.wire.receiver n && p.in_phase) (dropped_pipe p) p;
        pipes = refl;
        like = λ x. dropped_like x (nat_eq x.wire.receiver n && x.in_phase);
      }

  module _ (F : Functions) (f : FactsDownTo F (suc n) w) (off : is_cut_off w n ≡ true) where
    -- what leaves the node is dropped, or has a reader that is done
    left_useless : (z : Pipe) → Contains w.pipes z → z.wire.sender ≡ n → (counts_for_sender w z ≡ true) ⊎ (counts_for_sender w z ≡ false) → (z.is_dropped ≡ true) ⊎ (is_done z.wire.receive_state ≡ true)
    left_useless z c s (inl counts) = inl (cut_all w n off z c s counts)
    left_useless z c s (inr idle) = by (multiplexes (slice_get w.nodes z.wire.sender)) refl
      where
        done_of : (a b : Bool) → (a || (true && not b)) ≡ false → b ≡ true
        done_of true b e = absurd (let no : true ≡ false = e in cc)
        done_of false true e = refl
        done_of false false e = absurd (let no : true ≡ false = e in cc)

        by : (b : Bool) → multiplexes (slice_get w.nodes z.wire.sender) ≡ b → (z.is_dropped ≡ true) ⊎ (is_done z.wire.receive_state ≡ true)
        by true m = inr (done_of z.in_phase (is_done z.wire.receive_state) (sym (ap (λ b. z.in_phase || (b && not (is_done z.wire.receive_state))) m) ∙ idle))
        by false m =
            let u = cut_some w n off in
            let same = f.one_output z u.0 c u.1 (s ∙ sym u.2) m in
            absurd (let no : true ≡ false = sym u.3 ∙ ap (counts_for_sender w) (sym same) ∙ idle in cc)

    no_use : (x : Pipe) → Contains w.pipes x → (nat_eq x.wire.receiver n && x.in_phase) ≡ true → HasNoUse v x.wire.receiver
    no_use x c e =
        let u = cut_some w n off in
        inr (drop_follows.pipe u.0, carried w v drop_follows u.0 u.1, ap (λ (z : Wire). z.sender) (drop_follows.like u.0).wire ∙ u.2 ∙ sym r, λ q d s. by q (traced w v drop_follows q d) s)
      where
        r : x.wire.receiver ≡ n
        r = same_number x.wire.receiver n (both_true (nat_eq x.wire.receiver n) x.in_phase e).0

        or_of : (z q : Pipe) → drop_follows.pipe z ≡ q → (z.is_dropped ≡ true) ⊎ (is_done z.wire.receive_state ≡ true) → IsTrue (q.is_dropped || is_done q.wire.receive_state)
        or_of z q e (inl gone) = or_left q.is_dropped (is_done q.wire.receive_state) (ap (λ (p : Pipe). p.is_dropped) (sym e) ∙ (drop_follows.like z).dropped gone)
        or_of z q e (inr done) = or_right q.is_dropped (is_done q.wire.receive_state) (ap (λ (p : Pipe). is_done p.wire.receive_state) (sym e) ∙ ap (λ (u : Wire). is_done u.receive_state) (drop_follows.like z).wire ∙ done)

        true_or_false : (b : Bool) → (b ≡ true) ⊎ (b ≡ false)
        true_or_false true = inl refl
        true_or_false false = inr refl

        by : (q : Pipe) → (z : Pipe) × Contains w.pipes z × (drop_follows.pipe z ≡ q) → q.wire.sender ≡ x.wire.receiver → IsTrue (q.is_dropped || is_done q.wire.receive_state)
        by q z s =
            let sender : z.0.wire.sender ≡ n = sym (ap (λ (u : Wire). u.sender) (drop_follows.like z.0).wire) ∙ ap (λ (p : Pipe). p.wire.sender) z.2 ∙ s ∙ r in
            or_of z.0 q z.2 (left_useless z.0 z.1 sender (true_or_false (counts_for_sender w z.0)))

    cut : (p : Pipe) → Contains v.pipes p → n ≤ p.wire.receiver → IsTrue p.in_phase → IsTrue (is_cut_off v p.wire.receiver) → IsTrue p.is_dropped
    cut p c near on gone = by (traced w v drop_follows p c)
      where
        by : (x : Pipe) × Contains w.pipes x × (drop_follows.pipe x ≡ p) → IsTrue p.is_dropped
        by (x, d, e) = by_place (cases_lt n x.wire.receiver)
          where
            wire : p.wire ≡ x.wire
            wire = ap (λ (z : Pipe). z.wire) (sym e) ∙ (drop_follows.like x).wire

            r : p.wire.receiver ≡ x.wire.receiver
            r = ap (λ (u : Wire). u.receiver) wire

            in_phase : x.in_phase ≡ true
            in_phase = sym (drop_follows.like x).in_phase ∙ ap (λ (z : Pipe). z.in_phase) e ∙ on

            gone_from : (b : Bool) (y : Pipe) → b ≡ true → (cond b (dropped_pipe y) y).is_dropped ≡ true
            gone_from true y q = refl
            gone_from false y q = absurd (let no : false ≡ true = q in cc)

            stays_from : (b : Bool) (y : Pipe) → b ≡ false → (cond b (dropped_pipe y) y).is_dropped ≡ y.is_dropped
            stays_from false y q = refl
            stays_from true y q = absurd (let no : true ≡ false = q in cc)

            -- what leaves a later node goes to a later one
            untouched : n < x.wire.receiver → (z : Pipe) → Contains w.pipes z → goes_live w x.wire.receiver z ≡ true → (drop_follows.pipe z).is_dropped ≡ z.is_dropped
            untouched less z cz live =
                let parts = both_true (nat_eq z.wire.sender x.wire.receiver) (counts_for_sender w z) live in
                let sender = same_number z.wire.sender x.wire.receiver parts.0 in
                let onward = wires_forward F w f z.wire (contains_map (λ (u : Pipe). u.wire) z w.pipes cz) in
                let away : n < z.wire.receiver = omega arith in
                stays_from (nat_eq z.wire.receiver n && z.in_phase) z (ap (λ b. b && z.in_phase) (elsewhere z.wire.receiver n away))
              where
                elsewhere : (a b : ℕ) → b < a → nat_eq a b ≡ false
                elsewhere a b h = grind (arith, Rattle.std.proofs.lemmas.Bool.Decides.nat_tests)

            by_place : (n < x.wire.receiver) ⊎ (x.wire.receiver ≤ n) → IsTrue p.is_dropped
            by_place (inl less) =
                let before : is_cut_off w x.wire.receiver ≡ true = sym (cut_off_same w v x.wire.receiver drop_follows.pipe refl (λ z cz. live_same w v drop_follows x.wire.receiver z) (untouched less)) ∙ ap (is_cut_off v) (sym r) ∙ gone in
                ap (λ (z : Pipe). z.is_dropped) (sym e) ∙ (drop_follows.like x).dropped (f.cut_off x d less in_phase before)
            by_place (inr more) =
                let q = r in let same : x.wire.receiver ≡ n = omega arith in
                ap (λ (z : Pipe). z.is_dropped) (sym e) ∙ gone_from (nat_eq x.wire.receiver n && x.in_phase) x (and_true (nat_eq x.wire.receiver n) x.in_phase (its_number x.wire.receiver n same) in_phase)

    drop_true : FactsDownTo F n v
    drop_true =
        drops_keep w v drop_follows (λ p. nat_eq p.wire.receiver n && p.in_phase) (λ x. refl) refl refl
        (λ m i j e. ap (λ xs. slice_get xs j) (lost_slots n w.nodes m i) ∙ e) F f no_use cut

with_cut : {k j : ℕ} (F : Functions) (w : World) → FactsDownTo F k w → ((p : Pipe) → Contains w.pipes p → j ≤ p.wire.receiver → IsTrue p.in_phase → IsTrue (is_cut_off w p.wire.receiver) → IsTrue p.is_dropped) → FactsDownTo F j w
with_cut F w f cut =
    record { sound = f.sound; wires = f.wires; one_input = f.one_input; one_output = f.one_output; workers = f.workers; own_workers = f.own_workers; at_work = f.at_work; expected = f.expected; own_numbers = f.own_numbers; own_slots = f.own_slots; pipes = f.pipes; no_marks = f.no_marks; cut_off = cut }

-- a weaker bound
pub up_to : {k j : ℕ} (F : Functions) (w : World) → k ≤ j → FactsDownTo F k w → FactsDownTo F j w
up_to {k} {j} F w h f = with_cut F w f (λ p c at on off. f.cut_off p c (omega arith) on off)

drop_step : (F : Functions) (w : World) (n : ℕ) → w.is_open ≡ true → FactsDownTo F (suc n) w → FactsDownTo F n (drop_at w n)
drop_step F w n is_open f = by (is_cut_off w n) refl
  where
    by : (b : Bool) → is_cut_off w n ≡ b → FactsDownTo F n (drop_if b n w)
    by true e = drop_true w n is_open F f e
    by false e = with_cut F w f (λ p c near on off. not_here p c near on off (cases_lt n p.wire.receiver))
      where
        not_here : (p : Pipe) → Contains w.pipes p → n ≤ p.wire.receiver → IsTrue p.in_phase → IsTrue (is_cut_off w p.wire.receiver) → (n < p.wire.receiver) ⊎ (p.wire.receiver ≤ n) → IsTrue p.is_dropped
        not_here p c near on off (inl less) = f.cut_off p c less on off
        not_here p c near on off (inr more) = absurd (let same : p.wire.receiver ≡ n = omega arith in let no : true ≡ false = sym off ∙ ap (is_cut_off w) same ∙ e in cc)

stays_open : (b : Bool) (n : ℕ) (w : World) → w.is_open ≡ true → (drop_if b n w).is_open ≡ true
stays_open true n w e = e
stays_open false n w e = e

-- all drops of a world
pub drops_from_keep : (F : Functions) (w : World) (n : ℕ) → w.is_open ≡ true → FactsDownTo F n w → FactsDownTo F 0 (drops_from w n)
drops_from_keep F w zero is_open f = f
drops_from_keep F w (suc n) is_open f = drops_from_keep F (drop_at w n) n (stays_open (is_cut_off w n) n w is_open) (drop_step F w n is_open f)
