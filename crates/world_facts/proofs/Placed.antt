-- A piece that goes out, with a place for its answer, keeps the facts.
use Rattle.std.proofs.Common.{◌≡◌, ◌≢◌, ℕ, zero, suc, ◌<◌, ◌⊎◌, Bool, true, false, cond, List, [], ◌∷◌, ◌++◌, length, Some, None, refl, sym, ap, subst, ◌∙◌, inl, inr, arith}
use Rattle.std.specs.Prelude.{Contains, IsFalse, IsTrue, get_or, nat_eq, not, slice_get, slice_set, ◌&&◌, ◌||◌}
use Rattle.std.specs.List.{AllByRecursion}
use Rattle.std.proofs.lemmas.Bool.{and_left, cases_eq, or_from}
use Rattle.std.proofs.lemmas.Option.{slice_get_within}
use Rattle.ps_frame.specs.Functions.{Functions}
use Rattle.ps_frame.specs.Tables.{Row}
use Rattle.ps_ports.specs.Ports.{is_done}
use Rattle.ps_turns.specs.Claims.{Claim}
use Rattle.ps_turns.specs.Tasks.{Piece}
use Rattle.ps_world.specs.Claims.{IsFree, piece_of}
use Rattle.ps_world.specs.Facts.{FactsDownTo, IsAwaited, IsExpected, PipeFacts, is_filled_by, keeps_one, slots_of}
use Rattle.ps_world.specs.Fits.{Fits}
use Rattle.ps_world.specs.Pipes.{change_pipes, with_place}
use Rattle.ps_world.specs.World.{Node, Pipe, World, bounded_out, claimed, counts_for_sender, is_bounded, is_drained, multiplexes, running, IsWorking}
use Rattle.world_facts.proofs.CutOff.{and_true, both_true, its_number, same_number}
use Rattle.world_facts.proofs.Follows.{Follows, HasMarksOf, IsLike, OwesPieces, OwesPipe, follow, multiplexes_same, still_no_use, working}
use Rattle.world_laws.proofs.InOrder.{contains_cases, contains_first, contains_later}
use Rattle.world_laws.proofs.Shapes.{shown_set}
use Rattle.world_facts.proofs.Slots.{at_before, at_cases, at_end, length-append_one, set_here, set_other}
use Rattle.world_facts.proofs.Stays.{cut_stays, set_back, set_onward, still_expected, was_filled}
use Rattle.world_facts.proofs.Taken.{not_true}

abbrev pub place_world : World → ℕ → ℕ → ℕ → Node → Claim → World
place_world w n i worker node c =
    record w {
      nodes = slice_set w.nodes n (record node { progress = c.progress });
      pipes = change_pipes (bounded_out w n) with_place w.pipes;
      outs = piece_of n i worker c ∷ w.outs;
      journal = w.journal ++ claimed n i c.number worker ∷ [];
    }

true_or_false : (b : Bool) → (b ≡ true) ⊎ (b ≡ false)
true_or_false true = inl refl
true_or_false false = inr refl

module _ (w : World) (n i worker : ℕ) (node : Node) (c : Claim) (at : slice_get w.nodes n ≡ Some node) (on : (w.is_open && (node.in_phase && not node.is_closed)) ≡ true) (fits : Fits w n i node c) where
  abbrev v : World
  v = place_world w n i worker node c

  is_open : w.is_open ≡ true
  is_open = (both_true w.is_open (node.in_phase && not node.is_closed) on).0

  marks : HasMarksOf node (record node { progress = c.progress })
  marks = record { in_phase = refl; is_closed = refl; over = fits.over }

  abbrev place_follows : Follows w v
  place_follows =
      record {
        shape = shown_set w.nodes n node (record node { progress = c.progress }) at refl;
        options = refl;
        open_before = is_open;
        open_after = is_open;
        onward = set_onward w.nodes n node (record node { progress = c.progress }) at marks;
        back = set_back w.nodes n node (record node { progress = c.progress }) at marks;
        pipe = λ p. cond (bounded_out w n p) (with_place p) p;
        pipes = refl;
        like = λ x. like x (bounded_out w n x);
      }
    where
      like : (x : Pipe) (b : Bool) → IsLike x (cond b (with_place x) x)
      like x true = record { wire = refl; in_phase = refl; is_closed = refl; is_unread = refl; dropped = λ d. d }
      like x false = record { wire = refl; in_phase = refl; is_closed = refl; is_unread = refl; dropped = λ d. d }

  record OutParts (x : Pipe) : Type 0 where
    sender : x.wire.sender ≡ n
    in_phase : x.in_phase ≡ true
    stays : x.is_dropped ≡ false

  out_parts : (x : Pipe) → bounded_out w n x ≡ true → OutParts x
  out_parts x e =
      let a = both_true (nat_eq x.wire.sender n) (x.in_phase && (is_bounded w x && not x.is_dropped)) e in
      let b = both_true x.in_phase (is_bounded w x && not x.is_dropped) a.1 in
      let d = both_true (is_bounded w x) (not x.is_dropped) b.1 in
      record { sender = same_number x.wire.sender n a.0; in_phase = b.0; stays = not_true x.is_dropped d.1 }

  -- what an answer of the node goes into is what its claims take a place in
  filled_out : (x : Pipe) → is_filled_by w n x → bounded_out w n x ≡ true
  filled_out x (d, s, e) =
      let a = both_true (counts_for_sender w x) (not x.is_dropped) e in
      let single : multiplexes (slice_get w.nodes x.wire.sender) ≡ false = ap (λ m. multiplexes (slice_get w.nodes m)) s ∙ fits.single in
      let on : x.in_phase ≡ true = by x.in_phase (is_done x.wire.receive_state) (sym (ap (λ b. x.in_phase || (b && not (is_done x.wire.receive_state))) single) ∙ a.0) in
      and_true (nat_eq x.wire.sender n) (x.in_phase && (is_bounded w x && not x.is_dropped)) (its_number x.wire.sender n s)
      (and_true x.in_phase (is_bounded w x && not x.is_dropped) on (and_true (is_bounded w x) (not x.is_dropped) (ap not single) a.1))
    where
      by : (a b : Bool) → (a || (false && b)) ≡ true → a ≡ true
      by true b e = refl
      by false b e = e

  out_filled : (x : Pipe) → Contains w.pipes x → OutParts x → is_filled_by w n x
  out_filled x d o = (d, o.sender, and_true (counts_for_sender w x) (not x.is_dropped) (ap (λ b. b || (multiplexes (slice_get w.nodes x.wire.sender) && not (is_done x.wire.receive_state))) o.in_phase) (ap not o.stays))

  gives_on : (x : Pipe) → Contains w.pipes x → bounded_out w n x ≡ true → IsFalse (keeps_one c.task)
  gives_on x d e = by (true_or_false (keeps_one c.task))
    where
      by : (keeps_one c.task ≡ true) ⊎ (keeps_one c.task ≡ false) → IsFalse (keeps_one c.task)
      by (inl t) = absurd (let none = fits.no_output t x d in let no : true ≡ false = sym e ∙ none in cc)
      by (inr g) = g

  same_bound : (x : Pipe) → is_bounded v x ≡ is_bounded w x
  same_bound x = ap not (multiplexes_same w v place_follows x.wire.sender)

  node_works : IsWorking w n
  node_works = (node, at, on)

  module _ {k : ℕ} (F : Functions) (f : FactsDownTo F k w) (free : IsFree w worker) where
    later : (m j : ℕ) → IsAwaited w m j → IsAwaited v m j
    later m j a = (a.0, contains_later (piece_of n i worker c) a.0 w.outs a.1, a.2, a.3, a.4)

    owed : (x : Pipe) → Contains w.pipes x → OwesPipe w v place_follows (cond (bounded_out w n x) (with_place x) x)
    owed x d = by (bounded_out w n x) refl
      where
        facts : PipeFacts w x
        facts = f.pipes x d

        came_later : (k : ℕ) → k < x.next → (rs : List Row) × (slice_get (x.got ++ None ∷ []) k ≡ Some (Some rs))
        came_later k h = let r = facts.came k h in (r.0, at_before x.got (None ∷ []) k (Some r.0) r.1)

        awaited_later : (k : ℕ) → IsTrue x.is_dropped ⊎ IsTrue x.in_phase × IsAwaited w x.wire.sender k → IsTrue x.is_dropped ⊎ IsTrue x.in_phase × IsAwaited v x.wire.sender k
        awaited_later k (inl gone) = inl gone
        awaited_later k (inr (here, a)) = inr (here, later x.wire.sender k a)

        of_place : OutParts x → IsFalse (keeps_one c.task) → length x.got ≡ c.gives → w.ending ≡ running → (k : ℕ) → (slice_get x.got k ≡ Some None) ⊎ (k ≡ length x.got) → IsTrue x.is_dropped ⊎ IsTrue x.in_phase × IsAwaited v x.wire.sender k
        of_place o g number runs k (inl before) = awaited_later k (facts.expected runs k before)
        of_place o g number runs k (inr new) = inr (o.in_phase, (piece_of n i worker c, contains_first (piece_of n i worker c) w.outs, sym o.sender, sym number ∙ sym new, g))

        still_open : OutParts x → x.is_closed ≡ false
        still_open o = by_closed (true_or_false x.is_closed)
          where
            by_closed : (x.is_closed ≡ true) ⊎ (x.is_closed ≡ false) → x.is_closed ≡ false
            by_closed (inl shut) = absurd (facts.closed_by_sender shut (subst (IsWorking w) (sym o.sender) node_works))
            by_closed (inr h) = h

        by : (b : Bool) → bounded_out w n x ≡ b → OwesPipe w v place_follows (cond b (with_place x) x)
        by true e =
            let o = out_parts x e in
            let g = gives_on x d e in
            let number = fits.numbered g x (out_filled x d o) in
            let grown = length-append_one x.got None in
            record {
              taken = let t = facts.taken in omega arith;
              came = came_later;
              expected = λ runs k e. of_place o g number runs k (at_cases x.got None k None e);
              read_to_end = λ here left. working w v place_follows x.wire.receiver (facts.read_to_end here (or_from x.is_dropped (x.is_closed && is_drained x) o.stays (and_left x.is_closed (is_drained x) (still_open o))));
              drained = λ off bound. absurd (let no : false ≡ true = sym off ∙ o.in_phase in cc);
              why_dropped = λ gone. absurd (let no : false ≡ true = sym o.stays ∙ gone in cc);
            }
        by false e =
            record {
              taken = facts.taken;
              came = facts.came;
              expected = λ runs k e. awaited_later k (facts.expected runs k e);
              read_to_end = λ here left. working w v place_follows x.wire.receiver (facts.read_to_end here left);
              drained = λ off bound. facts.drained off (sym (same_bound x) ∙ bound);
              why_dropped = λ gone. still_no_use w v place_follows x.wire.receiver (facts.why_dropped gone);
            }

    slots_later : (m j k : ℕ) → slice_get (slots_of (slice_get w.nodes m) j) k ≡ Some None → slice_get (slots_of (slice_get v.nodes m) j) k ≡ Some None
    slots_later m j k e = by (cases_eq m n)
      where
        by : (m ≡ n) ⊎ (m ≢ n) → slice_get (slots_of (slice_get v.nodes m) j) k ≡ Some None
        by (inl same) =
            let before : slice_get (get_or node.progress.taken j []) k ≡ Some None = sym (ap (λ o. slice_get (slots_of o j) k) (ap (slice_get w.nodes) same ∙ at)) ∙ e in
            ap (λ o. slice_get (slots_of o j) k) (ap (slice_get v.nodes) same ∙ set_here w.nodes n node (record node { progress = c.progress }) at) ∙ fits.slots j k before
        by (inr other) = ap (λ o. slice_get (slots_of o j) k) (set_other w.nodes n m (record node { progress = c.progress }) other) ∙ e

    got_later : (x : Pipe) (j : ℕ) (b : Bool) → slice_get x.got j ≡ Some None → slice_get (cond b (with_place x) x).got j ≡ Some None
    got_later x j true e = at_before x.got (None ∷ []) j None e
    got_later x j false e = e

    new_expected : IsExpected v (piece_of n i worker c)
    new_expected = (
      λ keeps. ap (λ o. slice_get (slots_of o i) c.number) (set_here w.nodes n node (record node { progress = c.progress }) at) ∙ fits.slot keeps,
      λ g p fills. let x = was_filled w v place_follows n p fills in subst (λ (z : Pipe). slice_get z.got c.gives ≡ Some None) x.2 (filled x.0 g x.1),
    )
      where
        filled : (x : Pipe) → IsFalse (keeps_one c.task) → is_filled_by w n x → slice_get (cond (bounded_out w n x) (with_place x) x).got c.gives ≡ Some None
        filled x g fills = ap (λ b. slice_get (cond b (with_place x) x).got c.gives) (filled_out x fills) ∙ ap (slice_get (x.got ++ None ∷ [])) (sym (fits.numbered g x fills)) ∙ at_end x.got None

    -- a piece of before fills another number
    other_number : (r : Piece) (p : Pipe) → Contains w.outs r → IsFalse (keeps_one c.task) → IsFalse (keeps_one r.task) → r.node ≡ n → r.gives ≡ c.gives → is_filled_by v n p → ⊥
    other_number r p there g b same number fills =
        let x = was_filled w v place_follows n p fills in
        let old = (f.expected r there).1 b x.0 (subst (λ m. is_filled_by w m x.0) (sym same) x.1) in
        let within = slice_get_within x.0.got r.gives None old in
        let new = fits.numbered g x.0 x.1 in
        absurd (omega arith)

    other_slot : (r : Piece) → Contains w.outs r → IsTrue (keeps_one c.task) → IsTrue (keeps_one r.task) → r.node ≡ n → r.input ≡ i → r.number ≡ c.number → ⊥
    other_slot r there g b same input number =
        let old = (f.expected r there).0 b in
        let here : slice_get (get_or node.progress.taken r.input []) r.number ≡ Some None = sym (ap (λ o. slice_get (slots_of o r.input) r.number) (ap (slice_get w.nodes) same ∙ at)) ∙ old in
        let none : slice_get (get_or node.progress.taken r.input []) r.number ≡ None = (λ i. slice_get (get_or node.progress.taken (input i) []) (number i)) ∙ fits.new_slot g in
        let no : None ≡ Some None = sym none ∙ here in cc

    each_free : (qs : List Piece) → AllByRecursion (λ (p : Piece). p.worker ≢ worker) qs → (j : ℕ) (q : Piece) → slice_get qs j ≡ Some q → q.worker ≢ worker
    each_free [] all j q e = absurd (let no : None ≡ Some q = e in cc)
    each_free (p ∷ ps) all zero q e = let s : Some p ≡ Some q = e in let is : p ≡ q = cc in subst (λ (z : Piece). z.worker ≢ worker) is all.0
    each_free (p ∷ ps) all (suc j) q e = each_free ps all.1 j q e

    own : (j k : ℕ) (q r : Piece) → slice_get v.outs j ≡ Some q → slice_get v.outs k ≡ Some r → q.worker ≡ r.worker → j ≡ k
    own zero zero q r a b e = refl
    own zero (suc k) q r a b e = absurd (let s : Some (piece_of n i worker c) ≡ Some q = a in let is : piece_of n i worker c ≡ q = cc in each_free w.outs free.1 k r b (sym e ∙ ap (λ (z : Piece). z.worker) (sym is)))
    own (suc j) zero q r a b e = absurd (let s : Some (piece_of n i worker c) ≡ Some r = b in let is : piece_of n i worker c ≡ r = cc in each_free w.outs free.1 j q a (e ∙ ap (λ (z : Piece). z.worker) (sym is)))
    own (suc j) (suc k) q r a b e = ap suc (f.own_workers j k q r a b e)

    split : (q : Piece) → Contains v.outs q → (piece_of n i worker c ≡ q) ⊎ Contains w.outs q
    split q there = contains_cases (piece_of n i worker c) q w.outs there

    pieces : OwesPieces w v place_follows
    pieces =
        record {
          workers = λ q there. worker_of q (split q there);
          own_workers = own;
          at_work = λ q there. work_of q (split q there);
          expected = λ q there. expected_of q (split q there);
          own_numbers = λ q r p a b. numbers_of q r p (split q a) (split r b);
          own_slots = λ q r a b. slots_of_two q r (split q a) (split r b);
        }
      where
        worker_of : (q : Piece) → (piece_of n i worker c ≡ q) ⊎ Contains w.outs q → q.worker < w.options.workers
        worker_of q (inl is) = subst (λ (z : Piece). z.worker < w.options.workers) is free.0
        worker_of q (inr there) = f.workers q there

        work_of : (q : Piece) → (piece_of n i worker c ≡ q) ⊎ Contains w.outs q → IsWorking v q.node
        work_of q (inl is) = subst (λ (z : Piece). IsWorking v z.node) is (working w v place_follows n node_works)
        work_of q (inr there) = working w v place_follows q.node (f.at_work q there)

        expected_of : (q : Piece) → (piece_of n i worker c ≡ q) ⊎ Contains w.outs q → IsExpected v q
        expected_of q (inl is) = subst (IsExpected v) is new_expected
        expected_of q (inr there) = still_expected w v place_follows F f slots_later (λ x j e. got_later x j (bounded_out w n x) e) q there

        numbers_of : (q r : Piece) (p : Pipe) → (piece_of n i worker c ≡ q) ⊎ Contains w.outs q → (piece_of n i worker c ≡ r) ⊎ Contains w.outs r → IsFalse (keeps_one q.task) → IsFalse (keeps_one r.task) → q.node ≡ r.node → q.gives ≡ r.gives → is_filled_by v q.node p → q.worker ≡ r.worker
        numbers_of q r p (inl a) (inl b) g h same number fills = ap (λ (z : Piece). z.worker) (sym a ∙ b)
        numbers_of q r p (inl a) (inr b) g h same number fills =
            absurd (other_number r p b (ap (λ (z : Piece). keeps_one z.task) a ∙ g) h (sym same ∙ ap (λ (z : Piece). z.node) (sym a)) (sym number ∙ ap (λ (z : Piece). z.gives) (sym a)) (subst (λ m. is_filled_by v m p) (ap (λ (z : Piece). z.node) (sym a)) fills))
        numbers_of q r p (inr a) (inl b) g h same number fills =
            absurd (other_number q p a (ap (λ (z : Piece). keeps_one z.task) b ∙ h) g (same ∙ ap (λ (z : Piece). z.node) (sym b)) (number ∙ ap (λ (z : Piece). z.gives) (sym b)) (subst (λ m. is_filled_by v m p) (same ∙ ap (λ (z : Piece). z.node) (sym b)) fills))
        numbers_of q r p (inr a) (inr b) g h same number fills = let x = was_filled w v place_follows q.node p fills in f.own_numbers q r x.0 a b g h same number x.1

        slots_of_two : (q r : Piece) → (piece_of n i worker c ≡ q) ⊎ Contains w.outs q → (piece_of n i worker c ≡ r) ⊎ Contains w.outs r → IsTrue (keeps_one q.task) → IsTrue (keeps_one r.task) → q.node ≡ r.node → q.input ≡ r.input → q.number ≡ r.number → q.worker ≡ r.worker
        slots_of_two q r (inl a) (inl b) g h same input number = ap (λ (z : Piece). z.worker) (sym a ∙ b)
        slots_of_two q r (inl a) (inr b) g h same input number =
            absurd (other_slot r b (ap (λ (z : Piece). keeps_one z.task) a ∙ g) h (sym same ∙ ap (λ (z : Piece). z.node) (sym a)) (sym input ∙ ap (λ (z : Piece). z.input) (sym a)) (sym number ∙ ap (λ (z : Piece). z.number) (sym a)))
        slots_of_two q r (inr a) (inl b) g h same input number =
            absurd (other_slot q a (ap (λ (z : Piece). keeps_one z.task) b ∙ h) g (same ∙ ap (λ (z : Piece). z.node) (sym b)) (input ∙ ap (λ (z : Piece). z.input) (sym b)) (number ∙ ap (λ (z : Piece). z.number) (sym b)))
        slots_of_two q r (inr a) (inr b) g h same input number = f.own_slots q r a b g h same input number

    same_dropped : (x : Pipe) (b : Bool) → (cond b (with_place x) x).is_dropped ≡ x.is_dropped
    same_dropped x true = refl
    same_dropped x false = refl

    pub place_keeps : FactsDownTo F k v
    place_keeps = follow w v place_follows F f owed pieces (cut_stays w v place_follows F f (λ x. same_dropped x (bounded_out w n x)))
