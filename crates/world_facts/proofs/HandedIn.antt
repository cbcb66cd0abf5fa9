-- An answer that is handed in keeps the facts.
use Rattle.std.proofs.Common.{◌≡◌, ◌≢◌, ℕ, zero, suc, ◌<◌, ◌-◌, ◌⊎◌, Bool, true, false, cond, List, [], ◌∷◌, length, Option, Some, None, refl, sym, ap, subst, ◌∙◌, inl, inr, arith, map-id}
use Rattle.std.specs.Prelude.{Contains, IsFalse, IsTrue, get_or, nat_eq, not, slice_get, slice_set, ◌&&◌, ◌||◌}
use Rattle.std.specs.List.{filter as kept}
use Rattle.std.proofs.lemmas.Bool.{cases_eq}
use Rattle.std.proofs.lemmas.Option.{get_or_from_slice_get, slice_get-get_or, slice_get_within}
use Rattle.ps_frame.specs.Causes.{Cause}
use Rattle.ps_frame.specs.Functions.{Functions}
use Rattle.ps_frame.specs.Tables.{Row, Table}
use Rattle.ps_turns.specs.Claims.{filled_slot}
use Rattle.ps_turns.specs.Results.{IsResult, IsResultOf}
use Rattle.ps_turns.specs.Tasks.{Answer, Piece, Task, bad, computes, gives_last, gives_part, good, hands_on, keeps, partial, probes}
use Rattle.ps_world.specs.Answers.{answered, with_partial, without_piece}
use Rattle.ps_world.specs.Facts.{Facts, IsAwaited, IsExpected, PipeFacts, is_filled_by, keeps_one, slots_of}
use Rattle.ps_world.specs.Pipes.{put_progress, with_answer}
use Rattle.ps_world.specs.Step.{Steps}
use Rattle.ps_world.specs.World.{Node, Pipe, World, counts_for_sender, faulty, handed_in, is_bounded, is_drained, multiplexes, running}
use Rattle.world_facts.proofs.CutOff.{and_true, both_true, its_number, same_number}
use Rattle.world_facts.proofs.Follows.{Follows, HasMarksOf, IsLike, OwesPieces, OwesPipe, follow, multiplexes_same, still_no_use, working}
use Rattle.world_facts.proofs.FromFacts.{pieces_open}
use Rattle.world_laws.proofs.InOrder.{contains_kept}
use Rattle.world_laws.proofs.Shapes.{shown_set}
use Rattle.world_facts.proofs.Slots.{set_here, set_other}
use Rattle.world_facts.proofs.Stays.{cut_stays, same_marks, set_back, set_onward, was_filled}

-- lists that are kept in part
pub from_kept : {A : Type 0} (t : A → Bool) (xs : List A) (j : ℕ) (x : A) → slice_get (kept t xs) j ≡ Some x → ((k : ℕ) × (slice_get xs k ≡ Some x)) × (t x ≡ true)
from_kept t [] j x e = absurd (let no : None ≡ Some x = e in cc)
from_kept {A = A} t (y ∷ ys) j x e = by (from_kept t ys) (t y) refl j e
  where
    by : ((j : ℕ) (x : A) → slice_get (kept t ys) j ≡ Some x → ((k : ℕ) × (slice_get ys k ≡ Some x)) × (t x ≡ true)) → (b : Bool) → t y ≡ b → (j : ℕ) → slice_get (kept t (y ∷ ys)) j ≡ Some x → ((k : ℕ) × (slice_get (y ∷ ys) k ≡ Some x)) × (t x ≡ true)
    by rest false q j e = let r = rest j x (sym (ap (λ b. slice_get (cond b (y ∷ kept t ys) (kept t ys)) j) q) ∙ e) in ((suc r.0.0, r.0.1), r.1)
    by rest true q zero e = let s : Some y ≡ Some x = sym (ap (λ b. slice_get (cond b (y ∷ kept t ys) (kept t ys)) 0) q) ∙ e in let is : y ≡ x = cc in ((0, s), ap t (sym is) ∙ q)
    by rest true q (suc j) e = let r = rest j x (sym (ap (λ b. slice_get (cond b (y ∷ kept t ys) (kept t ys)) (suc j)) q) ∙ e) in ((suc r.0.0, r.0.1), r.1)

own_kept : (t : Piece → Bool) (xs : List Piece) → ((i j : ℕ) (q r : Piece) → slice_get xs i ≡ Some q → slice_get xs j ≡ Some r → q.worker ≡ r.worker → i ≡ j)
    → (i j : ℕ) (q r : Piece) → slice_get (kept t xs) i ≡ Some q → slice_get (kept t xs) j ≡ Some r → q.worker ≡ r.worker → i ≡ j
own_kept t [] own i j q r a b e = absurd (let no : None ≡ Some q = a in cc)
own_kept t (x ∷ xs) own i j q r a b e = by (own_kept t xs (λ i j q r a b e. let s = own (suc i) (suc j) q r a b e in let is : i ≡ j = omega arith in is)) (t x) refl i j a b
  where
    by : ((i j : ℕ) (q r : Piece) → slice_get (kept t xs) i ≡ Some q → slice_get (kept t xs) j ≡ Some r → q.worker ≡ r.worker → i ≡ j) → (b : Bool) → t x ≡ b → (i j : ℕ) → slice_get (kept t (x ∷ xs)) i ≡ Some q → slice_get (kept t (x ∷ xs)) j ≡ Some r → i ≡ j
    by rest false d i j a b = rest i j q r (sym (ap (λ b. slice_get (cond b (x ∷ kept t xs) (kept t xs)) i) d) ∙ a) (sym (ap (λ b. slice_get (cond b (x ∷ kept t xs) (kept t xs)) j) d) ∙ b) e
    by rest true d zero zero a b = refl
    by rest true d zero (suc j) a b =
        let f = from_kept t xs j r (sym (ap (λ b. slice_get (cond b (x ∷ kept t xs) (kept t xs)) (suc j)) d) ∙ b) in
        absurd (let s = own 0 (suc f.0.0) q r (sym (ap (λ b. slice_get (cond b (x ∷ kept t xs) (kept t xs)) 0) d) ∙ a) f.0.1 e in let no : 0 ≡ suc f.0.0 = s in cc)
    by rest true d (suc i) zero a b =
        let f = from_kept t xs i q (sym (ap (λ b. slice_get (cond b (x ∷ kept t xs) (kept t xs)) (suc i)) d) ∙ a) in
        absurd (let s = own (suc f.0.0) 0 q r f.0.1 (sym (ap (λ b. slice_get (cond b (x ∷ kept t xs) (kept t xs)) 0) d) ∙ b) e in let no : suc f.0.0 ≡ 0 = s in cc)
    by rest true d (suc i) (suc j) a b = ap suc (rest i j q r (sym (ap (λ b. slice_get (cond b (x ∷ kept t xs) (kept t xs)) (suc i)) d) ∙ a) (sym (ap (λ b. slice_get (cond b (x ∷ kept t xs) (kept t xs)) (suc j)) d) ∙ b) e)

pub at_of : {A : Type 0} (xs : List A) (x : A) → Contains xs x → (k : ℕ) × (slice_get xs k ≡ Some x)
at_of xs x (k, h, e) = (k, slice_get-get_or xs k x h ∙ ap Some e)

pub contains_of : {A : Type 0} (xs : List A) (k : ℕ) (x : A) → slice_get xs k ≡ Some x → Contains xs x
contains_of xs k x e = (k, slice_get_within xs k x e, get_or_from_slice_get xs k x x e)

other_worker : ℕ → Piece → Bool
other_worker n p = not (nat_eq p.worker n)

rest_of : (q r : Piece) (outs : List Piece) → Contains (without_piece q outs) r → Contains outs r × (r.worker ≢ q.worker)
rest_of q r outs c =
    let a = at_of (without_piece q outs) r c in
    let b = from_kept (λ (p : Piece). not (nat_eq p.worker q.worker)) outs a.0 r a.1 in
    (contains_of outs b.0.0 r b.0.1, λ same. let no : false ≡ true = sym (ap not (its_number r.worker q.worker same)) ∙ b.1 in cc)

in_rest : (q r : Piece) (outs : List Piece) → Contains outs r → r.worker ≢ q.worker → Contains (without_piece q outs) r
in_rest q r outs c other = contains_kept (λ (p : Piece). not (nat_eq p.worker q.worker)) r outs c (by (nat_eq r.worker q.worker) refl)
  where
    by : (b : Bool) → nat_eq r.worker q.worker ≡ b → not (nat_eq r.worker q.worker) ≡ true
    by true e = absurd (other (same_number r.worker q.worker e))
    by false e = ap not e

pub length_set : {A : Type 0} (xs : List A) (k : ℕ) (x : A) → length (slice_set xs k x) ≡ length xs
length_set [] k x = refl
length_set (y ∷ ys) zero x = refl
length_set (y ∷ ys) (suc k) x = ap suc (length_set ys k x)

-- two pieces of one worker are one
module _ (F : Functions) (w : World) (f : Facts F w) (q : Piece) (there : Contains w.outs q) where
  one_piece : (r : Piece) → Contains w.outs r → r.worker ≡ q.worker → r ≡ q
  one_piece r c same =
      let a = at_of w.outs r c in let b = at_of w.outs q there in
      let e = f.own_workers a.0 b.0 r q a.1 b.1 same in
      let s : Some r ≡ Some q = sym a.1 ∙ ap (slice_get w.outs) e ∙ b.1 in cc

  is_open : w.is_open ≡ true
  is_open = pieces_open F w f q there

  -- what a world owes of its pieces where this one was taken away
  of_rest : (v : World) (h : Follows w v) → v.outs ≡ without_piece q w.outs → ((r : Piece) → Contains w.outs r → r.worker ≢ q.worker → IsExpected v r) → OwesPieces w v h
  of_rest v h outs expected =
      record {
        workers = λ r c. subst (λ (o : Rattle.ps_options.specs.declared.options.Options.Options). r.worker < o.workers) (sym h.options) (f.workers r (was r c).0);
        own_workers = λ i j r s a b. own_kept (λ (p : Piece). not (nat_eq p.worker q.worker)) w.outs f.own_workers i j r s (ap (λ xs. slice_get xs i) (sym outs) ∙ a) (ap (λ xs. slice_get xs j) (sym outs) ∙ b);
        at_work = λ r c. working w v h r.node (f.at_work r (was r c).0);
        expected = λ r c. let d = was r c in expected r d.0 d.1;
        own_numbers = λ r s p c d a b n g fills. let x = was_filled w v h r.node p fills in f.own_numbers r s x.0 (was r c).0 (was s d).0 a b n g x.1;
        own_slots = λ r s c d. f.own_slots r s (was r c).0 (was s d).0;
      }
    where
      was : (r : Piece) → Contains v.outs r → Contains w.outs r × (r.worker ≢ q.worker)
      was r c = rest_of q r w.outs (subst (λ xs. Contains xs r) outs c)

  -- rows go into what leaves the node
  module _ (rs : List Row) (gives : IsFalse (keeps_one q.task)) where
    abbrev v : World
    v = answered w q (good rs)

    abbrev fills : Pipe → Bool
    fills p = nat_eq p.wire.sender q.node && counts_for_sender w p

    abbrev good_follows : Follows w v
    good_follows =
        record {
          shape = refl;
          options = refl;
          open_before = is_open;
          open_after = is_open;
          onward = λ m x at. (x, at, same_marks x);
          back = λ m x at. (x, at, same_marks x);
          pipe = λ p. cond (fills p) (with_answer q.gives rs p) p;
          pipes = refl;
          like = λ x. like x (fills x) x.is_dropped;
        }
      where
        like : (x : Pipe) (b d : Bool) → IsLike x (cond b (cond d x (record x { got = slice_set x.got q.gives (Some rs) })) x)
        like x true true = record { wire = refl; in_phase = refl; is_closed = refl; is_unread = refl; dropped = λ d. d }
        like x true false = record { wire = refl; in_phase = refl; is_closed = refl; is_unread = refl; dropped = λ d. d }
        like x false d = record { wire = refl; in_phase = refl; is_closed = refl; is_unread = refl; dropped = λ d. d }

    filled_by : (x : Pipe) → Contains w.pipes x → fills x ≡ true → x.is_dropped ≡ false → is_filled_by w q.node x
    filled_by x c e d = let a = both_true (nat_eq x.wire.sender q.node) (counts_for_sender w x) e in (c, same_number x.wire.sender q.node a.0, and_true (counts_for_sender w x) (not x.is_dropped) a.1 (ap not d))

    -- a hole that another piece fills is awaited still
    awaited : (m k : ℕ) (a : IsAwaited w m k) → (a.0.worker ≡ q.worker → ⊥) → IsAwaited v m k
    awaited m k a other = (a.0, in_rest q a.0 w.outs a.1 other, a.2, a.3, a.4)

    owed : (x : Pipe) → Contains w.pipes x → OwesPipe w v good_follows (cond (fills x) (cond x.is_dropped x (record x { got = slice_set x.got q.gives (Some rs) })) x)
    owed x c = by (fills x) x.is_dropped refl refl
      where
        facts : PipeFacts w x
        facts = f.pipes x c

        same_bound : is_bounded v x ≡ is_bounded w x
        same_bound = refl

        counts_in : x.in_phase ≡ true → counts_for_sender w x ≡ true
        counts_in on = ap (λ b. b || (multiplexes (slice_get w.nodes x.wire.sender) && not (Rattle.ps_ports.specs.Ports.is_done x.wire.receive_state))) on

        -- a pipe that isn't filled has no hole of this piece
        elsewhere : fills x ≡ false → (k : ℕ) → IsTrue x.is_dropped ⊎ IsTrue x.in_phase × IsAwaited w x.wire.sender k → IsTrue x.is_dropped ⊎ IsTrue x.in_phase × IsAwaited v x.wire.sender k
        elsewhere e k (inl gone) = inl gone
        elsewhere e k (inr (on, a)) = inr (on, awaited x.wire.sender k a (λ same. not_it (one_piece a.0 a.1 same)))
          where
            not_it : a.0 ≡ q → ⊥
            not_it is =
                let s : x.wire.sender ≡ q.node = sym a.2 ∙ ap (λ (z : Piece). z.node) is in
                let yes = and_true (nat_eq x.wire.sender q.node) (counts_for_sender w x) (its_number x.wire.sender q.node s) (counts_in on) in
                let no : true ≡ false = sym yes ∙ e in cc

        came_set : (k : ℕ) → k < x.next → slice_get x.got q.gives ≡ Some None → (k ≡ q.gives) ⊎ (k ≢ q.gives) → (t : List Row) × (slice_get (slice_set x.got q.gives (Some rs)) k ≡ Some (Some t))
        came_set k h hole (inl same) = (rs, ap (slice_get (slice_set x.got q.gives (Some rs))) same ∙ set_here x.got q.gives None (Some rs) hole)
        came_set k h hole (inr other) = let r = facts.came k h in (r.0, set_other x.got q.gives k (Some rs) other ∙ r.1)

        hole_of : (k : ℕ) → slice_get x.got q.gives ≡ Some None → slice_get (slice_set x.got q.gives (Some rs)) k ≡ Some None → (k ≡ q.gives) ⊎ (k ≢ q.gives) → (slice_get x.got k ≡ Some None) × (k ≢ q.gives)
        hole_of k hole e (inl same) =
            absurd (let no : Some None ≡ Some (Some rs) = sym e ∙ ap (slice_get (slice_set x.got q.gives (Some rs))) same ∙ set_here x.got q.gives None (Some rs) hole in cc)
        hole_of k hole e (inr other) = (sym (set_other x.got q.gives k (Some rs) other) ∙ e, other)

        others : (k : ℕ) → k ≢ q.gives → IsTrue x.is_dropped ⊎ IsTrue x.in_phase × IsAwaited w x.wire.sender k → IsTrue x.is_dropped ⊎ IsTrue x.in_phase × IsAwaited v x.wire.sender k
        others k other (inl gone) = inl gone
        others k other (inr (on, a)) = inr (on, awaited x.wire.sender k a (λ same. other (sym a.3 ∙ ap (λ (z : Piece). z.gives) (one_piece a.0 a.1 same))))

        by : (b d : Bool) → fills x ≡ b → x.is_dropped ≡ d → OwesPipe w v good_follows (cond b (cond d x (record x { got = slice_set x.got q.gives (Some rs) })) x)
        by true true e d =
            record {
              taken = facts.taken;
              came = facts.came;
              expected = λ runs k hole. inl d;
              read_to_end = λ here left. working w v good_follows x.wire.receiver (facts.read_to_end here left);
              drained = facts.drained;
              why_dropped = λ gone. still_no_use w v good_follows x.wire.receiver (facts.why_dropped gone);
            }
        by true false e d =
            let hole = (f.expected q there).1 gives x (filled_by x c e d) in
            let same = length_set x.got q.gives (Some rs) in
            let same_drained : (x.is_dropped || nat_eq (length (slice_set x.got q.gives (Some rs)) - x.next) 0) ≡ is_drained x = ap (λ n. x.is_dropped || nat_eq (n - x.next) 0) same in
            record {
              taken = let t = facts.taken in omega arith;
              came = λ k h. came_set k h hole (cases_eq k q.gives);
              expected = λ runs k e. let r = hole_of k hole e (cases_eq k q.gives) in others k r.1 (facts.expected runs k r.0);
              read_to_end = λ here left. working w v good_follows x.wire.receiver (facts.read_to_end here (sym (ap (λ b. x.is_dropped || (x.is_closed && b)) same_drained) ∙ left));
              drained = λ off bound. same_drained ∙ facts.drained off bound;
              why_dropped = λ gone. still_no_use w v good_follows x.wire.receiver (facts.why_dropped gone);
            }
        by false d e g =
            record {
              taken = facts.taken;
              came = facts.came;
              expected = λ runs k hole. elsewhere e k (facts.expected runs k hole);
              read_to_end = λ here left. working w v good_follows x.wire.receiver (facts.read_to_end here left);
              drained = facts.drained;
              why_dropped = λ gone. still_no_use w v good_follows x.wire.receiver (facts.why_dropped gone);
            }

    good_expected : (r : Piece) → Contains w.outs r → r.worker ≢ q.worker → IsExpected v r
    good_expected r c other = (
      (f.expected r c).0,
      λ g p into. let x = was_filled w v good_follows r.node p into in subst (λ (z : Pipe). slice_get z.got r.gives ≡ Some None) x.2 (by x.0 g x.1 ((f.expected r c).1 g x.0 x.1) (fills x.0) x.0.is_dropped refl refl),
    )
      where
        by : (x : Pipe) → IsFalse (keeps_one r.task) → is_filled_by w r.node x → slice_get x.got r.gives ≡ Some None → (b d : Bool) → fills x ≡ b → x.is_dropped ≡ d
            → slice_get (cond b (cond d x (record x { got = slice_set x.got q.gives (Some rs) })) x).got r.gives ≡ Some None
        by x g into hole true true e d = hole
        by x g into hole false d e h = hole
        by x g into hole true false e d = by_number (cases_eq r.gives q.gives)
          where
            by_number : (r.gives ≡ q.gives) ⊎ (r.gives ≢ q.gives) → slice_get (slice_set x.got q.gives (Some rs)) r.gives ≡ Some None
            by_number (inr differ) = set_other x.got q.gives r.gives (Some rs) differ ∙ hole
            by_number (inl number) =
                let a = both_true (nat_eq x.wire.sender q.node) (counts_for_sender w x) e in
                let node : r.node ≡ q.node = sym into.1 ∙ same_number x.wire.sender q.node a.0 in
                absurd (other (f.own_numbers r q x c there g gives node number into))

    same_dropped : (x : Pipe) (b d : Bool) → (cond b (cond d x (record x { got = slice_set x.got q.gives (Some rs) })) x).is_dropped ≡ x.is_dropped
    same_dropped x true true = refl
    same_dropped x true false = refl
    same_dropped x false d = refl

    pub good_keeps : Facts F v
    good_keeps =
        follow w v good_follows F f owed (of_rest v good_follows refl good_expected)
        (cut_stays w v good_follows F f (λ x. same_dropped x (fills x) x.is_dropped))

filled_other : (taken : List (List (Option (List Row)))) (i k : ℕ) (rs : List Row) (j m : ℕ) → (j ≡ i → m ≢ k) → slice_get (get_or taken j []) m ≡ Some None → slice_get (get_or (filled_slot i k rs taken) j []) m ≡ Some None
filled_other [] i k rs j m other e = e
filled_other (t ∷ ts) zero k rs zero m other e = set_other t k m (Some rs) (other refl) ∙ e
filled_other (t ∷ ts) zero k rs (suc j) m other e = e
filled_other (t ∷ ts) (suc i) k rs zero m other e = e
filled_other (t ∷ ts) (suc i) k rs (suc j) m other e = filled_other ts i k rs j m (λ s. other (ap suc s)) e

-- a partial, and a fault
module _ (F : Functions) (w : World) (f : Facts F w) (q : Piece) (there : Contains w.outs q) where
  module _ (v : World) (h : Follows w v) (same : (x : Pipe) → h.pipe x ≡ x) (outs : v.outs ≡ without_piece q w.outs) (ending : v.ending ≡ running → IsTrue (keeps_one q.task) × (w.ending ≡ running)) where
    not_kept : (a : Piece) → IsFalse (keeps_one a.task) → IsTrue (keeps_one q.task) → Contains w.outs a → a.worker ≢ q.worker
    not_kept a g k c s = let is = one_piece F w f q there a c s in let no : false ≡ true = sym g ∙ ap (λ (z : Piece). keeps_one z.task) is ∙ k in cc

    owed_same : (x : Pipe) → Contains w.pipes x → OwesPipe w v h (h.pipe x)
    owed_same x c =
        subst (OwesPipe w v h) (sym (same x))
        (record {
          taken = facts.taken;
          came = facts.came;
          expected = λ runs k hole. of (ending runs).0 k (facts.expected (ending runs).1 k hole);
          read_to_end = λ here left. working w v h x.wire.receiver (facts.read_to_end here left);
          drained = λ off bound. facts.drained off (sym (ap not (multiplexes_same w v h x.wire.sender)) ∙ bound);
          why_dropped = λ gone. still_no_use w v h x.wire.receiver (facts.why_dropped gone);
        })
      where
        facts : PipeFacts w x
        facts = f.pipes x c

        of : IsTrue (keeps_one q.task) → (k : ℕ) → IsTrue x.is_dropped ⊎ IsTrue x.in_phase × IsAwaited w x.wire.sender k → IsTrue x.is_dropped ⊎ IsTrue x.in_phase × IsAwaited v x.wire.sender k
        of k n (inl gone) = inl gone
        of k n (inr (on, a)) = inr (on, (a.0, subst (λ xs. Contains xs a.0) (sym outs) (in_rest q a.0 w.outs a.1 (not_kept a.0 a.4 k a.1)), a.2, a.3, a.4))

    pub same_keeps : ((r : Piece) → Contains w.outs r → r.worker ≢ q.worker → IsTrue (keeps_one r.task) → slice_get (slots_of (slice_get v.nodes r.node) r.input) r.number ≡ Some None) → Facts F v
    same_keeps slots =
        follow w v h F f owed_same
        (of_rest F w f q there v h outs (λ r c other. (λ k. slots r c other k, λ g p into. let x = was_filled w v h r.node p into in subst (λ (z : Pipe). slice_get z.got r.gives ≡ Some None) (sym (same x.0) ∙ x.2) ((f.expected r c).1 g x.0 x.1))))
        (cut_stays w v h F f (λ x. ap (λ (z : Pipe). z.is_dropped) (same x)))

  same_like : (x : Pipe) → IsLike x x
  same_like x = record { wire = refl; in_phase = refl; is_closed = refl; is_unread = refl; dropped = λ d. d }

  pub bad_keeps : (c : Cause) → Facts F (answered w q (bad c))
  bad_keeps c =
      same_keeps (answered w q (bad c))
      (record {
        shape = refl;
        options = refl;
        open_before = is_open F w f q there;
        open_after = is_open F w f q there;
        onward = λ m x at. (x, at, same_marks x);
        back = λ m x at. (x, at, same_marks x);
        pipe = λ p. p;
        pipes = sym (map-id w.pipes);
        like = same_like;
      })
      (λ x. refl) refl (λ runs. absurd (let no : faulty c ≡ running = runs in cc)) (λ r d other k. (f.expected r d).0 k)

  module _ (keeps : IsTrue (keeps_one q.task)) (runs : w.ending ≡ running) (n : ℕ) (node : Node) (at : slice_get w.nodes q.node ≡ Some node) where
    abbrev filled_node : Node
    filled_node = record node { progress = record node.progress { taken = filled_slot q.input q.number (get_or q.tables 0 []) node.progress.taken } }

    abbrev u : World
    u = record w { nodes = slice_set w.nodes q.node filled_node; outs = without_piece q w.outs; journal = (answered w q (partial n)).journal }

    is_u : answered w q (partial n) ≡ u
    is_u =
        (λ i. record (with_partial q (at i) w) { outs = without_piece q w.outs; journal = (answered w q (partial n)).journal })
        ∙ (λ i. record (put_progress (at i) q.node filled_node.progress w) { outs = without_piece q w.outs; journal = (answered w q (partial n)).journal })

    marks : HasMarksOf node filled_node
    marks = record { in_phase = refl; is_closed = refl; over = λ o. o }

    slots : (r : Piece) → Contains w.outs r → r.worker ≢ q.worker → IsTrue (keeps_one r.task) → slice_get (slots_of (slice_get u.nodes r.node) r.input) r.number ≡ Some None
    slots r c other k = by (cases_eq r.node q.node)
      where
        old : slice_get (slots_of (slice_get w.nodes r.node) r.input) r.number ≡ Some None
        old = (f.expected r c).0 k

        by : (r.node ≡ q.node) ⊎ (r.node ≢ q.node) → slice_get (slots_of (slice_get u.nodes r.node) r.input) r.number ≡ Some None
        by (inr differ) = ap (λ o. slice_get (slots_of o r.input) r.number) (set_other w.nodes q.node r.node filled_node differ) ∙ old
        by (inl same) =
            ap (λ o. slice_get (slots_of o r.input) r.number) (ap (slice_get u.nodes) same ∙ set_here w.nodes q.node node filled_node at)
            ∙ filled_other node.progress.taken q.input q.number (get_or q.tables 0 []) r.input r.number
            (λ input number. other (f.own_slots r q c there k keeps same input number))
            (sym (ap (λ o. slice_get (slots_of o r.input) r.number) (ap (slice_get w.nodes) same ∙ at)) ∙ old)

    pub partial_keeps : Facts F (answered w q (partial n))
    partial_keeps =
        subst (Facts F) (sym is_u)
        (same_keeps u
        (record {
          shape = shown_set w.nodes q.node node filled_node at refl;
          options = refl;
          open_before = is_open F w f q there;
          open_after = is_open F w f q there;
          onward = set_onward w.nodes q.node node filled_node at marks;
          back = set_back w.nodes q.node node filled_node at marks;
          pipe = λ p. p;
          pipes = sym (map-id w.pipes);
          like = same_like;
        })
        (λ x. refl) refl (λ r. (keeps, runs)) slots)

  gives_rows : (t : Task) (i : ℕ) (ts : List Table) (tables : List (List Row)) (rs : List Row) → IsResultOf F t i ts tables (good rs) → IsFalse (keeps_one t)
  gives_rows hands_on i ts tables rs r = refl
  gives_rows (computes p) i ts tables rs r = refl
  gives_rows (keeps p) i ts tables rs r = absurd r
  gives_rows (gives_part p keys) i ts tables rs r = refl
  gives_rows (probes p j) i ts tables rs r = refl
  gives_rows (gives_last p j) i ts tables rs r = refl

  gives_partial : (t : Task) (i : ℕ) (ts : List Table) (tables : List (List Row)) (n : ℕ) → IsResultOf F t i ts tables (partial n) → IsTrue (keeps_one t)
  gives_partial hands_on i ts tables n r = absurd r
  gives_partial (computes p) i ts tables n r = absurd r
  gives_partial (keeps p) i ts tables n r = refl
  gives_partial (gives_part p keys) i ts tables n r = absurd r
  gives_partial (probes p j) i ts tables n r = absurd r
  gives_partial (gives_last p j) i ts tables n r = absurd r

  answer_keeps : (runs : w.ending ≡ running) (a : Answer) → IsResult F q a → Facts F (answered w q a)
  answer_keeps runs (good rs) r = good_keeps F w f q there rs (gives_rows q.task q.input (Rattle.ps_turns.specs.Tables.whole_tables q.schemas q.tables) q.tables rs r)
  answer_keeps runs (partial n) r =
      let at = f.at_work q there in
      partial_keeps (gives_partial q.task q.input (Rattle.ps_turns.specs.Tables.whole_tables q.schemas q.tables) q.tables n r) runs n at.0 at.1
  answer_keeps runs (bad c) r = bad_keeps c

pub handed_in_keeps : (F : Functions) (w v : World) (n i number worker : ℕ) (handed : Rattle.ps_turns.specs.Tasks.Handed) → Facts F w → Steps F w (handed_in n i number worker handed) v → Facts F v
handed_in_keeps F w v n i number worker handed f s = subst (Facts F) (sym s.7.3) (answer_keeps F w f s.0 s.1 s.6 s.7.0 s.7.1)
