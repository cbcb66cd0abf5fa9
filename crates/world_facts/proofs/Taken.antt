-- What a node takes of an input keeps the facts.
use Rattle.std.proofs.Common.{◌≡◌, ℕ, ◌<◌, ◌+◌, ◌-◌, ◌≤◌, ◌⊎◌, Bool, true, false, cond, List, length, Option, Some, None, refl, sym, ap, subst, ◌∙◌, inl, inr, arith}
use Rattle.std.specs.Prelude.{Contains, is_some, nat_eq, not, slice_get, ◌&&◌}
use Rattle.std.proofs.lemmas.Bool.{and_right, cases_lt, or_from}
use Rattle.std.proofs.lemmas.Bool.Decides.{nat_tests}
use Rattle.std.proofs.lemmas.Option.{slice_get_within}
use Rattle.ps_frame.specs.Functions.{Functions}
use Rattle.ps_frame.specs.Tables.{Row}
use Rattle.ps_world.specs.Facts.{FactsDownTo, PipeFacts}
use Rattle.ps_world.specs.Pipes.{change_pipes, is_input, taken}
use Rattle.ps_world.specs.World.{Pipe, World, flat, has_next, is_drained, morsel_at}
use Rattle.world_facts.proofs.CutOff.{both_true, same_number}
use Rattle.world_facts.proofs.Follows.{Follows, IsLike, OwesPipe, follow, still_no_use, working}
use Rattle.world_facts.proofs.Stays.{cut_stays, pieces_stay}

pub not_true : (b : Bool) → not b ≡ true → b ≡ false
not_true true e = absurd (let no : false ≡ true = e in cc)
not_true false e = refl

-- the next slot has a morsel
pub next_slot : (x : Pipe) → has_next x ≡ true → (x.is_dropped ≡ false) × ((rs : List Row) × (slice_get x.got x.next ≡ Some (Some rs)))
next_slot x e = let parts = both_true (not x.is_dropped) (is_some (morsel_at x.next x.got)) e in (not_true x.is_dropped parts.0, by (slice_get x.got x.next) refl parts.1)
  where
    by : (o : Option (Option (List Row))) → slice_get x.got x.next ≡ o → is_some (morsel_at x.next x.got) ≡ true → (rs : List Row) × (slice_get x.got x.next ≡ Some (Some rs))
    by None q h = absurd (let no : false ≡ true = sym (ap (λ o. is_some (flat o)) q) ∙ h in cc)
    by (Some None) q h = absurd (let no : false ≡ true = sym (ap (λ o. is_some (flat o)) q) ∙ h in cc)
    by (Some (Some rs)) q h = (rs, q)

pub not_drained : (x : Pipe) → x.is_dropped ≡ false → x.next < length x.got → is_drained x ≡ false
not_drained x d h = or_from x.is_dropped (nat_eq (length x.got - x.next) 0) d (left (length x.got) x.next h)
  where
    left : (n m : ℕ) → m < n → nat_eq (n - m) 0 ≡ false
    left n m h = let a : 0 < n - m = omega arith in grind (arith, nat_tests)

abbrev pub take_world : World → ℕ → ℕ → World
take_world w n i = record w { pipes = change_pipes (is_input n i) taken w.pipes }

module _ (w : World) (n i : ℕ) (is_open : w.is_open ≡ true) where
  taken_if : Bool → Pipe → Pipe
  taken_if b p = cond b (taken p) p

  abbrev pub take_follows : Follows w (take_world w n i)
  take_follows =
      record {
        shape = refl;
        options = refl;
        open_before = is_open;
        open_after = is_open;
        onward = λ m x at. (x, at, record { in_phase = refl; is_closed = refl; over = λ o. o });
        back = λ m x at. (x, at, record { in_phase = refl; is_closed = refl; over = λ o. o });
        pipe = λ p. cond (is_input n i p) (taken p) p;
        pipes = refl;
        like = λ x. like x (is_input n i x);
      }
    where
      like : (x : Pipe) (b : Bool) → IsLike x (cond b (taken x) x)
      like x true = record { wire = refl; in_phase = refl; is_closed = refl; is_unread = refl; dropped = λ d. d }
      like x false = record { wire = refl; in_phase = refl; is_closed = refl; is_unread = refl; dropped = λ d. d }

  module _ {k : ℕ} (F : Functions) (f : FactsDownTo F k w) (p : Pipe) (there : Contains w.pipes p) (at : is_input n i p ≡ true) (on : p.in_phase ≡ true) (next : has_next p ≡ true) where
    it_is : (x : Pipe) → Contains w.pipes x → is_input n i x ≡ true → x ≡ p
    it_is x c e =
        let a = both_true (nat_eq x.wire.receiver n) (nat_eq x.wire.input i) e in
        let b = both_true (nat_eq p.wire.receiver n) (nat_eq p.wire.input i) at in
        f.one_input x p c there (same_number x.wire.receiver n a.0 ∙ sym (same_number p.wire.receiver n b.0)) (same_number x.wire.input i a.1 ∙ sym (same_number p.wire.input i b.1))

    owed : (x : Pipe) → Contains w.pipes x → OwesPipe w (take_world w n i) take_follows (cond (is_input n i x) (taken x) x)
    owed x c = by (is_input n i x) refl
      where
        facts : PipeFacts w x
        facts = f.pipes x c

        slot : is_input n i x ≡ true → (x.is_dropped ≡ false) × ((rs : List Row) × (slice_get x.got x.next ≡ Some (Some rs)))
        slot e = next_slot x (subst (λ z. has_next z ≡ true) (sym (it_is x c e)) next)

        came_of : is_input n i x ≡ true → (k : ℕ) → k < x.next + 1 → (k < x.next) ⊎ (x.next ≤ k) → (rs : List Row) × (slice_get x.got k ≡ Some (Some rs))
        came_of e k h (inl less) = facts.came k less
        came_of e k h (inr more) = let same : k ≡ x.next = omega arith in let s = slot e in (s.1.0, ap (slice_get x.got) same ∙ s.1.1)

        by : (b : Bool) → is_input n i x ≡ b → OwesPipe w (take_world w n i) take_follows (cond b (taken x) x)
        by true e =
            let s = slot e in
            let within = slice_get_within x.got x.next (Some s.1.0) s.1.1 in
            let undrained = not_drained x s.0 within in
            record {
              taken = omega arith;
              came = λ k h. came_of e k h (cases_lt k x.next);
              expected = facts.expected;
              read_to_end = λ here left. working w (take_world w n i) take_follows x.wire.receiver (facts.read_to_end here (or_from x.is_dropped (x.is_closed && is_drained x) s.0 (and_right x.is_closed (is_drained x) undrained)));
              drained = λ off bound. absurd (let is = it_is x c e in let no : false ≡ true = sym off ∙ ap (λ (z : Pipe). z.in_phase) is ∙ on in cc);
              why_dropped = λ d. absurd (let no : false ≡ true = sym s.0 ∙ d in cc);
            }
        by false e =
            record {
              taken = facts.taken;
              came = facts.came;
              expected = facts.expected;
              read_to_end = λ here left. working w (take_world w n i) take_follows x.wire.receiver (facts.read_to_end here left);
              drained = facts.drained;
              why_dropped = λ d. still_no_use w (take_world w n i) take_follows x.wire.receiver (facts.why_dropped d);
            }

    same_got : (x : Pipe) (j : ℕ) (b : Bool) → slice_get x.got j ≡ Some None → slice_get (cond b (taken x) x).got j ≡ Some None
    same_got x j true e = e
    same_got x j false e = e

    same_dropped : (x : Pipe) (b : Bool) → (cond b (taken x) x).is_dropped ≡ x.is_dropped
    same_dropped x true = refl
    same_dropped x false = refl

    pub take_keeps : FactsDownTo F k (take_world w n i)
    take_keeps =
        follow w (take_world w n i) take_follows F f owed
        (pieces_stay w (take_world w n i) take_follows F f refl (λ m i j e. e) (λ x j e. same_got x j (is_input n i x) e))
        (cut_stays w (take_world w n i) take_follows F f (λ x. same_dropped x (is_input n i x)))
