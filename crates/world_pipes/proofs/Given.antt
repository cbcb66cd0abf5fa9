-- From what goes into single pipes to which pipes of a world are shown.
use Rattle.std.proofs.Common.{◌≡◌, ℕ, Bool, true, false, cond, List, [], ◌∷◌, Result, Ok, Err, Some, refl, sym, ap, subst, ◌∙◌}
use Rattle.std.specs.Prelude.{◌&&◌, not, OnErr, OnOk, slice_get, slice_set}
use Rattle.ps_frame.specs.Tables.{Fields, Row}
use Rattle.ps_graph.specs.Shown.{places_from}
use Rattle.ps_pipes.specs.Shown.{Shows}
use Rattle.ps_pipes.specs.declared.pipe.Pipe.{Pipe as Held}
use Rattle.ps_world.specs.Pipes.{change_pipes, with_answer, with_place}
use Rattle.ps_world.specs.World.{Pipe}
use Rattle.world_pipes.proofs.Placed.{called_at, changed_one, in_phase_too, same_sender}
use Rattle.world_pipes.specs.Changed.{Becomes, if_in_phase}
use Rattle.world_pipes.specs.Giving.{BecomesOf, if_kept}
use Rattle.world_pipes.specs.Shown.{AreShown, Setting}
use Rattle.world_pipes.specs.declared.pipes.Pipes.{Pipes}

-- what follows after a call that gives nothing
pub on_ok : {A E : Type 0} {P Q : Type 0} (r : Result A E) → (P → Q) → OnOk r P → OnOk r Q
on_ok (Ok x) f p = f p
on_ok (Err e) f p = p

pub on_err : {A E : Type 0} {P Q : Type 0} (r : Result A E) → (P → Q) → OnErr r P → OnErr r Q
on_err (Ok x) f p = p
on_err (Err e) f p = f p

module _ (f : Pipe → Pipe) where
  cases : (a b c : Bool) (x y : Pipe) → cond a (cond b (cond c y x) y) y ≡ cond (a && (b && not c)) x y
  cases true true true x y = refl
  cases true true false x y = refl
  cases true false c x y = refl
  cases false b c x y = refl

  pub open_too : (test : Pipe → Bool) (ps : List Pipe) → change_pipes test (if_in_phase (if_kept f)) ps ≡ change_pipes (λ p. test p && (p.in_phase && not p.is_dropped)) f ps
  open_too test [] = refl
  open_too test (p ∷ ps) = λ i. cases (test p) p.in_phase p.is_dropped (f p) p i ∷ open_too test ps i

  pub kept_sender : ((p : Pipe) → (f p).wire.sender ≡ p.wire.sender) → (p : Pipe) → (if_kept f p).wire.sender ≡ p.wire.sender
  kept_sender same p = by p.is_dropped
    where
      by : (b : Bool) → (cond b p (f p)).wire.sender ≡ p.wire.sender
      by true = refl
      by false = same p

pub answer_sender : (k : ℕ) (rs : List Row) (p : Pipe) → (with_answer k rs p).wire.sender ≡ p.wire.sender
answer_sender k rs p = by p.is_dropped
  where
    by : (b : Bool) → (cond b p (record p { got = slice_set p.got k (Some rs) })).wire.sender ≡ p.wire.sender
    by true = refl
    by false = refl

-- what is dropped stays, and what isn't changes
module _ (h : Held) where
  module _ (f : Pipe → Pipe) (d : Bool) (dropped : (s : Fields) (p : Pipe) → Shows s p h → d ≡ p.is_dropped) where
    pub dropped_stays : d ≡ true → Becomes (if_kept f) h h
    dropped_stays gone = record { shows = λ s p shown. let lost : true ≡ p.is_dropped = sym gone ∙ dropped s p shown in subst (λ c. Shows s (cond c p (f p)) h) lost shown; bounded = refl; room = refl }

    pub kept_changes : (h' : Held) → d ≡ false → ((s : Fields) (p : Pipe) → Shows s p h → Shows s (f p) h') → h'.is_bounded ≡ h.is_bounded → h'.room ≡ h.room → Becomes (if_kept f) h h'
    kept_changes h' kept shows bounded room =
        record { shows = λ s p shown. let there : false ≡ p.is_dropped = sym kept ∙ dropped s p shown in subst (λ c. Shows s (cond c p (f p)) h') there (shows s p shown); bounded = bounded; room = room }

  -- what is put in is in the phase, or nothing is
  pub put_then : (h' : Held) (s : Fields) (f : Pipe → Pipe) (b : Bool) → ((s : Fields) (p : Pipe) → Shows s p h → b ≡ p.in_phase) → b ≡ true → ((p : Pipe) → Shows s p h → Shows s (f p) h') → h'.is_bounded ≡ h.is_bounded → h'.room ≡ h.room → BecomesOf s (if_in_phase f) h h'
  put_then h' s f b phase here_is shows bounded room =
      record {
        shows = λ p shown. let here : true ≡ p.in_phase = sym here_is ∙ phase s p shown in subst (λ c. Shows s (cond c (f p) p) h') here (shows p shown);
        bounded = bounded;
        room = room;
      }

  pub put_else : (s : Fields) (f : Pipe → Pipe) (b : Bool) → ((s : Fields) (p : Pipe) → Shows s p h → b ≡ p.in_phase) → b ≡ false → BecomesOf s (if_in_phase f) h h
  put_else s f b phase absent =
      record {
        shows = λ p shown. let here : false ≡ p.in_phase = sym absent ∙ phase s p shown in subst (λ c. Shows s (cond c (f p) p) h) here shown;
        bounded = refl;
        room = refl;
      }

-- the pipe with a key is put into, whose sender gives rows of this schema
module _ (s : Setting) (test : Pipe → Bool) (key k : ℕ) (is_key : k ≡ key) (ps : List Pipe) (old new : Pipes) (shown : AreShown s ps old) (names : key ∷ [] ≡ places_from 0 test ps) where
  pub put_at : (t : Fields) (f : Pipe → Pipe) (h h' : Held) → ((p : Pipe) → (f p).wire.sender ≡ p.wire.sender) → slice_get old.list.items key ≡ Some h → new.list.items ≡ slice_set old.list.items k h' → ((p : Pipe) → slice_get ps key ≡ Some p → t ≡ s.schema p.wire.sender)
      → BecomesOf t (if_in_phase f) h h' → AreShown s (change_pipes (λ p. test p && p.in_phase) f ps) new
  put_at t f h h' sender at is schema becomes =
      subst (λ l. AreShown s l new) (in_phase_too f test ps)
      (changed_one s test (if_in_phase f) key ps old shown names new h h' at (is ∙ ap (λ n. slice_set old.list.items n h') is_key)
      (λ p at_p st.
      let same = same_sender f sender p in
      let rows : t ≡ s.schema p.wire.sender = schema p at_p in
      record {
        shows = subst (λ n. Shows (s.schema n) (if_in_phase f p) h') (sym same) (subst (λ u. Shows u (if_in_phase f p) h') rows (becomes.shows p (subst (λ u. Shows u p h) (sym rows) st.shows)));
        bounded = becomes.bounded ∙ st.bounded ∙ ap s.bounded (sym same);
        room = becomes.room ∙ st.room;
      }))

-- a place is made in the pipe with a key
module _ (s : Setting) (test : Pipe → Bool) (key k : ℕ) (is_key : k ≡ key) (ps : List Pipe) (old new : Pipes) (shown : AreShown s ps old) (names : key ∷ [] ≡ places_from 0 test ps) where
  pub reserved_at : (h h' : Held) → slice_get old.list.items key ≡ Some h → new.list.items ≡ slice_set old.list.items k h' → Becomes (if_in_phase (if_kept with_place)) h h'
      → AreShown s (change_pipes (λ p. test p && (p.in_phase && not p.is_dropped)) with_place ps) new
  reserved_at h h' at is becomes =
      subst (λ l. AreShown s l new) (open_too with_place test ps)
      (called_at s test (if_in_phase (if_kept with_place)) (same_sender (if_kept with_place) (kept_sender with_place (λ p. refl))) key k is_key ps old new shown names h h' at is becomes)
