-- From changes at places to which pipes of a world are shown.
use Rattle.std.proofs.Common.{◌≡◌, ◌≢◌, ℕ, zero, suc, ◌≤◌, ◌<◌, ◌⊎◌, inl, inr, Bool, true, false, cond, List, [], ◌∷◌, ◌++◌, length, Option, Some, None, slice_index_or, refl, sym, ap, subst, ◌∙◌, arith}
use Rattle.std.specs.Prelude.{◌&&◌, ◌||◌, IfNone, IfSome, IsTrue, map, nat_eq, slice_get, slice_set}
use Rattle.std.proofs.lemmas.List.{length-set}
use Rattle.std.proofs.lemmas.Option.{slice_get-get_or, slice_get_past, slice_get_within}
use Rattle.ps_frame.specs.Tables.{Fields}
use Rattle.ps_frame.specs.Zip.{below}
use Rattle.ps_graph.proofs.Places.{is_place, place_test}
use Rattle.ps_graph.proofs.Telling.{one_more-cases}
use Rattle.ps_graph.specs.Shown.{places_from}
use Rattle.ps_pipes.specs.Shown.{Shows}
use Rattle.ps_pipes.specs.declared.pipe.Pipe.{Pipe as Held}
use Rattle.ps_ports.specs.Phases.{is_one_of}
use Rattle.ps_settle.proofs.Ends.{is_number, same_number}
use Rattle.ps_settle.proofs.Members.{at_both, at_map, item_at, length_map, set_here, set_other}
use Rattle.ps_world.specs.Pipes.{change_pipes, dropped_pipe}
use Rattle.ps_world.specs.World.{Pipe}
use Rattle.world_pipes.specs.Changed.{Becomes, Changed, if_in_phase}
use Rattle.world_pipes.specs.Shown.{AreShown, Setting, Stands, closed_pipe, ended_pipe}
use Rattle.world_pipes.specs.declared.pipes.Pipes.{Pipes}

-- whether a Boolean is true
flag : (b : Bool) → (b ≡ true) ⊎ (b ≡ false)
flag true = inl refl
flag false = inr refl

-- one place
one_is : (j k : ℕ) → is_one_of j (k ∷ []) ≡ nat_eq j k
one_is j k = by (nat_eq j k)
  where
    by : (b : Bool) → (b || false) ≡ b
    by true = refl
    by false = refl

module _ (f : Pipe → Pipe) where
  -- nothing changes where no place is named, and at a place that isn't there
  pub none_changed : (old : List Held) → Changed f [] old old
  none_changed old = record { long = refl; here = λ k h h' e at at'. absurd (let clash : false ≡ true = e in cc); others = λ k e. refl }

  pub past_changed : (k : ℕ) (old : List Held) → length old ≤ k → Changed f (k ∷ []) old old
  past_changed k old past =
      record {
        long = refl;
        here = λ j h h' e at at'. let is = is_number j k (sym (one_is j k) ∙ e) in let within = slice_get_within old j h at in absurd (omega (arith, is, within, past));
        others = λ j e. refl;
      }

  -- one is written
  pub set_changed : (k : ℕ) (old : List Held) (h h' : Held) → slice_get old k ≡ Some h → Becomes f h h' → Changed f (k ∷ []) old (slice_set old k h')
  set_changed k old h h' at becomes =
      record {
        long = length-set old k h';
        here = λ j g g' e here here'.
            let is : j ≡ k = is_number j k (sym (one_is j k) ∙ e) in
            let same : g ≡ h = at_both old k g h (ap (slice_get old) (sym is) ∙ here) at in
            let same' : g' ≡ h' = at_both (slice_set old k h') k g' h' (ap (slice_get (slice_set old k h')) (sym is) ∙ here') (set_here old k h h' at) in
            subst (λ x. Becomes f x g') (sym same) (subst (λ y. Becomes f h y) (sym same') becomes);
        others = λ j e. set_other old k j h' (λ is. let clash : false ≡ true = sym (sym (one_is j k) ∙ e) ∙ same_number j k is in cc);
      }

  -- one place more, where a second change is none
  module _ (twice : (h h' h'' : Held) → Becomes f h h' → Becomes f h' h'' → Becomes f h h'') where
    pub more_changed : (ks : List ℕ) (k : ℕ) (old mid new : List Held) → Changed f ks old mid → Changed f (k ∷ []) mid new → Changed f (ks ++ k ∷ []) old new
    more_changed ks k old mid new a b =
        record {
          long = b.long ∙ a.long;
          here = λ j h h'' e at at'.
              let between = middle j h at in
              by j h h'' between.0 at between.1 at' (flag (is_one_of j ks)) (flag (is_one_of j (k ∷ []))) (sym (cases j) ∙ e);
          others = λ j e. by_none j (flag (is_one_of j ks)) (flag (is_one_of j (k ∷ []))) (sym (cases j) ∙ e);
        }
      where
        cases : (j : ℕ) → is_one_of j (ks ++ k ∷ []) ≡ (is_one_of j ks || is_one_of j (k ∷ []))
        cases j = one_more-cases j k ks ∙ ap (λ c. is_one_of j ks || c) (sym (one_is j k))

        middle : (j : ℕ) (h : Held) → slice_get old j ≡ Some h → (m : Held) × (slice_get mid j ≡ Some m)
        middle j h at = let within = slice_get_within old j h at in let long = a.long in item_at mid j (omega (arith, within, long))

        by : (j : ℕ) (h h'' m : Held) → slice_get old j ≡ Some h → slice_get mid j ≡ Some m → slice_get new j ≡ Some h'' → (is_one_of j ks ≡ true) ⊎ (is_one_of j ks ≡ false) → (is_one_of j (k ∷ []) ≡ true) ⊎ (is_one_of j (k ∷ []) ≡ false)
            → (is_one_of j ks || is_one_of j (k ∷ [])) ≡ true → Becomes f h h''
        by j h h'' m at mid_at at' (inl x) (inl y) e = twice h m h'' (a.here j h m x at mid_at) (b.here j m h'' y mid_at at')
        by j h h'' m at mid_at at' (inl x) (inr y) e = subst (λ z. Becomes f h z) (at_both new j m h'' (b.others j y ∙ mid_at) at') (a.here j h m x at mid_at)
        by j h h'' m at mid_at at' (inr x) (inl y) e = subst (λ z. Becomes f z h'') (at_both mid j m h mid_at (a.others j x ∙ at)) (b.here j m h'' y mid_at at')
        by j h h'' m at mid_at at' (inr x) (inr y) e = absurd (let clash : false ≡ true = sym (ap (λ c. c || is_one_of j (k ∷ [])) x ∙ y) ∙ e in cc)

        by_none : (j : ℕ) → (is_one_of j ks ≡ true) ⊎ (is_one_of j ks ≡ false) → (is_one_of j (k ∷ []) ≡ true) ⊎ (is_one_of j (k ∷ []) ≡ false) → (is_one_of j ks || is_one_of j (k ∷ [])) ≡ false → slice_get new j ≡ slice_get old j
        by_none j (inl x) y e = absurd (let clash : true ≡ false = sym (ap (λ c. c || is_one_of j (k ∷ [])) x) ∙ e in cc)
        by_none j (inr x) (inl y) e = absurd (let clash : true ≡ false = sym (ap (λ c. c || is_one_of j (k ∷ [])) x ∙ y) ∙ e in cc)
        by_none j (inr x) (inr y) e = b.others j y ∙ a.others j x

  module _ (s : Setting) (sender : (p : Pipe) → (f p).wire.sender ≡ p.wire.sender) where
    pub stands : (p : Pipe) (h h' : Held) → Stands s p h → Becomes f h h' → Stands s (f p) h'
    stands p h h' st b =
        record {
          shows = subst (λ n. Shows (s.schema n) (f p) h') (sym (sender p)) (b.shows (s.schema p.wire.sender) p st.shows);
          bounded = b.bounded ∙ st.bounded ∙ ap s.bounded (sym (sender p));
          room = b.room ∙ st.room;
        }

    pub changed : (test : Pipe → Bool) (ks : List ℕ) (ps : List Pipe) (old new : Pipes) → AreShown s ps old → Changed f ks old.list.items new.list.items → ((k : ℕ) (p : Pipe) → slice_get ps k ≡ Some p → is_one_of k ks ≡ test p) → AreShown s (change_pipes test f ps) new
    changed test ks ps old new shown ch names =
        record {
          long = ch.long ∙ shown.long ∙ sym (length_map (λ p. cond (test p) (f p) p) ps);
          each = λ k p' h' at at'.
              let from = at_map (λ p. cond (test p) (f p) p) ps k p' at in
              let within = slice_get_within new.list.items k h' at' in
              let long = ch.long in
              let before = item_at old.list.items k (omega (arith, within, long)) in
              subst (λ p. Stands s p h') from.2 (by k from.0 before.0 h' from.1 before.1 at' (test from.0) (names k from.0 from.1));
        }
      where
        by : (k : ℕ) (p : Pipe) (h h' : Held) → slice_get ps k ≡ Some p → slice_get old.list.items k ≡ Some h → slice_get new.list.items k ≡ Some h' → (b : Bool) → is_one_of k ks ≡ b → Stands s (cond b (f p) p) h'
        by k p h h' at at_old at_new true e = stands p h h' (shown.each k p h at at_old) (ch.here k h h' e at_old at_new)
        by k p h h' at at_old at_new false e = subst (λ x. Stands s p x) (at_both new.list.items k h h' (ch.others k e ∙ at_old) at_new) (shown.each k p h at at_old)

-- a change of what is in the phase alone
module _ (f : Pipe → Pipe) where
  pub in_phase_too : (test : Pipe → Bool) (ps : List Pipe) → change_pipes test (if_in_phase f) ps ≡ change_pipes (λ p. test p && p.in_phase) f ps
  in_phase_too test [] = refl
  in_phase_too test (p ∷ ps) = λ i. one (test p) i ∷ in_phase_too test ps i
    where
      one : (b : Bool) → cond b (cond p.in_phase (f p) p) p ≡ cond (b && p.in_phase) (f p) p
      one true = refl
      one false = refl

  pub same_sender : ((p : Pipe) → (f p).wire.sender ≡ p.wire.sender) → (p : Pipe) → (if_in_phase f p).wire.sender ≡ p.wire.sender
  same_sender same p = by p.in_phase
    where
      by : (b : Bool) → (cond b (f p) p).wire.sender ≡ p.wire.sender
      by true = same p
      by false = refl

  pub twice_in_phase : ((p : Pipe) → f (f p) ≡ f p) → ((p : Pipe) → (f p).in_phase ≡ p.in_phase) → (h h' h'' : Held) → Becomes (if_in_phase f) h h' → Becomes (if_in_phase f) h' h'' → Becomes (if_in_phase f) h h''
  twice_in_phase same phase h h' h'' a b =
      record {
        shows = λ s p shown. subst (λ q. Shows s q h'') (again p p.in_phase refl) (b.shows s (if_in_phase f p) (a.shows s p shown));
        bounded = b.bounded ∙ a.bounded;
        room = b.room ∙ a.room;
      }
    where
      again : (p : Pipe) (b : Bool) → p.in_phase ≡ b → if_in_phase f (if_in_phase f p) ≡ if_in_phase f p
      again p true e =
          let once : if_in_phase f p ≡ f p = ap (λ b. cond b (f p) p) e in
          ap (if_in_phase f) once ∙ ap (λ b. cond b (f (f p)) (f p)) (phase p ∙ e) ∙ same p ∙ sym once
      again p false e = let once : if_in_phase f p ≡ p = ap (λ b. cond b (f p) p) e in ap (if_in_phase f) once

-- what a call on a pipe of the phase does
module _ (f : Pipe → Pipe) (h h' : Held) (b : Bool) (phase : (s : Fields) (p : Pipe) → Shows s p h → b ≡ p.in_phase) where
  pub becomes_then : b ≡ true → ((s : Fields) (p : Pipe) → Shows s p h → Shows s (f p) h') → h'.is_bounded ≡ h.is_bounded → h'.room ≡ h.room → Becomes (if_in_phase f) h h'
  becomes_then t shows bounded room =
      record {
        shows = λ s p shown. let here : true ≡ p.in_phase = sym t ∙ phase s p shown in subst (λ c. Shows s (cond c (f p) p) h') here (shows s p shown);
        bounded = bounded;
        room = room;
      }

  pub becomes_else : b ≡ false → Becomes (if_in_phase f) h h
  becomes_else t =
      record {
        shows = λ s p shown. let here : false ≡ p.in_phase = sym t ∙ phase s p shown in subst (λ c. Shows s (cond c (f p) p) h) here shown;
        bounded = refl;
        room = refl;
      }

pub at_index : {A : Type 0} (xs : List A) (k : ℕ) (x : A) → k < length xs → x ≡ slice_index_or xs k x → slice_get xs k ≡ Some x
at_index xs k x within e = slice_get-get_or xs k x within ∙ ap Some (sym e)

pub at_place : {A : Type 0} (xs : List A) (k key : ℕ) (x : A) → k ≡ key → k < length xs → x ≡ slice_index_or xs k x → slice_get xs key ≡ Some x
at_place xs k key x is within e = subst (λ n. slice_get xs n ≡ Some x) is (at_index xs k x within e)

pub past_place : {A : Type 0} (xs : List A) (k key : ℕ) → k ≡ key → length xs ≤ k → slice_get xs key ≡ None
past_place xs k key is past = slice_get_past xs key (omega (arith, is, past))

module _ (s : Setting) (ps : List Pipe) (p : Pipe) (h : Pipes) (shown : AreShown s ps h) (k : ℕ) (at : slice_get ps k ≡ Some p) where
  -- the pipe that stands at the place of one of the world's
  pub seen : (q : Held) → slice_get h.list.items k ≡ Some q → Stands s p q
  seen q there = shown.each k p q at there

  pub unseen : slice_get h.list.items k ≡ None → ⊥
  unseen none =
      let within = slice_get_within ps k p at in
      let long = shown.long in
      let q = item_at h.list.items k (omega (arith, within, long)) in
      absurd (let clash : None ≡ Some q.0 = sym none ∙ q.1 in cc)

-- one pipe, whose key is the only one
module _ (s : Setting) (test : Pipe → Bool) (f : Pipe → Pipe) (k : ℕ) (ps : List Pipe) (old : Pipes) (shown : AreShown s ps old) (names : k ∷ [] ≡ places_from 0 test ps) where
  pub key_there : slice_get old.list.items k ≡ None → ⊥
  key_there none =
      let one : IsTrue (is_one_of k (places_from 0 test ps)) = subst (λ l. IsTrue (is_one_of k l)) names (one_is k k ∙ same_number k k refl) in
      let p = is_place 0 test ps k one in
      let within = slice_get_within ps p.0 p.1 p.2 in
      let is = p.4 in
      let long = shown.long in
      let q = item_at old.list.items k (omega (arith, within, is, long)) in
      absurd (let clash : None ≡ Some q.0 = sym none ∙ q.1 in cc)

  pub changed_one : (new : Pipes) (h h' : Held) → slice_get old.list.items k ≡ Some h → new.list.items ≡ slice_set old.list.items k h' → ((p : Pipe) → slice_get ps k ≡ Some p → Stands s p h → Stands s (f p) h') → AreShown s (change_pipes test f ps) new
  changed_one new h h' at is step =
      record {
        long = ap length is ∙ length-set old.list.items k h' ∙ shown.long ∙ sym (length_map (λ p. cond (test p) (f p) p) ps);
        each = λ j p' q at' there.
            let from = at_map (λ p. cond (test p) (f p) p) ps j p' at' in
            let within = slice_get_within ps j from.0 from.1 in
            let long = shown.long in
            let before = item_at old.list.items j (omega (arith, within, long)) in
            subst (λ p. Stands s p q) from.2 (by j from.0 before.0 q from.1 before.1 (sym (ap (λ l. slice_get l j) is) ∙ there) (test from.0) (sym (place_test test ps j from.0 from.1) ∙ ap (is_one_of j) (sym names) ∙ one_is j k));
      }
    where
      by : (j : ℕ) (p : Pipe) (g q : Held) → slice_get ps j ≡ Some p → slice_get old.list.items j ≡ Some g → slice_get (slice_set old.list.items k h') j ≡ Some q → (b : Bool) → b ≡ nat_eq j k → Stands s (cond b (f p) p) q
      by j p g q at_p at_g at_q true e =
          let is_k : j ≡ k = is_number j k (sym e) in
          let same : h' ≡ q = at_both (slice_set old.list.items k h') k h' q (set_here old.list.items k h h' at) (ap (slice_get (slice_set old.list.items k h')) (sym is_k) ∙ at_q) in
          let first : g ≡ h = at_both old.list.items k g h (ap (slice_get old.list.items) (sym is_k) ∙ at_g) at in
          subst (λ x. Stands s (f p) x) same (step p (ap (slice_get ps) (sym is_k) ∙ at_p) (subst (λ x. Stands s p x) first (shown.each j p g at_p at_g)))
      by j p g q at_p at_g at_q false e =
          let same : g ≡ q = at_both old.list.items j g q at_g (sym (set_other old.list.items k j h' (λ is_k. let clash : false ≡ true = e ∙ same_number j k is_k in cc)) ∙ at_q) in
          subst (λ x. Stands s p x) same (shown.each j p g at_p at_g)

-- keys that are those of the pipes that pass a test
pub by_keys : (test : Pipe → Bool) (ks : List ℕ) (ps : List Pipe) → ks ≡ places_from 0 test ps → (k : ℕ) (p : Pipe) → slice_get ps k ≡ Some p → is_one_of k ks ≡ test p
by_keys test ks ps names k p at = ap (is_one_of k) names ∙ place_test test ps k p at

-- all places
pub below_has : (n k : ℕ) → k < n → is_one_of k (below n) ≡ true
below_has zero k h = absurd (omega (arith, h))
below_has (suc n) k h = by (nat_eq k n) refl (below_has n k)
  where
    by : (b : Bool) → nat_eq k n ≡ b → (k < n → is_one_of k (below n) ≡ true) → is_one_of k (below (suc n)) ≡ true
    by true e rest = one_more-cases k n (below n) ∙ ap (λ c. is_one_of k (below n) || c) e ∙ or_true (is_one_of k (below n))
      where
        or_true : (b : Bool) → (b || true) ≡ true
        or_true true = refl
        or_true false = refl
    by false e rest = one_more-cases k n (below n) ∙ ap (λ c. c || nat_eq k n) (rest (let other : k ≢ n = λ same. let clash : false ≡ true = sym e ∙ same_number k n same in cc in other_below k n h other))
      where
        other_below : (k n : ℕ) → k < suc n → k ≢ n → k < n
        other_below k n h other = omega (arith, h, other)

module _ (s : Setting) (ps : List Pipe) (old new : Pipes) (shown : AreShown s ps old) where
  pub all_ended : Changed ended_pipe (below (length old.list.items)) old.list.items new.list.items → AreShown s (map ended_pipe ps) new
  all_ended ch =
      changed ended_pipe s (λ p. refl) (λ p. true) (below (length old.list.items)) ps old new shown ch
      (λ k p at. let within = slice_get_within ps k p at in let long = shown.long in below_has (length old.list.items) k (omega (arith, within, long)))

  pub closed_there : (test : Pipe → Bool) (ks : List ℕ) → Changed (if_in_phase closed_pipe) ks old.list.items new.list.items → ks ≡ places_from 0 test ps → AreShown s (change_pipes (λ p. test p && p.in_phase) closed_pipe ps) new
  closed_there test ks ch names =
      subst (λ l. AreShown s l new) (in_phase_too closed_pipe test ps) (changed (if_in_phase closed_pipe) s (same_sender closed_pipe (λ p. refl)) test ks ps old new shown ch (by_keys test ks ps names))

  pub lost_there : (test : Pipe → Bool) (ks : List ℕ) → Changed (if_in_phase dropped_pipe) ks old.list.items new.list.items → ks ≡ places_from 0 test ps → AreShown s (change_pipes (λ p. test p && p.in_phase) dropped_pipe ps) new
  lost_there test ks ch names =
      subst (λ l. AreShown s l new) (in_phase_too dropped_pipe test ps) (changed (if_in_phase dropped_pipe) s (same_sender dropped_pipe (λ p. refl)) test ks ps old new shown ch (by_keys test ks ps names))

pub closes_twice : (h h' h'' : Held) → Becomes (if_in_phase closed_pipe) h h' → Becomes (if_in_phase closed_pipe) h' h'' → Becomes (if_in_phase closed_pipe) h h''
closes_twice = twice_in_phase closed_pipe (λ p. refl) (λ p. refl)

pub loses_twice : (h h' h'' : Held) → Becomes (if_in_phase dropped_pipe) h h' → Becomes (if_in_phase dropped_pipe) h' h'' → Becomes (if_in_phase dropped_pipe) h h''
loses_twice = twice_in_phase dropped_pipe (λ p. refl) (λ p. refl)

pub ends_twice : (h h' h'' : Held) → Becomes ended_pipe h h' → Becomes ended_pipe h' h'' → Becomes ended_pipe h h''
ends_twice h h' h'' a b = record { shows = λ s p shown. b.shows s (ended_pipe p) (a.shows s p shown); bounded = b.bounded ∙ a.bounded; room = b.room ∙ a.room }

-- nothing changed at a place
set_same : {A : Type 0} (xs : List A) (k : ℕ) (x : A) → slice_get xs k ≡ Some x → slice_set xs k x ≡ xs
set_same [] k x e = refl
set_same (y ∷ ys) zero x e = let is : x ≡ y = (let both : Some y ≡ Some x = e in cc) in ap (λ z. z ∷ ys) is
set_same (y ∷ ys) (suc k) x e = ap (λ l. y ∷ l) (set_same ys k x e)

pub stays_shown : (s : Setting) (ps : List Pipe) (old new : Pipes) (k : ℕ) (h h' : Held) → AreShown s ps old → slice_get old.list.items k ≡ Some h → h' ≡ h → new.list.items ≡ slice_set old.list.items k h' → AreShown s ps new
stays_shown s ps old new k h h' shown at same is =
    let e : new.list.items ≡ old.list.items = is ∙ ap (slice_set old.list.items k) same ∙ set_same old.list.items k h at in
    record { long = ap length e ∙ shown.long; each = λ j p q at' there. shown.each j p q at' (sym (ap (λ l. slice_get l j) e) ∙ there) }

-- what follows of an option
pub if_none : {A : Type 0} {P Q : Type 0} (r : Option A) → (P → Q) → IfNone r P → IfNone r Q
if_none None f p = f p
if_none (Some x) f p = p

pub if_some : {A : Type 0} (P Q : A → Type 0) (r : Option A) → ((x : A) → P x → Q x) → IfSome r P → IfSome r Q
if_some P Q None f p = p
if_some P Q (Some x) f p = f x p

pub if_some_both : {A : Type 0} (P Q R : A → Type 0) (r : Option A) → ((x : A) → P x → Q x → R x) → IfSome r P → IfSome r Q → IfSome r R
if_some_both P Q R None f p q = p
if_some_both P Q R (Some x) f p q = f x p q

-- a call on the pipe with a key
module _ (s : Setting) (test : Pipe → Bool) (f : Pipe → Pipe) (sender : (p : Pipe) → (f p).wire.sender ≡ p.wire.sender) (key k : ℕ) (is_key : k ≡ key) (ps : List Pipe) (old new : Pipes) (shown : AreShown s ps old) (names : key ∷ [] ≡ places_from 0 test ps) where
  pub called_at : (h h' : Held) → slice_get old.list.items key ≡ Some h → new.list.items ≡ slice_set old.list.items k h' → Becomes f h h' → AreShown s (change_pipes test f ps) new
  called_at h h' at is becomes =
      changed_one s test f key ps old shown names new h h' at (is ∙ ap (λ n. slice_set old.list.items n h') is_key) (λ p at_p st. stands f s sender p h h' st becomes)
