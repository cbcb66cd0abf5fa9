-- A node whose every way on in the phase meets a dropped pipe is cut off, so that it claims nothing more.
use Rattle.std.proofs.Common.{◌≡◌, ℕ, Bool, true, false, List, [], ◌∷◌, refl, sym, ◌∙◌, inl, inr, ◌⊎◌, arith}
use Rattle.std.specs.Prelude.{Contains, IsFalse, IsTrue, nat_eq, nat_lt}
use Rattle.std.specs.List.{filter as kept, list_all}
use Rattle.std.proofs.lemmas.Bool.Decides.{nat_tests}
use Rattle.ps_frame.specs.Causes.{is_empty}
use Rattle.ps_frame.specs.Functions.{Functions}
use Rattle.ps_frame.specs.Sorting.{in_order, insert_in_order}
use Rattle.ps_world.specs.Facts.{Facts}
use Rattle.ps_world.specs.Promises.{Halts, IsSpared, spared}
use Rattle.ps_world.specs.World.{Pipe, World, counts_for_sender, is_cut_off, live_outs, pipes_out}
use Rattle.world_laws.proofs.InOrder.{contains_cases, contains_kept, contains_later, list_all-kept, none_in_nil}
use Rattle.world_laws.proofs.PassingPorts.{ordered, same_number, was_kept}

-- what is set in order is there
insert_keeps : {A : Type 0} (less : A → A → Bool) (x y : A) (ys : List A) → (x ≡ y) ⊎ Contains ys y → Contains (insert_in_order less x ys) y
insert_keeps less x y [] (inl e) = (0, omega arith, e)
insert_keeps less x y [] (inr c) = absurd (none_in_nil y c)
insert_keeps less x y (z ∷ zs) c = by (less z x) refl (insert_keeps less x y zs)
  where
    at : (x ≡ y) ⊎ Contains (z ∷ zs) y → Contains (x ∷ z ∷ zs) y
    at (inl e) = (0, omega arith, e)
    at (inr later) = contains_later x y (z ∷ zs) later

    past : ((x ≡ y) ⊎ Contains zs y → Contains (insert_in_order less x zs) y) → (x ≡ y) ⊎ Contains (z ∷ zs) y → Contains (z ∷ insert_in_order less x zs) y
    past rest (inl e) = contains_later z y (insert_in_order less x zs) (rest (inl e))
    past rest (inr later) = of (contains_cases z y zs later)
      where
        of : (z ≡ y) ⊎ Contains zs y → Contains (z ∷ insert_in_order less x zs) y
        of (inl e) = (0, omega arith, e)
        of (inr l) = contains_later z y (insert_in_order less x zs) (rest (inr l))

    by : (b : Bool) → less z x ≡ b → ((x ≡ y) ⊎ Contains zs y → Contains (insert_in_order less x zs) y) → Contains (insert_in_order less x (z ∷ zs)) y
    by true e rest = rw e (past rest c)
    by false e rest = rw e (at c)

pub order_keeps : {A : Type 0} (less : A → A → Bool) (y : A) (xs : List A) → Contains xs y → Contains (in_order less xs) y
order_keeps less y [] c = c
order_keeps less y (x ∷ xs) c = by (order_keeps less y xs) (contains_cases x y xs c)
  where
    by : (Contains xs y → Contains (in_order less xs) y) → (x ≡ y) ⊎ Contains xs y → Contains (in_order less (x ∷ xs)) y
    by rest (inl e) = insert_keeps less x y (in_order less xs) (inl e)
    by rest (inr later) = insert_keeps less x y (in_order less xs) (inr (rest later))

not_empty : {A : Type 0} (y : A) (xs : List A) → Contains xs y → is_empty xs ≡ false
not_empty y [] c = absurd (none_in_nil y c)
not_empty y (x ∷ xs) c = refl

module _ (F : Functions) (w : World) (f : Facts F w) where
  cut_off_if : (n : ℕ) (some : Pipe) → Contains w.pipes some → some.wire.sender ≡ n → IsTrue (counts_for_sender w some)
      → ((p : Pipe) → Contains w.pipes p → p.wire.sender ≡ n → IsTrue (counts_for_sender w p) → IsFalse p.is_dropped → IsTrue p.in_phase × (is_cut_off w p.wire.receiver ≡ true)) → is_cut_off w n ≡ true
  cut_off_if n some there from counts on = rw (some_out, all_dropped) refl
    where
      sender_is : nat_eq some.wire.sender n ≡ true
      sender_is = grind (arith, nat_tests)

      among : Contains (live_outs w n) some
      among =
          contains_kept (counts_for_sender w) some (pipes_out w n)
          (order_keeps (λ (p q : Pipe). nat_lt p.wire.port q.wire.port) some (kept (λ (p : Pipe). nat_eq p.wire.sender n) w.pipes) (contains_kept (λ (p : Pipe). nat_eq p.wire.sender n) some w.pipes there sender_is)) counts

      some_out : is_empty (live_outs w n) ≡ false
      some_out = not_empty some (live_outs w n) among

      is_dropped : (p : Pipe) → Contains (pipes_out w n) p → counts_for_sender w p ≡ true → p.is_dropped ≡ true
      is_dropped p c live = by p.is_dropped refl
        where
          out : Contains w.pipes p × (nat_eq p.wire.sender n ≡ true)
          out =
              was_kept (λ (q : Pipe). nat_eq q.wire.sender n) p w.pipes
              (ordered (λ (q r : Pipe). nat_lt q.wire.port r.wire.port) p (kept (λ (q : Pipe). nat_eq q.wire.sender n) w.pipes) c)

          by : (b : Bool) → p.is_dropped ≡ b → p.is_dropped ≡ true
          by true e = e
          by false e = let next = on p out.0 (same_number p.wire.sender n out.1) live e in f.cut_off p out.0 (omega arith) next.0 next.1

      all_dropped : list_all (λ (p : Pipe). p.is_dropped) (live_outs w n) ≡ true
      all_dropped = list_all-kept (counts_for_sender w) (λ (p : Pipe). p.is_dropped) (pipes_out w n) is_dropped

  pub cut_off_where_spared : (n : ℕ) → IsSpared w n → is_cut_off w n ≡ true
  cut_off_where_spared n (spared some there from counts in_phase rest) =
      cut_off_if n some there from counts (λ p c at live e. (in_phase p c at live e, cut_off_where_spared p.wire.receiver (rest p c at live e)))

  pub halts : Halts F w
  halts n input number worker v is_spared s = absurd (let no : true ≡ false = sym (cut_off_where_spared n is_spared) ∙ s.3 in cc)
