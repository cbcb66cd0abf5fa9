-- Where the output of a passing node is complete, all was handed in: up to the end of a complete input, or until the node gives no more.
use Rattle.std.proofs.Common.{◌≡◌, ℕ, suc, ◌+◌, ◌<◌, ◌⊎◌, Bool, List, [], ◌∷◌, ◌++◌, length, take, drop, Some, None, refl, sym, ap, subst, ◌∙◌, inl, inr, arith, length-append}
use Rattle.std.specs.Prelude.{IsTrue, slice_get}
use Rattle.ps_frame.specs.Tables.{Row}
use Rattle.ps_world.specs.Booking.{EndsAfter, PassesAfter}
use Rattle.ps_world.specs.World.{rows_in_order}
use Rattle.passing_runs.proofs.Slots.{Fills, Places}
use Rattle.orderly_worlds.proofs.ReadRows.{no_slot}

module _ (A : (before : ℕ) → List Row → List Row → Type 0) (Full : ℕ → Type 0) where
  -- what ended so goes on to do, while what came is filled; a complete input gets nothing more
  pub ends_on : (c d : Bool) (k : ℕ) (is js os : Places) → Fills is js → (IsTrue c → IsTrue d × (js ≡ is)) → EndsAfter A Full c k is os → EndsAfter A Full d k js os
  ends_on c d k is js [] f h (inl e) = let same = h e.0 in inl (same.0, same.1 ∙ e.1)
  ends_on c d k is js [] f h (inr full) = inr full
  ends_on c d k [] js (o ∷ os) f h e = absurd e
  ends_on c d k (None ∷ is) js (o ∷ os) f h e = absurd e
  ends_on c d k (Some a ∷ is) js (None ∷ os) f h e = absurd e
  ends_on c d k (Some a ∷ is) [] (Some b ∷ os) f h e = absurd f
  ends_on c d k (Some a ∷ is) (y ∷ js) (Some b ∷ os) f h e =
      subst (λ z. EndsAfter A Full d k (z ∷ js) (Some b ∷ os)) (sym f.0)
      (e.0, ends_on c d (k + length a) is js os f.1 (λ t. let same = h t in (same.0, ap (drop 1) same.1)) e.1)

  -- answers to all that was taken end, where the input does or the node gives no more
  pub ends_of : (c : Bool) (k : ℕ) (is os : Places) → PassesAfter A k is os → ((j : ℕ) → j < length os → (b : List Row) × (slice_get os j ≡ Some (Some b)))
      → (IsTrue c × (length is ≡ length os)) ⊎ Full (k + length (rows_in_order (take (length os) is))) → EndsAfter A Full c k is os
  ends_of c k is [] h all (inl e) = inl (e.0, none is e.1)
    where
      none : (xs : Places) → length xs ≡ 0 → xs ≡ []
      none [] e = refl
      none (x ∷ xs) e = absurd (omega arith)
  ends_of c k is [] h all (inr full) = inr (let e : k + 0 ≡ k = omega arith in subst Full e full)
  ends_of c k [] (o ∷ os) h all e = absurd h
  ends_of c k (None ∷ is) (o ∷ os) h all e = absurd h
  ends_of c k (Some a ∷ is) (None ∷ os) h all e = absurd (let first = all 0 (omega arith) in no_slot first.0 first.1)
  ends_of c k (Some a ∷ is) (Some b ∷ os) h all e = (h.0, ends_of c (k + length a) is os h.1 (λ j less. all (suc j) (omega (arith, less))) (by e))
    where
      by : (IsTrue c × (length (Some a ∷ is) ≡ length (Some b ∷ os))) ⊎ Full (k + length (a ++ rows_in_order (take (length os) is))) → (IsTrue c × (length is ≡ length os)) ⊎ Full ((k + length a) + length (rows_in_order (take (length os) is)))
      by (inl t) = inl (t.0, let e = t.1 in omega arith)
      by (inr full) = inr (let l = length-append a (rows_in_order (take (length os) is)) in let e : k + length (a ++ rows_in_order (take (length os) is)) ≡ (k + length a) + length (rows_in_order (take (length os) is)) = omega (arith, l) in subst Full e full)
