-- What holds wherever it holds of all that is next, where nothing reaches itself and all is in range: the numbers that may still be met get fewer with each step.
use Rattle.std.proofs.Common.{◌≡◌, ◌≢◌, ℕ, zero, suc, ◌<◌, ◌≤◌, ◌⊎◌, inl, inr, List, [], ◌∷◌, length, refl, subst, ap, arith}
use Rattle.std.specs.Prelude.{Contains}
use Rattle.ps_plan.specs.Graph.{Path, Leads, here, onward}

abbrev In : ℕ → List ℕ → Type 0
In n [] = ⊥
In n (x ∷ xs) = (n ≡ x) ⊎ In n xs

same-or-not : (m n : ℕ) → (m ≡ n) ⊎ (m ≢ n)
same-or-not zero zero = inl refl
same-or-not zero (suc n) = inr (λ e. omega (arith, e))
same-or-not (suc m) zero = inr (λ e. omega (arith, e))
same-or-not (suc m) (suc n) = by (same-or-not m n)
  where
    by : (m ≡ n) ⊎ (m ≢ n) → (suc m ≡ suc n) ⊎ (suc m ≢ suc n)
    by (inl e) = inl (ap (λ k. suc k) e)
    by (inr d) = inr (λ e. d (omega (arith, e)))

-- a list without one of its numbers is shorter, and holds the others
record Less (n : ℕ) (xs : List ℕ) : Type 0 where
  rest : List ℕ
  shorter : suc (length rest) ≡ length xs
  others : (m : ℕ) → In m xs → m ≢ n → In m rest

one-less : (n : ℕ) (xs : List ℕ) → In n xs → Less n xs
one-less n [] h = absurd h
one-less n (x ∷ xs) (inl e) = record { rest = xs; shorter = refl; others = keep }
  where
    keep : (m : ℕ) → (m ≡ x) ⊎ In m xs → m ≢ n → In m xs
    keep m (inl q) d = absurd (d (cc))
    keep m (inr h) d = h
one-less n (x ∷ xs) (inr h) = from (one-less n xs h)
  where
    from : Less n xs → Less n (x ∷ xs)
    from l = record { rest = x ∷ l.rest; shorter = ap (λ k. suc k) l.shorter; others = keep }
      where
        keep : (m : ℕ) → (m ≡ x) ⊎ In m xs → m ≢ n → (m ≡ x) ⊎ In m l.rest
        keep m (inl q) d = inl q
        keep m (inr h) d = inr (l.others m h d)

-- the numbers below another
below : ℕ → List ℕ
below zero = []
below (suc k) = k ∷ below k

below-length : (k : ℕ) → length (below k) ≡ k
unfolding below
below-length zero = refl
below-length (suc k) = ap (λ k. suc k) (below-length k)

below-all : (k m : ℕ) → m < k → In m (below k)
unfolding below
below-all zero m h = absurd (omega (arith, h))
below-all (suc k) m h = by (same-or-not m k) (λ d. below-all k m (omega (arith, h, d)))
  where
    by : (m ≡ k) ⊎ (m ≢ k) → (m ≢ k → In m (below k)) → (m ≡ k) ⊎ In m (below k)
    by (inl e) f = inl e
    by (inr d) f = inr (f d)

module _ (next : ℕ → List ℕ) where
  abbrev pub NoCircleFrom : ℕ → Type 0
  NoCircleFrom n = (m : ℕ) → Path next n m → ¬ Leads next m m

  abbrev pub AllBelow : ℕ → ℕ → Type 0
  AllBelow k n = (m : ℕ) → Path next n m → m < k

  module _ (k : ℕ) (P : ℕ → ℕ → Type 0) (step : (d n : ℕ) → n < k → ((m : ℕ) → Contains (next n) m → P d m) → P (suc d) n) where
    each-from : (d : ℕ) (free : List ℕ) (n : ℕ) → length free ≤ d → NoCircleFrom n → AllBelow k n → ((m : ℕ) → Path next n m → In m free) → P d n
    each-from zero [] n h clear range all = absurd (all n here)
    each-from zero (x ∷ free) n h clear range all = absurd (omega (arith, h))
    each-from (suc d) free n h clear range all =
        let l = one-less n free (all n here) in
        step d n (range n here)
        (λ m c. each-from d l.rest m (omega (arith, h, l.shorter)) (λ o way. clear o (onward c way)) (λ o way. range o (onward c way))
        (λ o way. l.others o (all o (onward c way)) (λ e. clear n here (record { first = m; is_next = c; way = subst (λ o. Path next m o) e way }))))

    pub each-acyclic : (n : ℕ) → NoCircleFrom n → AllBelow k n → P k n
    each-acyclic n clear range = each-from k (below k) n (omega (arith, below-length k)) clear range (λ m way. below-all k m (range m way))
