-- What one answer of a search rules out.
use Rattle.std.proofs.Common.{◌≡◌, ℕ, ◌+◌, ◌<◌, ◌≤◌, Bool, true, false, List, [], ◌∷◌, length, get_or, refl, sym, subst, ◌∙◌, arith}
use Rattle.std.specs.Fn.{Called, AlwaysReturns}
use Rattle.std.specs.declared.cmp.Ordering.{Ordering}
use denote.Param.Members.{Mut}
use Rattle.std.specs.declared.cmp.Ordering.TheVariants.{Less, Equal, Greater}
use Rattle.std.specs.List.{AllWithin, HoldsAt}
use Rattle.std.specs.List.Sorted.{IsNonDecreasingBy, IsPartitionedBy}
use Rattle.std.specs.Ordering.{ordering_index, is_lt, is_le}
use Rattle.std.proofs.lemmas.Bool.{false≢true}

is_Less : (o : Ordering) → ordering_index o ≤ 0 → o ≡ Less
is_Less Less h = refl
is_Less Equal h = absurd (omega arith)
is_Less Greater h = absurd (omega arith)

is_Greater : (o : Ordering) → 2 ≤ ordering_index o → o ≡ Greater
is_Greater Less h = absurd (omega arith)
is_Greater Equal h = absurd (omega arith)
is_Greater Greater h = refl

module _ {X : Type 0} (xs : List X) where
  module _ (ord : X → Ordering) where
    -- below low all is `Less`, and from high on `Greater`, where the answers rise
    pub record Narrowed (low high : ℕ) : Type 0 where
      pub found : IsNonDecreasingBy (λ y. ordering_index (ord y)) xs → AllWithin (λ y. ord y ≡ Less) xs 0 low × AllWithin (λ y. ord y ≡ Greater) xs high (length xs)

    pub whole : Narrowed 0 (length xs)
    whole = record { found = λ rising. (λ k d a b. absurd (omega arith), λ k d a b. absurd (omega arith)) }

    pub less_at : (low high i : ℕ) → i < length xs → HoldsAt (λ y. ord y ≡ Less) xs i → Narrowed low high → Narrowed (i + 1) high
    less_at low high i h at n = record { found = λ rising. (λ k d a b. let le : ordering_index (ord (get_or xs k d)) ≤ 0 = subst (λ o. ordering_index (ord (get_or xs k d)) ≤ ordering_index o) (at d) (rising k i d (omega arith) h) in is_Less _ le, (n.found rising).1) }

    pub greater_at : (low high i : ℕ) → i < length xs → HoldsAt (λ y. ord y ≡ Greater) xs i → Narrowed low high → Narrowed low i
    greater_at low high i h at n = record { found = λ rising. ((n.found rising).0, λ k d a b. let le : 2 ≤ ordering_index (ord (get_or xs k d)) = subst (λ o. ordering_index o ≤ ordering_index (ord (get_or xs k d))) (at d) (rising i k d a b) in is_Greater _ le) }

-- the next call answers as each does
pub answers_next : {F X R : Type 0} (g : Mut F X R) (P : X → R → Type 0) (f : F) (a : X) (r : R) (f' : F) → Called g f a r f' → AlwaysReturns g P f → P a r × AlwaysReturns g P f'
answers_next g P f a r f' c h = ((h.at (a ∷ []) r f' c).0, record { at = λ xs. (h.at (a ∷ xs) r f' c).1 })

module _ {X : Type 0} (xs : List X) (p : X → Bool) where
  -- below low all holds, and from high on nothing, where nothing holds after what doesn't
  pub record Halved (low high : ℕ) : Type 0 where
    pub found : IsPartitionedBy p xs → AllWithin (λ y. p y ≡ true) xs 0 low × AllWithin (λ y. p y ≡ false) xs high (length xs)

  pub unhalved : Halved 0 (length xs)
  unhalved = record { found = λ parted. (λ k d a b. absurd (omega arith), λ k d a b. absurd (omega arith)) }

  pub passed_at : (low high i : ℕ) → i < length xs → HoldsAt (λ y. p y ≡ true) xs i → Halved low high → Halved (i + 1) high
  passed_at low high i h at n = record { found = λ parted. (λ k d a b. parted k i d (omega arith) h (at d), (n.found parted).1) }

  fails_after : (i k : ℕ) (d : X) → IsPartitionedBy p xs → i ≤ k → k < length xs → p (get_or xs i d) ≡ false → (b : Bool) → p (get_or xs k d) ≡ b → b ≡ false
  fails_after i k d parted a b at false e = refl
  fails_after i k d parted a b at true e = absurd (false≢true (sym at ∙ parted i k d a b e))

  pub failed_at : (low high i : ℕ) → i < length xs → HoldsAt (λ y. p y ≡ false) xs i → Halved low high → Halved low i
  failed_at low high i h at n = record { found = λ parted. ((n.found parted).0, λ k d a b. fails_after i k d parted a b (at d) _ refl) }

lt_below : (o p : Ordering) → ordering_index o ≤ ordering_index p → is_lt p ≡ true → is_lt o ≡ true
lt_below Less p h e = refl
lt_below Equal Less h e = absurd (omega arith)
lt_below Equal Equal h e = e
lt_below Equal Greater h e = e
lt_below Greater Less h e = absurd (omega arith)
lt_below Greater Equal h e = e
lt_below Greater Greater h e = e

le_below : (o p : Ordering) → ordering_index o ≤ ordering_index p → is_le p ≡ true → is_le o ≡ true
le_below Less p h e = refl
le_below Equal p h e = refl
le_below Greater Less h e = absurd (omega arith)
le_below Greater Equal h e = absurd (omega arith)
le_below Greater Greater h e = e

module _ {X : Type 0} (ord : X → Ordering) (xs : List X) (rising : IsNonDecreasingBy (λ y. ordering_index (ord y)) xs) where
  pub lt_parted : IsPartitionedBy (λ y. is_lt (ord y)) xs
  lt_parted i j d a b h = lt_below _ _ (rising i j d a b) h

  pub le_parted : IsPartitionedBy (λ y. is_le (ord y)) xs
  le_parted i j d a b h = le_below _ _ (rising i j d a b) h
