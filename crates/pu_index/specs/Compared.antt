-- The items of one iterator compared, or those of two in pairs.
use Rattle.std.specs.Prelude.{◌≡◌, ◌≢◌, Bool, true, false, List, [], ◌∷◌, map, Option, Some, MatchOption, All, ⊤}
use Rattle.std.specs.List.{FoldsTo}
use Rattle.std.specs.Iterator.{YieldsThen}
use Rattle.std.specs.declared.cmp.Ordering.{Ordering}
use Rattle.std.specs.declared.cmp.Ordering.TheVariants.{Less, Equal, Greater}

-- each is equal to the first
abbrev pub AllAlike : {A : Type 0} → (A → A → Bool) → List A → Type 0
AllAlike eq [] = ⊤
AllAlike eq (x ∷ xs) = All (λ y. eq x y ≡ true) xs

module _ {S U T A B F : Type 0} (steps : S → Option A → S → Type 0) (becomes : U → T → Type 0) (others : T → Option B → T → Type 0) where
  -- s and what `other` became gave items in pairs, and a call at each pair in turn, from f on, answered r. Then the two gave o and p, of which Last holds and the f that was left
  abbrev pub PairsWhile : {R : Type 0} → (F → A → B → R → F → Type 0) → S → U → F → R → (Option A → Option B → F → Type 0) → Type 0
  PairsWhile call s other f r Last = (it : T) × (pairs : List (A × B)) × (o : Option A) × (p : Option B) × (u : S) × (v : T) × (g : F) × becomes other it
      × YieldsThen steps s (map (λ q. q.0) pairs) o u × YieldsThen others it (map (λ q. q.1) pairs) p v × FoldsTo (λ h q k. call h q.0 q.1 r k) f pairs g × Last o p g

  -- r is true where both end together, and else false: one ends first, or a call answers false
  abbrev pub ComparesByEq : (F → A → B → Bool → F → Type 0) → S → U → F → Bool → Type 0
  ComparesByEq call s other f r = PairsWhile call s other f true (λ o p g. MatchOption o
      (MatchOption p (r ≡ true) (λ _. r ≡ false))
      (λ x. (r ≡ false) × MatchOption p ⊤ (λ y. (h : F) × call g x y false h)))

  -- the one that ends first is the lesser, and else r is the first answer that isn't `Equal`
  abbrev pub ComparesByPartialCmp : (F → A → B → Option Ordering → F → Type 0) → S → U → F → Option Ordering → Type 0
  ComparesByPartialCmp call s other f r = PairsWhile call s other f (Some Equal) (λ o p g. MatchOption o
      (MatchOption p (r ≡ Some Equal) (λ _. r ≡ Some Less))
      (λ x. MatchOption p (r ≡ Some Greater) (λ y. (r ≢ Some Equal) × ((h : F) × call g x y r h))))
