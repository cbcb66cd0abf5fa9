-- Marks after a write, and the looks that are left then.
use Rattle.std.proofs.Common.{◌≡◌, ◌≢◌, ℕ, zero, suc, ◌+◌, ◌⊎◌, inl, inr, List, [], ◌∷◌, length, set, slice_get, sym, ◌∙◌, subst, arith}
use Rattle.std.specs.Prelude.{Some}
use Rattle.std.proofs.lemmas.Option.{slice_get_within}
use Rattle.ps_survey.specs.Search.{IsMarked, looks, looks_left}
use Rattle.ps_survey.specs.declared.search.Mark.{Mark}
use Rattle.ps_survey.proofs.Lists.{same-or-not, slice_get-set_other, slice_get-set_same}

pub mark-here : (marks : List Mark) (i : ℕ) (a b : Mark) → IsMarked marks i a → IsMarked (set marks i b) i b
mark-here marks i a b h = slice_get-set_same marks i b (slice_get_within marks i a h)

pub mark-other : (marks : List Mark) (i n : ℕ) (a b : Mark) → n ≢ i → IsMarked marks n a → IsMarked (set marks i b) n a
mark-other marks i n a b d h = slice_get-set_other marks i n b d ∙ h

-- a mark after a write is the one that was written or one from before
pub mark-cases : (marks : List Mark) (i n : ℕ) (a b c : Mark) → IsMarked marks i a → IsMarked (set marks i b) n c → ((n ≡ i) × (b ≡ c)) ⊎ ((n ≢ i) × IsMarked marks n c)
mark-cases marks i n a b c was h = by (same-or-not n i)
  where
    by : (n ≡ i) ⊎ (n ≢ i) → ((n ≡ i) × (b ≡ c)) ⊎ ((n ≢ i) × IsMarked marks n c)
    by (inl e) = let w : slice_get (set marks i b) i ≡ Some c = subst (λ k. slice_get (set marks i b) k ≡ Some c) e h in
        let v : Some b ≡ Some c = sym (mark-here marks i a b was) ∙ w in
        inl (e, cc)
    by (inr d) = inr (d, sym (slice_get-set_other marks i n b d) ∙ h)

-- a number has one mark
pub one-mark : (marks : List Mark) (n : ℕ) (a b : Mark) → IsMarked marks n a → IsMarked marks n b → a ≡ b
one-mark marks n a b h g = let e : Some a ≡ Some b = sym h ∙ g in cc

-- what one write takes from the looks that are left
pub looks-set : (next : ℕ → List ℕ) (i : ℕ) (marks : List Mark) (n : ℕ) (a b : Mark) → IsMarked marks n a
    → looks_left next i (set marks n b) + looks (length (next (i + n))) a ≡ looks_left next i marks + looks (length (next (i + n))) b
looks-set next i [] n a b h = cc
looks-set next i (m ∷ marks) zero a b h =
    let e : m ≡ a = cc in
    let z : i + 0 ≡ i = omega arith in
    subst (λ k. (looks (length (next i)) b + looks_left next (suc i) marks) + looks (length (next k)) a ≡ (looks (length (next i)) m + looks_left next (suc i) marks) + looks (length (next k)) b) (sym z)
    (subst (λ x. (looks (length (next i)) b + looks_left next (suc i) marks) + looks (length (next i)) a ≡ (looks (length (next i)) x + looks_left next (suc i) marks) + looks (length (next i)) b) (sym e)
    (swap-ends (looks (length (next i)) a) (looks (length (next i)) b) (looks_left next (suc i) marks)))
  where
    swap-ends : (x y z : ℕ) → (y + z) + x ≡ (x + z) + y
    swap-ends x y z = omega arith
looks-set next i (m ∷ marks) (suc n) a b h =
    let z : suc i + n ≡ i + suc n = omega arith in
    let r = subst (λ k. looks_left next (suc i) (set marks n b) + looks (length (next k)) a ≡ looks_left next (suc i) marks + looks (length (next k)) b) z (looks-set next (suc i) marks n a b h) in
    under (looks (length (next i)) m) (looks_left next (suc i) (set marks n b)) (looks_left next (suc i) marks) (looks (length (next (i + suc n))) a) (looks (length (next (i + suc n))) b) r
  where
    under : (x y z a b : ℕ) → y + a ≡ z + b → (x + y) + a ≡ (x + z) + b
    under x y z a b e = omega (arith, e)

pub looks-at : (next : ℕ → List ℕ) (marks : List Mark) (n : ℕ) (a b : Mark) → IsMarked marks n a
    → looks_left next 0 (set marks n b) + looks (length (next n)) a ≡ looks_left next 0 marks + looks (length (next n)) b
looks-at next marks n a b h =
    let z : 0 + n ≡ n = omega arith in
    subst (λ k. looks_left next 0 (set marks n b) + looks (length (next k)) a ≡ looks_left next 0 marks + looks (length (next k)) b) z (looks-set next 0 marks n a b h)
