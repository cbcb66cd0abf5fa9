-- Sets of marks: none, and one more.
use Rattle.std.proofs.Common.{◌≡◌, ◌≢◌, ℕ, ◌+◌, ◌<◌, Bool, true, false, List, [], ◌∷◌, length, refl, sym, ap, subst, ◌∙◌, inl, inr, arith}
use Rattle.std.specs.Prelude.{IsTrue}
use Rattle.std.proofs.lemmas.Bool.{cases_eq}
use Rattle.std.proofs.lemmas.Grind.{common_steps}
use Rattle.ps_graph.specs.Marking.{is_marked}
use Rattle.ps_graph.specs.declared.marks.Marks.{Marks}

pub none_marked : (m : Marks) → m.numbers.keys ≡ [] → (n : ℕ) → is_marked m n ≡ false
none_marked m e n = rw e refl

pub below_more : (old new : ℕ → Bool) (k : ℕ) → IsTrue (new k) → ((n : ℕ) → n ≢ k → new n ≡ old n) → ((n : ℕ) → n < k → IsTrue (old n)) × ((n : ℕ) → IsTrue (old n) → n < k)
    → ((n : ℕ) → n < k + 1 → IsTrue (new n)) × ((n : ℕ) → IsTrue (new n) → n < k + 1)
below_more old new k here others so_far = (marked, inside)
  where
    marked : (n : ℕ) → n < k + 1 → IsTrue (new n)
    marked n h = elim (cases_eq n k) [ inl e ↦ subst (λ j. IsTrue (new j)) (sym e) here | inr d ↦ others n d ∙ so_far.0 n (omega (arith, h, d)) ]

    inside : (n : ℕ) → IsTrue (new n) → n < k + 1
    inside n h = elim (cases_eq n k) [ inl e ↦ omega (arith, e) | inr d ↦ let i = so_far.1 n (sym (others n d) ∙ h) in omega (arith, i) ]

pub no_keys : (keys : List ℕ) → length keys ≡ 0 → keys ≡ []
no_keys [] e = refl
no_keys (x ∷ xs) e = absurd (omega (arith, e))

-- where no number is marked there is no key
pub some_marked : (m : Marks) → ((n : ℕ) → is_marked m n ≡ false) → length m.numbers.keys ≡ 0
some_marked m none = by m.numbers.keys refl
  where
    by : (keys : List ℕ) → m.numbers.keys ≡ keys → length m.numbers.keys ≡ 0
    by [] e = ap length e
    by (x ∷ xs) e = let clash : true ≡ false = (let f : is_marked m x ≡ false = none x in grind (arith, common_steps)) in absurd (cc)
