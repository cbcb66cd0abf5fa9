-- The least free number, and names that are no temporary ones.
use Rattle.std.proofs.Common.{◌≡◌, ◌≢◌, ◌⊎◌, inl, inr, ℕ, zero, suc, ◌+◌, ◌^◌, ◌≤◌, ◌<◌, Bool, true, false, cond, List, [], ◌∷◌, ◌++◌, length, refl, sym, ap, ◌∙◌, arith}
use Rattle.std.specs.Prelude.{codes, decimal, ◌||◌, ◌==◌}
use Rattle.std.specs.Str.Parse.{digits_value}
use Rattle.std.proofs.lemmas.Bool.{eq-eqb, eqb-true}
use Rattle.std.proofs.lemmas.Fmt.{decimal_injective, decimal_is_IsNumeral}
use Rattle.std.proofs.lemmas.List.{append_cancel_left}
use Rattle.ps_meaning.specs.Steps.{Name}
use Rattle.ps_rules.specs.Names.{IsKnown, IsTemporary, Names, after_fresh, free_number, fresh_name, fresh_number, is_taken, temporary}

or_true : (a b : Bool) → a ≡ true → (a || b) ≡ true
or_true a b e = ap (λ c. c || b) e

or_last : (a b : Bool) → b ≡ true → (a || b) ≡ true
or_last true b e = refl
or_last false b e = e

or_rest : (a b : Bool) → a ≡ false → (a || b) ≡ true → b ≡ true
or_rest true b q h = cc
or_rest false b q h = h

-- the numbers without the first that is this one
abbrev without_one : ℕ → List ℕ → List ℕ
without_one n [] = []
without_one n (x ∷ xs) = cond (x == n) xs (x ∷ without_one n xs)

shorter : (n : ℕ) (xs : List ℕ) → is_taken n xs ≡ true → suc (length (without_one n xs)) ≡ length xs
shorter n [] h = cc
shorter n (x ∷ xs) h = by (x == n) refl (shorter n xs)
  where
    by : (b : Bool) → (x == n) ≡ b → (is_taken n xs ≡ true → suc (length (without_one n xs)) ≡ length xs) → suc (length (without_one n (x ∷ xs))) ≡ suc (length xs)
    by true q rest = ap (λ b. suc (length (cond b xs (x ∷ without_one n xs)))) q
    by false q rest = ap (λ b. suc (length (cond b xs (x ∷ without_one n xs)))) q ∙ ap suc (rest (or_rest (x == n) (is_taken n xs) q h))

unlike : (x m n : ℕ) → m ≢ n → (x == n) ≡ true → (x == m) ≡ false
unlike x m n differ q = by (x == m) refl
  where
    by : (b : Bool) → (x == m) ≡ b → (x == m) ≡ false
    by false p = p
    by true p = absurd (differ (sym (eqb-true x m p) ∙ eqb-true x n q))

still : (m n : ℕ) (xs : List ℕ) → m ≢ n → is_taken m xs ≡ true → is_taken m (without_one n xs) ≡ true
still m n [] differ h = cc
still m n (x ∷ xs) differ h = by (x == n) (x == m) refl refl (still m n xs differ)
  where
    by : (a b : Bool) → (x == n) ≡ a → (x == m) ≡ b → (is_taken m xs ≡ true → is_taken m (without_one n xs) ≡ true) → is_taken m (without_one n (x ∷ xs)) ≡ true
    by true b p q rest = ap (λ b. is_taken m (cond b xs (x ∷ without_one n xs))) p ∙ or_rest (x == m) (is_taken m xs) (unlike x m n differ p) h
    by false true p q rest = ap (λ b. is_taken m (cond b xs (x ∷ without_one n xs))) p ∙ or_true (x == m) (is_taken m (without_one n xs)) q
    by false false p q rest = ap (λ b. is_taken m (cond b xs (x ∷ without_one n xs))) p ∙ or_last (x == m) (is_taken m (without_one n xs)) (rest (or_rest (x == m) (is_taken m xs) q h))

-- the number that is found isn't below the first
pub free_from : (tries : ℕ) (taken : List ℕ) (k : ℕ) → k ≤ free_number tries taken k
free_from zero taken k = omega arith
free_from (suc tries) taken k = by (is_taken k taken) (free_from tries taken (k + 1))
  where
    by : (b : Bool) → k + 1 ≤ free_number tries taken (k + 1) → k ≤ cond b (free_number tries taken (k + 1)) k
    by true h = omega arith
    by false h = omega arith

-- each number that was passed over is taken
pub passed_taken : (tries : ℕ) (taken : List ℕ) (k j : ℕ) → k ≤ j → j < free_number tries taken k → is_taken j taken ≡ true
passed_taken zero taken k j le lt = absurd (omega arith)
passed_taken (suc tries) taken k j le lt = by (is_taken k taken) refl lt (passed_taken tries taken (k + 1) j)
  where
    by : (b : Bool) → is_taken k taken ≡ b → j < cond b (free_number tries taken (k + 1)) k → (k + 1 ≤ j → j < free_number tries taken (k + 1) → is_taken j taken ≡ true) → is_taken j taken ≡ true
    by false q lt rest = absurd (omega arith)
    by true q lt rest = at (j == k) refl
      where
        at : (b : Bool) → (j == k) ≡ b → is_taken j taken ≡ true
        at true p = ap (λ i. is_taken i taken) (eqb-true j k p) ∙ q
        at false p = let differ : j ≢ k = λ e. let w : true ≡ false = sym (eq-eqb j k e) ∙ p in cc in rest (omega arith) lt

none_taken : (n : ℕ) (left : List ℕ) → length left ≤ 0 → is_taken n left ≡ false
none_taken n [] h = refl
none_taken n (x ∷ left) h = absurd (omega arith)

-- All taken numbers at or above k stand in what is left, which is no longer than there are tries.
found_free : (tries : ℕ) (taken : List ℕ) (k : ℕ) (left : List ℕ) → length left ≤ tries → ((j : ℕ) → k ≤ j → is_taken j taken ≡ true → is_taken j left ≡ true) → is_taken (free_number tries taken k) taken ≡ false
found_free zero taken k left short all = by (is_taken k taken) refl
  where
    by : (b : Bool) → is_taken k taken ≡ b → is_taken k taken ≡ false
    by false q = q
    by true q = let w : true ≡ false = sym (all k (omega arith) q) ∙ none_taken k left short in cc
found_free (suc tries) taken k left short all = by (is_taken k taken) refl (λ short' all'. found_free tries taken (k + 1) (without_one k left) short' all')
  where
    by : (b : Bool) → is_taken k taken ≡ b
        → (length (without_one k left) ≤ tries → ((j : ℕ) → k + 1 ≤ j → is_taken j taken ≡ true → is_taken j (without_one k left) ≡ true) → is_taken (free_number tries taken (k + 1)) taken ≡ false)
        → is_taken (free_number (suc tries) taken k) taken ≡ false
    by false q rest = ap (λ b. is_taken (cond b (free_number tries taken (k + 1)) k) taken) q ∙ q
    by true q rest =
        let s = shorter k left (all k (omega arith) q) in
        ap (λ b. is_taken (cond b (free_number tries taken (k + 1)) k) taken) q
        ∙ rest (omega arith) (λ j le there. still j k left (λ same. absurd (omega arith)) (all j (omega arith) there))

-- the fresh number isn't taken
pub fresh_free : (names : Names) → is_taken (fresh_number names) names.taken ≡ false
fresh_free names = found_free (length names.taken) names.taken names.next names.taken (omega arith) (λ j le h. h)

sides : (j k : ℕ) → j ≢ k → (j < k) ⊎ (k < j)
sides j k differ = grind arith

-- A number that isn't taken, where all from the counter to it are, is the fresh one.
pub fresh_found : (names : Names) (k : ℕ) → names.next ≤ k → is_taken k names.taken ≡ false → ((j : ℕ) → names.next ≤ j → j < k → is_taken j names.taken ≡ true) → k ≡ fresh_number names
fresh_found names k le free passed = by (k == fresh_number names) refl
  where
    by : (b : Bool) → (k == fresh_number names) ≡ b → k ≡ fresh_number names
    by true q = eqb-true k (fresh_number names) q
    by false q =
        let differ : k ≢ fresh_number names = λ e. let w : true ≡ false = sym (eq-eqb k (fresh_number names) e) ∙ q in cc in
        let from = free_from (length names.taken) names.taken names.next in
        let below : k < fresh_number names → true ≡ false = λ lt. sym (passed_taken (length names.taken) names.taken names.next k le lt) ∙ free in
        let above : fresh_number names < k → true ≡ false = λ lt. sym (passed (fresh_number names) from lt) ∙ fresh_free names in
        elim (sides k (fresh_number names) differ) [ inl lt ↦ (let w : true ≡ false = below lt in cc) | inr lt ↦ (let w : true ≡ false = above lt in cc) ]

-- a name of a number of 64 bits is the name of no other
pub temporary_once : (j k : ℕ) → j < 2 ^ 64 → k < 2 ^ 64 → temporary j ≡ temporary k → j ≡ k
temporary_once j k p q e = decimal_injective j k p q (append_cancel_left (codes "__POLARS_STMP_") (decimal j) (decimal k) e)

-- what stands behind the word is how the number that it reads as is written
pub written_so : (rest : List ℕ) (k : ℕ) → IsTemporary k (codes "__POLARS_STMP_" ++ rest) → (k ≡ digits_value 10 rest) × (rest ≡ decimal (digits_value 10 rest))
written_so rest k t =
    let e : rest ≡ decimal k = append_cancel_left (codes "__POLARS_STMP_") rest (decimal k) t.1 in
    let v : k ≡ digits_value 10 rest = sym (decimal_is_IsNumeral k t.0).1 ∙ ap (digits_value 10) (sym e) in
    (v, e ∙ ap decimal v)

-- where the counter stays in 64 bits, the fresh name wasn't known
pub fresh_unknown : (names : Names) → (after_fresh names).next ≤ 2 ^ 64 → ¬ IsKnown names (fresh_name names)
fresh_unknown names small known =
    let from = free_from (length names.taken) names.taken names.next in
    let free = fresh_free names in
    elim (known (fresh_number names) (omega arith, refl)) [ inl lt ↦ absurd (omega arith) | inr is ↦ (let w : true ≡ false = sym is ∙ free in cc) ]

-- and is known then
pub fresh_known : (names : Names) → (after_fresh names).next ≤ 2 ^ 64 → IsKnown (after_fresh names) (fresh_name names)
fresh_known names small k t = let e : fresh_number names ≡ k = temporary_once (fresh_number names) k (omega arith) t.0 t.1 in inl (omega arith)

-- what was known still is
pub still_known : (names : Names) (n : Name) → IsKnown names n → IsKnown (after_fresh names) n
still_known names n known k t =
    let le = free_from (length names.taken) names.taken names.next in
    elim (known k t) [ inl lt ↦ inl (omega arith) | inr is ↦ inr is ]
