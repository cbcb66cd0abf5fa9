-- Where names that differ stand, and a map that finds them.
use Rattle.std.proofs.Common.{◌≡◌, ◌≢◌, ℕ, ◌+◌, ◌<◌, ◌≤◌, List, [], ◌∷◌, ◌++◌, length, get_or, take, Bool, true, false, cond, refl, sym, ap, ◌∙◌, arith}
use Rattle.std.specs.Prelude.{AllPairs, Some, None, nat_lt, eqb, position}
use Rattle.std.specs.Cmp.{nat_eq_equiv}
use Rattle.std.specs.Cmp.Lexicographic.{bytes_decides, lists_equiv}
use Rattle.std.specs.List.{position_or_len}
use Rattle.std.specs.Str.{bytes_eq}
use Rattle.std.proofs.lemmas.Bool.{lt-ltb}
use Rattle.std.proofs.lemmas.Bool.Decides.{nat_tests}
use Rattle.std.proofs.lemmas.List.{get_or-take, length-append, length-take, take_more}
use Rattle.std.proofs.lemmas.List.Folds.{position_or_len_push}
use Rattle.std.proofs.lemmas.List.Sums.{position_or_len_is, prefix_len-le-length}

-- the first item that passes
position-at : {A : Type 0} (p : A → Bool) (xs : List A) (i : ℕ) (d : A) → i < length xs → ((k : ℕ) → k < i → p (get_or xs k d) ≡ false) → p (get_or xs i d) ≡ true → position p xs ≡ Some i
position-at p xs i d within before here =
    let at : position_or_len p xs ≡ i = position_or_len_is p xs i d (omega arith) before (λ _. here) in
    let lt : nat_lt (position_or_len p xs) (length xs) ≡ true = lt-ltb _ _ (omega arith) in
    ap (λ b. cond b (Some (position_or_len p xs)) None) lt ∙ ap Some at

-- one more item that doesn't pass
past : (n l m k : ℕ) → n ≤ l → m ≡ cond (eqb n l) (l + 1) n → k ≡ l + 1 → cond (nat_lt m k) (Some m) None ≡ cond (nat_lt n l) (Some n) None
past n l m k h e f = grind (arith, nat_tests)

position-past : {A : Type 0} (p : A → Bool) (xs : List A) (y : A) → p y ≡ false → position p (xs ++ y ∷ []) ≡ position p xs
position-past p xs y q =
    past (position_or_len p xs) (length xs) (position_or_len p (xs ++ y ∷ [])) (length (xs ++ y ∷ [])) (prefix_len-le-length _ xs) (position_or_len_push p xs y ∙ ap (λ b. cond (eqb (position_or_len p xs) (length xs)) (length xs + cond b 0 1) (position_or_len p xs)) q) (omega (arith, length-append xs (y ∷ [])))

-- one more of the names has its place
pub placed : (names : List (List ℕ)) (i : ℕ) (name : List ℕ) (q : List ℕ) → AllPairs (λ a b. a ≢ b) names → i < length names → name ≡ get_or names i name
    → cond (bytes_eq name q) (Some i) (position (bytes_eq q) (take i names)) ≡ position (bytes_eq q) (take (i + 1) names)
placed names i name q distinct within is = by (bytes_eq name q) refl
  where
    more : take (i + 1) names ≡ take i names ++ name ∷ []
    more = take_more names i name within ∙ ap (λ (y : List ℕ). take i names ++ y ∷ []) (sym is)

    symmetric : bytes_eq q name ≡ bytes_eq name q
    symmetric = (lists_equiv nat_eq_equiv).symm q name

    by : (b : Bool) → bytes_eq name q ≡ b → cond b (Some i) (position (bytes_eq q) (take i names)) ≡ position (bytes_eq q) (take (i + 1) names)
    by true e =
        let same : name ≡ q = (bytes_decides name q).0 e in
        let there : i < length (take (i + 1) names) = simp length-take (omega arith) in
        sym (position-at (bytes_eq q) (take (i + 1) names) i name there
        (λ k h. let n : k < i + 1 = omega arith in rw get_or-take (other k h same (bytes_eq q (get_or names k name)) refl))
        (let n : i < i + 1 = omega arith in rw get_or-take (ap (bytes_eq q) (sym is) ∙ symmetric ∙ e)))
      where
        other : (k : ℕ) → k < i → name ≡ q → (b : Bool) → bytes_eq q (get_or names k name) ≡ b → bytes_eq q (get_or names k name) ≡ false
        other k h same true f = absurd (distinct k i name h within (sym ((bytes_decides q (get_or names k name)).0 f) ∙ sym same ∙ is))
        other k h same false f = f
    by false e = sym (ap (position (bytes_eq q)) more ∙ position-past (bytes_eq q) (take i names) name (symmetric ∙ e))
