-- How often nodes are read, and the multiplexers that this brings.
use Rattle.std.proofs.Common.{◌≡◌, ◌≢◌, ℕ, suc, ◌+◌, ◌≤◌, Bool, true, false, List, [], ◌∷◌, ◌++◌, length, Option, Some, None, refl, sym, ap, subst, ◌∙◌, arith}
use Rattle.std.proofs.lemmas.List.{append_assoc, append-nil}
use Rattle.std.proofs.lemmas.Bool.{eq-eqb, eqb-false, eqb-true, ne_eqb}
use Rattle.std.specs.Prelude.{if◌then◌else◌, ◌==◌, Err, Ok, OnOk, Result}
use Rattle.keyed_slots.specs.Slots.{Updates, value_at}
use Rattle.ps_multiplexers.specs.Multiplexers.{again, multiplexer_number, read_again, times}
use Rattle.ps_multiplexers.specs.Readers.{AreNoted, IsNoted}
use Rattle.ps_multiplexers.specs.declared.readers.Readers.{Readers}
use Rattle.ps_multiplexers.specs.declared.readers.Readers.TheVariants.{One, Several}
use Rattle.ps_phys.specs.Shown.{stream_of}
use Rattle.ps_phys.specs.declared.phys.PhysStream.{PhysStream}

pub times-append : (n : ℕ) (xs ys : List ℕ) → times n (xs ++ ys) ≡ times n xs + times n ys
times-append n [] ys = omega arith
times-append n (x ∷ xs) ys = let h = times-append n xs ys in omega (arith, h)

pub times-push-same : (n : ℕ) (xs : List ℕ) → times n (xs ++ n ∷ []) ≡ times n xs + 1
times-push-same n xs = times-append n xs (n ∷ []) ∙ ap (λ b. times n xs + ((if b then 1 else 0) + 0)) (eq-eqb n n refl) ∙ omega arith

pub times-push-other : (n m : ℕ) (xs : List ℕ) → m ≢ n → times n (xs ++ m ∷ []) ≡ times n xs
times-push-other n m xs other = times-append n xs (m ∷ []) ∙ ap (λ b. times n xs + ((if b then 1 else 0) + 0)) (ne_eqb m n other) ∙ omega arith

pub times-le-length : (n : ℕ) (xs : List ℕ) → times n xs ≤ length xs
times-le-length n [] = omega arith
times-le-length n (x ∷ xs) = let h = times-le-length n xs in by (x == n) h
  where
    by : (b : Bool) → times n xs ≤ length xs → (if b then 1 else 0) + times n xs ≤ suc (length xs)
    by true h = omega (arith, h)
    by false h = omega (arith, h)

pub number-push-other : (k : ℕ) (ms : List ℕ) (n q : ℕ) → n ≢ q → multiplexer_number k (ms ++ n ∷ []) q ≡ multiplexer_number k ms q
number-push-other k [] n q other = ap (λ b. if b then Some k else None) (ne_eqb n q other)
number-push-other k (m ∷ ms) n q other = ap (λ o. if m == q then Some k else o) (number-push-other (k + 1) ms n q other)

pub number-push-new : (k : ℕ) (ms : List ℕ) (n : ℕ) → multiplexer_number k ms n ≡ None → multiplexer_number k (ms ++ n ∷ []) n ≡ Some (k + length ms)
number-push-new k [] n none = ap (λ b. if b then Some k else None) (eq-eqb n n refl) ∙ ap Some (omega arith)
number-push-new k (m ∷ ms) n none = by (m == n) (number-push-new (k + 1) ms n) none
  where
    by : (b : Bool) → (multiplexer_number (k + 1) ms n ≡ None → multiplexer_number (k + 1) (ms ++ n ∷ []) n ≡ Some (k + 1 + length ms)) → (if b then Some k else multiplexer_number (k + 1) ms n) ≡ None → (if b then Some k else multiplexer_number (k + 1) (ms ++ n ∷ []) n) ≡ Some (k + suc (length ms))
    by true rest e = cc
    by false rest e = rest e ∙ ap Some (omega arith)

pub read_again-push : (before xs : List ℕ) (x : ℕ) → read_again before (xs ++ x ∷ []) ≡ read_again before xs ++ again (before ++ xs) x
read_again-push before [] x = append-nil (again before x) ∙ ap (λ ys. again ys x) (sym (append-nil before))
read_again-push before (y ∷ ys) x =
    ap (λ zs. again before y ++ zs) (read_again-push (before ++ y ∷ []) ys x) ∙ sym (append_assoc (again before y) (read_again (before ++ y ∷ []) ys) (again ((before ++ y ∷ []) ++ ys) x))
    ∙ ap (λ zs. (again before y ++ read_again (before ++ y ∷ []) ys) ++ again zs x) (append_assoc before (y ∷ []) ys)

again-is : (before : List ℕ) (n k : ℕ) (b : Bool) → times n before ≡ k → k == 1 ≡ b → again before n ≡ (if b then n ∷ [] else [])
again-is before n k b e is = ap (λ m. if m == 1 then n ∷ [] else []) e ∙ ap (λ c. if c then n ∷ [] else []) is

along : (k k' : ℕ) (m m' : Option ℕ) (o o' : Option Readers) → k ≡ k' → m ≡ m' → o ≡ o' → IsNoted k m o → IsNoted k' m' o'
along k k' m m' o o' e1 e2 e3 h =
    let P : ℕ → Type 0 = λ x. IsNoted x m o in
    let Q : Option ℕ → Type 0 = λ x. IsNoted k' x o in
    let R : Option Readers → Type 0 = λ x. IsNoted k' m' x in
    subst R e3 (subst Q e2 (subst P e1 h))

module _ (first : ℕ) (read several : List ℕ) (n : ℕ) where
  number-again : (q : ℕ) → n ≢ q → multiplexer_number first (several ++ again read n) q ≡ multiplexer_number first several q
  number-again q other = by (times n read == 1)
    where
      by : (b : Bool) → multiplexer_number first (several ++ (if b then n ∷ [] else [])) q ≡ multiplexer_number first several q
      by true = number-push-other first several n q other
      by false = ap (λ ms. multiplexer_number first ms q) (append-nil several)

  number-none-again : (k : ℕ) → times n read ≡ k → k == 1 ≡ false → multiplexer_number first (several ++ again read n) n ≡ multiplexer_number first several n
  number-none-again k e apart = ap (λ ms. multiplexer_number first (several ++ ms) n) (again-is read n k false e apart) ∙ ap (λ ms. multiplexer_number first ms n) (append-nil several)

  -- what is noted of one node changes
  noted-at : (old new : List (Option Readers)) (entry : Option Readers) → AreNoted first read several old → Updates old new n entry
      → IsNoted (times n read + 1) (multiplexer_number first (several ++ again read n) n) entry → AreNoted first (read ++ n ∷ []) (several ++ again read n) new
  noted-at old new entry noted updates here q = by (n == q) refl
    where
      by : (b : Bool) → n == q ≡ b → IsNoted (times q (read ++ n ∷ [])) (multiplexer_number first (several ++ again read n) q) (value_at new q)
      by true e =
          let P : ℕ → Type 0 = λ m. IsNoted (times m (read ++ n ∷ [])) (multiplexer_number first (several ++ again read n) m) (value_at new m) in
          subst P (eqb-true n q e) (along (times n read + 1) (times n (read ++ n ∷ [])) _ _ entry (value_at new n) (sym (times-push-same n read)) refl (sym updates.changed) here)
      by false e =
          let other : n ≢ q = λ is. eqb-false n q e is in
          let apart : q ≢ n = λ is. other (sym is) in
          along (times q read) (times q (read ++ n ∷ [])) (multiplexer_number first several q) (multiplexer_number first (several ++ again read n) q) (value_at old q) (value_at new q)
          (sym (times-push-other q n read other)) (sym (number-again q other)) (sym (updates.others q apart)) (noted q)

  pub noted-first : (old new : List (Option Readers)) → AreNoted first read several old → None ≡ value_at old n → Updates old new n (Some One) → AreNoted first (read ++ n ∷ []) (several ++ again read n) new
  noted-first old new noted none updates =
      let h = along (times n read) (times n read) (multiplexer_number first several n) (multiplexer_number first several n) (value_at old n) None refl refl (sym none) (noted n) in
      noted-at old new (Some One) noted updates (ap (λ k. k + 1) h.0, number-none-again 0 h.0 refl ∙ h.1)

  pub again-first : (old : List (Option Readers)) → AreNoted first read several old → None ≡ value_at old n → again read n ≡ []
  again-first old noted none =
      let h = along (times n read) (times n read) (multiplexer_number first several n) (multiplexer_number first several n) (value_at old n) None refl refl (sym none) (noted n) in
      again-is read n 0 false h.0 refl

  pub again-second : (old : List (Option Readers)) → AreNoted first read several old → Some One ≡ value_at old n → again read n ≡ n ∷ []
  again-second old noted one =
      let h = along (times n read) (times n read) (multiplexer_number first several n) (multiplexer_number first several n) (value_at old n) (Some One) refl refl (sym one) (noted n) in
      again-is read n 1 true h.0 refl

  pub noted-second : (old new : List (Option Readers)) (s : PhysStream) (count : ℕ) → AreNoted first read several old → Some One ≡ value_at old n → Updates old new n (Some (Several s)) → stream_of s ≡ (count, 0) → count ≡ first + length several
      → AreNoted first (read ++ n ∷ []) (several ++ again read n) new
  noted-second old new s count noted one updates is size =
      let h = along (times n read) (times n read) (multiplexer_number first several n) (multiplexer_number first several n) (value_at old n) (Some One) refl refl (sym one) (noted n) in
      let k = h.0 in
      noted-at old new (Some (Several s)) noted updates (
        omega (arith, k),
        ap (λ ms. multiplexer_number first (several ++ ms) n) (again-second old noted one) ∙ number-push-new first several n h.1 ∙ ap Some (sym size ∙ sym (ap (λ (t : ℕ × ℕ). t.0) is)),
        ap (λ (t : ℕ × ℕ). t.1) is,
      )

  more-than-one : (k : ℕ) → 2 ≤ k → k == 1 ≡ false
  more-than-one k h = ne_eqb k 1 (λ e. omega (arith, h, e))

  pub again-later : (old : List (Option Readers)) (s : PhysStream) → AreNoted first read several old → Some (Several s) ≡ value_at old n → again read n ≡ []
  again-later old s noted more =
      let h = along (times n read) (times n read) (multiplexer_number first several n) (multiplexer_number first several n) (value_at old n) (Some (Several s)) refl refl (sym more) (noted n) in
      again-is read n (times n read) false refl (more-than-one (times n read) h.0)

  pub noted-later : (old : List (Option Readers)) (s : PhysStream) → AreNoted first read several old → Some (Several s) ≡ value_at old n → AreNoted first (read ++ n ∷ []) (several ++ again read n) old
  noted-later old s noted more =
      let h = along (times n read) (times n read) (multiplexer_number first several n) (multiplexer_number first several n) (value_at old n) (Some (Several s)) refl refl (sym more) (noted n) in
      let k = h.0 in
      noted-at old old (Some (Several s)) noted (record { changed = sym more; others = λ q apart. refl })
      (omega (arith, k), number-none-again (times n read) refl (more-than-one (times n read) h.0) ∙ h.1, h.2)

pub always-ok : {E : Type 0} (r : Result Unit E) (A : Type 0) → A → OnOk r A
always-ok (Ok x) A a = a
always-ok (Err e) A a = tt
