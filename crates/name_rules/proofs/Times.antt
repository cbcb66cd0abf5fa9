-- How often a name stands among names, and names that came to be known, each once.
use Rattle.std.proofs.Common.{◌≡◌, ◌⊎◌, inl, inr, ℕ, ◌+◌, ◌<◌, ◌≤◌, ◌^◌, Bool, true, false, not, cond, List, [], ◌∷◌, ◌++◌, refl, sym, ap, subst, ◌∙◌, arith}
use Rattle.std.specs.Prelude.{◌&&◌, ◌||◌}
use Rattle.std.specs.Cmp.Lexicographic.{bytes_decides}
use Rattle.std.specs.Str.{bytes_eq}
use Rattle.std.proofs.lemmas.Bool.{cases_lt, or_cases}
use Rattle.ps_frame.specs.Frames.{has_distinct_names, has_name}
use Rattle.ps_frame.specs.Tables.{Fields}
use Rattle.ps_meaning.specs.Schemas.{is_among, names_of}
use Rattle.ps_meaning.specs.StepRefusals.{repeats}
use Rattle.ps_meaning.specs.Steps.{Name}
use Rattle.ps_rules.specs.Names.{IsKnown, Names, after_fresh, fresh_name}
use Rattle.ps_rules.specs.Slots.{State, after_name, after_names, new_name, new_names}
use Rattle.ps_rules.proofs.Free.{fresh_known, fresh_unknown}
use Rattle.ps_shares.proofs.FlatLength.{both_hold}
use Rattle.ps_shares.proofs.Fresh.{Grown, grown_fresh, grown_names}
use Rattle.ps_shares.proofs.Projected.{named_as}
use Rattle.ps_shares.proofs.Stands.{Fresh}

abbrev pub times : Name → List Name → ℕ
times n [] = 0
times n (m ∷ ms) = cond (bytes_eq n m) 1 0 + times n ms

pub times_append : (n : Name) (xs ys : List Name) → times n (xs ++ ys) ≡ times n xs + times n ys
times_append n [] ys = omega arith
times_append n (x ∷ xs) ys = let r = times_append n xs ys in omega arith

pub among_times : (n : Name) (ns : List Name) → is_among n ns ≡ true → 1 ≤ times n ns
among_times n [] h = cc
among_times n (m ∷ ms) h = by (bytes_eq n m) h (among_times n ms)
  where
    by : (b : Bool) → (b || is_among n ms) ≡ true → (is_among n ms ≡ true → 1 ≤ times n ms) → 1 ≤ cond b 1 0 + times n ms
    by true h rest = omega arith
    by false h rest = let le = rest h in omega arith

pub times_among : (n : Name) (ns : List Name) → 1 ≤ times n ns → is_among n ns ≡ true
times_among n [] h = absurd (omega arith)
times_among n (m ∷ ms) h = by (bytes_eq n m) h (times_among n ms)
  where
    by : (b : Bool) → 1 ≤ cond b 1 0 + times n ms → (1 ≤ times n ms → is_among n ms ≡ true) → (b || is_among n ms) ≡ true
    by true h rest = refl
    by false h rest = rest (omega arith)

-- at most once is never twice
pub once_never : (n : Name) (ns : List Name) → times n ns ≤ 1 → repeats n ns ≡ true → ⊥
once_never n [] le h = cc
once_never n (m ∷ ms) le h = by (bytes_eq n m) le h (once_never n ms)
  where
    by : (b : Bool) → cond b 1 0 + times n ms ≤ 1 → ((b && is_among n ms) || repeats n ms) ≡ true → (times n ms ≤ 1 → repeats n ms ≡ true → ⊥) → ⊥
    by true le h rest = elim (or_cases (is_among n ms) (repeats n ms) h) [ inl k ↦ (let some = among_times n ms k in absurd (omega arith)) | inr k ↦ rest (omega arith) k ]
    by false le h rest = rest (omega arith) h

pub never_once : (n : Name) (ns : List Name) → (repeats n ns ≡ true → ⊥) → times n ns ≤ 1
never_once n [] h = omega arith
never_once n (m ∷ ms) h = by (bytes_eq n m) h (never_once n ms) (cases_lt 0 (times n ms))
  where
    by : (b : Bool) → (((b && is_among n ms) || repeats n ms) ≡ true → ⊥) → ((repeats n ms ≡ true → ⊥) → times n ms ≤ 1) → (0 < times n ms) ⊎ (times n ms ≤ 0) → cond b 1 0 + times n ms ≤ 1
    by true h rest (inl lt) = absurd (h (ap (λ b. b || repeats n ms) (times_among n ms (omega arith))))
    by true h rest (inr le) = omega arith
    by false h rest c = let le = rest h in omega arith

none_among : (n : Name) (ns : List Name) → is_among n ns ≡ false → times n ns ≡ 0
none_among n ns h = by (cases_lt 0 (times n ns))
  where
    by : (0 < times n ns) ⊎ (times n ns ≤ 0) → times n ns ≡ 0
    by (inl lt) = let w : true ≡ false = sym (times_among n ns (omega arith)) ∙ h in cc
    by (inr le) = omega arith

not_true : (b : Bool) → not b ≡ true → b ≡ false
not_true false h = refl
not_true true h = sym h

pub distinct_once : (s : Fields) → has_distinct_names s ≡ true → (n : Name) → times n (names_of s) ≤ 1
distinct_once [] d n = omega arith
distinct_once (f ∷ s) d n = by (bytes_eq n f.0) refl (distinct_once s b.1 n)
  where
    b : (not (has_name f.0 s) ≡ true) × (has_distinct_names s ≡ true)
    b = both_hold (not (has_name f.0 s)) (has_distinct_names s) d

    by : (t : Bool) → bytes_eq n f.0 ≡ t → times n (names_of s) ≤ 1 → cond t 1 0 + times n (names_of s) ≤ 1
    by true q le =
        let same : n ≡ f.0 = (bytes_decides n f.0).0 q in
        let none = none_among n (names_of s) (named_as n s ∙ ap (λ m. has_name m s) same ∙ not_true (has_name f.0 s) b.0) in
        omega arith
    by false q le = omega arith

-- So often stands each name: at most once, and only one that wasn't known before and is known then.
pub record FreshOnce (a b : Names) (u : Name → ℕ) : Type 0 where
  pub once : (n : Name) → u n ≤ 1
  pub fresh : (n : Name) → 1 ≤ u n → Fresh a b n

pub none_fresh : (a b : Names) → FreshOnce a b (λ n. 0)
none_fresh a b = record { once = λ n. omega arith; fresh = λ n h. absurd (omega arith) }

pub fewer_fresh : (a b : Names) (u v : Name → ℕ) → ((n : Name) → v n ≤ u n) → FreshOnce a b u → FreshOnce a b v
fewer_fresh a b u v le h =
    record {
      once = λ n. let p = le n in let q = h.once n in omega arith;
      fresh = λ n some. let p = le n in h.fresh n (omega arith);
    }

pub then_fresh : (a b c : Names) (u v : Name → ℕ) → Grown a b → Grown b c → FreshOnce a b u → FreshOnce b c v → FreshOnce a c (λ n. u n + v n)
then_fresh a b c u v g k p q = record { once = λ n. once n (cases_lt 0 (u n)) (cases_lt 0 (v n)); fresh = λ n some. fresh n some (cases_lt 0 (u n)) }
  where
    once : (n : Name) → (0 < u n) ⊎ (u n ≤ 0) → (0 < v n) ⊎ (v n ≤ 0) → u n + v n ≤ 1
    once n (inl x) (inl y) = absurd ((q.fresh n (omega arith)).0 (p.fresh n (omega arith)).1)
    once n (inl x) (inr y) = let le = p.once n in omega arith
    once n (inr x) y = let le = q.once n in omega arith

    fresh : (n : Name) → 1 ≤ u n + v n → (0 < u n) ⊎ (u n ≤ 0) → Fresh a c n
    fresh n some (inl x) = let f = p.fresh n (omega arith) in (f.0, k.0 n f.1)
    fresh n some (inr x) = let f = q.fresh n (omega arith) in ((λ known. f.0 (g.0 n known)), f.1)

-- known names aren't among them
pub known_none : (a b : Names) (u : Name → ℕ) → FreshOnce a b u → (n : Name) → IsKnown a n → u n ≡ 0
known_none a b u h n known = by (cases_lt 0 (u n))
  where
    by : (0 < u n) ⊎ (u n ≤ 0) → u n ≡ 0
    by (inl lt) = absurd ((h.fresh n (omega arith)).0 known)
    by (inr le) = omega arith

pub one_fresh : (a : Names) → (after_fresh a).next ≤ 2 ^ 64 → FreshOnce a (after_fresh a) (λ n. times n (fresh_name a ∷ []))
one_fresh a small = record { once = λ n. once (bytes_eq n (fresh_name a)); fresh = λ n some. fresh n (bytes_eq n (fresh_name a)) refl some }
  where
    once : (b : Bool) → cond b 1 0 + 0 ≤ 1
    once true = omega arith
    once false = omega arith

    fresh : (n : Name) (b : Bool) → bytes_eq n (fresh_name a) ≡ b → 1 ≤ cond b 1 0 + 0 → Fresh a (after_fresh a) n
    fresh n true q some = subst (Fresh a (after_fresh a)) (sym ((bytes_decides n (fresh_name a)).0 q)) (fresh_unknown a small, fresh_known a small)
    fresh n false q some = absurd (omega arith)

pub names_fresh : {A : Type 0} (xs : List A) (s : State) → (after_names xs s).names.next ≤ 2 ^ 64 → FreshOnce s.names (after_names xs s).names (λ n. times n (new_names xs s))
names_fresh [] s small = none_fresh s.names s.names
names_fresh (x ∷ xs) s small =
    let g = grown_names xs (after_name s) in
    let le = g.1 in
    let a = s.names in
    let b = (after_name s).names in
    let c = (after_names xs (after_name s)).names in
    let u : Name → ℕ = λ n. times n (new_name s ∷ []) in
    let v : Name → ℕ = λ n. times n (new_names xs (after_name s)) in
    fewer_fresh a c (λ n. u n + v n) (λ n. times n (new_name s ∷ new_names xs (after_name s))) (λ n. omega arith) (then_fresh a b c u v (grown_fresh a) g (one_fresh a (omega arith)) (names_fresh xs (after_name s) small))
