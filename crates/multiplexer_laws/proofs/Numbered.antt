-- The numbers of multiplexers, and the ports that readers take.
use Rattle.std.proofs.Common.{◌≡◌, ◌≢◌, ◌⊎◌, inl, inr, ℕ, zero, suc, ◌+◌, ◌<◌, ◌≤◌, Bool, true, false, get_or, List, [], ◌∷◌, ◌++◌, length, map, Option, Some, None, refl, sym, ap, subst, ◌∙◌, arith}
use Rattle.std.proofs.lemmas.Bool.{eqb-false, eqb-true, ne_eqb}
use Rattle.std.specs.Prelude.{if◌then◌else◌, unwrap_or, ◌==◌, ◌&&◌}
use Rattle.multiplexer_laws.proofs.Counting.{times_append}
use Rattle.multiplexer_laws.proofs.Members.{Apart, Stands, front_or_more, got_stands, no_stand, not_both, stands_here, stands_more}
use Rattle.ps_multiplexers.specs.Multiplexers.{inputs_through, multiplexer_number, port_or_stream, read_again, times}
use Rattle.ps_multiplexers.specs.Taken.{takes}
use Rattle.ps_phys.specs.Walks.{Stream, is_one_of, numbers_of}

-- one, where the test holds
abbrev one_if : Bool → ℕ
one_if b = if b then 1 else 0

times_here : (m : ℕ) (before : List ℕ) → times m (before ++ m ∷ []) ≡ times m before + 1
times_here m before =
    let e = times_append m before (m ∷ []) in
    let one = by (m == m) refl in
    omega (arith, e, one)
  where
    by : (b : Bool) → m == m ≡ b → one_if b ≡ 1
    by true e = refl
    by false e = absurd (eqb-false m m e refl)

-- a number that was read twice is not read for the second time again
later : (n : ℕ) (before ns : List ℕ) → 2 ≤ times n before → Stands n (read_again before ns) → ⊥
later n before [] h e = cc
later n before (m ∷ ns) h e = by (times m before == 1) refl e (later n (before ++ m ∷ []) ns (let l = times_append n before (m ∷ []) in omega (arith, l, h)))
  where
    which : times m before ≡ 1 → (m ≡ n) ⊎ Stands n (read_again (before ++ m ∷ []) ns) → (Stands n (read_again (before ++ m ∷ []) ns) → ⊥) → ⊥
    which one (inl is) rest = let P : ℕ → Type 0 = λ x. times x before ≡ 1 in let k = subst P is one in omega (arith, h, k)
    which one (inr k) rest = rest k

    by : (b : Bool) → times m before == 1 ≡ b → Stands n ((if b then m ∷ [] else []) ++ read_again (before ++ m ∷ []) ns) → (Stands n (read_again (before ++ m ∷ []) ns) → ⊥) → ⊥
    by true f k rest = which (eqb-true (times m before) 1 f) (front_or_more n m (read_again (before ++ m ∷ []) ns) k) rest
    by false f k rest = rest k

-- each number that is read again is so once
pub again_apart : (before ns : List ℕ) → Apart (read_again before ns)
again_apart before [] = tt
again_apart before (m ∷ ns) = by (times m before == 1) refl (again_apart (before ++ m ∷ []) ns)
  where
    by : (b : Bool) → times m before == 1 ≡ b → Apart (read_again (before ++ m ∷ []) ns) → Apart ((if b then m ∷ [] else []) ++ read_again (before ++ m ∷ []) ns)
    by true f rest =
        let one = eqb-true (times m before) 1 f in
        let more = times_here m before in
        (no_stand m (read_again (before ++ m ∷ []) ns) (λ e. later m (before ++ m ∷ []) ns (omega (arith, one, more)) e), rest)
    by false f rest = rest

-- and is read
pub again_read : (n : ℕ) (before ns : List ℕ) → Stands n (read_again before ns) → Stands n ns
again_read n before [] e = e
again_read n before (m ∷ ns) e = by (times m before == 1) e (λ k. again_read n (before ++ m ∷ []) ns k)
  where
    which : (m ≡ n) ⊎ Stands n (read_again (before ++ m ∷ []) ns) → (Stands n (read_again (before ++ m ∷ []) ns) → Stands n ns) → Stands n (m ∷ ns)
    which (inl is) rest = stands_here n m ns is
    which (inr k) rest = stands_more n m ns (rest k)

    by : (b : Bool) → Stands n ((if b then m ∷ [] else []) ++ read_again (before ++ m ∷ []) ns) → (Stands n (read_again (before ++ m ∷ []) ns) → Stands n ns) → Stands n (m ∷ ns)
    by true k rest = which (front_or_more n m (read_again (before ++ m ∷ []) ns) k) rest
    by false k rest = stands_more n m ns (rest k)

-- the number of the one at a place
pub number_at : (k : ℕ) (ms : List ℕ) (j : ℕ) → Apart ms → j < length ms → multiplexer_number k ms (get_or ms j 0) ≡ Some (k + j)
number_at k [] j a h = absurd (omega (arith, h))
number_at k (m ∷ ms) zero a h = by (m == m) refl
  where
    by : (b : Bool) → m == m ≡ b → (if b then Some k else multiplexer_number (k + 1) ms m) ≡ Some (k + 0)
    by true e = ap (λ (n : ℕ). Some n) (omega arith)
    by false e = absurd (eqb-false m m e refl)
number_at k (m ∷ ms) (suc j) a h =
    ap (λ b. if b then Some k else multiplexer_number (k + 1) ms (get_or ms j 0)) (ne_eqb m (get_or ms j 0) other) ∙ number_at (k + 1) ms j a.1 (omega (arith, h)) ∙ ap (λ (n : ℕ). Some n) (omega arith)
  where
    other : m ≡ get_or ms j 0 → ⊥
    other is = let P : ℕ → Type 0 = λ x. Stands x ms in not_both (is_one_of m ms) (subst P (sym is) (got_stands ms j (omega (arith, h)))) a.0

-- a number that stands in the list has a place
pub number_found : (k : ℕ) (ms : List ℕ) (n : ℕ) → Stands n ms → (m : ℕ) × (multiplexer_number k ms n ≡ Some m)
number_found k [] n h = cc
number_found k (x ∷ ms) n h = by (x == n) refl (front_or_more n x ms h) (λ e. number_found (k + 1) ms n e)
  where
    by : (b : Bool) → x == n ≡ b → (x ≡ n) ⊎ Stands n ms → (Stands n ms → (m : ℕ) × (multiplexer_number (k + 1) ms n ≡ Some m)) → (m : ℕ) × ((if b then Some k else multiplexer_number (k + 1) ms n) ≡ Some m)
    by true e w rest = (k, refl)
    by false e (inl is) rest = absurd (eqb-false x n e is)
    by false e (inr s) rest = rest s

module _ (number : ℕ → Option ℕ) where
  -- the number that a reader of this number reads
  abbrev pub through : ℕ → ℕ
  through n = unwrap_or (number n) n

  port_number : (s : Stream) (o : Option ℕ) (others : ℕ) → (port_or_stream s o others).0 ≡ unwrap_or o s.0
  port_number s None others = refl
  port_number s (Some m) others = refl

  pub numbers_through : (before : List ℕ) (ss : List Stream) → numbers_of (inputs_through number before ss) ≡ map through (numbers_of ss)
  numbers_through before [] = refl
  numbers_through before (s ∷ ss) = λ i. port_number s (number s.0) (times s.0 before) i ∷ numbers_through (before ++ s.0 ∷ []) ss i

  module _ (q k : ℕ) (has : number q ≡ Some k) where
    -- each port from the next one on is taken, as far as there are readers
    pub port_taken : (p : ℕ) (before : List ℕ) (ss : List Stream) → times q before ≤ p → p < times q before + times q (numbers_of ss) → 1 ≤ takes (k, p) (inputs_through number before ss)
    port_taken p before [] a b = absurd (omega (arith, a, b))
    port_taken p before (s ∷ ss) a b = by (s.0 == q) refl b (λ l m. port_taken p (before ++ s.0 ∷ []) ss l m)
      where
        rest : ℕ
        rest = takes (k, p) (inputs_through number (before ++ s.0 ∷ []) ss)

        first : (s.0 ≡ q) → times q before ≡ p → 1 ≤ takes (k, p) (port_or_stream s (number s.0) (times s.0 before) ∷ inputs_through number (before ++ s.0 ∷ []) ss)
        first is at =
            let P : Option ℕ → Type 0 = λ o. 1 ≤ takes (k, p) (port_or_stream s o (times s.0 before) ∷ inputs_through number (before ++ s.0 ∷ []) ss) in
            subst P (sym (ap number is ∙ has)) (here (k == k) (times s.0 before == p) refl refl)
          where
            here : (a b : Bool) → k == k ≡ a → times s.0 before == p ≡ b → 1 ≤ (if a && b then 1 else 0) + takes (k, p) (inputs_through number (before ++ s.0 ∷ []) ss)
            here true true e f = omega arith
            here true false e f = absurd (eqb-false (times s.0 before) p f (ap (λ x. times x before) is ∙ at))
            here false b e f = absurd (eqb-false k k e refl)

        more : 1 ≤ takes (k, p) (inputs_through number (before ++ s.0 ∷ []) ss) → 1 ≤ takes (k, p) (port_or_stream s (number s.0) (times s.0 before) ∷ inputs_through number (before ++ s.0 ∷ []) ss)
        more l = omega (arith, l)

        grown : (b : Bool) → s.0 == q ≡ b → times q (before ++ s.0 ∷ []) ≡ times q before + (if b then 1 else 0)
        grown b e = let one : (if s.0 == q then 1 else 0) ≡ (if b then 1 else 0) = ap {B = ℕ} (λ x. if x then 1 else 0) e in let g = times_append q before (s.0 ∷ []) in omega (arith, g, one)

        by : (c : Bool) → s.0 == q ≡ c → p < times q before + ((if c then 1 else 0) + times q (numbers_of ss))
            → (times q (before ++ s.0 ∷ []) ≤ p → p < times q (before ++ s.0 ∷ []) + times q (numbers_of ss) → 1 ≤ takes (k, p) (inputs_through number (before ++ s.0 ∷ []) ss))
            → 1 ≤ takes (k, p) (port_or_stream s (number s.0) (times s.0 before) ∷ inputs_through number (before ++ s.0 ∷ []) ss)
        by true e b' ih = which (times q before == p) refl
          where
            which : (d : Bool) → times q before == p ≡ d → 1 ≤ takes (k, p) (port_or_stream s (number s.0) (times s.0 before) ∷ inputs_through number (before ++ s.0 ∷ []) ss)
            which true f = first (eqb-true s.0 q e) (eqb-true (times q before) p f)
            which false f =
                let apart = eqb-false (times q before) p f in
                let g = grown true e in
                more (ih (above g apart) (omega (arith, g, b')))
              where
                above : times q (before ++ s.0 ∷ []) ≡ times q before + 1 → times q before ≢ p → times q (before ++ s.0 ∷ []) ≤ p
                above g apart = omega (arith, g, apart, a)
        by false e b' ih = let g = grown false e in more (ih (omega (arith, g, a)) (omega (arith, g, b')))

    -- as many read the multiplexer as read what it reads
    pub times_through : ((x : ℕ) → number x ≡ Some k → x ≡ q) → (ns : List ℕ) → is_one_of k ns ≡ false → times k (map through ns) ≡ times q ns
    times_through only [] new = refl
    times_through only (n ∷ ns) new = let rest = times_through only ns (no_stand k ns (λ e. not_both (is_one_of k (n ∷ ns)) (stands_more k n ns e) new)) in by (number n) refl (n == q) refl rest
      where
        sums : (a b : Bool) → a ≡ b → times k (map through ns) ≡ times q ns → (if a then 1 else 0) + times k (map through ns) ≡ (if b then 1 else 0) + times q ns
        sums a b e rest = let one : (if a then 1 else 0) ≡ (if b then 1 else 0) = ap {B = ℕ} (λ x. if x then 1 else 0) e in omega (arith, one, rest)

        some : (m : ℕ) → number n ≡ Some m → (b : Bool) → n == q ≡ b → m == k ≡ b
        some m e true f = let is : n ≡ q = eqb-true n q f in let same : m ≡ k = ap (λ o. unwrap_or o 0) (sym e ∙ ap number is ∙ has) in let P : ℕ → Type 0 = λ x. x == k ≡ true in subst P (sym same) (self k)
          where
            self : (x : ℕ) → x == x ≡ true
            self x = here (x == x) refl
              where
                here : (b : Bool) → x == x ≡ b → x == x ≡ true
                here true e = e
                here false e = absurd (eqb-false x x e refl)
        some m e false f = ne_eqb m k (λ is. eqb-false n q f (only n (e ∙ ap (λ (x : ℕ). Some x) is)))

        none : number n ≡ None → (b : Bool) → n == q ≡ b → n == k ≡ b
        none e true f = let never : None ≡ Some k = sym e ∙ ap number (eqb-true n q f) ∙ has in cc
        none e false f = ne_eqb n k (λ is. not_both (is_one_of k (n ∷ ns)) (stands_here k n ns is) new)

        by : (o : Option ℕ) → number n ≡ o → (b : Bool) → n == q ≡ b → times k (map through ns) ≡ times q ns → (if unwrap_or o n == k then 1 else 0) + times k (map through ns) ≡ (if n == q then 1 else 0) + times q ns
        by None e b f rest = sums (n == k) (n == q) (none e b f ∙ sym f) rest
        by (Some m) e b f rest = sums (m == k) (n == q) (some m e b f ∙ sym f) rest
