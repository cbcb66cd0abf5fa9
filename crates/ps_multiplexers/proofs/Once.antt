-- No stream is taken twice once multiplexers are there.
use Rattle.std.proofs.Common.{◌≡◌, ◌≢◌, ◌⊎◌, inl, inr, ℕ, zero, suc, ◌+◌, ◌-◌, ◌<◌, ◌≤◌, Bool, true, false, get_or, List, [], ◌∷◌, ◌++◌, length, map, Option, Some, None, refl, sym, ap, subst, ◌∙◌, arith}
use Rattle.std.proofs.lemmas.List.{append_assoc, length-append}
use Rattle.std.proofs.lemmas.Bool.{eqb-false, eqb-true, le-ltb, lt-ltb, ltb-false, ltb-true, ne_eqb}
use Rattle.std.specs.Prelude.{flat_map, fold, if◌then◌else◌, nat_lt, ◌==◌, ◌&&◌, ◌||◌}
use Rattle.std.specs.List.{AllByRecursion}
use Rattle.ps_meaning.specs.Shape.{PhysicalNode, Shape}
use Rattle.ps_multiplexers.proofs.Apart.{rewired-other, rewired-streams, walk-apart}
use Rattle.ps_multiplexers.proofs.Finished.{below-again}
use Rattle.ps_multiplexers.proofs.Keeping.{AllBelow, node-left, number-place}
use Rattle.ps_multiplexers.proofs.Noted.{times-append, times-push-other, times-push-same}
use Rattle.ps_multiplexers.specs.Multiplexers.{Waiting, inputs_through, multiplexer_number, multiplexer_of, port_or_stream, push_if_new, read_again, rewired, shared, times, walk_of, walked}
use Rattle.ps_multiplexers.specs.Taken.{ReadsFirstPorts, numbers_from, streams_after, streams_of_nodes, takes}
use Rattle.ps_phys.specs.Walks.{Stream, is_one_of, node_at, numbers_of, numbers_read}

-- one, where the test holds
abbrev one_if : Bool → ℕ
one_if b = if b then 1 else 0

takes-append : (s : Stream) (xs ys : List Stream) → takes s (xs ++ ys) ≡ takes s xs + takes s ys
takes-append s [] ys = omega arith
takes-append s (x ∷ xs) ys = let h = takes-append s xs ys in omega (arith, h)

both-less : (a b : Bool) → (one_if (a && b)) ≤ (one_if a)
both-less true true = omega arith
both-less true false = omega arith
both-less false b = omega arith

-- the streams of multiplexers
takes-firsts : (m p : ℕ) (ms : List ℕ) → takes (m, p) (map (λ (n : ℕ). (n, 0)) ms) ≤ times m ms
takes-firsts m p [] = omega arith
takes-firsts m p (n ∷ ms) = let h = takes-firsts m p ms in let l = both-less (n == m) (0 == p) in omega (arith, h, l)

times-below : (k m : ℕ) (ns : List ℕ) → AllBelow k ns → k ≤ m → times m ns ≡ 0
times-below k m [] all h = refl
times-below k m (n ∷ ns) all h =
    let rest = times-below k m ns all.1 h in
    let here : (one_if (n == m)) ≡ 0 = ap (λ b. one_if b) (ne_eqb n m (λ e. (let l = all.0 in omega (arith, l, h, e)))) in
    omega (arith, rest, here)

-- a node has at most one multiplexer
again-once : (m : ℕ) (before ns : List ℕ) → times m (read_again before ns) + (one_if (nat_lt 1 (times m before))) ≤ 1
again-once m before [] = by (nat_lt 1 (times m before))
  where
    by : (b : Bool) → 0 + (one_if b) ≤ 1
    by true = omega arith
    by false = omega arith
again-once m before (n ∷ ns) = by (n == m) refl (again-once m (before ++ n ∷ []) ns)
  where
    rest : List ℕ
    rest = read_again (before ++ n ∷ []) ns

    other : n ≢ m → times m rest + (one_if (nat_lt 1 (times m (before ++ n ∷ [])))) ≤ 1 → (b : Bool) → times m ((if b then n ∷ [] else []) ++ rest) + (one_if (nat_lt 1 (times m before))) ≤ 1
    other apart ih true =
        let same = times-push-other m n before apart in
        let P : ℕ → Type 0 = λ k. times m rest + (one_if (nat_lt 1 k)) ≤ 1 in
        let kept = subst P same ih in
        let here : (one_if (n == m)) ≡ 0 = ap (λ b. one_if b) (ne_eqb n m apart) in
        omega (arith, kept, here)
    other apart ih false =
        let same = times-push-other m n before apart in
        let P : ℕ → Type 0 = λ k. times m rest + (one_if (nat_lt 1 k)) ≤ 1 in
        subst P same ih

    one-more : (k : ℕ) → times m rest + (one_if (nat_lt 1 (k + 1))) ≤ 1 → (b : Bool) → k == 1 ≡ b → (one_if (n == m)) ≡ 1 → times m ((if b then n ∷ [] else []) ++ rest) + (one_if (nat_lt 1 k)) ≤ 1
    one-more k ih true e here =
        let is = eqb-true k 1 e in
        let up : (one_if (nat_lt 1 (k + 1))) ≡ 1 = ap (λ b. one_if b) (lt-ltb 1 (k + 1) (omega (arith, is))) in
        let down : (one_if (nat_lt 1 k)) ≡ 0 = ap (λ b. one_if b) (le-ltb 1 k (omega (arith, is))) in
        omega (arith, ih, up, down, here)
    one-more k ih false e here = flags (nat_lt 1 k) refl
      where
        flags : (b : Bool) → nat_lt 1 k ≡ b → times m rest + (one_if b) ≤ 1
        flags true f =
            let l = ltb-true 1 k f in
            let up : (one_if (nat_lt 1 (k + 1))) ≡ 1 = ap (λ b. one_if b) (lt-ltb 1 (k + 1) (omega (arith, l))) in
            omega (arith, ih, up)
        flags false f = omega (arith, ih)

    here-is : (b : Bool) → b ≡ true → (one_if b) ≡ 1
    here-is true e = refl
    here-is false e = cc

    by : (b : Bool) → n == m ≡ b → times m rest + (one_if (nat_lt 1 (times m (before ++ n ∷ [])))) ≤ 1 → times m ((if times n before == 1 then n ∷ [] else []) ++ rest) + (one_if (nat_lt 1 (times m before))) ≤ 1
    by true e ih =
        let is : n ≡ m = eqb-true n m e in
        let P : ℕ → Type 0 = λ k. times m rest + (one_if (nat_lt 1 k)) ≤ 1 in
        let Q : ℕ → Type 0 = λ x. times m (before ++ x ∷ []) ≡ times m before + 1 in
        let more : times m (before ++ n ∷ []) ≡ times m before + 1 = subst Q (sym is) (times-push-same m before) in
        let R : ℕ → Type 0 = λ x. times m ((if times x before == 1 then n ∷ [] else []) ++ rest) + (one_if (nat_lt 1 (times m before))) ≤ 1 in
        subst R (sym is) (one-more (times m before) (subst P more ih) (times m before == 1) refl (here-is (n == m) e))
    by false e ih = other (λ is. eqb-false n m e is) ih (times n before == 1)

-- a node that is read twice has one
again-there : (m : ℕ) (before ns : List ℕ) → times m before ≤ 1 → 2 ≤ times m before + times m ns → 1 ≤ times m (read_again before ns)
again-there m before [] few twice = absurd (omega (arith, few, twice))
again-there m before (n ∷ ns) few twice = by (n == m) refl (again-there m (before ++ n ∷ []) ns)
  where
    rest : List ℕ
    rest = read_again (before ++ n ∷ []) ns

    mark : (b : Bool) → n == m ≡ b → (one_if (n == m)) ≡ (one_if b)
    mark b e = ap (λ x. one_if x) e

    longer : (b : Bool) → 1 ≤ times m rest → 1 ≤ times m ((if b then n ∷ [] else []) ++ rest)
    longer true h = omega (arith, h)
    longer false h = h

    first : (b : Bool) → b ≡ true → (one_if (n == m)) ≡ 1 → 1 ≤ times m ((if b then n ∷ [] else []) ++ rest)
    first true e here = omega (arith, here)
    first false e here = cc

    by : (b : Bool) → n == m ≡ b → (times m (before ++ n ∷ []) ≤ 1 → 2 ≤ times m (before ++ n ∷ []) + times m ns → 1 ≤ times m rest) → 1 ≤ times m ((if times n before == 1 then n ∷ [] else []) ++ rest)
    by true e ih =
        let is : n ≡ m = eqb-true n m e in
        let Q : ℕ → Type 0 = λ x. times m (before ++ x ∷ []) ≡ times m before + 1 in
        let more : times m (before ++ n ∷ []) ≡ times m before + 1 = subst Q (sym is) (times-push-same m before) in
        let same : times n before ≡ times m before = ap (λ x. times x before) is in
        let here = mark true e in
        known (either (times n before)) more same here
      where
        either : (k : ℕ) → (k ≡ 1) ⊎ (k ≢ 1)
        either k = which (k == 1) refl
          where
            which : (b : Bool) → k == 1 ≡ b → (k ≡ 1) ⊎ (k ≢ 1)
            which true f = inl (eqb-true k 1 f)
            which false f = inr (λ g. eqb-false k 1 f g)

        known : (times n before ≡ 1) ⊎ (times n before ≢ 1) → times m (before ++ n ∷ []) ≡ times m before + 1 → times n before ≡ times m before → (one_if (n == m)) ≡ 1 → 1 ≤ times m ((if times n before == 1 then n ∷ [] else []) ++ rest)
        known (inl one) more same here = first (times n before == 1) (ap (λ k. k == 1) one) here
        known (inr no_one) more same here =
            let none : times m before ≡ 0 = small (times m before) few (λ g. no_one (same ∙ g)) in
            longer (times n before == 1) (ih (omega (arith, more, none)) (omega (arith, twice, more, here)))
          where
            small : (k : ℕ) → k ≤ 1 → (k ≡ 1 → ⊥) → k ≡ 0
            small zero h f = refl
            small (suc zero) h f = absurd (f refl)
            small (suc (suc k)) h f = absurd (omega (arith, h))
    by false e ih =
        let apart : n ≢ m = λ is. eqb-false n m e is in
        let same = times-push-other m n before apart in
        let here = mark false e in
        longer (times n before == 1) (ih (omega (arith, same, few)) (omega (arith, twice, same, here)))

no-number : (k n : ℕ) (ms : List ℕ) → multiplexer_number k ms n ≡ None → times n ms ≡ 0
no-number k n [] e = refl
no-number k n (m ∷ ms) e = by (m == n) e (no-number (k + 1) n ms)
  where
    by : (b : Bool) → (if b then Some k else multiplexer_number (k + 1) ms n) ≡ None → (multiplexer_number (k + 1) ms n ≡ None → times n ms ≡ 0) → (one_if b) + times n ms ≡ 0
    by true f rest = cc
    by false f rest = let h = rest f in omega (arith, h)

-- what readers take
module _ (nodes : Shape) (several : List ℕ) (several_below : AllBelow (length nodes) several) where
  abbrev number : ℕ → Option ℕ
  number = multiplexer_number (length nodes) several

  high : (n k : ℕ) → number n ≡ Some k → length nodes ≤ k
  high n k e = let r = number-place nodes (length nodes) several n k e in let is = r.1 in omega (arith, is)

  not-same : (a b c d : ℕ) → a ≢ b → (one_if ((a == b) && (c == d))) ≡ 0
  not-same a b c d apart = ap (λ x. one_if (x && (c == d))) (ne_eqb a b apart)

  -- of a node's own stream
  takes-own : (m p : ℕ) (before : List ℕ) (ss : List Stream) → m < length nodes → takes (m, p) (inputs_through number before ss) ≤ times m (numbers_of ss)
  takes-own m p before [] low = omega arith
  takes-own m p before (s ∷ ss) low = by (number s.0) refl (takes-own m p (before ++ s.0 ∷ []) ss low)
    where
      by : (o : Option ℕ) → number s.0 ≡ o → takes (m, p) (inputs_through number (before ++ s.0 ∷ []) ss) ≤ times m (numbers_of ss) → takes (m, p) (port_or_stream s o (times s.0 before) ∷ inputs_through number (before ++ s.0 ∷ []) ss) ≤ times m (s.0 ∷ numbers_of ss)
      by None e h = let l = both-less (s.0 == m) (s.1 == p) in omega (arith, h, l)
      by (Some k) e h =
          let up = high s.0 k e in
          let none = not-same k m (times s.0 before) p (λ is. (omega (arith, up, low, is))) in
          omega (arith, h, none)

  takes-none : (m p j : ℕ) (before : List ℕ) (ss : List Stream) → m < length nodes → number m ≡ Some j → takes (m, p) (inputs_through number before ss) ≡ 0
  takes-none m p j before [] low has = refl
  takes-none m p j before (s ∷ ss) low has = by (number s.0) refl (takes-none m p j (before ++ s.0 ∷ []) ss low has)
    where
      by : (o : Option ℕ) → number s.0 ≡ o → takes (m, p) (inputs_through number (before ++ s.0 ∷ []) ss) ≡ 0 → takes (m, p) (port_or_stream s o (times s.0 before) ∷ inputs_through number (before ++ s.0 ∷ []) ss) ≡ 0
      by None e h =
          let none = not-same s.0 m s.1 p (λ is. (let never : None ≡ Some j = sym e ∙ ap number is ∙ has in cc)) in
          omega (arith, h, none)
      by (Some k) e h =
          let up = high s.0 k e in
          let none = not-same k m (times s.0 before) p (λ is. (omega (arith, up, low, is))) in
          omega (arith, h, none)

  abbrev flag : ℕ → ℕ → ℕ
  flag p k = one_if (nat_lt p k)

  flag-one : (p k : ℕ) → p < k → flag p k ≡ 1
  flag-one p k l = ap (λ b. one_if b) (lt-ltb p k l)

  flag-none : (p k : ℕ) → k ≤ p → flag p k ≡ 0
  flag-none p k l = ap (λ b. one_if b) (le-ltb p k l)

  flag-more : (p k j : ℕ) → k ≤ j → flag p k ≤ flag p j
  flag-more p k j l = by (nat_lt p k) refl
    where
      by : (b : Bool) → nat_lt p k ≡ b → (one_if b) ≤ flag p j
      by true e = let a = ltb-true p k e in let up = flag-one p j (omega (arith, a, l)) in omega (arith, up)
      by false e = omega arith

  -- of a multiplexer's port
  takes-port : (m p q : ℕ) → ((x : ℕ) → number x ≡ Some m → x ≡ q) → length nodes ≤ m → (before : List ℕ) (ss : List Stream) → AllBelow (length nodes) (numbers_of ss) → takes (m, p) (inputs_through number before ss) + flag p (times q before) ≤ 1
  takes-port m p q only up before [] below = let l = flag-more p (times q before) (times q before + p + 1) (omega arith) in let one = flag-one p (times q before + p + 1) (omega arith) in omega (arith, l, one)
  takes-port m p q only up before (s ∷ ss) below = by (number s.0) refl (takes-port m p q only up (before ++ s.0 ∷ []) ss below.1)
    where
      more : times q (before ++ s.0 ∷ []) ≡ times q before + times q (s.0 ∷ [])
      more = times-append q before (s.0 ∷ [])

      rest : ℕ
      rest = takes (m, p) (inputs_through number (before ++ s.0 ∷ []) ss)

      passes : rest + flag p (times q (before ++ s.0 ∷ [])) ≤ 1 → rest + flag p (times q before) ≤ 1
      passes ih = let l = flag-more p (times q before) (times q (before ++ s.0 ∷ [])) (omega (arith, more)) in omega (arith, ih, l)

      both : (k : ℕ) → number s.0 ≡ Some k → rest + flag p (times q (before ++ s.0 ∷ [])) ≤ 1 → (a b : Bool) → k == m ≡ a → times s.0 before == p ≡ b → ((one_if (a && b)) + rest) + flag p (times q before) ≤ 1
      both k e ih true true is at =
          let same : k ≡ m = eqb-true k m is in
          let here : s.0 ≡ q = only s.0 (e ∙ ap (λ (x : ℕ). Some x) same) in
          let count : times s.0 before ≡ p = eqb-true (times s.0 before) p at in
          let was : times q before ≡ p = sym (ap (λ x. times x before) here) ∙ count in
          let P : ℕ → Type 0 = λ x. times q (before ++ x ∷ []) ≡ times q before + 1 in
          let now : times q (before ++ s.0 ∷ []) ≡ times q before + 1 = subst P (sym here) (times-push-same q before) in
          let one = flag-one p (times q (before ++ s.0 ∷ [])) (omega (arith, now, was)) in
          let none = flag-none p (times q before) (omega (arith, was)) in
          omega (arith, ih, one, none)
      both k e ih true false is at = let h = passes ih in omega (arith, h)
      both k e ih false b is at = let h = passes ih in omega (arith, h)

      by : (o : Option ℕ) → number s.0 ≡ o → rest + flag p (times q (before ++ s.0 ∷ [])) ≤ 1 → takes (m, p) (port_or_stream s o (times s.0 before) ∷ inputs_through number (before ++ s.0 ∷ []) ss) + flag p (times q before) ≤ 1
      by None e ih =
          let h = passes ih in
          let low = below.0 in
          let none = not-same s.0 m s.1 p (λ is. (omega (arith, up, low, is))) in
          omega (arith, h, none)
      by (Some k) e ih = both k e ih (k == m) (times s.0 before == p) refl refl

  only-one : (m x : ℕ) → number x ≡ Some m → x ≡ get_or several (m - length nodes) 0
  only-one m x e =
      let r = number-place nodes (length nodes) several x m e in
      let is = r.1 in
      let j : r.0 ≡ m - length nodes = omega (arith, is) in
      sym r.4 ∙ ap (λ k. get_or several k 0) j

-- the nodes of the walk are below the count
fold-below : (k : ℕ) (ns : List ℕ) (w : Waiting) → AllBelow k w.stack → AllBelow k ns → AllBelow k (fold push_if_new w ns).stack
fold-below k [] w a b = a
fold-below k (n ∷ ns) w a b = fold-below k ns (push_if_new w n) (by (is_one_of n w.pushed)) b.1
  where
    by : (c : Bool) → AllBelow k (if c then w else record { stack = n ∷ w.stack; pushed = n ∷ w.pushed }).stack
    by true = a
    by false = (b.0, a)

walked-below : (k : ℕ) (reads : ℕ → List ℕ) → ((n : ℕ) → AllBelow k (reads n)) → (fuel : ℕ) (stack pushed : List ℕ) → AllBelow k stack → AllBelow k (walked reads fuel (record { stack = stack; pushed = pushed }))
walked-below k reads all zero stack pushed a = tt
walked-below k reads all (suc fuel) [] pushed a = tt
walked-below k reads all (suc fuel) (n ∷ stack) pushed a =
    let next = fold push_if_new (record { stack = stack; pushed = pushed }) (reads n) in
    (a.0, walked-below k reads all fuel next.stack next.pushed (fold-below k (reads n) (record { stack = stack; pushed = pushed }) a.1 (all n)))

not-below : (k m : ℕ) (ns : List ℕ) → AllBelow k ns → k ≤ m → is_one_of m ns ≡ false
not-below k m [] all h = refl
not-below k m (n ∷ ns) all h = let l = all.0 in ap (λ b. b || is_one_of m ns) (ne_eqb n m (λ e. (omega (arith, l, h, e)))) ∙ not-below k m ns all.1 h

at-end : (xs ps : Shape) (p : PhysicalNode) → node_at (xs ++ p ∷ ps) (length xs) ≡ p
at-end [] ps p = refl
at-end (x ∷ xs) ps p = at-end xs ps p

-- what multiplexers take
behind-streams : (number : ℕ → Option ℕ) (walk : List ℕ) (base : Shape) (ms : List ℕ) (xs : Shape) → AllBelow (length xs) walk
    → streams_of_nodes (rewired number [] walk (xs ++ map (multiplexer_of base) ms)) (numbers_from (length xs) (length ms)) ≡ map (λ (n : ℕ). (n, 0)) ms
behind-streams number walk base [] xs below = refl
behind-streams number walk base (m ∷ ms) xs below =
    let p = multiplexer_of base m in
    let rest = map (multiplexer_of base) ms in
    let here = rewired-other number walk [] (xs ++ p ∷ rest) (length xs) (not-below (length xs) (length xs) walk below (omega arith)) ∙ at-end xs rest p in
    let longer : length (xs ++ p ∷ []) ≡ length xs + 1 = length-append xs (p ∷ []) in
    let moved : (xs ++ p ∷ []) ++ rest ≡ xs ++ p ∷ rest = append_assoc xs (p ∷ []) rest in
    let tail : streams_of_nodes (rewired number [] walk (xs ++ p ∷ rest)) (numbers_from (length xs + 1) (length ms)) ≡ map (λ (n : ℕ). (n, 0)) ms =
    (λ i. streams_of_nodes (rewired number [] walk (sym moved i)) (numbers_from (sym longer i) (length ms))) ∙ behind-streams number walk base ms (xs ++ p ∷ []) (more walk below) in
    (λ i. (here i).inputs ++ tail i)
  where
    more : (ns : List ℕ) → AllBelow (length xs) ns → AllBelow (length (xs ++ multiplexer_of base m ∷ [])) ns
    more [] a = tt
    more (n ∷ ns) a = (let l = a.0 in let e = length-append xs (multiplexer_of base m ∷ []) in omega (arith, l, e), more ns a.1)

numbers-joined : (xs ys : List Stream) → numbers_of (xs ++ ys) ≡ numbers_of xs ++ numbers_of ys
numbers-joined [] ys = refl
numbers-joined (x ∷ xs) ys = ap (λ ns. x.0 ∷ ns) (numbers-joined xs ys)

numbers-of-streams : (nodes : Shape) (ns : List ℕ) → numbers_of (streams_of_nodes nodes ns) ≡ flat_map (numbers_read nodes) ns
numbers-of-streams nodes [] = refl
numbers-of-streams nodes (n ∷ ns) = numbers-joined (node_at nodes n).inputs (streams_of_nodes nodes ns) ∙ ap (λ ms. numbers_read nodes n ++ ms) (numbers-of-streams nodes ns)

streams-left : (nodes more : Shape) (ns : List ℕ) → AllBelow (length nodes) ns → streams_of_nodes (nodes ++ more) ns ≡ streams_of_nodes nodes ns
streams-left nodes more [] all = refl
streams-left nodes more (n ∷ ns) all = λ i. (node-left nodes more n all.0 i).inputs ++ streams-left nodes more ns all.1 i

joined-below : (k : ℕ) (xs ys : List ℕ) → AllBelow k xs → AllBelow k ys → AllBelow k (xs ++ ys)
joined-below k [] ys a b = b
joined-below k (x ∷ xs) ys a b = (a.0, joined-below k xs ys a.1 b)

-- no stream is taken twice
module _ (nodes : Shape) (root : ℕ) (low : root < length nodes) (reads : ReadsFirstPorts nodes) where
  reads-below : (n : ℕ) → AllBelow (length nodes) (numbers_read nodes n)
  reads-below n = by (node_at nodes n).inputs (reads n)
    where
      by : (is : List Stream) → AllByRecursion (λ (i : Stream). (i.0 < length nodes) × (i.1 ≡ 0)) is → AllBelow (length nodes) (numbers_of is)
      by [] a = tt
      by (i ∷ is) a = (a.0.0, by is a.1)

  walk-below : AllBelow (length nodes) (walk_of nodes root)
  walk-below = walked-below (length nodes) (numbers_read nodes) reads-below (length nodes) (root ∷ []) (root ∷ []) (low, tt)

  all-below : (ns : List ℕ) → AllBelow (length nodes) (flat_map (numbers_read nodes) ns)
  all-below [] = tt
  all-below (n ∷ ns) = joined-below (length nodes) (numbers_read nodes n) (flat_map (numbers_read nodes) ns) (reads-below n) (all-below ns)

  several-below : AllBelow (length nodes) (shared nodes root)
  several-below = below-again (length nodes) [] (flat_map (numbers_read nodes) (walk_of nodes root)) (all-below (walk_of nodes root))

  abbrev numbered : ℕ → Option ℕ
  numbered = multiplexer_number (length nodes) (shared nodes root)

  abbrev streams : List Stream
  streams = streams_of_nodes nodes (walk_of nodes root)

  whole-below : AllBelow (length (nodes ++ map (multiplexer_of nodes) (shared nodes root))) (walk_of nodes root)
  whole-below = longer (walk_of nodes root) walk-below
    where
      longer : (ns : List ℕ) → AllBelow (length nodes) ns → AllBelow (length (nodes ++ map (multiplexer_of nodes) (shared nodes root))) ns
      longer [] a = tt
      longer (n ∷ ns) a = (let l = a.0 in let e = length-append nodes (map (multiplexer_of nodes) (shared nodes root)) in omega (arith, l, e), longer ns a.1)

  after-is : streams_after root nodes ≡ inputs_through numbered [] streams ++ map (λ (n : ℕ). (n, 0)) (shared nodes root)
  after-is =
      let fronts = rewired-streams numbered (walk_of nodes root) [] (nodes ++ map (multiplexer_of nodes) (shared nodes root)) (walk-apart (numbers_read nodes) (length nodes) root) whole-below
      ∙ ap (λ (ss : List Stream). inputs_through numbered [] ss) (streams-left nodes (map (multiplexer_of nodes) (shared nodes root)) (walk_of nodes root) walk-below) in
      let backs = behind-streams numbered (walk_of nodes root) nodes (shared nodes root) nodes walk-below in
      (λ i. fronts i ++ backs i)

  streams-below : AllBelow (length nodes) (numbers_of streams)
  streams-below = let P : List ℕ → Type 0 = λ ns. AllBelow (length nodes) ns in subst P (sym (numbers-of-streams nodes (walk_of nodes root))) (all-below (walk_of nodes root))

  once-at : (m p : ℕ) → takes (m, p) (inputs_through numbered [] streams) + takes (m, p) (map (λ (n : ℕ). (n, 0)) (shared nodes root)) ≤ 1
  once-at m p = by (nat_lt m (length nodes)) refl
    where
      one : times m (shared nodes root) ≤ 1
      one = let h = again-once m [] (flat_map (numbers_read nodes) (walk_of nodes root)) in omega (arith, h)

      firsts : takes (m, p) (map (λ (n : ℕ). (n, 0)) (shared nodes root)) ≤ times m (shared nodes root)
      firsts = takes-firsts m p (shared nodes root)

      own : (o : Option ℕ) → numbered m ≡ o → m < length nodes → takes (m, p) (inputs_through numbered [] streams) + takes (m, p) (map (λ (n : ℕ). (n, 0)) (shared nodes root)) ≤ 1
      own None e l =
          let none = no-number (length nodes) m (shared nodes root) e in
          let some = takes-own nodes (shared nodes root) several-below m p [] streams l in
          let is = ap (λ (ns : List ℕ). times m ns) (numbers-of-streams nodes (walk_of nodes root)) in
          let few = few-times (nat_lt 1 (times m (flat_map (numbers_read nodes) (walk_of nodes root)))) refl none in
          omega (arith, firsts, none, some, is, few)
        where
          few-times : (b : Bool) → nat_lt 1 (times m (flat_map (numbers_read nodes) (walk_of nodes root))) ≡ b → times m (shared nodes root) ≡ 0 → times m (flat_map (numbers_read nodes) (walk_of nodes root)) ≤ 1
          few-times true f none =
              let l' = ltb-true 1 (times m (flat_map (numbers_read nodes) (walk_of nodes root))) f in
              let there = again-there m [] (flat_map (numbers_read nodes) (walk_of nodes root)) (omega arith) (omega (arith, l')) in
              absurd (omega (arith, there, none))
          few-times false f none = ltb-false 1 (times m (flat_map (numbers_read nodes) (walk_of nodes root))) f
      own (Some k) e l =
          let none = takes-none nodes (shared nodes root) several-below m p k [] streams l e in
          omega (arith, firsts, none, one)

      by : (b : Bool) → nat_lt m (length nodes) ≡ b → takes (m, p) (inputs_through numbered [] streams) + takes (m, p) (map (λ (n : ℕ). (n, 0)) (shared nodes root)) ≤ 1
      by true f = own (numbered m) refl (ltb-true m (length nodes) f)
      by false f =
          let up = ltb-false m (length nodes) f in
          let port = takes-port nodes (shared nodes root) several-below m p (get_or (shared nodes root) (m - length nodes) 0) (only-one nodes (shared nodes root) several-below m) up [] streams streams-below in
          let none = times-below (length nodes) m (shared nodes root) several-below up in
          omega (arith, port, none, firsts)

  pub once : (s : Stream) → takes s (streams_after root nodes) ≤ 1
  once s =
      let P : List Stream → Type 0 = λ ss. takes s ss ≤ 1 in
      subst P (sym after-is) (let h = once-at s.0 s.1 in let e = takes-append s (inputs_through numbered [] streams) (map (λ (n : ℕ). (n, 0)) (shared nodes root)) in omega (arith, h, e))
