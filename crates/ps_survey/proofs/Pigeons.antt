-- Numbers that stand once and lie below a bound weigh no more than all numbers below it.
use Rattle.std.proofs.Common.{◌≡◌, ◌≢◌, ◌⊎◌, inl, inr, ℕ, zero, suc, ◌+◌, ◌<◌, ◌≤◌, List, [], ◌∷◌, ◌++◌, length, map, get_or, slice_get, refl, sym, ◌∙◌, ap, subst, length-append, arith}
use Rattle.std.specs.Prelude.{Some, Contains, sum_by}
use Rattle.std.proofs.lemmas.List.Sums.{sum_by-cons}
use Rattle.pu_base.specs.declared.arena.Node.{Node}
use Rattle.ps_frame.specs.declared.expr.AExpr.{AExpr}
use Rattle.ps_plan.specs.Graph.{named_by, operands}
use Rattle.ps_plan.specs.Entries.{entry_exprs, entry_inputs}
use Rattle.ps_plan.specs.declared.ir.IR.{IR}
use Rattle.ps_survey.specs.Counts.{looks_at, names_in}
use Rattle.ps_survey.specs.Orders.{all_in, exprs_in, operands_in}
use Rattle.valid_plans.specs.Surveys.{Once}
use Rattle.ps_survey.proofs.Lists.{at-from, from-at, same-or-not}

later : (x y : ℕ) (xs : List ℕ) → Contains xs y → Contains (x ∷ xs) y
later x y xs (k, h, e) = (suc k, omega arith, e)

once-tail : (x : ℕ) (xs : List ℕ) → Once (x ∷ xs) → Once xs
once-tail x xs o i j d h l = o (suc i) (suc j) d (omega (arith, h)) (omega (arith, l))

once-head : (x : ℕ) (xs : List ℕ) → Once (x ∷ xs) → ¬ Contains xs x
once-head x xs o (k, h, e) = o 0 (suc k) x (omega arith) (omega (arith, h)) (sym e)

once-cons : (x : ℕ) (xs : List ℕ) → ¬ Contains xs x → Once xs → Once (x ∷ xs)
once-cons x xs never o zero zero d h l e = omega (arith, h)
once-cons x xs never o zero (suc j) d h l e = never (j, omega (arith, l), other (sym e))
  where
    other : get_or xs j d ≡ x → get_or xs j x ≡ x
    other e = from-get xs j (omega (arith, l)) e
      where
        from-get : (xs : List ℕ) (j : ℕ) → j < length xs → get_or xs j d ≡ x → get_or xs j x ≡ x
        from-get [] j h e = absurd (omega (arith, h))
        from-get (y ∷ ys) zero h e = e
        from-get (y ∷ ys) (suc j) h e = from-get ys j (omega (arith, h)) e
once-cons x xs never o (suc i) zero d h l e = omega (arith, h)
once-cons x xs never o (suc i) (suc j) d h l e = o i j d (omega (arith, h)) (omega (arith, l)) e

decide-in : (xs : List ℕ) (n : ℕ) → Contains xs n ⊎ ¬ Contains xs n
decide-in [] n = inr (λ c. omega (arith, c.1))
decide-in (x ∷ xs) n = by (same-or-not x n) (decide-in xs n)
  where
    neither : x ≢ n → ¬ Contains xs n → (k : ℕ) → k < suc (length xs) → get_or (x ∷ xs) k n ≡ n → ⊥
    neither d never zero h e = d e
    neither d never (suc k) h e = never (k, omega (arith, h), e)

    by : (x ≡ n) ⊎ (x ≢ n) → Contains xs n ⊎ ¬ Contains xs n → Contains (x ∷ xs) n ⊎ ¬ Contains (x ∷ xs) n
    by (inl e) _ = inl (0, omega arith, e)
    by (inr d) (inl c) = inl (later x n xs c)
    by (inr d) (inr never) = inr (λ c. neither d never c.0 c.1 c.2)

-- a list without one of its numbers
record Out (w : ℕ → ℕ) (n : ℕ) (xs : List ℕ) : Type 0 where
  rest : List ℕ
  sum : sum_by w xs ≡ w n + sum_by w rest
  once : Once rest
  gone : ¬ Contains rest n
  others : (m : ℕ) → Contains rest m → Contains xs m

out : (w : ℕ → ℕ) (n : ℕ) (xs : List ℕ) → Once xs → Contains xs n → Out w n xs
out w n [] o c = absurd (omega (arith, c.1))
out w n (x ∷ xs) o (zero, h, e) =
    record {
      rest = xs;
      sum = sum_by-cons w x xs ∙ ap (λ k. w k + sum_by w xs) e;
      once = once-tail x xs o;
      gone = λ c. once-head x xs o (subst (λ k. Contains xs k) (sym e) c);
      others = λ m c. later x m xs c;
    }
out w n (x ∷ xs) o (suc k, h, e) = from (out w n xs (once-tail x xs o) (k, omega (arith, h), e))
  where
    from : Out w n xs → Out w n (x ∷ xs)
    from r =
        let a = sum_by-cons w x xs in
        let b = sum_by-cons w x r.rest in
        let s = r.sum in
        record {
          rest = x ∷ r.rest;
          sum = omega (arith, a, b, s);
          once = once-cons x r.rest (λ c. once-head x xs o (r.others x c)) r.once;
          gone = λ c. gone c.0 c.1 c.2;
          others = λ m c. others m c.0 c.1 c.2;
        }
      where
        gone : (i : ℕ) → i < suc (length r.rest) → get_or (x ∷ r.rest) i n ≡ n → ⊥
        gone zero l q = once-head x xs o (subst (λ m. Contains xs m) (sym q) (k, omega (arith, h), e))
        gone (suc i) l q = r.gone (i, omega (arith, l), q)

        others : (m i : ℕ) → i < suc (length r.rest) → get_or (x ∷ r.rest) i m ≡ m → Contains (x ∷ xs) m
        others m zero l q = (0, omega arith, q)
        others m (suc i) l q = later x m xs (r.others m (i, omega (arith, l), q))

-- the weight of all numbers below a bound
upto : (ℕ → ℕ) → ℕ → ℕ
upto w zero = 0
upto w (suc n) = upto w n + w n

sum-once : (w : ℕ → ℕ) (n : ℕ) (xs : List ℕ) → Once xs → ((m : ℕ) → Contains xs m → m < n) → sum_by w xs ≤ upto w n
unfolding upto
sum-once w zero [] o below = omega arith
sum-once w zero (x ∷ xs) o below = let h = below x (0, omega arith, refl) in absurd (omega (arith, h))
sum-once w (suc n) xs o below = by (sum-once w n) (decide-in xs n)
  where
    smaller : (m : ℕ) → m < suc n → m ≢ n → m < n
    smaller m h d = omega (arith, h, d)

    by : ((ys : List ℕ) → Once ys → ((m : ℕ) → Contains ys m → m < n) → sum_by w ys ≤ upto w n) → Contains xs n ⊎ ¬ Contains xs n → sum_by w xs ≤ upto w n + w n
    by rec (inl c) =
        let r = out w n xs o c in
        let s = r.sum in
        let h = rec r.rest r.once (λ m d. smaller m (below m (r.others m d)) (λ e. r.gone (subst (λ k. Contains r.rest k) e d))) in
        omega (arith, s, h)
    by rec (inr never) = let h = rec xs o (λ m d. smaller m (below m d) (λ e. never (subst (λ k. Contains xs k) e d))) in omega (arith, h)

upto-shift : (w : ℕ → ℕ) (n : ℕ) → upto w (suc n) ≡ w 0 + upto (λ k. w (suc k)) n
unfolding upto
upto-shift w zero = omega arith
upto-shift w (suc n) = let h = upto-shift w n in omega (arith, h)

module _ {E : Type 0} (g : E → ℕ) where
  upto-entries : (w : ℕ → ℕ) (es : List E) → ((k : ℕ) (e : E) → slice_get es k ≡ Some e → w k ≡ g e) → upto w (length es) ≡ sum_by g es
  unfolding upto
  upto-entries w [] same = refl
  upto-entries w (e ∷ es) same =
      let a = upto-shift w (length es) in
      let b = upto-entries (λ k. w (suc k)) es (λ k x h. same (suc k) x h) in
      let c = sum_by-cons g e es in
      let d = same 0 e refl in
      omega (arith, a, b, c, d)

  -- what the numbers of a list weigh by their entries
  pub weigh-once : (w : ℕ → ℕ) (es : List E) (xs : List ℕ) → Once xs → ((m : ℕ) → Contains xs m → m < length es) → ((k : ℕ) (e : E) → slice_get es k ≡ Some e → w k ≡ g e) → sum_by w xs ≤ sum_by g es
  weigh-once w es xs o below same = let a = sum-once w (length es) xs o below in let b = upto-entries w es same in omega (arith, a, b)

map-length : (ns : List Node) → length (map (λ (n : Node). n.0) ns) ≡ length ns
map-length [] = refl
map-length (n ∷ ns) = ap (λ k. suc k) (map-length ns)

entries-names : {E : Type 0} (f : E → List Node) (es : List E) → sum_by (λ e. suc (length (f e))) es ≡ length es + names_in f es
entries-names f [] = refl
entries-names f (e ∷ es) =
    let a = sum_by-cons (λ e. suc (length (f e))) e es in
    let b = sum_by-cons (λ e. length (f e)) e es in
    let h = entries-names f es in
    omega (arith, a, b, h)

pub looks-once : {E : Type 0} (f : E → List Node) (es : List E) (xs : List ℕ) → Once xs → ((m : ℕ) → Contains xs m → m < length es) → looks_at (λ n. named_by f (slice_get es n)) xs ≤ length es + names_in f es
looks-once f es xs o below =
    let a = weigh-once (λ e. suc (length (f e))) (λ n. suc (length (named_by f (slice_get es n)))) es xs o below (λ k e at. ap (λ o. suc (length (named_by f o))) at ∙ ap (λ k. suc k) (map-length (f e))) in
    let b = entries-names f es in
    omega (arith, a, b)

both-names : (nodes : List IR) → sum_by (λ e. suc (length (entry_inputs e) + length (entry_exprs e))) nodes ≡ length nodes + names_in entry_inputs nodes + names_in entry_exprs nodes
both-names [] = refl
both-names (e ∷ es) =
    let a = sum_by-cons (λ e. suc (length (entry_inputs e) + length (entry_exprs e))) e es in
    let b = sum_by-cons (λ e. length (entry_inputs e)) e es in
    let c = sum_by-cons (λ e. length (entry_exprs e)) e es in
    let h = both-names es in
    omega (arith, a, b, c, h)

pub all-looks-once : (nodes : List IR) (xs : List ℕ) → Once xs → ((m : ℕ) → Contains xs m → m < length nodes) → looks_at (all_in nodes) xs ≤ length nodes + names_in entry_inputs nodes + names_in entry_exprs nodes
all-looks-once nodes xs o below =
    let a = weigh-once (λ e. suc (length (entry_inputs e) + length (entry_exprs e))) (λ n. suc (length (all_in nodes n))) nodes xs o below same in
    let b = both-names nodes in
    omega (arith, a, b)
  where
    same : (k : ℕ) (e : IR) → slice_get nodes k ≡ Some e → suc (length (all_in nodes k)) ≡ suc (length (entry_inputs e) + length (entry_exprs e))
    same k e at =
        let a = length-append (named_by entry_inputs (slice_get nodes k)) (named_by entry_exprs (slice_get nodes k)) in
        let b = ap (λ o. length (named_by entry_inputs o)) at ∙ map-length (entry_inputs e) in
        let c = ap (λ o. length (named_by entry_exprs o)) at ∙ map-length (entry_exprs e) in
        omega (arith, a, b, c)
