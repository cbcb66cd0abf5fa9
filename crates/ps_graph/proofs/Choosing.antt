-- Which blockers are chosen for a phase.
use Rattle.std.proofs.Common.{◌≡◌, ℕ, suc, ◌+◌, ◌<◌, ◌≤◌, Bool, true, false, cond, not, List, [], ◌∷◌, ◌++◌, Option, Some, None, refl, sym, ap, subst, ◌∙◌, inl, inr, arith}
use Rattle.std.specs.Prelude.{Contains, ◌&&◌, ◌||◌, nat_eq, nat_lt, option_to_list}
use Rattle.std.specs.List.{filter as kept}
use Rattle.std.proofs.lemmas.Bool.Decides.{nat_tests}
use Rattle.ps_frame.specs.Zip.{below}
use Rattle.ps_ports.specs.Phases.{blockers_of, is_blocker, is_one_of, most_ready, ready_readers}
use Rattle.ps_ports.specs.Wires.{Wire}
use Rattle.ps_settle.proofs.Ends.{is_number}
use Rattle.ps_settle.proofs.Members.{contains_first, contains_later, from_kept}
use Rattle.ps_graph.specs.Running.{chosen_below, is_named}
use Rattle.ps_graph.proofs.Completing.{kept-both}
use Rattle.ps_graph.proofs.Growing.{append_nil}
use Rattle.ps_graph.proofs.Feeding.{from_below, has_one, one_of_kept, or_cases}

pub kept-more : {A : Type 0} (test : A → Bool) (xs : List A) (x : A) → kept test (xs ++ x ∷ []) ≡ kept test xs ++ cond (test x) (x ∷ []) []
kept-more test [] x = refl
kept-more test (y ∷ ys) x = by (test y) (kept-more test ys x)
  where
    by : (b : Bool) → kept test (ys ++ x ∷ []) ≡ kept test ys ++ cond (test x) (x ∷ []) [] → cond b (y ∷ kept test (ys ++ x ∷ [])) (kept test (ys ++ x ∷ [])) ≡ cond b (y ∷ kept test ys) (kept test ys) ++ cond (test x) (x ∷ []) []
    by true rest = ap (λ l. y ∷ l) rest
    by false rest = rest

one_of-append : (n : ℕ) (xs ys : List ℕ) → is_one_of n (xs ++ ys) ≡ (is_one_of n xs || is_one_of n ys)
one_of-append n [] ys = refl
one_of-append n (x ∷ xs) ys = by (nat_eq n x) (one_of-append n xs ys)
  where
    by : (b : Bool) → is_one_of n (xs ++ ys) ≡ (is_one_of n xs || is_one_of n ys) → (b || is_one_of n (xs ++ ys)) ≡ ((b || is_one_of n xs) || is_one_of n ys)
    by true rest = refl
    by false rest = rest

module _ (ws : List Wire) where
  -- the readers that are ready of the node that is chosen so far
  abbrev pub readers_at : Option ℕ → ℕ
  readers_at None = 0
  readers_at (Some m) = ready_readers ws m

  -- the better of a node and one that is chosen among later ones
  abbrev better : ℕ → Option ℕ → Option ℕ
  better n None = Some n
  better n (Some m) = cond (nat_lt (ready_readers ws m) (ready_readers ws n)) (Some n) (Some m)

  most_ready-cons : (n : ℕ) (ns : List ℕ) → most_ready ws (n ∷ ns) ≡ better n (most_ready ws ns)
  most_ready-cons n ns = by (most_ready ws ns)
    where
      by : (a : Option ℕ) → elim a [ None ↦ Some n | Some m ↦ cond (nat_lt (ready_readers ws m) (ready_readers ws n)) (Some n) (Some m) ] ≡ better n a
      by None = refl
      by (Some m) = refl

  last_better : (x n : ℕ) (a : Option ℕ) → better x (cond (nat_lt (ready_readers ws n) (readers_at a)) a (Some n)) ≡ cond (nat_lt (ready_readers ws n) (readers_at (better x a))) (better x a) (Some n)
  last_better x n None = let none : nat_lt (ready_readers ws n) 0 ≡ false = grind (arith, nat_tests) in rw none refl
  last_better x n (Some m) = by (nat_lt (ready_readers ws n) (ready_readers ws m)) (nat_lt (ready_readers ws m) (ready_readers ws x)) refl refl
    where
      by : (b c : Bool) → nat_lt (ready_readers ws n) (ready_readers ws m) ≡ b → nat_lt (ready_readers ws m) (ready_readers ws x) ≡ c
          → better x (cond b (Some m) (Some n)) ≡ cond (nat_lt (ready_readers ws n) (readers_at (cond c (Some x) (Some m)))) (cond c (Some x) (Some m)) (Some n)
      by true true e d = let far : nat_lt (ready_readers ws n) (ready_readers ws x) ≡ true = grind (arith, nat_tests) in rw (d, far) refl
      by true false e d = rw (d, e) refl
      by false true e d = refl
      by false false e d = let near : nat_lt (ready_readers ws n) (ready_readers ws x) ≡ false = grind (arith, nat_tests) in rw (near, e) refl

  -- one node more: it is chosen unless the one chosen so far has more readers that are ready
  pub most_ready-more : (ns : List ℕ) (n : ℕ) → most_ready ws (ns ++ n ∷ []) ≡ cond (nat_lt (ready_readers ws n) (readers_at (most_ready ws ns))) (most_ready ws ns) (Some n)
  most_ready-more [] n = let none : nat_lt (ready_readers ws n) 0 ≡ false = grind (arith, nat_tests) in rw none refl
  most_ready-more (x ∷ xs) n =
      most_ready-cons x (xs ++ n ∷ []) ∙ ap (better x) (most_ready-more xs n) ∙ last_better x n (most_ready ws xs)
      ∙ sym (ap (λ a. cond (nat_lt (ready_readers ws n) (readers_at a)) a (Some n)) (most_ready-cons x xs))

  -- the node that is chosen is one of the list
  most_ready-in : (ns : List ℕ) (j : ℕ) → most_ready ws ns ≡ Some j → Contains ns j
  most_ready-in [] j e = absurd (let clash : None ≡ Some j = e in cc)
  most_ready-in (n ∷ ns) j e = by (most_ready ws ns) (most_ready-in ns j) (sym (most_ready-cons n ns) ∙ e)
    where
      two : (b : Bool) (m : ℕ) → (Some m ≡ Some j → Contains ns j) → cond b (Some n) (Some m) ≡ Some j → Contains (n ∷ ns) j
      two true m rest d = contains_first n j ns (let both : Some n ≡ Some j = d in cc)
      two false m rest d = contains_later n j ns (rest d)

      by : (a : Option ℕ) → (a ≡ Some j → Contains ns j) → better n a ≡ Some j → Contains (n ∷ ns) j
      by None rest d = contains_first n j ns (let both : Some n ≡ Some j = d in cc)
      by (Some m) rest d = two (nat_lt (ready_readers ws m) (ready_readers ws n)) m rest d

  module _ (intensive : ℕ → Bool) where
    candidates : (k : ℕ) → kept intensive (kept (is_blocker ws) (below (suc k))) ≡ kept intensive (kept (is_blocker ws) (below k)) ++ cond (is_blocker ws k && intensive k) (k ∷ []) []
    candidates k =
        kept-both (is_blocker ws) intensive (below (suc k)) ∙ kept-more (λ n. is_blocker ws n && intensive n) (below k) k
        ∙ sym (ap (λ l. l ++ cond (is_blocker ws k && intensive k) (k ∷ []) []) (kept-both (is_blocker ws) intensive (below k)))

    -- a node that isn't a candidate changes nothing
    pub chosen_stays : (k : ℕ) → (is_blocker ws k && intensive k) ≡ false → chosen_below ws intensive k ≡ chosen_below ws intensive (k + 1)
    chosen_stays k e =
        let next : suc k ≡ k + 1 = omega arith in
        sym (ap (most_ready ws) (candidates k ∙ ap (λ b. kept intensive (kept (is_blocker ws) (below k)) ++ cond b (k ∷ []) []) e ∙ append_nil (kept intensive (kept (is_blocker ws) (below k))))) ∙ ap (chosen_below ws intensive) next

    candidate : (k : ℕ) → (is_blocker ws k && intensive k) ≡ true → cond (nat_lt (ready_readers ws k) (readers_at (chosen_below ws intensive k))) (chosen_below ws intensive k) (Some k) ≡ chosen_below ws intensive (k + 1)
    candidate k e =
        let next : suc k ≡ k + 1 = omega arith in
        sym (ap (most_ready ws) (candidates k ∙ ap (λ b. kept intensive (kept (is_blocker ws) (below k)) ++ cond b (k ∷ []) []) e) ∙ most_ready-more (kept intensive (kept (is_blocker ws) (below k))) k) ∙ ap (chosen_below ws intensive) next

    -- a candidate is chosen if it has as many readers that are ready
    pub chosen_now : (k : ℕ) → (is_blocker ws k && intensive k) ≡ true → readers_at (chosen_below ws intensive k) ≤ ready_readers ws k → Some k ≡ chosen_below ws intensive (k + 1)
    chosen_now k e h =
        let no : nat_lt (ready_readers ws k) (readers_at (chosen_below ws intensive k)) ≡ false = grind (arith, nat_tests) in
        sym (ap (λ b. cond b (chosen_below ws intensive k) (Some k)) no) ∙ candidate k e

    pub chosen_still : (k : ℕ) → (is_blocker ws k && intensive k) ≡ true → ready_readers ws k < readers_at (chosen_below ws intensive k) → chosen_below ws intensive k ≡ chosen_below ws intensive (k + 1)
    chosen_still k e h =
        let yes : nat_lt (ready_readers ws k) (readers_at (chosen_below ws intensive k)) ≡ true = grind (arith, nat_tests) in
        sym (ap (λ b. cond b (chosen_below ws intensive k) (Some k)) yes) ∙ candidate k e

    chosen_one : (a : Option ℕ) (n : ℕ) → is_one_of n (option_to_list a) ≡ is_named a n
    chosen_one None n = refl
    chosen_one (Some m) n = by (nat_eq n m)
      where
        by : (b : Bool) → (b || false) ≡ b
        by true = refl
        by false = refl

    -- whether a node is a blocker of the phase
    pub blocks : (k n : ℕ) → n < k → is_one_of n (blockers_of k intensive ws) ≡ ((is_blocker ws n && not (intensive n)) || is_named (chosen_below ws intensive k) n)
    blocks k n h =
        let plain : is_one_of n (kept (λ m. not (intensive m)) (kept (is_blocker ws) (below k))) ≡ (is_blocker ws n && not (intensive n)) =
        ap (is_one_of n) (kept-both (is_blocker ws) (λ m. not (intensive m)) (below k)) ∙ one_of_kept (λ m. is_blocker ws m && not (intensive m)) k n h in
        let one = chosen_one (chosen_below ws intensive k) n in
        one_of-append n (kept (λ m. not (intensive m)) (kept (is_blocker ws) (below k))) (option_to_list (chosen_below ws intensive k)) ∙ (λ i. plain i || one i)

    -- blockers are nodes
    pub blockers_inside : (k n : ℕ) → is_one_of n (blockers_of k intensive ws) ≡ true → n < k
    blockers_inside k n e =
        elim
        (or_cases (is_one_of n (kept (λ m. not (intensive m)) (kept (is_blocker ws) (below k)))) (is_one_of n (option_to_list (chosen_below ws intensive k)))
        (sym (one_of-append n (kept (λ m. not (intensive m)) (kept (is_blocker ws) (below k))) (option_to_list (chosen_below ws intensive k))) ∙ e)) [
          | inl plain ↦ in_below (from_kept (λ m. not (intensive m)) n (kept (is_blocker ws) (below k)) (has_one n (kept (λ m. not (intensive m)) (kept (is_blocker ws) (below k))) plain)).0
          | inr chosen ↦ by (chosen_below ws intensive k) refl (sym (chosen_one (chosen_below ws intensive k) n) ∙ chosen)
        ]
      where
        in_below : Contains (kept (is_blocker ws) (below k)) n → n < k
        in_below c = from_below k n (from_kept (is_blocker ws) n (below k) c).0

        by : (a : Option ℕ) → chosen_below ws intensive k ≡ a → is_named a n ≡ true → n < k
        by None is d = absurd (let clash : false ≡ true = d in cc)
        by (Some m) is d =
            let c = (from_kept intensive m (kept (is_blocker ws) (below k)) (most_ready-in (kept intensive (kept (is_blocker ws) (below k))) m is)).0 in
            let same = is_number n m d in
            in_below (subst (Contains (kept (is_blocker ws) (below k))) (sym same) c)
