-- The order in which a walk leaves numbers: each once, what it reads before it, and those that the root reaches alone.
use Rattle.std.proofs.Common.{◌≡◌, ◌⊎◌, inl, inr, ℕ, zero, suc, ◌+◌, ◌<◌, ◌≤◌, Bool, true, false, List, [], ◌∷◌, ◌++◌, length, refl, sym, ap, subst, ◌∙◌, arith}
use Rattle.std.proofs.lemmas.List.{length-append}
use Rattle.std.specs.Prelude.{fold}
use Rattle.multiplexer_laws.proofs.Members.{Apart, Stands, apart_last, last_apart, front_or_more, missing, missing_fewer, missing_less, no_stand, not_both, place_kept, place_last, place_within, stands_here, stands_last, stands_left, stands_more, stands_right}
use Rattle.ps_phys.specs.Walks.{Walk, goes_to, is_one_of, leaves, leaving_order, meets, place_in}

-- the root reaches the number
pub data Reached (reads : ℕ → List ℕ) (root : ℕ) : ℕ → Type 0 where
  start : Reached reads root root
  onward : {n m : ℕ} → Reached reads root n → Stands m (reads n) → Reached reads root m

module _ (reads : ℕ → List ℕ) (count root : ℕ) (rank : ℕ → ℕ) (low : (n m : ℕ) → Stands m (reads n) → m < count) (falls : (n m : ℕ) → Stands m (reads n) → rank m < rank n) where
  -- what was left was met, once, after all that it reads
  record IsSettled (w : Walk) : Type 0 where
    left_met : (m : ℕ) → Stands m w.left → Stands m w.met
    apart : Apart w.left
    there : (n m : ℕ) → Stands n w.left → Stands m (reads n) → Stands m w.left
    before : (n m : ℕ) → Stands n w.left → Stands m (reads n) → place_in w.left m < place_in w.left n
    reached : (n : ℕ) → Stands n w.left → Reached reads root n

  -- what was met and isn't left has at least this rank
  abbrev Above : ℕ → Walk → Type 0
  Above r w = (m : ℕ) → Stands m w.met → Stands m w.left ⊎ (r ≤ rank m)

  -- a walk goes on: it leaves what it meets, and nothing else
  record GoesOn (w v : Walk) : Type 0 where
    met : (m : ℕ) → Stands m w.met → Stands m v.met
    left : (m : ℕ) → Stands m w.left → Stands m v.left
    fresh : (m : ℕ) → Stands m v.left → Stands m w.left ⊎ (is_one_of m w.met ≡ false)
    closed : (m : ℕ) → Stands m v.met → Stands m w.met ⊎ Stands m v.left
    settled : IsSettled v

  stays : (w : Walk) → IsSettled w → GoesOn w w
  stays w s = record { met = λ m h. h; left = λ m h. h; fresh = λ m h. inl h; closed = λ m h. inl h; settled = s }

  on : (w v u : Walk) → GoesOn w v → GoesOn v u → GoesOn w u
  on w v u a b = record { met = λ m h. b.met m (a.met m h); left = λ m h. b.left m (a.left m h); fresh = λ m h. fresh m (b.fresh m h); closed = λ m h. closed m (b.closed m h); settled = b.settled }
    where
      fresh : (m : ℕ) → Stands m v.left ⊎ (is_one_of m v.met ≡ false) → Stands m w.left ⊎ (is_one_of m w.met ≡ false)
      fresh m (inl h) = a.fresh m h
      fresh m (inr f) = inr (no_stand m w.met (λ h. not_both (is_one_of m v.met) (a.met m h) f))

      was : (m : ℕ) → Stands m w.met ⊎ Stands m v.left → Stands m w.met ⊎ Stands m u.left
      was m (inl h) = inl h
      was m (inr h) = inr (b.left m h)

      closed : (m : ℕ) → Stands m v.met ⊎ Stands m u.left → Stands m w.met ⊎ Stands m u.left
      closed m (inl h) = was m (a.closed m h)
      closed m (inr h) = inr h

  stays_above : (r : ℕ) (w v : Walk) → GoesOn w v → Above r w → Above r v
  stays_above r w v g a m h = by (g.closed m h)
    where
      was : Stands m w.left ⊎ (r ≤ rank m) → Stands m v.left ⊎ (r ≤ rank m)
      was (inl k) = inl (g.left m k)
      was (inr l) = inr l

      by : Stands m w.met ⊎ Stands m v.left → Stands m v.left ⊎ (r ≤ rank m)
      by (inl k) = was (a m k)
      by (inr k) = inl k

  -- what one step is to show
  abbrev Step : ℕ → Type 0
  Step k = (w : Walk) (n : ℕ) → IsSettled w → Above (suc (rank n)) w → missing count w.met ≤ k → n < count → Reached reads root n → GoesOn w (goes_to reads k w n) × Stands n (goes_to reads k w n).left

  -- a number that was met before was left before
  known : (k : ℕ) (w : Walk) (n : ℕ) → IsSettled w → Above (suc (rank n)) w → Stands n w.met → GoesOn w w × Stands n w.left
  known k w n s a h = (stays w s, by (a n h))
    where
      by : Stands n w.left ⊎ (suc (rank n) ≤ rank n) → Stands n w.left
      by (inl l) = l
      by (inr l) = absurd (omega (arith, l))

  -- to all that a number reads
  goes_all : (k : ℕ) → Step k → (n : ℕ) → Reached reads root n → (ns : List ℕ) → ((m : ℕ) → Stands m ns → Stands m (reads n)) → (w : Walk) → IsSettled w → Above (rank n) w → missing count w.met ≤ k
      → GoesOn w (fold (goes_to reads k) w ns) × ((m : ℕ) → Stands m ns → Stands m (fold (goes_to reads k) w ns).left)
  goes_all k step n r [] are w s a few = (stays w s, λ m h. cc)
  goes_all k step n r (x ∷ ns) are w s a few =
      let own = are x (stands_here x x ns refl) in
      let drop = falls n x own in
      let one = step w x s (λ m h. lower m (a m h)) few (low n x own) (onward r own) in
      let v = goes_to reads k w x in
      let fewer = missing_fewer count w.met v.met one.0.met in
      let rest = goes_all k step n r ns (λ m h. are m (stands_more m x ns h)) v one.0.settled (stays_above (rank n) w v one.0 a) (omega (arith, fewer, few)) in
      (on w v (fold (goes_to reads k) v ns) one.0 rest.0, λ m h. which m (front_or_more m x ns h) rest.1 (rest.0.left x one.1))
    where
      lower : (m : ℕ) → Stands m w.left ⊎ (rank n ≤ rank m) → Stands m w.left ⊎ (suc (rank x) ≤ rank m)
      lower m (inl h) = inl h
      lower m (inr l) = let drop = falls n x (are x (stands_here x x ns refl)) in inr (omega (arith, l, drop))

      which : (m : ℕ) → (x ≡ m) ⊎ Stands m ns → ((y : ℕ) → Stands y ns → Stands y (fold (goes_to reads k) (goes_to reads k w x) ns).left) → Stands x (fold (goes_to reads k) (goes_to reads k w x) ns).left
          → Stands m (fold (goes_to reads k) (goes_to reads k w x) ns).left
      which m (inl is) all here = let P : ℕ → Type 0 = λ y. Stands y (fold (goes_to reads k) (goes_to reads k w x) ns).left in subst P is here
      which m (inr h) all here = all m h

  -- a new number is met, and left behind all that it reads
  module _ (w : Walk) (n : ℕ) (s : IsSettled w) (r : Reached reads root n) (new : is_one_of n w.met ≡ false) where
    met_settled : IsSettled (meets n w)
    met_settled = record { left_met = λ m h. stands_more m n w.met (s.left_met m h); apart = s.apart; there = s.there; before = s.before; reached = s.reached }

    met_above : Above (suc (rank n)) w → Above (rank n) (meets n w)
    met_above a m h = by (front_or_more m n w.met h)
      where
        was : Stands m w.left ⊎ (suc (rank n) ≤ rank m) → Stands m w.left ⊎ (rank n ≤ rank m)
        was (inl k) = inl k
        was (inr l) = inr (omega (arith, l))

        by : (n ≡ m) ⊎ Stands m w.met → Stands m w.left ⊎ (rank n ≤ rank m)
        by (inl is) = let same = ap rank is in inr (omega (arith, same))
        by (inr k) = was (a m k)

    module _ (u : Walk) (g : GoesOn (meets n w) u) (all : (m : ℕ) → Stands m (reads n) → Stands m u.left) where
      unleft : is_one_of n u.left ≡ false
      unleft = no_stand n u.left (λ h. by (g.fresh n h))
        where
          by : Stands n w.left ⊎ (is_one_of n (n ∷ w.met) ≡ false) → ⊥
          by (inl k) = not_both (is_one_of n w.met) (s.left_met n k) new
          by (inr f) = not_both (is_one_of n (n ∷ w.met)) (stands_here n n w.met refl) f

      last_settled : IsSettled (leaves n u)
      last_settled =
          record {
            left_met = λ m h. left_met m (stands_last m u.left n h);
            apart = apart_last u.left n g.settled.apart unleft;
            there = λ x m h e. stands_left m u.left (n ∷ []) (there x m e (stands_last x u.left n h));
            before = λ x m h e. before x m e (stands_last x u.left n h);
            reached = λ x h. reached x (stands_last x u.left n h);
          }
        where
          left_met : (m : ℕ) → Stands m u.left ⊎ (n ≡ m) → Stands m u.met
          left_met m (inl h) = g.settled.left_met m h
          left_met m (inr is) = let P : ℕ → Type 0 = λ x. Stands x u.met in subst P is (g.met n (stands_here n n w.met refl))

          there : (x m : ℕ) → Stands m (reads x) → Stands x u.left ⊎ (n ≡ x) → Stands m u.left
          there x m e (inl h) = g.settled.there x m h e
          there x m e (inr is) = let P : ℕ → Type 0 = λ y. Stands m (reads y) in all m (subst P (sym is) e)

          before : (x m : ℕ) → Stands m (reads x) → Stands x u.left ⊎ (n ≡ x) → place_in (u.left ++ n ∷ []) m < place_in (u.left ++ n ∷ []) x
          before x m e (inl h) =
              let l = g.settled.before x m h e in
              let a = place_kept m u.left (n ∷ []) (g.settled.there x m h e) in
              let b = place_kept x u.left (n ∷ []) h in
              omega (arith, l, a, b)
          before x m e (inr is) =
              let P : ℕ → Type 0 = λ y. Stands m (reads y) in
              let h = all m (subst P (sym is) e) in
              let l = place_within m u.left h in
              let a = place_kept m u.left (n ∷ []) h in
              let b : place_in (u.left ++ n ∷ []) x ≡ length u.left = ap (place_in (u.left ++ n ∷ [])) (sym is) ∙ place_last n u.left unleft in
              omega (arith, l, a, b)

          reached : (x : ℕ) → Stands x u.left ⊎ (n ≡ x) → Reached reads root x
          reached x (inl h) = g.settled.reached x h
          reached x (inr is) = let P : ℕ → Type 0 = λ y. Reached reads root y in subst P is r

      goes_last : GoesOn w (leaves n u)
      goes_last =
          record {
            met = λ m h. g.met m (stands_more m n w.met h);
            left = λ m h. stands_left m u.left (n ∷ []) (g.left m h);
            fresh = λ m h. fresh m (stands_last m u.left n h);
            closed = λ m h. closed m (g.closed m h);
            settled = last_settled;
          }
        where
          was : (m : ℕ) → Stands m w.left ⊎ (is_one_of m (n ∷ w.met) ≡ false) → Stands m w.left ⊎ (is_one_of m w.met ≡ false)
          was m (inl k) = inl k
          was m (inr f) = inr (no_stand m w.met (λ k. not_both (is_one_of m (n ∷ w.met)) (stands_more m n w.met k) f))

          fresh : (m : ℕ) → Stands m u.left ⊎ (n ≡ m) → Stands m w.left ⊎ (is_one_of m w.met ≡ false)
          fresh m (inl k) = was m (g.fresh m k)
          fresh m (inr is) = let P : ℕ → Type 0 = λ x. is_one_of x w.met ≡ false in inr (subst P is new)

          one : (m : ℕ) → (n ≡ m) ⊎ Stands m w.met → Stands m w.met ⊎ Stands m (u.left ++ n ∷ [])
          one m (inl is) = inr (stands_right m u.left (n ∷ []) (stands_here m n [] is))
          one m (inr k) = inl k

          closed : (m : ℕ) → Stands m (n ∷ w.met) ⊎ Stands m u.left → Stands m w.met ⊎ Stands m (u.left ++ n ∷ [])
          closed m (inl k) = one m (front_or_more m n w.met k)
          closed m (inr k) = inr (stands_left m u.left (n ∷ []) k)

  goes : (k : ℕ) → Step k
  goes zero w n s a few within r = known zero w n s a (by (is_one_of n w.met) refl)
    where
      by : (b : Bool) → is_one_of n w.met ≡ b → Stands n w.met
      by true e = e
      by false e = let l = missing_less count n w.met within e in absurd (omega (arith, l, few))
  goes (suc k) w n s a few within r = by (is_one_of n w.met) refl (goes k)
    where
      u : Walk
      u = fold (goes_to reads k) (meets n w) (reads n)

      by : (b : Bool) → is_one_of n w.met ≡ b → Step k → GoesOn w (elim b as (λ _. Walk) [ true ↦ w | false ↦ leaves n u ]) × Stands n (elim b as (λ _. Walk) [ true ↦ w | false ↦ leaves n u ]).left
      by true e step = known (suc k) w n s a e
      by false e step =
          let fewer = missing_less count n w.met within e in
          let all = goes_all k step n r (reads n) (λ m h. h) (meets n w) (met_settled w n s r e) (met_above w n s r e a) (omega (arith, fewer, few)) in
          (goes_last w n s r e u all.0 all.1, stands_right n u.left (n ∷ []) (stands_here n n [] refl))

  module _ (within : root < count) where
    abbrev nothing : Walk
    nothing = record { met = []; left = [] }

    all_missing : (c : ℕ) → missing c [] ≤ c
    all_missing zero = omega arith
    all_missing (suc c) = let h = all_missing c in omega (arith, h)

    walk : GoesOn nothing (goes_to reads count nothing root) × Stands root (goes_to reads count nothing root).left
    walk = goes count nothing root (record { left_met = λ m h. cc; apart = tt; there = λ n m h e. cc; before = λ n m h e. cc; reached = λ n h. cc }) (λ m h. cc) (all_missing count) within start

    abbrev pub order : List ℕ
    order = leaving_order reads count root

    pub order_apart : Apart order
    order_apart = walk.0.settled.apart

    pub order_before : (n m : ℕ) → Stands n order → Stands m (reads n) → place_in order m < place_in order n
    order_before = walk.0.settled.before

    pub order_reached : (n : ℕ) → Stands n order → Reached reads root n
    order_reached = walk.0.settled.reached

    pub reached_order : (n : ℕ) → Reached reads root n → Stands n order
    reached_order _ start = walk.1
    reached_order m (onward {n = n} r h) = walk.0.settled.there n m (reached_order n r) h

    ends_with : (c : ℕ) → root < c → (xs : List ℕ) × (leaving_order reads c root ≡ xs ++ root ∷ [])
    ends_with zero h = absurd (omega (arith, h))
    ends_with (suc k) h = ((fold (goes_to reads k) (meets root nothing) (reads root)).left, refl)

    -- the root is the last one
    pub root_last : suc (place_in order root) ≡ length order
    root_last =
        let e = ends_with count within in
        let A : List ℕ → Type 0 = λ xs. Apart xs in
        let alone = last_apart e.0 root (subst A e.1 order_apart) in
        let at : place_in order root ≡ length e.0 = ap (λ xs. place_in xs root) e.1 ∙ place_last root e.0 alone in
        let size : length order ≡ length e.0 + 1 = ap length e.1 ∙ length-append e.0 (root ∷ []) in
        omega (arith, at, size)
