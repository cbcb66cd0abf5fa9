-- Which nodes feed the blockers: a set that has the blockers, and with a node all that feed it, and no others, is that of the phase.
use Rattle.std.proofs.Common.{◌≡◌, ℕ, zero, suc, ◌+◌, ◌<◌, ◌≤◌, ◌⊎◌, Bool, true, false, cond, List, [], ◌∷◌, refl, sym, ap, subst, ◌∙◌, inl, inr, arith}
use Rattle.std.specs.Prelude.{Contains, ◌||◌, ◌&&◌, nat_eq}
use Rattle.std.specs.List.{filter as kept, list_any}
use Rattle.std.proofs.lemmas.Bool.{cases_eq}
use Rattle.ps_frame.specs.Zip.{below}
use Rattle.ps_frame.proofs.Gathers.{get_or-below, length-below}
use Rattle.ps_ports.specs.Phases.{all_feeders, is_one_of, with_feeders}
use Rattle.ps_ports.specs.Wires.{Wire, both_ready}
use Rattle.ps_settle.proofs.Ends.{is_number, same_number}
use Rattle.ps_settle.proofs.Members.{contains_cases, contains_first, contains_later, from_kept, in_kept, none_in_nil}

pub or_cases : (a b : Bool) → (a || b) ≡ true → (a ≡ true) ⊎ (b ≡ true)
or_cases true b e = inl refl
or_cases false b e = inr e

pub or_left : (a b : Bool) → a ≡ true → (a || b) ≡ true
or_left true b e = refl
or_left false b e = absurd (let clash : false ≡ true = e in cc)

pub or_right : (a b : Bool) → b ≡ true → (a || b) ≡ true
or_right true b e = refl
or_right false b e = e

pub and_both : (a b : Bool) → (a && b) ≡ true → (a ≡ true) × (b ≡ true)
and_both true b e = (refl, e)
and_both false b e = absurd (let clash : false ≡ true = e in cc)

pub and_true : (a b : Bool) → a ≡ true → b ≡ true → (a && b) ≡ true
and_true true b e d = d
and_true false b e d = absurd (let clash : false ≡ true = e in cc)

pub any_has : {A : Type 0} (f : A → Bool) (x : A) (xs : List A) → Contains xs x → f x ≡ true → list_any f xs ≡ true
any_has f x [] c e = absurd (none_in_nil x c)
any_has f x (y ∷ ys) c e = by (λ later. any_has f x ys later e) (contains_cases y x ys c)
  where
    by : (Contains ys x → list_any f ys ≡ true) → (y ≡ x) ⊎ Contains ys x → (f y || list_any f ys) ≡ true
    by rest (inl same) = or_left (f y) (list_any f ys) (ap f same ∙ e)
    by rest (inr later) = or_right (f y) (list_any f ys) (rest later)

pub any_from : {A : Type 0} (f : A → Bool) (xs : List A) → list_any f xs ≡ true → (x : A) × Contains xs x × (f x ≡ true)
any_from f [] e = absurd (let clash : false ≡ true = e in cc)
any_from {A} f (y ∷ ys) e = by (any_from f ys) (or_cases (f y) (list_any f ys) e)
  where
    by : (list_any f ys ≡ true → (x : A) × Contains ys x × (f x ≡ true)) → (f y ≡ true) ⊎ (list_any f ys ≡ true) → (x : A) × Contains (y ∷ ys) x × (f x ≡ true)
    by rest (inl here) = (y, contains_first y y ys refl, here)
    by rest (inr later) = let r = rest later in (r.0, contains_later y r.0 ys r.1, r.2)

pub one_of : (m : ℕ) (xs : List ℕ) → Contains xs m → is_one_of m xs ≡ true
one_of m xs c = any_has (nat_eq m) m xs c (same_number m m refl)

pub has_one : (m : ℕ) (xs : List ℕ) → is_one_of m xs ≡ true → Contains xs m
has_one m xs e = let x = any_from (nat_eq m) xs e in subst (Contains xs) (sym (is_number m x.0 x.2)) x.1

pub in_below : (k m : ℕ) → m < k → Contains (below k) m
in_below k m h = let l = length-below k in (m, omega (arith, h, l), get_or-below k m m h)

pub from_below : (k m : ℕ) → Contains (below k) m → m < k
from_below k m (i, h, e) = let l = length-below k in let inside : i < k = omega (arith, h, l) in let is = get_or-below k i m inside in omega (arith, inside, is, e)

pub kept_alike : {A : Type 0} (f g : A → Bool) (xs : List A) → ((x : A) → Contains xs x → f x ≡ g x) → kept f xs ≡ kept g xs
kept_alike f g [] h = refl
kept_alike f g (x ∷ xs) h =
    let first = h x (contains_first x x xs refl) in
    let rest = kept_alike f g xs (λ y c. h y (contains_later x y xs c)) in
    λ i. cond (first i) (x ∷ rest i) (rest i)

same_flags : (a b : Bool) → (a ≡ true → b ≡ true) → (b ≡ true → a ≡ true) → a ≡ b
same_flags true b f g = sym (f refl)
same_flags false true f g = g refl
same_flags false false f g = refl

-- of the numbers below k those that pass
pub one_of_kept : (f : ℕ → Bool) (k m : ℕ) → m < k → is_one_of m (kept f (below k)) ≡ f m
one_of_kept f k m h =
    same_flags (is_one_of m (kept f (below k))) (f m) (λ e. (from_kept f m (below k) (has_one m (kept f (below k)) e)).1) (λ e. one_of m (kept f (below k)) (in_kept f m (below k) (in_below k m h) e))

module _ (k : ℕ) (ws : List Wire) (forward : (p : Wire) → Contains ws p → (p.sender < p.receiver) × (p.receiver < k)) where
  stays_in : (ns : List ℕ) (m : ℕ) → m < k → is_one_of m ns ≡ true → is_one_of m (with_feeders k ws ns) ≡ true
  stays_in ns m h e =
      let f : ℕ → Bool = λ m. is_one_of m ns || list_any (λ (p : Wire). nat_eq p.sender m && (both_ready p && is_one_of p.receiver ns)) ws in
      one_of_kept f k m h ∙ or_left (is_one_of m ns) (list_any (λ (p : Wire). nat_eq p.sender m && (both_ready p && is_one_of p.receiver ns)) ws) e

  fed : (ns : List ℕ) (p : Wire) → Contains ws p → both_ready p ≡ true → is_one_of p.receiver ns ≡ true → is_one_of p.sender (with_feeders k ws ns) ≡ true
  fed ns p c ready e =
      let f : ℕ → Bool = λ m. is_one_of m ns || list_any (λ (q : Wire). nat_eq q.sender m && (both_ready q && is_one_of q.receiver ns)) ws in
      let g : Wire → Bool = λ q. nat_eq q.sender p.sender && (both_ready q && is_one_of q.receiver ns) in
      let o = forward p c in
      let lower = o.0 in
      let inside = o.1 in
      one_of_kept f k p.sender (omega (arith, lower, inside))
      ∙ or_right (is_one_of p.sender ns) (list_any g ws) (any_has g p ws c (and_true (nat_eq p.sender p.sender) (both_ready p && is_one_of p.receiver ns) (same_number p.sender p.sender refl) (and_true (both_ready p) (is_one_of p.receiver ns) ready e)))

  feeder : (ns : List ℕ) (m : ℕ) → is_one_of m (with_feeders k ws ns) ≡ true → (m < k) × ((is_one_of m ns ≡ true) ⊎ ((p : Wire) × Contains ws p × (p.sender ≡ m) × (both_ready p ≡ true) × (is_one_of p.receiver ns ≡ true)))
  feeder ns m e =
      let f : ℕ → Bool = λ n. is_one_of n ns || list_any (λ (q : Wire). nat_eq q.sender n && (both_ready q && is_one_of q.receiver ns)) ws in
      let g : Wire → Bool = λ q. nat_eq q.sender m && (both_ready q && is_one_of q.receiver ns) in
      let c = from_kept f m (below k) (has_one m (kept f (below k)) e) in (
        from_below k m c.0,
        elim (or_cases (is_one_of m ns) (list_any g ws) c.1) [
          | inl here ↦ inl here
          | inr some ↦
              let p = any_from g ws some in
              let a = and_both (nat_eq p.0.sender m) (both_ready p.0 && is_one_of p.0.receiver ns) p.2 in
              let b = and_both (both_ready p.0) (is_one_of p.0.receiver ns) a.1 in
              inr (p.0, p.1, is_number p.0.sender m a.0, b.0, b.1)
        ],
      )

  -- a test that holds of the blockers and of all that feed one of whom it holds, and of no others
  module _ (bs : List ℕ) (inside : (m : ℕ) → is_one_of m bs ≡ true → m < k) (R : ℕ → Bool) (starts : (m : ℕ) → is_one_of m bs ≡ true → R m ≡ true)
      (feeds : (p : Wire) → Contains ws p → both_ready p ≡ true → R p.receiver ≡ true → R p.sender ≡ true)
      (only : (m : ℕ) → R m ≡ true → (is_one_of m bs ≡ true) ⊎ ((p : Wire) × Contains ws p × (p.sender ≡ m) × (both_ready p ≡ true) × (R p.receiver ≡ true))) where
    within : (m : ℕ) → R m ≡ true → m < k
    within m e = elim (only m e) [ inl b ↦ inside m b | inr (p, c, is, ready, r) ↦ let f = forward p c in let lower = f.0 in let in_k = f.1 in omega (arith, lower, in_k, is) ]

    sound : (t : ℕ) (ns : List ℕ) → ((m : ℕ) → is_one_of m ns ≡ true → R m ≡ true) → (m : ℕ) → is_one_of m (all_feeders t k ws ns) ≡ true → R m ≡ true
    sound zero ns h m e = h m e
    sound (suc t) ns h m e = sound t (with_feeders k ws ns) (λ n d. elim (feeder ns n d).1 [ inl b ↦ h n b | inr (p, c, is, ready, r) ↦ subst (λ j. R j ≡ true) is (feeds p c ready (h p.receiver r)) ]) m e

    complete : (t done : ℕ) (ns : List ℕ) → ((m : ℕ) → is_one_of m bs ≡ true → is_one_of m ns ≡ true) → ((m : ℕ) → R m ≡ true → k ≤ m + done → is_one_of m ns ≡ true)
        → (m : ℕ) → R m ≡ true → k ≤ m + (done + t) → is_one_of m (all_feeders t k ws ns) ≡ true
    complete zero done ns has so_far m e h = so_far m e (omega (arith, h))
    complete (suc t) done ns has so_far m e h =
        complete t (done + 1) (with_feeders k ws ns) (λ n b. stays_in ns n (inside n b) (has n b)) more m e (omega (arith, h))
      where
        more : (n : ℕ) → R n ≡ true → k ≤ n + (done + 1) → is_one_of n (with_feeders k ws ns) ≡ true
        more n r far = elim (only n r) [
          | inl b ↦ stays_in ns n (inside n b) (has n b)
          | inr (p, c, is, ready, q) ↦
              let lower = (forward p c).0 in
              subst (λ j. is_one_of j (with_feeders k ws ns) ≡ true) is (fed ns p c ready (so_far p.receiver q (omega (arith, far, lower, is))))
        ]

    phase_test : (m : ℕ) → is_one_of m (all_feeders k k ws bs) ≡ R m
    phase_test m =
        same_flags (is_one_of m (all_feeders k k ws bs)) (R m) (sound k bs starts m)
        (λ e. complete k 0 bs (λ n b. b) (λ n r far. let w = within n r in absurd (omega (arith, far, w))) m e (omega arith))

    shape : (t : ℕ) (f : ℕ → Bool) → (g : ℕ → Bool) × (all_feeders t k ws (kept f (below k)) ≡ kept g (below k))
    shape zero f = (f, refl)
    shape (suc t) f = shape t (λ m. is_one_of m (kept f (below k)) || list_any (λ (p : Wire). nat_eq p.sender m && (both_ready p && is_one_of p.receiver (kept f (below k)))) ws)

    shape_any : (t : ℕ) (ns : List ℕ) → 0 < t → (g : ℕ → Bool) × (all_feeders t k ws ns ≡ kept g (below k))
    shape_any zero ns h = absurd (omega arith)
    shape_any (suc t) ns h = shape t (λ m. is_one_of m ns || list_any (λ (p : Wire). nat_eq p.sender m && (both_ready p && is_one_of p.receiver ns)) ws)

    none : (xs : List ℕ) → ((m : ℕ) → is_one_of m xs ≡ true → m < k) → k ≡ 0 → xs ≡ []
    none [] h e = refl
    none (x ∷ xs) h e = let f = h x (or_left (nat_eq x x) (is_one_of x xs) (same_number x x refl)) in absurd (omega (arith, f, e))

    -- the nodes of the phase are those of which it holds, in order
    pub phase_list : all_feeders k k ws bs ≡ kept R (below k)
    phase_list = elim (cases_eq k 0) [
      | inl zero_nodes ↦ ap (λ t. all_feeders t k ws bs) zero_nodes ∙ none bs inside zero_nodes ∙ sym (ap (λ n. kept R (below n)) zero_nodes)
      | inr some ↦
          let s = shape_any k bs (omega (arith, some)) in
          s.1 ∙ kept_alike s.0 R (below k) (λ m c. sym (one_of_kept s.0 k m (from_below k m c)) ∙ ap (is_one_of m) (sym s.1) ∙ phase_test m)
    ]
