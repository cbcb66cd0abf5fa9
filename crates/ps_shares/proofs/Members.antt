-- Which extents occur decides how long a zip is, and whether it ends early.
use Rattle.std.proofs.Common.{◌≡◌, ◌⊎◌, inl, inr, ℕ, zero, suc, ◌≤◌, ◌<◌, min, Bool, true, false, not, cond, List, [], ◌∷◌, length, refl, sym, ap, subst, ◌∙◌, arith}
use Rattle.std.specs.Prelude.{Contains, map, filter, fold, ◌==◌, ◌&&◌, ◌||◌}
use Rattle.std.specs.List.{AllByRecursion, list_all, list_any}
use Rattle.std.proofs.lemmas.Bool.{eqb-true, eq-eqb}
use Rattle.ps_frame.specs.Zip.{Extent, all_same, breaks_shape, broadcasts, least_or, open_lengths, zip_length}
use Rattle.ps_shares.specs.CallLaws.{MembersDecide, is_end}
use Rattle.ps_shares.proofs.FlatEnds.{ends_whole}
use Rattle.ps_shares.proofs.FlatLength.{both_hold, moving, moving_is_open, neither}
use Rattle.ps_shares.proofs.Leaves.{least_all}

-- a member, by recursion
abbrev pub Has : {A : Type 0} → List A → A → Type 0
Has [] a = ⊥
Has (x ∷ xs) a = (x ≡ a) ⊎ Has xs a

-- those that count: what doesn't broadcast
abbrev pub Counts : List Extent → List Extent → Type 0
Counts xs ys = (e : Extent) → broadcasts false e ≡ false → Has xs e → Has ys e

-- this holds of the length of what counts
abbrev pub AllCount : (ℕ → Type 0) → List Extent → Type 0
AllCount P es = (e : Extent) → broadcasts false e ≡ false → Has es e → P e.len

abbrev pub moving_as : Bool → Extent → List Extent → List ℕ
moving_as t e es = map (λ (e : Extent). e.len) (cond (not t) (e ∷ filter (λ e. not (broadcasts false e)) es) (filter (λ e. not (broadcasts false e)) es))

pub from_moving : (P : ℕ → Type 0) (es : List Extent) → AllByRecursion P (moving es) → AllCount P es
from_moving P [] all e s h = absurd h
from_moving P (x ∷ es) all e s h = step (broadcasts false x) refl all h (from_moving P es)
  where
    step : (t : Bool) → broadcasts false x ≡ t → AllByRecursion P (moving_as (broadcasts false x) x es) → (x ≡ e) ⊎ Has es e → (AllByRecursion P (moving es) → AllCount P es) → P e.len
    step true q all (inl k) rest = let w : true ≡ false = sym q ∙ ap (broadcasts false) k ∙ s in cc
    step true q all (inr k) rest = rest (subst (λ t. AllByRecursion P (moving_as t x es)) q all) e s k
    step false q all (inl k) rest = let a = subst (λ t. AllByRecursion P (moving_as t x es)) q all in subst (λ (y : Extent). P y.len) k a.0
    step false q all (inr k) rest = let a = subst (λ t. AllByRecursion P (moving_as t x es)) q all in rest a.1 e s k

pub to_moving : (P : ℕ → Type 0) (es : List Extent) → AllCount P es → AllByRecursion P (moving es)
to_moving P [] h = tt
to_moving P (x ∷ es) h = step (broadcasts false x) refl (to_moving P es (λ e s k. h e s (inr k)))
  where
    step : (t : Bool) → broadcasts false x ≡ t → AllByRecursion P (moving es) → AllByRecursion P (moving_as (broadcasts false x) x es)
    step true q all = subst (λ t. AllByRecursion P (moving_as t x es)) (sym q) all
    step false q all = subst (λ t. AllByRecursion P (moving_as t x es)) (sym q) (h x q (inl refl), all)

-- where nothing counts, nothing moves
pub first_counts : (es : List Extent) (m : ℕ) (ms : List ℕ) → moving es ≡ m ∷ ms → (e : Extent) × (broadcasts false e ≡ false) × Has es e
first_counts [] m ms h = cc
first_counts (x ∷ es) m ms h = step (broadcasts false x) refl (first_counts es m ms)
  where
    step : (t : Bool) → broadcasts false x ≡ t → (moving es ≡ m ∷ ms → (e : Extent) × (broadcasts false e ≡ false) × Has es e) → (e : Extent) × (broadcasts false e ≡ false) × Has (x ∷ es) e
    step false q rest = (x, q, inl refl)
    step true q rest =
        let k = rest (sym (ap (λ t. moving_as t x es) q) ∙ h) in
        (k.0, k.1, inr k.2)

pub least_least : (b d : ℕ) (ns : List ℕ) → AllByRecursion (λ n. b ≤ n) ns → (ns ≡ [] → b ≤ d) → b ≤ least_or d ns
least_least b d [] all one = one refl
least_least b d (n ∷ ns) all one = below_fold b n ns all.0 all.1
  where
    below_fold : (b a : ℕ) (ns : List ℕ) → b ≤ a → AllByRecursion (λ n. b ≤ n) ns → b ≤ fold min a ns
    below_fold b a [] le all = le
    below_fold b a (n ∷ ns) le all = let k = all.0 in below_fold b (min a n) ns (omega arith) all.1

no_longer : (xs ys : List Extent) → Counts ys xs → Counts xs ys → zip_length false xs ≤ zip_length false ys
no_longer xs ys back forth =
    let b = zip_length false xs in
    let l = from_moving (λ m. b ≤ m) xs (least_all b 1 (moving xs) (omega arith)) in
    least_least b 1 (moving ys) (to_moving (λ m. b ≤ m) ys (λ e s h. l e s (back e s h))) (λ none. by none (moving xs) refl)
  where
    by : moving ys ≡ [] → (ns : List ℕ) → moving xs ≡ ns → zip_length false xs ≤ 1
    by none [] q = let e : zip_length false xs ≡ 1 = ap (least_or 1) q in omega arith
    by none (m ∷ ms) q =
        let k = first_counts xs m ms q in
        absurd (from_moving (λ m. ⊥) ys (subst (λ ns. AllByRecursion (λ m. ⊥) ns) (sym none) tt) k.0 k.1 (forth k.0 k.1 k.2))

abbrev any : List Extent → Bool
any es = list_any (λ (e : Extent). e.ended) es

some_ended : (es : List Extent) → any es ≡ true → (e : Extent) × (e.ended ≡ true) × Has es e
some_ended [] h = cc
some_ended (x ∷ es) h = step x.ended refl h (some_ended es)
  where
    step : (t : Bool) → x.ended ≡ t → (x.ended || any es) ≡ true → (any es ≡ true → (e : Extent) × (e.ended ≡ true) × Has es e) → (e : Extent) × (e.ended ≡ true) × Has (x ∷ es) e
    step true q h rest = (x, q, inl refl)
    step false q h rest = let k = rest (sym (ap (λ t. t || any es) q) ∙ h) in (k.0, k.1, inr k.2)

has_ended : (es : List Extent) (e : Extent) → e.ended ≡ true → Has es e → any es ≡ true
has_ended [] e s h = absurd h
has_ended (x ∷ es) e s (inl k) = ap (λ t. t || any es) (ap (λ (e : Extent). e.ended) k ∙ s)
has_ended (x ∷ es) e s (inr k) = or_right x.ended (any es) (has_ended es e s k)
  where
    or_right : (a b : Bool) → b ≡ true → (a || b) ≡ true
    or_right true b h = refl
    or_right false b h = h

pub same_number : (ns : List ℕ) → all_same ns ≡ true → (m : ℕ) × AllByRecursion (λ n. n ≡ m) ns
same_number [] h = (0, tt)
same_number (m ∷ ms) h = (m, (refl, by ms h))
  where
    by : (ns : List ℕ) → list_all (λ n. n == m) ns ≡ true → AllByRecursion (λ n. n ≡ m) ns
    by [] h = tt
    by (n ∷ ns) h = let b = both_hold (n == m) (list_all (λ n. n == m) ns) h in (eqb-true n m b.0, by ns b.1)

pub are_same : (ns : List ℕ) (m : ℕ) → AllByRecursion (λ n. n ≡ m) ns → all_same ns ≡ true
are_same [] m all = refl
are_same (n ∷ ns) m all = by ns all.1
  where
    by : (ks : List ℕ) → AllByRecursion (λ k. k ≡ m) ks → list_all (λ k. k == n) ks ≡ true
    by [] all' = refl
    by (k ∷ ks) all' = let a = eq-eqb k n (all'.0 ∙ sym all.0) in let b = by ks all'.1 in λ i. a i && b i

not_false : (b : Bool) → not b ≡ false → b ≡ true
not_false true h = refl
not_false false h = cc

goes_on : (xs ys : List Extent) → Counts xs ys → is_end ys ≡ false → is_end xs ≡ false
goes_on xs ys forth h = by (any xs) refl
  where
    whole : any ys ≡ false
    whole = (neither (any ys) (breaks_shape false ys) h).0

    by : (t : Bool) → any xs ≡ t → is_end xs ≡ false
    by true q =
        let k = some_ended xs q in
        let w : true ≡ false = sym (has_ended ys k.0 k.1 (forth k.0 (ap (λ b. not b && (k.0.len == 1)) k.1) k.2)) ∙ whole in
        cc
    by false q =
        let s = same_number (moving ys) (ap all_same (moving_is_open ys whole) ∙ not_false (all_same (open_lengths ys)) (sym (ends_whole ys whole) ∙ h)) in
        let all = from_moving (λ n. n ≡ s.0) ys s.1 in
        let m = are_same (moving xs) s.0 (to_moving (λ n. n ≡ s.0) xs (λ e c k. all e c (forth e c k))) in
        ends_whole xs q ∙ ap (λ ns. not (all_same ns)) (sym (moving_is_open xs q)) ∙ ap not m

alike : (a b : Bool) → (b ≡ false → a ≡ false) → (a ≡ false → b ≡ false) → a ≡ b
alike true true f g = refl
alike false false f g = refl
alike true false f g = f refl
alike false true f g = sym (g refl)

-- a member by its place
pub to_has : {A : Type 0} (xs : List A) (a : A) → Contains xs a → Has xs a
to_has [] a h = absurd (omega (arith, h.1))
to_has (x ∷ xs) a (zero, lt, h) = inl h
to_has (x ∷ xs) a (suc i, lt, h) = let lt' : i < length xs = omega arith in inr (to_has xs a (i, lt', h))

pub from_has : {A : Type 0} (xs : List A) (a : A) → Has xs a → Contains xs a
from_has [] a h = absurd h
from_has (x ∷ xs) a (inl k) = (0, omega arith, k)
from_has (x ∷ xs) a (inr k) = let c = from_has xs a k in let lt = c.1 in (suc c.0, omega arith, c.2)

pub members_decide : MembersDecide
members_decide xs ys same =
    let forth : Counts xs ys = λ e s h. to_has ys e ((same e s).0 (from_has xs e h)) in
    let back : Counts ys xs = λ e s h. to_has xs e ((same e s).1 (from_has ys e h)) in
    let a = no_longer xs ys back forth in
    let b = no_longer ys xs forth back in
    (omega arith, alike (is_end xs) (is_end ys) (goes_on xs ys forth) (goes_on ys xs back))
