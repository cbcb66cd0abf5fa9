-- Lengths that agree among some columns agree among fewer.
use Rattle.std.proofs.Common.{◌≡◌, inl, inr, ℕ, Bool, true, false, not, cond, List, [], ◌∷◌, refl, sym, ap, subst, ◌∙◌}
use Rattle.std.specs.Prelude.{filter, map, nat_le, nat_lt, ◌==◌, ◌&&◌, ◌||◌}
use Rattle.std.specs.List.{AllByRecursion, list_any}
use Rattle.ps_frame.specs.Causes.{Cause, Column}
use Rattle.ps_frame.specs.Zip.{Extent, all_same, breaks_shape, ended_lengths, extent_of, extents, lengths_where, open_lengths, outgrows}
use Rattle.ps_shares.proofs.FlatLength.{neither}
use Rattle.ps_shares.proofs.Members.{Has, are_same, same_number}
use Rattle.ps_bundles.proofs.ExprEnds.{from_each, one_of}
use Rattle.ps_bundles.proofs.NewNodes.{Covers, KnownOf, shape_at}
use Rattle.ps_bundles.proofs.ZipEnds.{differ}

-- the lengths of what passes a test
module _ (test : Extent → Bool) where
  passes : (es : List Extent) (e : Extent) → Has es e → test e ≡ true → Has (lengths_where test es) e.len
  passes [] e h p = absurd h
  passes (x ∷ es) e (inl q) p = subst (λ b. Has (map (λ (e : Extent). e.len) (cond b (x ∷ filter test es) (filter test es))) e.len) (sym (ap test q ∙ p)) (inl (ap (λ (e : Extent). e.len) q))
  passes (x ∷ es) e (inr h) p = by (test x) (passes es e h p)
    where
      by : (b : Bool) → Has (lengths_where test es) e.len → Has (map (λ (e : Extent). e.len) (cond b (x ∷ filter test es) (filter test es))) e.len
      by true k = inr k
      by false k = k

  passed : (es : List Extent) (n : ℕ) → Has (lengths_where test es) n → (e : Extent) × Has es e × (test e ≡ true) × (e.len ≡ n)
  passed [] n h = absurd h
  passed (x ∷ es) n h = by (test x) refl h (passed es n)
    where
      later : (e : Extent) × Has es e × (test e ≡ true) × (e.len ≡ n) → (e : Extent) × Has (x ∷ es) e × (test e ≡ true) × (e.len ≡ n)
      later (e, k, p, q) = (e, inr k, p, q)

      by : (b : Bool) → test x ≡ b → Has (map (λ (e : Extent). e.len) (cond b (x ∷ filter test es) (filter test es))) n → (Has (lengths_where test es) n → (e : Extent) × Has es e × (test e ≡ true) × (e.len ≡ n))
          → (e : Extent) × Has (x ∷ es) e × (test e ≡ true) × (e.len ≡ n)
      by true p (inl q) rest = (x, inl refl, p, q)
      by true p (inr k) rest = later (rest k)
      by false p k rest = later (rest k)

  fewer : (xs ys : List Extent) → ((e : Extent) → Has xs e → Has ys e) → (n : ℕ) → Has (lengths_where test xs) n → Has (lengths_where test ys) n
  fewer xs ys f n h = let k = passed xs n h in subst (Has (lengths_where test ys)) k.3 (passes ys k.0 (f k.0 k.1) k.2)

none_passes : {A : Type 0} (p : A → Bool) (xs : List A) (a : A) → Has xs a → list_any p xs ≡ false → p a ≡ false
none_passes p [] a h e = absurd h
none_passes p (x ∷ xs) a (inl q) e = ap p (sym q) ∙ (neither (p x) (list_any p xs) e).0
none_passes p (x ∷ xs) a (inr h) e = none_passes p xs a h (neither (p x) (list_any p xs) e).1

none_pass : {A : Type 0} (p : A → Bool) (xs : List A) → ((a : A) → Has xs a → p a ≡ false) → list_any p xs ≡ false
none_pass p [] f = refl
none_pass p (x ∷ xs) f = let a = f x (inl refl) in let b = none_pass p xs (λ a h. f a (inr h)) in λ i. a i || b i

held : (b : Bool) → not b ≡ false → b ≡ true
held true h = refl
held false h = absurd (differ h)

pub fit_fewer : (xs ys : List Extent) → ((e : Extent) → Has xs e → Has ys e) → breaks_shape false ys ≡ false → breaks_shape false xs ≡ false
fit_fewer xs ys f h =
    let n = neither (not (all_same (open_lengths ys))) (list_any (outgrows (open_lengths ys)) (ended_lengths ys)) h in
    let s = same_number (open_lengths ys) (held (all_same (open_lengths ys)) n.0) in
    let same = are_same (open_lengths xs) s.0 (from_each (λ m. m ≡ s.0) (open_lengths xs) (λ m k. one_of (λ m. m ≡ s.0) (open_lengths ys) m s.1 (fewer (λ e. not e.ended && not (e.len == 1)) xs ys f m k))) in
    let a = ap not same in
    let b = none_pass (outgrows (open_lengths xs)) (ended_lengths xs) (λ part k.
    within part (nat_le 2 part) refl (none_passes (outgrows (open_lengths ys)) (ended_lengths ys) part (fewer (λ e. e.ended) xs ys f part k) n.1)) in
    λ i. a i || b i
  where
    within : (part : ℕ) (b : Bool) → nat_le 2 part ≡ b → outgrows (open_lengths ys) part ≡ false → outgrows (open_lengths xs) part ≡ false
    within part false q k = ap (λ b. b && list_any (λ n. nat_lt n part) (open_lengths xs)) q
    within part true q k =
        let all : list_any (λ n. nat_lt n part) (open_lengths ys) ≡ false = sym (ap (λ b. b && list_any (λ n. nat_lt n part) (open_lengths ys)) q) ∙ k in
        ap (λ b. b && list_any (λ n. nat_lt n part) (open_lengths xs)) q
        ∙ none_pass (λ n. nat_lt n part) (open_lengths xs) (λ m r. none_passes (λ n. nat_lt n part) (open_lengths ys) m (fewer (λ e. not e.ended && not (e.len == 1)) xs ys f m r) all)

-- What covers some columns covers those among them.
pub covers_fewer : (at : ℕ) (causes : List Cause) (xs ys : List Column) → AllByRecursion (Has ys) xs → Covers at causes ys → Covers at causes xs
covers_fewer at causes xs ys all h = (
  each xs all,
  (λ q. by (breaks_shape false (extents ys)) refl q),
)
  where
    each : (xs : List Column) → AllByRecursion (Has ys) xs → AllByRecursion (KnownOf causes) xs
    each [] all = tt
    each (x ∷ xs) all = (one_of (KnownOf causes) ys x h.0 all.0, each xs all.1)

    extent_in : (cs : List Column) (c : Column) → Has cs c → Has (extents cs) (extent_of c)
    extent_in [] c k = absurd k
    extent_in (x ∷ cs) c (inl e) = inl (ap extent_of e)
    extent_in (x ∷ cs) c (inr k) = inr (extent_in cs c k)

    all_in : (xs : List Column) → AllByRecursion (Has ys) xs → (e : Extent) → Has (extents xs) e → Has (extents ys) e
    all_in [] all e k = absurd k
    all_in (x ∷ xs) all e (inl q) = subst (Has (extents ys)) q (extent_in ys x all.0)
    all_in (x ∷ xs) all e (inr k) = all_in xs all.1 e k

    by : (b : Bool) → breaks_shape false (extents ys) ≡ b → breaks_shape false (extents xs) ≡ true → Has causes (shape_at at)
    by true r q = h.1 r
    by false r q = absurd (differ (sym q ∙ fit_fewer (extents xs) (extents ys) (all_in xs all) r))
