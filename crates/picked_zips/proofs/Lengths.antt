-- Whether lengths agree hangs on which extents occur.
use Rattle.std.proofs.Common.{◌≡◌, ◌⊎◌, inl, inr, ℕ, Bool, true, false, not, cond, List, [], ◌∷◌, refl, sym, ap, subst, ◌∙◌}
use Rattle.std.specs.Prelude.{map, filter, nat_le, nat_lt, ◌==◌, ◌&&◌, ◌||◌}
use Rattle.std.specs.List.{AllByRecursion, list_any}
use Rattle.ps_frame.specs.Zip.{Extent, all_same, breaks_shape, ended_lengths, lengths_where, open_lengths, outgrows}
use Rattle.ps_shares.proofs.FlatLength.{neither}
use Rattle.ps_shares.proofs.Members.{Has, are_same, same_number}

-- what holds of the lengths of those that pass a test
module _ (test : Extent → Bool) (P : ℕ → Type 0) where
  abbrev as_first : Bool → Extent → List Extent → List ℕ
  as_first b x es = map (λ (e : Extent). e.len) (cond b (x ∷ filter test es) (filter test es))

  of_lengths : (es : List Extent) → AllByRecursion P (lengths_where test es) → (e : Extent) → test e ≡ true → Has es e → P e.len
  of_lengths [] all e t h = absurd h
  of_lengths (x ∷ es) all e t h = by (test x) refl all h (of_lengths es)
    where
      by : (b : Bool) → test x ≡ b → AllByRecursion P (as_first b x es) → (x ≡ e) ⊎ Has es e → (AllByRecursion P (lengths_where test es) → (e : Extent) → test e ≡ true → Has es e → P e.len) → P e.len
      by true q all (inl k) rest = subst (λ (y : Extent). P y.len) k all.0
      by true q all (inr k) rest = rest all.1 e t k
      by false q all (inl k) rest = let w : true ≡ false = sym t ∙ ap test (sym k) ∙ q in cc
      by false q all (inr k) rest = rest all e t k

  to_lengths : (es : List Extent) → ((e : Extent) → test e ≡ true → Has es e → P e.len) → AllByRecursion P (lengths_where test es)
  to_lengths [] each = tt
  to_lengths (x ∷ es) each = by (test x) refl (to_lengths es (λ e t h. each e t (inr h)))
    where
      by : (b : Bool) → test x ≡ b → AllByRecursion P (lengths_where test es) → AllByRecursion P (as_first b x es)
      by true q rest = (each x q (inl refl), rest)
      by false q rest = rest

any_none : {A : Type 0} (f : A → Bool) (xs : List A) → list_any f xs ≡ false → AllByRecursion (λ x. f x ≡ false) xs
any_none f [] h = tt
any_none f (x ∷ xs) h = let b = neither (f x) (list_any f xs) h in (b.0, any_none f xs b.1)

none_any : {A : Type 0} (f : A → Bool) (xs : List A) → AllByRecursion (λ x. f x ≡ false) xs → list_any f xs ≡ false
none_any f [] all = refl
none_any f (x ∷ xs) all = let p = all.0 in let q = none_any f xs all.1 in λ i. p i || q i

was_true : (b : Bool) → not b ≡ false → b ≡ true
was_true true h = refl
was_true false h = cc

abbrev is_open : Extent → Bool
is_open e = not e.ended && not (e.len == 1)

abbrev Within : List Extent → List Extent → Type 0
Within xs ys = (e : Extent) → Has xs e → Has ys e

fewer_outgrow : (xs ys : List Extent) → Within xs ys → (part : ℕ) → outgrows (open_lengths ys) part ≡ false → outgrows (open_lengths xs) part ≡ false
fewer_outgrow xs ys within part h = by (nat_le 2 part) h
  where
    by : (b : Bool) → (b && list_any (λ n. nat_lt n part) (open_lengths ys)) ≡ false → (b && list_any (λ n. nat_lt n part) (open_lengths xs)) ≡ false
    by false h = refl
    by true h =
        let all = of_lengths is_open (λ n. nat_lt n part ≡ false) ys (any_none (λ n. nat_lt n part) (open_lengths ys) h) in
        none_any (λ n. nat_lt n part) (open_lengths xs) (to_lengths is_open (λ n. nat_lt n part ≡ false) xs (λ e t k. all e t (within e k)))

fewer_agree : (xs ys : List Extent) → Within xs ys → breaks_shape false ys ≡ false → breaks_shape false xs ≡ false
fewer_agree xs ys within h =
    let parts = neither (not (all_same (open_lengths ys))) (list_any (outgrows (open_lengths ys)) (ended_lengths ys)) h in
    let same = same_number (open_lengths ys) (was_true (all_same (open_lengths ys)) parts.0) in
    let each = of_lengths is_open (λ n. n ≡ same.0) ys same.1 in
    let first = are_same (open_lengths xs) same.0 (to_lengths is_open (λ n. n ≡ same.0) xs (λ e t k. each e t (within e k))) in
    let ended = of_lengths (λ e. e.ended) (λ n. outgrows (open_lengths ys) n ≡ false) ys (any_none (outgrows (open_lengths ys)) (ended_lengths ys) parts.1) in
    let last = none_any (outgrows (open_lengths xs)) (ended_lengths xs) (to_lengths (λ e. e.ended) (λ n. outgrows (open_lengths xs) n ≡ false) xs (λ e t k. fewer_outgrow xs ys within e.len (ended e t (within e k)))) in
    λ i. not (first i) || last i

pub same_shape : (xs ys : List Extent) → Within xs ys → Within ys xs → breaks_shape false xs ≡ breaks_shape false ys
same_shape xs ys forth back = by (breaks_shape false xs) (breaks_shape false ys) (fewer_agree xs ys forth) (fewer_agree ys xs back)
  where
    by : (a b : Bool) → (b ≡ false → a ≡ false) → (a ≡ false → b ≡ false) → a ≡ b
    by true true f g = refl
    by false false f g = refl
    by true false f g = f refl
    by false true f g = sym (g refl)
