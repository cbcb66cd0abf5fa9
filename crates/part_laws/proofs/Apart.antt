-- Rows of which none stands twice, and lists of them.
use Rattle.std.proofs.Common.{◌≡◌, Bool, true, false, cond, List, [], ◌∷◌, ◌++◌, refl, sym, ap, ◌∙◌, subst, append_assoc, append-nil, IsPermutation}
use Rattle.std.proofs.lemmas.List.Elements.{filter-append}
use Rattle.std.proofs.lemmas.List.Sorted.{IsPermutation-append, IsPermutation-append_comm, IsPermutation-refl, IsPermutation-sym, IsPermutation-trans}
use Rattle.std.specs.Prelude.{filter, flat_map, not, ◌||◌}
use Rattle.std.specs.List.{AllByRecursion, list_any}
use Rattle.ps_frame.specs.Tables.{Row}
use Rattle.ps_frame.specs.Values.{same_row}
use Rattle.ps_keys.proofs.SameRows.{same_row-back, same_row-itself}
use Rattle.ps_meaning.specs.Distinct.{distinct_rows}
use Rattle.part_laws.specs.Lists.{end_to_end}
use Rattle.part_laws.proofs.Permuted.{along-permutation, permuted-filter}

-- a row is one of a list
abbrev pub in_list : List Row → Row → Bool
in_list l k = list_any (same_row k) l

abbrev pub AreApart : List Row → Type 0
AreApart [] = Unit {0}
AreApart (x ∷ xs) = (list_any (same_row x) xs ≡ false) × AreApart xs

or-parts : (a b : Bool) → (a || b) ≡ false → (a ≡ false) × (b ≡ false)
or-parts true b h = cc
or-parts false b h = (refl, h)

or-true : (b : Bool) → (b || true) ≡ true
or-true true = refl
or-true false = refl

none-step : (p : Row → Bool) (t : Bool) (x : Row) (xs : List Row) → p x ≡ false → list_any p xs ≡ false → list_any p (cond t (x ∷ xs) xs) ≡ false
none-step p true x xs e rest = ap (λ s. s || list_any p xs) e ∙ rest
none-step p false x xs e rest = rest

kept-none : (p q : Row → Bool) (xs : List Row) → list_any p xs ≡ false → list_any p (filter q xs) ≡ false
kept-none p q [] e = refl
kept-none p q (x ∷ xs) e = let both = or-parts (p x) (list_any p xs) e in none-step p (q x) x (filter q xs) both.0 (kept-none p q xs both.1)

apart-step : (t : Bool) (x : Row) (xs : List Row) → list_any (same_row x) xs ≡ false → AreApart xs → AreApart (cond t (x ∷ xs) xs)
apart-step true x xs e rest = (e, rest)
apart-step false x xs e rest = rest

kept-apart : (q : Row → Bool) (xs : List Row) → AreApart xs → AreApart (filter q xs)
kept-apart q [] a = tt
kept-apart q (x ∷ xs) a = apart-step (q x) x (filter q xs) (kept-none (same_row x) q xs a.0) (kept-apart q xs a.1)

out-step : (p : Row → Bool) (t : Bool) (x : Row) (xs : List Row) → p x ≡ t → list_any p xs ≡ false → list_any p (cond (not t) (x ∷ xs) xs) ≡ false
out-step p true x xs e rest = rest
out-step p false x xs e rest = ap (λ s. s || list_any p xs) e ∙ rest

left-out : (p : Row → Bool) (xs : List Row) → list_any p (filter (λ q. not (p q)) xs) ≡ false
left-out p [] = refl
left-out p (x ∷ xs) = out-step p (p x) x (filter (λ q. not (p q)) xs) refl (left-out p xs)

pub distinct-apart : (rows : List Row) → AreApart (distinct_rows rows)
distinct-apart [] = tt
distinct-apart (r ∷ rows) = (left-out (same_row r) (distinct_rows rows), kept-apart (λ q. not (same_row r q)) (distinct_rows rows) (distinct-apart rows))

-- in another order they are apart as well
record Keeps (xs ys : List Row) : Type 0 where
  apart : AreApart xs → AreApart ys
  any : (t : Row → Bool) → list_any t xs ≡ list_any t ys

or-turn : (a b c : Bool) → (a || (b || c)) ≡ (b || (a || c))
or-turn true true c = refl
or-turn true false c = refl
or-turn false true c = refl
or-turn false false c = refl

turn-apart : (x y : Row) (xs : List Row) → AreApart (x ∷ y ∷ xs) → AreApart (y ∷ x ∷ xs)
turn-apart x y xs a =
    let p = or-parts (same_row x y) (list_any (same_row x) xs) a.0 in
    (ap (λ b. b || list_any (same_row y) xs) (same_row-back y x ∙ p.0) ∙ a.1.0, (p.1, a.1.1))

keeps-apart : (xs ys : List Row) → IsPermutation xs ys → Keeps xs ys
keeps-apart = along-permutation Keeps
    (λ xs. record { apart = λ a. a; any = λ t. refl })
    (λ x xs ys k. record { apart = λ a. (sym (k.any (same_row x)) ∙ a.0, k.apart a.1); any = λ t. ap (λ b. t x || b) (k.any t) })
    (λ x y xs. record { apart = turn-apart x y xs; any = λ t. or-turn (t x) (t y) (list_any t xs) })
    (λ xs ys zs k j. record { apart = λ a. j.apart (k.apart a); any = λ t. k.any t ∙ j.any t })

pub permuted-apart : (xs ys : List Row) → IsPermutation xs ys → AreApart xs → AreApart ys
permuted-apart xs ys h = (keeps-apart xs ys h).apart

-- those of a front are kept, and none behind it
filter-all : (t : Row → Bool) (xs : List Row) → AllByRecursion (λ x. t x ≡ true) xs → filter t xs ≡ xs
filter-all t [] h = refl
filter-all t (x ∷ xs) h = ap (λ b. cond b (x ∷ filter t xs) (filter t xs)) h.0 ∙ ap (λ ys. x ∷ ys) (filter-all t xs h.1)

filter-none : (t : Row → Bool) (xs : List Row) → AllByRecursion (λ x. t x ≡ false) xs → filter t xs ≡ []
filter-none t [] h = refl
filter-none t (x ∷ xs) h = ap (λ b. cond b (x ∷ filter t xs) (filter t xs)) h.0 ∙ filter-none t xs h.1

in-more : (y : Row) (l : List Row) (x : Row) → in_list l x ≡ true → in_list (y ∷ l) x ≡ true
in-more y l x h = ap (λ b. same_row x y || b) h ∙ or-true (same_row x y)

weaker : (P Q : Row → Type 0) → ((x : Row) → P x → Q x) → (xs : List Row) → AllByRecursion P xs → AllByRecursion Q xs
weaker P Q f [] h = tt
weaker P Q f (x ∷ xs) h = (f x h.0, weaker P Q f xs h.1)

own : (l : List Row) → AllByRecursion (λ x. in_list l x ≡ true) l
own [] = tt
own (y ∷ l) = (ap (λ b. b || in_list l y) (same_row-itself y), weaker (λ x. in_list l x ≡ true) (λ x. in_list (y ∷ l) x ≡ true) (in-more y l) l (own l))

-- none of these is y
not-there : (y : Row) (xs : List Row) → list_any (same_row y) xs ≡ false → AllByRecursion (λ x. same_row x y ≡ false) xs
not-there y [] h = tt
not-there y (x ∷ xs) h = let p = or-parts (same_row y x) (list_any (same_row y) xs) h in (same_row-back x y ∙ p.0, not-there y xs p.1)

any-behind : (t : Row → Bool) (xs ys : List Row) → list_any t (xs ++ ys) ≡ false → list_any t ys ≡ false
any-behind t [] ys h = h
any-behind t (x ∷ xs) ys h = any-behind t xs ys (or-parts (t x) (list_any t (xs ++ ys)) h).1

both-false : (P Q : Row → Bool) (xs : List Row) → AllByRecursion (λ x. P x ≡ false) xs → AllByRecursion (λ x. Q x ≡ false) xs → AllByRecursion (λ x. (P x || Q x) ≡ false) xs
both-false P Q [] h k = tt
both-false P Q (x ∷ xs) h k = (ap (λ b. b || Q x) h.0 ∙ k.0, both-false P Q xs h.1 k.1)

all-false : (xs : List Row) → AllByRecursion (λ x. in_list [] x ≡ false) xs
all-false [] = tt
all-false (x ∷ xs) = (refl, all-false xs)

pub others : (l xs : List Row) → AreApart (l ++ xs) → AllByRecursion (λ x. in_list l x ≡ false) xs
others [] xs a = all-false xs
others (y ∷ l) xs a = both-false (λ x. same_row x y) (in_list l) xs (not-there y xs (any-behind (same_row y) l xs a.0)) (others l xs a.1)

pub front-kept : (l xs : List Row) → AreApart (l ++ xs) → filter (in_list l) (l ++ xs) ≡ l
front-kept l xs a = filter-append (in_list l) l xs ∙ (λ i. filter-all (in_list l) l (own l) i ++ filter-none (in_list l) xs (others l xs a) i) ∙ append-nil l

-- of rows that are apart, those of a list are that list in some order
list-kept : (all done l rest : List Row) → AreApart all → IsPermutation all (done ++ (l ++ rest)) → IsPermutation (filter (in_list l) all) l
list-kept all done l rest a h =
    let turned : IsPermutation (done ++ (l ++ rest)) ((l ++ rest) ++ done) = IsPermutation-append_comm done (l ++ rest) in
    let k : IsPermutation all (l ++ (rest ++ done)) = subst (IsPermutation all) (append_assoc l rest done) (IsPermutation-trans all (done ++ (l ++ rest)) ((l ++ rest) ++ done) h turned) in
    subst (IsPermutation (filter (in_list l) all)) (front-kept l (rest ++ done) (permuted-apart all (l ++ (rest ++ done)) k a)) (permuted-filter (in_list l) all (l ++ (rest ++ done)) k)

lists-kept : (all done : List Row) (ls : List (List Row)) → AreApart all → IsPermutation all (done ++ end_to_end ls) → IsPermutation (flat_map (λ l. filter (in_list l) all) ls) (end_to_end ls)
lists-kept all done [] a h = IsPermutation-refl []
lists-kept all done (l ∷ ls) a h =
    IsPermutation-append (filter (in_list l) all) l (flat_map (λ l. filter (in_list l) all) ls) (end_to_end ls) (list-kept all done l (end_to_end ls) a h)
    (lists-kept all (done ++ l) ls a (subst (IsPermutation all) (sym (append_assoc done l (end_to_end ls))) h))

-- Rows that are apart are split into lists: list after list they are there, in some order.
pub split-kept : (all : List Row) (ls : List (List Row)) → AreApart all → IsPermutation all (end_to_end ls) → IsPermutation all (flat_map (λ l. filter (in_list l) all) ls)
split-kept all ls a h = IsPermutation-trans all (end_to_end ls) (flat_map (λ l. filter (in_list l) all) ls) h (IsPermutation-sym (flat_map (λ l. filter (in_list l) all) ls) (end_to_end ls) (lists-kept all [] ls a h))
