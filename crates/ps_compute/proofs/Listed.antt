-- Steps of loops over the places of a list of values.
use Rattle.std.proofs.Common.{Bor, ◌≡◌, ℕ, ◌+◌, ◌-◌, ◌<◌, not, cond, List, [], ◌∷◌, ◌++◌, map, length, take, drop, get_or, true, false, sym, ◌∙◌, ap, add-zero, arith}
use Rattle.std.specs.Prelude.{filter, slice_get, Some}
use Rattle.std.proofs.lemmas.List.{drop_more, map-append, take_more}
use Rattle.std.proofs.lemmas.List.Filters.{length-filter_more}
use Rattle.std.proofs.lemmas.Option.{get_or_from_slice_get, slice_get_within}
use Rattle.ps_frame.specs.Aggregates.{greater, greatest_value, least_value, lesser}
use Rattle.ps_frame.specs.Values.{is_null}
use Rattle.ps_frame.specs.declared.value.Value.{Value}

pub take_at : {A : Type 0} (xs : List A) (i : ℕ) (x : A) → slice_get xs i ≡ Some x → take (i + 1) xs ≡ take i xs ++ x ∷ []
take_at xs i x e = take_more xs i x (slice_get_within xs i x e) ∙ ap (λ y. take i xs ++ y ∷ []) (get_or_from_slice_get xs i x x e)

drop_at : {A : Type 0} (xs : List A) (i : ℕ) (x : A) → slice_get xs i ≡ Some x → drop i xs ≡ x ∷ drop (i + 1) xs
drop_at xs i x e = drop_more xs i x (slice_get_within xs i x e) ∙ ap (λ y. y ∷ drop (i + 1) xs) (get_or_from_slice_get xs i x x e)

-- the last one of the rest
rest : {A : Type 0} (xs : List A) (n : ℕ) (x : A) → 0 < n → slice_get xs (n - 1) ≡ Some x → drop (n - 1) xs ≡ x ∷ drop n xs
rest xs n x h e = let next : n - 1 + 1 ≡ n = omega arith in drop_at xs (n - 1) x e ∙ ap (λ k. x ∷ drop k xs) next

pub least-more : (vs : List Value) (n : ℕ) (v b r : Value) → 0 < n → slice_get vs (n - 1) ≡ Some v → b ≡ least_value (drop n vs) → r ≡ lesser v b → r ≡ least_value (drop (n - 1) vs)
least-more vs n v b r h at before is = is ∙ ap (lesser v) before ∙ sym (ap least_value (rest vs n v h at))

pub greatest-more : (vs : List Value) (n : ℕ) (v b r : Value) → 0 < n → slice_get vs (n - 1) ≡ Some v → b ≡ greatest_value (drop n vs) → r ≡ greater v b → r ≡ greatest_value (drop (n - 1) vs)
greatest-more vs n v b r h at before is = is ∙ ap (greater v) before ∙ sym (ap greatest_value (rest vs n v h at))

-- references to the values, one by one
pub references-more : (before after : List (Bor Value)) (v : Bor Value) (vs : List Value) (i : ℕ) → map (λ w. w.now) before ≡ take i vs → slice_get vs i ≡ Some v.now → after ≡ before ++ v ∷ [] → map (λ w. w.now) after ≡ take (i + 1) vs
references-more before after v vs i same at pushed =
    ap (map (λ w. w.now)) pushed ∙ map-append (λ w. w.now) before (v ∷ []) ∙ ap (λ ws. ws ++ v.now ∷ []) same ∙ sym (take_at vs i v.now at)

-- values that aren't null, counted one by one
pub null-more : (vs : List Value) (i n : ℕ) (v : Value) → slice_get vs i ≡ Some v → n ≡ length (filter (λ w. not (is_null w)) (take i vs)) → is_null v ≡ true → n ≡ length (filter (λ w. not (is_null w)) (take (i + 1) vs))
null-more vs i n v at before null =
    let here : not (is_null (get_or vs i v)) ≡ false = ap (λ w. not (is_null w)) (get_or_from_slice_get vs i v v at) ∙ ap not null in
    let more = length-filter_more (λ w. not (is_null w)) vs i v (slice_get_within vs i v at) in
    before ∙ sym (add-zero (length (filter (λ w. not (is_null w)) (take i vs)))) ∙ sym (more ∙ ap (λ b. length (filter (λ w. not (is_null w)) (take i vs)) + cond b 1 0) here)

pub value-more : (vs : List Value) (i n : ℕ) (v : Value) → slice_get vs i ≡ Some v → n ≡ length (filter (λ w. not (is_null w)) (take i vs)) → is_null v ≡ false → n + 1 ≡ length (filter (λ w. not (is_null w)) (take (i + 1) vs))
value-more vs i n v at before there =
    let here : not (is_null (get_or vs i v)) ≡ true = ap (λ w. not (is_null w)) (get_or_from_slice_get vs i v v at) ∙ ap not there in
    let more = length-filter_more (λ w. not (is_null w)) vs i v (slice_get_within vs i v at) in
    ap (λ k. k + 1) before ∙ sym (more ∙ ap (λ b. length (filter (λ w. not (is_null w)) (take i vs)) + cond b 1 0) here)
