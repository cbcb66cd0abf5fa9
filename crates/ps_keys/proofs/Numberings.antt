-- What the numbers of rows say, and how they grow.
use Rattle.std.proofs.Common.{◌≡◌, ◌≢◌, ℕ, zero, suc, ◌+◌, ◌<◌, List, [], ◌∷◌, ◌++◌, length, get_or, map, Bool, true, false, cond, refl, sym, ap, subst, ◌∙◌, arith, inl, inr, ◌⊎◌}
use Rattle.std.specs.Prelude.{not, ◌||◌, ◌==◌, filter as kept, slice_get, Option, Some, None}
use Rattle.std.specs.List.{list_any}
use Rattle.std.proofs.lemmas.Bool.{cases_eq, eq-eqb, ne_eqb, or_parts}
use Rattle.std.proofs.lemmas.List.{append-nil, get_or-map, map_push, length-map}
use Rattle.std.proofs.lemmas.List.Folds.{list_any_at, list_any_none}
use Rattle.std.proofs.lemmas.Option.{get_or_from_slice_get, same_Some, slice_get-get_or, slice_get_within}
use Rattle.ps_frame.specs.Values.{same_row}
use Rattle.ps_frame.specs.Zip.{below}
use Rattle.ps_frame.specs.declared.value.Value.{Value}
use Rattle.ps_meaning.specs.Distinct.{distinct_rows}
use Rattle.ps_keys.specs.declared.numbering.Numbering.{Numbering}
use Rattle.ps_keys.specs.Chains.{IsNumbered}
use Rattle.ps_keys.specs.Numbering.{Numbers, first_places}
use Rattle.ps_keys.proofs.SameRows.{same_row-from, same_row-not}
use Rattle.ps_keys.proofs.FirstRows.{firsts-at, firsts_by-push, firsts_by-rows, first_places-below, first_places-push, items_at, length-below, row-below, unless}

-- the distinct rows are the rows at the first places
pub distinct-at : (rows : List (List Value)) → items_at [] rows (first_places rows) ≡ distinct_rows rows
distinct-at rows = ap (λ ks. items_at [] rows (first_places ks)) (sym (map-same rows)) ∙ firsts-at (λ r. r) [] rows ∙ sym (firsts_by-rows rows)
  where
    map-same : (xs : List (List Value)) → map (λ r. r) xs ≡ xs
    map-same [] = refl
    map-same (x ∷ xs) = ap (λ ys. x ∷ ys) (map-same xs)

pub distinct-push : (rows : List (List Value)) (r : List Value) → distinct_rows (rows ++ r ∷ []) ≡ distinct_rows rows ++ unless (list_any (same_row r) rows) r
distinct-push rows r = firsts_by-rows (rows ++ r ∷ []) ∙ firsts_by-push (λ q. q) rows r ∙ ap (λ ds. ds ++ unless (list_any (same_row r) rows) r) (sym (firsts_by-rows rows))

module _ (rows : List (List Value)) (n : Numbering) (of : Numbers rows n) where
  pub keys-length : length n.keys.items ≡ length rows
  keys-length = sym (length-map n.keys.items (slice_get (distinct_rows rows))) ∙ ap length of.keys ∙ length-map rows Some

  -- a row is the distinct row of its number
  pub key-at : (i : ℕ) → i < length rows → slice_get (distinct_rows rows) (get_or n.keys.items i 0) ≡ Some (get_or rows i [])
  key-at i within =
      let none : Option (List Value) = None in
      sym (get_or-map (slice_get (distinct_rows rows)) n.keys.items i 0 none (omega (arith, keys-length)))
      ∙ ap (λ os. get_or os i none) of.keys
      ∙ get_or-map Some rows i [] none within

  pub distinct-are : distinct_rows rows ≡ items_at [] rows n.firsts.items
  distinct-are = sym (distinct-at rows) ∙ ap (items_at [] rows) (sym of.firsts)

  pub distinct-length : length (distinct_rows rows) ≡ length n.firsts.items
  distinct-length = ap length distinct-are ∙ length-map n.firsts.items (λ i. get_or rows i [])

  -- each row's number is one of a key, and its key's first row is like it
  pub keys-below : (i : ℕ) → i < length rows → get_or n.keys.items i 0 < length n.firsts.items
  keys-below i within = omega (arith, slice_get_within (distinct_rows rows) (get_or n.keys.items i 0) (get_or rows i []) (key-at i within), distinct-length)

  pub first-like : (k : ℕ) → k < length n.firsts.items → slice_get (distinct_rows rows) k ≡ Some (get_or rows (get_or n.firsts.items k 0) [])
  first-like k within =
      slice_get-get_or (distinct_rows rows) k [] (omega (arith, distinct-length))
      ∙ ap Some (ap (λ ds. get_or ds k []) distinct-are ∙ get_or-map (λ i. get_or rows i []) n.firsts.items k 0 [] within)

  pub firsts-below : (k : ℕ) → k < length n.firsts.items → get_or n.firsts.items k 0 < length rows
  firsts-below k within =
      subst (λ fs. get_or fs k 0 < length rows) (sym of.firsts) (first_places-below rows k (subst (λ fs. k < length fs) of.firsts within))

-- nothing is numbered yet
pub numbers-none : (n : Numbering) → n.keys.items ≡ [] → n.firsts.items ≡ [] → Numbers [] n
numbers-none n keys firsts = record { firsts = firsts; keys = ap (map (slice_get [])) keys }

slice_get-more : {A : Type 0} (xs more : List A) (k : ℕ) (x : A) → slice_get xs k ≡ Some x → slice_get (xs ++ more) k ≡ Some x
slice_get-more [] more k x e = cc
slice_get-more (y ∷ xs) more zero x e = e
slice_get-more (y ∷ xs) more (suc k) x e = slice_get-more xs more k x e

slice_get-last : {A : Type 0} (xs : List A) (x : A) → slice_get (xs ++ x ∷ []) (length xs) ≡ Some x
slice_get-last [] x = refl
slice_get-last (y ∷ xs) x = slice_get-last xs x

-- numbers into a list serve for a longer one too
keys-more : (ds more rows : List (List Value)) (keys : List ℕ) → map (slice_get ds) keys ≡ map Some rows → map (slice_get (ds ++ more)) keys ≡ map Some rows
keys-more ds more [] [] e = refl
keys-more ds more [] (k ∷ keys) e = cc
keys-more ds more (r ∷ rows) [] e = cc
keys-more ds more (r ∷ rows) (k ∷ keys) e =
    let first : slice_get ds k ≡ Some r = cc in
    let rest : map (slice_get ds) keys ≡ map Some rows = cc in
    ap (λ o. o ∷ map (slice_get (ds ++ more)) keys) (slice_get-more ds more k r first) ∙ ap (λ os. Some r ∷ os) (keys-more ds more rows keys rest)

module _ (rows : List (List Value)) (n m : Numbering) (of : Numbers rows n) (r : List Value) where
  -- one row more, which has a key already
  pub numbers-old : (k : ℕ) → k < length n.firsts.items → get_or rows (get_or n.firsts.items k 0) [] ≡ r → m.keys.items ≡ n.keys.items ++ k ∷ [] → m.firsts.items ≡ n.firsts.items → Numbers (rows ++ r ∷ []) m
  numbers-old k within like keys firsts =
      let met : list_any (same_row r) rows ≡ true =
      list_any_at (same_row r) rows (get_or n.firsts.items k 0) [] (firsts-below rows n of k within) (same_row-from r (get_or rows (get_or n.firsts.items k 0) []) (sym like)) in
      let ds = distinct_rows rows in
      let same : distinct_rows (rows ++ r ∷ []) ≡ ds = distinct-push rows r ∙ ap (λ t. ds ++ unless t r) met ∙ append-nil ds in
      record {
        firsts = firsts ∙ of.firsts ∙ sym (first_places-push rows r ∙ ap (λ t. first_places rows ++ unless t (length rows)) met ∙ append-nil (first_places rows));
        keys = ap (λ xs. map (slice_get xs) m.keys.items) same ∙ ap (map (slice_get ds)) keys ∙ map_push (slice_get ds) n.keys.items k
            ∙ ap (λ os. os ++ slice_get ds k ∷ []) of.keys ∙ ap (λ o. map Some rows ++ o ∷ []) (first-like rows n of k within ∙ ap Some like) ∙ sym (map_push Some rows r);
      }

  -- one row more, unlike the first row of each key
  pub numbers-new : ((k : ℕ) → k < length n.firsts.items → get_or rows (get_or n.firsts.items k 0) [] ≢ r) → m.keys.items ≡ n.keys.items ++ length n.firsts.items ∷ [] → m.firsts.items ≡ n.firsts.items ++ length rows ∷ [] → Numbers (rows ++ r ∷ []) m
  numbers-new unlike keys firsts =
      let ds = distinct_rows rows in
      let new : list_any (same_row r) rows ≡ false =
      list_any_none (same_row r) rows (λ i d within. same_row-not r (get_or rows i d) (λ same.
      let k = get_or n.keys.items i 0 in
      let inside = keys-below rows n of i within in
      let like : get_or rows (get_or n.firsts.items k 0) [] ≡ get_or rows i [] =
      same_Some (get_or rows (get_or n.firsts.items k 0) []) (get_or rows i []) (sym (first-like rows n of k inside) ∙ key-at rows n of i within) in
      unlike k inside (like ∙ get_or-any rows i [] d within ∙ sym same))) in
      let more : distinct_rows (rows ++ r ∷ []) ≡ ds ++ r ∷ [] = distinct-push rows r ∙ ap (λ t. ds ++ unless t r) new in
      record {
        firsts = firsts ∙ ap (λ fs. fs ++ length rows ∷ []) of.firsts ∙ sym (first_places-push rows r ∙ ap (λ t. first_places rows ++ unless t (length rows)) new);
        keys = ap (λ xs. map (slice_get xs) m.keys.items) more ∙ ap (map (slice_get (ds ++ r ∷ []))) keys ∙ map_push (slice_get (ds ++ r ∷ [])) n.keys.items (length n.firsts.items)
            ∙ ap (λ os. os ++ slice_get (ds ++ r ∷ []) (length n.firsts.items) ∷ []) (keys-more ds (r ∷ []) rows n.keys.items of.keys)
            ∙ ap (λ k. map Some rows ++ slice_get (ds ++ r ∷ []) k ∷ []) (sym (distinct-length rows n of))
            ∙ ap (λ o. map Some rows ++ o ∷ []) (slice_get-last ds r)
            ∙ sym (map_push Some rows r);
      }
    where
      get_or-any : (xs : List (List Value)) (i : ℕ) (a b : List Value) → i < length xs → get_or xs i a ≡ get_or xs i b
      get_or-any [] i a b within = absurd (omega arith)
      get_or-any (x ∷ xs) zero a b within = refl
      get_or-any (x ∷ xs) (suc i) a b within = get_or-any xs i a b (omega arith)

-- no row stands twice among the distinct rows
abbrev AreApart : List (List Value) → Type 0
AreApart [] = Unit {0}
AreApart (x ∷ xs) = (list_any (same_row x) xs ≡ false) × AreApart xs

none-step : (p : List Value → Bool) (t : Bool) (x : List Value) (xs : List (List Value)) → p x ≡ false → list_any p xs ≡ false → list_any p (cond t (x ∷ xs) xs) ≡ false
none-step p true x xs e rest = ap (λ s. s || list_any p xs) e ∙ rest
none-step p false x xs e rest = rest

kept-none : (p q : List Value → Bool) (xs : List (List Value)) → list_any p xs ≡ false → list_any p (kept q xs) ≡ false
kept-none p q [] e = refl
kept-none p q (x ∷ xs) e = let both = or_parts (p x) (list_any p xs) e in none-step p (q x) x (kept q xs) both.0 (kept-none p q xs both.1)

apart-step : (t : Bool) (x : List Value) (xs : List (List Value)) → list_any (same_row x) xs ≡ false → AreApart xs → AreApart (cond t (x ∷ xs) xs)
apart-step true x xs e rest = (e, rest)
apart-step false x xs e rest = rest

kept-apart : (q : List Value → Bool) (xs : List (List Value)) → AreApart xs → AreApart (kept q xs)
kept-apart q [] a = tt
kept-apart q (x ∷ xs) a = apart-step (q x) x (kept q xs) (kept-none (same_row x) q xs a.0) (kept-apart q xs a.1)

out-step : (p : List Value → Bool) (t : Bool) (x : List Value) (xs : List (List Value)) → p x ≡ t → list_any p xs ≡ false → list_any p (cond (not t) (x ∷ xs) xs) ≡ false
out-step p true x xs e rest = rest
out-step p false x xs e rest = ap (λ s. s || list_any p xs) e ∙ rest

left-out : (p : List Value → Bool) (xs : List (List Value)) → list_any p (kept (λ q. not (p q)) xs) ≡ false
left-out p [] = refl
left-out p (x ∷ xs) = out-step p (p x) x (kept (λ q. not (p q)) xs) refl (left-out p xs)

distinct-apart : (rows : List (List Value)) → AreApart (distinct_rows rows)
distinct-apart [] = tt
distinct-apart (r ∷ rows) = (left-out (same_row r) (distinct_rows rows), kept-apart (λ q. not (same_row r q)) (distinct_rows rows) (distinct-apart rows))

found : (x : List Value) (xs : List (List Value)) (k : ℕ) → slice_get xs k ≡ Some x → list_any (same_row x) xs ≡ false → ⊥
found x xs k e none =
    let within = slice_get_within xs k x e in
    let yes = list_any_at (same_row x) xs k [] within (same_row-from x (get_or xs k []) (sym (get_or_from_slice_get xs k x [] e))) in
    cc

-- a row stands at one place alone
one-place : (xs : List (List Value)) (a b : ℕ) (x : List Value) → AreApart xs → slice_get xs a ≡ Some x → slice_get xs b ≡ Some x → a ≡ b
one-place [] a b x apart e f = cc
one-place (y ∷ xs) zero zero x apart e f = refl
one-place (y ∷ xs) zero (suc b) x apart e f = let same = same_Some y x e in absurd (found x xs b f (subst (λ z. list_any (same_row z) xs ≡ false) same apart.0))
one-place (y ∷ xs) (suc a) zero x apart e f = let same = same_Some y x f in absurd (found x xs a e (subst (λ z. list_any (same_row z) xs ≡ false) same apart.0))
one-place (y ∷ xs) (suc a) (suc b) x apart e f = ap suc (one-place xs a b x apart.1 e f)

module _ (rows : List (List Value)) (n : Numbering) (of : Numbers rows n) (i j : ℕ) (in_i : i < length rows) (in_j : j < length rows) where
  -- rows have one number where they are equal, and only there
  pub same_number : get_or rows i [] ≡ get_or rows j [] → get_or n.keys.items i 0 ≡ get_or n.keys.items j 0
  same_number e = one-place (distinct_rows rows) (get_or n.keys.items i 0) (get_or n.keys.items j 0) (get_or rows i []) (distinct-apart rows) (key-at rows n of i in_i) (key-at rows n of j in_j ∙ ap Some (sym e))

  pub same_key : get_or n.keys.items i 0 ≡ get_or n.keys.items j 0 → get_or rows i [] ≡ get_or rows j []
  same_key e = same_Some (get_or rows i []) (get_or rows j []) (sym (key-at rows n of i in_i) ∙ ap (slice_get (distinct_rows rows)) e ∙ key-at rows n of j in_j)

  pub keys-match : (get_or n.keys.items j 0 == get_or n.keys.items i 0) ≡ same_row (get_or rows i []) (get_or rows j [])
  keys-match = by (cases_eq (get_or n.keys.items j 0) (get_or n.keys.items i 0))
    where
      by : (get_or n.keys.items j 0 ≡ get_or n.keys.items i 0) ⊎ (get_or n.keys.items j 0 ≡ get_or n.keys.items i 0 → ⊥) → (get_or n.keys.items j 0 == get_or n.keys.items i 0) ≡ same_row (get_or rows i []) (get_or rows j [])
      by (inl same) = eq-eqb (get_or n.keys.items j 0) (get_or n.keys.items i 0) same ∙ sym (same_row-from (get_or rows i []) (get_or rows j []) (same_key (sym same)))
      by (inr other) = ne_eqb (get_or n.keys.items j 0) (get_or n.keys.items i 0) other ∙ sym (same_row-not (get_or rows i []) (get_or rows j []) (λ e. other (sym (same_number e))))

-- a row has a number where it is the distinct row of that number
pub key-matches : (rows : List (List Value)) (n : Numbering) (of : Numbers rows n) (k i : ℕ) → k < length n.firsts.items → i < length rows → (get_or n.keys.items i 0 == k) ≡ same_row (get_or (distinct_rows rows) k []) (get_or rows i [])
key-matches rows n of k i in_k in_i = by (cases_eq (get_or n.keys.items i 0) k)
  where
    found : slice_get (distinct_rows rows) k ≡ Some (get_or (distinct_rows rows) k [])
    found = slice_get-get_or (distinct_rows rows) k [] (omega (arith, distinct-length rows n of))

    by : (get_or n.keys.items i 0 ≡ k) ⊎ (get_or n.keys.items i 0 ≡ k → ⊥) → (get_or n.keys.items i 0 == k) ≡ same_row (get_or (distinct_rows rows) k []) (get_or rows i [])
    by (inl same) =
        let like : get_or (distinct_rows rows) k [] ≡ get_or rows i [] =
        same_Some (get_or (distinct_rows rows) k []) (get_or rows i []) (sym found ∙ ap (slice_get (distinct_rows rows)) (sym same) ∙ key-at rows n of i in_i) in
        eq-eqb (get_or n.keys.items i 0) k same ∙ sym (same_row-from (get_or (distinct_rows rows) k []) (get_or rows i []) like)
    by (inr other) =
        ne_eqb (get_or n.keys.items i 0) k other
        ∙ sym (same_row-not (get_or (distinct_rows rows) k []) (get_or rows i []) (λ e.
        other (one-place (distinct_rows rows) (get_or n.keys.items i 0) k (get_or rows i []) (distinct-apart rows) (key-at rows n of i in_i) (found ∙ ap Some e))))

-- the numbers of rows that are counted up, one row more
pub numbers-step : (row : ℕ → List Value) (i k : ℕ) (n m : Numbering) → Numbers (map row (below i)) n → IsNumbered row n.firsts.items m.firsts.items i k → m.keys.items ≡ n.keys.items ++ k ∷ [] → Numbers (map row (below (i + 1))) m
numbers-step row i k n m of is keys =
    let rows = map row (below i) in
    let more : map row (below (i + 1)) ≡ rows ++ row i ∷ [] = let e : i + 1 ≡ suc i = omega arith in ap (λ j. map row (below j)) e ∙ map_push row (below i) i in
    let like : (k : ℕ) → k < length n.firsts.items → get_or rows (get_or n.firsts.items k 0) [] ≡ row (get_or n.firsts.items k 0) =
    λ k within. row-below row i (get_or n.firsts.items k 0) (let h = firsts-below rows n of k within in omega (arith, length-map (below i) row, length-below i)) in
    subst (λ rs. Numbers rs m) (sym more) (elim is [
      | inl old ↦ numbers-old rows n m of (row i) k old.0.within (like k old.0.within ∙ old.0.same) keys old.1
      | inr new ↦ numbers-new rows n m of (row i) (λ j within same. new.0 j within (sym (like j within) ∙ same))
          (keys ∙ ap (λ x. n.keys.items ++ x ∷ []) new.1)
          (new.2 ∙ ap (λ x. n.firsts.items ++ x ∷ []) (sym (length-map (below i) row ∙ length-below i)))
    ])
