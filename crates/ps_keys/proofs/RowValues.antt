-- The rows of columns, value by value.
use Rattle.std.proofs.Common.{◌≡◌, ℕ, zero, suc, ◌+◌, ◌<◌, List, [], ◌∷◌, ◌++◌, length, get_or, take, replicate, map, refl, sym, ap, ◌∙◌, arith}
use Rattle.std.specs.Prelude.{slice_get, Some}
use Rattle.std.proofs.lemmas.List.{get_or-map, map_more}
use Rattle.std.proofs.lemmas.Option.{get_or_from_slice_get}
use Rattle.std.specs.List.{fold}
use Rattle.std.proofs.lemmas.List.Sums.{fold-append}
use Rattle.std.specs.Hash.FoldHasher.{initial}
use Rattle.std.specs.declared.hash.FoldHasher.{FoldHasher}
use Rattle.ps_frame.specs.Frames.{AllOfHeight, column_values}
use Rattle.ps_frame.specs.Tables.{beside, rows_of}
use Rattle.ps_frame.specs.Series.{Series}
use Rattle.ps_frame.specs.Zip.{below}
use Rattle.ps_frame.specs.declared.value.Value.{Value}
use Rattle.ps_frame.specs.declared.value.Value.TheVariants as val
use Rattle.ps_keys.specs.Hashes.{HaveRow, row_at, with_value}

-- the value of one column at a row
pub value_in : (c : Series) (cs : List Series) (k i : ℕ) (v : Value) → c ≡ get_or cs k c → slice_get c.values i ≡ Some v → v ≡ get_or (get_or cs k c).values i val.Null
value_in c cs k i v at found = sym (get_or_from_slice_get c.values i v val.Null found) ∙ ap (λ (d : Series). get_or d.values i val.Null) at

-- one column more of a row
pub row_at-more : (c : Series) (cs : List Series) (k i : ℕ) (v : Value) → k < length cs → c ≡ get_or cs k c → slice_get c.values i ≡ Some v → row_at (take (k + 1) cs) i ≡ row_at (take k cs) i ++ v ∷ []
row_at-more c cs k i v within at found =
    map_more (λ (d : Series). get_or d.values i val.Null) cs k c within
    ∙ ap (λ w. row_at (take k cs) i ++ w ∷ []) (sym (value_in c cs k i v at found))

-- rows that are equal so far
pub same-more : (c : Series) (cs : List Series) (k a b : ℕ) (v w : Value) → k < length cs → c ≡ get_or cs k c → slice_get c.values a ≡ Some v → slice_get c.values b ≡ Some w → v ≡ w
    → row_at (take k cs) a ≡ row_at (take k cs) b → row_at (take (k + 1) cs) a ≡ row_at (take (k + 1) cs) b
same-more c cs k a b v w within at first second same before =
    row_at-more c cs k a v within at first
    ∙ ap (λ r. r ++ v ∷ []) before
    ∙ ap (λ x. row_at (take k cs) b ++ x ∷ []) same
    ∙ sym (row_at-more c cs k b w within at second)

-- equal rows have equal values
pub same-at : (c : Series) (cs : List Series) (k a b : ℕ) (v w : Value) → k < length cs → c ≡ get_or cs k c → slice_get c.values a ≡ Some v → slice_get c.values b ≡ Some w → row_at cs a ≡ row_at cs b → v ≡ w
same-at c cs k a b v w within at first second same =
    value_in c cs k a v at first
    ∙ sym (get_or-map (λ (d : Series). get_or d.values a val.Null) cs k c val.Null within)
    ∙ ap (λ r. get_or r k val.Null) same
    ∙ get_or-map (λ (d : Series). get_or d.values b val.Null) cs k c val.Null within
    ∙ sym (value_in c cs k b w at second)

-- one value more in a hash
pub hash-more : (c : Series) (cs : List Series) (k i : ℕ) (v : Value) (state after : FoldHasher) → k < length cs → c ≡ get_or cs k c → slice_get c.values i ≡ Some v
    → state ≡ fold with_value initial (row_at (take k cs) i) → after ≡ with_value state v → after ≡ fold with_value initial (row_at (take (k + 1) cs) i)
hash-more c cs k i v state after within at found before step =
    step ∙ ap (λ s. with_value s v) before
    ∙ sym (fold-append with_value initial (row_at (take k cs) i) (v ∷ []))
    ∙ sym (ap (fold with_value initial) (row_at-more c cs k i v within at found))

-- columns of one height have each row below it
pub have_row : (h i : ℕ) (cs : List Series) → AllOfHeight h cs → i < h → HaveRow cs i
have_row h i [] p below k d within = absurd (omega arith)
have_row h i (c ∷ cs) p below zero d within = let e = p.0 in omega arith
have_row h i (c ∷ cs) p below (suc k) d within = have_row h i cs p.1 below k d (omega arith)

-- the numbers below, from the front
pub below-front : (n : ℕ) → below (suc n) ≡ 0 ∷ map suc (below n)
below-front zero = refl
below-front (suc n) = ap (λ xs. xs ++ suc n ∷ []) (below-front n) ∙ ap (λ xs. 0 ∷ xs) (sym (map-push (below n) n))
  where
    map-push : (xs : List ℕ) (x : ℕ) → map suc (xs ++ x ∷ []) ≡ map suc xs ++ suc x ∷ []
    map-push [] x = refl
    map-push (y ∷ xs) x = ap (λ ys. suc y ∷ ys) (map-push xs x)

pub map-map : {A B C : Type 0} (g : B → C) (f : A → B) (xs : List A) → map g (map f xs) ≡ map (λ x. g (f x)) xs
map-map g f [] = refl
map-map g f (x ∷ xs) = ap (λ ys. g (f x) ∷ ys) (map-map g f xs)

beside-map : (xs : List Value) (f : ℕ → List Value) → beside xs (map f (below (length xs))) ≡ map (λ i. get_or xs i val.Null ∷ f i) (below (length xs))
beside-map [] f = refl
beside-map (x ∷ xs) f =
    ap (λ ns. beside (x ∷ xs) (map f ns)) (below-front (length xs))
    ∙ ap (λ rows. (x ∷ f 0) ∷ beside xs rows) (map-map f suc (below (length xs)))
    ∙ ap (λ rows. (x ∷ f 0) ∷ rows) (beside-map xs (λ i. f (suc i)) ∙ sym (map-map (λ i. get_or (x ∷ xs) i val.Null ∷ f i) suc (below (length xs))))
    ∙ sym (ap (map (λ i. get_or (x ∷ xs) i val.Null ∷ f i)) (below-front (length xs)))

replicate-below : (n : ℕ) → replicate n [] ≡ map (λ i. row_at [] i) (below n)
replicate-below zero = refl
replicate-below (suc n) = ap (λ rows. [] ∷ rows) (replicate-below n) ∙ ap (λ rows. [] ∷ rows) (sym (map-map (λ i. row_at [] i) suc (below n))) ∙ sym (ap (map (λ i. row_at [] i)) (below-front n))

-- the rows of columns, each by its place
pub rows_of-is : (h : ℕ) (cs : List Series) → AllOfHeight h cs → rows_of h (column_values cs) ≡ map (row_at cs) (below h)
rows_of-is h [] p = replicate-below h
rows_of-is h (c ∷ cs) p =
    ap (beside c.values) (rows_of-is h cs p.1)
    ∙ ap (λ n. beside c.values (map (row_at cs) (below n))) (sym p.0)
    ∙ beside-map c.values (row_at cs)
    ∙ ap (λ n. map (row_at (c ∷ cs)) (below n)) p.0
