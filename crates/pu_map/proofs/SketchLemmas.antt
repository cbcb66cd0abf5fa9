-- The laws of sketches.
use Rattle.std.proofs.Common.{◌≡◌, ℕ, zero, suc, List, [], ◌∷◌, ◌++◌, length, get_or, max, fold, replicate, refl, sym, ap, ◌∙◌, arith}
use Rattle.std.proofs.lemmas.List.{length-set}
use Rattle.pu_map.specs.Sketch.{raised, register_of, rank_of, with_hash, combined}

pub combined-comm : (a b : List ℕ) → combined a b ≡ combined b a
combined-comm [] [] = refl
combined-comm [] (y ∷ ys) = refl
combined-comm (x ∷ xs) [] = refl
combined-comm (x ∷ xs) (y ∷ ys) =
    let head : max x y ≡ max y x = omega arith in
    ap (λ n. n ∷ combined xs ys) head ∙ ap (λ zs. max y x ∷ zs) (combined-comm xs ys)

pub combined-assoc : (a b c : List ℕ) → combined (combined a b) c ≡ combined a (combined b c)
combined-assoc [] b c = refl
combined-assoc (x ∷ xs) [] c = refl
combined-assoc (x ∷ xs) (y ∷ ys) [] = refl
combined-assoc (x ∷ xs) (y ∷ ys) (z ∷ zs) =
    let head : max (max x y) z ≡ max x (max y z) = omega arith in
    ap (λ n. n ∷ combined (combined xs ys) zs) head ∙ ap (λ ws. max x (max y z) ∷ ws) (combined-assoc xs ys zs)

pub combined-same : (a : List ℕ) → combined a a ≡ a
combined-same [] = refl
combined-same (x ∷ xs) =
    let head : max x x ≡ x = omega arith in
    ap (λ n. n ∷ combined xs xs) head ∙ ap (λ ws. x ∷ ws) (combined-same xs)

pub combined-zeros : (z : ℕ) → z ≡ 0 → (n : ℕ) (a : List ℕ) → length a ≡ n → combined a (replicate n z) ≡ a
combined-zeros z none zero [] e = refl
combined-zeros z none zero (x ∷ xs) e = absurd (omega arith)
combined-zeros z none (suc n) [] e = refl
combined-zeros z none (suc n) (x ∷ xs) e =
    let head : max x z ≡ x = omega arith in
    ap (λ m. m ∷ combined xs (replicate n z)) head ∙ ap (λ ws. x ∷ ws) (combined-zeros z none n xs (omega arith))

combined-raised : (xs ys : List ℕ) (i rank : ℕ) → raised (combined xs ys) i rank ≡ combined xs (raised ys i rank)
combined-raised [] ys zero rank = refl
combined-raised [] ys (suc i) rank = refl
combined-raised (x ∷ xs) [] zero rank = refl
combined-raised (x ∷ xs) [] (suc i) rank = refl
combined-raised (x ∷ xs) (y ∷ ys) zero rank =
    let head : max (max x y) rank ≡ max x (max y rank) = omega arith in
    ap (λ n. n ∷ combined xs ys) head
combined-raised (x ∷ xs) (y ∷ ys) (suc i) rank = ap (λ zs. max x y ∷ zs) (combined-raised xs ys i rank)

fold-combined : (a b hs : List ℕ) → fold with_hash (combined a b) hs ≡ combined a (fold with_hash b hs)
fold-combined a b [] = refl
fold-combined a b (h ∷ hs) =
    ap (λ s. fold with_hash s hs) (combined-raised a b (register_of h) (rank_of h)) ∙ fold-combined a (with_hash b h) hs

length-fold : (s hs : List ℕ) → length (fold with_hash s hs) ≡ length s
length-fold s [] = refl
length-fold s (h ∷ hs) = length-fold (with_hash s h) hs ∙ length-set s (register_of h) (max (get_or s (register_of h) 0) (rank_of h))

fold-append : (s xs ys : List ℕ) → fold with_hash s (xs ++ ys) ≡ fold with_hash (fold with_hash s xs) ys
fold-append s [] ys = refl
fold-append s (x ∷ xs) ys = fold-append (with_hash s x) xs ys

-- two lists of hashes, one after the other, from registers that change nothing
pub fold-both : (s : List ℕ) → ((a : List ℕ) → length a ≡ length s → combined a s ≡ a) → (xs ys : List ℕ) → combined (fold with_hash s xs) (fold with_hash s ys) ≡ fold with_hash s (xs ++ ys)
fold-both s none xs ys =
    let a = fold with_hash s xs in
    sym (fold-combined a s ys) ∙ ap (λ r. fold with_hash r ys) (none a (length-fold s xs)) ∙ sym (fold-append s xs ys)

pub length-combined : (a b : List ℕ) → length a ≡ length b → length (combined a b) ≡ length a
length-combined [] b e = refl
length-combined (x ∷ xs) [] e = absurd (omega arith)
length-combined (x ∷ xs) (y ∷ ys) e = ap suc (length-combined xs ys (omega arith))

pub get_or-combined : (a b : List ℕ) (k : ℕ) → length a ≡ length b → get_or (combined a b) k 0 ≡ max (get_or a k 0) (get_or b k 0)
get_or-combined [] [] zero e = refl
get_or-combined [] [] (suc k) e = refl
get_or-combined [] (y ∷ ys) k e = absurd (omega arith)
get_or-combined (x ∷ xs) [] k e = absurd (omega arith)
get_or-combined (x ∷ xs) (y ∷ ys) zero e = refl
get_or-combined (x ∷ xs) (y ∷ ys) (suc k) e = get_or-combined xs ys k (omega arith)
