-- The places of a column above those of another one, among the values of both.
use Rattle.std.proofs.Common.{◌≡◌, ℕ, suc, ◌+◌, ◌<◌, List, [], ◌∷◌, ◌++◌, length, map, get_or, refl, sym, ap, subst, ◌∙◌, arith}
use Rattle.std.specs.Prelude.{Option, Some, None, IfSome}
use Rattle.std.specs.List.{All}
use Rattle.std.proofs.lemmas.List.{get_or-append-add, get_or_append_left, length-append, map-append}
use Rattle.std.proofs.lemmas.List.Elements.{All-append, All-map}
use Rattle.ps_frame.proofs.Gathers.{below-places, get_or-below, length-below}
use Rattle.ps_frame.specs.Gathered.{picked, places_of}
use Rattle.ps_frame.specs.declared.value.Value.{Value}
use Rattle.ps_frame.specs.declared.value.Value.TheVariants as val

front : (xs ys : List Value) (ps : List ℕ) → All (λ i. i < length xs) ps → map (λ i. get_or (xs ++ ys) i val.Null) (map (λ i. 0 + i) ps) ≡ map (λ i. get_or xs i val.Null) ps
front xs ys [] h = refl
front xs ys (p ∷ ps) h =
    let same : 0 + p ≡ p = omega arith in
    let here = ap (λ i. get_or (xs ++ ys) i val.Null) same ∙ get_or_append_left xs ys val.Null p (h 0 p (omega arith)) in
    let rest = front xs ys ps (λ k d l. h (suc k) d (omega arith)) in
    λ t. here t ∷ rest t

back : (xs ys : List Value) (qs : List ℕ) → map (λ i. get_or (xs ++ ys) i val.Null) (map (λ i. length xs + i) qs) ≡ map (λ i. get_or ys i val.Null) qs
back xs ys [] = refl
back xs ys (q ∷ qs) = λ t. get_or-append-add xs ys q val.Null t ∷ back xs ys qs t

-- the values at the places of all, or at those that are picked
picked-are : (xs : List Value) (p : Option (List ℕ)) → map (λ i. get_or xs i val.Null) (places_of (length xs) p) ≡ picked p xs
picked-are xs None = below-places xs val.Null
picked-are xs (Some ps) = refl

all-within : (n : ℕ) (p : Option (List ℕ)) → IfSome p (λ ps. All (λ i. i < n) ps) → All (λ i. i < n) (places_of n p)
all-within n None h = λ k d l. let e = get_or-below n k d (let f = length-below n in omega arith) in let f = length-below n in omega arith
all-within n (Some ps) h = h

module _ (xs ys run : List Value) (p q : Option (List ℕ)) (upper new : List ℕ) (a b c : ℕ) (first : a ≡ length xs) (second : b ≡ length ys) (before : c ≡ length xs)
    (joined : run ≡ xs ++ ys) (above : upper ≡ map (λ i. 0 + i) (places_of a p)) (both : new ≡ upper ++ map (λ i. c + i) (places_of b q))
    (there : IfSome p (λ ps. All (λ i. i < length xs) ps)) where
  all : new ≡ map (λ i. 0 + i) (places_of (length xs) p) ++ map (λ i. length xs + i) (places_of (length ys) q)
  all = both ∙ (λ t. (above ∙ ap (λ n. map (λ i. 0 + i) (places_of n p)) first) t ++ map (λ i. before t + i) (places_of (second t) q))

  pub placed-values : map (λ i. get_or run i val.Null) new ≡ picked p xs ++ picked q ys
  placed-values =
      let f = λ (i : ℕ). get_or (xs ++ ys) i val.Null in
      (λ t. map (λ i. get_or (joined t) i val.Null) (all t))
      ∙ map-append f (map (λ i. 0 + i) (places_of (length xs) p)) (map (λ i. length xs + i) (places_of (length ys) q))
      ∙ (λ t. (front xs ys (places_of (length xs) p) (all-within (length xs) p there) ∙ picked-are xs p) t ++ (back xs ys (places_of (length ys) q) ∙ picked-are ys q) t)

  pub placed-within : IfSome q (λ qs. All (λ i. i < length ys) qs) → All (λ i. i < length run) new
  placed-within theirs =
      let n = length xs in
      let m = length ys in
      let whole : length run ≡ n + m = ap length joined ∙ length-append xs ys in
      let mine = all-within n p there in
      let others = all-within m q theirs in
      subst (λ ns. All (λ i. i < length run) ns) (sym all)
      (All-append (λ i. i < length run) (map (λ i. 0 + i) (places_of n p)) (map (λ i. n + i) (places_of m q))
      (All-map (λ i. i < length run) (λ i. 0 + i) (places_of n p) (λ k d l. let low = mine k d l in omega (arith, whole)))
      (All-map (λ i. i < length run) (λ i. n + i) (places_of m q) (λ k d l. let low = others k d l in omega (arith, whole))))
