-- The pairs of a join over rows that show more: those over the values at some places, with the keys behind them.
use Rattle.std.proofs.Common.{◌≡◌, ℕ, zero, suc, ◌<◌, Bool, true, false, not, cond, List, [], ◌∷◌, ◌++◌, length, take, drop, get_or, refl, sym, ap, ◌∙◌}
use Rattle.std.specs.Prelude.{◌||◌, map, filter as kept, flat_map, replicate}
use Rattle.std.specs.List.{AllByRecursion, list_any}
use Rattle.std.proofs.Math.Seq.{drop-append_seam, take-append_seam}
use Rattle.std.proofs.lemmas.List.{get_or-take, length-map, map-append}
use Rattle.ps_frame.specs.declared.value.Value.{Value}
use Rattle.ps_frame.specs.declared.value.Value.TheVariants as val
use Rattle.ps_meaning.specs.Distinct.{picked}
use Rattle.ps_meaning.specs.Joins.{Pair, fills_left, fills_right, front_pairs, goes_by_left, joined_by, keys_match, last_pairs, pairs_in_place, pairs_of, rows_match, unmatched_right}
use Rattle.ps_meaning.specs.declared.options.JoinType.{JoinType}
use Rattle.ps_meaning.specs.declared.options.JoinType.TheVariants as how
use Rattle.ps_shares.proofs.Aggregated.{map_again}
use Rattle.picked_zips.proofs.Members.{filter_map}

-- the values at some places, with the keys behind them
abbrev pub turned : List ℕ → ℕ → List Value → List Value
turned js w row = picked js row ++ drop w row

-- values at places before the end of a front
pub picked_front : (w : ℕ) (row : List Value) (js : List ℕ) → AllByRecursion (λ j. j < w) js → picked js (take w row) ≡ picked js row
picked_front w row [] all = refl
picked_front w row (j ∷ js) all = let p = get_or-take w row j val.Null all.0 in let q = picked_front w row js all.1 in λ i. p i ∷ q i

null_at : (w k : ℕ) → get_or (replicate w val.Null) k val.Null ≡ val.Null
null_at zero k = refl
null_at (suc w) zero = refl
null_at (suc w) (suc k) = null_at w k

nulls_at : (js : List ℕ) (w : ℕ) → picked js (replicate w val.Null) ≡ replicate (length js) val.Null
nulls_at [] w = refl
nulls_at (j ∷ js) w = let p = null_at w j in let q = nulls_at js w in λ i. p i ∷ q i

keys_behind : (js : List ℕ) (w : ℕ) (row : List Value) → drop (length js) (turned js w row) ≡ drop w row
keys_behind js w row = ap (λ n. drop n (turned js w row)) (sym (length-map js (λ j. get_or row j val.Null))) ∙ drop-append_seam (picked js row) (drop w row)

values_first : (js : List ℕ) (w : ℕ) → AllByRecursion (λ j. j < w) js → (row : List Value) → take (length js) (turned js w row) ≡ picked js (take w row)
values_first js w inside row = ap (λ n. take n (turned js w row)) (sym (length-map js (λ j. get_or row j val.Null))) ∙ take-append_seam (picked js row) (drop w row) ∙ sym (picked_front w row js inside)

any_map : {A B : Type 0} (f : A → B) (p : B → Bool) (q : A → Bool) → ((x : A) → p (f x) ≡ q x) → (xs : List A) → list_any p (map f xs) ≡ list_any q xs
any_map f p q same [] = refl
any_map f p q same (x ∷ xs) = let h = same x in let k = any_map f p q same xs in λ i. h i || k i

module _ (nulls : Bool) (js ks : List ℕ) (wl wr : ℕ) (inside_l : AllByRecursion (λ j. j < wl) js) (inside_r : AllByRecursion (λ j. j < wr) ks) where
  abbrev of_l : List Value → List Value
  of_l = turned js wl

  abbrev of_r : List Value → List Value
  of_r = turned ks wr

  abbrev m : ℕ
  m = length js

  abbrev n : ℕ
  n = length ks

  -- the values of a pair at these places
  abbrev pub narrow : Pair → Pair
  narrow p = (picked js p.0, picked ks p.1)

  same_match : (l r : List Value) → rows_match nulls m n (of_l l) (of_r r) ≡ rows_match nulls wl wr l r
  same_match l r = let p = keys_behind js wl l in let q = keys_behind ks wr r in λ i. keys_match nulls (p i) (q i)

  pairs_same : (rights : List (List Value)) (l : List Value) → map narrow (pairs_of nulls wl wr rights l) ≡ pairs_of nulls m n (map of_r rights) (of_l l)
  pairs_same rights l =
      let p = values_first js wl inside_l l in
      map_again narrow (λ (r : List Value). (take wl l, take wr r)) (kept (rows_match nulls wl wr l) rights)
      ∙ (λ i. map (λ (r : List Value). (sym p i, sym (values_first ks wr inside_r r) i)) (kept (λ r. sym (same_match l r) i) rights))
      ∙ sym (map_again (λ (r : List Value). (take m (of_l l), take n r)) of_r (kept (λ r. rows_match nulls m n (of_l l) (of_r r)) rights))
      ∙ ap (map (λ (r : List Value). (take m (of_l l), take n r))) (sym (filter_map of_r (rows_match nulls m n (of_l l)) rights))

  any_right : (rights : List (List Value)) (l : List Value) → list_any (rows_match nulls m n (of_l l)) (map of_r rights) ≡ list_any (rows_match nulls wl wr l) rights
  any_right rights l = any_map of_r (rows_match nulls m n (of_l l)) (rows_match nulls wl wr l) (λ r. same_match l r) rights

  any_left : (lefts : List (List Value)) (r : List Value) → list_any (λ l. rows_match nulls m n l (of_r r)) (map of_l lefts) ≡ list_any (λ l. rows_match nulls wl wr l r) lefts
  any_left lefts r = any_map of_l (λ l. rows_match nulls m n l (of_r r)) (λ l. rows_match nulls wl wr l r) (λ l. same_match l r) lefts

  filled : (fills : Bool) (l : List Value) → map narrow (cond {A = List Pair} fills ((take wl l, replicate wr val.Null) ∷ []) []) ≡ cond {A = List Pair} fills ((take m (of_l l), replicate n val.Null) ∷ []) []
  filled true l = let p = values_first js wl inside_l l in let q = nulls_at ks wr in λ i. (sym p i, q i) ∷ []
  filled false l = refl

  in_place : (fills : Bool) (rights : List (List Value)) (l : List Value) → map narrow (pairs_in_place nulls wl wr fills rights l) ≡ pairs_in_place nulls m n fills (map of_r rights) (of_l l)
  in_place fills rights l =
      by (list_any (rows_match nulls wl wr l) rights)
      ∙ ap (λ (b : Bool). cond {A = List Pair} b (pairs_of nulls m n (map of_r rights) (of_l l)) (cond {A = List Pair} fills ((take m (of_l l), replicate n val.Null) ∷ []) [])) (sym (any_right rights l))
    where
      by : (b : Bool) → map narrow (cond {A = List Pair} b (pairs_of nulls wl wr rights l) (cond {A = List Pair} fills ((take wl l, replicate wr val.Null) ∷ []) []))
          ≡ cond {A = List Pair} b (pairs_of nulls m n (map of_r rights) (of_l l)) (cond {A = List Pair} fills ((take m (of_l l), replicate n val.Null) ∷ []) [])
      by true = pairs_same rights l
      by false = filled fills l

  fronts : (fills : Bool) (rights lefts : List (List Value)) → map narrow (flat_map (pairs_in_place nulls wl wr fills rights) lefts) ≡ flat_map (pairs_in_place nulls m n fills (map of_r rights)) (map of_l lefts)
  fronts fills rights [] = refl
  fronts fills rights (l ∷ lefts) =
      let p = in_place fills rights l in
      let q = fronts fills rights lefts in
      map-append narrow (pairs_in_place nulls wl wr fills rights l) (flat_map (pairs_in_place nulls wl wr fills rights) lefts) ∙ (λ i. p i ++ q i)

  pub front_same : (type : JoinType) (lefts rights : List (List Value)) → map narrow (front_pairs nulls wl wr type lefts rights) ≡ front_pairs nulls m n type (map of_l lefts) (map of_r rights)
  front_same type lefts rights = fronts (fills_left type) rights lefts

  unmatched : (lefts rights : List (List Value)) → map narrow (unmatched_right nulls wl wr lefts rights) ≡ unmatched_right nulls m n (map of_l lefts) (map of_r rights)
  unmatched lefts rights =
      let p = nulls_at js wl in
      map_again narrow (λ (r : List Value). (replicate wl val.Null, take wr r)) (kept (λ r. not (list_any (λ l. rows_match nulls wl wr l r) lefts)) rights)
      ∙ (λ i. map (λ (r : List Value). (p i, sym (values_first ks wr inside_r r) i)) (kept (λ r. not (sym (any_left lefts r) i)) rights))
      ∙ sym (map_again (λ (r : List Value). (replicate m val.Null, take n r)) of_r (kept (λ r. not (list_any (λ l. rows_match nulls m n l (of_r r)) (map of_l lefts))) rights))
      ∙ ap (map (λ (r : List Value). (replicate m val.Null, take n r))) (sym (filter_map of_r (λ r. not (list_any (λ l. rows_match nulls m n l r) (map of_l lefts))) rights))

  last_same : (type : JoinType) (lefts rights : List (List Value)) → map narrow (last_pairs nulls wl wr type lefts rights) ≡ last_pairs nulls m n type (map of_l lefts) (map of_r rights)
  last_same type lefts rights = by (fills_right type)
    where
      by : (b : Bool) → map narrow (cond {A = List Pair} b (unmatched_right nulls wl wr lefts rights) []) ≡ cond {A = List Pair} b (unmatched_right nulls m n (map of_l lefts) (map of_r rights)) []
      by true = unmatched lefts rights
      by false = refl

  pub pairs_alike : (type : JoinType) → goes_by_left type ≡ true → (lefts rights : List (List Value)) → map narrow (joined_by nulls wl wr type lefts rights) ≡ joined_by nulls m n type (map of_l lefts) (map of_r rights)
  pairs_alike type keyed lefts rights = by type keyed
    where
      both : (type : JoinType)
          → map narrow (front_pairs nulls wl wr type lefts rights ++ last_pairs nulls wl wr type lefts rights) ≡ front_pairs nulls m n type (map of_l lefts) (map of_r rights) ++ last_pairs nulls m n type (map of_l lefts) (map of_r rights)
      both type =
          let p = front_same type lefts rights in
          let q = last_same type lefts rights in
          map-append narrow (front_pairs nulls wl wr type lefts rights) (last_pairs nulls wl wr type lefts rights) ∙ (λ i. p i ++ q i)

      by : (type : JoinType) → goes_by_left type ≡ true → map narrow (joined_by nulls wl wr type lefts rights) ≡ joined_by nulls m n type (map of_l lefts) (map of_r rights)
      by how.Inner q = both how.Inner
      by how.Left q = both how.Left
      by how.Right q = both how.Right
      by how.Full q = both how.Full
      by how.Semi q = cc
      by how.Anti q = cc
      by how.Cross q = cc
