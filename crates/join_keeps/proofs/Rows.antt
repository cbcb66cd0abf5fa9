-- The rows of a join over streams that show more: by the names of the narrower join, they are its rows.
use Rattle.std.proofs.Common.{◌≡◌, ◌⊎◌, inl, inr, ◌+◌, ◌≤◌, Bool, true, false, cond, List, ◌++◌, length, refl, sym, ap, subst, ◌∙◌, arith}
use Rattle.std.specs.Prelude.{map}
use Rattle.std.proofs.lemmas.List.{length-map, map-append}
use Rattle.ps_frame.specs.Tables.{Fields}
use Rattle.ps_frame.specs.Trees.{Tree}
use Rattle.ps_frame.specs.declared.value.DataType.{DataType}
use Rattle.ps_frame.specs.declared.value.Value.{Value}
use Rattle.ps_meaning.specs.Distinct.{picked, places_in}
use Rattle.ps_meaning.specs.Joins.{Pair, goes_by_left, joined_row}
use Rattle.ps_meaning.specs.Schemas.{bare_names, is_among, join_schema, left_output, names_of, right_output, suffix_of, suffixed}
use Rattle.ps_meaning.specs.Steps.{JoinStep, Name}
use Rattle.ps_shares.proofs.Aggregated.{map_again}
use Rattle.ps_bundles.proofs.Reading.{among_last}
use Rattle.name_rules.proofs.Times.{among_times, times, times_append}
use Rattle.plan_rules.specs.Joins.{keyed_join}
use Rattle.rule_parts.proofs.Merged.{merged, merged_names, renamed, same_truth, to_map, told}
use Rattle.rule_parts.proofs.Sides.{drops_left, drops_right, left_is, right_is, side}
use Rattle.join_keeps.proofs.Lookups.{found_left, found_named, found_renamed, found_right, found_value, map_among, picked_values, value_of}
use Rattle.join_keeps.proofs.Sides.{Shows, side_in, side_new, side_old, wide_in}

-- Sides and wider ones: names that were known before are those of the narrower sides, and other ones are new.
pub record AreWider (Before After : Name → Type 0) (suffix : Name) (l r wide_l wide_r : Fields) : Type 0 where
  pub once : (n : Name) → times n (names_of (merged suffix l r)) ≤ 1
  pub known : (n : Name) → is_among n (names_of (merged suffix l r)) ≡ true → Before n
  pub still : (n : Name) → Before n → After n
  pub left_new : (n : Name) → is_among n (names_of l) ≡ true → is_among n (names_of wide_l) ≡ true
  pub left_old : (n : Name) → is_among n (names_of wide_l) ≡ true → Before n → is_among n (names_of l) ≡ true
  pub left_after : (n : Name) → is_among n (names_of wide_l) ≡ true → After n
  pub right_new : (n : Name) → is_among n (names_of r) ≡ true → is_among n (names_of wide_r) ≡ true
  pub right_before : (n : Name) → is_among n (names_of r) ≡ true → Before n
  pub right_cases : (n : Name) → is_among n (names_of wide_r) ≡ true → (Before n × (is_among n (names_of r) ≡ true)) ⊎ (After n → ⊥)

module _ (Before After : Name → Type 0) (suffix : Name) (l r wide_l wide_r : Fields) (h : AreWider Before After suffix l r wide_l wide_r) where
  abbrev narrow : Name → Name
  narrow m = renamed suffix (names_of l) m

  abbrev wide : Name → Name
  wide m = renamed suffix (names_of wide_l) m

  wide_old : (m : Name) → Before m → wide m ≡ narrow m
  wide_old m k = ap (λ (b : Bool). cond b (m ++ suffix) m) (same_truth (is_among m (names_of wide_l)) (is_among m (names_of l)) (λ q. h.left_old m q k) (λ q. h.left_new m q))

  wide_new : (m : Name) → (After m → ⊥) → wide m ≡ m
  wide_new m never = by (is_among m (names_of wide_l)) refl
    where
      by : (b : Bool) → is_among m (names_of wide_l) ≡ b → cond b (m ++ suffix) m ≡ m
      by false q = refl
      by true q = absurd (never (h.left_after m q))

  count : (n : Name) → times n (names_of (merged suffix l r)) ≡ times n (names_of l) + times n (map narrow (names_of r))
  count n = ap (times n) (merged_names suffix l r) ∙ times_append n (names_of l) (map narrow (names_of r))

  -- the name of a right field
  right_known : (m : Name) → is_among m (names_of r) ≡ true → Before (narrow m)
  right_known m q = h.known (narrow m) (ap (is_among (narrow m)) (merged_names suffix l r) ∙ among_last (narrow m) (names_of l) (map narrow (names_of r)) (to_map narrow (names_of r) m q))

  not_left : (m : Name) → is_among m (names_of r) ≡ true → is_among (narrow m) (names_of wide_l) ≡ true → ⊥
  not_left m q p =
      let c = count (narrow m) in
      let o = h.once (narrow m) in
      let a = among_times (narrow m) (names_of l) (h.left_old (narrow m) p (right_known m q)) in
      let b = among_times (narrow m) (map narrow (names_of r)) (to_map narrow (names_of r) m q) in
      omega arith

  only_one : (m k : Name) → is_among m (names_of r) ≡ true → is_among k (names_of wide_r) ≡ true → wide k ≡ narrow m → k ≡ m
  only_one m k q p e = by (h.right_cases k p)
    where
      by : (Before k × (is_among k (names_of r) ≡ true)) ⊎ (After k → ⊥) → k ≡ m
      by (inl u) =
          let is : narrow k ≡ narrow m = sym (wide_old k u.0) ∙ e in
          let c = count (narrow k) in
          let o = h.once (narrow k) in
          told narrow (names_of r) k m u.1 q is (omega arith)
      by (inr never) = absurd (never (subst After (sym e ∙ wide_new k never) (h.still (narrow m) (right_known m q))))

  -- values by names, in a row of the wider sides
  module _ (f g : Name → Value) where
    abbrev row : List Value
    row = map f (names_of wide_l) ++ map g (names_of wide_r)

    abbrev at : Name → Value
    at n = value_of n (merged suffix wide_l wide_r) row

    long : length (map f (names_of wide_l)) ≡ length wide_l
    long = length-map (names_of wide_l) f ∙ length-map wide_l (λ (x : Name × DataType). x.0)

    left_value : (n : Name) → is_among n (names_of l) ≡ true → at n ≡ f n
    left_value n q =
        let p = h.left_new n q in
        found_value n (merged suffix wide_l wide_r) row (f n) (found_left n wide_l (suffixed suffix (names_of wide_l) wide_r) (map f (names_of wide_l)) (map g (names_of wide_r)) (f n) long p (found_named f n wide_l p))

    right_value : (m : Name) → is_among m (names_of r) ≡ true → at (narrow m) ≡ g m
    right_value m q =
        let e = wide_old m (h.right_before m q) in
        found_value (narrow m) (merged suffix wide_l wide_r) row (g m)
        (found_right (narrow m) wide_l (suffixed suffix (names_of wide_l) wide_r) (map f (names_of wide_l)) (map g (names_of wide_r)) (g m) long (not_left m q)
        (found_renamed suffix (names_of wide_l) g (narrow m) m wide_r (h.right_new m q) e (λ k p is. ap g (only_one m k q p is))))

    pub row_values : map at (names_of (merged suffix l r)) ≡ map f (names_of l) ++ map g (names_of r)
    row_values =
        let x = map_among at f (names_of l) left_value in
        let y = map_again at narrow (names_of r) ∙ map_among (λ m. at (narrow m)) g (names_of r) right_value in
        ap (map at) (merged_names suffix l r) ∙ map-append at (names_of l) (map narrow (names_of r)) ∙ (λ i. x i ++ y i)

-- the values of some columns, by the names of a side
of_picked : (ns : List Name) (f z : Fields) (row : List Value) → ((n : Name) → is_among n ns ≡ true → is_among n (names_of f) ≡ true) → map (λ n. value_of n z row) ns ≡ picked (places_in ns f) (picked (places_in (names_of f) z) row)
of_picked ns f z row inside =
    let value : Name → Value = λ n. value_of n z row in
    map_among value (λ n. value_of n f (map value (names_of f))) ns (λ n q. sym (found_value n f (map value (names_of f)) (value n) (found_named value n f (inside n q))))
    ∙ sym (picked_values ns f (map value (names_of f)))
    ∙ ap (picked (places_in ns f)) (sym (picked_values (names_of f) z row))

module _ (Before After : Name → Type 0) (still : (n : Name) → Before n → After n) (o : JoinStep) (xs ys : List Tree) (fl fr zl zr : Fields) (by_left : goes_by_left o.args.how ≡ true) (left : Shows Before (bare_names o.left_on) (bare_names xs) fl zl) (right : Shows Before (bare_names o.right_on) (bare_names ys) fr zr)
    (left_after : (n : Name) → is_among n (names_of zl) ≡ true → After n) (right_cases : (n : Name) → is_among n (names_of zr) ≡ true → (is_among n (names_of fr) ≡ true) ⊎ (After n → ⊥)) where
  abbrev pub asked : JoinStep
  asked = keyed_join o o.left_on o.right_on

  abbrev pub given : JoinStep
  given = keyed_join o xs ys

  abbrev suffix : Name
  suffix = suffix_of o

  abbrev cl : Bool
  cl = drops_left o.args.how

  abbrev cr : Bool
  cr = drops_right o.args.how

  abbrev l : Fields
  l = side cl (bare_names o.left_on) fl

  abbrev r : Fields
  r = side cr (bare_names o.right_on) fr

  abbrev wl : Fields
  wl = side cl (bare_names xs) zl

  abbrev wr : Fields
  wr = side cr (bare_names ys) zr

  abbrev Given : Fields → Fields → Fields → Fields → Pair → Type 0
  Given l r wl wr p =
      picked (places_in (names_of (merged suffix l r)) (merged suffix wl wr)) (joined_row (places_in (names_of wl) zl) (places_in (names_of wr) zr) p)
      ≡ joined_row (places_in (names_of l) fl) (places_in (names_of r) fr) (picked (places_in (names_of fl) zl) p.0, picked (places_in (names_of fr) zr) p.1)

  module _ (once : (n : Name) → times n (names_of (join_schema asked fl fr)) ≤ 1) (known : (n : Name) → is_among n (names_of (join_schema asked fl fr)) ≡ true → Before n) where
    out_is : join_schema asked fl fr ≡ merged suffix l r
    out_is = let p = left_is o.args.how asked fl in let q = right_is o.args.how by_left asked fr in λ i. merged suffix (p i) (q i)

    wider : AreWider Before After suffix l r wl wr
    wider =
        record {
          once = λ n. subst (λ (g : Fields). times n (names_of g) ≤ 1) out_is (once n);
          known = λ n q. known n (ap (λ (g : Fields). is_among n (names_of g)) out_is ∙ q);
          still = still;
          left_new = λ n q. side_new Before (bare_names o.left_on) (bare_names xs) fl zl left cl n q;
          left_old = λ n q k. side_old Before (bare_names o.left_on) (bare_names xs) fl zl left cl n q k;
          left_after = λ n q. left_after n (wide_in Before (bare_names o.left_on) (bare_names xs) fl zl left cl n q);
          right_new = λ n q. side_new Before (bare_names o.right_on) (bare_names ys) fr zr right cr n q;
          right_before = λ n q. right.known n (side_in Before (bare_names o.right_on) (bare_names ys) fr zr right cr n q);
          right_cases = λ n q. cases n q (right_cases n (wide_in Before (bare_names o.right_on) (bare_names ys) fr zr right cr n q));
        }
      where
        cases : (n : Name) → is_among n (names_of wr) ≡ true → (is_among n (names_of fr) ≡ true) ⊎ (After n → ⊥) → (Before n × (is_among n (names_of r) ≡ true)) ⊎ (After n → ⊥)
        cases n q (inl p) = let k = right.known n p in inl (k, side_old Before (bare_names o.right_on) (bare_names ys) fr zr right cr n q k)
        cases n q (inr never) = inr never

    sides_given : (p : Pair) → Given l r wl wr p
    sides_given p =
        let f : Name → Value = λ n. value_of n zl p.0 in
        let g : Name → Value = λ n. value_of n zr p.1 in
        let x = picked_values (names_of wl) zl p.0 in
        let y = picked_values (names_of wr) zr p.1 in
        let u = of_picked (names_of l) fl zl p.0 (λ n q. side_in Before (bare_names o.left_on) (bare_names xs) fl zl left cl n q) in
        let v = of_picked (names_of r) fr zr p.1 (λ n q. side_in Before (bare_names o.right_on) (bare_names ys) fr zr right cr n q) in
        ap (picked (places_in (names_of (merged suffix l r)) (merged suffix wl wr))) (λ i. x i ++ y i)
        ∙ picked_values (names_of (merged suffix l r)) (merged suffix wl wr) (map f (names_of wl) ++ map g (names_of wr))
        ∙ row_values Before After suffix l r wl wr wider f g
        ∙ (λ i. u i ++ v i)

    -- a row of the wider join, by the names of the narrower one
    pub row_given : (p : Pair)
        → picked (places_in (names_of (join_schema asked fl fr)) (join_schema given zl zr)) (joined_row (places_in (names_of (left_output given zl)) zl) (places_in (names_of (right_output given zr)) zr) p)
        ≡ joined_row (places_in (names_of (left_output asked fl)) fl) (places_in (names_of (right_output asked fr)) fr) (picked (places_in (names_of fl) zl) p.0, picked (places_in (names_of fr) zr) p.1)
    row_given p =
        subst (λ (w : Fields). Given (left_output asked fl) (right_output asked fr) (left_output given zl) w p) (sym (right_is o.args.how by_left given zr))
        (subst (λ (w : Fields). Given (left_output asked fl) (right_output asked fr) w wr p) (sym (left_is o.args.how given zl))
        (subst (λ (w : Fields). Given (left_output asked fl) w wl wr p) (sym (right_is o.args.how by_left asked fr)) (subst (λ (w : Fields). Given w r wl wr p) (sym (left_is o.args.how asked fl)) (sides_given p))))
