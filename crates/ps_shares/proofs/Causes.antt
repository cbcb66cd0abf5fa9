-- Expressions over a table have no other causes than over what its columns stand for.
use Rattle.std.proofs.Common.{◌≡◌, ◌⊎◌, inl, inr, ℕ, zero, suc, ◌≤◌, ◌<◌, Bool, true, false, not, cond, List, [], ◌∷◌, ◌++◌, length, get_or, refl, sym, ap, subst, ◌∙◌, arith}
use Rattle.std.specs.Prelude.{map, flat_map, filter, ◌==◌, ◌||◌}
use Rattle.std.specs.List.{AllByRecursion, list_all, list_any}
use Rattle.std.proofs.lemmas.Bool.{cases_lt, eqb-true}
use Rattle.ps_frame.specs.Causes.{Cause, Cell, Column, value, faulty_or, cell_causes, column_causes, is_empty, is_ended}
use Rattle.ps_frame.specs.Eval.{cell_of_row, cellwise}
use Rattle.ps_frame.specs.Zip.{Extent, all_same, below, breaks_shape, broadcasts, cell_in_row, ends_early, extent_of, extents, is_faulty_row, least_or, open_lengths, row_causes, unseen_causes, zip_causes, zip_length, zip_rows, zipped}
use Rattle.ps_frame.specs.declared.value.DataFault.TheVariants as data_fault
use Rattle.ps_frame.specs.declared.value.Value.{Value}
use Rattle.ps_frame.specs.declared.value.Value.TheVariants as val
use Rattle.ps_shares.specs.Kept.{all_causes}
use Rattle.ps_shares.proofs.ClearZips.{any_ended}
use Rattle.ps_shares.proofs.FlatEnds.{ends_whole}
use Rattle.ps_shares.proofs.FlatLength.{both_hold, least_of_same, moving, moving_is_open, neither, whole_of_one}
use Rattle.ps_shares.proofs.Leaves.{leaf_cells, map_twice}

-- what holds of all of a list
pub all_left : {A : Type 0} (P : A → Type 0) (xs ys : List A) → AllByRecursion P (xs ++ ys) → AllByRecursion P xs
all_left P [] ys h = tt
all_left P (x ∷ xs) ys h = (h.0, all_left P xs ys h.1)

pub all_right : {A : Type 0} (P : A → Type 0) (xs ys : List A) → AllByRecursion P (xs ++ ys) → AllByRecursion P ys
all_right P [] ys h = h
all_right P (x ∷ xs) ys h = all_right P xs ys h.1

pub all_append : {A : Type 0} (P : A → Type 0) (xs ys : List A) → AllByRecursion P xs → AllByRecursion P ys → AllByRecursion P (xs ++ ys)
all_append P [] ys p q = q
all_append P (x ∷ xs) ys p q = (p.0, all_append P xs ys p.1 q)

all_below : (P : ℕ → Type 0) (n : ℕ) → ((i : ℕ) → i < n → P i) → AllByRecursion P (below n)
all_below P zero h = tt
all_below P (suc n) h = all_append P (below n) (n ∷ []) (all_below P n (λ i lt. h i (omega arith))) (h n (omega arith), tt)

each_below : (P : ℕ → Type 0) (n i : ℕ) → AllByRecursion P (below n) → i < n → P i
each_below P zero i h lt = absurd (omega arith)
each_below P (suc n) i h lt = by (λ l. each_below P n i (all_left P (below n) (n ∷ []) h) l) (cases_lt i n)
  where
    by : (i < n → P i) → (i < n) ⊎ (n ≤ i) → P i
    by rest (inl l) = rest l
    by rest (inr l) = let e : n ≡ i = omega arith in subst P e (all_right P (below n) (n ∷ []) h).0

-- numbers that are all the same are their least one
all_least : (ns : List ℕ) → all_same ns ≡ true → AllByRecursion (λ m. m ≡ least_or 1 ns) ns
all_least [] h = tt
all_least (m ∷ ms) h = (sym (least_of_same m ms h), by ms h (least_of_same m ms h))
  where
    by : (ks : List ℕ) → list_all (λ n. n == m) ks ≡ true → {l : ℕ} → l ≡ m → AllByRecursion (λ k. k ≡ l) ks
    by [] h e = tt
    by (k ∷ ks) h e = let b = both_hold (k == m) (list_all (λ n. n == m) ks) h in (eqb-true k m b.0 ∙ sym e, by ks b.1 e)

-- what holds of the lengths that move
moves : (P : ℕ → Type 0) (cs : List Column) → AllByRecursion P (moving (extents cs)) → AllByRecursion (λ (c : Column). broadcasts false (extent_of c) ≡ false → P (length c.cells)) cs
moves P [] all = tt
moves P (c ∷ cs) all = let h = by (broadcasts false (extent_of c)) refl all in (h.0, moves P cs h.1)
  where
    by : (b : Bool) → broadcasts false (extent_of c) ≡ b → AllByRecursion P (map (λ (e : Extent). e.len) (cond (not b) (extent_of c ∷ filter (λ e. not (broadcasts false e)) (extents cs)) (filter (λ e. not (broadcasts false e)) (extents cs))))
        → (broadcasts false (extent_of c) ≡ false → P (length c.cells)) × AllByRecursion P (moving (extents cs))
    by true h all = ((λ f. cc), all)
    by false h all = ((λ f. all.0), all.1)

held : (b : Bool) → not b ≡ false → b ≡ true
held true h = refl
held false h = cc

module _ (Q : Cause → Type 0) where
  abbrev pub All : List Cause → Type 0
  All xs = AllByRecursion Q xs

  -- all causes of a column, of its cells and lost ones too, are known
  abbrev pub Known : Column → Type 0
  Known c = All (flat_map cell_causes c.cells) × All c.broken × All c.lost

  abbrev pub cells_of : Column → List Cause
  cells_of c = flat_map cell_causes c.cells

  from_flat : {A : Type 0} (f : A → List Cause) (xs : List A) → All (flat_map f xs) → AllByRecursion (λ x. All (f x)) xs
  from_flat f [] h = tt
  from_flat f (x ∷ xs) h = (all_left Q (f x) (flat_map f xs) h, from_flat f xs (all_right Q (f x) (flat_map f xs) h))

  all_cells : (g : ℕ → Cell) (ns : List ℕ) → AllByRecursion (λ i. All (cell_causes (g i))) ns → All (flat_map cell_causes (map g ns))
  all_cells g [] h = tt
  all_cells g (n ∷ ns) h = all_append Q (cell_causes (g n)) _ h.0 (all_cells g ns h.1)

  each_cell : (g : ℕ → Cell) (ns : List ℕ) → All (flat_map cell_causes (map g ns)) → AllByRecursion (λ i. All (cell_causes (g i))) ns
  each_cell g [] h = tt
  each_cell g (n ∷ ns) h = (all_left Q (cell_causes (g n)) _ h, each_cell g ns (all_right Q (cell_causes (g n)) _ h))

  -- the cell at any place
  pub cell_known : (cs : List Cell) (k : ℕ) → All (flat_map cell_causes cs) → All (cell_causes (get_or cs k (value val.Null)))
  cell_known [] k h = tt
  cell_known (c ∷ cs) zero h = all_left Q (cell_causes c) (flat_map cell_causes cs) h
  cell_known (c ∷ cs) (suc k) h = cell_known cs k (all_right Q (cell_causes c) (flat_map cell_causes cs) h)

  -- cells by rows
  pub cells_known : (c : Column) (g : ℕ → Cell) (n : ℕ) → c.cells ≡ map g (below n) → ((i : ℕ) → i < n → All (cell_causes (g i))) → All (cells_of c)
  cells_known c g n e h = subst (λ cs. All (flat_map cell_causes cs)) (sym e) (all_cells g (below n) (all_below (λ i. All (cell_causes (g i))) n h))

  not_ended : (c : Column) → is_ended c ≡ false → All c.broken
  not_ended c h = by c.broken h
    where
      by : (xs : List Cause) → not (is_empty xs) ≡ false → All xs
      by [] h = tt
      by (x ∷ xs) h = cc

  -- DOWN. Where a zip goes to its end, and each row shows what is in it, all columns show.
  down_one : (n : ℕ) (c : Column) → is_ended c ≡ false → (broadcasts false (extent_of c) ≡ false → length c.cells ≡ n) → ((i : ℕ) → i < n → All (cell_causes (cell_in_row false i c))) → All c.lost
      → (n ≡ 0 → broadcasts false (extent_of c) ≡ true → All (cells_of c)) → Known c
  down_one n c whole long rows lost unseen = (by (broadcasts false (extent_of c)) refl (cases_lt 0 n), not_ended c whole, lost)
    where
      by : (b : Bool) → broadcasts false (extent_of c) ≡ b → (0 < n) ⊎ (n ≤ 0) → All (cells_of c)
      by false h some = let l = long h in cells_known c (λ i. cell_in_row false i c) (length c.cells) (leaf_cells c false h) (λ i lt. rows i (omega arith))
      by true h (inr none) = unseen (omega arith) h
      by true h (inl some) =
          let one : length c.cells ≡ 1 = eqb-true (length c.cells) 1 (whole_of_one (is_ended c) (length c.cells == 1) h).1 in
          cells_known c (λ i. cell_in_row false i c) (length c.cells) (leaf_cells c true h) (λ i lt. rows i (omega arith))

  down_all : (n : ℕ) (cs : List Column) → list_any is_ended cs ≡ false → AllByRecursion (λ (c : Column). broadcasts false (extent_of c) ≡ false → length c.cells ≡ n) cs
      → ((i : ℕ) → i < n → All (row_causes (map (cell_in_row false i) cs))) → All (flat_map (λ (c : Column). c.lost) cs)
      → (n ≡ 0 → AllByRecursion (λ c. broadcasts false (extent_of c) ≡ true → All (cells_of c)) cs) → AllByRecursion Known cs
  down_all n [] whole long rows lost unseen = tt
  down_all n (c ∷ cs) whole long rows lost unseen =
      let w = neither (is_ended c) (list_any is_ended cs) whole in (
        down_one n c w.0 long.0 (λ i lt. all_left Q (cell_causes (cell_in_row false i c)) _ (rows i lt)) (all_left Q c.lost _ lost) (λ e. (unseen e).0),
        down_all n cs w.1 long.1 (λ i lt. all_right Q (cell_causes (cell_in_row false i c)) _ (rows i lt)) (all_right Q c.lost _ lost) (λ e. (unseen e).1),
      )

  from_unseen : (cs : List Column) → All (unseen_causes false 0 cs) → AllByRecursion (λ c. broadcasts false (extent_of c) ≡ true → All (cells_of c)) cs
  from_unseen [] h = tt
  from_unseen (c ∷ cs) h = let r = by (broadcasts false (extent_of c)) refl h in (r.0, from_unseen cs r.1)
    where
      by : (b : Bool) → broadcasts false (extent_of c) ≡ b → All (flat_map cells_of (cond b (c ∷ filter (λ c. broadcasts false (extent_of c)) cs) (filter (λ c. broadcasts false (extent_of c)) cs)))
          → (broadcasts false (extent_of c) ≡ true → All (cells_of c)) × All (unseen_causes false 0 cs)
      by true q h = ((λ e. all_left Q (cells_of c) _ h), all_right Q (cells_of c) _ h)
      by false q h = ((λ e. cc), h)

  abbrev lost_of : List Column → List Cause
  lost_of cs = flat_map (λ (c : Column). c.lost) cs ++ unseen_causes false (zip_length false (extents cs)) cs

  down : (cs : List Column) → ends_early false cs ≡ false → ((i : ℕ) → i < zip_length false (extents cs) → All (row_causes (map (cell_in_row false i) cs))) → All (lost_of cs) → AllByRecursion Known cs
  down cs whole rows lost =
      let n = zip_length false (extents cs) in
      let w = neither (list_any is_ended cs) (breaks_shape false (extents cs)) whole in
      let none = any_ended cs ∙ w.0 in
      let o = moving_is_open (extents cs) none in
      let ends = ap (λ b. b || breaks_shape false (extents cs)) none ∙ w.1 in
      let same = held (all_same (open_lengths (extents cs))) (sym (ends_whole (extents cs) none) ∙ ends) in
      let long = moves (λ m. m ≡ n) cs (all_least (moving (extents cs)) (ap all_same o ∙ same)) in
      down_all n cs w.0 long rows (all_left Q (flat_map (λ (c : Column). c.lost) cs) _ lost)
      (λ e. from_unseen cs (subst (λ k. All (unseen_causes false k cs)) e (all_right Q (flat_map (λ (c : Column). c.lost) cs) _ lost)))

  -- where all causes of a zip are known
  of_causes : (cs : List Column) → All (flat_map column_causes cs) → All (flat_map (λ (c : Column). c.lost) cs) → AllByRecursion Known cs
  of_causes [] h lost = tt
  of_causes (c ∷ cs) h lost =
      let k = all_left Q (column_causes c) (flat_map column_causes cs) h in
      ((all_left Q (cells_of c) c.broken k, all_right Q (cells_of c) c.broken k, all_left Q c.lost _ lost), of_causes cs (all_right Q (column_causes c) (flat_map column_causes cs) h) (all_right Q c.lost _ lost))

  faulty_part : (xs : List Cause) (c : Cell) → All (cell_causes (faulty_or xs c)) → All xs
  faulty_part [] c h = tt
  faulty_part (x ∷ xs) c h = h

  module _ (node : ℕ) where
    pub down_operator : (f : List Value → Cell) (cs : List Column) → Known (cellwise node f cs) → AllByRecursion Known cs
    down_operator f cs k = by (ends_early false cs) refl
      where
        by : (b : Bool) → ends_early false cs ≡ b → AllByRecursion Known cs
        by true h =
            let broken = subst (λ b. All (cond b (zip_causes false node cs) [])) h k.1 in
            of_causes cs (all_left Q (flat_map column_causes cs) _ broken) (all_left Q (flat_map (λ (c : Column). c.lost) cs) _ k.2)
        by false h =
            let n = zip_length false (extents cs) in
            let g : ℕ → List Cell = λ i. map (cell_in_row false i) cs in
            let cells = each_cell (λ i. cell_of_row f (g i)) (below n) (subst (λ xs. All (flat_map cell_causes xs)) (map_twice (cell_of_row f) g (below n)) k.0) in
            down cs h (λ i lt. faulty_part (row_causes (g i)) _ (each_below (λ i. All (cell_causes (cell_of_row f (g i)))) n i cells lt)) k.2

    not_faulty : (cs : List Column) (ns : List ℕ) → list_any is_faulty_row (map (λ i. map (cell_in_row false i) cs) ns) ≡ false → AllByRecursion (λ i. All (row_causes (map (cell_in_row false i) cs))) ns
    not_faulty cs [] h = tt
    not_faulty cs (n ∷ ns) h = let b = neither (is_faulty_row (map (cell_in_row false n) cs)) _ h in (by (row_causes (map (cell_in_row false n) cs)) b.0, not_faulty cs ns b.1)
      where
        by : (xs : List Cause) → not (is_empty xs) ≡ false → All xs
        by [] h = tt
        by (x ∷ xs) h = cc

    abbrev faulty_rows : List Column → Bool
    faulty_rows cs = list_any is_faulty_row (zip_rows false (zip_length false (extents cs)) cs)

    pub down_zip : (cs : List Column) → All (all_causes (zipped false node cs)) → AllByRecursion Known cs
    down_zip cs all = by (ends_early false cs) (faulty_rows cs) refl refl
      where
        broken : All (zipped false node cs).broken
        broken = all_left Q (zipped false node cs).broken (zipped false node cs).lost all

        lost : All (zipped false node cs).lost
        lost = all_right Q (zipped false node cs).broken (zipped false node cs).lost all

        some : (a b : Bool) → (a || b) ≡ true → ends_early false cs ≡ a → faulty_rows cs ≡ b → AllByRecursion Known cs
        some a b t p q =
            let k = subst (λ b. All (cond b (zip_causes false node cs) [])) ((λ i. p i || q i) ∙ t) broken in
            of_causes cs (all_left Q (flat_map column_causes cs) _ k) (all_left Q (flat_map (λ (c : Column). c.lost) cs) _ lost)

        by : (a b : Bool) → ends_early false cs ≡ a → faulty_rows cs ≡ b → AllByRecursion Known cs
        by true b p q = some true b refl p q
        by false true p q = some false true refl p q
        by false false p q =
            let n = zip_length false (extents cs) in
            down cs p (λ i lt. each_below (λ i. All (row_causes (map (cell_in_row false i) cs))) n i (not_faulty cs (below n) q) lt) lost

    -- UP. Where lengths agree, columns whose causes are known make a zip whose causes are known.
    up_causes : (cs : List Column) → AllByRecursion Known cs → All (flat_map column_causes cs)
    up_causes [] h = tt
    up_causes (c ∷ cs) h = all_append Q (column_causes c) (flat_map column_causes cs) (all_append Q (cells_of c) c.broken h.0.0 h.0.1) (up_causes cs h.1)

    up_zip_causes : (cs : List Column) → AllByRecursion Known cs → breaks_shape false (extents cs) ≡ false → All (zip_causes false node cs)
    up_zip_causes cs h fits = all_append Q (flat_map column_causes cs) _ (up_causes cs h) (subst (λ b. All (cond {A = List Cause} b (record { fault = data_fault.Shape; node = node } ∷ []) [])) (sym fits) tt)

    up_lost : (cs : List Column) → AllByRecursion Known cs → All (flat_map (λ (c : Column). c.lost) cs)
    up_lost [] h = tt
    up_lost (c ∷ cs) h = all_append Q c.lost _ h.0.2 (up_lost cs h.1)

    to_unseen : (cs : List Column) → AllByRecursion Known cs → All (unseen_causes false 0 cs)
    to_unseen [] h = tt
    to_unseen (c ∷ cs) h = by (broadcasts false (extent_of c)) (to_unseen cs h.1)
      where
        by : (b : Bool) → All (unseen_causes false 0 cs) → All (flat_map cells_of (cond b (c ∷ filter (λ c. broadcasts false (extent_of c)) cs) (filter (λ c. broadcasts false (extent_of c)) cs)))
        by true r = all_append Q (cells_of c) _ h.0.0 r
        by false r = r

    pub up_all_lost : (cs : List Column) → AllByRecursion Known cs → All (lost_of cs)
    up_all_lost cs h = all_append Q (flat_map (λ (c : Column). c.lost) cs) _ (up_lost cs h) (by (zip_length false (extents cs)))
      where
        by : (n : ℕ) → All (unseen_causes false n cs)
        by zero = to_unseen cs h
        by (suc n) = tt

    all_or_none : (b : Bool) (xs : List Cause) → All xs → All (cond b xs [])
    all_or_none true xs h = h
    all_or_none false xs h = tt

    pub up_operator : (f : List Value → Cell) (cs : List Column) → AllByRecursion Known cs → breaks_shape false (extents cs) ≡ false → All (cellwise node f cs).broken × All (cellwise node f cs).lost
    up_operator f cs h fits = (all_or_none (ends_early false cs) (zip_causes false node cs) (up_zip_causes cs h fits), up_all_lost cs h)

    pub up_zip : (cs : List Column) → AllByRecursion Known cs → breaks_shape false (extents cs) ≡ false → All (all_causes (zipped false node cs))
    up_zip cs h fits = all_append Q (zipped false node cs).broken _ (all_or_none (ends_early false cs || faulty_rows cs) (zip_causes false node cs) (up_zip_causes cs h fits)) (up_all_lost cs h)
