-- Columns of which one is an ended part of the other, and what becomes of them side by side.
use Rattle.std.proofs.Common.{◌≡◌, ℕ, ◌≤◌, ◌<◌, ◌⊎◌, min, max, List, [], ◌∷◌, ◌++◌, length, get_or, refl, sym, ap, ◌∙◌, inl, inr, arith}
use Rattle.std.proofs.lemmas.Bool.{eqb-true}
use Rattle.std.specs.Prelude.{Bool, true, false, not, ◌&&◌, ◌||◌, ◌==◌, cond, map, filter, flat_map, if◌then◌else◌, ⊤}
use Rattle.std.specs.List.{AllByRecursion, fold, list_any}
use Rattle.ps_frame.specs.Causes.{Cause, Column, value, cell_causes, cell_values, column_causes, is_empty, is_ended}
use Rattle.ps_frame.specs.Zip.{Extent, aligned, breaks_shape, broadcasts, cell_in_row, ends_early, extent_of, extents, greatest, is_faulty_row, least_or, lengths_where, zip_causes, zip_length, zip_rows, zipped}
use Rattle.ps_frame.specs.declared.value.Value.TheVariants as val
use Rattle.ps_meaning.proofs.Begins.{Begins, append-empty_left, append-empty_right, begins-below, begins-get, begins-length, begins-map, begins-while, map-below, or-left, or-right}

-- c is d, or a part of it that a fault ended
abbrev pub Under : Column → Column → Type 0
Under c d = (c ≡ d) ⊎ (is_ended c ≡ true) × Begins c.cells d.cells

abbrev pub AllUnder : List Column → List Column → Type 0
AllUnder [] [] = ⊤
AllUnder (c ∷ cs) (d ∷ ds) = Under c d × AllUnder cs ds
AllUnder _ _ = ⊥

-- they are the same ones, or one is ended
pub same_or_ended : (cs ds : List Column) → AllUnder cs ds → (cs ≡ ds) ⊎ (list_any is_ended cs ≡ true)
same_or_ended [] [] u = inl refl
same_or_ended [] (d ∷ ds) u = absurd u
same_or_ended (c ∷ cs) [] u = absurd u
same_or_ended (c ∷ cs) (d ∷ ds) (inr h, us) = inr (or-left (is_ended c) (list_any is_ended cs) h.0)
same_or_ended (c ∷ cs) (d ∷ ds) (inl e, us) = by (same_or_ended cs ds us)
  where
    by : (cs ≡ ds) ⊎ (list_any is_ended cs ≡ true) → (c ∷ cs ≡ d ∷ ds) ⊎ (list_any is_ended (c ∷ cs) ≡ true)
    by (inl q) = inl cc
    by (inr h) = inr (or-right (is_ended c) (list_any is_ended cs) h)

-- a list that isn't empty
pub nonempty : {A : Type 0} (xs : List A) → (xs ≡ [] → ⊥) → not (is_empty xs) ≡ true
nonempty [] h = absurd (h refl)
nonempty (x ∷ xs) h = refl

pub not_empty : {A : Type 0} (xs : List A) → not (is_empty xs) ≡ true → xs ≡ [] → ⊥
not_empty [] h e = cc
not_empty (x ∷ xs) h e = cc

-- where one of them is ended, there are causes
ended-causes : (c : Column) (more : List Column) → (b : Bool) → is_ended c ≡ b → (list_any is_ended more ≡ true → flat_map column_causes more ≡ [] → ⊥)
    → (is_ended c || list_any is_ended more) ≡ true → column_causes c ++ flat_map column_causes more ≡ [] → ⊥
ended-causes c more true q rest h e = not_empty c.broken q (append-empty_right (flat_map cell_causes c.cells) c.broken (append-empty_left (column_causes c) (flat_map column_causes more) e))
ended-causes c more false q rest h e = rest (ap (λ b. b || list_any is_ended more) (sym q) ∙ h) (append-empty_right (column_causes c) (flat_map column_causes more) e)

pub causes-nonempty : (cs : List Column) → list_any is_ended cs ≡ true → flat_map column_causes cs ≡ [] → ⊥
causes-nonempty [] h e = cc
causes-nonempty (c ∷ cs) h e = ended-causes c cs (is_ended c) refl (causes-nonempty cs) h e

-- The least of numbers.
fold-min_all : (b a : ℕ) (ns : List ℕ) → b ≤ fold min a ns → (b ≤ a) × AllByRecursion (λ n. b ≤ n) ns
fold-min_all b a [] h = (h, tt)
fold-min_all b a (n ∷ ns) h = let r = fold-min_all b (min a n) ns h in (omega arith, (omega arith, r.1))

fold-min_least : (b a : ℕ) (ns : List ℕ) → b ≤ a → AllByRecursion (λ n. b ≤ n) ns → b ≤ fold min a ns
fold-min_least b a [] h all = h
fold-min_least b a (n ∷ ns) h all = let k = all.0 in fold-min_least b (min a n) ns (omega arith) all.1

least-all : (b d : ℕ) (ns : List ℕ) → b ≤ least_or d ns → AllByRecursion (λ n. b ≤ n) ns
least-all b d [] h = tt
least-all b d (n ∷ ns) h = fold-min_all b n ns h

least-least : (b d : ℕ) (ns : List ℕ) → AllByRecursion (λ n. b ≤ n) ns → (ns ≡ [] → b ≤ d) → b ≤ least_or d ns
least-least b d [] all h = h refl
least-least b d (n ∷ ns) all h = fold-min_least b n ns all.0 all.1

fold-max_first : (a : ℕ) (ns : List ℕ) → a ≤ fold max a ns
fold-max_first a [] = omega arith
fold-max_first a (n ∷ ns) = let h = fold-max_first (max a n) ns in omega arith

-- the columns whose extents pass a test have at least so many cells
abbrev HaveCells : (Extent → Bool) → ℕ → List Column → Type 0
HaveCells test b cs = AllByRecursion (λ (c : Column). test (extent_of c) ≡ true → b ≤ length c.cells) cs

abbrev lengths_of : (Extent → Bool) → List Column → List ℕ
lengths_of test cs = lengths_where test (extents cs)

module _ (test : Extent → Bool) (b : ℕ) where
  one-cells : (c : Column) (more : List Column) (t : Bool) → test (extent_of c) ≡ t → AllByRecursion (λ n. b ≤ n) (map (λ (e : Extent). e.len) (cond t (extent_of c ∷ filter test (extents more)) (filter test (extents more))))
      → (test (extent_of c) ≡ true → b ≤ length c.cells) × AllByRecursion (λ n. b ≤ n) (lengths_of test more)
  one-cells c more true q all = ((λ h. all.0), all.1)
  one-cells c more false q all = ((λ h. cc), all)

  have-cells : (cs : List Column) → AllByRecursion (λ n. b ≤ n) (lengths_of test cs) → HaveCells test b cs
  have-cells [] all = tt
  have-cells (c ∷ cs) all = let h = one-cells c cs (test (extent_of c)) refl all in (h.0, have-cells cs h.1)

  one-length : (c : Column) (more : List Column) (t : Bool) → test (extent_of c) ≡ t → (test (extent_of c) ≡ true → b ≤ length c.cells) → AllByRecursion (λ n. b ≤ n) (lengths_of test more)
      → AllByRecursion (λ n. b ≤ n) (map (λ (e : Extent). e.len) (cond t (extent_of c ∷ filter test (extents more)) (filter test (extents more))))
  one-length c more true q h all = (h q, all)
  one-length c more false q h all = all

  of-cells : (cs : List Column) → HaveCells test b cs → AllByRecursion (λ n. b ≤ n) (lengths_of test cs)
  of-cells [] all = tt
  of-cells (c ∷ cs) all = one-length c cs (test (extent_of c)) refl all.0 (of-cells cs all.1)

-- which inputs count for the length
abbrev steady : Extent → Bool
steady e = not (broadcasts false e)

ended-steady : (e : Extent) → e.ended ≡ true → steady e ≡ true
ended-steady e h = ap (λ b. not (not b && (e.len == 1))) h

single : (e : Extent) → steady e ≡ false → e.len ≡ 1
single e h = eqb-true e.len 1 (by e.ended (e.len == 1) h)
  where
    by : (a b : Bool) → not (not a && b) ≡ false → b ≡ true
    by true b h = cc
    by false true h = refl
    by false false h = cc

-- an input that broadcasts has one cell
at-zero : (n i : ℕ) (c d : Column) → Begins c.cells d.cells → n ≤ length c.cells → i < n → (if broadcasts false (extent_of d) then 0 else i) ≡ i
at-zero n i c d b le lt = by (broadcasts false (extent_of d)) refl
  where
    by : (t : Bool) → broadcasts false (extent_of d) ≡ t → (if t then 0 else i) ≡ i
    by true q = let one = single (extent_of d) (ap not q) in let len = begins-length c.cells d.cells b in omega arith
    by false q = refl

-- the same cell in each row that both have
cells-same : (n i : ℕ) (c d : Column) → Under c d → (steady (extent_of c) ≡ true → n ≤ length c.cells) → i < n → cell_in_row false i c ≡ cell_in_row false i d
cells-same n i c d (inl e) h lt = ap (cell_in_row false i) e
cells-same n i c d (inr (ended, b)) h lt =
    let le = h (ended-steady (extent_of c) ended) in
    let here : (if broadcasts false (extent_of c) then 0 else i) ≡ i = ap (λ t. if not t && (length c.cells == 1) then 0 else i) ended in
    ap (λ k. get_or c.cells k (value val.Null)) here
    ∙ sym (begins-get c.cells d.cells (value val.Null) i b (omega arith))
    ∙ ap (λ k. get_or d.cells k (value val.Null)) (sym (at-zero n i c d b le lt))

rows-same : (n i : ℕ) (cs ds : List Column) → AllUnder cs ds → HaveCells steady n cs → i < n → map (cell_in_row false i) cs ≡ map (cell_in_row false i) ds
rows-same n i [] [] u h lt = refl
rows-same n i [] (d ∷ ds) u h lt = absurd u
rows-same n i (c ∷ cs) [] u h lt = absurd u
rows-same n i (c ∷ cs) (d ∷ ds) u h lt =
    let e = cells-same n i c d u.0 h.0 lt in
    let es = rows-same n i cs ds u.1 h.1 lt in
    ap (λ x. x ∷ map (cell_in_row false i) cs) e ∙ ap (λ xs. cell_in_row false i d ∷ xs) es

-- what the parts have, the wholes have
cells-grow : (n : ℕ) (cs ds : List Column) → AllUnder cs ds → HaveCells steady n cs → HaveCells steady n ds
cells-grow n [] [] u h = tt
cells-grow n [] (d ∷ ds) u h = absurd u
cells-grow n (c ∷ cs) [] u h = absurd u
cells-grow n (c ∷ cs) (d ∷ ds) u h = (one c d u.0 h.0, cells-grow n cs ds u.1 h.1)
  where
    one : (c d : Column) → Under c d → (steady (extent_of c) ≡ true → n ≤ length c.cells) → steady (extent_of d) ≡ true → n ≤ length d.cells
    one c d (inl e) h s = let q : length c.cells ≡ length d.cells = ap (λ (c : Column). length c.cells) e in let k = h (ap (λ (c : Column). steady (extent_of c)) e ∙ s) in omega arith
    one c d (inr (ended, b)) h s = let k = h (ended-steady (extent_of c) ended) in let len = begins-length c.cells d.cells b in omega arith

-- where nothing else counts for the length, an ended part has one cell at most
short-cell : (n : ℕ) (c d : Column) (t : Bool) → steady (extent_of d) ≡ t → is_ended c ≡ true → Begins c.cells d.cells → (steady (extent_of c) ≡ true → n ≤ length c.cells)
    → (more : List Extent) → map (λ (e : Extent). e.len) (cond t (extent_of d ∷ more) more) ≡ [] → n ≤ 1
short-cell n c d true q ended b h more e = cc
short-cell n c d false q ended b h more e =
    let one = single (extent_of d) q in let len = begins-length c.cells d.cells b in let k = h (ended-steady (extent_of c) ended) in omega arith

skipped : (d : Column) (ds : List Column) (t : Bool) → steady (extent_of d) ≡ t → map (λ (e : Extent). e.len) (cond t (extent_of d ∷ filter steady (extents ds)) (filter steady (extents ds))) ≡ []
    → (steady (extent_of d) ≡ false) × (lengths_of steady ds ≡ [])
skipped d ds true q e = cc
skipped d ds false q e = (q, e)

unended : (c : Column) (b rest : Bool) → is_ended c ≡ b → steady (extent_of c) ≡ false → (is_ended c || rest) ≡ true → rest ≡ true
unended c true rest q s h = let w = ended-steady (extent_of c) q in cc
unended c false rest q s h = ap (λ b. b || rest) (sym q) ∙ h

all-broadcast : (n : ℕ) (cs ds : List Column) → AllUnder cs ds → list_any is_ended cs ≡ true → HaveCells steady n cs → lengths_of steady ds ≡ [] → n ≤ 1
all-broadcast n [] [] u h cells e = cc
all-broadcast n [] (d ∷ ds) u h cells e = absurd u
all-broadcast n (c ∷ cs) [] u h cells e = absurd u
all-broadcast n (c ∷ cs) (d ∷ ds) (inr (ended, b), us) h cells e = short-cell n c d (steady (extent_of d)) refl ended b cells.0 (filter steady (extents ds)) e
all-broadcast n (c ∷ cs) (d ∷ ds) (inl q, us) h cells e =
    let s = skipped d ds (steady (extent_of d)) refl e in
    let s' : steady (extent_of c) ≡ false = ap (λ (c : Column). steady (extent_of c)) q ∙ s.0 in
    all-broadcast n cs ds us (unended c (is_ended c) (list_any is_ended cs) refl s' h) cells.1 s.1

-- without filling, the rows of the parts begin those of the wholes
rows-begin : (cs ds : List Column) → AllUnder cs ds → list_any is_ended cs ≡ true → Begins (zip_rows false (zip_length false (extents cs)) cs) (zip_rows false (zip_length false (extents ds)) ds)
rows-begin cs ds u h = (longer.0, ap (λ rows. rows ++ longer.0) same ∙ longer.1)
  where
    cells : HaveCells steady (zip_length false (extents cs)) cs
    cells = have-cells steady (zip_length false (extents cs)) cs (least-all (zip_length false (extents cs)) 1 (lengths_of steady cs) (omega arith))

    le : zip_length false (extents cs) ≤ zip_length false (extents ds)
    le =
        let k = zip_length false (extents cs) in
        least-least k 1 (lengths_of steady ds) (of-cells steady k ds (cells-grow k cs ds u cells)) (λ e. all-broadcast k cs ds u h cells e)

    same : zip_rows false (zip_length false (extents cs)) cs ≡ zip_rows false (zip_length false (extents cs)) ds
    same = map-below (zip_length false (extents cs)) (λ i. map (cell_in_row false i) cs) (λ i. map (cell_in_row false i) ds) (λ i lt. rows-same (zip_length false (extents cs)) i cs ds u cells lt)

    longer : Begins (zip_rows false (zip_length false (extents cs)) ds) (zip_rows false (zip_length false (extents ds)) ds)
    longer = begins-map (λ i. map (cell_in_row false i) ds) _ _ (begins-below _ _ le)

-- Filling: the least ended part says how many rows there are.
abbrev ended_test : Extent → Bool
ended_test e = e.ended

filled-same : (n i : ℕ) (cs ds : List Column) → AllUnder cs ds → HaveCells ended_test n cs → i < n → map (cell_in_row true i) cs ≡ map (cell_in_row true i) ds
filled-same n i [] [] u h lt = refl
filled-same n i [] (d ∷ ds) u h lt = absurd u
filled-same n i (c ∷ cs) [] u h lt = absurd u
filled-same n i (c ∷ cs) (d ∷ ds) u h lt =
    ap (λ x. x ∷ map (cell_in_row true i) cs) (one c d u.0 h.0) ∙ ap (λ xs. cell_in_row true i d ∷ xs) (filled-same n i cs ds u.1 h.1 lt)
  where
    one : (c d : Column) → Under c d → (is_ended c ≡ true → n ≤ length c.cells) → cell_in_row true i c ≡ cell_in_row true i d
    one c d (inl e) h = ap (cell_in_row true i) e
    one c d (inr (ended, b)) h = let le = h ended in sym (begins-get c.cells d.cells (value val.Null) i b (omega arith))

ended-grow : (n : ℕ) (cs ds : List Column) → AllUnder cs ds → HaveCells ended_test n cs → HaveCells ended_test n ds
ended-grow n [] [] u h = tt
ended-grow n [] (d ∷ ds) u h = absurd u
ended-grow n (c ∷ cs) [] u h = absurd u
ended-grow n (c ∷ cs) (d ∷ ds) u h = (one c d u.0 h.0, ended-grow n cs ds u.1 h.1)
  where
    one : (c d : Column) → Under c d → (is_ended c ≡ true → n ≤ length c.cells) → is_ended d ≡ true → n ≤ length d.cells
    one c d (inl e) h s = let q : length c.cells ≡ length d.cells = ap (λ (c : Column). length c.cells) e in let k = h (ap is_ended e ∙ s) in omega arith
    one c d (inr (ended, b)) h s = let k = h ended in let len = begins-length c.cells d.cells b in omega arith

long-first : (n a : ℕ) (c d : Column) (rest : Bool) (t : Bool) → is_ended c ≡ t → Under c d → (is_ended c ≡ true → n ≤ length c.cells) → (is_ended c || rest) ≡ true → (n ≤ max a (length d.cells)) ⊎ (rest ≡ true)
long-first n a c d rest true q (inl e) h some = let len : length c.cells ≡ length d.cells = ap (λ (c : Column). length c.cells) e in let k = h q in inl (omega arith)
long-first n a c d rest true q (inr (ended, b)) h some = let len = begins-length c.cells d.cells b in let k = h q in inl (omega arith)
long-first n a c d rest false q u h some = inr (ap (λ b. b || rest) (sym q) ∙ some)

long-one : (n a : ℕ) (cs ds : List Column) → AllUnder cs ds → list_any is_ended cs ≡ true → HaveCells ended_test n cs → n ≤ fold max a (map (λ (e : Extent). e.len) (extents ds))
long-one n a [] ds u h cells = cc
long-one n a (c ∷ cs) [] u h cells = absurd u
long-one n a (c ∷ cs) (d ∷ ds) u h cells =
    by (long-first n a c d (list_any is_ended cs) (is_ended c) refl u.0 cells.0 h) (λ some. long-one n (max a (length d.cells)) cs ds u.1 some cells.1)
  where
    by : (n ≤ max a (length d.cells)) ⊎ (list_any is_ended cs ≡ true) → (list_any is_ended cs ≡ true → n ≤ fold max (max a (length d.cells)) (map (λ (e : Extent). e.len) (extents ds)))
        → n ≤ fold max (max a (length d.cells)) (map (λ (e : Extent). e.len) (extents ds))
    by (inl le) later = let first = fold-max_first (max a (length d.cells)) (map (λ (e : Extent). e.len) (extents ds)) in omega arith
    by (inr some) later = later some

rows-begin_filled : (cs ds : List Column) → AllUnder cs ds → list_any is_ended cs ≡ true → Begins (zip_rows true (zip_length true (extents cs)) cs) (zip_rows true (zip_length true (extents ds)) ds)
rows-begin_filled cs ds u h = (longer.0, ap (λ rows. rows ++ longer.0) same ∙ longer.1)
  where
    cells : HaveCells ended_test (zip_length true (extents cs)) cs
    cells = have-cells ended_test (zip_length true (extents cs)) cs (least-all (zip_length true (extents cs)) (greatest (map (λ e. e.len) (extents cs))) (lengths_of ended_test cs) (omega arith))

    le : zip_length true (extents cs) ≤ zip_length true (extents ds)
    le =
        let k = zip_length true (extents cs) in
        least-least k (greatest (map (λ e. e.len) (extents ds))) (lengths_of ended_test ds) (of-cells ended_test k ds (ended-grow k cs ds u cells)) (λ e. long-one k 0 cs ds u h cells)

    same : zip_rows true (zip_length true (extents cs)) cs ≡ zip_rows true (zip_length true (extents cs)) ds
    same = map-below (zip_length true (extents cs)) (λ i. map (cell_in_row true i) cs) (λ i. map (cell_in_row true i) ds) (λ i lt. filled-same (zip_length true (extents cs)) i cs ds u cells lt)

    longer : Begins (zip_rows true (zip_length true (extents cs)) ds) (zip_rows true (zip_length true (extents ds)) ds)
    longer = begins-map (λ i. map (cell_in_row true i) ds) _ _ (begins-below _ _ le)

both-begin : (extend : Bool) (cs ds : List Column) → AllUnder cs ds → list_any is_ended cs ≡ true → Begins (zip_rows extend (zip_length extend (extents cs)) cs) (zip_rows extend (zip_length extend (extents ds)) ds)
both-begin true cs ds u h = rows-begin_filled cs ds u h
both-begin false cs ds u h = rows-begin cs ds u h

-- what ended it isn't empty
zip-causes : (extend : Bool) (at : ℕ) (cs : List Column) → list_any is_ended cs ≡ true → zip_causes extend at cs ≡ [] → ⊥
zip-causes extend at cs h e = causes-nonempty cs h (append-empty_left (flat_map column_causes cs) _ e)

-- The zip of parts is that of the wholes, or it is broken and its rows begin the others.
abbrev pub Broken : List Cause → Type 0
Broken cs = cs ≡ [] → ⊥

pub aligned-under : (extend : Bool) (at : ℕ) (cs ds : List Column) → AllUnder cs ds
    → (cs ≡ ds) ⊎ Broken (aligned extend at cs).broken × Begins (aligned extend at cs).rows (aligned extend at ds).rows
aligned-under extend at cs ds u = by (same_or_ended cs ds u)
  where
    by : (cs ≡ ds) ⊎ (list_any is_ended cs ≡ true) → (cs ≡ ds) ⊎ Broken (aligned extend at cs).broken × Begins (aligned extend at cs).rows (aligned extend at ds).rows
    by (inl e) = inl e
    by (inr h) =
        let all : cond (ends_early extend cs) (zip_causes extend at cs) [] ≡ zip_causes extend at cs = ap (λ b. cond (b || breaks_shape extend (extents cs)) (zip_causes extend at cs) []) h in
        inr ((λ e. zip-causes extend at cs h (sym all ∙ e)), both-begin extend cs ds u h)

pub zipped-under : (extend : Bool) (at : ℕ) (cs ds : List Column) → AllUnder cs ds
    → (cs ≡ ds) ⊎ Broken (zipped extend at cs).broken × Begins (zipped extend at cs).rows (zipped extend at ds).rows
zipped-under extend at cs ds u = by (same_or_ended cs ds u)
  where
    by : (cs ≡ ds) ⊎ (list_any is_ended cs ≡ true) → (cs ≡ ds) ⊎ Broken (zipped extend at cs).broken × Begins (zipped extend at cs).rows (zipped extend at ds).rows
    by (inl e) = inl e
    by (inr h) =
        let faulty = list_any is_faulty_row (aligned extend at cs).rows in
        let all : cond (ends_early extend cs || list_any is_faulty_row (aligned extend at cs).rows) (zip_causes extend at cs) [] ≡ zip_causes extend at cs =
        ap (λ b. cond ((b || breaks_shape extend (extents cs)) || list_any is_faulty_row (aligned extend at cs).rows) (zip_causes extend at cs) []) h in
        inr ((λ e. zip-causes extend at cs h (sym all ∙ e)), begins-map (λ row. cell_values row) _ _ (begins-while (λ row. not (is_faulty_row row)) _ _ (both-begin extend cs ds u h)))
