-- A zip of tables shows what the tables show.
use Rattle.std.proofs.Common.{◌≡◌, ◌⊎◌, inl, inr, ℕ, zero, suc, ◌≤◌, ◌<◌, min, Bool, true, false, not, cond, List, [], ◌∷◌, ◌++◌, length, replicate, get_or, refl, sym, ap, subst, ◌∙◌, arith}
use Rattle.std.specs.Prelude.{map, filter, fold, ◌==◌, ◌&&◌, ◌||◌, ◌≢◌}
use Rattle.std.specs.List.{AllByRecursion, list_any}
use Rattle.std.proofs.Math.ListN.{get_or-map as get_or-map_default}
use Rattle.std.proofs.lemmas.Bool.{eqb-true}
use Rattle.std.proofs.lemmas.List.{get_or-map, length-map, map-append}
use Rattle.ps_frame.specs.Causes.{Cause, Column, value, is_empty}
use Rattle.ps_frame.specs.Tables.{Fields, Table, column_at, columns_of, values_at}
use Rattle.ps_frame.specs.Zip.{Extent, below, breaks_shape, broadcasts, cell_in_row, ends_early, extent_of, extents, least_or, zip_length}
use Rattle.ps_frame.specs.declared.value.Value.{Value}
use Rattle.ps_frame.specs.declared.value.Value.TheVariants as val
use Rattle.ps_meaning.specs.Cases.{all_columns, table_of}
use Rattle.ps_meaning.specs.Shape.{mild_zip}
use Rattle.ps_shares.specs.Shares.{IsClear}
use Rattle.ps_shares.specs.Shares.{InputsShow, IsShare, Share, Shows, ZipsShow, columns_shown, tables_of}
use Rattle.ps_shares.proofs.ClearZips.{any_ended, clear_row, clear_zip_rows, held, mild_ends, values_in_row}
use Rattle.ps_shares.proofs.FlatEnds.{flat_ends}
use Rattle.ps_shares.proofs.FlatLength.{all_broadcast, ends, flat_length, moving, whole_of_one, zip_extent}
use Rattle.ps_shares.proofs.Below.{all_clear, get_below, length_below}
use Rattle.ps_shares.proofs.Leaves.{append_assoc, get_all, least_all, one_extent}

-- what a table's columns are
abbrev pub table_extent : Table → Extent
table_extent t = record { ended = not (is_empty t.broken); len = length t.rows }

-- what the columns that it shows are together
abbrev pub known_extent : Share → Extent
known_extent h = zip_extent (extents h.columns)

abbrev pub given_extent : Share → Extent
given_extent h = table_extent h.from

column_extents : (t : Table) (ns : List ℕ) → extents (map (λ j. column_at j t) ns) ≡ replicate (length ns) (table_extent t)
column_extents t [] = refl
column_extents t (n ∷ ns) =
    let l = length-map (values_at n t.rows) value ∙ length-map t.rows (λ row. get_or row n val.Null) in
    let r = column_extents t ns in
    λ j. record { ended = not (is_empty t.broken); len = l j } ∷ r j

some_fields : (h : Share) → IsShare h → (n : ℕ) → length h.from.schema ≡ n → n ≢ 0
some_fields h is n e z = is.some (none h.columns (sym is.wide ∙ e ∙ z))
  where
    none : {A : Type 0} (xs : List A) → length xs ≡ 0 → xs ≡ []
    none [] h = refl
    none (x ∷ xs) h = absurd (omega arith)

module _ (A : Type 0) (f : List Extent → A) (flat : (before inner after : List Extent) (k : ℕ) → f (before ++ (replicate (suc k) (zip_extent inner) ++ after)) ≡ f (before ++ (inner ++ after))) where
  once : (before after : List Extent) (h : Share) → IsShare h → (n : ℕ) → length h.from.schema ≡ n → f (before ++ (replicate n (given_extent h) ++ after)) ≡ f (before ++ (given_extent h ∷ after))
  once before after h is zero e = absurd (some_fields h is zero e refl)
  once before after h is (suc n) e = ap (λ x. f (before ++ (replicate (suc n) x ++ after))) (one_extent (given_extent h)) ∙ flat before (given_extent h ∷ []) after n

  given_once : (before : List Extent) (hs : List Share) → AllByRecursion IsShare hs → f (before ++ extents (all_columns (tables_of hs))) ≡ f (before ++ map given_extent hs)
  given_once before [] all = refl
  given_once before (h ∷ hs) all =
      let w = length h.from.schema in
      let e : extents (columns_of h.from) ≡ replicate w (given_extent h) = column_extents h.from (below w) ∙ ap (λ n. replicate n (given_extent h)) (length_below w) in
      ap (λ es. f (before ++ es)) (map-append extent_of (columns_of h.from) (all_columns (tables_of hs)))
      ∙ ap (λ es. f (before ++ (es ++ extents (all_columns (tables_of hs))))) e
      ∙ once before (extents (all_columns (tables_of hs))) h all.0 w refl
      ∙ ap f (append_assoc before (given_extent h ∷ []) (extents (all_columns (tables_of hs))))
      ∙ given_once (before ++ given_extent h ∷ []) hs all.1
      ∙ ap f (sym (append_assoc before (given_extent h ∷ []) (map given_extent hs)))

  known_once : (before : List Extent) (hs : List Share) → f (before ++ extents (columns_shown hs)) ≡ f (before ++ map known_extent hs)
  known_once before [] = refl
  known_once before (h ∷ hs) =
      ap (λ es. f (before ++ es)) (map-append extent_of h.columns (columns_shown hs))
      ∙ sym (flat before (extents h.columns) (extents (columns_shown hs)) 0)
      ∙ ap f (append_assoc before (known_extent h ∷ []) (extents (columns_shown hs)))
      ∙ known_once (before ++ known_extent h ∷ []) hs
      ∙ ap f (sym (append_assoc before (known_extent h ∷ []) (map known_extent hs)))

-- the same and not ended, or ended and no longer
abbrev UnderExtent : Extent → Extent → Type 0
UnderExtent e k = ((e ≡ k) × (e.ended ≡ false)) ⊎ ((e.ended ≡ true) × (e.len ≤ k.len))

share_under : (h : Share) → IsShare h → UnderExtent (given_extent h) (known_extent h)
share_under h is = by h.from.broken refl
  where
    by : (b : List Cause) → h.from.broken ≡ b → UnderExtent (given_extent h) (known_extent h)
    by [] e =
        let w = is.shows.whole e in
        let u : not (is_empty h.from.broken) ≡ false = ap (λ b. not (is_empty b)) e in
        let v : ends (extents h.columns) ≡ false = ap (λ b. b || breaks_shape false (extents h.columns)) (any_ended h.columns) ∙ w.0 in
        inl ((λ i. record { ended = (u ∙ sym v) i; len = w.1 i }), u)
    by (c ∷ cs) e = inr (ap (λ b. not (is_empty b)) e, is.shows.few)

abbrev pub any : List Extent → Bool
any es = list_any (λ (e : Extent). e.ended) es

none_step : (s : Share) (hs : List Share) → UnderExtent (given_extent s) (known_extent s) → ((given_extent s).ended || any (map given_extent hs)) ≡ false → (any (map given_extent hs) ≡ false → map given_extent hs ≡ map known_extent hs)
    → map given_extent (s ∷ hs) ≡ map known_extent (s ∷ hs)
none_step s hs (inl (e, w)) h rest =
    let q : any (map given_extent hs) ≡ false = sym (ap (λ b. b || any (map given_extent hs)) w) ∙ h in
    let r = rest q in
    λ j. e j ∷ r j
none_step s hs (inr (e, le)) h rest = let q : true ≡ false = sym (ap (λ b. b || any (map given_extent hs)) e) ∙ h in cc

pub none_ended : (hs : List Share) → AllByRecursion IsShare hs → any (map given_extent hs) ≡ false → map given_extent hs ≡ map known_extent hs
none_ended [] all h = refl
none_ended (s ∷ hs) all h = none_step s hs (share_under s all.0) h (none_ended hs all.1)

-- the least length is at most that of what is known
abbrev pub AtLeast : ℕ → List Extent → Type 0
AtLeast b es = AllByRecursion (λ m. b ≤ m) (moving es)

abbrev pub moving_as : Bool → Extent → List Extent → List ℕ
moving_as t e es = map (λ (e : Extent). e.len) (cond (not t) (e ∷ filter (λ e. not (broadcasts false e)) es) (filter (λ e. not (broadcasts false e)) es))

pub moving_cons : (e : Extent) (es : List Extent) (t : Bool) → broadcasts false e ≡ t → moving (e ∷ es) ≡ moving_as t e es
moving_cons e es t h = ap (λ t. moving_as t e es) h

pub first_of : (b : ℕ) (e : Extent) (es : List Extent) (t : Bool) → broadcasts false e ≡ t → AtLeast b (e ∷ es) → (t ≡ false → b ≤ e.len) × AtLeast b es
first_of b e es true h all = ((λ f. cc), subst (λ ms. AllByRecursion (λ m. b ≤ m) ms) (moving_cons e es true h) all)
first_of b e es false h all = let k = subst (λ ms. AllByRecursion (λ m. b ≤ m) ms) (moving_cons e es false h) all in ((λ f. k.0), k.1)

onto : (b : ℕ) (e : Extent) (es : List Extent) (t : Bool) → broadcasts false e ≡ t → (t ≡ false → b ≤ e.len) → AtLeast b es → AtLeast b (e ∷ es)
onto b e es true h le all = subst (λ ms. AllByRecursion (λ m. b ≤ m) ms) (sym (moving_cons e es true h)) all
onto b e es false h le all = subst (λ ms. AllByRecursion (λ m. b ≤ m) ms) (sym (moving_cons e es false h)) (le refl, all)

pub ended_moves : (e : Extent) → e.ended ≡ true → broadcasts false e ≡ false
ended_moves e h = ap (λ b. not b && (e.len == 1)) h

known_step : (b : ℕ) (s : Share) (hs : List Share) → UnderExtent (given_extent s) (known_extent s) → AtLeast b (map given_extent (s ∷ hs)) → (AtLeast b (map given_extent hs) → AtLeast b (map known_extent hs)) → AtLeast b (map known_extent (s ∷ hs))
known_step b s hs (inl (e, w)) all rest =
    let f = first_of b (given_extent s) (map given_extent hs) (broadcasts false (given_extent s)) refl all in
    onto b (known_extent s) (map known_extent hs) (broadcasts false (known_extent s)) refl (λ h. let le = f.0 (ap (broadcasts false) e ∙ h) in let l = ap (λ (e : Extent). e.len) e in omega arith) (rest f.1)
known_step b s hs (inr (e, le)) all rest =
    let f = first_of b (given_extent s) (map given_extent hs) false (ended_moves (given_extent s) e) all in
    let le' = f.0 refl in
    onto b (known_extent s) (map known_extent hs) (broadcasts false (known_extent s)) refl (λ h. omega arith) (rest f.1)

known_at_least : (b : ℕ) (hs : List Share) → AllByRecursion IsShare hs → AtLeast b (map given_extent hs) → AtLeast b (map known_extent hs)
known_at_least b [] all h = tt
known_at_least b (s ∷ hs) all h = known_step b s hs (share_under s all.0) h (known_at_least b hs all.1)

-- where all that is known broadcasts, and something is ended, there is at most one row
single : (e : Extent) (es : List Extent) (t : Bool) → broadcasts false e ≡ t → moving (e ∷ es) ≡ [] → (e.len ≡ 1) × (moving es ≡ [])
single e es true h none =
    let w = whole_of_one e.ended (e.len == 1) h in
    (eqb-true e.len 1 w.1, sym (moving_cons e es true h) ∙ none)
single e es false h none = let k : e.len ∷ moving es ≡ [] = sym (moving_cons e es false h) ∙ none in cc

one_step : (b : ℕ) (s : Share) (hs : List Share) → UnderExtent (given_extent s) (known_extent s) → AtLeast b (map given_extent (s ∷ hs)) → moving (map known_extent (s ∷ hs)) ≡ [] → ((given_extent s).ended || any (map given_extent hs)) ≡ true
    → (AtLeast b (map given_extent hs) → moving (map known_extent hs) ≡ [] → any (map given_extent hs) ≡ true → b ≤ 1) → b ≤ 1
one_step b s hs (inl (e, w)) all none h rest =
    let f = first_of b (given_extent s) (map given_extent hs) (broadcasts false (given_extent s)) refl all in
    let k = single (known_extent s) (map known_extent hs) (broadcasts false (known_extent s)) refl none in
    rest f.1 k.1 (sym (ap (λ x. x || any (map given_extent hs)) w) ∙ h)
one_step b s hs (inr (e, le)) all none h rest =
    let f = first_of b (given_extent s) (map given_extent hs) false (ended_moves (given_extent s) e) all in
    let le' = f.0 refl in
    let k = single (known_extent s) (map known_extent hs) (broadcasts false (known_extent s)) refl none in
    let one = k.0 in
    omega arith

at_most_one : (b : ℕ) (hs : List Share) → AllByRecursion IsShare hs → AtLeast b (map given_extent hs) → moving (map known_extent hs) ≡ [] → any (map given_extent hs) ≡ true → b ≤ 1
at_most_one b [] all h none e = cc
at_most_one b (s ∷ hs) all h none e = one_step b s hs (share_under s all.0) h none e (at_most_one b hs all.1)

least_least : (b : ℕ) (ns : List ℕ) → AllByRecursion (λ n. b ≤ n) ns → (ns ≡ [] → b ≤ 1) → b ≤ least_or 1 ns
least_least b [] all one = one refl
least_least b (n ∷ ns) all one = below_fold b n ns all.0 all.1
  where
    below_fold : (b a : ℕ) (ns : List ℕ) → b ≤ a → AllByRecursion (λ n. b ≤ n) ns → b ≤ fold min a ns
    below_fold b a [] le all = le
    below_fold b a (n ∷ ns) le all = let k = all.0 in below_fold b (min a n) ns (omega arith) all.1

some_ended : (hs : List Share) → AllByRecursion IsShare hs → any (map given_extent hs) ≡ true → zip_length false (map given_extent hs) ≤ zip_length false (map known_extent hs)
some_ended hs all h =
    let b = zip_length false (map given_extent hs) in
    let l = least_all b 1 (moving (map given_extent hs)) (omega arith) in
    least_least b (moving (map known_extent hs)) (known_at_least b hs all l) (λ none. at_most_one b hs all l none h)

pub at_most : (hs : List Share) → AllByRecursion IsShare hs → (t : Bool) → any (map given_extent hs) ≡ t → zip_length false (map given_extent hs) ≤ zip_length false (map known_extent hs)
at_most hs all true h = some_ended hs all h
at_most hs all false h = let e = ap (zip_length false) (none_ended hs all h) in omega arith

-- the columns of tables are clear
column_clear : (t : Table) (ns : List ℕ) → AllByRecursion IsClear (map (λ j. column_at j t) ns)
column_clear t [] = tt
column_clear t (n ∷ ns) = (((values_at n t.rows, refl), refl), column_clear t ns)

tables_clear : (hs : List Share) → AllByRecursion IsClear (all_columns (tables_of hs))
tables_clear [] = tt
tables_clear (h ∷ hs) = all_clear (columns_of h.from) (all_columns (tables_of hs)) (column_clear h.from (below (length h.from.schema))) (tables_clear hs)

-- the values that a table's columns have in a row
abbrev place : Table → ℕ → ℕ
place t i = cond (broadcasts false (table_extent t)) 0 i

value_in : (t : Table) (i j : ℕ) → place t i < length t.rows → held (cell_in_row false i (column_at j t)) ≡ get_or (get_or t.rows (place t i) []) j val.Null
value_in t i j lt =
    let e : broadcasts false (extent_of (column_at j t)) ≡ broadcasts false (table_extent t) = ap (λ n. not (not (is_empty t.broken)) && (n == 1)) (length-map (values_at j t.rows) value ∙ length-map t.rows (λ row. get_or row j val.Null)) in
    ap held (ap (λ b. get_or (map value (values_at j t.rows)) (cond b 0 i) (value val.Null)) e)
    ∙ ap held (get_or-map_default value (values_at j t.rows) (place t i) val.Null)
    ∙ get_or-map (λ row. get_or row j val.Null) t.rows (place t i) [] val.Null lt

values_in : (t : Table) (i : ℕ) → place t i < length t.rows → (ns : List ℕ) → values_in_row i (map (λ j. column_at j t) ns) ≡ map (λ j. get_or (get_or t.rows (place t i) []) j val.Null) ns
values_in t i lt [] = refl
values_in t i lt (n ∷ ns) = let p = value_in t i n lt in let q = values_in t i lt ns in λ j. p j ∷ q j

row_length : (w : ℕ) (rows : List (List Value)) (k : ℕ) → AllByRecursion (λ (row : List Value). length row ≡ w) rows → k < length rows → length (get_or rows k []) ≡ w
row_length w [] k all lt = absurd (omega arith)
row_length w (r ∷ rows) zero all lt = all.0
row_length w (r ∷ rows) (suc k) all lt = let lt' : k < length rows = omega arith in row_length w rows k all.1 lt'

table_row : (t : Table) (i : ℕ) → AllByRecursion (λ (row : List Value). length row ≡ length t.schema) t.rows → place t i < length t.rows → values_in_row i (columns_of t) ≡ get_or t.rows (place t i) []
table_row t i wide lt =
    let row = get_or t.rows (place t i) [] in
    values_in t i lt (below (length t.schema)) ∙ ap (λ n. map (λ j. get_or row j val.Null) (below n)) (sym (row_length (length t.schema) t.rows (place t i) wide lt)) ∙ get_all row val.Null

-- what broadcasts has one cell for all rows
still_cell : (c : Column) (i : ℕ) → broadcasts false (extent_of c) ≡ true → cell_in_row false i c ≡ cell_in_row false 0 c
still_cell c i h = ap (λ b. get_or c.cells (cond b 0 i) (value val.Null)) h ∙ sym (ap (λ b. get_or c.cells (cond b 0 0) (value val.Null)) h)

still_step : (c : Column) (cs : List Column) (i : ℕ) (t : Bool) → broadcasts false (extent_of c) ≡ t → moving (extents (c ∷ cs)) ≡ [] → (moving (extents cs) ≡ [] → map (cell_in_row false i) cs ≡ map (cell_in_row false 0) cs)
    → map (cell_in_row false i) (c ∷ cs) ≡ map (cell_in_row false 0) (c ∷ cs)
still_step c cs i true h none rest =
    let p = still_cell c i h in
    let q = rest (sym (moving_cons (extent_of c) (extents cs) true h) ∙ none) in
    λ j. p j ∷ q j
still_step c cs i false h none rest = let k : length c.cells ∷ moving (extents cs) ≡ [] = sym (moving_cons (extent_of c) (extents cs) false h) ∙ none in cc

still_cells : (cs : List Column) (i : ℕ) → moving (extents cs) ≡ [] → map (cell_in_row false i) cs ≡ map (cell_in_row false 0) cs
still_cells [] i none = refl
still_cells (c ∷ cs) i none = still_step c cs i (broadcasts false (extent_of c)) refl none (still_cells cs i)

-- a share's row beside others
share_row : (h : Share) → IsShare h → (i : ℕ) → (broadcasts false (given_extent h) ≡ false → i < length h.from.rows) → (t : Bool) → broadcasts false (given_extent h) ≡ t
    → (place h.from i < length h.from.rows) × (map (cell_in_row false i) h.columns ≡ map value (get_or h.from.rows (place h.from i) []))
share_row h is i inside false e =
    let lt = inside e in
    let k : place h.from i ≡ i = ap (λ b. cond b 0 i) e in
    (omega arith, is.shows.rows i lt ∙ ap (λ n. map value (get_or h.from.rows n [])) (sym k))
share_row h is i inside true e =
    let k : place h.from i ≡ 0 = ap (λ b. cond b 0 i) e in
    let w = whole_of_one (not (is_empty h.from.broken)) (length h.from.rows == 1) e in
    let one : length h.from.rows ≡ 1 = eqb-true (length h.from.rows) 1 w.1 in
    let lt : 0 < length h.from.rows = omega arith in
    let whole = is.shows.whole (empty h.from.broken w.0) in
    let n : ends (extents h.columns) ≡ false = ap (λ b. b || breaks_shape false (extents h.columns)) (any_ended h.columns) ∙ whole.0 in
    let none = all_broadcast (extents h.columns) n (sym whole.1 ∙ one) in
    (omega arith, still_cells h.columns i none ∙ is.shows.rows 0 lt ∙ ap (λ n. map value (get_or h.from.rows n [])) (sym k))
  where
    empty : (b : List Cause) → not (is_empty b) ≡ false → b ≡ []
    empty [] h = refl
    empty (c ∷ cs) h = cc

abbrev AreInside : ℕ → List Share → Type 0
AreInside i hs = AllByRecursion (λ (h : Share). broadcasts false (given_extent h) ≡ false → i < length h.from.rows) hs

zip_row : (i : ℕ) (hs : List Share) → AllByRecursion IsShare hs → AreInside i hs → map (cell_in_row false i) (columns_shown hs) ≡ map value (values_in_row i (all_columns (tables_of hs)))
zip_row i [] all inside = refl
zip_row i (h ∷ hs) all inside =
    let s = share_row h all.0 i inside.0 (broadcasts false (given_extent h)) refl in
    let p = s.1 ∙ ap (map value) (sym (table_row h.from i all.0.rows s.0)) in
    let q = zip_row i hs all.1 inside.1 in
    map-append (cell_in_row false i) h.columns (columns_shown hs)
    ∙ (λ j. p j ++ q j)
    ∙ sym (map-append value (values_in_row i (columns_of h.from)) (values_in_row i (all_columns (tables_of hs))))
    ∙ ap (map value) (sym (map-append (λ c. held (cell_in_row false i c)) (columns_of h.from) (all_columns (tables_of hs))))

inside_of : (i b : ℕ) (hs : List Share) → i < b → AtLeast b (map given_extent hs) → AreInside i hs
inside_of i b [] lt all = tt
inside_of i b (h ∷ hs) lt all =
    let f = first_of b (given_extent h) (map given_extent hs) (broadcasts false (given_extent h)) refl all in
    ((λ e. let le = f.0 e in omega arith), inside_of i b hs lt f.1)

module _ (at : ℕ) (s : Fields) (hs : List Share) (all : AllByRecursion IsShare hs) where
  abbrev pub inputs : List Column
  inputs = all_columns (tables_of hs)

  abbrev pub n : ℕ
  n = zip_length false (extents inputs)

  pub given_length : n ≡ zip_length false (map given_extent hs)
  given_length = given_once ℕ (zip_length false) flat_length [] hs all

  pub known_length : zip_length false (extents (columns_shown hs)) ≡ zip_length false (map known_extent hs)
  known_length = known_once ℕ (zip_length false) flat_length [] hs

  pub given_ends : ends (extents inputs) ≡ ends (map given_extent hs)
  given_ends = given_once Bool ends flat_ends [] hs all

  pub known_ends : ends (extents (columns_shown hs)) ≡ ends (map known_extent hs)
  known_ends = known_once Bool ends flat_ends [] hs

  rows_are : (mild_zip at inputs).rows ≡ map (λ i. values_in_row i inputs) (below n)
  rows_are = clear_zip_rows at inputs (tables_clear hs)

  pub row_count : length (mild_zip at inputs).rows ≡ n
  row_count = ap length rows_are ∙ length-map (below n) (λ i. values_in_row i inputs) ∙ length_below n

  whole_zip : (t : Bool) → any (map given_extent hs) ≡ t → (mild_zip at inputs).broken ≡ [] → (ends_early false (columns_shown hs) ≡ false) × (length (mild_zip at inputs).rows ≡ zip_length false (extents (columns_shown hs)))
  whole_zip t a e =
      let x : ends (map given_extent hs) ≡ false = sym given_ends ∙ sym (mild_ends at inputs (tables_clear hs)) ∙ ap (λ b. not (is_empty b)) e in
      let y = none_ended hs all (first_false (any (map given_extent hs)) (breaks_shape false (map given_extent hs)) x) in
      (sym (ap (λ b. b || breaks_shape false (extents (columns_shown hs))) (any_ended (columns_shown hs))) ∙ known_ends ∙ sym (ap ends y) ∙ x, row_count ∙ given_length ∙ ap (zip_length false) y ∙ sym known_length)
    where
      first_false : (a b : Bool) → (a || b) ≡ false → a ≡ false
      first_false true b h = cc
      first_false false b h = refl

  shown : Shows (table_of s (λ rows. rows) (mild_zip at inputs)) (columns_shown hs)
  shown =
      let le = at_most hs all (any (map given_extent hs)) refl in
      let c = row_count in
      let g = given_length in
      let k = known_length in
      record {
        few = omega arith;
        whole = whole_zip (any (map given_extent hs)) refl;
        rows = λ i lt.
            let lt' : i < n = omega arith in
            let b = zip_length false (map given_extent hs) in
            let lt'' : i < b = omega arith in
            zip_row i hs all (inside_of i b hs lt'' (least_all b 1 (moving (map given_extent hs)) (omega arith)))
            ∙ ap (map value) (sym (ap (λ rows. get_or rows i []) rows_are ∙ get_below (λ i. values_in_row i inputs) n i [] lt'));
      }

pub zips_show : ZipsShow
zips_show at s hs all = shown at s hs all

-- a table shows its own columns
module _ (t : Table) (wide : AllByRecursion (λ (row : List Value). length row ≡ length t.schema) t.rows) (some : t.schema ≢ []) where
  once_over : (A : Type 0) (f : List Extent → A) → ((before inner after : List Extent) (k : ℕ) → f (before ++ (replicate (suc k) (zip_extent inner) ++ after)) ≡ f (before ++ (inner ++ after)))
      → (n : ℕ) → length t.schema ≡ n → f (replicate n (table_extent t) ++ []) ≡ f (table_extent t ∷ [])
  once_over A f flat zero e = absurd (some (none t.schema e))
    where
      none : (s : Fields) → length s ≡ 0 → s ≡ []
      none [] h = refl
      none (x ∷ xs) h = absurd (omega arith)
  once_over A f flat (suc n) e = ap (λ x. f (replicate (suc n) x ++ [])) (one_extent (table_extent t)) ∙ flat [] (table_extent t ∷ []) [] n

  own_extents : extents (columns_of t) ≡ replicate (length t.schema) (table_extent t) ++ []
  own_extents = column_extents t (below (length t.schema)) ∙ ap (λ n. replicate n (table_extent t)) (length_below (length t.schema)) ∙ sym (append_none (replicate (length t.schema) (table_extent t)))
    where
      append_none : {A : Type 0} (xs : List A) → xs ++ [] ≡ xs
      append_none [] = refl
      append_none (x ∷ xs) = ap (λ ws. x ∷ ws) (append_none xs)

  own_length : zip_length false (extents (columns_of t)) ≡ length t.rows
  own_length = ap (zip_length false) own_extents ∙ once_over ℕ (zip_length false) flat_length (length t.schema) refl ∙ sym (ap (λ (e : Extent). e.len) (one_extent (table_extent t)))

  own_ends : ends (extents (columns_of t)) ≡ not (is_empty t.broken)
  own_ends = ap ends own_extents ∙ once_over Bool ends flat_ends (length t.schema) refl ∙ sym (ap (λ (e : Extent). e.ended) (one_extent (table_extent t)))

  own_place : (i : ℕ) → i < length t.rows → (b : Bool) → broadcasts false (table_extent t) ≡ b → place t i ≡ i
  own_place i lt false h = ap (λ b. cond b 0 i) h
  own_place i lt true h =
      let w = whole_of_one (not (is_empty t.broken)) (length t.rows == 1) h in
      let one : length t.rows ≡ 1 = eqb-true (length t.rows) 1 w.1 in
      let z : 0 ≡ i = omega arith in
      ap (λ b. cond b 0 i) h ∙ z

  own_shown : Shows t (columns_of t)
  own_shown =
      let l = own_length in
      record {
        few = omega arith;
        whole = λ e. (sym (ap (λ b. b || breaks_shape false (extents (columns_of t))) (any_ended (columns_of t))) ∙ own_ends ∙ ap (λ b. not (is_empty b)) e, sym l);
        rows = λ i lt.
            let p = own_place i lt (broadcasts false (table_extent t)) refl in
            let lt' : place t i < length t.rows = omega arith in
            clear_row i (columns_of t) (column_clear t (below (length t.schema))) ∙ ap (map value) (table_row t i wide lt' ∙ ap (λ n. get_or t.rows n []) p);
      }

pub inputs_show : InputsShow
inputs_show t wide some = own_shown t wide some
