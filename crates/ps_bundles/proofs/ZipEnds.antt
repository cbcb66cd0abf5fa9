-- The zip of tables that end as zips of columns ends as the zip of all these columns.
use Rattle.std.proofs.Common.{◌≡◌, ◌≢◌, ◌⊎◌, inl, inr, ℕ, zero, suc, ◌≤◌, ◌<◌, Bool, true, false, not, cond, List, [], ◌∷◌, ◌++◌, length, get_or, refl, sym, ap, subst, ◌∙◌, arith}
use Rattle.std.specs.Prelude.{IsTrue, map, flat_map, filter, ◌==◌, ◌&&◌, ◌||◌}
use Rattle.std.specs.List.{AllByRecursion, list_any}
use Rattle.std.proofs.lemmas.Bool.{cases_lt}
use Rattle.std.proofs.lemmas.Grind.{flat_map-append}
use Rattle.std.proofs.lemmas.List.{ext_get_or, length-map, map-append}
use Rattle.std.proofs.lemmas.List.Elements.{filter-append}
use Rattle.ps_frame.specs.Causes.{Cause, Column, value, cell_causes, cell_values, column_causes, is_empty, is_ended, whole_column}
use Rattle.ps_frame.specs.Tables.{Fields, Table, column_at, columns_of, no_rows, table_column, values_at}
use Rattle.ps_frame.specs.Zip.{Extent, below, breaks_shape, broadcasts, cell_in_row, ends_early, extent_of, extents, is_faulty_row, unseen_causes, zip_length, zipped}
use Rattle.ps_frame.specs.declared.value.DataFault.TheVariants as data_fault
use Rattle.ps_frame.specs.declared.value.Value.{Value}
use Rattle.ps_meaning.proofs.Begins.{append-empty_left, append-empty_right}
use Rattle.ps_meaning.specs.Cases.{all_columns, columns_at, lost_causes, out_schema, table_of}
use Rattle.ps_meaning.specs.Distinct.{picked}
use Rattle.ps_meaning.specs.Schemas.{names_of}
use Rattle.ps_meaning.specs.Shape.{mild_zip}
use Rattle.ps_meaning.specs.Steps.{exprs_of, select}
use Rattle.ps_rules.specs.Slots.{columns_named}
use Rattle.ps_shares.specs.Kept.{all_causes}
use Rattle.ps_shares.specs.Shares.{IsClear, IsShare, Reach, Share, Shows, ShowsAll, columns_shown, tables_of}
use Rattle.ps_shares.proofs.Below.{all_clear}
use Rattle.ps_shares.proofs.Causes.{Known, all_left, all_right, down_zip, up_zip}
use Rattle.ps_shares.proofs.ClearZips.{any_ended, mild_ends, no_causes}
use Rattle.ps_shares.proofs.FlatLength.{ends, moving, neither}
use Rattle.ps_shares.proofs.InputShares.{inputs_share}
use Rattle.ps_shares.proofs.KeySorts.{from, own_places, placed_columns}
use Rattle.ps_shares.proofs.Leaves.{least_all}
use Rattle.ps_shares.proofs.Shares.{rows_of_zip, zip_shows, zip_whole}
use Rattle.ps_shares.proofs.Stepped.{keyed_broken, keyed_rows, keyed_whole, those_at}
use Rattle.ps_shares.proofs.ZipReach.{columns_show_all, zips_reach}
use Rattle.ps_shares.proofs.ZipShares.{AtLeast, any, ended_moves, first_of, given_ends, given_extent, given_length, known_ends, known_extent, known_length, none_ended, row_count, zips_show}
use Rattle.ps_bundles.specs.Endings.{AllEnd, Ends, InputsEnd, SelectsEnd, ZipsEnd}

pub differ : true ≡ false → ⊥
differ h = cc

pub never_true : (b : Bool) → false ≡ true → b ≡ true
never_true b h = absurd (differ (sym h))

pub is_none : {A : Type 0} (xs : List A) → is_empty xs ≡ true → xs ≡ []
is_none [] h = refl
is_none (x ∷ xs) h = cc

pub is_some : {A : Type 0} (xs : List A) → is_empty xs ≡ false → xs ≢ []
is_some xs h e = differ (sym (ap is_empty e) ∙ h)

pub some_is : {A : Type 0} (xs : List A) → xs ≢ [] → is_empty xs ≡ false
some_is [] some = absurd (some refl)
some_is (x ∷ xs) some = refl

pub no_items : {A : Type 0} (xs : List A) → length xs ≤ 0 → xs ≡ []
no_items [] h = refl
no_items (x ∷ xs) h = absurd (omega arith)

none_by : (xs : List Cause) → AllByRecursion (λ (c : Cause). ⊥) xs → xs ≡ []
none_by [] h = refl
none_by (x ∷ xs) h = absurd h.0

-- a table without rows that something breaks, and a zip that is broken without rows or lost something
pub values_back : (vs : List Value) → cell_values (map value vs) ≡ vs
values_back [] = refl
values_back (v ∷ vs) = ap (λ ws. v ∷ ws) (values_back vs)

pub values_clear : (vs : List Value) → is_faulty_row (map value vs) ≡ false
values_clear vs = ap (λ cs. not (is_empty cs)) (no_causes vs)

-- Of two tables that show the same columns, one that reaches as far as it may isn't shorter.
reaches_further : (T U : Table) (cs : List Column) → Shows U cs → Reach (length T.rows) cs → length U.rows ≤ length T.rows
reaches_further T U cs shows (inl e) = let few = shows.few in omega arith
reaches_further T U cs shows (inr f) = by (cases_lt (length T.rows) (length U.rows))
  where
    by : (length T.rows < length U.rows) ⊎ (length U.rows ≤ length T.rows) → length U.rows ≤ length T.rows
    by (inr le) = le
    by (inl lt) = absurd (differ (sym f ∙ ap is_faulty_row (shows.rows (length T.rows) lt) ∙ values_clear (get_or U.rows (length T.rows) [])))

-- Two of one length have the same rows.
pub as_long : (T U : Table) (cs : List Column) → Shows T cs → Shows U cs → length T.rows ≡ length U.rows → T.rows ≡ U.rows
as_long T U cs p q e = ext_get_or [] T.rows U.rows e (λ i lt. row i lt (omega arith))
  where
    row : (i : ℕ) → i < length T.rows → i < length U.rows → get_or T.rows i [] ≡ get_or U.rows i []
    row i lt lt' = sym (values_back (get_or T.rows i [])) ∙ ap cell_values (sym (p.rows i lt) ∙ q.rows i lt') ∙ values_back (get_or U.rows i [])

-- So have two that reach as far as they may.
pub same_rows : (T U : Table) (cs : List Column) → Shows T cs → Shows U cs → Reach (length T.rows) cs → Reach (length U.rows) cs → T.rows ≡ U.rows
same_rows T U cs p q r u =
    let a = reaches_further T U cs q r in
    let b = reaches_further U T cs p u in
    as_long T U cs p q (omega arith)

-- the table of a zip
abbrev pub zip_table : ℕ → List Column → Table
zip_table at cs = table_of [] (λ rows. rows) (zipped false at cs)

pub zip_table_shows : (at : ℕ) (cs : List Column) → Shows (zip_table at cs) cs
zip_table_shows at cs = zip_shows at cs (zip_table at cs) refl refl

-- A table that shows columns and reaches as far as it may has the rows of their zip.
pub rows_of_reach : (at : ℕ) (T : Table) (cs : List Column) → Shows T cs → Reach (length T.rows) cs → T.rows ≡ (zipped false at cs).rows
rows_of_reach at T cs shows reach = same_rows T (zip_table at cs) cs shows (zip_table_shows at cs) reach (columns_show_all at [] cs).reach

-- where the zip is whole, nothing ends it, and it has all rows
pub whole_is : (at : ℕ) (cs : List Column) → (zipped false at cs).broken ≡ [] → (ends_early false cs ≡ false) × (length (zipped false at cs).rows ≡ zip_length false (extents cs))
whole_is at cs e = zip_whole at cs (ends_early false cs) (list_any is_faulty_row (rows_of_zip at cs)) refl refl e

-- columns without what they lost
abbrev bare : Column → Column
bare c = record { cells = c.cells; broken = c.broken; lost = [] }

abbrev bared : List Column → List Column
bared cs = map bare cs

abbrev pub lost_in : List Column → List Cause
lost_in cs = flat_map (λ (c : Column). c.lost) cs

bare_extents : (cs : List Column) → extents (bared cs) ≡ extents cs
bare_extents [] = refl
bare_extents (c ∷ cs) = ap (λ es. extent_of c ∷ es) (bare_extents cs)

bare_row : (i : ℕ) (cs : List Column) → map (cell_in_row false i) (bared cs) ≡ map (cell_in_row false i) cs
bare_row i [] = refl
bare_row i (c ∷ cs) = ap (λ xs. cell_in_row false i c ∷ xs) (bare_row i cs)

bare_causes : (cs : List Column) → flat_map column_causes (bared cs) ≡ flat_map column_causes cs
bare_causes [] = refl
bare_causes (c ∷ cs) = ap (λ xs. column_causes c ++ xs) (bare_causes cs)

bare_ended : (cs : List Column) → list_any is_ended (bared cs) ≡ list_any is_ended cs
bare_ended [] = refl
bare_ended (c ∷ cs) = ap (λ b. is_ended c || b) (bare_ended cs)

bare_lost : (cs : List Column) → lost_in (bared cs) ≡ []
bare_lost [] = refl
bare_lost (c ∷ cs) = bare_lost cs

abbrev seen_if : Column → List Column → Bool → List Cause
seen_if c cs b = flat_map (λ (c : Column). flat_map cell_causes c.cells) (cond b (c ∷ filter (λ c. broadcasts false (extent_of c)) cs) (filter (λ c. broadcasts false (extent_of c)) cs))

bare_unseen : (n : ℕ) (cs : List Column) → unseen_causes false n (bared cs) ≡ unseen_causes false n cs
bare_unseen (suc n) cs = refl
bare_unseen zero [] = refl
bare_unseen zero (c ∷ cs) = by (broadcasts false (extent_of c)) (bare_unseen zero cs)
  where
    by : (b : Bool) → unseen_causes false 0 (bared cs) ≡ unseen_causes false 0 cs → seen_if (bare c) (bared cs) b ≡ seen_if c cs b
    by true e = ap (λ xs. flat_map cell_causes c.cells ++ xs) e
    by false e = e

module _ (at : ℕ) (cs : List Column) where
  bare_broken : (zipped false at (bared cs)).broken ≡ (zipped false at cs).broken
  bare_broken = λ i.
      cond ((bare_ended cs i || breaks_shape false (bare_extents cs i)) || list_any is_faulty_row (map (λ j. bare_row j cs i) (below (zip_length false (bare_extents cs i)))))
      (bare_causes cs i ++ cond {A = List Cause} (breaks_shape false (bare_extents cs i)) (record { fault = data_fault.Shape; node = at } ∷ []) []) []

  -- Where nothing breaks a zip, and no faulty cell is broadcast over no rows, no column has a cause.
  clean : (zipped false at cs).broken ≡ [] → unseen_causes false (zip_length false (extents cs)) cs ≡ [] → AllByRecursion (Known (λ (c : Cause). ⊥)) (bared cs)
  clean whole seen =
      let u : unseen_causes false (zip_length false (extents (bared cs))) (bared cs) ≡ [] = ap (λ es. unseen_causes false (zip_length false es) (bared cs)) (bare_extents cs) ∙ bare_unseen (zip_length false (extents cs)) cs ∙ seen in
      let b = bare_broken ∙ whole in
      let l = bare_lost cs in
      let none : all_causes (zipped false at (bared cs)) ≡ [] = λ i. b i ++ (l i ++ u i) in
      down_zip (λ (c : Cause). ⊥) at (bared cs) (subst (AllByRecursion (λ (c : Cause). ⊥)) (sym none) tt)

  -- and columns without causes whose lengths agree make a whole zip
  clean_whole : AllByRecursion (Known (λ (c : Cause). ⊥)) (bared cs) → breaks_shape false (extents cs) ≡ false → (zipped false at cs).broken ≡ []
  clean_whole all fits =
      let k = up_zip (λ (c : Cause). ⊥) at (bared cs) all (ap (breaks_shape false) (bare_extents cs) ∙ fits) in
      sym bare_broken ∙ none_by (zipped false at (bared cs)).broken (all_left (λ (c : Cause). ⊥) (zipped false at (bared cs)).broken (zipped false at (bared cs)).lost k)

-- a share that ends as its columns do without more, and one that is ended by what these lost
abbrev pub Plain : ℕ → Share → Type 0
Plain at h = (h.from.rows ≡ (zipped false at h.columns).rows) × (is_empty h.from.broken ≡ is_empty (zipped false at h.columns).broken)

abbrev Loses : ℕ → Share → Type 0
Loses at h = (h.from.rows ≡ []) × (h.from.broken ≢ []) × ((zipped false at h.columns).lost ≢ [])

abbrev SomeLoses : ℕ → List Share → Type 0
SomeLoses at [] = ⊥
SomeLoses at (h ∷ hs) = Loses at h ⊎ SomeLoses at hs

module _ (at : ℕ) where
  plain_or : (hs : List Share) → AllEnd at hs → AllByRecursion (Plain at) hs ⊎ SomeLoses at hs
  plain_or [] all = inl tt
  plain_or (h ∷ hs) all = by all.0 (plain_or hs all.1)
    where
      by : Ends at h.from h.columns → AllByRecursion (Plain at) hs ⊎ SomeLoses at hs → AllByRecursion (Plain at) (h ∷ hs) ⊎ SomeLoses at (h ∷ hs)
      by (inl p) (inl rest) = inl (p, rest)
      by (inr l) rest = inr (inl l)
      by (inl p) (inr rest) = inr (inr rest)

  shows_all : (h : Share) → Plain at h → ShowsAll h.from h.columns
  shows_all h p =
      let own = columns_show_all at [] h.columns in
      record {
        reach = subst (λ rows. Reach (length rows) h.columns) (sym p.0) own.reach;
        whole = λ e l. is_none h.from.broken (p.1 ∙ ap is_empty (own.whole e (sym (ap length p.0) ∙ l)));
      }

  all_show : (hs : List Share) → AllByRecursion (Plain at) hs → AllByRecursion (λ (h : Share). ShowsAll h.from h.columns) hs
  all_show [] all = tt
  all_show (h ∷ hs) all = (shows_all h all.0, all_show hs all.1)

  -- where no column has a cause, no table is broken
  none_breaks : (hs : List Share) → AllByRecursion (Plain at) hs → AllByRecursion (Known (λ (c : Cause). ⊥)) (bared (columns_shown hs)) → any (map known_extent hs) ≡ false → any (map given_extent hs) ≡ false
  none_breaks [] all pure whole = refl
  none_breaks (h ∷ hs) all pure whole =
      let k = subst (AllByRecursion (Known (λ (c : Cause). ⊥))) (map-append bare h.columns (columns_shown hs)) pure in
      let n = neither (ends (extents h.columns)) (any (map known_extent hs)) whole in
      let w = clean_whole at h.columns (all_left (Known (λ (c : Cause). ⊥)) (bared h.columns) (bared (columns_shown hs)) k) (neither (list_any (λ (e : Extent). e.ended) (extents h.columns)) (breaks_shape false (extents h.columns)) n.0).1 in
      let a = ap not (all.0.1 ∙ ap is_empty w) in
      let b = none_breaks hs all.1 (all_right (Known (λ (c : Cause). ⊥)) (bared h.columns) (bared (columns_shown hs)) k) n.1 in
      λ i. a i || b i

  -- a share that is ended before its first row ends the zip there
  loses_rows : (hs : List Share) → SomeLoses at hs → (b : ℕ) → AtLeast b (map given_extent hs) → b ≤ 0
  loses_rows [] some b far = absurd some
  loses_rows (h ∷ hs) (inl l) b far =
      let f = first_of b (given_extent h) (map given_extent hs) false (ended_moves (given_extent h) (ap not (some_is h.from.broken l.1))) far in
      let le = f.0 refl in
      let none = ap length l.0 in
      omega arith
  loses_rows (h ∷ hs) (inr l) b far = loses_rows hs l b (first_of b (given_extent h) (map given_extent hs) (broadcasts false (given_extent h)) refl far).1

  loses_breaks : (hs : List Share) → SomeLoses at hs → any (map given_extent hs) ≡ true
  loses_breaks [] some = absurd some
  loses_breaks (h ∷ hs) (inl l) = ap (λ b. not b || any (map given_extent hs)) (some_is h.from.broken l.1)
  loses_breaks (h ∷ hs) (inr l) = last (not (is_empty h.from.broken)) (loses_breaks hs l)
    where
      last : (b : Bool) → any (map given_extent hs) ≡ true → (b || any (map given_extent hs)) ≡ true
      last true e = refl
      last false e = e

-- what two lists of columns lost
pub lost_append : (cs ds : List Column) → lost_in (cs ++ ds) ≡ lost_in cs ++ lost_in ds
lost_append cs ds = flat_map-append (λ (c : Column). c.lost) cs ds

pub unseen_append : (cs ds : List Column) → unseen_causes false 0 (cs ++ ds) ≡ unseen_causes false 0 cs ++ unseen_causes false 0 ds
unseen_append cs ds =
    ap (flat_map (λ (c : Column). flat_map cell_causes c.cells)) (filter-append (λ c. broadcasts false (extent_of c)) cs ds)
    ∙ flat_map-append (λ (c : Column). flat_map cell_causes c.cells) (filter (λ c. broadcasts false (extent_of c)) cs) (filter (λ c. broadcasts false (extent_of c)) ds)

-- A zip loses what its columns lost, and what is broadcast over no rows.
abbrev pub LosesSome : List Column → (n : ℕ) → Type 0
LosesSome cs n = (lost_in cs ≢ []) ⊎ ((unseen_causes false 0 cs ≢ []) × (n ≡ 0))

pub some_lost : (at : ℕ) (cs : List Column) → LosesSome cs (zip_length false (extents cs)) → (zipped false at cs).lost ≢ []
some_lost at cs (inl some) e = some (append-empty_left (lost_in cs) (unseen_causes false (zip_length false (extents cs)) cs) e)
some_lost at cs (inr (some, none)) e = some (subst (λ n. unseen_causes false n cs ≡ []) none (append-empty_right (lost_in cs) (unseen_causes false (zip_length false (extents cs)) cs) e))

pub lost_some : (at : ℕ) (cs : List Column) → (zipped false at cs).lost ≢ [] → LosesSome cs (zip_length false (extents cs))
lost_some at cs some = by (lost_in cs) refl (zip_length false (extents cs)) refl
  where
    by : (xs : List Cause) → lost_in cs ≡ xs → (n : ℕ) → zip_length false (extents cs) ≡ n → LosesSome cs (zip_length false (extents cs))
    by (x ∷ xs) q n m = inl (λ e. let w : x ∷ xs ≡ [] = sym q ∙ e in cc)
    by [] q zero m = inr ((λ e. some (λ i. q i ++ (ap (λ n. unseen_causes false n cs) m ∙ e) i)), m)
    by [] q (suc n) m = absurd (some (λ i. q i ++ unseen_causes false (m i) cs))

and_false : (b : Bool) → (b && false) ≡ false
and_false true = refl
and_false false = refl

module _ (at : ℕ) where
  loses_lost : (hs : List Share) → SomeLoses at hs → (lost_in (columns_shown hs) ≢ []) ⊎ ((unseen_causes false 0 (columns_shown hs) ≢ []) × ((b : ℕ) → AtLeast b (map known_extent hs) → b ≤ 0))
  loses_lost [] some = absurd some
  loses_lost (h ∷ hs) (inl l) = by (lost_some at h.columns l.2)
    where
      by : LosesSome h.columns (zip_length false (extents h.columns)) → (lost_in (columns_shown (h ∷ hs)) ≢ []) ⊎ ((unseen_causes false 0 (columns_shown (h ∷ hs)) ≢ []) × ((b : ℕ) → AtLeast b (map known_extent (h ∷ hs)) → b ≤ 0))
      by (inl some) = inl (λ e. some (append-empty_left (lost_in h.columns) (lost_in (columns_shown hs)) (sym (lost_append h.columns (columns_shown hs)) ∙ e)))
      by (inr (some, none)) = inr (
        (λ e. some (append-empty_left (unseen_causes false 0 h.columns) (unseen_causes false 0 (columns_shown hs)) (sym (unseen_append h.columns (columns_shown hs)) ∙ e))),
        (λ b far.
            let still : broadcasts false (known_extent h) ≡ false = ap (λ n. not (ends (extents h.columns)) && (n == 1)) none ∙ and_false (not (ends (extents h.columns))) in
            let f = first_of b (known_extent h) (map known_extent hs) false still far in
            let le = f.0 refl in
            let z = none in
            omega arith),
      )
  loses_lost (h ∷ hs) (inr l) = by (loses_lost hs l)
    where
      by : (lost_in (columns_shown hs) ≢ []) ⊎ ((unseen_causes false 0 (columns_shown hs) ≢ []) × ((b : ℕ) → AtLeast b (map known_extent hs) → b ≤ 0))
          → (lost_in (columns_shown (h ∷ hs)) ≢ []) ⊎ ((unseen_causes false 0 (columns_shown (h ∷ hs)) ≢ []) × ((b : ℕ) → AtLeast b (map known_extent (h ∷ hs)) → b ≤ 0))
      by (inl some) = inl (λ e. some (append-empty_right (lost_in h.columns) (lost_in (columns_shown hs)) (sym (lost_append h.columns (columns_shown hs)) ∙ e)))
      by (inr (some, none)) = inr (
        (λ e. some (append-empty_right (unseen_causes false 0 h.columns) (unseen_causes false 0 (columns_shown hs)) (sym (unseen_append h.columns (columns_shown hs)) ∙ e))),
        (λ b far. none b (first_of b (known_extent h) (map known_extent hs) (broadcasts false (known_extent h)) refl far).1),
      )

-- the columns of tables are clear
pub columns_clear : (t : Table) (ns : List ℕ) → AllByRecursion IsClear (map (λ j. column_at j t) ns)
columns_clear t [] = tt
columns_clear t (n ∷ ns) = (((values_at n t.rows, refl), refl), columns_clear t ns)

pub all_columns_clear : (ts : List Table) → AllByRecursion IsClear (all_columns ts)
all_columns_clear [] = tt
all_columns_clear (t ∷ ts) = all_clear (columns_of t) (all_columns ts) (columns_clear t (below (length t.schema))) (all_columns_clear ts)

module _ (at : ℕ) (s : Fields) (hs : List Share) (shares : AllByRecursion IsShare hs) where
  abbrev inputs : List Column
  inputs = all_columns (tables_of hs)

  abbrev z : Table
  z = table_of s (λ rows. rows) (mild_zip at inputs)

  abbrev cs : List Column
  cs = columns_shown hs

  abbrev n : ℕ
  n = zip_length false (extents cs)

  broken_as : not (is_empty z.broken) ≡ ends (map given_extent hs)
  broken_as = mild_ends at inputs (all_columns_clear (tables_of hs)) ∙ given_ends at s hs shares

  -- some share is ended by what its columns lost
  ended : SomeLoses at hs → Ends at z cs
  ended some =
      let b = zip_length false (map given_extent hs) in
      let le = loses_rows at hs some b (least_all b 1 (moving (map given_extent hs)) (omega arith)) in
      let count = row_count at s hs shares in
      let given = given_length at s hs shares in
      let breaks = broken_as ∙ ap (λ b. b || breaks_shape false (map given_extent hs)) (loses_breaks at hs some) in
      inr (no_items z.rows (omega arith), (λ e. differ (sym breaks ∙ ap (λ xs. not (is_empty xs)) e)), some_lost at cs (by (loses_lost at hs some)))
    where
      by : (lost_in cs ≢ []) ⊎ ((unseen_causes false 0 cs ≢ []) × ((b : ℕ) → AtLeast b (map known_extent hs) → b ≤ 0)) → LosesSome cs n
      by (inl l) = inl l
      by (inr (l, none)) =
          let b = zip_length false (map known_extent hs) in
          let le = none b (least_all b 1 (moving (map known_extent hs)) (omega arith)) in
          let known = known_length at s hs shares in
          inr (l, omega arith)

  module _ (plain : AllByRecursion (Plain at) hs) where
    shows : Shows z cs
    shows = zips_show at s hs shares

    rows : z.rows ≡ (zipped false at cs).rows
    rows = rows_of_reach at z cs shows (zips_reach at s hs shares (all_show at hs plain))

    -- no column has a cause: no table is broken, and so the zip is none
    never : is_empty z.broken ≡ false → (zipped false at cs).broken ≡ [] → unseen_causes false n cs ≡ [] → ⊥
    never broken whole seen =
        let known : ends (map known_extent hs) ≡ false = sym (known_ends at s hs shares) ∙ ap (λ b. b || breaks_shape false (extents cs)) (any_ended cs) ∙ (whole_is at cs whole).0 in
        let none = none_breaks at hs plain (clean at cs whole seen) (neither (any (map known_extent hs)) (breaks_shape false (map known_extent hs)) known).0 in
        let e = none_ended hs shares none in
        differ (sym (ap not broken) ∙ broken_as ∙ ap ends e ∙ known)

    by : (a b : Bool) → is_empty z.broken ≡ a → is_empty (zipped false at cs).broken ≡ b → Ends at z cs
    by true true p q = inl (rows, p ∙ sym q)
    by false false p q = inl (rows, p ∙ sym q)
    by true false p q =
        let w = shows.whole (is_none z.broken p) in
        absurd (differ (sym (ap is_empty ((columns_show_all at [] cs).whole w.0 (sym (ap length rows) ∙ w.1))) ∙ q))
    by false true p q = over (unseen_causes false n cs) refl n refl
      where
        whole : (zipped false at cs).broken ≡ []
        whole = is_none (zipped false at cs).broken q

        over : (xs : List Cause) → unseen_causes false n cs ≡ xs → (k : ℕ) → n ≡ k → Ends at z cs
        over [] e k m = absurd (never p whole e)
        over (x ∷ xs) e (suc k) m = let w : x ∷ xs ≡ [] = sym e ∙ ap (λ n. unseen_causes false n cs) m in cc
        over (x ∷ xs) e zero m =
            let few = shows.few in
            inr (no_items z.rows (omega arith), is_some z.broken p, some_lost at cs (inr ((λ none. let w : x ∷ xs ≡ [] = sym e ∙ ap (λ n. unseen_causes false n cs) m ∙ none in cc), m)))

    ends_plain : Ends at z cs
    ends_plain = by (is_empty z.broken) (is_empty (zipped false at cs).broken) refl refl

pub zips_end : ZipsEnd
zips_end at s hs shares all = by (plain_or at hs all)
  where
    by : AllByRecursion (Plain at) hs ⊎ SomeLoses at hs → Ends at (table_of s (λ rows. rows) (mild_zip at (all_columns (tables_of hs)))) (columns_shown hs)
    by (inl plain) = ends_plain at s hs shares plain
    by (inr some) = ended at s hs shares some

-- what a select gives
pub selects_end : SelectsEnd
selects_end F at es t T (U, inl g, e) =
    let k : T ≡ table_of (out_schema F at (select es) (t ∷ [])) (λ rows. rows) (zipped false at (columns_at at (exprs_of es) t)) = e ∙ g in
    inl (ap (λ (T : Table). T.rows) k, ap (λ (T : Table). is_empty T.broken) k)
selects_end F at es t T (U, inr (V, g, some, u), e) =
    let k : T ≡ no_rows V.schema (lost_causes F at (select es) (t ∷ []) V.rows) = e ∙ u in
    inr (ap (λ (T : Table). T.rows) k, (λ none. some (sym (ap (λ (T : Table). T.broken) k) ∙ none)), some)

-- A table ends as its own columns.
pub own_columns : (at : ℕ) (t : Table) (j : ℕ) (js : List ℕ) → Shows t (those_at at t (j ∷ js)) → Plain at (record { from = t; columns = those_at at t (j ∷ js) })
own_columns at t j js shows = (as_long t (zip_table at cs) cs shows (zip_table_shows at cs) (sym (ap length (keyed_rows at t j js) ∙ length-map t.rows (picked (j ∷ js)))), by (is_empty t.broken) (is_empty z) refl refl)
  where
    cs : List Column
    cs = those_at at t (j ∷ js)

    z : List Cause
    z = (zipped false at cs).broken

    by : (a b : Bool) → is_empty t.broken ≡ a → is_empty z ≡ b → is_empty t.broken ≡ is_empty z
    by true true p q = p ∙ sym q
    by false false p q = p ∙ sym q
    by true false p q = absurd (differ (sym (ap is_empty (keyed_whole at t j js (is_none t.broken p))) ∙ q))
    by false true p q = absurd (differ (sym (ap is_empty (keyed_broken at t j js (is_none z q))) ∙ p))

pub inputs_end : InputsEnd
inputs_end at t some distinct wide = by t.schema refl
  where
    cs : List Column
    cs = columns_at at (columns_named (names_of t.schema)) t

    share : IsShare (record { from = t; columns = cs })
    share = (inputs_share at (λ n. false) (λ n. whole_column []) t some distinct wide (unread t.schema)).0
      where
        unread : (s : Fields) → AllByRecursion (λ n. IsTrue false → table_column n t ≡ whole_column []) (names_of s)
        unread [] = tt
        unread (f ∷ s) = ((λ (h : IsTrue false). absurd (differ (sym h))), unread s)

    placed : cs ≡ those_at at t (from 0 t.schema)
    placed = placed_columns at t t.schema 0 (own_places t.schema distinct)

    by : (s : Fields) → t.schema ≡ s → Ends at t cs
    by [] e = absurd (some e)
    by (f ∷ s) e =
        let p : cs ≡ those_at at t (0 ∷ from 1 s) = placed ∙ ap (λ s. those_at at t (from 0 s)) e in
        subst (Ends at t) (sym p) (inl (own_columns at t 0 (from 1 s) (subst (Shows t) p share.shows)))
