-- The columns of a table that shows columns, name by name.
use Rattle.std.proofs.Common.{◌≡◌, ◌⊎◌, inl, inr, ℕ, zero, suc, ◌≤◌, ◌<◌, Bool, true, false, not, cond, List, [], ◌∷◌, ◌++◌, length, get_or, refl, sym, ap, subst, ◌∙◌, arith}
use Rattle.std.specs.Prelude.{Contains, IsTrue, map, ◌==◌, ◌&&◌, ◌||◌}
use Rattle.std.specs.List.{AllByRecursion, list_any}
use Rattle.std.proofs.Math.ListN.{get_or-map as get_or-map_default}
use Rattle.std.proofs.lemmas.Bool.{eqb-true}
use Rattle.std.proofs.lemmas.List.{get_or-map, length-map, map-append}
use Rattle.std.proofs.lemmas.Option.{get_or_from_slice_get, slice_get_within}
use Rattle.ps_frame.specs.Causes.{Cause, Column, value, is_empty, whole_column}
use Rattle.ps_frame.specs.Eval.{eval, literal_value}
use Rattle.ps_frame.specs.Tables.{Table, field_index, table_column, values_at, values_at_some}
use Rattle.ps_frame.specs.Trees.{Tree}
use Rattle.ps_frame.specs.Typing.{goes_by_cell, is_elementwise, is_independent}
use Rattle.ps_frame.specs.Zip.{Extent, breaks_shape, broadcasts, cell_in_row, extent_of, extents, zip_length, zipped}
use Rattle.ps_frame.specs.declared.value.Value.{Value}
use Rattle.ps_frame.specs.declared.value.Value.TheVariants as val
use Rattle.ps_meaning.specs.Cases.{all_columns, columns_at, table_of}
use Rattle.ps_meaning.specs.Shape.{mild_zip}
use Rattle.ps_meaning.specs.Steps.{Name, Named}
use Rattle.ps_shares.specs.Kept.{IsPartOf}
use Rattle.ps_shares.specs.Leaves.{AreLeavesWithin, AtLeaves, Naming, all_leaves, eval_with, extent_as_zip, leaves, put_back, stands_for}
use Rattle.ps_shares.specs.CallLaws.{AreRead, CallsKeepRows, IsShownAs, NamesShow, is_end}
use Rattle.ps_shares.specs.Shares.{Shows, columns_shown, tables_of}
use Rattle.ps_shares.proofs.ClearZips.{any_ended}
use Rattle.ps_shares.proofs.FlatLength.{both_hold, whole_of_one}
use Rattle.ps_shares.proofs.ByLeaves.{stay_within}
use Rattle.ps_shares.proofs.Leaves.{one_extent, puts_back, reads_columns}
use Rattle.ps_shares.proofs.ZipShares.{zips_show}
use Rattle.ps_shares.proofs.Members.{Has, from_has, members_decide, to_has}

has_cases : {A : Type 0} (xs ys : List A) (a : A) → Has (xs ++ ys) a → Has xs a ⊎ Has ys a
has_cases [] ys a h = inr h
has_cases (x ∷ xs) ys a (inl k) = inl (inl k)
has_cases (x ∷ xs) ys a (inr k) = by (has_cases xs ys a k)
  where
    by : Has xs a ⊎ Has ys a → ((x ≡ a) ⊎ Has xs a) ⊎ Has ys a
    by (inl h) = inl (inr h)
    by (inr h) = inr h

has_left : {A : Type 0} (xs ys : List A) (a : A) → Has xs a → Has (xs ++ ys) a
has_left [] ys a h = absurd h
has_left (x ∷ xs) ys a (inl k) = inl k
has_left (x ∷ xs) ys a (inr k) = inr (has_left xs ys a k)

has_right : {A : Type 0} (xs ys : List A) (a : A) → Has ys a → Has (xs ++ ys) a
has_right [] ys a h = h
has_right (x ∷ xs) ys a h = inr (has_right xs ys a h)

-- what holds of what counts among extents of columns
abbrev pub Each : (Extent → Type 0) → List Column → Type 0
Each P cs = (e : Extent) → broadcasts false e ≡ false → Has (extents cs) e → P e

each_none : (P : Extent → Type 0) → Each P []
each_none P e s h = absurd h

each_append : (P : Extent → Type 0) (cs ds : List Column) → Each P cs → Each P ds → Each P (cs ++ ds)
each_append P cs ds p q e s h = by (has_cases (extents cs) (extents ds) e (subst (λ es. Has es e) (map-append extent_of cs ds) h))
  where
    by : Has (extents cs) e ⊎ Has (extents ds) e → P e
    by (inl k) = p e s k
    by (inr k) = q e s k

each_one : (P : Extent → Type 0) (c : Column) → P (extent_of c) → Each P (c ∷ [])
each_one P c p e s (inl k) = subst P k p
each_one P c p e s (inr k) = absurd k

each_literal : (P : Extent → Type 0) (v : Value) → Each P (whole_column (v ∷ []) ∷ [])
each_literal P v e s (inl k) = let w : true ≡ false = ap (broadcasts false) k ∙ s in cc
each_literal P v e s (inr k) = absurd k

has_at : (cs : List Column) (j : ℕ) (c : Column) → j < length cs → get_or cs j c ≡ c → Has (extents cs) (extent_of c)
has_at [] j c lt e = absurd (omega arith)
has_at (d ∷ cs) zero c lt e = inl (ap extent_of e)
has_at (d ∷ cs) (suc j) c lt e = let lt' : j < length cs = omega arith in inr (has_at cs j c lt' e)

column_with : (cs : List Column) (e : Extent) → Has (extents cs) e → (c : Column) × Has cs c × (extent_of c ≡ e)
column_with [] e h = absurd h
column_with (c ∷ cs) e (inl k) = (c, inl refl, k)
column_with (c ∷ cs) e (inr k) = let r = column_with cs e k in (r.0, inr r.1, r.2)

-- what counts among the leaves of expressions, from what counts at each name
module _ (P : Extent → Type 0) (env : Naming) (N : Name → Type 0) (one : (n : Name) → N n → P (extent_of (env n))) where
  pub each_leaf : (e : Tree) → IsTrue (is_elementwise e) → AtLeaves N e → Each P (leaves env e)
  each_leaf (Tree.column name) h at = each_one P (env name) (one name at)
  each_leaf (Tree.literal l) h at = each_literal P (literal_value l)
  each_leaf (Tree.binary o l r) h at =
      let b = both_hold (is_elementwise l) (is_elementwise r) h in
      each_append P (leaves env l) (leaves env r ++ []) (each_leaf l b.0 at.0) (each_append P (leaves env r) [] (each_leaf r b.1 at.1) (each_none P))
  each_leaf (Tree.cast k strict e) h at = each_append P (leaves env e) [] (each_leaf e h at) (each_none P)
  each_leaf (Tree.ternary p a b) h at =
      let x = both_hold (is_elementwise p) (is_elementwise a && is_elementwise b) h in
      let y = both_hold (is_elementwise a) (is_elementwise b) x.1 in
      each_append P (leaves env p) (leaves env a ++ (leaves env b ++ [])) (each_leaf p x.0 at.0) (each_append P (leaves env a) (leaves env b ++ []) (each_leaf a y.0 at.1) (each_append P (leaves env b) [] (each_leaf b y.1 at.2) (each_none P)))
  each_leaf (Tree.function g e) h at = each_append P (leaves env e) [] (each_leaf e (both_hold (goes_by_cell g) (is_elementwise e) h).1 at) (each_none P)
  each_leaf (Tree.sort d n e) h at = cc
  each_leaf (Tree.sort_by d n e by) h at = cc
  each_leaf (Tree.gather s e i) h at = cc
  each_leaf (Tree.filter e by) h at = cc
  each_leaf (Tree.aggregate a e) h at = cc
  each_leaf (Tree.slice e o l) h at = cc
  each_leaf Tree.len h at = cc
  each_leaf (Tree.left_out w) h at = cc
  each_leaf Tree.missing h at = cc

  pub each_of_all : (es : List Tree) → AllByRecursion (λ e. IsTrue (is_elementwise e)) es → AllByRecursion (AtLeaves N) es → Each P (all_leaves env es)
  each_of_all [] all at = each_none P
  each_of_all (e ∷ es) all at = each_append P (leaves env e) (all_leaves env es) (each_leaf e all.0 at.0) (each_of_all es all.1 at.1)

pub or_cases : (a b : Bool) → (a && b) ≡ false → (a ≡ false) ⊎ (b ≡ false)
or_cases false b h = inl refl
or_cases true b h = inr h

-- an expression that isn't independent of its input reads a name
module _ (env : Naming) (x : Extent) (N : Name → Type 0) (one : (n : Name) → N n → extent_of (env n) ≡ x) where
  onto_left : (cs ds : List Column) → Has (extents cs) x → Has (extents (cs ++ ds)) x
  onto_left cs ds h = subst (λ es. Has es x) (sym (map-append extent_of cs ds)) (has_left (extents cs) (extents ds) x h)

  onto_right : (cs ds : List Column) → Has (extents ds) x → Has (extents (cs ++ ds)) x
  onto_right cs ds h = subst (λ es. Has es x) (sym (map-append extent_of cs ds)) (has_right (extents cs) (extents ds) x h)

  pub some_leaf : (e : Tree) → IsTrue (is_elementwise e) → AtLeaves N e → is_independent e ≡ false → Has (extents (leaves env e)) x
  some_leaf (Tree.column name) h at i = inl (one name at)
  some_leaf (Tree.literal l) h at i = cc
  some_leaf (Tree.binary o l r) h at i =
      let b = both_hold (is_elementwise l) (is_elementwise r) h in
      let L = some_leaf l b.0 at.0 in
      let R = some_leaf r b.1 at.1 in
      by L R (or_cases (is_independent l) (is_independent r) i)
    where
      by : (is_independent l ≡ false → Has (extents (leaves env l)) x) → (is_independent r ≡ false → Has (extents (leaves env r)) x) → (is_independent l ≡ false) ⊎ (is_independent r ≡ false) → Has (extents (leaves env l ++ (leaves env r ++ []))) x
      by L R (inl k) = onto_left (leaves env l) (leaves env r ++ []) (L k)
      by L R (inr k) = onto_right (leaves env l) (leaves env r ++ []) (onto_left (leaves env r) [] (R k))
  some_leaf (Tree.cast k strict e) h at i = onto_left (leaves env e) [] (some_leaf e h at i)
  some_leaf (Tree.ternary p a b) h at i =
      let u = both_hold (is_elementwise p) (is_elementwise a && is_elementwise b) h in
      let v = both_hold (is_elementwise a) (is_elementwise b) u.1 in
      by (some_leaf p u.0 at.0) (some_leaf a v.0 at.1) (some_leaf b v.1 at.2) (or_cases (is_independent p) (is_independent a && is_independent b) i)
    where
      by : (is_independent p ≡ false → Has (extents (leaves env p)) x) → (is_independent a ≡ false → Has (extents (leaves env a)) x) → (is_independent b ≡ false → Has (extents (leaves env b)) x)
          → (is_independent p ≡ false) ⊎ ((is_independent a && is_independent b) ≡ false) → Has (extents (leaves env p ++ (leaves env a ++ (leaves env b ++ [])))) x
      by P A B (inl k) = onto_left (leaves env p) (leaves env a ++ (leaves env b ++ [])) (P k)
      by P A B (inr k) = onto_right (leaves env p) (leaves env a ++ (leaves env b ++ [])) (more (or_cases (is_independent a) (is_independent b) k))
        where
          more : (is_independent a ≡ false) ⊎ (is_independent b ≡ false) → Has (extents (leaves env a ++ (leaves env b ++ []))) x
          more (inl k) = onto_left (leaves env a) (leaves env b ++ []) (A k)
          more (inr k) = onto_right (leaves env a) (leaves env b ++ []) (onto_left (leaves env b) [] (B k))
  some_leaf (Tree.function g e) h at i = onto_left (leaves env e) [] (some_leaf e (both_hold (goes_by_cell g) (is_elementwise e) h).1 at i)
  some_leaf (Tree.sort d n e) h at i = cc
  some_leaf (Tree.sort_by d n e by) h at i = cc
  some_leaf (Tree.gather s e k) h at i = cc
  some_leaf (Tree.filter e by) h at i = cc
  some_leaf (Tree.aggregate a e) h at i = cc
  some_leaf (Tree.slice e o l) h at i = cc
  some_leaf Tree.len h at i = cc
  some_leaf (Tree.left_out w) h at i = cc
  some_leaf Tree.missing h at i = cc

  pub some_of_all : (es : List Tree) → AllByRecursion (λ e. IsTrue (is_elementwise e)) es → AllByRecursion (AtLeaves N) es → list_any (λ e. not (is_independent e)) es ≡ true → Has (extents (all_leaves env es)) x
  some_of_all [] all at h = cc
  some_of_all (e ∷ es) all at h = by (is_independent e) refl (some_leaf e all.0 at.0) (some_of_all es all.1 at.1) h
    where
      by : (b : Bool) → is_independent e ≡ b → (is_independent e ≡ false → Has (extents (leaves env e)) x) → (list_any (λ e. not (is_independent e)) es ≡ true → Has (extents (all_leaves env es)) x)
          → (not (is_independent e) || list_any (λ e. not (is_independent e)) es) ≡ true → Has (extents (leaves env e ++ all_leaves env es)) x
      by false q L R h = onto_left (leaves env e) (all_leaves env es) (L q)
      by true q L R h = onto_right (leaves env e) (all_leaves env es) (R (sym (ap (λ b. not b || list_any (λ e. not (is_independent e)) es) q) ∙ h))

-- what holds at each name also does where it follows
module _ (M N : Name → Type 0) (f : (n : Name) → M n → N n) where
  pub at_leaf : (e : Tree) → AtLeaves M e → AtLeaves N e
  at_leaf (Tree.column name) h = f name h
  at_leaf (Tree.literal l) h = tt
  at_leaf (Tree.binary o l r) h = (at_leaf l h.0, at_leaf r h.1)
  at_leaf (Tree.cast k strict e) h = at_leaf e h
  at_leaf (Tree.ternary p a b) h = (at_leaf p h.0, at_leaf a h.1, at_leaf b h.2)
  at_leaf (Tree.function g e) h = at_leaf e h
  at_leaf (Tree.sort d n e) h = tt
  at_leaf (Tree.sort_by d n e by) h = tt
  at_leaf (Tree.gather s e i) h = tt
  at_leaf (Tree.filter e by) h = tt
  at_leaf (Tree.aggregate a e) h = tt
  at_leaf (Tree.slice e o l) h = tt
  at_leaf Tree.len h = tt
  at_leaf (Tree.left_out w) h = tt
  at_leaf Tree.missing h = tt

  pub at_all : (es : List Tree) → AllByRecursion (AtLeaves M) es → AllByRecursion (AtLeaves N) es
  at_all [] h = tt
  at_all (e ∷ es) h = (at_leaf e h.0, at_all es h.1)

abbrev pub table_extent : Table → Extent
table_extent t = record { ended = not (is_empty t.broken); len = length t.rows }

module _ (t : Table) (cs : List Column) (known : Naming) where
  abbrev given : Naming
  given n = table_column n t

  named_extent : (n : Name) → IsShownAs t cs known n → extent_of (given n) ≡ table_extent t
  named_extent n (j, i, k) =
      let l = ap (λ o. length (map value (values_at_some o t.rows))) i ∙ length-map (values_at j t.rows) value ∙ length-map t.rows (λ row. get_or row j val.Null) in
      λ x. record { ended = not (is_empty t.broken); len = l x }

  -- a cell of a named column
  named_cell : Shows t cs → (i : ℕ) → i < length t.rows → (n : Name) → IsShownAs t cs known n → cell_in_row false i (given n) ≡ cell_in_row false i (known n)
  named_cell shows i lt n (j, f, k) = by (broadcasts false (extent_of (given n))) refl ∙ there
    where
      row : List Value
      row = get_or t.rows i []

      there : value (get_or (get_or t.rows i []) j val.Null) ≡ cell_in_row false i (known n)
      there =
          sym (get_or-map_default value (get_or t.rows i []) j val.Null)
          ∙ ap (λ xs. get_or xs j (value val.Null)) (sym (shows.rows i lt))
          ∙ get_or-map (cell_in_row false i) cs j (known n) (value val.Null) (slice_get_within cs j (known n) k)
          ∙ ap (cell_in_row false i) (get_or_from_slice_get cs j (known n) (known n) k)

      at_place : (m : ℕ) → m ≡ i → get_or (map value (values_at_some (field_index n t.schema) t.rows)) m (value val.Null) ≡ value (get_or (get_or t.rows i []) j val.Null)
      at_place m e =
          ap (λ m. get_or (map value (values_at_some (field_index n t.schema) t.rows)) m (value val.Null)) e
          ∙ ap (λ o. get_or (map value (values_at_some o t.rows)) i (value val.Null)) f
          ∙ get_or-map_default value (values_at j t.rows) i val.Null
          ∙ ap value (get_or-map (λ row. get_or row j val.Null) t.rows i [] val.Null lt)

      by : (b : Bool) → broadcasts false (extent_of (given n)) ≡ b → cell_in_row false i (given n) ≡ value (get_or (get_or t.rows i []) j val.Null)
      by false h = ap (λ b. get_or (given n).cells (cond b 0 i) (value val.Null)) h ∙ at_place i refl
      by true h =
          let w = whole_of_one (not (is_empty t.broken)) (length t.rows == 1) (ap (broadcasts false) (sym (named_extent n (j, f, k))) ∙ h) in
          let one : length t.rows ≡ 1 = eqb-true (length t.rows) 1 w.1 in
          let z : 0 ≡ i = omega arith in
          ap (λ b. get_or (given n).cells (cond b 0 i) (value val.Null)) h ∙ at_place 0 z

module _ (t : Table) (cs : List Column) (known : Naming) (es : List Tree) (all : AllByRecursion (λ e. IsTrue (is_elementwise e)) es) (shows : Shows t cs) (read : AreRead t cs known es) where
  abbrev columns : Naming
  columns n = table_column n t

  abbrev x : Extent
  x = table_extent t

  single : (e : Extent) → Has (x ∷ []) e → x ≡ e
  single e (inl k) = k
  single e (inr k) = absurd k

  -- the leaves over the table are as long as the table
  given_as : (zip_length false (extents (all_leaves columns es)) ≡ zip_length false (x ∷ [])) × (is_end (extents (all_leaves columns es)) ≡ is_end (x ∷ []))
  given_as =
      let each = each_of_all (λ e. x ≡ e) columns (IsShownAs t cs known) (λ n h. sym (named_extent t cs known n h)) es all read.shown in
      let some = some_of_all columns x (IsShownAs t cs known) (named_extent t cs known) es all read.shown read.some in
      members_decide (extents (all_leaves columns es)) (x ∷ []) (λ e s. (
        (λ h. from_has (x ∷ []) e (inl (each e s (to_has (extents (all_leaves columns es)) e h)))),
        (λ h. subst (λ e. Contains (extents (all_leaves columns es)) e) (single e (to_has (x ∷ []) e h)) (from_has (extents (all_leaves columns es)) x some)),
      ))

  pub shown_extent : (n : Name) → IsShownAs t cs known n → Has (extents cs) (extent_of (known n))
  shown_extent n (j, f, k) = has_at cs j (known n) (slice_get_within cs j (known n) k) (get_or_from_slice_get cs j (known n) (known n) k)

  pub known_as : (zip_length false (extents (all_leaves known es)) ≡ zip_length false (extents cs)) × (is_end (extents (all_leaves known es)) ≡ is_end (extents cs))
  known_as =
      let each = each_of_all (λ e. Has (extents cs) e) known (IsShownAs t cs known) shown_extent es all read.shown in
      members_decide (extents (all_leaves known es)) (extents cs) (λ e s. (
        (λ h. from_has (extents cs) e (each e s (to_has (extents (all_leaves known es)) e h))),
        (λ h.
            let c = column_with cs e (to_has (extents cs) e h) in
            subst (λ e. Contains (extents (all_leaves known es)) e) c.2 (read.all c.0 (from_has cs c.0 c.1) (ap (broadcasts false) c.2 ∙ s))),
      ))

  as_end : (ds : List Column) → (extent_as_zip ds).ended ≡ is_end (extents ds)
  as_end ds = ap (λ b. b || breaks_shape false (extents ds)) (sym (any_ended ds))

  given_end : (extent_as_zip (all_leaves columns es)).ended ≡ not (is_empty t.broken)
  given_end = as_end (all_leaves columns es) ∙ given_as.1 ∙ sym (ap (λ (e : Extent). e.ended) (one_extent x))

  given_length : zip_length false (extents (all_leaves columns es)) ≡ length t.rows
  given_length = given_as.0 ∙ sym (ap (λ (e : Extent). e.len) (one_extent x))

  ends_by : (b : List Cause) → t.broken ≡ b
      → ((extent_as_zip (all_leaves columns es)).ended ≡ false × (extent_as_zip (all_leaves known es) ≡ extent_as_zip (all_leaves columns es)))
      ⊎ ((extent_as_zip (all_leaves columns es)).ended ≡ true × (zip_length false (extents (all_leaves columns es)) ≤ zip_length false (extents (all_leaves known es))))
  ends_by [] e =
      let w = shows.whole e in
      let u : (extent_as_zip (all_leaves columns es)).ended ≡ false = given_end ∙ ap (λ b. not (is_empty b)) e in
      let v : (extent_as_zip (all_leaves known es)).ended ≡ false = as_end (all_leaves known es) ∙ known_as.1 ∙ ap (λ b. b || breaks_shape false (extents cs)) (any_ended cs) ∙ w.0 in
      let l : zip_length false (extents (all_leaves known es)) ≡ zip_length false (extents (all_leaves columns es)) = known_as.0 ∙ sym w.1 ∙ sym given_length in
      inl (u, (λ i. record { ended = (v ∙ sym u) i; len = l i }))
  ends_by (c ∷ more) e =
      let few = shows.few in
      let g = given_length in
      let k = known_as.0 in
      inr (given_end ∙ ap (λ b. not (is_empty b)) e, omega arith)

  within : AreLeavesWithin columns known es
  within =
      record {
        ends = ends_by t.broken refl;
        cells = λ i lt. let g = given_length in let lt' : i < length t.rows = omega arith in
            at_all (IsShownAs t cs known) (λ n. cell_in_row false i (columns n) ≡ cell_in_row false i (known n)) (named_cell t cs known shows i lt') es read.shown;
      }

pub names_show : NamesShow
names_show t cs known es all shows read = within t cs known es all shows read

-- all columns of expressions over a table, and over what fresh names stand for
pub over_columns : (at : ℕ) (t : Table) (es : List Tree) → AllByRecursion (λ e. IsTrue (is_elementwise e)) es → columns_at at es t ≡ map (eval_with at (λ n. table_column n t)) es
over_columns at t [] all = refl
over_columns at t (e ∷ es) all = let p = reads_columns at t e all.0 in let q = over_columns at t es all.1 in λ i. p i ∷ q i

pub over_input : (at : ℕ) (t : Table) (ms : List Named) (es : List Tree) → AllByRecursion (λ e. IsTrue (is_elementwise e)) es → columns_at at (map (put_back ms) es) t ≡ map (eval_with at (λ n. eval at t (stands_for ms n))) es
over_input at t ms [] all = refl
over_input at t ms (e ∷ es) all = let p = puts_back at ms t e all.0 in let q = over_input at t ms es all.1 in λ i. p i ∷ q i

pub calls_keep_rows : CallsKeepRows
calls_keep_rows at s hs input ms es all shares read =
    let z = table_of s (λ rows. rows) (mild_zip at (all_columns (tables_of hs))) in
    let known : Naming = λ n. eval at input (stands_for ms n) in
    let w = stay_within at (λ n. table_column n z) known es all (names_show z (columns_shown hs) known es all (zips_show at s hs shares) read) in
    let p = over_columns at z es all in
    let q = over_input at input ms es all in
    subst (λ cs. IsPartOf (zipped false at cs) (zipped false at (columns_at at (map (put_back ms) es) input))) (sym p) (subst (λ cs. IsPartOf (zipped false at (map (eval_with at (λ n. table_column n z)) es)) (zipped false at cs)) (sym q) w)
