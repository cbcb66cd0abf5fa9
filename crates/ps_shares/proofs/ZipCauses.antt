-- A zip of tables that show columns has no other causes than expressions over these columns.
use Rattle.std.proofs.Common.{◌≡◌, ◌≢◌, ◌⊎◌, inl, inr, ℕ, Bool, true, false, not, cond, List, [], ◌∷◌, ◌++◌, length, refl, sym, ap, subst, ◌∙◌}
use Rattle.std.specs.Prelude.{Contains, IsTrue, flat_map, map, ◌&&◌, ◌||◌, ◌==◌}
use Rattle.std.specs.List.{AllByRecursion, list_any}
use Rattle.std.proofs.lemmas.List.Folds.{list_any-append}
use Rattle.ps_frame.specs.Causes.{Cause, Column, column_causes, is_empty, is_ended}
use Rattle.ps_frame.specs.Tables.{Fields, Table, column_at, columns_of, values_at}
use Rattle.ps_frame.specs.Trees.{Tree}
use Rattle.ps_frame.specs.Typing.{is_elementwise}
use Rattle.ps_frame.specs.Zip.{Extent, below, breaks_shape, broadcasts, ends_early, extents, is_faulty_row, zip_causes, zip_length, zip_rows, zipped}
use Rattle.ps_frame.specs.declared.value.DataFault.TheVariants as data_fault
use Rattle.ps_meaning.specs.Cases.{all_columns, table_of}
use Rattle.ps_meaning.specs.Shape.{mild_zip}
use Rattle.ps_shares.specs.Ends.{ZipsShowCauses}
use Rattle.ps_shares.specs.Kept.{HasNoOther, all_causes}
use Rattle.ps_shares.specs.Leaves.{Naming, all_leaves, eval_with}
use Rattle.ps_shares.specs.CallLaws.{AreRead, IsShownAs, is_end}
use Rattle.ps_shares.specs.Shares.{IsShare, Share, columns_shown, tables_of}
use Rattle.ps_shares.proofs.Below.{length_below}
use Rattle.ps_shares.proofs.Causes.{all_append}
use Rattle.ps_shares.proofs.ClearZips.{any_ended, no_causes}
use Rattle.ps_shares.proofs.Ends.{has_either}
use Rattle.ps_shares.proofs.FlatLength.{neither}
use Rattle.ps_shares.proofs.Members.{Has, from_has, to_has}
use Rattle.ps_shares.proofs.Misfits.{shape_shows}
use Rattle.ps_shares.proofs.Named.{each_of_all, known_as, shown_extent}
use Rattle.ps_shares.proofs.ZipShares.{any, given_ends, given_extent, known_ends, none_ended, zips_show}

-- the causes of columns of tables are those that break the tables
module _ (Q : Cause → Type 0) where
  abbrev pub AllIn : Column → Type 0
  AllIn c = (x : Cause) → Has (column_causes c) x → Q x

  from_columns : (cs : List Column) → AllByRecursion AllIn cs → (x : Cause) → Has (flat_map column_causes cs) x → Q x
  from_columns [] all x h = absurd h
  from_columns (c ∷ cs) all x h = by (from_columns cs all.1 x) (has_either (column_causes c) (flat_map column_causes cs) x h)
    where
      by : (Has (flat_map column_causes cs) x → Q x) → Has (column_causes c) x ⊎ Has (flat_map column_causes cs) x → Q x
      by rest (inl k) = all.0 x k
      by rest (inr k) = rest k

  abbrev pub Breaks : Table → Type 0
  Breaks t = (x : Cause) → Has t.broken x → Q x

  table_columns : (t : Table) → Breaks t → (ns : List ℕ) → AllByRecursion AllIn (map (λ j. column_at j t) ns)
  table_columns t b [] = tt
  table_columns t b (n ∷ ns) = ((λ x h. b x (subst (λ xs. Has (xs ++ t.broken) x) (no_causes (values_at n t.rows)) h)), table_columns t b ns)

  pub share_columns : (hs : List Share) → AllByRecursion (λ (h : Share). Breaks h.from) hs → AllByRecursion AllIn (all_columns (tables_of hs))
  share_columns [] all = tt
  share_columns (h ∷ hs) all = all_append AllIn (columns_of h.from) (all_columns (tables_of hs)) (table_columns h.from all.0 (below (length h.from.schema))) (share_columns hs all.1)

-- where no column of the tables is ended, no table is broken, and no column that they show is ended
table_whole : (t : Table) (ns : List ℕ) → length ns ≢ 0 → list_any is_ended (map (λ j. column_at j t) ns) ≡ false → not (is_empty t.broken) ≡ false
table_whole t [] some h = absurd (some refl)
table_whole t (n ∷ ns) some h = (neither (not (is_empty t.broken)) (list_any is_ended (map (λ j. column_at j t) ns)) h).0

empty : (b : List Cause) → not (is_empty b) ≡ false → b ≡ []
empty [] h = refl
empty (c ∷ cs) h = cc

some_fields : (h : Share) → IsShare h → length h.from.schema ≢ 0
some_fields h is z = is.some (none h.columns (sym is.wide ∙ z))
  where
    none : (xs : List Column) → length xs ≡ 0 → xs ≡ []
    none [] e = refl
    none (x ∷ xs) e = cc

none_broken : (hs : List Share) → AllByRecursion IsShare hs → list_any is_ended (all_columns (tables_of hs)) ≡ false → (any (map given_extent hs) ≡ false) × (list_any is_ended (columns_shown hs) ≡ false)
none_broken [] all h = (refl, refl)
none_broken (s ∷ hs) all h =
    let p = neither (list_any is_ended (columns_of s.from)) (list_any is_ended (all_columns (tables_of hs))) (sym (list_any-append is_ended (columns_of s.from) (all_columns (tables_of hs))) ∙ h) in
    let n = length s.from.schema in
    let w = table_whole s.from (below n) (λ z. some_fields s all.0 (sym (length_below n) ∙ z)) p.0 in
    let r = none_broken hs all.1 p.1 in
    let e = (all.0.shows.whole (empty s.from.broken w)).0 in
    let u = (neither (list_any is_ended s.columns) (breaks_shape false (extents s.columns)) e).0 in (
      (λ i. w i || r.0 i),
      list_any-append is_ended s.columns (columns_shown hs) ∙ (λ i. u i || r.1 i),
    )

-- ended extents
some_is_ended : (es : List Extent) → any es ≡ true → (e : Extent) × Has es e × (e.ended ≡ true)
some_is_ended [] h = cc
some_is_ended (e ∷ es) h = by e.ended refl h (some_is_ended es)
  where
    by : (b : Bool) → e.ended ≡ b → (e.ended || any es) ≡ true → (any es ≡ true → (x : Extent) × Has es x × (x.ended ≡ true)) → (x : Extent) × Has (e ∷ es) x × (x.ended ≡ true)
    by true q h rest = (e, inl refl, q)
    by false q h rest = let r = rest (sym (ap (λ b. b || any es) q) ∙ h) in (r.0, inr r.1, r.2)

is_among_ended : (es : List Extent) (e : Extent) → Has es e → any es ≡ false → e.ended ≡ false
is_among_ended [] e h none = absurd h
is_among_ended (x ∷ es) e (inl k) none = sym (ap (λ (e : Extent). e.ended) k) ∙ (neither x.ended (any es) none).0
is_among_ended (x ∷ es) e (inr k) none = is_among_ended es e k (neither x.ended (any es) none).1

moves : (e : Extent) → e.ended ≡ true → broadcasts false e ≡ false
moves e h = ap (λ b. not b && (e.len == 1)) h

module _ (at : ℕ) (s : Fields) (hs : List Share) (known : Naming) (es : List Tree) (all : AllByRecursion (λ e. IsTrue (is_elementwise e)) es) (shares : AllByRecursion IsShare hs) where
  abbrev inputs : List Column
  inputs = all_columns (tables_of hs)

  abbrev cs : List Column
  cs = columns_shown hs

  abbrev z : Table
  z = table_of s (λ rows. rows) (mild_zip at inputs)

  abbrev shown : List Cause
  shown = all_causes (zipped false at (map (eval_with at known) es))

  abbrev shape : Cause
  shape = record { fault = data_fault.Shape; node = at }

  module _ (read : AreRead z cs known es) where
    leaves_open : any (extents cs) ≡ false → (b : Bool) → any (extents (all_leaves known es)) ≡ b → any (extents (all_leaves known es)) ≡ false
    leaves_open none false q = q
    leaves_open none true q =
        let e = some_is_ended (extents (all_leaves known es)) q in
        let each = each_of_all (λ e. Has (extents cs) e) known (IsShownAs z cs known) (shown_extent z cs known es all (zips_show at s hs shares) read) es all read.shown in
        let w : true ≡ false = sym e.2 ∙ is_among_ended (extents cs) e.0 (each e.0 (moves e.0 e.2) e.1) none in
        cc

    shape_there : list_any is_ended inputs ≡ false → breaks_shape false (extents inputs) ≡ true → Contains shown shape
    shape_there none breaks =
        let n = none_broken hs shares none in
        let whole : is_end (extents inputs) ≡ true = (λ i. (any_ended inputs ∙ none) i || breaks_shape false (extents inputs)) ∙ breaks in
        let there : is_end (extents cs) ≡ true = known_ends at s hs shares ∙ sym (ap is_end (none_ended hs shares n.0)) ∙ sym (given_ends at s hs shares) ∙ whole in
        let k = (known_as z cs known es all (zips_show at s hs shares) read).1 ∙ there in
        let not_ended = leaves_open (any_ended cs ∙ n.1) (any (extents (all_leaves known es))) refl in
        shape_shows at known es all (sym (any_ended (all_leaves known es)) ∙ not_ended) (sym (ap (λ b. b || breaks_shape false (extents (all_leaves known es))) not_ended) ∙ k)

    in_cond : (b : Bool) (xs : List Cause) (x : Cause) → Has (cond b xs []) x → Has xs x
    in_cond true xs x h = h
    in_cond false xs x h = absurd h

    no_other : AllByRecursion (λ (h : Share). HasNoOther h.from.broken shown) hs → HasNoOther z.broken shown
    no_other broken c h = by (list_any is_ended inputs) refl
      where
        breaks_all : (hs : List Share) → AllByRecursion (λ (h : Share). HasNoOther h.from.broken shown) hs → AllByRecursion (λ (h : Share). (x : Cause) → Has h.from.broken x → Contains shown x) hs
        breaks_all [] b = tt
        breaks_all (h ∷ hs) b = ((λ x k. b.0 x (from_has h.from.broken x k)), breaks_all hs b.1)

        of_inputs : Has (flat_map column_causes inputs) c → Contains shown c
        of_inputs k = from_columns (Contains shown) inputs (share_columns (Contains shown) hs (breaks_all hs broken)) c k

        here : Has z.broken c
        here = to_has z.broken c h

        of_shape : list_any is_ended inputs ≡ false → (b : Bool) → breaks_shape false (extents inputs) ≡ b → Has (cond b (shape ∷ []) []) c → Contains shown c
        of_shape none false q k = absurd k
        of_shape none true q (inl e) = subst (Contains shown) e (shape_there none q)
        of_shape none true q (inr k) = absurd k

        either : list_any is_ended inputs ≡ false → Has (flat_map column_causes inputs) c ⊎ Has (cond (breaks_shape false (extents inputs)) (shape ∷ []) []) c → Contains shown c
        either none (inl k) = of_inputs k
        either none (inr k) = of_shape none (breaks_shape false (extents inputs)) refl k

        by : (b : Bool) → list_any is_ended inputs ≡ b → Contains shown c
        by true q = of_inputs (subst (λ b. Has (cond b (flat_map column_causes inputs) (zipped false at inputs).broken) c) q here)
        by false q =
            let k = subst (λ b. Has (cond b (flat_map column_causes inputs) (zipped false at inputs).broken) c) q here in
            let m = in_cond (ends_early false inputs || list_any is_faulty_row (zip_rows false (zip_length false (extents inputs)) inputs)) (zip_causes false at inputs) c k in
            either q (has_either (flat_map column_causes inputs) (cond (breaks_shape false (extents inputs)) (shape ∷ []) []) c m)

pub zips_show_causes : ZipsShowCauses
zips_show_causes at s hs known es all shares read broken = no_other at s hs known es all shares read broken
