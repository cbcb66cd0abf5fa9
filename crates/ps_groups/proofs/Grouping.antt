-- What holds along the way from a table and the columns of its keys to the rows of its groups.
use Rattle.std.proofs.Common.{◌≡◌, ℕ, ◌+◌, ◌-◌, ◌<◌, ◌≤◌, List, [], ◌∷◌, ◌++◌, length, map, take, drop, refl, sym, ap, subst, ◌∙◌, arith, inl, inr, length-append}
use Rattle.std.specs.Prelude.{Some}
use Rattle.std.specs.List.{All, AllByRecursion, AllZip, take-map}
use Rattle.std.proofs.Math.Seq.{drop-append_seam, take-append_seam}
use Rattle.std.proofs.lemmas.List.{drop-map, length-map, map-append}
use Rattle.std.proofs.lemmas.Grind.{get_or_default_zero}
use Rattle.ps_frame.proofs.Rows.{length-rows_of}
use Rattle.ps_frame.specs.Aggregates.{max_rows}
use Rattle.ps_frame.specs.Frames.{HasKinds, IsFrame, all_beside, column_values, kinds_of}
use Rattle.ps_frame.specs.Gathered.{gathered}
use Rattle.ps_frame.specs.Tables.{Fields, Frame, rows_of}
use Rattle.ps_frame.specs.Trees.{Tree}
use Rattle.ps_frame.specs.Series.{Series}
use Rattle.ps_frame.specs.Typing.{kind_over}
use Rattle.ps_frame.specs.declared.refusal.PolarsError.{PolarsError}
use Rattle.ps_frame.specs.declared.value.DataType.{DataType}
use Rattle.ps_frame.specs.declared.value.Value.{Value}
use Rattle.ps_meaning.specs.Groups.{Group}
use Rattle.ps_keys.specs.KeyRows.{AreBelow, places_of_each}
use Rattle.ps_keys.specs.Numbering.{Numbers}
use Rattle.ps_keys.specs.declared.numbering.Numbering.{Numbering}
use Rattle.ps_keys.proofs.Numberings.{firsts-below, keys-length}
use Rattle.ps_keys.proofs.RowValues.{map-map}
use Rattle.ps_rows.proofs.Rows.{drop-front, take-front}
use Rattle.ps_groups.specs.Errors.{IsErrorAt}
use Rattle.ps_groups.specs.Grouped.{CanGroup, IsAggregate, IsFaultOfAny, IsFaultOfGroups, all_causes, key_frames, keyed_rows, last_fields, table_groups}
use Rattle.ps_groups.specs.GroupTables.{table_at}
use Rattle.ps_groups.proofs.GroupRows.{fault-of-groups, group-heights, group-rows, no-causes}
use Rattle.ps_groups.proofs.Kept.{firsts-few, keys-below-firsts}
use Rattle.ps_groups.proofs.KeyTables.{tables-of-keys}

-- rows of a width beside others are parted there
fronts : (w : ℕ) (rows others : List (List Value)) → AllByRecursion (λ row. length row ≡ w) rows → length others ≡ length rows → map (take w) (all_beside rows others) ≡ rows
fronts w [] others wide e = refl
fronts w (row ∷ rows) [] wide e = cc
fronts w (row ∷ rows) (other ∷ others) wide e = λ i. take-front row other w wide.0 i ∷ fronts w rows others wide.1 (omega arith) i

backs : (w : ℕ) (rows others : List (List Value)) → AllByRecursion (λ row. length row ≡ w) rows → length others ≡ length rows → map (drop w) (all_beside rows others) ≡ others
backs w [] [] wide e = refl
backs w [] (other ∷ others) wide e = cc
backs w (row ∷ rows) [] wide e = cc
backs w (row ∷ rows) (other ∷ others) wide e = λ i. drop-front row other w wide.0 i ∷ backs w rows others wide.1 (omega arith) i

some-same : (xs ys : List DataType) → map Some xs ≡ map Some ys → xs ≡ ys
some-same [] [] e = refl
some-same [] (y ∷ ys) e = cc
some-same (x ∷ xs) [] e = cc
some-same (x ∷ xs) (y ∷ ys) e =
    let first : x ≡ y = cc in
    let rest : map Some xs ≡ map Some ys = cc in
    λ i. first i ∷ some-same xs ys rest i

module _ (t : Frame) (own : List Series) (trees : List Tree) (schema : Fields) (can : CanGroup t own trees schema) where
  abbrev w : ℕ
  w = length t.schema

  abbrev h : ℕ
  h = length t.rows

  abbrev rows : List (List Value)
  rows = keyed_rows t own

  abbrev key_rows : List (List Value)
  key_rows = rows_of h (column_values own)

  height : length key_rows ≡ h
  height = length-rows_of h own can.heights

  behind : key_rows ≡ map (drop w) rows
  behind = sym (backs w t.rows key_rows can.widths height)

  front : t.rows ≡ map (take w) rows
  front = sym (fronts w t.rows key_rows can.widths height)

  -- the aggregates' fields are the last ones
  long : length schema ≡ length own + length trees
  long =
      let a = ap length can.kinds in
      let b = length-append (map (λ (c : Series). Some c.kind) own) (map (kind_over t.schema) trees) in
      let c = length-map own (λ (c : Series). Some c.kind) in
      let d = length-map trees (kind_over t.schema) in
      let e = length-map (kinds_of schema) Some in
      let f = length-map schema (λ (g : List ℕ × DataType). g.1) in
      omega arith

  pub aggregates-count : length trees ≤ length schema
  aggregates-count = let e = long in omega arith

  pub keys-count : length own ≤ length schema
  keys-count = let e = long in omega arith

  -- the keys' fields are the first ones
  pub key-frame : h ≤ max_rows → IsFrame (take (length own) schema) own h
  key-frame small = record {
    kinds = some-same (map (λ (c : Series). c.kind) own) (kinds_of (take (length own) schema))
        (map-map Some (λ (c : Series). c.kind) own
        ∙ sym (take-append_seam (map (λ (c : Series). Some c.kind) own) (map (kind_over t.schema) trees))
        ∙ ap (λ m. take m (map (λ (c : Series). Some c.kind) own ++ map (kind_over t.schema) trees)) (length-map own (λ (c : Series). Some c.kind))
        ∙ ap (take (length own)) can.kinds
        ∙ take-map Some (length own) (kinds_of schema)
        ∙ ap (map Some) (take-map (λ (g : List ℕ × DataType). g.1) (length own) schema));
    heights = can.heights;
    small = small;
  }

  last : last_fields (length trees) schema ≡ drop (length own) schema
  last = let e = long in let f : length schema - length trees ≡ length own = omega arith in ap (λ m. drop m schema) f

  pub last-kinds : map (kind_over t.schema) trees ≡ map Some (kinds_of (last_fields (length trees) schema))
  last-kinds =
      sym (drop-append_seam (map (λ (c : Series). Some c.kind) own) (map (kind_over t.schema) trees))
      ∙ ap (λ n. drop n (map (λ (c : Series). Some c.kind) own ++ map (kind_over t.schema) trees)) (length-map own (λ (c : Series). Some c.kind))
      ∙ ap (drop (length own)) can.kinds
      ∙ drop-map Some (length own) (kinds_of schema)
      ∙ ap (map Some) (drop-map (λ (g : List ℕ × DataType). g.1) (length own) schema)
      ∙ ap (λ (fs : Fields). map Some (kinds_of fs)) (sym last)

  pub fault-of-any : (at : ℕ) (e : PolarsError) → IsErrorAt at (IsFaultOfAny at (key_frames t.schema rows) trees) e → IsErrorAt at (IsFaultOfGroups at (table_groups at trees t own)) e
  fault-of-any at e (inl memory) = inl memory
  fault-of-any at e (inr (d, is, found)) = inr (d, is, fault-of-groups at t.schema rows trees d found)

  module _ (n : Numbering) (of : Numbers key_rows n) where
    abbrev count : ℕ
    count = length n.firsts.items

    of-behind : Numbers (map (drop w) rows) n
    of-behind = subst (λ ks. Numbers ks n) behind of

    pub below-count : AreBelow count n.keys.items
    below-count = keys-below-firsts key_rows n of

    pub keys-long : length n.keys.items ≡ h
    keys-long = keys-length key_rows n of ∙ height

    pub firsts-inside : All (λ i. i < h) n.firsts.items
    firsts-inside k e inside =
        let first = firsts-below key_rows n of k inside in
        let any = get_or_default_zero n.firsts.items k e inside in
        let tall = height in
        omega arith

    pub few : h ≤ max_rows → count ≤ max_rows
    few small = let a = firsts-few key_rows n of in let b = height in omega arith

    pub frames-are : map (table_at t) (places_of_each count n.keys.items) ≡ key_frames t.schema rows
    frames-are = tables-of-keys t.schema rows n of-behind t refl front

    module _ (at : ℕ) (vs : List Series) (are : AllZip (IsAggregate at (key_frames t.schema rows)) trees vs) where
      abbrev all : List Series
      all = map (gathered n.firsts.items) own ++ vs

      all-kinds : HasKinds (last_fields (length trees) schema) vs → map (λ (c : Series). c.kind) all ≡ kinds_of schema
      all-kinds kinds = some-same (map (λ (c : Series). c.kind) all) (kinds_of schema)
          (map-map Some (λ (c : Series). c.kind) all
          ∙ map-append (λ (c : Series). Some c.kind) (map (gathered n.firsts.items) own) vs
          ∙ (λ i. map-map (λ (c : Series). Some c.kind) (gathered n.firsts.items) own i ++ (sym (map-map Some (λ (c : Series). c.kind) vs) ∙ ap (map Some) kinds ∙ sym last-kinds) i)
          ∙ can.kinds)

      pub group-frame : h ≤ max_rows → HasKinds (last_fields (length trees) schema) vs → IsFrame schema all count
      group-frame small kinds = record { kinds = all-kinds kinds; heights = group-heights at t.schema rows trees n of-behind h own vs can.heights behind are; small = few small }

      pub rows-of-groups : rows_of count (column_values all) ≡ map (λ (g : Group). g.cells) (table_groups at trees t own)
      rows-of-groups = group-rows at t.schema rows trees n of-behind h own vs can.heights behind are

      pub groups-clean : all_causes (table_groups at trees t own) ≡ []
      groups-clean = no-causes at t.schema rows trees vs are
