-- The output columns of an hstack among a table's columns and further expressions.
use Rattle.std.proofs.Common.{◌≡◌, ◌⊎◌, inl, inr, ℕ, zero, suc, ◌+◌, ◌<◌, true, not, List, [], ◌∷◌, ◌++◌, length, get_or, Option, Some, None, refl, sym, ap, subst, ◌∙◌, arith, length-append}
use Rattle.std.specs.Prelude.{Contains, flat_map, is_some, map, unwrap_or}
use Rattle.std.specs.List.{AllByRecursion}
use Rattle.std.specs.Str.{bytes_eq}
use Rattle.std.specs.Cmp.Lexicographic.{bytes_decides}
use Rattle.std.proofs.Math.ListN.{get_or-append}
use Rattle.std.proofs.lemmas.List.{get_or-append-add, get_or-map, length-map}
use Rattle.std.proofs.lemmas.List.Quantifiers.{position-Some}
use Rattle.ps_frame.specs.Causes.{Cause, Column, value, cell_causes, column_causes, is_empty, whole_column}
use Rattle.ps_frame.specs.Eval.{eval}
use Rattle.ps_frame.specs.Tables.{Fields, Table, column_at, columns_of, field_index, field_kind, values_at, values_at_some}
use Rattle.ps_frame.specs.Trees.{Tree}
use Rattle.ps_frame.specs.Zip.{below, extent_of, extents}
use Rattle.ps_frame.specs.declared.value.DataType.{DataType}
use Rattle.ps_frame.specs.declared.value.DataType.TheVariants as kind
use Rattle.ps_frame.specs.declared.value.Value.{Value}
use Rattle.ps_frame.specs.declared.value.Value.TheVariants as val
use Rattle.ps_meaning.specs.Cases.{columns_at, hstack_places}
use Rattle.ps_meaning.specs.Distinct.{picked, places_in}
use Rattle.ps_meaning.specs.Schemas.{names_of, put_fields}
use Rattle.ps_meaning.specs.Steps.{Name, Named}
use Rattle.ps_meaning.proofs.EvalFits.{stands}
use Rattle.ps_shares.proofs.Below.{get_below, length_below}
use Rattle.ps_shares.proofs.Ends.{has_either}
use Rattle.ps_shares.proofs.Members.{Has, from_has, to_has}
use Rattle.ps_shares.proofs.Stands.{HasKind}
use Rattle.ps_bundles.proofs.Gathered.{has_last}
use Rattle.picked_zips.specs.Picked.{IsUnneeded, StandForAll, ZipsAlike, columns_in, places_from}
use Rattle.picked_zips.proofs.Keyed.{place_inside}
use Rattle.picked_zips.proofs.Members.{has_flat, has_map, of_map}
use Rattle.picked_zips.proofs.Picking.{zips_alike}
use Rattle.keyed_calls.specs.Keyed.{row_by}
use Rattle.column_keeps.proofs.Entries.{at_or, index_of, place_is}

-- an output name is an expression's, or a column's of this schema
abbrev pub IsOut : List Named → Fields → Name → Type 0
IsOut es s n = ((m : ℕ) × (index_of n es ≡ Some m) × (m < length es)) ⊎ ((index_of n es ≡ None) × HasKind s n)

-- the output columns of an hstack of these fields over t, in the zip of the table z and the expressions, stand for all of it
abbrev pub OutsStandForAll : ℕ → List Named → Fields → List Tree → Table → Table → Type 0
OutsStandForAll at es gs xs t z =
    ZipsAlike at (columns_of z ++ columns_at at xs z) (map (λ n. at_or (λ m. length z.schema + m) (unwrap_or (field_index n z.schema) 0) (index_of n es)) (names_of (put_fields t.schema gs)))

-- the places that expressions behind a row have
from_at : {A : Type 0} (w : ℕ) (xs : List A) (m : ℕ) → m < length xs → get_or (places_from w xs) m 0 ≡ w + m
from_at w [] m lt = absurd (omega arith)
from_at w (x ∷ xs) zero lt = omega arith
from_at w (x ∷ xs) (suc m) lt = let h = from_at (suc w) xs m (omega arith) in h ∙ omega arith

from_count : {A : Type 0} (w : ℕ) (xs : List A) → length (places_from w xs) ≡ length xs
from_count w [] = refl
from_count w (x ∷ xs) = ap suc (from_count (suc w) xs)

kind_of : (o : Option DataType) → is_some o ≡ true → (k : DataType) × (o ≡ Some k)
kind_of None h = cc
kind_of (Some k) h = (k, refl)

-- Rows over a schema f in which the names of s stand, with expressions behind, of which some have output names.
module _ (es : List Named) (s f : Fields) (keys : List Tree) (count : length keys ≡ length es) (same : (n : Name) → HasKind s n → field_kind n f ≡ field_kind n s) where
  abbrev ns : List Name
  ns = names_of s

  abbrev w : ℕ
  w = length f

  abbrev js : List ℕ
  js = places_in ns f

  -- the place of an output column
  abbrev pub place : Name → ℕ
  place n = at_or (λ m. w + m) (unwrap_or (field_index n f) 0) (index_of n es)

  -- and its place in a row of the expressions and then these columns
  abbrev pub later : Name → ℕ
  later n = at_or (λ m. m) (length es + unwrap_or (field_index n s) 0) (index_of n es)

  place_in : (n : Name) (q j : ℕ) → field_index n s ≡ Some q → field_index n f ≡ Some j → (q < length js) × (get_or js q 0 ≡ j)
  place_in n q j at_s at_f =
      let p = position-Some (λ (x : Name × DataType). bytes_eq n x.0) s q (n, kind.Boolean) at_s in
      let lt : q < length ns = subst (λ m. q < m) (sym (length-map s (λ (x : Name × DataType). x.0))) p.0 in
      let own : get_or ns q n ≡ n = get_or-map (λ (x : Name × DataType). x.0) s q (n, kind.Boolean) n p.0 ∙ sym ((bytes_decides n (get_or s q (n, kind.Boolean)).0).0 p.1) in (
        subst (λ m. q < m) (sym (length-map ns (λ n. unwrap_or (field_index n f) 0))) lt,
        get_or-map (λ n. unwrap_or (field_index n f) 0) ns q n 0 lt ∙ ap (λ n. unwrap_or (field_index n f) 0) own ∙ ap (λ o. unwrap_or o 0) at_f,
      )

  keys_length : (row : List Value) → length (picked (places_from w keys) row) ≡ length es
  keys_length row = length-map (places_from w keys) (λ j. get_or row j val.Null) ∙ from_count w keys ∙ count

  -- each output value stands where it is looked for
  out_value : (n : Name) → IsOut es s n → (row : List Value) → get_or row (place n) val.Null ≡ get_or (row_by js w keys row) (later n) val.Null
  out_value n (inl (m, is, lt)) row =
      let lt' : m < length keys = subst (λ k. m < k) (sym count) lt in
      let inside : m < length (picked (places_from w keys) row) = subst (λ k. m < k) (sym (keys_length row)) lt in
      let inside' : m < length (places_from w keys) = subst (λ k. m < k) (sym (from_count w keys)) lt' in
      ap (λ o. get_or row (at_or (λ m. w + m) (unwrap_or (field_index n f) 0) o) val.Null) is
      ∙ ap (λ j. get_or row j val.Null) (sym (from_at w keys m lt'))
      ∙ sym (get_or-map (λ j. get_or row j val.Null) (places_from w keys) m 0 val.Null inside')
      ∙ sym (get_or-append (picked (places_from w keys) row) (picked js row) val.Null m inside)
      ∙ sym (ap (λ o. get_or (row_by js w keys row) (at_or (λ m. m) (length es + unwrap_or (field_index n s) 0) o) val.Null) is)
  out_value n (inr (none, has)) row =
      let k = kind_of (field_kind n s) has in
      let at_s = stands n s k.0 k.1 in
      let at_f = stands n f k.0 (same n has ∙ k.1) in
      let q = at_s.0 in
      let p = place_in n q at_f.0 at_s.1 at_f.1 in
      ap (λ o. get_or row (at_or (λ m. w + m) (unwrap_or (field_index n f) 0) o) val.Null) none
      ∙ ap (λ o. get_or row (unwrap_or o 0) val.Null) at_f.1
      ∙ ap (λ j. get_or row j val.Null) (sym p.1)
      ∙ sym (get_or-map (λ j. get_or row j val.Null) js q 0 val.Null p.0)
      ∙ sym (get_or-append-add (picked (places_from w keys) row) (picked js row) q val.Null)
      ∙ ap (λ k. get_or (row_by js w keys row) (k + q) val.Null) (keys_length row)
      ∙ sym (ap (λ o. get_or (row_by js w keys row) (length es + unwrap_or o 0) val.Null) at_s.1)
      ∙ sym (ap (λ o. get_or (row_by js w keys row) (at_or (λ m. m) (length es + unwrap_or (field_index n s) 0) o) val.Null) none)

  pub out_values : (out : List Name) → AllByRecursion (IsOut es s) out → (row : List Value) → picked (map place out) row ≡ picked (map later out) (row_by js w keys row)
  out_values [] all row = refl
  out_values (n ∷ out) all row = let p = out_value n all.0 row in let q = out_values out all.1 row in λ i. p i ∷ q i

  -- the places are those of the hstack
  pub places_are : (out : List Name) → hstack_places out es f ≡ map place out
  places_are [] = refl
  places_are (n ∷ out) = let p = place_is n es w (unwrap_or (field_index n f) 0) in let q = places_are out in λ i. p i ∷ q i

  -- The columns themselves, over a table of this schema.
  module _ (at : ℕ) (z : Table) (of_f : z.schema ≡ f) where
    abbrev own : List Column
    own = columns_of z

    abbrev beside : List Column
    beside = columns_at at keys z

    abbrev pub cs : List Column
    cs = own ++ beside

    own_count : length own ≡ w
    own_count = length-map (below (length z.schema)) (λ j. column_at j z) ∙ length_below (length z.schema) ∙ ap length of_f

    -- the expression of an output name
    abbrev pub expr : Name → Tree
    expr n = at_or (λ m. get_or keys m Tree.missing) (Tree.column n) (index_of n es)

    out_column : (n : Name) → IsOut es s n → (get_or cs (place n) (whole_column []) ≡ eval at z (expr n)) × (place n < length cs)
    out_column n (inl (m, is, lt)) =
        let lt' : m < length keys = subst (λ k. m < k) (sym count) lt in
        let l = length-append own beside in
        let b = length-map keys (eval at z) in
        let o = own_count in
        let e = ap (λ o. at_or (λ m. w + m) (unwrap_or (field_index n f) 0) o) is in (
          ap (λ o. get_or cs (at_or (λ m. w + m) (unwrap_or (field_index n f) 0) o) (whole_column [])) is
              ∙ ap (λ k. get_or cs (k + m) (whole_column [])) (sym own_count)
              ∙ get_or-append-add own beside m (whole_column [])
              ∙ get_or-map (eval at z) keys m Tree.missing (whole_column []) lt'
              ∙ sym (ap (λ o. eval at z (at_or (λ m. get_or keys m Tree.missing) (Tree.column n) o)) is),
          omega (arith, l, b, o, e, lt'),
        )
    out_column n (inr (none, has)) =
        let k = kind_of (field_kind n s) has in
        let at_f = stands n f k.0 (same n has ∙ k.1) in
        let j = at_f.0 in
        let lt = place_inside f n j at_f.1 in
        let o = own_count in
        let l = length-append own beside in
        let e : place n ≡ j = ap (λ o. at_or (λ m. w + m) (unwrap_or (field_index n f) 0) o) none ∙ ap (λ o. unwrap_or o 0) at_f.1 in
        let inside : j < length own = subst (λ k. j < k) (sym own_count) lt in
        let inside' : j < length z.schema = subst (λ k. j < k) (sym (ap length of_f)) lt in
        let index : field_index n z.schema ≡ Some j = ap (field_index n) of_f ∙ at_f.1 in (
          ap (λ j. get_or cs j (whole_column [])) e
              ∙ get_or-append own beside (whole_column []) j inside
              ∙ get_below (λ j. column_at j z) (length z.schema) j (whole_column []) inside'
              ∙ ap (λ (o : Option ℕ). record { cells = map value (values_at_some o z.rows); broken = z.broken; lost = [] }) (sym index)
              ∙ sym (ap (λ o. eval at z (at_or (λ m. get_or keys m Tree.missing) (Tree.column n) o)) none),
          omega (arith, l, o, e, lt),
        )

    pub out_columns : (out : List Name) → AllByRecursion (IsOut es s) out → (columns_in cs (map place out) ≡ columns_at at (map expr out) z) × AllByRecursion (λ j. j < length cs) (map place out)
    out_columns [] all = (refl, tt)
    out_columns (n ∷ out) all =
        let p = out_column n all.0 in
        let q = out_columns out all.1 in
        ((λ i. p.0 i ∷ q.0 i), (p.1, q.1))

    -- the columns of output names
    module _ (out : List Name) (all : AllByRecursion (IsOut es s) out) where
      abbrev pub ds : List Column
      ds = columns_in cs (map place out)

      given : ds ≡ columns_at at (map expr out) z
      given = (out_columns out all).0

      pub there : (n : Name) → Has out n → Has ds (eval at z (expr n))
      there n h = subst (λ (xs : List Column). Has xs (eval at z (expr n))) (sym given) (has_map (eval at z) (map expr out) (expr n) (has_map expr out n h))

      pub own_extent : (j : ℕ) → extent_of (column_at j z) ≡ record { ended = not (is_empty z.broken); len = length z.rows }
      own_extent j =
          let l = length-map (values_at j z.rows) value ∙ length-map z.rows (λ row. get_or row j val.Null) in
          λ i. record { ended = not (is_empty z.broken); len = l i }

      -- the table's columns aren't needed beside one that is as long, and shows what ended them
      pub own_unneeded : (x : Column) → Has ds x → extent_of x ≡ record { ended = not (is_empty z.broken); len = length z.rows } → ((c : Cause) → Has z.broken c → Has x.broken c) → (c : Column) → Has own c → IsUnneeded ds c
      own_unneeded x inside extent shows c h =
          let r = of_map (λ j. column_at j z) (below (length z.schema)) c h in
          subst (IsUnneeded ds) r.2 (record {
            clear = ((values_at r.0 z.rows, refl), refl);
            as_long = from_has (extents ds) (extent_of (column_at r.0 z)) (subst (Has (extents ds)) (extent ∙ sym (own_extent r.0)) (has_map extent_of ds x inside));
            causes = λ d has. from_has (flat_map column_causes ds) d (has_flat column_causes ds x d inside (has_last (flat_map cell_causes x.cells) x.broken d (shows d (to_has z.broken d has))));
          })

      -- so it is where the name of some column that no expression has is among them
      pub beside_kept : (other : Name) → Has out other → index_of other es ≡ None → HasKind s other → (c : Column) → Has own c → IsUnneeded ds c
      beside_kept other among free has =
          let k = kind_of (field_kind other s) has in
          let at_f = stands other f k.0 (same other has ∙ k.1) in
          let index : field_index other z.schema ≡ Some at_f.0 = ap (field_index other) of_f ∙ at_f.1 in
          let is : eval at z (expr other) ≡ column_at at_f.0 z =
          ap (λ o. eval at z (at_or (λ m. get_or keys m Tree.missing) (Tree.column other) o)) free ∙ ap (λ (o : Option ℕ). record { cells = map value (values_at_some o z.rows); broken = z.broken; lost = [] }) index in
          own_unneeded (column_at at_f.0 z) (subst (Has ds) is (there other among)) (own_extent at_f.0) (λ c h. h)

      -- Where each expression's name is among the output's, and the table's columns aren't needed beside the output's, these stand for all.
      module _ (each : (m : ℕ) → m < length es → (n : Name) × Has out n × (index_of n es ≡ Some m)) (unneeded : (c : Column) → Has own c → IsUnneeded ds c) where
        beside_there : (xs : List Tree) (before : ℕ) → ((m : ℕ) → m < length xs → get_or keys (before + m) Tree.missing ≡ get_or xs m Tree.missing) → before + length xs ≡ length es → (c : Column) → Has (columns_at at xs z) c → Has ds c
        beside_there [] before is long c h = absurd h
        beside_there (x ∷ xs) before is long c (inl e) =
            let n = each before (omega arith) in
            let at_place : expr n.0 ≡ x = ap (λ o. at_or (λ m. get_or keys m Tree.missing) (Tree.column n.0) o) n.2 ∙ ap (λ k. get_or keys k Tree.missing) (sym (plus_zero before)) ∙ is 0 (omega arith) in
            subst (Has ds) (ap (eval at z) at_place ∙ e) (there n.0 n.1)
          where
            plus_zero : (k : ℕ) → k + 0 ≡ k
            plus_zero k = omega arith
        beside_there (x ∷ xs) before is long c (inr h) =
            beside_there xs (suc before) (λ m lt. let e : suc before + m ≡ before + suc m = omega arith in ap (λ k. get_or keys k Tree.missing) e ∙ is (suc m) (omega arith)) (omega arith) c h

        pub stands_for_all : StandForAll cs (map place out)
        stands_for_all =
            record {
              inside = (out_columns out all).1;
              others = λ c h. by c (has_either own beside c (to_has cs c h));
            }
          where
            by : (c : Column) → Has own c ⊎ Has beside c → Contains ds c ⊎ IsUnneeded ds c
            by c (inl k) = inr (unneeded c k)
            by c (inr k) = inl (from_has ds c (beside_there keys 0 (λ m lt. ap (λ k. get_or keys k Tree.missing) (zero_plus m)) (omega (arith, count)) c k))
              where
                zero_plus : (k : ℕ) → 0 + k ≡ k
                zero_plus k = omega arith

        pub columns_alike : ZipsAlike at cs (map place out)
        columns_alike = zips_alike at cs (map place out) stands_for_all
