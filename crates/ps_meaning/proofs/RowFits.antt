-- Rows that fit: their parts, picked values, and the columns of tables.
use Rattle.std.proofs.Common.{◌≡◌, ℕ, zero, suc, ◌<◌, ◌≤◌, List, [], ◌∷◌, ◌++◌, length, get_or, take, drop, replicate, refl, sym, subst, arith}
use Rattle.std.proofs.Math.Seq.{take-length, take-suc}
use Rattle.std.proofs.lemmas.List.{length-map, map-append}
use Rattle.std.specs.Prelude.{true, map, Option, Some, None, unwrap_or, is_some}
use Rattle.std.specs.List.{AllByRecursion}
use Rattle.ps_frame.specs.Causes.{Column, value}
use Rattle.ps_frame.specs.Frames.{kinds_of}
use Rattle.ps_frame.specs.Tables.{Fields, Table, column_at, columns_of, field_index, field_kind, values_at}
use Rattle.ps_frame.specs.Trees.{Tree}
use Rattle.ps_frame.specs.Typing.{kind_over}
use Rattle.ps_frame.specs.Zip.{below}
use Rattle.ps_frame.specs.declared.value.DataType.{DataType}
use Rattle.ps_frame.specs.declared.value.DataType.TheVariants as kind
use Rattle.ps_frame.specs.declared.value.Value.{Value}
use Rattle.ps_frame.specs.declared.value.Value.TheVariants as val
use Rattle.ps_meaning.specs.Cases.{columns_at}
use Rattle.ps_meaning.specs.Distinct.{picked, places_in}
use Rattle.ps_meaning.specs.Laws.{FitsKinds, FitsRow, FitsTable}
use Rattle.ps_meaning.specs.Schemas.{both as both_of, fields_of, named_fields}
use Rattle.ps_meaning.specs.Steps.{Name, Named, exprs_of}
use Rattle.ps_meaning.proofs.EvalFits.{eval-fits, stands}
use Rattle.ps_meaning.proofs.Fits.{CellFits, ColumnFits, ColumnsFit, Fits, all-map}

pub take-fits : (ks js : List DataType) (row : List Value) → FitsKinds (ks ++ js) row → FitsKinds ks (take (length ks) row)
take-fits [] js row f = tt
take-fits (k ∷ ks) js [] f = absurd f
take-fits (k ∷ ks) js (v ∷ row) f = (f.0, take-fits ks js row f.1)

pub drop-fits : (ks js : List DataType) (row : List Value) → FitsKinds (ks ++ js) row → FitsKinds js (drop (length ks) row)
drop-fits [] js row f = f
drop-fits (k ∷ ks) js [] f = absurd f
drop-fits (k ∷ ks) js (v ∷ row) f = drop-fits ks js row f.1

pub append-fits : (ks js : List DataType) (vs ws : List Value) → FitsKinds ks vs → FitsKinds js ws → FitsKinds (ks ++ js) (vs ++ ws)
append-fits [] js [] ws f g = g
append-fits [] js (v ∷ vs) ws f g = absurd f
append-fits (k ∷ ks) js [] ws f g = absurd f
append-fits (k ∷ ks) js (v ∷ vs) ws f g = (f.0, append-fits ks js vs ws f.1 g)

pub nulls-fit : (ks : List DataType) → FitsKinds ks (replicate (length ks) val.Null)
nulls-fit [] = tt
nulls-fit (k ∷ ks) = (refl, nulls-fit ks)

pub get-fits : (ks : List DataType) (row : List Value) (n : ℕ) (d : DataType) → n < length ks → FitsKinds ks row → Fits (get_or ks n d) (get_or row n val.Null)
get-fits [] row n d h f = absurd (omega arith)
get-fits (k ∷ ks) [] n d h f = absurd f
get-fits (k ∷ ks) (v ∷ row) zero d h f = f.0
get-fits (k ∷ ks) (v ∷ row) (suc n) d h f = get-fits ks row n d (omega arith) f.1

pub kinds-width : (s : Fields) → length (kinds_of s) ≡ length s
kinds-width s = length-map s (λ field. field.1)

-- columns side by side
pub columns-append : (ks js : List DataType) (cs ds : List Column) → ColumnsFit ks cs → ColumnsFit js ds → ColumnsFit (ks ++ js) (cs ++ ds)
columns-append [] js [] ds f g = g
columns-append [] js (c ∷ cs) ds f g = absurd f
columns-append (k ∷ ks) js [] ds f g = absurd f
columns-append (k ∷ ks) js (c ∷ cs) ds f g = (f.0, columns-append ks js cs ds f.1 g)

-- the columns of a table that fits
module _ (t : Table) (fits : FitsTable t) where
  place-fits : (n : ℕ) (d : DataType) → n < length (kinds_of t.schema) → ColumnFits (get_or (kinds_of t.schema) n d) (column_at n t)
  place-fits n d h =
      all-map (Fits (get_or (kinds_of t.schema) n d)) (CellFits (get_or (kinds_of t.schema) n d)) value (λ v f. f) (values_at n t.rows)
      (all-map (FitsRow t.schema) (Fits (get_or (kinds_of t.schema) n d)) (λ row. get_or row n val.Null) (λ row f. get-fits (kinds_of t.schema) row n d h f) t.rows fits)

  places-fit : (n : ℕ) → n ≤ length (kinds_of t.schema) → ColumnsFit (take n (kinds_of t.schema)) (map (λ i. column_at i t) (below n))
  places-fit zero h = tt
  places-fit (suc n) h =
      let ks = take-suc (kinds_of t.schema) n kind.Boolean (omega arith) in
      let cs = map-append (λ i. column_at i t) (below n) (n ∷ []) in
      subst (λ ks. ColumnsFit ks (map (λ i. column_at i t) (below n ++ n ∷ []))) (sym ks)
      (subst (λ cs. ColumnsFit (take n (kinds_of t.schema) ++ get_or (kinds_of t.schema) n kind.Boolean ∷ []) cs) (sym cs)
      (columns-append (take n (kinds_of t.schema)) (get_or (kinds_of t.schema) n kind.Boolean ∷ []) (map (λ i. column_at i t) (below n)) (column_at n t ∷ []) (places-fit n (omega arith)) (place-fits n kind.Boolean (omega arith), tt)))

  pub table-columns : ColumnsFit (kinds_of t.schema) (columns_of t)
  table-columns =
      subst (λ ks. ColumnsFit ks (columns_of t)) (take-length (kinds_of t.schema))
      (subst (λ n. ColumnsFit (take (length (kinds_of t.schema)) (kinds_of t.schema)) (map (λ i. column_at i t) (below n))) (kinds-width t.schema) (places-fit (length (kinds_of t.schema)) (omega arith)))

  -- the columns of expressions
  pub kinds-of_exprs : (node : ℕ) (es : List Tree) → AllByRecursion (λ e. is_some (kind_over t.schema e) ≡ true) es → (ks : List DataType) × ColumnsFit ks (columns_at node es t)
  kinds-of_exprs node [] all = ([], tt)
  kinds-of_exprs node (e ∷ es) all = by (kind_over t.schema e) refl all.0 (kinds-of_exprs node es all.1)
    where
      by : (o : Option DataType) → kind_over t.schema e ≡ o → is_some o ≡ true → (ks : List DataType) × ColumnsFit ks (columns_at node es t) → (ks : List DataType) × ColumnsFit ks (columns_at node (e ∷ es) t)
      by None q some rest = cc
      by (Some k) q some (ks, g) = (k ∷ ks, (eval-fits node t fits e k q, g))

  pub named-columns : (node : ℕ) (es : List Named) (out : Fields) → fields_of es t.schema ≡ Some out → ColumnsFit (kinds_of out) (columns_at node (exprs_of es) t)
  named-columns node [] out q = let is : out ≡ [] = cc in subst (λ (fs : Fields). ColumnsFit (kinds_of fs) []) (sym is) tt
  named-columns node (e ∷ es) out q = by (kind_over t.schema e.1) (fields_of es t.schema) refl refl q (named-columns node es)
    where
      by : (o : Option DataType) (r : Option Fields) → kind_over t.schema e.1 ≡ o → fields_of es t.schema ≡ r → both_of (λ (k : DataType) (fs : Fields). (e.0, k) ∷ fs) o r ≡ Some out
          → ((fs : Fields) → fields_of es t.schema ≡ Some fs → ColumnsFit (kinds_of fs) (columns_at node (exprs_of es) t)) → ColumnsFit (kinds_of out) (columns_at node (exprs_of (e ∷ es)) t)
      by None r p q h rest = cc
      by (Some k) None p q h rest = cc
      by (Some k) (Some fs) p q h rest =
          let is : (e.0, k) ∷ fs ≡ out = cc in
          subst (λ (out : Fields). ColumnsFit (kinds_of out) (columns_at node (exprs_of (e ∷ es)) t)) is (eval-fits node t fits e.1 k p, rest fs q)

-- the values of named columns
pub picks-fit : (ns : List Name) (s out : Fields) → named_fields ns s ≡ Some out → (row : List Value) → FitsRow s row → FitsKinds (kinds_of out) (picked (places_in ns s) row)
picks-fit [] s out q row f = let is : out ≡ [] = cc in subst (λ (fs : Fields). FitsKinds (kinds_of fs) []) (sym is) tt
picks-fit (n ∷ ns) s out q row f = by (field_kind n s) (named_fields ns s) refl refl q (picks-fit ns s)
  where
    by : (o : Option DataType) (r : Option Fields) → field_kind n s ≡ o → named_fields ns s ≡ r → both_of (λ (k : DataType) (fs : Fields). (n, k) ∷ fs) o r ≡ Some out
        → ((fs : Fields) → named_fields ns s ≡ Some fs → (row : List Value) → FitsRow s row → FitsKinds (kinds_of fs) (picked (places_in ns s) row)) → FitsKinds (kinds_of out) (picked (places_in (n ∷ ns) s) row)
    by None r p q h rest = cc
    by (Some k) None p q h rest = cc
    by (Some k) (Some fs) p q h rest =
        let is : (n, k) ∷ fs ≡ out = cc in
        let st = stands n s k p in
        let value_fits : Fits k (get_or row (unwrap_or (field_index n s) 0) val.Null) = subst (λ o. Fits k (get_or row (unwrap_or o 0) val.Null)) (sym st.1) (st.2 row f) in
        subst (λ (out : Fields). FitsKinds (kinds_of out) (picked (places_in (n ∷ ns) s) row)) is (value_fits, rest fs q row f)
