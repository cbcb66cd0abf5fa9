-- A select's table and faults.
use Rattle.std.proofs.Common.{◌≡◌, ℕ, List, [], ◌∷◌, refl, sym, subst, ◌∙◌, ap, inl, inr}
use Rattle.std.specs.Prelude.{Contains, Some, unwrap_or, false}
use Rattle.ps_frame.specs.Causes.{Cause}
use Rattle.ps_frame.specs.Frames.{IsFrame, column_values, kinds_of}
use Rattle.ps_frame.specs.Functions.{Functions}
use Rattle.ps_frame.specs.Tables.{Fields, Frame, rows_of, whole}
use Rattle.ps_frame.specs.Trees.{Tree}
use Rattle.ps_frame.specs.Series.{Series}
use Rattle.ps_frame.specs.Zip.{zipped}
use Rattle.ps_frame.specs.declared.refusal.PolarsError.{PolarsError}
use Rattle.ps_meaning.specs.Cases.{IsCaseBrokenBy, columns_at, table_of}
use Rattle.ps_meaning.specs.Nodes.{GivesFrame, MayFault}
use Rattle.ps_meaning.specs.Schemas.{fields_of}
use Rattle.ps_meaning.specs.Steps.{exprs_of, key_trees, named_trees, select}
use Rattle.ps_meaning.specs.declared.options.ExprIR.{ExprIR}
use Rattle.pu_base.specs.declared.arena.Node.{Node}
use Rattle.ps_rows.proofs.Steps.{fields-kinds, may-fault, some-kinds, table}
use Rattle.ps_zip.proofs.Named.{exprs-of-named}
use Rattle.ps_zip.specs.Zips.{IsZipError, KeepsZip, expr_kinds}

module _ (f : Node → Tree) (at : ℕ) (es : List ExprIR) (t : Frame) (out : Fields) (q : fields_of (named_trees f es) t.schema ≡ Some out) where
  pub select-frame : (cs : List Series) (h : ℕ) → KeepsZip (zipped false at (columns_at at (key_trees f es) (whole t))) (expr_kinds t.schema (key_trees f es)) cs h → IsFrame out cs h
  select-frame cs h k = record { kinds = some-kinds cs (kinds_of out) (k.kinds_are ∙ fields-kinds f t.schema es out q); heights = k.heights; small = k.small }

  pub select-gives : (F : Functions) (g : Frame) (cs : List Series) (h : ℕ) → KeepsZip (zipped false at (columns_at at (key_trees f es) (whole t))) (expr_kinds t.schema (key_trees f es)) cs h → g.schema ≡ out → g.rows ≡ rows_of h (column_values cs)
      → GivesFrame F at (select (named_trees f es)) (t ∷ []) g
  select-gives F g cs h k schema rows =
      let zip_is = ap (λ (ts : List Tree). zipped false at (columns_at at ts (whole t))) (exprs-of-named f es) in
      let schema_is : g.schema ≡ unwrap_or (fields_of (named_trees f es) t.schema) [] = schema ∙ ap (λ o. unwrap_or o []) (sym q) in
      let rows_are = rows ∙ sym k.rows ∙ sym (ap (λ z. z.rows) zip_is) in
      let none = sym (ap (λ z. z.broken) zip_is ∙ k.whole) in
      (whole g, inl (λ i. table (schema_is i) (rows_are i) (none i)), refl)

  pub select-faults : (F : Functions) (e : PolarsError) → IsZipError at (key_trees f es) (whole t) (zipped false at (columns_at at (key_trees f es) (whole t))) e → MayFault F at (select (named_trees f es)) (t ∷ []) e
  select-faults F e h =
      let same = sym (exprs-of-named f es) in
      may-fault F at (select (named_trees f es)) (t ∷ []) (exprs_of (named_trees f es)) (whole t) (zipped false at (columns_at at (exprs_of (named_trees f es)) (whole t))) broken (λ l. l) e
      (subst (λ (ts : List Tree). IsZipError at ts (whole t) (zipped false at (columns_at at ts (whole t))) e) same h)
    where
      broken : (c : Cause) → Contains (zipped false at (columns_at at (exprs_of (named_trees f es)) (whole t))).broken c → IsCaseBrokenBy F at (select (named_trees f es)) (whole t ∷ []) c
      broken c m =
          (table_of (unwrap_or (fields_of (named_trees f es) t.schema) []) (λ rows. rows) (zipped false at (columns_at at (exprs_of (named_trees f es)) (whole t))), inr (inl refl), m)
