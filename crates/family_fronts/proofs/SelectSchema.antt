-- Tables of a select: there is one over any input, and each has the schema of its expressions.
use Rattle.std.proofs.Common.{◌≡◌, ℕ, false, List, refl, ap, ◌∙◌, inl, inr}
use Rattle.ps_frame.specs.Functions.{Functions}
use Rattle.ps_frame.specs.Tables.{Table}
use Rattle.ps_frame.specs.Zip.{zipped}
use Rattle.ps_meaning.specs.Cases.{GivesBeforeCut, columns_at, first_table, out_schema, table_of}
use Rattle.ps_meaning.specs.Steps.{Named, exprs_of, select}

module _ (F : Functions) (at : ℕ) (es : List Named) (ts : List Table) where
  pub before_schema : (U : Table) → GivesBeforeCut F at (select es) ts U → U.schema ≡ out_schema F at (select es) ts
  before_schema U (inl e) = ap (λ (x : Table). x.schema) e
  before_schema U (inr (V, e, some, lost)) = ap (λ (x : Table). x.schema) lost ∙ ap (λ (x : Table). x.schema) e

  abbrev pub table_over : Table
  table_over = table_of (out_schema F at (select es) ts) (λ rows. rows) (zipped false at (columns_at at (exprs_of es) (first_table ts)))

  pub gives_over : GivesBeforeCut F at (select es) ts table_over
  gives_over = inl refl
