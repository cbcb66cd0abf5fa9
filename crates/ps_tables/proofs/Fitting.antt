-- The values of a table's columns fit its schema.
use Rattle.std.proofs.Common.{◌≡◌, ℕ, zero, suc, List, [], ◌∷◌, length, replicate, sym, subst}
use Rattle.std.specs.Prelude.{IsTrue, map}
use Rattle.std.specs.List.{AllByRecursion}
use Rattle.ps_frame.specs.Frames.{IsFrame, column_values}
use Rattle.ps_frame.specs.Lawful.{FitsFrame, FitsKinds}
use Rattle.ps_frame.specs.Tables.{Frame, beside, rows_of}
use Rattle.ps_frame.specs.Series.{Series, all_fit}
use Rattle.ps_frame.specs.Values.{fits_kind}
use Rattle.ps_frame.specs.declared.value.DataType.{DataType}
use Rattle.ps_frame.specs.declared.value.Value.{Value}
use Rattle.ps_frame.proofs.Lists.{both}
use Rattle.ps_tables.specs.Columns.{AllFit}

no-kinds : (n : ℕ) → AllByRecursion (FitsKinds []) (replicate n [])
no-kinds zero = tt
no-kinds (suc n) = (tt, no-kinds n)

beside-fits : (k : DataType) (ks : List DataType) (vs : List Value) (rows : List (List Value)) → IsTrue (all_fit k vs) → AllByRecursion (FitsKinds ks) rows → AllByRecursion (FitsKinds (k ∷ ks)) (beside vs rows)
beside-fits k ks [] rows h p = tt
beside-fits k ks (v ∷ vs) [] h p = tt
beside-fits k ks (v ∷ vs) (row ∷ rows) h p = let parts = both (fits_kind k v) (all_fit k vs) h in ((parts.0, p.0), beside-fits k ks vs rows parts.1 p.1)

rows-fit : (n : ℕ) (cs : List Series) → AllFit cs → AllByRecursion (FitsKinds (map (λ (c : Series). c.kind) cs)) (rows_of n (column_values cs))
rows-fit n [] p = no-kinds n
rows-fit n (c ∷ cs) p = beside-fits c.kind (map (λ (c : Series). c.kind) cs) c.values (rows_of n (column_values cs)) p.0 (rows-fit n cs p.1)

pub frame-fits : (t : Frame) (cs : List Series) → IsFrame t.schema cs (length t.rows) → t.rows ≡ rows_of (length t.rows) (column_values cs) → AllFit cs → FitsFrame t
frame-fits t cs fields rows fit =
    subst (λ ks. AllByRecursion (FitsKinds ks) t.rows) fields.kinds (subst (λ rows. AllByRecursion (FitsKinds (map (λ (c : Series). c.kind) cs)) rows) (sym rows) (rows-fit (length t.rows) cs fit))
