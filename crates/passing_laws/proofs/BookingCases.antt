-- Row indexes and slices don't go piece by piece where each piece is taken alone: over one row and one row.
use Rattle.std.proofs.Common.{◌≡◌, ℕ, [], ◌∷◌, List, Option, Some, None, refl, ap, ◌∙◌, inl, append-nil}
use Rattle.ps_frame.specs.Functions.{Functions}
use Rattle.ps_frame.specs.Tables.{Fields, Frame, Row, Table}
use Rattle.ps_frame.specs.Zip.{Zipped}
use Rattle.ps_meaning.specs.Cases.{cut_table, stream_table, streamed, with_row_index}
use Rattle.ps_world.specs.Booking.{counter, second_row}
use Rattle.ps_world.specs.Passing.{GoesPiecewise}
use Rattle.passing_laws.proofs.ExactPieces.{gives-it}
use Rattle.passing_laws.proofs.MapPieces.{answered, answers}
use Rattle.passing_laws.proofs.ZipPieces.{table_with}

abbrev one_row : List Row
one_row = [] ∷ []

abbrev two_rows : List Row
two_rows = [] ∷ [] ∷ []

pub index-restarts : (F : Functions) → GoesPiecewise F counter [] → ⊥
index-restarts F g =
    let T = table_with [] one_row [] in
    let U = with_row_index 0 counter.schema 0 T in
    let c = g.over_front one_row U.rows T U refl refl (U, (U, inl refl, refl), refl, refl, refl) (U, inl refl, refl) in
    let e = ap (λ (t : Table). t.rows) (c.2 ∙ gives-it (with_row_index 0 counter.schema 0 (table_with [] two_rows [])) c.0 c.1) in
    cc

pub slice-restarts : (F : Functions) → GoesPiecewise F second_row [] → ⊥
slice-restarts F g =
    let T = table_with [] one_row [] in
    let U = cut_table 1 1 T in
    let c = g.over_front one_row [] T U refl refl (U, (U, inl refl, refl), refl, refl, refl) (U, inl refl, refl) in
    let e = ap (λ (t : Table). t.rows) (c.2 ∙ gives-it (cut_table 1 1 (table_with [] two_rows [])) c.0 c.1) in
    cc

-- A map by a function that streams: a row that faults, and one whose answer may be too long. The second alone gives its rows, and both together none.
module _ (F : Functions) (n : ℕ) (s o : Fields) (at : ℕ) where
  abbrev answer : Row → Option Frame
  answer r = F.answer n (record { schema = s; rows = r ∷ [] })

  pub second-alone : (r : Row) (big : Frame) → F.answer n (record { schema = s; rows = r ∷ [] }) ≡ Some big → (stream_table F at n o (table_with s (r ∷ []) [])).rows ≡ big.rows
  second-alone r big long = ap (λ (z : Zipped). z.rows) (answers at answer r []) ∙ ap (λ x. (answered at answer x (streamed at answer [])).rows) long ∙ append-nil big.rows

  pub both-none : (q r : Row) → F.answer n (record { schema = s; rows = q ∷ [] }) ≡ None → (stream_table F at n o (table_with s (q ∷ r ∷ []) [])).rows ≡ []
  both-none q r faults = ap (λ (z : Zipped). z.rows) (answers at answer q (r ∷ [])) ∙ ap (λ x. (answered at answer x (streamed at answer (r ∷ []))).rows) faults
