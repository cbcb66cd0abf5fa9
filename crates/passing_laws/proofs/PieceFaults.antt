-- The fault part of the law of passing nodes: a cause that a piece may answer breaks the node, whatever its input turns out to mean.
use Rattle.std.proofs.Common.{◌≡◌, ℕ, zero, suc, ◌+◌, ◌≤◌, ◌<◌, List, [], ◌∷◌, ◌++◌, length, Option, Some, None, refl, sym, ap, subst, ◌∙◌, inl, inr, arith, append_assoc, length-append}
use Rattle.std.specs.Prelude.{Contains}
use Rattle.ps_frame.specs.Aggregates.{max_rows}
use Rattle.ps_frame.specs.Causes.{Cause}
use Rattle.ps_frame.specs.Functions.{Functions}
use Rattle.ps_frame.specs.Tables.{Fields, Row, Table}
use Rattle.ps_meaning.specs.Shape.{PhysicalBefore, PhysicalKind, PhysicalNode, as_step, equi_join, filter_node, group_by_node, in_memory_join, in_memory_map, in_memory_sink, in_memory_source, independent_select, multiplexer, negative_slice, ordered_union, reduce, select_node, simple_projection, stream_map, streaming_slice, tables_for, with_row_index, zip_node}
use Rattle.ps_meaning.specs.Cases.{rows_table}
use Rattle.ps_world.specs.Booking.{BeforeAfter, Computes, FaultsByPart, GivesFewer, StandsAt}
use Rattle.ps_world.specs.Laws.{BreaksWhatever, IsLargeWhatever, sent_by}
use Rattle.ps_world.specs.World.{Pipe, rows_in_order}
use Rattle.world_laws.proofs.InOrder.{contains_first}

-- the rows of a table that begins with what came
record Around (front a rows : List Row) : Type 0 where
  rest : List Row
  all : front ++ (a ++ rest) ≡ rows

around : (slots : List (Option (List Row))) (k : ℕ) (front a : List Row) → StandsAt slots k front a → (rest rows : List Row) → rows_in_order slots ++ rest ≡ rows → Around front a rows
around [] k front a h rest rows e = absurd h
around (None ∷ slots) k front a h rest rows e = absurd h
around (Some rs ∷ slots) zero front a h rest rows e =
    record { rest = rows_in_order slots ++ rest; all = ap (λ xs. xs ++ (a ++ (rows_in_order slots ++ rest))) h.0 ∙ ap (λ xs. xs ++ (rows_in_order slots ++ rest)) (sym h.1) ∙ sym (append_assoc rs (rows_in_order slots) rest) ∙ e }
around (Some rs ∷ slots) (suc k) front a (more, f, h) rest rows e =
    let v = around slots k more a h rest (rows_in_order slots ++ rest) refl in
    record { rest = v.rest; all = ap (λ xs. xs ++ (a ++ v.rest)) f ∙ append_assoc rs more (a ++ v.rest) ∙ ap (λ xs. rs ++ xs) v.all ∙ sym (append_assoc rs (rows_in_order slots) rest) ∙ e }

-- what computes looks at its input's tables as they are
tables-same : (F : Functions) (kind : PhysicalKind) → Computes kind → (Ts : List Table) → Ts ≡ tables_for F kind Ts
tables-same F (filter_node e) h Ts = refl
tables-same F (select_node es extends) h Ts = refl
tables-same F (simple_projection names) h Ts = refl
tables-same F (stream_map step) h Ts = refl
tables-same F (with_row_index name offset) h Ts = refl
tables-same F (streaming_slice offset n) h Ts = refl
tables-same F (negative_slice back n) h Ts = refl
tables-same F (in_memory_source t) h Ts = refl
tables-same F (independent_select es) h Ts = absurd h
tables-same F (reduce es) h Ts = refl
tables-same F in_memory_sink h Ts = refl
tables-same F (in_memory_map step) h Ts = refl
tables-same F ordered_union h Ts = refl
tables-same F (zip_node extend) h Ts = refl
tables-same F multiplexer h Ts = refl
tables-same F (group_by_node keys aggregates) h Ts = refl
tables-same F (equi_join o) h Ts = refl
tables-same F (in_memory_join o) h Ts = refl

module _ (F : Functions) (p : PhysicalNode) (s : Fields) (computes : Computes p.kind) (by_part : FaultsByPart F p s) (from : Pipe) (k : ℕ) (front a : List Row) (there : StandsAt from.got k front a) where
  pub piece-faults : (U : Table) (c : Cause) → BeforeAfter F p p.kind (length front) (rows_table s a) U → Contains U.broken c → BreaksWhatever F p (s ∷ []) (sent_by from ∷ []) c
  piece-faults U c g h [] e x = absurd x
  piece-faults U c g h (T ∷ []) e x =
      let v = around from.got k front a there x.0.rest T.rows x.0.begins in
      let w = by_part front a v.rest T.broken U c g h in
      let same : T.schema ≡ s = (let q : T.schema ∷ [] ≡ s ∷ [] = e in cc) in
      let table : record { schema = s; rows = front ++ (a ++ v.rest); broken = T.broken } ≡ T = λ i. record { schema = sym same i; rows = v.all i; broken = T.broken } in
      (w.0, subst (λ ts. PhysicalBefore F p (as_step p.kind) ts w.0) (tables-same F p.kind computes (T ∷ [])) (subst (λ t. PhysicalBefore F p (as_step p.kind) (t ∷ []) w.0) table w.1), w.2)
  piece-faults U c g h (T ∷ V ∷ Ts) e x = absurd x.1

passes-limit : (m u a n f r : ℕ) → m < u → u ≤ a → n ≡ f + (a + r) → m < n
passes-limit m u a n f r h k e = omega arith

-- a piece that gives too many rows has an input with too many
module _ (F : Functions) (p : PhysicalNode) (s : Fields) (fewer : GivesFewer F p s) (from : Pipe) (k : ℕ) (front a : List Row) (there : StandsAt from.got k front a) where
  pub piece-overflows : (U : Table) → BeforeAfter F p p.kind (length front) (rows_table s a) U → max_rows < length U.rows → IsLargeWhatever F p (s ∷ []) (sent_by from ∷ [])
  piece-overflows U g h [] e x = absurd x
  piece-overflows U g h (T ∷ []) e x =
      let v = around from.got k front a there x.0.rest T.rows x.0.begins in
      let q : length T.rows ≡ length front + (length a + length v.rest) = ap length (sym v.all) ∙ length-append front (a ++ v.rest) ∙ ap (λ m. length front + m) (length-append a v.rest) in
      inr (inl (T, contains_first T [], passes-limit max_rows (length U.rows) (length a) (length T.rows) (length front) (length v.rest) h (fewer (length front) a U g) q))
  piece-overflows U g h (T ∷ V ∷ Ts) e x = absurd x.1
