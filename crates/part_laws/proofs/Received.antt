-- What is found over a morsel breaks the node, whatever its input turns out to mean; or that has too many rows.
use Rattle.std.proofs.Common.{◌≡◌, ℕ, zero, suc, ◌<◌, ◌⊎◌, List, [], ◌∷◌, ◌++◌, length, Option, Some, None, sym, ap, subst, ◌∙◌, inl, inr, arith, append_assoc, append-nil, length-append}
use Rattle.std.specs.Prelude.{IsTrue}
use Rattle.ps_frame.specs.Aggregates.{max_rows}
use Rattle.ps_frame.specs.Causes.{Cause}
use Rattle.ps_frame.specs.Functions.{Functions}
use Rattle.ps_frame.specs.Tables.{Fields, Row, Table}
use Rattle.ps_meaning.specs.Cases.{rows_table, schemas_of}
use Rattle.ps_meaning.specs.Shape.{PhysicalNode}
use Rattle.ps_turns.specs.Results.{IsBrokenOver, rows_fault}
use Rattle.ps_world.specs.Booking.{StandsAt}
use Rattle.ps_world.specs.Laws.{BreaksWhatever, Extends, IsLargeWhatever, Sent}
use Rattle.ps_world.specs.World.{rows_in_order}
use Rattle.passing_laws.proofs.ZipPieces.{table_with}
use Rattle.part_laws.specs.Parts.{AreTooMany, BreaksOver, IsShownOver, ShowsParts}
use Rattle.world_laws.proofs.InOrder.{contains_first}

-- rows among those that a port has sent
pub record Around (front a rows : List Row) : Type 0 where
  pub rest : List Row
  pub all : front ++ (a ++ rest) ≡ rows

pub stands-around : (slots : List (Option (List Row))) (k : ℕ) (front a : List Row) → StandsAt slots k front a → Around front a (rows_in_order slots)
stands-around [] k front a h = absurd h
stands-around (None ∷ slots) k front a h = absurd h
stands-around (Some rs ∷ slots) zero front a h = record { rest = rows_in_order slots; all = ap (λ xs. xs ++ (a ++ rows_in_order slots)) h.0 ∙ ap (λ xs. xs ++ rows_in_order slots) (sym h.1) }
stands-around (Some rs ∷ slots) (suc k) front a (more, f, h) =
    let v = stands-around slots k more a h in
    record { rest = v.rest; all = ap (λ xs. xs ++ (a ++ v.rest)) f ∙ append_assoc rs more (a ++ v.rest) ∙ ap (λ xs. rs ++ xs) v.all }

-- all rows are among themselves
pub all-around : (rows : List Row) → Around [] rows rows
all-around rows = record { rest = []; all = append-nil rows }

pub same-schema : (s : Fields) (T : Table) → schemas_of (T ∷ []) ≡ s ∷ [] → T.schema ≡ s
same-schema s T e = let q : T.schema ∷ [] ≡ s ∷ [] = e in cc

module _ (F : Functions) (p : PhysicalNode) (s : Fields) (sent : Sent) where
  abbrev pub IsShownWhatever : Cause → Type 0
  IsShownWhatever c = BreaksWhatever F p (s ∷ []) (sent ∷ []) c ⊎ (c ≡ rows_fault p) × IsLargeWhatever F p (s ∷ []) (sent ∷ [])

  large : (front a : List Row) → Around front a sent.rows → max_rows < length a → IsLargeWhatever F p (s ∷ []) (sent ∷ [])
  large front a v h [] e x = absurd x
  large front a v h (T ∷ []) e x =
      let b = x.0.begins in
      let q = ap length (sym v.all) in
      let r = ap length (sym b) in
      let l = length-append front (a ++ v.rest) in
      let m = length-append a v.rest in
      let n = length-append sent.rows x.0.rest in
      inr (inl (T, contains_first T [], omega arith))
  large front a v h (T ∷ V ∷ Ts) e x = absurd x.1

  breaks : (front a : List Row) (c : Cause) → Around front a sent.rows → ((front rest : List Row) (causes : List Cause) → BreaksOver F p (table_with s (front ++ (a ++ rest)) causes) c) → BreaksWhatever F p (s ∷ []) (sent ∷ []) c
  breaks front a c v all [] e x = absurd x
  breaks front a c v all (T ∷ []) e x =
      let more = v.rest ++ x.0.rest in
      let rows : front ++ (a ++ more) ≡ T.rows = ap (λ xs. front ++ xs) (sym (append_assoc a v.rest x.0.rest)) ∙ sym (append_assoc front (a ++ v.rest) x.0.rest) ∙ ap (λ xs. xs ++ x.0.rest) v.all ∙ x.0.begins in
      let table : table_with s (front ++ (a ++ more)) T.broken ≡ T = λ i. record { schema = sym (same-schema s T e) i; rows = rows i; broken = T.broken } in
      subst (λ t. BreaksOver F p t c) table (all front more T.broken)
  breaks front a c v all (T ∷ V ∷ Ts) e x = absurd x.1

  -- what is found over a morsel among those that were sent
  pub shown-whatever : ShowsParts F p s → (front a : List Row) → Around front a sent.rows → (c : Cause) → IsBrokenOver F p (rows_table s a ∷ []) c → IsShownWhatever c
  shown-whatever shows front a v c m = by (shows a c m)
    where
      by : ((front rest : List Row) (causes : List Cause) → BreaksOver F p (table_with s (front ++ (a ++ rest)) causes) c) ⊎ AreTooMany p a c → IsShownWhatever c
      by (inl all) = inl (breaks front a c v all)
      by (inr many) = inr (many.0, large front a v many.1)

  -- what was sent is complete, and its rows are these
  pub is-table : (T : Table) → T.schema ≡ s → Extends sent T → IsTrue sent.is_complete → rows_table s sent.rows ≡ T
  is-table T e x complete = let h = x.ends complete in λ i. record { schema = sym e i; rows = h.0 i; broken = sym h.1 i }

  -- what is shown over all rows of a complete input
  pub shown-complete : IsTrue sent.is_complete → (c : Cause) → IsShownOver F p (rows_table s sent.rows) sent.rows c → IsShownWhatever c
  shown-complete complete c (inl b) = inl breaks-it
    where
      breaks-it : BreaksWhatever F p (s ∷ []) (sent ∷ []) c
      breaks-it [] e x = absurd x
      breaks-it (T ∷ []) e x = subst (λ t. BreaksOver F p t c) (is-table T (same-schema s T e) x.0 complete) b
      breaks-it (T ∷ V ∷ Ts) e x = absurd x.1
  shown-complete complete c (inr many) = inr (many.0, large [] sent.rows (all-around sent.rows) many.1)
