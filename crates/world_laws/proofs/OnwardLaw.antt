-- The first part of the law of every passing node, also of one that looks at how many rows came before, or that is full before its input ends.
use Rattle.std.proofs.Common.{◌≡◌, ℕ, zero, suc, ◌+◌, List, [], ◌∷◌, ◌++◌, length, Option, Some, None, Bool, true, false, refl, sym, ap, subst, ◌∙◌, inl, inr, append_assoc, append-nil}
use Rattle.std.specs.Prelude.{IsTrue}
use Rattle.ps_frame.specs.Functions.{Functions}
use Rattle.ps_frame.specs.Tables.{Fields, IsWhole, Row, Table}
use Rattle.ps_meaning.specs.Shape.{PhysicalCase, PhysicalKind, PhysicalNode, equi_join, filter_node, group_by_node, in_memory_join, in_memory_map, in_memory_sink, in_memory_source, independent_select, multiplexer, negative_slice, ordered_union, reduce, select_node, simple_projection, stream_map, streaming_slice, with_row_index, zip_node}
use Rattle.ps_world.specs.Booking.{CaseAfter, EndsAfter, GivesAfter, GoesOn, HoldsAfter, GivesNoMore, IsPlain, PassesAfter}
use Rattle.ps_world.specs.Laws.{sent_by, Extends, Justified}
use Rattle.ps_world.specs.Passing.{in_front, GoesPiecewise, one_port}
use Rattle.ps_world.specs.World.{Pipe, rows_in_order}

-- rows behind a list that is as long as all
none-behind : (xs rest : List Row) → xs ++ rest ≡ xs → rest ≡ []
none-behind [] rest e = e
none-behind (x ∷ xs) rest e = none-behind xs rest (let q : xs ++ rest ≡ xs = cc in q)

module _ (F : Functions) (p : PhysicalNode) (s : Fields) (law : GoesOn F p s) where
  -- a table over T, behind so many rows, that begins with these rows
  record Begun (k : ℕ) (T : Table) (rows : List Row) : Type 0 where
    out : Table
    schema : out.schema ≡ p.schema
    case : CaseAfter F p p.kind k T out
    rest : List Row
    begins : rows ++ rest ≡ out.rows

  begun-by-none : (k : ℕ) (T : Table) → T.schema ≡ s → Begun k T []
  begun-by-none k T e = let u = law.total k T e in record { out = u.0; schema = u.2; case = u.1; rest = u.0.rows; begins = refl }

  -- rows in front of the rest of a table
  abbrev rest_of : Table → List Row → Table
  rest_of T rows = record { schema = T.schema; rows = rows; broken = T.broken }

  in-place : (T : Table) (a xs rest : List Row) → (a ++ xs) ++ rest ≡ T.rows → in_front a (rest_of T (xs ++ rest)) ≡ T
  in-place T a xs rest q = ap (rest_of T) (sym (append_assoc a xs rest) ∙ q)

  begun : (k : ℕ) (is os : List (Option (List Row))) → PassesAfter (GivesAfter F p s) k is os → (T : Table) → T.schema ≡ s → (rest : List Row) → rows_in_order is ++ rest ≡ T.rows → Begun k T (rows_in_order os)
  begun k is [] h T e rest q = begun-by-none k T e
  begun k [] (o ∷ os) h T e rest q = absurd h
  begun k (None ∷ is) (o ∷ os) h T e rest q = absurd h
  begun k (Some a ∷ is) (None ∷ os) h T e rest q = begun-by-none k T e
  begun k (Some a ∷ is) (Some b ∷ os) h T e rest q =
      let R : Table = rest_of T (rows_in_order is ++ rest) in
      let v = begun (k + length a) is os h.1 R e rest refl in
      record {
        out = in_front b v.out;
        schema = v.schema;
        case = subst (λ t. CaseAfter F p p.kind k t (in_front b v.out)) (in-place T a (rows_in_order is) rest q) (law.over_front k a b R v.out e v.schema h.0 v.case);
        rest = v.rest;
        begins = append_assoc b (rows_in_order os) v.rest ∙ ap (λ xs. b ++ xs) v.begins;
      }

  -- where all was handed in, the answers are all
  record Done (k : ℕ) (T : Table) (rows : List Row) : Type 0 where
    out : Table
    schema : out.schema ≡ p.schema
    case : CaseAfter F p p.kind k T out
    whole : IsWhole out
    all : rows ≡ out.rows

  all-passed : (c : Bool) (k : ℕ) (is os : List (Option (List Row))) → EndsAfter (GivesAfter F p s) (GivesNoMore p.kind) c k is os → (T : Table) → T.schema ≡ s → (rest : List Row) → rows_in_order is ++ rest ≡ T.rows → (IsTrue c → (rest ≡ []) × IsWhole T) → Done k T (rows_in_order os)
  all-passed c k is [] (inl h) T e rest q w =
      let u = law.over_none k in
      let same : record { schema = s; rows = []; broken = [] } ≡ T = λ i. record { schema = sym e i; rows = (sym (w h.0).0 ∙ ap (λ js. rows_in_order js ++ rest) (sym h.1) ∙ q) i; broken = sym (w h.0).1 i } in
      record { out = u.0; schema = u.3; case = subst (λ t. CaseAfter F p p.kind k t u.0) same u.1; whole = u.2; all = sym u.4 }
  all-passed c k is [] (inr h) T e rest q w = let u = law.over_full k T e h in record { out = u.0; schema = u.3; case = u.1; whole = u.2; all = sym u.4 }
  all-passed c k [] (o ∷ os) h T e rest q w = absurd h
  all-passed c k (None ∷ is) (o ∷ os) h T e rest q w = absurd h
  all-passed c k (Some a ∷ is) (None ∷ os) h T e rest q w = absurd h
  all-passed c k (Some a ∷ is) (Some b ∷ os) h T e rest q w =
      let R : Table = rest_of T (rows_in_order is ++ rest) in
      let v = all-passed c (k + length a) is os h.1 R e rest refl w in
      record {
        out = in_front b v.out;
        schema = v.schema;
        case = subst (λ t. CaseAfter F p p.kind k t (in_front b v.out)) (in-place T a (rows_in_order is) rest q) (law.over_front k a b R v.out e v.schema h.0 v.case);
        whole = v.whole;
        all = ap (λ xs. b ++ xs) v.all;
      }

  of-done : (T : Table) (to : Pipe) → T.schema ≡ s → Done 0 T (rows_in_order to.got) → (U : Table) × (U.schema ≡ p.schema) × PhysicalCase F p (T ∷ []) U × ((port : ℕ) → Extends (one_port to port) U)
  of-done T to e d =
      (d.out, d.schema, law.starts T d.out e d.case, elim [ zero ↦ record { rest = []; begins = append-nil (rows_in_order to.got) ∙ d.all; ends = λ c. (d.all, d.whole) } | suc k ↦ record { rest = d.out.rows; begins = refl; ends = λ c. absurd (let f : IsTrue false = c in cc) } ])

  of-begun : (T : Table) (to : Pipe) (partial : IsTrue (sent_by to).is_complete → ⊥) → T.schema ≡ s → Begun 0 T (rows_in_order to.got) → (U : Table) × (U.schema ≡ p.schema) × PhysicalCase F p (T ∷ []) U × ((port : ℕ) → Extends (one_port to port) U)
  of-begun T to partial e d =
      (d.out, d.schema, law.starts T d.out e d.case, elim [ zero ↦ record { rest = d.rest; begins = d.begins; ends = λ c. absurd (partial c) } | suc k ↦ record { rest = d.out.rows; begins = refl; ends = λ c. absurd (let f : IsTrue false = c in cc) } ])

  module _ (from to : Pipe) (holds : HoldsAfter F p s from to) where
    by-end : (T : Table) → T.schema ≡ s → Extends (sent_by from) T → (b : Bool) → (sent_by to).is_complete ≡ b → (U : Table) × (U.schema ≡ p.schema) × PhysicalCase F p (T ∷ []) U × ((port : ℕ) → Extends (one_port to port) U)
    by-end T e x true c =
        of-done T to e
        (all-passed (sent_by from).is_complete 0 from.got to.got (holds.completes c) T e x.rest x.begins (λ h. let w = x.ends h in (none-behind (rows_in_order from.got) x.rest (x.begins ∙ sym w.0), w.1)))
    by-end T e x false c = of-begun T to (λ y. let f : IsTrue false = subst IsTrue c y in cc) e (begun 0 from.got to.got holds.answers T e x.rest x.begins)

    pub onward-justified : Justified F p (s ∷ []) (sent_by from ∷ []) (one_port to)
    onward-justified [] e x = absurd x
    onward-justified (T ∷ []) e x = by-end T (let q : T.schema ∷ [] ≡ s ∷ [] = e in cc) x.0 (sent_by to).is_complete refl
    onward-justified (T ∷ U ∷ Ts) e x = absurd x.1

-- what doesn't look at the rows before goes on where it goes piece by piece
module _ (F : Functions) (p : PhysicalNode) (s : Fields) where
  pub goes-on : (kind : PhysicalKind) → IsPlain kind → GoesPiecewise F (record p { kind = kind }) s → GoesOn F (record p { kind = kind }) s
  goes-on (filter_node e) h g = record { schemas = λ k. g.schemas; starts = λ T U q c. c; total = λ k. g.total; over_none = λ k. g.over_none; over_front = λ k. g.over_front; over_full = λ k T q f. absurd f }
  goes-on (select_node es extends) h g = record { schemas = λ k. g.schemas; starts = start extends; total = λ k. g.total; over_none = λ k. g.over_none; over_front = λ k. g.over_front; over_full = λ k T q f. absurd f }
    where
      start : (b : Bool) (T U : Table) → T.schema ≡ s → PhysicalCase F (record p { kind = select_node es b }) (T ∷ []) U → PhysicalCase F (record p { kind = select_node es b }) (T ∷ []) U
      start b T U q c = c
  goes-on (simple_projection names) h g = record { schemas = λ k. g.schemas; starts = λ T U q c. c; total = λ k. g.total; over_none = λ k. g.over_none; over_front = λ k. g.over_front; over_full = λ k T q f. absurd f }
  goes-on (stream_map step) h g = record { schemas = λ k. g.schemas; starts = λ T U q c. c; total = λ k. g.total; over_none = λ k. g.over_none; over_front = λ k. g.over_front; over_full = λ k T q f. absurd f }
  goes-on (in_memory_source t) h g = absurd h
  goes-on (with_row_index name offset) h g = absurd h
  goes-on (independent_select es) h g = absurd h
  goes-on (reduce es) h g = absurd h
  goes-on (streaming_slice offset n) h g = absurd h
  goes-on (negative_slice back n) h g = absurd h
  goes-on in_memory_sink h g = absurd h
  goes-on (in_memory_map step) h g = absurd h
  goes-on ordered_union h g = absurd h
  goes-on (zip_node extend) h g = absurd h
  goes-on multiplexer h g = absurd h
  goes-on (group_by_node keys aggregates) h g = absurd h
  goes-on (equi_join o) h g = absurd h
  goes-on (in_memory_join o) h g = absurd h
