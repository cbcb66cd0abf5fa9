-- A piece with too many rows says that its node is large, whatever its input turns out to mean: what a lawful function gives row by row is its answer to these rows at once.
use Rattle.std.proofs.Common.{◌≡◌, ℕ, zero, suc, ◌<◌, ◌⊎◌, true, List, [], ◌∷◌, ◌++◌, length, Option, Some, None, refl, sym, ap, subst, ◌∙◌, inl, inr, arith, append_assoc, append-nil}
use Rattle.std.specs.Prelude.{cond, slice_get}
use Rattle.ps_frame.specs.Aggregates.{max_rows}
use Rattle.ps_frame.specs.Functions.{Functions, IsLawful}
use Rattle.ps_frame.specs.Lawful.{stacked, stacked_answers}
use Rattle.ps_frame.specs.Tables.{Fields, Frame, Row, Table}
use Rattle.ps_frame.specs.Zip.{Zipped}
use Rattle.ps_meaning.specs.Cases.{answer_or_fault, if_whole, rows_table, stream_table, streamed, user_table}
use Rattle.ps_meaning.specs.Meaning.{HasLargeAnswer}
use Rattle.ps_meaning.specs.Schemas.{schema_or_empty}
use Rattle.ps_meaning.specs.Shape.{PhysicalKind, PhysicalNode, Shape, filter_node, select_node, simple_projection, stream_map, with_row_index}
use Rattle.ps_meaning.specs.Sound.{HasFitParameters, IsFunctionStep, IsSound, input_schemas}
use Rattle.ps_meaning.specs.Steps.{Step, user}
use Rattle.ps_world.specs.Booking.{BeforeAfter, Computes, NeverGrows, StandsAt}
use Rattle.ps_world.specs.Laws.{IsLargeWhatever, sent_by}
use Rattle.ps_world.specs.World.{Pipe, rows_in_order}
use Rattle.passing_laws.proofs.ExactPieces.{gives-it}
use Rattle.passing_laws.proofs.MapPieces.{answered, answers}
use Rattle.passing_laws.proofs.PieceFaults.{piece-overflows}
use Rattle.passing_laws.proofs.SoundPieces.{sound-fewer}
use Rattle.passing_laws.proofs.ZipPieces.{table_with}

-- what stands under a number stands behind the rows of the numbers before
stands_within : (slots : List (Option (List Row))) (k : ℕ) (front a : List Row) → StandsAt slots k front a → (rest : List Row) × (rows_in_order slots ≡ front ++ (a ++ rest))
stands_within [] k front a h = absurd h
stands_within (None ∷ slots) k front a h = absurd h
stands_within (Some rs ∷ slots) zero front a h = (rows_in_order slots, ap (λ xs. xs ++ rows_in_order slots) h.1 ∙ ap (λ xs. xs ++ (a ++ rows_in_order slots)) (sym h.0))
stands_within (Some rs ∷ slots) (suc k) front a (more, f, h) =
    let v = stands_within slots k more a h in
    (v.0, ap (λ xs. rs ++ xs) v.1 ∙ sym (append_assoc rs more (a ++ v.0)) ∙ ap (λ xs. xs ++ (a ++ v.0)) (sym f))

-- and of a table that begins with all that came there is more behind it
begins_within : (front a came more rest rows : List Row) → came ≡ front ++ (a ++ more) → came ++ rest ≡ rows → front ++ (a ++ (more ++ rest)) ≡ rows
begins_within front a came more rest rows e b = ap (λ xs. front ++ xs) (sym (append_assoc a more rest)) ∙ sym (append_assoc front (a ++ more) rest) ∙ ap (λ xs. xs ++ rest) (sym e) ∙ b

-- The rows before the first that faults: the function's answer to them at once is what it gives row by row.
module _ (F : Functions) (laws : IsLawful F) (n : ℕ) (streams : F.streams n ≡ true) (s : Fields) (at : ℕ) where
  abbrev answer : Row → Option Frame
  answer r = F.answer n (record { schema = s; rows = r ∷ [] })

  record AtOnce (rows : List Row) : Type 0 where
    pub part : List Row
    pub after : List Row
    pub all : part ++ after ≡ rows
    pub frame : Frame
    pub answers : F.answer n (record { schema = s; rows = part }) ≡ Some frame
    pub given : frame.rows ≡ (streamed at answer rows).rows

  at-once : (rows : List Row) → ((streamed at answer rows).rows ≡ []) ⊎ AtOnce rows
  at-once [] = inl refl
  at-once (r ∷ rows) = by (at-once rows) (answer r) refl
    where
      step : (x : Option Frame) → answer r ≡ x → (streamed at answer (r ∷ rows)).rows ≡ (answered at answer x (streamed at answer rows)).rows
      step x e = ap (λ (z : Zipped). z.rows) (answers at answer r rows ∙ ap (λ y. answered at answer y (streamed at answer rows)) e)

      by : ((streamed at answer rows).rows ≡ []) ⊎ AtOnce rows → (x : Option Frame) → answer r ≡ x → ((streamed at answer (r ∷ rows)).rows ≡ []) ⊎ AtOnce (r ∷ rows)
      by h None e = inl (step None e)
      by (inl none) (Some f) e =
          inr (record { part = r ∷ []; after = rows; all = refl; frame = f; answers = e; given = sym (step (Some f) e ∙ ap (λ xs. f.rows ++ xs) none ∙ append-nil f.rows) })
      by (inr h) (Some f) e =
          inr
          (record {
            part = r ∷ h.part;
            after = h.after;
            all = ap (λ xs. r ∷ xs) h.all;
            frame = stacked f h.frame;
            answers = laws.streams_parts n (record { schema = s; rows = r ∷ [] }) (record { schema = s; rows = h.part }) streams refl ∙ (λ i. stacked_answers (e i) (h.answers i));
            given = ap (λ xs. f.rows ++ xs) h.given ∙ sym (step (Some f) e);
          })

  -- too many rows are an answer with too many
  none-long : (xs : List Row) → xs ≡ [] → max_rows < length xs → ⊥
  none-long xs e h = let z : length xs ≡ 0 = ap length e in omega (arith, z)

  large-answer : (front a rest : List Row) (T : Table) → T.schema ≡ s → front ++ (a ++ rest) ≡ T.rows → max_rows < length (streamed at answer a).rows → HasLargeAnswer F n T
  large-answer front a rest T same all long = by (at-once a)
    where
      by : ((streamed at answer a).rows ≡ []) ⊎ AtOnce a → HasLargeAnswer F n T
      by (inl none) = absurd (none-long (streamed at answer a).rows none long)
      by (inr h) =
          record {
            streams = streams;
            before = front;
            part = h.part;
            after = h.after ++ rest;
            rows = sym all ∙ ap (λ xs. front ++ (xs ++ rest)) (sym h.all) ∙ ap (λ xs. front ++ xs) (append_assoc h.part h.after rest);
            answer = h.frame;
            answers = ap (λ x. F.answer n (record { schema = x; rows = h.part })) same ∙ h.answers;
            large = subst (λ xs. max_rows < length xs) (sym h.given) long;
          }

-- a piece behind these rows that gives too many says that the node is large
abbrev pub IsLargeByPart : Functions → PhysicalNode → Fields → Pipe → Type 0
IsLargeByPart F p s from =
    (k : ℕ) (front a : List Row) → StandsAt from.got k front a → (U : Table) → BeforeAfter F p p.kind (length front) (rows_table s a) U → max_rows < length U.rows → IsLargeWhatever F p (s ∷ []) (sent_by from ∷ [])

module _ (F : Functions) (laws : IsLawful F) (p : PhysicalNode) (s : Fields) (from : Pipe) where
  maps-large : (n : ℕ) → F.streams n ≡ true → IsLargeByPart F (record p { kind = stream_map (user n) }) s from
  maps-large n streams k front a stands U before long = by
    where
      o : Fields
      o = schema_or_empty F (user n) (s ∷ [])

      by_streams : user_table F p.origin n o (table_with s a []) ≡ stream_table F p.origin n o (table_with s a [])
      by_streams = ap (λ b. cond b (stream_table F p.origin n o (table_with s a [])) (if_whole o [] (answer_or_fault p.origin o (F.answer n (record { schema = s; rows = a }))))) streams

      is_streamed : U ≡ stream_table F p.origin n o (table_with s a [])
      is_streamed = gives-it (user_table F p.origin n o (table_with s a [])) U before ∙ by_streams

      by : IsLargeWhatever F (record p { kind = stream_map (user n) }) (s ∷ []) (sent_by from ∷ [])
      by [] e x = absurd x
      by (T ∷ []) e x =
          let v = stands_within from.got k front a stands in
          let same : T.schema ≡ s = (let q : T.schema ∷ [] ≡ s ∷ [] = e in cc) in
          let all = begins_within front a (rows_in_order from.got) v.0 x.0.rest T.rows v.1 x.0.begins in
          inr (inr (large-answer F laws n streams s p.origin front a (v.0 ++ x.0.rest) T same all (subst (λ (t : Table). max_rows < length t.rows) is_streamed long)))
      by (T ∷ V ∷ Ts) e x = absurd x.1

  map-large : (step : Step) → IsFunctionStep F step → IsLargeByPart F (record p { kind = stream_map step }) s from
  map-large (user n) h = maps-large n h.1
  map-large step h = absurd h

-- what is asked of the functions for a kind: of a map's, their laws
abbrev pub AreLawfulFor : Functions → PhysicalKind → Type 0
AreLawfulFor F (stream_map step) = IsLawful F
AreLawfulFor F kind = Unit {0}

pub lawful-for : (F : Functions) (kind : PhysicalKind) → Computes kind → IsLawful F → AreLawfulFor F kind
lawful-for F (stream_map step) h laws = laws
lawful-for F (filter_node e) h laws = tt
lawful-for F (select_node es extends) h laws = tt
lawful-for F (simple_projection ns) h laws = tt
lawful-for F (with_row_index name offset) h laws = tt
lawful-for F kind h laws = absurd h

pub sound-large : (F : Functions) (shape : Shape) (n : ℕ) (p : PhysicalNode) (s : Fields) → IsSound F shape → slice_get shape n ≡ Some p → Computes p.kind → AreLawfulFor F p.kind → input_schemas shape p ≡ s ∷ [] → (from : Pipe) → IsLargeByPart F p s from
sound-large F shape n p s sound there h laws reads from = by p.kind refl h laws
  where
    fewer : NeverGrows p.kind → IsLargeByPart F p s from
    fewer short k front a stands U before long = piece-overflows F p s (sound-fewer F shape n p s sound there short reads) from k front a stands U before long

    by : (kind : PhysicalKind) → p.kind ≡ kind → Computes kind → AreLawfulFor F kind → IsLargeByPart F p s from
    by (stream_map step) k c l =
        let is : record p { kind = stream_map step } ≡ p = λ i. record p { kind = sym k i } in
        subst (λ q. IsLargeByPart F q s from) is (map-large F l p s from step (subst (HasFitParameters F) k (sound.0 n p there).parameters))
    by (filter_node e) k c l = fewer (subst NeverGrows (sym k) tt)
    by (select_node es extends) k c l = fewer (subst NeverGrows (sym k) tt)
    by (simple_projection ns) k c l = fewer (subst NeverGrows (sym k) tt)
    by (with_row_index name offset) k c l = fewer (subst NeverGrows (sym k) tt)
    by kind k c l = absurd c
