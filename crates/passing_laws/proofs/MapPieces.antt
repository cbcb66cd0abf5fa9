-- A map by a function that streams goes piece by piece: it answers row by row, up to the first fault.
use Rattle.std.proofs.Common.{◌≡◌, ℕ, List, [], ◌∷◌, ◌++◌, refl, sym, ap, subst, ◌∙◌, inl, append_assoc}
use Rattle.std.specs.Prelude.{Option, Some, None, true, cond, unwrap_or}
use Rattle.ps_frame.specs.Causes.{Cause}
use Rattle.ps_frame.specs.Functions.{Functions}
use Rattle.ps_frame.specs.Tables.{Fields, Frame, Row}
use Rattle.ps_frame.specs.Zip.{Zipped}
use Rattle.ps_meaning.specs.Cases.{answer_or_fault, function_cause, if_whole, stream_table, streamed, user_table}
use Rattle.ps_meaning.specs.Schemas.{output_schema, schema_or_empty}
use Rattle.ps_meaning.specs.Shape.{PhysicalKind, PhysicalNode, stream_map}
use Rattle.ps_meaning.specs.Steps.{user}
use Rattle.ps_world.specs.Passing.{GoesPiecewise}
use Rattle.passing_laws.proofs.ExactPieces.{exact-goes, gives-it}
use Rattle.passing_laws.proofs.ZipPieces.{table_with}

module _ (at : ℕ) (answer : Row → Option Frame) where
  -- one more row
  abbrev pub answered : Option Frame → Zipped → Zipped
  answered None z = record { rows = []; broken = function_cause at; lost = [] }
  answered (Some f) z = record { rows = f.rows ++ z.rows; broken = z.broken; lost = [] }

  pub answers : (r : Row) (rows : List Row) → streamed at answer (r ∷ rows) ≡ answered (answer r) (streamed at answer rows)
  answers r rows = by (answer r)
    where
      by : (x : Option Frame)
          → elim x [ None ↦ record { rows = []; broken = function_cause at; lost = [] } | Some f ↦ record { rows = f.rows ++ (streamed at answer rows).rows; broken = (streamed at answer rows).broken; lost = [] } ] ≡ answered x (streamed at answer rows)
      by None = refl
      by (Some f) = refl

  record Both (a rows : List Row) : Type 0 where
    pub given : (streamed at answer (a ++ rows)).rows ≡ (streamed at answer a).rows ++ (streamed at answer rows).rows
    pub ended : (streamed at answer (a ++ rows)).broken ≡ (streamed at answer rows).broken

  both : (a rows : List Row) → (streamed at answer a).broken ≡ [] → Both a rows
  both [] rows w = record { given = refl; ended = refl }
  both (r ∷ a) rows w = by (both a rows) (answer r) refl
    where
      by : ((streamed at answer a).broken ≡ [] → Both a rows) → (x : Option Frame) → answer r ≡ x → Both (r ∷ a) rows
      by rest None q = let z : function_cause at ≡ [] = ap (λ x. (answered x (streamed at answer a)).broken) (sym q) ∙ ap (λ (z : Zipped). z.broken) (sym (answers r a)) ∙ w in cc
      by rest (Some f) q =
          let z : (streamed at answer a).broken ≡ [] = ap (λ x. (answered x (streamed at answer a)).broken) (sym q) ∙ ap (λ (z : Zipped). z.broken) (sym (answers r a)) ∙ w in
          let more : streamed at answer (r ∷ (a ++ rows)) ≡ answered (Some f) (streamed at answer (a ++ rows)) = answers r (a ++ rows) ∙ ap (λ x. answered x (streamed at answer (a ++ rows))) q in
          let first : streamed at answer (r ∷ a) ≡ answered (Some f) (streamed at answer a) = answers r a ∙ ap (λ x. answered x (streamed at answer a)) q in
          let h = rest z in
          record {
            given =
                ap (λ (z : Zipped). z.rows) more ∙ ap (λ xs. f.rows ++ xs) h.given ∙ sym (append_assoc f.rows (streamed at answer a).rows (streamed at answer rows).rows)
                ∙ ap (λ xs. xs ++ (streamed at answer rows).rows) (ap (λ (z : Zipped). z.rows) (sym first));
            ended = ap (λ (z : Zipped). z.broken) more ∙ h.ended;
          }

maps : (F : Functions) (p : PhysicalNode) (s : Fields) (n : ℕ) → output_schema F (user n) (s ∷ []) ≡ Some p.schema → F.streams n ≡ true → GoesPiecewise F (record p { kind = stream_map (user n) }) s
maps F p s n same streams =
    exact-goes F (record p { kind = stream_map (user n) }) s (λ k rows causes. stream_table F p.origin n o (table_with s rows causes))
    (record {
      schema = λ k rows causes. ap (λ o. unwrap_or o []) same;
      none = λ k. (refl, refl);
      front = λ k a rows causes w. let h = both p.origin answer a rows w in λ i. table_with o (sym h.given i) (causes ++ sym h.ended i);
    })
    (record {
      into = λ k rows causes U c. c.2 ∙ gives-it (user_table F p.origin n o (table_with s rows causes)) c.0 c.1 ∙ by_streams rows causes;
      back = λ k rows causes. (stream_table F p.origin n o (table_with s rows causes), inl (sym (by_streams rows causes)), refl);
    })
  where
    o : Fields
    o = schema_or_empty F (user n) (s ∷ [])

    answer : Row → Option Frame
    answer r = F.answer n (record { schema = s; rows = r ∷ [] })

    by_streams : (rows : List Row) (causes : List Cause) → user_table F p.origin n o (table_with s rows causes) ≡ stream_table F p.origin n o (table_with s rows causes)
    by_streams rows causes = ap (λ b. cond b (stream_table F p.origin n o (table_with s rows causes)) (if_whole o causes (answer_or_fault p.origin o (F.answer n (record { schema = s; rows = rows }))))) streams

pub map-goes : (F : Functions) (p : PhysicalNode) (s : Fields) (n : ℕ) → p.kind ≡ stream_map (user n) → output_schema F (user n) (s ∷ []) ≡ Some p.schema → F.streams n ≡ true → GoesPiecewise F p s
map-goes F p s n is same streams = subst (λ (kd : PhysicalKind). GoesPiecewise F (record p { kind = kd }) s) (sym is) (maps F p s n same streams)
