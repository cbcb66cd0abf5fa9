-- For each piece of a streaming node that is out in a reached world something may be handed in.
use Rattle.std.proofs.Common.{◌≡◌, ℕ, false, List, [], ◌∷◌, Some, refl, sym, ap, subst, ◌∙◌, inl}
use Rattle.std.specs.Prelude.{Contains, slice_get}
use Rattle.ps_frame.specs.Functions.{Functions}
use Rattle.ps_frame.specs.Tables.{Fields, Row}
use Rattle.ps_frame.specs.Zip.{zipped}
use Rattle.ps_meaning.specs.Cases.{columns_at, out_schema, table_of}
use Rattle.ps_frame.specs.Tables.{no_rows}
use Rattle.ps_meaning.specs.Shape.{Shape, independent_select}
use Rattle.ps_meaning.specs.Sound.{IsSound, input_schemas}
use Rattle.ps_meaning.specs.Steps.{Named, exprs_of, select}
use Rattle.ps_options.specs.declared.options.Options.{Options}
use Rattle.ps_turns.specs.Results.{IsResult, IsResultOf}
use Rattle.ps_turns.specs.Tables.{whole_tables}
use Rattle.ps_turns.specs.Tasks.{Answer, Piece, Task, good}
use Rattle.ps_world.specs.Booking.{IsPassing}
use Rattle.ps_world.specs.Opening.{Reaches, opening}
use Rattle.ps_world.specs.World.{Node, World, shape_of}
use Rattle.world_claims.proofs.ReachedFacts.{known_reached}
use Rattle.world_claims.specs.Numbering.{Known}
use Rattle.world_facts.proofs.ClaimedOnce.{replay_shape}
use Rattle.world_laws.proofs.Answered.{in_shape}
use Rattle.world_laws.proofs.Induction.{opening_shape}
use Rattle.world_families.specs.Kinds.{IsStreaming}
use Rattle.world_families.specs.Work.{Work}
use Rattle.passing_fronts.proofs.PassingLaw.{came, input, schema}
use Rattle.passing_pieces.proofs.ClaimAnswers.{HasAnswer, case-answer}
use Rattle.passing_pieces.proofs.Results.{reached_results}
use Rattle.streaming_pieces.proofs.PieceKinds.{IsHandedOn, IsSelected, StreamingPiece, computes_morsel, hands_rows, output, selects_once, streaming_piece}

abbrev pub HasResult : Functions → Piece → Type 0
HasResult F q = (a : Answer) × IsResult F q a

handed_result : (F : Functions) (q : Piece) (rs : List Row) → IsHandedOn q rs → HasResult F q
handed_result F q rs (task, tables) = (good rs, subst (λ (t : Task). IsResultOf F t q.input (whole_tables q.schemas q.tables) q.tables (good rs)) (sym task) tables)

-- a select without input has one table
select_answer : (F : Functions) (fields : Fields) (origin i : ℕ) (inputs : List (ℕ × ℕ)) (es : List Named) → HasAnswer F (record { kind = independent_select es; schema = fields; origin = origin; inputs = inputs }) i [] []
select_answer F fields origin i inputs es =
    let T = no_rows [] [] in
    let U = table_of (out_schema F origin (select es) (T ∷ [])) (λ rows. rows) (zipped false origin (columns_at origin (exprs_of es) T)) in
    case-answer F (record { kind = independent_select es; schema = fields; origin = origin; inputs = inputs }) i [] [] U (inl refl) refl

select_result : (F : Functions) (node : Node) (q : Piece) (es : List Named) → node.node.kind ≡ independent_select es → IsSelected node q → HasResult F q
select_result F node q es k work =
    let is : record node.node { kind = independent_select es } ≡ node.node = λ i. record node.node { kind = sym k i } in
    subst (λ (x : Work). (a : Answer) × IsResultOf F x.task q.input (whole_tables x.schemas x.tables) x.tables a) (sym work)
    (subst (λ p. HasAnswer F p q.input [] []) is (select_answer F node.node.schema node.node.origin q.input node.node.inputs es))

module _ (F : Functions) (shape : Shape) (o : Options) (w : World) (sound : IsSound F shape) (r : Reaches F shape o w) (n : ℕ) (node : Node) (there : slice_get w.nodes n ≡ Some node) (is : IsStreaming node.node.kind) (q : Piece) (cq : Contains w.outs q) (at : q.node ≡ n) where
  known : Known F w
  known = known_reached F shape o w sound r

  same_shape : shape_of w ≡ shape
  same_shape = replay_shape F (opening shape o) w r.0 r.1 ∙ opening_shape shape

  passing_result : IsPassing node.node.kind → HasResult F q
  passing_result passing =
      let shows = in_shape w n node there in
      let s = schema F w n node known there shows passing in
      let z = input F w n node known there shows passing in
      let enters = (came F w n node known there shows passing).0 in
      let to = output F w n node known there passing in
      let at_shape : slice_get shape n ≡ Some node.node = ap (λ x. slice_get x n) (sym same_shape) ∙ shows in
      let reads : input_schemas shape node.node ≡ s.0 ∷ [] = ap (λ x. input_schemas x node.node) (sym same_shape) ∙ s.1 in
      reached_results F shape n node.node s.0 sound at_shape passing reads o w r z.0 to.0 enters.0 enters.1 to.1 to.2 q cq at

  pub piece_result : HasResult F q
  piece_result = by (streaming_piece F shape o w sound r n node there is q cq at)
    where
      by : StreamingPiece node q → HasResult F q
      by (hands_rows rs h) = handed_result F q rs h
      by (selects_once es k work) = select_result F node q es k work
      by (computes_morsel passing computing) = passing_result passing
