-- For each piece of a zip that is out in a reached world something may be handed in.
use Rattle.std.proofs.Common.{◌≡◌, ℕ, ◌+◌, ◌<◌, ◌⊎◌, Bool, true, false, List, map, Some, refl, sym, subst, inl, inr}
use Rattle.std.specs.Prelude.{Contains, slice_get}
use Rattle.ps_frame.specs.Functions.{Functions}
use Rattle.ps_frame.specs.Tables.{Fields, Row, Table}
use Rattle.ps_frame.specs.Zip.{zipped}
use Rattle.ps_meaning.specs.Cases.{all_columns, out_schema, table_of}
use Rattle.ps_meaning.specs.Shape.{Shape, mild_zip, zip_node}
use Rattle.ps_meaning.specs.Sound.{IsSound}
use Rattle.ps_meaning.specs.Steps.{hconcat}
use Rattle.ps_options.specs.declared.options.Options.{Options}
use Rattle.ps_turns.specs.Results.{IsResult, IsResultOf}
use Rattle.ps_turns.specs.Tables.{whole_tables}
use Rattle.ps_turns.specs.Tasks.{Answer, Piece, computes}
use Rattle.ps_world.specs.Opening.{Reaches}
use Rattle.ps_world.specs.World.{Node, World, pipes_in, schemas_for}
use Rattle.world_laws.proofs.Answered.{in_shape}
use Rattle.passing_pieces.proofs.ClaimAnswers.{HasAnswer, case-answer}
use Rattle.zip_laws.proofs.ZipLaw.{zips_hold}
use Rattle.world_families.specs.Holds.{HoldsOfKind}
use Rattle.world_families.specs.Sources.{KeepsNone}
use Rattle.world_families.specs.Work.{Work, work_of}
use Rattle.world_families.specs.Zips.{HoldsZip, rows_in_cut}

-- a zip has a table over any tables
zip_answer : (F : Functions) (fields : Fields) (origin i : ℕ) (inputs : List (ℕ × ℕ)) (extend : Bool) (ts : List Table) (tables : List (List Row)) → HasAnswer F (record { kind = zip_node extend; schema = fields; origin = origin; inputs = inputs }) i ts tables
zip_answer F fields origin i inputs true ts tables =
    case-answer F (record { kind = zip_node true; schema = fields; origin = origin; inputs = inputs }) i ts tables (table_of (out_schema F origin hconcat ts) (λ rows. rows) (zipped true origin (all_columns ts))) (inl refl) refl
zip_answer F fields origin i inputs false ts tables =
    case-answer F (record { kind = zip_node false; schema = fields; origin = origin; inputs = inputs }) i ts tables (table_of fields (λ rows. rows) (mild_zip origin (all_columns ts))) (inl refl) refl

module _ (F : Functions) (shape : Shape) (o : Options) (w : World) (sound : IsSound F shape) (r : Reaches F shape o w) (n : ℕ) (node : Node) (extend : Bool) (there : slice_get w.nodes n ≡ Some node) (is : node.node.kind ≡ zip_node extend) where
  pub held : HoldsZip F w n node extend
  held = subst (HoldsOfKind F w n node) is (zips_hold F shape o w n node.node extend sound r (in_shape w n node there) is node there).own

  -- the work of a piece
  pub piece_work : (q : Piece) → Contains w.outs q → q.node ≡ n → (q.gives < node.progress.sent) × (work_of q ≡ record { task = computes node.node; schemas = schemas_for w node; tables = map (rows_in_cut extend (held.before q.gives) (held.before (q.gives + 1))) (pipes_in w n) })
  piece_work q cq at = of (held.gives.pieces q cq at)
    where
      of : {B : Type 0} → B ⊎ KeepsNone q → B
      of (inl b) = b
      of (inr none) = absurd none

  pub zip_result : (q : Piece) → Contains w.outs q → q.node ≡ n → (a : Answer) × IsResult F q a
  zip_result q cq at =
      let work = piece_work q cq at in
      let tables = map (rows_in_cut extend (held.before q.gives) (held.before (q.gives + 1))) (pipes_in w n) in
      let kind : record node.node { kind = zip_node extend } ≡ node.node = λ i. record node.node { kind = sym is i } in
      subst (λ (x : Work). (a : Answer) × IsResultOf F x.task q.input (whole_tables x.schemas x.tables) x.tables a) (sym work.1)
      (subst (λ p. HasAnswer F p q.input (whole_tables (schemas_for w node) tables) tables) kind (zip_answer F node.node.schema node.node.origin q.input node.node.inputs extend (whole_tables (schemas_for w node) tables) tables))
