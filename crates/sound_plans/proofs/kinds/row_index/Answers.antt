use Rattle.std.proofs.Common.{Option, ℕ, [], ◌∷◌}
use Rattle.ps_frame.specs.Functions.{Functions}
use Rattle.ps_frame.specs.Tables.{Fields}
use Rattle.ps_meaning.specs.Steps.{row_index}
use Rattle.ps_validate.specs.Nodes.{GivesSchema}
use Rattle.sound_plans.proofs.Fits.{taken, index-fit}
use Rattle.sound_plans.proofs.kinds.row_index.Goals as goal

pub returns-clause-fit : goal.returns-clause-fit
returns-clause-fit c =
    taken (λ (s : Fields). (F : Functions) (offset : Option ℕ) → GivesSchema F (row_index c.args.name.now offset) (c.args.input.now ∷ []) s) c.row_index_schema-given.result c.args.schema.now c.is_given.result c.is_given.ensures.given c.row_index_schema-given.ensures.given
    (λ p F offset. index-fit F c.args.input.now c.args.schema.now c.args.name.now offset (p F offset))
