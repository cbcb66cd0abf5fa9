use Rattle.std.proofs.Common.{[], None}
use Rattle.ps_frame.specs.Functions.{Functions}
use Rattle.ps_frame.specs.Tables.{Fields}
use Rattle.ps_meaning.specs.Steps.{scan}
use Rattle.ps_validate.specs.Nodes.{GivesSchema}
use Rattle.sound_plans.proofs.Fits.{taken, source-fit}
use Rattle.sound_plans.proofs.kinds.source.Goals as goal

pub returns-clause-fit : goal.returns-clause-fit
returns-clause-fit c =
    taken (λ (s : Fields). (F : Functions) → GivesSchema F (scan c.args.df.now None) [] s) c.scan_schema-given.result c.args.schema.now c.is_given.result c.is_given.ensures.given c.scan_schema-given.ensures.given
    (λ p F. source-fit F c.args.df.now c.args.schema.now c.table_fits.ensures (p F))
