use Rattle.ps_meaning.proofs.SchemaLaw.{means-schema}
use Rattle.plan_laws.proofs.laws.tables_have_their_schema.Goals as goal

pub returns : goal.returns
returns c = λ F choice t T lawful m. means-schema F lawful choice m
