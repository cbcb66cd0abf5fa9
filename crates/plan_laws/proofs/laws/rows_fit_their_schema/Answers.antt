use Rattle.ps_meaning.proofs.MeaningFits.{means-fits}
use Rattle.plan_laws.proofs.laws.rows_fit_their_schema.Goals as goal

pub returns : goal.returns
returns c = λ F choice t T lawful typed m. means-fits F lawful choice m typed
