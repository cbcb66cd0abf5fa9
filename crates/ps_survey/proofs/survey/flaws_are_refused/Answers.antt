use Rattle.ps_survey.proofs.SurveyLemmas.{is-refused}
use Rattle.ps_survey.proofs.survey.flaws_are_refused.Goals as goal

pub returns : goal.returns
returns c = λ F plan n w reached flaw. is-refused F plan n w reached flaw
