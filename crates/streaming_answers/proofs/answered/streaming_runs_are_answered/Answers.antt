use Rattle.streaming_answers.proofs.Kept.{by_laws, runs_answered, without_maps}
use Rattle.streaming_answers.proofs.answered.streaming_runs_are_answered.Goals as goal

pub returns-clause-lawful : goal.returns-clause-lawful
returns-clause-lawful c = λ F shape o w laws sound streams r. runs_answered F shape o sound (λ n p e. by_laws F p.kind laws (streams n p e)) w r

pub returns-clause-no_map : goal.returns-clause-no_map
returns-clause-no_map c = λ F shape o w sound streams r. runs_answered F shape o sound (λ n p e. without_maps F p.kind (streams n p e)) w r
