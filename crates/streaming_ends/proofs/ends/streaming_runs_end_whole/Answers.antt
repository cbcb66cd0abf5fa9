use Rattle.streaming_ends.proofs.Finishing.{finished_done, finished_means}
use Rattle.streaming_ends.proofs.ends.streaming_runs_end_whole.Goals as goal

pub returns-clause-done : goal.returns-clause-done
returns-clause-done c = λ F shape o w sound streams r e. finished_done F shape o w sound streams r e

pub returns-clause-meaning : goal.returns-clause-meaning
returns-clause-meaning c = λ F shape o w sound streams r e. finished_means F shape o w sound streams r e
