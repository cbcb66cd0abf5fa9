use Rattle.plan_laws.proofs.ChoiceLaw.{means-same}
use Rattle.plan_laws.proofs.laws.choices_count_at_held_ids.Goals as goal

pub returns : goal.returns
returns c = λ F c d t T same m. means-same F c d same m
