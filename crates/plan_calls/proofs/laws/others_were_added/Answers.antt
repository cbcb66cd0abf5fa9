use Rattle.plan_calls.proofs.Begun.{still_left}
use Rattle.plan_calls.proofs.laws.others_were_added.Goals as goal

pub returns : goal.returns
returns c = λ F plan f low later caches left begins stay sound. still_left F plan f low later caches left begins stay sound
