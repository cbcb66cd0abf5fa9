use Rattle.plan_laws.proofs.ForgottenRows.{plan-forgets, select-has, stream-keeps}
use Rattle.plan_laws.proofs.ForgottenSound.{gathered-sound}
use Rattle.plan_laws.proofs.shapes.causes_of_earlier_nodes.Goals as goal

pub returns-clause-kept_by_the_stream : goal.returns-clause-kept_by_the_stream
returns-clause-kept_by_the_stream c = stream-keeps

pub returns-clause-forgotten_by_the_plan : goal.returns-clause-forgotten_by_the_plan
returns-clause-forgotten_by_the_plan c = plan-forgets

pub returns-clause-made_by_the_select : goal.returns-clause-made_by_the_select
returns-clause-made_by_the_select c = select-has

pub returns-clause-sound : goal.returns-clause-sound
returns-clause-sound c = gathered-sound
