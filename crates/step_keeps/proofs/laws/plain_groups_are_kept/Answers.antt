use Rattle.step_keeps.proofs.Streamed.{plain_groups_keep}
use Rattle.step_keeps.proofs.laws.plain_groups_are_kept.Goals as goal

pub returns : goal.returns
returns c = λ F at schema s i o streams cells plain some_key some fields. plain_groups_keep F at schema i s o streams cells plain some_key some fields
