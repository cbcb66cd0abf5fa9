use Rattle.plan_keeps.proofs.Induction.{root_lowers, root_means}
use Rattle.plan_keeps.proofs.laws.kept_plans_are_lowered.Goals as goal

pub returns-clause-stream : goal.returns-clause-stream
returns-clause-stream c = root_lowers

pub returns-clause-tables : goal.returns-clause-tables
returns-clause-tables c = λ F stored names t lawful stands kept sound. root_means F stored names t stands kept lawful sound
