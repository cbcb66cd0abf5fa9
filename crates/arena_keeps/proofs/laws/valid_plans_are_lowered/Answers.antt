use Rattle.ps_plan.specs.Plans.{tree_of}
use Rattle.arena_keeps.proofs.Covered.{covered_kept}
use Rattle.arena_keeps.proofs.Lowered.{valid_lowered}
use Rattle.arena_keeps.proofs.Stored.{stored, whole_stands}
use Rattle.arena_keeps.proofs.laws.valid_plans_are_lowered.Goals as goal

pub returns-clause-kept : goal.returns-clause-kept
returns-clause-kept c = λ F plan names lawful valid kept sound. valid_lowered F plan names lawful valid kept sound

pub returns-clause-covered : goal.returns-clause-covered
returns-clause-covered c = λ F plan names lawful valid covered sound. valid_lowered F plan names lawful valid (covered_kept F (stored F plan valid) (tree_of plan plan.root.0) (whole_stands F plan valid) covered names) sound
