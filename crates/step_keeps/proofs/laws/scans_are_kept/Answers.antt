use Rattle.step_keeps.proofs.Scans.{scans_keep, whole_scans_keep}
use Rattle.step_keeps.proofs.laws.scans_are_kept.Goals as goal

pub returns-clause-tables : goal.returns-clause-tables
returns-clause-tables c = λ F at s t. whole_scans_keep F at t s

pub returns-clause-columns : goal.returns-clause-columns
returns-clause-columns c = λ F at s t names fields named distinct fits. scans_keep F at t s names fields named distinct fits
