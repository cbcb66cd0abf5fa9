use Rattle.flagged_rows.proofs.Flagged.{z_causes, z_kept}
use Rattle.flagged_rows.proofs.laws.flagged_rows_are_kept.Goals as goal

pub returns-clause-rows : goal.returns-clause-rows
returns-clause-rows c = z_kept

pub returns-clause-causes : goal.returns-clause-causes
returns-clause-causes c = z_causes
