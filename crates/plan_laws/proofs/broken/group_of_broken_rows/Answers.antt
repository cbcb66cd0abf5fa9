use Rattle.plan_laws.proofs.BrokenRows.{group-only}
use Rattle.plan_laws.proofs.broken.group_of_broken_rows.Goals as goal

pub returns : goal.returns
returns c = group-only
