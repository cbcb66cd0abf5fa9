use Rattle.std.proofs.Common.{refl}
use Rattle.world_runs.proofs.ends.stores_let_go.Goals as goal

pub returns-clause-keeps_both : goal.returns-clause-keeps_both
returns-clause-keeps_both c = refl

pub returns-clause-lets_go : goal.returns-clause-lets_go
returns-clause-lets_go c = refl

pub returns-clause-its_row : goal.returns-clause-its_row
returns-clause-its_row c = refl

pub returns-clause-heavy_while_taking : goal.returns-clause-heavy_while_taking
returns-clause-heavy_while_taking c = refl
