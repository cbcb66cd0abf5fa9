-- The limit is greater than what a table may have.
use Rattle.std.proofs.Common.{ap, ◌∙◌}
use Rattle.std.specs.Prelude.{nat_lt}
use Rattle.node_work.proofs.Together.{passes_alike}
use Rattle.node_work.proofs.stored_morsels.are_too_many.Goals as goal
use Rattle.ps_frame.specs.Aggregates.{max_rows}

pub returns : goal.returns
returns c n e = ap (nat_lt max_rows) e ∙ passes_alike n
