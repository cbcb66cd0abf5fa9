use Rattle.std.proofs.Common.{length, map}
use Rattle.text_queries.specs.Views.{stage_of}
use Rattle.text_reading.proofs.QueryForms.{StagesRead}
use Rattle.text_reading.proofs.queries.read_stages.Given as goal

abbrev pub invariant-loop-rest : goal.invariant-loop-rest
invariant-loop-rest l = StagesRead l.tokens (map stage_of l.stages.items) l.rest

abbrev pub decreases-loop-rest : goal.decreases-loop-rest
decreases-loop-rest l = length l.rest
