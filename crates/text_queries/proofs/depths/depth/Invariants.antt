use Rattle.std.proofs.Common.{◌≡◌, ◌-◌, ◌^◌, min, take}
use Rattle.text_queries.specs.Queries.{greatest, stage_depth}
use Rattle.text_queries.specs.Views.{stage_of}
use Rattle.text_queries.proofs.depths.depth.Given as goal

abbrev pub invariant-loop-stage : goal.invariant-loop-stage
invariant-loop-stage l = l.deepest ≡ min (greatest (λ s. stage_depth (stage_of s)) (take l.stage-index l.query.stages)) (2 ^ 64 - 1)
