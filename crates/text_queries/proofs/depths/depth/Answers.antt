use Rattle.std.proofs.Common.{length, ap, arith}
use Rattle.text_queries.specs.Queries.{stage_depth}
use Rattle.text_queries.specs.Views.{stage_of}
use Rattle.text_queries.proofs.Greatest.{greatest-all}
use Rattle.text_queries.proofs.depths.depth.Goals as goal

pub returns : goal.returns
returns c =
    greatest-all stage_depth stage_of c.args.query.now.stages c.loop-stage.stage-index c.loop-stage.deepest (omega (arith, ap length c.as_slice-stage-items.ensures)) c.loop-stage.invariant
