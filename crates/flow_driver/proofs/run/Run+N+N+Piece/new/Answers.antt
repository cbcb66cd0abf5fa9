-- The opening of the shape.
use Rattle.std.proofs.Common.{◌∙◌, None, ap}
use Rattle.std.specs.Prelude.{replicate}
use Rattle.flow_driver.proofs.Standing.{begun_at}
use Rattle.flow_driver.proofs.run.Run+N+N+Piece.new.Goals as goal

pub returns-clause-begun : goal.returns-clause-begun
returns-clause-begun g c = λ F shape driven built.
    begun_at g.N.RunNode.Has g.N.PieceNode.Shows g.N.ClaimNode.IsFor F shape c.args.options.now driven _ (c.in-Ok.ensures.idle ∙ ap (λ n. replicate n None) c.workers.ensures) (c.in-Ok-new.ensures.opening shape built)
