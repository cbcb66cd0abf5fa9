-- What the piece gives.
use Rattle.std.proofs.Common.{rules}
use Rattle.std.proofs.lemmas.Result.{IfOk-weaker}
use Rattle.run_pieces.proofs.Schemas.{of_node}
use Rattle.run_pieces.proofs.computing.compute.Goals as goal

pub work-requires : goal.work-requires
work-requires g c = (search rules, c.requires.1.0)

pub returns-clause-schema : goal.returns-clause-schema
returns-clause-schema g c = IfOk-weaker c.work.result _ _ (λ answer schema. of_node (g.F.Functions.told c.args.functions.now) c.args.piece.now answer schema) c.work.ensures.schema
