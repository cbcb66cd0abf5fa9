use Rattle.std.proofs.Common.{arith}
use Rattle.text_queries.specs.Queries.{Key, expr_depth}
use Rattle.text_queries.specs.Views.{key_of}
use Rattle.text_queries.proofs.Greatest.{greatest-all}
use Rattle.text_queries.proofs.depths.keys_depth.Goals as goal

pub returns : goal.returns
returns c =
    greatest-all (λ (key : Key). expr_depth key.expr) key_of c.args.keys.now c.loop-key.key-index c.loop-key.deepest (omega arith) c.loop-key.invariant
