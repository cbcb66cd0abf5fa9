-- So many workers have no piece.
use Rattle.std.proofs.Common.{◌∙◌, ap, arith, None}
use Rattle.std.specs.Prelude.{replicate}
use Rattle.ps_outs.proofs.Counting.{at_first}
use Rattle.ps_outs.proofs.outs.Outs.new.Goals as goal

pub returns-clause-out : goal.returns-clause-out
returns-clause-out c =
    let over = c.loop-test.false in
    let within = c.loop.auto.counter-end in
    at_first c.args.workers _ (c.loop.invariant ∙ ap (λ n. replicate n None) (omega (arith, over, within)))
