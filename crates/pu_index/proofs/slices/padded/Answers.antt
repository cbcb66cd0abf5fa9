use Rattle.std.proofs.Common.{◌++◌, drop, replicate, ap, ◌∙◌}
use Rattle.pu_index.specs.Padded.{padded}
use Rattle.pu_index.proofs.Padded.{take-padded}
use Rattle.pu_index.proofs.slices.padded.Goals as goal

pub returns : goal.returns
unfolding padded
returns c = ap (λ xs. xs ++ drop c.min-len.result (replicate 8 0)) c.copy_from_slice.ensures.after ∙ take-padded c.args.bytes.now c.min-len.result 8 c.min-len.ensures
