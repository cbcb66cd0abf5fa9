use Rattle.std.proofs.Common.{[]}
use Rattle.reductions_keep.proofs.Parts.{split_reductions}
use Rattle.reductions_keep.proofs.laws.reductions_are_taken_in_order.Goals as goal

pub returns : goal.returns
returns c = λ aggregates names. split_reductions [] aggregates (record { names = names; reductions = []; above = [] })
