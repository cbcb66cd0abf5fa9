use Rattle.std.proofs.Common.{◌≡◌, ◌+◌, ◌-◌, ◌^◌, length, take}
use Rattle.std.specs.Prelude.{sum_by}
use Rattle.ps_phys.specs.Underway.{inputs_or_none}
use Rattle.plan_lowering.proofs.physical.are_few.Given as goal

-- what is left, and the inputs so far
abbrev pub invariant-loop-number : goal.invariant-loop-number
invariant-loop-number l = l.room + sum_by (λ o. length (inputs_or_none o)) (take l.number l.phys_sm.slots) ≡ 2 ^ 31 - 1
