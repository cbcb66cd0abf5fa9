use Rattle.std.proofs.Common.{◌≡◌, take}
use Rattle.plan_rules.specs.Distinct.{other_than}
use Rattle.group_lowering.proofs.kept.other_names.Given as goal

abbrev pub invariant-loop-name : goal.invariant-loop-name
invariant-loop-name l = l.others.items ≡ other_than l.keys (take l.name-index l.all)
