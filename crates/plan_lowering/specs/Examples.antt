-- A cache id that has a stream.
use Rattle.std.specs.Prelude.{[], ◌∷◌}
use Rattle.ps_rules.specs.Names.{Names}
use Rattle.plan_rules.specs.Plans.{Progress}
use Rattle.plan_rules.specs.Worked.{scanned}

-- no node yet, and the id 7 has the stream of node 3
abbrev pub seven_at_three : Names → Progress
seven_at_three names = record { state = record { nodes = []; names = names }; cached = record { id = 7; input = scanned; from = 3 } ∷ [] }
