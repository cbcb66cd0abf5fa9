-- A small plan that nothing breaks.
use Rattle.std.specs.Prelude.{codes}
use Rattle.ps_plan.specs.Plans.{Plan}
use Rattle.plan_laws.specs.Refused.{above_one, filter_by, over_a}

-- a scan of a = 1, 2, 3, a filter by a > 1, and a sink
abbrev pub filter_above_one : Plan
filter_above_one = over_a (filter_by 2) (above_one (codes "a")) 2
