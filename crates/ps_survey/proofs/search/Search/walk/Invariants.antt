use Rattle.std.proofs.Common.{◌≡◌, ◌+◌, ◌≤◌, length}
use Rattle.ps_survey.specs.Search.{Underway, looks_left}
use Rattle.ps_survey.proofs.search.Search.walk.Given as goal

abbrev pub invariant-loop-number : goal.invariant-loop-number
invariant-loop-number g l = record {
  size : length l.self.marks.items ≡ g.N.Names.count l.names;
  underway : Underway (g.N.Names.named l.names) l.start l.fn.self.order.items l.self.order.items l.self.marks.items l.self.trail.items l.at;
  looks : l.steps + looks_left (g.N.Names.named l.names) 0 l.self.marks.items + 1 ≤ l.fn.steps + looks_left (g.N.Names.named l.names) 0 l.fn.self.marks.items;
}

abbrev pub decreases-loop-number : goal.decreases-loop-number
decreases-loop-number g l = looks_left (g.N.Names.named l.names) 0 l.self.marks.items
