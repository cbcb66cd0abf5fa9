use Rattle.std.proofs.Common.{◌≡◌, ◌<◌, ◌≤◌, ℕ, true}
use Rattle.ps_rules.specs.Names.{is_taken}
use Rattle.ps_fresh.proofs.name_source.NameSource.free_number.Given as goal

abbrev pub invariant-loop-number : goal.invariant-loop-number
invariant-loop-number l = (j : ℕ) → l.self-inside.next ≤ j → j < l.number-counter → is_taken j l.self-inside.taken.keys ≡ true
