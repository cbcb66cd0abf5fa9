use Rattle.std.proofs.Common.{◌≡◌, ◌+◌, ◌-◌, ℕ, length}
use Rattle.ps_fresh.specs.Known.{known_at}
use Rattle.ps_fresh.proofs.known.KnownAnswers.reach.Given as goal

abbrev pub invariant-loop-expr : goal.invariant-loop-expr
invariant-loop-expr l = (n : ℕ) → known_at l.self-inside.known.items n ≡ known_at l.initial.self-inside.known.items n

abbrev pub decreases-loop-expr : goal.decreases-loop-expr
decreases-loop-expr l = l.expr.0 + 1 - length l.self-inside.known.items
