use Rattle.std.proofs.Common.{◌+◌, ◌*◌}
use denote.Shadow.{shadow}
use denote.Text.{Utf8}
use Rattle.lowering_scripts.proofs.exprs.+writing.Given as goal

abbrev pub decreases-push_expr : goal.decreases-push_expr
decreases-push_expr l = 3 * l.depth

abbrev pub decreases-push_call : goal.decreases-push_call
decreases-push_call l = 3 * l.depth + 2

abbrev pub decreases-push_all : goal.decreases-push_all
decreases-push_all l = 3 * l.depth + 1

-- the separator is text
abbrev pub invariant-push_all-loop-expr : goal.invariant-push_all-loop-expr
invariant-push_all-loop-expr l = shadow (Utf8 l.separator)
