use Rattle.std.proofs.Common.{◌+◌, ◌-◌, ◌*◌, ◌<◌, length}
use Rattle.text_queries.specs.Views.{expr_of}
use Rattle.text_reading.proofs.ChainSteps.{SoFar}
use Rattle.text_reading.proofs.expressions.+expressions.Given as goal

-- Each token costs eight: a level costs one, and a parenthesis that opens takes its token.
abbrev pub decreases-read_expr : goal.decreases-read_expr
decreases-read_expr l = 8 * length l.tokens.now + (7 - l.least)

abbrev pub decreases-read_primary : goal.decreases-read_primary
decreases-read_primary l = 8 * length l.tokens.now

abbrev pub decreases-read_closed : goal.decreases-read_closed
decreases-read_closed l = 8 * length l.tokens.now + 7

abbrev pub decreases-read_call : goal.decreases-read_call
decreases-read_call l = 8 * length l.tokens.now + 8

-- what was read stands left, and every reading of the tokens goes on from there
abbrev pub invariant-read_expr-loop-op : goal.invariant-read_expr-loop-op
invariant-read_expr-loop-op l = record {
  so_far : SoFar l.opens l.least l.tokens (expr_of l.left.expr) l.rest;
  shorter : length l.rest < length l.tokens;
}

abbrev pub decreases-read_expr-loop-op : goal.decreases-read_expr-loop-op
decreases-read_expr-loop-op l = length l.rest
