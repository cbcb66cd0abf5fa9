use Rattle.std.proofs.Common.{◌≡◌, take}
use Rattle.lowering_parts.specs.Gathered.{names_asked}
use Rattle.group_lowering.proofs.named.names_of_exprs.Given as goal

abbrev pub invariant-loop-expr : goal.invariant-loop-expr
invariant-loop-expr l = l.names.items ≡ names_asked (take l.expr-index l.exprs)
