use Rattle.std.proofs.Common.{◌≡◌, take}
use Rattle.ps_meaning.specs.Schemas.{names_of}
use Rattle.lowering_parts.specs.Gathered.{names_asked}
use Rattle.node_lowering.proofs.further.names_indexed.Given as goal

abbrev pub invariant-loop-expr : goal.invariant-loop-expr
invariant-loop-expr l = names_of l.names ≡ names_asked (take l.expr-index l.exprs)
