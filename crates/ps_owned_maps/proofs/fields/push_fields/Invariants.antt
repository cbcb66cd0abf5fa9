use Rattle.std.proofs.Common.{◌≡◌, ◌++◌, List, take}
use Rattle.std.specs.Prelude.{Some}
use Rattle.ps_frame.specs.Trees.{tree_at}
use Rattle.ps_meaning.specs.Schemas.{fields_of}
use Rattle.ps_meaning.specs.Steps.{Named, named_trees}
use Rattle.ps_owned_maps.proofs.fields.push_fields.Given as goal

abbrev pub invariant-loop-expr : goal.invariant-loop-expr
invariant-loop-expr l =
    (before : List Named) → fields_of before l.input ≡ Some l.initial.schema → fields_of (before ++ named_trees (tree_at l.arena.items) (take l.expr-index l.exprs)) l.input ≡ Some l.schema
