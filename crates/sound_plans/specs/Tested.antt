-- What is asked of each of the expressions that a node names.
use Rattle.std.specs.Prelude.{Bool, true, false, not, ◌&&◌, is_some}
use Rattle.ps_frame.specs.Trees.{Aggregation, Tree}
use Rattle.ps_frame.specs.Typing.{is_elementwise, is_independent, kind_over}
use Rattle.sound_plans.specs.declared.exprs.Test.{Test}
use Rattle.sound_plans.specs.declared.exprs.Test.TheVariants as test

-- elementwise, and not independent of the input
abbrev pub is_reduced : Tree → Bool
is_reduced e = is_elementwise e && not (is_independent e)

-- the height, or an aggregate by which parts can be put together
abbrev pub is_reduction : Tree → Bool
is_reduction Tree.len = true
is_reduction (Tree.aggregate Aggregation.min e) = is_reduced e
is_reduction (Tree.aggregate Aggregation.max e) = is_reduced e
is_reduction (Tree.aggregate Aggregation.first e) = is_reduced e
is_reduction (Tree.aggregate Aggregation.last e) = is_reduced e
is_reduction (Tree.aggregate Aggregation.sum e) = is_reduced e
is_reduction _ = false

abbrev pub passes : Test → Tree → Bool
passes (test.Typed schema) e = is_some (kind_over schema.now e)
passes test.Elementwise e = is_elementwise e
passes test.Independent e = is_independent e
passes test.Reduction e = is_reduction e
