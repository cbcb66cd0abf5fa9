-- What reductions make of columns.
use Rattle.std.specs.Prelude.{List, [], ◌∷◌}
use Rattle.ps_frame.specs.Trees.{Tree, aggregate, first, last, len, max, min, sum}
use Rattle.ps_meaning.specs.Steps.{Name, Named}
use Rattle.plain_nodes.specs.declared.reduction.Reduction.{Reduction}
use Rattle.plain_nodes.specs.declared.reduction.Reduction.TheVariants as reduction

-- the expression that a reduction of an expression's values is
abbrev pub reduction_tree : Reduction → Tree → Tree
reduction_tree reduction.Min e = aggregate min e
reduction_tree reduction.Max e = aggregate max e
reduction_tree reduction.First e = aggregate first e
reduction_tree reduction.Last e = aggregate last e
reduction_tree reduction.Sum e = aggregate sum e
reduction_tree reduction.Len e = len

-- each of these expressions, reduced, under its name
abbrev pub reduced : List Name → List Named → List Reduction → List Named
reduced (name ∷ names) (e ∷ es) (r ∷ rs) = (name, reduction_tree r e.1) ∷ reduced names es rs
reduced _ _ _ = []
