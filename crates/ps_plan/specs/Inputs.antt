-- The nodes that stand in a view of an entry's inputs.
use Rattle.std.specs.Prelude.{List, [], ◌∷◌}
use Rattle.pu_base.specs.declared.arena.Node.{Node}
use Rattle.ps_plan.specs.declared.inputs.Inputs.{Inputs}
use Rattle.ps_plan.specs.declared.inputs.Inputs.TheVariants.{Nothing, One, Two, Many}

abbrev pub nodes_in : Inputs → List Node
nodes_in Nothing = []
nodes_in (One n) = n ∷ []
nodes_in (Two n m) = n ∷ m ∷ []
nodes_in (Many ns) = ns.now
