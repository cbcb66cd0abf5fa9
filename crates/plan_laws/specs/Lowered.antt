-- A step that is lowered above a lowered stream, and the nodes that this makes.
use Rattle.std.specs.Prelude.{◌≡◌, ℕ, ◌<◌, ◌≤◌, ◌++◌, List, length, Some, slice_get}
use Rattle.ps_frame.specs.Functions.{Functions}
use Rattle.ps_frame.specs.Tables.{Table}
use Rattle.ps_meaning.specs.Meaning.{Choice, IsChosen}
use Rattle.ps_meaning.specs.PlanTrees.{PlanTree}
use Rattle.ps_meaning.specs.Shape.{PhysicalNode, Shape}
use Rattle.ps_meaning.specs.Steps.{Step}
use Rattle.ps_plan.specs.Lowering.{AreTablesOf, Cached, Lowers, LowersStep, ServesCaches}

-- The stream is the lowering of the tree, and a call lowers a step over it, which is no cache.
pub record IsLoweredAbove (F : Functions) (before more : Shape) (cached known : List Cached) (at : ℕ) (step : Step) (t : PlanTree) (from to : ℕ) : Type 0 where
  pub node : PhysicalNode
  pub there : slice_get before from ≡ Some node
  pub no_cache : (choice : Choice) (T : Table) → IsChosen choice step T
  pub stream : Lowers F before cached known t from
  pub call : LowersStep F before (before ++ more) at step from to

-- These are tables of the nodes, under a choice that serves the caches, and the node is one that the call made.
pub record IsNew (F : Functions) (before more : Shape) (cached : List Cached) (tables : ℕ → Table) (n : ℕ) : Type 0 where
  pub of_nodes : AreTablesOf F (before ++ more) tables
  pub choice : Choice
  pub serves : ServesCaches F tables cached choice
  pub behind : length before ≤ n
  pub within : n < length (before ++ more)
