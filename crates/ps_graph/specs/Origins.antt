-- Errors at the node from which a node of the graph comes.
use Rattle.pu_base.specs.declared.arena.Node.{Node}
use Rattle.ps_frame.specs.declared.refusal.PolarsError.{PolarsError}
use Rattle.ps_frame.specs.declared.refusal.PolarsError.TheVariants as error

-- the error at this node
abbrev pub at_node : Node → PolarsError → PolarsError
at_node n (error.InvalidPlan node why) = error.InvalidPlan n why
at_node n (error.ColumnNotFound node name) = error.ColumnNotFound n name
at_node n (error.Duplicate node name) = error.Duplicate n name
at_node n (error.SchemaMismatch node) = error.SchemaMismatch n
at_node n (error.ComputeError node why) = error.ComputeError n why
at_node n (error.ShapeMismatch node) = error.ShapeMismatch n
at_node n (error.OutOfBounds node why) = error.OutOfBounds n why
at_node n (error.Unsupported node what) = error.Unsupported n what
at_node n error.OutOfMemory = error.OutOfMemory
