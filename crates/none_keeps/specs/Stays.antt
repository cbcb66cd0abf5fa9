-- What the rules on one step keep of its tables, however large they are.
use Rattle.std.specs.Prelude.{ℕ, List}
use Rattle.ps_frame.specs.Functions.{Functions}
use Rattle.ps_frame.specs.Tables.{Fields, Table}
use Rattle.ps_meaning.specs.Cases.{Case}
use Rattle.ps_meaning.specs.Shape.{IsPhysicalChoice}
use Rattle.ps_meaning.specs.Steps.{Step}
use Rattle.ps_meaning.specs.Within.{Within}
use Rattle.ps_rules.specs.Slots.{State, Stream}
use Rattle.plan_rules.specs.Nodes.{step_stream}
use Rattle.step_keeps.specs.Kept.{HaveRows, tables_from}

-- Whatever tables the nodes mean, where those of the inputs have rows of their schemas, the stream's table lies within one that the step gives over them.
abbrev pub TablesStayWithin : Functions → (at : ℕ) → Step → Fields → List Stream → State → Type 0
TablesStayWithin F at step schema inputs s =
    let m = step_stream at F step schema inputs s in
    (tables : ℕ → Table) → IsPhysicalChoice F m.state.nodes tables → HaveRows s.nodes tables inputs → (K : Table) × Case F at step (tables_from tables inputs) K × Within (tables m.stream.0) K
