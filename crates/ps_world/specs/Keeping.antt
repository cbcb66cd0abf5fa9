-- The local invariant of a node that gives nothing before all of its input has come: it gave nothing, or a front of one table over all that came.
use Rattle.std.specs.Prelude.{◌≡◌, List, [], ◌++◌, map, IsFalse, IsTrue}
use Rattle.std.specs.List.{AllByRecursion}
use Rattle.ps_frame.specs.Functions.{Functions}
use Rattle.ps_frame.specs.Tables.{Fields, IsWhole, Row, Table}
use Rattle.ps_turns.specs.Tables.{whole_tables}
use Rattle.ps_meaning.specs.Cases.{schemas_of}
use Rattle.ps_meaning.specs.Shape.{PhysicalCase, PhysicalNode}
use Rattle.ps_world.specs.Laws.{Sent}

-- the node has a table over any inputs of these schemas
abbrev pub IsTotal : Functions → PhysicalNode → List Fields → Type 0
IsTotal F p ss = (Ts : List Table) → schemas_of Ts ≡ ss → (T : Table) × (T.schema ≡ p.schema) × PhysicalCase F p Ts T

abbrev pub received_rows : List Sent → List (List Row)
received_rows ins = map (λ (s : Sent). s.rows) ins

pub data GivesMade (F : Functions) (p : PhysicalNode) (ss : List Fields) (ins : List Sent) (out : Sent) : Type 0 where
  gives_none : out.rows ≡ [] → IsFalse out.is_complete → GivesMade F p ss ins out
  gives_some : AllByRecursion (λ (s : Sent). IsTrue s.is_complete) ins → (T : Table) → PhysicalCase F p (whole_tables ss (received_rows ins)) T → IsWhole T → T.schema ≡ p.schema
      → (rest : List Row) → out.rows ++ rest ≡ T.rows → (IsTrue out.is_complete → rest ≡ []) → GivesMade F p ss ins out

-- The local invariant of a multiplexer's port, and of a sink: a front of what came, and all of it where it is complete.
pub record IsFrontOf (out inp : Sent) : Type 0 where
  pub rest : List Row
  pub begins : out.rows ++ rest ≡ inp.rows
  pub all : IsTrue out.is_complete → (rest ≡ []) × IsTrue inp.is_complete
