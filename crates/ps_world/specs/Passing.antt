-- What a passing node gives over the rows of a morsel.
use Rattle.std.specs.Prelude.{◌≡◌, ℕ, zero, suc, List, [], ◌∷◌, ◌++◌}
use Rattle.ps_frame.specs.Functions.{Functions}
use Rattle.ps_frame.specs.Tables.{Fields, IsWhole, Row, Table}
use Rattle.ps_meaning.specs.Shape.{PhysicalCase, PhysicalNode}
use Rattle.ps_meaning.specs.Cases.{rows_table}
use Rattle.ps_world.specs.World.{Pipe}
use Rattle.ps_world.specs.Laws.{Sent, nothing_sent, sent_by}

-- rows in front of a table
abbrev pub in_front : List Row → Table → Table
in_front a t = record { schema = t.schema; rows = a ++ t.rows; broken = t.broken }

-- the node gives rows b over rows a
abbrev pub GivesRows : Functions → PhysicalNode → Fields → List Row → List Row → Type 0
GivesRows F p s a b = (U : Table) × PhysicalCase F p (rows_table s a ∷ []) U × IsWhole U × (U.schema ≡ p.schema) × (U.rows ≡ b)

-- What is proved of a node's case where it goes row by row: its tables have its schema, it has one over every input, none over no rows, and over a front and the rest it has both.
pub record GoesPiecewise (F : Functions) (p : PhysicalNode) (s : Fields) : Type 0 where
  pub schemas : (T U : Table) → T.schema ≡ s → PhysicalCase F p (T ∷ []) U → U.schema ≡ p.schema
  pub total : (T : Table) → T.schema ≡ s → (U : Table) × PhysicalCase F p (T ∷ []) U × (U.schema ≡ p.schema)
  pub over_none : GivesRows F p s [] []
  pub over_front : (a b : List Row) (R V : Table) → R.schema ≡ s → V.schema ≡ p.schema → GivesRows F p s a b → PhysicalCase F p (R ∷ []) V → PhysicalCase F p (in_front a R ∷ []) (in_front b V)

-- a node with one output sends it on port 0
abbrev pub one_port : Pipe → ℕ → Sent
one_port to zero = sent_by to
one_port to (suc k) = nothing_sent
