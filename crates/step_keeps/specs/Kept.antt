-- What the rules on one step keep of it, whatever tables the nodes mean.
use Rattle.std.specs.Prelude.{Bool, ◌≡◌, ℕ, ◌<◌, ◌≤◌, ◌⊎◌, List, [], ◌∷◌, ◌++◌, true, map, length, Contains, slice_get, ⊤}
use Rattle.std.specs.List.{AllByRecursion, list_all}
use Rattle.ps_frame.specs.Aggregates.{max_rows}
use Rattle.ps_frame.specs.Causes.{Cause}
use Rattle.ps_frame.specs.Frames.{has_distinct_names}
use Rattle.ps_frame.specs.Functions.{Functions}
use Rattle.ps_frame.specs.Tables.{Fields, Table}
use Rattle.ps_frame.specs.Trees.{Tree}
use Rattle.ps_meaning.specs.Cases.{Case, IsCaseBrokenBy}
use Rattle.ps_meaning.specs.Meaning.{IsLargeCase}
use Rattle.ps_meaning.specs.Schemas.{join_schema}
use Rattle.ps_meaning.specs.Shape.{IsLargeAt, IsPhysicalChoice, PhysicalMayGive, PhysicalNode, Shape}
use Rattle.ps_meaning.specs.Sound.{schema_at}
use Rattle.ps_meaning.specs.Steps.{JoinStep, Named, Step}
use Rattle.ps_meaning.specs.Within.{EndAlike}
use Rattle.ps_plan.specs.Lowering.{HasRowsOf}
use Rattle.ps_rules.specs.Rules.{is_own_column}
use Rattle.ps_rules.specs.Slots.{State, Stream}
use Rattle.plan_rules.specs.Nodes.{step_stream}

-- the tables that streams mean
abbrev pub tables_from : (ℕ → Table) → List Stream → List Table
tables_from tables streams = map (λ (s : Stream). tables s.0) streams

-- each stream means a table with rows of its node's schema
abbrev pub HaveRows : Shape → (ℕ → Table) → List Stream → Type 0
HaveRows nodes tables streams = AllByRecursion (λ (s : Stream). HasRowsOf (schema_at (slice_get nodes s.0)) (tables s.0)) streams

-- some table passes the greatest number of rows
abbrev pub SomeIsLarge : List Table → Type 0
SomeIsLarge [] = ⊥
SomeIsLarge (t ∷ ts) = (max_rows < length t.rows) ⊎ SomeIsLarge ts

-- T ends as one that the step gives over these tables, and each of its causes breaks the step there.
pub record EndsAsStep (F : Functions) (at : ℕ) (step : Step) (ts : List Table) (T : Table) : Type 0 where
  pub table : (L : Table) × Case F at step ts L × EndAlike T L
  pub causes : (c : Cause) → Contains T.broken c → IsCaseBrokenBy F at step ts c

-- The nodes behind the first ones: each of them is broken by causes alone that break the step over these tables, and is large only where the step is or one of the tables is.
pub record ShowsOnlyStep (F : Functions) (before after : Shape) (tables : ℕ → Table) (at : ℕ) (step : Step) (ts : List Table) : Type 0 where
  pub causes : (n : ℕ) (U : Table) (c : Cause) → length before ≤ n → n < length after → PhysicalMayGive F after tables n U → Contains U.broken c → IsCaseBrokenBy F at step ts c
  pub sizes : (n : ℕ) → length before ≤ n → n < length after → IsLargeAt F after tables n → IsLargeCase F at step ts ⊎ SomeIsLarge ts

-- A node that a call makes has the call's origin, and reads nodes of the call or its inputs.
pub record IsMadeFor (at : ℕ) (before : Shape) (inputs : List Stream) (p : PhysicalNode) : Type 0 where
  pub origin : p.origin ≡ at
  pub reads : (i : Stream) → Contains p.inputs i → (length before ≤ i.0) ⊎ Contains inputs i

-- Nodes are only added, and the stream is one of them or an input. Whatever tables the nodes mean, where those of the inputs have rows of their schemas, the stream's table ends as one that the step gives over them, and the new nodes show nothing else.
pub record KeepsStep (F : Functions) (at : ℕ) (step : Step) (before after : State) (inputs : List Stream) (stream : Stream) : Type 0 where
  pub more : Shape
  pub nodes : after.nodes ≡ before.nodes ++ more
  pub made : AllByRecursion (IsMadeFor at before.nodes inputs) more
  pub there : stream.0 < length after.nodes
  pub fed : (length before.nodes ≤ stream.0) ⊎ Contains inputs stream
  pub meaning : (tables : ℕ → Table) → IsPhysicalChoice F after.nodes tables → HaveRows before.nodes tables inputs
      → EndsAsStep F at step (tables_from tables inputs) (tables stream.0) × ShowsOnlyStep F before.nodes after.nodes tables at step (tables_from tables inputs)

-- The rule of a step with this schema keeps it, over these inputs and where so much stands.
abbrev pub IsKeptStep : Functions → (at : ℕ) → Step → Fields → List Stream → State → Type 0
IsKeptStep F at step schema inputs s =
    let m = step_stream at F step schema inputs s in
    KeepsStep F at step s m.state inputs m.stream

-- The schema is that of a join of these streams, and no name stands twice in it.
pub record HasJoinSchema (o : JoinStep) (nodes : Shape) (left right : Stream) (schema : Fields) : Type 0 where
  pub fields : schema ≡ join_schema o (schema_at (slice_get nodes left.0)) (schema_at (slice_get nodes right.0))
  pub distinct_names : has_distinct_names schema ≡ true

-- the height, or an aggregate
abbrev pub IsPlainReduction : Tree → Type 0
IsPlainReduction (Tree.aggregate a e) = ⊤
IsPlainReduction Tree.len = ⊤
IsPlainReduction _ = ⊥

-- each expression is the column of its own name
abbrev pub are_all_own : List Named → Bool
are_all_own es = list_all (λ (e : Named). is_own_column e.0 e.1) es
