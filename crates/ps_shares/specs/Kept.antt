-- Words for what lowering keeps: zips within others, what a call asks, and what it leaves.
use Rattle.std.specs.Prelude.{◌≡◌, ◌≢◌, ℕ, ◌<◌, ◌≤◌, ◌^◌, ◌⊎◌, ◌++◌, List, [], ◌∷◌, length, Some, slice_get, Contains, IsTrue}
use Rattle.std.specs.List.{AllByRecursion}
use Rattle.ps_frame.specs.Causes.{Cause}
use Rattle.ps_frame.specs.Frames.{has_distinct_names}
use Rattle.ps_frame.specs.Functions.{Functions}
use Rattle.ps_frame.specs.Tables.{Table}
use Rattle.ps_frame.specs.Trees.{Tree}
use Rattle.ps_frame.specs.Zip.{Zipped}
use Rattle.ps_frame.specs.declared.value.Value.{Value}
use Rattle.ps_meaning.specs.Cases.{GivesBeforeCut}
use Rattle.ps_meaning.specs.Schemas.{names_of}
use Rattle.ps_meaning.specs.Shape.{PhysicalMayGive, PhysicalNode, Shape}
use Rattle.ps_meaning.specs.Sound.{have_all_kinds}
use Rattle.ps_meaning.specs.Steps.{Name, Step}
use Rattle.ps_rules.specs.Names.{IsKnown, Names}
use Rattle.ps_rules.specs.Slots.{State, Stream, node_at}

-- each cause of the first is one of the second
abbrev pub HasNoOther : List Cause → List Cause → Type 0
HasNoOther given known = (c : Cause) → Contains given c → Contains known c

-- what a zip may show: what breaks it, and what it lost
abbrev pub all_causes : Zipped → List Cause
all_causes z = z.broken ++ z.lost

-- the first is whole, and the second has its rows and is whole; or the first is broken, and has the first rows of the second
abbrev pub IsPartOf : Zipped → Zipped → Type 0
IsPartOf p l = ((p.broken ≡ []) × (l.broken ≡ []) × (p.rows ≡ l.rows)) ⊎ ((p.broken ≢ []) × ((rest : List (List Value)) × (p.rows ++ rest ≡ l.rows)))

pub record IsZipWithin (p l : Zipped) : Type 0 where
  pub part : IsPartOf p l
  pub causes : HasNoOther (all_causes p) (all_causes l)

-- each input of a node is an earlier one
abbrev pub IsOrdered : Shape → Type 0
IsOrdered nodes = (n : ℕ) (p : PhysicalNode) (i : Stream) → slice_get nodes n ≡ Some p → Contains p.inputs i → i.0 < n

abbrev pub AreKnown : Names → List Name → Type 0
AreKnown names ns = AllByRecursion (IsKnown names) ns

-- What a call asks: its stream is there, its columns' names are known and differ, and each expression has a kind.
pub record IsReady (s : State) (input : Stream) (es : List Tree) : Type 0 where
  pub ordered : IsOrdered s.nodes
  pub node : PhysicalNode
  pub there : node_at s.nodes input.0 ≡ Some node
  pub known : AreKnown s.names (names_of node.schema)
  pub distinct_names : IsTrue (has_distinct_names node.schema)
  pub typed : IsTrue (have_all_kinds node.schema es)
  pub some : es ≢ []

-- What a call leaves: the nodes that were there and new ones, which read earlier ones, and names that are still known.
pub record IsGrown (before after : State) : Type 0 where
  pub more : Shape
  pub nodes : after.nodes ≡ before.nodes ++ more
  pub ordered : IsOrdered after.nodes
  pub known : (name : Name) → IsKnown before.names name → IsKnown after.names name

-- the causes of the nodes that a call made are known, whatever tables the nodes mean
abbrev pub NewCausesAre : Functions → State → State → (ℕ → Table) → (Cause → Type 0) → Type 0
NewCausesAre F before after tables Known =
    (n : ℕ) (U : Table) → length before.nodes ≤ n → n < length after.nodes → PhysicalMayGive F after.nodes tables n U → (c : Cause) → Contains U.broken c → Known c

-- a cause that breaks what a step gives over a table, before its slice
abbrev pub IsCauseOver : Functions → ℕ → Step → Table → Cause → Type 0
IsCauseOver F at step T c = (U : Table) × GivesBeforeCut F at step (T ∷ []) U × Contains U.broken c

-- Fresh names are fresh while their counter is in 64 bits: past that two numbers may have one name.
abbrev pub IsInRange : State → Type 0
IsInRange s = s.names.next ≤ 2 ^ 64
