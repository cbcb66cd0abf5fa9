-- Physical nodes while a plan is lowered: a list that only grows. Each node has the number of inserts before it.
use Rattle.std.specs.Prelude.{ℕ, ◌==◌, ◌&&◌, Bool, true, false, List, [], ◌∷◌, ◌++◌, map, length, Option, Some, None, unwrap_or, slice_get, if◌then◌else◌}
use Rattle.std.specs.List.{list_any}
use Rattle.std.specs.Str.{bytes_eq}
use Rattle.ps_frame.specs.Tables.{Fields}
use Rattle.ps_frame.specs.Trees.{Tree}
use Rattle.ps_meaning.specs.Schemas.{fields_of, named_fields, names_of}
use Rattle.ps_meaning.specs.Shape.{PhysicalKind, PhysicalNode, Shape, simple_projection, independent_select}
use Rattle.ps_meaning.specs.Steps.{Name, Named}
use Rattle.ps_rules.specs.Names.{Names, after_fresh, fresh_name}

-- a node and one of its ports
abbrev pub Stream : Type 0
Stream = ℕ × ℕ

abbrev pub same_stream : Stream → Stream → Bool
same_stream a b = (a.0 == b.0) && (a.1 == b.1)

-- a stream put at the end of others, where it isn't among them
abbrev pub added : Stream → List Stream → List Stream
added s ss = if list_any (same_stream s) ss then ss else ss ++ s ∷ []

abbrev pub all_added : List Stream → List Stream → List Stream
all_added [] ss = ss
all_added (s ∷ more) ss = all_added more (added s ss)

-- the node of a number, if there is one
abbrev pub node_at : Shape → ℕ → Option PhysicalNode
node_at nodes n = slice_get nodes n

abbrev pub schema_or_none : Option PhysicalNode → Fields
schema_or_none None = []
schema_or_none (Some p) = p.schema

abbrev pub schema_at : Shape → Stream → Fields
schema_at nodes s = schema_or_none (node_at nodes s.0)

-- what stands so far: the nodes, and the names in use
pub record State : Type 0 where
  pub nodes : Shape
  pub names : Names

-- a stream that was made, and what stands then
pub record Made : Type 0 where
  pub state : State
  pub stream : Stream

-- a new node, whose first port is the stream
abbrev pub insert_node : State → PhysicalNode → Made
insert_node s p = record { state = record s { nodes = s.nodes ++ p ∷ [] }; stream = (length s.nodes, 0) }

-- a fresh name, and what stands then
abbrev pub new_name : State → Name
new_name s = fresh_name s.names

abbrev pub after_name : State → State
after_name s = record s { names = after_fresh s.names }

-- as many fresh names as there are items, in order
abbrev pub new_names : {A : Type 0} → List A → State → List Name
new_names [] s = []
new_names (x ∷ xs) s = new_name s ∷ new_names xs (after_name s)

abbrev pub after_names : {A : Type 0} → List A → State → State
after_names [] s = s
after_names (x ∷ xs) s = after_names xs (after_name s)

-- items under names
abbrev pub under : {A : Type 0} → List Name → List A → List (Name × A)
under [] xs = []
under (n ∷ ns) [] = []
under (n ∷ ns) (x ∷ xs) = (n, x) ∷ under ns xs

abbrev pub columns_named : List Name → List Tree
columns_named ns = map (λ n. Tree.column n) ns

abbrev pub same_names : List Name → List Name → Bool
same_names [] [] = true
same_names (m ∷ ms) (n ∷ ns) = bytes_eq m n && same_names ms ns
same_names _ _ = false

-- the schema of named expressions over a schema
abbrev pub selected_schema : List Named → Fields → Fields
selected_schema es s = unwrap_or (fields_of es s) []

module _ (at : ℕ) where
  -- a node over one stream
  abbrev pub over : PhysicalKind → Fields → Stream → State → Made
  over kind schema input s = insert_node s (record { kind = kind; schema = schema; origin = at; inputs = input ∷ [] })

  -- a node over one stream that keeps its columns
  abbrev pub over_same : PhysicalKind → Stream → State → Made
  over_same kind input s = over kind (schema_at s.nodes input) input s

  -- a node of named expressions over a stream
  abbrev pub over_selected : PhysicalKind → List Named → Stream → State → Made
  over_selected kind es input s = over kind (selected_schema es (schema_at s.nodes input)) input s

  abbrev pub projection : List Name → Stream → State → Made
  projection ns input s = over (simple_projection ns) (unwrap_or (named_fields ns (schema_at s.nodes input)) []) input s

  -- the stream with these columns: itself where these are its columns in order
  abbrev pub with_columns : List Name → Stream → State → Made
  with_columns ns input s = if same_names ns (names_of (schema_at s.nodes input)) then record { state = s; stream = input } else projection ns input s

  -- what reads no input
  abbrev pub without_input : List Named → State → Made
  without_input es s = insert_node s (record { kind = independent_select es; schema = selected_schema es []; origin = at; inputs = [] })
