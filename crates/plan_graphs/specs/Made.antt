-- What the nodes of a graph hold of the physical nodes that they are made of, and what a new one is.
use Rattle.std.specs.Prelude.{◌≡◌, ℕ, Bool, false, List, [], ◌∷◌, length, Option, None, Some, IfSome, ⊤}
use Rattle.ps_frame.specs.Tables.{Fields}
use Rattle.ps_meaning.specs.Schemas.{first_schema, second_schema}
use Rattle.ps_meaning.specs.Shape.{PhysicalKind, in_memory_join, in_memory_map, negative_slice, zip_node}
use Rattle.plain_nodes.specs.Cutting.{IsFirstCut}
use Rattle.plain_nodes.specs.Seen.{IsNewZip}
use Rattle.ps_nodes.specs.Seen.{IsNew, IsNewJoin, IsNewKeeper, kind_of}
use Rattle.ps_nodes.specs.declared.flow.FlowNode.{FlowNode}
use Rattle.ps_nodes.specs.declared.flow.FlowNode.TheVariants as flow

-- the schema of what a node gives, where the node holds it
abbrev pub held_schema : FlowNode → Option Fields
held_schema (flow.Select n) = Some n.schema
held_schema (flow.InMemorySink n) = Some n.schema
held_schema (flow.Reduce n) = Some n.output_schema
held_schema (flow.GroupBy n) = Some n.output_schema
held_schema (flow.EquiJoin n) = Some n.output_schema
held_schema (flow.InMemoryJoin n) = Some n.output_schema
held_schema _ = None

-- the schemas of its inputs, in order, where it holds them
abbrev pub held_inputs : FlowNode → Option (List Fields)
held_inputs (flow.SimpleProjection n) = Some (n.input_schema ∷ [])
held_inputs (flow.Zip n) = Some n.schemas.items
held_inputs (flow.InMemoryMap n) = Some (n.input.schema ∷ [])
held_inputs (flow.EquiJoin n) = Some (n.left ∷ n.right ∷ [])
held_inputs (flow.InMemoryJoin n) = Some (n.left.schema ∷ n.right.schema ∷ [])
held_inputs _ = None

-- a zip of so many inputs, of which nothing came
abbrev pub IsNewZipOf : (extend : Bool) (inputs : ℕ) → FlowNode → Type 0
IsNewZipOf extend inputs (flow.Zip n) = IsNewZip extend inputs n
IsNewZipOf extend inputs _ = ⊥

-- a node of a kind that gives this schema over inputs of these schemas, which has nothing behind it
abbrev pub IsNewOf : PhysicalKind → Fields → List Fields → FlowNode → Type 0
IsNewOf (in_memory_map step) s ss n = IsNewKeeper (in_memory_map step) ss (([] ∷ []) ∷ []) n
IsNewOf (in_memory_join o) s ss n = IsNewJoin o (first_schema ss) (second_schema ss) s n
IsNewOf (negative_slice back k) s ss n = IsNewKeeper (negative_slice back k) [] ([] ∷ []) n
IsNewOf (zip_node extend) s ss n = IsNewZipOf extend (length ss) n
IsNewOf kind s ss n = IsNew kind n

-- it wasn't told yet how its query is run, and a source's morsels are numbered from 0 on
abbrev pub IsUntold : FlowNode → Type 0
IsUntold (flow.InMemorySource n) = IsFirstCut n.options × (n.seq_offset ≡ 0)
IsUntold (flow.NegativeSlice n) = IsFirstCut n.made.options
IsUntold (flow.GroupBy n) = IsFirstCut n.options
IsUntold (flow.InMemoryJoin n) = IsFirstCut n.made.options
IsUntold (flow.InMemoryMap n) = IsFirstCut n.made.options × (n.waits ≡ false)
IsUntold _ = ⊤

-- A node of a graph shows a kind, with its parameters, and what it holds of schemas are this one and those of the inputs; and it is new.
pub record IsMadeOf (kind : PhysicalKind) (schema : Fields) (ss : List Fields) (n : FlowNode) : Type 0 where
  pub shows : kind_of n ≡ kind
  pub holds_schema : IfSome (held_schema n) (λ s. s ≡ schema)
  pub holds_inputs : IfSome (held_inputs n) (λ ts. ts ≡ ss)
  pub new : IsNewOf kind schema ss n
  pub untold : IsUntold n
