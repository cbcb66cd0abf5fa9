-- What is of a sound shape.
use Rattle.std.specs.Prelude.{◌≡◌, ℕ, List}
use Rattle.ps_frame.specs.Functions.{Functions}
use Rattle.ps_frame.specs.Tables.{Fields}
use Rattle.ps_meaning.specs.Shape.{PhysicalKind, PhysicalNode, Shape}
use Rattle.ps_meaning.specs.Sound.{IsFitNode, input_schemas}

-- some node of a sound shape is of this kind, has this schema, and inputs of these schemas
pub record IsOfSoundShape (kind : PhysicalKind) (schema : Fields) (ss : List Fields) : Type 0 where
  pub functions : Functions
  pub shape : Shape
  pub number : ℕ
  pub node : PhysicalNode
  pub fit : IsFitNode functions shape number node
  pub of_kind : node.kind ≡ kind
  pub of_schema : node.schema ≡ schema
  pub inputs : input_schemas shape node ≡ ss
