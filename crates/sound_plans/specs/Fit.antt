-- What a node of a sound shape keeps, whatever its place and its readers.
use Rattle.std.specs.Prelude.{◌≢◌, List, [], IsTrue, length, ⊤}
use Rattle.ps_frame.specs.Functions.{Functions}
use Rattle.ps_frame.specs.Tables.{Fields}
use Rattle.ps_meaning.specs.Shape.{PhysicalKind, in_memory_sink, multiplexer, streaming_slice}
use Rattle.ps_meaning.specs.Sound.{BreaksNoRule, HasFitParameters, HasInputs, HasSchema, have_kinds_over, rules_of}

-- a node of this kind and schema, over inputs of these schemas
pub record IsFitOver (F : Functions) (kind : PhysicalKind) (s : Fields) (ss : List Fields) : Type 0 where
  pub inputs : HasInputs kind (length ss)
  pub schema : HasSchema F kind ss s
  pub not_empty : s ≢ []
  pub parameters : HasFitParameters F kind
  pub kinds : IsTrue (have_kinds_over ss (rules_of kind))
  pub rules : BreaksNoRule F (rules_of kind) ss

-- a kind that passes its input's columns on, whatever they are
abbrev pub IsPassedOn : PhysicalKind → Type 0
IsPassedOn (streaming_slice offset n) = ⊤
IsPassedOn in_memory_sink = ⊤
IsPassedOn multiplexer = ⊤
IsPassedOn _ = ⊥
