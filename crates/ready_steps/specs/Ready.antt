-- When a step can be computed over tables.
use Rattle.std.specs.Prelude.{◌≡◌, List, map, Some}
use Rattle.ps_frame.specs.Functions.{Functions}
use Rattle.ps_frame.specs.Tables.{Fields, Frame}
use Rattle.ps_meaning.specs.Schemas.{output_schema}
use Rattle.ps_meaning.specs.Steps.{Step}
use Rattle.ps_walks.specs.Fit.{IsFit}

-- the schemas of tables
abbrev pub frame_schemas : List Frame → List Fields
frame_schemas fs = map (λ (f : Frame). f.schema) fs

-- the step is fit for the schemas of these tables, over which it has this one
pub record IsReadyFor (F : Functions) (step : Step) (fs : List Frame) (s : Fields) : Type 0 where
  pub fit : IsFit F step (frame_schemas fs)
  pub schema : output_schema F step (frame_schemas fs) ≡ Some s

-- so it is for some functions
abbrev pub IsReady : Step → List Frame → Fields → Type 0
IsReady step fs s = (F : Functions) × IsReadyFor F step fs s
