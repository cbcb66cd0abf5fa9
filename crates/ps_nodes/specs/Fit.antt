-- Over which schemas nodes can make their tables.
use Rattle.std.specs.Prelude.{◌⊎◌, [], ◌∷◌, IsTrue}
use Rattle.ps_frame.specs.Tables.{Fields}
use Rattle.ps_meaning.specs.Steps.{Step}
use Rattle.ready_steps.specs.Ready.{IsReady}
use Rattle.ps_owned_maps.specs.Owned.{is_function}

-- A map over a table of this schema is fit, whatever functions there are. One of a function that the caller handed in is asked for that where it is filled.
abbrev pub CanMap : Step → Fields → Type 0
CanMap step s = IsTrue (is_function step) ⊎ (out : Fields) × IsReady step (record { schema = s; rows = [] } ∷ []) out
