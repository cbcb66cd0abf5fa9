-- Values that may be missing.
use Rattle.std.specs.Prelude.{Option, Some, None}
use Rattle.ps_frame.specs.declared.value.Value.{Value}
use Rattle.ps_frame.specs.declared.value.Value.TheVariants as val

-- a value, or null where there is none
abbrev pub or_null : Option Value → Value
or_null None = val.Null
or_null (Some v) = v
