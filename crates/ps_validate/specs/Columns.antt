-- What is refused of columns that are looked up by name, or set beside others.
use Rattle.std.specs.Prelude.{◌≡◌, List, [], unwrap_or, map, filter as kept, not, IsTrue, ⊤}
use Rattle.pu_base.specs.declared.arena.Node.{Node}
use Rattle.ps_frame.specs.Frames.{has_name}
use Rattle.ps_frame.specs.Tables.{Fields, field_kind}
use Rattle.ps_frame.specs.declared.expr.What.TheVariants as what
use Rattle.ps_frame.specs.declared.refusal.PolarsError.{PolarsError}
use Rattle.ps_frame.specs.declared.refusal.PolarsError.TheVariants as error
use Rattle.ps_frame.specs.declared.value.DataType.{DataType}
use Rattle.ps_meaning.specs.StepRefusals.{lacks_name, repeats}
use Rattle.ps_meaning.specs.Steps.{Name}

-- an error at a node: a schema lacks one of these names, or one of them stands twice. Want of memory needs no cause.
abbrev pub IsNamingError : Node → Fields → List Name → PolarsError → Type 0
IsNamingError at s ns (error.ColumnNotFound node name) = (node ≡ at) × IsTrue (lacks_name name s ns)
IsNamingError at s ns (error.Duplicate node name) = (node ≡ at) × IsTrue (repeats name ns)
IsNamingError at s ns error.OutOfMemory = ⊤
IsNamingError at s ns _ = ⊥

-- an error at a node: one of these names stands twice. Want of memory needs no cause.
abbrev pub IsRepeatError : Node → List Name → PolarsError → Type 0
IsRepeatError at ns (error.Duplicate node name) = (node ≡ at) × IsTrue (repeats name ns)
IsRepeatError at ns error.OutOfMemory = ⊤
IsRepeatError at ns _ = ⊥

-- the fields with the kinds that others of their names have
abbrev pub with_kinds : Fields → Fields → Fields
with_kinds others s = map (λ (f : Name × DataType). (f.0, unwrap_or (field_kind f.0 others) f.1)) s

-- the fields whose names a schema lacks
abbrev pub absent_from : Fields → Fields → Fields
absent_from s fs = kept (λ (f : Name × DataType). not (has_name f.0 s)) fs

-- an error at a node: the schema has no columns. Want of memory needs no cause.
abbrev pub IsEmptyError : Node → Fields → PolarsError → Type 0
IsEmptyError at s (error.Unsupported node w) = (node ≡ at) × (w ≡ what.NoColumns) × (s ≡ [])
IsEmptyError at s error.OutOfMemory = ⊤
IsEmptyError at s _ = ⊥
