-- Fields that a schema owns, or shares with others.
use Rattle.ps_frame.specs.Tables.{Fields}
use Rattle.ps_frame.specs.declared.schema.Held.{Held}
use Rattle.ps_frame.specs.declared.schema.Held.TheVariants.{Own, Shared}

-- the fields, wherever they lie
abbrev pub held_fields : Held → Fields
held_fields (Own fields) = fields
held_fields (Shared fields) = fields.value
