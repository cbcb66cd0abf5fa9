-- Operands by how they end.
use Rattle.std.specs.Prelude.{ℕ, ◌==◌, nat_lt, nat_le, min, List, [], ◌∷◌, map, Bool, false, not, ◌&&◌, is_some, Option, Some, None, if◌then◌else◌}
use Rattle.ps_expr_eval.specs.declared.lengths.Ending.{Ending}
use Rattle.ps_frame.specs.Zip.{Extent, breaks_shape}
use Rattle.ps_frame.specs.declared.value.DataFault.{DataFault}
use Rattle.ps_frame.specs.declared.value.DataFault.TheVariants as fault

-- what the rules on lengths ask of an ending
abbrev pub extent_held : Ending → Extent
extent_held e = record { ended = is_some e.fault; len = e.len }

-- the lesser of a number and one that may be there
abbrev pub lesser_of : Option ℕ → ℕ → ℕ
lesser_of None n = n
lesser_of (Some m) n = min m n

-- the length of the first whole operand of another length than 1
abbrev pub first_open : List Ending → Option ℕ
first_open [] = None
first_open (e ∷ es) = if not (is_some e.fault) && not (e.len == 1) then Some e.len else first_open es

-- whether an operand can't stand beside whole ones of this length
abbrev pub disagrees : ℕ → Ending → Bool
disagrees n e = if is_some e.fault then nat_le 2 e.len && nat_lt n e.len else not (e.len == 1) && not (e.len == n)

-- the fault of the first operand that one ended
abbrev pub first_ended : List Ending → Option DataFault
first_ended [] = None
first_ended (e ∷ es) = if is_some e.fault then e.fault else first_ended es

-- one of the faults that end operands side by side: Shape where their lengths can't agree, else that of the first that is ended
abbrev pub ending_fault : List Ending → Option DataFault
ending_fault es = if breaks_shape false (map extent_held es) then Some fault.Shape else first_ended es
