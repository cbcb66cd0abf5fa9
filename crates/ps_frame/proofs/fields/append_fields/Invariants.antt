use Rattle.std.proofs.Common.{◌≡◌, ◌++◌, take}
use Rattle.ps_frame.proofs.fields.append_fields.Given as goal

abbrev pub invariant-loop-field : goal.invariant-loop-field
invariant-loop-field l = l.copy.items ≡ l.initial.copy.items ++ take l.field-index l.fields
