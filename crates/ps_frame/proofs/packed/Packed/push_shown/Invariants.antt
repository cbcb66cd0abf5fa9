use Rattle.std.proofs.Common.{◌≡◌, ◌++◌, take}
use Rattle.ps_frame.proofs.packed.Packed.push_shown.Given as goal

abbrev pub invariant-loop-i : goal.invariant-loop-i
invariant-loop-i l = l.self ≡ record { kind = l.initial.self.kind; values = l.initial.self.values ++ take l.i l.view }
