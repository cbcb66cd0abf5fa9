use Rattle.std.proofs.Common.{◌≡◌, take}
use Rattle.ps_keys.specs.Codes.{code_at}
use Rattle.ps_keys.proofs.known.code_of.Given as goal

abbrev pub invariant-loop-picks : goal.invariant-loop-picks
invariant-loop-picks l = l.code ≡ code_at (take l.picks-index l.picks) l.row
