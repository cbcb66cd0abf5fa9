use Rattle.std.proofs.Common.{◌≡◌, true, take}
use Rattle.std.specs.List.{list_all}
use Rattle.text_tokens.specs.Runs.{is_in}
use Rattle.text_tokens.proofs.run.run_len.Given as goal

abbrev pub invariant-loop-i : goal.invariant-loop-i
invariant-loop-i l = list_all (is_in l.class) (take l.i l.bytes) ≡ true
