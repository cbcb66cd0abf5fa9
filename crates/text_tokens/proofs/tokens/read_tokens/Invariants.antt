use Rattle.std.proofs.Common.{◌≡◌, false, length}
use denote.Text.{Utf8}
use denote.Shadow.{shadow}
use Rattle.text_tokens.specs.Runs.{begins, is_blank}
use Rattle.text_tokens.proofs.Cutting.{AreRead}
use Rattle.text_tokens.proofs.tokens.read_tokens.Given as goal

abbrev pub invariant-loop-rest : goal.invariant-loop-rest
invariant-loop-rest l = AreRead l.text l.tokens.items l.rest × (begins is_blank l.text ≡ false) × shadow (Utf8 l.rest)

abbrev pub decreases-loop-rest : goal.decreases-loop-rest
decreases-loop-rest l = length l.rest
