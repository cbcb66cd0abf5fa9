use Rattle.arena_keeps.proofs.Covered.{covered_kept}
use Rattle.arena_keeps.proofs.laws.covered_plans_are_kept.Goals as goal

pub returns : goal.returns
returns c = λ F stored t names stands covered. covered_kept F stored t stands covered names
