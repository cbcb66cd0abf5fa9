use Rattle.std.proofs.Common.{inr, refl}
use Rattle.arena_keeps.proofs.examples.covered_plans.Goals as goal

pub returns-clause-filtered : goal.returns-clause-filtered
returns-clause-filtered c = λ F. (tt, (((tt, refl, λ e. cc), ((tt, tt), tt)), tt))

pub returns-clause-cached : goal.returns-clause-cached
returns-clause-cached c = λ F. (tt, (((tt, refl, λ e. cc), ((tt, ((tt, tt), tt)), tt)), tt))

pub returns-clause-joined : goal.returns-clause-joined
returns-clause-joined c = λ F. (
  tt,
  (((tt, refl, inr (record { keyed = refl; left_keys = refl; right_keys = refl; left_column = λ e. cc; right_column = λ e. cc })), ((tt, tt), ((tt, tt), tt))), tt),
)
