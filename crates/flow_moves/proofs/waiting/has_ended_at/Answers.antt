-- By the key that stands there.
use Rattle.std.proofs.Common.{◌≡◌, ◌∙◌, false, subst, sym, true}
use Rattle.flow_moves.proofs.Looking.{one_key, no_key}
use Rattle.flow_moves.proofs.waiting.has_ended_at.Goals as goal
use Rattle.flow_moves.specs.Moves.{IsSo, is_through}

pub returns-in-Some-clause-yes : goal.returns-in-Some-clause-yes
returns-in-Some-clause-yes c = λ yes key there.
    subst (λ k. IsSo c.args.pipes.now k is_through true) (one_key c.in-Some.key key (sym c.key_at.ensures ∙ c.in-Some.is) there) (λ s ps p shown at. c.has_ended.ensures s ps p shown at ∙ yes)

pub returns-in-Some-clause-other : goal.returns-in-Some-clause-other
returns-in-Some-clause-other c = λ other. (c.in-Some.key, sym c.key_at.ensures ∙ c.in-Some.is, λ s ps p shown at. c.has_ended.ensures s ps p shown at ∙ other)

pub returns-in-None-clause-yes : goal.returns-in-None-clause-yes
returns-in-None-clause-yes c = λ yes key there. absurd (no_key key (sym c.key_at.ensures ∙ c.in-None.is) there)

pub returns-in-None-clause-other : goal.returns-in-None-clause-other
returns-in-None-clause-other c = λ other. absurd (let clash : true ≡ false = other in cc)
