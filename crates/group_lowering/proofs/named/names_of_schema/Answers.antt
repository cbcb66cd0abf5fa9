use Rattle.std.proofs.Common.{[], ◌∷◌, ◌++◌, sym, ◌∙◌}
use Rattle.group_lowering.proofs.NamedLemmas.{names_next}
use Rattle.group_lowering.proofs.named.names_of_schema.Goals as goal

pub loop-i-preserved : goal.loop-i-preserved
loop-i-preserved c = c.in_ok-push.ensures.items ∙ (λ j. c.loop-i.invariant j ++ c.in_ok-copied.ensures.same j ∷ []) ∙ sym (names_next c.args.schema.now c.loop-i.i c.name.result.now c.name.ensures)
