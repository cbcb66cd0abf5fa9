use Rattle.std.proofs.Common.{arith, ap, ◌∙◌}
use Rattle.keyed_slots.specs.Slots.{value_at}
use Rattle.keyed_slots.proofs.SlotLemmas.{value_at-push_empty}
use Rattle.keyed_slots.proofs.slot.grow.Goals as goal

pub empties-preserved : goal.empties-preserved
empties-preserved g c = (
  omega arith,
  omega arith,
  omega arith,
  λ number. ap (λ xs. value_at xs number) c.push_reserved.ensures.items
      ∙ value_at-push_empty c.empties.slots.items number
      ∙ c.empties.invariant.3 number,
)
