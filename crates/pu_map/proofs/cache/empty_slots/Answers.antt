use Rattle.std.proofs.Common.{arith, ap, ◌∙◌}
use Rattle.pu_map.specs.Cache.{slot_at}
use Rattle.pu_map.proofs.CacheLemmas.{slot_at-push_empty}
use Rattle.pu_map.proofs.cache.empty_slots.Goals as goal

pub empties-preserved : goal.empties-preserved
empties-preserved g c = (
  omega arith,
  omega arith,
  λ i. ap (λ xs. slot_at xs i) c.push_reserved.ensures.items ∙ slot_at-push_empty c.empties.slots.items i ∙ c.empties.invariant.2 i,
)
