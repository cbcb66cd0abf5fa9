use Rattle.std.proofs.Common.{ap, ◌∙◌}
use Rattle.pu_index.proofs.Rings.{emptied}
use Rattle.pu_index.proofs.ring.FixedRingBuffer.destroy_empty.Goals as goal

pub deallocate-requires : goal.deallocate-requires
deallocate-requires g c = let h = c.self.invariant in (emptied c.self.inside h (ap (λ r. r.items) c.self.view_is ∙ c.requires), h.deed.0, h.deed.1, h.deed.2)
