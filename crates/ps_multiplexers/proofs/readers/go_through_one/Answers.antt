use Rattle.std.proofs.Common.{[], ◌∷◌}
use Rattle.ps_multiplexers.proofs.readers.go_through_one.Goals as goal

pub returns : goal.returns
returns c = record { through = λ number before ports fits. let g = c.through.ensures.through number before ports fits in (λ i. g.0 i ∷ [], g.1) }
