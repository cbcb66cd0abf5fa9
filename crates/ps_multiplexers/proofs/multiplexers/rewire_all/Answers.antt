use Rattle.std.proofs.Common.{◌∙◌, refl}
use Rattle.ps_multiplexers.proofs.Rewiring.{all-rewired, begins, next-rewired}
use Rattle.ps_phys.specs.Shown.{nodes_of}
use Rattle.ps_phys.specs.Underway.{numbers_in}
use Rattle.ps_multiplexers.proofs.multiplexers.rewire_all.Goals as goal

pub loop-place-init : goal.loop-place-init
loop-place-init c = (λ f number ports fits. begins number (numbers_in c.args.taken.now) (nodes_of f c.args.phys.now.slots) c.args.readers.now.slots ports fits, refl, λ n h. h)

pub loop-place-preserved : goal.loop-place-preserved
loop-place-preserved c = (
  λ f number ports fits.
      next-rewired number c.args.taken.now (nodes_of f c.args.phys.now.slots) c.loop-place.place _ (nodes_of f c.loop-place.phys.slots) (nodes_of f c.rewire.new.phys.slots) c.loop-place.readers.slots c.rewire.new.readers.slots
      c.loop-place-test.true (c.loop-place.invariant.0 f number ports fits) (c.rewire.ensures.through f number),
  c.rewire.ensures.count ∙ c.loop-place.invariant.1,
  λ n h. c.rewire.ensures.there n (c.loop-place.invariant.2 n h),
)

pub returns-clause-nodes : goal.returns-clause-nodes
returns-clause-nodes c = λ f number ports fits.
    all-rewired number c.args.taken.now (nodes_of f c.args.phys.now.slots) c.loop-place.place (nodes_of f c.loop-place.phys.slots) c.loop-place.readers.slots c.loop-place-test.false (c.loop-place.invariant.0 f number ports fits)
