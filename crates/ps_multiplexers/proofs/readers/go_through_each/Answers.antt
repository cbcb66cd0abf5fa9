use Rattle.std.proofs.Common.{◌<◌, ◌++◌, arith, length, refl, take}
use Rattle.std.proofs.lemmas.List.{length-map}
use Rattle.ps_multiplexers.proofs.Through.{all-through, none-through, one-through, so-far-fits}
use Rattle.ps_phys.specs.Shown.{stream_of, streams_of}
use Rattle.ps_phys.specs.Walks.{numbers_of}
use Rattle.ps_multiplexers.proofs.readers.go_through_each.Goals as goal

pub loop-place-init : goal.loop-place-init
loop-place-init c = λ number before ports fits. none-through number before c.args.inputs.now c.args.readers.now.slots ports

pub loop-place-preserved : goal.loop-place-preserved
loop-place-preserved c = λ number before ports fits.
    let olds = streams_of c.args.inputs.now in
    let within = c.loop-place-test.true in
    let size = length-map c.args.inputs.now stream_of in
    let inside : c.loop-place.place < length olds = omega (arith, within, size) in
    one-through number before olds c.loop-place.place c.loop-place.inputs _ c.loop-place.readers.slots c.through.new.readers.slots c.through.result _
    inside (c.loop-place.invariant number before ports fits) refl
    (λ here. c.through.ensures.through number (before ++ numbers_of (take c.loop-place.place olds)) here (so-far-fits before c.args.inputs.now c.loop-place.place fits within))

pub returns : goal.returns
returns c = record {
  through = λ number before ports fits.
      let past = c.loop-place-test.false in
      let size = length-map c.args.inputs.now stream_of in
      all-through number before (streams_of c.args.inputs.now) c.loop-place.place c.loop-place.inputs c.loop-place.readers.slots (omega (arith, past, size)) (c.loop-place.invariant number before ports fits);
}
