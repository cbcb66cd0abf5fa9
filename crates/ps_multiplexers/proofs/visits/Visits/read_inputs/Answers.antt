use Rattle.std.proofs.Common.{◌<◌, ◌∙◌, append-nil, arith, refl, sym}
use Rattle.std.specs.Prelude.{IsSome}
use Rattle.keyed_slots.specs.Slots.{value_at}
use Rattle.ps_multiplexers.proofs.Visited.{all-at, input-within, read-end, read-next, waits-end, waits-next}
use Rattle.ps_phys.specs.Shown.{inputs_of, stream_of}
use Rattle.ps_phys.specs.Underway.{numbers_in}
use Rattle.ps_phys.specs.Walks.{Stream}
use Rattle.ps_multiplexers.proofs.visits.Visits.read_inputs.Goals as goal

pub loop-input-init : goal.loop-input-init
loop-input-init c = (λ w h. h, λ count all. refl, λ slots all h. h, refl, sym (append-nil (numbers_in c.args.self.now.read.items)))

pub loop-input-preserved : goal.loop-input-preserved
loop-input-preserved c =
    let inputs = inputs_of c.args.kind.now in
    let v = c.loop-input.invariant in
    let e = c.in_ok-push_if_new.ensures in
    let at = sym c.in-Some.ensures.stream in
    let s = stream_of c.in-Some.input in (
      λ w h. waits-next inputs c.loop-input.place s w c.push_if_new.new.self.pushed.slots c.push_if_new.new.self.waiting.items at (e.waits _ (v.0 w h)),
      λ count all. e.left count (all-at (λ (i : Stream). i.0 < count) inputs c.loop-input.place s all at) ∙ v.1 count all,
      λ slots all h. e.there slots (all-at (λ (i : Stream). IsSome (value_at slots i.0)) inputs c.loop-input.place s all at) (v.2 slots all h),
      e.taken ∙ v.3,
      read-next inputs c.loop-input.place s c.in-Some.input.node c.args.self.now.read.items c.loop-input.self.read.items c.push_if_new.new.self.read.items at refl v.4 (e.read ∙ c.in_ok-push.ensures.items),
    )

pub loop-input-smaller : goal.loop-input-smaller
loop-input-smaller c = let l = input-within (inputs_of c.args.kind.now) c.loop-input.place (stream_of c.in-Some.input) (sym c.in-Some.ensures.stream) in omega (arith, l)

pub returns-clause-waits : goal.returns-clause-waits
returns-clause-waits c = λ w h. waits-end (inputs_of c.args.kind.now) c.loop-input.place w c.loop-input.self.pushed.slots c.loop-input.self.waiting.items (sym c.in_default.ensures.stream) (c.loop-input.invariant.0 w h)

pub returns-clause-left : goal.returns-clause-left
returns-clause-left c = c.loop-input.invariant.1

pub returns-clause-there : goal.returns-clause-there
returns-clause-there c = c.loop-input.invariant.2

pub returns-clause-read : goal.returns-clause-read
returns-clause-read c = read-end (inputs_of c.args.kind.now) c.loop-input.place c.args.self.now.read.items c.loop-input.self.read.items (sym c.in_default.ensures.stream) c.loop-input.invariant.4
