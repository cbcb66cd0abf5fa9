use Rattle.std.proofs.Common.{◌≡◌, ◌++◌, ℕ, take, ap, ◌∙◌, arith}
use Rattle.ps_frame.proofs.Lists.{list_all-at}
use Rattle.ps_frame.proofs.Packing.{pushed-below, was_left, was_taken}
use Rattle.ps_frame.specs.Series.{Series}
use Rattle.ps_frame.specs.Values.{fits_kind}
use Rattle.ps_frame.proofs.packed.Packed.push_shown.Goals as goal

pub push_at-requires : goal.push_at-requires
push_at-requires c =
    rw c.loop-i.invariant (list_all-at (fits_kind c.args.self.now.kind) c.args.view.now c.loop-i.i c.value.result.now c.requires c.value.ensures)

pub loop-i-preserved : goal.loop-i-preserved
loop-i-preserved c =
    pushed-below c.args.self.now c.args.view.now c.loop-i.i c.value.result.now c.loop-i.self c.push_at.new.self c.loop-i.invariant
    (was_taken c.in_ok-taken.taken _ _ _ c.in_ok-taken.ensures.taken c.if-not-taken.false) c.value.ensures

pub returns-then-not-taken-clause-added : goal.returns-then-not-taken-clause-added
returns-then-not-taken-clause-added c = was_left c.in_ok-taken.taken _ _ _ c.in_ok-taken.ensures.taken c.if-not-taken.true ∙ c.loop-i.invariant

pub returns-clause-added : goal.returns-clause-added
returns-clause-added c =
    let start = c.args.self.now in
    let whole : c.loop-i.i ≡ c.len-count.result = omega arith in
    c.loop-i.invariant ∙ ap (λ (n : ℕ). let t : Series = record { kind = start.kind; values = start.values ++ take n c.args.view.now } in t) whole
