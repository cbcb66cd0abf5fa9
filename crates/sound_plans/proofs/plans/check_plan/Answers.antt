use Rattle.std.proofs.Common.{List, ap, sym, subst, ◌∙◌}
use Rattle.ps_frame.specs.Trees.{tree_at}
use Rattle.ps_meaning.specs.Shape.{Shape}
use Rattle.ps_meaning.specs.Sound.{IsSoundButForReaders}
use Rattle.ps_phys.specs.Shown.{nodes_of}
use Rattle.ps_phys.specs.Placed.{IsPlaced}
use Rattle.ps_phys.specs.Underway.{numbers_in}
use Rattle.ps_phys.specs.Walks.{shape_in}
use Rattle.ps_phys.specs.declared.phys.PhysNodeKey.{PhysNodeKey}
use Rattle.sound_plans.proofs.plans.check_plan.Goals as goal

pub are_fit-requires-clause-places : goal.are_fit-requires-clause-places
are_fit-requires-clause-places g c = λ κs lives.
    let P : List PhysNodeKey → Type 0 = λ ks. IsPlaced (numbers_in ks) c.in_ok-places.places.slots in
    subst P (c.as_slice.ensures.value ∙ sym c.as_slice-2.ensures.value) c.in_ok-places.ensures.places

pub returns-clause-sound : goal.returns-clause-sound
returns-clause-sound g c = λ told.
    let f = tree_at c.args.arena.now.items in
    let F = g.F.Functions.told c.args.functions.now in
    let P : Shape → Type 0 = λ s. IsSoundButForReaders F s in
    (subst P (ap (λ ns. shape_in ns (nodes_of f c.args.phys.now.slots)) (ap numbers_in c.as_slice-2.ensures.value ∙ c.in_ok-order.ensures.order f)) (c.in_ok-fit.ensures.fit told), c.in_ok-readers.ensures.one_each f c.if-not-one_each.false)
