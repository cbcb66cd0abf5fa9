use Rattle.std.proofs.Common.{◌≡◌, List, length, ap, sym, subst, ◌∙◌}
use Rattle.std.specs.Prelude.{IfOk, IsTrue}
use Rattle.ps_meaning.specs.Shape.{Shape}
use Rattle.ps_meaning.specs.Sound.{HasOneReaderEach, all_inputs}
use Rattle.ps_phys.specs.Shown.{nodes_of}
use Rattle.ps_phys.specs.Underway.{AreThere, numbers_in}
use Rattle.ps_phys.specs.Walks.{shape_in}
use Rattle.ps_phys.specs.declared.phys.PhysNodeKey.{PhysNodeKey}
use Rattle.plan_readers.proofs.plans.check_readers.Goals as goal

pub check_order-requires : goal.check_order-requires
check_order-requires c = let P : List PhysNodeKey → Type 0 = λ ks. AreThere c.args.phys.now.slots ks in
    record { there = subst P (sym c.as_slice.ensures.value) c.in_ok-order.ensures.there }

pub returns-clause-one_each : goal.returns-clause-one_each
returns-clause-one_each c = λ f.
    let P : Shape → Type 0 = λ s. IfOk c.check_order.result (λ r. IsTrue r.one_each → HasOneReaderEach s) in
    subst P (ap (λ ns. shape_in ns (nodes_of f c.args.phys.now.slots)) (ap numbers_in c.as_slice.ensures.value ∙ c.in_ok-order.ensures.order f)) (c.check_order.ensures.one_each f)

pub returns-clause-nodes : goal.returns-clause-nodes
returns-clause-nodes c = λ f.
    let P : Shape → Type 0 = λ s. IfOk c.check_order.result (λ r. r.nodes ≡ length s) in
    subst P (ap (λ ns. shape_in ns (nodes_of f c.args.phys.now.slots)) (ap numbers_in c.as_slice.ensures.value ∙ c.in_ok-order.ensures.order f)) (c.check_order.ensures.nodes f)

pub returns-clause-inputs : goal.returns-clause-inputs
returns-clause-inputs c = λ f.
    let P : Shape → Type 0 = λ s. IfOk c.check_order.result (λ r. r.inputs ≡ length (all_inputs s)) in
    subst P (ap (λ ns. shape_in ns (nodes_of f c.args.phys.now.slots)) (ap numbers_in c.as_slice.ensures.value ∙ c.in_ok-order.ensures.order f)) (c.check_order.ensures.inputs f)
