use Rattle.std.proofs.Common.{arith, ℕ, List, [], length, get_or, ap, sym, subst, ◌∙◌}
use Rattle.ps_meaning.specs.Sound.{EachNode}
use Rattle.plan_readers.proofs.Ordering.{one-each, shape-length}
use Rattle.plan_readers.specs.Ordered.{ordered}
use Rattle.plan_readers.specs.Readers.{IsReadAs, ports_read}
use Rattle.plan_readers.proofs.plans.check_order.Goals as goal

pub returns-clause-one_each : goal.returns-clause-one_each
returns-clause-one_each c = λ f told.
    let shape = ordered f c.args.phys.now.slots c.args.order.now in
    let P : List (List ℕ) → Type 0 = λ rs. EachNode shape (λ n p. IsReadAs p.kind (get_or rs n [])) in
    one-each shape c.in_ok-readers.readers.items (length c.args.order.now) (sym (shape-length f c.args.phys.now.slots c.args.order.now))
    (λ n l. c.in_ok-readers.ensures.told n l ∙ ap (ports_read n) (c.as_slice.ensures.value ∙ c.in_ok-inputs.ensures.inputs f)) (subst P c.as_slice-2.ensures.value (c.in_ok-read.ensures.read told f))

pub returns-clause-nodes : goal.returns-clause-nodes
returns-clause-nodes c = λ f. sym (shape-length f c.args.phys.now.slots c.args.order.now)

pub returns-clause-inputs : goal.returns-clause-inputs
returns-clause-inputs c = λ f.
    let size = c.len.ensures in
    let same = ap length (c.in_ok-inputs.ensures.inputs f) in
    omega (arith, size, same)
