use Rattle.pu_base.specs.declared.arena.Node.{Node}
use Rattle.ps_frame.specs.Trees.{Tree}
use Rattle.ps_phys.specs.Shown.{kind_of}
use Rattle.plan_readers.proofs.Ordering.{read-as}
use Rattle.plan_readers.proofs.plans.is_read_as.Goals as goal

pub returns-clause-read : goal.returns-clause-read
returns-clause-read c =
    read-as (λ (f : Node → Tree). kind_of f c.args.kind.now) c.count.result c.args.ports.now c.as_slice.result.now c.are_read_once.result (c.takes_readers-takes.ensures c.if-not-takes.false) c.count.ensures c.as_slice.ensures c.are_read_once.ensures.once
