-- There are as many rows more as the morsel has.
use Rattle.std.proofs.Common.{◌-◌, ◌^◌, ap, length, sym, ◌∙◌}
use Rattle.std.specs.Prelude.{min}
use Rattle.node_work.proofs.Together.{count_more}
use Rattle.node_work.specs.Stored.{rows_in}
use Rattle.node_work.proofs.stored_morsels.StoredMorsels.push.Goals as goal

pub invariant_of-self : goal.invariant_of-self
invariant_of-self c =
    count_more (2 ^ 64 - 1) c.self.inside.rows c.height.result c.saturating_add-self-inside.result c.self.inside.morsels.items c.args.morsel c.self.invariant c.height.ensures.rows c.saturating_add-self-inside.ensures
    ∙ ap (λ fs. min (length (rows_in fs)) (2 ^ 64 - 1)) (sym c.push_reserved.ensures.items)

pub returns-clause-fault : goal.returns-clause-fault
returns-clause-fault c = c.fault_of.ensures (length (rows_in c.push_reserved.new.self.items)) (invariant_of-self c)
