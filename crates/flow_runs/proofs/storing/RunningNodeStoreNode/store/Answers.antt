-- A sink stores it behind the others; no other node that streams pulls.
use Rattle.std.proofs.Common.{◌∙◌}
use Rattle.flow_runs.proofs.Held.{pulls_alone, stores_alone, stores_it, tells_it}
use Rattle.flow_runs.proofs.storing.RunningNodeStoreNode.store.Goals as goal

pub returns-in-Stores : goal.returns-in-Stores
returns-in-Stores c = λ F shape n o x h feeds. (
  stores_it c.in-Stores.stored c.push.new.self c.args.morsel c.push.ensures.stored F shape n c.args.self.now c.in-Stores.is o x c.args._input h feeds,
  c.push.ensures.fault ∙ tells_it c.in-Stores.stored c.push.new.self c.args.morsel c.push.ensures.stored F shape n c.args.self.now c.in-Stores.is o x c.args._input h feeds,
)

pub returns-in_default : goal.returns-in_default
returns-in_default c = λ F shape n o x h feeds.
    let s = stores_alone c.args.self.now.work x.node x.progress (pulls_alone x.node.kind h.is.streams feeds.stores) h.is.does in absurd (c.in_default.not-Stores s.0 s.1)
