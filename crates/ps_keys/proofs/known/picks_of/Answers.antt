use Rattle.ps_keys.proofs.Codes.{picks-more}
use Rattle.ps_keys.proofs.known.picks_of.Goals as goal

pub loop-column-preserved : goal.loop-column-preserved
loop-column-preserved c =
    picks-more c.loop-column.picks.items c.push.new.self.items c.args.columns.now c.loop-column.column-index (record { places = c.in-Some.places; count = c.in-Some.count }) c.column-item.result
    c.loop-column-test.true c.column-item.is c.loop-column.invariant c.in-Some.ensures c.in_ok-push.ensures.items
