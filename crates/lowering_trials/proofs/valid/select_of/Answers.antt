use Rattle.lowering_trials.proofs.Ready.{whole_of}
use Rattle.lowering_trials.proofs.valid.select_of.Goals as goal

pub returns-clause-whole : goal.returns-clause-whole
returns-clause-whole c =
    whole_of c.args.valid.now c.args.exprs.now.items c.requires c.in_ok-asked.asked.now c.in_ok-table.table.now
    (record { at = c.in_ok-select.select.0; reached = c.in_ok-select.ensures; scan = c.in_ok-asked.scan; from = c.in_ok-asked.ensures; table_is = c.in_ok-table.ensures })
