use Rattle.ps_frame.proofs.Gathers.{frame-gathered, rows_of-gathered}
use Rattle.ps_frame.proofs.Rows.{length-rows_of}
use Rattle.ps_frame.proofs.frame.DataFrame.pick.Goals as goal

pub pick_all-requires-clause-heights : goal.pick_all-requires-clause-heights
pick_all-requires-clause-heights c = rw c.as_slice.ensures.value c.self.invariant.heights

pub pick_all-requires-clause-there : goal.pick_all-requires-clause-there
pick_all-requires-clause-there c =
    let a = c.self.inside in
    let there = rw (← c.self.view_is) at c.requires.there in
    rw (length-rows_of a.height a.columns.items c.self.invariant.heights) at there

pub invariant_of-result : goal.invariant_of-result
invariant_of-result c =
    let a = c.self.inside in
    rw (c.in_ok-schema.ensures.same, c.in_ok-columns.ensures.picked, c.as_slice.ensures.value, c.len-height.ensures)
    (frame-gathered a.schema c.args.rows.now a.columns.items a.height c.self.invariant c.requires.few)

pub returns-clause-rows : goal.returns-clause-rows
returns-clause-rows c =
    let a = c.self.inside in
    let there = rw (← c.self.view_is) at c.requires.there in
    let inside = rw (length-rows_of a.height a.columns.items c.self.invariant.heights) at there in
    rw (← c.self.view_is, c.in_ok-columns.ensures.picked, c.as_slice.ensures.value, c.len-height.ensures)
    (rows_of-gathered c.args.rows.now a.height a.columns.items c.self.invariant.heights inside)
