-- The first table goes, and what was so far stays so.
use Rattle.std.proofs.Common.{◌≡◌, ◌<◌, arith, length, refl}
use Rattle.kept_tables.proofs.LastTables.{step_counted, step_kept, step_last}
use Rattle.kept_tables.proofs.last_tables.let_go.Goals as goal

pub loop-first-preserved : goal.loop-first-preserved
loop-first-preserved c =
    let fs = c.loop-first.tables.items in
    let first = c.in-Some.first.now in
    let long : c.loop-first.tables.len ≡ length fs = c.loop-first.tables.ok.0 in
    let there : 0 < c.loop-first.tables.len = c.in-Some.ensures.variant.0 refl in
    let some : 0 < length fs = omega arith in
    let so_far = c.loop-first.invariant in
    let rest = c.pop_front.new.self.items in
    let rows = c.height.ensures.rows in
    let enough = c.if-behind-back.false in
    record {
      counted = step_counted c.args.back c.loop-first.left c.height.result fs rest c.args.tables.now.items first some c.in-Some.ensures.lookup rows c.pop_front.ensures.rest so_far.counted;
      kept = step_kept c.args.back c.loop-first.left c.height.result fs rest c.args.tables.now.items first some c.in-Some.ensures.lookup rows c.pop_front.ensures.rest so_far.counted enough so_far.kept;
      last = step_last c.args.back c.loop-first.left c.height.result fs rest c.args.tables.now.items first some c.in-Some.ensures.lookup rows c.pop_front.ensures.rest so_far.counted so_far.last.0 so_far.last.1;
    }
