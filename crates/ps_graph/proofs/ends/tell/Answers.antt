-- Each key's pipe is there, and telling goes on by one key.
use Rattle.std.proofs.Common.{◌≡◌, Some, None, get_or, sym, ap, subst, ◌∙◌, rules}
use Rattle.keyed_slots.specs.Slots.{SlotList, value_at}
use Rattle.ps_graph.specs.declared.graph.LogicalPipe.{LogicalPipe}
use Rattle.ps_graph.specs.Ends.{TellsOne}
use Rattle.ps_graph.specs.Marking.{is_marked}
use Rattle.ps_graph.proofs.Loops.{never_none, port_inside, tell_more}
use Rattle.ps_graph.proofs.ends.tell.Goals as goal
use Rattle.ps_graph.proofs.ends.tell.Goals.{in-Some+in_ok-tell_one, in_default}

pub tell_one-requires-clause-inside : goal.tell_one-requires-clause-inside
tell_one-requires-clause-inside c =
    let at : value_at c.loop-key.pipes.slots (get_or c.args.keys.now c.loop-key.key-index (record { 0 = 0 })).0 ≡ Some c.in-Some.pipe = search rules in
    port_inside c.args.end c.args.states.now c.args.keys.now c.loop-key.key-index (record { 0 = 0 }) c.args.pipes.now.slots c.loop-key.pipes.slots (is_marked c.args.marks.now) (is_marked c.loop-key.marks) c.loop-key-test.true
    c.requires.there c.loop-key.invariant c.in-Some.pipe at

pub loop-key-preserved : goal.loop-key-preserved
loop-key-preserved c = elim c.match-copied.branch [
  | in-Some+in_ok-tell_one w ↦
      let at : value_at c.loop-key.pipes.slots (get_or c.args.keys.now c.loop-key.key-index (record { 0 = 0 })).0 ≡ Some w.in-Some.pipe = search rules in
      tell_more c.args.end c.args.states.now c.args.keys.now c.loop-key.key-index (record { 0 = 0 }) c.args.pipes.now.slots c.loop-key.pipes.slots (is_marked c.args.marks.now) (is_marked c.loop-key.marks) c.loop-key-test.true
      c.requires.there c.loop-key.invariant w.in-Some.pipe c.match-copied.pipes.slots (is_marked c.match-copied.marks) at (ap (λ (p : SlotList LogicalPipe). p.slots) w.pipes-is ∙ w.in_ok-tell_one.ensures.written) (subst (λ k. TellsOne c.args.end c.args.states.now w.in-Some.pipe (is_marked c.loop-key.marks) (is_marked k)) (sym w.marks-is) w.in_ok-tell_one.ensures.told)
  | in_default w ↦
      let none : value_at c.loop-key.pipes.slots (get_or c.args.keys.now c.loop-key.key-index (record { 0 = 0 })).0 ≡ None = search rules in
      absurd (never_none c.args.end c.args.states.now c.args.keys.now c.loop-key.key-index (record { 0 = 0 }) c.args.pipes.now.slots c.loop-key.pipes.slots (is_marked c.args.marks.now) (is_marked c.loop-key.marks) c.loop-key-test.true
      c.requires.there c.loop-key.invariant none)
]
