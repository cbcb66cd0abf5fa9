-- Each key's pipe is at a port of the node, and reading goes on by one key.
use Rattle.std.proofs.Common.{◌≡◌, ◌<◌, length, take, Some, None, get_or, sym, subst, rules}
use Rattle.std.specs.Prelude.{IsTrue, slice_set}
use Rattle.keyed_slots.specs.Slots.{value_at}
use Rattle.ps_ports.specs.Phases.{is_one_of}
use Rattle.ps_graph.specs.Ends.{other_state, place_at}
use Rattle.ps_graph.specs.Shown.{numbers}
use Rattle.ps_graph.proofs.Keys.{take_over}
use Rattle.ps_graph.proofs.Loops.{key_inside, key_there, reads_more}
use Rattle.ps_graph.proofs.ends.given.Goals as goal
use Rattle.ps_graph.proofs.ends.given.Goals.{in-Some, in_default}

pub index_mut-requires : goal.index_mut-requires
index_mut-requires c =
    let at : value_at c.args.pipes.now.slots (get_or c.args.keys.now c.loop-key.key-index (record { 0 = 0 })).0 ≡ Some c.in-Some.pipe.now = search rules in
    let inside = key_inside c.args.end c.args.pipes.now.slots c.args.keys.now c.loop-key.key-index (length c.args.keys.now) (record { 0 = 0 }) c.in-Some.pipe.now c.loop-key-test.true c.requires.there at in
    let port = c.port_at.ensures in
    let long = c.loop-key.invariant.long in
    let room = c.loop-key.states.ok in
    search rules

pub loop-key-preserved : goal.loop-key-preserved
loop-key-preserved c = elim c.match-get.branch [
  | in-Some w ↦
      let at : value_at c.args.pipes.now.slots (get_or c.args.keys.now c.loop-key.key-index (record { 0 = 0 })).0 ≡ Some w.in-Some.pipe.now = search rules in
      let inside = key_inside c.args.end c.args.pipes.now.slots c.args.keys.now c.loop-key.key-index (length c.args.keys.now) (record { 0 = 0 }) w.in-Some.pipe.now c.loop-key-test.true c.requires.there at in
      let long = c.loop-key.invariant.long in
      let write : c.match-get.states.items ≡ slice_set c.loop-key.states.items (place_at c.args.end w.in-Some.pipe.now) (other_state c.args.end w.in-Some.pipe.now) = search rules in
      record {
        long = search rules;
        at = reads_more c.args.end c.args.pipes.now.slots c.args.keys.now c.loop-key.key-index (record { 0 = 0 }) w.in-Some.pipe.now c.loop-key.states.items c.match-get.states.items c.loop-key-test.true c.requires.alike at
            (subst (λ n. place_at c.args.end w.in-Some.pipe.now < n) (sym long) inside) write c.loop-key.invariant.at;
      }
  | in_default w ↦
      let none : value_at c.args.pipes.now.slots (get_or c.args.keys.now c.loop-key.key-index (record { 0 = 0 })).0 ≡ None = search rules in
      absurd (key_there c.args.end c.args.pipes.now.slots c.args.keys.now c.loop-key.key-index (length c.args.keys.now) (record { 0 = 0 }) c.loop-key-test.true c.requires.there none)
]

pub returns-clause-states : goal.returns-clause-states
returns-clause-states c k p among at =
    let all : take c.loop-key.key-index c.args.keys.now ≡ c.args.keys.now = take_over c.args.keys.now c.loop-key.key-index c.loop-key-test.false in
    c.loop-key.invariant.at k p (subst (λ l. IsTrue (is_one_of k (numbers l))) (sym all) among) at
