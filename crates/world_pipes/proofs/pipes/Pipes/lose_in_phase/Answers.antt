-- One key more, and in the end all.
use Rattle.std.proofs.Common.{◌∙◌, ◌∷◌, [], ap, get_or, subst, sym, take}
use Rattle.ps_world.specs.Pipes.{dropped_pipe}
use Rattle.ps_graph.proofs.Keys.{numbers-more, take_over}
use Rattle.ps_graph.specs.Shown.{numbers}
use Rattle.world_pipes.proofs.Placed.{lost_there, loses_twice, more_changed}
use Rattle.world_pipes.proofs.pipes.Pipes.lose_in_phase.Goals as goal
use Rattle.world_pipes.specs.Changed.{Changed, if_in_phase}

pub loop-key-preserved : goal.loop-key-preserved
loop-key-preserved c =
    let keys = c.args.keys.now in
    let i = c.loop-key.key-index in
    let more = more_changed (if_in_phase dropped_pipe) loses_twice (numbers (take i keys)) (get_or keys i (record { 0 = 0 })).0 c.args.self.now.list.items c.loop-key.self.list.items c.lose_at.new.self.list.items c.loop-key.invariant
    (subst (λ n. Changed (if_in_phase dropped_pipe) (n ∷ []) c.loop-key.self.list.items c.lose_at.new.self.list.items) c.place.ensures c.lose_at.ensures) in
    subst (λ ns. Changed (if_in_phase dropped_pipe) ns c.args.self.now.list.items c.lose_at.new.self.list.items) (sym (numbers-more keys i (record { 0 = 0 }) c.loop-key-test.true)) more

pub returns : goal.returns
returns c = λ s ps test shown names.
    let over = c.loop-key-test.false in
    lost_there s ps c.args.self.now _ shown test (numbers (take c.loop-key.key-index c.args.keys.now)) c.loop-key.invariant (ap numbers (take_over c.args.keys.now c.loop-key.key-index over) ∙ names)
