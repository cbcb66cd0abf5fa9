-- One key more, and in the end all.
use Rattle.std.proofs.Common.{◌∙◌, ◌∷◌, [], ap, get_or, subst, sym, take, true}
use Rattle.ps_graph.proofs.Keys.{numbers-more, take_over}
use Rattle.ps_graph.specs.Shown.{numbers}
use Rattle.world_pipes.proofs.Phased.{keys_put, puts_twice}
use Rattle.world_pipes.proofs.Placed.{more_changed}
use Rattle.world_pipes.proofs.pipes.Pipes.take_in.Goals as goal
use Rattle.world_pipes.specs.Changed.{Changed}
use Rattle.world_pipes.specs.Shown.{phase_pipe}

pub loop-key-preserved : goal.loop-key-preserved
loop-key-preserved c =
    let keys = c.args.keys.now in
    let i = c.loop-key.key-index in
    let more = more_changed (phase_pipe true) (puts_twice true) (numbers (take i keys)) (get_or keys i (record { 0 = 0 })).0 c.args.self.now.list.items c.loop-key.self.list.items c.put_at.new.self.list.items c.loop-key.invariant
    (subst (λ n. Changed (phase_pipe true) (n ∷ []) c.loop-key.self.list.items c.put_at.new.self.list.items) c.place.ensures c.put_at.ensures) in
    subst (λ ns. Changed (phase_pipe true) ns c.args.self.now.list.items c.put_at.new.self.list.items) (sym (numbers-more keys i (record { 0 = 0 }) c.loop-key-test.true)) more

pub returns : goal.returns
returns c = λ s ps test shown names.
    let over = c.loop-key-test.false in
    keys_put s ps c.args.self.now _ shown true test (numbers (take c.loop-key.key-index c.args.keys.now)) c.loop-key.invariant (ap numbers (take_over c.args.keys.now c.loop-key.key-index over) ∙ names)
