-- No pipes at first, and one more with each input.
use Rattle.std.proofs.Common.{◌+◌, ℕ, [], ◌∷◌, ◌++◌, List, length, take, get_or, sym, ap, subst, arith}
use Rattle.ps_graph.specs.Adding.{WithPipes, fresh_wires}
use Rattle.ps_graph.specs.declared.key.GraphNodeKey.{GraphNodeKey}
use Rattle.ps_graph.specs.declared.key.LogicalPipeKey.{LogicalPipeKey}
use Rattle.ps_graph.proofs.Growing.{length-more, next_input, no_pipes, pipes_next, pipes_so_far, take_length, take_next}
use Rattle.ps_graph.proofs.graph.Graph.add_pipes.Goals as goal

pub loop-input-init : goal.loop-input-init
loop-input-init g c = record {
  added = subst (λ (l : List LogicalPipeKey). WithPipes c.args.self.now c.args.self.now [] l) (sym c.new-keys.ensures.items) (no_pipes c.args.self.now c.requires.linked c.args.receiver.0);
  counted = ap length c.new-keys.ensures.items;
}

pub add_pipe-requires-clause-input : goal.add_pipe-requires-clause-input
add_pipe-requires-clause-input g c =
    next_input c.args.self.now c.loop-input.self (fresh_wires c.args.receiver.0 0 (take c.loop-input.input c.args.inputs.now)) c.loop-input.keys.items c.args.receiver.0 c.loop-input.input c.loop-input.invariant.added c.requires.receiver
    c.loop-input.invariant.counted

pub add_pipe-requires-clause-room : goal.add_pipe-requires-clause-room
add_pipe-requires-clause-room g c =
    let so_far = pipes_so_far c.args.self.now c.loop-input.self c.args.receiver.0 c.loop-input.input c.args.inputs.now c.loop-input.keys.items c.requires.linked.pipes_there c.loop-input.invariant.added in
    let more = c.loop-input-test.true in
    let room = c.requires.room in
    omega (arith, so_far, more, room)

pub loop-input-preserved : goal.loop-input-preserved
loop-input-preserved g c =
    let none : GraphNodeKey × ℕ = (record { 0 = 0 }, 0) in
    let next = take_next c.loop-input.input c.args.inputs.now none c.loop-input-test.true in
    let long = take_length c.loop-input.input c.args.inputs.now c.loop-input-test.true in
    let more = pipes_next c.args.self.now c.loop-input.self c.add_pipe.new.self (get_or c.args.inputs.now c.loop-input.input none).0 c.args.receiver (get_or c.args.inputs.now c.loop-input.input none).1 c.loop-input.input c.in_ok-key.key
    (take c.loop-input.input c.args.inputs.now) c.loop-input.keys.items c.loop-input.invariant.added.linked c.loop-input.invariant.added c.requires.receiver (sym long) c.in_ok-key.ensures.key c.in_ok-key.ensures.pipes c.in_ok-key.ensures.linked
    c.in_ok-key.ensures.nodes c.in_ok-key.ensures.origins c.in_ok-key.ensures.count in
    let P : List (GraphNodeKey × ℕ) → List LogicalPipeKey → Type 0 = λ xs ks. WithPipes c.args.self.now c.add_pipe.new.self (fresh_wires c.args.receiver.0 0 xs) ks in
    let count = length-more c.loop-input.keys.items c.in_ok-key.key in
    let so_many = c.loop-input.invariant.counted in
    record {
      added = subst (λ ks. P (take (c.loop-input.input + 1) c.args.inputs.now) ks) (sym c.in_ok-push.ensures.items) (subst (λ xs. P xs (c.loop-input.keys.items ++ c.in_ok-key.key ∷ [])) (sym next) more);
      counted = omega (arith, ap length c.in_ok-push.ensures.items, count, so_many);
    }
