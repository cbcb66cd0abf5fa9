-- One key more, and in the end all.
use Rattle.std.proofs.Common.{◌∙◌, ◌++◌, ◌∷◌, [], ap, sym, take}
use Rattle.ps_flow.proofs.Marking.{nodes-more, nodes_over}
use Rattle.ps_flow.proofs.marks.Marks.take_in.Goals as goal
use Rattle.ps_flow.specs.Marked.{phase_marks}
use Rattle.ps_graph.specs.Running.{node_numbers}

pub loop-key-preserved : goal.loop-key-preserved
loop-key-preserved c = λ ms none.
    let keys = c.args.keys.now in
    let i = c.loop-key.key-index in
    c.put_in.ensures ms (node_numbers (take i keys)) (c.loop-key.invariant ms none) ∙ ap (λ n. phase_marks (node_numbers (take i keys) ++ n ∷ []) 0 ms) c.number.ensures ∙ ap (λ ns. phase_marks ns 0 ms) (sym (nodes-more keys i (record { 0 = 0 }) c.loop-key-test.true))

pub returns : goal.returns
returns c = λ ms none. c.loop-key.invariant ms none ∙ ap (λ ks. phase_marks (node_numbers ks) 0 ms) (nodes_over c.args.keys.now c.loop-key.key-index c.loop-key-test.false)
