-- One link more, and then the sink: the chain lacks nothing.
use Rattle.std.proofs.Common.{◌≡◌, ◌+◌, false, List, [], ◌∷◌, ◌++◌, length, get_or, sym, ap, ◌∙◌, arith}
use Rattle.ps_graph.specs.declared.key.GraphNodeKey.{GraphNodeKey}
use Rattle.graph_trials.specs.declared.kind.Kind.{Kind}
use Rattle.graph_trials.specs.declared.kind.Kind.TheVariants as kind
use Rattle.graph_trials.proofs.Chaining.{chain_complete, links_all, links_more}
use Rattle.graph_trials.proofs.settling.chain.Goals as goal

pub loop-number-init : goal.loop-number-init
loop-number-init c = record { chain = c.in_ok-graph.ensures.chain; pipes = c.in_ok-graph.ensures.pipes; kinds = c.in_ok-graph.ensures.kinds }

pub extend-requires-clause-last : goal.extend-requires-clause-last
extend-requires-clause-last c = ap (λ (k : GraphNodeKey). k.0) c.from_number-last.ensures ∙ sym c.loop-number.invariant.pipes

pub extend-requires-clause-room : goal.extend-requires-clause-room
extend-requires-clause-room c = let pipes = c.loop-number.invariant.pipes in let test = c.loop-number-test.true in let few = c.requires.few in omega (arith, pipes, test, few)

pub loop-number-preserved : goal.loop-number-preserved
loop-number-preserved c = record {
  chain = c.in_ok-extend.ensures.chain;
  pipes = c.in_ok-extend.ensures.pipes ∙ ap (λ n. n + 1) c.loop-number.invariant.pipes;
  kinds =
      c.in_ok-extend.ensures.kinds ∙ ap (λ (l : List Kind). l ++ get_or c.args.links.now c.loop-number.number (kind.Source false) ∷ []) c.loop-number.invariant.kinds
      ∙ links_more (kind.Source c.args.spent) c.args.links.now c.loop-number.number (kind.Source false) c.loop-number-test.true;
}

pub extend-requires-2-clause-last : goal.extend-requires-2-clause-last
extend-requires-2-clause-last c =
    let over = c.loop-number-test.false in
    let within = c.loop-number.auto.number-end in
    let pipes = c.loop-number.invariant.pipes in
    let all : length c.args.links.now ≡ length c.loop-number.graph.pipes.slots = omega (arith, over, within, pipes) in
    ap (λ (k : GraphNodeKey). k.0) c.from_number-end.ensures ∙ all

pub extend-requires-2-clause-room : goal.extend-requires-2-clause-room
extend-requires-2-clause-room c = let within = c.loop-number.auto.number-end in let pipes = c.loop-number.invariant.pipes in let few = c.requires.few in omega (arith, within, pipes, few)

pub complete_graphs_run-requires-clause-complete : goal.complete_graphs_run-requires-clause-complete
complete_graphs_run-requires-clause-complete c κs =
    let over = c.loop-number-test.false in
    let within = c.loop-number.auto.number-end in
    let pipes = c.loop-number.invariant.pipes in
    let more = c.in_ok-extend-2.ensures.pipes in
    chain_complete c.extend-2.new.graph c.args.spent c.args.links.now c.requires.links c.in_ok-extend-2.ensures.chain
    (c.in_ok-extend-2.ensures.kinds ∙ ap (λ (l : List Kind). l ++ kind.Sink ∷ []) (c.loop-number.invariant.kinds ∙ links_all (kind.Source c.args.spent) c.args.links.now c.loop-number.number (omega (arith, over))))
    (omega (arith, over, within, pipes, more))
