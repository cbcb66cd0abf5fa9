-- A chain of the source and the first links.
use Rattle.std.proofs.Common.{◌≡◌, ◌∷◌, length, take}
use Rattle.graph_trials.specs.Chains.{IsChain, kinds_of}
use Rattle.graph_trials.specs.declared.kind.Kind.TheVariants as kind
use Rattle.graph_trials.proofs.settling.chain.Given as goal

abbrev pub invariant-loop-number : goal.invariant-loop-number
invariant-loop-number l = record {
  chain : IsChain l.graph;
  pipes : length l.graph.pipes.slots ≡ l.number;
  kinds : kinds_of l.graph ≡ kind.Source l.spent ∷ take l.number l.links;
}
