-- By the first input that has a next morsel.
use Rattle.std.proofs.Common.{◌∙◌, ap, arith, false, slice_get, subst, sym, true}
use Rattle.flow_moves.proofs.Owning.{each_input, one_input}
use Rattle.flow_moves.proofs.OnePlace.{few_inputs}
use Rattle.flow_moves.proofs.node_moves.move_by.Goals as goal
use Rattle.flow_moves.specs.Moves.{IsSo, is_waiting}
use Rattle.ps_flow.proofs.Replacing.{node_stands}

pub overflow_cast-place : goal.overflow_cast-place
overflow_cast-place g c =
    let found = c.in-Some.ensures.found in
    let few = few_inputs c.args.world.now.graph c.requires.linked c.args.node c.args.found.now c.requires.node c.in-Some.input found.0 (ap (λ l. slice_get l c.in-Some.input) (sym c.as_slice.ensures.value) ∙ found.1) in
    omega (arith, few)

pub returns-in-Some : goal.returns-in-Some
returns-in-Some g c = λ F w x stands may at uncut.
    let h = c.args.world.now in
    let n = c.args.node in
    let found = c.in-Some.ensures.found in
    let has = stands.nodes.each n x c.args.found.now.compute at.0 (node_stands h.graph stands.linked n c.args.found.now c.requires.node) in
    let so = subst (λ ps. IsSo ps found.0 is_waiting true) c.pipes.ensures found.2 in
    let p = one_input F w n g.N.RunNode.Has h stands c.args.found.now c.requires.node c.in-Some.input found.0 (ap (λ l. slice_get l c.in-Some.input) (sym c.as_slice.ensures.value) ∙ found.1) is_waiting true so in
    c.take_of.ensures F w x p.0 stands may at uncut has p.1 p.2 p.3

pub returns-in-None : goal.returns-in-None
returns-in-None g c = λ F w x stands may at uncut.
    let h = c.args.world.now in
    c.own_of.ensures F w x stands may at uncut c.requires.node
    (each_input F w c.args.node g.N.RunNode.Has h stands c.args.found.now c.requires.node is_waiting false
    (λ i key at'. subst (λ ps. IsSo ps key is_waiting false) c.pipes.ensures (c.in-None.ensures.none i key (ap (λ l. slice_get l i) c.as_slice.ensures.value ∙ at'))))
