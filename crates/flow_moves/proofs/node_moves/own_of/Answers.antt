-- It claims a part of its own, or is closed, or waits.
use Rattle.std.proofs.Common.{◌∙◌, ap, false, slice_get, subst, sym, true}
use Rattle.flow_moves.proofs.Owning.{over_by, own_none, own_some, still_by}
use Rattle.flow_moves.proofs.Takes.{finishes, own_claim, still_open, takes_nothing}
use Rattle.flow_moves.proofs.node_moves.own_of.Goals as goal
use Rattle.flow_moves.specs.Moves.{IsSo, is_through}
use Rattle.ps_flow.proofs.Replacing.{node_stands}
use Rattle.ps_flow.specs.Standing.{seen_as}
use Rattle.ps_world.specs.World.{heads_of, inputs_done, shape_of}

pub returns-then-claims_own : goal.returns-then-claims_own
returns-then-claims_own g c = λ F w x stands may at uncut there none.
    let n = c.args.node in
    let h = c.args.world.now in
    let has = stands.nodes.each n x c.args.found.now.compute at.0 (node_stands h.graph stands.linked n c.args.found.now there) in
    let is = sym (c.claims_own.ensures w.options (seen_as (shape_of w) x has.0) (heads_of w n x) (inputs_done w n) has.1 (may.all_stream n x at.0)) ∙ c.if-claims_own.true in
    let found = own_some is in
    c.claim_of.ensures F w x found.0 stands may (own_claim F w may n x at uncut none found.0 found.1)

pub returns-then-are_through : goal.returns-then-are_through
returns-then-are_through g c = λ F w x stands may at uncut there none.
    let n = c.args.node in
    let h = c.args.world.now in
    let has = stands.nodes.each n x c.args.found.now.compute at.0 (node_stands h.graph stands.linked n c.args.found.now there) in
    let is = sym (c.claims_own.ensures w.options (seen_as (shape_of w) x has.0) (heads_of w n x) (inputs_done w n) has.1 (may.all_stream n x at.0)) ∙ c.if-claims_own.false in
    let gone = own_none is in
    let over = over_by F w n g.N.RunNode.Has h stands c.args.found.now there (λ i key at'. subst (λ ps. IsSo ps key is_through true) c.pipes.ensures (c.are_through.ensures.yes c.if-are_through.true i key (ap (λ l. slice_get l i) c.as_slice.ensures.value ∙ at'))) in
    c.close_of.ensures F w x stands at (finishes F w may n x at uncut none gone over) (takes_nothing F w may n x at uncut none gone)

pub returns : goal.returns
returns g c = λ F w x stands may at uncut there none.
    let n = c.args.node in
    let h = c.args.world.now in
    let has = stands.nodes.each n x c.args.found.now.compute at.0 (node_stands h.graph stands.linked n c.args.found.now there) in
    let is = sym (c.claims_own.ensures w.options (seen_as (shape_of w) x has.0) (heads_of w n x) (inputs_done w n) has.1 (may.all_stream n x at.0)) ∙ c.if-claims_own.false in
    let left = c.are_through.ensures.other c.if-are_through.false in
    let so = subst (λ ps. IsSo ps left.1 is_through false) c.pipes.ensures left.3 in
    still_open F w may n x at uncut none (own_none is) (still_by F w n g.N.RunNode.Has h stands c.args.found.now there may left.0 left.1 (ap (λ l. slice_get l left.0) (sym c.as_slice.ensures.value) ∙ left.2) so)
