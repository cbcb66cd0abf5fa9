-- It pulls the morsel, or claims it.
use Rattle.std.proofs.Common.{◌∙◌, sym}
use Rattle.flow_moves.proofs.Takes.{only_claims, pulls_it}
use Rattle.flow_moves.proofs.node_moves.take_of.Goals as goal
use Rattle.ps_flow.specs.Standing.{seen_as}
use Rattle.ps_world.specs.World.{shape_of}

pub returns-then-pulls : goal.returns-then-pulls
returns-then-pulls g c = λ F w x p stands may at uncut has among leads waits.
    pulls_it F w may c.args.node x at uncut c.args.input p among leads waits (sym (c.pulls.ensures w.options (seen_as (shape_of w) x has.0) has.1) ∙ c.if-pulls.true)

pub returns-else-pulls : goal.returns-else-pulls
returns-else-pulls g c = λ F w x p stands may at uncut has among leads waits.
    let only = only_claims F w may c.args.node x at uncut c.args.input p among leads waits (sym (c.pulls.ensures w.options (seen_as (shape_of w) x has.0) has.1) ∙ c.if-pulls.false) in
    c.claim_of.ensures F w x only.0 stands may only.1
