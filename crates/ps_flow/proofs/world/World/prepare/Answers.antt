-- What the node prepares is the claim of the world.
use Rattle.std.proofs.Common.{rules, ◌≡◌, None, Some, refl}
use Rattle.std.proofs.lemmas.Result.{IfOk-weaker}
use Rattle.std.specs.Prelude.{IfSome, option_copied}
use Rattle.keyed_slots.specs.Slots.{value_at}
use Rattle.ps_flow.proofs.Preparing.{counts_at, found_is, looked_up, node_there}
use Rattle.ps_flow.proofs.world.World.prepare.Goals as goal
use Rattle.ps_flow.specs.Claiming.{IsClaimOf}

pub returns-in-Some-clause-claim : goal.returns-in-Some-clause-claim
returns-in-Some-clause-claim g c =
    let h = c.args.self.now in
    let seat = c.args.seat in
    let z = c.in-Some.node.now in
    let at : value_at h.graph.nodes.slots seat.node ≡ Some z = search rules in
    let morsel = option_copied c.next_morsel-morsel.result in
    IfOk-weaker c.prepare.result (IsClaimOf g.N.PieceNode.Shows g.N.ClaimNode.IsFor g.N.RunNode.Has z.compute seat c.next_number-number.result morsel) _
    (λ found is F w x cl stands may names.
    found_is g.N.RunNode.Has w h stands F seat.node seat.input seat.worker x cl may g.N.PieceNode.Shows g.N.ClaimNode.IsFor seat refl z at c.next_number-number.result morsel
    (looked_up g.N.RunNode.Has w h stands F seat.node seat.input seat.worker x cl may c.args.key names c.next_number-number.result morsel c.next_number-number.ensures c.next_morsel-morsel.ensures.morsel c.next_morsel-morsel.ensures.none) found is) c.prepare.ensures.claim

pub returns-in-Some-clause-count : goal.returns-in-Some-clause-count
returns-in-Some-clause-count g c =
    let h = c.args.self.now in
    let z = c.in-Some.node.now in
    let at : value_at h.graph.nodes.slots c.args.seat.node ≡ Some z = search rules in
    IfOk-weaker c.prepare.result (λ found. IfSome found (λ y. g.N.ClaimNode.HasCount z.compute y.rows)) _ (λ found some. counts_at g.N.ClaimNode.HasCount h.graph.nodes.slots c.args.seat.node z at found some) c.prepare.ensures.count

pub returns-in-None-clause-claim : goal.returns-in-None-clause-claim
returns-in-None-clause-claim g c = λ F w x cl stands may names.
    let none : value_at c.args.self.now.graph.nodes.slots c.args.seat.node ≡ None = search rules in
    node_there g.N.RunNode.Has w c.args.self.now stands F c.args.seat.node c.args.seat.input c.args.seat.worker x cl may none
