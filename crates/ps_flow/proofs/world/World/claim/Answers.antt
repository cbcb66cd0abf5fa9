-- There is a claim, and it is made.
use Rattle.std.proofs.Common.{◌≡◌, subst, sym}
use Rattle.ps_flow.proofs.Preparing.{both_ok, found_at, found_none, key_names}
use Rattle.ps_flow.proofs.world.World.claim.Goals as goal
use Rattle.ps_flow.specs.Claiming.{Gives, rows_next}
use Rattle.ps_flow.specs.declared.claim_node.Seat.{Seat}
use Rattle.ps_outs.proofs.Counting.{seat_free}
use Rattle.ps_world.specs.Claims.{piece_of}

pub carry_out-requires-clause-free : goal.carry_out-requires-clause-free
carry_out-requires-clause-free g c κs within =
    let r = c.requires in
    seat_free r.1.options.workers r.1.outs c.args.self.now.outs r.4.outs c.args.worker r.5.free

pub unreachable-requires : goal.unreachable-requires
unreachable-requires g c =
    let r = c.requires in
    let h = c.args.self.now in
    let seat : Seat = record { node = c.args.node; input = c.args.input; worker = c.args.worker } in
    let names = key_names h.graph seat.node seat.input c.input_key-key.result c.input_key-key.ensures.key c.input_key-key.ensures.none r.1.pipes r.4.linked r.4.wires in
    found_none (Gives g.N.PieceNode.Shows g.N.ClaimNode.IsFor r.0 seat r.2.node (rows_next r.1 seat.node seat.input) r.3) c.in-Ok.found (c.in-Ok.ensures.claim r.0 r.1 r.2 r.3 r.4 r.5 names) c.in-None.is

pub returns-clause-claimed : goal.returns-clause-claimed
returns-clause-claimed g c =
    both_ok c.carry_out.result (λ piece. piece ≡ c.in-Some.claimed.piece) _ _
    (λ piece same made F w x cl stands may.
    let h = c.args.self.now in
    let seat : Seat = record { node = c.args.node; input = c.args.input; worker = c.args.worker } in
    let names = key_names h.graph seat.node seat.input c.input_key-key.result c.input_key-key.ensures.key c.input_key-key.ensures.none w.pipes stands.linked stands.wires in
    let gives =
    found_at (Gives g.N.PieceNode.Shows g.N.ClaimNode.IsFor F seat x.node (rows_next w seat.node seat.input) cl) c.in-Ok.found (c.in-Ok.ensures.claim F w x cl stands may names) c.in-Some.claimed c.in-Some.is in (
      subst (λ p. g.N.PieceNode.Shows (piece_of seat.node seat.input seat.worker cl) p) (sym same) gives.shows,
      subst (λ p. g.N.ClaimNode.IsFor F x.node p) (sym same) gives.suits,
      made F w x cl stands may names gives,
    )) c.carry_out.ensures.piece c.carry_out.ensures.made
