-- The answer goes into the one pipe that leaves the node, if there is one.
use Rattle.std.proofs.Common.{◌∙◌, ap, subst, sym}
use Rattle.std.specs.Prelude.{◌&&◌, nat_eq}
use Rattle.ps_flow.proofs.OutputKeys.{none_changed, sent_by}
use Rattle.ps_flow.proofs.outputs.put_out.Goals as goal
use Rattle.ps_settle.proofs.Members.{contains_at}
use Rattle.ps_world.specs.Pipes.{with_answer}
use Rattle.ps_world.specs.World.{Pipe}
use Rattle.world_pipes.specs.Shown.{AreShown}

pub put-requires : goal.put-requires
put-requires g c =
    let r = c.requires in
    let names = c.in-Some.ensures.key r.1 r.3 r.4 r.5 in
    (r.0, r.1, r.2, λ p at. r.6 p (contains_at r.1 c.in-Some.key.0 p at) (sent_by c.args.node c.in-Some.key r.1 p names at))

pub returns-in-Some : goal.returns-in-Some
returns-in-Some g c = λ s ps shown linked wires one schema.
    let names = c.in-Some.ensures.key ps linked wires one in
    c.put.ensures s ps (λ (p : Pipe). nat_eq p.wire.sender c.args.node) shown names (λ p at. schema ∙ ap s.schema (sym (sent_by c.args.node c.in-Some.key ps p names at)))

pub returns-in-None : goal.returns-in-None
returns-in-None g c = λ s ps shown linked wires one schema.
    subst (λ l. AreShown s l c.args.pipes.now)
    (sym (none_changed (λ p. nat_eq p.wire.sender c.args.node && p.in_phase) (with_answer c.args.number c.args.table.rows) ps (λ p among. ap (λ b. b && p.in_phase) (c.in-None.ensures.none ps p linked wires among)))) shown
