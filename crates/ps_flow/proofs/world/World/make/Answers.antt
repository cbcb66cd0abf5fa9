-- The claim of the world is made.
use Rattle.std.proofs.Common.{◌∙◌, ◌∷◌, ◌++◌, [], ap, length, refl, subst, sym}
use Rattle.keyed_slots.specs.Slots.{value_at}
use Rattle.ps_flow.proofs.Claims.{key_alike, ready_placed}
use Rattle.ps_flow.proofs.Made.{claims_made, placed_wires, took_outputs, took_wires}
use Rattle.ps_flow.proofs.Moving.{if_some_at, stood}
use Rattle.ps_flow.proofs.world.World.make.Goals as goal
use Rattle.ps_flow.specs.Changes.{ChangedAt}
use Rattle.ps_flow.specs.Claiming.{HasClaimed, dropped_if, placed, taken_if}
use Rattle.ps_flow.specs.Standing.{setting_of}
use Rattle.ps_world.specs.Claims.{piece_of}
use Rattle.ps_world.specs.World.{shape_of}
use Rattle.world_pipes.specs.Shown.{AreShown}
use Rattle.world_records.specs.declared.records.Record.TheVariants as entry

pub returns-clause-made : goal.returns-clause-made
returns-clause-made g c = λ F w x cl stands may names gives.
    let Has = g.N.RunNode.Has in
    let h = c.args.self.now in
    let n = c.args.seat.node in
    let i = c.args.seat.input in
    let worker = c.args.seat.worker in
    let key = c.args.key in
    let s = setting_of (shape_of w) w.options in
    let ps = (placed w n).pipes in
    let took = taken_if cl.takes_morsel n i ps in
    let taken_shown =
    subst (λ b. AreShown s (taken_if b n i ps) c.take_if.new.pipes) gives.takes
    (c.take_if.ensures s ps n i stands.pipes (key_alike n i w.pipes ps (placed_wires F w n i worker x cl may) key names) (λ t. ready_placed F w n i worker x cl may (sym gives.takes ∙ t))) in
    let dropped_shown =
    subst (λ b. AreShown s (dropped_if b (length h.graph.nodes.slots) n i took) c.drop_if.new.pipes) gives.drops
    (c.drop_if.ensures s took n i taken_shown (key_alike n i w.pipes took (took_wires F w n i worker x cl may) key names) (stands.wires ∙ placed_wires F w n i worker x cl may ∙ sym (took_wires F w n i worker x cl may)) (took_outputs F w n i worker x cl may)) in
    let z = stood Has (placed w n) h stands n x may.here in
    let changed = if_some_at (λ z. ChangedAt (HasClaimed Has i c.args.claimed.rows) z n h.graph.nodes.slots c.claim_at.new.nodes.slots) (value_at h.graph.nodes.slots n) z.0 z.1 c.claim_at.ensures in
    let q = piece_of n i worker cl in
    let is = c.place_of-place.ensures q gives.shows in
    let more = c.append.ensures.records ∙ ap (λ r. h.journal.records ++ r ∷ []) (c.record_of.ensures ∙ (λ j. entry.Claim (is.node j) (is.input j) (is.number j) (is.worker j))) in
    claims_made F w n i worker x cl may Has h stands z.0 z.1 c.args.claimed.rows (record h.graph { nodes = c.claim_at.new.nodes }) changed refl key names gives.rows_are c.drop_if.new.pipes c.give.new.self c.append.new.self dropped_shown
    (c.give.ensures w.options.workers w.outs q stands.outs (record { worker_is = refl; node_is = refl; input_is = refl })) more c.requires.spare c.append.ensures.spare
