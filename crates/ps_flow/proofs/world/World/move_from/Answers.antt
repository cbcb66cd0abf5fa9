-- The morsel stands in the node's store.
use Rattle.std.proofs.Common.{◌≡◌, ◌∙◌, false, refl, sym, true}
use Rattle.keyed_slots.specs.Slots.{value_at}
use Rattle.ps_flow.proofs.Moving.{if_some_at, stood}
use Rattle.ps_flow.proofs.Storing.{pipe_at, stores}
use Rattle.ps_flow.proofs.world.World.move_from.Goals as goal
use Rattle.ps_flow.specs.Changes.{ChangedAt}
use Rattle.ps_flow.specs.Pulling.{StoresAs}
use Rattle.ps_flow.specs.Standing.{setting_of}
use Rattle.ps_world.specs.Pipes.{is_input}
use Rattle.ps_world.specs.World.{shape_of}

pub returns-in-Some : goal.returns-in-Some
returns-in-Some g c = λ F w y p m stands may names.
    let Has = g.N.RunNode.Has in
    let h = c.args.self.now in
    let s = setting_of (shape_of w) w.options in
    let x = stood Has w h stands c.args.node y may.here in
    let at = pipe_at Has w h stands F c.args.node c.args.input y p m may c.args.key names in
    let changed = if_some_at (λ z. ChangedAt (StoresAs Has c.args.input c.in-Some.morsel c.store_at-found.result) z c.args.node h.graph.nodes.slots c.store_at-found.new.nodes.slots) (value_at h.graph.nodes.slots c.args.node) x.0 x.1 c.store_at-found.ensures in
    stores Has w h stands F c.args.node c.args.input y p m may c.args.key names c.in-Some.morsel (c.in-Some.ensures.morsel s w.pipes p stands.pipes at) x.0 c.store_at-found.result (record h.graph { nodes = c.store_at-found.new.nodes }) x.1 changed refl
    c.next-number.result c.take.new.self c.set_fault.new.fault c.append.new.self (c.next-number.ensures s w.pipes p stands.pipes at) (c.in-Some.ensures.pipes s w.pipes (is_input c.args.node c.args.input) stands.pipes names) c.set_fault.ensures c.requires.records
    c.append.ensures.records c.append.ensures.spare

pub returns-in-None : goal.returns-in-None
returns-in-None g c = λ F w y p m stands may names.
    let at = pipe_at g.N.RunNode.Has w c.args.self.now stands F c.args.node c.args.input y p m may c.args.key names in
    absurd (let clash : true ≡ false = sym may.ready ∙ c.in-None.ensures.no_next (setting_of (shape_of w) w.options) w.pipes p stands.pipes at in cc)
