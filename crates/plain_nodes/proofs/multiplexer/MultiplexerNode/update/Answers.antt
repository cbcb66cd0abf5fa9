-- It stays in its stage, and answers by its row.
use Rattle.std.proofs.Common.{refl, sym}
use Rattle.node_states.specs.Views.{sides_of}
use Rattle.plain_nodes.proofs.Updated.{stays_update}
use Rattle.plain_nodes.specs.Seen.{view_of}
use Rattle.plain_nodes.specs.Plain as plain
use Rattle.plain_nodes.proofs.multiplexer.MultiplexerNode.update.Goals as goal

pub returns : goal.returns
returns c =
    let a = plain.multiplexer c.args.self.now in
    let given = sides_of c.args.recv.now c.args.send.now in
    stays_update a given _ c.requires.input c.requires.outputs refl refl refl (c.answer.ensures (view_of a given) (record { kind = refl; pipes = sym c.told.ensures }))
