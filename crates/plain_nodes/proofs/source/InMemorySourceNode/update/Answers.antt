-- It stays in its stage, and answers by its row.
use Rattle.std.proofs.Common.{[], refl, sym}
use Rattle.node_states.specs.Views.{sides_of}
use Rattle.plain_nodes.proofs.Updated.{stays_update}
use Rattle.plain_nodes.specs.Seen.{view_of}
use Rattle.plain_nodes.specs.Plain as plain
use Rattle.plain_nodes.proofs.source.InMemorySourceNode.update.Goals as goal

pub returns : goal.returns
returns c =
    let a = plain.in_memory_source c.args.self.now in
    let given = sides_of [] c.args.send.now in
    let gave = sym (c.gave_all-gave_all.ensures c.args.self.now.source.rows (sym c.height.ensures.rows)) in
    stays_update a given _ refl c.requires refl refl refl (c.answer.ensures (view_of a given) (record { kind = refl; gave = gave }))
