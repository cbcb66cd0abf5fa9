-- An update leaves how many stores and heads a zip has, and how much was claimed of it.
use Rattle.std.proofs.Common.{◌≡◌, length}
use Rattle.std.proofs.lemmas.Result.{on_ok_weaker}
use Rattle.node_states.specs.Views.{sides_of}
use Rattle.plain_nodes.specs.Plain as plain
use Rattle.plain_nodes.specs.Seen.{Updates}
use Rattle.turn_scripts.specs.Stores.{HasStores}
use Rattle.turn_scripts.proofs.Updated.{updated, zip_inputs, zip_stores}
use Rattle.turn_scripts.proofs.turns.ZipNodeTurns.turn.Goals as goal

pub update-requires-clause-inputs : goal.update-requires-clause-inputs
update-requires-clause-inputs c = zip_inputs c.args.self.now (length c.args.recv.now) c.requires.inputs

pub returns-clause-inputs : goal.returns-clause-inputs
returns-clause-inputs c =
    on_ok_weaker {P = Updates (plain.zip c.args.self.now) (sides_of c.args.recv.now c.args.send.now) (plain.zip c.update.new.self) (sides_of c.update.new.recv c.update.new.send)} {Q = HasStores (length c.args.recv.now) c.update.new.self} c.update.result
    (λ u. zip_stores c.args.self.now c.update.new.self _ _ (length c.args.recv.now) c.requires.inputs u)
    c.update.ensures.updated

pub returns-clause-claimed : goal.returns-clause-claimed
returns-clause-claimed c =
    on_ok_weaker {P = Updates (plain.zip c.args.self.now) (sides_of c.args.recv.now c.args.send.now) (plain.zip c.update.new.self) (sides_of c.update.new.recv c.update.new.send)} {Q = c.update.new.self.booked ≡ c.args.self.now.booked} c.update.result
    (λ u. (updated (plain.zip c.args.self.now) (plain.zip c.update.new.self) _ _ u).booked)
    c.update.ensures.updated
