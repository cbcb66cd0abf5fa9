-- An update leaves how many morsels were claimed.
use Rattle.std.proofs.Common.{◌≡◌}
use Rattle.std.proofs.lemmas.Result.{on_ok_weaker}
use Rattle.node_states.specs.Views.{sides_of}
use Rattle.plain_nodes.specs.Plain as plain
use Rattle.plain_nodes.specs.Seen.{Updates}
use Rattle.turn_scripts.proofs.Updated.{updated}
use Rattle.turn_scripts.proofs.turns.NegativeSliceNodeTurns.turn.Goals as goal

pub returns-clause-claimed : goal.returns-clause-claimed
returns-clause-claimed c =
    on_ok_weaker {P = Updates (plain.negative_slice c.args.self.now) (sides_of c.args.recv.now c.args.send.now) (plain.negative_slice c.update.new.self) (sides_of c.update.new.recv c.update.new.send)} {Q = c.update.new.self.made.sent ≡ c.args.self.now.made.sent} c.update.result
    (λ u. (updated (plain.negative_slice c.args.self.now) (plain.negative_slice c.update.new.self) _ _ u).sent)
    c.update.ensures.updated
