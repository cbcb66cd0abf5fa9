-- It turns by its stage alone, and answers by its stage after the turn.
use Rattle.std.proofs.Common.{[], refl}
use Rattle.bare_nodes.specs.Uncalled.{no_functions}
use Rattle.node_states.specs.Stages.{stage_of}
use Rattle.node_states.specs.Views.{sides_of}
use Rattle.plain_nodes.proofs.Turning.{turns_plainly}
use Rattle.plain_nodes.specs.Seen.{any_options, progress_of, seen, view_of}
use Rattle.plain_nodes.specs.Plain as plain
use Rattle.plain_nodes.proofs.reduce.ReduceNode.update.Goals as goal

pub returns : goal.returns
returns c =
    let a = plain.reduce c.args.self.now in
    let b = plain.reduce (record c.args.self.now { stage = c.next_stage-stage.result }) in
    let given = sides_of c.args.recv.now c.args.send.now in
    let stage = c.next_stage-stage.ensures (view_of a given) (record { kind = refl; stage = refl; gave = refl; filled = refl }) in
    record {
      update = record {
        ports = (c.requires.input, c.requires.output);
        agrees = refl;
        turns = turns_plainly no_functions any_options (seen a).node [] given (progress_of a) refl (stage_of c.next_stage-stage.result) stage;
        others = refl;
        answers = c.answer.ensures (view_of b given) refl refl;
      };
      options = refl;
      ports = λ i o p. p;
    }
