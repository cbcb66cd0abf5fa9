-- It turns by its stage, with its table, and answers by its stage after the turn.
use Rattle.std.proofs.Common.{[], refl, subst, sym}
use Rattle.bare_nodes.specs.Bare.{bare_node}
use Rattle.bare_nodes.specs.Uncalled.{no_functions}
use Rattle.node_states.specs.Views.{sides_of}
use Rattle.ps_meaning.specs.Shape.{negative_slice}
use Rattle.plain_nodes.specs.Seen.{Updates, progress_of, view_of}
use Rattle.plain_nodes.specs.Plain as plain
use Rattle.plain_nodes.specs.declared.negative_slice.NegativeSliceNode.{NegativeSliceNode}
use Rattle.ps_turns.specs.Updates.{Turns}
use Rattle.plain_nodes.proofs.negative_slice.NegativeSliceNode.update.Goals as goal

pub returns-clause-updated : goal.returns-clause-updated
returns-clause-updated c =
    let old = c.args.self.now in
    let new : NegativeSliceNode = record old { stage = c.next_stage-stage.result; made = record old.made { table = c.turn.new.self.made.table } } in
    let a = plain.negative_slice old in
    let given = sides_of c.args.recv.now c.args.send.now in
    let others = c.in-Ok.ensures.others in
    let stage = c.next_stage-stage.ensures (view_of a given) (record { kind = refl; stage = refl; gave = sym c.gave_all.ensures; filled = refl }) in
    let turned = subst (λ (n : NegativeSliceNode). Turns no_functions old.made.options (bare_node (negative_slice old.back old.length) []) [] given (progress_of a) (progress_of (plain.negative_slice n))) others (c.in-Ok.ensures.turned given stage) in
    let update : Updates a given (plain.negative_slice new) (sides_of c.answer.new.recv c.answer.new.send) =
    record {
      update = record {
        ports = (c.requires.input, c.requires.output);
        agrees = refl;
        turns = turned;
        others = refl;
        answers = c.answer.ensures (view_of (plain.negative_slice new) given) refl refl;
      };
      options = refl;
      ports = λ i o p. p;
    } in
    subst (λ n. Updates a given (plain.negative_slice n) (sides_of c.answer.new.recv c.answer.new.send)) (sym others) update
