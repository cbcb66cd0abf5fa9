-- It turns by its stage, with its table, and answers by its stage after the turn.
use Rattle.std.proofs.Common.{List, [], ◌∷◌, inl, inr, refl, subst, sym}
use Rattle.bare_nodes.specs.Bare.{bare_node}
use Rattle.bare_nodes.specs.Uncalled.{no_functions}
use Rattle.node_states.specs.Stages.{stage_of}
use Rattle.node_states.specs.Views.{sides_of}
use Rattle.ps_frame.specs.Tables.{Table}
use Rattle.ps_meaning.specs.Shape.{in_memory_join}
use Rattle.ps_nodes.proofs.JoinTurn.{join_starts, two_tables}
use Rattle.plain_nodes.specs.Exprs.{join_shown}
use Rattle.ps_nodes.specs.Seen.{Updates, progress_of, view_of}
use Rattle.ps_nodes.specs.declared.flow.FlowNode.TheVariants as flow
use Rattle.ps_nodes.specs.declared.in_memory_join.InMemoryJoinNode.{InMemoryJoinNode}
use Rattle.ps_turns.specs.Results.{BreaksRows}
use Rattle.ps_turns.specs.Updates.{Turns}
use Rattle.ps_nodes.proofs.in_memory_join.InMemoryJoinNode.update.Goals as goal

pub returns-clause-updated : goal.returns-clause-updated
returns-clause-updated c =
    let old = c.args.self.now in
    let step = join_shown old.left_on.items old.right_on.items old.args in
    let new : InMemoryJoinNode = record old { stage = c.next_stage-stage.result; made = record old.made { table = c.turn.new.self.made.table } } in
    let a = flow.InMemoryJoin old in
    let given = sides_of c.args.recv.now c.args.send.now in
    let others = c.in-Ok.ensures.others in
    let stage = c.next_stage-stage.ensures (view_of a given) (record { kind = refl; stage = refl; gave = sym c.gave_all.ensures; filled = refl }) in
    let turned = subst (λ (n : InMemoryJoinNode). Turns no_functions old.made.options (bare_node (in_memory_join step) old.output_schema) (old.left.schema ∷ old.right.schema ∷ []) given (progress_of a) (progress_of (flow.InMemoryJoin n))) others (c.in-Ok.ensures.turned given stage) in
    let update : Updates a given (flow.InMemoryJoin new) (sides_of c.answer.new.recv c.answer.new.send) =
    record {
      update = record {
        ports = (c.requires.inputs.0, c.requires.output);
        agrees = refl;
        turns = turned;
        others = refl;
        answers = c.answer.ensures (view_of (flow.InMemoryJoin new) given) refl refl;
      };
      options = refl;
      ports = λ i o p. p;
    } in
    subst (λ n. Updates a given (flow.InMemoryJoin n) (sides_of c.answer.new.recv c.answer.new.send)) (sym others) update

pub returns-in-Err-clause-fault : goal.returns-in-Err-clause-fault
returns-in-Err-clause-fault c =
    let old = c.args.self.now in
    let step = join_shown old.left_on.items old.right_on.items old.args in
    let a = flow.InMemoryJoin old in
    let given = sides_of c.args.recv.now c.args.send.now in
    let stage = c.next_stage-stage.ensures (view_of a given) (record { kind = refl; stage = refl; gave = sym c.gave_all.ensures; filled = refl }) in
    let starts = join_starts old.made.options step given (progress_of a) (stage_of c.next_stage-stage.result) stage c.in-Err.ensures.begins in
    elim c.in-Err.ensures.fault [
      | inl memory ↦ inl memory
      | inr (x, breaks, is) ↦ inr (x, inr (starts, subst (λ (ts : List Table). BreaksRows no_functions (bare_node (in_memory_join step) old.output_schema) ts x) (sym (two_tables old.left old.right)) breaks), is)
    ]
