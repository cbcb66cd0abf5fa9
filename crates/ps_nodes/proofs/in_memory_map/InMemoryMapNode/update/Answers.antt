-- It turns by its stage, with its table, and answers by its stage after the turn.
use Rattle.std.proofs.Common.{List, [], ◌∷◌, inl, inr, refl, subst, sym}
use Rattle.bare_nodes.specs.Bare.{bare_node}
use Rattle.ps_turns.specs.Results.{BreaksRows}
use Rattle.bare_nodes.specs.Uncalled.{no_functions}
use Rattle.node_states.specs.Stages.{stage_of}
use Rattle.node_states.specs.Views.{sides_of}
use Rattle.ps_frame.specs.Tables.{Table}
use Rattle.ps_meaning.specs.Shape.{in_memory_map}
use Rattle.ps_nodes.proofs.MapTurn.{map_starts, one_table}
use Rattle.ps_nodes.specs.Seen.{Updates, progress_of, view_of}
use Rattle.ps_nodes.specs.declared.flow.FlowNode.TheVariants as flow
use Rattle.ps_nodes.specs.declared.in_memory_map.InMemoryMapNode.{InMemoryMapNode}
use Rattle.ps_owned_maps.specs.Owned.{step_of}
use Rattle.ps_turns.specs.Updates.{Turns}
use Rattle.ps_nodes.proofs.in_memory_map.InMemoryMapNode.update.Goals as goal

pub returns-clause-updated : goal.returns-clause-updated
returns-clause-updated c =
    let old = c.args.self.now in
    let turned_to : InMemoryMapNode = record old { stage = c.next_stage-stage.result; made = record old.made { table = c.turn.new.self.made.table } } in
    let new : InMemoryMapNode = record turned_to { waits = c.is_waiting-waits.result } in
    let a = flow.InMemoryMap old in
    let given = sides_of c.args.recv.now c.args.send.now in
    let others = c.in-Ok.ensures.others in
    let stage = c.next_stage-stage.ensures (view_of a given) (record { kind = refl; stage = refl; gave = sym c.gave_all.ensures; filled = sym c.is_filled.ensures }) in
    let turned = subst (λ (n : InMemoryMapNode). Turns no_functions old.made.options (bare_node (in_memory_map (step_of old.map)) []) (old.input.schema ∷ []) given (progress_of a) (progress_of (flow.InMemoryMap n))) others (c.in-Ok.ensures.turned given stage) in
    let update : Updates a given (flow.InMemoryMap new) (sides_of c.answer.new.recv c.answer.new.send) =
    record {
      update = record {
        ports = (c.requires.inputs.0, c.requires.output);
        agrees = refl;
        turns = turned;
        others = refl;
        answers = c.answer.ensures (view_of (flow.InMemoryMap new) given) refl refl;
      };
      options = refl;
      ports = λ i o p. p;
    } in
    subst (λ n. Updates a given (flow.InMemoryMap (record n { waits = c.is_waiting-waits.result })) (sides_of c.answer.new.recv c.answer.new.send)) (sym others) update

pub returns-in-Err-clause-fault : goal.returns-in-Err-clause-fault
returns-in-Err-clause-fault c =
    let old = c.args.self.now in
    let a = flow.InMemoryMap old in
    let given = sides_of c.args.recv.now c.args.send.now in
    let stage = c.next_stage-stage.ensures (view_of a given) (record { kind = refl; stage = refl; gave = sym c.gave_all.ensures; filled = sym c.is_filled.ensures }) in
    let starts = map_starts old.made.options (step_of old.map) (old.input.schema ∷ []) given (progress_of a) (stage_of c.next_stage-stage.result) stage c.in-Err.ensures.begins in
    elim c.in-Err.ensures.fault [
      | inl memory ↦ inl memory
      | inr (x, breaks, is) ↦ inr (x, inr (starts, subst (λ (ts : List Table). BreaksRows no_functions (bare_node (in_memory_map (step_of old.map)) []) ts x) (sym (one_table old.input)) breaks), is)
    ]

pub returns-clause-waits : goal.returns-clause-waits
returns-clause-waits c =
    let a = flow.InMemoryMap c.args.self.now in
    c.is_waiting-waits.ensures (view_of a (sides_of c.args.recv.now c.args.send.now)) (record { kind = refl; stage = refl; gave = sym c.gave_all.ensures; filled = sym c.is_filled.ensures })
