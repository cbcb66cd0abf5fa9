-- It turns by its stage alone, or makes its table.
use Rattle.std.proofs.Common.{Some, [], ◌∷◌, ap, map, subst, sym, ◌∙◌}
use Rattle.bare_nodes.specs.Bare.{bare_node}
use Rattle.made_tables.specs.Made.{MayBreak}
use Rattle.bare_nodes.specs.Uncalled.{no_functions}
use Rattle.node_states.specs.Stages.{stage_of}
use Rattle.ps_frame.specs.Tables.{Frame, Table, whole}
use Rattle.ps_meaning.specs.Shape.{in_memory_map}
use Rattle.ps_nodes.proofs.MapTurn.{can_map, map_goes_on, map_makes, one_table}
use Rattle.ps_nodes.specs.Seen.{progress_of}
use Rattle.ps_nodes.specs.declared.flow.FlowNode.TheVariants as flow
use Rattle.ps_owned_maps.specs.Owned.{step_of}
use Rattle.ps_turns.specs.Results.{IsMade}
use Rattle.ps_turns.specs.Updates.{Turns}
use Rattle.std.specs.Prelude.{List}
use Rattle.turn_laws.proofs.Turned.{both, not_true}
use Rattle.ps_nodes.proofs.in_memory_map.InMemoryMapNode.turn.Goals as goal

pub returns-then-not-makes_table-clause-turned : goal.returns-then-not-makes_table-clause-turned
returns-then-not-makes_table-clause-turned c given is =
    let old = c.args.self.now in
    map_goes_on old.made.options (step_of old.map) (old.input.schema ∷ []) given (progress_of (flow.InMemoryMap old)) (stage_of c.args.stage) is (sym c.makes_table.ensures ∙ c.if-not-makes_table.true)

pub mapped_alone-requires-clause-alone : goal.mapped_alone-requires-clause-alone
mapped_alone-requires-clause-alone c = not_true _ (both _ _ (sym c.makes_table.ensures ∙ c.if-not-makes_table.false)).1

pub mapped_alone-requires-clause-fit : goal.mapped_alone-requires-clause-fit
mapped_alone-requires-clause-fit c =
    let old = c.args.self.now in
    can_map (step_of old.map) old.input c.in-Ok.input (ap (λ (f : Frame). f.schema) (sym c.in-Ok.ensures.table)) (not_true _ (both _ _ (sym c.makes_table.ensures ∙ c.if-not-makes_table.false)).1) c.requires.fit

pub returns-in-Ok-mapped_alone-clause-turned : goal.returns-in-Ok-mapped_alone-clause-turned
returns-in-Ok-mapped_alone-clause-turned c given is =
    let old = c.args.self.now in
    let node = bare_node (in_memory_map (step_of old.map)) [] in
    let made = subst (λ (f : Frame). IsMade no_functions node (whole f ∷ []) c.in-Ok-mapped_alone.table.rows) c.in-Ok.ensures.table c.in-Ok-mapped_alone.ensures.table in
    let a = progress_of (flow.InMemoryMap old) in
    let s = stage_of c.args.stage in
    let rows = c.in-Ok-mapped_alone.table.rows in
    subst (λ (f : Frame). Turns no_functions old.made.options node (old.input.schema ∷ []) given a (record a { stage = s; stores = (f.rows ∷ []) ∷ []; made = Some rows })) (sym c.in-Ok.ensures.kept)
    (map_makes old.made.options (step_of old.map) (old.input.schema ∷ []) given a s is (sym c.makes_table.ensures ∙ c.if-not-makes_table.false) rows
    (subst (λ (ts : List Table). IsMade no_functions node ts rows) (sym (one_table old.input)) made))

pub returns-in-Err-mapped_alone-clause-fault : goal.returns-in-Err-mapped_alone-clause-fault
returns-in-Err-mapped_alone-clause-fault c =
    let old = c.args.self.now in
    subst (λ (f : Frame). MayBreak no_functions (bare_node (in_memory_map (step_of old.map)) []) (whole f ∷ []) c.in-Err-mapped_alone.error) c.in-Ok.ensures.table c.in-Err-mapped_alone.ensures.fault
