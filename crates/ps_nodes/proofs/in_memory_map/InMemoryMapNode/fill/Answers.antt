-- It is filled with what its function makes of what it stored.
use Rattle.std.proofs.Common.{List, Some, [], ◌∷◌, ap, subst, sym}
use Rattle.bare_nodes.specs.Bare.{bare_node}
use Rattle.made_tables.specs.Made.{MayBreak}
use Rattle.ps_frame.specs.Tables.{Fields, Frame, Table, whole}
use Rattle.ps_meaning.specs.Shape.{in_memory_map}
use Rattle.ready_steps.specs.Ready.{IsReadyFor}
use Rattle.ps_nodes.proofs.MapTurn.{one_table}
use Rattle.ps_nodes.specs.Seen.{progress_of}
use Rattle.ps_nodes.specs.declared.flow.FlowNode.TheVariants as flow
use Rattle.ps_owned_maps.specs.Owned.{step_of}
use Rattle.ps_turns.specs.Results.{IsMade}
use Rattle.ps_nodes.proofs.in_memory_map.InMemoryMapNode.fill.Goals as goal

pub mapped-requires-clause-fit : goal.mapped-requires-clause-fit
mapped-requires-clause-fit g c lifetimes outlives =
    let F = g.F.Functions.told c.args.functions.now in
    let step = step_of c.args.self.now.map in
    subst (λ (f : Frame). (s : Fields) × IsReadyFor F step (f ∷ []) s) (sym c.in-Ok.ensures.table) c.requires.fit

pub returns-in-Ok-mapped-clause-filled : goal.returns-in-Ok-mapped-clause-filled
returns-in-Ok-mapped-clause-filled g c given waits =
    let F = g.F.Functions.told c.args.functions.now in
    let old = c.args.self.now in
    let a = progress_of (flow.InMemoryMap old) in
    let node = bare_node (in_memory_map (step_of old.map)) [] in
    let rows = c.in-Ok-mapped.table.rows in
    let made = subst (λ (f : Frame). IsMade F node (whole f ∷ []) rows) c.in-Ok.ensures.table c.in-Ok-mapped.ensures.table in
    (waits, rows, subst (λ (ts : List Table). IsMade F node ts rows) (sym (one_table old.input)) made, ap (λ (f : Frame). record a { stores = (f.rows ∷ []) ∷ []; made = Some rows }) c.in-Ok.ensures.kept)

pub returns-in-Err-mapped-clause-fault : goal.returns-in-Err-mapped-clause-fault
returns-in-Err-mapped-clause-fault g c =
    let F = g.F.Functions.told c.args.functions.now in
    let old = c.args.self.now in
    subst (λ (f : Frame). MayBreak F (bare_node (in_memory_map (step_of old.map)) []) (whole f ∷ []) c.in-Err-mapped.error) c.in-Ok.ensures.table c.in-Err-mapped.ensures.fault
