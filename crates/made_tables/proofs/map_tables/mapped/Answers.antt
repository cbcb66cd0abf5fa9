-- What the map gives or fails by, as what its node makes.
use Rattle.std.proofs.Common.{◌≡◌, ◌≤◌, arith, length, subst}
use Rattle.made_tables.proofs.Mapped.{broken_by_map, made_by_map}
use Rattle.bare_nodes.specs.Bare.{nowhere}
use Rattle.ps_frame.specs.Aggregates.{max_rows}
use Rattle.ps_meaning.specs.Nodes.{GivesFrame, MayFault}
use Rattle.ps_owned_maps.specs.Owned.{step_of}
use Rattle.std.proofs.Common.{[], ◌∷◌}
use Rattle.made_tables.proofs.map_tables.mapped.Goals as goal

pub returns-in-Ok-clause-table : goal.returns-in-Ok-clause-table
returns-in-Ok-clause-table g c =
    let F = g.F.Functions.told c.args.functions.now in
    let step = step_of c.args.map.now in
    let at : c.default.result.0 ≡ nowhere = omega arith in
    let few : length c.in-Ok.table.rows ≤ max_rows = omega arith in
    made_by_map F step (c.args.input ∷ []) c.in-Ok.table (subst (λ n. GivesFrame F n step (c.args.input ∷ []) c.in-Ok.table) at c.in-Ok.ensures.table) few

pub returns-in-Err-clause-fault : goal.returns-in-Err-clause-fault
returns-in-Err-clause-fault g c =
    let F = g.F.Functions.told c.args.functions.now in
    let step = step_of c.args.map.now in
    let at : c.default.result.0 ≡ nowhere = omega arith in
    broken_by_map F step (c.args.input ∷ []) c.in-Err.error (subst (λ n. MayFault F n step (c.args.input ∷ []) c.in-Err.error) at c.in-Err.ensures.fault)
