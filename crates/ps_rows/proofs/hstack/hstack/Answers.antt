use Rattle.std.proofs.Common.{subst}
use Rattle.std.specs.Prelude.{IsTrue}
use Rattle.ps_frame.specs.Frames.{has_distinct_names}
use Rattle.ps_frame.specs.Tables.{Fields}
use Rattle.ps_frame.specs.Trees.{tree_at}
use Rattle.ps_rows.proofs.Placing.{are-placed, fields-given, hstack-faults, hstack-gives}
use Rattle.ps_rows.proofs.Results.{if_ok_both}
use Rattle.ps_rows.proofs.Steps.{fields-typed}
use Rattle.ps_rows.specs.Placed.{TakesPlaces}
use Rattle.ps_rows.proofs.hstack.hstack.Goals as goal

pub zip_keyed-requires : goal.zip_keyed-requires
zip_keyed-requires c =
    let given = fields-given (tree_at c.args.arena.now.items) c.args.at.0 c.args.exprs.now c.args.df.now c.args.schema.now c.requires.fields in
    fields-typed (tree_at c.args.arena.now.items) c.args.df.now.schema c.args.exprs.now given.0 c.requires.expressions given.1

pub placed-requires-clause-places : goal.placed-requires-clause-places
placed-requires-clause-places c =
    let distinct = subst (λ (s : Fields). IsTrue (has_distinct_names s)) c.schema.ensures c.names_differ.ensures in
    rw c.schema-in-Ok-zip_keyed.ensures
    (are-placed (tree_at c.args.arena.now.items) c.args.at.0 c.args.exprs.now c.args.df.now c.args.schema.now c.requires.fields c.in-Ok.new c.in-Ok.ensures c.in-Ok-zip_keyed.zip.columns.items c.in-Ok-zip_keyed.zip.height c.in-Ok-zip_keyed.ensures.rows distinct c.requires.names_differ)

pub returns-in-Ok-zip_keyed-clause-table : goal.returns-in-Ok-zip_keyed-clause-table
returns-in-Ok-zip_keyed-clause-table c =
    let cs = c.in-Ok-zip_keyed.zip.columns.items in
    if_ok_both c.placed.result _ _ _
    (λ g schema rows F. hstack-gives (tree_at c.args.arena.now.items) c.args.at.0 c.args.exprs.now c.args.df.now c.args.schema.now c.requires.fields c.in-Ok.new c.in-Ok.ensures cs c.in-Ok-zip_keyed.zip.height c.in-Ok-zip_keyed.ensures.rows F g rows.0 schema
    (subst (λ (s : Fields). TakesPlaces s c.in-Ok.new cs c.args.schema.now rows.0) c.schema-in-Ok-zip_keyed.ensures rows.1) rows.2)
    c.placed.ensures.schema c.placed.ensures.rows

pub returns-clause-fault : goal.returns-clause-fault
returns-clause-fault c = λ F. hstack-faults (tree_at c.args.arena.now.items) c.args.at.0 c.args.exprs.now c.args.df.now c.args.schema.now c.requires.fields F c.in-Err.error c.in-Err.ensures.error
