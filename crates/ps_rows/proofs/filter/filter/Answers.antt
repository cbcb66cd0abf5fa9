use Rattle.std.proofs.Common.{List, subst}
use Rattle.ps_frame.specs.Tables.{whole}
use Rattle.ps_frame.specs.Trees.{tree_at}
use Rattle.ps_frame.specs.declared.value.DataType.TheVariants as kind
use Rattle.ps_meaning.specs.Cases.{keyed}
use Rattle.ps_meaning.specs.Steps.{key_trees}
use Rattle.ps_meaning.specs.declared.options.ExprIR.{ExprIR}
use Rattle.ps_rows.proofs.Filtering.{filter-faults, filter-gives, mask-of}
use Rattle.ps_rows.proofs.Results.{if_ok_both}
use Rattle.ps_rows.specs.Keyed.{IsTableWithKeys}
use Rattle.ps_zip.specs.Zips.{IsZipError, expr_kinds}
use Rattle.ps_rows.proofs.filter.filter.Goals as goal

pub rows_where_true-requires : goal.rows_where_true-requires
rows_where_true-requires c =
    let f = tree_at c.args.arena.now.items in
    let h = subst (λ (es : List ExprIR). IsTableWithKeys (keyed c.args.at.0 (key_trees f es) (whole c.args.df.now)) c.args.df.now.schema (expr_kinds c.args.df.now.schema (key_trees f es)) c.in-Ok.keyed.table c.in-Ok.keyed.keys.items) c.from_ref.ensures.value c.in-Ok.ensures.table in
    mask-of c.args.at.0 (f c.args.predicate.now.node) c.args.df.now kind.Boolean c.requires.kind c.in-Ok.keyed.table c.in-Ok.keyed.keys.items h

pub returns-in-Ok-clause-table : goal.returns-in-Ok-clause-table
returns-in-Ok-clause-table c =
    let f = tree_at c.args.arena.now.items in
    let h = subst (λ (es : List ExprIR). IsTableWithKeys (keyed c.args.at.0 (key_trees f es) (whole c.args.df.now)) c.args.df.now.schema (expr_kinds c.args.df.now.schema (key_trees f es)) c.in-Ok.keyed.table c.in-Ok.keyed.keys.items) c.from_ref.ensures.value c.in-Ok.ensures.table in
    if_ok_both c.rows_where_true.result _ _ _
    (λ g schema rows F. filter-gives c.args.at.0 (f c.args.predicate.now.node) c.args.df.now kind.Boolean c.requires.kind F c.in-Ok.keyed.table g c.in-Ok.keyed.keys.items h schema rows)
    c.rows_where_true.ensures.schema c.rows_where_true.ensures.rows

pub returns-in-Err-clause-fault : goal.returns-in-Err-clause-fault
returns-in-Err-clause-fault c =
    let f = tree_at c.args.arena.now.items in
    let h = subst (λ (es : List ExprIR). IsZipError c.args.at.0 (key_trees f es) (whole c.args.df.now) (keyed c.args.at.0 (key_trees f es) (whole c.args.df.now)) c.in-Err.error) c.from_ref.ensures.value c.in-Err.ensures.error in
    λ F. filter-faults c.args.at.0 (f c.args.predicate.now.node) c.args.df.now kind.Boolean c.requires.kind F c.in-Err.error h
