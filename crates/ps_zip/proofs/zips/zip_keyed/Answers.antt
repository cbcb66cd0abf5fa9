use Rattle.ps_frame.specs.Trees.{tree_at}
use Rattle.ps_meaning.specs.Steps.{key_trees}
use Rattle.ps_zip.proofs.Keyed.{added-fit, keyed-error, keyed-keeps}
use Rattle.ps_zip.proofs.Results.{if_err, if_ok}
use Rattle.ps_zip.proofs.zips.zip_keyed.Goals as goal

pub zip_inputs-requires : goal.zip_inputs-requires
zip_inputs-requires c = added-fit c.args.df.now (key_trees (tree_at c.args.arena.now.items) c.args.exprs.now) c.in_ok-inputs.inputs.items c.push_exprs.new.inputs.items c.in_ok-inputs.ensures.fit c.in_ok-push_exprs.ensures

pub returns-clause-rows : goal.returns-clause-rows
returns-clause-rows c =
    if_ok c.zip_inputs.result _ _
    (λ zip s. keyed-keeps c.args.df.now c.args.at.0 (key_trees (tree_at c.args.arena.now.items) c.args.exprs.now) c.in_ok-inputs.inputs.items c.push_exprs.new.inputs.items c.in_ok-push_exprs.ensures c.in_ok-inputs.ensures.columns c.in_ok-inputs.ensures.kinds zip.columns.items zip.height s)
    c.zip_inputs.ensures.rows

pub returns-clause-error : goal.returns-clause-error
returns-clause-error c =
    if_err c.zip_inputs.result _ _
    (λ e h. keyed-error c.args.df.now c.args.at.0 (key_trees (tree_at c.args.arena.now.items) c.args.exprs.now) c.in_ok-inputs.inputs.items c.push_exprs.new.inputs.items c.in_ok-push_exprs.ensures c.in_ok-inputs.ensures.columns c.table_inputs.ensures.small e h)
    c.zip_inputs.ensures.error
