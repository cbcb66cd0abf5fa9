use Rattle.std.proofs.Common.{sym, subst, ◌∙◌, ap}
use Rattle.std.specs.Prelude.{map}
use Rattle.std.specs.List.{AllZip}
use Rattle.ps_frame.specs.Tables.{columns_of, whole}
use Rattle.ps_zip.proofs.Results.{if_ok}
use Rattle.ps_zip.proofs.Steps.{table-holds, table-kinds}
use Rattle.ps_zip.specs.Inputs.{Holds, kind_in}
use Rattle.ps_zip.proofs.inputs.table_inputs.Goals as goal

pub returns-clause-columns : goal.returns-clause-columns
returns-clause-columns c =
    if_ok c.columns_inputs.result _ _
    (λ inputs e. subst (λ is. AllZip Holds is (columns_of (whole c.args.df.now))) (sym e) (table-holds c.args.df.now c.get_columns.result.now c.get_columns.ensures.fields c.get_columns.ensures.rows))
    c.columns_inputs.ensures.shared

pub returns-clause-kinds : goal.returns-clause-kinds
returns-clause-kinds c =
    if_ok c.columns_inputs.result _ _
    (λ inputs e. ap (map kind_in) e ∙ table-kinds c.args.df.now c.get_columns.result.now c.get_columns.ensures.fields c.get_columns.ensures.rows)
    c.columns_inputs.ensures.shared
