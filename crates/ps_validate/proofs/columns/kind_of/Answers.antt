use Rattle.std.proofs.Common.{sym, ◌∙◌}
use Rattle.ps_typing.proofs.Columns.{kind-at, no-place}
use Rattle.ps_validate.proofs.Naming.{lacking}
use Rattle.ps_validate.proofs.columns.kind_of.Goals as goal

pub returns-in-Some : goal.returns-in-Some
returns-in-Some c = sym (kind-at c.args.name.now c.args.schema.now c.in-Some.place c.kind.result (sym c.index_of.ensures ∙ c.in-Some.is) c.kind.ensures)

pub returns-in-None : goal.returns-in-None
returns-in-None c = sym (lacking c.args.name.now c.args.schema.now (no-place c.args.name.now c.args.schema.now (sym c.index_of.ensures ∙ c.in-None.is)))
