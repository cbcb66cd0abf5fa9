use Rattle.ps_frame.specs.Trees.{tree_at}
use Rattle.ps_meaning.specs.Schemas.{bare_names, without}
use Rattle.ps_meaning.specs.Steps.{key_trees}
use Rattle.ps_validate.proofs.Distinctness.{repeats-memory, without-distinct}
use Rattle.ps_validate.proofs.Typed.{memory-on}
use Rattle.ps_validate.proofs.joins.without_keys.Goals as goal

pub returns-in_err-push_without-clause-memory : goal.returns-in_err-push_without-clause-memory
returns-in_err-push_without-clause-memory c =
    let ns = bare_names (key_trees (tree_at c.args.arena.now.items) c.args.keys.now) in
    memory-on c.in_err-push_without.field-0.0 c.from_residual-in_err-push_without.result c.from_residual-in_err-push_without.ensures.1
    (repeats-memory c.args.at c.new-columns.result (without ns c.args.schema.now) c.in_err-push_without.field-0.0 c.new-columns.ensures (without-distinct ns c.args.schema.now c.names_differ.ensures) (c.in_err-push_without.ensures.refused ns c.in_ok-names.ensures.names))
