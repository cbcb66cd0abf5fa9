use Rattle.lowering_parts.proofs.Going.{names_stay}
use Rattle.lowering_parts.proofs.names.fresh.Goals as goal

pub returns-clause-known : goal.returns-clause-known
returns-clause-known c = names_stay c.unique_column_name.result c.args.low.now.names c.unique_column_name.new.names c.unique_column_name.ensures.next c.unique_column_name.ensures.unchanged
