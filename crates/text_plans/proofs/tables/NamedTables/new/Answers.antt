use Rattle.std.specs.Prelude.{option_and_then, slice_get}
use Rattle.text_plans.proofs.tables.NamedTables.new.Goals as goal

pub returns : goal.returns
returns c = λ i name. option_and_then (λ place. slice_get c.args.tables.items place) (c.in_ok-places.ensures name i)
