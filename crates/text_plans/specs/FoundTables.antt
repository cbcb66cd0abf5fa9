-- The table of each name, as tables with names find it.
use Rattle.std.specs.Prelude.{option_and_then, slice_get}
use Rattle.std.specs.BTreeMap.{get_by_text}
use Rattle.text_plans.specs.QueryPlans.{Tables}
use Rattle.text_plans.specs.declared.tables.NamedTables.{NamedTables}

abbrev pub tables_in : NamedTables → Tables
tables_in found name = option_and_then (λ place. slice_get found.tables.items place) (get_by_text found.places name)
