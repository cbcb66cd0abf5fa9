-- The names that a plan uses.
use Rattle.std.specs.Prelude.{ℕ, List, [], ◌++◌, Option, Some, flat_map, slice_get, IsTrue}
use Rattle.ps_frame.specs.Functions.{Functions}
use Rattle.ps_meaning.specs.Schemas.{is_among, names_of, tree_schema}
use Rattle.ps_meaning.specs.Steps.{Name}
use Rattle.ps_plan.specs.Graph.{Reached}
use Rattle.ps_plan.specs.Plans.{Plan, tree_of}
use Rattle.ps_plan.specs.declared.ir.IR.{IR}
use Rattle.ps_plan.specs.declared.ir.IR.TheVariants as entry
use Rattle.valid_plans.specs.Known.{schema_in}
use Rattle.valid_plans.specs.Valid.{ValidNodes}

-- the columns of the table that a node scans, which its projection may leave out
abbrev pub scanned_names : Option IR → List Name
scanned_names (Some (entry.DataFrameScan df columns)) = names_of df.schema
scanned_names _ = []

-- the names of a node's own columns, and those of the table that it scans
abbrev pub names_at : Functions → Plan → ℕ → List Name
names_at F plan n = names_of (tree_schema F (tree_of plan n)) ++ scanned_names (slice_get plan.nodes n)

-- A name under the root is one of those at some node that the root leads to. What an expression reads stands in the schema of an input, which is such a node too.
abbrev pub IsNameUnder : Functions → Plan → Name → Type 0
IsNameUnder F plan name = (n : ℕ) × Reached plan n × IsTrue (is_among name (names_at F plan n))

-- the names at a node, by the schemas that are known
abbrev pub known_names : ValidNodes → ℕ → List Name
known_names v n = names_of (schema_in v.schemas (record { 0 = n })) ++ scanned_names (slice_get v.nodes n)

abbrev pub all_known_names : ValidNodes → List ℕ → List Name
all_known_names v order = flat_map (known_names v) order
