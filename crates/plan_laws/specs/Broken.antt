-- Steps over tables that aren't whole.
use Rattle.std.specs.Prelude.{◌≡◌, ◌⊎◌, true, false, List, [], ◌∷◌, None, codes}
use Rattle.ps_frame.specs.Causes.{Cause}
use Rattle.ps_frame.specs.Functions.{Functions}
use Rattle.ps_frame.specs.Tables.{Fields, Frame, Table, no_rows}
use Rattle.ps_frame.specs.Trees.{Aggregation, Tree}
use Rattle.ps_frame.specs.declared.expr.LiteralValue.TheVariants as lit
use Rattle.ps_frame.specs.declared.value.DataFault.TheVariants as fault
use Rattle.ps_frame.specs.declared.value.DataType.TheVariants as kind
use Rattle.ps_frame.specs.declared.value.Value.TheVariants as val
use Rattle.ps_meaning.specs.Cases.{Gives, GivesBeforeCut}
use Rattle.ps_meaning.specs.Laws.{SameCauses}
use Rattle.ps_meaning.specs.Steps.{Step, group_by, join}
use Rattle.ps_meaning.specs.declared.options.JoinType.{JoinType}
use Rattle.plan_laws.specs.Examples.{k_column, k_frame, number, plain_join}
use Rattle.plan_laws.specs.Ordered.{as_number, at_two, full_ordered, keys_and_texts, left_ordered, text}

-- one table, its causes read as a set
abbrev pub ReadsAs : Table → Table → Type 0
ReadsAs T V = (T.schema ≡ V.schema) × (T.rows ≡ V.rows) × SameCauses T.broken V.broken

-- the step gives this table over these, and no other
abbrev pub GivesOnly : Functions → Step → List Table → Table → Type 0
GivesOnly F step ts V = ((T : Table) × Gives F 2 step ts T) × ((T : Table) → Gives F 2 step ts T → ReadsAs T V)

-- it gives this table, or, for what was lost, that one
abbrev pub GivesEither : Functions → Step → List Table → Table → Table → Type 0
GivesEither F step ts V W = GivesBeforeCut F 2 step ts W × ((T : Table) → GivesBeforeCut F 2 step ts T → ReadsAs T V ⊎ ReadsAs T W)

abbrev pub left_fault : Cause
left_fault = record { fault = fault.Function; node = 0 }

abbrev pub right_fault : Cause
right_fault = record { fault = fault.Function; node = 1 }

-- the rows of a frame, and a cause behind them
abbrev pub broken_by : Cause → Frame → Table
broken_by c f = record { schema = f.schema; rows = f.rows; broken = c ∷ [] }

-- keys 3 and 1, and a fault behind them
abbrev pub broken_keys : Table
broken_keys = broken_by left_fault (k_frame (3 ∷ 1 ∷ []))

abbrev pub broken_texts : Table
broken_texts = broken_by right_fault keys_and_texts

abbrev pub on_key : JoinType → Step
on_key type = join (plain_join type false k_column k_column)

-- the pairs of key 1
abbrev pub pairs_of_one : Frame
pairs_of_one = record { schema = left_ordered.schema; rows = (number 1 ∷ text (codes "y") ∷ []) ∷ (number 1 ∷ text (codes "z") ∷ []) ∷ [] }

-- what the left rows give in a full join: the row of key 4 is missing
abbrev pub full_front : Frame
full_front =
    record {
      schema = full_ordered.schema;
      rows = (number 3 ∷ val.Null ∷ val.Null ∷ []) ∷ (number 1 ∷ number 1 ∷ text (codes "y") ∷ []) ∷ (number 1 ∷ number 1 ∷ text (codes "z") ∷ []) ∷ [];
    }

abbrev pub keys : Fields
keys = (k_frame []).schema

-- a key that faults, whatever the row: over no rows its fault is lost
abbrev pub faulty_key : Tree
faulty_key = Tree.cast kind.Int64 true (Tree.literal (lit.String (codes "x")))

abbrev pub no_texts : Table
no_texts = no_rows keys_and_texts.schema []

abbrev pub no_keys : Table
no_keys = no_rows keys (left_fault ∷ [])

-- the left rows, filled with nulls
abbrev pub filled_keys : Frame
filled_keys = record { schema = full_ordered.schema; rows = (number 3 ∷ val.Null ∷ val.Null ∷ []) ∷ (number 1 ∷ val.Null ∷ val.Null ∷ []) ∷ [] }

abbrev pub lost_cast : Table
lost_cast = no_rows full_ordered.schema (at_two fault.StrictCast ∷ [])

-- a row whose text is no number, and a fault behind it
abbrev pub broken_numerals : Table
broken_numerals = broken_by left_fault (record { schema = (codes "k", kind.Int64) ∷ (codes "t", kind.String) ∷ []; rows = (number 1 ∷ text (codes "x") ∷ []) ∷ [] })

-- the sum of the texts' numbers for each key
abbrev pub sum_by_key : Step
sum_by_key = group_by (record { keys = (codes "k", k_column) ∷ []; aggregates = (codes "s", Tree.aggregate Aggregation.sum as_number) ∷ []; maintain_order = true; cut = None })

abbrev pub both_faults : Table
both_faults = no_rows ((codes "k", kind.Int64) ∷ (codes "s", kind.Int64) ∷ []) (left_fault ∷ at_two fault.StrictCast ∷ [])
