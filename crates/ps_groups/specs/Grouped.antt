-- Groups as tables, and the columns of aggregates over them.
use Rattle.std.specs.Prelude.{◌≡◌, ◌-◌, ℕ, List, [], ◌++◌, map, flat_map, length, drop, get_or, Any, Contains, Result, Ok, Err, None, Some}
use Rattle.std.specs.List.{All, AllByRecursion}
use Rattle.ps_expr_eval.specs.Held.{cells_of, first_fault, held_values}
use Rattle.ps_expr_eval.specs.declared.computed.ComputedColumn.{ComputedColumn}
use Rattle.ps_frame.specs.Causes.{Cause, column_causes}
use Rattle.ps_frame.specs.Eval.{eval}
use Rattle.ps_frame.specs.Frames.{AllOfHeight, all_beside, column_values, kinds_of}
use Rattle.ps_frame.specs.Tables.{Fields, Frame, rows_of, whole}
use Rattle.ps_frame.specs.Trees.{IsComplete, Tree}
use Rattle.ps_frame.specs.Series.{Series}
use Rattle.ps_frame.specs.Typing.{kind_over}
use Rattle.ps_frame.specs.declared.value.DataFault.{DataFault}
use Rattle.ps_frame.specs.declared.value.Value.{Value}
use Rattle.ps_frame.specs.declared.value.Value.TheVariants as val
use Rattle.ps_meaning.specs.Groups.{Group, groups, keys_of, only_value, rows_of_key}

-- the table of a key's rows, and those of all keys
abbrev pub key_frame : Fields → List (List Value) → List Value → Frame
key_frame s rows key = record { schema = s; rows = rows_of_key (length s) key rows }

abbrev pub key_frames : Fields → List (List Value) → List Frame
key_frames s rows = map (key_frame s rows) (keys_of (length s) rows)

-- the causes of all groups
abbrev pub all_causes : List Group → List Cause
all_causes gs = flat_map (λ g. g.causes) gs

-- the first value that is held of a column without a fault, or one of its faults
abbrev pub GivesFirst : ComputedColumn → Result Value DataFault → Type 0
GivesFirst p (Ok v) = (first_fault p ≡ None) × (v ≡ get_or (held_values (cells_of p.cells)) 0 val.Null)
GivesFirst p (Err f) = first_fault p ≡ Some f

-- the value of an expression over a table where nothing is faulty, or the fault of one of its causes
abbrev pub IsValueOf : ℕ → Frame → Tree → Result Value DataFault → Type 0
IsValueOf at f t (Ok v) = (column_causes (eval at (whole f) t) ≡ []) × (v ≡ only_value (eval at (whole f) t))
IsValueOf at f t (Err e) = Contains (column_causes (eval at (whole f) t)) (record { fault = e; node = at })

-- a column has the values of an expression over tables, and nothing is faulty
pub record IsAggregate (at : ℕ) (tables : List Frame) (t : Tree) (c : Series) : Type 0 where
  pub values : c.values ≡ map (λ f. only_value (eval at (whole f) t)) tables
  pub clean : All (λ f. column_causes (eval at (whole f) t) ≡ []) tables

-- a fault at the node is among the causes of an expression over some table
abbrev pub IsFaultOver : ℕ → List Frame → Tree → DataFault → Type 0
IsFaultOver at tables t e = Any (λ f. Contains (column_causes (eval at (whole f) t)) (record { fault = e; node = at })) tables

-- the same of some expression
abbrev pub IsFaultOfAny : ℕ → List Frame → List Tree → DataFault → Type 0
IsFaultOfAny at tables ts e = Any (λ t. IsFaultOver at tables t e) ts

-- a fault at the node is among the causes of groups
abbrev pub IsFaultOfGroups : ℕ → List Group → DataFault → Type 0
IsFaultOfGroups at gs e = Contains (all_causes gs) (record { fault = e; node = at })

-- the last fields of a schema, as many as asked
abbrev pub last_fields : ℕ → Fields → Fields
last_fields n schema = drop (length schema - n) schema

-- the rows of a table with the values of key columns behind them, and their groups
abbrev pub keyed_rows : Frame → List Series → List (List Value)
keyed_rows t keys = all_beside t.rows (rows_of (length t.rows) (column_values keys))

abbrev pub table_groups : ℕ → List Tree → Frame → List Series → List Group
table_groups at aggregates t keys = groups at aggregates t.schema (keyed_rows t keys)

-- a table can be grouped by columns of its height, under a schema of these and of the aggregates over it
pub record CanGroup (t : Frame) (keys : List Series) (aggregates : List Tree) (schema : Fields) : Type 0 where
  pub widths : AllByRecursion (λ row. length row ≡ length t.schema) t.rows
  pub heights : AllOfHeight (length t.rows) keys
  pub complete : AllByRecursion IsComplete aggregates
  pub kinds : map (λ (c : Series). Some c.kind) keys ++ map (kind_over t.schema) aggregates ≡ map Some (kinds_of schema)
