-- The JSON of a node.
use Rattle.std.specs.Prelude.{ℕ, ◌≡◌, ◌<◌, ◌^◌, List, [], ◌∷◌, codes, Option, Some, None, All, IsTrue, FitsSigned, slice_get, ⊤}
use Rattle.std.specs.Int.{w64}
use Rattle.serde_json.specs.Data.{Data}
use Rattle.ps_frame.specs.Lines.{what_name}
use Rattle.ps_frame.specs.Tables.{Frame}
use Rattle.ps_meaning.specs.Steps.{Cut, Name, name_in}
use Rattle.ps_meaning.specs.declared.options.ExprIR.{ExprIR}
use Rattle.ps_plan.specs.declared.ir.IR.{IR}
use Rattle.ps_plan.specs.declared.ir.IR.TheVariants as entry
use Rattle.ps_meaning.specs.declared.options.FunctionIR.{FunctionIR}
use Rattle.ps_meaning.specs.declared.options.FunctionIR.TheVariants as call
use Rattle.ps_meaning.specs.declared.options.OutputName.TheVariants as output
use Rattle.ps_document.specs.Expressions.{entry_number}
use Rattle.ps_document.specs.Json.{count, list, list_of, or_null, text, truth, whole_number}
use Rattle.ps_document.specs.Words.{is_left_out_kind, join_word, keep_word, sink_word, validation_word}

-- an expression under its output name; of a key and of a predicate only the number stands
abbrev pub named_json : ExprIR → Data
named_json e = list (text (name_in e.output_name) ∷ entry_number e.node ∷ [])

abbrev pub key_json : ExprIR → Data
key_json e = entry_number e.node

abbrev pub cut_json : Cut → Data
cut_json cut = or_null (λ s. list (whole_number s.0 ∷ count s.1 ∷ [])) cut

-- names, where there are any
abbrev pub names_json : Option (List Name) → Data
names_json names = or_null (list_of text) names

abbrev pub function_json : Data → FunctionIR → Data
function_json input (call.RowIndex name offset) = list (text (codes "row_index") ∷ input ∷ text name ∷ or_null count offset ∷ [])
function_json input (call.User n) = list (text (codes "map") ∷ input ∷ count n ∷ [])

-- the JSON of a node, where `table` is the number of the table that a scan reads
abbrev pub node_json : ℕ → IR → Data
node_json table (entry.DataFrameScan df columns) = list (text (codes "scan") ∷ count table ∷ names_json columns ∷ [])
node_json table (entry.SimpleProjection i columns) = list (text (codes "project") ∷ entry_number i ∷ list_of text columns ∷ [])
node_json table (entry.Select i es) = list (text (codes "select") ∷ entry_number i ∷ list_of named_json es ∷ [])
node_json table (entry.HStack i es) = list (text (codes "hstack") ∷ entry_number i ∷ list_of named_json es ∷ [])
node_json table (entry.Filter i predicate) = list (text (codes "filter") ∷ entry_number i ∷ key_json predicate ∷ [])
node_json table (entry.Slice i offset len) = list (text (codes "slice") ∷ entry_number i ∷ whole_number offset ∷ count len ∷ [])
node_json table (entry.Sink i payload) = list (text (sink_word payload) ∷ entry_number i ∷ [])
node_json table (entry.MapFunction i function) = function_json (entry_number i) function
node_json table (entry.Sort i by cut options) =
    list (text (codes "sort") ∷ entry_number i ∷ list_of key_json by ∷ list_of truth options.descending ∷ list_of truth options.nulls_last ∷ cut_json cut ∷ [])
node_json table (entry.Union inputs options) = list (text (codes "union") ∷ list_of entry_number inputs ∷ cut_json options.slice ∷ [])
node_json table (entry.HConcat inputs) = list (text (codes "hconcat") ∷ list_of entry_number inputs ∷ [])
node_json table (entry.Cache i id hits) = list (text (codes "cache") ∷ entry_number i ∷ count id ∷ [])
node_json table (entry.GroupBy i keys aggs maintain options) =
    list (text (codes "group_by") ∷ entry_number i ∷ list_of named_json keys ∷ list_of named_json aggs ∷ truth maintain ∷ cut_json options.slice ∷ [])
node_json table (entry.Join l r left_on right_on args) =
    list (text (codes "join") ∷ entry_number l ∷ entry_number r ∷ text (join_word args.how) ∷ list_of key_json left_on ∷ list_of key_json right_on
    ∷ or_null text args.suffix ∷ truth args.join_nulls ∷ text (validation_word args.validation) ∷ cut_json args.slice ∷ [])
node_json table (entry.Distinct i o) =
    list (text (codes "distinct") ∷ entry_number i ∷ names_json o.subset ∷ truth o.maintain_order ∷ text (keep_word o.keep_strategy) ∷ cut_json o.slice ∷ [])
node_json table (entry.LeftOut w) = list (text (codes "left_out") ∷ text (what_name w) ∷ [])

-- an offset of a slice has 64 bits with a sign
abbrev pub CutFits : Cut → Type 0
CutFits None = ⊤
CutFits (Some s) = FitsSigned w64 s.0

-- the offset of a row index has 32 bits
abbrev pub OffsetFits : Option ℕ → Type 0
OffsetFits None = ⊤
OffsetFits (Some n) = n < 2 ^ 32

abbrev pub CallFits : FunctionIR → Type 0
CallFits (call.RowIndex name offset) = OffsetFits offset
CallFits (call.User n) = ⊤

-- a name that stands beside an expression is one of its own
abbrev pub IsNamed : ExprIR → Type 0
IsNamed e = e.output_name ≡ output.Alias (name_in e.output_name)

-- a key and a predicate stand without a name: theirs is the empty one of a column
abbrev pub IsUnnamed : ExprIR → Type 0
IsUnnamed e = e.output_name ≡ output.ColumnLhs []

-- A scan reads the table of that number. Expressions are named, keys and predicates unnamed, and a cache has no hits. Offsets fit their widths. Only kinds that are left out stand as such.
abbrev pub CanStand : List Frame → ℕ → IR → Type 0
CanStand tables table (entry.DataFrameScan df columns) = slice_get tables table ≡ Some df
CanStand tables table (entry.Select i es) = All IsNamed es
CanStand tables table (entry.HStack i es) = All IsNamed es
CanStand tables table (entry.Filter i predicate) = IsUnnamed predicate
CanStand tables table (entry.Slice i offset len) = FitsSigned w64 offset
CanStand tables table (entry.MapFunction i function) = CallFits function
CanStand tables table (entry.Sort i by cut options) = All IsUnnamed by × CutFits cut
CanStand tables table (entry.Union inputs options) = CutFits options.slice
CanStand tables table (entry.Cache i id hits) = hits ≡ 0
CanStand tables table (entry.GroupBy i keys aggs maintain options) = All IsNamed keys × All IsNamed aggs × CutFits options.slice
CanStand tables table (entry.Join l r left_on right_on args) = All IsUnnamed left_on × All IsUnnamed right_on × CutFits args.slice
CanStand tables table (entry.Distinct i o) = CutFits o.slice
CanStand tables table (entry.LeftOut w) = IsTrue (is_left_out_kind w)
CanStand tables table _ = ⊤

pub record IsNode (tables : List Frame) (e : IR) (d : Data) : Type 0 where
  pub table : ℕ
  pub json : d ≡ node_json table e
  pub stands : CanStand tables table e
