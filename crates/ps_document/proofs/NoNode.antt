-- What is the JSON of no node, by its word.
use Rattle.std.proofs.Common.{◌≡◌, ◌≢◌, ◌∷◌, ℕ, ℤ, List, Bool, sym, subst}
use Rattle.std.specs.Prelude.{IsTrue, FitsSigned, Option, Some, codes, slice_get, unwrap_or}
use Rattle.std.specs.Int.{w64}
use Rattle.serde_json.specs.Data.{Data}
use Rattle.pu_base.specs.declared.arena.Node.{Node}
use Rattle.ps_frame.specs.Tables.{Frame}
use Rattle.ps_frame.specs.declared.expr.What.{What}
use Rattle.ps_meaning.specs.Steps.{Cut}
use Rattle.ps_meaning.specs.declared.options.DistinctOptions.{DistinctOptions}
use Rattle.ps_meaning.specs.declared.options.ExprIR.{ExprIR}
use Rattle.ps_meaning.specs.declared.options.FunctionIR.TheVariants as call
use Rattle.ps_meaning.specs.declared.options.GroupbyOptions.{GroupbyOptions}
use Rattle.ps_plan.specs.declared.ir.IR.{IR}
use Rattle.ps_plan.specs.declared.ir.IR.TheVariants as entry
use Rattle.ps_meaning.specs.declared.options.JoinArgs.{JoinArgs}
use Rattle.ps_meaning.specs.declared.options.SinkType.{SinkType}
use Rattle.ps_meaning.specs.declared.options.SortMultipleOptions.{SortMultipleOptions}
use Rattle.ps_meaning.specs.declared.options.UnionOptions.{UnionOptions}
use Rattle.ps_document.proofs.Told.{entry_in, list_in, number_in, option_in, part, text_in, truth_in, whole_number_in, word_at}
use Rattle.ps_document.proofs.ToldExpr.{what_in}
use Rattle.ps_document.proofs.ToldNode.{cut_in, join_in, keep_in, key_in, named_in, names_in, no_frame, node-told, node_in, validation_in}
use Rattle.ps_document.specs.Expressions.{entry_number}
use Rattle.ps_document.specs.Json.{list, text}
use Rattle.ps_document.specs.Nodes.{CutFits, IsNode, OffsetFits, function_json, node_json}
use Rattle.ps_document.specs.Words.{is_left_out_kind}

module _ (tables : List Frame) (ds : List Data) where
  -- a word, and what follows it
  abbrev after : List ℕ → Data
  after w = list (text w ∷ ds)

  -- a node of this JSON is the one that the JSON tells
  told : (w : List ℕ) (e : IR) → IsNode tables e (after w) → IsNode tables (node_in tables (after w)) (after w)
  told w e is = subst (λ x. IsNode tables x (after w)) (sym (node-told tables e (after w) is)) is

  pub no_scan : ((table : ℕ) (df : Frame) (columns : Option (List (List ℕ))) → slice_get tables table ≡ Some df → after (codes "scan") ≢ node_json table (entry.DataFrameScan df columns)) → (e : IR) → IsNode tables e (after (codes "scan")) → ⊥
  no_scan none e is = let t = told (codes "scan") e is in none t.table (unwrap_or (slice_get tables (number_in (part 0 ds))) no_frame) (names_in (part 1 ds)) t.stands t.json

  pub no_project : ((i : Node) (columns : List (List ℕ)) → after (codes "project") ≢ node_json 0 (entry.SimpleProjection i columns)) → (e : IR) → IsNode tables e (after (codes "project")) → ⊥
  no_project none e is = let t = told (codes "project") e is in none (entry_in (part 0 ds)) (list_in text_in (part 1 ds)) t.json

  pub no_select : ((i : Node) (es : List ExprIR) → after (codes "select") ≢ node_json 0 (entry.Select i es)) → (e : IR) → IsNode tables e (after (codes "select")) → ⊥
  no_select none e is = let t = told (codes "select") e is in none (entry_in (part 0 ds)) (list_in named_in (part 1 ds)) t.json

  pub no_hstack : ((i : Node) (es : List ExprIR) → after (codes "hstack") ≢ node_json 0 (entry.HStack i es)) → (e : IR) → IsNode tables e (after (codes "hstack")) → ⊥
  no_hstack none e is = let t = told (codes "hstack") e is in none (entry_in (part 0 ds)) (list_in named_in (part 1 ds)) t.json

  pub no_filter : ((i : Node) (predicate : ExprIR) → after (codes "filter") ≢ node_json 0 (entry.Filter i predicate)) → (e : IR) → IsNode tables e (after (codes "filter")) → ⊥
  no_filter none e is = let t = told (codes "filter") e is in none (entry_in (part 0 ds)) (key_in (part 1 ds)) t.json

  pub no_slice : ((i : Node) (offset : ℤ) (len : ℕ) → FitsSigned w64 offset → after (codes "slice") ≢ node_json 0 (entry.Slice i offset len)) → (e : IR) → IsNode tables e (after (codes "slice")) → ⊥
  no_slice none e is = let t = told (codes "slice") e is in none (entry_in (part 0 ds)) (whole_number_in (part 1 ds)) (number_in (part 2 ds)) t.stands t.json

  pub no_row_index : ((i : Node) (name : List ℕ) (offset : Option ℕ) → OffsetFits offset → after (codes "row_index") ≢ function_json (entry_number i) (call.RowIndex name offset)) → (e : IR) → IsNode tables e (after (codes "row_index")) → ⊥
  no_row_index none e is = let t = told (codes "row_index") e is in none (entry_in (part 0 ds)) (text_in (part 1 ds)) (option_in number_in (part 2 ds)) t.stands t.json

  pub no_map : ((i : Node) (n : ℕ) → after (codes "map") ≢ function_json (entry_number i) (call.User n)) → (e : IR) → IsNode tables e (after (codes "map")) → ⊥
  no_map none e is = let t = told (codes "map") e is in none (entry_in (part 0 ds)) (number_in (part 1 ds)) t.json

  pub no_sort : ((i : Node) (by : List ExprIR) (cut : Cut) (options : SortMultipleOptions) → CutFits cut → after (codes "sort") ≢ node_json 0 (entry.Sort i by cut options)) → (e : IR) → IsNode tables e (after (codes "sort")) → ⊥
  no_sort none e is = let t = told (codes "sort") e is in none (entry_in (part 0 ds)) (list_in key_in (part 1 ds)) (cut_in (part 4 ds)) (record { descending = list_in truth_in (part 2 ds); nulls_last = list_in truth_in (part 3 ds) }) t.stands.1 t.json

  pub no_union : ((inputs : List Node) (options : UnionOptions) → CutFits options.slice → after (codes "union") ≢ node_json 0 (entry.Union inputs options)) → (e : IR) → IsNode tables e (after (codes "union")) → ⊥
  no_union none e is = let t = told (codes "union") e is in none (list_in entry_in (part 0 ds)) (record { slice = cut_in (part 1 ds) }) t.stands t.json

  pub no_hconcat : ((inputs : List Node) → after (codes "hconcat") ≢ node_json 0 (entry.HConcat inputs)) → (e : IR) → IsNode tables e (after (codes "hconcat")) → ⊥
  no_hconcat none e is = let t = told (codes "hconcat") e is in none (list_in entry_in (part 0 ds)) t.json

  pub no_cache : ((i : Node) (id hits : ℕ) → after (codes "cache") ≢ node_json 0 (entry.Cache i id hits)) → (e : IR) → IsNode tables e (after (codes "cache")) → ⊥
  no_cache none e is = let t = told (codes "cache") e is in none (entry_in (part 0 ds)) (number_in (part 1 ds)) 0 t.json

  pub no_group_by : ((i : Node) (keys aggs : List ExprIR) (maintain : Bool) (options : GroupbyOptions) → CutFits options.slice → after (codes "group_by") ≢ node_json 0 (entry.GroupBy i keys aggs maintain options)) → (e : IR) → IsNode tables e (after (codes "group_by")) → ⊥
  no_group_by none e is = let t = told (codes "group_by") e is in none (entry_in (part 0 ds)) (list_in named_in (part 1 ds)) (list_in named_in (part 2 ds)) (truth_in (part 3 ds)) (record { slice = cut_in (part 4 ds) }) t.stands.2 t.json

  pub no_join : ((l r : Node) (left_on right_on : List ExprIR) (args : JoinArgs) → CutFits args.slice → after (codes "join") ≢ node_json 0 (entry.Join l r left_on right_on args)) → (e : IR) → IsNode tables e (after (codes "join")) → ⊥
  no_join none e is = let t = told (codes "join") e is in none (entry_in (part 0 ds)) (entry_in (part 1 ds)) (list_in key_in (part 3 ds)) (list_in key_in (part 4 ds)) (record { how = join_in (part 2 ds); suffix = option_in text_in (part 5 ds); join_nulls = truth_in (part 6 ds); validation = validation_in (part 7 ds); slice = cut_in (part 8 ds) }) t.stands.2 t.json

  pub no_distinct : ((i : Node) (options : DistinctOptions) → CutFits options.slice → after (codes "distinct") ≢ node_json 0 (entry.Distinct i options)) → (e : IR) → IsNode tables e (after (codes "distinct")) → ⊥
  no_distinct none e is = let t = told (codes "distinct") e is in none (entry_in (part 0 ds)) (record { subset = names_in (part 1 ds); maintain_order = truth_in (part 2 ds); keep_strategy = keep_in (part 3 ds); slice = cut_in (part 4 ds) }) t.stands t.json

  pub no_left_out : ((w : What) → IsTrue (is_left_out_kind w) → after (codes "left_out") ≢ node_json 0 (entry.LeftOut w)) → (e : IR) → IsNode tables e (after (codes "left_out")) → ⊥
  no_left_out none e is = let t = told (codes "left_out") e is in none (what_in (part 0 ds)) t.stands t.json

  -- no node of another word
  pub no_other : (w : List ℕ) →
      w ≢ codes "scan" →
      w ≢ codes "project" →
      w ≢ codes "select" →
      w ≢ codes "hstack" →
      w ≢ codes "filter" →
      w ≢ codes "slice" →
      w ≢ codes "row_index" →
      w ≢ codes "map" →
      w ≢ codes "sort" →
      w ≢ codes "union" →
      w ≢ codes "hconcat" →
      w ≢ codes "cache" →
      w ≢ codes "group_by" →
      w ≢ codes "join" →
      w ≢ codes "distinct" →
      w ≢ codes "left_out" →
      ((i : Node) (payload : SinkType) → after w ≢ node_json 0 (entry.Sink i payload)) →
      (e : IR) → IsNode tables e (after w) → ⊥
  no_other w scan project select hstack filter slice row_index map sort union hconcat cache group_by join distinct left_out sink (entry.DataFrameScan df columns) is = scan (word_at is.json)
  no_other w scan project select hstack filter slice row_index map sort union hconcat cache group_by join distinct left_out sink (entry.SimpleProjection i columns) is = project (word_at is.json)
  no_other w scan project select hstack filter slice row_index map sort union hconcat cache group_by join distinct left_out sink (entry.Select i es) is = select (word_at is.json)
  no_other w scan project select hstack filter slice row_index map sort union hconcat cache group_by join distinct left_out sink (entry.HStack i es) is = hstack (word_at is.json)
  no_other w scan project select hstack filter slice row_index map sort union hconcat cache group_by join distinct left_out sink (entry.Filter i predicate) is = filter (word_at is.json)
  no_other w scan project select hstack filter slice row_index map sort union hconcat cache group_by join distinct left_out sink (entry.Slice i offset len) is = slice (word_at is.json)
  no_other w scan project select hstack filter slice row_index map sort union hconcat cache group_by join distinct left_out sink (entry.MapFunction i (call.RowIndex name offset)) is = row_index (word_at is.json)
  no_other w scan project select hstack filter slice row_index map sort union hconcat cache group_by join distinct left_out sink (entry.MapFunction i (call.User n)) is = map (word_at is.json)
  no_other w scan project select hstack filter slice row_index map sort union hconcat cache group_by join distinct left_out sink (entry.Sort i by cut options) is = sort (word_at is.json)
  no_other w scan project select hstack filter slice row_index map sort union hconcat cache group_by join distinct left_out sink (entry.Union inputs options) is = union (word_at is.json)
  no_other w scan project select hstack filter slice row_index map sort union hconcat cache group_by join distinct left_out sink (entry.HConcat inputs) is = hconcat (word_at is.json)
  no_other w scan project select hstack filter slice row_index map sort union hconcat cache group_by join distinct left_out sink (entry.Cache i id hits) is = cache (word_at is.json)
  no_other w scan project select hstack filter slice row_index map sort union hconcat cache group_by join distinct left_out sink (entry.GroupBy i keys aggs maintain options) is = group_by (word_at is.json)
  no_other w scan project select hstack filter slice row_index map sort union hconcat cache group_by join distinct left_out sink (entry.Join l r left_on right_on args) is = join (word_at is.json)
  no_other w scan project select hstack filter slice row_index map sort union hconcat cache group_by join distinct left_out sink (entry.Distinct i options) is = distinct (word_at is.json)
  no_other w scan project select hstack filter slice row_index map sort union hconcat cache group_by join distinct left_out sink (entry.LeftOut what) is = left_out (word_at is.json)
  no_other w scan project select hstack filter slice row_index map sort union hconcat cache group_by join distinct left_out sink (entry.Sink i payload) is = sink i payload is.json
