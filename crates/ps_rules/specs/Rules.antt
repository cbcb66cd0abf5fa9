-- What a call does at an expression, by its kind.
use Rattle.std.specs.Prelude.{ℕ, Bool, false, List, [], ◌∷◌, ◌++◌, map, None, if◌then◌else◌}
use Rattle.std.specs.List.{list_all}
use Rattle.std.specs.Str.{bytes_eq}
use Rattle.ps_frame.specs.Trees.{Aggregation, Tree}
use Rattle.ps_frame.specs.Typing.{is_elementwise, is_independent}
use Rattle.ps_meaning.specs.Shape.{filter_node, in_memory_map, reduce, select_node}
use Rattle.ps_meaning.specs.Steps.{Name, sort}
use Rattle.ps_rules.specs.Bundles.{finished, gathered, is_stream_alone}
use Rattle.ps_rules.specs.Calls.{Answer, Bundle, Call, Operand, all_independent, each, exprs_of_all, given, given_bundle, given_reduction, left_to_map, new_call}
use Rattle.ps_rules.specs.Slots.{Made, State, Stream, added, after_name, after_names, columns_named, new_name, new_names, over_same, over_selected, under, with_columns, without_input}

abbrev pub first_tree : List Tree → Tree
first_tree [] = Tree.missing
first_tree (e ∷ es) = e

abbrev pub second_tree : List Tree → Tree
second_tree [] = Tree.missing
second_tree (e ∷ es) = first_tree es

abbrev pub third_tree : List Tree → Tree
third_tree [] = Tree.missing
third_tree (e ∷ es) = second_tree es

abbrev pub first_name : List Name → Name
first_name [] = []
first_name (n ∷ ns) = n

abbrev pub other_names : List Name → List Name
other_names [] = []
other_names (n ∷ ns) = ns

-- an expression under the name that it gets
abbrev pub NamedOperand : Type 0
NamedOperand = Name × Operand

abbrev pub operands_of : List NamedOperand → List Operand
operands_of items = map (λ (i : NamedOperand). i.1) items

abbrev pub names_of_items : List NamedOperand → List Name
names_of_items items = map (λ (i : NamedOperand). i.0) items

-- the column of its own name
abbrev pub is_own_column : Name → Tree → Bool
is_own_column name (Tree.column other) = bytes_eq name other
is_own_column name _ = false

abbrev pub are_own_columns : List NamedOperand → Bool
are_own_columns items = list_all (λ (i : NamedOperand). is_own_column i.0 i.1.expr) items

module _ (at : ℕ) (input : Stream) where
  -- where all are independent of the input, they are computed without it
  abbrev pub apart_from_input : List Tree → State → Bundle
  apart_from_input es s =
      let ns = new_names es s in
      let m = without_input at (under ns es) (after_names es s) in
      record { state = m.state; streams = m.stream ∷ []; reduced = []; exprs = columns_named ns }

  abbrev pub over_input : List Operand → State → Bundle
  over_input operands s = gathered at input (each operands (new_call s))

  -- what one call for these expressions gathers
  abbrev pub together : List Operand → State → Bundle
  together operands = if all_independent (exprs_of_all operands) then apart_from_input (exprs_of_all operands) else over_input operands

  -- one call for these expressions
  abbrev pub answered : List Operand → State → Answer
  answered operands s = finished at input (together operands s)

  -- a select of these expressions under their names
  abbrev pub computed : List NamedOperand → State → Made
  computed items s =
      let a = answered (operands_of items) s in
      let es = under (names_of_items items) a.exprs in
      over_selected at (select_node es false) es a.stream a.state

  abbrev pub selected_from_input : List NamedOperand → State → Made
  selected_from_input items = if are_own_columns items then with_columns at (names_of_items items) input else computed items

  abbrev pub selected : List NamedOperand → State → Made
  selected items =
      if all_independent (exprs_of_all (operands_of items))
      then without_input at (under (names_of_items items) (exprs_of_all (operands_of items)))
      else selected_from_input items

  -- what is elementwise stays, over the input unless it is independent of it
  abbrev pub stays : Tree → Call → Call
  stays e call = record call { streams = (if is_independent e then call.streams else added input call.streams); exprs = call.exprs ++ e ∷ [] }

  abbrev pub stays_or : Tree → (Call → Call) → Call → Call
  stays_or e rule = if is_elementwise e then stays e else rule

  -- the operator stays, over operands that are lowered together
  abbrev pub over_operands : (List Tree → Tree) → List Operand → Call → Call
  over_operands operator operands call = given_bundle operator (together operands call.state) call

  -- the values are selected under a fresh name, and sorted by it
  abbrev pub sorted_column : Bool → Bool → Operand → Call → Call
  sorted_column descending nulls_last o call =
      let name = new_name call.state in
      let m = selected ((name, o) ∷ []) (after_name call.state) in
      let step = sort (record { keys = Tree.column name ∷ []; descending = descending ∷ []; nulls_last = nulls_last ∷ []; cut = None }) in
      let n = over_same at (in_memory_map step) m.stream m.state in
      given (Tree.column name) n.stream n.state call

  -- values and keys are selected, sorted by the keys, and the values alone are kept
  abbrev pub sorted_by : List Bool → List Bool → Operand → List Operand → Call → Call
  sorted_by descending nulls_last o by call =
      let ns = new_names (o ∷ by) call.state in
      let m = selected (under ns (o ∷ by)) (after_names (o ∷ by) call.state) in
      let step = sort (record { keys = columns_named (other_names ns); descending = descending; nulls_last = nulls_last; cut = None }) in
      let n = over_same at (in_memory_map step) m.stream m.state in
      let v = with_columns at (first_name ns ∷ []) n.stream n.state in
      given (Tree.column (first_name ns)) v.stream v.state call

  -- values and predicate are selected, and filtered by the predicate
  abbrev pub filtered_column : Operand → Operand → Call → Call
  filtered_column o by call =
      let ns = new_names (o ∷ by ∷ []) call.state in
      let m = selected (under ns (o ∷ by ∷ [])) (after_names (o ∷ by ∷ []) call.state) in
      let n = over_same at (filter_node (first_tree (columns_named (other_names ns)))) m.stream m.state in
      given (Tree.column (first_name ns)) n.stream n.state call

  -- a reduce of one expression over a stream of its own
  abbrev pub reduced_apart : Tree → Answer → Call → Call
  reduced_apart e a call =
      let es = (new_name a.state, e) ∷ [] in
      let m = over_selected at (reduce es) es a.stream (after_name a.state) in
      given (Tree.column (new_name a.state)) m.stream m.state call

  -- over the input itself, or over what the values are lowered to
  abbrev pub reduced_over : (List Tree → Tree) → Bundle → Call → Call
  reduced_over e b = if is_stream_alone input b.streams b.reduced then given_reduction (e b.exprs) b.state else reduced_apart (e b.exprs) (finished at input b)

  -- the values are lowered, and reduced
  abbrev pub reduced_column : Aggregation → Operand → Call → Call
  reduced_column a o call = reduced_over (λ es. Tree.aggregate a (first_tree es)) (together (o ∷ []) call.state) call

  abbrev pub counted_rows : Call → Call
  counted_rows call = given_reduction Tree.len call.state call

  -- an aggregate that a reduce computes; the others are left to a map
  abbrev pub aggregated : Aggregation → Operand → Tree → Call → Call
  aggregated Aggregation.n_unique o e = left_to_map e
  aggregated (Aggregation.count all) o e = left_to_map e
  aggregated Aggregation.min o e = reduced_column Aggregation.min o
  aggregated Aggregation.max o e = reduced_column Aggregation.max o
  aggregated Aggregation.first o e = reduced_column Aggregation.first o
  aggregated Aggregation.last o e = reduced_column Aggregation.last o
  aggregated Aggregation.sum o e = reduced_column Aggregation.sum o
