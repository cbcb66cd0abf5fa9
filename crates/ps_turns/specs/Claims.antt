-- What a node may claim, by its kind and what it has behind it.
use Rattle.std.specs.Prelude.{ℕ, zero, suc, ◌+◌, ◌-◌, Bool, true, false, not, cond, ◌&&◌, List, [], ◌∷◌, ◌++◌, map, length, take, drop, Option, Some, None, option_map, unwrap_or, nat_eq, nat_lt, nat_le, get_or, slice_set}
use Rattle.std.specs.List.{list_all, list_any}
use Rattle.ps_frame.specs.Causes.{is_empty}
use Rattle.ps_frame.specs.Tables.{Fields, Row}
use Rattle.ps_meaning.specs.Cases.{end_of}
use Rattle.ps_meaning.specs.Shape.{PhysicalKind, PhysicalNode, equi_join, group_by_node, in_memory_join, in_memory_map, in_memory_sink, in_memory_source, independent_select, multiplexer, negative_slice, ordered_union, reduce, streaming_slice, with_row_index, zip_node}
use Rattle.ps_meaning.specs.Joins.{fills_right}
use Rattle.ps_meaning.specs.Steps.{JoinStep}
use Rattle.ps_turns.specs.Cuts.{cut_of_source, is_exhausted}
use Rattle.ps_turns.specs.Heads.{Head, common_length, is_ready_head}
use Rattle.ps_options.specs.declared.options.Options.{Options}
use Rattle.ps_turns.specs.Progress.{Progress, Stage, giving, taking}
use Rattle.ps_turns.specs.Tasks.{Task, computes, gives_last, gives_part, hands_on, keeps, probes}

-- The node after it, the piece's number and that of its answer, the task and its tables, whether it takes a morsel of the input, and whether it then drops that input.
pub record Claim : Type 0 where
  pub progress : Progress
  pub number : ℕ
  pub gives : ℕ
  pub task : Task
  pub schemas : List Fields
  pub tables : List (List Row)
  pub takes_morsel : Bool
  pub drops_input : Bool

-- the next morsel of an input: its number and its rows
abbrev pub Next : Type 0
Next = Option (ℕ × List Row)

-- the rows of a morsel that a slice keeps, where it booked some before
abbrev pub sliced : ℕ → ℕ → ℕ → List Row → List Row
sliced offset n before rs = drop (offset - before) (take (end_of offset n - before) rs)

-- what came of an input in order to be kept, as far as it was handed in
abbrev pub taken_rows : List (Option (List Row)) → List Row
taken_rows [] = []
taken_rows (None ∷ slots) = taken_rows slots
taken_rows (Some rs ∷ slots) = rs ++ taken_rows slots

-- all rows that were kept, input by input
abbrev pub all_taken : Progress → List (List Row)
all_taken progress = map taken_rows progress.taken

abbrev pub with_slot : (input : ℕ) → List (List (Option (List Row))) → List (List (Option (List Row)))
with_slot i taken = slice_set taken i (get_or taken i [] ++ None ∷ [])

abbrev pub filled_slot : (input number : ℕ) → List Row → List (List (Option (List Row))) → List (List (Option (List Row)))
filled_slot i k rs taken = slice_set taken i (slice_set (get_or taken i []) k (Some rs))

-- a morsel that is kept from its claim on
abbrev pub with_kept : (input : ℕ) → List Row → List (List (Option (List Row))) → List (List (Option (List Row)))
with_kept i rs taken = slice_set taken i (get_or taken i [] ++ Some rs ∷ [])

-- right rows without a match are to come last, and didn't yet
abbrev pub owes_last : JoinStep → Progress → Bool
owes_last j progress = fills_right j.args.how && nat_eq progress.sent 0

module _ (o : Options) (p : PhysicalNode) (ss : List Fields) where
  -- a morsel, whose answer goes on under its own number
  abbrev pub of_morsel : Progress → Task → ℕ → List Row → Claim
  of_morsel progress task k rs = record { progress = progress; number = k; gives = k; task = task; schemas = ss; tables = rs ∷ []; takes_morsel = true; drops_input = false }

  -- rows of its own, under the next number of its own
  abbrev pub of_own : Progress → Task → List Fields → List (List Row) → Claim
  of_own progress task schemas tables =
      record { progress = record progress { sent = progress.sent + 1 }; number = progress.sent; gives = progress.sent; task = task; schemas = schemas; tables = tables; takes_morsel = false; drops_input = false }

  abbrev pub passes : PhysicalKind → Progress → ℕ → List Row → Claim
  passes (streaming_slice offset n) progress k rs =
      record (of_morsel (record progress { booked = progress.booked + length rs }) hands_on k (sliced offset n progress.booked rs)) { drops_input = nat_le (end_of offset n) (progress.booked + length rs) }
  passes (with_row_index name offset) progress k rs =
      of_morsel (record progress { booked = progress.booked + length rs }) (computes (record p { kind = with_row_index name (Some (unwrap_or offset 0 + progress.booked)) })) k rs
  passes ordered_union progress k rs = record (of_morsel (record progress { sent = progress.sent + 1 }) hands_on k rs) { gives = progress.sent }
  passes _ progress k rs = of_morsel progress (computes p) k rs

  -- the next cut of a source's rows
  abbrev pub of_source : Progress → List Row → Option Claim
  of_source progress rs = cond (is_exhausted o rs progress.sent) None (Some (of_own progress hands_on (p.schema ∷ []) (cut_of_source o rs progress.sent ∷ [])))

  abbrev pub of_made : Progress → Stage → Option (List Row) → Option Claim
  of_made progress giving (Some rs) = of_source progress rs
  of_made progress _ _ = None

  -- the one morsel of a node without inputs, over no table
  abbrev pub of_none : Progress → Option Claim
  of_none progress = cond (nat_eq progress.sent 0) (Some (of_own progress (computes p) [] [])) None

  -- the next common length, where all heads are ready and one has a row
  abbrev pub of_heads : Bool → Progress → List Head → Option Claim
  of_heads extend progress hs =
      cond (list_all (is_ready_head extend) hs && list_any (λ (h : Head). not (is_empty h.rest)) hs)
      (Some (of_own (record progress { booked = progress.booked + common_length extend hs }) (computes p) ss (map (λ (h : Head). cond h.broadcasts h.rest (take (common_length extend hs) h.rest)) hs))) None

  -- a morsel that is kept
  abbrev pub of_kept : (input : ℕ) → Progress → Next → Option Claim
  of_kept i progress next =
      option_map (λ m. record (of_morsel (record progress { taken = with_slot i progress.taken }) (keeps p) m.0 m.1) { schemas = get_or ss i [] ∷ [] }) next

  -- the one row of a reduce, and a part of a group-by
  abbrev pub of_row : Progress → Option Claim
  of_row progress = cond (nat_eq progress.sent 0) (Some (of_own progress (computes p) ss (all_taken progress))) None

  abbrev pub of_part : Progress → Option Claim
  of_part progress = cond (nat_lt progress.sent (length progress.lists)) (Some (of_own progress (gives_part p (get_or progress.lists progress.sent [])) ss (all_taken progress))) None

  abbrev pub of_reduce : Stage → (input : ℕ) → Progress → Next → Option Claim
  of_reduce taking i progress next = of_kept i progress next
  of_reduce giving i progress next = cond (nat_eq i 0) (of_row progress) None
  of_reduce _ i progress next = None

  abbrev pub of_parts : Stage → (input : ℕ) → Progress → Next → Option Claim
  of_parts taking i progress next = of_kept i progress next
  of_parts giving i progress next = cond (nat_eq i 0) (of_part progress) None
  of_parts _ i progress next = None

  -- While it builds, an equi join keeps its right morsels.
  abbrev pub of_build : (input : ℕ) → Progress → Next → Option Claim
  of_build zero progress next = None
  of_build (suc i) progress next = of_kept (suc i) progress next

  -- While it probes, it takes its left morsels, over all right rows; where right rows come last, it keeps these morsels.
  abbrev pub with_left : JoinStep → List Row → Progress → Progress
  with_left j rs progress = cond (fills_right j.args.how) (record progress { taken = with_kept 0 rs progress.taken }) progress

  abbrev pub of_left : JoinStep → Progress → ℕ → List Row → Claim
  of_left j progress k rs = record (of_morsel (with_left j rs progress) (probes p j) k rs) { tables = rs ∷ taken_rows (get_or progress.taken 1 []) ∷ [] }

  -- the right rows that come last, over all left rows, under the number after those of the left's morsels
  abbrev pub of_last : JoinStep → Progress → Claim
  of_last j progress = record (of_own progress (gives_last p j) ss (all_taken progress)) { number = length (get_or progress.taken 0 []); gives = length (get_or progress.taken 0 []) }

  abbrev pub of_probe : JoinStep → (left_done : Bool) → (input : ℕ) → Progress → Next → Option Claim
  of_probe j d zero progress (Some m) = Some (of_left j progress m.0 m.1)
  of_probe j d zero progress None = cond (d && owes_last j progress) (Some (of_last j progress)) None
  of_probe j d (suc i) progress next = None

  abbrev pub of_join : JoinStep → Stage → (left_done : Bool) → (input : ℕ) → Progress → Next → Option Claim
  of_join j taking d i progress next = of_build i progress next
  of_join j giving d i progress next = of_probe j d i progress next
  of_join j _ d i progress next = None

  abbrev pub at_first : (input : ℕ) → Option Claim → Option Claim
  at_first i c = cond (nat_eq i 0) c None

  -- The claim of a node on an input, where it has one; dones says which inputs are done. Sources, zips and what gives its own name input 0.
  abbrev pub claim_by : PhysicalKind → Progress → List Head → (dones : List Bool) → (input : ℕ) → Next → Option Claim
  claim_by (in_memory_source t) progress hs ds i next = at_first i (of_source progress t.rows)
  claim_by (independent_select es) progress hs ds i next = at_first i (of_none progress)
  claim_by (in_memory_map step) progress hs ds i next = at_first i (of_made progress progress.stage progress.made)
  claim_by (in_memory_join j) progress hs ds i next = at_first i (of_made progress progress.stage progress.made)
  claim_by (negative_slice back n) progress hs ds i next = at_first i (of_made progress progress.stage progress.made)
  claim_by (zip_node extend) progress hs ds i next = at_first i (of_heads extend progress hs)
  claim_by (reduce es) progress hs ds i next = of_reduce progress.stage i progress next
  claim_by (group_by_node keys aggregates) progress hs ds i next = of_parts progress.stage i progress next
  claim_by (equi_join j) progress hs ds i next = of_join j progress.stage (get_or ds 0 false) i progress next
  claim_by in_memory_sink progress hs ds i next = None
  claim_by multiplexer progress hs ds i next = None
  claim_by kind progress hs ds i next = option_map (λ m. passes kind progress m.0 m.1) next

  abbrev pub claim_of : Progress → List Head → (dones : List Bool) → (input : ℕ) → Next → Option Claim
  claim_of progress hs ds i next = claim_by p.kind progress hs ds i next
