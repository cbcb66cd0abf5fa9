-- What the nodes of a graph are called, what they become that are told how many pieces of work may go on, and what they give as an answer.
use Rattle.std.specs.Prelude.{◌≡◌, ℕ, List, Option, Some, None, codes}
use Rattle.ps_frame.specs.Tables.{Row}
use Rattle.plain_nodes.specs.Cutting.{IsCutFor}
use Rattle.plain_nodes.specs.Kept.{rows_kept}
use Rattle.ps_nodes.specs.declared.flow.FlowNode.{FlowNode}
use Rattle.ps_nodes.specs.declared.flow.FlowNode.TheVariants as flow

-- the word of its kind
abbrev pub word_of : FlowNode → List ℕ
word_of (flow.Filter n) = codes "filter"
word_of (flow.Select n) = codes "select"
word_of (flow.InputIndependentSelect n) = codes "input_independent_select"
word_of (flow.SimpleProjection n) = codes "simple_projection"
word_of (flow.WithRowIndex n) = codes "with_row_index"
word_of (flow.Map n) = codes "map"
word_of (flow.StreamingSlice n) = codes "streaming_slice"
word_of (flow.NegativeSlice n) = codes "negative_slice"
word_of (flow.InMemorySource n) = codes "in_memory_source"
word_of (flow.OrderedUnion n) = codes "ordered_union"
word_of (flow.Multiplexer n) = codes "multiplexer"
word_of (flow.InMemorySink n) = codes "in_memory_sink"
word_of (flow.Zip n) = codes "zip"
word_of (flow.Reduce n) = codes "reduce"
word_of (flow.GroupBy n) = codes "group_by"
word_of (flow.InMemoryMap n) = codes "in_memory_map"
word_of (flow.InMemoryJoin n) = codes "in_memory_join"
word_of (flow.EquiJoin n) = codes "equi_join"

-- A source, and what acts as one, is cut for so many pieces from then on; others stay as they were.
abbrev pub IsToldOf : FlowNode → (pieces : ℕ) → FlowNode → Type 0
IsToldOf (flow.InMemorySource a) k (flow.InMemorySource b) = IsCutFor k a.options b.options × (b ≡ record a { options = b.options })
IsToldOf (flow.NegativeSlice a) k (flow.NegativeSlice b) = IsCutFor k a.made.options b.made.options × (b ≡ record a { made = record a.made { options = b.made.options } })
IsToldOf (flow.InMemoryMap a) k (flow.InMemoryMap b) = IsCutFor k a.made.options b.made.options × (b ≡ record a { made = record a.made { options = b.made.options } })
IsToldOf (flow.InMemoryJoin a) k (flow.InMemoryJoin b) = IsCutFor k a.made.options b.made.options × (b ≡ record a { made = record a.made { options = b.made.options } })
IsToldOf a k b = b ≡ a

-- the rows of a sink, in the order in which it stored them
abbrev pub answer_kept : FlowNode → Option (List Row)
answer_kept (flow.InMemorySink n) = Some (rows_kept n.kept)
answer_kept n = None

-- the node once these were given
abbrev pub without_answer : FlowNode → FlowNode
without_answer (flow.InMemorySink n) = flow.InMemorySink (record n { kept = None })
without_answer n = n
