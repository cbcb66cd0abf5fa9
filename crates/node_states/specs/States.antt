-- For which nodes the states of this crate stand.
use Rattle.std.specs.Prelude.{◌≡◌, Bool, true, false, List, map, IsTrue}
use Rattle.node_states.specs.Heads.{head_state}
use Rattle.node_states.specs.Views.{NodeView}
use Rattle.node_states.specs.Stages.{stage_of}
use Rattle.node_states.specs.declared.equi_join.JoinState.{JoinState}
use Rattle.node_states.specs.declared.keeper.KeeperState.{KeeperState}
use Rattle.node_states.specs.declared.streaming_slice.SliceState.{SliceState}
use Rattle.node_states.specs.declared.heads.HeadState.{HeadState}
use Rattle.ps_meaning.specs.Shape.{PhysicalKind, equi_join, filter_node, in_memory_sink, in_memory_source, independent_select, multiplexer, ordered_union, select_node, simple_projection, stream_map, streaming_slice, with_row_index, zip_node}
use Rattle.ps_meaning.specs.Steps.{JoinStep}
use Rattle.ps_turns.specs.Claims.{owes_last}
use Rattle.ps_turns.specs.Updates.{has_given_all, is_filled, turns}

-- what gives rows of its own from the start
abbrev pub is_source : PhysicalKind → Bool
is_source (in_memory_source t) = true
is_source (independent_select es) = true
is_source _ = false

-- what gives each morsel on as it comes
abbrev pub is_passing : PhysicalKind → Bool
is_passing (select_node es extends) = true
is_passing (with_row_index name offset) = true
is_passing (filter_node e) = true
is_passing (simple_projection names) = true
is_passing (stream_map step) = true
is_passing _ = false

-- a source, of whose rows all are given or not
pub record IsSource (gave_all : Bool) (n : NodeView) : Type 0 where
  pub kind : IsTrue (is_source n.kind)
  pub gave : has_given_all n.options n.kind n.progress ≡ gave_all

abbrev pub IsPassing : NodeView → Type 0
IsPassing n = IsTrue (is_passing n.kind)

abbrev pub IsSink : NodeView → Type 0
IsSink n = n.kind ≡ in_memory_sink

abbrev pub IsUnion : NodeView → Type 0
IsUnion n = n.kind ≡ ordered_union

pub record IsSlice (s : SliceState) (n : NodeView) : Type 0 where
  pub kind : n.kind ≡ streaming_slice s.offset s.length
  pub booked : n.progress.booked ≡ s.booked

pub record IsMultiplexer (empties : List Bool) (n : NodeView) : Type 0 where
  pub kind : n.kind ≡ multiplexer
  pub pipes : n.empties ≡ empties

pub record IsZip (null_extend : Bool) (heads : List HeadState) (n : NodeView) : Type 0 where
  pub kind : n.kind ≡ zip_node null_extend
  pub seen : map head_state n.heads ≡ heads

-- what keeps its input, and gives what it makes of it
pub record IsKeeper (s : KeeperState) (n : NodeView) : Type 0 where
  pub kind : IsTrue (turns n.kind)
  pub stage : n.progress.stage ≡ stage_of s.stage
  pub gave : has_given_all n.options n.kind n.progress ≡ s.gave_all
  pub filled : is_filled n.kind n.progress ≡ s.is_filled

pub record IsEquiJoin (s : JoinState) (n : NodeView) : Type 0 where
  pub step : JoinStep
  pub kind : n.kind ≡ equi_join step
  pub stage : n.progress.stage ≡ stage_of s.stage
  pub owes : owes_last step n.progress ≡ s.owes_last
