-- What a group-by asks of its stream, and what the calls leave of a sound shape.
use Rattle.std.specs.Prelude.{◌≢◌, ◌<◌, ◌++◌, [], length, IsTrue}
use Rattle.std.specs.List.{list_all, list_any}
use Rattle.ps_frame.specs.Functions.{Functions}
use Rattle.ps_frame.specs.Parts.{is_literal_aggregate, some_part}
use Rattle.ps_frame.specs.Typing.{is_scalar}
use Rattle.ps_meaning.specs.Schemas.{expr_names}
use Rattle.ps_meaning.specs.Sound.{IsSoundButForReaders}
use Rattle.ps_meaning.specs.Steps.{GroupStep, exprs_of, group_by, step_exprs}
use Rattle.ps_rules.specs.Slots.{State, Stream, schema_at}
use Rattle.ps_shares.specs.Kept.{AreKnown, IsReady}
use Rattle.name_rules.specs.Lawful.{Differ}

-- The stream is there and has a column; its names are known and differ, and keys and aggregates have kinds over it. There is a key. The names of keys and aggregates are known and differ. Each aggregate is scalar, and none in it is of what reads no input.
pub record IsReadyToGroup (s : State) (input : Stream) (o : GroupStep) : Type 0 where
  pub exprs : IsReady s input (step_exprs (group_by o))
  pub column : schema_at s.nodes input ≢ []
  pub key : o.keys ≢ []
  pub known : AreKnown s.names (expr_names (o.keys ++ o.aggregates))
  pub differ : Differ (expr_names (o.keys ++ o.aggregates))
  pub scalar : IsTrue (list_all is_scalar (exprs_of o.aggregates))
  pub reads : ¬ IsTrue (list_any (some_part is_literal_aggregate) (exprs_of o.aggregates))

-- the node of a stream is there
abbrev pub IsLive : State → Stream → Type 0
IsLive s input = input.0 < length s.nodes

-- a shape that was sound but for readers is so with the new nodes
abbrev pub KeepsSound : Functions → (before after : State) → Type 0
KeepsSound F before after = IsSoundButForReaders F before.nodes → IsSoundButForReaders F after.nodes
