use Rattle.aggregates_keep.proofs.Streams.{streamed_groups_keep}
use Rattle.aggregates_keep.proofs.laws.streamed_groups_are_kept.Goals as goal

pub returns : goal.returns
returns c = streamed_groups_keep
