-- Of a new group-by none was claimed, however it is cut.
use Rattle.std.proofs.Common.{◌∙◌, ap}
use Rattle.plain_nodes.specs.declared.group_by.GroupByNode.{GroupByNode}
use Rattle.turn_laws.specs.Updating.{SeenNode}
use Rattle.turn_trials.proofs.group_bys.group_by.Goals as goal

pub returns : goal.returns
returns c = ap (λ (n : GroupByNode). n.sent) c.cut_by.ensures ∙ ap (λ (s : SeenNode). s.progress.sent) c.new-group_by.ensures.new
