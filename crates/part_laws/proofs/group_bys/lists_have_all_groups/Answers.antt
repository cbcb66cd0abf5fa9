use Rattle.part_laws.proofs.GroupParts.{split-groups}
use Rattle.part_laws.proofs.group_bys.lists_have_all_groups.Goals as goal

pub returns : goal.returns
returns c = λ node aggregates s rows lists split. split-groups node aggregates s rows lists split
