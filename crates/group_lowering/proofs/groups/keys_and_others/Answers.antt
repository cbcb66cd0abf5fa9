use Rattle.std.proofs.Common.{◌++◌, ap, ◌∙◌}
use Rattle.ps_frame.specs.Trees.{tree_at}
use Rattle.plan_rules.specs.Groups.{own_columns}
use Rattle.lowering_parts.proofs.LaterLemmas.{named_whole}
use Rattle.group_lowering.proofs.DistinctLemmas.{columns_whole}
use Rattle.group_lowering.proofs.GroupLemmas.{all_keys_whole, both_named, named_later}
use Rattle.group_lowering.proofs.groups.keys_and_others.Goals as goal

pub returns-clause-named : goal.returns-clause-named
returns-clause-named c =
    let after = tree_at c.own_columns.new.arena.items in
    both_named after c.in_ok-columns.columns.items c.args.others.items c.in_ok-all.all.items c.in_ok-all.ensures.all
    ∙ (λ i. (c.in_ok-columns.ensures.named ∙ ap own_columns (c.as_slice.ensures.value ∙ c.in_ok-names.ensures.names)) i ++ named_later c.args.arena.now.items c.own_columns.new.arena.items c.own_columns.ensures.kept c.args.others.items c.requires.others i)

pub returns-clause-whole : goal.returns-clause-whole
returns-clause-whole c =
    let after = tree_at c.own_columns.new.arena.items in
    all_keys_whole after c.in_ok-columns.columns.items c.args.others.items c.in_ok-all.all.items c.in_ok-all.ensures.all (columns_whole c.as_slice.result.now after c.in_ok-columns.columns.items c.in_ok-columns.ensures.named) (named_whole c.args.arena.now.items c.own_columns.new.arena.items c.own_columns.ensures.kept c.args.others.items c.requires.others)
