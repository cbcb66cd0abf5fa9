use Rattle.std.proofs.Common.{subst, sym}
use Rattle.std.specs.Prelude.{IsSome}
use Rattle.std.proofs.lemmas.Result.{IfOk-weaker}
use Rattle.ps_frame.specs.Tables.{Frame}
use Rattle.ps_frame.specs.Trees.{tree_at}
use Rattle.ps_frame.specs.Typing.{kind_over}
use Rattle.ps_groups.specs.Grouped.{IsValueOf}
use Rattle.ps_groups.proofs.aggregates.value_over.Goals as goal

pub value_of-requires-clause-kind : goal.value_of-requires-clause-kind
value_of-requires-clause-kind c =
    let t = tree_at c.args.arena.now.items c.args.expr in
    subst (λ (g : Frame). IsSome (kind_over g.schema t)) (sym c.in_ok-part.ensures) c.requires.kind

pub returns : goal.returns
returns c =
    let t = tree_at c.args.arena.now.items c.args.expr in
    IfOk-weaker c.value_of.result _ _ (λ outcome h at. subst (λ (g : Frame). IsValueOf at g t outcome) c.in_ok-part.ensures (h at)) c.value_of.ensures
