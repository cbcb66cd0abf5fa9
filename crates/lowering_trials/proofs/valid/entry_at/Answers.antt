use Rattle.std.proofs.Common.{List, subst, sym}
use Rattle.ps_plan.specs.Plans.{IsPlan}
use Rattle.ps_plan.specs.declared.ir.IR.{IR}
use Rattle.lowering_trials.proofs.Ready.{reached_plan}
use Rattle.lowering_trials.proofs.valid.entry_at.Goals as goal

pub entry-requires : goal.entry-requires
entry-requires c =
    subst (λ (ns : List IR). IsPlan ns c.args.exprs.now.items c.args.node) (sym c.ir.ensures) (reached_plan c.args.valid.now c.args.exprs.now.items c.args.node c.requires.valid c.requires.reached)
