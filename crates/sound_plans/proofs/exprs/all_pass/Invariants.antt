use Rattle.ps_frame.specs.Trees.{tree_at}
use Rattle.ps_fresh.specs.Known.{Remembers}
use Rattle.sound_plans.proofs.Testing.{IsLeft}
use Rattle.sound_plans.specs.Tested.{passes}
use Rattle.sound_plans.proofs.exprs.all_pass.Given as goal

abbrev pub invariant-loop-expr : goal.invariant-loop-expr
invariant-loop-expr l =
    record {
      left : IsLeft (passes l.test) (tree_at l.arena.items) l.exprs l.expr-index;
      cache : Remembers l.arena.items l.cache;
    }
