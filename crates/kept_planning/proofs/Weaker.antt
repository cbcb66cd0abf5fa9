-- What follows of a plan follows of what a call answers.
use Rattle.std.proofs.Common.{Err, IfOk, List, Ok, OnOk, Result}
use Rattle.pu_base.specs.declared.arena.Node.{Node}
use Rattle.ps_frame.specs.Trees.{Tree, tree_at}
use Rattle.ps_frame.specs.declared.expr.AExpr.{AExpr}
use Rattle.lowering_parts.specs.Gathered.{Later}

-- whatever is added to the arena later
pub later : {A E : Type 0} (r : Result A E) (arena : List AExpr) (P Q : A → (Node → Tree) → Type 0) → ((a : A) (f : Node → Tree) → P a f → Q a f) → IfOk r (λ a. Later arena (P a)) → IfOk r (λ a. Later arena (Q a))
later (Ok a) arena P Q weaker h = λ more k. weaker a (tree_at more) (h more k)
later (Err e) arena P Q weaker h = tt

-- where the answer tells two things
pub both : {A E : Type 0} (r : Result A E) (V : Type 0) (P Q : A → Type 0) → ((a : A) → V → P a → Q a) → OnOk r V → IfOk r P → IfOk r Q
both (Ok a) V P Q weaker v h = weaker a v h
both (Err e) V P Q weaker v h = tt
