-- Numbers of keys.
use Rattle.std.proofs.Common.{◌≡◌, List, [], ◌∷◌, length, suc, refl, ap}
use Rattle.pu_base.specs.declared.arena.Node.{Node}
use Rattle.ps_frame.specs.Trees.{Tree}
use Rattle.ps_meaning.specs.Steps.{key_trees}
use Rattle.ps_meaning.specs.declared.options.ExprIR.{ExprIR}

-- as many trees as keys
pub keys-length : (f : Node → Tree) (es : List ExprIR) → length (key_trees f es) ≡ length es
keys-length f [] = refl
keys-length f (e ∷ es) = ap suc (keys-length f es)
