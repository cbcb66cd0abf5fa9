-- The expressions of a call, one after the other.
use Rattle.std.proofs.Common.{◌≡◌, ℕ, zero, suc, ◌+◌, ◌<◌, ◌≤◌, List, [], ◌∷◌, add-one, get_or, length, take, refl, sym, ap, ◌∙◌, arith}
use Rattle.std.specs.Prelude.{map}
use Rattle.std.specs.List.{AllByRecursion}
use Rattle.pu_base.specs.declared.arena.Node.{Node}
use Rattle.ps_frame.specs.Trees.{IsComplete, Tree, tree_at, tree_size, trees_of, trees_size}
use Rattle.ps_frame.specs.declared.expr.AExpr.{AExpr}
use Rattle.ps_rules.specs.Calls.{Call, Operand, each}
use Rattle.ps_rules.specs.Lowered.{as_operand, lower}
use Rattle.ps_rules.specs.Slots.{Stream}
use Rattle.ps_fresh.specs.declared.lowering.Lowering.{Lowering}
use Rattle.lowering_parts.specs.declared.gathered.Gathered.{Gathered}
use Rattle.lowering_parts.specs.Gathered.{Follows, call_of, trees_at}
use Rattle.lowering_parts.proofs.Going.{goes_then}
use Rattle.lowering_parts.proofs.Grown.{kept-then}

module _ (at : ℕ) (input : Stream) where
  abbrev pub over_all : (Node → Tree) → List Node → List Operand
  over_all t ns = map (as_operand at input) (trees_at t ns)

  pub each_next : (t : Node → Tree) (ns : List Node) (i : ℕ) (d : Node) (c : Call) → i < length ns → each (over_all t (take (i + 1) ns)) c ≡ lower at input (t (get_or ns i d)) (each (over_all t (take i ns)) c)
  each_next t ns i d c lt = rw add-one (next ns i c lt)
    where
      next : (ns : List Node) (i : ℕ) (c : Call) → i < length ns → each (over_all t (take (suc i) ns)) c ≡ lower at input (t (get_or ns i d)) (each (over_all t (take i ns)) c)
      next [] i c lt = absurd (omega arith)
      next (n ∷ ns) zero c lt = refl
      next (n ∷ ns) (suc i) c lt = next ns i (lower at input (t n) c) (omega arith)

-- an item of a list of expressions is one, and no larger than all
pub item_whole : (t : Node → Tree) (ns : List Node) (i : ℕ) (d : Node) → i < length ns → AllByRecursion IsComplete (trees_at t ns) → IsComplete (t (get_or ns i d))
item_whole t [] i d lt h = absurd (omega arith)
item_whole t (n ∷ ns) zero d lt h = h.0
item_whole t (n ∷ ns) (suc i) d lt h = item_whole t ns i d (omega arith) h.1

pub item_smaller : (t : Node → Tree) (ns : List Node) (i : ℕ) (d : Node) → i < length ns → tree_size (t (get_or ns i d)) ≤ trees_size (trees_of t ns)
item_smaller t [] i d lt = absurd (omega arith)
item_smaller t (n ∷ ns) zero d lt = omega arith
item_smaller t (n ∷ ns) (suc i) d lt = let le = item_smaller t ns i d (omega arith) in omega arith

-- one more expression of a call
pub each_follows : (input : Stream) (ns : List Node) (i : ℕ) (d : Node) (a b e : List AExpr) (l m p : Lowering) (c g k : Gathered) (n : Node) → i < length ns → n ≡ get_or ns i d → AllByRecursion IsComplete (trees_at (tree_at a) ns)
    → Follows (each (over_all l.origin.0 input (tree_at a) (take i ns))) a b l m c g → Follows (lower m.origin.0 input (tree_at b n)) b e m p g k
    → Follows (each (over_all l.origin.0 input (tree_at a) (take (i + 1) ns))) a e l p c k
each_follows input ns i d a b e l m p c g k n lt at-n whole h one =
    let tree : tree_at b n ≡ tree_at a (get_or ns i d) = ap (tree_at b) at-n ∙ h.goes_on.trees (get_or ns i d) (item_whole (tree_at a) ns i d lt whole) in
    record {
      by_rule = λ later keeps.
          (let f = tree_at later in
          one.by_rule later keeps
          ∙ (λ j. lower (h.goes_on.origin j).0 input (tree j) (h.by_rule later (kept-then b e later one.goes_on.trees keeps) j)) ∙ sym (each_next l.origin.0 input (tree_at a) ns i d (call_of f l c) lt));
      goes_on = goes_then a b e l m p h.goes_on one.goes_on;
      whole = one.whole;
    }
