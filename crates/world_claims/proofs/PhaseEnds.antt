-- Where a phase ends no piece is out: each piece stands at a node of the phase that isn't closed.
use Rattle.std.proofs.Common.{◌≡◌, ℕ, zero, suc, true, false, List, [], ◌∷◌, None, Some, refl, sym, subst, ◌∙◌}
use Rattle.std.specs.Prelude.{Contains, IsTrue, not, slice_get, ◌&&◌}
use Rattle.std.specs.List.{AllByRecursion}
use Rattle.ps_frame.specs.Functions.{Functions}
use Rattle.ps_turns.specs.Tasks.{Piece}
use Rattle.ps_world.specs.Facts.{Facts}
use Rattle.ps_world.specs.Step.{Steps}
use Rattle.ps_world.specs.World.{Node, World, ended}
use Rattle.world_facts.proofs.CutOff.{both_true}
use Rattle.world_laws.proofs.InOrder.{contains_first}

each_node : (P : Node → Type 0) (xs : List Node) (m : ℕ) (x : Node) → AllByRecursion P xs → slice_get xs m ≡ Some x → P x
each_node P [] m x all e = absurd (let no : None ≡ Some x = e in cc)
each_node P (y ∷ ys) zero x all e = let s : Some y ≡ Some x = e in let is : y ≡ x = cc in subst P is all.0
each_node P (y ∷ ys) (suc m) x all e = each_node P ys m x all.1 e

pub none_out : (F : Functions) (w v : World) (phase : ℕ) → Facts F w → Steps F w (ended phase) v → w.outs ≡ []
none_out F w v phase f s = by w.outs (λ q rest same. at_end q rest same)
  where
    at_end : (q : Piece) (rest : List Piece) → w.outs ≡ q ∷ rest → ⊥
    at_end q rest same =
        let at = f.at_work q (subst (λ xs. Contains xs q) (sym same) (contains_first q rest)) in
        let on = both_true w.is_open (at.0.in_phase && not at.0.is_closed) at.2 in
        let parts = both_true at.0.in_phase (not at.0.is_closed) on.1 in
        let closed = each_node (λ (n : Node). IsTrue n.in_phase → IsTrue n.is_closed) w.nodes q.node at.0 s.3 at.1 parts.0 in
        let no : false ≡ true = (λ i. not (sym closed i)) ∙ parts.1 in cc

    by : (xs : List Piece) → ((q : Piece) (rest : List Piece) → xs ≡ q ∷ rest → ⊥) → xs ≡ []
    by [] none = refl
    by (q ∷ rest) none = absurd (none q rest refl)
