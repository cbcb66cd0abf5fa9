-- The nodes after a change, each beside the one that stood there before.
use Rattle.std.proofs.Common.{◌≡◌, ◌≢◌, ℕ, zero, suc, ◌+◌, ◌⊎◌, Bool, List, [], ◌∷◌, Option, Some, None, refl, sym, ap, subst, ◌∙◌, inl, inr}
use Rattle.std.specs.Prelude.{map, slice_get, slice_set}
use Rattle.std.proofs.lemmas.Bool.{cases_eq}
use Rattle.ps_ports.specs.Phases.{is_one_of}
use Rattle.ps_world.specs.Phases.{marked_nodes}
use Rattle.ps_world.specs.Pipes.{heads_lost, put_without_heads, without_heads}
use Rattle.ps_world.specs.World.{Node}
use Rattle.world_facts.proofs.Slots.{set_here, set_other}

module _ (R : Node → Node → Type 0) where
  abbrev pub Before : List Node → ℕ → Node → Type 0
  Before nodes m y = (x : Node) × (slice_get nodes m ≡ Some x) × R x y

  pub set_from : ((x : Node) → R x x) → (nodes : List Node) (n : ℕ) (old new : Node) → slice_get nodes n ≡ Some old → R old new → (m : ℕ) (y : Node) → slice_get (slice_set nodes n new) m ≡ Some y → Before nodes m y
  set_from same nodes n old new at r m y e = by (cases_eq m n)
    where
      by : (m ≡ n) ⊎ (m ≢ n) → Before nodes m y
      by (inl here) =
          let there : slice_get (slice_set nodes n new) m ≡ Some new = ap (slice_get (slice_set nodes n new)) here ∙ set_here nodes n old new at in
          let q : Some new ≡ Some y = sym there ∙ e in let is : new ≡ y = cc in
          (old, ap (slice_get nodes) here ∙ at, subst (λ z. R old z) is r)
      by (inr other) = (y, sym (set_other nodes n m new other) ∙ e, same y)

  pub heads_from : ((x : Node) → R x x) → ((x : Node) → R x (without_heads x.node.kind x)) → (n : ℕ) (nodes : List Node) (m : ℕ) (y : Node) → slice_get (heads_lost n nodes) m ≡ Some y → Before nodes m y
  heads_from same bare n nodes m y e = by (slice_get nodes n) refl e
    where
      by : (o : Option Node) → slice_get nodes n ≡ o → slice_get (put_without_heads o n nodes) m ≡ Some y → Before nodes m y
      by None q h = (y, h, same y)
      by (Some node) q h = set_from same nodes n node (without_heads node.node.kind node) q (bare node) m y h

  pub map_from : (h : Node → Node) → ((x : Node) → R x (h x)) → (nodes : List Node) (m : ℕ) (y : Node) → slice_get (map h nodes) m ≡ Some y → Before nodes m y
  map_from h r [] m y e = absurd (let no : None ≡ Some y = e in cc)
  map_from h r (x ∷ xs) zero y e = let q : Some (h x) ≡ Some y = e in let is : h x ≡ y = cc in (x, refl, subst (λ z. R x z) is (r x))
  map_from h r (x ∷ xs) (suc m) y e = map_from h r xs m y e

  pub marked_from : ((x : Node) (b : Bool) → R x (record x { in_phase = b })) → (ns : List ℕ) (j : ℕ) (nodes : List Node) (m : ℕ) (y : Node) → slice_get (marked_nodes ns j nodes) m ≡ Some y → Before nodes m y
  marked_from r ns j [] m y e = absurd (let no : None ≡ Some y = e in cc)
  marked_from r ns j (x ∷ xs) zero y e = let q : Some (record x { in_phase = is_one_of j ns }) ≡ Some y = e in let is : record x { in_phase = is_one_of j ns } ≡ y = cc in (x, refl, subst (λ z. R x z) is (r x (is_one_of j ns)))
  marked_from r ns j (x ∷ xs) (suc m) y e = marked_from r ns (j + 1) xs m y e
