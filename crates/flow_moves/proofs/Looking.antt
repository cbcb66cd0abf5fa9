-- What is looked up among keys.
use Rattle.std.proofs.Common.{◌≡◌, ℕ, ◌+◌, ◌<◌, ◌≤◌, inl, inr, Bool, false, List, [], ◌∷◌, length, Option, None, Some, refl, sym, ap, ◌∙◌, arith}
use Rattle.std.specs.Prelude.{◌&&◌, ◌||◌, Contains, map, nat_eq, not, slice_get}
use Rattle.std.specs.List.{list_any}
use Rattle.std.proofs.lemmas.Bool.{cases_eq}
use Rattle.std.proofs.lemmas.Option.{slice_get_within}
use Rattle.ps_flow.proofs.Dropping.{any_at, none_any}
use Rattle.ps_flow.proofs.OutputKeys.{place_from}
use Rattle.flow_moves.specs.Moves.{IsSo, gives_to}
use Rattle.ps_flow.specs.Handing.{HasOneOutput}
use Rattle.ps_graph.specs.Shown.{IsLinked, wires_of}
use Rattle.ps_graph.specs.declared.graph.Graph.{Graph}
use Rattle.ps_graph.specs.declared.key.LogicalPipeKey.{LogicalPipeKey}
use Rattle.ps_ports.specs.Phases.{is_one_of}
use Rattle.ps_settle.proofs.Ends.{same_number}
use Rattle.ps_world.specs.World.{Pipe}
use Rattle.world_pipes.specs.Shown.{AreKeysOf, IsAt}
use Rattle.world_pipes.specs.declared.pipes.Pipes.{Pipes}

pub one_key : {o : Option LogicalPipeKey} (a b : LogicalPipeKey) → o ≡ Some a → o ≡ Some b → a ≡ b
one_key a b x y = let both : Some a ≡ Some b = sym x ∙ y in cc

pub no_key : {o : Option LogicalPipeKey} (b : LogicalPipeKey) → o ≡ None → o ≡ Some b → ⊥
no_key b x y = absurd (let clash : None ≡ Some b = sym x ∙ y in cc)

-- a test that all keys below a place fail, and one place more
module _ (pipes : Pipes) (keys : List LogicalPipeKey) (test : Pipe → Bool) (b : Bool) where
  abbrev pub AreSo : ℕ → Type 0
  AreSo k = (i : ℕ) (key : LogicalPipeKey) → i < k → slice_get keys i ≡ Some key → IsSo pipes key test b

  pub none_so : AreSo 0
  none_so = λ i key h there. absurd (omega (arith, h))

  pub more_so : (k : ℕ) → AreSo k → ((key : LogicalPipeKey) → slice_get keys k ≡ Some key → IsSo pipes key test b) → AreSo (k + 1)
  more_so k all one = λ i key h there. elim (cases_eq i k) [
    | inl is ↦ one key (ap (slice_get keys) (sym is) ∙ there)
    | inr other ↦ all i key (omega (arith, h, other)) there
  ]

  pub all_so : (k : ℕ) → length keys ≤ k → AreSo k → (i : ℕ) (key : LogicalPipeKey) → slice_get keys i ≡ Some key → IsSo pipes key test b
  all_so k over all i key there = let within = slice_get_within keys i key there in all i key (omega (arith, over, within)) there

-- by the one pipe that leaves the node
pub gives_at : {N : Type 0} (g : Graph N) (linked : IsLinked g) (ps : List Pipe) (wires : wires_of g.pipes.slots ≡ map (λ (p : Pipe). p.wire) ps) (n : ℕ) → HasOneOutput n ps → (key : LogicalPipeKey) → AreKeysOf (λ p. nat_eq p.wire.sender n) (key ∷ []) ps
    → (p : Pipe) × IsAt key ps p × (list_any (gives_to n) ps ≡ (p.in_phase && not p.is_dropped))
gives_at g linked ps wires n one key names =
    let p = place_from g linked ps wires n one key.0 (ap (is_one_of key.0) (sym names) ∙ (λ i. same_number key.0 key.0 refl i || false)) in
    (p.0, p.1, any_at (λ (q : Pipe). nat_eq q.wire.sender n) (λ (q : Pipe). q.in_phase && not q.is_dropped) key.0 ps p.0 names p.1)

pub gives_none : (n : ℕ) (ps : List Pipe) → ((p : Pipe) → Contains ps p → nat_eq p.wire.sender n ≡ false) → list_any (gives_to n) ps ≡ false
gives_none n ps none = none_any (λ (p : Pipe). nat_eq p.wire.sender n) (λ (p : Pipe). p.in_phase && not p.is_dropped) ps none
