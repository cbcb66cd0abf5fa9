-- How many nodes stand after a call.
use Rattle.std.proofs.Common.{◌≡◌, ℕ, ◌+◌, ◌≤◌, Bool, ℤ, List, [], ◌∷◌, Option, length, refl, ap, subst, arith, length-append}
use Rattle.std.proofs.lemmas.List.{length-map}
use Rattle.pu_base.specs.declared.arena.Node.{Node}
use Rattle.ps_frame.specs.Trees.{Tree}
use Rattle.ps_meaning.specs.Steps.{Cut, exprs_of, key_trees, named_trees}
use Rattle.ps_meaning.specs.declared.options.ExprIR.{ExprIR}
use Rattle.ps_phys.specs.Shown.{node_of_slot, nodes_of}
use Rattle.ps_phys.specs.declared.phys.PhysNode.{PhysNode}
use Rattle.ps_rules.specs.Counted.{inserts_for}
use Rattle.ps_rules.specs.Slots.{State, Stream, schema_at}
use Rattle.ps_fresh.specs.declared.lowering.Lowering.{Lowering}
use Rattle.plan_rules.specs.Groups.{group_stream}
use Rattle.plan_rules.specs.Slices.{slice_kind, slice_stream}
use Rattle.lowering_parts.specs.Gathered.{state_of}
use Rattle.group_lowering.specs.Groups.{group_of}
use Rattle.plan_sizes.proofs.Steps.{groups_insert_few}

as_many : (f : Node → Tree) (slots : List (Option PhysNode)) → length (nodes_of f slots) ≡ length slots
as_many f slots = length-map slots (node_of_slot f)

trees_named : (f : Node → Tree) (es : List ExprIR) → exprs_of (named_trees f es) ≡ key_trees f es
trees_named f [] = refl
trees_named f (e ∷ es) = ap (λ (ts : List Tree). f e.node ∷ ts) (trees_named f es)

module _ (at : ℕ) (i : Stream) (f : Node → Tree) (l p : Lowering) where
  pub groups_added : (g : Node → Tree) (keys aggs : List ExprIR) (maintain : Bool) (cut : Cut) → state_of f p ≡ (group_stream at (group_of g keys aggs maintain cut) i (state_of f l)).state → length p.phys_sm.slots ≤ length l.phys_sm.slots + inserts_for (key_trees g keys)
  groups_added g keys aggs maintain cut made =
      let before = as_many f l.phys_sm.slots in
      let after = as_many f p.phys_sm.slots in
      let same = ap (λ (s : State). length s.nodes) made in
      let most : length (group_stream at (group_of g keys aggs maintain cut) i (state_of f l)).state.nodes ≤ length (nodes_of f l.phys_sm.slots) + inserts_for (key_trees g keys) =
      subst (λ (es : List Tree). length (group_stream at (group_of g keys aggs maintain cut) i (state_of f l)).state.nodes ≤ length (nodes_of f l.phys_sm.slots) + inserts_for es) (trees_named g keys) (groups_insert_few at (group_of g keys aggs maintain cut) i (state_of f l)) in
      omega arith

  pub slice_added : (offset : ℤ) (n : ℕ) → state_of f p ≡ (slice_stream at offset n i (state_of f l)).state → length p.phys_sm.slots ≡ length l.phys_sm.slots + 1
  slice_added offset n made =
      let before = as_many f l.phys_sm.slots in
      let after = as_many f p.phys_sm.slots in
      let same = ap (λ (s : State). length s.nodes) made in
      let one = length-append (nodes_of f l.phys_sm.slots) (record { kind = slice_kind offset n; schema = schema_at (nodes_of f l.phys_sm.slots) i; origin = at; inputs = i ∷ [] } ∷ []) in
      omega arith
