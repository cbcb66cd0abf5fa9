-- The lines of nodes, and their inputs one by one.
use Rattle.std.proofs.Common.{◌≡◌, ℕ, zero, suc, ◌+◌, ◌<◌, ◌≤◌, get_or, List, [], ◌∷◌, ◌++◌, length, drop, map, Option, Some, None, refl, sym, ap, subst, ◌∙◌, arith}
use Rattle.std.proofs.lemmas.List.{append_assoc, append-nil}
use Rattle.std.specs.Prelude.{codes, flat_map, slice_get, unwrap_or}
use Rattle.keyed_slots.specs.Slots.{value_at}
use Rattle.pu_base.specs.declared.arena.Node.{Node}
use Rattle.ps_frame.specs.Trees.{Tree}
use Rattle.ps_meaning.specs.Shape.{PhysicalNode}
use Rattle.ps_phys.specs.Placed.{placed, placed_node}
use Rattle.ps_phys.specs.Printed.{input_text, inputs_text, line_text, lines_from, plan_text}
use Rattle.ps_phys.specs.Shown.{inputs_of, kind_of, node_of_slot, nodes_of, physical_node, shown}
use Rattle.ps_phys.specs.Underway.{numbers_in}
use Rattle.ps_phys.specs.Walks.{Stream, node_at, order_from, place_in, renumbered, renumbered_input, shape_in}
use Rattle.ps_phys.specs.declared.phys.PhysNode.{PhysNode}
use Rattle.ps_phys.specs.declared.phys.PhysNodeKey.{PhysNodeKey}

-- inputs behind others, each with a comma before it
abbrev pub more_inputs : List (Option ℕ) → ℕ → List Stream → List ℕ
more_inputs places count inputs = flat_map (λ i. codes "," ++ input_text i) (map (placed places count) inputs)

next-input : (xs : List Stream) (k : ℕ) (x : Stream) → slice_get xs k ≡ Some x → drop k xs ≡ x ∷ drop (suc k) xs
next-input [] k x e = cc
next-input (y ∷ ys) zero x e = let is : y ≡ x = cc in ap (λ z. z ∷ ys) is
next-input (y ∷ ys) (suc k) x e = next-input ys k x e

past-inputs : (xs : List Stream) (k : ℕ) → slice_get xs k ≡ None → drop k xs ≡ []
past-inputs [] zero e = refl
past-inputs [] (suc k) e = refl
past-inputs (y ∷ ys) zero e = cc
past-inputs (y ∷ ys) (suc k) e = past-inputs ys k e

pub input-within : (xs : List Stream) (k : ℕ) (x : Stream) → slice_get xs k ≡ Some x → k < length xs
input-within [] k x e = cc
input-within (y ∷ ys) zero x e = omega arith
input-within (y ∷ ys) (suc k) x e = let l = input-within ys k x e in omega (arith, l)

module _ (places : List (Option ℕ)) (count : ℕ) (inputs : List Stream) where
  pub no-inputs : slice_get inputs 0 ≡ None → inputs_text (map (placed places count) inputs) ≡ codes "-"
  no-inputs e = ap (λ is. inputs_text (map (placed places count) is)) (past-inputs inputs 0 e)

  -- the first input is written
  pub first-input : (old text : List ℕ) (x : Stream) → slice_get inputs 0 ≡ Some x → text ≡ old ++ input_text (placed places count x)
      → text ++ more_inputs places count (drop 1 inputs) ≡ old ++ inputs_text (map (placed places count) inputs)
  first-input old text x e is =
      ap (λ t. t ++ more_inputs places count (drop 1 inputs)) is ∙ append_assoc old (input_text (placed places count x)) (more_inputs places count (drop 1 inputs))
      ∙ ap (λ ins. old ++ inputs_text (map (placed places count) ins)) (sym (next-input inputs 0 x e))

  -- and one more, behind a comma
  pub one-more-input : (all text comma new : List ℕ) (k : ℕ) (x : Stream) → slice_get inputs k ≡ Some x → text ++ more_inputs places count (drop k inputs) ≡ all
      → comma ≡ text ++ codes "," → new ≡ comma ++ input_text (placed places count x) → new ++ more_inputs places count (drop (k + 1) inputs) ≡ all
  one-more-input all text comma new k x e before with_comma is =
      let P : ℕ → Type 0 = λ m. new ++ more_inputs places count (drop m inputs) ≡ all in
      let next : suc k ≡ k + 1 = omega arith in
      subst P next by
    where
      rest : List ℕ
      rest = more_inputs places count (drop (suc k) inputs)

      written : new ≡ text ++ (codes "," ++ input_text (placed places count x))
      written = is ∙ ap (λ t. t ++ input_text (placed places count x)) with_comma ∙ append_assoc text (codes ",") (input_text (placed places count x))

      by : new ++ rest ≡ all
      by =
          ap (λ t. t ++ rest) written ∙ append_assoc text (codes "," ++ input_text (placed places count x)) rest
          ∙ ap (λ is. text ++ more_inputs places count is) (sym (next-input inputs k x e)) ∙ before

  pub all-inputs : (all text : List ℕ) (k : ℕ) → slice_get inputs k ≡ None → text ++ more_inputs places count (drop k inputs) ≡ all → text ≡ all
  all-inputs all text k e before = sym (append-nil text) ∙ ap (λ is. text ++ more_inputs places count is) (sym (past-inputs inputs k e)) ∙ before

-- the node of a number that is there
node-shown : (f : Node → Tree) (slots : List (Option PhysNode)) (n : ℕ) (p : PhysNode) → value_at slots n ≡ Some p → node_at (nodes_of f slots) n ≡ physical_node f p
node-shown f [] n p e = cc
node-shown f (s ∷ slots) zero p e = ap (node_of_slot f) e
node-shown f (s ∷ slots) (suc n) p e = node-shown f slots n p e

next-key : (ks : List PhysNodeKey) (k : ℕ) (d : PhysNodeKey) → k < length ks → drop k ks ≡ get_or ks k d ∷ drop (suc k) ks
next-key [] k d l = absurd (omega (arith, l))
next-key (x ∷ ks) zero d l = refl
next-key (x ∷ ks) (suc k) d l = next-key ks k d (omega (arith, l))

past-keys : (ks : List PhysNodeKey) (k : ℕ) → length ks ≤ k → drop k ks ≡ []
past-keys [] zero l = refl
past-keys [] (suc k) l = refl
past-keys (x ∷ ks) zero l = absurd (omega (arith, l))
past-keys (x ∷ ks) (suc k) l = past-keys ks k (omega (arith, l))

module _ (f : Node → Tree) (slots : List (Option PhysNode)) (ks : List PhysNodeKey) where
  abbrev line_node : ℕ → PhysicalNode
  line_node n = renumbered (numbers_in ks) (node_at (nodes_of f slots) n)

  -- the lines of the nodes from a place on
  abbrev pub rest_lines : ℕ → List ℕ
  rest_lines k = lines_from k (map line_node (numbers_in (drop k ks)))

  pub one-more-line : (places : List (Option ℕ)) (all old new : List ℕ) (k : ℕ) (d : PhysNodeKey) (p : PhysNode) → k < length ks → value_at slots (get_or ks k d).0 ≡ Some p
      → ((n : ℕ) → unwrap_or (value_at places n) (length ks) ≡ place_in (numbers_in ks) n) → new ≡ old ++ line_text k (placed_node places (length ks) (physical_node f p)) → old ++ rest_lines k ≡ all → new ++ rest_lines (k + 1) ≡ all
  one-more-line places all old new k d p l there places_are written before =
      ap (λ t. t ++ rest_lines (k + 1)) written ∙ append_assoc old (line_text k (placed_node places (length ks) (physical_node f p))) (rest_lines (k + 1)) ∙ ap (λ t. old ++ t) (sym rest) ∙ before
    where
      numbered : Stream → Stream
      numbered i = renumbered_input (numbers_in ks) i

      by_place : Stream → Stream
      by_place i = placed places (length ks) i

      inputs : numbered ≡ by_place
      inputs = λ j i. (sym (places_are i.0) j, i.1)

      shaped : (Stream → Stream) → PhysicalNode
      shaped g = record { kind = kind_of f p.kind; schema = p.output_schema; origin = p.origin.0; inputs = map g (inputs_of p.kind) }

      same : line_node (get_or ks k d).0 ≡ placed_node places (length ks) (physical_node f p)
      same = ap (renumbered (numbers_in ks)) (node-shown f slots (get_or ks k d).0 p there) ∙ ap shaped inputs

      next : suc k ≡ k + 1
      next = omega arith

      rest : rest_lines k ≡ line_text k (placed_node places (length ks) (physical_node f p)) ++ rest_lines (k + 1)
      rest =
          ap (λ xs. lines_from k (map line_node (numbers_in xs))) (next-key ks k d l)
          ∙ ap (λ m. line_text k (line_node (get_or ks k d).0) ++ lines_from (k + 1) (map line_node (numbers_in (drop m ks)))) next
          ∙ ap (λ q. line_text k q ++ rest_lines (k + 1)) same

  pub lines-end : (k : ℕ) (text all : List ℕ) → length ks ≤ k → text ++ rest_lines k ≡ all → text ≡ all
  lines-end k text all l before = sym (append-nil text) ∙ ap (λ xs. text ++ lines_from k (map line_node (numbers_in xs))) (sym (past-keys ks k l)) ∙ before

-- the lines of all nodes, by the order in which the walk leaves them
pub lines-shown : (f : Node → Tree) (slots : List (Option PhysNode)) (ks : List PhysNodeKey) (root : ℕ) (text : List ℕ) → numbers_in ks ≡ order_from (nodes_of f slots) root → text ≡ lines_from 0 (shape_in (numbers_in ks) (nodes_of f slots))
    → text ≡ plan_text (shown f slots root)
lines-shown f slots ks root text order is = is ∙ ap (λ o. lines_from 0 (shape_in o (nodes_of f slots))) order
