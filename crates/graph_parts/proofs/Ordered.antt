-- The shape of physical nodes in an order: what stands at its places.
use Rattle.std.proofs.Common.{◌≡◌, ℕ, zero, suc, ◌+◌, ◌<◌, ◌≤◌, Bool, true, false, cond, not, List, [], ◌∷◌, ◌++◌, Option, None, Some, length, take, refl, ap, sym, subst, ◌∙◌, arith, length-append}
use Rattle.std.specs.Prelude.{map, slice_get, ◌==◌}
use Rattle.std.specs.List.{AllByRecursion}
use Rattle.std.proofs.lemmas.Bool.{eqb-true}
use Rattle.keyed_slots.specs.Slots.{value_at}
use Rattle.pu_base.specs.declared.arena.Node.{Node}
use Rattle.ps_frame.specs.Functions.{Functions}
use Rattle.ps_frame.specs.Tables.{Fields}
use Rattle.ps_frame.specs.Trees.{Tree}
use Rattle.ps_meaning.specs.Shape.{PhysicalNode, Shape}
use Rattle.ps_meaning.specs.Sound.{IsFitNode, IsSoundButForReaders, all_inputs, input_schemas, schema_at}
use Rattle.ps_phys.specs.Shown.{inputs_of, kind_of, node_of_slot, nodes_of, physical_node}
use Rattle.ps_phys.specs.Underway.{numbers_in}
use Rattle.ps_phys.specs.Walks.{Stream, node_at, place_in, renumbered, renumbered_input, shape_in}
use Rattle.ps_phys.specs.declared.phys.PhysNode.{PhysNode}
use Rattle.ps_phys.specs.declared.phys.PhysNodeKey.{PhysNodeKey}
use Rattle.graph_parts.specs.SoundShapes.{IsOfSoundShape}
use Rattle.graph_parts.specs.Read.{schemas_read, slot_schema}
use Rattle.graph_parts.specs.Orders.{ordered}

pub map-at : {A B : Type 0} (g : A → B) (xs : List A) (k : ℕ) (x : A) → slice_get xs k ≡ Some x → slice_get (map g xs) k ≡ Some (g x)
map-at g [] k x e = cc
map-at g (y ∷ xs) zero x e = let is : y ≡ x = cc in ap (λ z. Some (g z)) is
map-at g (y ∷ xs) (suc k) x e = map-at g xs k x e

-- at the place of a number stands the number
place-stands : (xs : List ℕ) (n : ℕ) → place_in xs n < length xs → slice_get xs (place_in xs n) ≡ Some n
place-stands [] n h = absurd (omega (arith, h))
place-stands (y ∷ ys) n h = by (y == n) refl h (place-stands ys n)
  where
    by : (b : Bool) → y == n ≡ b → cond (not b) (1 + place_in ys n) 0 < suc (length ys) → (place_in ys n < length ys → slice_get ys (place_in ys n) ≡ Some n) → slice_get (y ∷ ys) (cond (not b) (1 + place_in ys n) 0) ≡ Some n
    by true e l rest = ap Some (eqb-true y n e)
    by false e l rest =
        let next : suc (place_in ys n) ≡ 1 + place_in ys n = omega arith in
        let P : ℕ → Type 0 = λ m. slice_get (y ∷ ys) m ≡ Some n in
        subst P next (rest (omega (arith, l)))

-- a place among the first ones is the place among them
pub place-take : (xs : List ℕ) (k n : ℕ) → place_in xs n < k → place_in (take k xs) n ≡ place_in xs n
place-take [] zero n h = refl
place-take [] (suc k) n h = refl
place-take (y ∷ ys) zero n h = absurd (omega (arith, h))
place-take (y ∷ ys) (suc k) n h = by (y == n) h (place-take ys k n)
  where
    by : (b : Bool) → cond (not b) (1 + place_in ys n) 0 < suc k → (place_in ys n < k → place_in (take k ys) n ≡ place_in ys n) → cond (not b) (1 + place_in (take k ys) n) 0 ≡ cond (not b) (1 + place_in ys n) 0
    by true l rest = refl
    by false l rest = ap (λ m. 1 + m) (rest (omega (arith, l)))

-- the node of a number
node-shown : (f : Node → Tree) (slots : List (Option PhysNode)) (n : ℕ) (p : PhysNode) → value_at slots n ≡ Some p → node_at (nodes_of f slots) n ≡ physical_node f p
node-shown f [] n p e = cc
node-shown f (s ∷ slots) zero p e = ap (node_of_slot f) e
node-shown f (s ∷ slots) (suc n) p e = node-shown f slots n p e

schema-shown : (f : Node → Tree) (slots : List (Option PhysNode)) (n : ℕ) → (node_at (nodes_of f slots) n).schema ≡ slot_schema (value_at slots n)
schema-shown f [] n = refl
schema-shown f (None ∷ slots) zero = refl
schema-shown f (Some p ∷ slots) zero = refl
schema-shown f (s ∷ slots) (suc n) = schema-shown f slots n

numbers-at : (ks : List PhysNodeKey) (k : ℕ) (key : PhysNodeKey) → slice_get ks k ≡ Some key → slice_get (numbers_in ks) k ≡ Some key.0
numbers-at ks k key e = map-at (λ (x : PhysNodeKey). x.0) ks k key e

pub numbers-count : (ks : List PhysNodeKey) → length (numbers_in ks) ≡ length ks
numbers-count [] = refl
numbers-count (x ∷ ks) = ap suc (numbers-count ks)

module _ (f : Node → Tree) (slots : List (Option PhysNode)) (ks : List PhysNodeKey) where
  abbrev numbered : PhysicalNode → PhysicalNode
  numbered p = renumbered (numbers_in ks) p

  -- what stands at a place
  pub node-stands : (k : ℕ) (key : PhysNodeKey) (p : PhysNode) → slice_get ks k ≡ Some key → value_at slots key.0 ≡ Some p → slice_get (ordered f slots ks) k ≡ Some (numbered (physical_node f p))
  node-stands k key p at there =
      map-at (λ n. numbered (node_at (nodes_of f slots) n)) (numbers_in ks) k key.0 (numbers-at ks k key at) ∙ ap (λ q. Some (numbered q)) (node-shown f slots key.0 p there)

  -- the schema of what stands at the place of a number
  schema-placed : (n : ℕ) → place_in (numbers_in ks) n < length ks → schema_at (slice_get (ordered f slots ks) (place_in (numbers_in ks) n)) ≡ slot_schema (value_at slots n)
  schema-placed n l =
      ap schema_at (map-at (λ m. numbered (node_at (nodes_of f slots) m)) (numbers_in ks) (place_in (numbers_in ks) n) n (place-stands (numbers_in ks) n (let count = numbers-count ks in omega (arith, l, count))))
      ∙ schema-shown f slots n

  schemas-placed : (k : ℕ) → k ≤ length ks → (is : List Stream) → AllByRecursion (λ (i : ℕ × ℕ). i.0 < k) (map (renumbered_input (numbers_in ks)) is)
      → map (λ (i : ℕ × ℕ). schema_at (slice_get (ordered f slots ks) i.0)) (map (renumbered_input (numbers_in ks)) is) ≡ schemas_read slots is
  schemas-placed k l [] all = refl
  schemas-placed k l (i ∷ is) all =
      let first = schema-placed i.0 (omega (arith, l, all.0)) in
      let rest = schemas-placed k l is all.1 in
      λ j. first j ∷ rest j

  module _ (F : Functions) (sound : IsSoundButForReaders F (ordered f slots ks)) (k : ℕ) (key : PhysNodeKey) (p : PhysNode) (l : k < length ks) (at : slice_get ks k ≡ Some key) (there : value_at slots key.0 ≡ Some p) where
    fit : IsFitNode F (ordered f slots ks) k (numbered (physical_node f p))
    fit = sound k (numbered (physical_node f p)) (node-stands k key p at there)

    pub earlier : AllByRecursion (λ (i : ℕ × ℕ). i.0 < k) (map (renumbered_input (numbers_in ks)) (inputs_of p.kind))
    earlier = fit.earlier

    pub schemas-same : input_schemas (ordered f slots ks) (numbered (physical_node f p)) ≡ schemas_read slots (inputs_of p.kind)
    schemas-same = schemas-placed k (omega (arith, l)) (inputs_of p.kind) fit.earlier

    -- a node of a sound order is one of a sound shape
    pub of-sound : IsOfSoundShape (kind_of f p.kind) p.output_schema (schemas_read slots (inputs_of p.kind))
    of-sound =
        record {
          functions = F;
          shape = ordered f slots ks;
          number = k;
          node = numbered (physical_node f p);
          fit = fit;
          of_kind = refl;
          of_schema = refl;
          inputs = schemas-same;
        }
