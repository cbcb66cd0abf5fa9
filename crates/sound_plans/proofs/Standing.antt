-- What nodes in an order read, and that each that is fit over it is one of a sound shape.
use Rattle.std.proofs.Common.{◌≡◌, ℕ, zero, suc, ◌+◌, ◌<◌, ◌≤◌, Bool, true, false, cond, not, List, [], ◌∷◌, Option, None, Some, length, refl, ap, sym, subst, ◌∙◌, arith}
use Rattle.std.specs.Prelude.{IsTrue, MatchOption, map, slice_get, unwrap_or, ◌==◌}
use Rattle.std.specs.List.{AllByRecursion}
use Rattle.std.proofs.lemmas.Bool.{eqb-true}
use Rattle.keyed_slots.specs.Slots.{value_at}
use Rattle.pu_base.specs.declared.arena.Node.{Node}
use Rattle.ps_frame.specs.Functions.{Functions}
use Rattle.ps_frame.specs.Tables.{Fields}
use Rattle.ps_frame.specs.Trees.{Tree}
use Rattle.ps_meaning.specs.Sound.{BreaksNoRule, HasInputs, HasSchema, IsFitNode, have_kinds_over, input_schemas, rules_of, schema_at}
use Rattle.ps_phys.specs.Placed.{IsPlaced, placed}
use Rattle.ps_phys.specs.Shown.{inputs_of, kind_of, nodes_of, physical_node}
use Rattle.ps_phys.specs.Underway.{numbers_in}
use Rattle.ps_phys.specs.Walks.{Stream, node_at, place_in, renumbered, renumbered_input}
use Rattle.ps_phys.specs.declared.phys.PhysNode.{PhysNode}
use Rattle.ps_phys.specs.declared.phys.PhysNodeKey.{PhysNodeKey}
use Rattle.plan_readers.proofs.Ordering.{map-at, numbers-count}
use Rattle.plan_readers.specs.Ordered.{ordered}
use Rattle.sound_plans.specs.Fit.{IsFitOver}
use Rattle.sound_plans.specs.Read.{schemas_read, slot_schema}

-- at the place of a number stands the number
place-stands : (xs : List ℕ) (n : ℕ) → place_in xs n < length xs → slice_get xs (place_in xs n) ≡ Some n
place-stands [] n h = absurd (omega (arith, h))
place-stands (y ∷ ys) n h = by (y == n) refl h (place-stands ys n)
  where
    by : (b : Bool) → y == n ≡ b → cond (not b) (1 + place_in ys n) 0 < suc (length ys) → (place_in ys n < length ys → slice_get ys (place_in ys n) ≡ Some n) → slice_get (y ∷ ys) (cond (not b) (1 + place_in ys n) 0) ≡ Some n
    by true e l rest = ap Some (eqb-true y n e)
    by false e l rest =
        let next : suc (place_in ys n) ≡ 1 + place_in ys n = omega arith in
        let P : ℕ → Type 0 = λ m. slice_get (y ∷ ys) m ≡ Some n in
        subst P next (rest (omega (arith, l)))

schema-shown : (f : Node → Tree) (slots : List (Option PhysNode)) (n : ℕ) → (node_at (nodes_of f slots) n).schema ≡ slot_schema (value_at slots n)
schema-shown f [] n = refl
schema-shown f (None ∷ slots) zero = refl
schema-shown f (Some p ∷ slots) zero = refl
schema-shown f (s ∷ slots) (suc n) = schema-shown f slots n

module _ (f : Node → Tree) (slots : List (Option PhysNode)) (ks : List PhysNodeKey) where
  -- the schema of what stands at the place of a number
  schema-placed : (n : ℕ) → place_in (numbers_in ks) n < length ks → schema_at (slice_get (ordered f slots ks) (place_in (numbers_in ks) n)) ≡ slot_schema (value_at slots n)
  schema-placed n l =
      ap schema_at (map-at (λ m. renumbered (numbers_in ks) (node_at (nodes_of f slots) m)) (numbers_in ks) (place_in (numbers_in ks) n) n (place-stands (numbers_in ks) n (let count = numbers-count ks in omega (arith, l, count))))
      ∙ schema-shown f slots n

  pub schemas-placed : (k : ℕ) → k ≤ length ks → (is : List Stream) → AllByRecursion (λ (i : ℕ × ℕ). i.0 < k) (map (renumbered_input (numbers_in ks)) is)
      → map (λ (i : ℕ × ℕ). schema_at (slice_get (ordered f slots ks) i.0)) (map (renumbered_input (numbers_in ks)) is) ≡ schemas_read slots is
  schemas-placed k l [] all = refl
  schemas-placed k l (i ∷ is) all =
      let first = schema-placed i.0 (omega (arith, l, all.0)) in
      let rest = schemas-placed k l is all.1 in
      λ j. first j ∷ rest j

-- an input with a place before a number is that of the node at the place
pub earlier-is : (xs : List ℕ) (places : List (Option ℕ)) → IsPlaced xs places → (k : ℕ) (is : List Stream) → AllByRecursion (λ (i : ℕ × ℕ). i.0 < k) (map (placed places k) is)
    → AllByRecursion (λ (i : ℕ × ℕ). i.0 < k) (map (renumbered_input xs) is)
earlier-is xs places told k [] all = tt
earlier-is xs places told k (i ∷ is) all = (by (value_at places i.0) (told i.0) all.0, earlier-is xs places told k is all.1)
  where
    by : (o : Option ℕ) → MatchOption o (place_in xs i.0 ≡ length xs) (λ p. (place_in xs i.0 ≡ p) × (p < length xs)) → unwrap_or o k < k → place_in xs i.0 < k
    by None h l = absurd (omega (arith, l))
    by (Some p) h l = let is = h.0 in omega (arith, is, l)

-- a node that is fit over what it reads, and reads earlier nodes
pub fit-node : (F : Functions) (f : Node → Tree) (slots : List (Option PhysNode)) (ks : List PhysNodeKey) (k : ℕ) (key : PhysNodeKey) (p : PhysNode) (places : List (Option ℕ)) → k < length ks → slice_get ks k ≡ Some key → value_at slots key.0 ≡ Some p
    → IsPlaced (numbers_in ks) places → AllByRecursion (λ (i : ℕ × ℕ). i.0 < k) (map (placed places k) (inputs_of p.kind)) → IsFitOver F (kind_of f p.kind) p.output_schema (schemas_read slots (inputs_of p.kind))
    → IsFitNode F (ordered f slots ks) k (renumbered (numbers_in ks) (physical_node f p))
fit-node F f slots ks k key p places l at there told early fit =
    let earlier = earlier-is (numbers_in ks) places told k (inputs_of p.kind) early in
    let same : input_schemas (ordered f slots ks) (renumbered (numbers_in ks) (physical_node f p)) ≡ schemas_read slots (inputs_of p.kind) = schemas-placed f slots ks k (omega (arith, l)) (inputs_of p.kind) earlier in
    let P : List Fields → Type 0 = λ ss. HasSchema F (kind_of f p.kind) ss p.output_schema in
    let Q : List Fields → Type 0 = λ ss. IsTrue (have_kinds_over ss (rules_of (kind_of f p.kind))) in
    let R : List Fields → Type 0 = λ ss. BreaksNoRule F (rules_of (kind_of f p.kind)) ss in
    let S : ℕ → Type 0 = λ n. HasInputs (kind_of f p.kind) n in
    record {
      earlier = earlier;
      inputs = subst S (long (λ (i : Stream). slot_schema (value_at slots i.0)) (inputs_of p.kind) ∙ sym (long (renumbered_input (numbers_in ks)) (inputs_of p.kind))) fit.inputs;
      schema = subst P (sym same) fit.schema;
      not_empty = fit.not_empty;
      parameters = fit.parameters;
      kinds = subst Q (sym same) fit.kinds;
      rules = subst R (sym same) fit.rules;
    }
  where
    long : {B : Type 0} (g : Stream → B) (is : List Stream) → length (map g is) ≡ length is
    long g [] = refl
    long g (i ∷ is) = ap suc (long g is)
