-- The keys that the nodes of an order got, and the ports that streams became by them.
use Rattle.std.proofs.Common.{◌≡◌, ℕ, zero, suc, ◌+◌, ◌<◌, ◌≤◌, true, false, List, [], ◌∷◌, ◌++◌, Option, None, Some, length, take, refl, ap, sym, subst, ◌∙◌, arith}
use Rattle.std.specs.Prelude.{IsSome, MatchOption, is_some, map, option_map, unwrap_or}
use Rattle.std.specs.List.{AllByRecursion}
use Rattle.keyed_slots.specs.Slots.{Updates, value_at}
use Rattle.ps_graph.specs.Adding.{fresh_wires}
use Rattle.ps_graph.specs.declared.key.GraphNodeKey.{GraphNodeKey}
use Rattle.ps_phys.proofs.Places.{placed-known, placed-new}
use Rattle.ps_phys.specs.Walks.{Stream, place_in, renumbered_input}
use Rattle.graph_parts.proofs.Lists.{take-count}
use Rattle.graph_parts.proofs.Ordered.{place-take}
use Rattle.graph_parts.specs.Keyed.{IsKeyed, key_numbers, port_of}
use Rattle.graph_parts.specs.Wires.{blocked_wire, wires_to}

-- the number of the key that a number got
value-mapped : (keys : List (Option GraphNodeKey)) (n : ℕ) → value_at (key_numbers keys) n ≡ option_map (λ (key : GraphNodeKey). key.0) (value_at keys n)
value-mapped [] n = refl
value-mapped (key ∷ keys) zero = refl
value-mapped (key ∷ keys) (suc n) = value-mapped keys n

keyed-at : (order : List ℕ) (keys : List (Option GraphNodeKey)) (other : GraphNodeKey) (n : ℕ) → IsKeyed order keys → place_in order n < length order → (unwrap_or (value_at keys n) other).0 ≡ place_in order n
keyed-at order keys other n keyed l = by (value_at keys n) (subst P (value-mapped keys n) (keyed n))
  where
    P : Option ℕ → Type 0
    P o = MatchOption o (place_in order n ≡ length order) (λ p. (place_in order n ≡ p) × (p < length order))

    by : (o : Option GraphNodeKey) → MatchOption (option_map (λ (key : GraphNodeKey). key.0) o) (place_in order n ≡ length order) (λ p. (place_in order n ≡ p) × (p < length order)) → (unwrap_or o other).0 ≡ place_in order n
    by None h = absurd (omega (arith, h, l))
    by (Some key) h = sym h.0

module _ (order : List ℕ) (k : ℕ) (keys : List (Option GraphNodeKey)) (other : GraphNodeKey) (l : k ≤ length order) (keyed : IsKeyed (take k order) keys) where
  number-of-port : (s : Stream) → place_in order s.0 < k → (port_of other keys s).0.0 ≡ place_in order s.0
  number-of-port s h =
      let same = place-take order k s.0 h in
      let count = take-count order k l in
      keyed-at (take k order) keys other s.0 keyed (omega (arith, same, count, h)) ∙ same

  pub ports-wired : (r i : ℕ) (is : List Stream) → AllByRecursion (λ (s : ℕ × ℕ). s.0 < k) (map (renumbered_input order) is) → fresh_wires r i (map (port_of other keys) is) ≡ wires_to r i (map (renumbered_input order) is)
  ports-wired r i [] all = refl
  ports-wired r i (s ∷ is) all =
      let first = number-of-port s all.0 in
      let rest = ports-wired r (i + 1) is all.1 in
      λ j. blocked_wire r i (first j, s.1) ∷ rest j

  pub ports-there : (count : ℕ) → count ≡ k → (is : List Stream) → AllByRecursion (λ (s : ℕ × ℕ). s.0 < k) (map (renumbered_input order) is) → AllByRecursion (λ (p : GraphNodeKey × ℕ). p.0.0 < count) (map (port_of other keys) is)
  ports-there count e [] all = tt
  ports-there count e (s ∷ is) all = let first = number-of-port s all.0 in (omega (arith, first, e, all.0), ports-there count e is all.1)

pub key_known : (before : List ℕ) (keys : List (Option GraphNodeKey)) (n : ℕ) → IsKeyed before keys → IsSome (value_at keys n) → IsKeyed (before ++ n ∷ []) keys
key_known before keys n keyed known = placed-known before (key_numbers keys) n keyed (some-mapped (value_at keys n) (value_at (key_numbers keys) n) (value-mapped keys n) known)
  where
    some-mapped : (o : Option GraphNodeKey) (m : Option ℕ) → m ≡ option_map (λ (key : GraphNodeKey). key.0) o → IsSome o → IsSome m
    some-mapped None m e s = cc
    some-mapped (Some key) m e s = ap is_some e

pub key_new : (before : List ℕ) (keys new : List (Option GraphNodeKey)) (n : ℕ) (key : GraphNodeKey) → IsKeyed before keys → (IsSome (value_at keys n) → false ≡ true) → key.0 ≡ length before → Updates keys new n (Some key) → IsKeyed (before ++ n ∷ []) new
key_new before keys new n key keyed unknown size updates = placed-new before (key_numbers keys) (key_numbers new) n key.0 keyed (λ s. unknown (some-unmapped (value_at keys n) (value_at (key_numbers keys) n) (value-mapped keys n) s)) size mapped
  where
    some-unmapped : (o : Option GraphNodeKey) (m : Option ℕ) → m ≡ option_map (λ (key : GraphNodeKey). key.0) o → IsSome m → IsSome o
    some-unmapped None m e s = sym (ap is_some e) ∙ s
    some-unmapped (Some key) m e s = refl

    mapped : Updates (key_numbers keys) (key_numbers new) n (Some key.0)
    mapped =
        record {
          changed = value-mapped new n ∙ ap (option_map (λ (k : GraphNodeKey). k.0)) updates.changed;
          others = λ m d. value-mapped new m ∙ ap (option_map (λ (k : GraphNodeKey). k.0)) (updates.others m d) ∙ sym (value-mapped keys m);
        }
