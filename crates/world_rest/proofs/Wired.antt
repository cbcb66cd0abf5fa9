-- The wires of a world that keeps the facts are those of a graph: forward, and numbered from 0 on at each node.
use Rattle.std.proofs.Common.{◌≡◌, ℕ, ◌<◌, Bool, true, false, cond, List, [], ◌∷◌, length, Some, refl, sym, ap, ◌∙◌, arith}
use Rattle.std.specs.Prelude.{map, nat_eq, slice_get, ◌&&◌}
use Rattle.std.specs.List.{count_by, filter as kept}
use Rattle.std.proofs.lemmas.List.Sums.{length-filter}
use Rattle.std.proofs.lemmas.Option.{get_or_from_slice_get, slice_get_within}
use Rattle.ps_frame.proofs.Gathers.{get_or-below, length-below}
use Rattle.ps_frame.specs.Functions.{Functions}
use Rattle.ps_frame.specs.Zip.{below}
use Rattle.ps_meaning.specs.Shape.{PhysicalNode}
use Rattle.ps_meaning.specs.Sound.{readers_of}
use Rattle.ps_ports.specs.Wires.{IsWired, Wire, wires_in, wires_out}
use Rattle.ps_settle.proofs.Ends.{has_out}
use Rattle.ps_settle.proofs.Members.{at_map, contains_at, length_map, same_items}
use Rattle.ps_world.specs.Facts.{Facts}
use Rattle.ps_world.specs.World.{World, shape_of, wires_of}
use Rattle.world_facts.proofs.Numbers.{each_in_place}
use Rattle.world_facts.proofs.OpeningFacts.{count_first}
use Rattle.world_facts.proofs.Wired.{count_ends, input_at, node_there}
use Rattle.world_facts.proofs.Wiring.{wires_forward, wires_inside}
use Rattle.world_rest.proofs.Seen.{length_seen, standing_of}

-- the number at a place of the numbers from 0 on
below_at : (k i y : ℕ) → slice_get (below k) i ≡ Some y → y ≡ i
below_at k i y e =
    let within = slice_get_within (below k) i y e in
    let long = length-below k in
    sym (get_or_from_slice_get (below k) i y 0 e) ∙ get_or-below k i 0 (omega (arith, within, long))

count_kept : {A : Type 0} (t u : A → Bool) (xs : List A) → count_by u (kept t xs) ≡ count_by (λ x. t x && u x) xs
count_kept t u [] = refl
count_kept t u (x ∷ xs) = by (t x) refl (count_kept t u xs)
  where
    by : (b : Bool) → t x ≡ b → count_by u (kept t xs) ≡ count_by (λ x. t x && u x) xs → count_by u (kept t (x ∷ xs)) ≡ count_by (λ x. t x && u x) (x ∷ xs)
    by true e rest =
        let a = count_first u x (kept t xs) in
        let c = count_first (λ x. t x && u x) x xs in
        let same : cond {A = ℕ} (t x && u x) 1 0 ≡ cond (u x) 1 0 = ap (λ b. cond {A = ℕ} (b && u x) 1 0) e in
        let here : count_by u (kept t (x ∷ xs)) ≡ count_by u (x ∷ kept t xs) = ap (λ b. count_by u (cond b (x ∷ kept t xs) (kept t xs))) e in
        omega (arith, a, c, same, here, rest)
    by false e rest =
        let c = count_first (λ x. t x && u x) x xs in
        let same : cond {A = ℕ} (t x && u x) 1 0 ≡ 0 = ap (λ b. cond {A = ℕ} (b && u x) 1 0) e in
        let here : count_by u (kept t (x ∷ xs)) ≡ count_by u (kept t xs) = ap (λ b. count_by u (cond b (x ∷ kept t xs) (kept t xs))) e in
        omega (arith, c, same, here, rest)

module _ (F : Functions) (w : World) (f : Facts F w) where
  ports_once : (n j : ℕ) (p : PhysicalNode) → slice_get (shape_of w) n ≡ Some p → j < length (kept (λ (q : Wire). nat_eq q.sender n) (wires_of w)) → count_by (λ (q : Wire). nat_eq q.port j) (kept (λ (q : Wire). nat_eq q.sender n) (wires_of w)) ≡ 1
  ports_once n j p e h =
      let long = length-filter (λ (q : Wire). nat_eq q.sender n) (wires_of w) in
      let all : count_by (λ (q : Wire). nat_eq q.sender n) (wires_of w) ≡ readers_of (shape_of w) n = count_ends F w f (λ x. nat_eq x.0 n) in
      count_kept (λ (q : Wire). nat_eq q.sender n) (λ (q : Wire). nat_eq q.port j) (wires_of w) ∙ count_ends F w f (λ x. nat_eq x.0 n && nat_eq x.1 j) ∙ (f.sound.1 n p e).one_reader j (omega (arith, h, long, all))

  -- what stands at a port's place is a wire of that port
  port_at : (n i : ℕ) (p : Wire) → slice_get (wires_out n (wires_of w)) i ≡ Some p → p.port ≡ i
  port_at n i p e =
      let here = has_out n (wires_of w) p (contains_at (wires_out n (wires_of w)) i p e) in
      let forward = wires_forward F w f p here.0 in
      let inside = wires_inside F w f p here.0 in
      let sender = here.1 in
      let node = node_there F w f n (omega (arith, forward, inside, sender)) in
      each_in_place (λ (q : Wire). q.port) (kept (λ (q : Wire). nat_eq q.sender n) (wires_of w)) (λ j h. ports_once n j node.0 node.1 h) i p e

  numbered : (num : Wire → ℕ) (xs : List Wire) → ((i : ℕ) (p : Wire) → slice_get xs i ≡ Some p → num p ≡ i) → map num xs ≡ below (length xs)
  numbered num xs each =
      same_items (map num xs) (below (length xs)) (length_map num xs ∙ sym (length-below (length xs)))
      (λ i x y ex ey. let p = at_map num xs i x ex in sym p.2 ∙ each i p.0 p.1 ∙ sym (below_at (length xs) i y ey))

  pub wired_world : IsWired (length (standing_of w).nodes) (wires_of w)
  wired_world =
      let long = length_seen w 0 w.nodes in
      record {
        forward = λ p c. (wires_forward F w f p c, (let inside = wires_inside F w f p c in omega (arith, inside, long)));
        inputs = λ n. numbered (λ (q : Wire). q.input) (wires_in n (wires_of w)) (λ i p e. (input_at F w f n i p e).2);
        ports = λ n. numbered (λ (q : Wire). q.port) (wires_out n (wires_of w)) (port_at n);
      }
