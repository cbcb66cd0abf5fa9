-- The nodes that a root shows, by their places.
use Rattle.std.proofs.Common.{◌≡◌, ◌⊎◌, inl, inr, ℕ, zero, suc, ◌+◌, ◌<◌, Bool, true, false, cond, get_or, List, [], ◌∷◌, ◌++◌, length, map, Some, refl, sym, ap, subst, ◌∙◌, arith}
use Rattle.std.proofs.lemmas.Bool.{eqb-false, eqb-true, ne_eqb}
use Rattle.std.proofs.lemmas.List.Recursion.{is_count_by}
use Rattle.std.specs.Prelude.{if◌then◌else◌, slice_get, ◌==◌, ◌&&◌}
use Rattle.std.specs.List.{count_by}
use Rattle.ps_meaning.specs.Shape.{PhysicalNode, Shape}
use Rattle.ps_meaning.specs.Sound.{all_inputs, readers_of, readers_of_port}
use Rattle.ps_multiplexers.specs.Multiplexers.{times}
use Rattle.ps_multiplexers.specs.Taken.{streams_of_nodes, takes}
use Rattle.ps_phys.specs.Walks.{Stream, is_one_of, node_at, numbers_of, numbers_read, place_in, renumbered, renumbered_input, shape_in}
use Rattle.multiplexer_laws.proofs.Counting.{numbers_append, takes_append, times_append}
use Rattle.multiplexer_laws.proofs.Members.{Apart, Stands, front_or_more, got_stands, not_both, place_here, place_more, stands_here, stands_more}

-- the number at a place has that place, where none stands twice
pub place_got : (ns : List ℕ) (i : ℕ) → Apart ns → i < length ns → place_in ns (get_or ns i 0) ≡ i
place_got [] i a h = absurd (omega (arith, h))
place_got (n ∷ ns) zero a h = place_here n ns
place_got (n ∷ ns) (suc i) a h = place_more (get_or ns i 0) n ns (ne_eqb n (get_or ns i 0) other) ∙ ap (λ k. suc k) (place_got ns i a.1 (omega (arith, h)))
  where
    other : n ≡ get_or ns i 0 → ⊥
    other is = let P : ℕ → Type 0 = λ x. Stands x ns in not_both (is_one_of n ns) (subst P (sym is) (got_stands ns i (omega (arith, h)))) a.0

-- and a number stands at its place
pub got_place : (ns : List ℕ) (n : ℕ) → Stands n ns → get_or ns (place_in ns n) 0 ≡ n
got_place [] n h = cc
got_place (m ∷ ns) n h = by (m == n) refl (front_or_more n m ns h) (λ k. got_place ns n k)
  where
    by : (b : Bool) → m == n ≡ b → (m ≡ n) ⊎ Stands n ns → (Stands n ns → get_or ns (place_in ns n) 0 ≡ n) → get_or (m ∷ ns) (place_in (m ∷ ns) n) 0 ≡ n
    by true e w rest = let is : m ≡ n = eqb-true m n e in let P : ℕ → Type 0 = λ x. get_or (m ∷ ns) (place_in (m ∷ ns) x) 0 ≡ x in subst P is (ap (λ k. get_or (m ∷ ns) k 0) (place_here m ns))
    by false e (inl is) rest = absurd (eqb-false m n e is)
    by false e (inr k) rest = ap (λ k. get_or (m ∷ ns) k 0) (place_more n m ns e) ∙ rest k

-- two numbers of the list have one place where they are one
pub place_alike : (ns : List ℕ) (m n : ℕ) → Stands m ns → Stands n ns → (place_in ns m == place_in ns n) ≡ (m == n)
place_alike ns m n h k = by (m == n) refl
  where
    same : (x : ℕ) → x == x ≡ true
    same x = here (x == x) refl
      where
        here : (b : Bool) → x == x ≡ b → x == x ≡ true
        here true e = e
        here false e = absurd (eqb-false x x e refl)

    by : (b : Bool) → m == n ≡ b → place_in ns m == place_in ns n ≡ b
    by true e = let P : ℕ → Type 0 = λ x. place_in ns m == place_in ns x ≡ true in subst P (eqb-true m n e) (same (place_in ns m))
    by false e = ne_eqb (place_in ns m) (place_in ns n) (λ is. eqb-false m n e (sym (got_place ns m h) ∙ ap (λ i. get_or ns i 0) is ∙ got_place ns n k))

-- what stands at a place of a shape in an order
pub stands_at : (g : ℕ → PhysicalNode) (ns : List ℕ) (i : ℕ) (p : PhysicalNode) → slice_get (map g ns) i ≡ Some p → (g (get_or ns i 0) ≡ p) × (i < length ns)
stands_at g [] i p e = cc
stands_at g (n ∷ ns) zero p e = let is : g n ≡ p = cc in (is, omega arith)
stands_at g (n ∷ ns) (suc i) p e = let r = stands_at g ns i p e in let l = r.1 in (r.0, omega (arith, l))

pub at_place : (g : ℕ → PhysicalNode) (ns : List ℕ) (i : ℕ) → i < length ns → slice_get (map g ns) i ≡ Some (g (get_or ns i 0))
at_place g [] i h = absurd (omega (arith, h))
at_place g (n ∷ ns) zero h = refl
at_place g (n ∷ ns) (suc i) h = at_place g ns i (omega (arith, h))

-- how many items pass a test
abbrev tally : (Stream → Bool) → List Stream → ℕ
tally t [] = 0
tally t (s ∷ ss) = cond (t s) (1 + tally t ss) (tally t ss)

tally_is : (t : Stream → Bool) (ss : List Stream) → tally t ss ≡ count_by t ss
tally_is t ss = is_count_by (tally t) t refl (λ s rest. refl) ss

tally_append : (t : Stream → Bool) (xs ys : List Stream) → tally t (xs ++ ys) ≡ tally t xs + tally t ys
tally_append t [] ys = omega arith
tally_append t (x ∷ xs) ys = let h = tally_append t xs ys in by (t x) h
  where
    by : (b : Bool) → tally t (xs ++ ys) ≡ tally t xs + tally t ys → cond b (1 + tally t (xs ++ ys)) (tally t (xs ++ ys)) ≡ cond b (1 + tally t xs) (tally t xs) + tally t ys
    by true h = omega (arith, h)
    by false h = h

module _ (order : List ℕ) (nodes : Shape) (n : ℕ) (here : Stands n order) where
  -- each of these streams is one of a node of the order
  abbrev AllOrdered : List ℕ → Type 0
  AllOrdered ns = (m : ℕ) → Stands m ns → Stands m order

  abbrev of_node : Stream → Bool
  of_node s = s.0 == place_in order n

  abbrev of_port : ℕ → Stream → Bool
  of_port port s = (s.0 == place_in order n) && (s.1 == port)

  node_tally : (ss : List Stream) → AllOrdered (numbers_of ss) → tally of_node (map (renumbered_input order) ss) ≡ times n (numbers_of ss)
  node_tally [] all = refl
  node_tally (s ∷ ss) all =
      let rest = node_tally ss (λ m h. all m (stands_more m s.0 (numbers_of ss) h)) in
      let same = place_alike order s.0 n (all s.0 (stands_here s.0 s.0 (numbers_of ss) refl)) here in
      ap (λ b. cond b (1 + tally of_node (map (renumbered_input order) ss)) (tally of_node (map (renumbered_input order) ss))) same ∙ by (s.0 == n) rest
    where
      by : (b : Bool) → tally of_node (map (renumbered_input order) ss) ≡ times n (numbers_of ss) → cond b (1 + tally of_node (map (renumbered_input order) ss)) (tally of_node (map (renumbered_input order) ss)) ≡ (if b then 1 else 0) + times n (numbers_of ss)
      by true h = omega (arith, h)
      by false h = omega (arith, h)

  port_tally : (port : ℕ) (ss : List Stream) → AllOrdered (numbers_of ss) → tally (of_port port) (map (renumbered_input order) ss) ≡ takes (n, port) ss
  port_tally port [] all = refl
  port_tally port (s ∷ ss) all =
      let rest = port_tally port ss (λ m h. all m (stands_more m s.0 (numbers_of ss) h)) in
      let same = place_alike order s.0 n (all s.0 (stands_here s.0 s.0 (numbers_of ss) refl)) here in
      ap (λ b. cond (b && (s.1 == port)) (1 + tally (of_port port) (map (renumbered_input order) ss)) (tally (of_port port) (map (renumbered_input order) ss))) same ∙ by ((s.0 == n) && (s.1 == port)) rest
    where
      by : (b : Bool) → tally (of_port port) (map (renumbered_input order) ss) ≡ takes (n, port) ss → cond b (1 + tally (of_port port) (map (renumbered_input order) ss)) (tally (of_port port) (map (renumbered_input order) ss)) ≡ (if b then 1 else 0) + takes (n, port) ss
      by true h = omega (arith, h)
      by false h = omega (arith, h)

  abbrev shown : List ℕ → Shape
  shown ns = map (λ m. renumbered order (node_at nodes m)) ns

  module _ (closed : (m k : ℕ) → Stands m order → Stands k (numbers_read nodes m) → Stands k order) where
    all_nodes : (ns : List ℕ) → AllOrdered ns → tally of_node (all_inputs (shown ns)) ≡ times n (numbers_of (streams_of_nodes nodes ns))
    all_nodes [] all = refl
    all_nodes (m ∷ ns) all =
        tally_append of_node (map (renumbered_input order) (node_at nodes m).inputs) (all_inputs (shown ns))
        ∙ (λ i. node_tally (node_at nodes m).inputs (λ k h. closed m k (all m (stands_here m m ns refl)) h) i + all_nodes ns (λ k h. all k (stands_more k m ns h)) i)
        ∙ sym (joined (node_at nodes m).inputs (streams_of_nodes nodes ns))
      where
        joined : (xs ys : List Stream) → times n (numbers_of (xs ++ ys)) ≡ times n (numbers_of xs) + times n (numbers_of ys)
        joined xs ys = ap (λ zs. times n zs) (numbers_append xs ys) ∙ times_append n (numbers_of xs) (numbers_of ys)

    all_ports : (port : ℕ) (ns : List ℕ) → AllOrdered ns → tally (of_port port) (all_inputs (shown ns)) ≡ takes (n, port) (streams_of_nodes nodes ns)
    all_ports port [] all = refl
    all_ports port (m ∷ ns) all =
        tally_append (of_port port) (map (renumbered_input order) (node_at nodes m).inputs) (all_inputs (shown ns))
        ∙ (λ i. port_tally port (node_at nodes m).inputs (λ k h. closed m k (all m (stands_here m m ns refl)) h) i + all_ports port ns (λ k h. all k (stands_more k m ns h)) i)
        ∙ sym (takes_append (n, port) (node_at nodes m).inputs (streams_of_nodes nodes ns))

    -- the readers of the node's place are those of the node
    pub readers_are : readers_of (shape_in order nodes) (place_in order n) ≡ times n (numbers_of (streams_of_nodes nodes order))
    readers_are = sym (tally_is of_node (all_inputs (shown order))) ∙ all_nodes order (λ m h. h)

    pub readers_of_port_are : (port : ℕ) → readers_of_port (shape_in order nodes) (place_in order n) port ≡ takes (n, port) (streams_of_nodes nodes order)
    readers_of_port_are port = sym (tally_is (of_port port) (all_inputs (shown order))) ∙ all_ports port order (λ m h. h)
