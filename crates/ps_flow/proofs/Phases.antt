-- The phase that a graph shows next is the world's.
use Rattle.std.proofs.Common.{◌≡◌, ◌≢◌, ℕ, zero, suc, ◌+◌, ◌<◌, Bool, true, false, cond, List, [], ◌∷◌, Option, None, Some, refl, sym, ap, ◌∙◌, arith}
use Rattle.std.specs.Prelude.{◌&&◌, ◌||◌, map, nat_eq, slice_get}
use Rattle.std.specs.List.{filter as kept, list_any}
use Rattle.std.proofs.lemmas.Option.{slice_get_within}
use Rattle.ps_flow.specs.Marked.{mark_of, phase_marks}
use Rattle.ps_flow.specs.Standing.{HaveAll, seen_as}
use Rattle.ps_frame.specs.Causes.{is_empty}
use Rattle.ps_frame.specs.Zip.{below}
use Rattle.ps_graph.proofs.Choosing.{blockers_inside}
use Rattle.ps_graph.proofs.Feeding.{one_of_kept, or_left}
use Rattle.ps_graph.specs.Running.{holds_if}
use Rattle.ps_graph.specs.Shown.{places_from}
use Rattle.ps_meaning.specs.Shape.{Shape}
use Rattle.ps_options.specs.declared.options.Options.{Options}
use Rattle.ps_ports.specs.Phases.{all_feeders, blockers_of, is_one_of, phase_nodes, with_feeders}
use Rattle.ps_ports.specs.Wires.{Wire, both_ready}
use Rattle.ps_settle.proofs.Ends.{same_number}
use Rattle.ps_settle.proofs.Members.{item_at}
use Rattle.ps_turns.specs.Progress.{is_intensive}
use Rattle.ps_world.specs.Phases.{intensive_node, marked_nodes}
use Rattle.ps_world.specs.World.{Node}
use Rattle.turn_laws.specs.Updating.{SeenNode}

-- WHICH NODES ARE INTENSIVE
module _ {N : Type 0} (Has : Options → N → SeenNode → Type 0) (intensive : N → Bool) (law : (o : Options) (a : N) (x : SeenNode) → Has o a x → intensive a ≡ is_intensive x.node.kind x.progress.stage)
    (o : Options) (shape : Shape) (xs : List Node) (ns : List N) (all : HaveAll Has o shape xs ns) where
  pub intensive_alike : (n : ℕ) → holds_if intensive (slice_get ns n) ≡ intensive_node (slice_get xs n)
  intensive_alike n = by (slice_get xs n) (slice_get ns n) refl refl
    where
      by : (x : Option Node) (a : Option N) → slice_get xs n ≡ x → slice_get ns n ≡ a → holds_if intensive a ≡ intensive_node x
      by None None at there = refl
      by None (Some a) at there =
          let within = slice_get_within ns n a there in
          let long = all.long in
          let x = item_at xs n (omega (arith, within, long)) in
          absurd (let clash : None ≡ Some x.0 = sym at ∙ x.1 in cc)
      by (Some x) None at there =
          let within = slice_get_within xs n x at in
          let long = all.long in
          let a = item_at ns n (omega (arith, within, long)) in
          absurd (let clash : None ≡ Some a.0 = sym there ∙ a.1 in cc)
      by (Some x) (Some a) at there = let has = all.each n x a at there in law o a (seen_as shape x has.0) has.1

-- WHETHER ANY PHASE IS LEFT
any_none : (f : Wire → Bool) (ws : List Wire) → ((p : Wire) → f p ≡ false) → list_any f ws ≡ false
any_none f [] h = refl
any_none f (p ∷ ws) h = ap (λ b. b || list_any f ws) (h p) ∙ any_none f ws h

kept_none : (f : ℕ → Bool) (xs : List ℕ) → ((n : ℕ) → f n ≡ false) → kept f xs ≡ []
kept_none f [] h = refl
kept_none f (x ∷ xs) h = ap (λ b. cond b (x ∷ kept f xs) (kept f xs)) (h x) ∙ kept_none f xs h

and_false : (a b : Bool) → (a && (b && false)) ≡ false
and_false false b = refl
and_false true false = refl
and_false true true = refl

-- nobody feeds nobody
none_feed : (k : ℕ) (ws : List Wire) → with_feeders k ws [] ≡ []
none_feed k ws =
    kept_none (λ m. is_one_of m [] || list_any (λ (p : Wire). nat_eq p.sender m && (both_ready p && is_one_of p.receiver [])) ws) (below k)
    (λ m. any_none (λ (p : Wire). nat_eq p.sender m && (both_ready p && is_one_of p.receiver [])) ws (λ p. and_false (nat_eq p.sender m) (both_ready p)))

none_stay : (t k : ℕ) (ws : List Wire) → all_feeders t k ws [] ≡ []
none_stay zero k ws = refl
none_stay (suc t) k ws = ap (all_feeders t k ws) (none_feed k ws) ∙ none_stay t k ws

-- who is among them stays
stays_among : (t k : ℕ) (ws : List Wire) (ns : List ℕ) (m : ℕ) → m < k → is_one_of m ns ≡ true → is_one_of m (all_feeders t k ws ns) ≡ true
stays_among zero k ws ns m h e = e
stays_among (suc t) k ws ns m h e =
    let feeds : Bool = list_any (λ (p : Wire). nat_eq p.sender m && (both_ready p && is_one_of p.receiver ns)) ws in
    stays_among t k ws (with_feeders k ws ns) m h
    (one_of_kept (λ j. is_one_of j ns || list_any (λ (p : Wire). nat_eq p.sender j && (both_ready p && is_one_of p.receiver ns)) ws) k m h ∙ or_left (is_one_of m ns) feeds e)

not_empty : (ns : List ℕ) (m : ℕ) → is_one_of m ns ≡ true → is_empty ns ≡ false
not_empty [] m e = absurd (let clash : false ≡ true = e in cc)
not_empty (n ∷ ns) m e = refl

-- a phase has nodes exactly where there is a blocker
pub as_empty : (k : ℕ) (intensive : ℕ → Bool) (ws : List Wire) → is_empty (phase_nodes k intensive ws) ≡ is_empty (blockers_of k intensive ws)
as_empty k intensive ws = by (blockers_of k intensive ws) refl
  where
    by : (bs : List ℕ) → blockers_of k intensive ws ≡ bs → is_empty (all_feeders k k ws (blockers_of k intensive ws)) ≡ is_empty (blockers_of k intensive ws)
    by [] e = ap (λ bs. is_empty (all_feeders k k ws bs)) e ∙ ap is_empty (none_stay k k ws) ∙ ap is_empty (sym e)
    by (b ∷ bs) e =
        let one : is_one_of b (blockers_of k intensive ws) ≡ true = ap (is_one_of b) e ∙ ap (λ c. c || is_one_of b bs) (same_number b b refl) in
        not_empty (all_feeders k k ws (blockers_of k intensive ws)) b (stays_among k k ws (blockers_of k intensive ws) b (blockers_inside ws intensive k b one) one) ∙ ap is_empty (sym e)

pub empty_is : {A : Type 0} (xs : List A) → xs ≡ [] → is_empty xs ≡ true
empty_is xs e = ap is_empty e

pub filled_is : {A : Type 0} (xs : List A) → xs ≢ [] → is_empty xs ≡ false
filled_is [] h = absurd (h refl)
filled_is (x ∷ xs) h = refl

-- MARKS
pub marks_are : (ns : List ℕ) (k : ℕ) (xs : List Node) → phase_marks ns k (map mark_of xs) ≡ map mark_of (marked_nodes ns k xs)
marks_are ns k [] = refl
marks_are ns k (x ∷ xs) = ap (λ l. record { in_phase = is_one_of k ns; is_closed = x.is_closed } ∷ l) (marks_are ns (k + 1) xs)

pub marked_alike : {B : Type 0} (f : Node → B) → ((x : Node) (b : Bool) → f (record x { in_phase = b }) ≡ f x) → (ns : List ℕ) (k : ℕ) (xs : List Node) → map f (marked_nodes ns k xs) ≡ map f xs
marked_alike f same ns k [] = refl
marked_alike f same ns k (x ∷ xs) = let here = same x (is_one_of k ns) in let rest = marked_alike f same ns (k + 1) xs in λ i. here i ∷ rest i

pub places_of : {A B : Type 0} (f : A → B) (test : B → Bool) (k : ℕ) (xs : List A) → places_from k (λ x. test (f x)) xs ≡ places_from k test (map f xs)
places_of f test k [] = refl
places_of f test k (x ∷ xs) = ap (λ l. cond (test (f x)) (k ∷ l) l) (places_of f test (k + 1) xs)
