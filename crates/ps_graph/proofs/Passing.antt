-- Tests of a node's pipes by its keys are tests of its wires.
use Rattle.std.proofs.Common.{◌≡◌, ℕ, suc, ◌+◌, Bool, true, false, cond, List, [], ◌∷◌, Option, Some, refl, sym, ap, ◌∙◌, arith}
use Rattle.std.specs.Prelude.{IsTrue, ◌&&◌, ◌||◌, count_by, map, slice_get}
use Rattle.std.specs.List.{filter as kept, list_all, list_any}
use Rattle.keyed_slots.specs.Slots.{value_at}
use Rattle.ps_frame.specs.Sorting.{in_order, insert_in_order}
use Rattle.ps_ports.specs.Wires.{Wire}
use Rattle.ps_settle.proofs.Members.{map_twice}
use Rattle.ps_graph.specs.declared.graph.LogicalPipe.{LogicalPipe}
use Rattle.ps_graph.specs.declared.key.LogicalPipeKey.{LogicalPipeKey}
use Rattle.ps_graph.specs.Running.{passes, passes_if}
use Rattle.ps_graph.specs.Shown.{are_there, numbers, places_from, values, wire_of}
use Rattle.ps_graph.proofs.Ordering.{count-in_order, count-map}
use Rattle.ps_graph.proofs.Places.{value_there}

list_all-map : {A B : Type 0} (f : B → Bool) (g : A → B) (xs : List A) → list_all f (map g xs) ≡ list_all (λ x. f (g x)) xs
list_all-map f g [] = refl
list_all-map f g (x ∷ xs) = ap (λ b. f (g x) && b) (list_all-map f g xs)

list_any-map : {A B : Type 0} (f : B → Bool) (g : A → B) (xs : List A) → list_any f (map g xs) ≡ list_any (λ x. f (g x)) xs
list_any-map f g [] = refl
list_any-map f g (x ∷ xs) = ap (λ b. f (g x) || b) (list_any-map f g xs)

swap_and : (a b c : Bool) → (a && (b && c)) ≡ (b && (a && c))
swap_and true true c = refl
swap_and true false c = refl
swap_and false true c = refl
swap_and false false c = refl

swap_or : (a b c : Bool) → (a || (b || c)) ≡ (b || (a || c))
swap_or true true c = refl
swap_or true false c = refl
swap_or false true c = refl
swap_or false false c = refl

list_all-insert : {A : Type 0} (less : A → A → Bool) (f : A → Bool) (x : A) (ys : List A) → list_all f (insert_in_order less x ys) ≡ (f x && list_all f ys)
list_all-insert less f x [] = refl
list_all-insert less f x (y ∷ ys) = by (list_all-insert less f x ys) (less y x) refl
  where
    by : list_all f (insert_in_order less x ys) ≡ (f x && list_all f ys) → (b : Bool) → less y x ≡ b → list_all f (insert_in_order less x (y ∷ ys)) ≡ (f x && list_all f (y ∷ ys))
    by there true e = rw (e, there) (swap_and (f y) (f x) (list_all f ys))
    by there false e = rw e refl

list_any-insert : {A : Type 0} (less : A → A → Bool) (f : A → Bool) (x : A) (ys : List A) → list_any f (insert_in_order less x ys) ≡ (f x || list_any f ys)
list_any-insert less f x [] = refl
list_any-insert less f x (y ∷ ys) = by (list_any-insert less f x ys) (less y x) refl
  where
    by : list_any f (insert_in_order less x ys) ≡ (f x || list_any f ys) → (b : Bool) → less y x ≡ b → list_any f (insert_in_order less x (y ∷ ys)) ≡ (f x || list_any f (y ∷ ys))
    by there true e = rw (e, there) (swap_or (f y) (f x) (list_any f ys))
    by there false e = rw e refl

list_all-in_order : {A : Type 0} (less : A → A → Bool) (f : A → Bool) (xs : List A) → list_all f (in_order less xs) ≡ list_all f xs
list_all-in_order less f [] = refl
list_all-in_order less f (x ∷ xs) = list_all-insert less f x (in_order less xs) ∙ ap (λ b. f x && b) (list_all-in_order less f xs)

list_any-in_order : {A : Type 0} (less : A → A → Bool) (f : A → Bool) (xs : List A) → list_any f (in_order less xs) ≡ list_any f xs
list_any-in_order less f [] = refl
list_any-in_order less f (x ∷ xs) = list_any-insert less f x (in_order less xs) ∙ ap (λ b. f x || b) (list_any-in_order less f xs)

module _ (slots : List (Option LogicalPipe)) (chosen : LogicalPipe → Bool) where
  -- what stands at the places of what is chosen
  at_places : (k : ℕ) (pipes : List LogicalPipe) → ((i : ℕ) → value_at slots (k + i) ≡ slice_get pipes i) → map (value_at slots) (places_from k chosen pipes) ≡ map Some (kept chosen pipes)
  at_places k [] at = refl
  at_places k (p ∷ ps) at = by (chosen p) (at_places (k + 1) ps (λ i. let e : k + 1 + i ≡ k + suc i = omega arith in ap (value_at slots) e ∙ at (suc i)))
    where
      first : value_at slots k ≡ Some p
      first = let e : k ≡ k + 0 = omega arith in ap (value_at slots) e ∙ at 0

      by : (b : Bool) → map (value_at slots) (places_from (k + 1) chosen ps) ≡ map Some (kept chosen ps)
          → map (value_at slots) (cond b (k ∷ places_from (k + 1) chosen ps) (places_from (k + 1) chosen ps)) ≡ map Some (cond b (p ∷ kept chosen ps) (kept chosen ps))
      by true rest = λ i. first i ∷ rest i
      by false rest = rest

  module _ (there : IsTrue (are_there slots)) (keys : List LogicalPipeKey) (names : numbers keys ≡ places_from 0 chosen (values slots)) (test : Wire → Bool) (less : Wire → Wire → Bool) where
    at_keys : map (λ (key : LogicalPipeKey). value_at slots key.0) keys ≡ map Some (kept chosen (values slots))
    at_keys =
        sym (map_twice (value_at slots) (λ (key : LogicalPipeKey). key.0) keys) ∙ ap (map (value_at slots)) names
        ∙ at_places 0 (values slots) (λ i. let e : 0 + i ≡ i = omega arith in ap (value_at slots) e ∙ value_there slots there i)

    -- the pipes of the keys all pass, one of them does, or so many do, as the wires that are chosen
    pub all_keys : list_all (λ (key : LogicalPipeKey). passes test slots key.0) keys ≡ list_all test (in_order less (map wire_of (kept chosen (values slots))))
    all_keys =
        sym (list_all-map (passes_if test) (λ (key : LogicalPipeKey). value_at slots key.0) keys) ∙ ap (list_all (passes_if test)) at_keys ∙ list_all-map (passes_if test) Some (kept chosen (values slots))
        ∙ sym (list_all-in_order less test (map wire_of (kept chosen (values slots))) ∙ list_all-map test wire_of (kept chosen (values slots)))

    pub any_keys : list_any (λ (key : LogicalPipeKey). passes test slots key.0) keys ≡ list_any test (in_order less (map wire_of (kept chosen (values slots))))
    any_keys =
        sym (list_any-map (passes_if test) (λ (key : LogicalPipeKey). value_at slots key.0) keys) ∙ ap (list_any (passes_if test)) at_keys ∙ list_any-map (passes_if test) Some (kept chosen (values slots))
        ∙ sym (list_any-in_order less test (map wire_of (kept chosen (values slots))) ∙ list_any-map test wire_of (kept chosen (values slots)))

    pub count_keys : count_by (λ (key : LogicalPipeKey). passes test slots key.0) keys ≡ count_by test (in_order less (map wire_of (kept chosen (values slots))))
    count_keys =
        sym (count-map (λ (key : LogicalPipeKey). value_at slots key.0) (passes_if test) keys) ∙ ap (count_by (passes_if test)) at_keys ∙ count-map Some (passes_if test) (kept chosen (values slots))
        ∙ sym (count-in_order less test (map wire_of (kept chosen (values slots))) ∙ count-map wire_of test (kept chosen (values slots)))
