-- What the facts of a reached world give: inputs come earlier, what is out stands in the open phase, and a full pipe has a next morsel.
use Rattle.std.proofs.Common.{◌≡◌, ℕ, zero, suc, ◌<◌, ◌≤◌, ◌-◌, ◌⊎◌, Bool, true, false, cond, List, [], ◌∷◌, length, Option, Some, None, refl, sym, ap, subst, ◌∙◌, inl, inr, arith}
use Rattle.std.specs.Prelude.{Contains, IsTrue, get_or, nat_eq, nat_lt, not, slice_get, ◌&&◌, ◌||◌, drop, is_some}
use Rattle.std.proofs.lemmas.Bool.Decides.{nat_tests}
use Rattle.std.proofs.lemmas.Bool.{and_right, cases_lt, or_from}
use Rattle.std.proofs.lemmas.Option.{slice_get-get_or}
use Rattle.std.specs.List.{count_by}
use Rattle.ps_frame.specs.Functions.{Functions}
use Rattle.ps_frame.specs.Tables.{Row}
use Rattle.ps_turns.specs.Tasks.{Piece}
use Rattle.ps_world.specs.Facts.{FactsDownTo, IsAwaited, PipeFacts}
use Rattle.ps_world.specs.Laws.{IsForward, IsFull, IsStarved}
use Rattle.ps_world.specs.World.{Node, Pipe, World, gives_on, has_next, is_bounded, is_drained, places_taken, room, running, shape_of, waiting, IsWorking}
use Rattle.world_laws.proofs.InOrder.{none_in_nil}

module _ {k : ℕ} (F : Functions) (w : World) (f : FactsDownTo F k w) where
  pub forward : IsForward (shape_of w)
  forward n p e = (f.sound.0 n p e).earlier

  first_true : (a b : Bool) → (a && b) ≡ true → a ≡ true
  first_true true b e = refl
  first_true false b e = e

  pub pieces_open : (q : Piece) → Contains w.outs q → w.is_open ≡ true
  pieces_open q c = let at = f.at_work q c in first_true w.is_open (at.0.in_phase && not at.0.is_closed) at.2

  pub piece_nodes : (q : Piece) → Contains w.outs q → (node : Node) × (slice_get w.nodes q.node ≡ Some node)
  piece_nodes q c = let at = f.at_work q c in (at.0, at.1)

  or_false : (a b : Bool) → (a || b) ≡ false → (a ≡ false) × (b ≡ false)
  or_false true b e = absurd (let no : true ≡ false = e in cc)
  or_false false b e = (refl, e)

  not_less : (n m : ℕ) → nat_lt n m ≡ false → m ≤ n
  not_less n m e = grind (arith, nat_tests)

  not_zero : (n : ℕ) → 0 < n → nat_eq n 0 ≡ false
  not_zero n h = grind (arith, nat_tests)

  none_counted : (t : Piece → Bool) (b : Bool) → w.outs ≡ [] → cond b 0 (count_by t w.outs) ≡ 0
  none_counted t true e = refl
  none_counted t false e = ap (count_by t) e

  -- a full pipe has something in it, where nothing is out
  pub full_has : (p : Pipe) → IsFull w p → w.outs ≡ [] → (p.is_dropped ≡ false) × (p.next < length p.got)
  full_has p full none =
      let a = or_false p.is_dropped (not (is_bounded w p) || nat_lt (places_taken w p) (room w)) full.2 in
      let b = or_false (not (is_bounded w p)) (nat_lt (places_taken w p) (room w)) a.1 in
      let many = not_less (places_taken w p) (room w) b.1 in
      let counted = none_counted (λ (q : Piece). nat_eq q.node p.wire.receiver && nat_eq q.input p.wire.input) (gives_on w p.wire.receiver) none in
      (a.0, omega arith)

  pub full_reader : w.ending ≡ running → (p : Pipe) → IsFull w p → w.outs ≡ [] → IsWorking w p.wire.receiver × IsTrue (has_next p)
  full_reader runs p full none =
      let h = full_has p full none in
      let facts = f.pipes p full.0 in
      let left : nat_eq (length p.got - p.next) 0 ≡ false = not_zero (length p.got - p.next) (omega arith) in
      let undrained : is_drained p ≡ false = rw (h.0, left) refl in
      (facts.read_to_end full.1 (or_from p.is_dropped (p.is_closed && is_drained p) h.0 (and_right p.is_closed (is_drained p) undrained)), next_there p h.0 h.1 (slice_get p.got p.next) refl facts)
    where
      next_there : (p : Pipe) → p.is_dropped ≡ false → p.next < length p.got → (o : Option (Option (List Row))) → slice_get p.got p.next ≡ o → PipeFacts w p → has_next p ≡ true
      next_there p d h None e facts = absurd (let there = slice_get-get_or p.got p.next None h in let no : None ≡ Some (get_or p.got p.next None) = sym e ∙ there in cc)
      next_there p d h (Some None) e facts = by (facts.expected runs p.next e)
        where
          by : IsTrue p.is_dropped ⊎ IsTrue p.in_phase × IsAwaited w p.wire.sender p.next → has_next p ≡ true
          by (inl dropped) = absurd (let no : false ≡ true = sym d ∙ dropped in cc)
          by (inr (ph, q)) = absurd (none_in_nil q.0 (subst (λ xs. Contains xs q.0) none q.1))
      next_there p d h (Some (Some rs)) e facts = rw (d, e) refl

  none_left : {A : Type 0} (t : A → Bool) (n : ℕ) (xs : List A) → length xs ≤ n → count_by t (drop n xs) ≡ 0
  none_left t zero [] h = refl
  none_left t (suc n) [] h = refl
  none_left t zero (x ∷ xs) h = absurd (omega arith)
  none_left t (suc n) (x ∷ xs) h = none_left t n xs (omega arith)

  -- what waits stands within what came
  waits_within : (p : Pipe) → p.is_dropped ≡ false → nat_eq (waiting p) 0 ≡ false → p.next < length p.got
  waits_within p d e = by (cases_lt p.next (length p.got))
    where
      by : (p.next < length p.got) ⊎ (length p.got ≤ p.next) → p.next < length p.got
      by (inl h) = h
      by (inr h) =
          let none = none_left (λ (slot : Option (List Row)). is_some slot) p.next p.got h in
          let empty : waiting p ≡ 0 = ap (λ b. cond b 0 (count_by (λ (slot : Option (List Row)). is_some slot) (drop p.next p.got))) d ∙ none in
          let same : nat_eq (waiting p) 0 ≡ true = ap (λ k. nat_eq k 0) empty in
          absurd (let no : true ≡ false = sym same ∙ e in cc)

  -- the sender of a starved pipe isn't closed
  pub starved_sender : w.ending ≡ running → (p : Pipe) → IsStarved w p → IsWorking w p.wire.sender
  starved_sender runs p starved = by p.is_closed refl
    where
      facts : PipeFacts w p
      facts = f.pipes p starved.0

      over : (p.is_dropped ≡ false) × ((p.is_closed && nat_eq (waiting p) 0) ≡ false)
      over = or_false p.is_dropped (p.is_closed && nat_eq (waiting p) 0) starved.3

      of_slot : (o : Option (Option (List Row))) → slice_get p.got p.next ≡ o → p.next < length p.got → IsWorking w p.wire.sender
      of_slot None e h = absurd (let there = slice_get-get_or p.got p.next None h in let no : None ≡ Some (get_or p.got p.next None) = sym e ∙ there in cc)
      of_slot (Some (Some rs)) e h = absurd (let next : has_next p ≡ true = rw (over.0, e) refl in let no : true ≡ false = sym next ∙ starved.2 in cc)
      of_slot (Some None) e h = expected_by (facts.expected runs p.next e)
        where
          expected_by : IsTrue p.is_dropped ⊎ IsTrue p.in_phase × IsAwaited w p.wire.sender p.next → IsWorking w p.wire.sender
          expected_by (inl dropped) = absurd (let no : false ≡ true = sym over.0 ∙ dropped in cc)
          expected_by (inr (ph, q)) = subst (λ n. IsWorking w n) q.2 (f.at_work q.0 q.1)

      by : (b : Bool) → p.is_closed ≡ b → IsWorking w p.wire.sender
      by false e = facts.closed_with_sender starved.1 e
      by true e =
          let left : nat_eq (waiting p) 0 ≡ false = sym (ap (λ b. b && nat_eq (waiting p) 0) e) ∙ over.1 in
          of_slot (slice_get p.got p.next) refl (waits_within p over.0 left)
