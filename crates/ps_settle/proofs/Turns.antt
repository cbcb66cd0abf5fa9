-- One update of one node: who stands afterwards as an update left it, and how a graph of which all do has come to rest.
use Rattle.std.proofs.Common.{◌≡◌, ℕ, ◌⊎◌, Bool, true, false, List, [], ◌∷◌, length, Some, get_or, refl, sym, ap, ◌∙◌, inl, inr, arith}
use Rattle.std.specs.Prelude.{Contains, IsTrue, map, slice_get}
use Rattle.std.proofs.lemmas.Option.{get_or_from_slice_get, slice_get_within}
use Rattle.ps_ports.specs.declared.port_state.PortState.{PortState}
use Rattle.ps_ports.specs.declared.port_state.PortState.TheVariants as port
use Rattle.ps_ports.specs.Ports.{Sides, is_done, kept_done, kept_state}
use Rattle.ps_ports.specs.UpdateLaws.{KeepsUpdateLaws, MakesNoneDone, StayDone}
use Rattle.ps_ports.specs.Wires.{IsWired, Wire, given_to, said_by, wires_in, wires_out}
use Rattle.ps_settle.specs.Standings.{Standing}
use Rattle.ps_settle.specs.Sweeps.{SendsLeft, WasLeft, answered}
use Rattle.ps_settle.proofs.Ends.{answered-send, has_in, has_out, is_in, is_out, kept-at}
use Rattle.ps_settle.proofs.Members.{at_both, at_map, contains_at, item_at, length_map, map_at, number_at, place_of, same_items}

is_the_done : (s : PortState) → is_done s ≡ true → s ≡ port.Done
is_the_done port.Done e = refl
is_the_done port.Ready e = absurd (let no : false ≡ true = e in cc)
is_the_done port.Blocked e = absurd (let no : false ≡ true = e in cc)

both_done : (s t : PortState) → is_done s ≡ true → is_done t ≡ true → s ≡ t
both_done s t e d = is_the_done s e ∙ sym (is_the_done t d)

-- where what is written is done, so is the end
kept_is_done : (old new : PortState) → is_done new ≡ true → is_done (kept_state old new) ≡ true
kept_is_done port.Blocked new e = e
kept_is_done port.Ready new e = e
kept_is_done port.Done new e = refl

-- an end that isn't done is as it was written
kept_is_new : (old new : PortState) → is_done old ≡ false → kept_state old new ≡ new
kept_is_new port.Blocked new e = refl
kept_is_new port.Ready new e = refl
kept_is_new port.Done new e = absurd (let no : true ≡ false = e in cc)

pub kept_is_old : (old new : PortState) → is_done old ≡ true → kept_state old new ≡ old
kept_is_old port.Done new e = refl
kept_is_old port.Ready new e = absurd (let no : false ≡ true = e in cc)
kept_is_old port.Blocked new e = absurd (let no : false ≡ true = e in cc)

pub kept_state_twice : (old new : PortState) → kept_state (kept_state old new) new ≡ kept_state old new
kept_state_twice port.Done new = refl
kept_state_twice port.Ready port.Blocked = refl
kept_state_twice port.Ready port.Ready = refl
kept_state_twice port.Ready port.Done = refl
kept_state_twice port.Blocked port.Blocked = refl
kept_state_twice port.Blocked port.Ready = refl
kept_state_twice port.Blocked port.Done = refl

pub kept_twice : (olds news : List PortState) → kept_done (kept_done olds news) news ≡ kept_done olds news
kept_twice [] news = refl
kept_twice (x ∷ xs) [] = refl
kept_twice (x ∷ xs) (y ∷ ys) = let first = kept_state_twice x y in let others = kept_twice xs ys in λ i. first i ∷ others i

decided : (b : Bool) → (b ≡ true) ⊎ (b ≡ false)
decided true = inl refl
decided false = inr refl

-- what both ends say of being done
abbrev pub EndsAgree : List Wire → Type 0
EndsAgree ws = (p : Wire) → Contains ws p → is_done p.send_state ≡ is_done p.receive_state

pub same_by : (a b : Bool) → (a ≡ true → b ≡ true) → (b ≡ true → a ≡ true) → a ≡ b
same_by true b f g = sym (f refl)
same_by false true f g = g refl
same_by false false f g = refl

module _ {N : Type 0} (rank : N → ℕ) (Update : N → Sides → N → Sides → Type 0) (laws : KeepsUpdateLaws rank Update) where
  -- what was left by an update sends as it was left
  abbrev pub sends : (s : Standing N) (n : ℕ) (b : N) → WasLeft rank Update s n b → SendsLeft rank Update s n b
  sends s n b l = record { before = l.before; given = given_to n s.wires; answer = l.answer; update = l.update; same_stage = l.same_stage; says = l.says; inputs = refl; outputs = refl }

  module _ (s : Standing N) (n : ℕ) (b : N) (l : SendsLeft rank Update s n b) where
    ins : List Wire
    ins = wires_in n s.wires

    outs : List Wire
    outs = wires_out n s.wires

    -- what the node says at a place, by its answer
    says_in : (i : ℕ) (p : Wire) (k : PortState) → slice_get (wires_in n s.wires) i ≡ Some p → slice_get l.answer.inputs i ≡ Some k → p.receive_state ≡ kept_state p.receive_state k
    says_in i p k at ek =
        let here = map_at (λ (q : Wire). q.receive_state) (wires_in n s.wires) i p at in
        let there = kept-at (said_by n s.wires).inputs l.answer.inputs i p.receive_state k here ek in
        at_both (said_by n s.wires).inputs i p.receive_state (kept_state p.receive_state k) here (ap (λ (x : Sides). slice_get x.inputs i) l.says ∙ there)

    says_out : (i : ℕ) (p : Wire) (k : PortState) → slice_get (wires_out n s.wires) i ≡ Some p → slice_get l.answer.outputs i ≡ Some k → p.send_state ≡ kept_state p.send_state k
    says_out i p k at ek =
        let here = map_at (λ (q : Wire). q.send_state) (wires_out n s.wires) i p at in
        let there = kept-at (said_by n s.wires).outputs l.answer.outputs i p.send_state k here ek in
        at_both (said_by n s.wires).outputs i p.send_state (kept_state p.send_state k) here (ap (λ (x : Sides). slice_get x.outputs i) l.says ∙ there)

    given_in : (i : ℕ) (p : Wire) → slice_get (wires_in n s.wires) i ≡ Some p → slice_get l.given.inputs i ≡ Some p.send_state
    given_in i p at = ap (λ xs. slice_get xs i) l.inputs ∙ map_at (λ (q : Wire). q.send_state) (wires_in n s.wires) i p at

    given_out : (i : ℕ) (p : Wire) → slice_get (wires_out n s.wires) i ≡ Some p → (g : PortState) × (slice_get l.given.outputs i ≡ Some g) × (is_done g ≡ is_done p.receive_state)
    given_out i p at =
        let done = ap (λ xs. slice_get xs i) l.outputs ∙ map_at is_done (map (λ (q : Wire). q.receive_state) (wires_out n s.wires)) i p.receive_state (map_at (λ (q : Wire). q.receive_state) (wires_out n s.wires) i p at) in
        at_map is_done l.given.outputs i (is_done p.receive_state) done

    -- an end is done where its other end is
    pub follows_in : (p : Wire) → Contains s.wires p → p.receiver ≡ n → is_done p.send_state ≡ true → is_done p.receive_state ≡ true
    follows_in p c e done =
        let i = place_of (wires_in n s.wires) p (is_in n s.wires p c e) in
        let answer = (laws.done_stays l.before b l.given l.answer l.update).0 i.0 p.send_state (given_in i.0 p i.1) done in
        ap is_done (says_in i.0 p p.send_state i.1 answer) ∙ kept_is_done p.receive_state p.send_state done

    pub follows_out : (p : Wire) → Contains s.wires p → p.sender ≡ n → is_done p.receive_state ≡ true → is_done p.send_state ≡ true
    follows_out p c e done =
        let i = place_of (wires_out n s.wires) p (is_out n s.wires p c e) in
        let g = given_out i.0 p i.1 in
        let answer = (laws.done_stays l.before b l.given l.answer l.update).1 i.0 g.0 g.1 (g.2 ∙ done) in
        ap is_done (says_out i.0 p g.0 i.1 answer) ∙ kept_is_done p.send_state g.0 (g.2 ∙ done)

    long_in : length l.answer.inputs ≡ length (wires_in n s.wires)
    long_in = (laws.lengths l.before b l.given l.answer l.update).0 ∙ ap length l.inputs ∙ length_map (λ (q : Wire). q.send_state) (wires_in n s.wires)

    long_out : length l.answer.outputs ≡ length (wires_out n s.wires)
    long_out =
        (laws.lengths l.before b l.given l.answer l.update).1 ∙ sym (length_map is_done l.given.outputs) ∙ ap length l.outputs
        ∙ length_map is_done (given_to n s.wires).outputs ∙ length_map (λ (q : Wire). q.receive_state) (wires_out n s.wires)

    module _ (agree : EndsAgree s.wires) where
      -- what is answered done is done on both ends
      answered_in : (i : ℕ) (k : PortState) → slice_get l.answer.inputs i ≡ Some k → is_done k ≡ true → (p : Wire) × (slice_get (wires_in n s.wires) i ≡ Some p) × (is_done p.send_state ≡ true)
      answered_in i k ek done =
          let within = slice_get_within l.answer.inputs i k ek in
          let long = long_in in
          let p = item_at (wires_in n s.wires) i (omega arith) in
          let c = has_in n s.wires p.0 (contains_at (wires_in n s.wires) i p.0 p.1) in
          (p.0, p.1, agree p.0 c.0 ∙ ap is_done (says_in i p.0 k p.1 ek) ∙ kept_is_done p.0.receive_state k done)

      answered_out : (i : ℕ) (k : PortState) → slice_get l.answer.outputs i ≡ Some k → is_done k ≡ true → (p : Wire) × (slice_get (wires_out n s.wires) i ≡ Some p) × (is_done p.receive_state ≡ true)
      answered_out i k ek done =
          let within = slice_get_within l.answer.outputs i k ek in
          let long = long_out in
          let p = item_at (wires_out n s.wires) i (omega arith) in
          let c = has_out n s.wires p.0 (contains_at (wires_out n s.wires) i p.0 p.1) in
          (p.0, p.1, sym (agree p.0 c.0) ∙ ap is_done (says_out i p.0 k p.1 ek) ∙ kept_is_done p.0.send_state k done)

      makes_none : MakesNoneDone l.given l.answer
      makes_none = (
        (λ i k ek done. let p = answered_in i k ek done in given_in i p.0 p.1 ∙ ap Some (both_done p.0.send_state k p.2 done)),
        (λ i k ek done. let p = answered_out i k ek done in let g = given_out i p.0 p.1 in g.1 ∙ ap Some (both_done g.0 k (g.2 ∙ p.2) done)),
      )

      keeps_in : StayDone l.answer.inputs (given_to n s.wires).inputs
      keeps_in i k ek done = let p = answered_in i k ek done in map_at (λ (q : Wire). q.send_state) (wires_in n s.wires) i p.0 p.1 ∙ ap Some (both_done p.0.send_state k p.2 done)

      keeps_out : StayDone l.answer.outputs (given_to n s.wires).outputs
      keeps_out i k ek done = let p = answered_out i k ek done in map_at (λ (q : Wire). q.receive_state) (wires_out n s.wires) i p.0 p.1 ∙ ap Some (both_done p.0.receive_state k p.2 done)

      -- so the node answers now as it would have before
      pub as_before : (c : N) (answer : Sides) → Update b (given_to n s.wires) c answer → (d : N) × Update l.before (given_to n s.wires) d answer × (rank c ≡ rank d)
      as_before c answer u = laws.quiet l.before b l.given l.answer l.update l.same_stage makes_none (given_to n s.wires) answer c keeps_in keeps_out u

      -- and what it sends stays, if neither its stage changes nor an end becomes done
      pub sends_stay : (nodes : ℕ) → IsWired nodes s.wires → (c : N) (answer : Sides) → Update b (given_to n s.wires) c answer → rank b ≡ rank c
          → ((p : Wire) → Contains s.wires p → is_done (answered n answer p).send_state ≡ is_done p.send_state)
          → (p : Wire) → Contains s.wires p → p.sender ≡ n → (answered n answer p).send_state ≡ p.send_state
      sends_stay nodes wired c answer u stage calm p at e =
          let i = place_of (wires_out n s.wires) p (is_out n s.wires p at e) in
          let within = slice_get_within (wires_out n s.wires) i.0 p i.1 in
          let long = (laws.lengths b c (given_to n s.wires) answer u).1 ∙ length_map (λ (q : Wire). q.receive_state) (wires_out n s.wires) in
          let long' = long_out in
          let k = item_at answer.outputs i.0 (omega arith) in
          let m = item_at l.answer.outputs i.0 (omega arith) in
          let number : p.port ≡ i.0 = number_at (λ (q : Wire). q.port) (wires_out n s.wires) i.0 p (wired.ports n) i.1 in
          let read : get_or answer.outputs p.port p.send_state ≡ k.0 = ap (λ j. get_or answer.outputs j p.send_state) number ∙ get_or_from_slice_get answer.outputs i.0 k.0 p.send_state k.1 in
          let is : (answered n answer p).send_state ≡ kept_state p.send_state k.0 = answered-send n answer p e ∙ ap (kept_state p.send_state) read in
          let old = as_before c answer u in
          let agrees = laws.sends_follow l.before b old.0 l.given (given_to n s.wires) l.answer answer l.inputs l.update old.1 (stage ∙ old.2) i.0 m.0 k.0 m.1 k.1 in
          is ∙ stays p.send_state m.0 k.0 (says_out i.0 p m.0 i.1 m.1) (sym (ap is_done is) ∙ calm p at) agrees
        where
          stays : (old m k : PortState) → old ≡ kept_state old m → is_done (kept_state old k) ≡ is_done old → IsTrue (is_done m) ⊎ IsTrue (is_done k) ⊎ (m ≡ k) → kept_state old k ≡ old
          stays old m k says same agrees = by (decided (is_done old))
            where
              by : (is_done old ≡ true) ⊎ (is_done old ≡ false) → kept_state old k ≡ old
              by (inl done) = kept_is_old old k done
              by (inr undone) =
                  let is_m : old ≡ m = says ∙ kept_is_new old m undone in
                  let is_k : kept_state old k ≡ k = kept_is_new old k undone in
                  elim agrees [
                    | inl dm ↦ absurd (let no : true ≡ false = sym dm ∙ sym (ap is_done is_m) ∙ undone in cc)
                    | inr (inl dk) ↦ absurd (let no : true ≡ false = sym dk ∙ sym (ap is_done is_k) ∙ same ∙ undone in cc)
                    | inr (inr q) ↦ is_k ∙ sym q ∙ sym is_m
                  ]

  -- where both ends agree, what an update left in its last stage says just what it answered
  pub answer_is : (s : Standing N) (n : ℕ) (b : N) (l : WasLeft rank Update s n b) → EndsAgree s.wires → l.answer ≡ said_by n s.wires
  answer_is s n b l agree =
      let now = sends s n b l in
      let ins : l.answer.inputs ≡ (said_by n s.wires).inputs = same_items l.answer.inputs (said_by n s.wires).inputs (long_in s n b now ∙ sym (length_map (λ (q : Wire). q.receive_state) (wires_in n s.wires))) at_in in
      let outs : l.answer.outputs ≡ (said_by n s.wires).outputs = same_items l.answer.outputs (said_by n s.wires).outputs (long_out s n b now ∙ sym (length_map (λ (q : Wire). q.send_state) (wires_out n s.wires))) at_out in
      λ i. record { inputs = ins i; outputs = outs i }
    where
      is_said : (other own answer : PortState) → is_done other ≡ is_done own → own ≡ kept_state own answer → (is_done other ≡ true → is_done answer ≡ true) → answer ≡ own
      is_said other own answer same says follows = elim (decided (is_done own)) [
        | inl done ↦ both_done answer own (follows (same ∙ done)) done
        | inr undone ↦ sym (says ∙ kept_is_new own answer undone)
      ]

      at_in : (i : ℕ) (x y : PortState) → slice_get l.answer.inputs i ≡ Some x → slice_get (said_by n s.wires).inputs i ≡ Some y → x ≡ y
      at_in i x y ex ey =
          let p = at_map (λ (q : Wire). q.receive_state) (wires_in n s.wires) i y ey in
          let c = has_in n s.wires p.0 (contains_at (wires_in n s.wires) i p.0 p.1) in
          let follows : is_done p.0.send_state ≡ true → is_done x ≡ true =
          λ done. ap is_done (at_both l.answer.inputs i x p.0.send_state ex ((laws.done_stays l.before b (given_to n s.wires) l.answer l.update).0 i p.0.send_state (map_at (λ (q : Wire). q.send_state) (wires_in n s.wires) i p.0 p.1) done)) ∙ done in
          is_said p.0.send_state p.0.receive_state x (agree p.0 c.0) (says_in s n b (sends s n b l) i p.0 x p.1 ex) follows ∙ p.2

      at_out : (i : ℕ) (x y : PortState) → slice_get l.answer.outputs i ≡ Some x → slice_get (said_by n s.wires).outputs i ≡ Some y → x ≡ y
      at_out i x y ex ey =
          let p = at_map (λ (q : Wire). q.send_state) (wires_out n s.wires) i y ey in
          let c = has_out n s.wires p.0 (contains_at (wires_out n s.wires) i p.0 p.1) in
          let follows : is_done p.0.receive_state ≡ true → is_done x ≡ true =
          λ done. ap is_done (at_both l.answer.outputs i x p.0.receive_state ex ((laws.done_stays l.before b (given_to n s.wires) l.answer l.update).1 i p.0.receive_state (map_at (λ (q : Wire). q.receive_state) (wires_out n s.wires) i p.0 p.1) done)) ∙ done in
          is_said p.0.receive_state p.0.send_state x (sym (agree p.0 c.0)) (says_out s n b (sends s n b l) i p.0 x p.1 ex) follows ∙ p.2
