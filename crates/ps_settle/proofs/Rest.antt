-- A whole graph: both ends agree where all nodes send as they were left, no node marked means rest, and what one update keeps of the others.
use Rattle.std.proofs.Common.{◌≡◌, ◌≢◌, ℕ, ◌≤◌, ◌⊎◌, length, Some, refl, sym, ap, subst, ◌∙◌, inl, inr, arith}
use Rattle.std.specs.Prelude.{Contains, slice_get, slice_set}
use Rattle.std.proofs.lemmas.Bool.{cases_eq}
use Rattle.ps_ports.specs.Ports.{Sides, is_done, keeping_done}
use Rattle.ps_ports.specs.UpdateLaws.{KeepsUpdateLaws}
use Rattle.ps_ports.specs.Wires.{IsWired, Wire, given_to, said_by, written}
use Rattle.ps_settle.specs.Standings.{IsSettled, Standing, Updates, no_update, one_update, updated}
use Rattle.ps_settle.specs.Sweeps.{OthersLeft, OthersSend, SendsLeft, WasLeft, answered, left}
use Rattle.ps_settle.proofs.Changes.{same_ends, same_stage}
use Rattle.ps_settle.proofs.Ends.{answered-receive_other, answered-send_other, done_outputs_stay, given_inputs_stay, given_outputs_stay, given_own, said_other, said_own}
use Rattle.ps_settle.proofs.Members.{at_both, item_at, set_here, set_other}
use Rattle.ps_settle.proofs.Turns.{EndsAgree, answer_is, as_before, follows_in, follows_out, kept_twice, same_by, sends, sends_stay}

-- one list of updates after another
pub after : {N : Type 0} (rank : N → ℕ) (Update : N → Sides → N → Sides → Type 0) (s t u : Standing N) → Updates rank Update s t → Updates rank Update t u → Updates rank Update s u
after rank Update s t u no_update more = more
after rank Update s t u (one_update n a b answer at u' rest) more = one_update n a b answer at u' (after rank Update (updated n b answer s) t u rest more)

module _ {N : Type 0} (rank : N → ℕ) (Update : N → Sides → N → Sides → Type 0) (laws : KeepsUpdateLaws rank Update) where
  module _ (s : Standing N) (wired : IsWired (length s.nodes) s.wires) where
    -- where all nodes send as they were left, both ends of a wire agree on being done
    pub ends_agree : ((n : ℕ) (b : N) → slice_get s.nodes n ≡ Some b → SendsLeft rank Update s n b) → EndsAgree s.wires
    ends_agree all p c =
        let f = wired.forward p c in
        let forward = f.0 in
        let inside = f.1 in
        let reader = item_at s.nodes p.receiver inside in
        let sender = item_at s.nodes p.sender (omega arith) in
        same_by (is_done p.send_state) (is_done p.receive_state)
        (follows_in rank Update laws s p.receiver reader.0 (all p.receiver reader.0 reader.1) p c refl)
        (follows_out rank Update laws s p.sender sender.0 (all p.sender sender.0 sender.1) p c refl)

    -- where all nodes were left by an update, the graph has come to rest
    pub settled : ((n : ℕ) (b : N) → slice_get s.nodes n ≡ Some b → WasLeft rank Update s n b) → IsSettled rank Update s
    settled all =
        let agree = ends_agree (λ n b at. sends rank Update laws s n b (all n b at)) in
        record {
          leaves = λ n b c answer at u.
              let l = all n b at in
              let old = as_before rank Update laws s n b (sends rank Update laws s n b l) agree c answer u in
              let one = laws.one_answer l.before b old.0 (given_to n s.wires) l.answer answer l.update old.1 in
              (sym one.0 ∙ answer_is rank Update laws s n b l agree, old.2 ∙ sym one.1);
          left = λ n b at.
              let l = all n b at in
              let P : Sides → Type 0 = λ a. Update l.before (given_to n s.wires) b a in
              (l.before, subst P (answer_is rank Update laws s n b l agree) l.update, l.same_stage);
        }

    module _ (v : ℕ) (a b : N) (answer : Sides) (at : slice_get s.nodes v ≡ Some a) (u : Update a (given_to v s.wires) b answer) where
      next : Standing N
      next = updated v b answer s

      -- the node itself is left by its update, if its stage stays
      own_left : rank a ≡ rank b → WasLeft rank Update (updated v b answer s) v b
      own_left stage =
          let long = laws.lengths a b (given_to v s.wires) answer u in
          let says = said_own (length s.nodes) s.wires wired v answer long.0 long.1 in
          let twice : keeping_done (keeping_done (said_by v s.wires) answer) answer ≡ keeping_done (said_by v s.wires) answer =
          λ i. record { inputs = kept_twice (said_by v s.wires).inputs answer.inputs i; outputs = kept_twice (said_by v s.wires).outputs answer.outputs i } in
          let P : Sides → Type 0 = λ g. Update a g b answer in
          record {
            before = a;
            answer = answer;
            update = subst P (sym (given_own (length s.nodes) s.wires wired v answer)) u;
            same_stage = stage;
            says = says ∙ sym twice ∙ ap (λ x. keeping_done x answer) (sym says);
          }

      -- another node is still left, if no word to it changed
      other_left : (j : ℕ) (c : N) → j ≢ v → WasLeft rank Update s j c → ((p : Wire) → Contains s.wires p → p.receiver ≡ j → (answered v answer p).send_state ≡ p.send_state)
          → ((p : Wire) → Contains s.wires p → p.sender ≡ j → (answered v answer p).receive_state ≡ p.receive_state) → WasLeft rank Update (updated v b answer s) j c
      other_left j c other l ins outs =
          let same_in = given_inputs_stay s.wires v j answer ins in
          let same_out = given_outputs_stay s.wires v j answer outs in
          let given : given_to j (written v answer s.wires) ≡ given_to j s.wires = λ i. record { inputs = same_in i; outputs = same_out i } in
          let says = said_other s.wires v j answer other in
          let P : Sides → Type 0 = λ g. Update l.before g c l.answer in
          record {
            before = l.before;
            answer = l.answer;
            update = subst P (sym given) l.update;
            same_stage = l.same_stage;
            says = says ∙ l.says ∙ ap (λ x. keeping_done x l.answer) (sym says);
          }

      -- and sends as it was left, if no word of its inputs changed, and no reader became done
      other_sends : (j : ℕ) (c : N) → j ≢ v → SendsLeft rank Update s j c → ((p : Wire) → Contains s.wires p → p.receiver ≡ j → (answered v answer p).send_state ≡ p.send_state)
          → ((p : Wire) → Contains s.wires p → p.sender ≡ j → is_done (answered v answer p).receive_state ≡ is_done p.receive_state) → SendsLeft rank Update (updated v b answer s) j c
      other_sends j c other l ins outs =
          let says = said_other s.wires v j answer other in
          record {
            before = l.before;
            given = l.given;
            answer = l.answer;
            update = l.update;
            same_stage = l.same_stage;
            says = says ∙ l.says ∙ ap (λ x. keeping_done x l.answer) (sym says);
            inputs = l.inputs ∙ sym (given_inputs_stay s.wires v j answer ins);
            outputs = l.outputs ∙ sym (done_outputs_stay s.wires v j answer outs);
          }

      own : (c : N) → slice_get (slice_set s.nodes v b) v ≡ Some c → b ≡ c
      own c e = at_both (slice_set s.nodes v b) v b c (set_here s.nodes v a b at) e

      module _ (Marked Marked' : ℕ → Type 0) (kept : (j : ℕ) → j ≢ v → Marked j → Marked' j)
          (readers : (p : Wire) → Contains s.wires p → p.sender ≡ v → ((answered v answer p).send_state ≡ p.send_state) ⊎ Marked' p.receiver) where
        -- the words of senders to a node that isn't marked stay
        words_in : (j : ℕ) → ¬ Marked' j → (p : Wire) → Contains s.wires p → p.receiver ≡ j → (answered v answer p).send_state ≡ p.send_state
        words_in j unmarked p c e = by (cases_eq p.sender v)
          where
            by : (p.sender ≡ v) ⊎ (p.sender ≢ v) → (answered v answer p).send_state ≡ p.send_state
            by (inl is) = elim (readers p c is) [ inl same ↦ same | inr m ↦ absurd (unmarked (subst Marked' e m)) ]
            by (inr h) = answered-send_other v answer p h

        -- all that aren't marked afterwards were left by an update
        pub others_left : ((p : Wire) → Contains s.wires p → p.receiver ≡ v → ((answered v answer p).receive_state ≡ p.receive_state) ⊎ Marked' p.sender)
            → (rank a ≡ rank b) ⊎ Marked' v → OthersLeft rank Update Marked s → OthersLeft rank Update Marked' (updated v b answer s)
        others_left senders stage all j c e unmarked = by (cases_eq j v)
          where
            words_out : (p : Wire) → Contains s.wires p → p.sender ≡ j → (answered v answer p).receive_state ≡ p.receive_state
            words_out p d f = elim (cases_eq p.receiver v) [
              | inl is ↦ elim (senders p d is) [ inl same ↦ same | inr m ↦ absurd (unmarked (subst Marked' f m)) ]
              | inr h ↦ answered-receive_other v answer p h
            ]

            by : (j ≡ v) ⊎ (j ≢ v) → WasLeft rank Update (updated v b answer s) j c
            by (inl is) =
                let same = own c (ap (slice_get (slice_set s.nodes v b)) (sym is) ∙ e) in
                let stays : rank a ≡ rank b = elim stage [ inl r ↦ r | inr m ↦ absurd (unmarked (subst Marked' (sym is) m)) ] in
                let P : ℕ → Type 0 = λ k. WasLeft rank Update (updated v b answer s) k c in
                let Q : N → Type 0 = λ x. WasLeft rank Update (updated v b answer s) v x in
                subst P (sym is) (subst Q same (own_left stays))
            by (inr other) = other_left j c other (all j c (sym (set_other s.nodes v j b other) ∙ e) (λ m. unmarked (kept j other m))) (words_in j unmarked) words_out

        -- all that aren't marked afterwards send as they were left, if neither a stage changed nor an end became done
        pub others_send : rank a ≤ rank b → rank b ≤ 2 → left rank (updated v b answer s) ≡ left rank s → OthersSend rank Update Marked s → OthersSend rank Update Marked' (updated v b answer s)
        others_send on two calm all j c e unmarked = by (cases_eq j v)
          where
            ends : (p : Wire) → Contains s.wires p → (is_done (answered v answer p).send_state ≡ is_done p.send_state) × (is_done (answered v answer p).receive_state ≡ is_done p.receive_state)
            ends = same_ends rank s v a b answer at on two calm

            by : (j ≡ v) ⊎ (j ≢ v) → SendsLeft rank Update (updated v b answer s) j c
            by (inl is) =
                let same = own c (ap (slice_get (slice_set s.nodes v b)) (sym is) ∙ e) in
                let P : ℕ → Type 0 = λ k. SendsLeft rank Update (updated v b answer s) k c in
                let Q : N → Type 0 = λ x. SendsLeft rank Update (updated v b answer s) v x in
                subst P (sym is) (subst Q same (sends rank Update laws (updated v b answer s) v b (own_left (same_stage rank s v a b answer at on two calm))))
            by (inr other) = other_sends j c other (all j c (sym (set_other s.nodes v j b other) ∙ e) (λ m. unmarked (kept j other m))) (words_in j unmarked) (λ p d f. (ends p d).1)

      -- where all send as they were left, an update that changes no stage and makes no end done changes no word to a reader
      pub no_word : ((n : ℕ) (c : N) → slice_get s.nodes n ≡ Some c → SendsLeft rank Update s n c) → rank a ≤ rank b → rank b ≤ 2 → left rank (updated v b answer s) ≡ left rank s
          → (p : Wire) → Contains s.wires p → p.sender ≡ v → (answered v answer p).send_state ≡ p.send_state
      no_word all on two calm =
          sends_stay rank Update laws s v a (all v a at) (ends_agree all) (length s.nodes) wired b answer u (same_stage rank s v a b answer at on two calm)
          (λ p c. (same_ends rank s v a b answer at on two calm p c).0)
