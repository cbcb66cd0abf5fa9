-- Sweeps over the marked nodes, up and down: one turn more, both ends, and what both together cost.
use Rattle.std.proofs.Common.{◌≡◌, ◌≢◌, ℕ, zero, suc, ◌+◌, ◌*◌, ◌<◌, ◌≤◌, ◌⊎◌, Bool, true, false, List, [], ◌∷◌, length, refl, sym, ap, subst, ◌∙◌, inl, inr, arith}
use Rattle.std.specs.Prelude.{Contains, IsTrue, slice_set}
use Rattle.std.proofs.lemmas.Bool.{cases_eq}
use Rattle.std.proofs.Math.Nat.{mul-le-mul_left}
use Rattle.std.proofs.lemmas.Option.{slice_get_within}
use Rattle.ps_ports.specs.Ports.{Sides}
use Rattle.ps_ports.specs.UpdateLaws.{KeepsUpdateLaws, update_limit}
use Rattle.ps_ports.specs.Wires.{IsWired, Wire, given_to}
use Rattle.ps_settle.specs.Standings.{IsSettled, Standing, Updates, no_update, one_update, updated}
use Rattle.ps_settle.specs.Sweeps.{MarksIf, OthersLeft, OthersSend, Swept, SweptDown, SweptUp, TakesOff, Turned, answered, either, left, nobody}
use Rattle.ps_settle.proofs.Changes.{left_at_most, left_less, same_stage}
use Rattle.ps_settle.proofs.Members.{length_map}
use Rattle.ps_settle.proofs.Rest.{after, no_word, others_left, others_send, settled}
use Rattle.ps_settle.proofs.Turns.{sends}

pub length_set : {A : Type 0} (xs : List A) (i : ℕ) (x : A) → length (slice_set xs i x) ≡ length xs
length_set [] i x = refl
length_set (y ∷ ys) zero x = refl
length_set (y ∷ ys) (suc i) x = ap suc (length_set ys i x)

truth : (b : Bool) → b ≡ false → ¬ IsTrue b
truth b e t = absurd (let clash : false ≡ true = sym e ∙ t in cc)

flag_cases : (b : Bool) → (b ≡ false) ⊎ (b ≡ true)
flag_cases false = inl refl
flag_cases true = inr refl

module _ {N : Type 0} (rank : N → ℕ) (Update : N → Sides → N → Sides → Type 0) (laws : KeepsUpdateLaws rank Update) where
  module _ (s t : Standing N) (v : ℕ) (readers readers' senders senders' : ℕ → Bool) (changed : Bool) (wired : IsWired (length s.nodes) s.wires)
      (turn : Turned rank Update s t v readers readers' senders senders' changed) where
    u : Standing N
    u = updated v turn.after turn.answer s

    stages : (rank turn.before ≤ rank turn.after) × (rank turn.after ≤ 2)
    stages = laws.two_stages turn.before turn.after (given_to v s.wires) turn.answer turn.update

    -- an update more, from s0 on
    pub one_more : (s0 : Standing N) → Updates rank Update s0 s → Updates rank Update s0 t
    one_more s0 so_far =
        let P : Standing N → Type 0 = λ x. Updates rank Update s0 x in
        subst P (sym turn.next)
        (after rank Update s0 s (updated v turn.after turn.answer s) so_far (one_update v turn.before turn.after turn.answer turn.stood turn.update no_update))

    pub fewer : left rank t ≤ left rank s
    fewer =
        let less = left_less rank s v turn.before turn.after turn.answer turn.stood stages.0 stages.1 in
        let P : Standing N → Type 0 = λ x. left rank x ≤ left rank s in
        subst P (sym turn.next) less

    calm_here : left rank t ≡ left rank s → left rank (updated v turn.after turn.answer s) ≡ left rank s
    calm_here e = ap (left rank) (sym turn.next) ∙ e

    pub same_length : (length t.nodes ≡ length s.nodes) × (length t.wires ≡ length s.wires)
    same_length =
        (ap (λ (x : Standing N). length x.nodes) turn.next ∙ length_set s.nodes v turn.after, ap (λ (x : Standing N). length x.wires) turn.next ∙ length_map (answered v turn.answer) s.wires)

    pub inside_here : v < length s.nodes
    inside_here = slice_get_within s.nodes v turn.before turn.stood

    pub others_after : (Marked Marked' : ℕ → Type 0) → ((n : ℕ) → n ≢ v → Marked n → Marked' n) → ((n : ℕ) → IsTrue (readers' n) → Marked' n) → ((n : ℕ) → IsTrue (senders' n) → Marked' n)
        → (changed ≡ true → Marked' v) → OthersLeft rank Update Marked s → OthersLeft rank Update Marked' t
    others_after Marked Marked' kept of_readers of_senders of_v all =
        let P : Standing N → Type 0 = λ x. OthersLeft rank Update Marked' x in
        subst P (sym turn.next)
        (others_left rank Update laws s wired v turn.before turn.after turn.answer turn.stood turn.update Marked Marked' kept
        (λ p c e. elim (turn.tells_readers.told p c e) [ inl same ↦ inl same | inr m ↦ inr (of_readers p.receiver m) ])
        (λ p c e. elim (turn.tells_senders.told p c e) [ inl same ↦ inl same | inr m ↦ inr (of_senders p.sender m) ])
        (elim (flag_cases changed) [ inl f ↦ inl (turn.stays f) | inr f ↦ inr (of_v f) ]) all)

    pub sends_after : left rank t ≡ left rank s → (Marked Marked' : ℕ → Type 0) → ((n : ℕ) → n ≢ v → Marked n → Marked' n)
        → ((p : Wire) → Contains s.wires p → p.sender ≡ v → ((answered v turn.answer p).send_state ≡ p.send_state) ⊎ Marked' p.receiver)
        → OthersSend rank Update Marked s → OthersSend rank Update Marked' t
    sends_after calm Marked Marked' kept words all =
        let P : Standing N → Type 0 = λ x. OthersSend rank Update Marked' x in
        subst P (sym turn.next)
        (others_send rank Update laws s wired v turn.before turn.after turn.answer turn.stood turn.update Marked Marked' kept words stages.0 stages.1 (calm_here calm) all)

    pub words_stay : left rank t ≡ left rank s → OthersSend rank Update nobody s → (p : Wire) → Contains s.wires p → p.sender ≡ v → (answered v turn.answer p).send_state ≡ p.send_state
    words_stay calm all =
        no_word rank Update laws s wired v turn.before turn.after turn.answer turn.stood turn.update (λ n c e. all n c e (λ x. x)) stages.0 stages.1 (calm_here calm)

    pub not_changed : left rank t ≡ left rank s → changed ≡ true → ⊥
    not_changed calm f = turn.changes f (same_stage rank s v turn.before turn.after turn.answer turn.stood stages.0 stages.1 (calm_here calm))

  -- one turn more of a sweep up
  pub up_more : (s0 s t : Standing N) (v ticks : ℕ) (here here' here'' later later' later'' : ℕ → Bool) (changed : Bool) → IsWired (length s.nodes) s.wires → SweptUp rank Update s0 s here later ticks
      → TakesOff v here here' → ((n : ℕ) → IsTrue (here' n) → v < n) → Turned rank Update s t v here' here'' later later' changed → MarksIf changed v later' later''
      → SweptUp rank Update s0 t here'' later'' (ticks + 1)
  up_more s0 s t v ticks here here' here'' later later' later'' changed wired so_far off least turn mark =
      let on = (so_far.ahead v off.was).0 in
      let less = fewer s t v here' here'' later later' changed wired turn in
      let before = so_far.less in
      let same = same_length s t v here' here'' later later' changed wired turn in
      let same_nodes = same.0 in
      record {
        reached = one_more s t v here' here'' later later' changed wired turn s0 so_far.reached;
        others = others_after s t v here' here'' later later' changed wired turn (either here later) (either here'' later'')
            (λ n other m. elim m [ inl h ↦ inl (turn.tells_readers.kept n (off.others n other ∙ h)) | inr l ↦ inr (mark.kept n (turn.tells_senders.kept n l)) ])
            (λ n m. inl m) (λ n m. inr (mark.kept n m)) (λ f. inr (mark.marked f)) so_far.others;
        less = omega (arith, less, before);
        calm = λ e.
            let was : left rank s ≡ left rank s0 = omega (arith, less, before, e) in
            sends_after s t v here' here'' later later' changed wired turn (e ∙ sym was) (λ n. IsTrue (here n)) (λ n. IsTrue (here'' n)) (λ n other h. turn.tells_readers.kept n (off.others n other ∙ h))
            turn.tells_readers.told (so_far.calm was);
        ahead = λ n m. elim (turn.tells_readers.only n m) [
          | inl h ↦
              let above = least n h in
              let ahead = (so_far.ahead n (sym (off.others n (λ e. absurd (omega (arith, above, e)))) ∙ h)).1 in
              (omega (arith, above, on), omega (arith, ahead, same_nodes))
          | inr (p, c, e, r, w) ↦ let f = wired.forward p c in let forward = f.0 in let inside = f.1 in (omega (arith, forward, e, r, on), omega (arith, inside, r, same_nodes))
        ];
        few = let room = (so_far.ahead v off.was).1 in omega (arith, on, room, same_nodes);
        inside = λ n m. elim (mark.only n m) [
          | inl l ↦ elim (turn.tells_senders.only n l) [
            | inl k ↦ let i = so_far.inside n k in omega (arith, i, same_nodes)
            | inr (p, c, e, r, w) ↦ let f = wired.forward p c in let forward = f.0 in let inside = f.1 in omega (arith, forward, inside, r, same_nodes)
          ]
          | inr (e, f) ↦ let i = inside_here s t v here' here'' later later' changed wired turn in omega (arith, i, e, same_nodes)
        ];
        as_many = (same.0 ∙ so_far.as_many.0, same.1 ∙ so_far.as_many.1);
      }

  -- one turn more of a sweep down
  pub down_more : (s0 s t : Standing N) (v ticks : ℕ) (here here' here'' later later' later'' : ℕ → Bool) (changed : Bool) → IsWired (length s.nodes) s.wires → SweptDown rank Update s0 s here later ticks
      → TakesOff v here here' → ((n : ℕ) → IsTrue (here' n) → n < v) → Turned rank Update s t v later later' here' here'' changed → MarksIf changed v later' later''
      → SweptDown rank Update s0 t here'' later'' (ticks + 1)
  down_more s0 s t v ticks here here' here'' later later' later'' changed wired so_far off greatest turn mark =
      let on = so_far.ahead v off.was in
      let less = fewer s t v later later' here' here'' changed wired turn in
      let before = so_far.less in
      let same = same_length s t v later later' here' here'' changed wired turn in
      let same_nodes = same.0 in
      record {
        reached = one_more s t v later later' here' here'' changed wired turn s0 so_far.reached;
        others = others_after s t v later later' here' here'' changed wired turn (either here later) (either here'' later'')
            (λ n other m. elim m [ inl h ↦ inl (turn.tells_senders.kept n (off.others n other ∙ h)) | inr l ↦ inr (mark.kept n (turn.tells_readers.kept n l)) ])
            (λ n m. inr (mark.kept n m)) (λ n m. inl m) (λ f. inr (mark.marked f)) so_far.others;
        less = omega (arith, less, before);
        calm = λ e all.
            let was : left rank s ≡ left rank s0 = omega (arith, less, before, e) in
            let now = e ∙ sym was in
            let old = so_far.calm was all in
            let words = words_stay s t v later later' here' here'' changed wired turn now old.0 in (
              sends_after s t v later later' here' here'' changed wired turn now nobody nobody (λ n other b. b) (λ p c d. inl (words p c d)) old.0,
              (λ n m. elim (mark.only n m) [
                | inl l ↦ elim (turn.tells_readers.only n l) [ inl k ↦ old.1 n k | inr (p, c, d, r, w) ↦ w (words p c d) ]
                | inr (d, f) ↦ not_changed s t v later later' here' here'' changed wired turn now f
              ]),
            );
        ahead = λ n m. elim (turn.tells_senders.only n m) [
          | inl h ↦ let below = greatest n h in omega (arith, below, on, same_nodes)
          | inr (p, c, e, r, w) ↦ let forward = (wired.forward p c).0 in omega (arith, forward, e, r, on, same_nodes)
        ];
        few = omega (arith, on, same_nodes);
        inside = λ n m. elim (mark.only n m) [
          | inl l ↦ elim (turn.tells_readers.only n l) [
            | inl k ↦ let i = so_far.inside n k in omega (arith, i, same_nodes)
            | inr (p, c, e, r, w) ↦ let inside = (wired.forward p c).1 in omega (arith, inside, r, same_nodes)
          ]
          | inr (e, f) ↦ let i = inside_here s t v later later' here' here'' changed wired turn in omega (arith, i, e, same_nodes)
        ];
        as_many = (same.0 ∙ so_far.as_many.0, same.1 ∙ so_far.as_many.1);
      }

  module _ (s : Standing N) (here later : ℕ → Bool) (empty : (n : ℕ) → later n ≡ false) (all : OthersLeft rank Update (λ n. IsTrue (here n)) s) (inside : (n : ℕ) → IsTrue (here n) → n < length s.nodes) where
    both : OthersLeft rank Update (either here later) s
    both n b at unmarked = all n b at (λ h. unmarked (inl h))

    -- sweeps begin
    pub up_start : SweptUp rank Update s s here later 0
    up_start =
        record {
          reached = no_update;
          others = both;
          less = omega arith;
          calm = λ e n b at unmarked. sends rank Update laws s n b (all n b at unmarked);
          ahead = λ n h. (omega arith, inside n h);
          few = omega arith;
          inside = λ n l. absurd (truth (later n) (empty n) l);
          as_many = (refl, refl);
        }

    pub down_start : SweptDown rank Update s s here later 0
    down_start =
        record {
          reached = no_update;
          others = both;
          less = omega arith;
          calm = λ e sent. (sent, (λ n. truth (later n) (empty n)));
          ahead = λ n h. let i = inside n h in omega (arith, i);
          few = omega arith;
          inside = λ n l. absurd (truth (later n) (empty n) l);
          as_many = (refl, refl);
        }

  -- where nothing is marked the graph has come to rest
  pub at_rest : (s : Standing N) (here : ℕ → Bool) → IsWired (length s.nodes) s.wires → OthersLeft rank Update (λ n. IsTrue (here n)) s → ((n : ℕ) → here n ≡ false) → IsSettled rank Update s
  at_rest s here wired all empty = settled rank Update laws s wired (λ n b at. all n b at (truth (here n) (empty n)))

  pub of_later : (s : Standing N) (here later : ℕ → Bool) → ((n : ℕ) → here n ≡ false) → OthersLeft rank Update (either here later) s → OthersLeft rank Update (λ n. IsTrue (later n)) s
  of_later s here later empty all n b at unmarked = all n b at (λ m. elim m [ inl h ↦ truth (here n) (empty n) h | inr l ↦ unmarked l ])

  -- all nodes are marked at first
  pub first_marks : (s : Standing N) (here : ℕ → Bool) → ((n : ℕ) → n < length s.nodes → IsTrue (here n)) → ((n : ℕ) → IsTrue (here n) → n < length s.nodes) → Swept rank Update s s here 0
  first_marks s here all inside =
      let at_most = left_at_most rank s in
      record {
        reached = no_update;
        others = λ n b at unmarked. absurd (unmarked (all n (slice_get_within s.nodes n b at)));
        inside = inside;
        as_many = (refl, refl);
        cost = let product = mul-le-mul_left (2 * length s.nodes) at_most in omega (arith, product);
      }

  -- a sweep that isn't over keeps within the limit, since it has as many updates as there are nodes at most
  pub begun_within : (s0 s : Standing N) (first : ℕ → Bool) (ticks : ℕ) → Swept rank Update s0 s first ticks → ticks + length s0.nodes ≤ update_limit (length s0.nodes) (length s0.wires)
  begun_within s0 s first ticks so_far =
      let cost = so_far.cost in
      let limit : update_limit (length s0.nodes) (length s0.wires) ≡ 2 * length s0.nodes * (2 * length s0.wires + 2 * length s0.nodes) + 4 * length s0.nodes = grind arith in
      omega (arith, cost, limit)

  module _ (s0 s t : Standing N) (first here second : ℕ → Bool) (ticks up : ℕ) (so_far : Swept rank Update s0 s first ticks) (swept_up : SweptUp rank Update s t here second up) where
    most : ℕ
    most = 2 * length s0.nodes * (2 * length s0.wires + 2 * length s0.nodes)

    limit_is : update_limit (length s0.nodes) (length s0.wires) ≡ 2 * length s0.nodes * (2 * length s0.wires + 2 * length s0.nodes) + 4 * length s0.nodes
    limit_is = grind arith

    few_up : up ≤ length s0.nodes
    few_up = let a = swept_up.few in let b = swept_up.as_many.0 in let c = so_far.as_many.0 in omega (arith, a, b, c)

    pub so_many : (length t.nodes ≡ length s0.nodes) × (length t.wires ≡ length s0.wires)
    so_many = (swept_up.as_many.0 ∙ so_far.as_many.0, swept_up.as_many.1 ∙ so_far.as_many.1)

    pub up_reached : Updates rank Update s0 t
    up_reached = after rank Update s0 s t so_far.reached swept_up.reached

    -- a sweep up keeps within the limit
    pub up_within : ticks + up ≤ update_limit (length s0.nodes) (length s0.wires)
    up_within = let cost = so_far.cost in let few = few_up in let limit = limit_is in omega (arith, cost, few, limit)

    pub half_within : ticks + up + length s0.nodes ≤ update_limit (length s0.nodes) (length s0.wires)
    half_within = let cost = so_far.cost in let few = few_up in let limit = limit_is in omega (arith, cost, few, limit)

    module _ (up_over : (n : ℕ) → here n ≡ false) (r : Standing N) (here' later : ℕ → Bool) (down : ℕ) (swept_down : SweptDown rank Update t r here' later down) where
      few_down : down ≤ length s0.nodes
      few_down = let a = swept_down.few in let b = swept_down.as_many.0 in let c = so_many.0 in omega (arith, a, b, c)

      pub down_reached : Updates rank Update s0 r
      down_reached = after rank Update s0 t r up_reached swept_down.reached

      pub down_so_many : (length r.nodes ≡ length s0.nodes) × (length r.wires ≡ length s0.wires)
      down_so_many = (swept_down.as_many.0 ∙ so_many.0, swept_down.as_many.1 ∙ so_many.1)

      -- and so does one down after it
      pub down_within : ticks + up + down ≤ update_limit (length s0.nodes) (length s0.wires)
      down_within = let cost = so_far.cost in let few = few_up in let few' = few_down in let limit = limit_is in omega (arith, cost, few, few', limit)

      -- where something is marked after both, something changed for good
      pub less : ¬ ((n : ℕ) → later n ≡ false) → left rank r < left rank s
      less some =
          let a = swept_down.less in
          let b = swept_up.less in
          elim (cases_eq (left rank r) (left rank s)) [
            | inl e ↦
                let up_calm : left rank t ≡ left rank s = omega (arith, a, b, e) in
                let down_calm : left rank r ≡ left rank t = omega (arith, a, b, e) in
                let all : OthersSend rank Update nobody t = λ n c at x. swept_up.calm up_calm n c at (truth (here n) (up_over n)) in
                absurd (some (λ n. elim (flag_cases (later n)) [ inl f ↦ f | inr m ↦ absurd ((swept_down.calm down_calm all).1 n m) ]))
            | inr d ↦ omega (arith, a, b, d)
          ]

      pub both_swept : ((n : ℕ) → here' n ≡ false) → ¬ ((n : ℕ) → later n ≡ false) → Swept rank Update s0 r later (ticks + up + down)
      both_swept down_over some =
          let cost = so_far.cost in
          let few = few_up in
          let few' = few_down in
          let more = mul-le-mul_left (2 * length s0.nodes) (less some) in
          let product : 2 * length s0.nodes * suc (left rank r) ≡ 2 * length s0.nodes * left rank r + 2 * length s0.nodes = grind arith in
          record {
            reached = down_reached;
            others = of_later r here' later down_over swept_down.others;
            inside = swept_down.inside;
            as_many = down_so_many;
            cost = omega (arith, cost, few, few', more, product);
          }
