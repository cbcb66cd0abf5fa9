-- Any graph whose updates keep the laws comes to rest by some list of updates, or one of its nodes stops it.
use Rattle.std.proofs.Common.{◌≡◌, ◌≢◌, ℕ, zero, suc, ◌+◌, ◌*◌, ◌<◌, ◌≤◌, ◌⊎◌, Bool, true, false, List, [], ◌∷◌, length, Some, refl, sym, ap, subst, ◌∙◌, inl, inr, arith}
use Rattle.std.specs.Prelude.{Contains, IsTrue, nat_eq, nat_lt, not, slice_get, ◌&&◌, ◌||◌}
use Rattle.std.specs.List.{list_any}
use Rattle.std.proofs.Math.Nat.{mul-le-mul_left}
use Rattle.std.proofs.lemmas.Bool.{cases_eq}
use Rattle.std.proofs.lemmas.Bool.Decides.{nat_tests}
use Rattle.std.proofs.lemmas.Option.{slice_get_within}
use Rattle.ps_ports.specs.declared.port_state.PortState.{PortState}
use Rattle.ps_ports.specs.declared.port_state.PortState.TheVariants as port
use Rattle.ps_ports.specs.Ports.{Sides}
use Rattle.ps_ports.specs.UpdateLaws.{KeepsUpdateLaws}
use Rattle.ps_ports.specs.Wires.{IsWired, Wire, given_to}
use Rattle.ps_settle.specs.Standings.{IsSettled, Standing, no_update, updated}
use Rattle.ps_settle.specs.Sweeps.{MarksIf, OthersLeft, Swept, SweptDown, SweptUp, TakesOff, TellsReaders, TellsSenders, Turned, answered, left}
use Rattle.ps_settle.proofs.Changes.{left_at_most}
use Rattle.ps_settle.proofs.Members.{contains_cases, contains_first, contains_later, item_at, none_in_nil}
use Rattle.ps_settle.proofs.Passes.{at_rest, down_more, down_start, less, of_later, up_more, up_start}

-- TESTS
both : (a b : Bool) → (a && b) ≡ true → (a ≡ true) × (b ≡ true)
both true b e = (refl, e)
both false b e = absurd (let no : false ≡ true = e in cc)

join : (a b : Bool) → a ≡ true → b ≡ true → (a && b) ≡ true
join a b e d = λ i. e i && d i

one_of : (a b : Bool) → (a || b) ≡ true → (a ≡ true) ⊎ (b ≡ true)
one_of true b e = inl refl
one_of false b e = inr e

first : (a b : Bool) → a ≡ true → (a || b) ≡ true
first true b e = refl
first false b e = absurd (let no : false ≡ true = e in cc)

second : (a b : Bool) → b ≡ true → (a || b) ≡ true
second true b e = refl
second false b e = e

not_true : (b : Bool) → not b ≡ true → b ≡ false
not_true false e = refl
not_true true e = absurd (let no : false ≡ true = e in cc)

decided : (b : Bool) → (b ≡ true) ⊎ (b ≡ false)
decided true = inl refl
decided false = inr refl

never : (b : Bool) → ¬ (b ≡ true) → b ≡ false
never true h = absurd (h refl)
never false h = refl

same_number : (m n : ℕ) → m ≡ n → nat_eq m n ≡ true
same_number m n e = grind (arith, nat_tests)

other_number : (m n : ℕ) → m ≢ n → nat_eq m n ≡ false
other_number m n h = grind (arith, nat_tests)

is_number : (m n : ℕ) → nat_eq m n ≡ true → m ≡ n
is_number m n e = grind (arith, nat_tests)

not_number : (m n : ℕ) → nat_eq m n ≡ false → m ≢ n
not_number m n e = grind (arith, nat_tests)

is_below : (m n : ℕ) → m < n → nat_lt m n ≡ true
is_below m n h = grind (arith, nat_tests)

was_below : (m n : ℕ) → nat_lt m n ≡ true → m < n
was_below m n e = grind (arith, nat_tests)

not_false : (b : Bool) → not b ≡ false → b ≡ true
not_false true e = refl
not_false false e = absurd (let no : true ≡ false = e in cc)

-- whether two states differ
differ : PortState → PortState → Bool
differ port.Blocked port.Blocked = false
differ port.Blocked port.Ready = true
differ port.Blocked port.Done = true
differ port.Ready port.Blocked = true
differ port.Ready port.Ready = false
differ port.Ready port.Done = true
differ port.Done port.Blocked = true
differ port.Done port.Ready = true
differ port.Done port.Done = false

same_state : (s t : PortState) → differ s t ≡ false → s ≡ t
unfolding differ
same_state port.Blocked port.Blocked e = refl
same_state port.Ready port.Ready e = refl
same_state port.Done port.Done e = refl
same_state port.Blocked port.Ready e = absurd (let no : true ≡ false = e in cc)
same_state port.Blocked port.Done e = absurd (let no : true ≡ false = e in cc)
same_state port.Ready port.Blocked e = absurd (let no : true ≡ false = e in cc)
same_state port.Ready port.Done e = absurd (let no : true ≡ false = e in cc)
same_state port.Done port.Blocked e = absurd (let no : true ≡ false = e in cc)
same_state port.Done port.Ready e = absurd (let no : true ≡ false = e in cc)

itself : (s : PortState) → differ s s ≡ false
unfolding differ
itself port.Blocked = refl
itself port.Ready = refl
itself port.Done = refl

other_state : (s t : PortState) → differ s t ≡ true → s ≢ t
other_state s t e q = let no : true ≡ false = sym e ∙ ap (differ s) (sym q) ∙ itself s in absurd cc

-- one of a list passes a test
some_any : {A : Type 0} (t : A → Bool) (xs : List A) (x : A) → Contains xs x → t x ≡ true → list_any t xs ≡ true
some_any t [] x c e = absurd (none_in_nil x c)
some_any t (y ∷ ys) x c e = by (λ later. some_any t ys x later e) (contains_cases y x ys c)
  where
    by : (Contains ys x → list_any t ys ≡ true) → (y ≡ x) ⊎ Contains ys x → (t y || list_any t ys) ≡ true
    by rest (inl same) = first (t y) (list_any t ys) (ap t same ∙ e)
    by rest (inr later) = second (t y) (list_any t ys) (rest later)

any_some : {A : Type 0} (t : A → Bool) (xs : List A) → list_any t xs ≡ true → (x : A) × Contains xs x × (t x ≡ true)
any_some t [] e = absurd (let no : false ≡ true = e in cc)
any_some {A} t (y ∷ ys) e = by (any_some t ys) (one_of (t y) (list_any t ys) e)
  where
    by : (list_any t ys ≡ true → (x : A) × Contains ys x × (t x ≡ true)) → (t y ≡ true) ⊎ (list_any t ys ≡ true) → (x : A) × Contains (y ∷ ys) x × (t x ≡ true)
    by rest (inl here) = (y, contains_first y y ys refl, here)
    by rest (inr later) = let r = rest later in (r.0, contains_later y r.0 ys r.1, r.2)

-- MARKS
-- taken off one node, and set on one
without : ℕ → (ℕ → Bool) → ℕ → Bool
without v marks n = marks n && not (nat_eq n v)

also : Bool → ℕ → (ℕ → Bool) → ℕ → Bool
also flag v marks n = marks n || (flag && nat_eq n v)

and_false : (b : Bool) → (b && not true) ≡ false
and_false true = refl
and_false false = refl

and_true : (b : Bool) → (b && not false) ≡ b
and_true true = refl
and_true false = refl

takes_off : (v : ℕ) (marks : ℕ → Bool) → marks v ≡ true → TakesOff v marks (without v marks)
unfolding without
takes_off v marks was =
    record {
      was = was;
      gone = ap (λ b. marks v && not b) (same_number v v refl) ∙ and_false (marks v);
      others = λ n h. ap (λ b. marks n && not b) (other_number n v h) ∙ and_true (marks n);
    }

left_marks : (v : ℕ) (marks : ℕ → Bool) (n : ℕ) → without v marks n ≡ true → (marks n ≡ true) × (n ≢ v)
unfolding without
left_marks v marks n e = let parts = both (marks n) (not (nat_eq n v)) e in (parts.0, not_number n v (not_true (nat_eq n v) parts.1))

marks_also : (flag : Bool) (v : ℕ) (marks : ℕ → Bool) → MarksIf flag v marks (also flag v marks)
unfolding also
marks_also flag v marks =
    record {
      kept = λ n h. first (marks n) (flag && nat_eq n v) h;
      marked = λ f. second (marks v) (flag && nat_eq v v) (join flag (nat_eq v v) f (same_number v v refl));
      only = λ n h. elim (one_of (marks n) (flag && nat_eq n v) h) [ inl was ↦ inl was | inr new ↦ let parts = both flag (nat_eq n v) new in inr (is_number n v parts.1, parts.0) ];
    }

module _ (v : ℕ) (answer : Sides) (ws : List Wire) where
  tells_reader : ℕ → Wire → Bool
  tells_reader n p = nat_eq p.sender v && (nat_eq p.receiver n && differ (answered v answer p).send_state p.send_state)

  tells_sender : ℕ → Wire → Bool
  tells_sender n p = nat_eq p.receiver v && (nat_eq p.sender n && differ (answered v answer p).receive_state p.receive_state)

  told_readers : (ℕ → Bool) → ℕ → Bool
  told_readers marks n = marks n || list_any (tells_reader n) ws

  told_senders : (ℕ → Bool) → ℕ → Bool
  told_senders marks n = marks n || list_any (tells_sender n) ws

  tell_readers : (marks : ℕ → Bool) → TellsReaders v answer ws marks (told_readers marks)
  unfolding told_readers tells_reader
  tell_readers marks =
      record {
        kept = λ n h. first (marks n) (list_any (tells_reader n) ws) h;
        told = λ p c e. elim (decided (differ (answered v answer p).send_state p.send_state)) [
          | inl d ↦
              inr
              (second (marks p.receiver) (list_any (tells_reader p.receiver) ws)
              (some_any (tells_reader p.receiver) ws p c
              (join (nat_eq p.sender v) (nat_eq p.receiver p.receiver && differ (answered v answer p).send_state p.send_state) (same_number p.sender v e)
              (join (nat_eq p.receiver p.receiver) (differ (answered v answer p).send_state p.send_state) (same_number p.receiver p.receiver refl) d))))
          | inr d ↦ inl (same_state (answered v answer p).send_state p.send_state d)
        ];
        only = λ n h. elim (one_of (marks n) (list_any (tells_reader n) ws) h) [
          | inl was ↦ inl was
          | inr some ↦
              let p = any_some (tells_reader n) ws some in
              let parts = both (nat_eq p.0.sender v) (nat_eq p.0.receiver n && differ (answered v answer p.0).send_state p.0.send_state) p.2 in
              let rest = both (nat_eq p.0.receiver n) (differ (answered v answer p.0).send_state p.0.send_state) parts.1 in
              inr (p.0, p.1, is_number p.0.sender v parts.0, is_number p.0.receiver n rest.0, other_state (answered v answer p.0).send_state p.0.send_state rest.1)
        ];
      }

  tell_senders : (marks : ℕ → Bool) → TellsSenders v answer ws marks (told_senders marks)
  unfolding told_senders tells_sender
  tell_senders marks =
      record {
        kept = λ n h. first (marks n) (list_any (tells_sender n) ws) h;
        told = λ p c e. elim (decided (differ (answered v answer p).receive_state p.receive_state)) [
          | inl d ↦
              inr
              (second (marks p.sender) (list_any (tells_sender p.sender) ws)
              (some_any (tells_sender p.sender) ws p c
              (join (nat_eq p.receiver v) (nat_eq p.sender p.sender && differ (answered v answer p).receive_state p.receive_state) (same_number p.receiver v e)
              (join (nat_eq p.sender p.sender) (differ (answered v answer p).receive_state p.receive_state) (same_number p.sender p.sender refl) d))))
          | inr d ↦ inl (same_state (answered v answer p).receive_state p.receive_state d)
        ];
        only = λ n h. elim (one_of (marks n) (list_any (tells_sender n) ws) h) [
          | inl was ↦ inl was
          | inr some ↦
              let p = any_some (tells_sender n) ws some in
              let parts = both (nat_eq p.0.receiver v) (nat_eq p.0.sender n && differ (answered v answer p.0).receive_state p.0.receive_state) p.2 in
              let rest = both (nat_eq p.0.sender n) (differ (answered v answer p.0).receive_state p.0.receive_state) parts.1 in
              inr (p.0, p.1, is_number p.0.receiver v parts.0, is_number p.0.sender n rest.0, other_state (answered v answer p.0).receive_state p.0.receive_state rest.1)
        ];
      }

-- no node is marked, or one of the first is
some_marked : (marks : ℕ → Bool) (k : ℕ) → ((n : ℕ) → n < k → marks n ≡ false) ⊎ ((n : ℕ) × (marks n ≡ true))
some_marked marks zero = inl (λ n h. absurd (omega arith))
some_marked marks (suc k) = by (some_marked marks k) (decided (marks k))
  where
    by : ((n : ℕ) → n < k → marks n ≡ false) ⊎ ((n : ℕ) × (marks n ≡ true)) → (marks k ≡ true) ⊎ (marks k ≡ false) → ((n : ℕ) → n < suc k → marks n ≡ false) ⊎ ((n : ℕ) × (marks n ≡ true))
    by (inr some) d = inr some
    by (inl none) (inl d) = inr (k, d)
    by (inl none) (inr d) = inl (λ n h. elim (cases_eq n k) [ inl e ↦ ap marks e ∙ d | inr e ↦ none n (omega arith) ])

nothing : ℕ → Bool
nothing n = false

-- SWEEPS
-- Updates keep Inv, and each node at hand goes on, or stops the graph.
module _ {N : Type 0} (rank : N → ℕ) (Update : N → Sides → N → Sides → Type 0) (laws : KeepsUpdateLaws rank Update) (Stopped : Type 0) (Inv : Standing N → Type 0)
    (wired : (s : Standing N) → Inv s → IsWired (length s.nodes) s.wires)
    (step : (s : Standing N) (v : ℕ) (a b : N) (answer : Sides) → Inv s → slice_get s.nodes v ≡ Some a → Update a (given_to v s.wires) b answer → Inv (updated v b answer s))
    (next : (s : Standing N) (v : ℕ) (a : N) → Inv s → slice_get s.nodes v ≡ Some a → ((b : N) × (answer : Sides) × Update a (given_to v s.wires) b answer) ⊎ Stopped) where
  changed : N → N → Bool
  changed a b = not (nat_eq (rank a) (rank b))

  turned : (s : Standing N) (v : ℕ) (a b : N) (answer : Sides) (readers senders : ℕ → Bool) → slice_get s.nodes v ≡ Some a → Update a (given_to v s.wires) b answer
      → Turned rank Update s (updated v b answer s) v readers (told_readers v answer s.wires readers) senders (told_senders v answer s.wires senders) (changed a b)
  unfolding changed
  turned s v a b answer readers senders at u =
      record {
        before = a;
        after = b;
        answer = answer;
        stood = at;
        update = u;
        next = refl;
        stays = λ e. is_number (rank a) (rank b) (not_false (nat_eq (rank a) (rank b)) e);
        changes = λ e. not_number (rank a) (rank b) (not_true (nat_eq (rank a) (rank b)) e);
        tells_readers = tell_readers v answer s.wires readers;
        tells_senders = tell_senders v answer s.wires senders;
      }

  -- a sweep up, before one of its nodes
  record GoesUp (s0 : Standing N) (v : ℕ) : Type 0 where
    at : Standing N
    here : ℕ → Bool
    later : ℕ → Bool
    ticks : ℕ
    inv : Inv at
    swept : SweptUp rank Update s0 at here later ticks
    low : (n : ℕ) → IsTrue (here n) → v ≤ n

  turn_up : (s0 : Standing N) (v : ℕ) (g : GoesUp s0 v) → g.here v ≡ true → GoesUp s0 (suc v) ⊎ Stopped
  turn_up s0 v g marked = by (next g.at v node.0 g.inv node.1)
    where
      node : (a : N) × (slice_get g.at.nodes v ≡ Some a)
      node = item_at g.at.nodes v (g.swept.ahead v marked).1

      off : TakesOff v g.here (without v g.here)
      off = takes_off v g.here marked

      least : (n : ℕ) → IsTrue (without v g.here n) → v < n
      least n h = let m = left_marks v g.here n h in let low = g.low n m.0 in let other = m.1 in omega (arith, low, other)

      by : ((b : N) × (answer : Sides) × Update node.0 (given_to v g.at.wires) b answer) ⊎ Stopped → GoesUp s0 (suc v) ⊎ Stopped
      by (inr stop) = inr stop
      by (inl (b, answer, u)) =
          let turn = turned g.at v node.0 b answer (without v g.here) g.later node.1 u in
          inl
          (record {
            at = updated v b answer g.at;
            here = told_readers v answer g.at.wires (without v g.here);
            later = also (changed node.0 b) v (told_senders v answer g.at.wires g.later);
            ticks = g.ticks + 1;
            inv = step g.at v node.0 b answer g.inv node.1 u;
            swept = up_more rank Update laws s0 g.at (updated v b answer g.at) v g.ticks g.here (without v g.here) (told_readers v answer g.at.wires (without v g.here)) g.later (told_senders v answer g.at.wires g.later)
                (also (changed node.0 b) v (told_senders v answer g.at.wires g.later)) (changed node.0 b) (wired g.at g.inv) g.swept off least turn (marks_also (changed node.0 b) v (told_senders v answer g.at.wires g.later));
            low = λ n h. elim (turn.tells_readers.only n h) [
              | inl was ↦ least n was
              | inr (p, c, e, r, w) ↦ let f = (wired g.at g.inv).forward p c in let forward = f.0 in omega (arith, forward, e, r)
            ];
          })

  skip_up : (s0 : Standing N) (v : ℕ) (g : GoesUp s0 v) → g.here v ≡ false → GoesUp s0 (suc v)
  skip_up s0 v g unmarked =
      record {
        at = g.at;
        here = g.here;
        later = g.later;
        ticks = g.ticks;
        inv = g.inv;
        swept = g.swept;
        low = λ n h. elim (cases_eq n v) [ inl e ↦ absurd (let no : true ≡ false = sym h ∙ ap g.here e ∙ unmarked in cc) | inr e ↦ let low = g.low n h in omega (arith, low, e) ];
      }

  up : (s0 : Standing N) (d v : ℕ) → GoesUp s0 v → GoesUp s0 (v + d) ⊎ Stopped
  up s0 zero v g = inl (subst (GoesUp s0) (omega arith) g)
  up s0 (suc d) v g = by (up s0 d (suc v)) (decided (g.here v))
    where
      of_rest : GoesUp s0 (suc v + d) ⊎ Stopped → GoesUp s0 (v + suc d) ⊎ Stopped
      of_rest (inl r) = inl (subst (GoesUp s0) (omega arith) r)
      of_rest (inr stop) = inr stop

      go : (GoesUp s0 (suc v) → GoesUp s0 (suc v + d) ⊎ Stopped) → GoesUp s0 (suc v) ⊎ Stopped → GoesUp s0 (v + suc d) ⊎ Stopped
      go rest (inl r) = of_rest (rest r)
      go rest (inr stop) = inr stop

      by : (GoesUp s0 (suc v) → GoesUp s0 (suc v + d) ⊎ Stopped) → (g.here v ≡ true) ⊎ (g.here v ≡ false) → GoesUp s0 (v + suc d) ⊎ Stopped
      by rest (inl e) = go rest (turn_up s0 v g e)
      by rest (inr e) = of_rest (rest (skip_up s0 v g e))

  -- and one down, after its last so many
  record GoesDown (s0 : Standing N) (v : ℕ) : Type 0 where
    at : Standing N
    here : ℕ → Bool
    later : ℕ → Bool
    ticks : ℕ
    inv : Inv at
    swept : SweptDown rank Update s0 at here later ticks
    high : (n : ℕ) → IsTrue (here n) → n < v

  turn_down : (s0 : Standing N) (v : ℕ) (g : GoesDown s0 (suc v)) → g.here v ≡ true → GoesDown s0 v ⊎ Stopped
  turn_down s0 v g marked = by (next g.at v node.0 g.inv node.1)
    where
      node : (a : N) × (slice_get g.at.nodes v ≡ Some a)
      node = item_at g.at.nodes v (let h = g.swept.ahead v marked in omega (arith, h))

      off : TakesOff v g.here (without v g.here)
      off = takes_off v g.here marked

      greatest : (n : ℕ) → IsTrue (without v g.here n) → n < v
      greatest n h = let m = left_marks v g.here n h in let high = g.high n m.0 in let other = m.1 in omega (arith, high, other)

      by : ((b : N) × (answer : Sides) × Update node.0 (given_to v g.at.wires) b answer) ⊎ Stopped → GoesDown s0 v ⊎ Stopped
      by (inr stop) = inr stop
      by (inl (b, answer, u)) =
          let turn = turned g.at v node.0 b answer g.later (without v g.here) node.1 u in
          inl
          (record {
            at = updated v b answer g.at;
            here = told_senders v answer g.at.wires (without v g.here);
            later = also (changed node.0 b) v (told_readers v answer g.at.wires g.later);
            ticks = g.ticks + 1;
            inv = step g.at v node.0 b answer g.inv node.1 u;
            swept = down_more rank Update laws s0 g.at (updated v b answer g.at) v g.ticks g.here (without v g.here) (told_senders v answer g.at.wires (without v g.here)) g.later (told_readers v answer g.at.wires g.later)
                (also (changed node.0 b) v (told_readers v answer g.at.wires g.later)) (changed node.0 b) (wired g.at g.inv) g.swept off greatest turn (marks_also (changed node.0 b) v (told_readers v answer g.at.wires g.later));
            high = λ n h. elim (turn.tells_senders.only n h) [
              | inl was ↦ greatest n was
              | inr (p, c, e, r, w) ↦ let f = (wired g.at g.inv).forward p c in let forward = f.0 in omega (arith, forward, e, r)
            ];
          })

  skip_down : (s0 : Standing N) (v : ℕ) (g : GoesDown s0 (suc v)) → g.here v ≡ false → GoesDown s0 v
  skip_down s0 v g unmarked =
      record {
        at = g.at;
        here = g.here;
        later = g.later;
        ticks = g.ticks;
        inv = g.inv;
        swept = g.swept;
        high = λ n h. elim (cases_eq n v) [ inl e ↦ absurd (let no : true ≡ false = sym h ∙ ap g.here e ∙ unmarked in cc) | inr e ↦ let high = g.high n h in omega (arith, high, e) ];
      }

  down : (s0 : Standing N) (v : ℕ) → GoesDown s0 v → GoesDown s0 0 ⊎ Stopped
  down s0 zero g = inl g
  down s0 (suc v) g = by (down s0 v) (decided (g.here v))
    where
      go : (GoesDown s0 v → GoesDown s0 0 ⊎ Stopped) → GoesDown s0 v ⊎ Stopped → GoesDown s0 0 ⊎ Stopped
      go rest (inl r) = rest r
      go rest (inr stop) = inr stop

      by : (GoesDown s0 v → GoesDown s0 0 ⊎ Stopped) → (g.here v ≡ true) ⊎ (g.here v ≡ false) → GoesDown s0 0 ⊎ Stopped
      by rest (inl e) = go rest (turn_down s0 v g e)
      by rest (inr e) = rest (skip_down s0 v g e)

  -- REST
  -- a graph in which all that aren't marked were left by an update
  record GoesOn (fuel : ℕ) : Type 0 where
    at : Standing N
    here : ℕ → Bool
    inv : Inv at
    others : OthersLeft rank Update (λ n. IsTrue (here n)) at
    inside : (n : ℕ) → IsTrue (here n) → n < length at.nodes
    few : left rank at < fuel

  abbrev Rests : Type 0
  Rests = ((t : Standing N) × Inv t × IsSettled rank Update t) ⊎ Stopped

  begun : (fuel : ℕ) (g : GoesOn fuel) → Swept rank Update g.at g.at g.here 0
  begun fuel g =
      let at_most = left_at_most rank g.at in
      record {
        reached = no_update;
        others = g.others;
        inside = g.inside;
        as_many = (refl, refl);
        cost = let product = mul-le-mul_left (2 * length g.at.nodes) at_most in omega (arith, product);
      }

  up_first : (fuel : ℕ) (g : GoesOn fuel) → GoesUp g.at 0
  unfolding nothing
  up_first fuel g =
      record {
        at = g.at;
        here = g.here;
        later = nothing;
        ticks = 0;
        inv = g.inv;
        swept = up_start rank Update laws g.at g.here nothing (λ n. refl) g.others g.inside;
        low = λ n h. omega arith;
      }

  -- a sweep up that is over leaves nothing marked on its way
  up_over : (s0 : Standing N) (v : ℕ) (g : GoesUp s0 v) → length g.at.nodes ≤ v → (n : ℕ) → g.here n ≡ false
  up_over s0 v g h n = never (g.here n) (λ m. let low = g.low n m in let ahead = (g.swept.ahead n m).1 in absurd (omega (arith, low, ahead, h)))

  down_over : (s0 : Standing N) (g : GoesDown s0 0) (n : ℕ) → g.here n ≡ false
  down_over s0 g n = never (g.here n) (λ m. let high = g.high n m in absurd (omega (arith, high)))

  down_first : (s0 : Standing N) (v : ℕ) (g : GoesUp s0 v) → length g.at.nodes ≤ v → GoesDown g.at (length g.at.nodes)
  unfolding nothing
  down_first s0 v g h =
      record {
        at = g.at;
        here = g.later;
        later = nothing;
        ticks = 0;
        inv = g.inv;
        swept = down_start rank Update laws g.at g.later nothing (λ n. refl) (of_later rank Update laws g.at g.here g.later (up_over s0 v g h) g.swept.others) g.swept.inside;
        high = g.swept.inside;
      }

  -- both sweeps lead to rest, or less is left
  after_both : (fuel : ℕ) (g : GoesOn (suc fuel)) (u : GoesUp g.at (0 + length g.at.nodes)) (d : GoesDown u.at 0) → (GoesOn fuel → Rests) → Rests
  after_both fuel g u d more = by (some_marked d.later (length d.at.nodes))
    where
      long : length u.at.nodes ≤ 0 + length g.at.nodes
      long = let e = u.swept.as_many.0 in omega (arith, e)

      over : (n : ℕ) → u.here n ≡ false
      over = up_over g.at (0 + length g.at.nodes) u long

      others : OthersLeft rank Update (λ n. IsTrue (d.later n)) d.at
      others = of_later rank Update laws d.at d.here d.later (down_over u.at d) d.swept.others

      by : ((n : ℕ) → n < length d.at.nodes → d.later n ≡ false) ⊎ ((n : ℕ) × (d.later n ≡ true)) → Rests
      by (inl none) =
          inl (d.at, d.inv, at_rest rank Update laws d.at d.later (wired d.at d.inv) others (λ n. never (d.later n) (λ m. let no : true ≡ false = sym m ∙ none n (d.swept.inside n m) in absurd cc)))
      by (inr (m, e)) =
          let some : ¬ ((n : ℕ) → d.later n ≡ false) = λ all. let no : true ≡ false = sym e ∙ all m in absurd cc in
          let fewer = less rank Update laws g.at g.at u.at g.here u.here u.later 0 u.ticks (begun (suc fuel) g) u.swept over d.at d.here d.later d.ticks d.swept some in
          let few = g.few in
          more (record { at = d.at; here = d.later; inv = d.inv; others = others; inside = d.swept.inside; few = omega (arith, fewer, few) })

  rounds : (fuel : ℕ) → GoesOn fuel → Rests
  rounds zero g = absurd (let few = g.few in omega (arith, few))
  rounds (suc fuel) g = by (rounds fuel) (up g.at (length g.at.nodes) 0 (up_first (suc fuel) g))
    where
      long : (u : GoesUp g.at (0 + length g.at.nodes)) → length u.at.nodes ≤ 0 + length g.at.nodes
      long u = let e = u.swept.as_many.0 in omega (arith, e)

      then_down : (GoesOn fuel → Rests) → (u : GoesUp g.at (0 + length g.at.nodes)) → GoesDown u.at 0 ⊎ Stopped → Rests
      then_down more u (inl d) = after_both fuel g u d more
      then_down more u (inr stop) = inr stop

      by : (GoesOn fuel → Rests) → GoesUp g.at (0 + length g.at.nodes) ⊎ Stopped → Rests
      by more (inl u) = then_down more u (down u.at (length u.at.nodes) (down_first g.at (0 + length g.at.nodes) u (long u)))
      by more (inr stop) = inr stop

  pub comes_to_rest : (s : Standing N) → Inv s → ((t : Standing N) × Inv t × IsSettled rank Update t) ⊎ Stopped
  comes_to_rest s inv =
      rounds (suc (left rank s))
      (record {
        at = s;
        here = λ n. nat_lt n (length s.nodes);
        inv = inv;
        others = λ n b at unmarked. absurd (unmarked (is_below n (length s.nodes) (slice_get_within s.nodes n b at)));
        inside = λ n h. was_below n (length s.nodes) h;
        few = omega arith;
      })
