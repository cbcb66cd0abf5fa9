-- How many pieces pass a test, among those of a world and among those that workers have out.
use Rattle.std.proofs.Common.{◌≡◌, ◌≢◌, ℕ, zero, suc, ◌+◌, ◌≤◌, ◌<◌, ◌&&◌, ◌||◌, Bool, true, false, cond, not, List, [], ◌∷◌, length, set, slice_get, Option, Some, None, sym, ap, ◌∙◌, refl, arith}
use Rattle.std.specs.Prelude.{nat_eq, count_by, replicate}
use Rattle.std.specs.List.{AllByRecursion, list_any, filter as kept}
use Rattle.std.proofs.lemmas.Bool.Decides.{nat_tests}
use Rattle.std.proofs.lemmas.List.{length-replicate}
use Rattle.std.proofs.lemmas.List.Sums.{length-filter}
use Rattle.ps_turns.specs.Tasks.{Piece}
use Rattle.ps_world.specs.Answers.{without_piece}
use Rattle.ps_outs.specs.declared.outs.Out.{Out}
use Rattle.ps_outs.specs.declared.outs.Outs.{Outs}
use Rattle.ps_outs.specs.Out.{AreOut, IsOf, Place, passes, place_of, places_out}

abbrev one : Bool → ℕ
one true = 1
one false = 0

-- how many pass
abbrev many : {A : Type 0} → (A → Bool) → List A → ℕ
many test xs = length (kept test xs)

many-more : {A : Type 0} (test : A → Bool) (x : A) (xs : List A) → many test (x ∷ xs) ≡ one (test x) + many test xs
many-more {A = A} test x xs = by (test x)
  where
    by : (b : Bool) → length (cond b (x ∷ kept test xs) (kept test xs)) ≡ one b + length (kept test xs)
    by true = omega arith
    by false = omega arith

nothing : (n : ℕ) → one false + n ≡ n
nothing n = omega arith

counted : {A : Type 0} (test : A → Bool) (xs : List A) → count_by test xs ≡ many test xs
counted test xs = sym (length-filter test xs)

same-many : {A : Type 0} (f g : A → Bool) → ((x : A) → f x ≡ g x) → (xs : List A) → many f xs ≡ many g xs
same-many f g e [] = refl
same-many f g e (x ∷ xs) = many-more f x xs ∙ ap (λ b. one b + many f xs) (e x) ∙ ap (λ n. one (g x) + n) (same-many f g e xs) ∙ sym (many-more g x xs)

other : (a b : ℕ) → a ≢ b → nat_eq a b ≡ false
other a b d = grind (arith, nat_tests)

itself : (a b : ℕ) → a ≡ b → nat_eq a b ≡ true
itself a b e = grind (arith, nat_tests)

-- whose worker is another
abbrev others : ℕ → (Place → Bool) → Place → Bool
others w test p = not (nat_eq p.worker w) && test p

abbrev has_worker : ℕ → Place → Bool
has_worker w p = nat_eq p.worker w

abbrev place_at : ℕ → Out → Place
place_at k out = record { worker = k; node = out.node; input = out.input }

module _ (test : Place → Bool) where
  -- a piece is given where none was
  given : (k : ℕ) (slots : List (Option Out)) (i : ℕ) (out : Out) → slice_get slots i ≡ Some None → many test (places_out k (set slots i (Some out))) ≡ one (test (place_at (k + i) out)) + many test (places_out k slots)
  given k [] i out e = absurd (cc)
  given k (None ∷ slots) zero out e = many-more test (place_at k out) (places_out (k + 1) slots) ∙ ap (λ n. one (test (place_at n out)) + many test (places_out (k + 1) slots)) (let same : k ≡ k + 0 = omega arith in same)
  given k (Some o ∷ slots) zero out e = absurd (cc)
  given k (None ∷ slots) (suc i) out e =
      given (k + 1) slots i out e ∙ ap (λ n. one (test (place_at n out)) + many test (places_out (k + 1) slots)) (let same : k + 1 + i ≡ k + suc i = omega arith in same)
  given k (Some o ∷ slots) (suc i) out e =
      let same : k + 1 + i ≡ k + suc i = omega arith in
      let rest : many test (places_out (k + 1) (set slots i (Some out))) ≡ one (test (place_at (k + suc i) out)) + many test (places_out (k + 1) slots) = given (k + 1) slots i out e ∙ ap (λ n. one (test (place_at n out)) + many test (places_out (k + 1) slots)) same in
      let before = many-more test (place_at k o) (places_out (k + 1) (set slots i (Some out))) in
      let after = many-more test (place_at k o) (places_out (k + 1) slots) in
      omega (arith, rest, before, after)

  -- the pieces of later workers are none of an earlier one's
  later : (j k : ℕ) (slots : List (Option Out)) → j < k → many (others j test) (places_out k slots) ≡ many test (places_out k slots)
  later j k [] h = refl
  later j k (None ∷ slots) h = later j (k + 1) slots (omega arith)
  later j k (Some o ∷ slots) h =
      many-more (others j test) (place_at k o) (places_out (k + 1) slots) ∙ ap (λ b. one (not b && test (place_at k o)) + many (others j test) (places_out (k + 1) slots)) (other k j (λ e. absurd (omega (arith, h, e))))
      ∙ ap (λ n. one (test (place_at k o)) + n) (later j (k + 1) slots (omega arith)) ∙ sym (many-more test (place_at k o) (places_out (k + 1) slots))

  -- a piece is taken back
  taken : (k : ℕ) (slots : List (Option Out)) (i : ℕ) → many (others (k + i) test) (places_out k slots) ≡ many test (places_out k (set slots i None))
  taken k [] i = refl
  taken k (None ∷ slots) zero = later (k + 0) (k + 1) slots (omega arith)
  taken k (Some o ∷ slots) zero =
      many-more (others (k + 0) test) (place_at k o) (places_out (k + 1) slots)
      ∙ ap (λ b. one (not b && test (place_at k o)) + many (others (k + 0) test) (places_out (k + 1) slots)) (itself k (k + 0) (omega arith))
      ∙ nothing (many (others (k + 0) test) (places_out (k + 1) slots)) ∙ later (k + 0) (k + 1) slots (omega arith)
  taken k (None ∷ slots) (suc i) = let same : k + suc i ≡ k + 1 + i = omega arith in ap (λ n. many (others n test) (places_out (k + 1) slots)) same ∙ taken (k + 1) slots i
  taken k (Some o ∷ slots) (suc i) =
      let same : k + suc i ≡ k + 1 + i = omega arith in
      many-more (others (k + suc i) test) (place_at k o) (places_out (k + 1) slots)
      ∙ ap (λ b. one (not b && test (place_at k o)) + many (others (k + suc i) test) (places_out (k + 1) slots)) (other k (k + suc i) (λ e. absurd (omega (arith, e))))
      ∙ ap (λ n. one (test (place_at k o)) + n) (ap (λ n. many (others n test) (places_out (k + 1) slots)) same ∙ taken (k + 1) slots i)
      ∙ sym (many-more test (place_at k o) (places_out (k + 1) (set slots i None)))

-- whether a worker has a piece out
abbrev has_one : Option (Option Out) → ℕ
has_one (Some (Some out)) = 1
has_one _ = 0

no-earlier : (j k : ℕ) (slots : List (Option Out)) → j < k → many (has_worker j) (places_out k slots) ≡ 0
no-earlier j k [] h = refl
no-earlier j k (None ∷ slots) h = no-earlier j (k + 1) slots (omega arith)
no-earlier j k (Some o ∷ slots) h =
    many-more (has_worker j) (place_at k o) (places_out (k + 1) slots) ∙ ap (λ b. one b + many (has_worker j) (places_out (k + 1) slots)) (other k j (λ e. absurd (omega (arith, h, e)))) ∙ nothing (many (has_worker j) (places_out (k + 1) slots)) ∙ no-earlier j (k + 1) slots (omega arith)

seat_of : (k : ℕ) (slots : List (Option Out)) (i : ℕ) → many (has_worker (k + i)) (places_out k slots) ≡ has_one (slice_get slots i)
seat_of k [] i = refl
seat_of k (None ∷ slots) zero = no-earlier (k + 0) (k + 1) slots (omega arith)
seat_of k (Some o ∷ slots) zero =
    many-more (has_worker (k + 0)) (place_at k o) (places_out (k + 1) slots) ∙ ap (λ b. one b + many (has_worker (k + 0)) (places_out (k + 1) slots)) (itself k (k + 0) (omega arith))
    ∙ ap (λ n. 1 + n) (no-earlier (k + 0) (k + 1) slots (omega arith))
seat_of k (None ∷ slots) (suc i) = let same : k + suc i ≡ k + 1 + i = omega arith in ap (λ n. many (has_worker n) (places_out (k + 1) slots)) same ∙ seat_of (k + 1) slots i
seat_of k (Some o ∷ slots) (suc i) =
    let same : k + suc i ≡ k + 1 + i = omega arith in
    many-more (has_worker (k + suc i)) (place_at k o) (places_out (k + 1) slots) ∙ ap (λ b. one b + many (has_worker (k + suc i)) (places_out (k + 1) slots)) (other k (k + suc i) (λ e. absurd (omega (arith, e))))
    ∙ nothing (many (has_worker (k + suc i)) (places_out (k + 1) slots)) ∙ ap (λ n. many (has_worker n) (places_out (k + 1) slots)) same ∙ seat_of (k + 1) slots i

-- a test that doesn't look at workers
abbrev anyone : (ℕ → ℕ → Bool) → Place → Bool
anyone test p = test p.node p.input

whoever : (test : ℕ → ℕ → Bool) (k : ℕ) (slots : List (Option Out)) → many (anyone test) (places_out k slots) ≡ many (passes test) slots
whoever test k [] = refl
whoever test k (None ∷ slots) = whoever test (k + 1) slots
whoever test k (Some o ∷ slots) =
    many-more (anyone test) (place_at k o) (places_out (k + 1) slots) ∙ ap (λ n. one (test o.node o.input) + n) (whoever test (k + 1) slots) ∙ sym (many-more (passes test) (Some o) slots)

many-zero : {A : Type 0} (test : A → Bool) (xs : List A) → many test xs ≡ 0 → kept test xs ≡ []
many-zero test xs e = none_of (kept test xs) e
  where
    none_of : {A : Type 0} (ys : List A) → length ys ≡ 0 → ys ≡ []
    none_of [] e = refl
    none_of (y ∷ ys) e = absurd (omega (arith, e))

-- nobody's worker is this one, so none passes; and the other way round
nobody : (w : ℕ) (outs : List Piece) → many (λ (p : Piece). nat_eq p.worker w) outs ≡ 0 → AllByRecursion (λ (p : Piece). p.worker ≢ w) outs
nobody w [] e = tt
nobody w (p ∷ ps) e =
    let more = many-more (λ (p : Piece). nat_eq p.worker w) p ps in
    let first : one (nat_eq p.worker w) ≡ 0 = omega (arith, more, e) in
    let rest : many (λ (p : Piece). nat_eq p.worker w) ps ≡ 0 = omega (arith, more, e) in
    ((λ same. let is : nat_eq p.worker w ≡ true = itself p.worker w same in let no : 1 ≡ 0 = sym (ap one is) ∙ first in absurd (omega (arith, no))), nobody w ps rest)

none_has : (w : ℕ) (outs : List Piece) → AllByRecursion (λ (p : Piece). p.worker ≢ w) outs → many (λ (p : Piece). nat_eq p.worker w) outs ≡ 0
none_has w [] all = refl
none_has w (p ∷ ps) all = many-more (λ (p : Piece). nat_eq p.worker w) p ps ∙ ap (λ b. one b + many (λ (p : Piece). nat_eq p.worker w) ps) (other p.worker w all.0) ∙ nothing (many (λ (p : Piece). nat_eq p.worker w) ps) ∙ none_has w ps all.1

any-none : {A : Type 0} (test : A → Bool) (xs : List A) → list_any test xs ≡ false → many test xs ≡ 0
any-none test [] e = refl
any-none test (x ∷ xs) e = by (any-none test xs) (test x) refl e
  where
    by : (list_any test xs ≡ false → many test xs ≡ 0) → (b : Bool) → test x ≡ b → (b || list_any test xs) ≡ false → many test (x ∷ xs) ≡ 0
    by rest true t e = absurd (cc)
    by rest false t e = many-more test x xs ∙ ap (λ b. one b + many test xs) t ∙ nothing (many test xs) ∙ rest e

none-any : {A : Type 0} (test : A → Bool) (xs : List A) → many test xs ≡ 0 → list_any test xs ≡ false
none-any test [] e = refl
none-any test (x ∷ xs) e = by (none-any test xs) (test x) refl (sym (many-more test x xs) ∙ e)
  where
    by : (many test xs ≡ 0 → list_any test xs ≡ false) → (b : Bool) → test x ≡ b → one (test x) + many test xs ≡ 0 → (test x || list_any test xs) ≡ false
    by rest true t e = let more = ap one t in absurd (omega (arith, e, more))
    by rest false t e = ap (λ b. b || list_any test xs) t ∙ rest (omega (arith, e))

seat-cases : (w : ℕ) (slots : List (Option Out)) → has_one (slice_get slots w) ≡ 0 → w < length slots → slice_get slots w ≡ Some None
seat-cases w [] e h = absurd (omega (arith, h))
seat-cases zero (None ∷ slots) e h = refl
seat-cases zero (Some out ∷ slots) e h = absurd (omega (arith, e))
seat-cases (suc w) (slot ∷ slots) e h = seat-cases w slots e (omega (arith, h))

seat-there : (w : ℕ) (slots : List (Option Out)) → slice_get slots w ≡ Some None → w < length slots
seat-there w [] e = absurd (cc)
seat-there zero (slot ∷ slots) e = omega arith
seat-there (suc w) (slot ∷ slots) e = let rest = seat-there w slots e in omega (arith, rest)

length-same : (w : ℕ) (slots : List (Option Out)) (x : Option Out) → length (set slots w x) ≡ length slots
length-same w [] x = refl
length-same zero (slot ∷ slots) x = refl
length-same (suc w) (slot ∷ slots) x = let rest = length-same w slots x in omega (arith, rest)

beyond : (w : ℕ) (slots : List (Option Out)) (x : Option Out) → length slots ≤ w → set slots w x ≡ slots
beyond w [] x h = refl
beyond zero (slot ∷ slots) x h = absurd (omega (arith, h))
beyond (suc w) (slot ∷ slots) x h = ap (λ l. slot ∷ l) (beyond w slots x (omega (arith, h)))

kept-kept : {A : Type 0} (f g : A → Bool) (xs : List A) → many f (kept g xs) ≡ many (λ x. g x && f x) xs
kept-kept f g [] = refl
kept-kept {A = A} f g (x ∷ xs) = by (kept-kept f g xs) (g x) ∙ sym (many-more (λ x. g x && f x) x xs)
  where
    by : many f (kept g xs) ≡ many (λ x. g x && f x) xs → (b : Bool) → many f (cond b (x ∷ kept g xs) (kept g xs)) ≡ one (b && f x) + many (λ x. g x && f x) xs
    by rest true = many-more f x (kept g xs) ∙ ap (λ n. one (f x) + n) rest
    by rest false = rest ∙ sym (nothing (many (λ x. g x && f x) xs))

module _ (workers : ℕ) (outs : List Piece) (h : Outs) (out : AreOut workers outs h) where
  pub count_is : (test : ℕ → ℕ → Bool) → count_by (passes test) h.by_worker.items ≡ count_by (λ (p : Piece). test p.node p.input) outs
  count_is test = counted (passes test) h.by_worker.items ∙ sym (whoever test 0 h.by_worker.items) ∙ sym (counted (anyone test) (places_out 0 h.by_worker.items)) ∙ sym (out.alike (anyone test))

  pub has_none : (n : ℕ) → list_any (passes (λ m i. nat_eq m n)) h.by_worker.items ≡ false → kept (λ (p : Piece). nat_eq p.node n) outs ≡ []
  has_none n e =
      many-zero (λ (p : Piece). nat_eq p.node n) outs
      (sym (counted (λ (p : Piece). nat_eq p.node n) outs) ∙ sym (count_is (λ m i. nat_eq m n)) ∙ counted (passes (λ m i. nat_eq m n)) h.by_worker.items ∙ any-none (passes (λ m i. nat_eq m n)) h.by_worker.items e)

  pub none_out : (n : ℕ) → kept (λ (p : Piece). nat_eq p.node n) outs ≡ [] → list_any (passes (λ m i. nat_eq m n)) h.by_worker.items ≡ false
  none_out n e =
      none-any (passes (λ m i. nat_eq m n)) h.by_worker.items
      (sym (counted (passes (λ m i. nat_eq m n)) h.by_worker.items) ∙ count_is (λ m i. nat_eq m n) ∙ counted (λ (p : Piece). nat_eq p.node n) outs ∙ ap length e)

  at-seat : (w : ℕ) → many (λ (p : Piece). nat_eq p.worker w) outs ≡ has_one (slice_get h.by_worker.items w)
  at-seat w =
      sym (counted (λ (p : Piece). nat_eq p.worker w) outs) ∙ out.alike (has_worker w) ∙ counted (has_worker w) (places_out 0 h.by_worker.items)
      ∙ (let same : w ≡ 0 + w = omega arith in ap (λ n. many (has_worker n) (places_out 0 h.by_worker.items)) same) ∙ seat_of 0 h.by_worker.items w

  pub free_seat : (w : ℕ) → slice_get h.by_worker.items w ≡ Some None → (w < workers) × AllByRecursion (λ (p : Piece). p.worker ≢ w) outs
  free_seat w e = let seats = out.seats in let there = seat-there w h.by_worker.items e in (omega (arith, seats, there), nobody w outs (at-seat w ∙ ap has_one e))

  pub seat_free : (w : ℕ) → (w < workers) × AllByRecursion (λ (p : Piece). p.worker ≢ w) outs → slice_get h.by_worker.items w ≡ Some None
  seat_free w f = let seats = out.seats in let inside = f.0 in seat-cases w h.by_worker.items (sym (at-seat w) ∙ none_has w outs f.1) (omega (arith, seats, inside))

  pub gave : (w : ℕ) (o : Out) (q : Piece) (new : Outs) → new.by_worker.items ≡ set h.by_worker.items w (Some o) → slice_get h.by_worker.items w ≡ Some None → IsOf w o q → AreOut workers (q ∷ outs) new
  gave w o q new is free of =
      record {
        seats = ap length is ∙ length-same w h.by_worker.items (Some o) ∙ out.seats;
        alike = λ test.
            let place : place_of q ≡ place_at w o = λ j. record { worker = of.worker_is j; node = of.node_is j; input = of.input_is j } in
            counted (λ (p : Piece). test (place_of p)) (q ∷ outs) ∙ many-more (λ (p : Piece). test (place_of p)) q outs ∙ ap (λ x. one (test x) + many (λ (p : Piece). test (place_of p)) outs) place
            ∙ ap (λ n. one (test (place_at w o)) + n) (sym (counted (λ (p : Piece). test (place_of p)) outs) ∙ out.alike test ∙ counted test (places_out 0 h.by_worker.items))
            ∙ (let same : w ≡ 0 + w = omega arith in ap (λ n. one (test (place_at n o)) + many test (places_out 0 h.by_worker.items)) same)
            ∙ sym (given test 0 h.by_worker.items w o free) ∙ sym (counted test (places_out 0 (set h.by_worker.items w (Some o)))) ∙ ap (λ l. count_by test (places_out 0 l)) (sym is);
      }

  pub took : (w : ℕ) (q : Piece) (new : Outs) → new.by_worker.items ≡ set h.by_worker.items w None → q.worker ≡ w → AreOut workers (without_piece q outs) new
  took w q new is of =
      record {
        seats = ap length is ∙ length-same w h.by_worker.items None ∙ out.seats;
        alike = λ test.
            counted (λ (p : Piece). test (place_of p)) (without_piece q outs) ∙ kept-kept (λ (p : Piece). test (place_of p)) (λ (p : Piece). not (nat_eq p.worker q.worker)) outs
            ∙ sym (counted (λ (p : Piece). not (nat_eq p.worker q.worker) && test (place_of p)) outs) ∙ out.alike (others q.worker test) ∙ counted (others q.worker test) (places_out 0 h.by_worker.items)
            ∙ (let same : q.worker ≡ 0 + w = omega (arith, of) in ap (λ n. many (others n test) (places_out 0 h.by_worker.items)) same) ∙ taken test 0 h.by_worker.items w
            ∙ sym (counted test (places_out 0 (set h.by_worker.items w None))) ∙ ap (λ l. count_by test (places_out 0 l)) (sym is);
      }

  pub stayed : (w : ℕ) (q : Piece) → length h.by_worker.items ≤ w → q.worker ≡ w → AreOut workers (without_piece q outs) h
  stayed w q over of = took w q h (sym (beyond w h.by_worker.items None over)) of

-- no worker of so many has a piece
none_yet : (n k : ℕ) → places_out k (replicate n None) ≡ []
none_yet zero k = refl
none_yet (suc n) k = none_yet n (k + 1)

pub at_first : (n : ℕ) (h : Outs) → h.by_worker.items ≡ replicate n None → AreOut n [] h
at_first n h is = record { seats = ap length is ∙ length-replicate n None; alike = λ test. sym (ap (λ l. count_by test (places_out 0 l)) is ∙ ap (count_by test) (none_yet n 0)) }

-- no more pieces are out than there are workers
slots-many : (k : ℕ) (slots : List (Option Out)) → length (places_out k slots) ≤ length slots
slots-many k [] = omega arith
slots-many k (None ∷ slots) = let rest = slots-many (k + 1) slots in omega (arith, rest)
slots-many k (Some o ∷ slots) = let rest = slots-many (k + 1) slots in omega (arith, rest)

all-many : {A : Type 0} (xs : List A) → many (λ x. true) xs ≡ length xs
all-many [] = refl
all-many (x ∷ xs) = let rest = all-many xs in omega (arith, rest)

pub few_out : (workers : ℕ) (outs : List Piece) (h : Outs) → AreOut workers outs h → length outs ≤ workers
few_out workers outs h out =
    let same : length outs ≡ length (places_out 0 h.by_worker.items) =
    sym (all-many outs) ∙ sym (counted (λ (p : Piece). true) outs) ∙ out.alike (λ p. true) ∙ counted (λ (p : Place). true) (places_out 0 h.by_worker.items) ∙ all-many (places_out 0 h.by_worker.items) in
    let few = slots-many 0 h.by_worker.items in
    let seats = out.seats in
    omega (arith, same, few, seats)
