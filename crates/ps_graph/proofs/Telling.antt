-- An answer that is written to the pipes of a list of keys, one key more.
use Rattle.std.proofs.Common.{◌≡◌, ◌≢◌, ℕ, suc, zero, ◌<◌, ◌⊎◌, Bool, true, false, List, [], ◌∷◌, ◌++◌, length, Option, Some, None, get_or, refl, sym, ap, subst, ◌∙◌, inl, inr}
use Rattle.std.specs.Prelude.{IsTrue, ◌||◌, nat_eq, slice_get, slice_set}
use Rattle.std.proofs.lemmas.Bool.{cases_eq}
use Rattle.std.proofs.lemmas.Option.{get_or_from_slice_get}
use Rattle.keyed_slots.specs.Slots.{value_at}
use Rattle.ps_ports.specs.declared.port_state.PortState.{PortState}
use Rattle.ps_ports.specs.Phases.{is_one_of}
use Rattle.ps_ports.specs.Ports.{kept_state}
use Rattle.ps_settle.proofs.Ends.{is_number, same_number}
use Rattle.ps_settle.proofs.Members.{item_at}
use Rattle.ps_settle.proofs.Passes.{length_set}
use Rattle.ps_settle.proofs.Turns.{kept_state_twice}
use Rattle.ps_graph.specs.declared.end.End.{End}
use Rattle.ps_graph.specs.declared.end.End.TheVariants as at
use Rattle.ps_graph.specs.declared.graph.LogicalPipe.{LogicalPipe}
use Rattle.ps_graph.specs.Ends.{AreAt, Told, TellsOne, other_node, own_state, place_at, says}

pub value_set : {A : Type 0} (xs : List (Option A)) (i : ℕ) (x y : A) → value_at xs i ≡ Some x → value_at (slice_set xs i (Some y)) i ≡ Some y
value_set [] i x y e = absurd (let clash : None ≡ Some x = e in cc)
value_set (z ∷ zs) zero x y e = refl
value_set (z ∷ zs) (suc i) x y e = value_set zs i x y e

pub value_other : {A : Type 0} (xs : List (Option A)) (i j : ℕ) (y : Option A) → j ≢ i → value_at (slice_set xs i y) j ≡ value_at xs j
value_other [] i j y h = refl
value_other (z ∷ zs) zero zero y h = absurd (h refl)
value_other (z ∷ zs) zero (suc j) y h = refl
value_other (z ∷ zs) (suc i) zero y h = refl
value_other (z ∷ zs) (suc i) (suc j) y h = value_other zs i j y (λ e. h (ap suc e))

-- a number is one of a list and one more
pub one_more-cases : (k x : ℕ) (ks : List ℕ) → is_one_of k (ks ++ x ∷ []) ≡ (is_one_of k ks || nat_eq k x)
one_more-cases k x [] = or_false (nat_eq k x)
  where
    or_false : (b : Bool) → (b || false) ≡ b
    or_false true = refl
    or_false false = refl
one_more-cases k x (y ∷ ks) = ap (λ b. nat_eq k y || b) (one_more-cases k x ks) ∙ assoc (nat_eq k y) (is_one_of k ks) (nat_eq k x)
  where
    assoc : (a b c : Bool) → (a || (b || c)) ≡ ((a || b) || c)
    assoc true b c = refl
    assoc false b c = refl

either_true : (a b : Bool) → IsTrue (a || b) → IsTrue a ⊎ IsTrue b
either_true true b e = inl refl
either_true false b e = inr e

neither : (a b : Bool) → (a || b) ≡ false → (a ≡ false) × (b ≡ false)
neither true b e = absurd (let clash : true ≡ false = e in cc)
neither false b e = (refl, e)

or_left : (a b : Bool) → IsTrue a → IsTrue (a || b)
or_left true b e = refl
or_left false b e = absurd (let clash : false ≡ true = e in cc)

or_right : (a b : Bool) → IsTrue b → IsTrue (a || b)
or_right true b e = refl
or_right false b e = e

flag : (b : Bool) → (b ≡ true) ⊎ (b ≡ false)
flag true = inl refl
flag false = inr refl

-- what is said of the ends stays what it joins
pub says-place : (end : End) (states : List PortState) (p : LogicalPipe) → place_at end (says end states p) ≡ place_at end p
says-place at.Sender states p = refl
says-place at.Receiver states p = refl

pub says-other : (end : End) (states : List PortState) (p : LogicalPipe) → other_node end (says end states p) ≡ other_node end p
says-other at.Sender states p = refl
says-other at.Receiver states p = refl

pub says-own : (end : End) (states : List PortState) (p : LogicalPipe) → own_state end (says end states p) ≡ kept_state (own_state end p) (get_or states (place_at end p) (own_state end p))
says-own at.Sender states p = refl
says-own at.Receiver states p = refl

-- an answer that is written twice is written once
says_twice : (end : End) (states : List PortState) (p : LogicalPipe) → place_at end p < length states → says end states (says end states p) ≡ says end states p
says_twice end states p inside = by end p (item_at states (place_at end p) inside)
  where
    own_twice : (old new : PortState) (xs : List PortState) (i : ℕ) → slice_get xs i ≡ Some new
        → kept_state (kept_state old (get_or xs i old)) (get_or xs i (kept_state old (get_or xs i old))) ≡ kept_state old (get_or xs i old)
    own_twice old new xs i e =
        let a : get_or xs i old ≡ new = get_or_from_slice_get xs i new old e in
        let b : get_or xs i (kept_state old (get_or xs i old)) ≡ new = get_or_from_slice_get xs i new (kept_state old (get_or xs i old)) e in
        ap (kept_state (kept_state old (get_or xs i old))) b ∙ ap (λ x. kept_state (kept_state old x) new) a ∙ kept_state_twice old new ∙ sym (ap (kept_state old) a)

    by : (end : End) (p : LogicalPipe) → (x : PortState) × (slice_get states (place_at end p) ≡ Some x) → says end states (says end states p) ≡ says end states p
    by at.Sender p (x, e) = ap (λ s. record p { send_state = s }) (own_twice p.send_state x states p.send_port e)
    by at.Receiver p (x, e) = ap (λ s. record p { recv_state = s }) (own_twice p.recv_state x states p.recv_port e)

pub told_none : (end : End) (states : List PortState) (slots : List (Option LogicalPipe)) (m : ℕ → Bool) → Told end states [] slots slots m m
told_none end states slots m =
    record {
      others = λ k e. refl;
      written = λ k p e d. absurd (let clash : false ≡ true = e in cc);
      long = refl;
      kept = λ n h. h;
      told = λ k p e d. absurd (let clash : false ≡ true = e in cc);
      only = λ n h. inl h;
    }

module _ (end : End) (states : List PortState) (ks : List ℕ) (x : ℕ) (old mid new : List (Option LogicalPipe)) (m m' m'' : ℕ → Bool) (q : LogicalPipe) (so_far : Told end states ks old mid m m') (here : value_at mid x ≡ Some q)
    (inside : place_at end q < length states) (write : new ≡ slice_set mid x (Some (says end states q))) (one : TellsOne end states q m' m'') where
  at_x : value_at new x ≡ Some (says end states q)
  at_x = ap (λ xs. value_at xs x) write ∙ value_set mid x q (says end states q) here

  off_x : (k : ℕ) → k ≢ x → value_at new k ≡ value_at mid k
  off_x k h = ap (λ xs. value_at xs k) write ∙ value_other mid x k (Some (says end states q)) h

  -- the pipe that stood at x at first, and what an answer leaves of it
  first : (p : LogicalPipe) → value_at old x ≡ Some p → (place_at end p ≡ place_at end q) × (other_node end p ≡ other_node end q) × (says end states q ≡ says end states p) × ((q ≡ p) ⊎ (IsTrue (is_one_of x ks) × (own_state end (says end states q) ≡ own_state end q)))
  first p e = elim (flag (is_one_of x ks)) [
    | inl among ↦
        let is : q ≡ says end states p = (let both : Some q ≡ Some (says end states p) = sym here ∙ so_far.written x p among e in cc) in
        let place : place_at end p ≡ place_at end q = sym (ap (place_at end) is ∙ says-place end states p) in
        let twice : says end states q ≡ says end states p = ap (says end states) is ∙ says_twice end states p (subst (λ k. k < length states) (sym place) inside) in
        (place, sym (ap (other_node end) is ∙ says-other end states p), twice, inr (among, ap (own_state end) (twice ∙ sym is)))
    | inr out ↦
        let is : q ≡ p = (let both : Some q ≡ Some p = sym here ∙ so_far.others x out ∙ e in cc) in
        (sym (ap (place_at end) is), sym (ap (other_node end) is), ap (says end states) is, inl is)
  ]

  cases_of : (k : ℕ) → IsTrue (is_one_of k (ks ++ x ∷ [])) → (k ≡ x) ⊎ ((k ≢ x) × IsTrue (is_one_of k ks))
  cases_of k e = elim (cases_eq k x) [
    | inl same ↦ inl same
    | inr other ↦ inr (other, elim (either_true (is_one_of k ks) (nat_eq k x) (sym (one_more-cases k x ks) ∙ e)) [ inl h ↦ h | inr h ↦ absurd (other (is_number k x h)) ])
  ]

  back : (k : ℕ) → IsTrue (is_one_of k ks) → IsTrue (is_one_of k (ks ++ x ∷ []))
  back k e = one_more-cases k x ks ∙ or_left (is_one_of k ks) (nat_eq k x) e

  back_x : IsTrue (is_one_of x (ks ++ x ∷ []))
  back_x = one_more-cases x x ks ∙ or_right (is_one_of x ks) (nat_eq x x) (same_number x x refl)

  others_more : (k : ℕ) → is_one_of k (ks ++ x ∷ []) ≡ false → value_at new k ≡ value_at old k
  others_more k e =
      let parts = neither (is_one_of k ks) (nat_eq k x) (sym (one_more-cases k x ks) ∙ e) in
      off_x k (λ same. absurd (let clash : false ≡ true = sym parts.1 ∙ same_number k x same in cc)) ∙ so_far.others k parts.0

  written_more : (k : ℕ) (p : LogicalPipe) → IsTrue (is_one_of k (ks ++ x ∷ [])) → value_at old k ≡ Some p → value_at new k ≡ Some (says end states p)
  written_more k p e at = elim (cases_of k e) [
    | inl same ↦ let there : value_at old x ≡ Some p = ap (value_at old) (sym same) ∙ at in ap (value_at new) same ∙ at_x ∙ ap Some (first p there).2
    | inr (other, among) ↦ off_x k other ∙ so_far.written k p among at
  ]

  told_here : (k : ℕ) (p : LogicalPipe) → IsTrue (is_one_of k (ks ++ x ∷ [])) → value_at old k ≡ Some p → (own_state end (says end states p) ≡ own_state end p) ⊎ IsTrue (m'' (other_node end p))
  told_here k p e at = elim (cases_of k e) [
    | inl same ↦
        let f = first p (ap (value_at old) (sym same) ∙ at) in
        elim f.3 [
          | inl is ↦ elim one.told [ inl unchanged ↦ inl (ap (λ z. own_state end (says end states z)) (sym is) ∙ unchanged ∙ ap (own_state end) is) | inr marked ↦ inr (subst (λ n. IsTrue (m'' n)) (sym f.1) marked) ]
          | inr (among, z) ↦ elim (so_far.told x p among (ap (value_at old) (sym same) ∙ at)) [ inl unchanged ↦ inl unchanged | inr marked ↦ inr (one.kept (other_node end p) marked) ]
        ]
    | inr (other, among) ↦ elim (so_far.told k p among at) [ inl unchanged ↦ inl unchanged | inr marked ↦ inr (one.kept (other_node end p) marked) ]
  ]

  Changed : ℕ → List ℕ → Type 0
  Changed n keys = (k : ℕ) × (p : LogicalPipe) × IsTrue (is_one_of k keys) × (value_at old k ≡ Some p) × (other_node end p ≡ n) × (own_state end (says end states p) ≢ own_state end p)

  -- one key more
  pub told_more : (p : LogicalPipe) → value_at old x ≡ Some p → Told end states (ks ++ x ∷ []) old new m m''
  unfolding Changed
  told_more p at =
      let f = first p at in
      record {
        others = others_more;
        written = written_more;
        long = ap length write ∙ length_set mid x (Some (says end states q)) ∙ so_far.long;
        kept = λ n h. one.kept n (so_far.kept n h);
        told = told_here;
        only = λ n h. elim (one.only n h) [
          | inl marked ↦ elim (so_far.only n marked) [ inl was ↦ inl was | inr (k, r, among, there, node, differs) ↦ inr (k, r, back k among, there, node, differs) ]
          | inr (node, differs) ↦ elim f.3 [
            | inl is ↦ inr (x, p, back_x, at, f.1 ∙ node, λ e. differs (ap (λ z. own_state end (says end states z)) is ∙ e ∙ ap (own_state end) (sym is)))
            | inr (among, z) ↦ absurd (differs z)
          ]
        ];
      }

-- a pipe that was there is still, at the port where it was
pub there_still : (end : End) (states : List PortState) (ks : List ℕ) (old mid : List (Option LogicalPipe)) (m m' : ℕ → Bool) (ports : ℕ) → Told end states ks old mid m m'
    → (k : ℕ) (p : LogicalPipe) → value_at old k ≡ Some p → place_at end p < ports → (q : LogicalPipe) × (value_at mid k ≡ Some q) × (place_at end q < ports)
there_still end states ks old mid m m' ports so_far k p at inside = elim (flag (is_one_of k ks)) [
  | inl among ↦ (says end states p, so_far.written k p among at, subst (λ n. n < ports) (sym (says-place end states p)) inside)
  | inr out ↦ (p, so_far.others k out ∙ at, inside)
]

says-places : (end e : End) (states : List PortState) (p : LogicalPipe) → place_at e (says end states p) ≡ place_at e p
says-places at.Sender at.Sender states p = refl
says-places at.Sender at.Receiver states p = refl
says-places at.Receiver at.Sender states p = refl
says-places at.Receiver at.Receiver states p = refl

-- pipes that are at ports of a node still are, once an answer was written
pub still_at : (end e : End) (states : List PortState) (ks js : List ℕ) (old mid : List (Option LogicalPipe)) (m m' : ℕ → Bool) (ports : ℕ) → Told end states ks old mid m m' → AreAt e ports js old → AreAt e ports js mid
still_at end e states ks js old mid m m' ports so_far all k among =
    let p = all k among in
    elim (flag (is_one_of k ks)) [
      | inl is ↦ (says end states p.0, so_far.written k p.0 is p.1, subst (λ n. n < ports) (sym (says-places end e states p.0)) p.2)
      | inr out ↦ (p.0, so_far.others k out ∙ p.1, p.2)
    ]
