-- What the inputs of a node say of its moves.
use Rattle.std.proofs.Common.{◌≡◌, ◌⊎◌, ℕ, Bool, true, false, cond, List, [], ◌∷◌, inl, inr, None, refl, sym, ap, ◌∙◌}
use Rattle.std.specs.Prelude.{◌&&◌, ◌||◌, Contains, nat_eq, nat_lt, not, option_map}
use Rattle.std.specs.List.{filter as kept, list_all}
use Rattle.flow_moves.proofs.Possible.{still_waits}
use Rattle.flow_moves.specs.Moves.{is_through, is_waiting}
use Rattle.ps_frame.specs.Functions.{Functions}
use Rattle.ps_settle.proofs.Ends.{same_number}
use Rattle.ps_settle.proofs.Members.{contains_cases, contains_first, contains_later, from_kept, in_kept, in_order-from, in_order-has, none_in_nil}
use Rattle.ps_world.specs.Claims.{inputs_in_phase, next_morsel}
use Rattle.ps_world.specs.Closing.{HasFinished, inputs_over}
use Rattle.ps_world.specs.Pipes.{is_input}
use Rattle.ps_world.specs.Step.{Steps}
use Rattle.ps_world.specs.World.{Node, Pipe, World, has_next, is_cut_off, is_over, morsel_at, pipes_in, pulled}

all_in : {A : Type 0} (t : A → Bool) (x : A) (xs : List A) → list_all t xs ≡ true → Contains xs x → t x ≡ true
all_in t x [] e c = absurd (none_in_nil x c)
all_in t x (y ∷ ys) e c = by (all_in t x ys (both (t y) (list_all t ys) e).1) (contains_cases y x ys c)
  where
    both : (a b : Bool) → (a && b) ≡ true → (a ≡ true) × (b ≡ true)
    both true true e = (refl, refl)
    both true false e = absurd (let clash : false ≡ true = e in cc)
    both false b e = absurd (let clash : false ≡ true = e in cc)

    by : (Contains ys x → t x ≡ true) → (y ≡ x) ⊎ Contains ys x → t x ≡ true
    by rest (inl same) = ap t (sym same) ∙ (both (t y) (list_all t ys) e).0
    by rest (inr later) = rest later

in_all : {A : Type 0} (t : A → Bool) (xs : List A) → ((x : A) → Contains xs x → t x ≡ true) → list_all t xs ≡ true
in_all t [] h = refl
in_all t (x ∷ xs) h = λ i. h x (contains_first x x xs refl) i && in_all t xs (λ y c. h y (contains_later x y xs c)) i

both_true : (a b : Bool) → (a && b) ≡ true → (a ≡ true) × (b ≡ true)
both_true true true e = (refl, refl)
both_true true false e = absurd (let clash : false ≡ true = e in cc)
both_true false b e = absurd (let clash : false ≡ true = e in cc)

clash : (b : Bool) → b ≡ true → b ≡ false → ⊥
clash b x y = absurd (let both : true ≡ false = sym x ∙ y in cc)

-- no pipe has a next morsel
none_next : (ps : List Pipe) → ((p : Pipe) → Contains ps p → has_next p ≡ false) → next_morsel ps ≡ None
none_next [] h = refl
none_next (p ∷ ps) h = ap (λ b. cond b (option_map (λ rs. (p.next, rs)) (morsel_at p.next p.got)) (next_morsel ps)) (h p (contains_first p p ps refl)) ∙ none_next ps (λ q c. h q (contains_later p q ps c))

module _ (F : Functions) (w : World) (n : ℕ) where
  -- inputs that are over, pipe by pipe
  pub over_is : inputs_over w n ≡ true → (p : Pipe) → Contains w.pipes p → p.wire.receiver ≡ n → is_through p ≡ true
  over_is e p among is = all_in is_through p (pipes_in w n) e (in_order-has (λ (p q : Pipe). nat_lt p.wire.input q.wire.input) p (kept (λ (p : Pipe). nat_eq p.wire.receiver n) w.pipes) (in_kept (λ (p : Pipe). nat_eq p.wire.receiver n) p w.pipes among (same_number p.wire.receiver n is)))

  pub is_over_all : ((p : Pipe) → Contains w.pipes p → nat_eq p.wire.receiver n ≡ true → is_through p ≡ true) → inputs_over w n ≡ true
  is_over_all h =
      in_all is_through (pipes_in w n)
      (λ p c. let from = from_kept (λ (q : Pipe). nat_eq q.wire.receiver n) p w.pipes (in_order-from (λ (p q : Pipe). nat_lt p.wire.input q.wire.input) p (kept (λ (p : Pipe). nat_eq p.wire.receiver n) w.pipes) c) in h p from.0 from.1)

  -- a node with a next morsel isn't at its end
  pub waits_on : (x : Node) → is_cut_off w n ≡ false → (p : Pipe) → Contains w.pipes p → p.wire.receiver ≡ n → is_waiting p ≡ true → HasFinished w n x → ⊥
  waits_on x kept p among is waits (inr cut) = clash (is_cut_off w n) cut kept
  waits_on x kept p among is waits (inl over) =
      let w2 = both_true p.in_phase (has_next p) waits in
      let through : is_over p ≡ true = ap (λ b. not b || is_over p) (sym w2.0) ∙ over_is over.0 p among is in
      clash (is_over p) through (still_waits p w2.1)

  module _ (none : (p : Pipe) → Contains w.pipes p → nat_eq p.wire.receiver n ≡ true → is_waiting p ≡ false) where
    -- a node without a next morsel: nothing to pull
    pub pulls_none : (j k : ℕ) (v : World) → Steps F w (pulled n j k) v → ⊥
    pulls_none j k v s =
        let m = s.4 in
        let leads = both_true (is_input n j m.0) m.0.in_phase m.3 in
        clash (is_waiting m.0) ((λ i. leads.1 i && m.4 i)) (none m.0 m.2 (both_true (nat_eq m.0.wire.receiver n) (nat_eq m.0.wire.input j) leads.0).0)

    pub no_next : (i : ℕ) → next_morsel (inputs_in_phase w n i) ≡ None
    no_next i =
        none_next (inputs_in_phase w n i)
        (λ p c.
        let from = from_kept (λ (q : Pipe). is_input n i q && q.in_phase) p w.pipes c in
        let leads = both_true (is_input n i p) p.in_phase from.1 in
        sym (ap (λ b. b && has_next p) leads.1) ∙ none p from.0 (both_true (nat_eq p.wire.receiver n) (nat_eq p.wire.input i) leads.0).0)
