-- A blocker that may run is among the blockers of the phase, so that there is one.
use Rattle.std.proofs.Common.{◌≡◌, ◌≢◌, ℕ, zero, suc, ◌<◌, ◌≤◌, ◌⊎◌, Bool, true, false, List, [], ◌∷◌, length, Option, Some, None, refl, sym, ap, subst, ◌∙◌, inl, inr, arith}
use Rattle.std.specs.Prelude.{Contains, nat_eq, nat_lt, not, option_to_list}
use Rattle.std.specs.List.{filter as kept, list_all, list_any}
use Rattle.std.proofs.lemmas.Bool.Decides.{nat_tests}
use Rattle.std.proofs.lemmas.Bool.{cases_lt}
use Rattle.ps_frame.specs.Zip.{below}
use Rattle.ps_ports.specs.Phases.{blockers_of, is_blocker, most_ready, ready_readers}
use Rattle.ps_ports.specs.Ports.{is_blocked}
use Rattle.ps_ports.specs.Wires.{Wire, both_ready, wires_in, wires_out}
use Rattle.ps_world.specs.Laws.{IsRunnable}
use Rattle.ps_world.specs.Phases.{blockers_in, intensive_at}
use Rattle.ps_world.specs.World.{World, wires_of}
use Rattle.world_laws.proofs.InOrder.{contains_kept, first_empty, list_all-in_order, list_all-kept, list_any-contains, list_any-in_order, none_in_nil, second_empty}
use Rattle.std.proofs.lemmas.List.Elements.{Contains-append_left, Contains-append_right}

same_number : (a b : ℕ) → nat_eq a b ≡ true → a ≡ b
same_number a b e = grind (arith, nat_tests)

number_itself : (a b : ℕ) → a ≡ b → nat_eq a b ≡ true
number_itself a b e = grind (arith, nat_tests)

pub contains_below : (n k : ℕ) → n < k → Contains (below k) n
contains_below n zero h = absurd (omega arith)
contains_below n (suc k) h = by (contains_below n k) (cases_lt n k)
  where
    by : (n < k → Contains (below k) n) → (n < k) ⊎ (k ≤ n) → Contains (below (suc k)) n
    by rest (inl lt) = Contains-append_left (below k) (k ∷ []) n (rest lt)
    by rest (inr ge) = let same : k ≡ n = omega arith in Contains-append_right (below k) (k ∷ []) n (0, omega arith, same)

module _ (ws : List Wire) where
  some_most : (n : ℕ) (ns : List ℕ) → (m : ℕ) × (most_ready ws (n ∷ ns) ≡ Some m)
  some_most n ns = by (most_ready ws ns) refl
    where
      by : (o : Option ℕ) → most_ready ws ns ≡ o → (m : ℕ) × (most_ready ws (n ∷ ns) ≡ Some m)
      by None e = (n, rw e refl)
      by (Some m) e = pick (nat_lt (ready_readers ws m) (ready_readers ws n)) refl
        where
          pick : (b : Bool) → nat_lt (ready_readers ws m) (ready_readers ws n) ≡ b → (k : ℕ) × (most_ready ws (n ∷ ns) ≡ Some k)
          pick true t = (n, rw (e, t) refl)
          pick false t = (m, rw (e, t) refl)

  most_of_some : (n : ℕ) (ns : List ℕ) → Contains ns n → option_to_list (most_ready ws ns) ≢ []
  most_of_some n [] c e = none_in_nil n c
  most_of_some n (m ∷ ms) c e = let s = some_most m ms in let no : s.0 ∷ [] ≡ [] = sym (ap option_to_list s.1) ∙ e in absurd cc

  found : (intensive : ℕ → Bool) (k n : ℕ) → n < k → is_blocker ws n ≡ true → blockers_of k intensive ws ≢ []
  found intensive k n h b none = by (intensive n) refl
    where
      bs : List ℕ
      bs = kept (is_blocker ws) (below k)

      among : Contains bs n
      among = contains_kept (is_blocker ws) n (below k) (contains_below n k h) b

      by : (i : Bool) → intensive n ≡ i → ⊥
      by true i =
          let c = contains_kept intensive n bs among i in
          most_of_some n (kept intensive bs) c (second_empty (kept (λ m. not (intensive m)) bs) (option_to_list (most_ready ws (kept intensive bs))) none)
      by false i =
          let c = contains_kept (λ m. not (intensive m)) n bs among (ap not i) in
          let e = first_empty (kept (λ m. not (intensive m)) bs) (option_to_list (most_ready ws (kept intensive bs))) none in
          none_in_nil n (subst (λ xs. Contains xs n) e c)

pub some_blocker_in : (w : World) (n : ℕ) → ((p : Wire) → Contains (wires_of w) p → p.receiver < length w.nodes) → IsRunnable w n → blockers_in w ≢ []
some_blocker_in w n inside r = found ws (intensive_at w) (length w.nodes) n within (both)
  where
    ws : List Wire
    ws = wires_of w

    within : n < length w.nodes
    within = let i = inside r.input r.is_input.0 in let same = r.is_input.1 in omega arith

    outs_blocked : list_all (λ (p : Wire). is_blocked p.send_state) (wires_out n ws) ≡ true
    outs_blocked =
        list_all-in_order (λ (p q : Wire). nat_lt p.port q.port) (λ (p : Wire). is_blocked p.send_state) (kept (λ (p : Wire). nat_eq p.sender n) ws)
        ∙ list_all-kept (λ (p : Wire). nat_eq p.sender n) (λ (p : Wire). is_blocked p.send_state) ws (λ p c e. ap is_blocked (r.blocked_outputs p c (same_number p.sender n e)))

    input_ready : list_any both_ready (wires_in n ws) ≡ true
    input_ready =
        let at : nat_eq r.input.receiver n ≡ true = number_itself r.input.receiver n r.is_input.1 in
        let c = contains_kept (λ (p : Wire). nat_eq p.receiver n) r.input ws r.is_input.0 at in
        let ready : both_ready r.input ≡ true = rw (r.is_ready.0, r.is_ready.1) refl in
        list_any-in_order (λ (p q : Wire). nat_lt p.input q.input) both_ready (kept (λ (p : Wire). nat_eq p.receiver n) ws)
        ∙ list_any-contains both_ready r.input (kept (λ (p : Wire). nat_eq p.receiver n) ws) c ready

    both : is_blocker ws n ≡ true
    both = rw (outs_blocked, input_ready) refl
