-- The third part of the law of passing nodes: with one input and one output, an update that passes keeps the law of ports.
use Rattle.std.proofs.Common.{◌≡◌, ℕ, zero, suc, ◌⊎◌, Bool, true, false, cond, List, [], ◌∷◌, Some, None, refl, sym, ap, subst, ◌∙◌, inl, inr, arith}
use Rattle.std.specs.Prelude.{Contains, IsTrue, get_or, map, nat_eq, not, slice_get, ◌||◌, if◌then◌else◌}
use Rattle.std.specs.List.{filter as kept}
use Rattle.std.proofs.lemmas.Bool.Decides.{nat_tests}
use Rattle.ps_frame.specs.Sorting.{in_order, insert_in_order}
use Rattle.ps_ports.specs.declared.port_state.PortState.{PortState}
use Rattle.ps_ports.specs.declared.port_state.PortState.TheVariants as port
use Rattle.ps_ports.specs.Ports.{Sides, is_done}
use Rattle.ps_ports.specs.Wires.{Wire, is_live, wires_in, wires_out}
use Rattle.ps_turns.specs.Updates.{answer_by, passing_answer}
use Rattle.ps_world.specs.Laws.{EndsAgree, IsReadySent, PortLaw, takes, takes_of}
use Rattle.ps_world.specs.Updates.{IsSettled, answer_at, empty_outs, given_at}
use Rattle.ps_world.specs.World.{Node, Pipe, World, heads_of, wires_of}
use Rattle.world_laws.proofs.Agree.{InPlace, from_map, reader_says, sender_says}
use Rattle.world_laws.proofs.InOrder.{contains_cases, contains_first, contains_later, none_in_nil}

-- what is kept and set in order was there
inserted : {A : Type 0} (less : A → A → Bool) (x y : A) (ys : List A) → Contains (insert_in_order less x ys) y → (x ≡ y) ⊎ Contains ys y
inserted less x y [] c = contains_cases x y [] c
inserted less x y (z ∷ zs) c = by (less z x) refl (inserted less x y zs)
  where
    by : (b : Bool) → less z x ≡ b → (Contains (insert_in_order less x zs) y → (x ≡ y) ⊎ Contains zs y) → (x ≡ y) ⊎ Contains (z ∷ zs) y
    by true e rest = at (contains_cases z y (insert_in_order less x zs) (subst (λ b. Contains (if b then z ∷ insert_in_order less x zs else x ∷ z ∷ zs) y) e c))
      where
        at : (z ≡ y) ⊎ Contains (insert_in_order less x zs) y → (x ≡ y) ⊎ Contains (z ∷ zs) y
        at (inl same) = inr (0, omega arith, same)
        at (inr later) = more (rest later)
          where
            more : (x ≡ y) ⊎ Contains zs y → (x ≡ y) ⊎ Contains (z ∷ zs) y
            more (inl same) = inl same
            more (inr there) = inr (contains_later z y zs there)
    by false e rest = contains_cases x y (z ∷ zs) (subst (λ b. Contains (if b then z ∷ insert_in_order less x zs else x ∷ z ∷ zs) y) e c)

pub ordered : {A : Type 0} (less : A → A → Bool) (y : A) (xs : List A) → Contains (in_order less xs) y → Contains xs y
ordered less y [] c = c
ordered less y (x ∷ xs) c = by (ordered less y xs) (inserted less x y (in_order less xs) c)
  where
    by : (Contains (in_order less xs) y → Contains xs y) → (x ≡ y) ⊎ Contains (in_order less xs) y → Contains (x ∷ xs) y
    by rest (inl same) = (0, omega arith, same)
    by rest (inr later) = contains_later x y xs (rest later)

pub was_kept : {A : Type 0} (t : A → Bool) (y : A) (xs : List A) → Contains (kept t xs) y → Contains xs y × (t y ≡ true)
was_kept t y [] c = absurd (none_in_nil y c)
was_kept t y (x ∷ xs) c = by (t x) refl (was_kept t y xs)
  where
    by : (b : Bool) → t x ≡ b → (Contains (kept t xs) y → Contains xs y × (t y ≡ true)) → Contains (x ∷ xs) y × (t y ≡ true)
    by true e rest = at (contains_cases x y (kept t xs) (subst (λ b. Contains (cond b (x ∷ kept t xs) (kept t xs)) y) e c))
      where
        at : (x ≡ y) ⊎ Contains (kept t xs) y → Contains (x ∷ xs) y × (t y ≡ true)
        at (inl same) = ((0, omega arith, same), ap t (sym same) ∙ e)
        at (inr later) = let r = rest later in (contains_later x y xs r.0, r.1)
    by false e rest = let r = rest (subst (λ b. Contains (cond b (x ∷ kept t xs) (kept t xs)) y) e c) in (contains_later x y xs r.0, r.1)

-- a list of one has one
only : {A : Type 0} (x y : A) (k : ℕ) → slice_get (x ∷ []) k ≡ Some y → (k ≡ 0) × (x ≡ y)
only x y zero e = (refl, let q : Some x ≡ Some y = e in cc)
only x y (suc k) e = absurd (let no : None ≡ Some y = e in cc)

pub same_number : (a b : ℕ) → nat_eq a b ≡ true → a ≡ b
same_number a b e = grind (arith, nat_tests)

live_means : (a b : Bool) → not (a || b) ≡ true → (a ≡ false) × (b ≡ false)
live_means true b e = absurd (let no : false ≡ true = e in cc)
live_means false true e = absurd (let no : false ≡ true = e in cc)
live_means false false e = (refl, refl)

alive : (a b : Bool) → a ≡ false → b ≡ false → not (a || b) ≡ true
alive a b e f = rw (e, f) refl

module _ (w : World) (place : InPlace w) (rest : IsSettled w) (agree : EndsAgree w) (n : ℕ) (node : Node) (here : slice_get w.nodes n ≡ Some node)
    (takes_not : takes_of node.node.kind node.progress.stage (wires_in n (wires_of w)) ≡ false)
    (passes : answer_by w.options node.node.kind node.progress (heads_of w n node) (empty_outs w n) (given_at w n) ≡ passing_answer (given_at w n))
    (p q : Wire) (one_in : wires_in n (wires_of w) ≡ p ∷ []) (one_out : wires_out n (wires_of w) ≡ q ∷ []) where
  is_in : (r : Wire) → Contains (wires_of w) r → r.receiver ≡ n → (r.input ≡ 0) × (p ≡ r)
  is_in r c at = only p r r.input (sym (ap (λ ws. slice_get ws r.input) (ap (λ m. wires_in m (wires_of w)) at ∙ one_in)) ∙ place.input_place r c)

  is_out : (r : Wire) → Contains (wires_of w) r → r.sender ≡ n → (r.port ≡ 0) × (q ≡ r)
  is_out r c at = only q r r.port (sym (ap (λ ws. slice_get ws r.port) (ap (λ m. wires_out m (wires_of w)) at ∙ one_out)) ∙ place.port_place r c)

  q_there : Contains (wires_of w) q × (q.sender ≡ n)
  q_there =
      let first : Contains (wires_out n (wires_of w)) q = subst (λ ws. Contains ws q) (sym one_out) (contains_first q []) in
      let k = was_kept (λ (x : Wire). nat_eq x.sender n) q (wires_of w) (ordered (λ (x y : Wire). Rattle.std.specs.Prelude.nat_lt x.port y.port) q (kept (λ (x : Wire). nat_eq x.sender n) (wires_of w)) first) in
      (k.0, same_number q.sender n k.1)

  given_is : given_at w n ≡ record { inputs = p.send_state ∷ []; outputs = q.receive_state ∷ [] }
  given_is = let a = ap (λ ws. map (λ (x : Wire). x.send_state) ws) one_in in let b = ap (λ ws. map (λ (x : Wire). x.receive_state) ws) one_out in λ i. record { inputs = a i; outputs = b i }

  answer_is : answer_at w n node node.progress ≡ record { inputs = cond (is_done p.send_state) port.Done q.receive_state ∷ []; outputs = cond (is_done q.receive_state) port.Done p.send_state ∷ [] }
  answer_is = ap (λ a. Rattle.ps_ports.specs.Ports.keeping_done (given_at w n) a) passes ∙ ap (λ g. Rattle.ps_ports.specs.Ports.keeping_done g (passing_answer g)) given_is

  -- what both wires then say
  in_says : (r : Wire) → Contains (wires_of w) r → r.receiver ≡ n → is_done r.receive_state ≡ false → r.receive_state ≡ cond (is_done p.send_state) port.Done q.receive_state
  in_says r c at undone =
      let x = from_map (λ (y : Pipe). y.wire) r w.pipes c in
      let at_x : x.0.wire.receiver ≡ n = ap (λ (y : Wire). y.receiver) x.2 ∙ at in
      let node_there : slice_get w.nodes x.0.wire.receiver ≡ Some node = ap (λ m. slice_get w.nodes m) at_x ∙ here in
      let says = reader_says w place rest x.0 x.1 node node_there in
      let zero_in : x.0.wire.input ≡ 0 = ap (λ (y : Wire). y.input) x.2 ∙ (is_in r c at).0 in
      sym (ap (λ (y : Wire). y.receive_state) x.2) ∙ says
      ∙ ap (λ b. cond b port.Done (get_or (answer_at w x.0.wire.receiver node node.progress).inputs x.0.wire.input x.0.wire.receive_state)) (ap (λ (y : Wire). is_done y.receive_state) x.2 ∙ undone) ∙ ap (λ m. get_or (answer_at w m node node.progress).inputs x.0.wire.input x.0.wire.receive_state) at_x
      ∙ ap (λ (a : Sides). get_or a.inputs x.0.wire.input x.0.wire.receive_state) answer_is
      ∙ ap (λ k. get_or (cond (is_done p.send_state) port.Done q.receive_state ∷ []) k x.0.wire.receive_state) zero_in

  out_says : (r : Wire) → Contains (wires_of w) r → r.sender ≡ n → is_done r.send_state ≡ false → r.send_state ≡ cond (is_done q.receive_state) port.Done p.send_state
  out_says r c at undone =
      let x = from_map (λ (y : Pipe). y.wire) r w.pipes c in
      let at_x : x.0.wire.sender ≡ n = ap (λ (y : Wire). y.sender) x.2 ∙ at in
      let node_there : slice_get w.nodes x.0.wire.sender ≡ Some node = ap (λ m. slice_get w.nodes m) at_x ∙ here in
      let says = sender_says w place rest x.0 x.1 node node_there in
      let zero_out : x.0.wire.port ≡ 0 = ap (λ (y : Wire). y.port) x.2 ∙ (is_out r c at).0 in
      sym (ap (λ (y : Wire). y.send_state) x.2) ∙ says
      ∙ ap (λ b. cond b port.Done (get_or (answer_at w x.0.wire.sender node node.progress).outputs x.0.wire.port x.0.wire.send_state)) (ap (λ (y : Wire). is_done y.send_state) x.2 ∙ undone) ∙ ap (λ m. get_or (answer_at w m node node.progress).outputs x.0.wire.port x.0.wire.send_state) at_x
      ∙ ap (λ (a : Sides). get_or a.outputs x.0.wire.port x.0.wire.send_state) answer_is
      ∙ ap (λ k. get_or (cond (is_done q.receive_state) port.Done p.send_state ∷ []) k x.0.wire.send_state) zero_out

  done_passed : (a : Bool) (s : PortState) → is_done s ≡ true → is_done (cond a port.Done s) ≡ true
  done_passed true s e = refl
  done_passed false s e = e

  leads : (r : Wire) → Contains (wires_of w) r → r.receiver ≡ n → IsTrue (is_live r) → is_live q ≡ true
  leads r c at l = by (is_done q.receive_state) refl
    where
      by : (b : Bool) → is_done q.receive_state ≡ b → is_live q ≡ true
      by true e =
          let d : is_done r.receive_state ≡ true = ap is_done (in_says r c at (live_means (is_done r.send_state) (is_done r.receive_state) l).1) ∙ done_passed (is_done p.send_state) q.receive_state e in
          absurd (let no : true ≡ false = sym d ∙ (live_means (is_done r.send_state) (is_done r.receive_state) l).1 in cc)
      by false e = alive (is_done q.send_state) (is_done q.receive_state) (agree q q_there.0 ∙ e) e

  hands : ((r : Wire) → Contains (wires_of w) r → r.receiver ≡ n → IsTrue (is_live r) → IsReadySent r) → (r : Wire) → Contains (wires_of w) r → r.sender ≡ n → IsTrue (is_live r) → IsReadySent r
  hands up r c at l = by (is_done p.send_state) refl
    where
      r_is : q ≡ r
      r_is = (is_out r c at).1

      open_read : is_done q.receive_state ≡ false
      open_read = ap (λ (y : Wire). is_done y.receive_state) r_is ∙ (live_means (is_done r.send_state) (is_done r.receive_state) l).1

      says : r.send_state ≡ p.send_state
      says = out_says r c at (live_means (is_done r.send_state) (is_done r.receive_state) l).0 ∙ ap (λ b. cond b port.Done p.send_state) open_read

      p_there : Contains (wires_of w) p × (p.receiver ≡ n)
      p_there =
          let first : Contains (wires_in n (wires_of w)) p = subst (λ ws. Contains ws p) (sym one_in) (contains_first p []) in
          let k = was_kept (λ (x : Wire). nat_eq x.receiver n) p (wires_of w) (ordered (λ (x y : Wire). Rattle.std.specs.Prelude.nat_lt x.input y.input) p (kept (λ (x : Wire). nat_eq x.receiver n) (wires_of w)) first) in
          (k.0, same_number p.receiver n k.1)

      by : (b : Bool) → is_done p.send_state ≡ b → IsReadySent r
      by true e = absurd (let no : true ≡ false = sym (ap is_done says ∙ e) ∙ (live_means (is_done r.send_state) (is_done r.receive_state) l).0 in cc)
      by false e = says ∙ up p p_there.0 p_there.1 (alive (is_done p.send_state) (is_done p.receive_state) e (sym (agree p p_there.0) ∙ e))

  taking_not : takes w n ≡ false
  taking_not = rw (takes, here, takes_not) refl

  pub passing_ports : PortLaw w n
  passing_ports =
      record {
        takes_means = λ t. absurd (let no : false ≡ true = sym taking_not ∙ t in cc);
        leads_on = λ r c at l. inr (q, q_there.0, q_there.1, leads r c at l);
        hands_on = λ up. inr (hands up);
      }
