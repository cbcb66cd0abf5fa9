-- How many ends may still become done, and how many stages change: no update makes that more, and one that makes it no less changes neither.
use Rattle.std.proofs.Common.{◌≡◌, ◌≢◌, ℕ, zero, suc, ◌+◌, ◌*◌, ◌-◌, ◌≤◌, ◌⊎◌, List, [], ◌∷◌, length, Some, None, get_or, refl, sym, ap, subst, inl, inr, arith}
use Rattle.std.specs.Prelude.{Contains, slice_get, slice_set}
use Rattle.std.proofs.lemmas.Bool.{cases_eq}
use Rattle.ps_ports.specs.declared.port_state.PortState.{PortState}
use Rattle.ps_ports.specs.declared.port_state.PortState.TheVariants as port
use Rattle.ps_ports.specs.Ports.{Sides, is_done, kept_state}
use Rattle.ps_ports.specs.Wires.{Wire, written}
use Rattle.ps_settle.specs.Standings.{Standing, updated}
use Rattle.ps_settle.specs.Sweeps.{answered, ends_left, left, stages_left, undone}
use Rattle.ps_settle.proofs.Members.{contains_cases, none_in_nil}
use Rattle.ps_settle.proofs.Ends.{answered-receive, answered-receive_other, answered-send, answered-send_other}

at_most_one : (s : PortState) → undone s ≤ 1
at_most_one port.Blocked = omega arith
at_most_one port.Ready = omega arith
at_most_one port.Done = omega arith

kept-undone : (old new : PortState) → undone (kept_state old new) ≤ undone old
kept-undone port.Blocked new = at_most_one new
kept-undone port.Ready new = at_most_one new
kept-undone port.Done new = omega arith

-- as many ends that aren't done: the end is done or not as before
same_undone : (s t : PortState) → undone s ≡ undone t → is_done s ≡ is_done t
same_undone port.Done port.Done e = refl
same_undone port.Done port.Ready e = absurd (let no : 0 ≡ 1 = e in omega (arith, no))
same_undone port.Done port.Blocked e = absurd (let no : 0 ≡ 1 = e in omega (arith, no))
same_undone port.Ready port.Done e = absurd (let no : 1 ≡ 0 = e in omega (arith, no))
same_undone port.Blocked port.Done e = absurd (let no : 1 ≡ 0 = e in omega (arith, no))
same_undone port.Ready port.Ready e = refl
same_undone port.Ready port.Blocked e = refl
same_undone port.Blocked port.Ready e = refl
same_undone port.Blocked port.Blocked e = refl

module _ (n : ℕ) (a : Sides) where
  send_less : (p : Wire) → undone (answered n a p).send_state ≤ undone p.send_state
  send_less p = by (cases_eq p.sender n)
    where
      by : (p.sender ≡ n) ⊎ (p.sender ≢ n) → undone (answered n a p).send_state ≤ undone p.send_state
      by (inl e) = let is = answered-send n a p e in let P : PortState → Type 0 = λ s. undone s ≤ undone p.send_state in subst P (sym is) (kept-undone p.send_state (get_or a.outputs p.port p.send_state))
      by (inr h) = let is = ap undone (answered-send_other n a p h) in omega (arith, is)

  receive_less : (p : Wire) → undone (answered n a p).receive_state ≤ undone p.receive_state
  receive_less p = by (cases_eq p.receiver n)
    where
      by : (p.receiver ≡ n) ⊎ (p.receiver ≢ n) → undone (answered n a p).receive_state ≤ undone p.receive_state
      by (inl e) = let is = answered-receive n a p e in let P : PortState → Type 0 = λ s. undone s ≤ undone p.receive_state in subst P (sym is) (kept-undone p.receive_state (get_or a.inputs p.input p.receive_state))
      by (inr h) = let is = ap undone (answered-receive_other n a p h) in omega (arith, is)

  -- fewer ends are left after an answer is written
  pub ends_less : (ws : List Wire) → ends_left (written n a ws) ≤ ends_left ws
  ends_less [] = omega arith
  ends_less (p ∷ ps) = let s = send_less p in let r = receive_less p in let rest = ends_less ps in omega (arith, s, r, rest)

  -- as many: each end is done or not as before
  pub ends_same : (ws : List Wire) → ends_left (written n a ws) ≡ ends_left ws → (p : Wire) → Contains ws p
      → (is_done (answered n a p).send_state ≡ is_done p.send_state) × (is_done (answered n a p).receive_state ≡ is_done p.receive_state)
  ends_same [] e p c = absurd (none_in_nil p c)
  ends_same (q ∷ ps) e p c = by (ends_same ps rest_same p) (contains_cases q p ps c)
    where
      s : undone (answered n a q).send_state ≤ undone q.send_state
      s = send_less q

      r : undone (answered n a q).receive_state ≤ undone q.receive_state
      r = receive_less q

      rest : ends_left (written n a ps) ≤ ends_left ps
      rest = ends_less ps

      all : undone (answered n a q).send_state + undone (answered n a q).receive_state + ends_left (written n a ps) ≡ undone q.send_state + undone q.receive_state + ends_left ps
      all = e

      rest_same : ends_left (written n a ps) ≡ ends_left ps
      rest_same = omega (arith, s, r, rest, all)

      send_same : undone (answered n a q).send_state ≡ undone q.send_state
      send_same = omega (arith, s, r, rest, all)

      receive_same : undone (answered n a q).receive_state ≡ undone q.receive_state
      receive_same = omega (arith, s, r, rest, all)

      here : (is_done (answered n a q).send_state ≡ is_done q.send_state) × (is_done (answered n a q).receive_state ≡ is_done q.receive_state)
      here = (same_undone (answered n a q).send_state q.send_state send_same, same_undone (answered n a q).receive_state q.receive_state receive_same)

      by : (Contains ps p → (is_done (answered n a p).send_state ≡ is_done p.send_state) × (is_done (answered n a p).receive_state ≡ is_done p.receive_state)) → (q ≡ p) ⊎ Contains ps p
          → (is_done (answered n a p).send_state ≡ is_done p.send_state) × (is_done (answered n a p).receive_state ≡ is_done p.receive_state)
      by later (inl same) = let P : Wire → Type 0 = λ w. (is_done (answered n a w).send_state ≡ is_done w.send_state) × (is_done (answered n a w).receive_state ≡ is_done w.receive_state) in subst P same here
      by later (inr d) = later d

pub ends_at_most : (ws : List Wire) → ends_left ws ≤ 2 * length ws
ends_at_most [] = omega arith
ends_at_most (p ∷ ps) = let s = at_most_one p.send_state in let r = at_most_one p.receive_state in let rest = ends_at_most ps in omega (arith, s, r, rest)

module _ {N : Type 0} (rank : N → ℕ) where
  stages_set : (ns : List N) (v : ℕ) (a b : N) → slice_get ns v ≡ Some a → stages_left rank (slice_set ns v b) + (2 - rank a) ≡ stages_left rank ns + (2 - rank b)
  stages_set [] v a b e = absurd (let no : None ≡ Some a = e in cc)
  stages_set (n ∷ ns) zero a b e = let q : Some n ≡ Some a = e in let same : n ≡ a = cc in let r = ap rank same in omega (arith, r)
  stages_set (n ∷ ns) (suc v) a b e = let rest = stages_set ns v a b e in omega (arith, rest)

  pub stages_at_most : (ns : List N) → stages_left rank ns ≤ 2 * length ns
  stages_at_most [] = omega arith
  stages_at_most (n ∷ ns) = let rest = stages_at_most ns in omega (arith, rest)

  pub left_at_most : (s : Standing N) → left rank s ≤ 2 * length s.wires + 2 * length s.nodes
  left_at_most s = let e = ends_at_most s.wires in let t = stages_at_most s.nodes in omega (arith, e, t)

  module _ (s : Standing N) (v : ℕ) (a b : N) (answer : Sides) (at : slice_get s.nodes v ≡ Some a) (on : rank a ≤ rank b) (two : rank b ≤ 2) where
    -- no more is left after an update
    pub left_less : left rank (updated v b answer s) ≤ left rank s
    left_less = let e = ends_less v answer s.wires in let t = stages_set s.nodes v a b at in omega (arith, e, t, on)

    -- as much: the stage stayed, and each end is done or not as before
    pub same_stage : left rank (updated v b answer s) ≡ left rank s → rank a ≡ rank b
    same_stage all = let e = ends_less v answer s.wires in let t = stages_set s.nodes v a b at in omega (arith, e, t, on, two, all)

    pub same_ends : left rank (updated v b answer s) ≡ left rank s → (p : Wire) → Contains s.wires p
        → (is_done (answered v answer p).send_state ≡ is_done p.send_state) × (is_done (answered v answer p).receive_state ≡ is_done p.receive_state)
    same_ends all =
        let e = ends_less v answer s.wires in let t = stages_set s.nodes v a b at in
        let same : ends_left (written v answer s.wires) ≡ ends_left s.wires = omega (arith, e, t, on, two, all) in
        ends_same v answer s.wires same
