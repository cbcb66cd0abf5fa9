-- The third part of the law of unions.
use Rattle.std.proofs.Common.{◌≡◌, ℕ, zero, suc, ◌<◌, ◌≤◌, ◌⊎◌, Bool, true, false, List, [], ◌∷◌, length, Some, refl, sym, ap, subst, ◌∙◌, inl, inr, arith}
use Rattle.std.specs.Prelude.{Contains, IsTrue, get_or, slice_get}
use Rattle.std.proofs.lemmas.Bool.{cases_lt}
use Rattle.ps_frame.specs.Functions.{Functions}
use Rattle.ps_meaning.specs.Shape.{ordered_union}
use Rattle.ps_meaning.specs.Sound.{HasReaders}
use Rattle.ps_ports.specs.Ports.{first_port, is_done}
use Rattle.ps_ports.specs.Wires.{Wire, is_live, wires_in}
use Rattle.ps_ports.specs.declared.port_state.PortState.{PortState}
use Rattle.ps_ports.specs.declared.port_state.PortState.TheVariants as port
use Rattle.ps_turns.specs.Updates.{answer_by, union_inputs, union_output}
use Rattle.ps_world.specs.Laws.{IsReadySent, PortLaw, takes_of}
use Rattle.ps_world.specs.Updates.{IsSettled, empty_outs, given_at}
use Rattle.ps_world.specs.World.{Node, Pipe, World, heads_of, wires_of}
use Rattle.world_claims.specs.Numbering.{Known}
use Rattle.world_facts.proofs.Placing.{has_readers}
use Rattle.world_laws.proofs.InOrder.{contains_map}
use Rattle.world_families.proofs.Members.{nothing_is}
use Rattle.orderly_worlds.proofs.Says.{reader_pipe}
use Rattle.streaming_ports.proofs.OnePort.{live_input, live_output, not_both, one_state, some_state, state_in, state_out, takes_none}
use Rattle.streaming_ports.proofs.Ports.{agree, alive, live_ends, live_or_done, pipe_of, sender_at}

-- behind inputs that are done, the first that isn't has the output's state
union_front : (out : PortState) (ss : List PortState) (k : ℕ) (st d : PortState) → slice_get ss k ≡ Some st → is_done st ≡ false → ((j : ℕ) (t : PortState) → j < k → slice_get ss j ≡ Some t → is_done t ≡ true) → get_or (union_inputs out ss) k d ≡ out
union_front out [] k st d at none before = absurd (nothing_is st at)
union_front out (port.Done ∷ ss) zero st d at none before = let q : Some port.Done ≡ Some st = at in let same : port.Done ≡ st = cc in absurd (not_both (is_done st) (ap is_done (sym same)) none)
union_front out (port.Done ∷ ss) (suc k) st d at none before = union_front out ss k st d at none (λ j t less e. before (suc j) t (omega (arith, less)) e)
union_front out (port.Ready ∷ ss) zero st d at none before = refl
union_front out (port.Ready ∷ ss) (suc k) st d at none before = absurd (let no : false ≡ true = before 0 port.Ready (omega arith) refl in cc)
union_front out (port.Blocked ∷ ss) zero st d at none before = refl
union_front out (port.Blocked ∷ ss) (suc k) st d at none before = absurd (let no : false ≡ true = before 0 port.Blocked (omega arith) refl in cc)

-- its output says what one of its inputs says, or is done
union_first : (ss : List PortState) → is_done (union_output ss) ≡ false → (k : ℕ) × (st : PortState) × (slice_get ss k ≡ Some st) × (st ≡ union_output ss)
union_first [] e = absurd (let no : true ≡ false = e in cc)
union_first (port.Done ∷ ss) e = let r = union_first ss e in (suc r.0, r.1, r.2, r.3)
union_first (port.Ready ∷ ss) e = (0, port.Ready, refl, refl)
union_first (port.Blocked ∷ ss) e = (0, port.Blocked, refl, refl)

module _ (F : Functions) (s : World) (known : Known F s) (rest : IsSettled s) (n : ℕ) (node : Node) (there : slice_get s.nodes n ≡ Some node) (is_one : node.node.kind ≡ ordered_union) where
  one_out : length (given_at s n).outputs ≡ 1
  one_out = subst (λ k. HasReaders k (length (given_at s n).outputs)) is_one (has_readers F s known.facts n node there)

  output : (z : Pipe) × Contains s.pipes z × (z.wire.sender ≡ n)
  output = let o = some_state (given_at s n).outputs one_out in let z = reader_pipe s n 0 o.0 o.1 in (z.0, z.1, z.2)

  says_in : (x : Pipe) → Contains s.pipes x → x.wire.receiver ≡ n → is_live x.wire ≡ true → x.wire.receive_state ≡ get_or (union_inputs (first_port (given_at s n).outputs) (given_at s n).inputs) x.wire.input x.wire.receive_state
  says_in x c e l = live_input F s known rest n node there x c e l ∙ ap (λ k. get_or (answer_by s.options k node.progress (heads_of s n node) (empty_outs s n) (given_at s n)).inputs x.wire.input x.wire.receive_state) is_one

  says_out : (z : Pipe) → Contains s.pipes z → z.wire.sender ≡ n → is_live z.wire ≡ true → z.wire.send_state ≡ union_output (given_at s n).inputs
  says_out z c e l =
      let out = one_state (given_at s n).outputs z.wire.port z.wire.receive_state one_out (state_out F s known rest n node there z c e) in
      live_output F s known rest n node there z c e l ∙ ap (λ k. get_or (answer_by s.options k node.progress (heads_of s n node) (empty_outs s n) (given_at s n)).outputs z.wire.port z.wire.send_state) is_one
      ∙ ap (λ j. get_or (union_output (given_at s n).inputs ∷ []) j z.wire.send_state) out.0

  -- where its output is done, so is each of its inputs
  module _ (over : is_done (first_port (given_at s n).outputs) ≡ true) where
    next_done : (k : ℕ) (st : PortState) → slice_get (given_at s n).inputs k ≡ Some st → ((j : ℕ) (t : PortState) → j < k → slice_get (given_at s n).inputs j ≡ Some t → is_done t ≡ true) → (b : Bool) → is_done st ≡ b → is_done st ≡ true
    next_done k st at before true e = e
    next_done k st at before false e =
        let x = sender_at F s known.facts n k st at in
        let c = contains_map (λ (y : Pipe). y.wire) x.0 s.pipes x.1 in
        let unsent : is_done x.0.wire.send_state ≡ false = ap is_done x.4 ∙ e in
        let live = alive (is_done x.0.wire.send_state) (is_done x.0.wire.receive_state) unsent (sym (agree F s known rest n node there x.0.wire c) ∙ unsent) in
        let says = says_in x.0 x.1 x.2 live ∙ (λ i. get_or (union_inputs (first_port (given_at s n).outputs) (given_at s n).inputs) (x.3 i) x.0.wire.receive_state) ∙ union_front (first_port (given_at s n).outputs) (given_at s n).inputs k st x.0.wire.receive_state at e before in
        absurd (not_both (is_done x.0.wire.receive_state) (ap is_done says ∙ over) (live_ends F s known rest n node there x.0.wire live).1)

    all_done_to : (k j : ℕ) (t : PortState) → j < k → slice_get (given_at s n).inputs j ≡ Some t → is_done t ≡ true
    all_done_to zero j t less e = absurd (omega arith)
    all_done_to (suc k) j t less e = by (cases_lt j k) (all_done_to k)
      where
        by : (j < k) ⊎ (k ≤ j) → ((i : ℕ) (u : PortState) → i < k → slice_get (given_at s n).inputs i ≡ Some u → is_done u ≡ true) → is_done t ≡ true
        by (inl lower) before = before j t lower e
        by (inr higher) before = let same : j ≡ k = omega (arith, less, higher) in next_done j t e (λ i u low at. before i u (omega (arith, low, same)) at) (is_done t) refl

  leads : (x : Pipe) → Contains s.pipes x → x.wire.receiver ≡ n → is_live x.wire ≡ true → is_live output.0.wire ≡ true
  leads x c e l = by (live_or_done F s known rest n node there output.0.wire (contains_map (λ (z : Pipe). z.wire) output.0 s.pipes output.1))
    where
      by : (is_live output.0.wire ≡ true) ⊎ (is_done output.0.wire.receive_state ≡ true) → is_live output.0.wire ≡ true
      by (inl live) = live
      by (inr d) =
          let out = one_state (given_at s n).outputs output.0.wire.port output.0.wire.receive_state one_out (state_out F s known rest n node there output.0 output.1 output.2) in
          let over : is_done (first_port (given_at s n).outputs) ≡ true = ap (λ os. is_done (first_port os)) out.1 ∙ d in
          let sent = all_done_to over (suc x.wire.input) x.wire.input x.wire.send_state (omega arith) (state_in F s known rest n node there x c e) in
          absurd (not_both (is_done x.wire.send_state) sent (live_ends F s known rest n node there x.wire l).0)

  hands : ((p : Wire) → Contains (wires_of s) p → p.receiver ≡ n → IsTrue (is_live p) → IsReadySent p) → (z : Pipe) → Contains s.pipes z → z.wire.sender ≡ n → is_live z.wire ≡ true → z.wire.send_state ≡ port.Ready
  hands up z c e l =
      let says = says_out z c e l in
      let undone : is_done (union_output (given_at s n).inputs) ≡ false = ap is_done (sym says) ∙ (live_ends F s known rest n node there z.wire l).0 in
      let f = union_first (given_at s n).inputs undone in
      let x = sender_at F s known.facts n f.0 f.1 f.2 in
      let there_x = contains_map (λ (y : Pipe). y.wire) x.0 s.pipes x.1 in
      let same : x.0.wire.send_state ≡ union_output (given_at s n).inputs = x.4 ∙ f.3 in
      let unsent : is_done x.0.wire.send_state ≡ false = ap is_done same ∙ undone in
      let live = alive (is_done x.0.wire.send_state) (is_done x.0.wire.receive_state) unsent (sym (agree F s known rest n node there x.0.wire there_x) ∙ unsent) in
      says ∙ sym same ∙ up x.0.wire there_x x.2 live

  pub union_ports : PortLaw s n
  union_ports =
      record {
        takes_means = λ t. absurd (let no : false ≡ true = sym (takes_none F s known rest n node there (ap (λ k. takes_of k node.progress.stage (wires_in n (wires_of s))) is_one)) ∙ t in cc);
        leads_on = λ p c e l.
            let x = pipe_of s p c in
            inr (output.0.wire, contains_map (λ (z : Pipe). z.wire) output.0 s.pipes output.1, output.2, leads x.0 x.1 (ap (λ (u : Wire). u.receiver) x.2 ∙ e) (ap is_live x.2 ∙ l));
        hands_on = λ up. inr (λ p c e l. let x = pipe_of s p c in sym (ap (λ (u : Wire). u.send_state) x.2) ∙ hands up x.0 x.1 (ap (λ (u : Wire). u.sender) x.2 ∙ e) (ap is_live x.2 ∙ l));
      }
