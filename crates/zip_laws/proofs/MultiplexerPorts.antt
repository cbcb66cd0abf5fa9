-- The third part of the law of multiplexers.
use Rattle.std.proofs.Common.{◌≡◌, ℕ, zero, suc, ◌⊎◌, Bool, true, false, cond, List, [], ◌∷◌, length, Some, refl, sym, ap, subst, ◌∙◌, inl, inr}
use Rattle.std.specs.Prelude.{Contains, IsTrue, get_or, slice_get, ◌&&◌, ◌||◌}
use Rattle.ps_frame.specs.Functions.{Functions}
use Rattle.ps_meaning.specs.Shape.{multiplexer}
use Rattle.ps_meaning.specs.Sound.{HasInputs}
use Rattle.ps_ports.specs.Ports.{Sides, all_blocked, all_done, first_port, is_done, repeated}
use Rattle.ps_ports.specs.Wires.{Wire, is_live, wires_in}
use Rattle.ps_ports.specs.declared.port_state.PortState.{PortState}
use Rattle.ps_ports.specs.declared.port_state.PortState.TheVariants as port
use Rattle.ps_turns.specs.Updates.{answer_by, multiplexer_answer, port_answers, undone_empty}
use Rattle.ps_world.specs.Laws.{IsReadySent, PortLaw, takes_of}
use Rattle.ps_world.specs.Updates.{IsSettled, empty_outs, given_at}
use Rattle.ps_world.specs.World.{Node, Pipe, World, heads_of, wires_of}
use Rattle.world_claims.specs.Numbering.{Known}
use Rattle.world_facts.proofs.Placing.{has_inputs}
use Rattle.world_laws.proofs.InOrder.{contains_map}
use Rattle.orderly_worlds.proofs.Says.{reader_pipe}
use Rattle.streaming_ports.proofs.OnePort.{live_input, live_output, not_both, one_state, some_state, state_in, state_out, takes_none}
use Rattle.streaming_ports.proofs.Ports.{agree, alive, live_ends, pipe_of, sender_at}
use Rattle.zip_laws.proofs.Ends.{repeated_is}
use Rattle.world_families.proofs.Members.{nothing_is}

some_undone : (ss : List PortState) → all_done ss ≡ false → (k : ℕ) × (st : PortState) × (slice_get ss k ≡ Some st) × (is_done st ≡ false)
some_undone [] e = absurd (let no : true ≡ false = e in cc)
some_undone (s ∷ ss) e = by (is_done s) refl e (some_undone ss)
  where
    by : (b : Bool) → is_done s ≡ b → (b && all_done ss) ≡ false → (all_done ss ≡ false → (k : ℕ) × (st : PortState) × (slice_get ss k ≡ Some st) × (is_done st ≡ false)) → (k : ℕ) × (st : PortState) × (slice_get (s ∷ ss) k ≡ Some st) × (is_done st ≡ false)
    by false h e rest = (0, s, refl, h)
    by true h e rest = let r = rest e in (suc r.0, r.1, r.2, r.3)

-- a port says what the input says, or is ready
pub port_says : (s : PortState) (es : List Bool) (os : List PortState) (k : ℕ) (old d : PortState) → slice_get os k ≡ Some old → (get_or (port_answers s es os) k d ≡ s) ⊎ (get_or (port_answers s es os) k d ≡ port.Ready)
port_says s es [] k old d at = absurd (nothing_is old at)
port_says s [] (o ∷ os) zero old d at = inl refl
port_says s [] (o ∷ os) (suc k) old d at = port_says s [] os k old d at
port_says s (true ∷ es) (o ∷ os) zero old d at = inl refl
port_says s (false ∷ es) (o ∷ os) zero old d at = inr refl
port_says s (e ∷ es) (o ∷ os) (suc k) old d at = port_says s es os k old d at

first_is : (ss : List PortState) (s : PortState) → slice_get ss 0 ≡ Some s → first_port ss ≡ s
first_is [] s e = absurd (nothing_is s e)
first_is (x ∷ ss) s e = let q : Some x ≡ Some s = e in let same : x ≡ s = cc in same

module _ (es : List Bool) (given : Sides) where
  abbrev pub all_over : Bool
  all_over = all_done given.outputs || (all_done given.inputs && undone_empty es given.outputs)

  abbrev over_sides : Sides
  over_sides = record { inputs = port.Done ∷ []; outputs = repeated port.Done given.outputs }

  abbrev going_sides : Sides
  going_sides = record { inputs = cond (all_blocked given.outputs) port.Blocked port.Ready ∷ []; outputs = port_answers (first_port given.inputs) es given.outputs }

  pub answer_over : all_over ≡ true → multiplexer_answer es given ≡ over_sides
  answer_over e = λ i. cond (e i) over_sides going_sides

  pub answer_going : all_over ≡ false → multiplexer_answer es given ≡ going_sides
  answer_going e = λ i. cond (e i) over_sides going_sides

module _ (F : Functions) (s : World) (known : Known F s) (rest : IsSettled s) (n : ℕ) (node : Node) (there : slice_get s.nodes n ≡ Some node) (is_one : node.node.kind ≡ multiplexer) where
  one_in : length (given_at s n).inputs ≡ 1
  one_in = subst (λ k. HasInputs k (length (given_at s n).inputs)) is_one (has_inputs F s known.facts n node there)

  at_wire : (x : Pipe) → Contains s.pipes x → Contains (wires_of s) x.wire
  at_wire x c = contains_map (λ (z : Pipe). z.wire) x s.pipes c

  abbrev told : Sides
  told = multiplexer_answer (empty_outs s n) (given_at s n)

  says_in : (x : Pipe) → Contains s.pipes x → x.wire.receiver ≡ n → is_live x.wire ≡ true → x.wire.receive_state ≡ get_or told.inputs x.wire.input x.wire.receive_state
  says_in x c e l = live_input F s known rest n node there x c e l ∙ ap (λ k. get_or (answer_by s.options k node.progress (heads_of s n node) (empty_outs s n) (given_at s n)).inputs x.wire.input x.wire.receive_state) is_one

  says_out : (z : Pipe) → Contains s.pipes z → z.wire.sender ≡ n → is_live z.wire ≡ true → z.wire.send_state ≡ get_or told.outputs z.wire.port z.wire.send_state
  says_out z c e l = live_output F s known rest n node there z c e l ∙ ap (λ k. get_or (answer_by s.options k node.progress (heads_of s n node) (empty_outs s n) (given_at s n)).outputs z.wire.port z.wire.send_state) is_one

  -- a live input leads on to a live port
  leads : (x : Pipe) → Contains s.pipes x → x.wire.receiver ≡ n → is_live x.wire ≡ true → (q : Wire) × Contains (wires_of s) q × (q.sender ≡ n) × IsTrue (is_live q)
  leads x c e l = by (all_over (empty_outs s n) (given_at s n)) refl
    where
      ends : (is_done x.wire.send_state ≡ false) × (is_done x.wire.receive_state ≡ false)
      ends = live_ends F s known rest n node there x.wire l

      place : (x.wire.input ≡ 0) × ((given_at s n).inputs ≡ x.wire.send_state ∷ [])
      place = one_state (given_at s n).inputs x.wire.input x.wire.send_state one_in (state_in F s known rest n node there x c e)

      first : (a b : Bool) → (a || b) ≡ false → a ≡ false
      first true b h = absurd (let no : true ≡ false = h in cc)
      first false b h = refl

      by : (b : Bool) → all_over (empty_outs s n) (given_at s n) ≡ b → (q : Wire) × Contains (wires_of s) q × (q.sender ≡ n) × IsTrue (is_live q)
      by true over =
          let says = says_in x c e l ∙ ap (λ k. get_or told.inputs k x.wire.receive_state) place.0 ∙ ap (λ (a : Sides). get_or a.inputs 0 x.wire.receive_state) (answer_over (empty_outs s n) (given_at s n) over) in
          absurd (not_both (is_done x.wire.receive_state) (ap is_done says) ends.1)
      by false going =
          let k = some_undone (given_at s n).outputs (first (all_done (given_at s n).outputs) (all_done (given_at s n).inputs && undone_empty (empty_outs s n) (given_at s n).outputs) going) in
          let z = reader_pipe s n k.0 k.1 k.2 in
          let unread : is_done z.0.wire.receive_state ≡ false = ap is_done z.3 ∙ k.3 in
          (z.0.wire, at_wire z.0 z.1, z.2, alive (is_done z.0.wire.send_state) (is_done z.0.wire.receive_state) (agree F s known rest n node there z.0.wire (at_wire z.0 z.1) ∙ unread) unread)

  -- each live port is ready where the input is, if it is live
  hands : ((p : Wire) → Contains (wires_of s) p → p.receiver ≡ n → IsTrue (is_live p) → IsReadySent p) → (z : Pipe) → Contains s.pipes z → z.wire.sender ≡ n → is_live z.wire ≡ true → z.wire.send_state ≡ port.Ready
  hands up z c e l = by (all_over (empty_outs s n) (given_at s n)) refl
    where
      ends : (is_done z.wire.send_state ≡ false) × (is_done z.wire.receive_state ≡ false)
      ends = live_ends F s known rest n node there z.wire l

      at_port : slice_get (given_at s n).outputs z.wire.port ≡ Some z.wire.receive_state
      at_port = state_out F s known rest n node there z c e

      input : (st : PortState) × (slice_get (given_at s n).inputs 0 ≡ Some st)
      input = some_state (given_at s n).inputs one_in

      of_input : z.wire.send_state ≡ input.0 → z.wire.send_state ≡ port.Ready
      of_input same =
          let x = sender_at F s known.facts n 0 input.0 input.1 in
          let unsent : is_done x.0.wire.send_state ≡ false = ap is_done (x.4 ∙ sym same) ∙ ends.0 in
          let live = alive (is_done x.0.wire.send_state) (is_done x.0.wire.receive_state) unsent (sym (agree F s known rest n node there x.0.wire (at_wire x.0 x.1)) ∙ unsent) in
          same ∙ sym x.4 ∙ up x.0.wire (at_wire x.0 x.1) x.2 live

      of : z.wire.send_state ≡ get_or (port_answers (first_port (given_at s n).inputs) (empty_outs s n) (given_at s n).outputs) z.wire.port z.wire.send_state
          → (get_or (port_answers (first_port (given_at s n).inputs) (empty_outs s n) (given_at s n).outputs) z.wire.port z.wire.send_state ≡ first_port (given_at s n).inputs) ⊎ (get_or (port_answers (first_port (given_at s n).inputs) (empty_outs s n) (given_at s n).outputs) z.wire.port z.wire.send_state ≡ port.Ready) → z.wire.send_state ≡ port.Ready
      of says (inr ready) = says ∙ ready
      of says (inl same) = of_input (says ∙ same ∙ first_is (given_at s n).inputs input.0 input.1)

      by : (b : Bool) → all_over (empty_outs s n) (given_at s n) ≡ b → z.wire.send_state ≡ port.Ready
      by true over =
          let says = says_out z c e l ∙ ap (λ (a : Sides). get_or a.outputs z.wire.port z.wire.send_state) (answer_over (empty_outs s n) (given_at s n) over) ∙ repeated_is port.Done (given_at s n).outputs z.wire.port z.wire.receive_state z.wire.send_state at_port in
          absurd (not_both (is_done z.wire.send_state) (ap is_done says) ends.0)
      by false going =
          of (says_out z c e l ∙ ap (λ (a : Sides). get_or a.outputs z.wire.port z.wire.send_state) (answer_going (empty_outs s n) (given_at s n) going))
          (port_says (first_port (given_at s n).inputs) (empty_outs s n) (given_at s n).outputs z.wire.port z.wire.receive_state z.wire.send_state at_port)

  pub multiplexer_ports : PortLaw s n
  multiplexer_ports =
      record {
        takes_means = λ t. absurd (let no : false ≡ true = sym (takes_none F s known rest n node there (ap (λ k. takes_of k node.progress.stage (wires_in n (wires_of s))) is_one)) ∙ t in cc);
        leads_on = λ p c e l. let x = pipe_of s p c in inr (leads x.0 x.1 (ap (λ (u : Wire). u.receiver) x.2 ∙ e) (ap is_live x.2 ∙ l));
        hands_on = λ up. inr (λ p c e l. let x = pipe_of s p c in sym (ap (λ (u : Wire). u.send_state) x.2) ∙ hands up x.0 x.1 (ap (λ (u : Wire). u.sender) x.2 ∙ e) (ap is_live x.2 ∙ l));
      }
