-- The third part of the law of zips.
use Rattle.std.proofs.Common.{◌≡◌, ℕ, suc, ◌⊎◌, Bool, true, false, List, [], ◌∷◌, Some, refl, sym, ap, ◌∙◌, inl, inr}
use Rattle.std.specs.Prelude.{Contains, IsTrue, get_or, slice_get, ◌||◌}
use Rattle.std.specs.List.{list_any}
use Rattle.ps_frame.specs.Functions.{Functions}
use Rattle.ps_meaning.specs.Shape.{zip_node}
use Rattle.ps_ports.specs.Ports.{Sides, first_port, is_blocked, is_done}
use Rattle.ps_ports.specs.Wires.{Wire, is_live, wires_in}
use Rattle.ps_ports.specs.declared.port_state.PortState.{PortState}
use Rattle.ps_ports.specs.declared.port_state.PortState.TheVariants as port
use Rattle.ps_turns.specs.Updates.{zip_answer, zip_is_over}
use Rattle.ps_world.specs.Laws.{IsReadySent, PortLaw, takes_of}
use Rattle.ps_world.specs.Updates.{IsSettled, given_at}
use Rattle.ps_world.specs.World.{Node, Pipe, World, heads_of, wires_of}
use Rattle.world_claims.specs.Numbering.{Known}
use Rattle.world_laws.proofs.InOrder.{contains_map}
use Rattle.orderly_worlds.proofs.Says.{reader_pipe}
use Rattle.streaming_ports.proofs.OnePort.{not_both, some_state, takes_none}
use Rattle.streaming_ports.proofs.Ports.{agree, alive, live_ends, live_or_done, pipe_of, sender_at}
use Rattle.zip_laws.proofs.Ends.{goes_answer, over_answer, repeated_is}
use Rattle.zip_laws.proofs.Opens.{live_in, live_out, one_out, out_is, state_in}
use Rattle.world_families.specs.Work.{Enters, Leaves}

-- a blocked state of a list stands somewhere
pub some_blocked : (ss : List PortState) → list_any is_blocked ss ≡ true → (k : ℕ) × (st : PortState) × (slice_get ss k ≡ Some st) × (is_blocked st ≡ true)
some_blocked [] e = absurd (let no : false ≡ true = e in cc)
some_blocked (s ∷ ss) e = by (is_blocked s) refl e (some_blocked ss)
  where
    by : (b : Bool) → is_blocked s ≡ b → (b || list_any is_blocked ss) ≡ true → (list_any is_blocked ss ≡ true → (k : ℕ) × (st : PortState) × (slice_get ss k ≡ Some st) × (is_blocked st ≡ true)) → (k : ℕ) × (st : PortState) × (slice_get (s ∷ ss) k ≡ Some st) × (is_blocked st ≡ true)
    by true h e rest = (0, s, refl, h)
    by false h e rest = let r = rest e in (suc r.0, r.1, r.2, r.3)

pub blocked_undone : (s : PortState) → is_blocked s ≡ true → is_done s ≡ false
blocked_undone port.Blocked b = refl
blocked_undone port.Ready b = absurd (let no : false ≡ true = b in cc)
blocked_undone port.Done b = absurd (let no : false ≡ true = b in cc)

module _ (F : Functions) (s : World) (known : Known F s) (rest : IsSettled s) (n : ℕ) (node : Node) (extend : Bool) (there : slice_get s.nodes n ≡ Some node) (is_one : node.node.kind ≡ zip_node extend) where
  output : (z : Pipe) × Contains s.pipes z × (z.wire.sender ≡ n)
  output = let o = some_state (given_at s n).outputs (one_out F s known rest n node extend there is_one) in let z = reader_pipe s n 0 o.0 o.1 in (z.0, z.1, z.2)

  abbrev answered : Sides
  answered = zip_answer (heads_of s n node) (given_at s n)

  at_wire : (x : Pipe) → Contains s.pipes x → Contains (wires_of s) x.wire
  at_wire x c = contains_map (λ (z : Pipe). z.wire) x s.pipes c

  -- it isn't over where an input is live
  not_over : (x : Pipe) → Enters s n x → is_live x.wire ≡ true → zip_is_over (heads_of s n node) (given_at s n) ≡ false
  not_over x e l = by (zip_is_over (heads_of s n node) (given_at s n)) refl
    where
      by : (b : Bool) → zip_is_over (heads_of s n node) (given_at s n) ≡ b → zip_is_over (heads_of s n node) (given_at s n) ≡ false
      by false over = over
      by true over =
          let ends = live_ends F s known rest n node there x.wire l in
          let says = live_in F s known rest n node extend there is_one x e ends.0 ∙ ap (λ (z : Sides). get_or z.inputs x.wire.input x.wire.receive_state) (over_answer (heads_of s n node) (given_at s n) over) ∙ repeated_is port.Done (given_at s n).inputs x.wire.input x.wire.send_state x.wire.receive_state (state_in F s known rest n node extend there is_one x e) in
          absurd (not_both (is_done x.wire.receive_state) (ap is_done says) ends.1)

  leads : (x : Pipe) → Enters s n x → is_live x.wire ≡ true → is_live output.0.wire ≡ true
  leads x e l = by (live_or_done F s known rest n node there output.0.wire (at_wire output.0 output.1))
    where
      first : (b c : Bool) → (b || c) ≡ false → b ≡ false
      first true c h = absurd (let no : true ≡ false = h in cc)
      first false c h = refl

      by : (is_live output.0.wire ≡ true) ⊎ (is_done output.0.wire.receive_state ≡ true) → is_live output.0.wire ≡ true
      by (inl live) = live
      by (inr d) =
          let out : is_done (first_port (given_at s n).outputs) ≡ true = ap is_done (out_is F s known rest n node extend there is_one output.0 (output.1, output.2)).0 ∙ d in
          absurd (not_both (is_done (first_port (given_at s n).outputs)) out (first (is_done (first_port (given_at s n).outputs)) _ (not_over x e l)))

  -- no input is blocked where all that are live are sent ready
  none_blocked : ((p : Wire) → Contains (wires_of s) p → p.receiver ≡ n → IsTrue (is_live p) → IsReadySent p) → list_any is_blocked (given_at s n).inputs ≡ false
  none_blocked up = by (list_any is_blocked (given_at s n).inputs) refl
    where
      by : (b : Bool) → list_any is_blocked (given_at s n).inputs ≡ b → list_any is_blocked (given_at s n).inputs ≡ false
      by false e = e
      by true e =
          let k = some_blocked (given_at s n).inputs e in
          let x = sender_at F s known.facts n k.0 k.1 k.2 in
          let unsent : is_done x.0.wire.send_state ≡ false = ap is_done x.4 ∙ blocked_undone k.1 k.3 in
          let live = alive (is_done x.0.wire.send_state) (is_done x.0.wire.receive_state) unsent (sym (agree F s known rest n node there x.0.wire (at_wire x.0 x.1)) ∙ unsent) in
          let ready = up x.0.wire (at_wire x.0 x.1) x.2 live in
          absurd (let no : true ≡ false = sym k.3 ∙ ap is_blocked (sym x.4 ∙ ready) in cc)

  hands : ((p : Wire) → Contains (wires_of s) p → p.receiver ≡ n → IsTrue (is_live p) → IsReadySent p) → (z : Pipe) → Leaves s n z → is_live z.wire ≡ true → z.wire.send_state ≡ port.Ready
  hands up z l live = by (zip_is_over (heads_of s n node) (given_at s n)) refl
    where
      ends : (is_done z.wire.send_state ≡ false) × (is_done z.wire.receive_state ≡ false)
      ends = live_ends F s known rest n node there z.wire live

      says : z.wire.send_state ≡ get_or answered.outputs 0 z.wire.send_state
      says = live_out F s known rest n node extend there is_one z l ends.1

      by : (b : Bool) → zip_is_over (heads_of s n node) (given_at s n) ≡ b → z.wire.send_state ≡ port.Ready
      by true over = absurd (not_both (is_done z.wire.send_state) (ap is_done (says ∙ ap (λ (a : Sides). get_or a.outputs 0 z.wire.send_state) (over_answer (heads_of s n node) (given_at s n) over))) ends.0)
      by false over = says ∙ ap (λ (a : Sides). get_or a.outputs 0 z.wire.send_state) (goes_answer (heads_of s n node) (given_at s n) (record { over = over; waits = none_blocked up }))

  pub zip_ports : PortLaw s n
  zip_ports =
      record {
        takes_means = λ t. absurd (let no : false ≡ true = sym (takes_none F s known rest n node there (ap (λ k. takes_of k node.progress.stage (wires_in n (wires_of s))) is_one)) ∙ t in cc);
        leads_on = λ p c e l.
            let x = pipe_of s p c in
            inr (output.0.wire, at_wire output.0 output.1, output.2, leads x.0 (x.1, ap (λ (u : Wire). u.receiver) x.2 ∙ e) (ap is_live x.2 ∙ l));
        hands_on = λ up. inr (λ p c e l. let x = pipe_of s p c in sym (ap (λ (u : Wire). u.send_state) x.2) ∙ hands up x.0 (x.1, ap (λ (u : Wire). u.sender) x.2 ∙ e) (ap is_live x.2 ∙ l));
      }
