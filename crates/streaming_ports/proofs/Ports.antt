-- In a settled world: what a node says of its ends, and the pipes at its ports.
use Rattle.std.proofs.Common.{◌≡◌, ℕ, zero, suc, ◌⊎◌, Bool, true, false, List, [], ◌∷◌, Option, Some, None, refl, sym, ap, ◌∙◌, inl, inr}
use Rattle.std.specs.Prelude.{Contains, get_or, nat_eq, nat_lt, not, option_map, slice_get, ◌||◌}
use Rattle.std.specs.List.{filter as kept}
use Rattle.std.proofs.lemmas.Option.{slice_get-map}
use Rattle.ps_frame.specs.Functions.{Functions}
use Rattle.ps_ports.specs.Ports.{is_done, kept_done, kept_state}
use Rattle.ps_ports.specs.Wires.{Wire, is_live, wires_in}
use Rattle.ps_ports.specs.declared.port_state.PortState.{PortState}
use Rattle.ps_ports.specs.declared.port_state.PortState.TheVariants as port
use Rattle.ps_turns.specs.Updates.{answer_by}
use Rattle.ps_world.specs.Facts.{Facts}
use Rattle.ps_world.specs.Laws.{EndsAgree}
use Rattle.ps_world.specs.Updates.{IsSettled, empty_outs, given_at}
use Rattle.ps_world.specs.World.{Node, Pipe, World, heads_of, wires_of}
use Rattle.world_claims.specs.Numbering.{Known}
use Rattle.world_facts.proofs.HandedIn.{contains_of}
use Rattle.world_facts.proofs.Placing.{ends_agree, in_place}
use Rattle.world_facts.proofs.Wired.{input_at}
use Rattle.world_laws.proofs.Agree.{from_map, reader_says, sender_says}
use Rattle.world_laws.proofs.PassingPorts.{ordered, same_number, was_kept}

pub live_means : (a b : Bool) → not (a || b) ≡ true → (a ≡ false) × (b ≡ false)
live_means true b e = absurd (let no : false ≡ true = e in cc)
live_means false true e = absurd (let no : false ≡ true = e in cc)
live_means false false e = (refl, refl)

pub alive : (a b : Bool) → a ≡ false → b ≡ false → not (a || b) ≡ true
alive a b e f = rw (e, f) refl

-- an end that isn't done says what is new
pub kept_new : (old new : PortState) → is_done old ≡ false → kept_state old new ≡ new
kept_new port.Done new e = absurd (let no : true ≡ false = e in cc)
kept_new port.Ready new e = refl
kept_new port.Blocked new e = refl

-- what it answers to what isn't done is what its rule gives
pub kept_rule : (olds news : List PortState) (k : ℕ) (old d : PortState) → slice_get olds k ≡ Some old → is_done old ≡ false → get_or (kept_done olds news) k d ≡ get_or news k d
kept_rule [] news k old d at e = absurd (let no : None ≡ Some old = at in cc)
kept_rule (o ∷ olds) [] k old d at e = refl
kept_rule (o ∷ olds) (n ∷ news) zero old d at e =
    let q : Some o ≡ Some old = at in
    let same : o ≡ old = cc in
    kept_new o n (ap is_done same ∙ e)
kept_rule (o ∷ olds) (n ∷ news) (suc k) old d at e = kept_rule olds news k old d at e

from_option : (o : Option Wire) (f : Wire → PortState) (s : PortState) → option_map f o ≡ Some s → (u : Wire) × (o ≡ Some u) × (f u ≡ s)
from_option None f s e = absurd (let no : None ≡ Some s = e in cc)
from_option (Some u) f s e = (u, refl, let q : Some (f u) ≡ Some s = e in let same : f u ≡ s = cc in same)

-- a wire of a world as its pipe
pub pipe_of : (s : World) (p : Wire) → Contains (wires_of s) p → (x : Pipe) × Contains s.pipes x × (x.wire ≡ p)
pipe_of s p c = from_map (λ (x : Pipe). x.wire) p s.pipes c

-- the pipe of a state that an update is given of an input
pub sender_pipe : (s : World) (n k : ℕ) (st : PortState) → slice_get (given_at s n).inputs k ≡ Some st → (x : Pipe) × Contains s.pipes x × (x.wire.receiver ≡ n) × (x.wire.send_state ≡ st)
sender_pipe s n k st at =
    let ws = wires_in n (wires_of s) in
    let u = from_option (slice_get ws k) (λ (p : Wire). p.send_state) st (sym (slice_get-map (λ (p : Wire). p.send_state) ws k) ∙ at) in
    let among = was_kept (λ (p : Wire). nat_eq p.receiver n) u.0 (wires_of s) (ordered (λ (p q : Wire). nat_lt p.input q.input) u.0 (kept (λ (p : Wire). nat_eq p.receiver n) (wires_of s)) (contains_of ws k u.0 u.1)) in
    let z = pipe_of s u.0 among.0 in
    (z.0, z.1, ap (λ (p : Wire). p.receiver) z.2 ∙ same_number u.0.receiver n among.1, ap (λ (p : Wire). p.send_state) z.2 ∙ u.2)

-- and at its place
pub sender_at : (F : Functions) (s : World) (f : Facts F s) (n k : ℕ) (st : PortState) → slice_get (given_at s n).inputs k ≡ Some st → (x : Pipe) × Contains s.pipes x × (x.wire.receiver ≡ n) × (x.wire.input ≡ k) × (x.wire.send_state ≡ st)
sender_at F s f n k st at =
    let ws = wires_in n (wires_of s) in
    let u = from_option (slice_get ws k) (λ (p : Wire). p.send_state) st (sym (slice_get-map (λ (p : Wire). p.send_state) ws k) ∙ at) in
    let place = input_at F s f n k u.0 u.1 in
    let z = pipe_of s u.0 place.0 in
    (z.0, z.1, ap (λ (p : Wire). p.receiver) z.2 ∙ place.1, ap (λ (p : Wire). p.input) z.2 ∙ place.2, ap (λ (p : Wire). p.send_state) z.2 ∙ u.2)

module _ (F : Functions) (s : World) (known : Known F s) (rest : IsSettled s) (n : ℕ) (node : Node) (there : slice_get s.nodes n ≡ Some node) where
  abbrev pub ins : List PortState
  ins = (given_at s n).inputs

  abbrev pub outs : List PortState
  outs = (given_at s n).outputs

  pub agree : EndsAgree s
  agree = ends_agree F s known.facts rest

  -- what it says of an input, and of an output
  pub input_says : (x : Pipe) → Contains s.pipes x → x.wire.receiver ≡ n
      → x.wire.receive_state ≡ kept_state x.wire.receive_state (get_or (kept_done ins (answer_by s.options node.node.kind node.progress (heads_of s n node) (empty_outs s n) (given_at s n)).inputs) x.wire.input x.wire.receive_state)
  input_says x c e =
      reader_says s (in_place F s known.facts) rest x c node (ap (slice_get s.nodes) e ∙ there)
      ∙ ap (kept_state x.wire.receive_state) (λ i. get_or (kept_done (given_at s (e i)).inputs (answer_by s.options node.node.kind node.progress (heads_of s (e i) node) (empty_outs s (e i)) (given_at s (e i))).inputs) x.wire.input x.wire.receive_state)

  pub output_says : (x : Pipe) → Contains s.pipes x → x.wire.sender ≡ n
      → x.wire.send_state ≡ kept_state x.wire.send_state (get_or (kept_done outs (answer_by s.options node.node.kind node.progress (heads_of s n node) (empty_outs s n) (given_at s n)).outputs) x.wire.port x.wire.send_state)
  output_says x c e =
      sender_says s (in_place F s known.facts) rest x c node (ap (slice_get s.nodes) e ∙ there)
      ∙ ap (kept_state x.wire.send_state) (λ i. get_or (kept_done (given_at s (e i)).outputs (answer_by s.options node.node.kind node.progress (heads_of s (e i) node) (empty_outs s (e i)) (given_at s (e i))).outputs) x.wire.port x.wire.send_state)

  -- both ends of a live pipe aren't done, and of another one both are
  pub live_ends : (p : Wire) → is_live p ≡ true → (is_done p.send_state ≡ false) × (is_done p.receive_state ≡ false)
  live_ends p l = live_means (is_done p.send_state) (is_done p.receive_state) l

  pub live_or_done : (p : Wire) → Contains (wires_of s) p → (is_live p ≡ true) ⊎ (is_done p.receive_state ≡ true)
  live_or_done p c = by (is_done p.receive_state) refl
    where
      by : (b : Bool) → is_done p.receive_state ≡ b → (is_live p ≡ true) ⊎ (is_done p.receive_state ≡ true)
      by true e = inr e
      by false e = inl (alive (is_done p.send_state) (is_done p.receive_state) (agree p c ∙ e) e)
