-- A graph that has come to rest shows a world that has.
use Rattle.std.proofs.Common.{◌≡◌, ℕ, ◌⊎◌, Bool, true, false, cond, List, [], ◌∷◌, length, map-id, Some, inl, inr, refl, sym, ap, subst, ◌∙◌, arith}
use Rattle.std.specs.Prelude.{Contains, get_or, is_some, map, nat_eq, not, slice_get, ◌&&◌, ◌||◌}
use Rattle.std.proofs.lemmas.Bool.{cases_eq}
use Rattle.std.proofs.lemmas.Option.{get_or_from_slice_get, slice_get_within}
use Rattle.ps_flow.proofs.Leading.{Leads, plain_there, same_shape}
use Rattle.ps_flow.proofs.Seeing.{heads_are, same_answer}
use Rattle.ps_flow.specs.Openings.{IsPlain}
use Rattle.ps_flow.specs.Standing.{seen_as}
use Rattle.ps_frame.specs.Functions.{Functions}
use Rattle.ps_meaning.specs.Shape.{Shape}
use Rattle.ps_options.specs.declared.options.Options.{Options}
use Rattle.ps_ports.specs.declared.port_state.PortState.{PortState}
use Rattle.ps_ports.specs.declared.port_state.PortState.TheVariants as port
use Rattle.ps_ports.specs.Ports.{Sides, all_done, first_port, is_done, kept_done, kept_state}
use Rattle.ps_ports.specs.UpdateLaws.{KeepsUpdateLaws}
use Rattle.ps_ports.specs.Wires.{IsWired, Wire, given_to, said_by, wires_in, wires_out}
use Rattle.ps_settle.specs.Standings.{IsSettled as IsSettledGraph, Standing}
use Rattle.ps_settle.specs.Sweeps.{WasLeft}
use Rattle.ps_settle.proofs.Ends.{is_in, is_out, other_number, same_number}
use Rattle.ps_settle.proofs.Members.{contains_at, item_at, map_alike, map_at, number_at, place_of}
use Rattle.ps_settle.proofs.Rest.{ends_agree}
use Rattle.ps_settle.proofs.Turns.{EndsAgree, sends}
use Rattle.ps_turns.specs.Progress.{is_multiplexer, is_taking, is_user_map}
use Rattle.ps_turns.specs.Updates.{answer_of, shape_fault}
use Rattle.ps_world.specs.Updates.{IsAtRest, IsSettled, answer_at, empty_outs, given_at, received, sent, written}
use Rattle.ps_world.specs.World.{Node, Pipe, World, shape_of, wires_of}
use Rattle.turn_laws.specs.Updating.{SeenNode, UpdatesTo, heads_seen}
use Rattle.turn_laws.proofs.KeptLaws.{stage_is}

-- WRITING AGAIN WHAT IS SAID
kept_itself : (s : PortState) → kept_state s s ≡ s
kept_itself port.Blocked = refl
kept_itself port.Ready = refl
kept_itself port.Done = refl

all_kept : (ss : List PortState) → kept_done ss ss ≡ ss
all_kept [] = refl
all_kept (s ∷ ss) = let a = kept_itself s in let rest = all_kept ss in λ i. a i ∷ rest i

unread_stays : (u r s : Bool) → s ≡ r → (u || (r && not s)) ≡ u
unread_stays true r s e = refl
unread_stays false true true e = refl
unread_stays false false s e = refl
unread_stays false true false e = absurd (let no : false ≡ true = e in cc)

-- an end that is written as it is stays, where both ends are done together
received_again : (s : PortState) (p : Pipe) → s ≡ p.wire.receive_state → is_done p.wire.send_state ≡ is_done p.wire.receive_state → received s p ≡ p
received_again s p e agree =
    ap (λ t. received t p) e
    ∙ (λ i. record p {
      wire = record p.wire { receive_state = kept_itself p.wire.receive_state i };
      is_unread = unread_stays p.is_unread (is_done p.wire.receive_state) (is_done p.wire.send_state) agree i;
    })

sent_again : (s : PortState) (p : Pipe) → s ≡ p.wire.send_state → sent s p ≡ p
sent_again s p e = ap (λ t. sent t p) e ∙ (λ i. record p { wire = record p.wire { send_state = kept_itself p.wire.send_state i } })

contains_wire : (p : Pipe) (ps : List Pipe) → Contains ps p → Contains (map (λ (q : Pipe). q.wire) ps) p.wire
contains_wire p ps c = let i = place_of ps p c in contains_at (map (λ (q : Pipe). q.wire) ps) i.0 p.wire (map_at (λ (q : Pipe). q.wire) ps i.0 p i.1)

-- a wire stands among those of its node at its own number
module _ (count : ℕ) (ws : List Wire) (wired : IsWired count ws) (p : Wire) (c : Contains ws p) where
  input_place : slice_get (wires_in p.receiver ws) p.input ≡ Some p
  input_place =
      let i = place_of (wires_in p.receiver ws) p (is_in p.receiver ws p c refl) in
      subst (λ j. slice_get (wires_in p.receiver ws) j ≡ Some p) (sym (number_at (λ (q : Wire). q.input) (wires_in p.receiver ws) i.0 p (wired.inputs p.receiver) i.1)) i.1

  port_place : slice_get (wires_out p.sender ws) p.port ≡ Some p
  port_place =
      let i = place_of (wires_out p.sender ws) p (is_out p.sender ws p c refl) in
      subst (λ j. slice_get (wires_out p.sender ws) j ≡ Some p) (sym (number_at (λ (q : Wire). q.port) (wires_out p.sender ws) i.0 p (wired.ports p.sender) i.1)) i.1

module _ (w : World) (count : ℕ) (wired : IsWired count (wires_of w)) (agree : EndsAgree (wires_of w)) (n : ℕ) where
  said_in : (p : Wire) → Contains (wires_of w) p → p.receiver ≡ n → get_or (said_by n (wires_of w)).inputs p.input p.receive_state ≡ p.receive_state
  said_in p c e =
      let there = subst (λ m. slice_get (wires_in m (wires_of w)) p.input ≡ Some p) e (input_place count (wires_of w) wired p c) in
      get_or_from_slice_get (said_by n (wires_of w)).inputs p.input p.receive_state p.receive_state (map_at (λ (q : Wire). q.receive_state) (wires_in n (wires_of w)) p.input p there)

  said_out : (p : Wire) → Contains (wires_of w) p → p.sender ≡ n → get_or (said_by n (wires_of w)).outputs p.port p.send_state ≡ p.send_state
  said_out p c e =
      let there = subst (λ m. slice_get (wires_out m (wires_of w)) p.port ≡ Some p) e (port_place count (wires_of w) wired p c) in
      get_or_from_slice_get (said_by n (wires_of w)).outputs p.port p.send_state p.send_state (map_at (λ (q : Wire). q.send_state) (wires_out n (wires_of w)) p.port p there)

  into_again : (p : Pipe) → Contains w.pipes p → cond (nat_eq p.wire.receiver n) (received (get_or (said_by n (wires_of w)).inputs p.wire.input p.wire.receive_state) p) p ≡ p
  into_again p c = by (cases_eq p.wire.receiver n)
    where
      at : Contains (wires_of w) p.wire
      at = contains_wire p w.pipes c

      by : (p.wire.receiver ≡ n) ⊎ (p.wire.receiver ≡ n → ⊥) → cond (nat_eq p.wire.receiver n) (received (get_or (said_by n (wires_of w)).inputs p.wire.input p.wire.receive_state) p) p ≡ p
      by (inl e) =
          ap (λ b. cond b (received (get_or (said_by n (wires_of w)).inputs p.wire.input p.wire.receive_state) p) p) (same_number p.wire.receiver n e)
          ∙ received_again (get_or (said_by n (wires_of w)).inputs p.wire.input p.wire.receive_state) p (said_in p.wire at e) (agree p.wire at)
      by (inr h) = ap (λ b. cond b (received (get_or (said_by n (wires_of w)).inputs p.wire.input p.wire.receive_state) p) p) (other_number p.wire.receiver n h)

  out_again : (p : Pipe) → Contains w.pipes p → cond (nat_eq p.wire.sender n) (sent (get_or (said_by n (wires_of w)).outputs p.wire.port p.wire.send_state) p) p ≡ p
  out_again p c = by (cases_eq p.wire.sender n)
    where
      at : Contains (wires_of w) p.wire
      at = contains_wire p w.pipes c

      by : (p.wire.sender ≡ n) ⊎ (p.wire.sender ≡ n → ⊥) → cond (nat_eq p.wire.sender n) (sent (get_or (said_by n (wires_of w)).outputs p.wire.port p.wire.send_state) p) p ≡ p
      by (inl e) =
          ap (λ b. cond b (sent (get_or (said_by n (wires_of w)).outputs p.wire.port p.wire.send_state) p) p) (same_number p.wire.sender n e)
          ∙ sent_again (get_or (said_by n (wires_of w)).outputs p.wire.port p.wire.send_state) p (said_out p.wire at e)
      by (inr h) = ap (λ b. cond b (sent (get_or (said_by n (wires_of w)).outputs p.wire.port p.wire.send_state) p) p) (other_number p.wire.sender n h)

  -- what a node says, written to its pipes again, leaves the world
  said_again : written n (said_by n (wires_of w)) w ≡ w
  said_again =
      let a = said_by n (wires_of w) in
      let ins = map_alike (λ (p : Pipe). cond (nat_eq p.wire.receiver n) (received (get_or a.inputs p.wire.input p.wire.receive_state) p) p) (λ (p : Pipe). p) w.pipes (λ p c. into_again p c) ∙ map-id w.pipes in
      let outs = map_alike (λ (p : Pipe). cond (nat_eq p.wire.sender n) (sent (get_or a.outputs p.wire.port p.wire.send_state) p) p) (λ (p : Pipe). p) w.pipes (λ p c. out_again p c) ∙ map-id w.pipes in
      (λ i. record w { pipes = map (λ (p : Pipe). cond (nat_eq p.wire.sender n) (sent (get_or a.outputs p.wire.port p.wire.send_state) p) p) (ins i) }) ∙ (λ i. record w { pipes = outs i })

-- REST
-- a node that an update leaves is at rest
module _ (F : Functions) (v : World) (count : ℕ) (wired : IsWired count (wires_of v)) (agree : EndsAgree (wires_of v)) (n : ℕ) (x : Node) (multiplexes : is_multiplexer x.node.kind ≡ false) (no_map : is_user_map x.node.kind ≡ false)
    (es : List Bool) (turn : UpdatesTo F v.options (seen_as (shape_of v) x es) (given_at v n) (seen_as (shape_of v) x es) (said_by n (wires_of v))) where
  left_at_rest : IsAtRest v n x
  left_at_rest =
      let seen = seen_as (shape_of v) x es in
      let says : answer_at v n x x.progress ≡ said_by n (wires_of v) =
      ap (λ hs. answer_of v.options x.node x.progress hs (empty_outs v n) (given_at v n)) (heads_are v n x)
      ∙ same_answer v.options x.node x.progress (heads_seen seen (given_at v n)) (empty_outs v n) es (given_at v n) multiplexes ∙ sym turn.answers in
      record {
        stage = sym (stage_is F v.options seen seen (given_at v n) (said_by n (wires_of v)) turn);
        states = ap (λ a. written n a v) says ∙ said_again v count wired agree n;
        agrees = ap (λ hs. shape_fault x.node x.node.kind hs (given_at v n)) (heads_are v n x) ∙ turn.agrees;
        filled = ap (λ b. (b && (is_taking x.progress.stage && not (is_some x.progress.made))) && (all_done (given_at v n).inputs && not (is_done (first_port (given_at v n).outputs)))) no_map;
      }

module _ {N : Type 0} (Has : Options → N → SeenNode → Type 0) (rank : N → ℕ) (Update : N → Sides → N → Sides → Type 0) (F : Functions)
    (law : (o : Options) (a b : N) (x : SeenNode) (given answer : Sides) → Has o a x → Update a given b answer → (y : SeenNode) × UpdatesTo F o x given y answer × Has o b y) (laws : KeepsUpdateLaws rank Update)
    (again : (o : Options) (a b : N) (y : SeenNode) (given answer : Sides) → Has o b y → Update a given b answer → rank a ≡ rank b → UpdatesTo F o y given y answer) (w : World) (plain : IsPlain w)
    (s : Standing N) (l : Leads Has rank Update F law w s) (wired : IsWired (length s.nodes) s.wires) (rest : IsSettledGraph rank Update s) where
  was_left : (n : ℕ) (b : N) → slice_get s.nodes n ≡ Some b → WasLeft rank Update s n b
  was_left n b e =
      let left = rest.left n b e in
      record {
        before = left.0;
        answer = said_by n s.wires;
        update = left.1;
        same_stage = left.2;
        says = λ i. record { inputs = sym (all_kept (said_by n s.wires).inputs) i; outputs = sym (all_kept (said_by n s.wires).outputs) i };
      }

  -- both ends of a wire are done together
  agree : EndsAgree s.wires
  agree = ends_agree rank Update laws s wired (λ n b e. sends rank Update laws s n b (was_left n b e))

  pub settled_world : IsSettled (record w { nodes = l.nodes; pipes = l.pipes })
  settled_world n x at =
      let v : World = record w { nodes = l.nodes; pipes = l.pipes } in
      let within = slice_get_within l.nodes n x at in
      let long = l.have.long in
      let b = item_at s.nodes n (omega (arith, within, long)) in
      let has = l.have.each n x b.0 at b.1 in
      let left = rest.left n b.0 b.1 in
      let stays = again w.options left.0 b.0 (seen_as (shape_of w) x has.0) (given_to n s.wires) (said_by n s.wires) has.1 left.1 left.2 in
      let P : Shape → List Wire → Type 0 = λ sh ws. UpdatesTo F w.options (seen_as sh x has.0) (given_to n ws) (seen_as sh x has.0) (said_by n ws) in
      let turn = subst (λ ws. P (shape_of v) ws) l.wires (subst (λ sh. P sh s.wires) (sym (same_shape l.nodes w.nodes l.still)) stays) in
      let p = plain_there w l.nodes plain l.still n x at in
      left_at_rest F v (length s.nodes) (subst (IsWired (length s.nodes)) l.wires wired) (subst EndsAgree l.wires agree) n x p.0 p.1 has.0 turn
