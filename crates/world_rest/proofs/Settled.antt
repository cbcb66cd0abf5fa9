-- Where the graph that a world shows has come to rest, and each node goes on without a fault, the world has come to rest.
use Rattle.std.proofs.Common.{◌≡◌, ℕ, zero, suc, ◌<◌, ◌⊎◌, Bool, true, false, cond, List, [], ◌∷◌, length, map-id, Option, Some, None, refl, sym, ap, subst, ◌∙◌, inl, inr, arith}
use Rattle.std.specs.Prelude.{Contains, IsFalse, IsTrue, get_or, map, nat_eq, not, slice_get, ◌&&◌, ◌||◌}
use Rattle.std.proofs.lemmas.Bool.{cases_eq}
use Rattle.std.proofs.lemmas.Option.{get_or_from_slice_get, slice_get_within}
use Rattle.ps_frame.specs.Functions.{Functions}
use Rattle.ps_ports.specs.declared.port_state.PortState.{PortState}
use Rattle.ps_ports.specs.declared.port_state.PortState.TheVariants as port
use Rattle.ps_ports.specs.Ports.{Sides, is_done, kept_done, kept_state}
use Rattle.ps_ports.specs.UpdateLaws.{KeepsUpdateLaws}
use Rattle.ps_ports.specs.Wires.{Wire, said_by, wires_in, wires_out}
use Rattle.ps_settle.specs.Standings.{IsSettled as IsSettledGraph}
use Rattle.ps_settle.specs.Sweeps.{WasLeft}
use Rattle.ps_settle.proofs.Ends.{other_number, same_number}
use Rattle.ps_settle.proofs.Members.{map_alike, map_at}
use Rattle.ps_settle.proofs.Rest.{ends_agree}
use Rattle.ps_settle.proofs.Turns.{EndsAgree, sends}
use Rattle.ps_turns.specs.Progress.{Progress, giving, taking}
use Rattle.ps_turns.specs.Updates.{answer_of, is_waiting, shape_fault}
use Rattle.ps_world.specs.Facts.{Facts}
use Rattle.ps_world.specs.Updates.{IsAtRest, IsSettled, answer_at, empty_outs, given_at, received, sent, written}
use Rattle.ps_world.specs.World.{Node, Pipe, World, wires_of}
use Rattle.turn_laws.specs.Updating.{FillsAndUpdates, SeenNode, UpdatesTo, stages_before, stages_behind}
use Rattle.turn_laws.proofs.KeptLaws.{cases, fills_keep_laws, stage_is, stays_same}
use Rattle.world_facts.proofs.Wired.{input_place, port_place}
use Rattle.world_laws.proofs.InOrder.{contains_map}
use Rattle.world_rest.proofs.Seen.{heads_are, node_seen, seen_at, standing_of}
use Rattle.world_rest.proofs.Wired.{wired_world}

-- WRITING AGAIN WHAT IS SAID
kept_itself : (s : PortState) → kept_state s s ≡ s
kept_itself port.Blocked = refl
kept_itself port.Ready = refl
kept_itself port.Done = refl

all_kept : (ss : List PortState) → kept_done ss ss ≡ ss
all_kept [] = refl
all_kept (s ∷ ss) = let a = kept_itself s in let rest = all_kept ss in λ i. a i ∷ rest i

unread_stays : (u r s : Bool) → s ≡ r → (u || (r && not s)) ≡ u
unread_stays true r s e = refl
unread_stays false true true e = refl
unread_stays false false s e = refl
unread_stays false true false e = absurd (let no : false ≡ true = e in cc)

-- an end that is written as it is stays, where both ends are done together
received_again : (s : PortState) (p : Pipe) → s ≡ p.wire.receive_state → is_done p.wire.send_state ≡ is_done p.wire.receive_state → received s p ≡ p
received_again s p e agree =
    ap (λ t. received t p) e
    ∙ (λ i. record p {
      wire = record p.wire { receive_state = kept_itself p.wire.receive_state i };
      is_unread = unread_stays p.is_unread (is_done p.wire.receive_state) (is_done p.wire.send_state) agree i;
    })

sent_again : (s : PortState) (p : Pipe) → s ≡ p.wire.send_state → sent s p ≡ p
sent_again s p e = ap (λ t. sent t p) e ∙ (λ i. record p { wire = record p.wire { send_state = kept_itself p.wire.send_state i } })

module _ (F : Functions) (w : World) (f : Facts F w) (agree : EndsAgree (wires_of w)) (n : ℕ) where
  said_in : (p : Wire) → Contains (wires_of w) p → p.receiver ≡ n → get_or (said_by n (wires_of w)).inputs p.input p.receive_state ≡ p.receive_state
  said_in p c e =
      let there = subst (λ m. slice_get (wires_in m (wires_of w)) p.input ≡ Some p) e (input_place F w f p c) in
      get_or_from_slice_get (said_by n (wires_of w)).inputs p.input p.receive_state p.receive_state (map_at (λ (q : Wire). q.receive_state) (wires_in n (wires_of w)) p.input p there)

  said_out : (p : Wire) → Contains (wires_of w) p → p.sender ≡ n → get_or (said_by n (wires_of w)).outputs p.port p.send_state ≡ p.send_state
  said_out p c e =
      let there = subst (λ m. slice_get (wires_out m (wires_of w)) p.port ≡ Some p) e (port_place F w f p c) in
      get_or_from_slice_get (said_by n (wires_of w)).outputs p.port p.send_state p.send_state (map_at (λ (q : Wire). q.send_state) (wires_out n (wires_of w)) p.port p there)

  into_again : (p : Pipe) → Contains w.pipes p → cond (nat_eq p.wire.receiver n) (received (get_or (said_by n (wires_of w)).inputs p.wire.input p.wire.receive_state) p) p ≡ p
  into_again p c = by (cases_eq p.wire.receiver n)
    where
      at : Contains (wires_of w) p.wire
      at = contains_map (λ (q : Pipe). q.wire) p w.pipes c

      by : (p.wire.receiver ≡ n) ⊎ (p.wire.receiver ≡ n → ⊥) → cond (nat_eq p.wire.receiver n) (received (get_or (said_by n (wires_of w)).inputs p.wire.input p.wire.receive_state) p) p ≡ p
      by (inl e) =
          ap (λ b. cond b (received (get_or (said_by n (wires_of w)).inputs p.wire.input p.wire.receive_state) p) p) (same_number p.wire.receiver n e)
          ∙ received_again (get_or (said_by n (wires_of w)).inputs p.wire.input p.wire.receive_state) p (said_in p.wire at e) (agree p.wire at)
      by (inr h) = ap (λ b. cond b (received (get_or (said_by n (wires_of w)).inputs p.wire.input p.wire.receive_state) p) p) (other_number p.wire.receiver n h)

  out_again : (p : Pipe) → Contains w.pipes p → cond (nat_eq p.wire.sender n) (sent (get_or (said_by n (wires_of w)).outputs p.wire.port p.wire.send_state) p) p ≡ p
  out_again p c = by (cases_eq p.wire.sender n)
    where
      at : Contains (wires_of w) p.wire
      at = contains_map (λ (q : Pipe). q.wire) p w.pipes c

      by : (p.wire.sender ≡ n) ⊎ (p.wire.sender ≡ n → ⊥) → cond (nat_eq p.wire.sender n) (sent (get_or (said_by n (wires_of w)).outputs p.wire.port p.wire.send_state) p) p ≡ p
      by (inl e) =
          ap (λ b. cond b (sent (get_or (said_by n (wires_of w)).outputs p.wire.port p.wire.send_state) p) p) (same_number p.wire.sender n e)
          ∙ sent_again (get_or (said_by n (wires_of w)).outputs p.wire.port p.wire.send_state) p (said_out p.wire at e)
      by (inr h) = ap (λ b. cond b (sent (get_or (said_by n (wires_of w)).outputs p.wire.port p.wire.send_state) p) p) (other_number p.wire.sender n h)

  -- what a node says, written to its pipes again, leaves the world
  said_again : written n (said_by n (wires_of w)) w ≡ w
  said_again =
      let a = said_by n (wires_of w) in
      let ins = map_alike (λ (p : Pipe). cond (nat_eq p.wire.receiver n) (received (get_or a.inputs p.wire.input p.wire.receive_state) p) p) (λ (p : Pipe). p) w.pipes (λ p c. into_again p c) ∙ map-id w.pipes in
      let outs = map_alike (λ (p : Pipe). cond (nat_eq p.wire.sender n) (sent (get_or a.outputs p.wire.port p.wire.send_state) p) p) (λ (p : Pipe). p) w.pipes (λ p c. out_again p c) ∙ map-id w.pipes in
      (λ i. record w { pipes = map (λ (p : Pipe). cond (nat_eq p.wire.sender n) (sent (get_or a.outputs p.wire.port p.wire.send_state) p) p) (ins i) }) ∙ (λ i. record w { pipes = outs i })

-- REST
module _ (F : Functions) (w : World) (f : Facts F w) (rest : IsSettledGraph stages_behind (FillsAndUpdates F w.options) (standing_of w)) where
  laws : KeepsUpdateLaws stages_behind (FillsAndUpdates F w.options)
  laws = fills_keep_laws F w.options (λ a. a)

  was_left : (n : ℕ) (b : SeenNode) → slice_get (standing_of w).nodes n ≡ Some b → WasLeft stages_behind (FillsAndUpdates F w.options) (standing_of w) n b
  was_left n b e =
      let l = rest.left n b e in
      record {
        before = l.0;
        answer = said_by n (wires_of w);
        update = l.1;
        same_stage = l.2;
        says = λ i. record { inputs = sym (all_kept (said_by n (wires_of w)).inputs) i; outputs = sym (all_kept (said_by n (wires_of w)).outputs) i };
      }

  -- both ends of a wire are done together
  agree : EndsAgree (wires_of w)
  agree = ends_agree stages_behind (FillsAndUpdates F w.options) laws (standing_of w) (wired_world F w f) (λ n b e. sends stages_behind (FillsAndUpdates F w.options) laws (standing_of w) n b (was_left n b e))

  module _ (n : ℕ) (x : Node) (at : slice_get w.nodes n ≡ Some x) (b : SeenNode) (answer : Sides) (u : FillsAndUpdates F w.options (seen_at w n x) (given_at w n) b answer) where
    leaves : (answer ≡ said_by n (wires_of w)) × (stages_behind b ≡ stages_behind (seen_at w n x))
    leaves = rest.leaves n (seen_at w n x) b answer (node_seen w n x at) u

    -- the node didn't wait for its table
    unfilled : (is_waiting x.node.kind x.progress (given_at w n) ≡ false) × (u.filled ≡ x.progress)
    unfilled = by (cases F w.options (seen_at w n x) b (given_at w n) answer u)
      where
        by : (IsFalse (is_waiting x.node.kind x.progress (given_at w n)) × (u.filled ≡ x.progress)) ⊎ (IsTrue (is_waiting x.node.kind x.progress (given_at w n)) × (x.progress.stage ≡ taking) × (b.progress.stage ≡ giving))
            → (is_waiting x.node.kind x.progress (given_at w n) ≡ false) × (u.filled ≡ x.progress)
        by (inl none) = none
        by (inr (e, t, g)) = absurd (let no : 1 ≡ 0 = sym (ap stages_before g) ∙ leaves.1 ∙ ap stages_before t in omega (arith, no))

    turn : UpdatesTo F w.options (seen_at w n x) (given_at w n) b answer
    turn = subst (λ p. UpdatesTo F w.options (record (seen_at w n x) { progress = p }) (given_at w n) b answer) unfilled.1 u.update

    same : b ≡ seen_at w n x
    same = stays_same F w.options (seen_at w n x) b (given_at w n) answer turn (sym leaves.1)

    at_rest : IsAtRest w n x
    at_rest =
        let heads = heads_are w n x in
        let progress = ap (λ (a : SeenNode). a.progress) same in
        let says : answer_at w n x x.progress ≡ said_by n (wires_of w) =
        (λ i. answer_of w.options x.node (sym progress i) (heads i) (empty_outs w n) (given_at w n)) ∙ sym turn.answers ∙ leaves.0 in
        record {
          stage = sym (stage_is F w.options (seen_at w n x) b (given_at w n) answer turn) ∙ ap (λ (p : Progress). p.stage) progress;
          states = ap (λ a. written n a w) says ∙ said_again F w f agree n;
          agrees = ap (λ hs. shape_fault x.node x.node.kind hs (given_at w n)) heads ∙ turn.agrees;
          filled = unfilled.0;
        }

  -- each node goes on, or something else holds
  module _ (Else : Type 0) (next : (n : ℕ) (x : Node) → slice_get w.nodes n ≡ Some x → ((b : SeenNode) × (answer : Sides) × FillsAndUpdates F w.options (seen_at w n x) (given_at w n) b answer) ⊎ Else) where
    all_rest : (k : ℕ) → ((n : ℕ) (x : Node) → n < k → slice_get w.nodes n ≡ Some x → IsAtRest w n x) ⊎ Else
    all_rest zero = inl (λ n x h e. absurd (omega arith))
    all_rest (suc k) = by (all_rest k) (slice_get w.nodes k) refl
      where
        with_last : ((n : ℕ) (x : Node) → n < k → slice_get w.nodes n ≡ Some x → IsAtRest w n x) → ((x : Node) → slice_get w.nodes k ≡ Some x → IsAtRest w k x) → (n : ℕ) (x : Node) → n < suc k → slice_get w.nodes n ≡ Some x → IsAtRest w n x
        with_last before last n x h e = elim (cases_eq n k) [
          | inl d ↦ subst (λ m. IsAtRest w m x) (sym d) (last x (ap (slice_get w.nodes) (sym d) ∙ e))
          | inr d ↦ before n x (omega arith) e
        ]

        here : ((n : ℕ) (x : Node) → n < k → slice_get w.nodes n ≡ Some x → IsAtRest w n x) → (x : Node) → slice_get w.nodes k ≡ Some x
            → ((b : SeenNode) × (answer : Sides) × FillsAndUpdates F w.options (seen_at w k x) (given_at w k) b answer) ⊎ Else
            → ((n : ℕ) (x : Node) → n < suc k → slice_get w.nodes n ≡ Some x → IsAtRest w n x) ⊎ Else
        here before x e (inl (b, answer, u)) = inl (with_last before (λ y d. let same : x ≡ y = let q : Some x ≡ Some y = sym e ∙ d in cc in subst (λ z. IsAtRest w k z) same (at_rest k x e b answer u)))
        here before x e (inr other) = inr other

        by : ((n : ℕ) (x : Node) → n < k → slice_get w.nodes n ≡ Some x → IsAtRest w n x) ⊎ Else → (o : Option Node) → slice_get w.nodes k ≡ o
            → ((n : ℕ) (x : Node) → n < suc k → slice_get w.nodes n ≡ Some x → IsAtRest w n x) ⊎ Else
        by (inr other) o e = inr other
        by (inl before) None e = inl (with_last before (λ y d. absurd (let no : None ≡ Some y = sym e ∙ d in cc)))
        by (inl before) (Some x) e = here before x e (next k x e)

    pub settled_world : IsSettled w ⊎ Else
    settled_world = elim (all_rest (length w.nodes)) [ inl all ↦ inl (λ n x e. all n x (slice_get_within w.nodes n x e) e) | inr other ↦ inr other ]
