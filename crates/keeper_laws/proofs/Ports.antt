-- What a keeper says between phases: it takes a live input and is blocked to its output, or it gives and is ready to it.
use Rattle.std.proofs.Common.{◌≡◌, ℕ, suc, ◌⊎◌, Bool, true, false, List, [], ◌∷◌, Some, refl, sym, ap, subst, ◌∙◌, inl, inr}
use Rattle.std.specs.Prelude.{Contains, IsTrue, get_or, is_some, nat_eq, nat_lt, not, slice_get, ◌&&◌, ◌||◌}
use Rattle.std.specs.List.{filter as kept, list_any}
use Rattle.ps_frame.specs.Functions.{Functions}
use Rattle.ps_ports.specs.Ports.{Sides, all_done, first_port, is_done}
use Rattle.ps_ports.specs.Wires.{Wire, is_live, wires_in}
use Rattle.ps_ports.specs.declared.port_state.PortState.{PortState}
use Rattle.ps_ports.specs.declared.port_state.PortState.TheVariants as port
use Rattle.ps_turns.specs.Progress.{Stage, giving, is_taking, is_user_map, spent, taking}
use Rattle.ps_turns.specs.Updates.{has_given_all, is_filled, keeper_answer, next_stage}
use Rattle.ps_world.specs.Laws.{IsReadySent, PortLaw, takes, takes_of}
use Rattle.ps_world.specs.Updates.{IsSettled, empty_outs, given_at}
use Rattle.ps_world.specs.World.{Node, Pipe, World, heads_of, wires_of}
use Rattle.world_claims.specs.Numbering.{Known}
use Rattle.world_facts.proofs.HandedIn.{contains_of}
use Rattle.world_facts.proofs.Wired.{input_place}
use Rattle.world_laws.proofs.InOrder.{contains_cases, contains_first, contains_later, contains_map, none_in_nil}
use Rattle.world_laws.proofs.PassingPorts.{ordered, same_number, was_kept}
use Rattle.streaming_ports.proofs.OnePort.{live_input, live_output, not_both, one_state, state_in, state_out}
use Rattle.streaming_ports.proofs.Ports.{agree, live_ends, live_or_done, pipe_of, sender_at}
use Rattle.keeper_laws.proofs.Says.{IsKeeper, Keeper, keeper, repeated_is}
use Rattle.keeper_laws.proofs.Turn.{KeepsTurn, one_out}

-- LISTS
any_of : (ws : List Wire) → list_any is_live ws ≡ true → (p : Wire) × Contains ws p × (is_live p ≡ true)
any_of [] e = absurd (let bad : false ≡ true = e in cc)
any_of (w ∷ ws) e = by (is_live w) refl e (any_of ws)
  where
    by : (b : Bool) → is_live w ≡ b → (b || list_any is_live ws) ≡ true → (list_any is_live ws ≡ true → (p : Wire) × Contains ws p × (is_live p ≡ true)) → (p : Wire) × Contains (w ∷ ws) p × (is_live p ≡ true)
    by true h t more = (w, contains_first w ws, h)
    by false h t more = let r = more t in (r.0, contains_later w r.0 ws r.1, r.2)

some_of : (ws : List Wire) (p : Wire) → Contains ws p → is_live p ≡ true → list_any is_live ws ≡ true
some_of [] p c l = absurd (none_in_nil p c)
some_of (w ∷ ws) p c l = by (contains_cases w p ws c) (some_of ws p)
  where
    or_right : (a b : Bool) → b ≡ true → (a || b) ≡ true
    or_right true b e = refl
    or_right false b e = e

    by : (w ≡ p) ⊎ Contains ws p → (Contains ws p → is_live p ≡ true → list_any is_live ws ≡ true) → (is_live w || list_any is_live ws) ≡ true
    by (inl same) more = ap (λ b. b || list_any is_live ws) (ap is_live same ∙ l)
    by (inr later) more = or_right (is_live w) (list_any is_live ws) (more later l)

all_if : (ss : List PortState) → ((k : ℕ) (s : PortState) → slice_get ss k ≡ Some s → is_done s ≡ true) → all_done ss ≡ true
all_if [] h = refl
all_if (s ∷ ss) h = let first = h 0 s refl in let rest = all_if ss (λ k t e. h (suc k) t e) in λ i. first i && rest i

not_taking : (st : Stage) (ins all : Bool) → st ≡ taking → next_stage st true ins all ≡ st → ⊥
not_taking st ins all t e = let bad : spent ≡ taking = e ∙ t in stages bad
  where
    stages : spent ≡ taking → ⊥
    stages q = let no : false ≡ true = ap is_taking q in cc

now_gives : (st : Stage) (out ins all : Bool) → st ≡ taking → out ≡ false → ins ≡ true → next_stage st out ins all ≡ st → ⊥
now_gives st out ins all t o i e = let q : giving ≡ taking = (λ j. next_stage (sym t j) (sym o j) (sym i j) all) ∙ e ∙ t in let no : false ≡ true = ap is_taking q in cc

filled_if : (user made ts ins out : Bool) → ts ≡ true → ins ≡ true → out ≡ false → ((user && (ts && not made)) && (ins && not out)) ≡ false → (not user || made) ≡ true
filled_if false made ts ins out t i o e = refl
filled_if true true ts ins out t i o e = refl
filled_if true false ts ins out t i o e = absurd (let no : true ≡ false = (λ j. (sym t j && true) && (sym i j && not (sym o j))) ∙ e in cc)

module _ (F : Functions) (s : World) (known : Known F s) (rest : IsSettled s) (n : ℕ) (node : Node) (there : slice_get s.nodes n ≡ Some node) (is : IsKeeper node.node.kind) (h : KeepsTurn s n node) where
  k : Keeper node.node.kind
  k = keeper node.node.kind is

  abbrev given : Sides
  given = given_at s n

  abbrev out : Bool
  out = is_done (first_port given.outputs)

  abbrev ins : Bool
  ins = all_done given.inputs && is_filled node.node.kind node.progress

  abbrev all : Bool
  all = has_given_all s.options node.node.kind node.progress

  -- at rest its stage stays
  at_rest : next_stage node.progress.stage out ins all ≡ node.progress.stage
  at_rest = sym (k.stage s.options node.progress given) ∙ (rest n node there).stage

  at_wire : (x : Pipe) → Contains s.pipes x → Contains (wires_of s) x.wire
  at_wire x c = contains_map (λ (z : Pipe). z.wire) x s.pipes c

  keeper_takes : takes s n ≡ list_any is_live (wires_in n (wires_of s))
  keeper_takes = by ∙ k.takes_live node.progress.stage (wires_in n (wires_of s))
    where
      by : takes s n ≡ takes_of node.node.kind node.progress.stage (wires_in n (wires_of s))
      by = rw (takes, there) refl

  said_in : (x : Pipe) → Contains s.pipes x → x.wire.receiver ≡ n → is_live x.wire ≡ true → x.wire.receive_state ≡ get_or (keeper_answer node.progress.stage given).inputs x.wire.input x.wire.receive_state
  said_in x c e l = live_input F s known rest n node there x c e l ∙ ap (λ (a : Sides). get_or a.inputs x.wire.input x.wire.receive_state) (k.says s.options node.progress (heads_of s n node) (empty_outs s n) given)

  only : (x : Pipe) → Contains s.pipes x → x.wire.sender ≡ n → (x.wire.port ≡ 0) × (given.outputs ≡ x.wire.receive_state ∷ [])
  only x c e = one_state given.outputs x.wire.port x.wire.receive_state (one_out F s n node known there k) (state_out F s known rest n node there x c e)

  said_out : (x : Pipe) → Contains s.pipes x → x.wire.sender ≡ n → is_live x.wire ≡ true → x.wire.send_state ≡ get_or (keeper_answer node.progress.stage given).outputs 0 x.wire.send_state
  said_out x c e l = live_output F s known rest n node there x c e l ∙ ap (λ (a : Sides). get_or a.outputs x.wire.port x.wire.send_state) (k.says s.options node.progress (heads_of s n node) (empty_outs s n) given) ∙ ap (λ j. get_or (keeper_answer node.progress.stage given).outputs j x.wire.send_state) (only x c e).0

  -- a live input is taken
  takes_it : (x : Pipe) → Contains s.pipes x → x.wire.receiver ≡ n → is_live x.wire ≡ true → node.progress.stage ≡ taking
  takes_it x c e l = by node.progress.stage refl
    where
      off : is_taking node.progress.stage ≡ false → ⊥
      off t = not_both (is_done x.wire.receive_state) (h.first.took t x (c, e)) (live_ends F s known rest n node there x.wire l).1

      by : (st : Stage) → node.progress.stage ≡ st → node.progress.stage ≡ taking
      by taking q = q
      by giving q = absurd (off (ap is_taking q))
      by spent q = absurd (off (ap is_taking q))

  ready_in : (x : Pipe) → Contains s.pipes x → x.wire.receiver ≡ n → is_live x.wire ≡ true → x.wire.receive_state ≡ port.Ready
  ready_in x c e l =
      said_in x c e l ∙ ap (λ st. get_or (keeper_answer st given).inputs x.wire.input x.wire.receive_state) (takes_it x c e l) ∙ repeated_is port.Ready given.inputs x.wire.input x.wire.send_state x.wire.receive_state (state_in F s known rest n node there x c e)

  -- while it takes its output is blocked
  blocked : node.progress.stage ≡ taking → (x : Pipe) → Contains s.pipes x → x.wire.sender ≡ n → x.wire.send_state ≡ port.Blocked
  blocked t x c e = by (live_or_done F s known rest n node there x.wire (at_wire x c))
    where
      by : (is_live x.wire ≡ true) ⊎ (is_done x.wire.receive_state ≡ true) → x.wire.send_state ≡ port.Blocked
      by (inl l) = said_out x c e l ∙ ap (λ st. get_or (keeper_answer st given).outputs 0 x.wire.send_state) t
      by (inr d) = absurd (not_taking node.progress.stage ins all t (ap (λ b. next_stage node.progress.stage b ins all) (sym (ap (λ ss. is_done (first_port ss)) (only x c e).1 ∙ d)) ∙ at_rest))

  -- without a live input all that comes has come
  all_in : list_any is_live (wires_in n (wires_of s)) ≡ false → all_done given.inputs ≡ true
  all_in none = all_if given.inputs each
    where
      each : (j : ℕ) (st : PortState) → slice_get given.inputs j ≡ Some st → is_done st ≡ true
      each j st e =
          let x = sender_at F s known.facts n j st e in
          by x.0 x.1 x.2 x.4 (live_or_done F s known rest n node there x.0.wire (at_wire x.0 x.1))
        where
          by : (x : Pipe) → Contains s.pipes x → x.wire.receiver ≡ n → x.wire.send_state ≡ st → (is_live x.wire ≡ true) ⊎ (is_done x.wire.receive_state ≡ true) → is_done st ≡ true
          by x c r q (inr d) = ap is_done (sym q) ∙ agree F s known rest n node there x.wire (at_wire x c) ∙ d
          by x c r q (inl l) =
              let among : Contains (wires_in n (wires_of s)) x.wire = subst (λ m. Contains (wires_in m (wires_of s)) x.wire) r (contains_of (wires_in x.wire.receiver (wires_of s)) x.wire.input x.wire (input_place F s known.facts x.wire (at_wire x c))) in
              absurd (not_both (list_any is_live (wires_in n (wires_of s))) (some_of (wires_in n (wires_of s)) x.wire among l) none)

  -- then it gives, or its output is done
  hands : list_any is_live (wires_in n (wires_of s)) ≡ false → (x : Pipe) → Contains s.pipes x → x.wire.sender ≡ n → is_live x.wire ≡ true → x.wire.send_state ≡ port.Ready
  hands none x c e l = by node.progress.stage refl
    where
      unread : out ≡ false
      unread = ap (λ ss. is_done (first_port ss)) (only x c e).1 ∙ (live_ends F s known rest n node there x.wire l).1

      done : all_done given.inputs ≡ true
      done = all_in none

      by : (st : Stage) → node.progress.stage ≡ st → x.wire.send_state ≡ port.Ready
      by giving t = said_out x c e l ∙ ap (λ st. get_or (keeper_answer st given).outputs 0 x.wire.send_state) t
      by spent t = absurd (not_both (is_done x.wire.send_state) (ap is_done (said_out x c e l ∙ ap (λ st. get_or (keeper_answer st given).outputs 0 x.wire.send_state) t)) (live_ends F s known rest n node there x.wire l).0)
      by taking t =
          let filled = filled_if (is_user_map node.node.kind) (is_some node.progress.made) (is_taking node.progress.stage) (all_done given.inputs) out (ap is_taking t) done unread (rest n node there).filled in
          absurd (now_gives node.progress.stage out ins all t unread (λ i. done i && filled i) at_rest)

  pub keeper_ports : PortLaw s n
  keeper_ports =
      record {
        takes_means = λ t.
            let p = any_of (wires_in n (wires_of s)) (sym keeper_takes ∙ t) in
            let m = was_kept (λ (u : Wire). nat_eq u.receiver n) p.0 (wires_of s) (ordered (λ (u v : Wire). nat_lt u.input v.input) p.0 (kept (λ (u : Wire). nat_eq u.receiver n) (wires_of s)) p.1) in
            let to_n = same_number p.0.receiver n m.1 in
            let x = pipe_of s p.0 m.0 in
            let r = ap (λ (u : Wire). u.receiver) x.2 ∙ to_n in
            let l = ap is_live x.2 ∙ p.2 in
            record {
              input = p.0;
              is_input = (m.0, to_n, p.2);
              is_ready = sym (ap (λ (u : Wire). u.receive_state) x.2) ∙ ready_in x.0 x.1 r l;
              blocked_outputs = λ q c e. let z = pipe_of s q c in sym (ap (λ (u : Wire). u.send_state) z.2) ∙ blocked (takes_it x.0 x.1 r l) z.0 z.1 (ap (λ (u : Wire). u.sender) z.2 ∙ e);
            };
        leads_on = λ p c e l.
            let among : Contains (wires_in n (wires_of s)) p = subst (λ m. Contains (wires_in m (wires_of s)) p) e (contains_of (wires_in p.receiver (wires_of s)) p.input p (input_place F s known.facts p c)) in
            inl (keeper_takes ∙ some_of (wires_in n (wires_of s)) p among l);
        hands_on = λ up. by (takes s n) refl;
      }
    where
      by : (b : Bool) → takes s n ≡ b → IsTrue (takes s n) ⊎ ((q : Wire) → Contains (wires_of s) q → q.sender ≡ n → IsTrue (is_live q) → IsReadySent q)
      by true t = inl t
      by false t = inr (λ q c e l. let z = pipe_of s q c in sym (ap (λ (u : Wire). u.send_state) z.2) ∙ hands (sym keeper_takes ∙ t) z.0 z.1 (ap (λ (u : Wire). u.sender) z.2 ∙ e) (ap is_live z.2 ∙ l))
