-- A phase that is opened has something to do: some node of it has a claim of its own, or one of its pipes holds what wasn't taken.
use Rattle.std.proofs.Common.{◌≡◌, ℕ, zero, suc, ◌<◌, ◌⊎◌, Bool, true, false, cond, List, [], ◌∷◌, length, Option, None, Some, refl, sym, ap, subst, ◌∙◌, inl, inr, arith}
use Rattle.std.specs.Prelude.{Contains, map, nat_eq, nat_lt, not, option_to_list, slice_get, ◌&&◌, ◌||◌}
use Rattle.std.specs.List.{filter as kept, list_all, list_any}
use Rattle.std.proofs.lemmas.Bool.{or_left}
use Rattle.std.proofs.lemmas.List.Elements.{Contains-append_cases}
use Rattle.ps_frame.specs.Functions.{Functions}
use Rattle.ps_frame.specs.Zip.{below}
use Rattle.ps_ports.specs.Phases.{all_feeders, blockers_of, is_blocker, is_in_phase, is_one_of, most_ready, ready_readers, with_feeders}
use Rattle.ps_ports.specs.Ports.{is_blocked, is_done}
use Rattle.ps_ports.specs.Wires.{Wire, both_ready, wires_in, wires_out}
use Rattle.ps_world.specs.Facts.{Facts}
use Rattle.ps_world.specs.Phases.{blockers_in, intensive_at, nodes_of_phase}
use Rattle.ps_world.specs.Updates.{IsSettled, given_at}
use Rattle.ps_world.specs.World.{Node, Pipe, World, heads_of, is_drained, wires_of}
use Rattle.world_facts.proofs.CutOff.{and_true, both_true, its_number, same_number}
use Rattle.world_facts.proofs.Opened.{feeder_in}
use Rattle.world_facts.proofs.Placing.{in_place}
use Rattle.world_facts.proofs.Slots.{some_at}
use Rattle.world_facts.proofs.Wiring.{wires_forward, wires_inside}
use Rattle.world_laws.proofs.Agree.{from_map}
use Rattle.world_laws.proofs.Blockers.{contains_below}
use Rattle.world_laws.proofs.InOrder.{contains_cases, contains_first, contains_kept, contains_later, contains_map, list_any-contains, none_in_nil}
use Rattle.world_laws.proofs.PassingPorts.{ordered, was_kept}
use Rattle.world_ends.proofs.Back.{Behind, behind, claims, fed, holds}
use Rattle.world_ends.proofs.Reasons.{ClaimsOwn}
use Rattle.world_ends.proofs.Stored.{HasMade, HasStores}

-- WHO STANDS IN A PHASE
is_below : (k n : ℕ) → Contains (below k) n → n < k
is_below zero n c = absurd (none_in_nil n c)
is_below (suc k) n c = by (is_below k n) (Contains-append_cases (below k) (k ∷ []) n c)
  where
    last : (k ≡ n) ⊎ Contains [] n → n < suc k
    last (inl e) = omega arith
    last (inr none) = absurd (none_in_nil n none)

    by : (Contains (below k) n → n < k) → Contains (below k) n ⊎ Contains (k ∷ []) n → n < suc k
    by rest (inl a) = let h = rest a in omega arith
    by rest (inr b) = last (contains_cases k n [] b)

one_of : (n : ℕ) (ns : List ℕ) → Contains ns n → is_one_of n ns ≡ true
one_of n ns c = list_any-contains (nat_eq n) n ns c (its_number n n refl)

is_there : (n : ℕ) (ns : List ℕ) → is_one_of n ns ≡ true → Contains ns n
is_there n ns e = let r = some_at (nat_eq n) ns e in subst (Contains ns) (sym (same_number n r.0 r.2)) r.1

is_the : (m n : ℕ) → Some m ≡ Some n → m ≡ n
is_the m n e = cc

most_ready_in : (ws : List Wire) (ns : List ℕ) (m : ℕ) → most_ready ws ns ≡ Some m → Contains ns m
most_ready_in ws [] m e = absurd (let no : None ≡ Some m = e in cc)
most_ready_in ws (n ∷ ns) m e = by (most_ready ws ns) (λ k q. most_ready_in ws ns k q) e
  where
    chosen : (b : Bool) (k : ℕ) → cond b (Some n) (Some k) ≡ Some m → Contains ns k → Contains (n ∷ ns) m
    chosen true k q c = subst (Contains (n ∷ ns)) (is_the n m q) (contains_first n ns)
    chosen false k q c = subst (Contains (n ∷ ns)) (is_the k m q) (contains_later n k ns c)

    by : (r : Option ℕ) → ((k : ℕ) → r ≡ Some k → Contains ns k) → elim r as (λ x. Option ℕ) [ None ↦ Some n | Some k ↦ cond (nat_lt (ready_readers ws k) (ready_readers ws n)) (Some n) (Some k) ] ≡ Some m → Contains (n ∷ ns) m
    by None rest q = subst (Contains (n ∷ ns)) (is_the n m q) (contains_first n ns)
    by (Some k) rest q = chosen (nat_lt (ready_readers ws k) (ready_readers ws n)) k q (rest k refl)

from_option : (o : Option ℕ) (m : ℕ) → Contains (option_to_list o) m → o ≡ Some m
from_option None m c = absurd (none_in_nil m c)
from_option (Some k) m c = by (contains_cases k m [] c)
  where
    by : (k ≡ m) ⊎ Contains [] m → Some k ≡ Some m
    by (inl e) = ap Some e
    by (inr later) = absurd (none_in_nil m later)

abbrev blockers_among : ℕ → List Wire → List ℕ
blockers_among k ws = kept (is_blocker ws) (below k)

-- a blocker of the phase is one of the graph
picked : (k : ℕ) (intensive : ℕ → Bool) (ws : List Wire) (m : ℕ) → Contains (blockers_of k intensive ws) m → Contains (below k) m × (is_blocker ws m ≡ true)
picked k intensive ws m c = by (Contains-append_cases (kept (λ n. not (intensive n)) (blockers_among k ws)) (option_to_list (most_ready ws (kept intensive (blockers_among k ws)))) m c)
  where
    among : Contains (blockers_among k ws) m → Contains (below k) m × (is_blocker ws m ≡ true)
    among d = was_kept (is_blocker ws) m (below k) d

    by : Contains (kept (λ n. not (intensive n)) (blockers_among k ws)) m ⊎ Contains (option_to_list (most_ready ws (kept intensive (blockers_among k ws)))) m → Contains (below k) m × (is_blocker ws m ≡ true)
    by (inl d) = among (was_kept (λ n. not (intensive n)) m (blockers_among k ws) d).0
    by (inr d) = among (was_kept intensive m (blockers_among k ws) (most_ready_in ws (kept intensive (blockers_among k ws)) m (from_option (most_ready ws (kept intensive (blockers_among k ws))) m d))).0

-- and stands in it
stays_in : (k : ℕ) (ws : List Wire) (t : ℕ) (ns : List ℕ) (m : ℕ) → Contains (below k) m → Contains ns m → Contains (all_feeders t k ws ns) m
stays_in k ws zero ns m h c = c
stays_in k ws (suc t) ns m h c =
    stays_in k ws t (with_feeders k ws ns) m h
    (contains_kept (λ j. is_one_of j ns || list_any (λ (p : Wire). nat_eq p.sender j && (both_ready p && is_one_of p.receiver ns)) ws) m (below k) h (or_left (is_one_of m ns) (list_any (λ (p : Wire). nat_eq p.sender m && (both_ready p && is_one_of p.receiver ns)) ws) (one_of m ns c)))

-- WHAT THERE IS TO DO
abbrev pub stands_in : World → Wire → Bool
stands_in s u = is_in_phase (length s.nodes) (intensive_at s) (wires_of s) u

-- by a pipe of the phase to come: its sender has a claim of its own, or it holds what wasn't taken
pub data Work (s : World) : Type 0 where
  claimable : (x : Pipe) (node : Node) → Contains s.pipes x → stands_in s x.wire ≡ true → slice_get s.nodes x.wire.sender ≡ Some node
      → ClaimsOwn s.options node.node node.node.kind node.progress (heads_of s x.wire.sender node) (map is_done (given_at s x.wire.sender).inputs) → Work s
  takeable : (x : Pipe) → Contains s.pipes x → stands_in s x.wire ≡ true → is_drained x ≡ false → Work s

module _ (F : Functions) (s : World) (f : Facts F s) (rest : IsSettled s) (made : (n : ℕ) (node : Node) → slice_get s.nodes n ≡ Some node → HasMade node.node.kind node.progress)
    (stored : (n : ℕ) (node : Node) → slice_get s.nodes n ≡ Some node → HasStores (length node.node.inputs) node.node.kind node.progress) where
  wire_of : (x : Pipe) → Contains s.pipes x → Contains (wires_of s) x.wire
  wire_of x c = contains_map (λ (y : Pipe). y.wire) x s.pipes c

  sender_inside : (p : Wire) → Contains (wires_of s) p → p.sender < length s.nodes
  sender_inside p c = let a = wires_forward F s f p c in let b = wires_inside F s f p c in omega arith

  -- what feeds a node of the phase over a pipe that is ready on both ends stands in it too
  feeds : (x q : Pipe) → Contains s.pipes x → Contains s.pipes q → stands_in s x.wire ≡ true → q.wire.receiver ≡ x.wire.sender → both_ready q.wire ≡ true → stands_in s q.wire ≡ true
  feeds x q c cq on at ready =
      let parts = both_true (both_ready x.wire) (is_one_of x.wire.receiver (nodes_of_phase s)) on in
      let sender =
      feeder_in (length s.nodes) (wires_of s) (wires_forward F s f) sender_inside (λ n h. contains_below n (length s.nodes) h) (is_below (length s.nodes))
      x.wire (blockers_of (length s.nodes) (intensive_at s) (wires_of s)) (wire_of x c) parts.0 (is_there x.wire.receiver (nodes_of_phase s) parts.1) in
      and_true (both_ready q.wire) (is_one_of q.wire.receiver (nodes_of_phase s)) ready (ap (λ m. is_one_of m (nodes_of_phase s)) at ∙ one_of x.wire.sender (nodes_of_phase s) sender)

  found_by : (k : ℕ) → ((q : Pipe) → q.wire.sender < k → Contains s.pipes q → stands_in s q.wire ≡ true → Work s) → (x : Pipe) → x.wire.sender < suc k → Contains s.pipes x → stands_in s x.wire ≡ true → (node : Node) → slice_get s.nodes x.wire.sender ≡ Some node → Behind s x node → Work s
  found_by k rec x h c on node e (claims own) = claimable x node c on e own
  found_by k rec x h c on node e (holds full) = takeable x c on full
  found_by k rec x h c on node e (fed q cq at ready) = let lower = wires_forward F s f q.wire (wire_of q cq) in rec q (omega arith) cq (feeds x q c cq on at ready)

  found : (k : ℕ) (x : Pipe) → x.wire.sender < k → Contains s.pipes x → stands_in s x.wire ≡ true → Work s
  found zero x h c on = absurd (omega arith)
  found (suc k) x h c on =
      let sender = (in_place F s f).sender x.wire (wire_of x c) in
      let ready = both_true (both_ready x.wire) (is_one_of x.wire.receiver (nodes_of_phase s)) on in
      found_by k (found k) x h c on sender.0 sender.1 (behind F s f rest x c sender.0 sender.1 ready.0 (made x.wire.sender sender.0 sender.1) (stored x.wire.sender sender.0 sender.1))

  -- from a blocker of the phase
  pub work : (b : ℕ) → Contains (blockers_in s) b → Work s
  work b c =
      let ws = wires_of s in
      let k = length s.nodes in
      let p = picked k (intensive_at s) ws b c in
      let tests = both_true (list_all (λ (u : Wire). is_blocked u.send_state) (wires_out b ws)) (list_any both_ready (wires_in b ws)) p.1 in
      let input = some_at both_ready (wires_in b ws) tests.1 in
      let wire = was_kept (λ (u : Wire). nat_eq u.receiver b) input.0 ws (ordered (λ (u v : Wire). nat_lt u.input v.input) input.0 (kept (λ (u : Wire). nat_eq u.receiver b) ws) input.1) in
      let x = from_map (λ (y : Pipe). y.wire) input.0 s.pipes wire.0 in
      let receiver : x.0.wire.receiver ≡ b = ap (λ (u : Wire). u.receiver) x.2 ∙ same_number input.0.receiver b wire.1 in
      let stands = stays_in k ws k (blockers_in s) b p.0 c in
      let on : stands_in s x.0.wire ≡ true =
      and_true (both_ready x.0.wire) (is_one_of x.0.wire.receiver (nodes_of_phase s)) (ap both_ready x.2 ∙ input.2) (ap (λ m. is_one_of m (nodes_of_phase s)) receiver ∙ one_of b (nodes_of_phase s) stands) in
      found (suc x.0.wire.sender) x.0 (omega arith) x.1 on
