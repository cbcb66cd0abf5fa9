-- In a settled world a pipe that is ready on both ends has a sender with a claim of its own, or holds what wasn't taken, or that sender has an input that is ready on both ends.
use Rattle.std.proofs.Common.{◌≡◌, ℕ, zero, suc, ◌<◌, ◌≤◌, ◌⊎◌, Bool, true, false, List, [], ◌∷◌, length, Option, None, Some, refl, sym, ap, subst, ◌∙◌, inl, inr, arith}
use Rattle.std.specs.Prelude.{Contains, get_or, map, nat_eq, nat_lt, option_map, slice_get}
use Rattle.std.specs.List.{filter as kept}
use Rattle.std.proofs.lemmas.Option.{get_or_from_slice_get, slice_get-map, slice_get_within}
use Rattle.ps_frame.specs.Functions.{Functions}
use Rattle.ps_frame.specs.Sorting.{in_order, insert_in_order}
use Rattle.ps_meaning.specs.Shape.{PhysicalKind, in_memory_sink, multiplexer, zip_node}
use Rattle.ps_meaning.specs.Sound.{HasInputs, HasReaders}
use Rattle.ps_ports.specs.Ports.{Sides, first_port, is_done, is_ready, kept_done, kept_state}
use Rattle.ps_ports.specs.Wires.{Wire, both_ready, wires_in, wires_out}
use Rattle.ps_ports.specs.declared.port_state.PortState.{PortState}
use Rattle.ps_ports.specs.declared.port_state.PortState.TheVariants as port
use Rattle.ps_turns.specs.Heads.{Head, heads_by, stored_inputs}
use Rattle.ps_turns.specs.Progress.{Progress, is_multiplexer}
use Rattle.ps_turns.specs.Updates.{answer_by}
use Rattle.ps_world.specs.Facts.{Facts}
use Rattle.ps_world.specs.Updates.{IsSettled, answer_at, empty_outs, given_at}
use Rattle.ps_world.specs.World.{Node, Pipe, World, heads_of, inputs_done, is_drained, pipes_in, pipes_out, wires_of}
use Rattle.world_claims.proofs.Steps.{map_map}
use Rattle.world_facts.proofs.CutOff.{and_true, both_true}
use Rattle.world_facts.proofs.HandedIn.{contains_of}
use Rattle.world_facts.proofs.Placing.{answered, ends_agree, has_inputs, has_readers, in_place, inputs_given, map_length}
use Rattle.world_facts.proofs.Wired.{input_at, input_place, port_place}
use Rattle.world_laws.proofs.Agree.{from_map, reader_says, sender_says}
use Rattle.world_laws.proofs.InOrder.{contains_map}
use Rattle.world_laws.proofs.PassingPorts.{ordered, was_kept}
use Rattle.world_ends.proofs.Reasons.{ClaimsOwn, HasReadyInput, IsReadyAt, multiplexer_reason, single_reason}
use Rattle.world_ends.proofs.Stored.{HasMade, HasStores}
use Rattle.world_ends.proofs.Tests.{ready_not_done}

-- LISTS IN ORDER
pub place : {A : Type 0} (xs : List A) (i : ℕ) → i < length xs → (x : A) × (slice_get xs i ≡ Some x)
place [] i h = absurd (omega arith)
place (x ∷ xs) zero h = (x, refl)
place (x ∷ xs) (suc i) h = place xs i (omega arith)

map_insert : {A B : Type 0} (f : A → B) (less : B → B → Bool) (x : A) (ys : List A) → map f (insert_in_order (λ a b. less (f a) (f b)) x ys) ≡ insert_in_order less (f x) (map f ys)
map_insert f less x [] = refl
map_insert f less x (y ∷ ys) = by (less (f y) (f x)) refl (map_insert f less x ys)
  where
    by : (b : Bool) → less (f y) (f x) ≡ b → map f (insert_in_order (λ a b. less (f a) (f b)) x ys) ≡ insert_in_order less (f x) (map f ys) → map f (insert_in_order (λ a b. less (f a) (f b)) x (y ∷ ys)) ≡ insert_in_order less (f x) (map f (y ∷ ys))
    by true e rest = rw e (ap (λ zs. f y ∷ zs) rest)
    by false e rest = rw e refl

map_order : {A B : Type 0} (f : A → B) (less : B → B → Bool) (xs : List A) → map f (in_order (λ a b. less (f a) (f b)) xs) ≡ in_order less (map f xs)
map_order f less [] = refl
map_order f less (x ∷ xs) = map_insert f less x (in_order (λ a b. less (f a) (f b)) xs) ∙ ap (insert_in_order less (f x)) (map_order f less xs)

map_kept : {A B : Type 0} (f : A → B) (t : B → Bool) (xs : List A) → map f (kept (λ a. t (f a)) xs) ≡ kept t (map f xs)
map_kept f t [] = refl
map_kept f t (x ∷ xs) = by (t (f x)) refl (map_kept f t xs)
  where
    by : (b : Bool) → t (f x) ≡ b → map f (kept (λ a. t (f a)) xs) ≡ kept t (map f xs) → map f (kept (λ a. t (f a)) (x ∷ xs)) ≡ kept t (map f (x ∷ xs))
    by true e rest = rw e (ap (λ zs. f x ∷ zs) rest)
    by false e rest = rw e rest

-- the wires of the pipes into a node and out of it
pub wires_into : (w : World) (n : ℕ) → map (λ (p : Pipe). p.wire) (pipes_in w n) ≡ wires_in n (wires_of w)
wires_into w n =
    map_order (λ (p : Pipe). p.wire) (λ (p q : Wire). nat_lt p.input q.input) (kept (λ (p : Pipe). nat_eq p.wire.receiver n) w.pipes)
    ∙ ap (in_order (λ (p q : Wire). nat_lt p.input q.input)) (map_kept (λ (p : Pipe). p.wire) (λ (p : Wire). nat_eq p.receiver n) w.pipes)

wires_from : (w : World) (n : ℕ) → map (λ (p : Pipe). p.wire) (pipes_out w n) ≡ wires_out n (wires_of w)
wires_from w n =
    map_order (λ (p : Pipe). p.wire) (λ (p q : Wire). nat_lt p.port q.port) (kept (λ (p : Pipe). nat_eq p.wire.sender n) w.pipes)
    ∙ ap (in_order (λ (p q : Wire). nat_lt p.port q.port)) (map_kept (λ (p : Pipe). p.wire) (λ (p : Wire). nat_eq p.sender n) w.pipes)

-- which inputs are done is told by what an update is given
pub dones_are : (w : World) (n : ℕ) → inputs_done w n ≡ map is_done (given_at w n).inputs
dones_are w n =
    sym (map_map (λ (p : Pipe). p.wire) (λ (p : Wire). is_done p.send_state) (pipes_in w n)) ∙ ap (map (λ (p : Wire). is_done p.send_state)) (wires_into w n)
    ∙ sym (map_map (λ (p : Wire). p.send_state) is_done (wires_in n (wires_of w)))

-- HEADS
abbrev pub heads_from : List Bool → PhysicalKind → Progress → List Head
heads_from ds (zip_node extend) a = heads_by extend a.booked (stored_inputs ds a.stores)
heads_from ds kind a = []

pub heads_over : (w : World) (n : ℕ) (node : Node) (kind : PhysicalKind) → node.node.kind ≡ kind → heads_of w n node ≡ heads_from (inputs_done w n) kind node.progress
heads_over w n node (zip_node extend) e = ap (λ (x : PhysicalKind). heads_of w n (record node { node = record node.node { kind = x } })) e
heads_over w n node kind e = ap (λ (x : PhysicalKind). heads_of w n (record node { node = record node.node { kind = x } })) e

-- STATES
pub kept_at : (gs as' : List PortState) (i : ℕ) (d : PortState) → i < length gs → length gs ≤ length as' → get_or (kept_done gs as') i d ≡ kept_state (get_or gs i d) (get_or as' i d)
kept_at [] as' i d h l = absurd (omega arith)
kept_at (g ∷ gs) [] i d h l = absurd (omega arith)
kept_at (g ∷ gs) (a ∷ as') zero d h l = refl
kept_at (g ∷ gs) (a ∷ as') (suc i) d h l = kept_at gs as' i d (omega arith) (omega arith)

pub ready_new : (old new : PortState) → is_ready (kept_state old new) ≡ true → is_ready new ≡ true
ready_new port.Done new e = absurd (let no : false ≡ true = e in cc)
ready_new port.Ready new e = e
ready_new port.Blocked new e = e

ready_kept : (old new : PortState) → is_done old ≡ false → is_ready new ≡ true → is_ready (kept_state old new) ≡ true
ready_kept port.Done new d e = absurd (let no : true ≡ false = d in cc)
ready_kept port.Ready new d e = e
ready_kept port.Blocked new d e = e

first_of : (ss : List PortState) (d : PortState) → 1 ≤ length ss → get_or ss 0 d ≡ first_port ss
first_of [] d h = absurd (omega arith)
first_of (s ∷ ss) d h = refl

few_outputs : (kind : PhysicalKind) (k : ℕ) → HasReaders kind k → is_multiplexer kind ≡ false → k ≤ 1
few_outputs multiplexer k h m = absurd (let no : true ≡ false = m in cc)
few_outputs in_memory_sink k h m = omega (arith, h)
few_outputs kind k h m = omega (arith, h)

is_one : (kind : PhysicalKind) → is_multiplexer kind ≡ true → kind ≡ multiplexer
is_one multiplexer m = refl
is_one kind m = absurd (let no : false ≡ true = m in cc)

-- what stands behind a pipe that is ready on both ends
pub data Behind (s : World) (x : Pipe) (node : Node) : Type 0 where
  claims : ClaimsOwn s.options node.node node.node.kind node.progress (heads_of s x.wire.sender node) (map is_done (given_at s x.wire.sender).inputs) → Behind s x node
  holds : is_drained x ≡ false → Behind s x node
  fed : (q : Pipe) → Contains s.pipes q → q.wire.receiver ≡ x.wire.sender → both_ready q.wire ≡ true → Behind s x node

module _ (F : Functions) (s : World) (f : Facts F s) (rest : IsSettled s) where
  abbrev answer_of_node : ℕ → Node → Sides
  answer_of_node n node = answer_by s.options node.node.kind node.progress (heads_of s n node) (empty_outs s n) (given_at s n)

  pub wire_of : (x : Pipe) → Contains s.pipes x → Contains (wires_of s) x.wire
  wire_of x c = contains_map (λ (y : Pipe). y.wire) x s.pipes c

  -- an input that is sent and answered ready is read ready
  pub read_ready : (y : Pipe) → Contains s.pipes y → (node : Node) → slice_get s.nodes y.wire.receiver ≡ Some node → IsReadyAt (answer_of_node y.wire.receiver node).inputs y.wire.input → is_ready y.wire.send_state ≡ true → is_ready y.wire.receive_state ≡ true
  read_ready y c node e at send =
      let n = y.wire.receiver in
      let d = y.wire.receive_state in
      let there = input_place F s f y.wire (wire_of y c) in
      let short = slice_get_within (wires_in n (wires_of s)) y.wire.input y.wire there in
      let long = map_length (λ (p : Wire). p.send_state) (wires_in n (wires_of s)) in
      let given : get_or (given_at s n).inputs y.wire.input d ≡ y.wire.send_state =
      get_or_from_slice_get (given_at s n).inputs y.wire.input y.wire.send_state d (slice_get-map (λ (p : Wire). p.send_state) (wires_in n (wires_of s)) y.wire.input ∙ ap (option_map (λ (p : Wire). p.send_state)) there) in
      let enough = (answered s.options node.node.kind node.progress (heads_of s n node) (empty_outs s n) (given_at s n) (has_inputs F s f n node e) (has_readers F s f n node e)).0 in
      let open_send = ready_not_done y.wire.send_state send in
      let answer = kept_at (given_at s n).inputs (answer_of_node n node).inputs y.wire.input d (omega (arith, short, long)) enough in
      let new : is_ready (get_or (answer_at s n node node.progress).inputs y.wire.input d) ≡ true = ap is_ready answer ∙ ready_kept (get_or (given_at s n).inputs y.wire.input d) (get_or (answer_of_node n node).inputs y.wire.input d) (ap is_done given ∙ open_send) (at d) in
      ap is_ready (reader_says s (in_place F s f) rest y c node e) ∙ ready_kept d (get_or (answer_at s n node node.progress).inputs y.wire.input d) (sym (ends_agree F s f rest y.wire (wire_of y c)) ∙ open_send) new

  -- an input that is given ready and answered ready has a pipe that is ready on both ends
  ready_pipe : (n : ℕ) (node : Node) → slice_get s.nodes n ≡ Some node → HasReadyInput (given_at s n) (answer_of_node n node) → (q : Pipe) × Contains s.pipes q × (q.wire.receiver ≡ n) × (both_ready q.wire ≡ true)
  ready_pipe n node e (i, h, g, a) =
      let long = map_length (λ (p : Wire). p.send_state) (wires_in n (wires_of s)) in
      let wire = place (wires_in n (wires_of s)) i (omega (arith, h, long)) in
      let at = input_at F s f n i wire.0 wire.1 in
      let y = from_map (λ (p : Pipe). p.wire) wire.0 s.pipes at.0 in
      let receiver : y.0.wire.receiver ≡ n = ap (λ (p : Wire). p.receiver) y.2 ∙ at.1 in
      let input : y.0.wire.input ≡ i = ap (λ (p : Wire). p.input) y.2 ∙ at.2 in
      let given : get_or (given_at s n).inputs i port.Done ≡ wire.0.send_state =
      get_or_from_slice_get (given_at s n).inputs i wire.0.send_state port.Done (slice_get-map (λ (p : Wire). p.send_state) (wires_in n (wires_of s)) i ∙ ap (option_map (λ (p : Wire). p.send_state)) wire.1) in
      let send : is_ready y.0.wire.send_state ≡ true = ap (λ (p : Wire). is_ready p.send_state) y.2 ∙ ap is_ready (sym given) ∙ g port.Done in
      let here : slice_get s.nodes y.0.wire.receiver ≡ Some node = ap (slice_get s.nodes) receiver ∙ e in
      let answered_at : IsReadyAt (answer_of_node y.0.wire.receiver node).inputs i = subst (λ m. IsReadyAt (answer_of_node m node).inputs i) (sym receiver) a in
      let read = read_ready y.0 y.1 node here (subst (λ j. IsReadyAt (answer_of_node y.0.wire.receiver node).inputs j) (sym input) answered_at) send in
      (y.0, y.1, receiver, and_true (is_ready y.0.wire.send_state) (is_ready y.0.wire.receive_state) send read)

  -- a pipe stands at its port among those that leave its sender
  pub from_wire : (o : Option Pipe) (u : Wire) → option_map (λ (p : Pipe). p.wire) o ≡ Some u → (y : Pipe) × (o ≡ Some y) × (y.wire ≡ u)
  from_wire None u e = absurd (let no : None ≡ Some u = e in cc)
  from_wire (Some y) u e = (y, refl, let q : Some y.wire ≡ Some u = e in cc)

  port_pipe : (x : Pipe) → Contains s.pipes x → slice_get (pipes_out s x.wire.sender) x.wire.port ≡ Some x
  port_pipe x c =
      let n = x.wire.sender in
      let k = x.wire.port in
      let wire : slice_get (map (λ (p : Pipe). p.wire) (pipes_out s n)) k ≡ Some x.wire = ap (λ ws. slice_get ws k) (wires_from s n) ∙ port_place F s f x.wire (wire_of x c) in
      let y = from_wire (slice_get (pipes_out s n) k) x.wire (sym (slice_get-map (λ (p : Pipe). p.wire) (pipes_out s n) k) ∙ wire) in
      let among = ordered (λ (p q : Pipe). nat_lt p.wire.port q.wire.port) y.0 (kept (λ (p : Pipe). nat_eq p.wire.sender n) s.pipes) (contains_of (pipes_out s n) k y.0 y.1) in
      let there = was_kept (λ (p : Pipe). nat_eq p.wire.sender n) y.0 s.pipes among in
      let same : y.0 ≡ x = f.one_input y.0 x there.0 c (ap (λ (p : Wire). p.receiver) y.2) (ap (λ (p : Wire). p.input) y.2) in
      y.1 ∙ ap Some same

  module _ (x : Pipe) (c : Contains s.pipes x) (node : Node) (e : slice_get s.nodes x.wire.sender ≡ Some node) (ready : both_ready x.wire ≡ true) where
    abbrev n : ℕ
    n = x.wire.sender

    ends : (is_ready x.wire.send_state ≡ true) × (is_ready x.wire.receive_state ≡ true)
    ends = both_true (is_ready x.wire.send_state) (is_ready x.wire.receive_state) ready

    there : slice_get (wires_out n (wires_of s)) x.wire.port ≡ Some x.wire
    there = port_place F s f x.wire (wire_of x c)

    within : x.wire.port < length (given_at s n).outputs
    within =
        let short = slice_get_within (wires_out n (wires_of s)) x.wire.port x.wire there in
        let long = map_length (λ (p : Wire). p.receive_state) (wires_out n (wires_of s)) in
        omega (arith, short, long)

    given_ready : (d : PortState) → is_ready (get_or (given_at s n).outputs x.wire.port d) ≡ true
    given_ready d =
        ap is_ready (get_or_from_slice_get (given_at s n).outputs x.wire.port x.wire.receive_state d (slice_get-map (λ (p : Wire). p.receive_state) (wires_out n (wires_of s)) x.wire.port ∙ ap (option_map (λ (p : Wire). p.receive_state)) there)) ∙ ends.1

    -- its sender answers ready
    said : is_ready (get_or (answer_of_node n node).outputs x.wire.port x.wire.send_state) ≡ true
    said =
        let d = x.wire.send_state in
        let enough = (answered s.options node.node.kind node.progress (heads_of s n node) (empty_outs s n) (given_at s n) (has_inputs F s f n node e) (has_readers F s f n node e)).1 in
        let old = get_or (given_at s n).outputs x.wire.port d in
        let new = get_or (answer_of_node n node).outputs x.wire.port d in
        let answer : get_or (answer_at s n node node.progress).outputs x.wire.port d ≡ kept_state old new = kept_at (given_at s n).outputs (answer_of_node n node).outputs x.wire.port d within enough in
        let says : d ≡ kept_state d (kept_state old new) = sender_says s (in_place F s f) rest x c node e ∙ ap (kept_state d) answer in
        ready_new old new (ready_new d (kept_state old new) (ap is_ready (sym says) ∙ ends.0))

    of_multiplexer : node.node.kind ≡ multiplexer → Behind s x node
    of_multiplexer m =
        let inputs : length (given_at s n).inputs ≡ 1 = subst (λ kind. HasInputs kind (length (given_at s n).inputs)) m (has_inputs F s f n node e) in
        let answers = subst (λ kind. is_ready (get_or (answer_by s.options kind node.progress (heads_of s n node) (empty_outs s n) (given_at s n)).outputs x.wire.port x.wire.send_state) ≡ true) m said in
        by (multiplexer_reason (empty_outs s n) (given_at s n) x.wire.port x.wire.send_state inputs within (given_ready x.wire.send_state) answers)
      where
        back : HasReadyInput (given_at s n) (answer_by s.options multiplexer node.progress (heads_of s n node) (empty_outs s n) (given_at s n)) → HasReadyInput (given_at s n) (answer_of_node n node)
        back r = subst (λ kind. HasReadyInput (given_at s n) (answer_by s.options kind node.progress (heads_of s n node) (empty_outs s n) (given_at s n))) (sym m) r

        by : (get_or (empty_outs s n) x.wire.port true ≡ false) ⊎ HasReadyInput (given_at s n) (answer_by s.options multiplexer node.progress (heads_of s n node) (empty_outs s n) (given_at s n)) → Behind s x node
        by (inl full) = holds (sym (get_or_from_slice_get (empty_outs s n) x.wire.port (is_drained x) true (slice_get-map is_drained (pipes_out s n) x.wire.port ∙ ap (option_map is_drained) (port_pipe x c))) ∙ full)
        by (inr r) = let q = ready_pipe n node e (back r) in fed q.0 q.1 q.2 q.3

    module _ (made : HasMade node.node.kind node.progress) (stored : HasStores (length node.node.inputs) node.node.kind node.progress) where
      of_single : is_multiplexer node.node.kind ≡ false → Behind s x node
      of_single m =
          by (single_reason s.options node.node node.progress (heads_of s n node) (empty_outs s n) (given_at s n) x.wire.send_state reader node.node.kind m (has_inputs F s f n node e) (has_readers F s f n node e) (rest n node e).stage made
          (subst (λ k. HasStores k node.node.kind node.progress) (sym (inputs_given F s f n node e)) stored) heads (rest n node e).agrees answers)
        where
          few : length (given_at s n).outputs ≤ 1
          few = few_outputs node.node.kind (length (given_at s n).outputs) (has_readers F s f n node e) m

          first : x.wire.port ≡ 0
          first = let h = within in let l = few in omega arith

          reader : is_ready (first_port (given_at s n).outputs) ≡ true
          reader =
              let h = within in
              ap is_ready (sym (first_of (given_at s n).outputs port.Done (omega arith))) ∙ subst (λ k. is_ready (get_or (given_at s n).outputs k port.Done) ≡ true) first (given_ready port.Done)

          answers : is_ready (get_or (answer_of_node n node).outputs 0 x.wire.send_state) ≡ true
          answers = subst (λ k. is_ready (get_or (answer_of_node n node).outputs k x.wire.send_state) ≡ true) first said

          heads : (extend : Bool) → node.node.kind ≡ zip_node extend → heads_of s n node ≡ heads_by extend node.progress.booked (stored_inputs (map is_done (given_at s n).inputs) node.progress.stores)
          heads extend k = heads_over s n node (zip_node extend) k ∙ ap (λ ds. heads_by extend node.progress.booked (stored_inputs ds node.progress.stores)) (dones_are s n)

          by : ClaimsOwn s.options node.node node.node.kind node.progress (heads_of s n node) (map is_done (given_at s n).inputs) ⊎ HasReadyInput (given_at s n) (answer_of_node n node) → Behind s x node
          by (inl own) = claims own
          by (inr r) = let q = ready_pipe n node e r in fed q.0 q.1 q.2 q.3

      pub behind : Behind s x node
      behind = by (is_multiplexer node.node.kind) refl
        where
          by : (b : Bool) → is_multiplexer node.node.kind ≡ b → Behind s x node
          by true m = of_multiplexer (is_one node.node.kind m)
          by false m = of_single m
