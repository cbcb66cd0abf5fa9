-- In a settled world what is dropped is done at its reader: a slice that has its rows says so, and so does a node all of whose readers are done.
use Rattle.std.proofs.Common.{◌≡◌, ℕ, zero, suc, ◌<◌, ◌+◌, ◌≤◌, ◌⊎◌, Bool, true, false, cond, List, [], ◌∷◌, length, Some, refl, sym, ap, subst, ◌∙◌, inl, inr, arith}
use Rattle.std.specs.Prelude.{Contains, IsFalse, IsTrue, get_or, map, nat_eq, option_map, slice_get, ◌&&◌, ◌||◌}
use Rattle.std.specs.List.{filter as kept, list_all}
use Rattle.std.proofs.lemmas.Option.{get_or_from_slice_get, slice_get-get_or, slice_get-map, slice_get_within}
use Rattle.ps_frame.specs.Functions.{Functions}
use Rattle.ps_ports.specs.declared.port_state.PortState.{PortState}
use Rattle.ps_ports.specs.declared.port_state.PortState.TheVariants as port
use Rattle.ps_ports.specs.Ports.{Sides, all_done, first_port, is_done, kept_done, repeated}
use Rattle.ps_ports.specs.Wires.{Wire, wires_in, wires_out}
use Rattle.ps_meaning.specs.Shape.{PhysicalKind, equi_join, filter_node, group_by_node, in_memory_join, in_memory_map, in_memory_sink, in_memory_source, independent_select, multiplexer, negative_slice, ordered_union, reduce, select_node, simple_projection, stream_map, streaming_slice, with_row_index, zip_node}
use Rattle.ps_meaning.specs.Sound.{HasInputs, HasReaders}
use Rattle.ps_options.specs.declared.options.Options.{Options}
use Rattle.ps_turns.specs.Heads.{Head}
use Rattle.ps_turns.specs.Progress.{Progress, Stage, giving, spent, taking}
use Rattle.ps_turns.specs.Updates.{answer_by, done_on_both, join_answer, keeper_answer, multiplexer_answer, next_stage, slice_is_over, stage_after, undone_empty, union_inputs, zip_answer, zip_is_over}
use Rattle.ps_world.specs.Facts.{Facts, HasNoUse, is_over_slice}
use Rattle.ps_world.specs.Fits.{DropsAreDone}
use Rattle.ps_world.specs.Step.{Opens}
use Rattle.ps_world.specs.Updates.{IsSettled, Updates, answer_at, empty_outs, given_at}
use Rattle.ps_world.specs.World.{Node, Pipe, World, heads_of, wires_of}
use Rattle.world_facts.proofs.Placing.{answered, ends_agree, has_inputs, has_readers, in_place, map_length, some_node}
use Rattle.world_facts.proofs.UpdatedKeeps.{done_if_new, opened_keeps as kept_if, updates_keep_facts}
use Rattle.world_facts.proofs.Wired.{input_at, input_place}
use Rattle.world_facts.proofs.Wiring.{wires_forward, wires_inside}
use Rattle.world_laws.proofs.Agree.{from_map, reader_says}
use Rattle.world_laws.proofs.InOrder.{contains_first, contains_later, contains_map}
use Rattle.world_laws.proofs.PassingPorts.{ordered, same_number, was_kept}

-- the state at a place is done
abbrev IsDoneAt : List PortState → ℕ → Type 0
IsDoneAt ss i = (d : PortState) → is_done (get_or ss i d) ≡ true

repeated_done : (ss : List PortState) (i : ℕ) → i < length ss → IsDoneAt (repeated port.Done ss) i
repeated_done [] i h d = absurd (omega arith)
repeated_done (s ∷ ss) zero h d = refl
repeated_done (s ∷ ss) (suc i) h d = repeated_done ss i (omega arith) d

all_at : (ss : List PortState) (i : ℕ) → all_done ss ≡ true → i < length ss → IsDoneAt ss i
all_at [] i e h d = absurd (omega arith)
all_at (s ∷ ss) zero e h d = first (is_done s) (list_all is_done ss) e
  where
    first : (a b : Bool) → (a && b) ≡ true → a ≡ true
    first true b e = refl
    first false b e = e
all_at (s ∷ ss) (suc i) e h d = all_at ss i (second (is_done s) (list_all is_done ss) e) (omega arith) d
  where
    second : (a b : Bool) → (a && b) ≡ true → b ≡ true
    second true b e = e
    second false b e = absurd (let no : false ≡ true = e in cc)

-- what is answered done is done behind what was given
kept_at_done : (given news : List PortState) (i : ℕ) → i < length given → length given ≤ length news → IsDoneAt news i → IsDoneAt (kept_done given news) i
kept_at_done [] news i h l e d = absurd (omega arith)
kept_at_done (g ∷ gs) [] i h l e d = absurd (omega arith)
kept_at_done (g ∷ gs) (n ∷ ns) zero h l e d = done_if_new g n (e d)
kept_at_done (g ∷ gs) (n ∷ ns) (suc i) h l e d = kept_at_done gs ns i (omega arith) (omega arith) (λ x. e x) d

first_of : (ss : List PortState) → 1 ≤ length ss → all_done ss ≡ true → is_done (first_port ss) ≡ true
first_of [] h e = absurd (omega arith)
first_of (s ∷ ss) h e = all_at (s ∷ ss) 0 e (omega arith) port.Blocked

by_cond : (b : Bool) (x y : Sides) (i : ℕ) → b ≡ true → IsDoneAt x.inputs i → IsDoneAt (cond b x y).inputs i
by_cond true x y i e h = h
by_cond false x y i e h = absurd (let no : false ≡ true = e in cc)

-- a node whose output is done is spent
is_spent_by : (stage : Stage) (b ins all : Bool) → b ≡ true → next_stage stage b ins all ≡ stage → stage ≡ spent
is_spent_by stage true ins all e rest = sym rest
is_spent_by stage false ins all e rest = absurd (let no : false ≡ true = e in cc)

keeper_done : (stage : Stage) (given : Sides) (i : ℕ) → stage ≡ spent → i < length given.inputs → IsDoneAt (keeper_answer stage given).inputs i
keeper_done spent given i e h d = repeated_done given.inputs i h d
keeper_done taking given i e h d = absurd (let no : taking ≡ spent = e in cc)
keeper_done giving given i e h d = absurd (let no : giving ≡ spent = e in cc)

both_at : (i : ℕ) → i < 2 → IsDoneAt (port.Done ∷ port.Done ∷ []) i
both_at zero h d = refl
both_at (suc zero) h d = refl
both_at (suc (suc i)) h d = absurd (omega arith)

zip_done : (hs : List Head) (given : Sides) (i : ℕ) → is_done (first_port given.outputs) ≡ true → i < length given.inputs → IsDoneAt (zip_answer hs given).inputs i
zip_done hs given i e h = by_cond (zip_is_over hs given) _ _ i (or_first (is_done (first_port given.outputs)) _ e) (repeated_done given.inputs i h)
  where
    or_first : (a b : Bool) → a ≡ true → (a || b) ≡ true
    or_first true b e = refl
    or_first false b e = absurd (let no : false ≡ true = e in cc)

multiplexer_done : (es : List Bool) (given : Sides) (i : ℕ) → all_done given.outputs ≡ true → i < 1 → IsDoneAt (multiplexer_answer es given).inputs i
multiplexer_done es given i e h = by_cond (all_done given.outputs || (all_done given.inputs && undone_empty es given.outputs)) _ _ i (or_first (all_done given.outputs) _ e) (only i h)
  where
    or_first : (a b : Bool) → a ≡ true → (a || b) ≡ true
    or_first true b e = refl
    or_first false b e = absurd (let no : false ≡ true = e in cc)

    only : (i : ℕ) → i < 1 → IsDoneAt (port.Done ∷ []) i
    only zero h d = refl
    only (suc i) h d = absurd (omega arith)

slice_done : (b : Bool) (given : Sides) (i : ℕ) → all_done given.outputs ≡ true → i < length given.inputs → length given.inputs ≡ 1 → length given.outputs ≡ 1 → IsDoneAt (cond b (done_on_both given) (record { inputs = given.outputs; outputs = given.inputs })).inputs i
slice_done true given i e h l r d = repeated_done given.inputs i h d
slice_done false given i e h l r d = all_at given.outputs i e (omega arith) d

join_done : (j : Rattle.ps_meaning.specs.Steps.JoinStep) (progress : Progress) (stage : Stage) (given : Sides) (i : ℕ) → stage ≡ spent → i < 2 → IsDoneAt (join_answer j progress stage given).inputs i
join_done j progress spent given i e h = both_at i h
join_done j progress taking given i e h = absurd (let no : taking ≡ spent = e in cc)
join_done j progress giving given i e h = absurd (let no : giving ≡ spent = e in cc)

-- a union passes its first input that isn't done
abbrev IsUnion : PhysicalKind → Bool
IsUnion ordered_union = true
IsUnion _ = false

union_at : (ss : List PortState) (out : PortState) (i : ℕ) → is_done out ≡ true → i < length ss → ((j : ℕ) → j < i → IsDoneAt ss j) → IsDoneAt (union_inputs out ss) i
union_at [] out i e h before d = absurd (omega arith)
union_at (port.Done ∷ ss) out zero e h before d = refl
union_at (port.Ready ∷ ss) out zero e h before d = e
union_at (port.Blocked ∷ ss) out zero e h before d = e
union_at (port.Done ∷ ss) out (suc i) e h before d = union_at ss out i e (omega arith) (λ j g x. before (suc j) (omega arith) x) d
union_at (port.Ready ∷ ss) out (suc i) e h before d = absurd (let no : false ≡ true = before 0 (omega arith) port.Blocked in cc)
union_at (port.Blocked ∷ ss) out (suc i) e h before d = absurd (let no : false ≡ true = before 0 (omega arith) port.Blocked in cc)

-- where all readers are done, each input but a union's is answered done
answers_done : (o : Options) (kind : PhysicalKind) (progress : Progress) (hs : List Head) (es : List Bool) (given : Sides) (i : ℕ) → IsUnion kind ≡ false → HasInputs kind (length given.inputs) → HasReaders kind (length given.outputs) → 1 ≤ length given.outputs
    → all_done given.outputs ≡ true → stage_after o kind progress given ≡ progress.stage → i < length given.inputs → IsDoneAt (answer_by o kind progress hs es given).inputs i
answers_done o (in_memory_source t) progress hs es given i u ins r some all rest h = absurd (omega (arith, ins, h))
answers_done o (independent_select s) progress hs es given i u ins r some all rest h = absurd (omega (arith, ins, h))
answers_done o (streaming_slice offset n) progress hs es given i u ins r some all rest h = slice_done (slice_is_over offset n progress.booked) given i all h ins r
answers_done o in_memory_sink progress hs es given i u ins r some all rest h = absurd (omega (arith, r, some))
answers_done o ordered_union progress hs es given i u ins r some all rest h = absurd (let no : true ≡ false = u in cc)
answers_done o (zip_node extend) progress hs es given i u ins r some all rest h = zip_done hs given i (first_of given.outputs some all) h
answers_done o multiplexer progress hs es given i u ins r some all rest h = multiplexer_done es given i all (omega (arith, ins, h))
answers_done o (equi_join j) progress hs es given i u ins r some all rest h = join_done j progress progress.stage given i (is_spent_by progress.stage _ _ _ (first_of given.outputs some all) rest) (omega (arith, ins, h))
answers_done o (in_memory_map step) progress hs es given i u ins r some all rest h = keeper_done progress.stage given i (is_spent_by progress.stage _ _ _ (first_of given.outputs some all) rest) h
answers_done o (in_memory_join j) progress hs es given i u ins r some all rest h = keeper_done progress.stage given i (is_spent_by progress.stage _ _ _ (first_of given.outputs some all) rest) h
answers_done o (negative_slice back n) progress hs es given i u ins r some all rest h = keeper_done progress.stage given i (is_spent_by progress.stage _ _ _ (first_of given.outputs some all) rest) h
answers_done o (reduce s) progress hs es given i u ins r some all rest h = keeper_done progress.stage given i (is_spent_by progress.stage _ _ _ (first_of given.outputs some all) rest) h
answers_done o (group_by_node keys aggregates) progress hs es given i u ins r some all rest h = keeper_done progress.stage given i (is_spent_by progress.stage _ _ _ (first_of given.outputs some all) rest) h
answers_done o (select_node s extends) progress hs es given i u ins r some all rest h = all_at given.outputs i all (omega (arith, ins, r, h))
answers_done o (with_row_index name offset) progress hs es given i u ins r some all rest h = all_at given.outputs i all (omega (arith, ins, r, h))
answers_done o (filter_node e) progress hs es given i u ins r some all rest h = all_at given.outputs i all (omega (arith, ins, r, h))
answers_done o (simple_projection names) progress hs es given i u ins r some all rest h = all_at given.outputs i all (omega (arith, ins, r, h))
answers_done o (stream_map step) progress hs es given i u ins r some all rest h = all_at given.outputs i all (omega (arith, ins, r, h))

-- the answer of a slice that is over
over_done : (o : Options) (kind : PhysicalKind) (progress : Progress) (hs : List Head) (es : List Bool) (given : Sides) (i : ℕ) → is_over_slice kind progress.booked ≡ true → i < length given.inputs → IsDoneAt (answer_by o kind progress hs es given).inputs i
over_done o (streaming_slice offset n) progress hs es given i e h = by_cond (slice_is_over offset n progress.booked) _ _ i e (repeated_done given.inputs i h)
over_done o kind progress hs es given i e h = absurd (let no : false ≡ true = e in cc)

each_done : (ws : List Wire) → ((q : Wire) → Contains ws q → is_done q.receive_state ≡ true) → all_done (map (λ (q : Wire). q.receive_state) ws) ≡ true
each_done [] h = refl
each_done (q ∷ qs) h = rw (h q (contains_first q qs)) (each_done qs (λ r c. h r (contains_later q r qs c)))

some_length : {A : Type 0} (xs : List A) (y : A) → Contains xs y → 1 ≤ length xs
some_length [] y c = absurd (Rattle.world_laws.proofs.InOrder.none_in_nil y c)
some_length (x ∷ xs) y c = omega arith

or_two : (a b : Bool) → (a || b) ≡ true → (a ≡ true) ⊎ (b ≡ true)
or_two true b e = inl refl
or_two false b e = inr e

module _ (F : Functions) (w : World) (f : Facts F w) (rest : IsSettled w) where
  pipe_of : (q : Wire) → Contains (wires_of w) q → (x : Pipe) × Contains w.pipes x × (x.wire ≡ q)
  pipe_of q c = from_map (λ (x : Pipe). x.wire) q w.pipes c

  wire_of : (x : Pipe) → Contains w.pipes x → Contains (wires_of w) x.wire
  wire_of x c = contains_map (λ (y : Pipe). y.wire) x w.pipes c

  -- a reader that answers done has said so
  said_done : (x : Pipe) → Contains w.pipes x → (node : Node) → slice_get w.nodes x.wire.receiver ≡ Some node
      → IsDoneAt (answer_by w.options node.node.kind node.progress (heads_of w x.wire.receiver node) (empty_outs w x.wire.receiver) (given_at w x.wire.receiver)).inputs x.wire.input → is_done x.wire.receive_state ≡ true
  said_done x c node e at =
      let n = x.wire.receiver in
      let there = input_place F w f x.wire (wire_of x c) in
      let within = slice_get_within (wires_in n (wires_of w)) x.wire.input x.wire there in
      let long = map_length (λ (q : Wire). q.send_state) (wires_in n (wires_of w)) in
      let enough = (answered w.options node.node.kind node.progress (heads_of w n node) (empty_outs w n) (given_at w n) (has_inputs F w f n node e) (has_readers F w f n node e)).0 in
      let kept_it = kept_at_done (given_at w n).inputs (answer_by w.options node.node.kind node.progress (heads_of w n node) (empty_outs w n) (given_at w n)).inputs x.wire.input (omega (arith, within, long)) enough at x.wire.receive_state in
      ap is_done (reader_says w (in_place F w f) rest x c node e) ∙ done_if_new x.wire.receive_state (get_or (answer_at w n node node.progress).inputs x.wire.input x.wire.receive_state) kept_it

  -- the place of a wire's input lies within what its reader is given
  place_within : (x : Pipe) → Contains w.pipes x → x.wire.input < length (given_at w x.wire.receiver).inputs
  place_within x c =
      let within = slice_get_within (wires_in x.wire.receiver (wires_of w)) x.wire.input x.wire (input_place F w f x.wire (wire_of x c)) in
      let long = map_length (λ (q : Wire). q.send_state) (wires_in x.wire.receiver (wires_of w)) in
      omega (arith, within, long)

  -- where all readers of a union are done, its inputs are done one after the other
  module _ (n : ℕ) (node : Node) (here : slice_get w.nodes n ≡ Some node) (is_union : node.node.kind ≡ ordered_union) (out_done : is_done (first_port (given_at w n).outputs) ≡ true) where
    abbrev sends : ℕ → Type 0
    sends i = IsDoneAt (given_at w n).inputs i

    next_done : (i : ℕ) → i < length (given_at w n).inputs → ((j : ℕ) → j < i → sends j) → sends i
    next_done i h before d = ap is_done (get_or_from_slice_get (given_at w n).inputs i q.send_state d given) ∙ sent
      where
        long : length (given_at w n).inputs ≡ length (wires_in n (wires_of w))
        long = map_length (λ (p : Wire). p.send_state) (wires_in n (wires_of w))

        q : Wire
        q = get_or (wires_in n (wires_of w)) i (record { sender = 0; port = 0; receiver = 0; input = 0; send_state = port.Blocked; receive_state = port.Blocked })

        there : slice_get (wires_in n (wires_of w)) i ≡ Some q
        there = slice_get-get_or (wires_in n (wires_of w)) i (record { sender = 0; port = 0; receiver = 0; input = 0; send_state = port.Blocked; receive_state = port.Blocked }) (omega (arith, h, long))

        given : slice_get (given_at w n).inputs i ≡ Some q.send_state
        given = slice_get-map (λ (p : Wire). p.send_state) (wires_in n (wires_of w)) i ∙ ap (option_map (λ (p : Wire). p.send_state)) there

        at : Contains (wires_of w) q × (q.receiver ≡ n) × (q.input ≡ i)
        at = input_at F w f n i q there

        x : (y : Pipe) × Contains w.pipes y × (y.wire ≡ q)
        x = pipe_of q at.0

        received : is_done q.receive_state ≡ true
        received =
            let to_n : x.0.wire.receiver ≡ n = ap (λ (p : Wire). p.receiver) x.2 ∙ at.1 in
            let to_i : x.0.wire.input ≡ i = ap (λ (p : Wire). p.input) x.2 ∙ at.2 in
            let said = said_done x.0 x.1 node (ap (λ m. slice_get w.nodes m) to_n ∙ here)
            (λ d'. ap is_done (λ j. get_or (answer_by w.options (is_union j) node.progress (heads_of w (to_n j) node) (empty_outs w (to_n j)) (given_at w (to_n j))).inputs (to_i j) d') ∙ union_at (given_at w n).inputs (first_port (given_at w n).outputs) i out_done h before d') in
            ap (λ (p : Wire). is_done p.receive_state) (sym x.2) ∙ said

        sent : is_done q.send_state ≡ true
        sent = ends_agree F w f rest q at.0 ∙ received

    all_sent : (k i : ℕ) → i < k → i < length (given_at w n).inputs → sends i
    all_sent zero i g h = absurd (omega arith)
    all_sent (suc k) i g h = next_done i h (λ j l. all_sent k j (omega arith) (omega arith))

  -- a pipe whose reader's outputs are all done
  reader_done : (x : Pipe) → Contains w.pipes x → (node : Node) → slice_get w.nodes x.wire.receiver ≡ Some node → 1 ≤ length (given_at w x.wire.receiver).outputs → all_done (given_at w x.wire.receiver).outputs ≡ true → is_done x.wire.receive_state ≡ true
  reader_done x c node e some all = by (IsUnion node.node.kind) refl
    where
      n : ℕ
      n = x.wire.receiver

      union_is : (k : PhysicalKind) → IsUnion k ≡ true → k ≡ ordered_union
      union_is ordered_union e = refl
      union_is (in_memory_source t) e = absurd (let no : false ≡ true = e in cc)
      union_is (independent_select s) e = absurd (let no : false ≡ true = e in cc)
      union_is (streaming_slice offset m) e = absurd (let no : false ≡ true = e in cc)
      union_is in_memory_sink e = absurd (let no : false ≡ true = e in cc)
      union_is (zip_node extend) e = absurd (let no : false ≡ true = e in cc)
      union_is multiplexer e = absurd (let no : false ≡ true = e in cc)
      union_is (equi_join j) e = absurd (let no : false ≡ true = e in cc)
      union_is (in_memory_map step) e = absurd (let no : false ≡ true = e in cc)
      union_is (in_memory_join j) e = absurd (let no : false ≡ true = e in cc)
      union_is (negative_slice back m) e = absurd (let no : false ≡ true = e in cc)
      union_is (reduce s) e = absurd (let no : false ≡ true = e in cc)
      union_is (group_by_node keys aggregates) e = absurd (let no : false ≡ true = e in cc)
      union_is (select_node s extends) e = absurd (let no : false ≡ true = e in cc)
      union_is (with_row_index name offset) e = absurd (let no : false ≡ true = e in cc)
      union_is (filter_node t) e = absurd (let no : false ≡ true = e in cc)
      union_is (simple_projection names) e = absurd (let no : false ≡ true = e in cc)
      union_is (stream_map step) e = absurd (let no : false ≡ true = e in cc)

      by : (b : Bool) → IsUnion node.node.kind ≡ b → is_done x.wire.receive_state ≡ true
      by false u =
          said_done x c node e
          (answers_done w.options node.node.kind node.progress (heads_of w n node) (empty_outs w n) (given_at w n) x.wire.input u (has_inputs F w f n node e) (has_readers F w f n node e) some all (rest n node e).stage (place_within x c))
      by true u =
          let union = union_is node.node.kind u in
          let out = first_of (given_at w n).outputs some all in
          said_done x c node e
          (λ d. ap is_done (λ j. get_or (answer_by w.options (union j) node.progress (heads_of w n node) (empty_outs w n) (given_at w n)).inputs x.wire.input d)
          ∙ union_at (given_at w n).inputs (first_port (given_at w n).outputs) x.wire.input out (place_within x c) (λ j l. all_sent n node e union out (suc j) j (omega arith) (let h = place_within x c in omega (arith, l, h))) d)

  -- from the last node on
  drops_done : (k : ℕ) (p : Pipe) → Contains w.pipes p → length w.nodes ≤ p.wire.receiver + k → IsTrue p.is_dropped → is_done p.wire.receive_state ≡ true
  drops_done zero p c far gone = absurd (let h = wires_inside F w f p.wire (wire_of p c) in omega (arith, h, far))
  drops_done (suc k) p c far gone = by ((f.pipes p c).why_dropped gone) (λ q cq later lost. drops_done k q cq later lost)
    where
      n : ℕ
      n = p.wire.receiver

      by : HasNoUse w n → ((q : Pipe) → Contains w.pipes q → length w.nodes ≤ q.wire.receiver + k → IsTrue q.is_dropped → is_done q.wire.receive_state ≡ true) → is_done p.wire.receive_state ≡ true
      by (inl (node, e, over)) later =
          said_done p c node e (over_done w.options node.node.kind node.progress (heads_of w n node) (empty_outs w n) (given_at w n) p.wire.input over (place_within p c))
      by (inr (z, cz, from, each)) later = reader_done p c node.0 node.1 some all
        where
          node : (x : Node) × (slice_get w.nodes n ≡ Some x)
          node = some_node w.nodes n (wires_inside F w f p.wire (wire_of p c))

          out_done : (q : Wire) → Contains (wires_out n (wires_of w)) q → is_done q.receive_state ≡ true
          out_done q cq =
              let out = was_kept (λ (r : Wire). nat_eq r.sender n) q (wires_of w) (ordered (λ (r s : Wire). Rattle.std.specs.Prelude.nat_lt r.port s.port) q (kept (λ (r : Wire). nat_eq r.sender n) (wires_of w)) cq) in
              let x = pipe_of q out.0 in
              let from_n : x.0.wire.sender ≡ n = ap (λ (r : Wire). r.sender) x.2 ∙ same_number q.sender n out.1 in
              ap (λ (r : Wire). is_done r.receive_state) (sym x.2) ∙ of x.0 x.1 from_n (or_two x.0.is_dropped (is_done x.0.wire.receive_state) (each x.0 x.1 from_n))
            where
              of : (x : Pipe) → Contains w.pipes x → x.wire.sender ≡ n → (x.is_dropped ≡ true) ⊎ (is_done x.wire.receive_state ≡ true) → is_done x.wire.receive_state ≡ true
              of x cx from_n (inr d) = d
              of x cx from_n (inl g) = let onward = wires_forward F w f x.wire (wire_of x cx) in later x cx (omega (arith, onward, from_n, far)) g

          some : 1 ≤ length (given_at w n).outputs
          some =
              let long = map_length (λ (q : Wire). q.receive_state) (wires_out n (wires_of w)) in
              let at = Rattle.world_facts.proofs.Wired.among_out F w f z.wire (wire_of z cz) in
              let here : Contains (wires_out n (wires_of w)) z.wire = subst (λ m. Contains (wires_out m (wires_of w)) z.wire) from at in
              let one = some_length (wires_out n (wires_of w)) z.wire here in
              omega (arith, long, one)

          all : all_done (given_at w n).outputs ≡ true
          all = each_done (wires_out n (wires_of w)) out_done

  pub drops_are_done : DropsAreDone w
  drops_are_done p c gone = drops_done (length w.nodes) p c (omega arith) gone

-- so an Open keeps the facts
pub opened_keeps : (F : Functions) (w s v : World) (phase : ℕ) → Updates F w s → Facts F w → IsFalse w.is_open → Opens F s phase v → Facts F v
opened_keeps F w s v phase u f shut opens = kept_if F w s v phase u (λ rest. drops_are_done F s (updates_keep_facts F w s u f shut).0 rest) f shut opens
