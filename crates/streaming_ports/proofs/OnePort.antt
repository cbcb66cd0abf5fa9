-- The third part of the law of sources, of passing nodes and of sinks.
use Rattle.std.proofs.Common.{◌≡◌, ℕ, zero, suc, ◌⊎◌, Bool, true, false, cond, List, [], ◌∷◌, length, Some, refl, sym, ap, subst, ◌∙◌, inl, inr, arith}
use Rattle.std.specs.Prelude.{Contains, IsTrue, get_or, nat_eq, nat_lt, slice_get, ◌||◌}
use Rattle.std.specs.List.{filter as kept, list_any}
use Rattle.std.proofs.lemmas.Option.{slice_get_within}
use Rattle.ps_frame.specs.Functions.{Functions}
use Rattle.ps_meaning.specs.Shape.{PhysicalKind, filter_node, in_memory_sink, in_memory_source, independent_select, select_node, simple_projection, stream_map, streaming_slice, with_row_index}
use Rattle.ps_meaning.specs.Sound.{HasInputs, HasReaders}
use Rattle.ps_options.specs.declared.options.Options.{Options}
use Rattle.ps_ports.specs.Ports.{Sides, all_done, first_port, is_done, repeated}
use Rattle.ps_ports.specs.Wires.{Wire, is_live, wires_in}
use Rattle.ps_ports.specs.declared.port_state.PortState.{PortState}
use Rattle.ps_ports.specs.declared.port_state.PortState.TheVariants as port
use Rattle.ps_turns.specs.Heads.{Head}
use Rattle.ps_turns.specs.Progress.{Progress, Stage}
use Rattle.ps_turns.specs.Updates.{answer_by, done_on_both, has_given_all, passing_answer, slice_is_over, source_state}
use Rattle.ps_world.specs.Booking.{IsPassing}
use Rattle.ps_world.specs.Laws.{IsReadySent, PortLaw, takes, takes_of}
use Rattle.ps_world.specs.Updates.{IsSettled, empty_outs, given_at}
use Rattle.ps_world.specs.World.{Node, Pipe, World, heads_of, wires_of}
use Rattle.world_claims.specs.Numbering.{Known}
use Rattle.world_facts.proofs.HandedIn.{contains_of}
use Rattle.world_facts.proofs.Placing.{has_inputs, has_readers}
use Rattle.world_facts.proofs.Wired.{input_place}
use Rattle.world_laws.proofs.InOrder.{contains_cases, contains_first, contains_later, contains_map, none_in_nil}
use Rattle.world_laws.proofs.PassingPorts.{ordered, same_number, was_kept}
use Rattle.world_families.proofs.Members.{nothing_is}
use Rattle.world_families.specs.Sources.{IsSource}
use Rattle.orderly_worlds.proofs.PortPipes.{given_input, given_output}
use Rattle.orderly_worlds.proofs.Orderly.{all_done_at}
use Rattle.orderly_worlds.proofs.Says.{reader_pipe}
use Rattle.passing_fronts.proofs.PassingKinds.{one_input}
use Rattle.streaming_ports.proofs.Ports.{agree, alive, input_says, kept_new, kept_rule, live_ends, live_or_done, output_says, pipe_of, sender_pipe}

-- where a port is done, nothing is live
pub not_both : (b : Bool) → b ≡ true → b ≡ false → ⊥
not_both b e h = let no : true ≡ false = sym e ∙ h in cc

-- the one state of a list
pub one_state : (ss : List PortState) (k : ℕ) (s : PortState) → length ss ≡ 1 → slice_get ss k ≡ Some s → (k ≡ 0) × (ss ≡ s ∷ [])
one_state [] k s one e = absurd (omega arith)
one_state (x ∷ []) zero s one e = let q : Some x ≡ Some s = e in let same : x ≡ s = cc in (refl, ap (λ z. z ∷ []) same)
one_state (x ∷ []) (suc k) s one e = absurd (nothing_is s e)
one_state (x ∷ y ∷ ss) k s one e = absurd (omega arith)

pub some_state : (ss : List PortState) → length ss ≡ 1 → (s : PortState) × (slice_get ss 0 ≡ Some s)
some_state [] e = absurd (omega arith)
some_state (s ∷ ss) e = (s, refl)

module _ (F : Functions) (s : World) (known : Known F s) (rest : IsSettled s) (n : ℕ) (node : Node) (there : slice_get s.nodes n ≡ Some node) where
  -- a node that takes nothing
  pub takes_none : takes_of node.node.kind node.progress.stage (wires_in n (wires_of s)) ≡ false → takes s n ≡ false
  takes_none e = rw (takes, there, e) refl

  abbrev said : Sides
  said = answer_by s.options node.node.kind node.progress (heads_of s n node) (empty_outs s n) (given_at s n)

  -- what it says of a live input, and of a live output
  pub live_input : (x : Pipe) → Contains s.pipes x → x.wire.receiver ≡ n → is_live x.wire ≡ true → x.wire.receive_state ≡ get_or said.inputs x.wire.input x.wire.receive_state
  live_input x c e l =
      let ends = live_ends F s known rest n node there x.wire l in
      let given = ap (λ k. slice_get (given_at s k).inputs x.wire.input) (sym e) ∙ given_input F s known.facts x c in
      input_says F s known rest n node there x c e ∙ kept_new x.wire.receive_state _ ends.1 ∙ kept_rule (given_at s n).inputs said.inputs x.wire.input x.wire.send_state x.wire.receive_state given ends.0

  pub live_output : (x : Pipe) → Contains s.pipes x → x.wire.sender ≡ n → is_live x.wire ≡ true → x.wire.send_state ≡ get_or said.outputs x.wire.port x.wire.send_state
  live_output x c e l =
      let ends = live_ends F s known rest n node there x.wire l in
      let given = ap (λ k. slice_get (given_at s k).outputs x.wire.port) (sym e) ∙ given_output F s known.facts x c in
      output_says F s known rest n node there x c e ∙ kept_new x.wire.send_state _ ends.0 ∙ kept_rule (given_at s n).outputs said.outputs x.wire.port x.wire.receive_state x.wire.send_state given ends.1

  -- the state of an end, as its node is given it
  pub state_in : (x : Pipe) → Contains s.pipes x → x.wire.receiver ≡ n → slice_get (given_at s n).inputs x.wire.input ≡ Some x.wire.send_state
  state_in x c e = ap (λ k. slice_get (given_at s k).inputs x.wire.input) (sym e) ∙ given_input F s known.facts x c

  pub state_out : (x : Pipe) → Contains s.pipes x → x.wire.sender ≡ n → slice_get (given_at s n).outputs x.wire.port ≡ Some x.wire.receive_state
  state_out x c e = ap (λ k. slice_get (given_at s k).outputs x.wire.port) (sym e) ∙ given_output F s known.facts x c

  -- A SOURCE
  module _ (is : IsSource node.node.kind) where
    source_outputs : (kind : PhysicalKind) → IsSource kind → (o : Options) (progress : Progress) (hs : List Head) (es : List Bool) (given : Sides) → (answer_by o kind progress hs es given).outputs ≡ source_state (has_given_all o kind progress) (first_port given.outputs) ∷ []
    source_outputs (in_memory_source t) k o progress hs es given = refl
    source_outputs (independent_select e) k o progress hs es given = refl
    source_outputs kind k o progress hs es given = absurd k

    source_inputs : (kind : PhysicalKind) (k : ℕ) → IsSource kind → HasInputs kind k → k ≡ 0
    source_inputs (in_memory_source t) k i h = h
    source_inputs (independent_select e) k i h = h
    source_inputs kind k i h = absurd i

    source_readers : (kind : PhysicalKind) (k : ℕ) → IsSource kind → HasReaders kind k → k ≡ 1
    source_readers (in_memory_source t) k i h = h
    source_readers (independent_select e) k i h = h
    source_readers kind k i h = absurd i

    source_takes : (kind : PhysicalKind) (st : Stage) (ws : List Wire) → IsSource kind → takes_of kind st ws ≡ false
    source_takes (in_memory_source t) st ws i = refl
    source_takes (independent_select e) st ws i = refl
    source_takes kind st ws i = absurd i

    no_input : (x : Pipe) → Contains s.pipes x → x.wire.receiver ≡ n → ⊥
    no_input x c e =
        let none = source_inputs node.node.kind (length (given_at s n).inputs) is (has_inputs F s known.facts n node there) in
        let within = slice_get_within (given_at s n).inputs x.wire.input x.wire.send_state (state_in x c e) in
        omega (arith, none, within)

    state_ready : (b : Bool) (d : PortState) → is_done d ≡ false → d ≡ cond b port.Done port.Ready → d ≡ port.Ready
    state_ready true d none e = absurd (not_both (is_done d) (ap is_done e) none)
    state_ready false d none e = e

    ready : (x : Pipe) → Contains s.pipes x → x.wire.sender ≡ n → is_live x.wire ≡ true → x.wire.send_state ≡ port.Ready
    ready x c e l =
        let one = source_readers node.node.kind (length (given_at s n).outputs) is (has_readers F s known.facts n node there) in
        let zero_port = (one_state (given_at s n).outputs x.wire.port x.wire.receive_state one (state_out x c e)).0 in
        let outputs = source_outputs node.node.kind is s.options node.progress (heads_of s n node) (empty_outs s n) (given_at s n) in
        state_ready (is_done (first_port (given_at s n).outputs) || has_given_all s.options node.node.kind node.progress) x.wire.send_state (live_ends F s known rest n node there x.wire l).0
        (live_output x c e l ∙ (λ i. get_or (outputs i) (zero_port i) x.wire.send_state))

    pub source_ports : PortLaw s n
    source_ports =
        record {
          takes_means = λ t. absurd (let no : false ≡ true = sym (takes_none (source_takes node.node.kind node.progress.stage (wires_in n (wires_of s)) is)) ∙ t in cc);
          leads_on = λ p c e l. let x = pipe_of s p c in absurd (no_input x.0 x.1 (ap (λ (u : Wire). u.receiver) x.2 ∙ e));
          hands_on = λ up. inr (λ p c e l. let x = pipe_of s p c in sym (ap (λ (u : Wire). u.send_state) x.2) ∙ ready x.0 x.1 (ap (λ (u : Wire). u.sender) x.2 ∙ e) (ap is_live x.2 ∙ l));
        }

  -- A PASSING NODE
  module _ (passing : IsPassing node.node.kind) where
    passing_readers : (kind : PhysicalKind) (k : ℕ) → IsPassing kind → HasReaders kind k → k ≡ 1
    passing_readers (streaming_slice offset c) k h r = r
    passing_readers (with_row_index name offset) k h r = r
    passing_readers (filter_node x) k h r = r
    passing_readers (select_node es extends) k h r = r
    passing_readers (simple_projection names) k h r = r
    passing_readers (stream_map step) k h r = r
    passing_readers kind k h r = absurd h

    passing_takes : (kind : PhysicalKind) (st : Stage) (ws : List Wire) → IsPassing kind → takes_of kind st ws ≡ false
    passing_takes (streaming_slice offset c) st ws h = refl
    passing_takes (with_row_index name offset) st ws h = refl
    passing_takes (filter_node x) st ws h = refl
    passing_takes (select_node es extends) st ws h = refl
    passing_takes (simple_projection names) st ws h = refl
    passing_takes (stream_map step) st ws h = refl
    passing_takes kind st ws h = absurd h

    -- it passes, or is a slice that is done on both sides
    by_test : (b : Bool) (given : Sides) → (cond b (done_on_both given) (passing_answer given) ≡ passing_answer given) ⊎ (cond b (done_on_both given) (passing_answer given) ≡ done_on_both given)
    by_test true given = inr refl
    by_test false given = inl refl

    passing_says : (kind : PhysicalKind) → IsPassing kind → (o : Options) (progress : Progress) (hs : List Head) (es : List Bool) (given : Sides) → (answer_by o kind progress hs es given ≡ passing_answer given) ⊎ (answer_by o kind progress hs es given ≡ done_on_both given)
    passing_says (streaming_slice offset c) h o progress hs es given = by_test (slice_is_over offset c progress.booked) given
    passing_says (with_row_index name offset) h o progress hs es given = inl refl
    passing_says (filter_node x) h o progress hs es given = inl refl
    passing_says (select_node e extends) h o progress hs es given = inl refl
    passing_says (simple_projection names) h o progress hs es given = inl refl
    passing_says (stream_map step) h o progress hs es given = inl refl
    passing_says kind h o progress hs es given = absurd h

    says : (said ≡ passing_answer (given_at s n)) ⊎ (said ≡ done_on_both (given_at s n))
    says = passing_says node.node.kind passing s.options node.progress (heads_of s n node) (empty_outs s n) (given_at s n)

    one_in : length (given_at s n).inputs ≡ 1
    one_in = one_input node.node.kind (length (given_at s n).inputs) passing (has_inputs F s known.facts n node there)

    one_out : length (given_at s n).outputs ≡ 1
    one_out = passing_readers node.node.kind (length (given_at s n).outputs) passing (has_readers F s known.facts n node there)

    done_here : (ss : List PortState) (k : ℕ) (st d : PortState) → slice_get ss k ≡ Some st → get_or (repeated port.Done ss) k d ≡ port.Done
    done_here [] k st d e = absurd (nothing_is st e)
    done_here (x ∷ ss) zero st d e = refl
    done_here (x ∷ ss) (suc k) st d e = done_here ss k st d e

    -- its output, and its input
    output : (z : Pipe) × Contains s.pipes z × (z.wire.sender ≡ n)
    output = let o = some_state (given_at s n).outputs one_out in let z = reader_pipe s n 0 o.0 o.1 in (z.0, z.1, z.2)

    leads : (x : Pipe) → Contains s.pipes x → x.wire.receiver ≡ n → is_live x.wire ≡ true → is_live output.0.wire ≡ true
    leads x c e l = by (live_or_done F s known rest n node there output.0.wire (contains_map (λ (z : Pipe). z.wire) output.0 s.pipes output.1)) says
      where
        undone : is_done x.wire.receive_state ≡ false
        undone = (live_ends F s known rest n node there x.wire l).1

        told : (a : Sides) → said ≡ a → x.wire.receive_state ≡ get_or a.inputs x.wire.input x.wire.receive_state
        told a is = live_input x c e l ∙ ap (λ (b : Sides). get_or b.inputs x.wire.input x.wire.receive_state) is

        passed : said ≡ passing_answer (given_at s n) → x.wire.receive_state ≡ output.0.wire.receive_state
        passed is =
            let at = one_state (given_at s n).inputs x.wire.input x.wire.send_state one_in (state_in x c e) in
            let out = one_state (given_at s n).outputs output.0.wire.port output.0.wire.receive_state one_out (state_out output.0 output.1 output.2) in
            told (passing_answer (given_at s n)) is ∙ (λ i. get_or (out.1 i) (at.0 i) x.wire.receive_state)

        by : (is_live output.0.wire ≡ true) ⊎ (is_done output.0.wire.receive_state ≡ true) → (said ≡ passing_answer (given_at s n)) ⊎ (said ≡ done_on_both (given_at s n)) → is_live output.0.wire ≡ true
        by (inl live) h = live
        by (inr d) (inl is) = absurd (not_both (is_done x.wire.receive_state) (ap is_done (passed is) ∙ d) undone)
        by (inr d) (inr is) = absurd (not_both (is_done x.wire.receive_state) (ap is_done (told (done_on_both (given_at s n)) is ∙ done_here (given_at s n).inputs x.wire.input x.wire.send_state x.wire.receive_state (state_in x c e))) undone)

    hands : ((p : Wire) → Contains (wires_of s) p → p.receiver ≡ n → IsTrue (is_live p) → IsReadySent p) → (z : Pipe) → Contains s.pipes z → z.wire.sender ≡ n → is_live z.wire ≡ true → z.wire.send_state ≡ port.Ready
    hands up z c e l = by says
      where
        undone : is_done z.wire.send_state ≡ false
        undone = (live_ends F s known rest n node there z.wire l).0

        told : (a : Sides) → said ≡ a → z.wire.send_state ≡ get_or a.outputs z.wire.port z.wire.send_state
        told a is = live_output z c e l ∙ ap (λ (b : Sides). get_or b.outputs z.wire.port z.wire.send_state) is

        passed : said ≡ passing_answer (given_at s n) → z.wire.send_state ≡ port.Ready
        passed is =
            let i = some_state (given_at s n).inputs one_in in
            let x = sender_pipe s n 0 i.0 i.1 in
            let at = one_state (given_at s n).inputs x.0.wire.input x.0.wire.send_state one_in (state_in x.0 x.1 x.2) in
            let out = one_state (given_at s n).outputs z.wire.port z.wire.receive_state one_out (state_out z c e) in
            let same : z.wire.send_state ≡ x.0.wire.send_state = told (passing_answer (given_at s n)) is ∙ (λ j. get_or (at.1 j) (out.0 j) z.wire.send_state) in
            let open_send : is_done x.0.wire.send_state ≡ false = ap is_done (sym same) ∙ undone in
            let there_x = contains_map (λ (y : Pipe). y.wire) x.0 s.pipes x.1 in
            let live = alive (is_done x.0.wire.send_state) (is_done x.0.wire.receive_state) open_send (sym (agree F s known rest n node there x.0.wire there_x) ∙ open_send) in
            same ∙ up x.0.wire there_x x.2 live

        by : (said ≡ passing_answer (given_at s n)) ⊎ (said ≡ done_on_both (given_at s n)) → z.wire.send_state ≡ port.Ready
        by (inl is) = passed is
        by (inr is) = absurd (not_both (is_done z.wire.send_state) (ap is_done (told (done_on_both (given_at s n)) is ∙ done_here (given_at s n).outputs z.wire.port z.wire.receive_state z.wire.send_state (state_out z c e))) undone)

    pub passing_ports : PortLaw s n
    passing_ports =
        record {
          takes_means = λ t. absurd (let no : false ≡ true = sym (takes_none (passing_takes node.node.kind node.progress.stage (wires_in n (wires_of s)) passing)) ∙ t in cc);
          leads_on = λ p c e l.
              let x = pipe_of s p c in
              inr (output.0.wire, contains_map (λ (z : Pipe). z.wire) output.0 s.pipes output.1, output.2, leads x.0 x.1 (ap (λ (u : Wire). u.receiver) x.2 ∙ e) (ap is_live x.2 ∙ l));
          hands_on = λ up. inr (λ p c e l. let x = pipe_of s p c in sym (ap (λ (u : Wire). u.send_state) x.2) ∙ hands up x.0 x.1 (ap (λ (u : Wire). u.sender) x.2 ∙ e) (ap is_live x.2 ∙ l));
        }

  -- A SINK
  module _ (is_one : node.node.kind ≡ in_memory_sink) where
    no_output : (z : Pipe) → Contains s.pipes z → z.wire.sender ≡ n → ⊥
    no_output z c e =
        let none : length (given_at s n).outputs ≡ 0 = subst (λ k. HasReaders k (length (given_at s n).outputs)) is_one (has_readers F s known.facts n node there) in
        let within = slice_get_within (given_at s n).outputs z.wire.port z.wire.receive_state (state_out z c e) in
        omega (arith, none, within)

    -- it is ready to what is live
    not_all : (ss : List PortState) (k : ℕ) (st : PortState) → slice_get ss k ≡ Some st → is_done st ≡ false → all_done ss ≡ false
    not_all ss k st e none = by (all_done ss) refl
      where
        by : (b : Bool) → all_done ss ≡ b → all_done ss ≡ false
        by false h = h
        by true h = absurd (not_both (is_done st) (all_done_at ss k st h e) none)

    same_here : (st : PortState) (ss : List PortState) (k : ℕ) (old d : PortState) → slice_get ss k ≡ Some old → get_or (repeated st ss) k d ≡ st
    same_here st [] k old d e = absurd (nothing_is old e)
    same_here st (x ∷ ss) zero old d e = refl
    same_here st (x ∷ ss) (suc k) old d e = same_here st ss k old d e

    sink_ready : (x : Pipe) → Contains s.pipes x → x.wire.receiver ≡ n → is_live x.wire ≡ true → x.wire.receive_state ≡ port.Ready
    sink_ready x c e l =
        let given = state_in x c e in
        let some = not_all (given_at s n).inputs x.wire.input x.wire.send_state given (live_ends F s known rest n node there x.wire l).0 in
        live_input x c e l ∙ ap (λ k. get_or (answer_by s.options k node.progress (heads_of s n node) (empty_outs s n) (given_at s n)).inputs x.wire.input x.wire.receive_state) is_one
        ∙ same_here (cond (all_done (given_at s n).inputs) port.Done port.Ready) (given_at s n).inputs x.wire.input x.wire.send_state x.wire.receive_state given ∙ ap (λ b. cond b port.Done port.Ready) some

    sink_takes : takes s n ≡ list_any is_live (wires_in n (wires_of s))
    sink_takes = rw (takes, there, is_one) refl

    any_of : (ws : List Wire) → list_any is_live ws ≡ true → (p : Wire) × Contains ws p × (is_live p ≡ true)
    any_of [] e = absurd (let no : false ≡ true = e in cc)
    any_of (w ∷ ws) e = by (is_live w) refl e (any_of ws)
      where
        by : (b : Bool) → is_live w ≡ b → (b || list_any is_live ws) ≡ true → (list_any is_live ws ≡ true → (p : Wire) × Contains ws p × (is_live p ≡ true)) → (p : Wire) × Contains (w ∷ ws) p × (is_live p ≡ true)
        by true h t more = (w, contains_first w ws, h)
        by false h t more = let r = more t in (r.0, contains_later w r.0 ws r.1, r.2)

    some_of : (ws : List Wire) (p : Wire) → Contains ws p → is_live p ≡ true → list_any is_live ws ≡ true
    some_of [] p c l = absurd (none_in_nil p c)
    some_of (w ∷ ws) p c l = by (contains_cases w p ws c) (some_of ws p)
      where
        or_right : (a b : Bool) → b ≡ true → (a || b) ≡ true
        or_right true b e = refl
        or_right false b e = e

        by : (w ≡ p) ⊎ Contains ws p → (Contains ws p → is_live p ≡ true → list_any is_live ws ≡ true) → (is_live w || list_any is_live ws) ≡ true
        by (inl same) more = ap (λ b. b || list_any is_live ws) (ap is_live same ∙ l)
        by (inr later) more = or_right (is_live w) (list_any is_live ws) (more later l)

    pub sink_ports : PortLaw s n
    sink_ports =
        record {
          takes_means = λ t.
              let p = any_of (wires_in n (wires_of s)) (sym sink_takes ∙ t) in
              let k = was_kept (λ (u : Wire). nat_eq u.receiver n) p.0 (wires_of s) (ordered (λ (u v : Wire). nat_lt u.input v.input) p.0 (kept (λ (u : Wire). nat_eq u.receiver n) (wires_of s)) p.1) in
              let to_n = same_number p.0.receiver n k.1 in
              let x = pipe_of s p.0 k.0 in
              record {
                input = p.0;
                is_input = (k.0, to_n, p.2);
                is_ready = sym (ap (λ (u : Wire). u.receive_state) x.2) ∙ sink_ready x.0 x.1 (ap (λ (u : Wire). u.receiver) x.2 ∙ to_n) (ap is_live x.2 ∙ p.2);
                blocked_outputs = λ q c e. let z = pipe_of s q c in absurd (no_output z.0 z.1 (ap (λ (u : Wire). u.sender) z.2 ∙ e));
              };
          leads_on = λ p c e l.
              let among : Contains (wires_in n (wires_of s)) p = subst (λ k. Contains (wires_in k (wires_of s)) p) e (contains_of (wires_in p.receiver (wires_of s)) p.input p (input_place F s known.facts p c)) in
              inl (sink_takes ∙ some_of (wires_in n (wires_of s)) p among l);
          hands_on = λ up. inr (λ p c e l. let z = pipe_of s p c in absurd (no_output z.0 z.1 (ap (λ (u : Wire). u.sender) z.2 ∙ e)));
        }
