-- An Open marks a phase whose outputs fit: its updates are settled, and its nodes are blockers and what feeds them.
use Rattle.std.proofs.Common.{◌≡◌, ℕ, zero, suc, ◌<◌, ◌+◌, ◌≤◌, ◌⊎◌, Bool, true, false, cond, List, [], ◌∷◌, length, Option, Some, None, refl, sym, ap, subst, ◌∙◌, inl, inr, arith}
use Rattle.std.specs.Prelude.{Contains, IsFalse, IsTrue, get_or, nat_eq, nat_lt, not, option_map, option_to_list, slice_get, ◌&&◌, ◌||◌}
use Rattle.std.specs.List.{filter as kept, list_all, list_any}
use Rattle.std.proofs.lemmas.Bool.{or_left}
use Rattle.std.proofs.lemmas.List.Elements.{Contains-append_cases}
use Rattle.std.proofs.lemmas.Option.{get_or_from_slice_get, slice_get-map, slice_get_within}
use Rattle.ps_frame.specs.Causes.{is_empty}
use Rattle.ps_frame.specs.Functions.{Functions}
use Rattle.ps_frame.specs.Zip.{below}
use Rattle.ps_meaning.specs.Shape.{PhysicalKind, equi_join, filter_node, group_by_node, in_memory_join, in_memory_map, in_memory_sink, in_memory_source, independent_select, multiplexer, negative_slice, ordered_union, reduce, select_node, simple_projection, stream_map, streaming_slice, with_row_index, zip_node}
use Rattle.ps_meaning.specs.Sound.{HasInputs, HasReaders}
use Rattle.ps_meaning.specs.Steps.{JoinStep}
use Rattle.ps_options.specs.declared.options.Options.{Options}
use Rattle.ps_ports.specs.Phases.{all_feeders, blockers_of, is_blocker, is_in_phase, is_one_of, most_ready, ready_readers, with_feeders}
use Rattle.ps_ports.specs.Ports.{Sides, first_port, is_blocked, is_done, is_ready, kept_done, kept_state, repeated}
use Rattle.ps_ports.specs.Wires.{Wire, both_ready, wires_in, wires_out}
use Rattle.ps_ports.specs.declared.port_state.PortState.{PortState}
use Rattle.ps_ports.specs.declared.port_state.PortState.TheVariants as port
use Rattle.ps_turns.specs.Claims.{owes_last}
use Rattle.ps_turns.specs.Heads.{Head}
use Rattle.ps_turns.specs.Progress.{Progress, Stage, giving, is_multiplexer, is_taking, spent, taking}
use Rattle.ps_turns.specs.Updates.{answer_by, done_on_both, has_given_all, join_answer, keeper_answer, slice_is_over, union_inputs, union_output, zip_answer, zip_is_over}
use Rattle.ps_world.specs.Facts.{Facts}
use Rattle.ps_world.specs.Phases.{after_fault, after_open, blockers_in, intensive_at, marked_nodes, nodes_of_phase, with_phase}
use Rattle.ps_world.specs.Step.{Opens, breaks, settles}
use Rattle.ps_world.specs.Updates.{IsSettled, answer_at, empty_outs, given_at}
use Rattle.ps_world.specs.World.{Node, Pipe, World, finished, heads_of, multiplexes, wires_of, IsWorking}
use Rattle.world_facts.proofs.CutOff.{and_true, both_true, its_number}
use Rattle.world_facts.proofs.Placing.{answered, has_inputs, has_readers, in_place, map_length}
use Rattle.world_facts.proofs.Slots.{all_at, some_at}
use Rattle.world_facts.proofs.Wired.{among_out, input_place, port_place}
use Rattle.world_facts.proofs.Wiring.{wires_inside}
use Rattle.world_laws.proofs.Agree.{from_map, reader_says, sender_says}
use Rattle.world_laws.proofs.Blockers.{contains_below}
use Rattle.world_laws.proofs.InOrder.{contains_cases, contains_first, contains_kept, contains_later, contains_map, list_any-contains, none_in_nil}
use Rattle.world_laws.proofs.PassingPorts.{ordered, same_number, was_kept}
use Rattle.world_claims.proofs.Beside.{marked_from}
use Rattle.world_claims.proofs.Outs.{outs_shut}
use Rattle.world_claims.proofs.Steps.{bare_outs}
use Rattle.world_claims.specs.Numbering.{OutsFit, only_takes}

-- STATES THAT ARE KEPT
kept_at : (gs as' : List PortState) (i : ℕ) (d : PortState) → i < length gs → length gs ≤ length as' → get_or (kept_done gs as') i d ≡ kept_state (get_or gs i d) (get_or as' i d)
kept_at [] as' i d h l = absurd (omega arith)
kept_at (g ∷ gs) [] i d h l = absurd (omega arith)
kept_at (g ∷ gs) (a ∷ as') zero d h l = refl
kept_at (g ∷ gs) (a ∷ as') (suc i) d h l = kept_at gs as' i d (omega arith) (omega arith)

never_ready : (a s : PortState) → is_ready s ≡ false → is_ready (kept_state a s) ≡ false
never_ready port.Done s e = refl
never_ready port.Ready s e = e
never_ready port.Blocked s e = e

blocked_kept : (a s : PortState) → is_blocked (kept_state a s) ≡ true → is_blocked s ≡ true
blocked_kept port.Done s e = absurd (let no : false ≡ true = e in cc)
blocked_kept port.Ready s e = e
blocked_kept port.Blocked s e = e

blocked_not_ready : (s : PortState) → is_blocked s ≡ true → is_ready s ≡ false
blocked_not_ready port.Blocked e = refl
blocked_not_ready port.Ready e = absurd (let no : false ≡ true = e in cc)
blocked_not_ready port.Done e = refl

-- WHAT ONLY TAKES IS NOT READY TO ITS OUTPUT
keeper_blocked : (stage : Stage) (given : Sides) (d : PortState) → is_taking stage ≡ true → is_ready (get_or (keeper_answer stage given).outputs 0 d) ≡ false
keeper_blocked taking given d e = refl
keeper_blocked giving given d e = absurd (let no : false ≡ true = e in cc)
keeper_blocked spent given d e = absurd (let no : false ≡ true = e in cc)

join_blocked : (j : JoinStep) (progress : Progress) (stage : Stage) (given : Sides) (d : PortState) → is_taking stage ≡ true → is_ready (get_or (join_answer j progress stage given).outputs 0 d) ≡ false
join_blocked j progress taking given d e = refl
join_blocked j progress giving given d e = absurd (let no : false ≡ true = e in cc)
join_blocked j progress spent given d e = absurd (let no : false ≡ true = e in cc)

takes_answer : (o : Options) (kind : PhysicalKind) (a : Progress) (hs : List Head) (es : List Bool) (given : Sides) (d : PortState) → only_takes kind a.stage ≡ true → is_ready (get_or (answer_by o kind a hs es given).outputs 0 d) ≡ false
takes_answer o (equi_join j) a hs es given d e = join_blocked j a a.stage given d e
takes_answer o (in_memory_map step) a hs es given d e = keeper_blocked a.stage given d e
takes_answer o (in_memory_join j) a hs es given d e = keeper_blocked a.stage given d e
takes_answer o (negative_slice back n) a hs es given d e = keeper_blocked a.stage given d e
takes_answer o (reduce s) a hs es given d e = keeper_blocked a.stage given d e
takes_answer o (group_by_node keys aggregates) a hs es given d e = keeper_blocked a.stage given d e
takes_answer o kind a hs es given d e = absurd (let no : false ≡ true = e in cc)

-- WHAT IS BLOCKED TO ITS OUTPUT, AND DOESN'T ONLY TAKE, HAS NO INPUT THAT IS READY ON BOTH ENDS
abbrev NotReady : Sides → Sides → ℕ → Type 0
NotReady given a i = (d : PortState) → (is_ready (get_or given.inputs i d) ≡ false) ⊎ (is_ready (get_or a.inputs i d) ≡ false)

source_states : {A : Type 0} (b : Bool) → is_blocked (cond b port.Done port.Ready) ≡ true → A
source_states true e = absurd (let no : false ≡ true = e in cc)
source_states false e = absurd (let no : false ≡ true = e in cc)

passing : (ins : List PortState) (i : ℕ) (d : PortState) → length ins ≡ 1 → i < length ins → is_blocked (get_or ins 0 d) ≡ true → (e : PortState) → is_ready (get_or ins i e) ≡ false
passing [] i d l h b e = absurd (omega arith)
passing (s ∷ []) zero d l h b e = blocked_not_ready s b
passing (s ∷ []) (suc i) d l h b e = absurd (omega arith)
passing (s ∷ t ∷ ss) i d l h b e = absurd (omega arith)

done_first : (outs : List PortState) (d : PortState) → length outs ≡ 1 → is_blocked (get_or (repeated port.Done outs) 0 d) ≡ true → ⊥
done_first [] d l e = absurd (omega arith)
done_first (s ∷ ss) d l e = let no : false ≡ true = e in cc

of_slice : (b : Bool) (given : Sides) (i : ℕ) (d : PortState) → length given.inputs ≡ 1 → length given.outputs ≡ 1 → i < length given.inputs → is_blocked (get_or (cond b (done_on_both given) (record { inputs = given.outputs; outputs = given.inputs })).outputs 0 d) ≡ true
    → NotReady given (cond b (done_on_both given) (record { inputs = given.outputs; outputs = given.inputs })) i
of_slice true given i d l r h e x = absurd (done_first given.outputs d r e)
of_slice false given i d l r h e x = inl (passing given.inputs i d l h e x)

repeated_blocked : (ss : List PortState) (i : ℕ) (d : PortState) → i < length ss → is_ready (get_or (repeated port.Blocked ss) i d) ≡ false
repeated_blocked [] i d h = absurd (omega arith)
repeated_blocked (s ∷ ss) zero d h = refl
repeated_blocked (s ∷ ss) (suc i) d h = repeated_blocked ss i d (omega arith)

of_union : (out : PortState) (ss : List PortState) (i : ℕ) → is_blocked (union_output ss) ≡ true → i < length ss → (d : PortState) → (is_ready (get_or ss i d) ≡ false) ⊎ (is_ready (get_or (union_inputs out ss) i d) ≡ false)
of_union out [] i e h d = absurd (omega arith)
of_union out (port.Done ∷ ss) zero e h d = inl refl
of_union out (port.Done ∷ ss) (suc i) e h d = of_union out ss i e (omega arith) d
of_union out (port.Ready ∷ ss) i e h d = absurd (let no : false ≡ true = e in cc)
of_union out (port.Blocked ∷ ss) zero e h d = inl refl
of_union out (port.Blocked ∷ ss) (suc i) e h d = inr (repeated_blocked ss i d (omega arith))

abbrev zip_by : Sides → Bool → Bool → Sides
zip_by given a b =
    cond a (record { inputs = repeated port.Done given.inputs; outputs = port.Done ∷ [] })
    (cond b (record { inputs = repeated port.Blocked given.inputs; outputs = port.Blocked ∷ [] }) (record { inputs = repeated (cond (is_blocked (first_port given.outputs)) port.Blocked port.Ready) given.inputs; outputs = port.Ready ∷ [] }))

of_zip_by : (given : Sides) (i : ℕ) (d x : PortState) → i < length given.inputs → (a b : Bool) → is_blocked (get_or (zip_by given a b).outputs 0 d) ≡ true → (is_ready (get_or given.inputs i x) ≡ false) ⊎ (is_ready (get_or (zip_by given a b).inputs i x) ≡ false)
of_zip_by given i d x h true b q = absurd (let no : false ≡ true = q in cc)
of_zip_by given i d x h false true q = inr (repeated_blocked given.inputs i x h)
of_zip_by given i d x h false false q = absurd (let no : false ≡ true = q in cc)

of_zip : (hs : List Head) (given : Sides) (i : ℕ) (d : PortState) → i < length given.inputs → is_blocked (get_or (zip_answer hs given).outputs 0 d) ≡ true → NotReady given (zip_answer hs given) i
of_zip hs given i d h e x = of_zip_by given i d x h (zip_is_over hs given) (list_any is_blocked given.inputs) e

first_is : (ss : List PortState) (d : PortState) → 1 ≤ length ss → get_or ss 0 d ≡ first_port ss
first_is [] d h = absurd (omega arith)
first_is (s ∷ ss) d h = refl

abbrev join_by : Sides → Bool → Sides
join_by given b = cond b (record { inputs = port.Done ∷ port.Done ∷ []; outputs = port.Ready ∷ [] }) (record { inputs = first_port given.outputs ∷ port.Done ∷ []; outputs = first_port given.inputs ∷ [] })

of_join_by : (given : Sides) (d x : PortState) → length given.inputs ≡ 2 → (b : Bool) (i : ℕ) → i < length given.inputs → is_blocked (get_or (join_by given b).outputs 0 d) ≡ true → (is_ready (get_or given.inputs i x) ≡ false) ⊎ (is_ready (get_or (join_by given b).inputs i x) ≡ false)
of_join_by given d x l true i g q = absurd (let no : false ≡ true = q in cc)
of_join_by given d x l false zero g q = inl (ap is_ready (first_is given.inputs x (omega arith)) ∙ blocked_not_ready (first_port given.inputs) q)
of_join_by given d x l false (suc zero) g q = inr refl
of_join_by given d x l false (suc (suc i)) g q = absurd (omega arith)

of_join : (j : JoinStep) (a : Progress) (stage : Stage) (given : Sides) (i : ℕ) (d : PortState) → length given.inputs ≡ 2 → i < length given.inputs → is_taking stage ≡ false → is_blocked (get_or (join_answer j a stage given).outputs 0 d) ≡ true → NotReady given (join_answer j a stage given) i
of_join j a taking given i d l h t e x = absurd (let no : true ≡ false = t in cc)
of_join j a spent given i d l h t e x = absurd (let no : false ≡ true = e in cc)
of_join j a giving given i d l h t e x = of_join_by given d x l (is_done (first_port given.inputs) && owes_last j a) i h e

of_keeper : (stage : Stage) (given : Sides) (i : ℕ) (d : PortState) → is_taking stage ≡ false → is_blocked (get_or (keeper_answer stage given).outputs 0 d) ≡ true → NotReady given (keeper_answer stage given) i
of_keeper taking given i d t e = absurd (let no : true ≡ false = t in cc)
of_keeper giving given i d t e = absurd (let no : false ≡ true = e in cc)
of_keeper spent given i d t e = absurd (let no : false ≡ true = e in cc)

blocked_means : (o : Options) (kind : PhysicalKind) (a : Progress) (hs : List Head) (es : List Bool) (given : Sides) (i : ℕ) (d : PortState) → HasInputs kind (length given.inputs) → HasReaders kind (length given.outputs) → 1 ≤ length given.outputs → is_multiplexer kind ≡ false
    → only_takes kind a.stage ≡ false → i < length given.inputs → is_blocked (get_or (answer_by o kind a hs es given).outputs 0 d) ≡ true → NotReady given (answer_by o kind a hs es given) i
blocked_means o (in_memory_source t) a hs es given i d ins r some m k h e x = source_states (is_done (first_port given.outputs) || has_given_all o (in_memory_source t) a) e
blocked_means o (independent_select s) a hs es given i d ins r some m k h e x = source_states (is_done (first_port given.outputs) || has_given_all o (independent_select s) a) e
blocked_means o (streaming_slice offset n) a hs es given i d ins r some m k h e x = of_slice (slice_is_over offset n a.booked) given i d ins r h e x
blocked_means o in_memory_sink a hs es given i d ins r some m k h e x = absurd (omega (arith, r, some))
blocked_means o ordered_union a hs es given i d ins r some m k h e x = of_union (first_port given.outputs) given.inputs i e h x
blocked_means o (zip_node extend) a hs es given i d ins r some m k h e x = of_zip hs given i d h e x
blocked_means o multiplexer a hs es given i d ins r some m k h e x = absurd (let no : true ≡ false = m in cc)
blocked_means o (equi_join j) a hs es given i d ins r some m k h e x = of_join j a a.stage given i d ins h k e x
blocked_means o (in_memory_map step) a hs es given i d ins r some m k h e x = of_keeper a.stage given i d k e x
blocked_means o (in_memory_join j) a hs es given i d ins r some m k h e x = of_keeper a.stage given i d k e x
blocked_means o (negative_slice back n) a hs es given i d ins r some m k h e x = of_keeper a.stage given i d k e x
blocked_means o (reduce s) a hs es given i d ins r some m k h e x = of_keeper a.stage given i d k e x
blocked_means o (group_by_node keys aggregates) a hs es given i d ins r some m k h e x = of_keeper a.stage given i d k e x
blocked_means o (select_node s extends) a hs es given i d ins r some m k h e x = inl (passing given.inputs i d ins h e x)
blocked_means o (with_row_index name offset) a hs es given i d ins r some m k h e x = inl (passing given.inputs i d ins h e x)
blocked_means o (filter_node t) a hs es given i d ins r some m k h e x = inl (passing given.inputs i d ins h e x)
blocked_means o (simple_projection names) a hs es given i d ins r some m k h e x = inl (passing given.inputs i d ins h e x)
blocked_means o (stream_map step) a hs es given i d ins r some m k h e x = inl (passing given.inputs i d ins h e x)

few_outputs : (kind : PhysicalKind) (k : ℕ) → HasReaders kind k → is_multiplexer kind ≡ false → k ≤ 1
few_outputs multiplexer k h m = absurd (let no : true ≡ false = m in cc)
few_outputs in_memory_sink k h m = omega (arith, h)
few_outputs kind k h m = omega (arith, h)

only_single : (kind : PhysicalKind) (stage : Stage) → only_takes kind stage ≡ true → is_multiplexer kind ≡ false
only_single multiplexer stage e = absurd (let no : false ≡ true = e in cc)
only_single kind stage e = refl

-- WHO STANDS IN A PHASE
most_ready_in : (ws : List Wire) (ns : List ℕ) (m : ℕ) → most_ready ws ns ≡ Some m → Contains ns m
most_ready_in ws [] m e = absurd (let no : None ≡ Some m = e in cc)
most_ready_in ws (n ∷ ns) m e = by (most_ready ws ns) (λ k q. most_ready_in ws ns k q) e
  where
    chosen : (b : Bool) (k : ℕ) → cond b (Some n) (Some k) ≡ Some m → Contains ns k → Contains (n ∷ ns) m
    chosen true k q c = let s : Some n ≡ Some m = q in let same : n ≡ m = cc in subst (Contains (n ∷ ns)) same (contains_first n ns)
    chosen false k q c = let s : Some k ≡ Some m = q in let same : k ≡ m = cc in subst (Contains (n ∷ ns)) same (contains_later n k ns c)

    by : (r : Option ℕ) → ((k : ℕ) → r ≡ Some k → Contains ns k) → elim r as (λ x. Option ℕ) [ None ↦ Some n | Some k ↦ cond (nat_lt (ready_readers ws k) (ready_readers ws n)) (Some n) (Some k) ] ≡ Some m → Contains (n ∷ ns) m
    by None rest q = let s : Some n ≡ Some m = q in let same : n ≡ m = cc in subst (Contains (n ∷ ns)) same (contains_first n ns)
    by (Some k) rest q = chosen (nat_lt (ready_readers ws k) (ready_readers ws n)) k q (rest k refl)

from_option : (o : Option ℕ) (m : ℕ) → Contains (option_to_list o) m → o ≡ Some m
from_option None m c = absurd (none_in_nil m c)
from_option (Some k) m c = by (contains_cases k m [] c)
  where
    by : (k ≡ m) ⊎ Contains [] m → Some k ≡ Some m
    by (inl e) = ap Some e
    by (inr later) = absurd (none_in_nil m later)

abbrev blockers_among : ℕ → List Wire → List ℕ
blockers_among k ws = kept (is_blocker ws) (below k)

is_a_blocker : (k : ℕ) (intensive : ℕ → Bool) (ws : List Wire) (m : ℕ) → Contains (blockers_of k intensive ws) m → is_blocker ws m ≡ true
is_a_blocker k intensive ws m c = by (Contains-append_cases (kept (λ n. not (intensive n)) (blockers_among k ws)) (option_to_list (most_ready ws (kept intensive (blockers_among k ws)))) m c)
  where
    among : Contains (blockers_among k ws) m → is_blocker ws m ≡ true
    among d = (was_kept (is_blocker ws) m (below k) d).1

    by : Contains (kept (λ n. not (intensive n)) (blockers_among k ws)) m ⊎ Contains (option_to_list (most_ready ws (kept intensive (blockers_among k ws)))) m → is_blocker ws m ≡ true
    by (inl d) = among (was_kept (λ n. not (intensive n)) m (blockers_among k ws) d).0
    by (inr d) = among (was_kept intensive m (blockers_among k ws) (most_ready_in ws (kept intensive (blockers_among k ws)) m (from_option (most_ready ws (kept intensive (blockers_among k ws))) m d))).0

is_there : (n : ℕ) (ns : List ℕ) → is_one_of n ns ≡ true → Contains ns n
is_there n ns e = let r = some_at (nat_eq n) ns e in subst (Contains ns) (sym (same_number n r.0 r.2)) r.1

one_of : (n : ℕ) (ns : List ℕ) → Contains ns n → is_one_of n ns ≡ true
one_of n ns c = list_any-contains (nat_eq n) n ns c (its_number n n refl)

or_two : (a b : Bool) → (a || b) ≡ true → (a ≡ true) ⊎ (b ≡ true)
or_two true b e = inl refl
or_two false b e = inr e

module _ (k : ℕ) (ws : List Wire) (inside : (p : Wire) → Contains ws p → p.receiver < k) where
  pub record FeedsSome (m : ℕ) (ns : List ℕ) : Type 0 where
    pub wire : Wire
    pub is_wire : Contains ws wire
    pub sender : wire.sender ≡ m
    pub ready : both_ready wire ≡ true
    pub reader : Contains ns wire.receiver

  stays : (t : ℕ) (ns : List ℕ) (r : ℕ) → r < k → Contains ns r → Contains (all_feeders t k ws ns) r
  stays zero ns r h c = c
  stays (suc t) ns r h c =
      stays t (with_feeders k ws ns) r h
      (contains_kept (λ m. is_one_of m ns || list_any (λ (p : Wire). nat_eq p.sender m && (both_ready p && is_one_of p.receiver ns)) ws) r (below k) (contains_below r k h) (or_left (is_one_of r ns) (list_any (λ (p : Wire). nat_eq p.sender r && (both_ready p && is_one_of p.receiver ns)) ws) (one_of r ns c)))

  feeder : (m : ℕ) (ns : List ℕ) → Contains (with_feeders k ws ns) m → Contains ns m ⊎ FeedsSome m ns
  feeder m ns c = by (or_two (is_one_of m ns) (list_any (λ (p : Wire). nat_eq p.sender m && (both_ready p && is_one_of p.receiver ns)) ws) (was_kept (λ m. is_one_of m ns || list_any (λ (p : Wire). nat_eq p.sender m && (both_ready p && is_one_of p.receiver ns)) ws) m (below k) c).1)
    where
      by : (is_one_of m ns ≡ true) ⊎ (list_any (λ (p : Wire). nat_eq p.sender m && (both_ready p && is_one_of p.receiver ns)) ws ≡ true) → Contains ns m ⊎ FeedsSome m ns
      by (inl e) = inl (is_there m ns e)
      by (inr e) =
          let t = some_at (λ (p : Wire). nat_eq p.sender m && (both_ready p && is_one_of p.receiver ns)) ws e in
          let a = both_true (nat_eq t.0.sender m) (both_ready t.0 && is_one_of t.0.receiver ns) t.2 in
          let b = both_true (both_ready t.0) (is_one_of t.0.receiver ns) a.1 in
          inr (record { wire = t.0; is_wire = t.1; sender = same_number t.0.sender m a.0; ready = b.0; reader = is_there t.0.receiver ns b.1 })

  pub member : (t : ℕ) (ns : List ℕ) (m : ℕ) → Contains (all_feeders t k ws ns) m → Contains ns m ⊎ FeedsSome m (all_feeders t k ws ns)
  member zero ns m c = inl c
  member (suc t) ns m c = by (member t (with_feeders k ws ns) m c)
    where
      of : Contains ns m ⊎ FeedsSome m ns → Contains ns m ⊎ FeedsSome m (all_feeders (suc t) k ws ns)
      of (inl d) = inl d
      of (inr u) = inr (record { wire = u.wire; is_wire = u.is_wire; sender = u.sender; ready = u.ready; reader = stays (suc t) ns u.wire.receiver (inside u.wire u.is_wire) u.reader })

      by : Contains (with_feeders k ws ns) m ⊎ FeedsSome m (all_feeders (suc t) k ws ns) → Contains ns m ⊎ FeedsSome m (all_feeders (suc t) k ws ns)
      by (inl d) = of (feeder m ns d)
      by (inr u) = inr u

marked_phase : (ns : List ℕ) (j : ℕ) (nodes : List Node) (m : ℕ) (y : Node) → slice_get (marked_nodes ns j nodes) m ≡ Some y → y.in_phase ≡ is_one_of (j + m) ns
marked_phase ns j [] m y e = absurd (let no : None ≡ Some y = e in cc)
marked_phase ns j (x ∷ xs) zero y e =
    let q : Some (record x { in_phase = is_one_of j ns }) ≡ Some y = e in
    let is : record x { in_phase = is_one_of j ns } ≡ y = cc in
    let z : j ≡ j + 0 = omega arith in
    ap (λ (n : Node). n.in_phase) (sym is) ∙ ap (λ k. is_one_of k ns) z
marked_phase ns j (x ∷ xs) (suc m) y e = let z : j + 1 + m ≡ j + suc m = omega arith in marked_phase ns (j + 1) xs m y e ∙ ap (λ k. is_one_of k ns) z

-- a node as it stood before the marks
record Bare (x y : Node) : Type 0 where
  node : y.node ≡ x.node
  stage : y.progress.stage ≡ x.progress.stage

-- A SETTLED WORLD
module _ (F : Functions) (s : World) (f : Facts F s) (rest : IsSettled s) where
  wire_of : (x : Pipe) → Contains s.pipes x → Contains (wires_of s) x.wire
  wire_of x c = contains_map (λ (y : Pipe). y.wire) x s.pipes c

  -- the place of an output of what is no multiplexer
  record First (x : Pipe) (node : Node) : Type 0 where
    some : 1 ≤ length (given_at s x.wire.sender).outputs
    first : x.wire.port ≡ 0

  first_out : (x : Pipe) (node : Node) → Contains s.pipes x → slice_get s.nodes x.wire.sender ≡ Some node → is_multiplexer node.node.kind ≡ false → First x node
  first_out x node c e m =
      let short = slice_get_within (wires_out x.wire.sender (wires_of s)) x.wire.port x.wire (port_place F s f x.wire (wire_of x c)) in
      let long = map_length (λ (p : Wire). p.receive_state) (wires_out x.wire.sender (wires_of s)) in
      let few = few_outputs node.node.kind (length (given_at s x.wire.sender).outputs) (has_readers F s f x.wire.sender node e) m in
      record { some = omega (arith, short, long); first = omega (arith, short, long, few) }

  -- what the sender says is its answer's, but for what is done
  said : (x : Pipe) (node : Node) → Contains s.pipes x → slice_get s.nodes x.wire.sender ≡ Some node → is_multiplexer node.node.kind ≡ false
      → x.wire.send_state ≡ kept_state x.wire.send_state (kept_state (get_or (given_at s x.wire.sender).outputs 0 x.wire.send_state) (get_or (answer_by s.options node.node.kind node.progress (heads_of s x.wire.sender node) (empty_outs s x.wire.sender) (given_at s x.wire.sender)).outputs 0 x.wire.send_state))
  said x node c e m =
      let n = x.wire.sender in
      let at = first_out x node c e m in
      let enough = (answered s.options node.node.kind node.progress (heads_of s n node) (empty_outs s n) (given_at s n) (has_inputs F s f n node e) (has_readers F s f n node e)).1 in
      sender_says s (in_place F s f) rest x c node e
      ∙ ap (λ k. kept_state x.wire.send_state (get_or (answer_at s n node node.progress).outputs k x.wire.send_state)) at.first
      ∙ ap (kept_state x.wire.send_state) (kept_at (given_at s n).outputs (answer_by s.options node.node.kind node.progress (heads_of s n node) (empty_outs s n) (given_at s n)).outputs 0 x.wire.send_state at.some enough)

  pub settled_takes : (x : Pipe) (node : Node) → Contains s.pipes x → slice_get s.nodes x.wire.sender ≡ Some node → only_takes node.node.kind node.progress.stage ≡ true → is_ready x.wire.send_state ≡ false
  settled_takes x node c e k =
      let n = x.wire.sender in
      ap is_ready (said x node c e (only_single node.node.kind node.progress.stage k))
      ∙ never_ready x.wire.send_state _ (never_ready (get_or (given_at s n).outputs 0 x.wire.send_state) _ (takes_answer s.options node.node.kind node.progress (heads_of s n node) (empty_outs s n) (given_at s n) x.wire.send_state k))

  -- the state that is given of an input
  given_is : (z : Pipe) → Contains s.pipes z → (d : PortState) → get_or (given_at s z.wire.receiver).inputs z.wire.input d ≡ z.wire.send_state
  given_is z c d =
      get_or_from_slice_get (given_at s z.wire.receiver).inputs z.wire.input z.wire.send_state d
      (slice_get-map (λ (p : Wire). p.send_state) (wires_in z.wire.receiver (wires_of s)) z.wire.input ∙ ap (option_map (λ (p : Wire). p.send_state)) (input_place F s f z.wire (wire_of z c)))

  within : (z : Pipe) → Contains s.pipes z → z.wire.input < length (given_at s z.wire.receiver).inputs
  within z c =
      let short = slice_get_within (wires_in z.wire.receiver (wires_of s)) z.wire.input z.wire (input_place F s f z.wire (wire_of z c)) in
      let long = map_length (λ (p : Wire). p.send_state) (wires_in z.wire.receiver (wires_of s)) in
      omega (arith, short, long)

  pub settled_gives : (x z : Pipe) (node : Node) → Contains s.pipes x → Contains s.pipes z → slice_get s.nodes x.wire.sender ≡ Some node → is_multiplexer node.node.kind ≡ false → only_takes node.node.kind node.progress.stage ≡ false → is_blocked x.wire.send_state ≡ true
      → z.wire.receiver ≡ x.wire.sender → both_ready z.wire ≡ false
  settled_gives x z node c cz e m k b r = by (blocked_means s.options node.node.kind node.progress (heads_of s n node) (empty_outs s n) (given_at s n) z.wire.input x.wire.send_state (has_inputs F s f n node at) (has_readers F s f n node at) some m k (within z cz) blocked z.wire.receive_state)
    where
      n : ℕ
      n = z.wire.receiver

      at : slice_get s.nodes n ≡ Some node
      at = ap (slice_get s.nodes) r ∙ e

      some : 1 ≤ length (given_at s n).outputs
      some = subst (λ j. 1 ≤ length (given_at s j).outputs) (sym r) (first_out x node c e m).some

      blocked : is_blocked (get_or (answer_by s.options node.node.kind node.progress (heads_of s n node) (empty_outs s n) (given_at s n)).outputs 0 x.wire.send_state) ≡ true
      blocked =
          ap (λ j. is_blocked (get_or (answer_by s.options node.node.kind node.progress (heads_of s j node) (empty_outs s j) (given_at s j)).outputs 0 x.wire.send_state)) r
          ∙ blocked_kept (get_or (given_at s x.wire.sender).outputs 0 x.wire.send_state) (get_or (answer_by s.options node.node.kind node.progress (heads_of s x.wire.sender node) (empty_outs s x.wire.sender) (given_at s x.wire.sender)).outputs 0 x.wire.send_state)
          (blocked_kept x.wire.send_state (kept_state (get_or (given_at s x.wire.sender).outputs 0 x.wire.send_state) (get_or (answer_by s.options node.node.kind node.progress (heads_of s x.wire.sender node) (empty_outs s x.wire.sender) (given_at s x.wire.sender)).outputs 0 x.wire.send_state)) (ap is_blocked (sym (said x node c e m)) ∙ b))

      first : (a d : Bool) → a ≡ false → (a && d) ≡ false
      first true d q = absurd (let no : true ≡ false = q in cc)
      first false d q = refl

      second : (a d : Bool) → d ≡ false → (a && d) ≡ false
      second true d q = q
      second false d q = refl

      by : (is_ready (get_or (given_at s n).inputs z.wire.input z.wire.receive_state) ≡ false) ⊎ (is_ready (get_or (answer_by s.options node.node.kind node.progress (heads_of s n node) (empty_outs s n) (given_at s n)).inputs z.wire.input z.wire.receive_state) ≡ false) → both_ready z.wire ≡ false
      by (inl q) = first (is_ready z.wire.send_state) (is_ready z.wire.receive_state) (ap is_ready (sym (given_is z cz z.wire.receive_state)) ∙ q)
      by (inr q) =
          let enough = (answered s.options node.node.kind node.progress (heads_of s n node) (empty_outs s n) (given_at s n) (has_inputs F s f n node at) (has_readers F s f n node at)).0 in
          let answer : get_or (answer_at s n node node.progress).inputs z.wire.input z.wire.receive_state
          ≡ kept_state (get_or (given_at s n).inputs z.wire.input z.wire.receive_state) (get_or (answer_by s.options node.node.kind node.progress (heads_of s n node) (empty_outs s n) (given_at s n)).inputs z.wire.input z.wire.receive_state) =
          kept_at (given_at s n).inputs (answer_by s.options node.node.kind node.progress (heads_of s n node) (empty_outs s n) (given_at s n)).inputs z.wire.input z.wire.receive_state (within z cz) enough in
          second (is_ready z.wire.send_state) (is_ready z.wire.receive_state)
          (ap is_ready (reader_says s (in_place F s f) rest z cz node at) ∙ never_ready z.wire.receive_state _ (ap is_ready answer ∙ never_ready (get_or (given_at s n).inputs z.wire.input z.wire.receive_state) _ q))

  -- THE MARKS OF THE NEXT PHASE
  abbrev marked : Pipe → Pipe
  marked p = record p { in_phase = is_in_phase (length s.nodes) (intensive_at s) (wires_of s) p.wire }

  came : (y : Pipe) → Contains (with_phase s).pipes y → (x : Pipe) × Contains s.pipes x × (marked x ≡ y)
  came y c = from_map marked y s.pipes c

  was : (m : ℕ) (y : Node) → slice_get (with_phase s).nodes m ≡ Some y → (x : Node) × (slice_get s.nodes m ≡ Some x) × Bare x y
  was m y e = marked_from Bare (λ x b. record { node = refl; stage = refl }) (nodes_of_phase s) 0 s.nodes m y e

  blocker_or_in : (x : Pipe) → Contains s.pipes x → is_in_phase (length s.nodes) (intensive_at s) (wires_of s) x.wire ≡ false → multiplexes (slice_get s.nodes x.wire.sender) ≡ false → Contains (nodes_of_phase s) x.wire.sender
      → is_blocker (wires_of s) x.wire.sender ≡ true
  blocker_or_in x c off alone there = by (member (length s.nodes) (wires_of s) (wires_inside F s f) (length s.nodes) (blockers_in s) x.wire.sender there)
    where
      by : Contains (blockers_in s) x.wire.sender ⊎ FeedsSome (length s.nodes) (wires_of s) (wires_inside F s f) x.wire.sender (nodes_of_phase s) → is_blocker (wires_of s) x.wire.sender ≡ true
      by (inl d) = is_a_blocker (length s.nodes) (intensive_at s) (wires_of s) x.wire.sender d
      by (inr u) =
          let z = from_map (λ (p : Pipe). p.wire) u.wire s.pipes u.is_wire in
          let from : z.0.wire.sender ≡ x.wire.sender = ap (λ (p : Wire). p.sender) z.2 ∙ u.sender in
          let same : z.0 ≡ x = f.one_output z.0 x z.1 c from (ap (λ k. multiplexes (slice_get s.nodes k)) from ∙ alone) in
          let wire : u.wire ≡ x.wire = sym z.2 ∙ ap (λ (p : Pipe). p.wire) same in
          let on : is_in_phase (length s.nodes) (intensive_at s) (wires_of s) x.wire ≡ true =
          and_true (both_ready x.wire) (is_one_of x.wire.receiver (nodes_of_phase s)) (ap both_ready (sym wire) ∙ u.ready) (ap (λ (p : Wire). is_one_of p.receiver (nodes_of_phase s)) (sym wire) ∙ one_of u.wire.receiver (nodes_of_phase s) u.reader) in
          absurd (let no : true ≡ false = sym on ∙ off in cc)

  pub phase_fits : OutsFit (with_phase s)
  phase_fits =
      record {
        aside = λ p c off work single. aside p off work single (came p c);
        takes = λ p node c at on k.
            let x = came p c in
            let o = was p.wire.sender node at in
            ap (λ (q : Pipe). is_ready q.wire.send_state) (sym x.2)
            ∙ settled_takes x.0 o.0 x.1 (ap (λ (q : Pipe). slice_get s.nodes q.wire.sender) x.2 ∙ o.1) (only_is o.0 node o.2 ∙ k);
        gives = λ p q node c cq at on m k b r.
            let x = came p c in
            let z = came q cq in
            let o = was p.wire.sender node at in
            ap (λ (t : Pipe). both_ready t.wire) (sym z.2)
            ∙ settled_gives x.0 z.0 o.0 x.1 z.1 (ap (λ (q : Pipe). slice_get s.nodes q.wire.sender) x.2 ∙ o.1) (ap (λ (n : Rattle.ps_meaning.specs.Shape.PhysicalNode). is_multiplexer n.kind) (sym o.2.node) ∙ m) (only_is o.0 node o.2 ∙ k) (ap (λ (t : Pipe). is_blocked t.wire.send_state) x.2 ∙ b)
            (ap (λ (t : Pipe). t.wire.receiver) z.2 ∙ r ∙ ap (λ (t : Pipe). t.wire.sender) (sym x.2));
      }
    where
      only_is : (x y : Node) → Bare x y → only_takes x.node.kind x.progress.stage ≡ only_takes y.node.kind y.progress.stage
      only_is x y b = (λ i. only_takes (sym b.node i).kind x.progress.stage) ∙ ap (only_takes y.node.kind) (sym b.stage)

      aside : (p : Pipe) → IsFalse p.in_phase → IsWorking (with_phase s) p.wire.sender → IsFalse (multiplexes (slice_get (with_phase s).nodes p.wire.sender)) → (x : Pipe) × Contains s.pipes x × (marked x ≡ p)
          → IsTrue (is_blocked p.wire.send_state) × ((q : Pipe) × Contains (with_phase s).pipes q × (q.wire.receiver ≡ p.wire.sender) × IsTrue (both_ready q.wire))
      aside p off (y, at, on) single (x, c, e) =
          let o = was p.wire.sender y at in
          let sender : x.wire.sender ≡ p.wire.sender = ap (λ (t : Pipe). t.wire.sender) e in
          let parts = both_true y.in_phase (not y.is_closed) on in
          let in_it : Contains (nodes_of_phase s) x.wire.sender = subst (Contains (nodes_of_phase s)) (sym sender) (is_there p.wire.sender (nodes_of_phase s) (sym (let z : 0 + p.wire.sender ≡ p.wire.sender = omega arith in marked_phase (nodes_of_phase s) 0 s.nodes p.wire.sender y at ∙ ap (λ k. is_one_of k (nodes_of_phase s)) z) ∙ parts.0)) in
          let alone : multiplexes (slice_get s.nodes x.wire.sender) ≡ false = ap (λ k. multiplexes (slice_get s.nodes k)) sender ∙ ap multiplexes o.1 ∙ ap (λ (n : Rattle.ps_meaning.specs.Shape.PhysicalNode). is_multiplexer n.kind) (sym o.2.node) ∙ sym (ap multiplexes at) ∙ single in
          let blocker = both_true (list_all (λ (r : Wire). is_blocked r.send_state) (wires_out x.wire.sender (wires_of s))) (list_any both_ready (wires_in x.wire.sender (wires_of s))) (blocker_or_in x c (ap (λ (t : Pipe). t.in_phase) e ∙ off) alone in_it) in
          let blocked = all_at (λ (r : Wire). is_blocked r.send_state) (wires_out x.wire.sender (wires_of s)) x.wire blocker.0 (among_out F s f x.wire (wire_of x c)) in
          let u = some_at both_ready (wires_in x.wire.sender (wires_of s)) blocker.1 in
          let k = was_kept (λ (q : Wire). nat_eq q.receiver x.wire.sender) u.0 (wires_of s) (ordered (λ (q r : Wire). nat_lt q.input r.input) u.0 (kept (λ (q : Wire). nat_eq q.receiver x.wire.sender) (wires_of s)) u.1) in
          let q = from_map (λ (t : Pipe). t.wire) u.0 s.pipes k.0 in
          (ap (λ (t : Pipe). is_blocked t.wire.send_state) (sym e) ∙ blocked, (marked q.0, contains_map marked q.0 s.pipes q.1, ap (λ (t : Wire). t.receiver) q.2 ∙ same_number u.0.receiver x.wire.sender k.1 ∙ sender, ap both_ready q.2 ∙ u.2))

-- AN OPEN
after_fits : (F : Functions) (s : World) (phase : ℕ) → Facts F s → s.is_open ≡ false → IsSettled s → OutsFit (after_open s phase)
after_fits F s phase f shut rest = by (is_empty (blockers_in s)) refl
  where
    by : (b : Bool) → is_empty (blockers_in s) ≡ b → OutsFit (after_open s phase)
    by true e = outs_shut (after_open s phase) (ap (λ b. (cond b (record s { ending = finished }) (with_phase s)).is_open) e ∙ shut)
    by false e =
        bare_outs (with_phase s) (after_open s phase) (ap (λ b. (cond b (record s { ending = finished }) (with_phase s)).nodes) e) (ap (λ b. (cond b (record s { ending = finished }) (with_phase s)).pipes) e)
        (ap (λ b. (cond b (record s { ending = finished }) (with_phase s)).is_open) e) (phase_fits F s f rest)

pub opens_fit : (F : Functions) (s v : World) (phase : ℕ) → Facts F s → s.is_open ≡ false → Opens F s phase v → OutsFit v
opens_fit F s v phase f shut (settles rest e) = subst OutsFit (sym e) (after_fits F s phase f shut rest)
opens_fit F s v phase f shut (breaks n c b e) = subst OutsFit (sym e) (outs_shut (after_fault s phase c) shut)
