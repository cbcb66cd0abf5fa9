-- Each step but a claim keeps the numbers, and each step of an open phase what the outputs say.
use Rattle.std.proofs.Common.{◌≡◌, ℕ, zero, suc, Bool, true, false, cond, List, [], ◌∷◌, length, Option, Some, None, refl, sym, ap, subst, ◌∙◌, inl, inr, map-id}
use Rattle.std.specs.Prelude.{get_or, map, nat_eq, slice_get, slice_set, ◌&&◌}
use Rattle.ps_frame.specs.Causes.{is_empty}
use Rattle.ps_frame.specs.Functions.{Functions}
use Rattle.ps_frame.specs.Tables.{Fields, Row}
use Rattle.ps_meaning.specs.Shape.{PhysicalKind, PhysicalNode, group_by_node, in_memory_join, in_memory_map, in_memory_sink, multiplexer, negative_slice, zip_node}
use Rattle.ps_options.specs.declared.options.Options.{Options}
use Rattle.ps_ports.specs.Phases.{is_in_phase}
use Rattle.ps_ports.specs.Ports.{Sides, is_done, kept_state}
use Rattle.ps_ports.specs.Wires.{Wire}
use Rattle.ps_ports.specs.declared.port_state.PortState.{PortState}
use Rattle.ps_ports.specs.declared.port_state.PortState.TheVariants as port
use Rattle.ps_turns.specs.Claims.{filled_slot}
use Rattle.ps_turns.specs.Progress.{Progress, is_multiplexer}
use Rattle.ps_turns.specs.Pulls.{after_store, pulls}
use Rattle.ps_turns.specs.Tasks.{Answer, Piece, bad, good, partial}
use Rattle.ps_turns.specs.Updates.{Makes, Turns}
use Rattle.ps_world.specs.Answers.{answered, with_partial}
use Rattle.ps_world.specs.Closing.{after_close, after_end}
use Rattle.ps_world.specs.Facts.{joins_of}
use Rattle.ps_world.specs.Phases.{after_fault, after_open, blockers_in, intensive_at, nodes_of_phase, with_phase}
use Rattle.ps_world.specs.Pipes.{change_pipes, drop_at, drop_if, drops_from, dropped_pipe, is_input, put_progress, taken, with_answer, with_morsel, with_progress, without_heads}
use Rattle.ps_world.specs.Pulls.{after_pull, is_open_port}
use Rattle.ps_world.specs.Step.{Opens, breaks, settles}
use Rattle.ps_world.specs.Updates.{Updates, answer_at, given_at, no_update, one_fill, one_update, received, sent, updated, written}
use Rattle.ps_world.specs.World.{Node, Pipe, World, counts_for_sender, finished, is_cut_off, schemas_for, wires_of}
use Rattle.world_laws.proofs.PassingPorts.{same_number}
use Rattle.world_claims.proofs.Beside.{heads_from, map_from, marked_from, set_from}
use Rattle.world_claims.proofs.Counting.{Counts, by_number, numbered_at, numbers_keep, same_counts}
use Rattle.world_claims.proofs.Outs.{Marks, outs_keep, outs_shut, same_marks}
use Rattle.world_claims.specs.Numbering.{IsNumbered, OutsFit}

pub map_map : {A B C : Type 0} (f : A → B) (g : B → C) (xs : List A) → map g (map f xs) ≡ map (λ x. g (f x)) xs
map_map f g [] = refl
map_map f g (x ∷ xs) = ap (λ ys. g (f x) ∷ ys) (map_map f g xs)

-- A NODE THAT KEEPS ITS COUNTS
of_progress : (node : Node) (b : Progress) → b.sent ≡ node.progress.sent → b.taken ≡ node.progress.taken → Counts node (record node { progress = b })
of_progress node b s t = record { node = refl; sent = s; taken = λ i. ap (λ xs. length (get_or xs i [])) t; lists = ap length t }

makes_taken : (F : Functions) (o : Options) (p : PhysicalNode) (kind : PhysicalKind) (ss : List Fields) (a c : Progress) → Makes F o p kind ss a c → c.taken ≡ a.taken
makes_taken F o p (in_memory_map step) ss a c (inl m) = ap (λ (x : Progress). x.taken) m.1
makes_taken F o p (in_memory_map step) ss a c (inr m) = ap (λ (x : Progress). x.taken) m.3
makes_taken F o p (in_memory_join j) ss a c m = ap (λ (x : Progress). x.taken) m.2
makes_taken F o p (group_by_node keys aggregates) ss a c m = ap (λ (x : Progress). x.taken) m.2
makes_taken F o p (negative_slice back n) ss a c m = ap (λ (x : Progress). x.taken) m
makes_taken F o p kind ss a c m = ap (λ (x : Progress). x.taken) m

makes_sent : (F : Functions) (o : Options) (p : PhysicalNode) (kind : PhysicalKind) (ss : List Fields) (a c : Progress) → Makes F o p kind ss a c → c.sent ≡ a.sent
makes_sent F o p (in_memory_map step) ss a c (inl m) = ap (λ (x : Progress). x.sent) m.1
makes_sent F o p (in_memory_map step) ss a c (inr m) = ap (λ (x : Progress). x.sent) m.3
makes_sent F o p (in_memory_join j) ss a c m = ap (λ (x : Progress). x.sent) m.2
makes_sent F o p (group_by_node keys aggregates) ss a c m = ap (λ (x : Progress). x.sent) m.2
makes_sent F o p (negative_slice back n) ss a c m = ap (λ (x : Progress). x.sent) m
makes_sent F o p kind ss a c m = ap (λ (x : Progress). x.sent) m

turn_counts : (F : Functions) (o : Options) (node : Node) (ss : List Fields) (given : Sides) (b : Progress) → Turns F o node.node ss given node.progress b → Counts node (record node { progress = b })
turn_counts F o node ss given b (inl t) = of_progress node b (ap (λ (x : Progress). x.sent) t.1) (ap (λ (x : Progress). x.taken) t.1)
turn_counts F o node ss given b (inr t) =
    of_progress node b (ap (λ (x : Progress). x.sent) t.3 ∙ makes_sent F o node.node node.node.kind ss node.progress t.1 t.2) (ap (λ (x : Progress). x.taken) t.3 ∙ makes_taken F o node.node node.node.kind ss node.progress t.1 t.2)

-- UPDATES
abbrev written_pipe : ℕ → Sides → Pipe → Pipe
written_pipe n a p =
    let q = cond (nat_eq p.wire.receiver n) (received (get_or a.inputs p.wire.input p.wire.receive_state) p) p in
    cond (nat_eq q.wire.sender n) (sent (get_or a.outputs q.wire.port q.wire.send_state) q) q

record Writes (x y : Pipe) : Type 0 where
  joins : joins_of y ≡ joins_of x
  got : length y.got ≡ length x.got
  next : y.next ≡ x.next
  is_dropped : y.is_dropped ≡ x.is_dropped
  done : is_done x.wire.send_state ≡ true → is_done y.wire.send_state ≡ true

still_done : (old s : PortState) → is_done old ≡ true → is_done (kept_state old s) ≡ true
still_done port.Done s e = refl
still_done port.Ready s e = absurd (let no : false ≡ true = e in cc)
still_done port.Blocked s e = absurd (let no : false ≡ true = e in cc)

sends : (y : Pipe) (s : PortState) (b : Bool) → Writes y (cond b (sent s y) y)
sends y s true = record { joins = refl; got = refl; next = refl; is_dropped = refl; done = still_done y.wire.send_state s }
sends y s false = record { joins = refl; got = refl; next = refl; is_dropped = refl; done = λ e. e }

receives : (y : Pipe) (s : PortState) (b : Bool) → Writes y (cond b (received s y) y)
receives y s true = record { joins = refl; got = refl; next = refl; is_dropped = refl; done = λ e. e }
receives y s false = record { joins = refl; got = refl; next = refl; is_dropped = refl; done = λ e. e }

writes : (n : ℕ) (a : Sides) (x : Pipe) → Writes x (written_pipe n a x)
writes n a x =
    let s = get_or a.inputs x.wire.input x.wire.receive_state in
    let y = cond (nat_eq x.wire.receiver n) (received s x) x in
    let i = receives x s (nat_eq x.wire.receiver n) in
    let o = sends y (get_or a.outputs y.wire.port y.wire.send_state) (nat_eq y.wire.sender n) in
    record { joins = o.joins ∙ i.joins; got = o.got ∙ i.got; next = o.next ∙ i.next; is_dropped = o.is_dropped ∙ i.is_dropped; done = λ e. o.done (i.done e) }

put_is : (w : World) (n : ℕ) (node : Node) (progress : Progress) → slice_get w.nodes n ≡ Some node → with_progress n progress w ≡ record w { nodes = slice_set w.nodes n (record node { progress = progress }) }
put_is w n node progress at = λ i. put_progress (at i) n progress w

-- a world in which one node has other progress, and pipes are written
numbers_written : (w : World) (n : ℕ) (node : Node) (progress : Progress) (g : Pipe → Pipe) → slice_get w.nodes n ≡ Some node → Counts node (record node { progress = progress }) → ((x : Pipe) → Writes x (g x)) → IsNumbered w
    → IsNumbered (record w { nodes = slice_set w.nodes n (record node { progress = progress }); pipes = map g w.pipes })
numbers_written w n node progress g at c r h =
    numbers_keep w (record w { nodes = slice_set w.nodes n (record node { progress = progress }); pipes = map g w.pipes }) g refl (λ x. (r x).joins) (λ x d. sym (r x).is_dropped ∙ d) (λ x t d. (r x).done d)
    (set_from Counts same_counts w.nodes n node (record node { progress = progress }) at c) (λ p. (r p).got) (λ q. (r q).next) h

turned_numbers : (F : Functions) (w : World) (n : ℕ) (node : Node) (progress : Progress) (a : Sides) → slice_get w.nodes n ≡ Some node → Counts node (record node { progress = progress }) → IsNumbered w → IsNumbered (written n a (with_progress n progress w))
turned_numbers F w n node progress a at c h = subst IsNumbered (sym is) (numbers_written w n node progress (written_pipe n a) at c (writes n a) h)
  where
    is : written n a (with_progress n progress w) ≡ record w { nodes = slice_set w.nodes n (record node { progress = progress }); pipes = map (written_pipe n a) w.pipes }
    is =
        ap (written n a) (put_is w n node progress at)
        ∙ (λ i. record w { nodes = slice_set w.nodes n (record node { progress = progress }); pipes = map_map (λ (p : Pipe). cond (nat_eq p.wire.receiver n) (received (get_or a.inputs p.wire.input p.wire.receive_state) p) p) (λ (p : Pipe). cond (nat_eq p.wire.sender n) (sent (get_or a.outputs p.wire.port p.wire.send_state) p) p) w.pipes i })

put_numbers : (w : World) (n : ℕ) (node : Node) (progress : Progress) → slice_get w.nodes n ≡ Some node → Counts node (record node { progress = progress }) → IsNumbered w → IsNumbered (with_progress n progress w)
put_numbers w n node progress at c h = subst IsNumbered (sym is) (numbers_written w n node progress (λ p. p) at c (λ x. record { joins = refl; got = refl; next = refl; is_dropped = refl; done = λ e. e }) h)
  where
    is : with_progress n progress w ≡ record w { nodes = slice_set w.nodes n (record node { progress = progress }); pipes = map (λ p. p) w.pipes }
    is = put_is w n node progress at ∙ (λ i. record w { nodes = slice_set w.nodes n (record node { progress = progress }); pipes = sym (map-id w.pipes) i })

pub updates_number : (F : Functions) (w s : World) → Updates F w s → IsNumbered w → IsNumbered s
updates_number F w s no_update h = h
updates_number F w s (one_update n node progress t u) h =
    updates_number F (updated w n node progress) s u (turned_numbers F w n node progress (answer_at w n node progress) t.0 (turn_counts F w.options node (schemas_for w node) (given_at w n) progress t.2) h)
updates_number F w s (one_fill n node progress t u) h =
    updates_number F (with_progress n progress w) s u (put_numbers w n node progress t.0 (of_progress node progress (ap (λ (p : Progress). p.sent) t.1.3) (ap (λ (p : Progress). p.taken) t.1.3)) h)

-- OPENS
phase_numbers : (s : World) → IsNumbered s → IsNumbered (with_phase s)
phase_numbers s h =
    numbers_keep s (with_phase s) (λ (p : Pipe). record p { in_phase = is_in_phase (length s.nodes) (intensive_at s) (wires_of s) p.wire }) refl (λ x. refl) (λ x d. d) (λ x c d. d)
    (marked_from Counts (λ x b. record { node = refl; sent = refl; taken = λ i. refl; lists = refl }) (nodes_of_phase s) 0 s.nodes) (λ p. refl) (λ q. refl) h

bare_numbers : (s v : World) → v.nodes ≡ s.nodes → v.pipes ≡ s.pipes → IsNumbered s → IsNumbered v
bare_numbers s v nodes pipes h =
    numbers_keep s v (λ p. p) (pipes ∙ sym (map-id s.pipes)) (λ x. refl) (λ x d. d) (λ x c d. d) (λ m y e. (y, ap (λ xs. slice_get xs m) (sym nodes) ∙ e, same_counts y)) (λ p. refl) (λ q. refl) h

after_numbers : (s : World) (phase : ℕ) → IsNumbered s → IsNumbered (after_open s phase)
after_numbers s phase h = by (is_empty (blockers_in s)) refl
  where
    by : (b : Bool) → is_empty (blockers_in s) ≡ b → IsNumbered (after_open s phase)
    by true e = bare_numbers s (after_open s phase) (ap (λ b. (cond b (record s { ending = finished }) (with_phase s)).nodes) e) (ap (λ b. (cond b (record s { ending = finished }) (with_phase s)).pipes) e) h
    by false e = bare_numbers (with_phase s) (after_open s phase) (ap (λ b. (cond b (record s { ending = finished }) (with_phase s)).nodes) e) (ap (λ b. (cond b (record s { ending = finished }) (with_phase s)).pipes) e) (phase_numbers s h)

pub opens_number : (F : Functions) (s v : World) (phase : ℕ) → Opens F s phase v → IsNumbered s → IsNumbered v
opens_number F s v phase (settles rest e) h = subst IsNumbered (sym e) (after_numbers s phase h)
opens_number F s v phase (breaks n c b e) h = subst IsNumbered (sym e) (bare_numbers s (after_fault s phase c) refl refl h)

-- DROPS
lost_counts : (x : Node) → Counts x (without_heads x.node.kind x)
lost_counts x = by x.node.kind
  where
    by : (k : PhysicalKind) → Counts x (without_heads k x)
    by (zip_node extend) = record { node = refl; sent = refl; taken = λ i. refl; lists = refl }
    by k = same_counts x

lost_marks : (x : Node) → Marks x (without_heads x.node.kind x)
lost_marks x = by x.node.kind
  where
    by : (k : PhysicalKind) → Marks x (without_heads k x)
    by (zip_node extend) = record { node = refl; stage = refl; at_work = λ e. e }
    by k = same_marks x

drop_numbers : (b : Bool) (n : ℕ) (w : World) → IsNumbered w → IsNumbered (drop_if b n w)
drop_numbers false n w h = h
drop_numbers true n w h =
    numbers_keep w (drop_if true n w) (λ p. cond (nat_eq p.wire.receiver n && p.in_phase) (dropped_pipe p) p) refl (λ x. joins x (nat_eq x.wire.receiver n && x.in_phase)) (λ x d. lost x (nat_eq x.wire.receiver n && x.in_phase) d) (λ x c d. done x (nat_eq x.wire.receiver n && x.in_phase) d)
    (heads_from Counts same_counts lost_counts n w.nodes) (λ p. got p (nat_eq p.wire.receiver n && p.in_phase)) (λ p. next p (nat_eq p.wire.receiver n && p.in_phase)) h
  where
    joins : (x : Pipe) (b : Bool) → joins_of (cond b (dropped_pipe x) x) ≡ joins_of x
    joins x true = refl
    joins x false = refl

    lost : (x : Pipe) (b : Bool) → (cond b (dropped_pipe x) x).is_dropped ≡ false → x.is_dropped ≡ false
    lost x true d = absurd (let no : true ≡ false = d in cc)
    lost x false d = d

    done : (x : Pipe) (b : Bool) → is_done x.wire.send_state ≡ true → is_done (cond b (dropped_pipe x) x).wire.send_state ≡ true
    done x true d = d
    done x false d = d

    got : (x : Pipe) (b : Bool) → length (cond b (dropped_pipe x) x).got ≡ length x.got
    got x true = refl
    got x false = refl

    next : (x : Pipe) (b : Bool) → (cond b (dropped_pipe x) x).next ≡ x.next
    next x true = refl
    next x false = refl

pub drops_number : (n : ℕ) (w : World) → IsNumbered w → IsNumbered (drops_from w n)
drops_number zero w h = h
drops_number (suc n) w h = drops_number n (drop_at w n) (drop_numbers (is_cut_off w n) n w h)

drop_outs : (b : Bool) (n : ℕ) (w : World) → OutsFit w → OutsFit (drop_if b n w)
drop_outs false n w h = h
drop_outs true n w h =
    outs_keep w (drop_if true n w) (λ p. cond (nat_eq p.wire.receiver n && p.in_phase) (dropped_pipe p) p) refl (λ x. wire x (nat_eq x.wire.receiver n && x.in_phase)) (λ x. phase x (nat_eq x.wire.receiver n && x.in_phase)) (λ e. e)
    (heads_from Marks same_marks lost_marks n w.nodes) h
  where
    wire : (x : Pipe) (b : Bool) → (cond b (dropped_pipe x) x).wire ≡ x.wire
    wire x true = refl
    wire x false = refl

    phase : (x : Pipe) (b : Bool) → (cond b (dropped_pipe x) x).in_phase ≡ x.in_phase
    phase x true = refl
    phase x false = refl

pub drops_fit : (n : ℕ) (w : World) → OutsFit w → OutsFit (drops_from w n)
drops_fit zero w h = h
drops_fit (suc n) w h = drops_fit n (drop_at w n) (drop_outs (is_cut_off w n) n w h)

-- HAND-INS
set_length : {A : Type 0} (xs : List A) (k : ℕ) (x : A) → length (slice_set xs k x) ≡ length xs
set_length [] k x = refl
set_length (y ∷ ys) zero x = refl
set_length (y ∷ ys) (suc k) x = ap suc (set_length ys k x)

slot_length : (xs : List (List (Option (List Row)))) (i j k : ℕ) (rs : List Row) → length (get_or (slice_set xs i (slice_set (get_or xs i []) k (Some rs))) j []) ≡ length (get_or xs j [])
slot_length [] i j k rs = refl
slot_length (x ∷ xs) zero zero k rs = set_length x k (Some rs)
slot_length (x ∷ xs) zero (suc j) k rs = refl
slot_length (x ∷ xs) (suc i) zero k rs = refl
slot_length (x ∷ xs) (suc i) (suc j) k rs = slot_length xs i j k rs

filled_counts : (node : Node) (i k : ℕ) (rs : List Row) → Counts node (record node { progress = record node.progress { taken = filled_slot i k rs node.progress.taken } })
filled_counts node i k rs = record { node = refl; sent = refl; taken = λ j. slot_length node.progress.taken i j k rs; lists = set_length node.progress.taken i (slice_set (get_or node.progress.taken i []) k (Some rs)) }

answer_pipe : (k : ℕ) (rs : List Row) (x : Pipe) → (joins_of (with_answer k rs x) ≡ joins_of x) × (length (with_answer k rs x).got ≡ length x.got) × ((with_answer k rs x).next ≡ x.next) × ((with_answer k rs x).is_dropped ≡ x.is_dropped) × ((with_answer k rs x).wire ≡ x.wire) × ((with_answer k rs x).in_phase ≡ x.in_phase)
answer_pipe k rs x = by x.is_dropped refl
  where
    by : (b : Bool) → x.is_dropped ≡ b → (joins_of (with_answer k rs x) ≡ joins_of x) × (length (with_answer k rs x).got ≡ length x.got) × ((with_answer k rs x).next ≡ x.next) × ((with_answer k rs x).is_dropped ≡ x.is_dropped) × ((with_answer k rs x).wire ≡ x.wire) × ((with_answer k rs x).in_phase ≡ x.in_phase)
    by true e = rw e (refl, refl, refl, refl, refl, refl)
    by false e = rw e (refl, set_length x.got k (Some rs), refl, refl, refl, refl)

if_answer : (b : Bool) (k : ℕ) (rs : List Row) (x : Pipe) → (joins_of (cond b (with_answer k rs x) x) ≡ joins_of x) × (length (cond b (with_answer k rs x) x).got ≡ length x.got) × ((cond b (with_answer k rs x) x).next ≡ x.next) × ((cond b (with_answer k rs x) x).is_dropped ≡ x.is_dropped) × ((cond b (with_answer k rs x) x).wire ≡ x.wire) × ((cond b (with_answer k rs x) x).in_phase ≡ x.in_phase)
if_answer true k rs x = answer_pipe k rs x
if_answer false k rs x = (refl, refl, refl, refl, refl, refl)

partial_numbers : (q : Piece) (w : World) → IsNumbered w → IsNumbered (with_partial q (slice_get w.nodes q.node) w)
partial_numbers q w h = by (slice_get w.nodes q.node) refl
  where
    by : (o : Option Node) → slice_get w.nodes q.node ≡ o → IsNumbered (with_partial q o w)
    by None e = h
    by (Some node) e = put_numbers w q.node node (record node.progress { taken = filled_slot q.input q.number (get_or q.tables 0 []) node.progress.taken }) e (filled_counts node q.input q.number (get_or q.tables 0 [])) h

pub answers_number : (w : World) (q : Piece) (a : Answer) → IsNumbered w → IsNumbered (answered w q a)
answers_number w q (good rs) h =
    let t : Pipe → Bool = λ p. nat_eq p.wire.sender q.node && counts_for_sender w p in
    numbers_keep w (answered w q (good rs)) (λ p. cond (t p) (with_answer q.gives rs p) p) refl (λ x. (if_answer (t x) q.gives rs x).0) (λ x d. sym (if_answer (t x) q.gives rs x).3 ∙ d)
    (λ x c d. ap (λ (u : Wire). is_done u.send_state) (if_answer (t x) q.gives rs x).4 ∙ d) (λ m y e. (y, e, same_counts y)) (λ p. (if_answer (t p) q.gives rs p).1) (λ p. (if_answer (t p) q.gives rs p).2) h
answers_number w q (partial n) h = bare_numbers (with_partial q (slice_get w.nodes q.node) w) (answered w q (partial n)) refl refl (partial_numbers q w h)
answers_number w q (bad c) h = bare_numbers w (answered w q (bad c)) refl refl h

pub bare_outs : (s v : World) → v.nodes ≡ s.nodes → v.pipes ≡ s.pipes → v.is_open ≡ s.is_open → OutsFit s → OutsFit v
bare_outs s v nodes pipes shut h = outs_keep s v (λ p. p) (pipes ∙ sym (map-id s.pipes)) (λ x. refl) (λ x. refl) (λ e. sym shut ∙ e) (λ m y e. (y, ap (λ xs. slice_get xs m) (sym nodes) ∙ e, same_marks y)) h

put_outs : (w : World) (n : ℕ) (node : Node) (progress : Progress) → slice_get w.nodes n ≡ Some node → progress.stage ≡ node.progress.stage → OutsFit w → OutsFit (with_progress n progress w)
put_outs w n node progress at stage h = subst OutsFit (sym (put_is w n node progress at)) (outs_keep w (record w { nodes = slice_set w.nodes n (record node { progress = progress }) }) (λ p. p) (sym (map-id w.pipes)) (λ x. refl) (λ x. refl) (λ e. e) (set_from Marks same_marks w.nodes n node (record node { progress = progress }) at (record { node = refl; stage = stage; at_work = λ e. e })) h)

partial_outs : (q : Piece) (w : World) → OutsFit w → OutsFit (with_partial q (slice_get w.nodes q.node) w)
partial_outs q w h = by (slice_get w.nodes q.node) refl
  where
    by : (o : Option Node) → slice_get w.nodes q.node ≡ o → OutsFit (with_partial q o w)
    by None e = h
    by (Some node) e = put_outs w q.node node (record node.progress { taken = filled_slot q.input q.number (get_or q.tables 0 []) node.progress.taken }) e refl h

pub answers_fit : (w : World) (q : Piece) (a : Answer) → OutsFit w → OutsFit (answered w q a)
answers_fit w q (good rs) h =
    let t : Pipe → Bool = λ p. nat_eq p.wire.sender q.node && counts_for_sender w p in
    outs_keep w (answered w q (good rs)) (λ p. cond (t p) (with_answer q.gives rs p) p) refl (λ x. (if_answer (t x) q.gives rs x).4) (λ x. (if_answer (t x) q.gives rs x).5) (λ e. e) (λ m y e. (y, e, same_marks y)) h
answers_fit w q (partial n) h = bare_outs (with_partial q (slice_get w.nodes q.node) w) (answered w q (partial n)) refl refl refl (partial_outs q w h)
answers_fit w q (bad c) h = bare_outs w (answered w q (bad c)) refl refl refl h

-- CLOSES AND ENDS
close_pipe : (b : Bool) (x : Pipe) → (joins_of (cond b (record x { is_closed = true }) x) ≡ joins_of x) × (length (cond b (record x { is_closed = true }) x).got ≡ length x.got) × ((cond b (record x { is_closed = true }) x).next ≡ x.next) × ((cond b (record x { is_closed = true }) x).is_dropped ≡ x.is_dropped) × ((cond b (record x { is_closed = true }) x).wire ≡ x.wire) × ((cond b (record x { is_closed = true }) x).in_phase ≡ x.in_phase)
close_pipe true x = (refl, refl, refl, refl, refl, refl)
close_pipe false x = (refl, refl, refl, refl, refl, refl)

never_both : (b : Bool) → (b && false) ≡ true → ⊥
never_both true e = let no : false ≡ true = e in cc
never_both false e = let no : false ≡ true = e in cc

pub closes_number : (w : World) (n : ℕ) (node : Node) → slice_get w.nodes n ≡ Some node → IsNumbered w → IsNumbered (after_close w n node)
closes_number w n node at h =
    let t : Pipe → Bool = λ p. nat_eq p.wire.sender n && p.in_phase in
    numbers_keep w (after_close w n node) (λ p. cond (t p) (record p { is_closed = true }) p) refl (λ x. (close_pipe (t x) x).0) (λ x d. sym (close_pipe (t x) x).3 ∙ d) (λ x c d. ap (λ (u : Wire). is_done u.send_state) (close_pipe (t x) x).4 ∙ d)
    (set_from Counts same_counts w.nodes n node (record node { is_closed = true }) at (record { node = refl; sent = refl; taken = λ i. refl; lists = refl })) (λ p. (close_pipe (t p) p).1) (λ p. (close_pipe (t p) p).2) h

pub closes_fit : (w : World) (n : ℕ) (node : Node) → slice_get w.nodes n ≡ Some node → OutsFit w → OutsFit (after_close w n node)
closes_fit w n node at h =
    let t : Pipe → Bool = λ p. nat_eq p.wire.sender n && p.in_phase in
    outs_keep w (after_close w n node) (λ p. cond (t p) (record p { is_closed = true }) p) refl (λ x. (close_pipe (t x) x).4) (λ x. (close_pipe (t x) x).5) (λ e. e)
    (set_from Marks same_marks w.nodes n node (record node { is_closed = true }) at (record { node = refl; stage = refl; at_work = λ e. absurd (never_both node.in_phase e) })) h

pub ends_number : (w : World) → IsNumbered w → IsNumbered (after_end w)
ends_number w h =
    numbers_keep w (after_end w) (λ (p : Pipe). record p { in_phase = false; is_closed = false }) refl (λ x. refl) (λ x d. d) (λ x c d. d)
    (map_from Counts (λ (n : Node). record n { in_phase = false; is_closed = false }) (λ x. record { node = refl; sent = refl; taken = λ i. refl; lists = refl }) w.nodes) (λ p. refl) (λ q. refl) h

pub ends_fit : (w : World) → OutsFit (after_end w)
ends_fit w = outs_shut (after_end w) refl

-- PULLS
stored_counts : (kind : PhysicalKind) (i : ℕ) (m : List Row) (a : Progress) → ((after_store kind i m a).sent ≡ a.sent) × ((after_store kind i m a).taken ≡ a.taken) × ((after_store kind i m a).stage ≡ a.stage)
stored_counts (negative_slice back n) i m a = (refl, refl, refl)
stored_counts kind i m a = (refl, refl, refl)

if_stored : (b : Bool) (kind : PhysicalKind) (i : ℕ) (m : List Row) (a : Progress) → ((cond b a (after_store kind i m a)).sent ≡ a.sent) × ((cond b a (after_store kind i m a)).taken ≡ a.taken) × ((cond b a (after_store kind i m a)).stage ≡ a.stage)
if_stored true kind i m a = (refl, refl, refl)
if_stored false kind i m a = stored_counts kind i m a

not_by_number : (kind : PhysicalKind) → pulls kind ≡ true → by_number kind ≡ true → ⊥
not_by_number (in_memory_map step) p b = let no : false ≡ true = b in cc
not_by_number (in_memory_join j) p b = let no : false ≡ true = b in cc
not_by_number (negative_slice back n) p b = let no : false ≡ true = b in cc
not_by_number (zip_node extend) p b = let no : false ≡ true = b in cc
not_by_number in_memory_sink p b = let no : false ≡ true = b in cc
not_by_number multiplexer p b = let no : false ≡ true = b in cc
not_by_number kind p b = let no : false ≡ true = p in cc

both_parts : (a b : Bool) → (a && b) ≡ true → (a ≡ true) × (b ≡ true)
both_parts true b e = (refl, e)
both_parts false b e = absurd (let no : false ≡ true = e in cc)

module _ (w : World) (n i : ℕ) (node : Node) (p : Pipe) (rs : List Row) (at : slice_get w.nodes n ≡ Some node) (pulling : pulls node.node.kind ≡ true) where
  abbrev take : Pipe → Pipe
  take x = cond (is_input n i x) (taken x) x

  abbrev place : Bool → Pipe → Pipe
  place b x = cond b (cond (is_open_port n (take x)) (with_morsel rs (take x)) (take x)) (take x)

  abbrev after : Bool → World
  after b =
      record w {
        nodes = slice_set w.nodes n (record node { progress = cond b node.progress (after_store node.node.kind i rs node.progress) });
        pipes = cond b (change_pipes (is_open_port n) (with_morsel rs) (change_pipes (is_input n i) taken w.pipes)) (change_pipes (is_input n i) taken w.pipes);
      }

  pipes_are : (b : Bool) → (after b).pipes ≡ map (place b) w.pipes
  pipes_are true = map_map take (λ y. cond (is_open_port n y) (with_morsel rs y) y) w.pipes
  pipes_are false = refl

  take_is : (x : Pipe) (b : Bool) → (joins_of (cond b (taken x) x) ≡ joins_of x) × (length (cond b (taken x) x).got ≡ length x.got) × ((cond b (taken x) x).is_dropped ≡ x.is_dropped) × ((cond b (taken x) x).wire ≡ x.wire) × ((cond b (taken x) x).in_phase ≡ x.in_phase)
  take_is x true = (refl, refl, refl, refl, refl)
  take_is x false = (refl, refl, refl, refl, refl)

  morsel_is : (y : Pipe) → (joins_of (with_morsel rs y) ≡ joins_of y) × ((with_morsel rs y).next ≡ y.next) × ((with_morsel rs y).is_dropped ≡ y.is_dropped) × ((with_morsel rs y).wire ≡ y.wire) × ((with_morsel rs y).in_phase ≡ y.in_phase)
  morsel_is y = by y.is_dropped refl
    where
      by : (b : Bool) → y.is_dropped ≡ b → (joins_of (with_morsel rs y) ≡ joins_of y) × ((with_morsel rs y).next ≡ y.next) × ((with_morsel rs y).is_dropped ≡ y.is_dropped) × ((with_morsel rs y).wire ≡ y.wire) × ((with_morsel rs y).in_phase ≡ y.in_phase)
      by true e = rw e (refl, refl, refl, refl, refl)
      by false e = rw e (refl, refl, refl, refl, refl)

  if_morsel : (y : Pipe) (b : Bool) → (joins_of (cond b (with_morsel rs y) y) ≡ joins_of y) × ((cond b (with_morsel rs y) y).next ≡ y.next) × ((cond b (with_morsel rs y) y).is_dropped ≡ y.is_dropped) × ((cond b (with_morsel rs y) y).wire ≡ y.wire) × ((cond b (with_morsel rs y) y).in_phase ≡ y.in_phase)
  if_morsel y true = morsel_is y
  if_morsel y false = (refl, refl, refl, refl, refl)

  place_is : (b : Bool) (x : Pipe) → (joins_of (place b x) ≡ joins_of x) × ((place b x).next ≡ (take x).next) × ((place b x).is_dropped ≡ x.is_dropped) × ((place b x).wire ≡ x.wire) × ((place b x).in_phase ≡ x.in_phase)
  place_is true x =
      let t = take_is x (is_input n i x) in
      let m = if_morsel (take x) (is_open_port n (take x)) in
      (m.0 ∙ t.0, m.1, m.2 ∙ t.2, m.3 ∙ t.3, m.4 ∙ t.4)
  place_is false x = let t = take_is x (is_input n i x) in (t.0, refl, t.2, t.3, t.4)

  same_node : (m : ℕ) (x : Node) → slice_get w.nodes m ≡ Some x → m ≡ n → node ≡ x
  same_node m x e here = let q : Some node ≡ Some x = sym at ∙ ap (slice_get w.nodes) (sym here) ∙ e in cc

  equal : (a b : ℕ) → nat_eq a b ≡ true → a ≡ b
  equal a b e = same_number a b e

  -- what takes by numbers doesn't pull
  next_is : (b : Bool) (m : ℕ) (x : Node) → slice_get w.nodes m ≡ Some x → (q : Pipe) → q.wire.receiver ≡ m → by_number x.node.kind ≡ true → (place b q).next ≡ q.next
  next_is b m x e q r k = (place_is b q).1 ∙ by (is_input n i q) refl
    where
      by : (t : Bool) → is_input n i q ≡ t → (cond t (taken q) q).next ≡ q.next
      by false z = refl
      by true z =
          let parts = both_parts (nat_eq q.wire.receiver n) (nat_eq q.wire.input i) z in
          let is = same_node m x e (sym r ∙ equal q.wire.receiver n parts.0) in
          absurd (not_by_number x.node.kind (ap (λ (y : Node). pulls y.node.kind) (sym is) ∙ pulling) k)

  -- what isn't a multiplexer gets no morsel by a pull
  long_is : (b : Bool) → is_multiplexer node.node.kind ≡ b → (m : ℕ) (x : Node) → slice_get w.nodes m ≡ Some x → (q : Pipe) → q.wire.sender ≡ m → is_multiplexer x.node.kind ≡ false → length (place b q).got ≡ length q.got
  long_is false is m x e q s k = (take_is q (is_input n i q)).1
  long_is true is m x e q s k = by (is_open_port n (take q)) refl ∙ (take_is q (is_input n i q)).1
    where
      by : (t : Bool) → is_open_port n (take q) ≡ t → length (cond t (with_morsel rs (take q)) (take q)).got ≡ length (take q).got
      by false z = refl
      by true z =
          let parts = both_parts (nat_eq (take q).wire.sender n) _ z in
          let from : q.wire.sender ≡ n = ap (λ (u : Wire). u.sender) (sym (take_is q (is_input n i q)).3) ∙ equal (take q).wire.sender n parts.0 in
          let same = same_node m x e (sym s ∙ from) in
          absurd (let no : true ≡ false = sym is ∙ ap (λ (y : Node). is_multiplexer y.node.kind) same ∙ k in cc)

  numbers_by : (b : Bool) → is_multiplexer node.node.kind ≡ b → IsNumbered w → IsNumbered (after b)
  numbers_by b is h m y e =
      let c = if_stored b node.node.kind i rs node.progress in
      let back = set_from Counts same_counts w.nodes n node (record node { progress = cond b node.progress (after_store node.node.kind i rs node.progress) }) at (of_progress node _ c.0 c.1) m y e in
      numbered_at w (after b) (place b) (pipes_are b) (λ x. (place_is b x).0) (λ x d. sym (place_is b x).2 ∙ d) (λ x z d. ap (λ (u : Wire). is_done u.send_state) (place_is b x).3 ∙ d) m back.0 y back.2
      (λ q z s k. long_is b is m back.0 back.1 q s k) (λ q z r k. next_is b m back.0 back.1 q r k) (h m back.0 back.1)

  outs_by : (b : Bool) → OutsFit w → OutsFit (after b)
  outs_by b h =
      outs_keep w (after b) (place b) (pipes_are b) (λ x. (place_is b x).3) (λ x. (place_is b x).4) (λ e. e)
      (set_from Marks same_marks w.nodes n node (record node { progress = cond b node.progress (after_store node.node.kind i rs node.progress) }) at (record { node = refl; stage = (if_stored b node.node.kind i rs node.progress).2; at_work = λ e. e })) h

  pub pulls_number : IsNumbered w → IsNumbered (after_pull w n i node p rs)
  pulls_number h = bare_numbers (after (is_multiplexer node.node.kind)) (after_pull w n i node p rs) refl refl (numbers_by (is_multiplexer node.node.kind) refl h)

  pub pulls_fit : OutsFit w → OutsFit (after_pull w n i node p rs)
  pulls_fit h = bare_outs (after (is_multiplexer node.node.kind)) (after_pull w n i node p rs) refl refl refl (outs_by (is_multiplexer node.node.kind) h)
