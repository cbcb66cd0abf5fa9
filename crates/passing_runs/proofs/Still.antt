-- Steps, and parts of steps, in which no pipe gets a morsel and none is taken.
use Rattle.std.proofs.Common.{◌≡◌, ℕ, zero, suc, Bool, true, false, cond, List, [], length, Option, Some, None, refl, sym, ap, subst, ◌∙◌, map-id, inl, inr, take}
use Rattle.std.specs.Prelude.{Contains, get_or, map, nat_eq, slice_get, ◌&&◌}
use Rattle.ps_frame.specs.Causes.{is_empty}
use Rattle.ps_frame.specs.Functions.{Functions}
use Rattle.ps_frame.specs.Tables.{Fields}
use Rattle.ps_meaning.specs.Shape.{PhysicalKind, PhysicalNode, group_by_node, in_memory_join, in_memory_map, negative_slice, zip_node}
use Rattle.ps_options.specs.declared.options.Options.{Options}
use Rattle.ps_ports.specs.Phases.{is_in_phase}
use Rattle.ps_ports.specs.Ports.{Sides}
use Rattle.ps_ports.specs.declared.port_state.PortState.{PortState}
use Rattle.ps_turns.specs.Claims.{filled_slot}
use Rattle.ps_turns.specs.Progress.{Progress}
use Rattle.ps_turns.specs.Tasks.{Piece}
use Rattle.ps_turns.specs.Updates.{Makes, Turns}
use Rattle.ps_world.specs.Answers.{with_partial}
use Rattle.ps_world.specs.Closing.{after_close, after_end}
use Rattle.ps_world.specs.Facts.{joins_of}
use Rattle.ps_world.specs.Phases.{after_open, blockers_in, intensive_at, nodes_of_phase, with_phase}
use Rattle.ps_world.specs.Pipes.{drop_at, drop_if, drops_from, dropped_pipe, put_progress, with_progress, without_heads}
use Rattle.ps_world.specs.Step.{Opens, breaks, settles}
use Rattle.ps_world.specs.Updates.{Updates, answer_at, given_at, no_update, one_fill, one_update, received, sent, updated, written}
use Rattle.ps_world.specs.World.{Node, Pipe, World, is_cut_off, rows_in_order, schemas_for, wires_of}
use Rattle.world_claims.proofs.Beside.{Before, heads_from, map_from, marked_from, set_from}
use Rattle.world_claims.proofs.Steps.{map_map}
use Rattle.passing_runs.proofs.Kept.{AllPassing, quiet, taken_rows, through}
use Rattle.passing_runs.proofs.Slots.{Fills, fills_same}

-- a pipe as it was, but for its states and marks
pub record Stays (x y : Pipe) : Type 0 where
  pub joins : joins_of y ≡ joins_of x
  pub got : y.got ≡ x.got
  pub next : y.next ≡ x.next
  pub lost : y.is_dropped ≡ false → x.is_dropped ≡ false

-- a node with the entry and the booked rows of another
abbrev pub Books : Node → Node → Type 0
Books x y = (y.node ≡ x.node) × (y.progress.booked ≡ x.progress.booked)

pub record IsStill (w v : World) : Type 0 where
  pub pipe : Pipe → Pipe
  pub pipes : v.pipes ≡ map pipe w.pipes
  pub like : (x : Pipe) → Stays x (pipe x)
  pub nodes : (m : ℕ) (y : Node) → slice_get v.nodes m ≡ Some y → Before Books w.nodes m y
  pub outs : (q : Piece) → Contains v.outs q → Contains w.outs q

itself : (x : Pipe) → Stays x x
itself x = record { joins = refl; got = refl; next = refl; lost = λ d. d }

if_stays : (b : Bool) (x y : Pipe) → Stays x y → Stays x (cond b y x)
if_stays true x y h = h
if_stays false x y h = itself x

pub same_node : (x : Node) → Books x x
same_node x = (refl, refl)

pub still_then : (w u v : World) → IsStill w u → IsStill u v → IsStill w v
still_then w u v a b =
    record {
      pipe = λ x. b.pipe (a.pipe x);
      pipes = b.pipes ∙ ap (map b.pipe) a.pipes ∙ map_map a.pipe b.pipe w.pipes;
      like = λ x. let f = a.like x in let g = b.like (a.pipe x) in record { joins = g.joins ∙ f.joins; got = g.got ∙ f.got; next = g.next ∙ f.next; lost = λ d. f.lost (g.lost d) };
      nodes = λ m y e. let second = b.nodes m y e in let first = a.nodes m second.0 second.1 in (first.0, first.1, (second.2.0 ∙ first.2.0, second.2.1 ∙ first.2.1));
      outs = λ q c. a.outs q (b.outs q c);
    }

still_none : (w v : World) → v.pipes ≡ w.pipes → v.nodes ≡ w.nodes → v.outs ≡ w.outs → IsStill w v
still_none w v pipes nodes outs =
    record { pipe = λ x. x; pipes = pipes ∙ sym (map-id w.pipes); like = itself; nodes = λ m y e. (y, ap (λ xs. slice_get xs m) (sym nodes) ∙ e, same_node y); outs = λ q c. subst (λ qs. Contains qs q) outs c }

pub still_keeps : (F : Functions) (n : ℕ) (p : PhysicalNode) (s : Fields) (w v : World) → IsStill w v → AllPassing F n p s w → AllPassing F n p s v
still_keeps F n p s w v h all =
    through F n p s w v h.pipe h.pipes (λ x. (h.like x).joins)
    (λ new from to at cf rf ct st.
    let node = h.nodes n new at in
    let fills : Fills from.got (h.pipe from).got = subst (λ xs. Fills from.got xs) (sym (h.like from).got) (fills_same from.got) in
    let taken : taken_rows (h.pipe from) ≡ taken_rows from = λ i. length (rows_in_order (take ((h.like from).next i) ((h.like from).got i))) in
    quiet F n p s w v node.0 new from to (h.pipe from) (h.pipe to) node.2.1 fills taken (h.like to).got (h.like to).lost (λ q c e. h.outs q c) (all node.0 from to node.1 cf rf ct st))

-- A NODE'S PROGRESS
put_still : (w : World) (n : ℕ) (node : Node) (a : Progress) → slice_get w.nodes n ≡ Some node → a.booked ≡ node.progress.booked → IsStill w (with_progress n a w)
put_still w n node a at booked = by (slice_get w.nodes n) refl
  where
    by : (o : Option Node) → slice_get w.nodes n ≡ o → IsStill w (put_progress o n a w)
    by None e = absurd (let no : None ≡ Some node = sym e ∙ at in cc)
    by (Some x) e =
        let both : Some node ≡ Some x = sym at ∙ e in
        let is : node ≡ x = cc in
        record {
          pipe = λ y. y;
          pipes = sym (map-id w.pipes);
          like = itself;
          nodes = set_from Books same_node w.nodes n x (record x { progress = a }) e (refl, booked ∙ ap (λ (z : Node). z.progress.booked) is);
          outs = λ q c. c;
        }

-- UPDATES
makes_booked : (F : Functions) (o : Options) (p : PhysicalNode) (kind : PhysicalKind) (ss : List Fields) (a c : Progress) → Makes F o p kind ss a c → c.booked ≡ a.booked
makes_booked F o p (in_memory_map step) ss a c (inl m) = ap (λ (x : Progress). x.booked) m.1
makes_booked F o p (in_memory_map step) ss a c (inr m) = ap (λ (x : Progress). x.booked) m.3
makes_booked F o p (in_memory_join j) ss a c m = ap (λ (x : Progress). x.booked) m.2
makes_booked F o p (group_by_node keys aggregates) ss a c m = ap (λ (x : Progress). x.booked) m.2
makes_booked F o p (negative_slice back n) ss a c m = ap (λ (x : Progress). x.booked) m
makes_booked F o p kind ss a c m = ap (λ (x : Progress). x.booked) m

turn_booked : (F : Functions) (o : Options) (p : PhysicalNode) (ss : List Fields) (given : Sides) (a b : Progress) → Turns F o p ss given a b → b.booked ≡ a.booked
turn_booked F o p ss given a b (inl t) = ap (λ (x : Progress). x.booked) t.1
turn_booked F o p ss given a b (inr t) = ap (λ (x : Progress). x.booked) t.3 ∙ makes_booked F o p p.kind ss a t.1 t.2

receive_stays : (b : Bool) (st : PortState) (x : Pipe) → Stays x (cond b (received st x) x)
receive_stays true st x = record { joins = refl; got = refl; next = refl; lost = λ d. d }
receive_stays false st x = itself x

send_stays : (b : Bool) (st : PortState) (x : Pipe) → Stays x (cond b (sent st x) x)
send_stays true st x = record { joins = refl; got = refl; next = refl; lost = λ d. d }
send_stays false st x = itself x

abbrev at_inputs : ℕ → Sides → Pipe → Pipe
at_inputs n a x = cond (nat_eq x.wire.receiver n) (received (get_or a.inputs x.wire.input x.wire.receive_state) x) x

abbrev at_outputs : ℕ → Sides → Pipe → Pipe
at_outputs n a x = cond (nat_eq x.wire.sender n) (sent (get_or a.outputs x.wire.port x.wire.send_state) x) x

written_still : (n : ℕ) (a : Sides) (w : World) → IsStill w (written n a w)
written_still n a w =
    record {
      pipe = λ x. at_outputs n a (at_inputs n a x);
      pipes = map_map (at_inputs n a) (at_outputs n a) w.pipes;
      like = λ x.
          let f = receive_stays (nat_eq x.wire.receiver n) (get_or a.inputs x.wire.input x.wire.receive_state) x in
          let y = at_inputs n a x in
          let g = send_stays (nat_eq y.wire.sender n) (get_or a.outputs y.wire.port y.wire.send_state) y in
          record { joins = g.joins ∙ f.joins; got = g.got ∙ f.got; next = g.next ∙ f.next; lost = λ d. f.lost (g.lost d) };
      nodes = λ m y e. (y, e, same_node y);
      outs = λ q c. c;
    }

pub updates_still : (F : Functions) (w v : World) → Updates F w v → IsStill w v
updates_still F w v no_update = still_none w w refl refl refl
updates_still F w v (one_update n node progress t u) =
    let put = put_still w n node progress t.0 (turn_booked F w.options node.node (schemas_for w node) (given_at w n) node.progress progress t.2) in
    let write = written_still n (answer_at w n node progress) (with_progress n progress w) in
    still_then w (updated w n node progress) v (still_then w (with_progress n progress w) (updated w n node progress) put write) (updates_still F (updated w n node progress) v u)
updates_still F w v (one_fill n node progress t u) =
    still_then w (with_progress n progress w) v (put_still w n node progress t.0 (ap (λ (x : Progress). x.booked) t.1.3)) (updates_still F (with_progress n progress w) v u)

-- OPENS, CLOSES AND ENDS
phase_still : (s : World) → IsStill s (with_phase s)
phase_still s =
    record {
      pipe = λ (x : Pipe). record x { in_phase = is_in_phase (length s.nodes) (intensive_at s) (wires_of s) x.wire };
      pipes = refl;
      like = λ x. record { joins = refl; got = refl; next = refl; lost = λ d. d };
      nodes = marked_from Books (λ x b. (refl, refl)) (nodes_of_phase s) 0 s.nodes;
      outs = λ q c. c;
    }

open_still : (s : World) (phase : ℕ) → IsStill s (after_open s phase)
open_still s phase = by (is_empty (blockers_in s)) refl
  where
    by : (b : Bool) → is_empty (blockers_in s) ≡ b → IsStill s (after_open s phase)
    by true e = still_none s (after_open s phase) (rw e refl) (rw e refl) (rw e refl)
    by false e = still_then s (with_phase s) (after_open s phase) (phase_still s) (still_none (with_phase s) (after_open s phase) (rw e refl) (rw e refl) (rw e refl))

pub opens_still : (F : Functions) (s v : World) (phase : ℕ) → Opens F s phase v → IsStill s v
opens_still F s v phase (settles rest e) = subst (IsStill s) (sym e) (open_still s phase)
opens_still F s v phase (breaks n c f e) = still_none s v (ap (λ (x : World). x.pipes) e) (ap (λ (x : World). x.nodes) e) (ap (λ (x : World). x.outs) e)

pub close_still : (w : World) (n : ℕ) (node : Node) → slice_get w.nodes n ≡ Some node → IsStill w (after_close w n node)
close_still w n node at =
    record {
      pipe = λ x. cond (nat_eq x.wire.sender n && x.in_phase) (record x { is_closed = true }) x;
      pipes = refl;
      like = λ x. if_stays (nat_eq x.wire.sender n && x.in_phase) x (record x { is_closed = true }) (record { joins = refl; got = refl; next = refl; lost = λ d. d });
      nodes = set_from Books same_node w.nodes n node (record node { is_closed = true }) at (refl, refl);
      outs = λ q c. c;
    }

pub end_still : (w : World) → IsStill w (after_end w)
end_still w =
    record {
      pipe = λ (x : Pipe). record x { in_phase = false; is_closed = false };
      pipes = refl;
      like = λ x. record { joins = refl; got = refl; next = refl; lost = λ d. d };
      nodes = map_from Books (λ (x : Node). record x { in_phase = false; is_closed = false }) (λ x. (refl, refl)) w.nodes;
      outs = λ q c. c;
    }

-- DROPS, AND A PARTIAL
bare : (x : Node) → Books x (without_heads x.node.kind x)
bare x = by x.node.kind
  where
    by : (k : PhysicalKind) → Books x (without_heads k x)
    by (zip_node extend) = (refl, refl)
    by k = same_node x

drop_still : (b : Bool) (n : ℕ) (w : World) → IsStill w (drop_if b n w)
drop_still false n w = still_none w w refl refl refl
drop_still true n w =
    record {
      pipe = λ x. cond (nat_eq x.wire.receiver n && x.in_phase) (dropped_pipe x) x;
      pipes = refl;
      like = λ x. if_stays (nat_eq x.wire.receiver n && x.in_phase) x (dropped_pipe x) (record { joins = refl; got = refl; next = refl; lost = λ d. absurd (let no : true ≡ false = d in cc) });
      nodes = heads_from Books same_node bare n w.nodes;
      outs = λ q c. c;
    }

pub drops_still : (n : ℕ) (w : World) → IsStill w (drops_from w n)
drops_still zero w = still_none w w refl refl refl
drops_still (suc n) w = still_then w (drop_at w n) (drops_from (drop_at w n) n) (drop_still (is_cut_off w n) n w) (drops_still n (drop_at w n))

pub partial_still : (q : Piece) (w : World) (o : Option Node) → slice_get w.nodes q.node ≡ o → IsStill w (with_partial q o w)
partial_still q w None e = still_none w w refl refl refl
partial_still q w (Some node) e = put_still w q.node node (record node.progress { taken = filled_slot q.input q.number (get_or q.tables 0 []) node.progress.taken }) e refl
