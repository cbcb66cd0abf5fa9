-- What an update of a node leaves of a world, and what it is given there.
use Rattle.std.proofs.Common.{◌≡◌, ℕ, Bool, true, false, cond, List, length, Option, Some, refl, sym, ap, subst, ◌∙◌}
use Rattle.std.specs.Prelude.{get_or, map, nat_eq, nat_lt, slice_get, slice_set}
use Rattle.std.specs.List.{filter as kept}
use Rattle.ps_frame.specs.Functions.{Functions}
use Rattle.ps_frame.specs.Sorting.{in_order}
use Rattle.ps_frame.specs.Tables.{Row}
use Rattle.ps_meaning.specs.Shape.{PhysicalKind, PhysicalNode, equi_join, filter_node, group_by_node, in_memory_join, in_memory_map, in_memory_sink, in_memory_source, independent_select, multiplexer, negative_slice, ordered_union, reduce, select_node, simple_projection, stream_map, streaming_slice, with_row_index, zip_node}
use Rattle.ps_options.specs.declared.options.Options.{Options}
use Rattle.ps_pipes.specs.declared.pipe.Pipe.{Pipe as Held}
use Rattle.ps_ports.specs.Ports.{Sides, is_done, keeping_done, kept_state}
use Rattle.ps_ports.specs.Wires.{Wire, wires_in, received as received_wire, sent as sent_wire, written as written_wires}
use Rattle.ps_settle.proofs.Members.{at_map, in_order-map, kept-map, length_map, map_at, map_twice}
use Rattle.ps_turns.specs.Heads.{Head, heads_by, stored_inputs}
use Rattle.ps_turns.specs.Progress.{Progress, is_multiplexer}
use Rattle.ps_turns.specs.Updates.{answer_by, answer_of}
use Rattle.ps_world.specs.Pipes.{put_progress, with_progress}
use Rattle.ps_world.specs.Updates.{Updates, answer_at, given_at, no_update, one_fill, one_update, received, sent, updated, written}
use Rattle.ps_world.specs.World.{Node, Pipe, World, heads_of, inputs_done}
use Rattle.turn_laws.specs.Updating.{heads_given}
use Rattle.world_pipes.specs.Shown.{AreShown, Setting, Stands as StandsFor}
use Rattle.world_pipes.specs.declared.pipes.Pipes.{Pipes}

-- PIPES
-- a pipe with a node's answer at its ends
abbrev pub written_pipe : ℕ → Sides → Pipe → Pipe
written_pipe n a p =
    let q = cond (nat_eq p.wire.receiver n) (received (get_or a.inputs p.wire.input p.wire.receive_state) p) p in
    cond (nat_eq q.wire.sender n) (sent (get_or a.outputs q.wire.port q.wire.send_state) q) q

-- all of a pipe but what both ends say of it
pub record Contents : Type 0 where
  pub sender : ℕ
  pub got : List (Option (List Row))
  pub next : ℕ
  pub in_phase : Bool
  pub is_closed : Bool
  pub is_dropped : Bool

abbrev pub contents_of : Pipe → Contents
contents_of p = record { sender = p.wire.sender; got = p.got; next = p.next; in_phase = p.in_phase; is_closed = p.is_closed; is_dropped = p.is_dropped }

contents_stay : (n : ℕ) (a : Sides) (x : Pipe) → contents_of (written_pipe n a x) ≡ contents_of x
contents_stay n a x =
    let q = cond (nat_eq x.wire.receiver n) (received (get_or a.inputs x.wire.input x.wire.receive_state) x) x in
    out q (nat_eq q.wire.sender n) ∙ into (nat_eq x.wire.receiver n)
  where
    out : (y : Pipe) (b : Bool) → contents_of (cond b (sent (get_or a.outputs y.wire.port y.wire.send_state) y) y) ≡ contents_of y
    out y true = refl
    out y false = refl

    into : (b : Bool) → contents_of (cond b (received (get_or a.inputs x.wire.input x.wire.receive_state) x) x) ≡ contents_of x
    into true = refl
    into false = refl

pub all_stay : (n : ℕ) (a : Sides) (ps : List Pipe) → map contents_of (map (written_pipe n a) ps) ≡ map contents_of ps
all_stay n a ps = map_twice contents_of (written_pipe n a) ps ∙ (λ i. map (λ (p : Pipe). contents_stay n a p i) ps)

-- the pipe with these contents, of which both ends say what they say of another
abbrev of_contents : Pipe → Contents → Pipe
of_contents p c = record { wire = record p.wire { sender = c.sender }; got = c.got; next = c.next; in_phase = c.in_phase; is_closed = c.is_closed; is_dropped = c.is_dropped; is_unread = p.is_unread }

-- what is shown of a pipe hangs on its contents alone
stands_alike : (s : Setting) (p p' : Pipe) (q : Held) → contents_of p ≡ contents_of p' → StandsFor s p q → StandsFor s p' q
stands_alike s p p' q e st =
    let first : StandsFor s (of_contents p' (contents_of p)) q =
    record {
      shows = record { within = st.shows.within; next = st.shows.next; slots = st.shows.slots; in_phase = st.shows.in_phase; closed = st.shows.closed; dropped = st.shows.dropped };
      bounded = st.bounded;
      room = st.room;
    } in
    subst (λ c. StandsFor s (of_contents p' c) q) e first

pub shown_alike : (s : Setting) (ps ps' : List Pipe) (h : Pipes) → map contents_of ps' ≡ map contents_of ps → AreShown s ps h → AreShown s ps' h
shown_alike s ps ps' h e shown =
    record {
      long = shown.long ∙ sym (length_map contents_of ps) ∙ ap length (sym e) ∙ length_map contents_of ps';
      each = λ k p' q at there.
          let from = at_map contents_of ps k (contents_of p') (ap (λ l. slice_get l k) (sym e) ∙ map_at contents_of ps' k p' at) in
          stands_alike s from.0 p' q from.2 (shown.each k from.0 q from.1 there);
    }

-- and writes to the wires what the graph itself writes
module _ (n : ℕ) (a : Sides) where
  into : Bool → Wire → Wire
  into b q = cond b (record q { receive_state = kept_state q.receive_state (get_or a.inputs q.input q.receive_state) }) q

  out : Bool → Wire → Wire
  out b q = cond b (record q { send_state = kept_state q.send_state (get_or a.outputs q.port q.send_state) }) q

  wire_into : (b : Bool) (p : Pipe) → (cond {A = Pipe} b (received (get_or a.inputs p.wire.input p.wire.receive_state) p) p).wire ≡ into b p.wire
  unfolding into
  wire_into true p = refl
  wire_into false p = refl

  wire_out : (b : Bool) (p : Pipe) → (cond {A = Pipe} b (sent (get_or a.outputs p.wire.port p.wire.send_state) p) p).wire ≡ out b p.wire
  unfolding out
  wire_out true p = refl
  wire_out false p = refl

  into_sender : (b : Bool) (q : Wire) → (into b q).sender ≡ q.sender
  unfolding into
  into_sender true q = refl
  into_sender false q = refl

  out_receiver : (b : Bool) (q : Wire) → (out b q).receiver ≡ q.receiver
  unfolding out
  out_receiver true q = refl
  out_receiver false q = refl

  either_order : (b d : Bool) (q : Wire) → out d (into b q) ≡ into b (out d q)
  unfolding into out
  either_order true true q = refl
  either_order true false q = refl
  either_order false true q = refl
  either_order false false q = refl

  as_graph : (q : Wire) → into (nat_eq (out (nat_eq q.sender n) q).receiver n) (out (nat_eq q.sender n) q) ≡ received_wire n a (sent_wire n a q)
  unfolding into out
  as_graph q = refl

  wire_written : (p : Pipe) → (written_pipe n a p).wire ≡ received_wire n a (sent_wire n a p.wire)
  wire_written p =
      let b = nat_eq p.wire.receiver n in
      let d = nat_eq p.wire.sender n in
      let q : Pipe = cond b (received (get_or a.inputs p.wire.input p.wire.receive_state) p) p in
      let at_into : q.wire ≡ into b p.wire = wire_into b p in
      let at_sender : q.wire.sender ≡ p.wire.sender = ap (λ (x : Wire). x.sender) at_into ∙ into_sender b p.wire in
      wire_out (nat_eq q.wire.sender n) q ∙ (λ i. out (nat_eq (at_sender i) n) (at_into i)) ∙ either_order b d p.wire
      ∙ (λ i. into (nat_eq (sym (out_receiver d p.wire) i) n) (out d p.wire)) ∙ as_graph p.wire

pub wires_written : (n : ℕ) (a : Sides) (ps : List Pipe) → map (λ (p : Pipe). p.wire) (map (written_pipe n a) ps) ≡ written_wires n a (map (λ (p : Pipe). p.wire) ps)
wires_written n a ps =
    map_twice (λ (p : Pipe). p.wire) (written_pipe n a) ps ∙ (λ i. map (λ (p : Pipe). wire_written n a p i) ps) ∙ sym (map_twice (λ (q : Wire). received_wire n a (sent_wire n a q)) (λ (p : Pipe). p.wire) ps)

-- HEADS AND ANSWERS
wires_to : (n : ℕ) (ps : List Pipe)
    → wires_in n (map (λ (p : Pipe). p.wire) ps) ≡ map (λ (p : Pipe). p.wire) (in_order (λ (p q : Pipe). nat_lt p.wire.input q.wire.input) (kept (λ (p : Pipe). nat_eq p.wire.receiver n) ps))
wires_to n ps =
    ap (in_order (λ (p q : Wire). nat_lt p.input q.input)) (kept-map (λ (p : Wire). nat_eq p.receiver n) (λ (p : Pipe). p.wire) ps)
    ∙ in_order-map (λ (p q : Wire). nat_lt p.input q.input) (λ (p : Pipe). p.wire) (kept (λ (p : Pipe). nat_eq p.wire.receiver n) ps)

done_given : (w : World) (n : ℕ) → map is_done (given_at w n).inputs ≡ inputs_done w n
done_given w n =
    ap (λ l. map is_done (map (λ (p : Wire). p.send_state) l)) (wires_to n w.pipes)
    ∙ ap (map is_done) (map_twice (λ (p : Wire). p.send_state) (λ (p : Pipe). p.wire) (in_order (λ (p q : Pipe). nat_lt p.wire.input q.wire.input) (kept (λ (p : Pipe). nat_eq p.wire.receiver n) w.pipes)))
    ∙ map_twice is_done (λ (p : Pipe). p.wire.send_state) (in_order (λ (p q : Pipe). nat_lt p.wire.input q.wire.input) (kept (λ (p : Pipe). nat_eq p.wire.receiver n) w.pipes))

-- the heads of a zip in a world are those that its update sees
pub heads_are : (w : World) (n : ℕ) (node : Node) → heads_of w n node ≡ heads_given node.node.kind node.progress (given_at w n)
heads_are w n node = by node.node.kind
  where
    by : (kind : PhysicalKind) → heads_of w n (record node { node = record node.node { kind = kind } }) ≡ heads_given kind node.progress (given_at w n)
    by (zip_node extend) = λ i. heads_by extend node.progress.booked (stored_inputs (sym (done_given w n) i) node.progress.stores)
    by kind = refl

-- which pipes are empty is no part of the answer of a node that is no multiplexer
pub same_answer : (o : Options) (p : PhysicalNode) (progress : Progress) (hs : List Head) (es es' : List Bool) (given : Sides) → is_multiplexer p.kind ≡ false → answer_of o p progress hs es given ≡ answer_of o p progress hs es' given
same_answer o p progress hs es es' given e = ap (keeping_done given) (by p.kind e)
  where
    by : (kind : PhysicalKind) → is_multiplexer kind ≡ false → answer_by o kind progress hs es given ≡ answer_by o kind progress hs es' given
    by (in_memory_source t) e = refl
    by (select_node exprs extends) e = refl
    by (with_row_index name offset) e = refl
    by (independent_select exprs) e = refl
    by (reduce exprs) e = refl
    by (streaming_slice offset n) e = refl
    by (negative_slice back n) e = refl
    by (filter_node predicate) e = refl
    by (simple_projection names) e = refl
    by in_memory_sink e = refl
    by (in_memory_map step) e = refl
    by (stream_map step) e = refl
    by ordered_union e = refl
    by (zip_node extend) e = refl
    by multiplexer e = absurd (let clash : true ≡ false = e in cc)
    by (group_by_node keys aggregates) e = refl
    by (equi_join j) e = refl
    by (in_memory_join j) e = refl

-- WORLDS
-- one list of updates after another
pub after : (F : Functions) (w v u : World) → Updates F w v → Updates F v u → Updates F w u
after F w v u no_update more = more
after F w v u (one_update n node progress t rest) more = one_update n node progress t (after F (updated w n node progress) v u rest more)
after F w v u (one_fill n node progress t rest) more = one_fill n node progress t (after F (with_progress n progress w) v u rest more)

-- the world in which a node has become another one, and an answer is written
abbrev pub turned : World → ℕ → Node → Sides → World
turned v n y answer = record v { nodes = slice_set v.nodes n y; pipes = map (written_pipe n answer) v.pipes }

put_is : (w : World) (n : ℕ) (node : Node) (progress : Progress) → slice_get w.nodes n ≡ Some node → with_progress n progress w ≡ record w { nodes = slice_set w.nodes n (record node { progress = progress }) }
put_is w n node progress at = λ i. put_progress (at i) n progress w

pub updated_is : (v : World) (n : ℕ) (x : Node) (progress : Progress) → slice_get v.nodes n ≡ Some x → updated v n x progress ≡ turned v n (record x { progress = progress }) (answer_at v n x progress)
updated_is v n x progress at =
    let a = answer_at v n x progress in
    ap (written n a) (put_is v n x progress at)
    ∙ (λ i. record v {
      nodes = slice_set v.nodes n (record x { progress = progress });
      pipes = map_twice (λ (p : Pipe). cond (nat_eq p.wire.sender n) (sent (get_or a.outputs p.wire.port p.wire.send_state) p) p) (λ (p : Pipe). cond (nat_eq p.wire.receiver n) (received (get_or a.inputs p.wire.input p.wire.receive_state) p) p) v.pipes i;
    })
