-- What a source keeps is kept by updates and fills, by an Open, and so by every step.
use Rattle.std.proofs.Common.{◌≡◌, ◌≢◌, ℕ, zero, suc, ◌⊎◌, Bool, true, false, cond, List, [], ◌∷◌, ◌++◌, length, Some, refl, sym, ap, subst, ◌∙◌, inl, inr}
use Rattle.std.specs.Prelude.{Contains, IsFalse, get_or, map, nat_eq, not, option_map, slice_get, slice_set, ◌&&◌, ◌||◌}
use Rattle.std.proofs.lemmas.Bool.{cases_eq}
use Rattle.std.proofs.lemmas.Option.{slice_get-map}
use Rattle.ps_frame.specs.Causes.{is_empty}
use Rattle.ps_frame.specs.Functions.{Functions}
use Rattle.ps_frame.specs.Tables.{Fields, Row}
use Rattle.ps_meaning.specs.Shape.{PhysicalKind, PhysicalNode, in_memory_source, independent_select}
use Rattle.ps_options.specs.declared.options.Options.{Options}
use Rattle.ps_ports.specs.Ports.{Sides, first_port, is_done, kept_done, kept_state}
use Rattle.ps_ports.specs.Wires.{Wire, wires_out}
use Rattle.ps_ports.specs.declared.port_state.PortState.{PortState}
use Rattle.ps_ports.specs.declared.port_state.PortState.TheVariants as port
use Rattle.ps_turns.specs.Heads.{Head}
use Rattle.ps_turns.specs.Progress.{Progress}
use Rattle.ps_turns.specs.Updates.{Makes, Turns, answer_by, has_given_all, is_waiting, source_state}
use Rattle.ps_world.specs.Facts.{Facts}
use Rattle.ps_world.specs.Phases.{after_fault, after_open, blockers_in, intensive_at, nodes_of_phase, with_phase}
use Rattle.ps_world.specs.Pipes.{put_progress, with_progress}
use Rattle.ps_world.specs.Step.{Opens, Steps, breaks, settles}
use Rattle.ps_world.specs.Updates.{FillsAt, TurnsAt, Updates, answer_at, empty_outs, given_at, no_update, one_fill, one_update, received, sent, updated, written}
use Rattle.ps_world.specs.World.{Node, Pipe, Record, World, claimed, closed, ended, finished, handed_in, heads_of, opened, pulled, schemas_for, shape_of, wires_of}
use Rattle.ps_ports.specs.Phases.{is_in_phase}
use Rattle.world_claims.proofs.Beside.{marked_from}
use Rattle.world_claims.proofs.ReachedFacts.{known_step}
use Rattle.world_claims.proofs.Steps.{map_map}
use Rattle.world_claims.specs.Numbering.{Known}
use Rattle.world_facts.proofs.Slots.{set_here, set_other}
use Rattle.world_facts.proofs.UpdatedKeeps.{updates_keep_facts}
use Rattle.world_facts.proofs.Wired.{port_place}
use Rattle.world_laws.proofs.Agree.{from_map}
use Rattle.world_laws.proofs.Answered.{in_shape}
use Rattle.world_laws.proofs.InOrder.{contains_map}
use Rattle.world_laws.proofs.PassingPorts.{same_number}
use Rattle.world_laws.proofs.Shapes.{step_keeps as shape_kept, updates_keep as shapes_kept}
use Rattle.family_pipes.proofs.Complete.{complete, whole}
use Rattle.world_families.proofs.Members.{nothing_is}
use Rattle.family_pipes.proofs.Outputs.{MayCome, Onto, gives_keep, itself}
use Rattle.family_pipes.proofs.Sent.{node_of}
use Rattle.source_keeps.proofs.SourceKeeps.{GivesSource, Keeps, SourceWork, given_by_sent, no_pipe, of_kind, single, step_keeps, to_kind}
use Rattle.family_pipes.proofs.SourceSteps.{StepOf, answer_step, claim_step, close_step, end_step, pull_step, same_node}
use Rattle.world_families.specs.Holds.{Holds}
use Rattle.world_families.specs.Sources.{HasGivenAll, IsSource, KeepsNone}
use Rattle.world_families.specs.Work.{IsComplete, Leaves, PipesHold}

-- WHAT AN UPDATE WRITES TO A PIPE
abbrev written_pipe : ℕ → Sides → Pipe → Pipe
written_pipe m a p =
    let q = cond (nat_eq p.wire.receiver m) (received (get_or a.inputs p.wire.input p.wire.receive_state) p) p in
    cond (nat_eq q.wire.sender m) (sent (get_or a.outputs q.wire.port q.wire.send_state) q) q

kept_cases : (old new : PortState) → is_done (kept_state old new) ≡ true → (is_done old ≡ true) ⊎ (is_done new ≡ true)
kept_cases port.Done new e = inl refl
kept_cases port.Ready new e = inr e
kept_cases port.Blocked new e = inr e

still_done : (old new : PortState) → is_done old ≡ true → is_done (kept_state old new) ≡ true
still_done port.Done new e = refl
still_done port.Ready new e = absurd (let never : false ≡ true = e in cc)
still_done port.Blocked new e = absurd (let never : false ≡ true = e in cc)

or_more : (a b c : Bool) → (a || b) ≡ true → (a || (b || c)) ≡ true
or_more true b c e = refl
or_more false true c e = refl
or_more false false c e = absurd (let never : false ≡ true = e in cc)

or_new : (a b s : Bool) → s ≡ true → (a || (b || (s && not a))) ≡ true
or_new true b s e = refl
or_new false true s e = refl
or_new false false s e = ap (λ z. z && true) e

or_first : (a b c : Bool) → (a ≡ true → c ≡ true) → (a || b) ≡ true → (c || b) ≡ true
or_first true b c h e = ap (λ z. z || b) (h refl)
or_first false true c h e = by c
  where
    by : (c : Bool) → (c || true) ≡ true
    by true = refl
    by false = refl
or_first false false c h e = absurd (let never : false ≡ true = e in cc)

none_of : (a b : Bool) → (a || b) ≡ false → a ≡ false
none_of true b e = absurd (let never : true ≡ false = e in cc)
none_of false b e = refl

-- where its reader is done, the sender is or the pipe is unread
abbrev ReadFirst : Pipe → Type 0
ReadFirst x = is_done x.wire.receive_state ≡ true → (is_done x.wire.send_state || x.is_unread) ≡ true

record Received (x y : Pipe) : Type 0 where
  send : y.wire.send_state ≡ x.wire.send_state
  sender : y.wire.sender ≡ x.wire.sender
  port_of : y.wire.port ≡ x.wire.port
  got : y.got ≡ x.got
  dropped : y.is_dropped ≡ x.is_dropped
  unread : y.is_unread ≡ false → x.is_unread ≡ false
  read_first : ReadFirst x → ReadFirst y

receives : (x : Pipe) (s : PortState) (b : Bool) → Received x (cond b (received s x) x)
receives x s false = record { send = refl; sender = refl; port_of = refl; got = refl; dropped = refl; unread = λ u. u; read_first = λ h. h }
receives x s true =
    record {
      send = refl;
      sender = refl;
      port_of = refl;
      got = refl;
      dropped = refl;
      unread = λ u. none_of x.is_unread (is_done s && not (is_done x.wire.send_state)) u;
      read_first = λ h d. by h (kept_cases x.wire.receive_state s d);
    }
  where
    by : ReadFirst x → (is_done x.wire.receive_state ≡ true) ⊎ (is_done s ≡ true) → (is_done x.wire.send_state || (x.is_unread || (is_done s && not (is_done x.wire.send_state)))) ≡ true
    by h (inl old) = or_more (is_done x.wire.send_state) x.is_unread (is_done s && not (is_done x.wire.send_state)) (h old)
    by h (inr new) = or_new (is_done x.wire.send_state) x.is_unread (is_done s) new

record Written (m : ℕ) (a : Sides) (x y : Pipe) : Type 0 where
  sender : y.wire.sender ≡ x.wire.sender
  got : y.got ≡ x.got
  dropped : y.is_dropped ≡ x.is_dropped
  unread : y.is_unread ≡ false → x.is_unread ≡ false
  read_first : ReadFirst x → ReadFirst y
  done : is_done y.wire.send_state ≡ true → (is_done x.wire.send_state ≡ true) ⊎ (x.wire.sender ≡ m) × (is_done (get_or a.outputs x.wire.port x.wire.send_state) ≡ true)

sends : (m : ℕ) (a : Sides) (y : Pipe) (b : Bool) → nat_eq y.wire.sender m ≡ b → Written m a y (cond b (sent (get_or a.outputs y.wire.port y.wire.send_state) y) y)
sends m a y false e = record { sender = refl; got = refl; dropped = refl; unread = λ u. u; read_first = λ h. h; done = inl }
sends m a y true e =
    record {
      sender = refl;
      got = refl;
      dropped = refl;
      unread = λ u. u;
      read_first = λ h d. or_first (is_done y.wire.send_state) y.is_unread (is_done (kept_state y.wire.send_state (get_or a.outputs y.wire.port y.wire.send_state))) (still_done y.wire.send_state (get_or a.outputs y.wire.port y.wire.send_state)) (h d);
      done = λ d. by (kept_cases y.wire.send_state (get_or a.outputs y.wire.port y.wire.send_state) d);
    }
  where
    by : (is_done y.wire.send_state ≡ true) ⊎ (is_done (get_or a.outputs y.wire.port y.wire.send_state) ≡ true) → (is_done y.wire.send_state ≡ true) ⊎ (y.wire.sender ≡ m) × (is_done (get_or a.outputs y.wire.port y.wire.send_state) ≡ true)
    by (inl old) = inl old
    by (inr new) = inr (same_number y.wire.sender m e, new)

writes : (m : ℕ) (a : Sides) (x : Pipe) → Written m a x (written_pipe m a x)
writes m a x =
    let s = get_or a.inputs x.wire.input x.wire.receive_state in
    let y = cond (nat_eq x.wire.receiver m) (received s x) x in
    let r = receives x s (nat_eq x.wire.receiver m) in
    let o = sends m a y (nat_eq y.wire.sender m) refl in
    record {
      sender = o.sender ∙ r.sender;
      got = o.got ∙ r.got;
      dropped = o.dropped ∙ r.dropped;
      unread = λ u. r.unread (o.unread u);
      read_first = λ h. o.read_first (r.read_first h);
      done = λ d. by y r (o.done d);
    }
  where
    by : (y : Pipe) → Received x y → (is_done y.wire.send_state ≡ true) ⊎ (y.wire.sender ≡ m) × (is_done (get_or a.outputs y.wire.port y.wire.send_state) ≡ true) → (is_done x.wire.send_state ≡ true) ⊎ (x.wire.sender ≡ m) × (is_done (get_or a.outputs x.wire.port x.wire.send_state) ≡ true)
    by y r (inl old) = inl (ap is_done (sym r.send) ∙ old)
    by y r (inr new) = inr (sym r.sender ∙ new.0, (λ i. is_done (get_or a.outputs (sym r.port_of i) (sym r.send i))) ∙ new.1)

-- WHAT THE UPDATE OF A SOURCE SAYS
-- it is newly done where its reader is done, or where it gave all
source_done : (outs : List PortState) (ex : Bool) (k : ℕ) (old d : PortState) → slice_get outs k ≡ Some old → is_done d ≡ false → is_done (get_or (kept_done outs (source_state ex (first_port outs) ∷ [])) k d) ≡ true → (is_done old ≡ true) ⊎ (ex ≡ true)
source_done [] ex k old d at none e = absurd (nothing_is old at)
source_done (r ∷ rs) ex zero old d at none e = by (kept_cases r (source_state ex r) e) (let q : Some r ≡ Some old = at in let same : r ≡ old = cc in same)
  where
    of_state : (b : Bool) (ex : Bool) → is_done (cond (b || ex) port.Done port.Ready) ≡ true → (b ≡ true) ⊎ (ex ≡ true)
    of_state true ex e = inl refl
    of_state false true e = inr refl
    of_state false false e = absurd (let never : false ≡ true = e in cc)

    by : (is_done r ≡ true) ⊎ (is_done (source_state ex r) ≡ true) → r ≡ old → (is_done old ≡ true) ⊎ (ex ≡ true)
    by (inl reader) same = inl (ap is_done (sym same) ∙ reader)
    by (inr new) same = of (of_state (is_done r) ex new)
      where
        of : (is_done r ≡ true) ⊎ (ex ≡ true) → (is_done old ≡ true) ⊎ (ex ≡ true)
        of (inl reader) = inl (ap is_done (sym same) ∙ reader)
        of (inr all) = inr all
source_done (r ∷ []) ex (suc k) old d at none e = absurd (nothing_is old at)
source_done (r ∷ q ∷ rs) ex (suc k) old d at none e = absurd (let never : true ≡ false = sym e ∙ none in cc)

answers_state : (o : Options) (kind : PhysicalKind) (progress : Progress) (hs : List Head) (es : List Bool) (given : Sides) → IsSource kind → (answer_by o kind progress hs es given).outputs ≡ source_state (has_given_all o kind progress) (first_port given.outputs) ∷ []
answers_state o (in_memory_source t) progress hs es given is = refl
answers_state o (independent_select s) progress hs es given is = refl
answers_state o kind progress hs es given is = absurd is

makes_same : (F : Functions) (o : Options) (p : PhysicalNode) (kind : PhysicalKind) (ss : List Fields) (a b : Progress) → IsSource kind → Makes F o p kind ss a b → b ≡ a
makes_same F o p (in_memory_source t) ss a b is e = e
makes_same F o p (independent_select s) ss a b is e = e
makes_same F o p kind ss a b is e = absurd is

turn_sent : (F : Functions) (o : Options) (p : PhysicalNode) (ss : List Fields) (given : Sides) (a b : Progress) → IsSource p.kind → Turns F o p ss given a b → b.sent ≡ a.sent
turn_sent F o p ss given a b is (inl t) = ap (λ (x : Progress). x.sent) t.1
turn_sent F o p ss given a b is (inr t) = ap (λ (x : Progress). x.sent) t.3 ∙ ap (λ (x : Progress). x.sent) (makes_same F o p p.kind ss a t.1 is t.2)

never_waits : (kind : PhysicalKind) (a : Progress) (given : Sides) → IsSource kind → is_waiting kind a given ≡ true → ⊥
never_waits (in_memory_source t) a given is e = let never : false ≡ true = e in cc
never_waits (independent_select s) a given is e = let never : false ≡ true = e in cc
never_waits kind a given is e = absurd is

module _ (F : Functions) (n : ℕ) where
  -- AN UPDATE
  module _ (w : World) (m : ℕ) (other : Node) (progress : Progress) (f : Facts F w) (t : TurnsAt F w m other progress) (h : Keeps F n w) where
    abbrev a : Sides
    a = answer_at w m other progress

    abbrev new : Node
    new = record other { progress = progress }

    abbrev v : World
    v = record w { nodes = slice_set w.nodes m new; pipes = map (written_pipe m a) w.pipes }

    updated_is : updated w m other progress ≡ v
    updated_is =
        ap (written m a) (λ i. put_progress (t.0 i) m progress w)
        ∙ (λ i. record w { nodes = slice_set w.nodes m new; pipes = map_map (λ (p : Pipe). cond (nat_eq p.wire.receiver m) (received (get_or a.inputs p.wire.input p.wire.receive_state) p) p) (λ (p : Pipe). cond (nat_eq p.wire.sender m) (sent (get_or a.outputs p.wire.port p.wire.send_state) p) p) w.pipes i })

    was : (y : Pipe) → Leaves v n y → (x : Pipe) × Leaves w n x × Written m a x y
    was y l =
        let x = from_map (written_pipe m a) y w.pipes l.0 in
        let k = subst (Written m a x.0) x.2 (writes m a x.0) in
        (x.0, (x.1, sym k.sender ∙ l.1), k)

    came : (y : Pipe) (k : ℕ) (rs : List Row) → Leaves v n y → slice_get y.got k ≡ Some (Some rs) → ((x : Pipe) × Leaves w n x × (slice_get x.got k ≡ Some (Some rs))) ⊎ MayCome F w n k rs
    came y k rs l e = let x = was y l in inl (x.0, x.1, ap (λ xs. slice_get xs k) (sym x.2.got) ∙ e)

    pipes_hold : Facts F v → (y : Node) → slice_get v.nodes n ≡ Some y → IsSource y.node.kind → PipesHold w n → PipesHold v n
    pipes_hold fv y at is k =
        record {
          done = λ q c d. absurd (no_pipe F n v y fv at is q c);
          read = λ q c d. absurd (no_pipe F n v y fv at is q c);
          unread = λ p l d. let x = was p l in x.2.read_first (k.unread x.0 x.1) d;
        }

    -- a pipe that was done before was complete before
    complete_before : (x y : Pipe) → Written m a x y → IsComplete y → is_done x.wire.send_state ≡ true → IsComplete x
    complete_before x y k c d = let g = whole y c in complete x (record { done = d; dropped = sym k.dropped ∙ g.dropped; unread = k.unread g.unread })

    -- another node than the source
    other_updated : Facts F v → n ≢ m → Keeps F n v
    other_updated fv apart y at is =
        let there : slice_get w.nodes n ≡ Some y = sym (set_other w.nodes m n new apart) ∙ at in
        let k = h y there is in (
          pipes_hold fv y at is k.0,
          gives_keep F w v n (SourceWork w.options y.node y.node.kind) (SourceWork w.options y.node y.node.kind) KeepsNone KeepsNone (HasGivenAll w y) (HasGivenAll v y) (λ j x g. g) (λ q none. none) (λ q rs none r. absurd none) came (λ q c e. inl c)
              (λ p l c. let x = was p l in inl (x.0, x.1, complete_before x.0 p x.2 c (by x.0 x.1 (x.2.done (whole p c).done)), λ g. g)) k.1,
        )
      where
        by : (x : Pipe) → Leaves w n x → (is_done x.wire.send_state ≡ true) ⊎ (x.wire.sender ≡ m) × (is_done (get_or a.outputs x.wire.port x.wire.send_state) ≡ true) → is_done x.wire.send_state ≡ true
        by x l (inl old) = old
        by x l (inr now) = absurd (apart (sym l.1 ∙ now.0))

    -- the source itself
    own_updated : Facts F v → n ≡ m → Keeps F n v
    own_updated fv same y at is = (
      pipes_hold fv y at is k.0,
      gives_keep F w v n (SourceWork w.options other.node other.node.kind) (SourceWork w.options y.node y.node.kind) KeepsNone KeepsNone (HasGivenAll w other) (HasGivenAll v y) (λ j x g. subst (λ (z : Node). SourceWork w.options z.node z.node.kind j x) y_is g)
          (λ q none. none) (λ q rs none r. absurd none) came (λ q c e. inl c) (λ p l c. let x = was p l in by p c x.0 x.1 x.2 (is_done x.0.wire.send_state) refl) k.1,
    )
      where
        y_is : new ≡ y
        y_is = let here : slice_get (slice_set w.nodes m new) n ≡ Some new = ap (slice_get (slice_set w.nodes m new)) same ∙ set_here w.nodes m other new t.0 in let q : Some new ≡ Some y = sym here ∙ at in cc

        source : IsSource other.node.kind
        source = subst (λ (z : Node). IsSource z.node.kind) (sym y_is) is

        k : PipesHold w n × GivesSource F w n other other.node.kind
        k = h other (ap (slice_get w.nodes) same ∙ t.0) source

        all : has_given_all w.options other.node.kind progress ≡ true → HasGivenAll v y
        all g = subst (λ (z : Node). HasGivenAll v z) y_is g

        by : (p : Pipe) → IsComplete p → (x : Pipe) → Leaves w n x → Written m a x p → (b : Bool) → is_done x.wire.send_state ≡ b → ((x : Pipe) × Leaves w n x × IsComplete x × (HasGivenAll w other → HasGivenAll v y)) ⊎ HasGivenAll v y
        by p c x l r true e = inl (x, l, complete_before x p r c e, λ g. all (given_by_sent w.options other.node.kind progress other.progress source (turn_sent F w.options other.node (schemas_for w other) (given_at w m) other.progress progress source t.2) ∙ g))
        by p c x l r false e = of (r.done (whole p c).done)
          where
            reader : slice_get (given_at w m).outputs x.wire.port ≡ Some x.wire.receive_state
            reader =
                ap (λ j. slice_get (map (λ (u : Wire). u.receive_state) (wires_out j (wires_of w))) x.wire.port) (sym same ∙ sym l.1)
                ∙ slice_get-map (λ (u : Wire). u.receive_state) (wires_out x.wire.sender (wires_of w)) x.wire.port ∙ ap (option_map (λ (u : Wire). u.receive_state)) (port_place F w f x.wire (contains_map (λ (z : Pipe). z.wire) x w.pipes l.0))

            said : a.outputs ≡ kept_done (given_at w m).outputs (source_state (has_given_all w.options other.node.kind progress) (first_port (given_at w m).outputs) ∷ [])
            said = ap (kept_done (given_at w m).outputs) (answers_state w.options other.node.kind progress (heads_of w m other) (empty_outs w m) (given_at w m) source)

            never_read : is_done x.wire.receive_state ≡ true → ⊥
            never_read d = let never : false ≡ true = sym ((λ i. e i || r.unread (whole p c).unread i)) ∙ k.0.unread x l d in cc

            told : (is_done x.wire.receive_state ≡ true) ⊎ (has_given_all w.options other.node.kind progress ≡ true) → ((x : Pipe) × Leaves w n x × IsComplete x × (HasGivenAll w other → HasGivenAll v y)) ⊎ HasGivenAll v y
            told (inl d) = absurd (never_read d)
            told (inr g) = inr (all g)

            of : (is_done x.wire.send_state ≡ true) ⊎ (x.wire.sender ≡ m) × (is_done (get_or a.outputs x.wire.port x.wire.send_state) ≡ true) → ((x : Pipe) × Leaves w n x × IsComplete x × (HasGivenAll w other → HasGivenAll v y)) ⊎ HasGivenAll v y
            of (inl old) = absurd (let never : true ≡ false = sym old ∙ e in cc)
            of (inr now) = told (source_done (given_at w m).outputs (has_given_all w.options other.node.kind progress) x.wire.port x.wire.receive_state x.wire.send_state reader e (ap (λ outs. is_done (get_or outs x.wire.port x.wire.send_state)) (sym said) ∙ now.1))

    update_keeps : Facts F (updated w m other progress) → Keeps F n (updated w m other progress)
    update_keeps fu = subst (Keeps F n) (sym updated_is) (by (subst (Facts F) updated_is fu) (cases_eq n m))
      where
        by : Facts F v → (n ≡ m) ⊎ (n ≢ m) → Keeps F n v
        by fv (inl same) = own_updated fv same
        by fv (inr apart) = other_updated fv apart

  -- A FILL
  fill_keeps : (w : World) (m : ℕ) (other : Node) (progress : Progress) → FillsAt F w m other progress → Facts F (with_progress m progress w) → Keeps F n w → Keeps F n (with_progress m progress w)
  fill_keeps w m other progress t fu h = subst (Keeps F n) (sym is) (by (subst (Facts F) is fu) (cases_eq n m))
    where
      v : World
      v = record w { nodes = slice_set w.nodes m (record other { progress = progress }) }

      is : with_progress m progress w ≡ record w { nodes = slice_set w.nodes m (record other { progress = progress }) }
      is = λ i. put_progress (t.0 i) m progress w

      by : Facts F (record w { nodes = slice_set w.nodes m (record other { progress = progress }) }) → (n ≡ m) ⊎ (n ≢ m) → Keeps F n (record w { nodes = slice_set w.nodes m (record other { progress = progress }) })
      by fv (inl same) y at source =
          let here : slice_get (slice_set w.nodes m (record other { progress = progress })) n ≡ Some (record other { progress = progress }) =
          ap (slice_get (slice_set w.nodes m (record other { progress = progress }))) same ∙ set_here w.nodes m other (record other { progress = progress }) t.0 in
          let q : Some (record other { progress = progress }) ≡ Some y = sym here ∙ at in
          let y_is : record other { progress = progress } ≡ y = cc in
          absurd (never_waits other.node.kind other.progress (given_at w m) (subst (λ (z : Node). IsSource z.node.kind) (sym y_is) source) t.1.0)
      by fv (inr apart) y at source =
          let k = h y (sym (set_other w.nodes m n (record other { progress = progress }) apart) ∙ at) source in (
            record {
              done = λ q c d. absurd (no_pipe F n (record w { nodes = slice_set w.nodes m (record other { progress = progress }) }) y fv at source q c);
              read = λ q c d. absurd (no_pipe F n (record w { nodes = slice_set w.nodes m (record other { progress = progress }) }) y fv at source q c);
              unread = k.0.unread;
            },
            record { answers = k.1.answers; pieces = k.1.pieces; completes = k.1.completes },
          )

  pub updates_keep : (w s : World) → Updates F w s → Facts F w → IsFalse w.is_open → Keeps F n w → Keeps F n s
  updates_keep w s no_update f shut h = h
  updates_keep w s (one_update m other progress t u) f shut h =
      let next = updates_keep_facts F w (updated w m other progress) (one_update m other progress t no_update) f shut in
      updates_keep (updated w m other progress) s u next.0 next.1 (update_keeps w m other progress f t h next.0)
  updates_keep w s (one_fill m other progress t u) f shut h =
      let next = updates_keep_facts F w (with_progress m progress w) (one_fill m other progress t no_update) f shut in
      updates_keep (with_progress m progress w) s u next.0 next.1 (fill_keeps w m other progress t next.0 h)

  -- AN OPEN: the nodes and pipes get marks alone
  module _ (s : World) (node : Node) (there : slice_get s.nodes n ≡ Some node) where
    bare : (v : World) → v.options ≡ s.options → v.outs ≡ s.outs → v.pipes ≡ s.pipes → v.nodes ≡ s.nodes → StepOf F s v n node
    bare v options outs pipes nodes =
        record {
          options = options;
          outputs = λ y l. (y, (subst (λ ps. Contains ps y) pipes l.0, l.1), itself (MayCome F s n) y);
          pieces = λ q c e. inl (subst (λ qs. Contains qs q) outs c);
          sent = λ y e. let is = same_node s n y node (ap (λ ns. slice_get ns n) (sym nodes) ∙ e) there in (ap (λ (z : Node). z.node) is, inl (ap (λ (z : Node). z.progress.sent) is));
        }

    abbrev Marks : Node → Node → Type 0
    Marks x y = (y.node ≡ x.node) × (y.progress ≡ x.progress)

    mark : Pipe → Pipe
    mark p = record p { in_phase = is_in_phase (length s.nodes) (intensive_at s) (wires_of s) p.wire }

    phase_step : (phase : ℕ) (journal : List Record) → StepOf F s (record (with_phase s) { phase = phase; journal = journal }) n node
    phase_step phase journal =
        record {
          options = refl;
          outputs = λ y l.
              let x = from_map (λ (p : Pipe). record p { in_phase = is_in_phase (length s.nodes) (intensive_at s) (wires_of s) p.wire }) y s.pipes l.0 in
              let onto : Onto (MayCome F s n) x.0 (record x.0 { in_phase = is_in_phase (length s.nodes) (intensive_at s) (wires_of s) x.0.wire }) = record { wire = refl; unread = refl; lost = λ d. d; got = λ k rs e. inl e } in
              (x.0, (x.1, ap (λ (p : Pipe). p.wire.sender) x.2 ∙ l.1), subst (Onto (MayCome F s n) x.0) x.2 onto);
          pieces = λ q c e. inl c;
          sent = λ y e.
              let x = marked_from Marks (λ z b. (refl, refl)) (nodes_of_phase s) 0 s.nodes n y e in
              let is = same_node s n x.0 node x.1 there in
              (x.2.0 ∙ ap (λ (z : Node). z.node) is, inl (ap (λ (z : Progress). z.sent) x.2.1 ∙ ap (λ (z : Node). z.progress.sent) is));
        }

    open_step : (phase : ℕ) → StepOf F s (after_open s phase) n node
    open_step phase = by (is_empty (blockers_in s))
      where
        by : (b : Bool) → StepOf F s (record (cond b (record s { ending = finished }) (with_phase s)) { phase = phase; journal = s.journal ++ opened phase ∷ [] }) n node
        by true = bare (record s { ending = finished; phase = phase; journal = s.journal ++ opened phase ∷ [] }) refl refl refl refl
        by false = phase_step phase (s.journal ++ opened phase ∷ [])

  -- a world in which the source stands, after any step
  by_step : (w v : World) → Facts F v → ((node : Node) → slice_get w.nodes n ≡ Some node → IsSource node.node.kind → StepOf F w v n node) → ((y : Node) → slice_get v.nodes n ≡ Some y → IsSource y.node.kind → (x : Node) × (slice_get w.nodes n ≡ Some x) × IsSource x.node.kind) → Keeps F n w → Keeps F n v
  by_step w v fv step back h y at source =
      let x = back y at source in
      step_keeps F n w v x.0 fv x.1 (step x.0 x.1 x.2) h y at source

  -- a source of a world of the same shape was one before
  back : (w v : World) → shape_of v ≡ shape_of w → (y : Node) → slice_get v.nodes n ≡ Some y → IsSource y.node.kind → (x : Node) × (slice_get w.nodes n ≡ Some x) × IsSource x.node.kind
  back w v same y at source =
      let x = node_of w n y.node (ap (λ ps. slice_get ps n) (sym same) ∙ in_shape v n y at) in
      (x.0, x.1, subst (λ (p : PhysicalNode). IsSource p.kind) (sym x.2) source)

  opens_keep : (w v u : World) (phase : ℕ) → Facts F v → shape_of v ≡ shape_of u → Opens F u phase v → Keeps F n u → Keeps F n v
  opens_keep w v u phase fv same (settles rest e) h = by_step u v fv (λ x at source. subst (λ z. StepOf F u z n x) (sym e) (open_step u x at phase)) (back u v same) h
  opens_keep w v u phase fv same (breaks m c found e) h = by_step u v fv (λ x at source. subst (λ z. StepOf F u z n x) (sym e) (bare u x at (after_fault u phase c) refl refl refl refl)) (back u v same) h

  any_step : (w v : World) (r : Record) → Known F w → Steps F w r v → Keeps F n w → Keeps F n v
  any_step w v (opened phase) known s h =
      let u = updates_keep w s.3.0 s.3.1 known.facts s.0 h in
      let same = shape_kept F w v (opened phase) s ∙ sym (shapes_kept F w s.3.0 s.3.1) in
      opens_keep w v s.3.0 phase (known_step F w v (opened phase) known s).facts same s.3.2 u
  any_step w v (claimed m i number worker) known s h =
      by_step w v (known_step F w v (claimed m i number worker) known s).facts (λ x at source. subst (λ z. StepOf F w z n x) (sym s.5.3) (claim_step F w n x at (single x.node.kind source) m i worker s.0 s.5.0 s.1.0 s.5.1)) (back w v (shape_kept F w v (claimed m i number worker) s)) h
  any_step w v (handed_in m i number worker handed) known s h =
      by_step w v (known_step F w v (handed_in m i number worker handed) known s).facts (λ x at source. subst (λ z. StepOf F w z n x) (sym s.7.3) (answer_step F w n x at (single x.node.kind source) s.0 s.7.0 s.1 s.7.1)) (back w v (shape_kept F w v (handed_in m i number worker handed) s)) h
  any_step w v (pulled m i number) known s h =
      by_step w v (known_step F w v (pulled m i number) known s).facts (λ x at source. subst (λ z. StepOf F w z n x) (sym s.4.8) (pull_step F w n x at (single x.node.kind source) m i s.0 s.4.0 s.4.1 s.1.0)) (back w v (shape_kept F w v (pulled m i number) s)) h
  any_step w v (closed m) known s h =
      by_step w v (known_step F w v (closed m) known s).facts (λ x at source. subst (λ z. StepOf F w z n x) (sym s.4) (close_step F w n x at (single x.node.kind source) m s.0 s.1.0)) (back w v (shape_kept F w v (closed m) s)) h
  any_step w v (ended phase) known s h =
      by_step w v (known_step F w v (ended phase) known s).facts (λ x at source. subst (λ z. StepOf F w z n x) (sym s.4) (end_step F w n x at (single x.node.kind source))) (back w v (shape_kept F w v (ended phase) s)) h

  -- as what the families keep
  to_keeps : (w : World) → Holds F w n → Keeps F n w
  to_keeps w h node at source = let k = h node at in (k.pipes, of_kind F w n node node.node.kind source k.own)

  from_keeps : (v : World) (p : PhysicalNode) → slice_get (shape_of v) n ≡ Some p → IsSource p.kind → Keeps F n v → Holds F v n
  from_keeps v p e source h y at =
      let q : Some y.node ≡ Some p = sym (in_shape v n y at) ∙ e in
      let is : y.node ≡ p = cc in
      let mine = subst (λ (z : PhysicalNode). IsSource z.kind) (sym is) source in
      let k = h y at mine in
      record { pipes = k.0; own = to_kind F v n y y.node.kind mine k.1 }

pub sources_keep : (F : Functions) (w v : World) (r : Record) (n : ℕ) (p : PhysicalNode) → Known F w → slice_get (shape_of w) n ≡ Some p → IsSource p.kind → Steps F w r v → Holds F w n → Holds F v n
sources_keep F w v r n p known e source s h = from_keeps F n v p (ap (λ ps. slice_get ps n) (shape_kept F w v r s) ∙ e) source (any_step F n w v r known s (to_keeps F n w h))

pub sources_keep_updating : (F : Functions) (w s : World) (n : ℕ) (p : PhysicalNode) → Known F w → slice_get (shape_of w) n ≡ Some p → IsSource p.kind → IsFalse w.is_open → Updates F w s → Holds F w n → Holds F s n
sources_keep_updating F w s n p known e source shut u h = from_keeps F n s p (ap (λ ps. slice_get ps n) (shapes_kept F w s u) ∙ e) source (updates_keep F n w s u known.facts shut (to_keeps F n w h))
