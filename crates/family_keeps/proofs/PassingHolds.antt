-- What the families keep of a passing node holds in every reached world.
use Rattle.std.proofs.Common.{◌≡◌, ℕ, zero, suc, true, false, List, [], ◌∷◌, ◌++◌, length, take, Option, Some, None, refl, sym, ap, subst, ◌∙◌, arith}
use Rattle.std.specs.Prelude.{Contains, get_or, slice_get}
use Rattle.ps_frame.specs.Functions.{Functions}
use Rattle.ps_frame.specs.Tables.{Fields, Row}
use Rattle.ps_meaning.specs.Shape.{PhysicalKind, PhysicalNode, Shape, filter_node, select_node, simple_projection, stream_map, streaming_slice, with_row_index}
use Rattle.ps_meaning.specs.Sound.{HasReaders, IsSound, input_schemas}
use Rattle.ps_options.specs.declared.options.Options.{Options}
use Rattle.ps_ports.specs.declared.port_state.PortState.{PortState}
use Rattle.ps_turns.specs.Claims.{passes}
use Rattle.ps_turns.specs.Progress.{Progress}
use Rattle.ps_turns.specs.Tasks.{Piece}
use Rattle.ps_world.specs.Booking.{EndsAfter, GivesAfter, GivesNoMore, HasBooked, IsPassing, StandsAt}
use Rattle.ps_world.specs.Laws.{sent_by}
use Rattle.ps_world.specs.Opening.{Reaches, opening}
use Rattle.ps_world.specs.Phases.{with_phase}
use Rattle.ps_world.specs.Updates.{TurnsAt, given_at}
use Rattle.ps_world.specs.World.{Node, Pipe, Record, World, rows_in_order, schemas_for, shape_of}
use Rattle.world_claims.proofs.ReachedFacts.{known_reached}
use Rattle.world_claims.specs.Numbering.{Known}
use Rattle.world_facts.proofs.Placing.{has_readers, inputs_given}
use Rattle.world_laws.proofs.Agree.{from_map}
use Rattle.world_laws.proofs.Answered.{in_shape}
use Rattle.family_pipes.proofs.Begins.{begins}
use Rattle.family_pipes.proofs.SourceSteps.{same_node}
use Rattle.world_families.specs.Holds.{Holds}
use Rattle.world_families.specs.Onward.{HoldsPassing, IsMorselWork}
use Rattle.world_families.specs.Work.{Enters, Leaves, asked_by, work_of}
use Rattle.passing_fronts.proofs.PassingKinds.{of_kind, one_input, single, to_kind}
use Rattle.passing_fronts.proofs.PassingLaw.{came, goes, input, schema}
use Rattle.passing_runs.proofs.Kept.{AllPassing, PieceStands}
use Rattle.passing_runs.proofs.Reached.{reached_passing}
use Rattle.passing_runs.proofs.Still.{still_keeps}
use Rattle.family_keeps.proofs.Answered.{AllAnswered, all_answered, still_answered}
use Rattle.family_keeps.proofs.Done.{DoneFits}
use Rattle.orderly_worlds.proofs.Goes.{IsTakenBy, IsTakenOf, NoneTaken}
use Rattle.family_keeps.proofs.Holding.{IsNear, OwnLaw, keeps_reached, near_reached}
use Rattle.orderly_worlds.proofs.Orderly.{Orderly}
use Rattle.family_keeps.proofs.Passing.{EndsWhole, ends_step, ends_turned}
use Rattle.orderly_worlds.proofs.Reaching.{orderly_reached}
use Rattle.orderly_worlds.proofs.Says.{reader_pipe}
use Rattle.orderly_worlds.proofs.Seen.{Seen, TakenElsewhere, claims, pulls_in, stands_still}
use Rattle.family_keeps.proofs.SinkLaw.{pipes_hold}
use Rattle.family_keeps.proofs.Sinks.{first_input}
use Rattle.orderly_worlds.proofs.Stands.{Stands}
use Rattle.orderly_worlds.proofs.Turned.{turned}
use Rattle.family_keeps.proofs.Turns.{turn_leaves}
use Rattle.family_keeps.proofs.UnionTurns.{mark_of, unmark}
use Rattle.world_families.specs.Kinds.{HandsOn}

-- the rows before a morsel are those that stand in front of it
stands_read : (got : List (Option (List Row))) (k : ℕ) (front a : List Row) → StandsAt got k front a → (front ≡ rows_in_order (take k got)) × (slice_get got k ≡ Some (Some a))
stands_read [] k front a s = absurd s
stands_read (None ∷ got) k front a s = absurd s
stands_read (Some rs ∷ got) zero front a s = (s.0, ap (λ z. Some (Some z)) s.1)
stands_read (Some rs ∷ got) (suc k) front a s = let r = stands_read got k s.0 a s.2 in (s.1 ∙ ap (λ z. rs ++ z) r.0, r.1)

-- the work of a claim hangs on the rows that were booked, and not on the options
same_work : (o u : Options) (p : PhysicalNode) (ss : List Fields) (kind : PhysicalKind) → IsPassing kind → (a b : Progress) (k : ℕ) (rs : List Row) → HasBooked kind a b.booked → asked_by (passes o p ss kind a k rs) ≡ asked_by (passes u p ss kind b k rs)
same_work o u p ss (streaming_slice offset n) h a b k rs e = ap (λ j. asked_by (passes u p ss (streaming_slice offset n) (record b { booked = j }) k rs)) e
same_work o u p ss (with_row_index name offset) h a b k rs e = ap (λ j. asked_by (passes u p ss (with_row_index name offset) (record b { booked = j }) k rs)) e
same_work o u p ss (filter_node x) h a b k rs e = refl
same_work o u p ss (select_node es extends) h a b k rs e = refl
same_work o u p ss (simple_projection names) h a b k rs e = refl
same_work o u p ss (stream_map step) h a b k rs e = refl
same_work o u p ss kind h a b k rs e = absurd h

-- a piece that stands so is the claim of its morsel
morsel_work : (w : World) (n : ℕ) (node : Node) (s : Fields) (from : Pipe) (x : Piece) → schemas_for w node ≡ s ∷ [] → IsPassing node.node.kind → Enters w n from → PieceStands node.node s n from x → IsMorselWork w n node x
morsel_work w n node s from x schemas passing c h =
    let r = stands_read from.got x.gives h.front h.rows h.stands in
    let b : Progress = record node.progress { booked = length (rows_in_order (take x.gives from.got)) } in
    let booked = subst (λ z. HasBooked node.node.kind h.progress (length z)) r.0 h.booked in
    let work : work_of x ≡ asked_by (passes h.options node.node (s ∷ []) node.node.kind h.progress x.gives h.rows) = ap work_of h.claimed in
    (from, h.rows, c, r.1, work ∙ same_work h.options w.options node.node (s ∷ []) node.node.kind passing h.progress b x.gives h.rows booked ∙ ap (λ ss. asked_by (passes w.options node.node ss node.node.kind b x.gives h.rows)) (sym schemas))

abbrev schema_in : World → Node → Fields
schema_in w node = get_or (schemas_for w node) 0 []

same_schema : (w v : World) (x y : Node) → shape_of v ≡ shape_of w → y.node ≡ x.node → schema_in v y ≡ schema_in w x
same_schema w v x y shape node = λ i. get_or (input_schemas (shape i) (node i)) 0 []

-- WHAT A WORLD KEEPS OF IT
abbrev EndsOf : Functions → ℕ → World → Node → Type 0
EndsOf F n w node = EndsWhole F w n node.node (schema_in w node)

ends_on_node : (F : Functions) (n : ℕ) (w v : World) (x y : Node) → shape_of v ≡ shape_of w → y.node ≡ x.node → EndsWhole F v n x.node (schema_in w x) → EndsOf F n v y
ends_on_node F n w v x y shape node h = subst (λ s. EndsWhole F v n y.node s) (sym (same_schema w v x y shape node)) (subst (λ p. EndsWhole F v n p (schema_in w x)) (sym node) h)

hands_on_passing : (kind : PhysicalKind) → IsPassing kind → HandsOn kind
hands_on_passing (streaming_slice offset c) h = tt
hands_on_passing (with_row_index name offset) h = tt
hands_on_passing (filter_node x) h = tt
hands_on_passing (select_node es extends) h = tt
hands_on_passing (simple_projection names) h = tt
hands_on_passing (stream_map step) h = tt
hands_on_passing kind h = absurd h

module _ (F : Functions) (n : ℕ) where
  -- in a world near a reached one
  record Near (w : World) (node : Node) : Type 0 where
    passes_all : AllPassing F n node.node (schema_in w node) w
    answers_all : AllAnswered F n node.node (schema_in w node) w

  near_passing : (w : World) (node : Node) → Known F w → IsNear F w → slice_get w.nodes n ≡ Some node → IsPassing node.node.kind → Near w node
  near_passing w node known near there passing = by near
    where
      shows : slice_get (shape_of w) n ≡ Some node.node
      shows = in_shape w n node there

      s : (s : Fields) × (input_schemas (shape_of w) node.node ≡ s ∷ [])
      s = schema F w n node known there shows passing

      is_s : schema_in w node ≡ s.0
      is_s = ap (λ ss. get_or ss 0 []) s.1

      by : IsNear F w → Near w node
      by (shape, o, u, sound, r, still, same) =
          let at : slice_get shape n ≡ Some node.node = ap (λ x. slice_get x n) (sym same) ∙ shows in
          let reads : input_schemas shape node.node ≡ s.0 ∷ [] = ap (λ x. input_schemas x node.node) (sym same) ∙ s.1 in
          let law = goes F w n node known there shows passing in
          let a = still_keeps F n node.node s.0 u w still (reached_passing F shape n node.node s.0 at passing reads law o u sound r) in
          let b = still_answered F n node.node s.0 u w still (all_answered F shape n node.node s.0 at passing reads law o sound u r) in
          record { passes_all = subst (λ z. AllPassing F n node.node z w) (sym is_s) a; answers_all = subst (λ z. AllAnswered F n node.node z w) (sym is_s) b }

  -- it has an output
  some_port : (os : List PortState) → length os ≡ 1 → (s : PortState) × (slice_get os 0 ≡ Some s)
  some_port [] e = absurd (omega arith)
  some_port (o ∷ os) e = (o, refl)

  one_reader : (kind : PhysicalKind) (k : ℕ) → IsPassing kind → HasReaders kind k → k ≡ 1
  one_reader (streaming_slice offset c) k h r = r
  one_reader (with_row_index name offset) k h r = r
  one_reader (filter_node x) k h r = r
  one_reader (select_node es extends) k h r = r
  one_reader (simple_projection names) k h r = r
  one_reader (stream_map step) k h r = r
  one_reader kind k h r = absurd h

  output : (w : World) (node : Node) → Known F w → slice_get w.nodes n ≡ Some node → IsPassing node.node.kind → (z : Pipe) × Leaves w n z
  output w node known there passing =
      let s = some_port (given_at w n).outputs (one_reader node.node.kind (length (given_at w n).outputs) passing (has_readers F w known.facts n node there)) in
      let z = reader_pipe w n 0 s.0 s.1 in
      (z.0, (z.1, z.2))

  inputs_one : (w : World) (node : Node) → Known F w → slice_get w.nodes n ≡ Some node → IsPassing node.node.kind → length node.node.inputs ≡ 1
  inputs_one w node known there passing = one_input node.node.kind (length node.node.inputs) passing (known.facts.sound.0 n node.node (in_shape w n node there)).inputs

  node_stays : (w v : World) (node y : Node) → slice_get v.nodes n ≡ Some y → Seen F w v n node → y.node ≡ node.node
  node_stays w v node y at (stands_still g s st outs) = (st y at).node
  node_stays w v node y at (claims i c is g s st outs) = (st y at).node
  node_stays w v node y at (pulls_in i p rs pulling cp inp is g s st outs) = (st y at).node

  of_seen : (w v : World) (node : Node) → Orderly F w → w.is_open ≡ true → Seen F w v n node → EndsOf F n w node → EndsWhole F v n node.node (schema_in w node)
  of_seen w v node o started (stands_still g s st outs) h = ends_step F w v n node.node (schema_in w node) o started (TakenElsewhere n) NoneTaken (λ x t. t.1) g h
  of_seen w v node o started (claims i c is g s st outs) h = ends_step F w v n node.node (schema_in w node) o started (IsTakenOf n i) (IsTakenBy n i c.takes_morsel) (λ x t. t.1) g h
  of_seen w v node o started (pulls_in i p rs pulling cp inp is g s st outs) h = ends_step F w v n node.node (schema_in w node) o started (IsTakenOf n i) (IsTakenBy n i true) (λ x t. t.1) g h

  of_turn : (w : World) (m : ℕ) (other : Node) (progress : Progress) (node y : Node) → IsNear F w → (o : Orderly F w) (shut : w.is_open ≡ false) (t : TurnsAt F w m other progress) → Known F (turned w m other progress t.0) → shape_of (turned w m other progress t.0) ≡ shape_of w → slice_get w.nodes n ≡ Some node → Stands node y
      → IsPassing node.node.kind → DoneFits w n → EndsOf F n w node → EndsOf F n (turned w m other progress t.0) y
  of_turn w m other progress node y near o shut t kv shape there s is done h =
      let l = turn_leaves F w.options other.node (schemas_for w other) (given_at w m) other.progress progress t.2 in
      let k = near_passing w node o.known near there is in
      let out = output w node o.known there is in
      let long = inputs_one w node o.known there is in
      ends_on_node F n w (turned w m other progress t.0) node y shape s.node
      (ends_turned F w m other progress o shut t.0 l.booked kv n node.node (schema_in w node) (λ x e. ap (λ (z : Node). z.node) (same_node w n x node e there)) is (λ q r cq cr. k.answers_all q r cq.0 cq.1 cr.0 cr.1)
      (λ x e q cq. (k.passes_all x q out.0 e cq.0 cq.1 out.1.0 out.1.1).booked) done (λ q cq. first_input F w n node o.known there long q cq) (inputs_given F w o.known.facts n node there ∙ long) h)

  of_phase : (s : World) (phase : ℕ) (journal : List Record) (node y : Node) → shape_of (with_phase s) ≡ shape_of s → Stands node y → EndsOf F n s node → EndsOf F n (record (with_phase s) { phase = phase; journal = journal }) y
  of_phase s phase journal node y shape st h =
      ends_on_node F n s (record (with_phase s) { phase = phase; journal = journal }) node y shape st.node
      (λ q r cq cr c.
      let a = from_map (mark_of s) q s.pipes cq.0 in
      let b = from_map (mark_of s) r s.pipes cr.0 in
      subst (λ (z : Pipe). EndsAfter (GivesAfter F node.node (schema_in s node)) (GivesNoMore node.node.kind) (sent_by z).is_complete 0 z.got r.got) a.2
      (subst (λ (z : Pipe). EndsAfter (GivesAfter F node.node (schema_in s node)) (GivesNoMore node.node.kind) (sent_by a.0).is_complete 0 a.0.got z.got) b.2
      (h a.0 b.0 (a.1, ap (λ (p : Pipe). p.wire.receiver) a.2 ∙ cq.1) (b.1, ap (λ (p : Pipe). p.wire.sender) b.2 ∙ cr.1) (unmark s b.0 r b.2 c))))

  passing_law : OwnLaw F n IsPassing (EndsOf F n)
  passing_law =
      record {
        hands = hands_on_passing;
        single = single;
        fresh = λ shape o node sound at is q r cq cr c. ((of_kind F (opening shape o) n node node.node.kind is (begins F shape o n node at).own).answers q r cq cr).completes c;
        step = λ w v node y o kv started shape there at is seen h. ends_on_node F n w v node y shape (node_stays w v node y at seen) (of_seen w v node o started seen h);
        turn = λ w m other progress node y near o shut t kv shape there at s is done h. of_turn w m other progress node y near o shut t kv shape there s is done h;
        still = λ w v node y pipes outs options shape s is h. ends_on_node F n w v node y shape s.node (λ q r cq cr c. h q r (subst (λ ps. Contains ps q) pipes cq.0, cq.1) (subst (λ ps. Contains ps r) pipes cr.0, cr.1) c);
        phase = λ s phase journal node y o rest kv shape there at st is done h. of_phase s phase journal node y shape st h;
      }

-- IN EVERY REACHED WORLD
pub passing_nodes_hold : (F : Functions) (shape : Shape) (o : Options) (w : World) (n : ℕ) (p : PhysicalNode) → IsSound F shape → Reaches F shape o w → slice_get (shape_of w) n ≡ Some p → IsPassing p.kind → Holds F w n
passing_nodes_hold F shape o w n p sound r e is node at =
    let q : Some node.node ≡ Some p = sym (in_shape w n node at) ∙ e in
    let same : node.node ≡ p = cc in
    let passing = subst (λ (x : PhysicalNode). IsPassing x.kind) (sym same) is in
    let known = known_reached F shape o w sound r in
    let k = keeps_reached F n IsPassing (EndsOf F n) (passing_law F n) shape o w sound r node at passing in
    let near = near_passing F n w node known (near_reached F shape o w sound r) at passing in
    let out = output F n w node known at passing in
    let s = schema F w n node known at (in_shape w n node at) passing in
    let own : HoldsPassing F w n node =
    record {
      answers = λ a b ca cb. record { answers = near.answers_all a b ca.0 ca.1 cb.0 cb.1; completes = λ c. k.own a b ca cb c };
      booked = λ a ca. (near.passes_all node a out.0 at ca.0 ca.1 out.1.0 out.1.1).booked;
      pieces = λ x c here. let z = input F w n node known at (in_shape w n node at) passing in let enters = (came F w n node known at (in_shape w n node at) passing).0 in
          morsel_work w n node s.0 z.0 x s.1 passing enters (subst (λ t. PieceStands node.node t n z.0 x) (ap (λ ss. get_or ss 0 []) s.1) ((near.passes_all node z.0 out.0 at enters.0 enters.1 out.1.0 out.1.1).pieces x c here));
    } in
    record { pipes = pipes_hold F w n (orderly_reached F shape o w sound r) k.done; own = to_kind F w n node node.node.kind passing own }
