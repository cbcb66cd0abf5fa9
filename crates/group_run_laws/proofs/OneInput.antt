-- The one input of a reduce or a group-by in a reached world: what came of it, the morsel of a piece that keeps one, and what is found over it.
use Rattle.std.proofs.Common.{◌≡◌, ℕ, ◌⊎◌, Bool, true, false, List, [], ◌∷◌, length, take, Some, None, refl, sym, ap, subst, ◌∙◌, inl, inr, arith}
use Rattle.std.specs.Prelude.{Contains, get_or, map, slice_get, ◌&&◌}
use Rattle.std.proofs.lemmas.List.{length-map}
use Rattle.std.proofs.lemmas.Option.{slice_get_within}
use Rattle.ps_frame.specs.Causes.{Cause}
use Rattle.ps_frame.specs.Functions.{Functions}
use Rattle.ps_frame.specs.Tables.{Fields, Row, Table}
use Rattle.ps_meaning.specs.Cases.{rows_table}
use Rattle.ps_meaning.specs.Shape.{PhysicalKind, PhysicalNode, reduce, group_by_node}
use Rattle.ps_meaning.specs.Sound.{input_schemas, schema_at}
use Rattle.ps_ports.specs.Ports.{Sides}
use Rattle.ps_turns.specs.Heads.{Head}
use Rattle.ps_turns.specs.Progress.{makes_table}
use Rattle.ps_turns.specs.Pulls.{pulls}
use Rattle.ps_turns.specs.Results.{BreaksPartial, IsBrokenOver, IsResult, IsResultOf}
use Rattle.ps_turns.specs.Tables.{whole_tables}
use Rattle.ps_turns.specs.Tasks.{Piece, bad, keeps}
use Rattle.ps_turns.specs.Updates.{shape_fault, BreaksTable}
use Rattle.ps_world.specs.Facts.{keeps_one, slots_of}
use Rattle.ps_world.specs.Laws.{Faults, MakesFault, Overflows, sent_at, sent_by, sent_to}
use Rattle.ps_world.specs.Updates.{FaultFound, given_at}
use Rattle.ps_world.specs.World.{Node, Pipe, Record, World, claimed, closed, ended, handed_in, heads_of, opened, pipes_in, pulled, rows_in_order, schemas_for, shape_of}
use Rattle.world_claims.specs.Numbering.{Known}
use Rattle.world_families.proofs.Members.{nothing_is}
use Rattle.world_families.specs.Keepers.{IsKeptOf, schema_of_input, slots_at}
use Rattle.world_families.specs.Work.{Enters, Work, rows_received, work_of}
use Rattle.world_laws.proofs.Answered.{in_shape}
use Rattle.world_laws.proofs.Shapes.{updates_keep}
use Rattle.family_fronts.proofs.FrontsLaw.{only_one}
use Rattle.family_pipes.proofs.Inputs.{enters, inputs_long, sent_to_is}
use Rattle.family_pipes.proofs.Sent.{node_of}
use Rattle.family_pipes.proofs.SourceSteps.{same_node}
use Rattle.orderly_worlds.proofs.ReadRows.{came_to}
use Rattle.passing_runs.proofs.Slots.{Came, taken_stands}
use Rattle.part_laws.specs.Parts.{ShowsParts}
use Rattle.part_laws.proofs.Received.{Around, IsShownWhatever, shown-whatever, stands-around}
use Rattle.keeper_laws.proofs.MadeFaults.{Names}
use Rattle.group_run_laws.proofs.Morsels.{IsSlotted, inputs_one, one_pipe, slots_long}

alone : {A : Type 0} (xs : List A) (d : A) → length xs ≡ 1 → xs ≡ get_or xs 0 d ∷ []
alone [] d e = absurd (omega (arith, e))
alone (x ∷ []) d e = refl
alone (x ∷ y ∷ xs) d e = absurd (omega (arith, e))

-- NEITHER AN OPEN NOR A PULL FINDS A FAULT
no_shape : (p : PhysicalNode) (kind : PhysicalKind) (hs : List Head) (given : Sides) (c : Cause) → IsSlotted kind → shape_fault p kind hs given ≡ Some c → ⊥
no_shape p (reduce es) hs given c s e = nothing_is c e
no_shape p (group_by_node keys aggregates) hs given c s e = nothing_is c e
no_shape p kind hs given c s e = let no : false ≡ true = s in cc

makes_none : (kind : PhysicalKind) → IsSlotted kind → makes_table kind ≡ false
makes_none (reduce es) s = refl
makes_none (group_by_node keys aggregates) s = refl
makes_none kind s = absurd (let no : false ≡ true = s in cc)

pulls_none : (kind : PhysicalKind) → IsSlotted kind → pulls kind ≡ false
pulls_none (reduce es) s = refl
pulls_none (group_by_node keys aggregates) s = refl
pulls_none kind s = absurd (let no : false ≡ true = s in cc)

first_of_two : (a b : Bool) → (a && b) ≡ true → a ≡ true
first_of_two true b e = refl
first_of_two false b e = e

pub opens_find_none : (F : Functions) (s : World) (n : ℕ) (node : Node) (c : Cause) → slice_get s.nodes n ≡ Some node → IsSlotted node.node.kind → FaultFound F s n c → ⊥
opens_find_none F s n node c there sl (x, at, found) = by found
  where
    is : IsSlotted x.node.kind
    is = subst (λ (z : Node). IsSlotted z.node.kind) (same_node s n node x there at) sl

    by : (shape_fault x.node x.node.kind (heads_of s n x) (given_at s n) ≡ Some c) ⊎ BreaksTable F s.options x.node (schemas_for s x) (given_at s n) x.progress c → ⊥
    by (inl shape) = no_shape x.node x.node.kind (heads_of s n x) (given_at s n) c is shape
    by (inr (makes, broken)) = let no : true ≡ false = sym (first_of_two (makes_table x.node.kind) _ makes) ∙ makes_none x.node.kind is in cc

module _ (F : Functions) (w : World) (n : ℕ) (node : Node) (known : Known F w) (there : slice_get w.nodes n ≡ Some node) (sl : IsSlotted node.node.kind) where
  pub shows : slice_get (shape_of w) n ≡ Some node.node
  shows = in_shape w n node there

  -- its one input
  pub input : (q : Pipe) × (pipes_in w n ≡ q ∷ [])
  input = only_one (pipes_in w n) (inputs_long F w known.facts n node there ∙ inputs_one F w n node known there sl)

  pub comes : Enters w n input.0 × (input.0.wire.input ≡ 0)
  comes = enters F w known.facts n 0 input.0 (ap (λ (qs : List Pipe). slice_get qs 0) input.1)

  abbrev pub schema : Fields
  schema = schema_of_input w node 0

  pub reads : input_schemas (shape_of w) node.node ≡ schema_of_input w node 0 ∷ []
  reads = alone (input_schemas (shape_of w) node.node) [] (length-map node.node.inputs (λ (i : ℕ × ℕ). schema_at (slice_get (shape_of w) i.0)) ∙ inputs_one F w n node known there sl)

  pub received : whole_tables (schemas_for w node) (rows_received w n) ≡ rows_table (schema_of_input w node 0) (rows_in_order input.0.got) ∷ []
  received = λ i. whole_tables (reads i) (map (λ (q : Pipe). rows_in_order q.got) (input.1 i))

  pub came : sent_to (sent_at w) node.node ≡ sent_by input.0 ∷ []
  came = sent_to_is F w known.facts n node there shows ∙ ap (map sent_by) input.1

  -- WHAT IS FOUND OVER IT
  pub names : (c : Cause) → c.node ≡ node.node.origin → IsShownWhatever F node.node (schema_of_input w node 0) (sent_by input.0) c → Names F w node.node c
  names c own m =
      subst (λ ss. Faults F node.node ss (sent_to (sent_at w) node.node) c ⊎ Overflows F node.node ss (sent_to (sent_at w) node.node) c) (sym reads)
      (subst (λ ins. Faults F node.node (schema_of_input w node 0 ∷ []) ins c ⊎ Overflows F node.node (schema_of_input w node 0 ∷ []) ins c) (sym came) (by m))
    where
      by : IsShownWhatever F node.node (schema_of_input w node 0) (sent_by input.0) c → Faults F node.node (schema_of_input w node 0 ∷ []) (sent_by input.0 ∷ []) c ⊎ Overflows F node.node (schema_of_input w node 0 ∷ []) (sent_by input.0 ∷ []) c
      by (inl breaks) = inl (own, breaks)
      by (inr large) = inr large

  -- THE MORSEL OF A PIECE THAT KEEPS ONE
  pub record KeptMorsel (q : Piece) : Type 0 where
    pub rows : List Row
    pub work : work_of q ≡ record { task = keeps node.node; schemas = schema_of_input w node 0 ∷ []; tables = rows ∷ [] }
    pub front : List Row
    pub around : Around front rows (rows_in_order input.0.got)

  pub kept_morsel : (q : Piece) → Contains w.outs q → q.node ≡ n → IsKeptOf w n node 0 q → KeptMorsel q
  kept_morsel q c e (zero_input, z, enters, at_zero, (rs, at, work)) =
      record { rows = rs; work = work; front = rows_in_order (take q.number z.got); around = subst (λ (x : Pipe). Around (rows_in_order (take q.number z.got)) rs (rows_in_order x.got)) is_input (stands-around z.got q.number (rows_in_order (take q.number z.got)) rs (taken_stands z.got q.number rs before at)) }
    where
      is_input : z ≡ input.0
      is_input = one_pipe F w n node known there sl z input.0 enters comes.0

      here : slice_get w.nodes q.node ≡ Some node
      here = ap (slice_get w.nodes) e ∙ there

      waited : slice_get (slots_at node 0) q.number ≡ Some None
      waited = sym (λ i. slice_get (slots_of (here i) (zero_input i)) q.number) ∙ (known.facts.expected q c).0 (ap (λ (x : Work). keeps_one x.task) work)

      before : Came z.got q.number
      before k less =
          let within = slice_get_within (slots_at node 0) q.number None waited in
          let long = slots_long F w n node known there sl z enters in
          came_to F w known z enters.0 k (omega (arith, less, within, long))

  pub kept_names : ShowsParts F node.node (schema_of_input w node 0) → ((c : Cause) (i : ℕ) (ts : List Table) → BreaksPartial F node.node node.node.kind i ts c → IsBrokenOver F node.node ts c) → (q : Piece) → Contains w.outs q → q.node ≡ n → IsKeptOf w n node 0 q → (c : Cause) → c.node ≡ node.node.origin → IsResult F q (bad c) → Names F w node.node c
  kept_names parts breaks q cq e kept c own r =
      let m = kept_morsel q cq e kept in
      let broken = breaks c q.input (rows_table (schema_of_input w node 0) m.rows ∷ []) (subst (λ (x : Work). IsResultOf F x.task q.input (whole_tables x.schemas x.tables) x.tables (bad c)) m.work r) in
      names c own (shown-whatever F node.node (schema_of_input w node 0) (sent_by input.0) parts m.front m.rows m.around c broken)

  -- so its own hand-ins are all that finds a cause
  pub only_hand_ins : ((q : Piece) → Contains w.outs q → q.node ≡ n → (c : Cause) → c.node ≡ node.node.origin → IsResult F q (bad c) → Names F w node.node c) → (r : Record) (c : Cause) → c.node ≡ node.node.origin → MakesFault F w r n c → Names F w node.node c
  only_hand_ins pieces (opened phase) c own (shut, (s, updates, found)) =
      let x = node_of s n node.node (ap (λ z. slice_get z n) (updates_keep F w s updates) ∙ shows) in
      absurd (opens_find_none F s n x.0 c x.1 (subst (λ (p : PhysicalNode). IsSlotted p.kind) (sym x.2) sl) found)
  only_hand_ins pieces (handed_in m i number worker handed) c own (at, q, cq, e, r) = pieces q cq e c own r
  only_hand_ins pieces (pulled m i number) c own (at, v, step, faulty) =
      let same = same_node w m step.0 node step.1.0 (ap (slice_get w.nodes) at ∙ there) in
      absurd (let no : true ≡ false = sym step.2 ∙ ap (λ (x : Node). pulls x.node.kind) same ∙ pulls_none node.node.kind sl in cc)
  only_hand_ins pieces (claimed m i number worker) c own f = absurd f
  only_hand_ins pieces (closed m) c own f = absurd f
  only_hand_ins pieces (ended phase) c own f = absurd f
