-- Each kind of node has the law of reached worlds.
use Rattle.std.proofs.Common.{◌≡◌, ℕ, ◌⊎◌, Bool, true, false, List, Some, None, refl, sym, ap, subst, ◌∙◌, inl, inr}
use Rattle.std.specs.Prelude.{Contains, slice_get}
use Rattle.ps_frame.specs.Causes.{Cause}
use Rattle.ps_frame.specs.Functions.{Functions, IsLawful}
use Rattle.ps_meaning.specs.Shape.{PhysicalKind, PhysicalNode, Shape, equi_join, filter_node, group_by_node, in_memory_join, in_memory_map, in_memory_sink, in_memory_source, independent_select, multiplexer, negative_slice, ordered_union, reduce, select_node, simple_projection, stream_map, streaming_slice, with_row_index, zip_node}
use Rattle.ps_meaning.specs.Sound.{IsSound}
use Rattle.ps_meaning.specs.Steps.{JoinStep, Named}
use Rattle.ps_options.specs.declared.options.Options.{Options}
use Rattle.ps_turns.specs.Pulls.{is_store, passes_limit}
use Rattle.ps_turns.specs.Results.{IsResult, rows_fault}
use Rattle.ps_turns.specs.Tasks.{Piece, bad, good}
use Rattle.ps_ports.specs.Ports.{Sides}
use Rattle.ps_turns.specs.Heads.{Head}
use Rattle.ps_turns.specs.Progress.{makes_table}
use Rattle.ps_turns.specs.Updates.{BreaksTable, shape_fault}
use Rattle.ps_world.specs.Laws.{AnyKind, MakesFault}
use Rattle.ps_world.specs.Opening.{Reaches}
use Rattle.ps_world.specs.Pipes.{is_input}
use Rattle.ps_world.specs.Updates.{FaultFound, given_at}
use Rattle.ps_world.specs.World.{Node, Record, World, claimed, closed, ended, handed_in, heads_of, opened, pulled, schemas_for}
use Rattle.world_claims.proofs.ReachedFacts.{known_reached}
use Rattle.world_claims.specs.Numbering.{Known}
use Rattle.world_facts.proofs.CutOff.{both_true}
use Rattle.world_families.proofs.Members.{nothing_is}
use Rattle.world_families.specs.Kinds.{IsStreaming}
use Rattle.world_laws.proofs.Answered.{in_shape}
use Rattle.family_keeps.proofs.Served.{node_justified}
use Rattle.family_pipes.proofs.SourceSteps.{same_node}
use Rattle.fault_origins.proofs.Results.{of_step}
use Rattle.fault_origins.proofs.Tasks.{reached_own}
use Rattle.orderly_worlds.proofs.Reaching.{orderly_reached, updates_orderly}
use Rattle.orderly_worlds.proofs.Stands.{stored_progress}
use Rattle.streaming_answers.proofs.Faults.{finds_none, handed_names, of_limit, pulled_names}
use Rattle.streaming_answers.proofs.Kept.{by_laws, pulls_sink}
use Rattle.streaming_pieces.proofs.PieceResults.{piece_result}
use Rattle.streaming_ports.proofs.StreamPorts.{streaming_ports}
use Rattle.group_run_laws.proofs.GroupAnswers.{group_names, group_results}
use Rattle.group_run_laws.proofs.GroupFronts.{groups_are_justified}
use Rattle.group_run_laws.proofs.GroupHolds.{group_ports}
use Rattle.group_run_laws.proofs.Groups.{is_group}
use Rattle.group_run_laws.proofs.ReduceAnswers.{reduce_names, reduce_results}
use Rattle.group_run_laws.proofs.ReduceHolds.{reduce_ports, reduces_are_justified}
use Rattle.group_run_laws.proofs.Reduces.{is_reduce}
use Rattle.keeper_laws.proofs.MadeLaw.{makers_are_justified}
use Rattle.keeper_laws.proofs.MadeReached.{maker_faults, maker_opens, maker_ports, maker_results}
use Rattle.zip_laws.proofs.Causes.{zip_names}
use Rattle.zip_laws.proofs.MuxLaw.{multiplexers_are_justified, multiplexers_have_no_piece}
use Rattle.zip_laws.proofs.OfShape.{multiplexers_lead, zips_lead}
use Rattle.zip_laws.proofs.Pulls.{pulls_no_fault}
use Rattle.zip_laws.proofs.Results.{zip_result}
use Rattle.zip_laws.proofs.Shapes.{opens_break}
use Rattle.zip_laws.proofs.ZipLaw.{zips_are_justified}
use Rattle.join_run_laws.proofs.Held.{joins_hold, opens_find_none, reached_names, reached_result}
use Rattle.join_run_laws.proofs.JoinLaw.{joins_justified}
use Rattle.join_run_laws.proofs.JoinPorts.{join_ports}
use Rattle.run_promises.specs.NodeLaws.{IsBetween, NamesOwn, ReachedLaw}

-- of the laws of two kinds, that of both
either : (F : Functions) (K L : PhysicalKind → Type 0) → ReachedLaw F K → ReachedLaw F L → ReachedLaw F (λ kind. K kind ⊎ L kind)
either F K L a b =
    record {
      justified = λ shape o w n node sound r at is. by (λ k. a.justified shape o w n node sound r at k) (λ l. b.justified shape o w n node sound r at l) is;
      ports = λ shape o w s n node sound t at is rest. by (λ k. a.ports shape o w s n node sound t at k rest) (λ l. b.ports shape o w s n node sound t at l rest) is;
      results = λ shape o w n node q sound r at is c e. by (λ k. a.results shape o w n node q sound r at k c e) (λ l. b.results shape o w n node q sound r at l c e) is;
      steps = λ shape o w n node j c sound r at is on m. by (λ k. a.steps shape o w n node j c sound r at k on m) (λ l. b.steps shape o w n node j c sound r at l on m) is;
      opens = λ shape o w s n node c sound t at is own found. by (λ k. a.opens shape o w s n node c sound t at k own found) (λ l. b.opens shape o w s n node c sound t at l own found) is;
    }
  where
    by : {A B C : Type 0} → (A → C) → (B → C) → A ⊎ B → C
    by f g (inl x) = f x
    by f g (inr y) = g y

-- what is known of the world between two updates
known_between : (F : Functions) (shape : Shape) (o : Options) (w s : World) → IsSound F shape → IsBetween F shape o w s → Known F s
known_between F shape o w s sound t = (updates_orderly F w s (orderly_reached F shape o w sound t.reached) t.shut t.updates).known

-- NODES THAT STREAM
pub streaming_law : (F : Functions) → IsLawful F → ReachedLaw F IsStreaming
streaming_law F laws =
    record {
      justified = λ shape o w n node sound r at is. node_justified F shape o w sound r n node.node (in_shape w n node at) is;
      ports = λ shape o w s n node sound t at is rest. streaming_ports F s n node.node (known_between F shape o w s sound t) (in_shape s n node at) is rest;
      results = λ shape o w n node q sound r at is c e. piece_result F shape o w sound r n node at is q c e;
      steps = λ shape o w n node j c sound r at is on m. streams shape o w n node j c sound r at is on m;
      opens = λ shape o w s n node c sound t at is own found. absurd (finds_none F s n c (λ x there. subst (λ (z : Node). IsStreaming z.node.kind) (same_node s n node x at there) is) found);
    }
  where
    streams : (shape : Shape) (o : Options) (w : World) (n : ℕ) (node : Node) (j : Record) (c : Cause) → IsSound F shape → Reaches F shape o w → slice_get w.nodes n ≡ Some node → IsStreaming node.node.kind → w.is_open ≡ true → MakesFault F w j n c → NamesOwn F w node.node c
    streams shape o w n node (handed_in k i number worker handed) c sound r at is on m =
        let own = of_step F w (handed_in k i number worker handed) n node.node c (known_reached F shape o w sound r) (reached_own F shape o w sound r) (in_shape w n node at) m in
        handed_names F shape o w sound r n node at is (by_laws F node.node.kind laws is).1 c own m.1 m.2 m.3 m.4
    streams shape o w n node (pulled k i number) c sound r at is on m =
        let st = m.2 in
        let x = st.0 in
        let there : slice_get w.nodes n ≡ Some x = ap (slice_get w.nodes) (sym m.0) ∙ st.1.0 in
        let same = same_node w n x node there at in
        let limit = of_limit F shape o w sound r (passes_limit x.node.kind i (stored_progress x i st.4.1)) w.ending (rows_fault x.node) c st.1.2 (sym (ap (λ (z : World). z.ending) st.4.8) ∙ m.3) in
        let input = ap (λ j. is_input j i st.4.0) (sym m.0) ∙ (both_true (is_input k i st.4.0) st.4.0.in_phase st.4.3).0 in
        let sink = pulls_sink x.node.kind (subst (λ (z : Node). IsStreaming z.node.kind) (sym same) is) st.2 in
        subst (λ (z : Node). NamesOwn F w z.node c) same (pulled_names F shape o w sound r n i x there sink st.4.0 st.4.1 st.4.2 input st.4.5 limit.0 c limit.1)
    streams shape o w n node (opened phase) c sound r at is on m = absurd (let no : true ≡ false = sym on ∙ m.0 in cc)
    streams shape o w n node (claimed k i number worker) c sound r at is on m = absurd m
    streams shape o w n node (closed k) c sound r at is on m = absurd m
    streams shape o w n node (ended phase) c sound r at is on m = absurd m

-- A node that stores no tables finds faults with its pieces alone.
by_pieces : (F : Functions) (w : World) (n : ℕ) (node : Node) (j : Record) (c : Cause) → slice_get w.nodes n ≡ Some node → is_store node.node.kind ≡ false → w.is_open ≡ true → ((q : Piece) → Contains w.outs q → q.node ≡ n → IsResult F q (bad c) → NamesOwn F w node.node c) → MakesFault F w j n c → NamesOwn F w node.node c
by_pieces F w n node (handed_in k i number worker handed) c at plain on h m = h m.1 m.2 m.3 m.4
by_pieces F w n node (pulled k i number) c at plain on h m = absurd (pulls_no_fault F w k i number n node c at plain m)
by_pieces F w n node (opened phase) c at plain on h m = absurd (let no : true ≡ false = sym on ∙ m.0 in cc)
by_pieces F w n node (claimed k i number worker) c at plain on h m = absurd m
by_pieces F w n node (closed k) c at plain on h m = absurd m
by_pieces F w n node (ended phase) c at plain on h m = absurd m

-- an update of such a node finds none
abbrev FindsNone : PhysicalNode → PhysicalKind → Type 0
FindsNone p kind = ((hs : List Head) (given : Sides) → shape_fault p kind hs given ≡ None) × (makes_table kind ≡ false)

no_update_fault : (F : Functions) (s : World) (n : ℕ) (node : Node) (c : Cause) → slice_get s.nodes n ≡ Some node → FindsNone node.node node.node.kind → FaultFound F s n c → ⊥
no_update_fault F s n node c at quiet (x, there, found) = by (subst (λ (z : Node). FindsNone z.node z.node.kind) (sym (same_node s n x node there at)) quiet) found
  where
    by : FindsNone x.node x.node.kind → (shape_fault x.node x.node.kind (heads_of s n x) (given_at s n) ≡ Some c) ⊎ BreaksTable F s.options x.node (schemas_for s x) (given_at s n) x.progress c → ⊥
    by q (inl f) = nothing_is c (sym (q.0 (heads_of s n x) (given_at s n)) ∙ f)
    by q (inr b) = let no : true ≡ false = sym (both_true (makes_table x.node.kind) _ b.0).0 ∙ q.1 in cc

-- ZIPS
abbrev pub IsZip : PhysicalKind → Type 0
IsZip kind = (extend : Bool) × (kind ≡ zip_node extend)

pub zip_law : (F : Functions) → ReachedLaw F IsZip
zip_law F =
    record {
      justified = λ shape o w n node sound r at is. zips_are_justified F shape o w n node.node is.0 sound r (in_shape w n node at) is.1;
      ports = λ shape o w s n node sound t at is rest. zips_lead F s n node.node is.0 (known_between F shape o w s sound t) (in_shape s n node at) is.1 rest;
      results = λ shape o w n node q sound r at is c e. zip_result F shape o w sound r n node is.0 at is.1 q c e;
      steps = λ shape o w n node j c sound r at is on m. by_pieces F w n node j c at (ap is_store is.1) on (λ q cq e result. zip_names F shape o w sound r n node is.0 at is.1 q cq e c result) m;
      opens = λ shape o w s n node c sound t at is own found. inl (opens_break F shape o w s n node is.0 c sound t.reached t.shut t.runs t.updates at is.1 found);
    }

-- MULTIPLEXERS
abbrev pub IsMultiplexer : PhysicalKind → Type 0
IsMultiplexer kind = kind ≡ multiplexer

multiplexer_quiet : (p : PhysicalNode) (kind : PhysicalKind) → kind ≡ multiplexer → FindsNone p kind
multiplexer_quiet p kind is = ((λ hs given. ap (λ k. shape_fault p k hs given) is), ap makes_table is)

pub multiplexer_law : (F : Functions) → ReachedLaw F IsMultiplexer
multiplexer_law F =
    record {
      justified = λ shape o w n node sound r at is. multiplexers_are_justified F shape o w n node.node sound r (in_shape w n node at) is;
      ports = λ shape o w s n node sound t at is rest. multiplexers_lead F s n node.node (known_between F shape o w s sound t) (in_shape s n node at) is rest;
      results = λ shape o w n node q sound r at is c e. absurd (multiplexers_have_no_piece F shape o w n node sound r at is q c e);
      steps = λ shape o w n node j c sound r at is on m. by_pieces F w n node j c at (ap is_store is) on (λ q cq e result. absurd (multiplexers_have_no_piece F shape o w n node sound r at is q cq e)) m;
      opens = λ shape o w s n node c sound t at is own found. absurd (no_update_fault F s n node c at (multiplexer_quiet node.node node.node.kind is) found);
    }

-- EQUI JOINS
abbrev pub IsJoin : PhysicalKind → Type 0
IsJoin kind = (j : JoinStep) × (kind ≡ equi_join j)

pub join_law : (F : Functions) → ReachedLaw F IsJoin
join_law F =
    record {
      justified = λ shape o w n node sound r at is.
          let shows = in_shape w n node at in
          joins_justified F w n node.node is.0 (known_reached F shape o w sound r) shows is.1 (joins_hold F shape o w sound r n node.node is.0 shows is.1);
      ports = λ shape o w s n node sound t at is rest. join_ports F s (known_between F shape o w s sound t) rest n node at is.0 is.1;
      results = λ shape o w n node q sound r at is c e. reached_result F shape o w sound r n node.node is.0 (in_shape w n node at) is.1 q c e;
      steps = λ shape o w n node j c sound r at is on m. by_pieces F w n node j c at (ap is_store is.1) on (λ q cq e result. reached_names F shape o w sound r n node.node is.0 (in_shape w n node at) is.1 q cq e c result) m;
      opens = λ shape o w s n node c sound t at is own found. absurd (opens_find_none F s n node is.0 c at is.1 found);
    }

-- MAKERS OF A TABLE
abbrev pub MakesTable : PhysicalKind → Type 0
MakesTable kind = makes_table kind ≡ true

pub maker_law : (F : Functions) → IsLawful F → ReachedLaw F MakesTable
maker_law F laws =
    record {
      justified = λ shape o w n node sound r at is. makers_are_justified F shape o w n node.node laws sound r (in_shape w n node at) is;
      ports = λ shape o w s n node sound t at is rest. maker_ports F shape o w sound t.reached n s t.shut t.runs t.updates node at is rest;
      results = λ shape o w n node q sound r at is c e. let x = (maker_results F shape o w sound r n node at is q c e).0 in (good x.0, x.1);
      steps = λ shape o w n node j c sound r at is on m. maker_faults F shape o w sound r n node at is on j c m;
      opens = λ shape o w s n node c sound t at is own found. maker_opens F shape o w sound t.reached n s t.shut t.runs t.updates node at is c found;
    }

-- REDUCES
abbrev pub IsReduce : PhysicalKind → Type 0
IsReduce kind = (es : List Named) × (kind ≡ reduce es)

pub reduce_law : (F : Functions) → ReachedLaw F IsReduce
reduce_law F =
    record {
      justified = λ shape o w n node sound r at is. reduces_are_justified F shape o w n node.node is.0 sound r (in_shape w n node at) is.1;
      ports = λ shape o w s n node sound t at is rest. reduce_ports F shape o w sound t.reached n s t.shut t.runs t.updates node at (ap is_reduce is.1) rest;
      results = λ shape o w n node q sound r at is c e. reduce_results F shape o w sound r n node is.0 at is.1 q c e;
      steps = λ shape o w n node j c sound r at is on m. reduce_names F shape o w sound r n node is.0 at is.1 j c m;
      opens = λ shape o w s n node c sound t at is own found. absurd (no_update_fault F s n node c at ((λ hs given. ap (λ k. shape_fault node.node k hs given) is.1), ap makes_table is.1) found);
    }

-- GROUP-BYS
abbrev pub IsGroupBy : PhysicalKind → Type 0
IsGroupBy kind = (keys : List Named) × (aggregates : List Named) × (kind ≡ group_by_node keys aggregates)

pub group_law : (F : Functions) → ReachedLaw F IsGroupBy
group_law F =
    record {
      justified = λ shape o w n node sound r at is. groups_are_justified F shape o w n node.node is.0 is.1 sound r (in_shape w n node at) is.2;
      ports = λ shape o w s n node sound t at is rest. group_ports F shape o w sound t.reached n s t.shut t.runs t.updates node at (ap is_group is.2) rest;
      results = λ shape o w n node q sound r at is c e. group_results F shape o w sound r n node is.0 is.1 at is.2 q c e;
      steps = λ shape o w n node j c sound r at is on m. group_names F shape o w sound r n node is.0 is.1 at is.2 j c m;
      opens = λ shape o w s n node c sound t at is own found. absurd (no_update_fault F s n node c at ((λ hs given. ap (λ k. shape_fault node.node k hs given) is.2), ap makes_table is.2) found);
    }

-- EVERY KIND
abbrev KeepsInput : PhysicalKind → Type 0
KeepsInput kind = MakesTable kind ⊎ IsReduce kind ⊎ IsGroupBy kind

abbrev GivesOn : PhysicalKind → Type 0
GivesOn kind = IsZip kind ⊎ IsMultiplexer kind ⊎ IsJoin kind

keeping_law : (F : Functions) → IsLawful F → ReachedLaw F KeepsInput
keeping_law F laws = either F MakesTable (λ kind. IsReduce kind ⊎ IsGroupBy kind) (maker_law F laws) (either F IsReduce IsGroupBy (reduce_law F) (group_law F))

giving_law : (F : Functions) → ReachedLaw F GivesOn
giving_law F = either F IsZip (λ kind. IsMultiplexer kind ⊎ IsJoin kind) (zip_law F) (either F IsMultiplexer IsJoin (multiplexer_law F) (join_law F))

abbrev pub IsSome : PhysicalKind → Type 0
IsSome kind = IsStreaming kind ⊎ GivesOn kind ⊎ KeepsInput kind

pub which : (kind : PhysicalKind) → IsSome kind
which (zip_node extend) = inr (inl (inl (extend, refl)))
which multiplexer = inr (inl (inr (inl refl)))
which (equi_join j) = inr (inl (inr (inr (j, refl))))
which (in_memory_map step) = inr (inr (inl refl))
which (in_memory_join j) = inr (inr (inl refl))
which (negative_slice back n) = inr (inr (inl refl))
which (reduce es) = inr (inr (inr (inl (es, refl))))
which (group_by_node keys aggregates) = inr (inr (inr (inr (keys, aggregates, refl))))
which (in_memory_source t) = inl tt
which (select_node es extends) = inl tt
which (with_row_index name offset) = inl tt
which (independent_select es) = inl tt
which (streaming_slice offset n) = inl tt
which (filter_node e) = inl tt
which (simple_projection names) = inl tt
which in_memory_sink = inl tt
which (stream_map step) = inl tt
which ordered_union = inl tt

pub every_kind : (F : Functions) → IsLawful F → ReachedLaw F AnyKind
every_kind F laws =
    let some = either F IsStreaming (λ kind. GivesOn kind ⊎ KeepsInput kind) (streaming_law F laws) (either F GivesOn KeepsInput (giving_law F) (keeping_law F laws)) in
    record {
      justified = λ shape o w n node sound r at is. some.justified shape o w n node sound r at (which node.node.kind);
      ports = λ shape o w s n node sound t at is rest. some.ports shape o w s n node sound t at (which node.node.kind) rest;
      results = λ shape o w n node q sound r at is c e. some.results shape o w n node q sound r at (which node.node.kind) c e;
      steps = λ shape o w n node j c sound r at is on m. some.steps shape o w n node j c sound r at (which node.node.kind) on m;
      opens = λ shape o w s n node c sound t at is own found. some.opens shape o w s n node c sound t at (which node.node.kind) own found;
    }
