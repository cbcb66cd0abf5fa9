-- The faults of streaming nodes: each breaks its node, whatever its inputs turn out to mean, or says that there are too many rows where there are.
use Rattle.std.proofs.Common.{◌≡◌, ◌≢◌, ℕ, suc, ◌+◌, ◌<◌, ◌⊎◌, Bool, true, false, cond, List, [], ◌∷◌, ◌++◌, length, take, Option, Some, None, refl, sym, ap, subst, ◌∙◌, inl, inr, arith, length-append}
use Rattle.std.specs.Prelude.{Contains, get_or, map, nat_eq, nat_lt, slice_get, slice_set, ◌&&◌}
use Rattle.std.specs.List.{AllZip}
use Rattle.std.proofs.lemmas.Bool.{cases_eq}
use Rattle.std.proofs.lemmas.List.{length-take}
use Rattle.std.proofs.lemmas.Bool.Decides.{nat_tests}
use Rattle.ps_frame.specs.Aggregates.{max_rows}
use Rattle.ps_frame.specs.Causes.{Cause}
use Rattle.ps_frame.specs.Functions.{Functions}
use Rattle.ps_frame.specs.Tables.{Row, Table}
use Rattle.ps_meaning.specs.Shape.{IsLargeByStep, PhysicalBefore, PhysicalKind, PhysicalNode, Shape, as_step, filter_node, in_memory_sink, in_memory_source, independent_select, ordered_union, select_node, simple_projection, stream_map, streaming_slice, tables_for, with_row_index}
use Rattle.ps_meaning.specs.Sound.{IsSound, input_schemas}
use Rattle.ps_meaning.specs.Steps.{Named}
use Rattle.ps_options.specs.declared.options.Options.{Options}
use Rattle.ps_ports.specs.Ports.{Sides}
use Rattle.ps_turns.specs.Heads.{Head, stored_rows}
use Rattle.ps_turns.specs.Progress.{is_multiplexer, makes_table}
use Rattle.ps_turns.specs.Pulls.{after_store, passes_limit}
use Rattle.ps_turns.specs.Results.{IsResult, IsResultOf, rows_fault}
use Rattle.ps_turns.specs.Tables.{whole_tables}
use Rattle.ps_turns.specs.Tasks.{Piece, Task, bad, computes, hands_on}
use Rattle.ps_turns.specs.Updates.{shape_fault}
use Rattle.ps_world.specs.Booking.{Computes, IsPassing}
use Rattle.ps_world.specs.Laws.{Extends, Faults, IsLargeWhatever, Overflows, sent_at, sent_by, sent_to}
use Rattle.ps_world.specs.Opening.{Reaches, opening}
use Rattle.ps_world.specs.Pipes.{is_input}
use Rattle.ps_world.specs.Updates.{FaultFound, given_at}
use Rattle.ps_world.specs.World.{Ending, Node, Pipe, World, heads_of, flat, morsel_at, pipes_in, rows_in_order, running, faulty, shape_of}
use Rattle.world_claims.proofs.ReachedFacts.{known_reached}
use Rattle.world_claims.specs.Numbering.{Known}
use Rattle.world_facts.proofs.CutOff.{both_true}
use Rattle.world_laws.proofs.PassingPorts.{same_number}
use Rattle.world_facts.proofs.ClaimedOnce.{replay_shape}
use Rattle.world_laws.proofs.Answered.{in_shape}
use Rattle.world_laws.proofs.InOrder.{contains_first}
use Rattle.world_laws.proofs.Induction.{opening_shape}
use Rattle.family_pipes.proofs.Inputs.{enters, inputs_long, sent_to_is, take_at}
use Rattle.family_fronts.proofs.FrontsLaw.{only_one}
use Rattle.family_fronts.proofs.UnionLaw.{rows_front}
use Rattle.world_families.proofs.Members.{nothing_is}
use Rattle.world_families.specs.Holds.{HoldsOfKind}
use Rattle.world_families.specs.Work.{Work, rows_read, work_of}
use Rattle.world_families.specs.Keepers.{Stores, StoresAll}
use Rattle.passing_fronts.proofs.PassingLaw.{came, input, schema}
use Rattle.passing_pieces.proofs.LargeAnswers.{AreLawfulFor}
use Rattle.passing_pieces.proofs.Faults.{reached_faults}
use Rattle.streaming_pieces.proofs.PieceKinds.{StreamingPiece, computes_morsel, hands_rows, output, selects_once, streaming_piece}
use Rattle.orderly_worlds.proofs.ReadRows.{came_to, rows_more, stored_more}
use Rattle.family_keeps.proofs.Sinks.{first_input, sink_input}
use Rattle.orderly_worlds.proofs.Stands.{stored_progress}
use Rattle.family_keeps.proofs.Served.{node_holds}
use Rattle.world_families.specs.Kinds.{IsStreaming}

-- TASKS
-- what is handed on has no fault
hands_none : (F : Functions) (q : Piece) (c : Cause) → q.task ≡ hands_on → IsResult F q (bad c) → ⊥
hands_none F q c e r = subst (λ (t : Task). IsResultOf F t q.input (whole_tables q.schemas q.tables) q.tables (bad c)) e r

select_tables : (F : Functions) (kind : PhysicalKind) (es : List Named) (Ts : List Table) → kind ≡ independent_select es → tables_for F kind [] ≡ tables_for F kind Ts
select_tables F kind es Ts e = ap (λ k. tables_for F k []) e ∙ sym (ap (λ k. tables_for F k Ts) e)

module _ (F : Functions) (shape : Shape) (o : Options) (w : World) (sound : IsSound F shape) (r : Reaches F shape o w) where
  known : Known F w
  known = known_reached F shape o w sound r

  same_shape : shape_of w ≡ shape
  same_shape = replay_shape F (opening shape o) w r.0 r.1 ∙ opening_shape shape

  abbrev pub Names : PhysicalNode → Cause → Type 0
  Names p c = Faults F p (input_schemas (shape_of w) p) (sent_to (sent_at w) p) c ⊎ Overflows F p (input_schemas (shape_of w) p) (sent_to (sent_at w) p) c

  -- A HAND-IN
  module _ (n : ℕ) (node : Node) (there : slice_get w.nodes n ≡ Some node) (is : IsStreaming node.node.kind) (laws : AreLawfulFor F node.node.kind) (c : Cause) (own : c.node ≡ node.node.origin) (q : Piece) (cq : Contains w.outs q) (at : q.node ≡ n) (result : IsResult F q (bad c)) where
    shows : slice_get (shape_of w) n ≡ Some node.node
    shows = in_shape w n node there

    of_select : (es : List Named) → node.node.kind ≡ independent_select es → work_of q ≡ record { task = computes node.node; schemas = []; tables = [] } → Names node.node c
    of_select es k e =
        let broken = subst (λ (x : Work). IsResultOf F x.task q.input (whole_tables x.schemas x.tables) x.tables (bad c)) e result in
        by broken
      where
        by : IsResultOf F (computes node.node) q.input [] [] (bad c) → Names node.node c
        by (U, before, inl among) = inl (own, λ Ts same m. (U, subst (λ ts. PhysicalBefore F node.node (as_step node.node.kind) ts U) (select_tables F node.node.kind es Ts k) before, among))
        by (U, before, inr large) =
            inr (large.1, λ Ts same m. inl (U, subst (λ ts. PhysicalBefore F node.node (as_step node.node.kind) ts U) (select_tables F node.node.kind es Ts k) before, large.0))

    of_passing : (passing : IsPassing node.node.kind) → Computes node.node.kind → (to : Pipe) → Contains w.pipes to → to.wire.sender ≡ n → Names node.node c
    of_passing passing computing to ct st =
        let s = schema F w n node known there shows passing in
        let z = input F w n node known there shows passing in
        let enters = (came F w n node known there shows passing).0 in
        let at_shape : slice_get shape n ≡ Some node.node = ap (λ x. slice_get x n) (sym same_shape) ∙ shows in
        let reads : input_schemas shape node.node ≡ s.0 ∷ [] = ap (λ x. input_schemas x node.node) (sym same_shape) ∙ s.1 in
        let f = reached_faults F shape n node.node s.0 sound at_shape computing reads laws o w r z.0 to enters.0 enters.1 ct st q cq at c result in
        subst (λ ss. Faults F node.node ss (sent_to (sent_at w) node.node) c ⊎ Overflows F node.node ss (sent_to (sent_at w) node.node) c) (sym s.1)
        (subst (λ ins. Faults F node.node (s.0 ∷ []) ins c ⊎ Overflows F node.node (s.0 ∷ []) ins c) (sym (sent_to_is F w known.facts n node there shows ∙ ap (map sent_by) z.1)) f)

    pub handed_names : Names node.node c
    handed_names = by (streaming_piece F shape o w sound r n node there is q cq at)
      where
        by : StreamingPiece node q → Names node.node c
        by (hands_rows rs h) = absurd (hands_none F q c h.0 result)
        by (selects_once es k work) = of_select es k work
        by (computes_morsel passing computing) = let z = output F w n node known there passing in of_passing passing computing z.0 z.1 z.2

  -- A PULL: too many rows came to a sink
  set_first : (ss : List (List (List Row))) (m : List (List Row)) → (get_or (slice_set ss 0 m) 0 [] ≡ m) ⊎ (get_or (slice_set ss 0 m) 0 [] ≡ [])
  set_first [] m = inr refl
  set_first (s ∷ ss) m = inl refl

  past : (n : ℕ) → nat_lt max_rows n ≡ true → max_rows < n
  past n e = grind (arith, nat_tests)

  pub of_limit : (b : Bool) (e : Ending) (d : Cause) (c : Cause) → e ≡ running → cond b (faulty d) e ≡ faulty c → (b ≡ true) × (c ≡ d)
  of_limit true e d c run h = (refl, let q : faulty d ≡ faulty c = h in cc)
  of_limit false e d c run h = absurd (let no : running ≡ faulty c = sym run ∙ h in cc)

  module _ (n i : ℕ) (node : Node) (there : slice_get w.nodes n ≡ Some node) (is_one : node.node.kind ≡ in_memory_sink) (p : Pipe) (m : List Row) (cp : Contains w.pipes p) (inp : is_input n i p ≡ true) (slot : morsel_at p.next p.got ≡ Some m)
      (limit : passes_limit node.node.kind i (stored_progress node i m) ≡ true) where
    ends : (p.wire.receiver ≡ n) × (p.wire.input ≡ i)
    ends = let a = both_true (nat_eq p.wire.receiver n) (nat_eq p.wire.input i) inp in (same_number p.wire.receiver n a.0, same_number p.wire.input i a.1)

    one : length node.node.inputs ≡ 1
    one = sink_input F w n node known there is_one

    zero_input : i ≡ 0
    zero_input = sym ends.1 ∙ first_input F w n node known there one p (cp, ends.0)

    stands : stored_rows (get_or node.progress.stores p.wire.input []) ≡ rows_read p
    stands =
        let shows = in_shape w n node there in
        let all : StoresAll w n node = subst (HoldsOfKind F w n node) is_one (node_holds F shape o w sound r n node.node shows (subst IsStreaming (sym is_one) tt) node there).own in
        subst (λ k. Stores k node.progress p) is_one (all p (cp, ends.0))

    at_slot : slice_get p.got p.next ≡ Some (Some m)
    at_slot = slot_of (slice_get p.got p.next) slot
      where
        slot_of : (x : Option (Option (List Row))) → flat x ≡ Some m → x ≡ Some (Some m)
        slot_of None e = absurd (nothing_is m e)
        slot_of (Some y) e = ap Some e

    -- what it stores then are the rows that were read, with this morsel's
    stores_are : (stored_progress node i m).stores ≡ slice_set node.progress.stores 0 (get_or node.progress.stores 0 [] ++ m ∷ [])
    stores_are = ap (λ k. (cond (is_multiplexer k) node.progress (after_store k i m node.progress)).stores) is_one ∙ ap (λ j. slice_set node.progress.stores j (get_or node.progress.stores j [] ++ m ∷ [])) zero_input

    store_is : get_or (stored_progress node i m).stores i [] ≡ get_or (slice_set node.progress.stores 0 (get_or node.progress.stores 0 [] ++ m ∷ [])) 0 []
    store_is = λ j. get_or (stores_are j) (zero_input j) []

    rows_are : stored_rows (get_or node.progress.stores 0 [] ++ m ∷ []) ≡ rows_in_order (take (suc p.next) p.got)
    rows_are =
        stored_more (get_or node.progress.stores 0 []) m ∙ ap (λ z. z ++ m) (ap (λ j. stored_rows (get_or node.progress.stores j [])) (sym (ends.1 ∙ zero_input)) ∙ stands) ∙ sym (rows_more p.got p.next m (came_to F w known p cp) at_slot)

    front : (rest : List Row) × (rows_in_order (take (suc p.next) p.got) ++ rest ≡ rows_in_order p.got)
    front = rows_front (suc p.next) p.got (λ k less. let long = length-take (suc p.next) p.got in let short : k < suc p.next = grind (arith, less, long) in let f = filled k short in (f.0, take_at p.got (suc p.next) k short ∙ f.1))
      where
        filled : (k : ℕ) → k < suc p.next → (rs : List Row) × (slice_get p.got k ≡ Some (Some rs))
        filled k less = by (cases_eq k p.next)
          where
            by : (k ≡ p.next) ⊎ (k ≢ p.next) → (rs : List Row) × (slice_get p.got k ≡ Some (Some rs))
            by (inl e) = (m, ap (slice_get p.got) e ∙ at_slot)
            by (inr other) = came_to F w known p cp k (omega (arith, less, other))

    many : max_rows < length (rows_in_order p.got)
    many =
        let over : passes_limit in_memory_sink i (stored_progress node i m) ≡ true = ap (λ k. passes_limit k i (stored_progress node i m)) (sym is_one) ∙ limit in
        let first = by (set_first node.progress.stores (get_or node.progress.stores 0 [] ++ m ∷ [])) over in
        let whole : length (rows_in_order (take (suc p.next) p.got)) + length front.0 ≡ length (rows_in_order p.got) = sym (length-append (rows_in_order (take (suc p.next) p.got)) front.0) ∙ ap length front.1 in
        omega (arith, first, whole)
      where
        none : nat_lt max_rows 0 ≡ true → ⊥
        none e = let h = past 0 e in omega (arith, h)

        by : (get_or (slice_set node.progress.stores 0 (get_or node.progress.stores 0 [] ++ m ∷ [])) 0 [] ≡ get_or node.progress.stores 0 [] ++ m ∷ []) ⊎ (get_or (slice_set node.progress.stores 0 (get_or node.progress.stores 0 [] ++ m ∷ [])) 0 [] ≡ [])
            → nat_lt max_rows (length (stored_rows (get_or (stored_progress node i m).stores i []))) ≡ true → max_rows < length (rows_in_order (take (suc p.next) p.got))
        by (inl e) h = past (length (rows_in_order (take (suc p.next) p.got))) (ap (λ xs. nat_lt max_rows (length xs)) (sym rows_are) ∙ ap (λ ms. nat_lt max_rows (length (stored_rows ms))) (sym (store_is ∙ e)) ∙ h)
        by (inr e) h = absurd (none (ap (λ ms. nat_lt max_rows (length (stored_rows ms))) (sym (store_is ∙ e)) ∙ h))

    -- so whatever table its input turns out to mean has too many
    large_input : IsLargeWhatever F node.node (input_schemas (shape_of w) node.node) (sent_to (sent_at w) node.node)
    large_input Ts same ext = by Ts (subst (λ ins. AllZip Extends ins Ts) (sent_to_is F w known.facts n node there (in_shape w n node there) ∙ ap (map sent_by) pipes) ext)
      where
        only : (q : Pipe) × (pipes_in w n ≡ q ∷ [])
        only = only_one (pipes_in w n) (inputs_long F w known.facts n node there ∙ one)

        is_p : only.0 ≡ p
        is_p =
            let e = enters F w known.facts n 0 only.0 (ap (λ ps. slice_get ps 0) only.1) in
            known.facts.one_input only.0 p e.0.0 cp (e.0.1 ∙ sym ends.0) (e.1 ∙ sym (ends.1 ∙ zero_input))

        pipes : pipes_in w n ≡ p ∷ []
        pipes = only.1 ∙ ap (λ z. z ∷ []) is_p

        by : (Us : List Table) → AllZip Extends (sent_by p ∷ []) Us
            → ((U : Table) × PhysicalBefore F node.node (as_step node.node.kind) (tables_for F node.node.kind Us) U × (max_rows < length U.rows)) ⊎ ((T : Table) × Contains Us T × (max_rows < length T.rows)) ⊎ IsLargeByStep F node.node.origin (as_step node.node.kind) (tables_for F node.node.kind Us)
        by [] x = absurd x
        by (T ∷ Us) x =
            let long : length (rows_in_order p.got) + length x.0.rest ≡ length T.rows = sym (length-append (rows_in_order p.got) x.0.rest) ∙ ap length x.0.begins in
            let more = many in
            inr (inl (T, contains_first T Us, omega (arith, long, more)))

    pub pulled_names : (c : Cause) → c ≡ rows_fault node.node → Names node.node c
    pulled_names c e = inr (e, large_input)

-- AN UPDATE FINDS NO FAULT
no_shape_fault : (p : PhysicalNode) (kind : PhysicalKind) (hs : List Head) (given : Sides) (c : Cause) → IsStreaming kind → shape_fault p kind hs given ≡ Some c → ⊥
no_shape_fault p (in_memory_source t) hs given c h e = nothing_is c e
no_shape_fault p (independent_select es) hs given c h e = nothing_is c e
no_shape_fault p in_memory_sink hs given c h e = nothing_is c e
no_shape_fault p ordered_union hs given c h e = nothing_is c e
no_shape_fault p (streaming_slice offset n) hs given c h e = nothing_is c e
no_shape_fault p (with_row_index name offset) hs given c h e = nothing_is c e
no_shape_fault p (filter_node x) hs given c h e = nothing_is c e
no_shape_fault p (select_node es extends) hs given c h e = nothing_is c e
no_shape_fault p (simple_projection names) hs given c h e = nothing_is c e
no_shape_fault p (stream_map step) hs given c h e = nothing_is c e
no_shape_fault p kind hs given c h e = absurd h

makes_none : (kind : PhysicalKind) → IsStreaming kind → makes_table kind ≡ false
makes_none (in_memory_source t) h = refl
makes_none (independent_select es) h = refl
makes_none in_memory_sink h = refl
makes_none ordered_union h = refl
makes_none (streaming_slice offset n) h = refl
makes_none (with_row_index name offset) h = refl
makes_none (filter_node x) h = refl
makes_none (select_node es extends) h = refl
makes_none (simple_projection names) h = refl
makes_none (stream_map step) h = refl
makes_none kind h = absurd h

first_of_two : (a b : Bool) → (a && b) ≡ true → a ≡ true
first_of_two true b e = refl
first_of_two false b e = e

pub finds_none : (F : Functions) (s : World) (n : ℕ) (c : Cause) → ((node : Node) → slice_get s.nodes n ≡ Some node → IsStreaming node.node.kind) → FaultFound F s n c → ⊥
finds_none F s n c streams (node, at, inl found) = no_shape_fault node.node node.node.kind (heads_of s n node) (given_at s n) c (streams node at) found
finds_none F s n c streams (node, at, inr (makes, broken)) = let no : true ≡ false = sym (first_of_two (makes_table node.node.kind) _ makes) ∙ makes_none node.node.kind (streams node at) in cc
