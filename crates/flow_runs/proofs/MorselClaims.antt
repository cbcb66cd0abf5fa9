-- The claims of nodes that take a morsel of an input.
use Rattle.std.proofs.Common.{◌≡◌, ℕ, zero, suc, ◌+◌, Bool, true, false, List, [], ◌∷◌, length, Option, None, Some, refl, sym, ap, subst, ◌∙◌}
use Rattle.std.specs.List.{AllByRecursion}
use Rattle.std.specs.declared.alloc.Global.{Global}
use Rattle.std.specs.declared.sync.Arc.{Arc}
use Rattle.std.specs.Prelude.{nat_le, option_map, slice_get, ⊤}
use Rattle.std.proofs.lemmas.Option.{same_Some}
use Rattle.node_work.proofs.Fit.{Fits, IsOver, fit_for}
use Rattle.node_work.specs.Tasks.{ComputesOver, kept_part}
use Rattle.node_work.specs.Working.{AreOf, Does, HandsRowsOn, kind_behind}
use Rattle.node_work.specs.declared.work.Work.{Work}
use Rattle.node_work.specs.declared.work.Work.TheVariants as work
use Rattle.plain_nodes.specs.declared.ordered_union.OrderedUnionNode.{OrderedUnionNode}
use Rattle.plain_nodes.specs.declared.row_index.WithRowIndexNode.{WithRowIndexNode}
use Rattle.plain_nodes.specs.declared.slice.StreamingSliceNode.{StreamingSliceNode}
use Rattle.ps_flow.specs.Claiming.{ClaimsOf, Gives, IsClaimOf, rows_of}
use Rattle.ps_flow.specs.declared.claim_node.Claimed.{Claimed}
use Rattle.ps_flow.specs.declared.claim_node.Seat.{Seat}
use Rattle.ps_frame.specs.Functions.{Functions}
use Rattle.ps_frame.specs.Tables.{Fields, Frame, Row}
use Rattle.ps_frame.specs.Trees.{tree_at}
use Rattle.ps_meaning.specs.Cases.{end_of}
use Rattle.ps_meaning.specs.Schemas.{first_schema}
use Rattle.ps_meaning.specs.Shape.{PhysicalKind, PhysicalNode, Shape, filter_node, in_memory_sink, in_memory_source, independent_select, ordered_union, select_node, simple_projection, stream_map, streaming_slice, with_row_index}
use Rattle.ps_meaning.specs.Sound.{HasInputs}
use Rattle.ps_meaning.specs.Steps.{Named, named_trees, union}
use Rattle.ps_nodes.specs.Seen.{kind_of}
use Rattle.ps_nodes.specs.declared.flow.FlowNode.TheVariants as flow
use Rattle.ps_options.specs.declared.options.Options.{Options}
use Rattle.ps_pieces.specs.Operations.{IsFitFor, kind_computed, kind_in, rows_taken, schemas_taken}
use Rattle.ps_pieces.specs.Shown.{IsFit, Shows, ShowsTask, schema_given}
use Rattle.ps_pieces.specs.declared.parameters.Operation.{Operation}
use Rattle.ps_pieces.specs.declared.parameters.Operation.TheVariants as operation
use Rattle.ps_pieces.specs.declared.parameters.Parameters.{Parameters}
use Rattle.ps_pieces.specs.declared.piece.Piece.{Piece}
use Rattle.ps_pieces.specs.declared.piece.Task.{Task}
use Rattle.ps_pieces.specs.declared.piece.Task.TheVariants as task
use Rattle.ps_plan.proofs.TypedSteps.{alike}
use Rattle.ps_turns.specs.Claims.{Claim, claim_by, passes, sliced}
use Rattle.ps_turns.specs.Heads.{Head}
use Rattle.ps_turns.specs.Progress.{Progress}
use Rattle.ps_turns.specs.Tasks.{computes}
use Rattle.turn_laws.specs.Updating.{SeenNode}
use Rattle.flow_runs.proofs.KindClaims.{by_kind, come_by, fits_by, inputs_by, moved, only_one, schema_by}
use Rattle.flow_runs.specs.Claims.{FoundOver, FoundUnited, IsPieceFor, morsel_piece, slice_piece}
use Rattle.flow_runs.specs.Running.{Has}
use Rattle.flow_runs.specs.declared.node.RunningNode.{RunningNode}

-- SLICES
module _ (F : Functions) (shape : Shape) (m : ℕ) (o : Options) (x : SeenNode) (seat : Seat) (number : ℕ) (c : Claim) (s : StreamingSliceNode) (w : Work) (h : Has o (record { flow = flow.StreamingSlice s; work = w }) x) where
  slice_kind : streaming_slice s.state.offset s.state.length ≡ x.node.kind
  slice_kind = h.is.kind

  slice_come : s.state.booked ≡ x.progress.booked
  slice_come = come_by o (record { flow = flow.StreamingSlice s; work = w }) x h (streaming_slice s.state.offset s.state.length) slice_kind

  pub slice_waits : ClaimsOf F shape m o x seat.input number None c → ⊥
  slice_waits d = let never : None ≡ Some c = by_kind F shape m o x seat.input number None c d (streaming_slice s.state.offset s.state.length) slice_kind in cc

  module _ (t : Frame) (d : ClaimsOf F shape m o x seat.input number (Some t) c) where
    slice_claim : passes o x.node x.schemas (streaming_slice s.state.offset s.state.length) x.progress number t.rows ≡ c
    slice_claim = same_Some _ c (by_kind F shape m o x seat.input number (Some t) c d (streaming_slice s.state.offset s.state.length) slice_kind)

    -- its table has the schema of its input
    slice_schema : t.schema ≡ x.node.schema
    slice_schema =
        let only = only_one x.schemas seat.input t.schema (inputs_by F shape m o x seat.input number (Some t) c d (streaming_slice s.state.offset s.state.length) slice_kind) d.comes in
        same_Some t.schema x.node.schema (ap (λ (ss : List Fields). Some (first_schema ss)) (sym only) ∙ schema_by F shape m o x seat.input number (Some t) c d (streaming_slice s.state.offset s.state.length) slice_kind)

    pub slice_gives : (y : Claimed Piece)
        → y ≡ record (morsel_piece seat number number (length t.rows) (kept_part s.state t)) { drops_input = nat_le (end_of s.state.offset s.state.length) (s.state.booked + length t.rows) }
        → Gives Shows IsPieceFor F seat x.node (length t.rows) c y
    slice_gives y is =
        subst (λ (z : Claimed Piece). Gives Shows IsPieceFor F seat x.node (length t.rows) c z) (sym is) (
        subst (λ (b : Claim). Gives Shows IsPieceFor F seat x.node (length t.rows) b (record (morsel_piece seat number number (length t.rows) (kept_part s.state t)) { drops_input = nat_le (end_of s.state.offset s.state.length) (s.state.booked + length t.rows) })) slice_claim (
        record {
          shows = record { node = refl; input = refl; number = refl; worker = refl; gives = refl; task = λ i. sliced s.state.offset s.state.length (sym slice_come i) t.rows ∷ [] };
          suits = (tt, slice_schema);
          rows_are = refl;
          takes = refl;
          drops = λ i. nat_le (end_of s.state.offset s.state.length) (slice_come i + length t.rows);
        }
        )
        )

-- whichever claim a slice has, it is what was found
pub of_slice : (n : RunningNode) (s : StreamingSliceNode) → n.flow ≡ flow.StreamingSlice s → (seat : Seat) (number : ℕ) (morsel : Option Frame) (found : Option (Claimed Piece)) → found ≡ option_map (slice_piece seat number s) morsel → IsClaimOf Shows IsPieceFor Has n seat number morsel found
of_slice n s is seat number None found e =
    subst (λ (g : Option (Claimed Piece)). IsClaimOf Shows IsPieceFor Has n seat number None g) (sym e) (λ F shape m o x c h d. slice_waits F shape m o x seat number c s n.work (moved o n x (flow.StreamingSlice s) is h) d)
of_slice n s is seat number (Some t) found e =
    subst (λ (g : Option (Claimed Piece)). IsClaimOf Shows IsPieceFor Has n seat number (Some t) g) (sym e) (λ F shape m o x c h d. slice_gives F shape m o x seat number c s n.work (moved o n x (flow.StreamingSlice s) is h) t d (slice_piece seat number s t) refl)

-- UNIONS
-- all inputs have the schema of the first
at_place : (s : Fields) (ss : List Fields) (i : ℕ) (t : Fields) → AllByRecursion (λ (u : Fields). u ≡ s) ss → slice_get ss i ≡ Some t → t ≡ s
at_place s [] i t all e = absurd (let never : None ≡ Some t = e in cc)
at_place s (u ∷ ss) zero t all e = sym (same_Some u t e) ∙ all.0
at_place s (u ∷ ss) (suc i) t all e = at_place s ss i t all.1 e

first_is : (ss : List Fields) (s : Fields) → slice_get ss 0 ≡ Some s → first_schema ss ≡ s
first_is [] s e = absurd (let never : None ≡ Some s = e in cc)
first_is (t ∷ ss) s e = same_Some t s e

-- no kind of a union is computed
no_union : (q : Parameters) → kind_computed q 0 ≡ ordered_union → ⊥
no_union q e = by q.operation e
  where
    by : (op : Operation) → kind_in (tree_at q.exprs.items) 0 op ≡ ordered_union → ⊥
    by (operation.Select es) e = cc
    by (operation.HStack es) e = cc
    by (operation.IndependentSelect es) e = cc
    by (operation.Filter p) e = cc
    by (operation.SimpleProjection names) e = cc
    by (operation.WithRowIndex name offset) e = cc
    by (operation.Map n) e = cc

-- it gives its inputs' morsels on and does nothing else
pub unites_alone : (w : Work) (p : PhysicalNode) (progress : Progress) → ordered_union ≡ p.kind → Does w p progress → (sent : ℕ) × (w ≡ work.Unites sent)
unites_alone work.HandsOn p progress e d = absurd (subst HandsRowsOn (sym e) d)
unites_alone (work.Unites sent) p progress e d = (sent, refl)
unites_alone (work.Computes q) p progress e d = absurd (no_union q.value (d.kind 0 ∙ ap (kind_behind 0) (sym e)))
unites_alone (work.Stores s) p progress e d = absurd (let clash : ordered_union ≡ in_memory_sink = e ∙ d.kind in cc)

module _ (F : Functions) (shape : Shape) (m : ℕ) (o : Options) (x : SeenNode) (seat : Seat) (number : ℕ) (c : Claim) (u : OrderedUnionNode) (w : Work) (h : Has o (record { flow = flow.OrderedUnion u; work = w }) x) where
  pub union_waits : ClaimsOf F shape m o x seat.input number None c → ⊥
  union_waits d = let never : None ≡ Some c = by_kind F shape m o x seat.input number None c d ordered_union h.is.kind in cc

  sent_of : (sent : ℕ) × (w ≡ work.Unites sent)
  sent_of = unites_alone w x.node x.progress h.is.kind h.is.does

  abbrev pub IsUnited : Frame → Option (Claimed Piece) → Type 0
  IsUnited t None = ⊥
  IsUnited t (Some y) = Gives Shows IsPieceFor F seat x.node (length t.rows) c y

  module _ (sent : ℕ) (unites : w ≡ work.Unites sent) (t : Frame) (d : ClaimsOf F shape m o x seat.input number (Some t) c) where
    union_sent : x.progress.sent ≡ sent
    union_sent = (subst (λ (v : Work). Does v x.node x.progress) unites h.is.does).1

    union_claim : passes o x.node x.schemas ordered_union x.progress number t.rows ≡ c
    union_claim = same_Some _ c (by_kind F shape m o x seat.input number (Some t) c d ordered_union h.is.kind)

    union_schema : t.schema ≡ x.node.schema
    union_schema =
        let all = alike F (union None) x.schemas (fits_by F shape m o x seat.input number (Some t) c d ordered_union h.is.kind).rules.3 in
        at_place (first_schema x.schemas) x.schemas seat.input t.schema all d.comes ∙ first_is x.schemas x.node.schema (schema_by F shape m o x seat.input number (Some t) c d ordered_union h.is.kind)

    pub union_gives : (y : Claimed Piece) → y ≡ morsel_piece seat number sent (length t.rows) (task.HandsOn t) → Gives Shows IsPieceFor F seat x.node (length t.rows) c y
    union_gives y is =
        subst (λ (z : Claimed Piece). Gives Shows IsPieceFor F seat x.node (length t.rows) c z) (sym is) (
        subst (λ (b : Claim). Gives Shows IsPieceFor F seat x.node (length t.rows) b (morsel_piece seat number sent (length t.rows) (task.HandsOn t))) union_claim (
        record {
          shows = record { node = refl; input = refl; number = refl; worker = refl; gives = sym union_sent; task = refl };
          suits = (tt, union_schema);
          rows_are = refl;
          takes = refl;
          drops = refl;
        }
        )
        )

  pub union_found : (t : Frame) → ClaimsOf F shape m o x seat.input number (Some t) c → (found : Option (Claimed Piece)) → FoundUnited w seat number (Some t) found → IsUnited t found
  union_found t d found f = by found (subst (λ (v : Work). FoundUnited v seat number (Some t) found) sent_of.1 f)
    where
      by : (g : Option (Claimed Piece)) → FoundUnited (work.Unites sent_of.0) seat number (Some t) g → IsUnited t g
      by None f = f
      by (Some y) f = union_gives sent_of.0 sent_of.1 t d y f

none_united : (w : Work) (seat : Seat) (number : ℕ) (y : Claimed Piece) → FoundUnited w seat number None (Some y) → ⊥
none_united work.HandsOn seat number y f = f
none_united (work.Unites sent) seat number y f = f
none_united (work.Computes q) seat number y f = f
none_united (work.Stores s) seat number y f = f

-- whichever claim a union has, it is what was found
pub of_union : (n : RunningNode) (u : OrderedUnionNode) → n.flow ≡ flow.OrderedUnion u → (seat : Seat) (number : ℕ) (morsel : Option Frame) (found : Option (Claimed Piece)) → FoundUnited n.work seat number morsel found → IsClaimOf Shows IsPieceFor Has n seat number morsel found
of_union n u is seat number None None f = λ F shape m o x c h d. union_waits F shape m o x seat number c u n.work (moved o n x (flow.OrderedUnion u) is h) d
of_union n u is seat number None (Some y) f = absurd (none_united n.work seat number y f)
of_union n u is seat number (Some t) None f = λ F shape m o x c h d. union_found F shape m o x seat number c u n.work (moved o n x (flow.OrderedUnion u) is h) t d None f
of_union n u is seat number (Some t) (Some y) f = λ F shape m o x c h d. union_found F shape m o x seat number c u n.work (moved o n x (flow.OrderedUnion u) is h) t d (Some y) f

-- COMPUTING NODES
-- what computes its parameters over morsels
abbrev pub IsComputing : PhysicalKind → Type 0
IsComputing (select_node es extends) = ⊤
IsComputing (filter_node e) = ⊤
IsComputing (simple_projection names) = ⊤
IsComputing (stream_map step) = ⊤
IsComputing (with_row_index name offset) = ⊤
IsComputing k = ⊥

-- a row index books the rows of a morsel
abbrev pub booked_by : PhysicalKind → Progress → (rows : ℕ) → Progress
booked_by (with_row_index name offset) progress rows = record progress { booked = progress.booked + rows }
booked_by k progress rows = progress

-- the claim of a morsel that is computed
abbrev computed_claim : PhysicalNode → List Fields → PhysicalKind → Progress → (number : ℕ) → List Row → Claim
computed_claim p ss k progress number rs =
    record {
      progress = booked_by k progress (length rs);
      number = number;
      gives = number;
      task = computes (record p { kind = kind_behind progress.booked k });
      schemas = ss;
      tables = rs ∷ [];
      takes_morsel = true;
      drops_input = false;
    }

module _ (o : Options) (p : PhysicalNode) (ss : List Fields) (progress : Progress) (hs : List Head) (ds : List Bool) (i number : ℕ) where
  -- the node itself, by its kind
  same_node : (k : PhysicalKind) → k ≡ p.kind → p ≡ record p { kind = k }
  same_node k e = λ j. record p { kind = sym e j }

  computing_claim : (k : PhysicalKind) (rs : List Row) (c : Claim) → IsComputing k → k ≡ p.kind → claim_by o p ss k progress hs ds i (Some (number, rs)) ≡ Some c → computed_claim p ss k progress number rs ≡ c
  computing_claim (select_node es extends) rs c computing e claims =
      (λ j. record (computed_claim p ss (select_node es extends) progress number rs) { task = computes (sym (same_node (select_node es extends) e) j) }) ∙ same_Some _ c claims
  computing_claim (filter_node t) rs c computing e claims = (λ j. record (computed_claim p ss (filter_node t) progress number rs) { task = computes (sym (same_node (filter_node t) e) j) }) ∙ same_Some _ c claims
  computing_claim (simple_projection names) rs c computing e claims =
      (λ j. record (computed_claim p ss (simple_projection names) progress number rs) { task = computes (sym (same_node (simple_projection names) e) j) }) ∙ same_Some _ c claims
  computing_claim (stream_map step) rs c computing e claims = (λ j. record (computed_claim p ss (stream_map step) progress number rs) { task = computes (sym (same_node (stream_map step) e) j) }) ∙ same_Some _ c claims
  computing_claim (with_row_index name offset) rs c computing e claims = same_Some _ c claims
  computing_claim k rs c computing e claims = absurd computing

  computing_waits : (k : PhysicalKind) (c : Claim) → IsComputing k → claim_by o p ss k progress hs ds i None ≡ Some c → ⊥
  computing_waits (select_node es extends) c computing claims = let never : None ≡ Some c = claims in cc
  computing_waits (filter_node t) c computing claims = let never : None ≡ Some c = claims in cc
  computing_waits (simple_projection names) c computing claims = let never : None ≡ Some c = claims in cc
  computing_waits (stream_map step) c computing claims = let never : None ≡ Some c = claims in cc
  computing_waits (with_row_index name offset) c computing claims = let never : None ≡ Some c = claims in cc
  computing_waits k c computing claims = computing

-- it has one input
one_input : (k : PhysicalKind) (inputs : ℕ) → IsComputing k → HasInputs k inputs → inputs ≡ 1
one_input (select_node es extends) inputs computing h = h
one_input (filter_node t) inputs computing h = h
one_input (simple_projection names) inputs computing h = h
one_input (stream_map step) inputs computing h = h
one_input (with_row_index name offset) inputs computing h = h
one_input k inputs computing h = absurd computing

-- and does nothing but compute
computes_alone : (w : Work) (p : PhysicalNode) (progress : Progress) → IsComputing p.kind → Does w p progress → (q : Arc Parameters Global) × (w ≡ work.Computes q)
computes_alone work.HandsOn p progress computing d = absurd (hands_none p.kind computing d)
  where
    hands_none : (k : PhysicalKind) → IsComputing k → HandsRowsOn k → ⊥
    hands_none (in_memory_source t) computing d = computing
    hands_none (streaming_slice offset n) computing d = computing
    hands_none k computing d = d
computes_alone (work.Unites sent) p progress computing d = absurd (subst IsComputing d.0 computing)
computes_alone (work.Computes q) p progress computing d = (q, refl)
computes_alone (work.Stores s) p progress computing d = absurd (subst IsComputing d.kind computing)

-- the operation of a kind that reads an input takes that input's table
takes_input : (q : Parameters) (before : ℕ) (k : PhysicalKind) (t : Frame) → IsComputing k → kind_computed q before ≡ kind_behind before k → (schemas_taken q.operation t ≡ t.schema ∷ []) × (rows_taken q.operation t ≡ t.rows ∷ []) × IsOver q.operation t (t.schema ∷ [])
takes_input q before k t computing e = by q.operation e
  where
    none_alone : (k : PhysicalKind) (es : List Named) → IsComputing k → independent_select es ≡ kind_behind before k → ⊥
    none_alone (select_node fs extends) es computing e = cc
    none_alone (filter_node u) es computing e = cc
    none_alone (simple_projection names) es computing e = cc
    none_alone (stream_map step) es computing e = cc
    none_alone (with_row_index name offset) es computing e = cc
    none_alone j es computing e = computing

    by : (op : Operation) → kind_in (tree_at q.exprs.items) before op ≡ kind_behind before k → (schemas_taken op t ≡ t.schema ∷ []) × (rows_taken op t ≡ t.rows ∷ []) × IsOver op t (t.schema ∷ [])
    by (operation.Select es) e = (refl, refl, refl)
    by (operation.HStack es) e = (refl, refl, refl)
    by (operation.IndependentSelect es) e = absurd (none_alone k (named_trees (tree_at q.exprs.items) es.items) computing e)
    by (operation.Filter p) e = (refl, refl, refl)
    by (operation.SimpleProjection names) e = (refl, refl, refl)
    by (operation.WithRowIndex name offset) e = (refl, refl, refl)
    by (operation.Map n) e = (refl, refl, refl)

-- what is found is the node's claim, if it has one
abbrev pub IsFoundFor : (F : Functions) (shape : Shape) (m : ℕ) (o : Options) (x : SeenNode) (seat : Seat) (number : ℕ) (morsel : Option Frame) (c : Claim) → Option (Claimed Piece) → Type 0
IsFoundFor F shape m o x seat number morsel c None = ClaimsOf F shape m o x seat.input number morsel c → ⊥
IsFoundFor F shape m o x seat number morsel c (Some y) = ClaimsOf F shape m o x seat.input number morsel c → Gives Shows IsPieceFor F seat x.node (rows_of morsel) c y

-- n computes over morsels; of a row index the rows before are those that it booked
module _ (F : Functions) (shape : Shape) (m : ℕ) (o : Options) (x : SeenNode) (seat : Seat) (number : ℕ) (c : Claim) (n : RunningNode) (before : ℕ) (h : Has o n x) (computing : IsComputing x.node.kind) (behind : kind_behind before x.node.kind ≡ kind_behind x.progress.booked x.node.kind) where
  -- over this table, by these parameters
  module _ (q : Arc Parameters Global) (is : n.work ≡ work.Computes q) (t : Frame) (d : ClaimsOf F shape m o x seat.input number (Some t) c) (y : Claimed Piece) (made : y ≡ morsel_piece seat number number (length t.rows) y.piece.task) (over : ComputesOver q.value before t y.piece.task) where
    own : AreOf x.node q.value
    own = subst (λ (w : Work). Does w x.node x.progress) is h.is.does

    only : x.schemas ≡ t.schema ∷ []
    only =
        only_one x.schemas seat.input t.schema (one_input x.node.kind (length x.schemas) computing (inputs_by F shape m o x seat.input number (Some t) c d x.node.kind refl)) d.comes

    taken : (schemas_taken q.value.operation t ≡ t.schema ∷ []) × (rows_taken q.value.operation t ≡ t.rows ∷ []) × IsOver q.value.operation t (t.schema ∷ [])
    taken = takes_input q.value before x.node.kind t computing (own.kind before)

    fit : IsFitFor F q.value before t
    fit = fit_for F x.node q.value before t (t.schema ∷ []) own (subst (λ (ss : List Fields). Fits F ss x.node.schema x.node.kind) only (fits_by F shape m o x seat.input number (Some t) c d x.node.kind refl)) taken.2

    -- of the task alone
    of_task : (a : Task) → ComputesOver q.value before t a → ShowsTask (computes (record x.node { kind = kind_behind x.progress.booked x.node.kind })) x.schemas (t.rows ∷ []) a × IsFit F a × (schema_given a ≡ x.node.schema)
    of_task (task.HandsOn u) a = absurd a
    of_task (task.Computes p k u) (e, f, g) =
        let P : Parameters → ℕ → Frame → Type 0 = λ r b v. ((kind_behind x.progress.booked x.node.kind ≡ kind_computed r b) × (x.node.origin ≡ r.origin.0) × (x.schemas ≡ schemas_taken r.operation v) × (t.rows ∷ [] ≡ rows_taken r.operation v)) × IsFitFor F r b v × (r.schema ≡ x.node.schema) in
        let at : P q.value before t = ((sym behind ∙ sym (own.kind before), sym own.origin, only ∙ sym taken.0, sym taken.1), fit, own.schema) in
        subst (λ (r : Parameters). P r k u) (sym e) (subst (λ (b : ℕ). P q.value b u) (sym f) (subst (λ (v : Frame). P q.value before v) (sym g) at))

    computed_gives : Gives Shows IsPieceFor F seat x.node (length t.rows) c y
    computed_gives =
        let told = of_task y.piece.task over in
        let claim = computing_claim o x.node x.schemas x.progress d.heads d.dones seat.input number x.node.kind t.rows c computing refl d.claims in
        subst (λ (z : Claimed Piece). Gives Shows IsPieceFor F seat x.node (length t.rows) c z) (sym made) (
        subst (λ (b : Claim). Gives Shows IsPieceFor F seat x.node (length t.rows) b (morsel_piece seat number number (length t.rows) y.piece.task)) claim (
        record {
          shows = record { node = refl; input = refl; number = refl; worker = refl; gives = refl; task = told.0 };
          suits = (told.1, told.2);
          rows_are = refl;
          takes = refl;
          drops = refl;
        }
        )
        )

  pub computed_found : (morsel : Option Frame) (found : Option (Claimed Piece)) → FoundOver n.work before seat number morsel found → IsFoundFor F shape m o x seat number morsel c found
  computed_found None None f = λ d. computing_waits o x.node x.schemas x.progress d.heads d.dones seat.input number x.node.kind c computing d.claims
  computed_found None (Some y) f = absurd (none_found n.work f)
    where
      none_found : (w : Work) → FoundOver w before seat number None (Some y) → ⊥
      none_found work.HandsOn f = f
      none_found (work.Unites sent) f = f
      none_found (work.Computes q) f = f
      none_found (work.Stores s) f = f
  computed_found (Some t) None f = λ d. let w = computes_alone n.work x.node x.progress computing h.is.does in subst (λ (v : Work). FoundOver v before seat number (Some t) None) w.1 f
  computed_found (Some t) (Some y) f = λ d.
      let w = computes_alone n.work x.node x.progress computing h.is.does in
      let g = subst (λ (v : Work). FoundOver v before seat number (Some t) (Some y)) w.1 f in
      computed_gives w.0 w.1 t d y g.0 g.1

-- a kind that computes and is no row index stays the same behind any rows
abbrev pub IsPlain : PhysicalKind → Type 0
IsPlain (select_node es extends) = ⊤
IsPlain (filter_node e) = ⊤
IsPlain (simple_projection names) = ⊤
IsPlain (stream_map step) = ⊤
IsPlain k = ⊥

plain_computes : (k : PhysicalKind) → IsPlain k → IsComputing k
plain_computes (select_node es extends) p = tt
plain_computes (filter_node e) p = tt
plain_computes (simple_projection names) p = tt
plain_computes (stream_map step) p = tt
plain_computes k p = absurd p

plain_stays : (k : PhysicalKind) (a b : ℕ) → IsPlain k → kind_behind a k ≡ kind_behind b k
plain_stays (select_node es extends) a b p = refl
plain_stays (filter_node e) a b p = refl
plain_stays (simple_projection names) a b p = refl
plain_stays (stream_map step) a b p = refl
plain_stays k a b p = absurd p

-- what was found over a morsel is a claim of the node, if it has one
is_claim : (n : RunningNode) (before : ℕ) (seat : Seat) (number : ℕ) (morsel : Option Frame) (found : Option (Claimed Piece)) → FoundOver n.work before seat number morsel found
    → ((o : Options) (x : SeenNode) → Has o n x → IsComputing x.node.kind × (kind_behind before x.node.kind ≡ kind_behind x.progress.booked x.node.kind)) → IsClaimOf Shows IsPieceFor Has n seat number morsel found
is_claim n before seat number morsel None f known = λ F shape m o x c h d. let k = known o x h in computed_found F shape m o x seat number c n before h k.0 k.1 morsel None f d
is_claim n before seat number morsel (Some y) f known = λ F shape m o x c h d. let k = known o x h in computed_found F shape m o x seat number c n before h k.0 k.1 morsel (Some y) f d

-- whichever claim a node has that computes and is no row index, it is what was found
pub of_plain : (n : RunningNode) → IsPlain (kind_of n.flow) → (seat : Seat) (number : ℕ) (morsel : Option Frame) (found : Option (Claimed Piece)) → FoundOver n.work 0 seat number morsel found → IsClaimOf Shows IsPieceFor Has n seat number morsel found
of_plain n plain seat number morsel found f =
    is_claim n 0 seat number morsel found f (λ o x h. let p = subst IsPlain h.is.kind plain in (plain_computes x.node.kind p, plain_stays x.node.kind 0 x.progress.booked p))

-- and a row index
pub of_index : (n : RunningNode) (s : WithRowIndexNode) → n.flow ≡ flow.WithRowIndex s → (seat : Seat) (number : ℕ) (morsel : Option Frame) (found : Option (Claimed Piece)) → FoundOver n.work s.booked seat number morsel found → IsClaimOf Shows IsPieceFor Has n seat number morsel found
of_index n s is seat number morsel found f =
    is_claim n s.booked seat number morsel found f (λ o x h.
    let g = moved o n x (flow.WithRowIndex s) is h in
    let booked : s.booked ≡ x.progress.booked = come_by o (record { flow = flow.WithRowIndex s; work = n.work }) x g (with_row_index s.name s.offset) g.is.kind in
    (subst IsComputing g.is.kind tt, ap (λ (k : ℕ). kind_behind k x.node.kind) booked))
