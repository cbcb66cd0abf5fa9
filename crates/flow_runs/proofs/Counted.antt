-- A node that counted a claim is what the claim makes of it.
use Rattle.std.proofs.Common.{◌≡◌, ◌≢◌, ℕ, ◌+◌, true, false, length, Option, None, Some, refl, sym, ap, subst, ◌∙◌}
use Rattle.std.specs.Prelude.{IsTrue, map, nat_eq, ⊤}
use Rattle.std.proofs.lemmas.Option.{same_Some}
use Rattle.node_work.specs.Working.{Does}
use Rattle.node_work.specs.declared.work.Work.{Work}
use Rattle.node_work.specs.declared.work.Work.TheVariants as work
use Rattle.plain_nodes.specs.Exprs.{expr_shown}
use Rattle.plain_nodes.specs.declared.filter.FilterNode.{FilterNode}
use Rattle.plain_nodes.specs.declared.map.MapNode.{MapNode}
use Rattle.plain_nodes.specs.declared.ordered_union.OrderedUnionNode.{OrderedUnionNode}
use Rattle.plain_nodes.specs.declared.projection.SimpleProjectionNode.{SimpleProjectionNode}
use Rattle.plain_nodes.specs.declared.select.SelectNode.{SelectNode}
use Rattle.plain_nodes.specs.declared.independent_select.InputIndependentSelectNode.{InputIndependentSelectNode}
use Rattle.plain_nodes.specs.declared.row_index.WithRowIndexNode.{WithRowIndexNode}
use Rattle.plain_nodes.specs.declared.slice.StreamingSliceNode.{StreamingSliceNode}
use Rattle.plain_nodes.specs.declared.source.InMemorySourceNode.{InMemorySourceNode}
use Rattle.ps_flow.specs.Claiming.{ClaimsOf, HasClaimed, IsClaimOf, next_of, rows_of, streams}
use Rattle.ps_flow.specs.declared.claim_node.Seat.{Seat}
use Rattle.ps_frame.specs.Functions.{Functions}
use Rattle.ps_frame.specs.Tables.{Frame}
use Rattle.ps_meaning.specs.Shape.{PhysicalKind, PhysicalNode, Shape, filter_node, in_memory_sink, in_memory_source, independent_select, ordered_union, select_node, simple_projection, stream_map, streaming_slice, with_row_index}
use Rattle.ps_nodes.specs.Seen.{kind_of, options_of, progress_of}
use Rattle.ps_nodes.specs.declared.flow.FlowNode.{FlowNode}
use Rattle.ps_nodes.specs.declared.flow.FlowNode.TheVariants as flow
use Rattle.ps_options.specs.declared.options.Options.{Options}
use Rattle.ps_pieces.specs.Shown.{Shows}
use Rattle.ps_turns.specs.Claims.{Claim, claim_by, passes}
use Rattle.ps_turns.specs.Cuts.{is_exhausted}
use Rattle.ps_turns.specs.Progress.{Progress}
use Rattle.turn_laws.specs.Updating.{SeenNode}
use Rattle.flow_runs.proofs.KindClaims.{by_kind, come_by, first_alone, not_spent, still_left}
use Rattle.flow_runs.proofs.MorselClaims.{IsPlain, unites_alone}
use Rattle.flow_runs.specs.Claims.{IsPieceFor, counted_in, given_once_more}
use Rattle.flow_runs.specs.Running.{Has, HasComeAsFar, IsCutBy}
use Rattle.flow_runs.specs.declared.node.RunningNode.{RunningNode}

-- what a node does that is no union hangs on its stores alone
still_does : (w : Work) (p : PhysicalNode) (a b : Progress) → (ordered_union ≡ p.kind → ⊥) → a.stores ≡ b.stores → Does w p a → Does w p b
still_does work.HandsOn p a b other same d = d
still_does (work.Unites sent) p a b other same d = absurd (other (sym d.0))
still_does (work.Computes q) p a b other same d = d
still_does (work.Stores m) p a b other same d = record { kind = d.kind; schema = d.schema; origin = d.origin; morsels = sym same ∙ d.morsels }

-- a node that counts, with this kind, once it counted
module _ (o : Options) (n n' : RunningNode) (x : SeenNode) (h : Has o n x) (after : Progress) (k : PhysicalKind) (is : k ≡ x.node.kind) (kind' : kind_of n'.flow ≡ k) (cut' : IsCutBy k (options_of n'.flow) o) (come : HasComeAsFar k (progress_of n'.flow) after) (does : Does n'.work x.node after) where
  pub then_has : Has o n' (record x { progress = after })
  then_has =
      record {
        is = record { streams = h.is.streams; inputs = h.is.inputs; kind = kind' ∙ is; come = subst (λ (j : PhysicalKind). HasComeAsFar j (progress_of n'.flow) after) is come; does = does };
        cut = subst (λ (j : PhysicalKind). IsCutBy j (options_of n'.flow) o) is cut';
      }

module _ (F : Functions) (shape : Shape) (m : ℕ) (o : Options) (x : SeenNode) (i number : ℕ) (morsel : Option Frame) (c : Claim) (w : Work) (d : ClaimsOf F shape m o x i number morsel c) where
  -- it has what the claim leaves behind
  abbrev Leaves : RunningNode → Type 0
  Leaves n = Has o n (record x { progress = c.progress })

  source_counts : (s : InMemorySourceNode) → Has o (record { flow = flow.InMemorySource s; work = w }) x → Leaves (record { flow = flow.InMemorySource (record s { sent = s.sent + 1 }); work = w })
  source_counts s h =
      let k : PhysicalKind = in_memory_source s.source in
      let first = first_alone (nat_eq i 0) _ c (by_kind F shape m o x i number morsel c d k h.is.kind) in
      let own = not_spent (is_exhausted o s.source.rows x.progress.sent) _ c first.1 in
      let n : RunningNode = record { flow = flow.InMemorySource s; work = w } in
      let come : s.sent ≡ x.progress.sent = come_by o n x h k h.is.kind in
      let after : Progress = record x.progress { sent = x.progress.sent + 1 } in
      subst (λ (b : Claim). Has o (record { flow = flow.InMemorySource (record s { sent = s.sent + 1 }); work = w }) (record x { progress = b.progress })) own.1 (
      then_has o n (record { flow = flow.InMemorySource (record s { sent = s.sent + 1 }); work = w }) x h after k h.is.kind refl (subst (λ (j : PhysicalKind). IsCutBy j s.options o) (sym h.is.kind) h.cut) (ap (λ (z : ℕ). z + 1) come)
      (still_does w x.node x.progress after (λ e. let clash : in_memory_source s.source ≡ ordered_union = h.is.kind ∙ sym e in absurd cc) refl h.is.does)
      )

  select_counts : (s : InputIndependentSelectNode) → Has o (record { flow = flow.InputIndependentSelect s; work = w }) x → Leaves (record { flow = flow.InputIndependentSelect (record s { sent = s.sent + 1 }); work = w })
  select_counts s h =
      let k : PhysicalKind = independent_select (map expr_shown s.selectors.items) in
      let first = first_alone (nat_eq i 0) _ c (by_kind F shape m o x i number morsel c d k h.is.kind) in
      let own = still_left (nat_eq x.progress.sent 0) _ c first.1 in
      let n : RunningNode = record { flow = flow.InputIndependentSelect s; work = w } in
      let come : s.sent ≡ x.progress.sent = come_by o n x h k h.is.kind in
      let after : Progress = record x.progress { sent = x.progress.sent + 1 } in
      subst (λ (b : Claim). Has o (record { flow = flow.InputIndependentSelect (record s { sent = s.sent + 1 }); work = w }) (record x { progress = b.progress })) own.1 (
      then_has o n (record { flow = flow.InputIndependentSelect (record s { sent = s.sent + 1 }); work = w }) x h after k h.is.kind refl tt (ap (λ (z : ℕ). z + 1) come)
      (still_does w x.node x.progress after (λ e. let clash : independent_select (map expr_shown s.selectors.items) ≡ ordered_union = h.is.kind ∙ sym e in absurd cc) refl h.is.does)
      )

module _ (F : Functions) (shape : Shape) (m : ℕ) (o : Options) (x : SeenNode) (i number : ℕ) (t : Frame) (c : Claim) (w : Work) (d : ClaimsOf F shape m o x i number (Some t) c) where
  abbrev AlsoLeaves : RunningNode → Type 0
  AlsoLeaves n = Has o n (record x { progress = c.progress })

  slice_counts : (s : StreamingSliceNode) → Has o (record { flow = flow.StreamingSlice s; work = w }) x → AlsoLeaves (record { flow = flow.StreamingSlice (record s { state = record s.state { booked = s.state.booked + length t.rows } }); work = w })
  slice_counts s h =
      let k : PhysicalKind = streaming_slice s.state.offset s.state.length in
      let claim : passes o x.node x.schemas k x.progress number t.rows ≡ c = same_Some _ c (by_kind F shape m o x i number (Some t) c d k h.is.kind) in
      let n : RunningNode = record { flow = flow.StreamingSlice s; work = w } in
      let come : s.state.booked ≡ x.progress.booked = come_by o n x h k h.is.kind in
      let after : Progress = record x.progress { booked = x.progress.booked + length t.rows } in
      subst (λ (b : Claim). Has o (record { flow = flow.StreamingSlice (record s { state = record s.state { booked = s.state.booked + length t.rows } }); work = w }) (record x { progress = b.progress })) claim (
      then_has o n (record { flow = flow.StreamingSlice (record s { state = record s.state { booked = s.state.booked + length t.rows } }); work = w }) x h after k h.is.kind refl tt (ap (λ (z : ℕ). z + length t.rows) come)
      (still_does w x.node x.progress after (λ e. let clash : streaming_slice s.state.offset s.state.length ≡ ordered_union = h.is.kind ∙ sym e in absurd cc) refl h.is.does)
      )

  index_counts : (s : WithRowIndexNode) → Has o (record { flow = flow.WithRowIndex s; work = w }) x → AlsoLeaves (record { flow = flow.WithRowIndex (record s { booked = s.booked + length t.rows }); work = w })
  index_counts s h =
      let k : PhysicalKind = with_row_index s.name s.offset in
      let claim : passes o x.node x.schemas k x.progress number t.rows ≡ c = same_Some _ c (by_kind F shape m o x i number (Some t) c d k h.is.kind) in
      let n : RunningNode = record { flow = flow.WithRowIndex s; work = w } in
      let come : s.booked ≡ x.progress.booked = come_by o n x h k h.is.kind in
      let after : Progress = record x.progress { booked = x.progress.booked + length t.rows } in
      subst (λ (b : Claim). Has o (record { flow = flow.WithRowIndex (record s { booked = s.booked + length t.rows }); work = w }) (record x { progress = b.progress })) claim (
      then_has o n (record { flow = flow.WithRowIndex (record s { booked = s.booked + length t.rows }); work = w }) x h after k h.is.kind refl tt (ap (λ (z : ℕ). z + length t.rows) come)
      (still_does w x.node x.progress after (λ e. let clash : with_row_index s.name s.offset ≡ ordered_union = h.is.kind ∙ sym e in absurd cc) refl h.is.does)
      )

  union_counts : (fl : FlowNode) → kind_of fl ≡ ordered_union → Has o (record { flow = fl; work = w }) x → AlsoLeaves (record { flow = fl; work = given_once_more w })
  union_counts fl kind h =
      let is : ordered_union ≡ x.node.kind = sym kind ∙ h.is.kind in
      let claim : passes o x.node x.schemas ordered_union x.progress number t.rows ≡ c = same_Some _ c (by_kind F shape m o x i number (Some t) c d ordered_union is) in
      let after : Progress = record x.progress { sent = x.progress.sent + 1 } in
      let unites = unites_alone w x.node x.progress is h.is.does in
      let does : Does (given_once_more w) x.node after =
      subst (λ (v : Work). Does (given_once_more v) x.node after) (sym unites.1) (sym is, ap (λ (z : ℕ). z + 1) (subst (λ (v : Work). Does v x.node x.progress) unites.1 h.is.does).1) in
      subst (λ (b : Claim). Has o (record { flow = fl; work = given_once_more w }) (record x { progress = b.progress })) claim (
      then_has o (record { flow = fl; work = w }) (record { flow = fl; work = given_once_more w }) x h after ordered_union is kind tt tt does
      )

-- what counts nothing has nothing more behind it
plain_counts : (F : Functions) (shape : Shape) (m : ℕ) (o : Options) (x : SeenNode) (i number : ℕ) (morsel : Option Frame) (c : Claim) (n : RunningNode) → IsPlain (kind_of n.flow) → ClaimsOf F shape m o x i number morsel c → Has o n x → Has o n (record x { progress = c.progress })
plain_counts F shape m o x i number morsel c n plain d h = by morsel x.node.kind (subst IsPlain h.is.kind plain) d.claims
  where
    by : (next : Option Frame) (k : PhysicalKind) → IsPlain k → claim_by o x.node x.schemas k x.progress d.heads d.dones i (next_of number next) ≡ Some c → Has o n (record x { progress = c.progress })
    by (Some t) (select_node es extends) p e = subst (λ (b : Claim). Has o n (record x { progress = b.progress })) (same_Some _ c e) h
    by (Some t) (filter_node u) p e = subst (λ (b : Claim). Has o n (record x { progress = b.progress })) (same_Some _ c e) h
    by (Some t) (simple_projection names) p e = subst (λ (b : Claim). Has o n (record x { progress = b.progress })) (same_Some _ c e) h
    by (Some t) (stream_map step) p e = subst (λ (b : Claim). Has o n (record x { progress = b.progress })) (same_Some _ c e) h
    by None (select_node es extends) p e = absurd (let clash : None ≡ Some c = e in cc)
    by None (filter_node u) p e = absurd (let clash : None ≡ Some c = e in cc)
    by None (simple_projection names) p e = absurd (let clash : None ≡ Some c = e in cc)
    by None (stream_map step) p e = absurd (let clash : None ≡ Some c = e in cc)
    by next k p e = absurd p

-- a claim of such a kind takes a morsel
abbrev TakesMorsel : PhysicalKind → Type 0
TakesMorsel (streaming_slice offset n) = ⊤
TakesMorsel (with_row_index name offset) = ⊤
TakesMorsel ordered_union = ⊤
TakesMorsel k = ⊥

-- no morsel comes, and the claim takes one
waits : (F : Functions) (shape : Shape) (m : ℕ) (o : Options) (x : SeenNode) (i number : ℕ) (c : Claim) (k : PhysicalKind) → k ≡ x.node.kind → TakesMorsel k → ClaimsOf F shape m o x i number None c → ⊥
waits F shape m o x i number c (streaming_slice offset n) e takes d = let clash : None ≡ Some c = by_kind F shape m o x i number None c d (streaming_slice offset n) e in cc
waits F shape m o x i number c (with_row_index name offset) e takes d = let clash : None ≡ Some c = by_kind F shape m o x i number None c d (with_row_index name offset) e in cc
waits F shape m o x i number c ordered_union e takes d = let clash : None ≡ Some c = by_kind F shape m o x i number None c d ordered_union e in cc
waits F shape m o x i number c k e takes d = takes

-- THE COUNTS
counts : (fl : FlowNode) (w : Work) (i rows : ℕ) → HasClaimed Has i rows (record { flow = fl; work = w }) (counted_in fl w rows)
counts (flow.InMemorySource s) w i rows = λ F shape m o x number morsel c h d same. source_counts F shape m o x i number morsel c w d s h
counts (flow.InputIndependentSelect s) w i rows = λ F shape m o x number morsel c h d same. select_counts F shape m o x i number morsel c w d s h
counts (flow.StreamingSlice s) w i rows = λ F shape m o x number morsel c h d same. by F shape m o x number morsel c h d same
  where
    by : (F : Functions) (shape : Shape) (m : ℕ) (o : Options) (x : SeenNode) (number : ℕ) (morsel : Option Frame) (c : Claim) → Has o (record { flow = flow.StreamingSlice s; work = w }) x → ClaimsOf F shape m o x i number morsel c → rows ≡ rows_of morsel
        → Has o (counted_in (flow.StreamingSlice s) w rows) (record x { progress = c.progress })
    by F shape m o x number None c h d same = absurd (waits F shape m o x i number c (streaming_slice s.state.offset s.state.length) h.is.kind tt d)
    by F shape m o x number (Some t) c h d same = subst (λ (r : ℕ). Has o (counted_in (flow.StreamingSlice s) w r) (record x { progress = c.progress })) (sym same) (slice_counts F shape m o x i number t c w d s h)
counts (flow.WithRowIndex s) w i rows = λ F shape m o x number morsel c h d same. by F shape m o x number morsel c h d same
  where
    by : (F : Functions) (shape : Shape) (m : ℕ) (o : Options) (x : SeenNode) (number : ℕ) (morsel : Option Frame) (c : Claim) → Has o (record { flow = flow.WithRowIndex s; work = w }) x → ClaimsOf F shape m o x i number morsel c → rows ≡ rows_of morsel
        → Has o (counted_in (flow.WithRowIndex s) w rows) (record x { progress = c.progress })
    by F shape m o x number None c h d same = absurd (waits F shape m o x i number c (with_row_index s.name s.offset) h.is.kind tt d)
    by F shape m o x number (Some t) c h d same = subst (λ (r : ℕ). Has o (counted_in (flow.WithRowIndex s) w r) (record x { progress = c.progress })) (sym same) (index_counts F shape m o x i number t c w d s h)
counts (flow.OrderedUnion u) w i rows = λ F shape m o x number morsel c h d same. by F shape m o x number morsel c h d
  where
    by : (F : Functions) (shape : Shape) (m : ℕ) (o : Options) (x : SeenNode) (number : ℕ) (morsel : Option Frame) (c : Claim) → Has o (record { flow = flow.OrderedUnion u; work = w }) x → ClaimsOf F shape m o x i number morsel c
        → Has o (record { flow = flow.OrderedUnion u; work = given_once_more w }) (record x { progress = c.progress })
    by F shape m o x number None c h d = absurd (waits F shape m o x i number c ordered_union h.is.kind tt d)
    by F shape m o x number (Some t) c h d = union_counts F shape m o x i number t c w d (flow.OrderedUnion u) refl h
counts (flow.Filter s) w i rows = λ F shape m o x number morsel c h d same. plain_counts F shape m o x i number morsel c (record { flow = flow.Filter s; work = w }) tt d h
counts (flow.Select s) w i rows = λ F shape m o x number morsel c h d same. plain_counts F shape m o x i number morsel c (record { flow = flow.Select s; work = w }) tt d h
counts (flow.SimpleProjection s) w i rows = λ F shape m o x number morsel c h d same. plain_counts F shape m o x i number morsel c (record { flow = flow.SimpleProjection s; work = w }) tt d h
counts (flow.Map s) w i rows = λ F shape m o x number morsel c h d same. plain_counts F shape m o x i number morsel c (record { flow = flow.Map s; work = w }) tt d h
counts (flow.InMemorySink s) w i rows = λ F shape m o x number morsel c h d same. absurd (let clash : None ≡ Some c = by_kind F shape m o x i number morsel c d in_memory_sink h.is.kind in cc)
counts fl w i rows = λ F shape m o x number morsel c h d same. absurd (stops (subst (λ (k : PhysicalKind). IsTrue (streams k)) (sym h.is.kind) h.is.streams))
  where
    stops : false ≡ true → ⊥
    stops e = cc

pub has_claimed : (n : RunningNode) (i rows : ℕ) (after : RunningNode) → counted_in n.flow n.work rows ≡ after → HasClaimed Has i rows n after
has_claimed n i rows after e = subst (λ (b : RunningNode). HasClaimed Has i rows n b) e (counts n.flow n.work i rows)

-- NO CLAIM
-- a sink has none, and other nodes don't stream
abbrev pub ClaimsNone : FlowNode → Type 0
ClaimsNone (flow.InMemorySource s) = ⊥
ClaimsNone (flow.InputIndependentSelect s) = ⊥
ClaimsNone (flow.StreamingSlice s) = ⊥
ClaimsNone (flow.WithRowIndex s) = ⊥
ClaimsNone (flow.OrderedUnion s) = ⊥
ClaimsNone (flow.Filter s) = ⊥
ClaimsNone (flow.Select s) = ⊥
ClaimsNone (flow.SimpleProjection s) = ⊥
ClaimsNone (flow.Map s) = ⊥
ClaimsNone fl = ⊤

pub none_of : (fl : FlowNode) → ((s : FilterNode) → fl ≢ flow.Filter s) → ((s : SelectNode) → fl ≢ flow.Select s) → ((s : InputIndependentSelectNode) → fl ≢ flow.InputIndependentSelect s) → ((s : SimpleProjectionNode) → fl ≢ flow.SimpleProjection s)
    → ((s : WithRowIndexNode) → fl ≢ flow.WithRowIndex s) → ((s : MapNode) → fl ≢ flow.Map s) → ((s : StreamingSliceNode) → fl ≢ flow.StreamingSlice s) → ((s : InMemorySourceNode) → fl ≢ flow.InMemorySource s) → ((s : OrderedUnionNode) → fl ≢ flow.OrderedUnion s) → ClaimsNone fl
none_of (flow.Filter s) filter select alone project index mapped slice source unites = filter s refl
none_of (flow.Select s) filter select alone project index mapped slice source unites = select s refl
none_of (flow.InputIndependentSelect s) filter select alone project index mapped slice source unites = alone s refl
none_of (flow.SimpleProjection s) filter select alone project index mapped slice source unites = project s refl
none_of (flow.WithRowIndex s) filter select alone project index mapped slice source unites = index s refl
none_of (flow.Map s) filter select alone project index mapped slice source unites = mapped s refl
none_of (flow.StreamingSlice s) filter select alone project index mapped slice source unites = slice s refl
none_of (flow.InMemorySource s) filter select alone project index mapped slice source unites = source s refl
none_of (flow.OrderedUnion s) filter select alone project index mapped slice source unites = unites s refl
none_of fl filter select alone project index mapped slice source unites = tt

halts : false ≡ true → ⊥
halts e = cc

pub no_claim : (fl : FlowNode) → ClaimsNone fl → (w : Work) (seat : Seat) (number : ℕ) (morsel : Option Frame) → IsClaimOf Shows IsPieceFor Has (record { flow = fl; work = w }) seat number morsel None
no_claim (flow.InMemorySink s) none w seat number morsel = λ F shape m o x c h d. let clash : None ≡ Some c = by_kind F shape m o x seat.input number morsel c d in_memory_sink h.is.kind in cc
no_claim (flow.Zip s) none w seat number morsel = λ F shape m o x c h d. halts (subst (λ (k : PhysicalKind). IsTrue (streams k)) (sym h.is.kind) h.is.streams)
no_claim (flow.Multiplexer s) none w seat number morsel = λ F shape m o x c h d. halts (subst (λ (k : PhysicalKind). IsTrue (streams k)) (sym h.is.kind) h.is.streams)
no_claim (flow.NegativeSlice s) none w seat number morsel = λ F shape m o x c h d. halts (subst (λ (k : PhysicalKind). IsTrue (streams k)) (sym h.is.kind) h.is.streams)
no_claim (flow.Reduce s) none w seat number morsel = λ F shape m o x c h d. halts (subst (λ (k : PhysicalKind). IsTrue (streams k)) (sym h.is.kind) h.is.streams)
no_claim (flow.GroupBy s) none w seat number morsel = λ F shape m o x c h d. halts (subst (λ (k : PhysicalKind). IsTrue (streams k)) (sym h.is.kind) h.is.streams)
no_claim (flow.InMemoryMap s) none w seat number morsel = λ F shape m o x c h d. halts (subst (λ (k : PhysicalKind). IsTrue (streams k)) (sym h.is.kind) h.is.streams)
no_claim (flow.InMemoryJoin s) none w seat number morsel = λ F shape m o x c h d. halts (subst (λ (k : PhysicalKind). IsTrue (streams k)) (sym h.is.kind) h.is.streams)
no_claim (flow.EquiJoin s) none w seat number morsel = λ F shape m o x c h d. halts (subst (λ (k : PhysicalKind). IsTrue (streams k)) (sym h.is.kind) h.is.streams)
no_claim fl none w seat number morsel = absurd none
