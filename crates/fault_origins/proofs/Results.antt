-- A fault that may be handed in for a piece, or that an update or a pull finds, has the origin of its node.
use Rattle.std.proofs.Common.{◌≡◌, ℕ, ◌<◌, ◌⊎◌, Bool, true, false, cond, List, [], ◌∷◌, ◌++◌, length, Some, None, refl, sym, ap, subst, ◌∙◌, inl, inr}
use Rattle.std.specs.Prelude.{Contains, option_map, slice_get}
use Rattle.std.specs.List.{AllByRecursion}
use Rattle.std.proofs.lemmas.Option.{slice_get-map}
use Rattle.ps_frame.specs.Aggregates.{max_rows}
use Rattle.ps_frame.specs.Causes.{Cause}
use Rattle.ps_frame.specs.Functions.{Functions}
use Rattle.ps_frame.specs.Tables.{Fields, IsWhole, Row, Table}
use Rattle.ps_frame.specs.Trees.{Tree}
use Rattle.ps_frame.specs.declared.value.DataFault.TheVariants as data_fault
use Rattle.ps_meaning.specs.Cases.{first_table, keyed, second_table}
use Rattle.ps_meaning.specs.Shape.{PhysicalKind, PhysicalNode, equi_join, zip_node}
use Rattle.ps_meaning.specs.Steps.{JoinStep}
use Rattle.ps_ports.specs.Ports.{Sides}
use Rattle.ps_turns.specs.Heads.{Head}
use Rattle.ps_turns.specs.Keys.{key_trees, part_of}
use Rattle.ps_turns.specs.Pulls.{after_store, passes_limit}
use Rattle.ps_turns.specs.Progress.{is_multiplexer}
use Rattle.ps_turns.specs.Results.{BreaksJoined, BreaksPartial, BreaksRows, IsBrokenOver, IsResultOf, probed_rows, rows_fault, unmatched_rows}
use Rattle.ps_turns.specs.Tables.{whole_tables}
use Rattle.ps_turns.specs.Tasks.{Task, bad, computes, gives_last, gives_part, hands_on, keeps, probes}
use Rattle.ps_turns.specs.Updates.{BreaksTable, heads_differ, shape_fault, stored_tables}
use Rattle.ps_world.specs.Laws.{MakesFault}
use Rattle.ps_world.specs.Updates.{FaultFound, given_at}
use Rattle.ps_world.specs.World.{Ending, Node, Record, World, claimed, closed, ended, faulty, handed_in, heads_of, opened, pulled, running, schemas_for, shape_of}
use Rattle.origin_laws.proofs.Causes.{Each, both, none}
use Rattle.origin_laws.proofs.Sources.{of_physical}
use Rattle.origin_laws.proofs.Steps.{keyed_holds, keyed_lost}
use Rattle.world_facts.proofs.FromFacts.{piece_nodes}
use Rattle.world_laws.proofs.Shapes.{updates_keep}
use Rattle.world_bounds.proofs.Pieces.{AllFit}
use Rattle.world_claims.specs.Numbering.{Known}
use Rattle.fault_origins.proofs.Tasks.{OwnTask, TaskOf, own_claimed, own_onward}

-- tables of pieces are whole
pub all_whole : (ss : List Fields) (rs : List (List Row)) → AllByRecursion IsWhole (whole_tables ss rs)
all_whole [] rs = tt
all_whole (s ∷ ss) [] = tt
all_whole (s ∷ ss) (r ∷ rs) = (refl, all_whole ss rs)

first_whole : (ts : List Table) → AllByRecursion IsWhole ts → (first_table ts).broken ≡ []
first_whole [] h = refl
first_whole (t ∷ ts) h = h.0

second_whole : (ts : List Table) → AllByRecursion IsWhole ts → (second_table ts).broken ≡ []
second_whole [] h = refl
second_whole (t ∷ ts) h = first_whole ts h.1

-- a cause that the node made
abbrev Mine : PhysicalNode → Cause → Type 0
Mine p c = c.node ≡ p.origin

of_rows : (p : PhysicalNode) (c : Cause) → c ≡ rows_fault p → c.node ≡ p.origin
of_rows p c e = ap (λ (x : Cause). x.node) e

module _ (F : Functions) where
  pub of_broken : (p : PhysicalNode) (ts : List Table) → AllByRecursion IsWhole ts → (c : Cause) → IsBrokenOver F p ts c → c.node ≡ p.origin
  of_broken p ts whole c b = by b.2
    where
      by : Contains b.0.broken c ⊎ (max_rows < length b.0.rows) × (c ≡ rows_fault p) → c.node ≡ p.origin
      by (inl there) = of_physical F p ts b.0 whole b.1 c there
      by (inr large) = of_rows p c large.1

  of_unmade : (p : PhysicalNode) (ts : List Table) → AllByRecursion IsWhole ts → (c : Cause) → BreaksRows F p ts c → c.node ≡ p.origin
  of_unmade p ts whole c (inl b) = of_broken p ts whole c b
  of_unmade p ts whole c (inr large) = of_rows p c large.1

  -- a side of a join, with its keys
  of_side : (p : PhysicalNode) (keys : List Tree) (t : Table) → t.broken ≡ [] → (c : Cause) → Contains ((keyed p.origin keys t).broken ++ (keyed p.origin keys t).lost) c → c.node ≡ p.origin
  of_side p keys t whole c there =
      let h : Each (Mine p) t.broken = subst (Each (Mine p)) (sym whole) (none (Mine p)) in
      both (Mine p) (keyed p.origin keys t).broken (keyed p.origin keys t).lost (keyed_holds (Mine p) p.origin (λ x o. o) keys t h) (keyed_lost (Mine p) p.origin (λ x o. o) keys t h) c there

  of_partial : (p : PhysicalNode) (kind : PhysicalKind) (i : ℕ) (ts : List Table) → AllByRecursion IsWhole ts → (c : Cause) → BreaksPartial F p kind i ts c → c.node ≡ p.origin
  of_partial p (equi_join j) i ts whole c b = of_side p (key_trees p.kind i) (first_table ts) (first_whole ts whole) c b
  of_partial p kind i ts whole c b = of_broken p ts whole c b

  of_joined : (p : PhysicalNode) (j : JoinStep) (ts : List Table) (joined : List Row) → AllByRecursion IsWhole ts → (c : Cause) → BreaksJoined F p j ts joined c → c.node ≡ p.origin
  of_joined p j ts joined whole c (inl l) = of_side p j.left_on (first_table ts) (first_whole ts whole) c l
  of_joined p j ts joined whole c (inr (inl r)) = of_side p j.right_on (second_table ts) (second_whole ts whole) c r
  of_joined p j ts joined whole c (inr (inr large)) = of_rows p c large.1

  of_part : (p : PhysicalNode) (keys : List Row) (ts : List Table) → AllByRecursion IsWhole ts → (c : Cause) → IsBrokenOver F p (part_of p keys ts) c → c.node ≡ p.origin
  of_part p keys ts whole c b = of_broken p (part_of p keys ts) (first_whole ts whole, tt) c b

  pub of_result : (n : ℕ) (task : Task) (i : ℕ) (ts : List Table) (tables : List (List Row)) → AllByRecursion IsWhole ts → (c : Cause) → TaskOf n task → IsResultOf F task i ts tables (bad c) → c.node ≡ n
  of_result n hands_on i ts tables whole c t r = absurd r
  of_result n (computes p) i ts tables whole c t r = of_broken p ts whole c r ∙ t
  of_result n (keeps p) i ts tables whole c t r = of_partial p p.kind i ts whole c r ∙ t
  of_result n (gives_part p keys) i ts tables whole c t (inl b) = of_part p keys ts whole c b ∙ t
  of_result n (gives_part p keys) i ts tables whole c t (inr many) = of_rows p c many.1 ∙ t
  of_result n (probes p j) i ts tables whole c t r = of_joined p j ts (probed_rows F p j ts) whole c r ∙ t
  of_result n (gives_last p j) i ts tables whole c t r = of_joined p j ts (unmatched_rows F p j ts) whole c r ∙ t

  -- UPDATES AND PULLS
  of_shape : (p : PhysicalNode) (kind : PhysicalKind) (hs : List Head) (given : Sides) (c : Cause) → shape_fault p kind hs given ≡ Some c → c.node ≡ p.origin
  of_shape p (zip_node false) hs given c e = by (heads_differ hs given) e
    where
      by : (b : Bool) → cond b (Some (record { fault = data_fault.Shape; node = p.origin })) None ≡ Some c → c.node ≡ p.origin
      by true q = let is : record { fault = data_fault.Shape; node = p.origin } ≡ c = cc in ap (λ (x : Cause). x.node) (sym is)
      by false q = absurd (let no : None ≡ Some c = q in cc)
  of_shape p kind hs given c e = absurd (let no : None ≡ Some c = e in cc)

  of_found : (s : World) (node : Node) (n : ℕ) (c : Cause) → (shape_fault node.node node.node.kind (heads_of s n node) (given_at s n) ≡ Some c) ⊎ BreaksTable F s.options node.node (schemas_for s node) (given_at s n) node.progress c → c.node ≡ node.node.origin
  of_found s node n c (inl e) = of_shape node.node node.node.kind (heads_of s n node) (given_at s n) c e
  of_found s node n c (inr b) =
      of_unmade node.node (whole_tables (schemas_for s node) (stored_tables node.progress)) (all_whole (schemas_for s node) (stored_tables node.progress)) c b.1

  -- a node of the world, and the entry of its number in the shape
  shown : (w : World) (n : ℕ) (node : Node) (p : PhysicalNode) → slice_get w.nodes n ≡ Some node → slice_get (shape_of w) n ≡ Some p → node.node ≡ p
  shown w n node p at e =
      let there : slice_get (shape_of w) n ≡ Some node.node = slice_get-map (λ (x : Node). x.node) w.nodes n ∙ ap (option_map (λ (x : Node). x.node)) at in
      let q : Some node.node ≡ Some p = sym there ∙ e in
      cc

  of_entry : (w : World) (n : ℕ) (node : Node) (p : PhysicalNode) (c : Cause) → slice_get w.nodes n ≡ Some node → slice_get (shape_of w) n ≡ Some p → c.node ≡ node.node.origin → c.node ≡ p.origin
  of_entry w n node p c at e own = own ∙ ap (λ (x : PhysicalNode). x.origin) (shown w n node p at e)

  pub of_open : (s : World) (n : ℕ) (p : PhysicalNode) (c : Cause) → slice_get (shape_of s) n ≡ Some p → FaultFound F s n c → c.node ≡ p.origin
  of_open s n p c e found = of_entry s n found.0 p c found.1 e (of_found s found.0 n c found.2)

  pull_fault : (b : Bool) (p : PhysicalNode) (before : Ending) (c : Cause) → before ≡ running → cond b (faulty (rows_fault p)) before ≡ faulty c → c.node ≡ p.origin
  pull_fault true p before c run e = let is : rows_fault p ≡ c = cc in ap (λ (x : Cause). x.node) (sym is)
  pull_fault false p before c run e = absurd (let no : running ≡ faulty c = sym run ∙ e in cc)

  pub of_step : (w : World) (r : Record) (n : ℕ) (p : PhysicalNode) (c : Cause) → Known F w → AllFit OwnTask own_onward own_claimed w → slice_get (shape_of w) n ≡ Some p → MakesFault F w r n c → c.node ≡ p.origin
  of_step w (opened phase) n p c k own e m = of_open m.1.0 n p c (subst (λ x. slice_get x n ≡ Some p) (sym (updates_keep F w m.1.0 m.1.1)) e) m.1.2
  of_step w (handed_in j i number worker handed) n p c k own e m =
      let q = m.1 in
      let at = piece_nodes F w k.facts q m.2 in
      let fault = of_result at.0.node.origin q.task q.input (whole_tables q.schemas q.tables) q.tables (all_whole q.schemas q.tables) c (own q at.0 m.2 at.1) m.4 in
      of_entry w n at.0 p c (subst (λ x. slice_get w.nodes x ≡ Some at.0) m.3 at.1) e fault
  of_step w (pulled j i number) n p c k own e m =
      let s = m.2 in
      let node = s.0 in
      let a = cond (is_multiplexer node.node.kind) node.progress (after_store node.node.kind i s.4.1 node.progress) in
      let fault = pull_fault (passes_limit node.node.kind i a) node.node w.ending c s.1.2 (sym (ap (λ (x : World). x.ending) s.4.8) ∙ m.3) in
      of_entry w n node p c (subst (λ x. slice_get w.nodes x ≡ Some node) m.0 s.1.0) e fault
  of_step w (claimed j i number worker) n p c k own e m = absurd m
  of_step w (closed j) n p c k own e m = absurd m
  of_step w (ended phase) n p c k own e m = absurd m
