-- What a valid plan says of a select over a scan: the call that lowers it is ready.
use Rattle.std.proofs.Common.{◌≡◌, ◌≢◌, inl, inr, ℕ, zero, suc, true, List, [], ◌∷◌, ◌++◌, Some, None, refl, sym, ap, subst, ◌∙◌}
use Rattle.std.specs.Prelude.{Contains, map, slice_get}
use Rattle.std.specs.List.{AllByRecursion}
use Rattle.std.proofs.lemmas.Option.{same_Some}
use Rattle.pu_base.specs.declared.arena.Node.{Node}
use Rattle.ps_frame.specs.Frames.{has_distinct_names}
use Rattle.ps_frame.specs.Functions.{Functions}
use Rattle.ps_frame.specs.Lawful.{FitsFrame}
use Rattle.ps_frame.specs.Tables.{Fields, Frame}
use Rattle.ps_frame.specs.Trees.{IsComplete, Tree, tree_at}
use Rattle.ps_frame.specs.declared.expr.AExpr.{AExpr}
use Rattle.ps_frame.specs.declared.expr.What.TheVariants as what
use Rattle.ps_meaning.specs.Schemas.{fields_of, is_among, names_of, tree_schema}
use Rattle.ps_meaning.specs.Shape.{PhysicalNode, Shape, in_memory_source}
use Rattle.ps_meaning.specs.Sound.{BreaksNoRule, IsFitNode, IsSoundButForReaders, have_all_kinds}
use Rattle.ps_meaning.specs.StepRefusals.{Refusal, TypingRefused, column_not_found, duplicate, schema_mismatch, unsupported}
use Rattle.ps_meaning.specs.Steps.{Name, exprs_of, key_trees, named_trees, scan, select}
use Rattle.ps_meaning.specs.declared.options.ExprIR.{ExprIR}
use Rattle.ps_meaning.specs.declared.options.SinkType.{SinkType}
use Rattle.ps_plan.specs.Entries.{entry_inputs}
use Rattle.ps_plan.specs.Graph.{Reached, here, named_by}
use Rattle.ps_plan.specs.Plans.{IsPlan, Plan, tree_of}
use Rattle.ps_plan.specs.declared.ir.IR.{IR}
use Rattle.ps_plan.specs.declared.ir.IR.TheVariants as entry
use Rattle.ps_plan.proofs.ReachedSteps.{path-then}
use Rattle.ps_plan.proofs.ValidPlans.{reached-complete}
use Rattle.ps_meaning.proofs.Containing.{contains-first}
use Rattle.ps_rules.specs.Names.{IsKnown, Knows, Names, temporary}
use Rattle.ps_rules.specs.Slots.{Made, State, Stream}
use Rattle.valid_plans.specs.Valid.{IsValidWith, ValidNodes, plan_with}
use Rattle.ps_walks.proofs.Fits.{step-fits}
use Rattle.ps_walks.specs.Fit.{IsFit, plan_schemas}
use Rattle.ps_fresh.specs.InPlans.{IsNameUnder, scanned_names}
use Rattle.ps_shares.specs.Kept.{AreKnown, IsOrdered, IsReady}
use Rattle.ps_shares.proofs.Members.{to_has}
use Rattle.ps_bundles.proofs.Reading.{among_last, or_first, or_last}
use Rattle.std.specs.Cmp.Lexicographic.{bytes_decides}
use Rattle.std.specs.Str.{bytes_eq}
use Rattle.name_rules.proofs.Times.{distinct_once, once_never}
use Rattle.lowering_laws.specs.Kept.{KeepsSelect}
use Rattle.lowering_trials.specs.Scanned.{ScansWhole, SelectsFrom, SelectsScan, source_made}

-- nodes that the root leads to
pub reached_plan : (v : ValidNodes) (exprs : List AExpr) (n : Node) → ((F : Functions) × IsValidWith F v exprs) → Reached (plan_with v exprs) n.0 → IsPlan v.nodes exprs n
reached_plan v exprs n (F, h) reached = reached-complete F (plan_with v exprs) h.valid n.0 reached

pub root_reached : (plan : Plan) → Reached plan plan.root.0
root_reached plan = here

pub input_reached : (plan : Plan) (n : ℕ) (input : Node) (e : IR) → Reached plan n → slice_get plan.nodes n ≡ Some e → entry_inputs e ≡ input ∷ [] → Reached plan input.0
input_reached plan n input e reached is one =
    path-then reached (subst (λ (ns : List ℕ). Contains ns input.0) (sym (ap (named_by entry_inputs) is ∙ ap (map (λ (m : Node). m.0)) one)) (contains-first input.0 []))

pub sink_input : (plan : Plan) (n : ℕ) (input : Node) (e : IR) (payload : SinkType) → Reached plan n → slice_get plan.nodes n ≡ Some e → e ≡ entry.Sink input payload → Reached plan input.0
sink_input plan n input e payload reached at is = input_reached plan n input e reached at (ap entry_inputs is)

pub selects_from : (plan : Plan) (n : ℕ) (input : Node) (e : IR) (es xs : List ExprIR) → Reached plan n → slice_get plan.nodes n ≡ Some e → e ≡ entry.Select input es → xs ≡ es → SelectsFrom plan n xs input
selects_from plan n input e es xs reached at is same =
    subst (λ (ys : List ExprIR). SelectsFrom plan n ys input) (sym same) (record { select = at ∙ ap (λ (x : IR). Some x) is; reached = input_reached plan n input e reached at (ap entry_inputs is) })

pub scans_whole : (plan : Plan) (n : ℕ) (df : Frame) (e : IR) → slice_get plan.nodes n ≡ Some e → e ≡ entry.DataFrameScan df None → ScansWhole plan n df
scans_whole plan n df e at is = at ∙ ap (λ (x : IR). Some x) is

module _ (F : Functions) (v : ValidNodes) (exprs : List AExpr) (valid : IsValidWith F v exprs) (asked : List ExprIR) (table : Frame) (h : SelectsScan (plan_with v exprs) asked table) where
  abbrev plan : Plan
  plan = plan_with v exprs

  abbrev f : Node → Tree
  f = tree_at exprs

  fit : IsFit F (select (named_trees f asked)) (plan_schemas F plan h.scan.0 ∷ [])
  fit = step-fits F plan valid.valid valid.typed h.at h.reached (entry.Select h.scan asked) h.from.select

  schema_is : plan_schemas F plan h.scan.0 ≡ table.schema
  schema_is = sym (same_Some table.schema (plan_schemas F plan h.scan.0) (valid.typed h.scan.0 (entry.DataFrameScan table None) h.from.reached h.table_is))

  pub asked_whole : AllByRecursion IsComplete (key_trees f asked)
  asked_whole = each asked fit.complete
    where
      each : (es : List ExprIR) → AllByRecursion IsComplete (exprs_of (named_trees f es)) → AllByRecursion IsComplete (key_trees f es)
      each [] k = tt
      each (e ∷ es) k = (k.0, each es k.1)

  keys_named : (es : List ExprIR) → exprs_of (named_trees f es) ≡ key_trees f es
  keys_named [] = refl
  keys_named (e ∷ es) = ap (λ ts. f e.node ∷ ts) (keys_named es)

  some_asked : (es : List ExprIR) → asked ≡ es → key_trees f es ≢ []
  some_asked [] q e = fit.typed.rules (unsupported what.NoColumns) (ap (λ (es : List ExprIR). fields_of (named_trees f es) (plan_schemas F plan h.scan.0)) q)
  some_asked (x ∷ es) q e = let w : f x.node ∷ key_trees f es ≡ [] = e in cc

  module _ (names : Names) (knows : Knows names (IsNameUnder F plan)) where
    known_name : (name : Name) → is_among name (names_of table.schema) ≡ true → IsKnown names name
    known_name name among k (lt, e) =
        let there : is_among (temporary k) (scanned_names (slice_get plan.nodes h.scan.0)) ≡ true =
        ap (λ o. is_among (temporary k) (scanned_names o)) h.table_is ∙ ap (λ n. is_among n (names_of table.schema)) (sym e) ∙ among in
        inr ((knows.taken k).1 (lt, (h.scan.0, h.from.reached, among_last (temporary k) (names_of (tree_schema F (tree_of plan h.scan.0))) (scanned_names (slice_get plan.nodes h.scan.0)) there)))

    all_known : (ns ms : List Name) → ((m : Name) → is_among m ns ≡ true → is_among m ms ≡ true) → ((m : Name) → is_among m ms ≡ true → IsKnown names m) → AreKnown names ns
    all_known [] ms g k = tt
    all_known (m ∷ ns) ms g k = (k m (g m (or_first (bytes_eq m m) (is_among m ns) ((bytes_decides m m).1 refl))), all_known ns ms (λ n q. g n (or_last (bytes_eq n m) (is_among n ns) q)) k)

    abbrev source : ℕ → PhysicalNode
    source origin = record { kind = in_memory_source table; schema = table.schema; origin = origin; inputs = [] }

    source_ordered : (origin : ℕ) → IsOrdered (source origin ∷ [])
    source_ordered origin zero q i at read = absurd (to_has [] i (subst (λ (p : PhysicalNode). Contains p.inputs i) (sym (same_Some (source origin) q at)) read))
    source_ordered origin (suc n) q i at read = absurd (let w : None ≡ Some q = at in cc)

    alone_ready : (origin : ℕ) → IsReady (source_made (record { nodes = []; names = names }) origin table).state (0, 0) (key_trees f asked)
    alone_ready origin =
        record {
          ordered = source_ordered origin;
          node = source origin;
          there = refl;
          known = all_known (names_of table.schema) (names_of table.schema) (λ m q. q) known_name;
          distinct_names = ap has_distinct_names (sym schema_is) ∙ fit.typed.names.0;
          typed = (λ i. have_all_kinds (sym schema_is i) (sym (keys_named asked) i)) ∙ fit.typed.kinds;
          some = some_asked asked refl;
        }

    -- the call over the source of the scan, where nothing was made before
    pub ready : (s : State) (origin : ℕ) → s.nodes ≡ [] → s.names ≡ names → IsReady (source_made s origin table).state (source_made s origin table).stream (key_trees f asked)
    ready s origin none same = subst (λ (x : State). IsReady (source_made x origin table).state (source_made x origin table).stream (key_trees f asked)) (λ i. record { nodes = sym none i; names = sym same i }) (alone_ready origin)

-- What the call over the source promises, once it is ready.
pub means : (F : Functions) (v : ValidNodes) (exprs : List AExpr) (some : (G : Functions) × IsValidWith G v exprs) (asked : List ExprIR) (table : Frame) → SelectsScan (plan_with v exprs) asked table → (s : State) (origin : ℕ) → s.nodes ≡ []
    → ((G : Functions) → IsValidWith G v exprs → Knows s.names (IsNameUnder G (plan_with v exprs))) → (m : Made) (at : ℕ) (after : State) (stream : Stream) → m ≡ source_made s origin table → at ≡ origin
    → (IsReady m.state m.stream (key_trees (tree_at exprs) asked) → KeepsSelect F at m.state after m.stream (named_trees (tree_at exprs) asked) stream)
    → KeepsSelect F origin (source_made s origin table).state after (source_made s origin table).stream (named_trees (tree_at exprs) asked) stream
means F v exprs (G, valid) asked table h s origin none knows m at after stream made same keeps =
    let n = source_made s origin table in
    let es = named_trees (tree_at exprs) asked in
    let is_ready = ready G v exprs valid asked table h s.names (knows G valid) s origin none refl in
    subst (λ (a : ℕ). KeepsSelect F a n.state after n.stream es stream) same
    (subst (λ (x : Made). KeepsSelect F at x.state after x.stream es stream) made (keeps (subst (λ (x : Made). IsReady x.state x.stream (key_trees (tree_at exprs) asked)) (sym made) is_ready)))

pub whole_of : (v : ValidNodes) (exprs : List AExpr) (some : (G : Functions) × IsValidWith G v exprs) (asked : List ExprIR) (table : Frame) → SelectsScan (plan_with v exprs) asked table → AllByRecursion IsComplete (key_trees (tree_at exprs) asked)
whole_of v exprs (G, valid) asked table h = asked_whole G v exprs valid asked table h

-- The source alone is a sound shape but for readers: its table fits, its names differ, and it has a column.
source_rules : (F : Functions) (t : Frame) → has_distinct_names t.schema ≡ true → t.schema ≢ [] → BreaksNoRule F (scan t None) []
source_rules F t distinct some = ((λ h. h), (λ h. h), (λ h. h), typing)
  where
    typing : (R : Refusal) → TypingRefused F (scan t None) [] R → ⊥
    typing (column_not_found n) h = cc
    typing (duplicate n) (inl h) = h
    typing (duplicate n) (inr h) = once_never n (names_of t.schema) (distinct_once t.schema distinct n) h
    typing schema_mismatch (inl h) = h
    typing schema_mismatch (inr h) = cc
    typing (unsupported what.NoColumns) h = some (same_Some t.schema [] h)
    typing (unsupported _) h = h
    typing _ h = h

source_sound : (F : Functions) (t : Frame) (origin : ℕ) → FitsFrame t → has_distinct_names t.schema ≡ true → t.schema ≢ [] → IsSoundButForReaders F (record { kind = in_memory_source t; schema = t.schema; origin = origin; inputs = [] } ∷ [])
source_sound F t origin fits distinct some zero p e =
    let s : PhysicalNode = record { kind = in_memory_source t; schema = t.schema; origin = origin; inputs = [] } in
    subst (IsFitNode F (s ∷ []) zero) (same_Some s p e) (record { earlier = tt; inputs = refl; schema = refl; not_empty = some; parameters = fits; kinds = refl; rules = source_rules F t distinct some })
source_sound F t origin fits distinct some (suc n) p e = let w : None ≡ Some p = e in cc

-- What the calls leave is sound but for readers, whatever functions there are.
pub sound_of : (F : Functions) (v : ValidNodes) (exprs : List AExpr) (valid : (G : Functions) × IsValidWith G v exprs) (asked : List ExprIR) (table : Frame) → SelectsScan (plan_with v exprs) asked table → FitsFrame table → (s : State) (at origin : ℕ) → s.nodes ≡ []
    → (after : State) (stream : Stream) → KeepsSelect F at (source_made s origin table).state after (source_made s origin table).stream (named_trees (tree_at exprs) asked) stream → IsSoundButForReaders F after.nodes
sound_of F v exprs (G, valid) asked table h fits s at origin none after stream keeps =
    let select_fits = fit G v exprs valid asked table h in
    let scan_fits = step-fits G (plan_with v exprs) valid.valid valid.typed h.scan.0 h.from.reached (entry.DataFrameScan table None) h.table_is in
    let distinct : has_distinct_names table.schema ≡ true = ap has_distinct_names (sym (schema_is G v exprs valid asked table h)) ∙ select_fits.typed.names.0 in
    let some : table.schema ≢ [] = λ e. scan_fits.typed.rules (unsupported what.NoColumns) (ap (λ (s : Fields). Some s) e) in
    (keeps.sound (λ n r. select_fits.typed.rules (duplicate n) (inr r))).whole (subst (λ (nodes : Shape). IsSoundButForReaders F (nodes ++ record { kind = in_memory_source table; schema = table.schema; origin = origin; inputs = [] } ∷ [])) (sym none) (source_sound F table origin fits distinct some))
