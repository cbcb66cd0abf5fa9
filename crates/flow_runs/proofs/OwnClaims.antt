-- The claims of sources, and of selects that read no input.
use Rattle.std.proofs.Common.{◌≡◌, ℕ, Bool, true, false, cond, List, [], ◌∷◌, length, Option, None, Some, Result, Ok, Err, refl, sym, ap, subst, ◌∙◌, arith}
use Rattle.std.specs.Prelude.{◌&&◌, IfNone, IfOk, IfSome, map, nat_eq, not}
use Rattle.std.specs.declared.alloc.Global.{Global}
use Rattle.std.specs.declared.sync.Arc.{Arc}
use Rattle.std.proofs.lemmas.Option.{same_Some}
use Rattle.std.proofs.lemmas.Result.{IfOk-weaker}
use Rattle.node_work.proofs.Fit.{Fits, IsOver, fit_for}
use Rattle.node_work.specs.Tasks.{ComputesOver, next_cut}
use Rattle.node_work.specs.Working.{AreOf, Does, HandsRowsOn, kind_behind}
use Rattle.node_work.specs.declared.work.Work.{Work}
use Rattle.node_work.specs.declared.work.Work.TheVariants as work
use Rattle.plain_nodes.specs.Exprs.{expr_shown}
use Rattle.plain_nodes.specs.declared.independent_select.InputIndependentSelectNode.{InputIndependentSelectNode}
use Rattle.plain_nodes.specs.declared.source.InMemorySourceNode.{InMemorySourceNode}
use Rattle.ps_flow.specs.Claiming.{ClaimsOf, Gives, IsClaimOf, rows_of}
use Rattle.ps_flow.specs.declared.claim_node.Claimed.{Claimed}
use Rattle.ps_flow.specs.declared.claim_node.Seat.{Seat}
use Rattle.ps_frame.specs.Functions.{Functions}
use Rattle.ps_frame.specs.Lawful.{empty_frame}
use Rattle.ps_frame.specs.Tables.{Fields, Frame}
use Rattle.ps_frame.specs.Trees.{tree_at}
use Rattle.ps_meaning.specs.Shape.{PhysicalNode, Shape, in_memory_sink, in_memory_source, independent_select, ordered_union}
use Rattle.ps_meaning.specs.Steps.{Named}
use Rattle.ps_nodes.specs.declared.flow.FlowNode.TheVariants as flow
use Rattle.ps_options.specs.declared.options.Options.{Options}
use Rattle.ps_pieces.specs.Operations.{IsFitFor, kind_computed, kind_in, rows_taken, schemas_taken}
use Rattle.ps_pieces.specs.Shown.{IsFit, Shows, ShowsTask, schema_given}
use Rattle.ps_pieces.specs.declared.parameters.Operation.{Operation}
use Rattle.ps_pieces.specs.declared.parameters.Operation.TheVariants as operation
use Rattle.ps_pieces.specs.declared.parameters.Parameters.{Parameters}
use Rattle.ps_pieces.specs.declared.piece.Piece.{Piece}
use Rattle.ps_pieces.specs.declared.piece.Task.{Task}
use Rattle.ps_pieces.specs.declared.piece.Task.TheVariants as task
use Rattle.ps_settle.proofs.Ends.{is_number}
use Rattle.ps_turns.specs.Claims.{Claim, of_own}
use Rattle.ps_turns.specs.Progress.{Progress}
use Rattle.ps_turns.specs.Cuts.{cut_of_source, is_exhausted}
use Rattle.ps_turns.specs.Tasks.{computes, hands_on}
use Rattle.turn_laws.specs.Updating.{SeenNode}
use Rattle.flow_runs.proofs.KindClaims.{both_true, by_kind, come_by, cut_by, first_alone, fits_by, inputs_by, moved, not_spent, schema_by, still_left}
use Rattle.flow_runs.specs.Claims.{FoundAlone, IsPieceFor, cut_piece, own_piece}
use Rattle.flow_runs.specs.Running.{Has}
use Rattle.flow_runs.specs.declared.node.RunningNode.{RunningNode}

-- SOURCES
module _ (F : Functions) (shape : Shape) (m : ℕ) (o : Options) (x : SeenNode) (seat : Seat) (number : ℕ) (morsel : Option Frame) (c : Claim) (s : InMemorySourceNode) (w : Work)
    (h : Has o (record { flow = flow.InMemorySource s; work = w }) x) (d : ClaimsOf F shape m o x seat.input number morsel c) where
  source_cut : s.options ≡ o
  source_cut = cut_by o (record { flow = flow.InMemorySource s; work = w }) x h (in_memory_source s.source) h.is.kind

  source_come : s.sent ≡ x.progress.sent
  source_come = come_by o (record { flow = flow.InMemorySource s; work = w }) x h (in_memory_source s.source) h.is.kind

  source_first : (nat_eq seat.input 0 ≡ true)
      × (cond (is_exhausted o s.source.rows x.progress.sent) None (Some (of_own o x.node x.schemas x.progress hands_on (x.node.schema ∷ []) (cut_of_source o s.source.rows x.progress.sent ∷ []))) ≡ Some c)
  source_first = first_alone (nat_eq seat.input 0) _ c (by_kind F shape m o x seat.input number morsel c d (in_memory_source s.source) h.is.kind)

  source_own : (is_exhausted o s.source.rows x.progress.sent ≡ false) × (of_own o x.node x.schemas x.progress hands_on (x.node.schema ∷ []) (cut_of_source o s.source.rows x.progress.sent ∷ []) ≡ c)
  source_own = not_spent (is_exhausted o s.source.rows x.progress.sent) _ c source_first.1

  pub source_left : (nat_eq seat.input 0 && not (is_exhausted s.options s.source.rows s.sent)) ≡ false → ⊥
  source_left none = both_true (nat_eq seat.input 0) (is_exhausted s.options s.source.rows s.sent) source_first.0 ((λ i. is_exhausted (source_cut i) s.source.rows (source_come i)) ∙ source_own.0) none

  pub source_gives : (y : Claimed Piece) → y ≡ own_piece seat s.sent (rows_of morsel) (next_cut s) → Gives Shows IsPieceFor F seat x.node (rows_of morsel) c y
  source_gives y is =
      subst (λ (z : Claimed Piece). Gives Shows IsPieceFor F seat x.node (rows_of morsel) c z) (sym is) (
      subst (λ (b : Claim). Gives Shows IsPieceFor F seat x.node (rows_of morsel) b (own_piece seat s.sent (rows_of morsel) (next_cut s))) source_own.1 (
      record {
        shows = record { node = refl; input = refl; number = source_come; worker = refl; gives = source_come; task = λ i. cut_of_source (sym source_cut i) s.source.rows (sym source_come i) ∷ [] };
        suits = (tt, same_Some s.source.schema x.node.schema (schema_by F shape m o x seat.input number morsel c d (in_memory_source s.source) h.is.kind));
        rows_are = refl;
        takes = refl;
        drops = refl;
      }
      )
      )

abbrev pub left_of : Seat → InMemorySourceNode → Bool
left_of seat s = nat_eq seat.input 0 && not (is_exhausted s.options s.source.rows s.sent)

-- whichever claim a source has, it is what was found
pub of_source : (n : RunningNode) (s : InMemorySourceNode) → n.flow ≡ flow.InMemorySource s → (seat : Seat) (number rows : ℕ) (morsel : Option Frame) → rows ≡ rows_of morsel → (found : Option (Claimed Piece)) → IfSome found (λ y. y ≡ cut_piece seat rows s) → IfNone found (left_of seat s ≡ false)
    → IsClaimOf Shows IsPieceFor Has n seat number morsel found
of_source n s is seat number rows morsel same None some none = λ F shape m o x c h d. source_left F shape m o x seat number morsel c s n.work (moved o n x (flow.InMemorySource s) is h) d none
of_source n s is seat number rows morsel same (Some y) some none = λ F shape m o x c h d. source_gives F shape m o x seat number morsel c s n.work (moved o n x (flow.InMemorySource s) is h) d y (some ∙ (λ i. cut_piece seat (same i) s))

-- SELECTS THAT READ NO INPUT
-- such a select computes and does nothing else
alone_computes : (w : Work) (p : PhysicalNode) (progress : Progress) (es : List Named) → independent_select es ≡ p.kind → Does w p progress → (q : Arc Parameters Global) × (w ≡ work.Computes q)
alone_computes work.HandsOn p progress es e d = absurd (subst HandsRowsOn (sym e) d)
alone_computes (work.Unites sent) p progress es e d = absurd (let clash : independent_select es ≡ ordered_union = e ∙ d.0 in cc)
alone_computes (work.Computes q) p progress es e d = (q, refl)
alone_computes (work.Stores s) p progress es e d = absurd (let clash : independent_select es ≡ in_memory_sink = e ∙ d.kind in cc)

-- and its operation takes no table
takes_none : (q : Parameters) (es : List Named) → kind_computed q 0 ≡ independent_select es → ([] ≡ schemas_taken q.operation (empty_frame [])) × ([] ≡ rows_taken q.operation (empty_frame [])) × IsOver q.operation (empty_frame []) []
takes_none q es e = by q.operation e
  where
    by : (op : Operation) → kind_in (tree_at q.exprs.items) 0 op ≡ independent_select es → ([] ≡ schemas_taken op (empty_frame [])) × ([] ≡ rows_taken op (empty_frame [])) × IsOver op (empty_frame []) []
    by (operation.Select fs) e = absurd cc
    by (operation.HStack fs) e = absurd cc
    by (operation.IndependentSelect fs) e = (refl, refl, (refl, refl))
    by (operation.Filter p) e = absurd cc
    by (operation.SimpleProjection names) e = absurd cc
    by (operation.WithRowIndex name offset) e = absurd cc
    by (operation.Map n) e = absurd cc

none_in : (ss : List Fields) → length ss ≡ 0 → ss ≡ []
none_in [] e = refl
none_in (s ∷ ss) e = absurd (omega arith)

both_so : (a b : Bool) → a ≡ true → b ≡ true → (a && b) ≡ false → ⊥
both_so true true e f h = let clash : true ≡ false = h in cc
both_so true false e f h = let clash : false ≡ true = f in cc
both_so false b e f h = let clash : false ≡ true = e in cc

abbrev pub morsel_left : Seat → InputIndependentSelectNode → Bool
morsel_left seat s = nat_eq seat.input 0 && nat_eq s.sent 0

module _ (F : Functions) (shape : Shape) (m : ℕ) (o : Options) (x : SeenNode) (seat : Seat) (number : ℕ) (morsel : Option Frame) (c : Claim) (s : InputIndependentSelectNode) (w : Work)
    (h : Has o (record { flow = flow.InputIndependentSelect s; work = w }) x) (d : ClaimsOf F shape m o x seat.input number morsel c) where
  abbrev exprs : List Named
  exprs = map expr_shown s.selectors.items

  select_kind : independent_select exprs ≡ x.node.kind
  select_kind = h.is.kind

  select_come : s.sent ≡ x.progress.sent
  select_come = come_by o (record { flow = flow.InputIndependentSelect s; work = w }) x h (independent_select exprs) select_kind

  select_first : (nat_eq seat.input 0 ≡ true) × (cond (nat_eq x.progress.sent 0) (Some (of_own o x.node x.schemas x.progress (computes x.node) [] [])) None ≡ Some c)
  select_first = first_alone (nat_eq seat.input 0) _ c (by_kind F shape m o x seat.input number morsel c d (independent_select exprs) select_kind)

  select_own : (nat_eq x.progress.sent 0 ≡ true) × (of_own o x.node x.schemas x.progress (computes x.node) [] [] ≡ c)
  select_own = still_left (nat_eq x.progress.sent 0) _ c select_first.1

  pub select_left : morsel_left seat s ≡ false → ⊥
  select_left none = both_so (nat_eq seat.input 0) (nat_eq s.sent 0) select_first.0 (ap (λ (k : ℕ). nat_eq k 0) select_come ∙ select_own.0) none

  no_schemas : x.schemas ≡ []
  no_schemas = none_in x.schemas (inputs_by F shape m o x seat.input number morsel c d (independent_select exprs) select_kind)

  -- by these parameters
  module _ (q : Arc Parameters Global) (is : w ≡ work.Computes q) where
    own : AreOf x.node q.value
    own = subst (λ (v : Work). Does v x.node x.progress) is h.is.does

    own_kind : kind_computed q.value 0 ≡ independent_select exprs
    own_kind = own.kind 0 ∙ ap (kind_behind 0) (sym select_kind)

    fits : Fits F [] x.node.schema x.node.kind
    fits = subst (λ (ss : List Fields). Fits F ss x.node.schema x.node.kind) no_schemas (fits_by F shape m o x seat.input number morsel c d x.node.kind refl)

    of_task : (a : Task) → ComputesOver q.value 0 (empty_frame []) a → ShowsTask (computes x.node) [] [] a × IsFit F a × (schema_given a ≡ x.node.schema)
    of_task (task.HandsOn u) a = absurd a
    of_task (task.Computes p k u) (e, f, g) =
        let taken = takes_none q.value exprs own_kind in
        let P : Parameters → ℕ → Frame → Type 0 = λ r b v. ((x.node.kind ≡ kind_computed r b) × (x.node.origin ≡ r.origin.0) × ([] ≡ schemas_taken r.operation v) × ([] ≡ rows_taken r.operation v)) × IsFitFor F r b v × (r.schema ≡ x.node.schema) in
        let at : P q.value 0 (empty_frame []) = ((sym select_kind ∙ sym own_kind, sym own.origin, taken.0, taken.1), fit_for F x.node q.value 0 (empty_frame []) [] own fits taken.2, own.schema) in
        subst (λ (r : Parameters). P r k u) (sym e) (subst (λ (b : ℕ). P q.value b u) (sym f) (subst (λ (v : Frame). P q.value 0 v) (sym g) at))

    pub select_gives : (y : Claimed Piece) → y ≡ own_piece seat 0 (rows_of morsel) y.piece.task → ComputesOver q.value 0 (empty_frame []) y.piece.task → Gives Shows IsPieceFor F seat x.node (rows_of morsel) c y
    select_gives y made over =
        let told = of_task y.piece.task over in
        let sent : 0 ≡ x.progress.sent = sym (is_number x.progress.sent 0 select_own.0) in
        subst (λ (z : Claimed Piece). Gives Shows IsPieceFor F seat x.node (rows_of morsel) c z) (sym made) (
        subst (λ (b : Claim). Gives Shows IsPieceFor F seat x.node (rows_of morsel) b (own_piece seat 0 (rows_of morsel) y.piece.task)) select_own.1 (
        record {
          shows = record { node = refl; input = refl; number = sent; worker = refl; gives = sent; task = told.0 };
          suits = (told.1, told.2);
          rows_are = refl;
          takes = refl;
          drops = refl;
        }
        )
        )

  abbrev pub IsSo : Option (Claimed Piece) → Type 0
  IsSo None = ⊥
  IsSo (Some y) = Gives Shows IsPieceFor F seat x.node (rows_of morsel) c y

  -- what was found is its claim
  pub select_found : (found : Option (Claimed Piece)) → FoundAlone w seat (rows_of morsel) found → IsSo found
  select_found found f =
      let q = alone_computes w x.node x.progress exprs select_kind h.is.does in
      by found (subst (λ (v : Work). FoundAlone v seat (rows_of morsel) found) q.1 f)
    where
      by : (g : Option (Claimed Piece)) → FoundAlone (work.Computes (alone_computes w x.node x.progress exprs select_kind h.is.does).0) seat (rows_of morsel) g → IsSo g
      by None f = absurd f
      by (Some y) f = select_gives (alone_computes w x.node x.progress exprs select_kind h.is.does).0 (alone_computes w x.node x.progress exprs select_kind h.is.does).1 y f.0 f.1

-- whichever claim such a select has, it is what was found
pub of_select : (n : RunningNode) (s : InputIndependentSelectNode) → n.flow ≡ flow.InputIndependentSelect s → (seat : Seat) (number rows : ℕ) (morsel : Option Frame) → rows ≡ rows_of morsel → (found : Option (Claimed Piece)) → FoundAlone n.work seat rows found
    → IsClaimOf Shows IsPieceFor Has n seat number morsel found
of_select n s is seat number rows morsel same found f = by found (subst (λ (r : ℕ). FoundAlone n.work seat r found) same f)
  where
    by : (g : Option (Claimed Piece)) → FoundAlone n.work seat (rows_of morsel) g → IsClaimOf Shows IsPieceFor Has n seat number morsel g
    by None f = λ F shape m o x c h d. select_found F shape m o x seat number morsel c s n.work (moved o n x (flow.InputIndependentSelect s) is h) d None f
    by (Some y) f = λ F shape m o x c h d. select_found F shape m o x seat number morsel c s n.work (moved o n x (flow.InputIndependentSelect s) is h) d (Some y) f

-- and none where its morsel was claimed
pub of_spent_select : (n : RunningNode) (s : InputIndependentSelectNode) → n.flow ≡ flow.InputIndependentSelect s → (seat : Seat) (number : ℕ) (morsel : Option Frame) → morsel_left seat s ≡ false → (found : Option (Claimed Piece)) → found ≡ None
    → IsClaimOf Shows IsPieceFor Has n seat number morsel found
of_spent_select n s is seat number morsel spent found none =
    subst (λ (g : Option (Claimed Piece)). IsClaimOf Shows IsPieceFor Has n seat number morsel g) (sym none) (λ F shape m o x c h d. select_left F shape m o x seat number morsel c s n.work (moved o n x (flow.InputIndependentSelect s) is h) d spent)

-- the same of a result
pub select_claim : {E : Type 0} (n : RunningNode) (s : InputIndependentSelectNode) → n.flow ≡ flow.InputIndependentSelect s → (seat : Seat) (number rows : ℕ) (morsel : Option Frame) → rows ≡ rows_of morsel → (r : Result (Option (Claimed Piece)) E)
    → (morsel_left seat s ≡ true → IfOk r (FoundAlone n.work seat rows)) → (morsel_left seat s ≡ false → IfOk r (λ found. found ≡ None)) → IfOk r (IsClaimOf Shows IsPieceFor Has n seat number morsel)
select_claim n s is seat number rows morsel same r left none = by (morsel_left seat s) refl
  where
    by : (b : Bool) → morsel_left seat s ≡ b → IfOk r (IsClaimOf Shows IsPieceFor Has n seat number morsel)
    by true e = IfOk-weaker r _ _ (of_select n s is seat number rows morsel same) (left e)
    by false e = IfOk-weaker r _ _ (of_spent_select n s is seat number morsel e) (none e)

pub source_claim : {E : Type 0} (n : RunningNode) (s : InMemorySourceNode) → n.flow ≡ flow.InMemorySource s → (seat : Seat) (number rows : ℕ) (morsel : Option Frame) → rows ≡ rows_of morsel → (r : Result (Option (Claimed Piece)) E)
    → IfOk r (λ found. IfSome found (λ y. y ≡ cut_piece seat rows s)) → IfOk r (λ found. IfNone found (left_of seat s ≡ false)) → IfOk r (IsClaimOf Shows IsPieceFor Has n seat number morsel)
source_claim n s is seat number rows morsel same (Ok found) some none = of_source n s is seat number rows morsel same found some none
source_claim n s is seat number rows morsel same (Err e) some none = tt
