-- A node, lowered over the streams of its inputs.
use Rattle.std.proofs.Common.{◌≡◌, ℕ, List, Ok, Err, Result, refl, sym, ap, subst, ◌∙◌}
use Rattle.std.specs.Prelude.{IfOk, None}
use Rattle.pu_base.specs.declared.arena.Node.{Node}
use Rattle.ps_frame.specs.Functions.{Functions}
use Rattle.ps_frame.specs.Tables.{Fields}
use Rattle.ps_frame.specs.Trees.{Tree, tree_at}
use Rattle.ps_frame.specs.declared.expr.AExpr.{AExpr}
use Rattle.ps_frame.specs.declared.refusal.PolarsError.{PolarsError}
use Rattle.ps_meaning.specs.PlanTrees.{PlanTree, PlanTrees, node}
use Rattle.ps_meaning.specs.Schemas.{tree_schema}
use Rattle.ps_meaning.specs.declared.options.FunctionIR.TheVariants as call
use Rattle.ps_phys.specs.Shown.{streams_of}
use Rattle.ps_phys.specs.declared.phys.PhysStream.{PhysStream}
use Rattle.ps_plan.specs.Entries.{entry_step}
use Rattle.ps_plan.specs.declared.ir.IR.{IR}
use Rattle.ps_plan.specs.declared.ir.IR.TheVariants as entry
use Rattle.ps_rules.specs.Slots.{Made, State}
use Rattle.plan_rules.specs.Nodes.{step_stream}
use Rattle.plan_rules.specs.Plans.{LoweredPlans, Progress, first_plan, lower_plan, lower_plans, node_stream, stream_over}
use Rattle.ps_fresh.specs.declared.lowering.Lowering.{Lowering}
use Rattle.lowering_parts.specs.Gathered.{GoesOn, Makes, made_of}
use Rattle.lowering_parts.proofs.Going.{goes_then}
use Rattle.lowering_parts.proofs.Grown.{kept-then}
use Rattle.plan_lowering.specs.Lowered.{CacheStreams, LowerAs, LowersAs, ShowsPlan, ShowsPlans, cache_in}

-- a node that is no cache has the stream of its step
module _ (F : Functions) (at : ℕ) (f : Node → Tree) (schema : Fields) (input : PlanTree) (lower : Progress → LoweredPlans) (p : Progress) where
  plain : (e : IR) → cache_in e ≡ None → stream_over F at (entry_step f e) schema (lower p) ≡ node_stream F at (entry_step f e) schema input lower p
  plain (entry.DataFrameScan df columns) none = refl
  plain (entry.SimpleProjection i columns) none = refl
  plain (entry.Select i es) none = refl
  plain (entry.HStack i es) none = refl
  plain (entry.Filter i predicate) none = refl
  plain (entry.Slice i offset len) none = refl
  plain (entry.Sink i payload) none = refl
  plain (entry.MapFunction i (call.RowIndex name offset)) none = refl
  plain (entry.MapFunction i (call.User n)) none = refl
  plain (entry.Sort i by cut options) none = refl
  plain (entry.Union is options) none = refl
  plain (entry.HConcat is) none = refl
  plain (entry.Cache i id hits) none = cc
  plain (entry.GroupBy i keys aggs maintain options) none = refl
  plain (entry.Join l r left_on right_on args) none = refl
  plain (entry.Distinct i o) none = refl
  plain (entry.LeftOut what) none = refl

-- the step over the streams of the inputs, which were lowered before it
pub node_lowers : (F : Functions) (n : Node) (e : IR) (t : PlanTree) (inputs : PlanTrees) (schema : Fields) (a b c : List AExpr) (l m q : Lowering) (s0 s1 : CacheStreams) (ss : List PhysStream) (s : PhysStream)
    → t ≡ node n.0 (entry_step (tree_at a) e) inputs → cache_in e ≡ None → schema ≡ tree_schema F t → entry_step (tree_at b) e ≡ entry_step (tree_at a) e
    → LowerAs (lower_plans F inputs) a b l m s0 s1 ss → Makes (step_stream n.0 F (entry_step (tree_at b) e) schema (streams_of ss)) b c m q s
    → LowersAs (lower_plan F t) a c l q s0 s1 s
node_lowers F n e t inputs schema a b c l m q s0 s1 ss s is none own kept below made =
    let step = entry_step (tree_at a) e in
    let T : PlanTree = node n.0 step inputs in
    record {
      by_rule = λ later k p shows.
          (let f = tree_at later in
          let L : LoweredPlans = lower_plans F inputs p in
          let x : ShowsPlans f m s1 ss L = below.by_rule later (kept-then b c later made.goes_on.trees k) p shows in
          let schema_is : schema ≡ tree_schema F T = own ∙ ap (tree_schema F) is in
          let y : made_of f q s ≡ step_stream n.0 F step (tree_schema F T) L.streams L.progress.state =
          made.by_rule later k ∙ (λ i. step_stream n.0 F (kept i) (schema_is i) (x.streams i) (x.progress.state i)) in
          let over : ShowsPlan f q s1 s (stream_over F n.0 step (tree_schema F T) L) = record { progress = record { state = λ i. (y i).state; cached = x.progress.cached }; stream = λ i. (y i).stream } in
          subst (ShowsPlan f q s1 s) (plain F n.0 (tree_at a) (tree_schema F T) (first_plan inputs) (lower_plans F inputs) p e none ∙ ap (λ (u : PlanTree). lower_plan F u p) (sym is)) over);
      goes_on = goes_then a b c l m q below.goes_on made.goes_on;
    }

-- the node for which nodes are made is another one meanwhile
pub goes_between : (a b : List AExpr) (l m : Lowering) (n : Node) → GoesOn a b (record l { origin = n }) m → GoesOn a b l (record m { origin = l.origin })
goes_between a b l m n g = record { entries = g.entries; trees = g.trees; nodes = g.nodes; names = g.names; origin = refl; cache = g.cache }

pub makes_between : (rule : State → Made) (r : Result PhysStream PolarsError) (a b : List AExpr) (l m : Lowering) (n : Node) → IfOk r (Makes rule a b (record l { origin = n }) m) → IfOk r (Makes rule a b l (record m { origin = l.origin }))
makes_between rule (Ok s) a b l m n h = record { by_rule = h.by_rule; goes_on = goes_between a b l m n h.goes_on }
makes_between rule (Err e) a b l m n h = tt
