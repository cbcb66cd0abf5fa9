-- The tree of a valid plan: each step has the inputs that it reads, and its root alone is a sink.
use Rattle.std.proofs.Common.{◌≢◌, ◌⊎◌, inl, inr, ℕ, List, [], ◌∷◌, Option, refl, sym, subst}
use Rattle.std.specs.Prelude.{Contains, IsSomeAnd}
use Rattle.pu_base.specs.declared.arena.Node.{Node}
use Rattle.ps_frame.specs.Functions.{Functions}
use Rattle.ps_frame.specs.Trees.{Tree, tree_at}
use Rattle.ps_frame.specs.declared.expr.What.TheVariants as what
use Rattle.ps_frame.specs.declared.refusal.Why.TheVariants as why
use Rattle.ps_meaning.proofs.Containing.{contains-first, contains-later}
use Rattle.ps_meaning.specs.PlanTrees.{PlanTree, PlanTrees}
use Rattle.ps_meaning.specs.StepRefusals.{IsSinkStep, invalid_plan, unsupported}
use Rattle.ps_meaning.specs.Steps.{Step, function_step, sink}
use Rattle.ps_meaning.specs.declared.options.FunctionIR.{FunctionIR}
use Rattle.ps_meaning.specs.declared.options.FunctionIR.TheVariants as call
use Rattle.ps_plan.proofs.Complete.{numbers}
use Rattle.ps_plan.proofs.ReachedSteps.{path-then}
use Rattle.ps_plan.proofs.ValidPlans.{no-circle}
use Rattle.ps_plan.specs.Entries.{entry_inputs, entry_step}
use Rattle.ps_plan.specs.Graph.{Leads, Path, Reached, here, inputs_at, onward}
use Rattle.ps_plan.specs.Plans.{Plan, plan_at, plan_trees_of, tree_of}
use Rattle.ps_plan.specs.Refusals.{IsValid, StepIs, sink_below}
use Rattle.ps_plan.specs.declared.ir.IR.{IR}
use Rattle.ps_plan.specs.declared.ir.IR.TheVariants as entry
use Rattle.arena_keeps.proofs.Parts.{Entered, along, entered, named_inputs, trees_at}
use Rattle.rule_ports.specs.Fed.{AreFedPlans, HasFirst, HasNoSink, HaveNoSinks, IsFed, IsFedPlan, IsSunk}

function_fed : (g : FunctionIR) (below : PlanTrees) → HasFirst below → IsFed (function_step g) below
function_fed (call.RowIndex name offset) below h = h
function_fed (call.User n) below h = h

-- an entry names the inputs that its step reads
entry_fed : (f : Node → Tree) (g : Node → PlanTree) (e : IR) → IsFed (entry_step f e) (plan_trees_of g (entry_inputs e))
entry_fed f g (entry.DataFrameScan df columns) = tt
entry_fed f g (entry.SimpleProjection input columns) = tt
entry_fed f g (entry.Select input es) = tt
entry_fed f g (entry.HStack input es) = tt
entry_fed f g (entry.Filter input predicate) = tt
entry_fed f g (entry.Slice input offset len) = tt
entry_fed f g (entry.Sink input payload) = tt
entry_fed f g (entry.MapFunction input h) = function_fed h (plan_trees_of g (input ∷ [])) tt
entry_fed f g (entry.Sort input by cut options) = tt
entry_fed f g (entry.Union inputs options) = tt
entry_fed f g (entry.HConcat inputs) = tt
entry_fed f g (entry.Cache input id hits) = tt
entry_fed f g (entry.GroupBy input keys aggs maintain options) = tt
entry_fed f g (entry.Join left right left_on right_on args) = tt
entry_fed f g (entry.Distinct input o) = tt
entry_fed f g (entry.LeftOut w) = tt

sink_or_not : (step : Step) → IsSinkStep step ⊎ (IsSinkStep step → ⊥)
sink_or_not (sink target) = inl tt
sink_or_not _ = inr (λ h. h)

module _ (F : Functions) (plan : Plan) (valid : IsValid F plan) where
  all_fed : (ns : List Node) → ((m : ℕ) → Contains (numbers ns) m → IsFedPlan (tree_of plan m)) → AreFedPlans (trees_at F plan valid ns)
  all_fed [] all = tt
  all_fed (n ∷ ns) all = (all n.0 (contains-first n.0 (numbers ns)), all_fed ns (λ m c. all m (contains-later n.0 m (numbers ns) c)))

  fed_step : (n : ℕ) → Reached plan n → ((m : ℕ) → Contains (inputs_at plan n) m → IsFedPlan (tree_of plan m)) → IsFedPlan (tree_of plan n)
  fed_step n reached all =
      let e = entered F plan valid n reached in
      subst IsFedPlan (sym e.is) (entry_fed (tree_at plan.exprs) (plan_at plan.nodes plan.exprs) e.entry, all_fed (entry_inputs e.entry) (λ m c. all m (named_inputs F plan valid n e.entry e.there m c)))

  pub fed_plan : IsFedPlan (tree_of plan plan.root.0)
  fed_plan = along F plan valid (λ n. IsFedPlan (tree_of plan n)) fed_step plan.root.0 here

  -- nothing names the root
  circle : (a b : ℕ) → Path (inputs_at plan) a b → Contains (inputs_at plan b) a → Leads (inputs_at plan) a a
  circle a b here c = record { first = a; is_next = c; way = here }
  circle a b (onward {b = m} k way) c = record { first = m; is_next = k; way = path-then way c }

  not_root : (n m : ℕ) → Reached plan n → Contains (inputs_at plan n) m → m ≢ plan.root.0
  not_root n m reached c is =
      let P : ℕ → Type 0 = λ k. Contains (inputs_at plan n) k in
      (no-circle F plan valid plan.root.0 here).nodes plan.root.0 here (circle plan.root.0 n reached (subst P is c))

  -- what is so of the step of a reached node
  step_is : (n : ℕ) (P : Step → Type 0) (e : Entered F plan valid n) → P (entry_step (tree_at plan.exprs) e.entry) → StepIs plan n P
  step_is n P e h = let Q : Option IR → Type 0 = λ o. IsSomeAnd o (λ x. P (entry_step (tree_at plan.exprs) x)) in subst Q (sym e.there) h

  -- below the root there is no sink
  some_none : (ns : List Node) → ((m : ℕ) → Contains (numbers ns) m → HasNoSink (tree_of plan m)) → HaveNoSinks (trees_at F plan valid ns)
  some_none [] all = tt
  some_none (n ∷ ns) all = (all n.0 (contains-first n.0 (numbers ns)), some_none ns (λ m c. all m (contains-later n.0 m (numbers ns) c)))

  none_step : (n : ℕ) → Reached plan n → ((m : ℕ) → Contains (inputs_at plan n) m → m ≢ plan.root.0 → HasNoSink (tree_of plan m)) → n ≢ plan.root.0 → HasNoSink (tree_of plan n)
  none_step n reached all other =
      let e = entered F plan valid n reached in
      subst HasNoSink (sym e.is) (
        λ h. valid n (invalid_plan why.Shape) (record { reached = reached; because = inl (sink_below other (step_is n IsSinkStep e h)) }),
        some_none (entry_inputs e.entry) (λ m c. let k = named_inputs F plan valid n e.entry e.there m c in all m k (not_root n m reached k)),
      )

  none_below : (n : ℕ) → Reached plan n → n ≢ plan.root.0 → HasNoSink (tree_of plan n)
  none_below = along F plan valid (λ n. n ≢ plan.root.0 → HasNoSink (tree_of plan n)) none_step

  pub sunk_plan : IsSunk (tree_of plan plan.root.0)
  sunk_plan = by (entered F plan valid plan.root.0 here)
    where
      root_sinks : (e : Entered F plan valid plan.root.0) → IsSinkStep (entry_step (tree_at plan.exprs) e.entry) ⊎ (IsSinkStep (entry_step (tree_at plan.exprs) e.entry) → ⊥) → IsSinkStep (entry_step (tree_at plan.exprs) e.entry)
      root_sinks e (inl h) = h
      root_sinks e (inr h) = absurd (valid plan.root.0 (unsupported what.RootNotSink) (record { reached = here; because = inl (inl (refl, step_is plan.root.0 (λ step. ¬ IsSinkStep step) e h)) }))

      by : Entered F plan valid plan.root.0 → IsSunk (tree_of plan plan.root.0)
      by e =
          subst IsSunk (sym e.is) (
            root_sinks e (sink_or_not (entry_step (tree_at plan.exprs) e.entry)),
            some_none (entry_inputs e.entry) (λ m c. let k = named_inputs F plan valid plan.root.0 e.entry e.there m c in none_below m (path-then here k) (not_root plan.root.0 m here k)),
          )
