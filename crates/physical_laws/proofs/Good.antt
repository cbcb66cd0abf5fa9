-- No rule refuses a step of a valid plan, and its names are in use: so what the rules make of it is sound.
use Rattle.std.proofs.Common.{◌≡◌, ℕ, ◌≤◌, ◌^◌, true, List, [], ◌∷◌, length, slice_get, Option, Some, sym, ap, subst, inl, inr, refl, ◌∙◌, arith}
use Rattle.std.specs.Prelude.{Contains, IfSome, IsSomeAnd}
use Rattle.pu_base.specs.declared.arena.Node.{Node}
use Rattle.ps_frame.specs.Functions.{Functions}
use Rattle.ps_frame.specs.Trees.{Tree, tree_at}
use Rattle.ps_frame.specs.declared.expr.What.TheVariants as what
use Rattle.ps_frame.specs.declared.refusal.Why.TheVariants as why
use Rattle.ps_fresh.specs.InPlans.{IsNameUnder, scanned_names}
use Rattle.ps_meaning.proofs.Containing.{contains-first, contains-later}
use Rattle.ps_meaning.specs.PlanTrees.{PlanTree}
use Rattle.ps_meaning.specs.Schemas.{is_among, names_of, tree_schema, tree_schemas}
use Rattle.ps_meaning.specs.Sound.{IsSoundButForReaders}
use Rattle.ps_meaning.specs.StepRefusals.{HasBadKeys, HasNoKey, IsValidated, NamesMissingFunction, NeedsInput, Refusal, invalid_plan, no_key, unsupported}
use Rattle.ps_meaning.specs.Steps.{Step}
use Rattle.ps_meaning.specs.declared.options.FunctionIR.{FunctionIR}
use Rattle.ps_meaning.specs.declared.options.FunctionIR.TheVariants as call
use Rattle.ps_plan.proofs.CleanPlans.{reached-clean, reached-is}
use Rattle.ps_plan.proofs.Complete.{numbers}
use Rattle.ps_plan.proofs.ValidTyped.{typed-step}
use Rattle.ps_plan.specs.Entries.{entry_inputs, entry_step}
use Rattle.ps_plan.specs.Graph.{EachReached, Reached, here, inputs_at, named_by}
use Rattle.ps_plan.specs.Plans.{Plan, tree_of}
use Rattle.ps_plan.specs.Refusals.{GraphRefused, IsClean, IsValid, StepIs, function_missing, no_input, node_left_out}
use Rattle.ps_plan.specs.declared.ir.IR.{IR}
use Rattle.ps_plan.specs.declared.ir.IR.TheVariants as entry
use Rattle.ps_bundles.proofs.Reading.{among_first}
use Rattle.ps_rules.specs.Names.{Knows, Names, temporary}
use Rattle.plan_rules.specs.Plans.{lowering_of}
use Rattle.arena_keeps.proofs.Parts.{Entered, along, entered, named_inputs, trees_at}
use Rattle.arena_keeps.proofs.Stored.{stored, whole_stands}
use Rattle.rule_parts.specs.Good.{HoldsTable, IsGoodStep, KnowsNames, TakesInputs}
use Rattle.rule_soundness.specs.Plans.{AreGoodPlans, IsGoodPlan, KnowPlans, KnowsPlan}
use Rattle.rule_soundness.proofs.Plans.{plans_stay_sound}

module _ (F : Functions) (plan : Plan) (valid : IsValid F plan) where
  not_refused : (n : ℕ) (R : Refusal) → Reached plan n → GraphRefused F plan n R → ⊥
  not_refused n R reached g = valid n R (record { reached = reached; because = inl g })

  module _ (n : ℕ) (reached : Reached plan n) (e : Entered F plan valid n) where
    abbrev step : Step
    step = entry_step (tree_at plan.exprs) e.entry

    abbrev below : List Node
    below = entry_inputs e.entry

    step_is : (P : Step → Type 0) → P step → StepIs plan n P
    step_is P h = subst (λ (o : Option IR). IsSomeAnd o (λ x. P (entry_step (tree_at plan.exprs) x))) (sym e.there) h

    -- a step that needs an input has one
    some_input : NeedsInput step → below ≡ [] → ⊥
    some_input needs none = not_refused n (invalid_plan why.Shape) reached (no_input (step_is NeedsInput needs) (ap (named_by entry_inputs) e.there ∙ ap numbers none))

    counted : (ns : List Node) → (ns ≡ [] → ⊥) → 1 ≤ length (tree_schemas F (trees_at F plan valid ns))
    counted [] some = absurd (some refl)
    counted (m ∷ ns) some = omega arith

    function_takes : (f : Node → Tree) (x : IR) (input : Node) (g : FunctionIR) → x ≡ entry.MapFunction input g → TakesInputs (entry_step f x) (length (tree_schemas F (trees_at F plan valid (entry_inputs x))))
    function_takes f x input (call.RowIndex name offset) q = subst (λ (x : IR). TakesInputs (entry_step f x) (length (tree_schemas F (trees_at F plan valid (entry_inputs x))))) (sym q) refl
    function_takes f x input (call.User k) q = subst (λ (x : IR). TakesInputs (entry_step f x) (length (tree_schemas F (trees_at F plan valid (entry_inputs x))))) (sym q) refl

    takes : (x : IR) → e.entry ≡ x → TakesInputs (entry_step (tree_at plan.exprs) x) (length (tree_schemas F (trees_at F plan valid (entry_inputs x))))
    takes (entry.DataFrameScan df columns) q = refl
    takes (entry.SimpleProjection input columns) q = refl
    takes (entry.Select input es) q = refl
    takes (entry.HStack input es) q = refl
    takes (entry.Filter input predicate) q = refl
    takes (entry.Slice input offset len) q = refl
    takes (entry.Sink input payload) q = refl
    takes (entry.MapFunction input g) q = function_takes (tree_at plan.exprs) (entry.MapFunction input g) input g refl
    takes (entry.Sort input by cut options) q = refl
    takes (entry.Union inputs options) q = counted inputs (λ none. some_input (subst (λ (x : IR). NeedsInput (entry_step (tree_at plan.exprs) x)) (sym q) tt) (ap entry_inputs q ∙ none))
    takes (entry.HConcat inputs) q = counted inputs (λ none. some_input (subst (λ (x : IR). NeedsInput (entry_step (tree_at plan.exprs) x)) (sym q) tt) (ap entry_inputs q ∙ none))
    takes (entry.Cache input id hits) q = refl
    takes (entry.GroupBy input keys aggs maintain options) q = refl
    takes (entry.Join left right left_on right_on args) q = refl
    takes (entry.Distinct input o) q = refl
    takes (entry.LeftOut w) q = not_refused n (unsupported w) reached (inr (node_left_out (e.there ∙ ap (λ (x : IR). Some x) q)))

    good_step : EachReached HoldsTable plan → IsGoodStep F step (tree_schemas F (trees_at F plan valid below))
    good_step holds =
        record {
          typed = typed-step F plan valid n e.entry reached e.there (subst (IsClean F plan) (reached-is F plan valid n e.entry reached e.there) (reached-clean F plan valid n reached));
          keys = λ h. not_refused n (invalid_plan why.Keys) reached (step_is HasBadKeys h);
          key = λ h. not_refused n no_key reached (step_is HasNoKey h);
          unvalidated = λ h. not_refused n (unsupported what.Validation) reached (inl (step_is IsValidated h));
          known = λ h. not_refused n (invalid_plan why.Shape) reached (function_missing (step_is (NamesMissingFunction F.count) h));
          inputs = takes e.entry refl;
          table = subst (λ (o : Option IR). IfSome o (λ x. HoldsTable (entry_step (tree_at plan.exprs) x))) e.there (holds n reached);
        }

  module _ (holds : EachReached HoldsTable plan) where
    all_good : (ns : List Node) → ((m : ℕ) → Contains (numbers ns) m → IsGoodPlan F (tree_of plan m)) → AreGoodPlans F (trees_at F plan valid ns)
    all_good [] all = tt
    all_good (n ∷ ns) all = (all n.0 (contains-first n.0 (numbers ns)), all_good ns (λ m c. all m (contains-later n.0 m (numbers ns) c)))

    good_node : (n : ℕ) → Reached plan n → ((m : ℕ) → Contains (inputs_at plan n) m → IsGoodPlan F (tree_of plan m)) → IsGoodPlan F (tree_of plan n)
    good_node n reached all =
        let e = entered F plan valid n reached in
        subst (IsGoodPlan F) (sym e.is) (good_step n reached e holds, all_good (entry_inputs e.entry) (λ m c. all m (named_inputs F plan valid n e.entry e.there m c)))

    pub good_plan : IsGoodPlan F (tree_of plan plan.root.0)
    good_plan = along F plan valid (λ n. IsGoodPlan F (tree_of plan n)) good_node plan.root.0 here

  module _ (names : Names) (knows : Knows names (IsNameUnder F plan)) where
    -- the names of a reached node's schema are in use
    names_known : (n : ℕ) → Reached plan n → KnowsNames names (tree_schema F (tree_of plan n))
    names_known n reached name among k (lt, e) =
        let there = among_first (temporary k) (names_of (tree_schema F (tree_of plan n))) (scanned_names (slice_get plan.nodes n)) (subst (λ m. is_among m (names_of (tree_schema F (tree_of plan n))) ≡ true) e among) in
        inr ((knows.taken k).1 (lt, (n, reached, there)))

    all_known : (ns : List Node) → ((m : ℕ) → Contains (numbers ns) m → KnowsPlan F names (tree_of plan m)) → KnowPlans F names (trees_at F plan valid ns)
    all_known [] all = tt
    all_known (n ∷ ns) all = (all n.0 (contains-first n.0 (numbers ns)), all_known ns (λ m c. all m (contains-later n.0 m (numbers ns) c)))

    known_node : (n : ℕ) → Reached plan n → ((m : ℕ) → Contains (inputs_at plan n) m → KnowsPlan F names (tree_of plan m)) → KnowsPlan F names (tree_of plan n)
    known_node n reached all =
        let e = entered F plan valid n reached in
        let own = subst (λ (t : PlanTree). KnowsNames names (tree_schema F t)) e.is (names_known n reached) in
        subst (KnowsPlan F names) (sym e.is) (own, all_known (entry_inputs e.entry) (λ m c. all m (named_inputs F plan valid n e.entry e.there m c)))

    pub known_plan : KnowsPlan F names (tree_of plan plan.root.0)
    known_plan = along F plan valid (λ n. KnowsPlan F names (tree_of plan n)) known_node plan.root.0 here

  pub plan_nodes_sound : EachReached HoldsTable plan → (names : Names) → Knows names (IsNameUnder F plan) → let l = lowering_of F names (tree_of plan plan.root.0) in l.progress.state.names.next ≤ 2 ^ 64 → IsSoundButForReaders F l.progress.state.nodes
  plan_nodes_sound holds names knows small = plans_stay_sound F (stored F plan valid) names (tree_of plan plan.root.0) (whole_stands F plan valid) (good_plan holds) (known_plan names knows) small
