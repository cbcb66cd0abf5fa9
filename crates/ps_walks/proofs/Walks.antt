-- Tables that fit node by node are meanings, and faults over them are causes.
use Rattle.std.proofs.Common.{◌≡◌, ◌⊎◌, ◌↔◌, inl, inr, ℕ, zero, suc, List, length, slice_get, ap}
use Rattle.std.specs.Prelude.{Option, Some, None, Contains, IfSome}
use Rattle.pu_base.specs.declared.arena.Node.{Node}
use Rattle.ps_frame.specs.Functions.{Functions}
use Rattle.ps_frame.specs.Tables.{Table, whole}
use Rattle.ps_frame.specs.Trees.{tree_at}
use Rattle.ps_frame.specs.declared.value.DataFault.{DataFault}
use Rattle.ps_frame.specs.declared.value.DataFault.TheVariants as fault
use Rattle.ps_meaning.specs.Cases.{Case, GivesBeforeCut}
use Rattle.ps_plan.specs.Graph.{Path, Reached, onward, inputs_at, named_by}
use Rattle.ps_meaning.specs.Meaning.{AllMean, Choice, IsBrokenBy, IsChosen, IsLarge, IsMeaning, by_case}
use Rattle.ps_plan.specs.PlanMeanings.{NodeMayFault}
use Rattle.ps_meaning.specs.Nodes.{IsFaultAt, wholes}
use Rattle.ps_meaning.specs.PlanTrees.{IsCompletePlan, PlanTree}
use Rattle.ps_plan.specs.Plans.{Plan, node_tree, plan_trees_of, plan_within, tree_of}
use Rattle.ps_plan.specs.Refusals.{IsValid}
use Rattle.ps_plan.specs.Entries.{entry_inputs, entry_step}
use Rattle.ps_plan.specs.declared.ir.IR.{IR}
use Rattle.ps_plan.specs.declared.ir.IR.TheVariants as entry
use Rattle.ps_plan.proofs.ValidPlans.{path-join, reached-complete}
use Rattle.ps_walks.proofs.Choosing.{choose, chosen-at, chosen-is, some-chosen}
use Rattle.ps_walks.proofs.Meanings.{Fits, all-mean, means-within, within}
use Rattle.ps_walks.specs.Computed.{EachBelowGives, EachGives, FaultsAt, Tables, tables_of}

pub tables-mean : (F : Functions) (plan : Plan) (order : List ℕ) (T : Tables) (n : ℕ) → IsValid F plan → ((m : ℕ) → Reached plan m ↔ Contains order m) → Reached plan n → EachGives F plan T n → IsMeaning F (tree_of plan n) (whole (T n))
tables-mean F plan order T n valid lists reached each = (
  choose plan T order,
  means-within F plan T (choose plan T order) (length plan.nodes) (record { 0 = n }) (reached-complete F plan valid n reached)
      (λ m way. (each m way, chosen-at F plan T valid order lists m (path-join reached way) (each m way))),
)

module _ (F : Functions) (plan : Plan) (T : Tables) (choice : Choice) where
  -- the tree of an entry, and what its fault is in the plan
  abbrev tree-over : ℕ → Node → Option IR → PlanTree
  tree-over d n o = node_tree (tree_at plan.exprs) (within F plan T choice d) n o

  abbrev IsAnswer : PlanTree → ℕ → DataFault → Type 0
  IsAnswer t n f = IsBrokenBy F t (record { fault = f; node = n }) ⊎ ((f ≡ fault.Rows) × IsLarge F t)

  abbrev FitsBelow : Option IR → Type 0
  FitsBelow o = (m : Node) → Contains (named_by entry_inputs o) m.0 → (k : ℕ) → Path (inputs_at plan) m.0 k → Fits F plan T choice k

  abbrev IsCached : Option IR → Type 0
  IsCached o = (id hits : ℕ) (input : Node) → o ≡ Some (entry.Cache input id hits) → choice id ≡ whole (T input.0)

  abbrev inputs : IR → List Table
  inputs e = wholes (tables_of T (entry_inputs e))

  some-faults : (d : ℕ) (n : Node) (e : IR) (f : DataFault) → AllMean F choice (plan_trees_of (within F plan T choice d) (entry_inputs e)) (inputs e)
      → ((U : Table) → Case F n.0 (entry_step (tree_at plan.exprs) e) (inputs e) U ⊎ GivesBeforeCut F n.0 (entry_step (tree_at plan.exprs) e) (inputs e) U → IsChosen choice (entry_step (tree_at plan.exprs) e) U)
      → IsFaultAt F n.0 (entry_step (tree_at plan.exprs) e) (tables_of T (entry_inputs e)) f → IsAnswer (tree-over d n (Some e)) n.0 f
  some-faults d n e f all chosen (inl (U, inl case, c)) = inl (choice, U, inl (by_case all case (chosen U (inl case))), c)
  some-faults d n e f all chosen (inl (U, inr before, c)) = inl (choice, U, inr (inputs e, all, before, chosen U (inr before)), c)
  some-faults d n e f all chosen (inr (rows, inl large)) = inr (rows, (choice, inr (inr (inputs e, all, large))))
  some-faults d n e f all chosen (inr (rows, inr (U, before, large))) = inr (rows, (choice, inr (inl (U, inr (inputs e, all, before, chosen U (inr before)), large))))

  entry-faults : (d : ℕ) (n : Node) (o : Option IR) (f : DataFault) → IsCompletePlan (tree-over d n o) → FitsBelow o → IsCached o
      → IfSome o (λ e. IsFaultAt F n.0 (entry_step (tree_at plan.exprs) e) (tables_of T (entry_inputs e)) f) → IsAnswer (tree-over d n o) n.0 f
  entry-faults d n None f complete below cached faults = absurd complete
  entry-faults d n (Some e) f complete below cached faults =
      some-faults d n e f (all-mean F plan T choice d (means-within F plan T choice d) (entry_inputs e) complete.1 below)
      (λ U gives. some-chosen F T choice (tree_at plan.exprs) n.0 e U gives (λ id hits input h. cached id hits input (ap (λ x. Some x) h))) faults

  faults-within : (d : ℕ) (n : Node) (f : DataFault) → IsCompletePlan (within F plan T choice d n) → FitsBelow (slice_get plan.nodes n.0) → IsCached (slice_get plan.nodes n.0) → FaultsAt F plan T n.0 f
      → IsAnswer (within F plan T choice d n) n.0 f
  unfolding plan_within
  faults-within zero n f complete below cached faults = absurd complete
  faults-within (suc d) n f complete below cached faults = entry-faults d n (slice_get plan.nodes n.0) f complete below cached faults

pub faults-answer : (F : Functions) (plan : Plan) (order : List ℕ) (T : Tables) (n : ℕ) (f : DataFault) → IsValid F plan → ((m : ℕ) → Reached plan m ↔ Contains order m) → Reached plan n → EachBelowGives F plan T n → FaultsAt F plan T n f → NodeMayFault F plan n f
faults-answer F plan order T n f valid lists reached each faults = (
  reached,
  faults-within F plan T (choose plan T order) (length plan.nodes) (record { 0 = n }) f (reached-complete F plan valid n reached)
      (λ m c k way. (each m.0 k c way, chosen-at F plan T valid order lists k (path-join reached (onward c way)) (each m.0 k c way)))
      (λ id hits input h. chosen-is F plan T valid order (λ m c. (lists m).1 c) n id hits input reached h ((lists n).0 reached))
      faults,
)
