-- A plan of such entries is one of steps of kept kinds.
use Rattle.std.proofs.Common.{◌≡◌, ℕ, ◌+◌, ◌<◌, ◌≤◌, ◌⊎◌, inl, inr, List, [], ◌∷◌, length, slice_get, Option, Some, None, sym, subst, refl, arith}
use Rattle.std.specs.Prelude.{Contains, IfSome}
use Rattle.std.proofs.lemmas.Bool.{cases_lt}
use Rattle.std.proofs.lemmas.Option.{slice_get_within}
use Rattle.pu_base.specs.declared.arena.Node.{Node}
use Rattle.ps_frame.specs.Functions.{Functions}
use Rattle.ps_frame.specs.Trees.{tree_at}
use Rattle.ps_meaning.proofs.Containing.{contains-first, contains-later}
use Rattle.ps_plan.proofs.Complete.{numbers}
use Rattle.ps_plan.specs.Entries.{entry_inputs}
use Rattle.ps_plan.specs.Graph.{Reached, here, inputs_at}
use Rattle.ps_plan.specs.Plans.{Plan, tree_of}
use Rattle.ps_plan.specs.Refusals.{IsValid}
use Rattle.ps_plan.specs.declared.ir.IR.{IR}
use Rattle.arena_keeps.proofs.Parts.{along, entered, named_inputs, trees_at}
use Rattle.plans_keep.specs.Kinds.{AreOfKeptKinds, IsOfKeptKinds}
use Rattle.plan_lowering_trials.specs.Always.{IsAlwaysKept}

-- the entries before one
abbrev pub KeptBelow : List IR → ℕ → Type 0
KeptBelow items k = (n : ℕ) → n < k → IfSome (slice_get items n) IsAlwaysKept

pub none_below : (items : List IR) → KeptBelow items 0
none_below items n lt = absurd (omega arith)

pub one_more : (items : List IR) (k : ℕ) (e : IR) → slice_get items k ≡ Some e → IsAlwaysKept e → KeptBelow items k → KeptBelow items (k + 1)
one_more items k e is kept before n lt = by (cases_lt n k)
  where
    by : (n < k) ⊎ (k ≤ n) → IfSome (slice_get items n) IsAlwaysKept
    by (inl less) = before n less
    by (inr le) = let same : k ≡ n = omega arith in subst (λ (m : ℕ). IfSome (slice_get items m) IsAlwaysKept) same (subst (λ (o : Option IR). IfSome o IsAlwaysKept) (sym is) kept)

pub all_kept : (items : List IR) (k : ℕ) → length items ≤ k → KeptBelow items k → (n : ℕ) → IfSome (slice_get items n) IsAlwaysKept
all_kept items k le before n = by (slice_get items n) refl
  where
    by : (o : Option IR) → slice_get items n ≡ o → IfSome (slice_get items n) IsAlwaysKept
    by None q = subst (λ (o : Option IR). IfSome o IsAlwaysKept) (sym q) tt
    by (Some e) q = let lt = slice_get_within items n e q in before n (omega arith)

module _ (F : Functions) (plan : Plan) (valid : IsValid F plan) (kept : (n : ℕ) → IfSome (slice_get plan.nodes n) IsAlwaysKept) where
  all_kinds : (ns : List Node) → ((m : ℕ) → Contains (numbers ns) m → IsOfKeptKinds F (tree_of plan m)) → AreOfKeptKinds F (trees_at F plan valid ns)
  all_kinds [] all = tt
  all_kinds (n ∷ ns) all = (all n.0 (contains-first n.0 (numbers ns)), all_kinds ns (λ m c. all m (contains-later n.0 m (numbers ns) c)))

  step_kinds : (n : ℕ) → Reached plan n → ((m : ℕ) → Contains (inputs_at plan n) m → IsOfKeptKinds F (tree_of plan m)) → IsOfKeptKinds F (tree_of plan n)
  step_kinds n reached all =
      let e = entered F plan valid n reached in
      let below = entry_inputs e.entry in
      let own = subst (λ (o : Option IR). IfSome o IsAlwaysKept) e.there (kept n) in
      subst (IsOfKeptKinds F) (sym e.is) (inl (own (tree_at plan.exprs)), all_kinds below (λ m c. all m (named_inputs F plan valid n e.entry e.there m c)))

  pub plan_kinds : IsOfKeptKinds F (tree_of plan plan.root.0)
  plan_kinds = along F plan valid (λ n. IsOfKeptKinds F (tree_of plan n)) step_kinds plan.root.0 here
