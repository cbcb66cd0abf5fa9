-- What breaks the plan of a query: a count past the greatest number of rows, where the node is large.
use Rattle.std.proofs.Common.{◌≡◌, ℕ, zero, suc, ◌<◌, List, [], ◌∷◌, length, refl, sym, subst, inl, inr, arith}
use Rattle.std.specs.Prelude.{Contains, ⊤}
use Rattle.std.specs.List.{AllByRecursion}
use Rattle.ps_frame.specs.Aggregates.{max_rows}
use Rattle.ps_frame.specs.Causes.{Cause}
use Rattle.ps_frame.specs.Functions.{Functions, IsLawful}
use Rattle.ps_frame.specs.Tables.{Table}
use Rattle.ps_frame.specs.declared.value.DataFault.TheVariants as fault
use Rattle.ps_meaning.proofs.SchemaLaw.{all_mean-schemas}
use Rattle.ps_meaning.specs.Cases.{first_table, schemas_of, second_table}
use Rattle.ps_meaning.specs.Meaning.{AllMean, Choice, IsAnyLarge, IsBrokenBy, IsLarge, IsLargeUnder, MayGive, Means, by_case, more_mean, none_mean}
use Rattle.ps_meaning.specs.PlanTrees.{PlanTree, PlanTrees, missing, no_trees, node, tree}
use Rattle.ps_meaning.specs.Schemas.{tree_schemas}
use Rattle.ps_meaning.specs.Steps.{Step}
use Rattle.text_faults.proofs.Even.{all-weaker}
use Rattle.text_faults.proofs.EvenSteps.{IsKnownStep, IsMild, before-mild, case-mild, mild-none}

-- each step is one that a query makes, and its expressions are known over what its inputs give
abbrev mutual
  pub IsNamed : Functions → PlanTree → Type 0
  IsNamed F (node at step below) = IsKnownStep (tree_schemas F below) step × AreNamed F below
  IsNamed F missing = ⊤

  pub AreNamed : Functions → PlanTrees → Type 0
  AreNamed F no_trees = ⊤
  AreNamed F (tree t ts) = IsNamed F t × AreNamed F ts

module _ (F : Functions) (lawful : IsLawful F) (choice : Choice) where
  -- a count past the greatest number of rows, below a large node
  abbrev Broke : PlanTree → Cause → Type 0
  Broke t c = (c.fault ≡ fault.Rows) × IsLargeUnder F choice t

  abbrev AnyBroke : PlanTrees → Cause → Type 0
  AnyBroke ts c = (c.fault ≡ fault.Rows) × IsAnyLarge F choice ts

  -- a node is large where a table that it means is
  large-here : {t : PlanTree} {T : Table} → Means F choice t T → max_rows < length T.rows → IsLargeUnder F choice t
  large-here (by_case {at} {step} {below} {Ts} {T} ms k chosen) h = inr (inl (T, inl (by_case ms k chosen), h))

  -- the tables of the inputs
  abbrev AreMild : (Cause → Type 0) → ℕ → List Table → Type 0
  AreMild P at Ts = AllByRecursion (IsMild P at) Ts

  first-mild : (P : Cause → Type 0) (at : ℕ) (Ts : List Table) → AreMild P at Ts → IsMild P at (first_table Ts)
  first-mild P at [] h = mild-none P at []
  first-mild P at (T ∷ Ts) h = h.0

  second-mild : (P : Cause → Type 0) (at : ℕ) (Ts : List Table) → AreMild P at Ts → IsMild P at (second_table Ts)
  second-mild P at [] h = mild-none P at []
  second-mild P at (T ∷ Ts) h = first-mild P at Ts h.1

  known-here : (Ts : List Table) (below : PlanTrees) → AllMean F choice below Ts → (step : Step) → IsKnownStep (tree_schemas F below) step → IsKnownStep (schemas_of Ts) step
  known-here Ts below ms step k = subst (λ ss. IsKnownStep ss step) (sym (all_mean-schemas F lawful choice ms)) k

  -- a table of an input below a node
  abbrev IsMildBelow : PlanTrees → Table → Type 0
  IsMildBelow ts T = AllByRecursion (AnyBroke ts) T.broken × (max_rows < length T.rows → IsAnyLarge F choice ts)

  mild-later : (t : PlanTree) (ts : PlanTrees) (T : Table) → IsMildBelow ts T → IsMildBelow (tree t ts) T
  mild-later t ts T h = (all-weaker (AnyBroke ts) (AnyBroke (tree t ts)) (λ c k. (k.0, inr k.1)) T.broken h.0, λ more. inr (h.1 more))

  -- it is mild for the node
  mild-at : (at : ℕ) (step : Step) (below : PlanTrees) (Ts : List Table) → AllByRecursion (IsMildBelow below) Ts → AreMild (Broke (node at step below)) at Ts
  mild-at at step below Ts h =
      all-weaker (IsMildBelow below) (IsMild (Broke (node at step below)) at)
      (λ T k. record { causes = all-weaker (AnyBroke below) (Broke (node at step below)) (λ c b. (b.0, inl b.1)) T.broken k.0; big = λ more. (refl, inl (k.1 more)) }) Ts h

  mutual
    means-mild : {t : PlanTree} {T : Table} → Means F choice t T → IsNamed F t → AllByRecursion (Broke t) T.broken
    means-mild (by_case {at} {step} {below} {Ts} {T} ms k chosen) named =
        let P = Broke (node at step below) in
        let mild = mild-at at step below Ts (all-mild ms named.1) in
        case-mild P at F Ts (first-mild P at Ts mild) (second-mild P at Ts mild) step T (known-here Ts below ms step named.0) k

    all-mild : {ts : PlanTrees} {Ts : List Table} → AllMean F choice ts Ts → AreNamed F ts → AllByRecursion (IsMildBelow ts) Ts
    all-mild none_mean named = tt
    all-mild (more_mean {t} {ts} {T} {Ts} m ms) named = (
      (all-weaker (Broke t) (AnyBroke (tree t ts)) (λ c h. (h.0, inl h.1)) T.broken (means-mild m named.0), λ more. inl (large-here m more)),
      all-weaker (IsMildBelow ts) (IsMildBelow (tree t ts)) (λ U h. mild-later t ts U h) Ts (all-mild ms named.1),
    )

  given-mild : (t : PlanTree) (U : Table) → IsNamed F t → MayGive F choice t U → AllByRecursion (Broke t) U.broken
  given-mild (node at step below) U named (inl m) = means-mild m named
  given-mild (node at step below) U named (inr (Ts, ms, g, chosen)) =
      let P = Broke (node at step below) in
      let mild = mild-at at step below Ts (all-mild ms named.1) in
      before-mild P at F Ts (first-mild P at Ts mild) (second-mild P at Ts mild) step U (known-here Ts below ms step named.0) g
  given-mild missing U named g = absurd g

contained : {A : Type 0} (P : A → Type 0) (xs : List A) (x : A) → AllByRecursion P xs → Contains xs x → P x
contained P [] x h (k, within, e) = absurd (omega arith)
contained P (y ∷ ys) x h (zero, within, e) = subst P e h.0
contained P (y ∷ ys) x h (suc k, within, e) = contained P ys x h.1 (k, omega arith, e)

-- what breaks a node breaks it by Rows, and the node is large
pub broken-by-rows : (F : Functions) (t : PlanTree) (c : Cause) → IsLawful F → IsNamed F t → IsBrokenBy F t c → (c.fault ≡ fault.Rows) × IsLarge F t
broken-by-rows F t c lawful named (choice, U, gives, has) =
    let broke = contained (λ d. (d.fault ≡ fault.Rows) × IsLargeUnder F choice t) U.broken c (given-mild F lawful choice t U named gives) has in (broke.0, (choice, broke.1))
