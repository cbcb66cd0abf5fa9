-- A meaning depends on the choice only at the ids that the tree holds, and each step that the engine has gives some table.
use Rattle.std.proofs.Common.{◌≡◌, ℕ, List, refl, ◌∙◌, inl, inr}
use Rattle.std.specs.Prelude.{Bool, true, false, Some, None}
use Rattle.ps_frame.specs.Functions.{Functions}
use Rattle.ps_frame.specs.Tables.{Table}
use Rattle.ps_meaning.specs.Cases.{Case, Gives, cut_by}
use Rattle.ps_meaning.specs.Laws.{IsBuilt}
use Rattle.plan_laws.specs.Laws.{HoldsId, IsCacheOf, SomeHoldsId}
use Rattle.ps_meaning.specs.Meaning.{Choice, Means, by_case, AllMean, none_mean, more_mean, IsChosen}
use Rattle.ps_meaning.specs.Orders.{IsOrder}
use Rattle.ps_meaning.specs.PlanTrees.{PlanTree, PlanTrees}
use Rattle.ps_meaning.specs.Steps.{Step, scan, project, select, hstack, filter, slice, sink, row_index, user, sort, union, hconcat, cache, group_by, join, distinct, left_out, step_cut}
use Rattle.plan_laws.proofs.Rows.{in_order}

module _ (F : Functions) (c d : Choice) where
  chosen-same : (step : Step) (T : Table) → ((id : ℕ) → IsCacheOf id step → c id ≡ d id) → IsChosen c step T → IsChosen d step T
  chosen-same (cache id) T same h = h ∙ same id refl
  chosen-same _ T same h = tt

  mutual
    pub means-same : {t : PlanTree} {T : Table} → ((id : ℕ) → HoldsId id t → c id ≡ d id) → Means F c t T → Means F d t T
    means-same same (by_case {step = step} {T = T} ms k chosen) = by_case (all_mean-same (λ id h. same id (inr h)) ms) k (chosen-same step T (λ id h. same id (inl h)) chosen)

    all_mean-same : {ts : PlanTrees} {Ts : List Table} → ((id : ℕ) → SomeHoldsId id ts → c id ≡ d id) → AllMean F c ts Ts → AllMean F d ts Ts
    all_mean-same same none_mean = none_mean
    all_mean-same same (more_mean m ms) = more_mean (means-same (λ id h. same id (inl h)) m) (all_mean-same (λ id h. same id (inr h)) ms)

order-self : {X : Type 0} (b : Bool) (xs : List X) → IsOrder b xs xs
order-self true xs = refl
order-self false xs = in_order xs

module _ (F : Functions) (at : ℕ) where
  -- the table that a step gives, its rows in the order of the definitions
  pub some_given : (step : Step) (ts : List Table) → IsBuilt step → (T : Table) × Gives F at step ts T
  some_given (scan t None) ts b = (_, refl)
  some_given (scan t (Some ns)) ts b = (_, refl)
  some_given (project ns) ts b = (_, refl)
  some_given (select es) ts b = (_, refl)
  some_given (hstack es) ts b = (_, refl)
  some_given (filter e) ts b = (_, refl)
  some_given (slice offset n) ts b = (_, refl)
  some_given (sink payload) ts b = (_, refl)
  some_given (row_index name offset) ts b = (_, refl)
  some_given (user n) ts b = (_, refl)
  some_given (sort o) ts b = (_, refl)
  some_given (union cut) ts b = (_, refl)
  some_given hconcat ts b = (_, refl)
  some_given (cache id) ts b = (_, refl)
  some_given (group_by o) ts b = (_, (_, order-self o.maintain_order _, refl))
  some_given (join o) ts b = (_, refl)
  some_given (distinct o) ts b = (_, (_, order-self o.maintain_order _, refl))
  some_given (left_out what) ts b = absurd b

  pub some_case : (step : Step) (ts : List Table) → IsBuilt step → (T : Table) × Case F at step ts T
  some_case step ts b = let g = some_given step ts b in (cut_by (step_cut step) g.0, (g.0, inl g.1, refl))
