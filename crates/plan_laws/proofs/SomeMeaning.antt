-- A tree whose caches of one id stand over one tree means some table.
use Rattle.std.proofs.Common.{◌≡◌, ℕ, [], ◌∷◌, refl, sym, subst, inl}
use Rattle.ps_frame.specs.Functions.{Functions, IsLawful}
use Rattle.ps_frame.specs.Tables.{Table}
use Rattle.ps_meaning.specs.Cases.{cut_by}
use Rattle.ps_meaning.specs.Laws.{IsBuilt}
use Rattle.plan_laws.specs.Laws.{HaveStored, IsStored, StandsOver}
use Rattle.ps_meaning.specs.Laws.{EachStep, EachStepOf}
use Rattle.ps_meaning.specs.Meaning.{Choice, Means, by_case, AllMean, none_mean, more_mean, IsChosen, IsMeaning}
use Rattle.ps_meaning.specs.PlanTrees.{PlanTree, node, missing, PlanTrees, no_trees, tree}
use Rattle.ps_meaning.specs.Steps.{Step, cache, step_cut}
use Rattle.plan_laws.proofs.OneWhole.{all_ordered, given, given-gives, ordered}

module _ (F : Functions) (lawful : IsLawful F) (stored : ℕ → PlanTree) where
  -- each id has the table of what it stands over
  abbrev choice : Choice
  choice id = ordered F lawful (stored id)

  chosen : (at : ℕ) (step : Step) (below : PlanTrees) → IsStored stored step below → IsChosen choice step (cut_by (step_cut step) (given F lawful at step (all_ordered F lawful below)))
  chosen at (cache id) below h = subst (λ below. given F lawful at (cache id) (all_ordered F lawful below) ≡ ordered F lawful (stored id)) (sym h) (given-gives F lawful at (cache id) (ordered F lawful (stored id) ∷ []) tt)
  chosen at _ below h = tt

  mutual
    ordered-means : (t : PlanTree) → EachStep IsBuilt t → StandsOver stored t → Means F choice t (ordered F lawful t)
    ordered-means (node at step below) b h =
        by_case (all-means below b.1 h.1) (given F lawful at step (all_ordered F lawful below), inl (given-gives F lawful at step (all_ordered F lawful below) b.0), refl) (chosen at step below h.0)
    ordered-means missing b h = absurd h

    all-means : (ts : PlanTrees) → EachStepOf IsBuilt ts → HaveStored stored ts → AllMean F choice ts (all_ordered F lawful ts)
    all-means no_trees b h = none_mean
    all-means (tree t ts) b h = more_mean (ordered-means t b.0 h.0) (all-means ts b.1 h.1)

  pub some-meaning : (t : PlanTree) → EachStep IsBuilt t → StandsOver stored t → (T : Table) × IsMeaning F t T
  some-meaning t b h = (ordered F lawful t, (choice, ordered-means t b h))
