-- A step that is no cache, over plans that are lowered.
use Rattle.std.proofs.Common.{◌≡◌, ℕ, ◌<◌, ◌≤◌, ◌⊎◌, List, [], ◌∷◌, ◌++◌, length, sym, ap, ◌∙◌, inl, inr, arith, length-append}
use Rattle.std.proofs.lemmas.List.{append_assoc}
use Rattle.std.specs.Prelude.{Contains}
use Rattle.ps_frame.specs.Functions.{Functions, IsLawful}
use Rattle.ps_frame.specs.Tables.{Fields, Table}
use Rattle.ps_frame.specs.declared.value.Value.{Value}
use Rattle.ps_frame.specs.Aggregates.{max_rows}
use Rattle.ps_meaning.specs.Cases.{Case}
use Rattle.ps_meaning.specs.Meaning.{AllMean, Choice, IsAnyLarge, IsChosen, IsLarge, IsLargeUnder, Means, by_case, more_mean, none_mean}
use Rattle.ps_meaning.specs.PlanTrees.{PlanTree, PlanTrees, missing, no_trees, node, tree}
use Rattle.ps_meaning.specs.Within.{EndAlike, Within}
use Rattle.ps_meaning.proofs.WithinLemmas.{alike_within}
use Rattle.plan_laws.proofs.AlikeSteps.{steps-keep}
use Rattle.plan_laws.specs.Laws.{AllEndAlike, HoldsId, IsCacheOf, SomeHoldsId}
use Rattle.step_keeps.specs.Kept.{EndsAsStep, ShowsOnlyStep, SomeIsLarge, tables_from}
use Rattle.step_keeps.proofs.Composed.{alike_then}
use Rattle.within_steps.specs.Within.{AreWithin}
use Rattle.within_plans.specs.Within.{AllMet, IsMet, IsWithinCall}
use Rattle.ps_meaning.specs.Shape.{Shape}
use Rattle.ps_meaning.specs.Steps.{Step}
use Rattle.ps_plan.specs.Lowering.{Cached}
use Rattle.within_steps.proofs.Stays.{steps_stay}
use Rattle.plan_rules.specs.Plans.{LoweredPlans, Progress, stream_over}
use Rattle.step_keeps.proofs.Added.{restricted}
use Rattle.plan_keeps.proofs.Inputs.{still_fine}
use Rattle.plan_keeps.proofs.OneStep.{rows_of_tables}
use Rattle.within_plans.proofs.Inputs.{AreLowered, IsLowered}
use Rattle.plan_keeps.proofs.Lists.{Known}

-- a table within another that is within a third is within that
within_then : (P T K : Table) → Within P T → Within T K → Within P K
within_then P T K v w = record { same_schema = v.same_schema ∙ w.same_schema; part = by v.part w.part }
  where
    by : (P ≡ T) ⊎ (P.broken ≡ [] → ⊥) × ((rest : List (List Value)) × (P.rows ++ rest ≡ T.rows)) → (T ≡ K) ⊎ (T.broken ≡ [] → ⊥) × ((rest : List (List Value)) × (T.rows ++ rest ≡ K.rows)) → (P ≡ K) ⊎ (P.broken ≡ [] → ⊥) × ((rest : List (List Value)) × (P.rows ++ rest ≡ K.rows))
    by (inl e) (inl f) = inl (e ∙ f)
    by (inl e) (inr (broken, (rest, f))) = inr ((λ none. broken (sym (ap (λ (t : Table). t.broken) e) ∙ none)), (rest, ap (λ (t : Table). t.rows ++ rest) e ∙ f))
    by (inr (broken, (rest, e))) (inl f) = inr (broken, (rest, e ∙ ap (λ (t : Table). t.rows) f))
    by (inr (broken, (rest, e))) (inr (other, (more, f))) = inr (broken, (rest ++ more, sym (append_assoc P.rows rest more) ∙ ap (λ rows. rows ++ more) e ∙ f))

within_long : (p l : Table) → Within p l → length p.rows ≤ length l.rows
within_long p l w = by w.part
  where
    by : (p ≡ l) ⊎ (p.broken ≡ [] → ⊥) × ((rest : List (List Value)) × (p.rows ++ rest ≡ l.rows)) → length p.rows ≤ length l.rows
    by (inl e) = let n = ap (λ (t : Table). length t.rows) e in omega arith
    by (inr (broken, (rest, e))) = let n = length-append p.rows rest in let m = ap length e in omega arith

-- a table that a tree means passes the greatest number of rows
large_given : (F : Functions) (choice : Choice) (t : PlanTree) (L : Table) → Means F choice t L → max_rows < length L.rows → IsLargeUnder F choice t
large_given F choice (node a s below) L mean h = inr (inl (L, inl mean, h))
large_given F choice missing L mean h = elim mean [ ]

-- so is one that meets it
some_large : (F : Functions) (choice : Choice) (ts : PlanTrees) (ps Ls : List Table) → AllMean F choice ts Ls → AllMet F ts ps Ls → SomeIsLarge ps → IsAnyLarge F choice ts
some_large F choice no_trees [] Ls ms a h = absurd h
some_large F choice no_trees (p ∷ ps) Ls none_mean a h = absurd a
some_large F choice (tree t ts) [] Ls ms a h = absurd h
some_large F choice (tree t ts) (p ∷ ps) Ls (more_mean {T = L} {Ts = rest} m ms) a (inl h) = let long = within_long p L a.0.0 in inl (large_given F choice t L m (omega arith))
some_large F choice (tree t ts) (p ∷ ps) Ls (more_mean {T = L} {Ts = rest} m ms) a (inr h) = inr (some_large F choice ts ps rest ms a.1 h)

-- all that meet others lie within them
all_within : (F : Functions) (ts : PlanTrees) (ps ls : List Table) → AllMet F ts ps ls → AreWithin ps ls
all_within F no_trees [] [] a = tt
all_within F no_trees [] (l ∷ ls) a = absurd a
all_within F no_trees (p ∷ ps) ls a = absurd a
all_within F (tree t ts) [] ls a = absurd a
all_within F (tree t ts) (p ∷ ps) [] a = absurd a
all_within F (tree t ts) (p ∷ ps) (l ∷ ls) a = (a.0.0, all_within F ts ps ls a.1)

-- and end as they do, unless something is large
pub all_alike : (F : Functions) (ts : PlanTrees) (ps ls : List Table) → AllMet F ts ps ls → AllEndAlike ps ls ⊎ ((choice : Choice) × IsAnyLarge F choice ts)
all_alike F no_trees [] [] a = inl tt
all_alike F no_trees [] (l ∷ ls) a = absurd a
all_alike F no_trees (p ∷ ps) ls a = absurd a
all_alike F (tree t ts) [] ls a = absurd a
all_alike F (tree t ts) (p ∷ ps) [] a = absurd a
all_alike F (tree t ts) (p ∷ ps) (l ∷ ls) a = by a.0.1 (all_alike F ts ps ls a.1)
  where
    by : EndAlike p l ⊎ IsLarge F t → AllEndAlike ps ls ⊎ ((choice : Choice) × IsAnyLarge F choice ts) → AllEndAlike (p ∷ ps) (l ∷ ls) ⊎ ((choice : Choice) × IsAnyLarge F choice (tree t ts))
    by (inl e) (inl es) = inl (e, es)
    by (inl e) (inr large) = inr (large.0, inr large.1)
    by (inr large) rest = inr (large.0, inl large.1)

-- a step over tables that meet those of its inputs
module _ (F : Functions) (lawful : IsLawful F) (at : ℕ) (step : Step) (below : PlanTrees) (choice : Choice) (ps Ls : List Table) (ms : AllMean F choice below Ls) (met : AllMet F below ps Ls) where
  abbrev u : PlanTree
  u = node at step below

  -- the step is kept over tables that end as those of the inputs, or something is large
  pub known : (P : Table) (Shows : Type 0) → (EndsAsStep F at step ps P × Shows) ⊎ SomeIsLarge ps → (AllEndAlike ps Ls × (EndsAsStep F at step ps P × Shows)) ⊎ IsLarge F u
  known P Shows kept = by kept (all_alike F below ps Ls met)
    where
      by : (EndsAsStep F at step ps P × Shows) ⊎ SomeIsLarge ps → AllEndAlike ps Ls ⊎ ((c : Choice) × IsAnyLarge F c below) → (AllEndAlike ps Ls × (EndsAsStep F at step ps P × Shows)) ⊎ IsLarge F u
      by (inl k) (inl alike) = inl (alike, k)
      by (inr large) rest = inr (choice, inl (some_large F choice below ps Ls ms met large))
      by (inl k) (inr large) = inr (large.0, inl large.1)

  pub step_met : (P : Table) (Shows : Type 0) → ((T : Table) × Case F at step ps T × Within P T) → (EndsAsStep F at step ps P × Shows) ⊎ SomeIsLarge ps → (K : Table) × Case F at step Ls K × IsMet F u P K
  step_met P Shows given kept = by (known P Shows kept)
    where
      by : (AllEndAlike ps Ls × (EndsAsStep F at step ps P × Shows)) ⊎ IsLarge F u → (K : Table) × Case F at step Ls K × IsMet F u P K
      by (inl (alike, k)) =
          let table = k.0.table in
          let s = steps-keep F at step ps Ls table.0 alike table.1 in
          let ends = alike_then P table.0 s.0 table.2 s.2 in
          (s.0, s.1, (alike_within P s.0 ends, inl ends))
      by (inr large) = let s = steps_stay F lawful at step ps Ls given.0 (all_within F below ps Ls met) given.1 in (s.0, s.1, (within_then P given.0 s.0 given.2 s.2, inr large))

module _ (F : Functions) (lawful : IsLawful F) (stored : ℕ → PlanTree) (p : Progress) (at : ℕ) (step : Step) (schema : Fields) (below : PlanTrees) (chosen : (choice : Choice) (T : Table) → IsChosen choice step T) (other : (k : ℕ) → IsCacheOf k step → ⊥)
    (r : LoweredPlans) (low : AreLowered F stored p below r) (kept : IsWithinCall F at step schema r) where
  pub step_lowered : IsLowered F stored p (node at step below) (stream_over F at step schema r)
  step_lowered =
      let m = (stream_over F at step schema r).progress.state.nodes in
      record {
        more = low.more ++ kept.more;
        nodes = kept.nodes ∙ ap (λ (xs : Shape). xs ++ kept.more) low.nodes ∙ append_assoc p.state.nodes low.more kept.more;
        there = kept.there;
        fine = λ c h. still_fine stored r.progress.state.nodes m kept.more r.progress.cached c kept.nodes (low.fine c h);
        old = low.old;
        new = λ c h. later c (low.new c h);
        held = held;
        lowers = λ shape rest e tables given choice serves.
            let from = e ∙ ap (λ (xs : Shape). xs ++ rest) kept.nodes ∙ append_assoc r.progress.state.nodes kept.more rest in
            let b = low.lowers shape (kept.more ++ rest) from tables given choice serves in
            let ls = b.3 in
            let chosen_all = restricted F m shape rest e tables given.0 in
            let have = rows_of_tables F r.progress.state.nodes shape (kept.more ++ rest) from tables given r.streams low.there in
            let k = step_met F lawful at step below b.0 (tables_from tables r.streams) ls.0 ls.1 ls.2 (tables (stream_over F at step schema r).stream.0) (ShowsOnlyStep F r.progress.state.nodes m tables at step (tables_from tables r.streams)) (kept.table tables chosen_all have) (kept.kept tables chosen_all have) in
            (b.0, b.1, b.2, (k.0, by_case ls.1 k.1 (chosen b.0 k.0), k.2));
      }
    where
      later : (c : Cached) → Contains p.cached c ⊎ SomeHoldsId c.id below → Contains p.cached c ⊎ HoldsId c.id (node at step below)
      later c (inl h) = inl h
      later c (inr h) = inr (inr h)

      held : (k : ℕ) → HoldsId k (node at step below) → Known k r.progress.cached
      held k (inl h) = absurd (other k h)
      held k (inr h) = low.held k h
