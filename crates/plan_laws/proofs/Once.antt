-- A plan whose nodes fix their rows and their order has at most one table, whatever the choices.
use Rattle.std.proofs.Common.{◌≡◌, ℕ, List, [], Some, None, refl, sym, ap, subst, ◌∙◌, inl, inr}
use Rattle.std.specs.Prelude.{⊤}
use Rattle.ps_frame.specs.Functions.{Functions}
use Rattle.ps_frame.specs.Tables.{Table}
use Rattle.ps_frame.specs.declared.value.Value.{Value}
use Rattle.ps_meaning.specs.Cases.{Case, GivesBeforeCut, Gives, lost_causes, cut_by}
use Rattle.ps_meaning.specs.Meaning.{Choice, Means, by_case, AllMean, none_mean, more_mean, IsMeaning}
use Rattle.ps_meaning.specs.PlanTrees.{PlanTree, node, missing, PlanTrees, no_trees, tree}
use Rattle.ps_meaning.specs.Steps.{Step, scan, project, slice, sink, row_index, user, union, hconcat, cache, step_cut}

-- a step that fixes its rows and their order, and whose columns lose no causes
abbrev pub IsPlain : Step → Type 0
IsPlain (scan t columns) = ⊤
IsPlain (project names) = ⊤
IsPlain (slice offset n) = ⊤
IsPlain (sink payload) = ⊤
IsPlain (row_index name offset) = ⊤
IsPlain (user n) = ⊤
IsPlain (union cut) = ⊤
IsPlain hconcat = ⊤
IsPlain (cache id) = ⊤
IsPlain _ = ⊥

abbrev mutual
  pub ArePlain : PlanTree → Type 0
  ArePlain (node at step below) = IsPlain step × AllArePlain below
  ArePlain missing = ⊤

  pub AllArePlain : PlanTrees → Type 0
  AllArePlain no_trees = ⊤
  AllArePlain (tree t ts) = ArePlain t × AllArePlain ts

module _ (F : Functions) where
  gives_once : (at : ℕ) (step : Step) (ts : List Table) (T U : Table) → IsPlain step → Gives F at step ts T → Gives F at step ts U → T ≡ U
  gives_once at (scan t None) ts T U p g h = g ∙ sym h
  gives_once at (scan t (Some ns)) ts T U p g h = g ∙ sym h
  gives_once at (project names) ts T U p g h = g ∙ sym h
  gives_once at (slice offset n) ts T U p g h = g ∙ sym h
  gives_once at (sink payload) ts T U p g h = g ∙ sym h
  gives_once at (row_index name offset) ts T U p g h = g ∙ sym h
  gives_once at (user n) ts T U p g h = g ∙ sym h
  gives_once at (union cut) ts T U p g h = g ∙ sym h
  gives_once at hconcat ts T U p g h = g ∙ sym h
  gives_once at (cache id) ts T U p g h = g ∙ sym h
  gives_once at _ ts T U p g h = absurd p

  loses_none : (at : ℕ) (step : Step) (ts : List Table) (rows : List (List Value)) → IsPlain step → lost_causes F at step ts rows ≡ []
  loses_none at (scan t columns) ts rows p = refl
  loses_none at (project names) ts rows p = refl
  loses_none at (slice offset n) ts rows p = refl
  loses_none at (sink payload) ts rows p = refl
  loses_none at (row_index name offset) ts rows p = refl
  loses_none at (user n) ts rows p = refl
  loses_none at (union cut) ts rows p = refl
  loses_none at hconcat ts rows p = refl
  loses_none at (cache id) ts rows p = refl
  loses_none at _ ts rows p = absurd p

  before_once : (at : ℕ) (step : Step) (ts : List Table) (T U : Table) → IsPlain step → GivesBeforeCut F at step ts T → GivesBeforeCut F at step ts U → T ≡ U
  before_once at step ts T U p (inl g) (inl h) = gives_once at step ts T U p g h
  before_once at step ts T U p (inr l) h = absurd (l.2 (loses_none at step ts l.0.rows p))
  before_once at step ts T U p (inl g) (inr l) = absurd (l.2 (loses_none at step ts l.0.rows p))

  case_once : (at : ℕ) (step : Step) (ts us : List Table) (T U : Table) → IsPlain step → ts ≡ us → Case F at step ts T → Case F at step us U → T ≡ U
  case_once at step ts us T U p e k l =
      let l' : Case F at step ts U = subst (λ vs. Case F at step vs U) (sym e) l in
      k.2 ∙ ap (cut_by (step_cut step)) (before_once at step ts k.0 l'.0 p k.1 l'.1) ∙ sym l'.2

  module _ (c d : Choice) where
    mutual
      pub once : {t : PlanTree} {T U : Table} → Means F c t T → ArePlain t → Means F d t U → T ≡ U
      once (by_case {at} {step} {below} {Ts} {T} ms k chosen) p (by_case {Ts = Us} {T = U} ns l chosen') = case_once at step Ts Us T U p.0 (all_once ms p.1 ns) k l

      all_once : {ts : PlanTrees} {Ts Us : List Table} → AllMean F c ts Ts → AllArePlain ts → AllMean F d ts Us → Ts ≡ Us
      all_once none_mean p none_mean = refl
      all_once (more_mean m ms) p (more_mean n ns) = let here = once m p.0 n in let there = all_once ms p.1 ns in cc

-- at most one table
pub one_table : (F : Functions) (t : PlanTree) → ArePlain t → (T U : Table) → IsMeaning F t T → IsMeaning F t U → T ≡ U
one_table F t p T U m n = once F m.0 n.0 m.1 p n.1
