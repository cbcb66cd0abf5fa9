-- That nothing breaks a small plan.
use Rattle.std.proofs.Common.{◌≡◌, ℕ, zero, suc, ◌<◌, List, [], ◌∷◌, length, None, refl, sym, ap, subst, ◌∙◌, inl, inr, arith}
use Rattle.std.specs.Prelude.{Contains, codes}
use Rattle.ps_frame.specs.Aggregates.{max_rows}
use Rattle.ps_frame.specs.Causes.{Cause}
use Rattle.ps_frame.specs.Eval.{eval}
use Rattle.ps_frame.specs.Functions.{Functions}
use Rattle.ps_frame.specs.Parts.{tree_parts}
use Rattle.ps_frame.specs.Tables.{Table, whole}
use Rattle.ps_frame.specs.Trees.{Tree, tree_within}
use Rattle.ps_meaning.specs.Cases.{first_table, Gives, GivesBeforeCut, lost_causes}
use Rattle.plan_laws.specs.Examples.{a_above_one, a_frame, a_table, one, one_input, scan_of}
use Rattle.ps_plan.specs.Graph.{Path, here, onward, inputs_at}
use Rattle.ps_meaning.specs.Meaning.{AllMean, Choice, HasLargeColumn, IsBrokenBy, IsLarge, IsLargeUnder, MayGive, by_case, more_mean, none_mean}
use Rattle.ps_plan.specs.PlanMeanings.{NothingBreaks}
use Rattle.ps_meaning.specs.PlanTrees.{PlanTree, node}
use Rattle.ps_plan.specs.Plans.{plan_within, tree_of}
use Rattle.ps_meaning.specs.Steps.{Step, filter, memory_sink, scan}
use Rattle.plan_laws.specs.Unbroken.{filter_above_one}

abbrev all_rows : Table
all_rows = a_table (1 ∷ 2 ∷ 3 ∷ [])

abbrev kept_rows : Table
kept_rows = a_table (2 ∷ 3 ∷ [])

-- the three nodes, as trees
abbrev scanned : PlanTree
scanned = scan_of 0 (a_frame (1 ∷ 2 ∷ 3 ∷ []))

abbrev filtered : PlanTree
filtered = node 1 (filter a_above_one) (one_input scanned)

abbrev sunk : PlanTree
sunk = node 2 memory_sink (one_input filtered)

-- each table that a node may give, before its slice or after it, is this one
abbrev GivesOnly : Functions → Choice → PlanTree → Table → Type 0
GivesOnly F choice t V = (U : Table) → MayGive F choice t U → U ≡ V

-- a step without a slice that gives one table, and loses no causes
pub once : (F : Functions) (at : ℕ) (step : Step) (ts : List Table) (V U : Table) → ((W : Table) → Gives F at step ts W → W ≡ V) → ((W : Table) → Gives F at step ts W → lost_causes F at step ts W.rows ≡ [])
    → GivesBeforeCut F at step ts U → U ≡ V
once F at step ts V U only none (inl g) = only U g
once F at step ts V U only none (inr l) = absurd (l.2 (none l.0 l.1))

-- the one item of a list
only-one : {A : Type 0} {x y : A} → Contains (x ∷ []) y → x ≡ y
only-one (zero, within, e) = e
only-one (suc k, within, e) = absurd (omega arith)

-- the columns of the predicate and of its parts over the rows
few_cells : (q p : Tree) → q ≡ p → length (eval 1 all_rows q).cells < 4 → max_rows < length (eval 1 all_rows p).cells → ⊥
few_cells q p e h large = let large' : max_rows < length (eval 1 all_rows q).cells = subst (λ p. max_rows < length (eval 1 all_rows p).cells) (sym e) large in omega arith

short_columns : (p : Tree) → Contains (tree_parts a_above_one) p → max_rows < length (eval 1 all_rows p).cells → ⊥
short_columns p (zero, within, e) large = few_cells a_above_one p e (omega arith) large
short_columns p (suc zero, within, e) large = few_cells (Tree.column (codes "a")) p e (omega arith) large
short_columns p (suc (suc zero), within, e) large = few_cells one p e (omega arith) large
short_columns p (suc (suc (suc k)), within, e) large = absurd (omega arith)

module _ (F : Functions) (choice : Choice) where
  scan_before : (Ts : List Table) (U : Table) → GivesBeforeCut F 0 (scan (a_frame (1 ∷ 2 ∷ 3 ∷ [])) None) Ts U → U ≡ all_rows
  scan_before Ts U g = once F 0 (scan (a_frame (1 ∷ 2 ∷ 3 ∷ [])) None) Ts all_rows U (λ W g. g) (λ W g. refl) g

  scan_gives : GivesOnly F choice scanned all_rows
  scan_gives U (inl (by_case none_mean k chosen)) = k.2 ∙ scan_before [] k.0 k.1
  scan_gives U (inr (Ts, all, g, chosen)) = scan_before Ts U g

  filter_before : (Ts : List Table) (U : Table) → AllMean F choice (one_input scanned) Ts → GivesBeforeCut F 1 (filter a_above_one) Ts U → U ≡ kept_rows
  filter_before Ts U (more_mean {T = S} m none_mean) g =
      once F 1 (filter a_above_one) (all_rows ∷ []) kept_rows U (λ W g. g) (λ W g. refl)
      (subst (λ S. GivesBeforeCut F 1 (filter a_above_one) (S ∷ []) U) (scan_gives S (inl m)) g)

  filter_gives : GivesOnly F choice filtered kept_rows
  filter_gives U (inl (by_case {Ts = Ts} all k chosen)) = k.2 ∙ filter_before Ts k.0 all k.1
  filter_gives U (inr (Ts, all, g, chosen)) = filter_before Ts U all g

  sink_before : (Ts : List Table) (U : Table) → AllMean F choice (one_input filtered) Ts → GivesBeforeCut F 2 memory_sink Ts U → U ≡ kept_rows
  sink_before Ts U (more_mean {T = S} m none_mean) g =
      once F 2 memory_sink (kept_rows ∷ []) kept_rows U (λ W g. g) (λ W g. refl)
      (subst (λ S. GivesBeforeCut F 2 memory_sink (S ∷ []) U) (filter_gives S (inl m)) g)

  sink_gives : GivesOnly F choice sunk kept_rows
  sink_gives U (inl (by_case {Ts = Ts} all k chosen)) = k.2 ∙ sink_before Ts k.0 all k.1
  sink_gives U (inr (Ts, all, g, chosen)) = sink_before Ts U all g

  -- no table passes the greatest number of rows, nor does a column of the predicate
  few : (V U : Table) → U ≡ V → length V.rows < 4 → max_rows < length U.rows → ⊥
  few V U e h large = let large' : max_rows < length V.rows = subst (λ U. max_rows < length U.rows) e large in omega arith

  scan_small : IsLargeUnder F choice scanned → ⊥
  scan_small (inl none) = none
  scan_small (inr (inl (U, g, large))) = few all_rows U (scan_gives U g) (omega arith) large
  scan_small (inr (inr (Ts, all, none))) = none

  column_small : (Ts : List Table) → AllMean F choice (one_input scanned) Ts → HasLargeColumn 1 (a_above_one ∷ []) (first_table Ts) → ⊥
  column_small Ts (more_mean {T = S} m none_mean) (e, p, ce, cp, large) =
      short_columns p (subst (λ e. Contains (tree_parts e) p) (sym (only-one ce)) cp)
      (subst (λ S. max_rows < length (eval 1 S p).cells) (scan_gives S (inl m)) large)

  filter_small : IsLargeUnder F choice filtered → ⊥
  filter_small (inl (inl large)) = scan_small large
  filter_small (inl (inr none)) = none
  filter_small (inr (inl (U, g, large))) = few kept_rows U (filter_gives U g) (omega arith) large
  filter_small (inr (inr (Ts, all, large))) = column_small Ts all large

  sink_small : IsLargeUnder F choice sunk → ⊥
  sink_small (inl (inl large)) = filter_small large
  sink_small (inl (inr none)) = none
  sink_small (inr (inl (U, g, large))) = few kept_rows U (sink_gives U g) (omega arith) large
  sink_small (inr (inr (Ts, all, none))) = none

-- nothing breaks a node, and it isn't large
abbrev Unbroken : Functions → PlanTree → Type 0
Unbroken F t = ((c : Cause) → IsBrokenBy F t c → ⊥) × (IsLarge F t → ⊥)

empty-has : {A : Type 0} (x : A) (xs : List A) → xs ≡ [] → Contains xs x → ⊥
empty-has x xs e (k, within, q) = let none : k < 0 = subst (λ xs. k < length xs) e within in omega arith

gives-unbroken : (F : Functions) (t : PlanTree) (V : Table) → V.broken ≡ [] → ((choice : Choice) → GivesOnly F choice t V) → ((choice : Choice) → IsLargeUnder F choice t → ⊥) → Unbroken F t
gives-unbroken F t V whole gives small = ((λ c b. empty-has c b.1.broken (ap (λ U. U.broken) (gives b.0 b.1 b.2) ∙ whole) b.3), (λ l. small l.0 l.1))

-- each reached node is one of the three
pub nothing-breaks : (F : Functions) → NothingBreaks F filter_above_one
unfolding plan_within tree_within
nothing-breaks F n way = at_two n way
  where
    at_zero : (n : ℕ) → Path (inputs_at filter_above_one) 0 n → Unbroken F (tree_of filter_above_one n)
    at_zero n here = gives-unbroken F scanned all_rows refl (scan_gives F) (scan_small F)
    at_zero n (onward (k, within, e) way) = absurd (omega arith)

    at_one : (n : ℕ) → Path (inputs_at filter_above_one) 1 n → Unbroken F (tree_of filter_above_one n)
    at_one n here = gives-unbroken F filtered kept_rows refl (filter_gives F) (filter_small F)
    at_one n (onward {b = b} next way) = at_zero n (subst (λ b. Path (inputs_at filter_above_one) b n) (sym (only-one next)) way)

    at_two : (n : ℕ) → Path (inputs_at filter_above_one) 2 n → Unbroken F (tree_of filter_above_one n)
    at_two n here = gives-unbroken F sunk kept_rows refl (sink_gives F) (sink_small F)
    at_two n (onward {b = b} next way) = at_one n (subst (λ b. Path (inputs_at filter_above_one) b n) (sym (only-one next)) way)
