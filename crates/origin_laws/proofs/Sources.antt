-- What breaks a table comes from the node that gives it, or from an input.
use Rattle.std.proofs.Common.{◌≡◌, ℕ, ◌⊎◌, List, [], ◌∷◌, ◌++◌, sym, subst, inl, inr}
use Rattle.std.specs.Prelude.{Contains}
use Rattle.std.specs.List.{AllByRecursion}
use Rattle.std.proofs.lemmas.List.Elements.{Contains-append_left, Contains-append_right}
use Rattle.ps_frame.specs.Causes.{Cause, column_causes}
use Rattle.ps_frame.specs.Eval.{eval}
use Rattle.ps_frame.specs.Functions.{Functions}
use Rattle.ps_frame.specs.Tables.{IsWhole, Table}
use Rattle.ps_frame.specs.Trees.{Tree}
use Rattle.ps_meaning.specs.Cases.{Case, GivesBeforeCut}
use Rattle.ps_meaning.specs.Shape.{PhysicalBefore, PhysicalNode, as_step, tables_for}
use Rattle.ps_meaning.specs.Steps.{Step}
use Rattle.origin_laws.proofs.Causes.{Each, both, contains_cases, none, none_in_nil}
use Rattle.origin_laws.proofs.Columns.{Holds, causes, eval_holds}
use Rattle.origin_laws.proofs.Steps.{before_holds, case_holds, physical_holds}
use Rattle.origin_laws.specs.Origins.{AreOwnOr, all_broken}

module _ (node : ℕ) (t : Table) (e : Tree) where
  abbrev Known : Cause → Type 0
  Known x = (x.node ≡ node) ⊎ Contains t.broken x

  holds : Holds Known node (λ x o. inl o) (eval node t e)
  holds = eval_holds Known node (λ x o. inl o) t (λ x c. inr c) e

  pub of_expression : AreOwnOr t.broken node (column_causes (eval node t e) ++ (eval node t e).lost)
  of_expression = both Known (column_causes (eval node t e)) (eval node t e).lost (causes Known node (λ x o. inl o) (eval node t e) holds) holds.lost

broken_in : (ts : List Table) (t : Table) → Contains ts t → (x : Cause) → Contains t.broken x → Contains (all_broken ts) x
broken_in [] t c x d = absurd (none_in_nil t c)
broken_in (u ∷ ts) t c x d = by (contains_cases u t ts c) (λ later. broken_in ts t later x d)
  where
    by : (u ≡ t) ⊎ Contains ts t → (Contains ts t → Contains (all_broken ts) x) → Contains (all_broken (u ∷ ts)) x
    by (inl e) rest = Contains-append_left u.broken (all_broken ts) x (subst (λ (v : Table). Contains v.broken x) (sym e) d)
    by (inr later) rest = Contains-append_right u.broken (all_broken ts) x (rest later)

module _ (F : Functions) (at : ℕ) (step : Step) (ts : List Table) (U : Table) where
  abbrev P : Cause → Type 0
  P x = (x.node ≡ at) ⊎ Contains (all_broken ts) x

  inputs : (t : Table) → Contains ts t → Each P t.broken
  inputs t c x d = inr (broken_in ts t c x d)

  pub of_step : GivesBeforeCut F at step ts U → AreOwnOr (all_broken ts) at U.broken
  of_step g = before_holds P at (λ x o. inl o) F ts inputs step U g

  pub of_case : Case F at step ts U → AreOwnOr (all_broken ts) at U.broken
  of_case g = case_holds P at (λ x o. inl o) F ts inputs step U g

each_of : {A : Type 0} (Q : A → Type 0) (xs : List A) (x : A) → AllByRecursion Q xs → Contains xs x → Q x
each_of Q [] x all c = absurd (none_in_nil x c)
each_of Q (y ∷ ys) x all c = by (each_of Q ys x all.1) (contains_cases y x ys c)
  where
    by : (Contains ys x → Q x) → (y ≡ x) ⊎ Contains ys x → Q x
    by rest (inl same) = subst Q same all.0
    by rest (inr later) = rest later

pub of_physical : (F : Functions) (p : PhysicalNode) (ts : List Table) (U : Table) → AllByRecursion IsWhole ts → PhysicalBefore F p (as_step p.kind) (tables_for F p.kind ts) U → (c : Cause) → Contains U.broken c → c.node ≡ p.origin
of_physical F p ts U whole b = physical_holds (λ (x : Cause). x.node ≡ p.origin) F p (λ x o. o) ts (λ t c. subst (Each (λ (x : Cause). x.node ≡ p.origin)) (sym (each_of IsWhole ts t whole c)) (none (λ (x : Cause). x.node ≡ p.origin))) (as_step p.kind) U b
