-- A join that begins to give makes its table.
use Rattle.std.proofs.Common.{◌≡◌, Bool, true, false, ◌&&◌, List, [], ◌∷◌, ◌++◌, Some, ap, append-nil, not, refl, subst, sym, ◌∙◌}
use Rattle.std.specs.List.{AllByRecursion}
use Rattle.made_tables.specs.Joinable.{CanJoin}
use Rattle.bare_nodes.specs.Bare.{bare_node}
use Rattle.bare_nodes.specs.Uncalled.{no_functions}
use Rattle.ps_frame.specs.Tables.{Fields, Frame, Row, Table, whole}
use Rattle.ps_frame.specs.Trees.{IsComplete, Tree}
use Rattle.ps_meaning.specs.Cases.{rows_table}
use Rattle.ps_meaning.specs.Shape.{in_memory_join}
use Rattle.ps_meaning.specs.Steps.{JoinStep}
use Rattle.plain_nodes.proofs.Turning.{begins}
use Rattle.ps_options.specs.declared.options.Options.{Options}
use Rattle.ps_plan.proofs.TypedKinds.{all-left, all-right}
use Rattle.ps_ports.specs.Ports.{Sides}
use Rattle.ps_turns.specs.Progress.{Progress, Stage, is_giving}
use Rattle.ps_turns.specs.Results.{IsMade}
use Rattle.ps_turns.specs.Tables.{whole_tables}
use Rattle.ps_turns.specs.Updates.{Turns, stage_after, starts_giving, stored_tables}

-- two stores of one morsel each have their rows
pub two_tables : (l r : Frame) → whole_tables (l.schema ∷ r.schema ∷ []) ((l.rows ++ []) ∷ (r.rows ++ []) ∷ []) ≡ whole l ∷ whole r ∷ []
two_tables l r = λ i. rows_table l.schema (append-nil l.rows i) ∷ rows_table r.schema (append-nil r.rows i) ∷ []

module _ (o : Options) (j : JoinStep) (s : Fields) (l r : Frame) (given : Sides) (a : Progress) (t : Stage) (is : t ≡ stage_after o (in_memory_join j) a given) where
  pub join_makes : (not (is_giving a.stage) && is_giving t) ≡ true → stored_tables a ≡ (l.rows ++ []) ∷ (r.rows ++ []) ∷ [] → (rs : List Row) → IsMade no_functions (bare_node (in_memory_join j) s) (whole l ∷ whole r ∷ []) rs
      → Turns no_functions o (bare_node (in_memory_join j) s) (l.schema ∷ r.schema ∷ []) given a (record a { stage = t; made = Some rs })
  join_makes starts stored rs made =
      let tables : whole_tables (l.schema ∷ r.schema ∷ []) (stored_tables a) ≡ whole l ∷ whole r ∷ [] = subst (λ (xs : List (List Row)). whole_tables (l.schema ∷ r.schema ∷ []) xs ≡ whole l ∷ whole r ∷ []) (sym stored) (two_tables l r) in
      begins no_functions o (bare_node (in_memory_join j) s) (l.schema ∷ r.schema ∷ []) given a t is starts (record a { made = Some rs })
      (rs, subst (λ (ts : List Table). IsMade no_functions (bare_node (in_memory_join j) s) ts rs) (sym tables) made, refl)

-- the keys of a join that can be made are complete
module _ (j : JoinStep) (l r s : Fields) (can : CanJoin j l r s) where
  pub left_complete : AllByRecursion IsComplete j.left_on
  left_complete = all-left IsComplete j.left_on j.right_on can.fit.1.fit.complete

  pub right_complete : AllByRecursion IsComplete j.right_on
  right_complete = all-right IsComplete j.left_on j.right_on can.fit.1.fit.complete

-- a join that comes into a stage in which it gives starts to give
pub join_starts : (o : Options) (j : JoinStep) (given : Sides) (a : Progress) (t : Stage) → t ≡ stage_after o (in_memory_join j) a given → (not (is_giving a.stage) && is_giving t) ≡ true → (starts_giving o (in_memory_join j) a given && true) ≡ true
join_starts o j given a t is starts = ap (λ u. (not (is_giving a.stage) && is_giving u) && true) (sym is) ∙ and_true (not (is_giving a.stage) && is_giving t) starts
  where
    and_true : (b : Bool) → b ≡ true → (b && true) ≡ true
    and_true true e = refl
    and_true false e = e
