use Rattle.std.proofs.Common.{◌≡◌, ◌<◌, ◌≤◌, ℕ, List, [], length, subst, sym, ◌∙◌, ap, arith}
use Rattle.std.proofs.lemmas.Grind.{common_steps}
use Rattle.std.specs.List.{All}
use Rattle.std.specs.Prelude.{IfOk}
use Rattle.ps_frame.proofs.Gathers.{few-true_rows, kept-true_rows, within-true_rows}
use Rattle.ps_frame.proofs.Masks.{kept-all}
use Rattle.ps_frame.specs.Aggregates.{max_rows}
use Rattle.ps_frame.specs.Gathered.{rows_at}
use Rattle.ps_frame.specs.Tables.{Frame}
use Rattle.ps_frame.specs.declared.value.Value.{Value}
use Rattle.ps_frame.proofs.frame.DataFrame.filter.Goals as goal

pub returns-then-count-height-clause-rows : goal.returns-then-count-height-clause-rows
returns-then-count-height-clause-rows c =
    let all = kept-all c.args.mask.now.values c.args.self.now.rows (sym c.count_true-count.ensures ∙ c.if-count-height.true ∙ c.height.ensures.rows ∙ sym c.requires.height) c.requires.height in
    rw all (grind (arith, common_steps))

pub pick-requires-clause-there : goal.pick-requires-clause-there
pick-requires-clause-there c =
    subst (λ (rows : List ℕ). All (λ i. i < length c.args.self.now.rows) rows) (sym (c.in_ok-rows.ensures.made ∙ c.in_ok-rows_of_true.ensures.chosen))
    (within-true_rows c.args.mask.now.values (length c.args.self.now.rows) c.requires.height)

pub pick-requires-clause-few : goal.pick-requires-clause-few
pick-requires-clause-few c =
    let counted = c.height.ensures.counted in
    let e = c.requires.height in
    let rows = c.height.ensures.rows in
    subst (λ (rows : List ℕ). length rows ≤ max_rows) (sym (c.in_ok-rows.ensures.made ∙ c.in_ok-rows_of_true.ensures.chosen)) (few-true_rows c.args.mask.now.values max_rows (omega arith))

pub returns-clause-rows : goal.returns-clause-rows
returns-clause-rows c =
    let same = ap (λ (places : List ℕ). rows_at places c.args.self.now.rows) (c.in_ok-rows.ensures.made ∙ c.in_ok-rows_of_true.ensures.chosen) ∙ kept-true_rows c.args.mask.now.values c.args.self.now.rows [] c.requires.height in
    subst (λ (rows : List (List Value)). IfOk c.pick.result (λ (f : Frame). f.rows ≡ rows)) same c.pick.ensures.rows
