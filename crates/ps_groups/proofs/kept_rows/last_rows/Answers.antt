use Rattle.std.proofs.Common.{Vec, Global, List, ℕ, get_or, ◌∙◌, sym, ap, arith}
use Rattle.std.specs.Prelude.{not}
use Rattle.std.proofs.lemmas.Bool.{eq-eqb, ne_eqb}
use Rattle.std.proofs.lemmas.Grind.{get_or_default_zero}
use Rattle.ps_keys.proofs.KeptRows.{kept-yes, kept-no}
use Rattle.ps_groups.specs.KeptRows.{comes_again}
use Rattle.ps_groups.proofs.kept_rows.last_rows.Goals as goal
use Rattle.ps_groups.proofs.kept_rows.last_rows.Goals.{then-index-row+in_ok-push, else-index-row}

pub loop-row-preserved : goal.loop-row-preserved
loop-row-preserved c =
    let items : Vec ℕ Global → List ℕ = λ v. v.items in
    let keys = c.args.keys.now in
    let i = c.loop-row.row in
    let lasts = c.in_ok-lasts.lasts.items in
    let are = c.in_ok-lasts.ensures in
    let key = get_or keys i 0 in
    let read = c.index.ensures ∙ get_or_default_zero lasts key c.index.result.now (omega (arith, c.requires i c.loop-row-test.true, are.long)) in
    let test = are.at_last i c.loop-row-test.true in
    elim c.if-index-row.branch [
      | then-index-row+in_ok-push w ↦
          kept-yes (λ j. not (comes_again keys j)) i _ _ c.loop-row.invariant (sym test ∙ eq-eqb (get_or lasts key 0) i (sym read ∙ w.if-index-row.true)) (ap items w.rows-is ∙ w.in_ok-push.ensures.items)
      | else-index-row w ↦
          kept-no (λ j. not (comes_again keys j)) i _ _ c.loop-row.invariant (sym test ∙ ne_eqb (get_or lasts key 0) i (λ e. w.if-index-row.false (read ∙ e))) (ap items w.rows-is)
    ]
