use Rattle.std.proofs.Common.{Vec, Global, List, ℕ, get_or, length, ◌∙◌, sym, ap, arith}
use Rattle.std.specs.Prelude.{◌==◌}
use Rattle.std.proofs.lemmas.Bool.{eq-eqb, ne_eqb}
use Rattle.std.proofs.lemmas.Grind.{get_or_default_zero}
use Rattle.ps_keys.specs.Numbering.{places_of}
use Rattle.ps_keys.proofs.KeptRows.{kept-yes, kept-no}
use Rattle.ps_groups.proofs.kept_rows.single_rows.Goals as goal
use Rattle.ps_groups.proofs.kept_rows.single_rows.Goals.{then-index-eq1+in_ok-push, else-index-eq1}

pub loop-row-preserved : goal.loop-row-preserved
loop-row-preserved c =
    let items : Vec ℕ Global → List ℕ = λ v. v.items in
    let keys = c.args.keys.now in
    let i = c.loop-row.row in
    let counts = c.in_ok-counts.counts.items in
    let are = c.in_ok-counts.ensures in
    let key = get_or keys i 0 in
    let inside = c.requires i c.loop-row-test.true in
    let read = c.index.ensures ∙ get_or_default_zero counts key c.index.result.now (omega (arith, inside, are.long)) ∙ are.each key inside in
    elim c.if-index-eq1.branch [
      | then-index-eq1+in_ok-push w ↦
          kept-yes (λ j. length (places_of (get_or keys j 0) keys) == 1) i _ _ c.loop-row.invariant (eq-eqb (length (places_of key keys)) 1 (sym read ∙ w.if-index-eq1.true)) (ap items w.rows-is ∙ w.in_ok-push.ensures.items)
      | else-index-eq1 w ↦
          kept-no (λ j. length (places_of (get_or keys j 0) keys) == 1) i _ _ c.loop-row.invariant (ne_eqb (length (places_of key keys)) 1 (λ e. w.if-index-eq1.false (read ∙ e))) (ap items w.rows-is)
    ]
